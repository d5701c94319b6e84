-- Where each expansion begins: what the prelude's unit imports (R7RS Appendix A), and the editions of its macros.
use Rattle.std.specs.Prelude.{◌≡◌, ◌==◌, ◌+◌, ◌≤◌, List, [], ◌∷◌, ◌++◌, length, ℕ, Option, Some, None, if◌then◌else◌}
use Rattle.scheme_model.specs.Ident.{Ident as Identifier}
use Rattle.scheme_model.specs.Order.{Transformer}
use Rattle.scheme_model.specs.Prelude.{PreludeMacro, prelude}
use Rattle.scheme_model.specs.RulesShape.{rules_parts}
use Rattle.scheme_model.specs.ScopedExpansion.{Frames}
use Rattle.scheme_model.specs.ScopedProgram.{prelude_rules}
use Rattle.scheme_model.specs.Trees.{proper}
use Rattle.syntax_tree.specs.Names.{Names}
use Rattle.syntax_tree.specs.Meant.{IsSymbol}
use Rattle.syntax_tree.specs.declared.meaning.Meaning.TheVariants.{Standard}
use Rattle.syntax_tree.specs.declared.units.Entry.{Entry}
use Rattle.core_tree.specs.Names.{AllMatch}
use Rattle.unit_scopes.specs.Opened.{AreNumbered, ImportsFor}
use Rattle.unit_scopes.specs.Preluded.{standard_names}
use Rattle.unit_scopes.specs.declared.scope.Imported.{Imported}

-- a standard name, with itself as its meaning
pub record IsStandardName (names : Names) (x : Imported) (s : List ℕ) : Type 0 where
  pub symbol : IsSymbol names x.symbol s
  pub meaning : x.meaning ≡ Standard x.symbol

-- these names were added
pub record AddsStandard (names : Names) (old new : List Imported) (ss : List (List ℕ)) : Type 0 where
  pub more : List Imported
  pub added : new ≡ old ++ more
  pub are : AllMatch (IsStandardName names) more ss

-- all standard names, and nothing else
pub record AreStandard (names : Names) (xs : List Imported) : Type 0 where
  pub numbered : AreNumbered names xs
  pub imports : ImportsFor names xs standard_names

-- what an entry gives: its name and its meaning
pub record IsImport (names : Names) (x : Imported) (e : Entry) : Type 0 where
  pub symbol : IsSymbol names x.symbol e.name
  pub meaning : x.meaning ≡ e.meaning

-- ---- the editions of its macros

-- the rules by their editions: the last macro has the first edition, and 0 tells that there are none
abbrev pub rules_by_edition : List PreludeMacro → ℕ → Option (Transformer Frames Identifier)
rules_by_edition [] n = None
rules_by_edition (m ∷ ms) n = if n == length ms + 1 then Some (record { env = []; rules = prelude_rules (rules_parts m.parts proper) }) else rules_by_edition ms n

-- editions of the session that begin with those of the prelude
abbrev pub BeginsWith : (ℕ → Option (Transformer Frames Identifier)) → Type 0
BeginsWith editions = (n : ℕ) → n ≤ length prelude → editions n ≡ rules_by_edition prelude n
