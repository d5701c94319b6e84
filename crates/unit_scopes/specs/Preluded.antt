-- The prelude's unit (R7RS 4.2, 7.3): it imports all standard names, and its macros are added from the last to the first.
use Rattle.std.specs.Prelude.{◌≡◌, ℕ, ◌+◌, List, [], ◌∷◌, Bool, true, false, Option, Some, None, if◌then◌else◌}
use Rattle.std.specs.BTreeMap.{BTreeMap, get, btree_map_len}
use Rattle.std.specs.Ordering.{nat_cmp, is_eq}
use Rattle.scheme_model.specs.Ident.{Ident as Identifier, Written}
use Rattle.scheme_model.specs.Meaning.{Meaning, Standard}
use Rattle.scheme_model.specs.Prelude.{PreludeMacro}
use Rattle.scheme_model.specs.Program.{prelude_unit, prelude_entry, prelude_meaning, is_standard}
use Rattle.scheme_model.specs.RulesShape.{Rules, rules_parts}
use Rattle.scheme_model.specs.Trees.{proper}
use Rattle.scheme_model.specs.Substitution.{defined_in}
use Rattle.scheme_model.specs.ScopedExpansion.{ScopedState}
use Rattle.scheme_model.specs.ScopedProgram.{ScopedProgress, prelude_rules}
use Rattle.syntax_tree.specs.Meant.{IsSymbol}
use Rattle.syntax_tree.specs.declared.trees.Work.{Work}
use Rattle.syntax_tree.specs.declared.meaning.Meaning.TheVariants.{Global}
use Rattle.unit_scopes.specs.Macros.{numbered, Keeps}
use Rattle.unit_scopes.specs.Opened.{started, nothing_yet}
use Rattle.unit_scopes.specs.Stepped.{with_definition, with_macros}
use Rattle.unit_scopes.specs.Units.{UnitStands}
use Rattle.unit_scopes.specs.declared.macros.Macro.{Macro}
use Rattle.unit_scopes.specs.declared.macros.Macros.{Macros}
use Rattle.unit_scopes.specs.declared.scope.UnitScope.{UnitScope}

-- each standard name as itself
abbrev pub standard_names : List ℕ → Option Meaning
standard_names x = if is_standard x then Some (Standard x) else None

-- ---- its states

abbrev pub prelude_begun : ScopedState
prelude_begun = started prelude_unit false prelude_entry nothing_yet

-- with a macro more, as what its name means there
abbrev pub prelude_with : List ℕ → Rules Identifier → ScopedState → ScopedState
prelude_with x r s = record s {
  table = if is_standard x then s.table else record { unit = prelude_unit; form = 0; ident = Written prelude_unit x; keyword = true; occ = None } ∷ s.table;
  macros = record { meaning = prelude_meaning x; frames = []; rules = r } ∷ s.macros;
}

-- with these macros
abbrev pub prelude_state : List PreludeMacro → ScopedState
prelude_state [] = prelude_begun
prelude_state (m ∷ ms) = prelude_with m.name (prelude_rules (rules_parts m.parts proper)) (prelude_state ms)

-- no other unit was begun
pub record IsPrelude (s : ScopedState) : Type 0 where
  pub unit : s.unit ≡ prelude_unit
  pub form : s.form ≡ 0
  pub entry : s.entry ≡ prelude_entry
  pub places : s.places ≡ []
  pub definitions : s.definitions ≡ []

-- a macro of this name can be added: it is in the unit's own scope, and has no definition yet
pub record CanAdd (work : Work) (u : UnitScope) (name : ℕ) : Type 0 where
  pub state : ScopedState
  pub text : List ℕ
  pub stands : UnitStands work u ([] ∷ []) state []
  pub is : IsPrelude state
  pub spelt : IsSymbol work.symbols name text
  pub undefined : defined_in state.table prelude_unit (Written prelude_unit text) ≡ None

-- it has what the units so far have left
pub record Continues (s : ScopedState) (g : ScopedProgress) : Type 0 where
  pub table : s.table ≡ g.table
  pub macros : s.macros ≡ g.macros
  pub places : s.places ≡ g.places
  pub definitions : s.definitions ≡ g.definitions
  pub entry : s.entry ≡ g.entry

-- ---- a step of the code

-- the unit defines an identifier as a macro
pub record AddsMacro (old new : UnitScope) (ident : ℕ) (k : Macro) : Type 0 where
  pub defined : BTreeMap ℕ Bool
  pub macros : Macros
  pub after : new ≡ with_macros (with_definition old ident defined) macros
  pub put : (n : ℕ) → get nat_cmp defined n ≡ (if is_eq (nat_cmp ident n) then Some true else get nat_cmp old.defined n)
  pub more : btree_map_len defined ≡ btree_map_len old.defined + 1
  pub keeps : Keeps old.macros macros 0 (Global old.unit ident) (numbered k (old.macros.editions + 1))
