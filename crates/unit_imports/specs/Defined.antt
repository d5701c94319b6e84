-- What forms define, by the numbers of its identifiers.
use Rattle.std.specs.Prelude.{◌≡◌, ℕ, ◌<◌, ◌==◌, List, [], ◌∷◌, length, slice_get, Option, Some, None, if◌then◌else◌}
use Rattle.std.specs.List.{flat_map}
use Rattle.scheme_model.specs.Ident.{Ident as Identifier, Written, Inserted}
use Rattle.scheme_model.specs.Entries as model
use Rattle.syntax_tree.specs.Names.{Names}
use Rattle.syntax_tree.specs.Meant.{AreEntries}
use Rattle.syntax_tree.specs.declared.meaning.Meaning.TheVariants as code
use Rattle.syntax_tree.specs.declared.units.Entry.{Entry}
use Rattle.core_tree.specs.declared.cores.Binder.{Binder}
use Rattle.import_sets.specs.Given.{has_name, place_origin}

-- the symbol of an identifier that is written, and not inserted
abbrev pub written_symbol : Identifier → Option (List ℕ)
written_symbol (Written u s) = Some s
written_symbol (Inserted i k) = None

-- the identifiers of definitions have their numbers
abbrev pub AreKnown : Names → List (ℕ × Binder) → Type 0
AreKnown names bs = (n : ℕ) (b : ℕ × Binder) → slice_get bs n ≡ Some b → b.1.ident < length names.idents

-- the symbol of an identifier that is written in a unit
abbrev pub symbol_in : ℕ → Identifier → Option (List ℕ)
symbol_in unit (Written u s) = if u == unit then Some s else None
symbol_in unit (Inserted i k) = None

-- what a definition can be exported as, by the symbol of its identifier
abbrev pub named_as : ℕ → Binder → Option (List ℕ) → List Entry
named_as unit b None = []
named_as unit b (Some s) = record { name = s; meaning = code.Global unit b.ident; origins = place_origin b.occ } ∷ []

abbrev pub symbol_at : ℕ → Option Identifier → Option (List ℕ)
symbol_at unit None = None
symbol_at unit (Some i) = symbol_in unit i

-- what definitions can be exported as
abbrev pub named_all : Names → ℕ → List (ℕ × Binder) → List Entry
named_all names unit bs = flat_map (λ b. named_as unit b.1 (symbol_at unit (slice_get names.idents b.1.ident))) bs

-- the imported name that an identifier hides, which is written
abbrev pub hidden_in : List Entry → Identifier → Option (List ℕ)
hidden_in es (Written u s) = if has_name es s then Some s else None
hidden_in es (Inserted i k) = None

abbrev pub hidden_at : List Entry → Option Identifier → Option (List ℕ)
hidden_at es None = None
hidden_at es (Some i) = hidden_in es i

-- names that stand for entries among which each name is found
pub record FindsNames (names : Names) (es : List Entry) (find : List ℕ → Option model.Entry) : Type 0 where
  pub stand : List model.Entry
  pub are : AreEntries names es stand
  pub finds : (s : List ℕ) → find s ≡ model.entry_at stand s
