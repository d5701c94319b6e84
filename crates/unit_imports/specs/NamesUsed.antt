-- The identifiers of imports and exports that were found so far (R7RS 5.2, 5.6.1).
use Rattle.std.specs.Prelude.{◌≡◌, ℕ, List, [], ◌∷◌, ◌++◌, Bool, true, false, Option, Some, None, Result, Ok, Err, if◌then◌else◌}
use Rattle.scheme_model.specs.Ident.{Written}
use Rattle.scheme_model.specs.Entries as model
use Rattle.scheme_model.specs.ExpansionFaults.{Named}
use Rattle.scheme_model.specs.Meaning.{Meaning}
use Rattle.scheme_model.specs.Live.{NameUse, meaning_or, origins_or}
use Rattle.scheme_model.specs.Program.{ExportSpec}
use Rattle.syntax_tree.specs.Names.{Names}
use Rattle.syntax_tree.specs.Macros.{IsIdent}
use Rattle.syntax_tree.specs.declared.meaning.Meaning as code_meaning
use Rattle.syntax_tree.specs.declared.units.Origin.{Origin}
use Rattle.core_tree.specs.Names.{AllMatch}
use Rattle.core_tree.specs.Units.{IsName}
use Rattle.core_tree.specs.declared.units.NameUse as code_name
use Rattle.import_sets.specs.declared.set.SetName.{SetName}
use Rattle.import_sets.specs.declared.fault.ImportFault.{ImportFault}
use Rattle.unit_imports.specs.declared.names.Identifiers as code

-- the identifiers of a unit, with more behind them that stand for these
pub record AddsNames (names : Names) (old new : code.Identifiers) (ms : List NameUse) : Type 0 where
  pub unit : new.unit ≡ old.unit
  pub more : List code_name.NameUse
  pub added : new.uses.items ≡ old.uses.items ++ more
  pub are : AllMatch (IsName names old.unit) more ms

-- one was added, with this meaning and what spells it
pub record AddsName (names : Names) (old new : code.Identifiers) (name : SetName) (meaning : code_meaning.Meaning) (origins : List Origin) : Type 0 where
  pub unit : new.unit ≡ old.unit
  pub ident : ℕ
  pub added : new.uses.items ≡ old.uses.items ++ record { target = record { meaning = meaning; ident = ident; occ = name.occ }; origins = origins } ∷ []
  pub is : IsIdent names ident (Written old.unit name.name)

-- ---- what each identifier is

-- an identifier that spells itself
abbrev pub own_use : Meaning → Named (List ℕ) → NameUse
own_use m n = record { meaning = m; symbol = n.name; occ = n.occ; origins = model.place_origin n.occ }

-- the identifier that is exported
abbrev pub inner_use : Option model.Entry → Named (List ℕ) → NameUse
inner_use e n = record { meaning = meaning_or e n.name; symbol = n.name; occ = n.occ; origins = origins_or e }

-- the external name of an export, if that gives something
abbrev pub external_use : Option model.Entry → ExportSpec → List NameUse
external_use None x = []
external_use (Some e) x = record { meaning = e.meaning; symbol = x.outer.name; occ = x.outer.occ; origins = if x.renamed then model.place_origin x.outer.occ else e.origins } ∷ []

abbrev pub external_uses : (List ℕ → Option model.Entry) → List ExportSpec → List NameUse
external_uses find [] = []
external_uses find (x ∷ xs) = external_use (find x.inner.name) x ++ external_uses find xs

-- what an export adds of it: nothing where an earlier export has its external name
abbrev pub external_adds : Bool → Option model.Entry → ExportSpec → List NameUse
external_adds true o x = []
external_adds false o x = external_use o x

-- what is given, unless there is a fault
abbrev pub unless_fault : {A : Type 0} → Result A ImportFault → Option A
unless_fault (Ok a) = Some a
unless_fault (Err e) = None
