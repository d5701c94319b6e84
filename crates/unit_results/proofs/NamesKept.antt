-- Definitions and names stand for the same once names are added.
use Rattle.std.proofs.Common.{ℕ, List, [], ◌∷◌}
use Rattle.scheme_model.specs.Program.{ExportSpec}
use Rattle.scheme_model.specs.Substitution.{Defined}
use Rattle.scheme_model.specs.Ident.{Written}
use Rattle.scheme_model.specs.Live.{NameUse}
use Rattle.syntax_tree.specs.Names.{Names, KeepsNames}
use Rattle.core_tree.specs.Names.{AllMatch}
use Rattle.core_tree.specs.Units.{IsDefinition, AreDefinitions, IsName, IsExternal, AreNames}
use Rattle.core_tree.specs.declared.cores.Binder.{Binder}
use Rattle.core_tree.specs.declared.units.NameUse as code
use Rattle.unit_imports.proofs.MeaningLaws.{meaning_kept}

match_kept : {X Y : Type 0} (R S : X → Y → Type 0) → ((x : X) (y : Y) → R x y → S x y) → (xs : List X) (ys : List Y) → AllMatch R xs ys → AllMatch S xs ys
match_kept R S on [] [] h = tt
match_kept R S on [] (y ∷ ys) h = absurd h
match_kept R S on (x ∷ xs) [] h = absurd h
match_kept R S on (x ∷ xs) (y ∷ ys) h = (on x y h.0, match_kept R S on xs ys h.1)

module _ (old new : Names) (names : KeepsNames old new) where
  definition_kept : (number : ℕ) (b : ℕ × Binder) (d : Defined) → IsDefinition old number b d → IsDefinition new number b d
  definition_kept number b d h = record { form = h.form; number_is = h.number_is; ident = names.idents b.1.ident d.ident h.ident; place = h.place }

  pub definitions_kept : (bs : List (ℕ × Binder)) (ds : List Defined) → AreDefinitions old bs ds → AreDefinitions new bs ds
  definitions_kept [] [] h = tt
  definitions_kept [] (d ∷ ds) h = absurd h
  definitions_kept (b ∷ bs) [] h = absurd h
  definitions_kept (b ∷ bs) (d ∷ ds) h = (definition_kept _ b d h.0, definitions_kept bs ds h.1)

  name_kept : (unit : ℕ) (n : code.NameUse) (m : NameUse) → IsName old unit n m → IsName new unit n m
  name_kept unit n m h = record {
    meaning = λ u f. meaning_kept old new names u f n.target.meaning m.meaning (h.meaning u f);
    ident = names.idents n.target.ident (Written unit m.symbol) h.ident;
    place = h.place;
    origins = h.origins;
  }

  external_kept : (unit : ℕ) (n : code.NameUse) (x : ExportSpec) → IsExternal old unit n x → IsExternal new unit n x
  external_kept unit n x h = record { ident = names.idents n.target.ident (Written unit x.outer.name) h.ident; place = h.place }

  pub names_kept : (unit : ℕ) (cs : List code.NameUse) (ms : List NameUse) (xs : List ExportSpec) → AreNames old unit cs ms xs → AreNames new unit cs ms xs
  names_kept unit cs ms xs h = record {
    told = h.told;
    match = match_kept (IsName old unit) (IsName new unit) (name_kept unit) cs h.told h.match;
    same = h.same;
    front = h.front;
    last = h.last;
    parted = h.parted;
    external = match_kept (IsExternal old unit) (IsExternal new unit) (external_kept unit) h.last xs h.external;
  }
