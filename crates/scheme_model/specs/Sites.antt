-- Identifiers where they stand in texts (R7RS 7.1.1), and the one at a place of a text.
use Rattle.std.specs.Prelude.{ℕ, suc, ◌-◌, ◌==◌, nat_le, List, [], ◌∷◌, ◌++◌, map, Bool, false, ◌&&◌, Option, Some, None, if◌then◌else◌}
use Rattle.std.specs.Option.{is_some}
use Rattle.scheme_model.specs.declared.Occ.{Occ}
use Rattle.scheme_model.specs.Data.{Atom, spelled, implied, Datum, atom, list, vector, bytes, Data, none, part, tail, place_of}
use Rattle.scheme_model.specs.Declarations.{UnitForm, leaf_symbol}
use Rattle.scheme_model.specs.Program.{UnitResult}
use Rattle.scheme_model.specs.Diagnostics.{Span, bytes_of}

-- whether an atom is an identifier that its token spells
abbrev pub is_spelled : Atom → Bool
is_spelled (spelled leaf) = is_some (leaf_symbol leaf)
is_spelled (implied mark) = false

-- the tokens of a datum that are identifiers, by their numbers
abbrev mutual
  pub name_tokens : Datum → List ℕ
  name_tokens (atom p a) = if is_spelled a then p.first ∷ [] else []
  name_tokens (list p ds) = name_tokens_all ds
  name_tokens (vector p ds) = name_tokens_all ds
  name_tokens (bytes p bs) = []

  pub name_tokens_all : Data → List ℕ
  name_tokens_all none = []
  name_tokens_all (part d ds) = name_tokens d ++ name_tokens_all ds
  name_tokens_all (tail d) = name_tokens d

-- the identifiers of a form
abbrev pub names_in_form : (unit form : ℕ) → Datum → List Occ
names_in_form unit form d = map (λ n. record { unit = unit; form = form; token = n - (place_of d).first }) (name_tokens d)

-- those of forms that are numbered from one on; what is included stands in another text
abbrev pub names_in_forms : (unit form : ℕ) → List UnitForm → List Occ
names_in_forms unit form [] = []
names_in_forms unit form (f ∷ fs) = (if is_some f.home then [] else names_in_form unit form f.datum) ++ names_in_forms unit (suc form) fs

-- those of the units of a document
abbrev pub names_in_document : (document : ℕ) → List UnitResult → List Occ
names_in_document document [] = []
names_in_document document (r ∷ rs) =
    (if r.unit.placed.document == document then names_in_forms r.unit.number 0 r.unit.forms else []) ++ names_in_document document rs

-- ---- the one at an offset

abbrev pub begins_at : ℕ → Span → Bool
begins_at offset s = s.start == offset

-- the offset is inside, or at an end
abbrev pub touches : ℕ → Span → Bool
touches offset s = nat_le s.start offset && nat_le offset s.end

abbrev pub first_where : {A : Type 0} → (A → Bool) → List A → Option A
first_where f [] = None
first_where f (x ∷ xs) = if f x then Some x else first_where f xs

abbrev pub or_else : {A : Type 0} → Option A → Option A → Option A
or_else None other = other
or_else (Some x) other = Some x

-- the identifier that begins at an offset of a document, or else one that it is inside of or at the end of
abbrev pub name_at : List (List Span) → List UnitResult → (document offset : ℕ) → Option Occ
name_at spans us document offset =
    let names = names_in_document document us in
    or_else (first_where (λ o. begins_at offset (bytes_of spans us o).span) names) (first_where (λ o. touches offset (bytes_of spans us o).span) names)
