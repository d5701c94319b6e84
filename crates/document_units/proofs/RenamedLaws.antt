-- An export stands under another name where its two identifiers stand at two places, as they were read from two tokens.
use Rattle.std.proofs.Common.{◌≡◌, ℕ, suc, ◌-◌, ◌≤◌, ◌<◌, Bool, true, false, List, [], ◌∷◌, ◌++◌, Option, Some, None, refl, arith}
use Rattle.std.specs.Prelude.{codes, not, ◌&&◌, ◌==◌}
use Rattle.std.proofs.lemmas.Bool.Decides.{nat_tests}
use Rattle.scheme_model.specs.declared.Home.{Home}
use Rattle.scheme_model.specs.declared.Occ.{Occ}
use Rattle.scheme_model.specs.Kinds.{Name, Numeral, Quoted, Character, Truth}
use Rattle.scheme_model.specs.Trees.{Tree, placed_in, placed_by}
use Rattle.scheme_model.specs.Trees as trees
use Rattle.scheme_model.specs.Data.{spelled, implied, Datum, atom, list, vector, bytes, Data, none, part, tail, place_of}
use Rattle.scheme_model.specs.DataTrees.{tree_of, parts_of, end_of}
use Rattle.scheme_model.specs.Entries.{same_occ}
use Rattle.scheme_model.specs.Declarations.{UnitForm, home_or, home_of, is_headed, list_parts, proper_parts}
use Rattle.scheme_model.specs.Program.{ExportSpec, behind_first, export_of, exports_with, exports_in, exports_from}
use Rattle.import_sets.specs.Given.{same_place}
use Rattle.datum_reader.specs.WellFormed.{WasRead}
use Rattle.read_documents.specs.WereRead.{IsInHome}
use Rattle.document_units.proofs.RisingParts.{Inner, Rise, read_rises}

-- two identifiers stand at two places exactly where an export is renamed
abbrev pub TellRenamed : List ExportSpec → Type 0
TellRenamed [] = Unit {0}
TellRenamed (x ∷ xs) = (not (same_place x.inner.occ x.outer.occ) ≡ x.renamed) × TellRenamed xs

both : (xs ys : List ExportSpec) → TellRenamed xs → TellRenamed ys → TellRenamed (xs ++ ys)
both [] ys h k = k
both (x ∷ xs) ys h k = (h.0, both xs ys h.1 k)

-- ---- places

two_places : (unit form first m n : ℕ) → first ≤ m → m < n → not (same_occ (placed_in unit form first m) (placed_in unit form first n)) ≡ true
two_places unit form first m n h lt =
    let less : m - first < n - first = omega (arith, h, lt) in
    let u : (unit == unit) ≡ true = grind (arith, nat_tests) in
    let f : (form == form) ≡ true = grind (arith, nat_tests) in
    let t : (m - first == n - first) ≡ false = grind (arith, nat_tests, less) in
    λ j. not (u j && (f j && t j))

one_place : (o : Occ) → not (same_occ o o) ≡ false
one_place o =
    let u : (o.unit == o.unit) ≡ true = grind (arith, nat_tests) in
    let f : (o.form == o.form) ≡ true = grind (arith, nat_tests) in
    let t : (o.token == o.token) ≡ true = grind (arith, nat_tests) in
    λ j. not (u j && (f j && t j))

-- ---- one export

renamed_in : (number : ℕ) (home : Home) (low : ℕ) (o : Option Occ) (ds : Data) → Rise low ds → home.first ≤ low →
    TellRenamed (export_of number (trees.list (parts_of (λ s. s) (placed_by home) ds) (end_of (λ s. s) (placed_by home) ds) o))
renamed_in number home low o none rise le = tt
renamed_in number home low o (tail r) rise le = tt
renamed_in number home low o (part r none) rise le = tt
renamed_in number home low o (part r (tail a)) rise le = tt
renamed_in number home low o (part r (part (atom p (spelled (Numeral s))) ds)) rise le = tt
renamed_in number home low o (part r (part (atom p (spelled (Quoted s))) ds)) rise le = tt
renamed_in number home low o (part r (part (atom p (spelled (Character s))) ds)) rise le = tt
renamed_in number home low o (part r (part (atom p (spelled (Truth s))) ds)) rise le = tt
renamed_in number home low o (part r (part (list p s) ds)) rise le = tt
renamed_in number home low o (part r (part (vector p s) ds)) rise le = tt
renamed_in number home low o (part r (part (bytes p s) ds)) rise le = tt
renamed_in number home low o (part r (part (atom p (spelled (Name s b))) none)) rise le = tt
renamed_in number home low o (part r (part (atom p (spelled (Name s b))) (tail e))) rise le = tt
renamed_in number home low o (part r (part (atom p (spelled (Name s b))) (part (atom p2 (spelled (Numeral s2))) ds))) rise le = tt
renamed_in number home low o (part r (part (atom p (spelled (Name s b))) (part (atom p2 (spelled (Quoted s2))) ds))) rise le = tt
renamed_in number home low o (part r (part (atom p (spelled (Name s b))) (part (atom p2 (spelled (Character s2))) ds))) rise le = tt
renamed_in number home low o (part r (part (atom p (spelled (Name s b))) (part (atom p2 (spelled (Truth s2))) ds))) rise le = tt
renamed_in number home low o (part r (part (atom p (spelled (Name s b))) (part (list p2 s2) ds))) rise le = tt
renamed_in number home low o (part r (part (atom p (spelled (Name s b))) (part (vector p2 s2) ds))) rise le = tt
renamed_in number home low o (part r (part (atom p (spelled (Name s b))) (part (bytes p2 s2) ds))) rise le = tt
renamed_in number home low o (part r (part (atom p (spelled (Name s b))) (part (atom p2 (spelled (Name s2 b2))) ds))) rise le = (two_places home.unit home.form home.first p.first p2.first (omega (arith, rise.0, rise.1.1.1.0, le)) (omega (arith, rise.1.1.1.1.1.1.0)), tt)
renamed_in number home low o (part r (part (atom p (spelled (Name s b))) (part (atom p2 (implied s2)) ds))) rise le = (refl, tt)
renamed_in number home low o (part r (part (atom p (implied s)) none)) rise le = tt
renamed_in number home low o (part r (part (atom p (implied s)) (tail b))) rise le = tt
renamed_in number home low o (part r (part (atom p (implied s)) (part (atom p2 (spelled (Numeral s2))) ds))) rise le = tt
renamed_in number home low o (part r (part (atom p (implied s)) (part (atom p2 (spelled (Quoted s2))) ds))) rise le = tt
renamed_in number home low o (part r (part (atom p (implied s)) (part (atom p2 (spelled (Character s2))) ds))) rise le = tt
renamed_in number home low o (part r (part (atom p (implied s)) (part (atom p2 (spelled (Truth s2))) ds))) rise le = tt
renamed_in number home low o (part r (part (atom p (implied s)) (part (list p2 s2) ds))) rise le = tt
renamed_in number home low o (part r (part (atom p (implied s)) (part (vector p2 s2) ds))) rise le = tt
renamed_in number home low o (part r (part (atom p (implied s)) (part (bytes p2 s2) ds))) rise le = tt
renamed_in number home low o (part r (part (atom p (implied s)) (part (atom p2 (spelled (Name s2 b2))) ds))) rise le = (refl, tt)
renamed_in number home low o (part r (part (atom p (implied s)) (part (atom p2 (implied s2)) ds))) rise le = absurd rise.1.1.1.1.1.0

renamed_one : (number : ℕ) (home : Home) (d : Datum) → home.first ≤ (place_of d).first → Inner d → TellRenamed (export_of number (tree_of (λ s. s) (placed_by home) d))
renamed_one number home (atom p (spelled (Name s b))) le h = (one_place (placed_by home p.first), tt)
renamed_one number home (atom p (spelled (Numeral s))) le h = tt
renamed_one number home (atom p (spelled (Quoted s))) le h = tt
renamed_one number home (atom p (spelled (Character s))) le h = tt
renamed_one number home (atom p (spelled (Truth s))) le h = tt
renamed_one number home (atom p (implied s)) le h = (refl, tt)
renamed_one number home (list p ds) le h = renamed_in number home p.first (Some (placed_by home p.first)) ds h le
renamed_one number home (vector p ds) le h = tt
renamed_one number home (bytes p s) le h = tt

-- ---- the exports of forms

abbrev EachRises : ℕ → List Datum → Type 0
EachRises low [] = Unit {0}
EachRises low (d ∷ ds) = (low ≤ (place_of d).first) × (Inner d × EachRises low ds)

abbrev PartsRise : ℕ → Option (List Datum) → Type 0
PartsRise low None = Unit {0}
PartsRise low (Some ds) = EachRises low ds

each_lower : (low high : ℕ) (ds : List Datum) → low ≤ high → EachRises high ds → EachRises low ds
each_lower low high [] h a = tt
each_lower low high (d ∷ ds) h a = (omega (arith, h, a.0), (a.1.0, each_lower low high ds h a.1.1))

parts_rise : (low : ℕ) (ds : Data) → Rise low ds → PartsRise low (proper_parts ds)
parts_rise low none h = tt
parts_rise low (tail d) h = tt
parts_rise low (part d ds) h = go (proper_parts ds) refl (parts_rise (suc (place_of d).first) ds h.1.1.1)
  where
    go : (q : Option (List Datum)) → proper_parts ds ≡ q → PartsRise (suc (place_of d).first) q → PartsRise low (proper_parts (part d ds))
    go None e k = rw e tt
    go (Some es) e k = rw e (h.0, (h.1.0, each_lower low (suc (place_of d).first) es (omega (arith, h.0)) k))

behind_rise : (low : ℕ) (q : Option (List Datum)) → PartsRise low q → EachRises low (behind_first q)
behind_rise low None h = tt
behind_rise low (Some []) h = tt
behind_rise low (Some (d ∷ ds)) h = h.1.1

datum_rises : (d : Datum) → Inner d → EachRises (place_of d).first (behind_first (list_parts d))
datum_rises (atom p a) h = tt
datum_rises (list p ds) h = behind_rise p.first (proper_parts ds) (parts_rise p.first ds h)
datum_rises (vector p ds) h = tt
datum_rises (bytes p s) h = tt

all_with : (number : ℕ) (home : Home) (ds : List Datum) → EachRises home.first ds → TellRenamed (exports_with number home ds)
all_with number home [] h = tt
all_with number home (d ∷ ds) h = both (export_of number (tree_of (λ s. s) (placed_by home) d)) (exports_with number home ds) (renamed_one number home d h.0 h.1.0) (all_with number home ds h.1.1)

first_true : (a b : Bool) → (a && b) ≡ true → a ≡ true
first_true true b h = refl
first_true false b h = h

home_before : (unit form : ℕ) (d : Datum) (o : Option Home) → IsInHome o d → (home_or unit form d o).first ≤ (place_of d).first
home_before unit form d None h = omega arith
home_before unit form d (Some home) h = h

all_in : (unit form : ℕ) (f : UnitForm) → (f.declared ≡ true → WasRead f.datum) → IsInHome f.home f.datum → (b : Bool) → (f.declared && is_headed (codes "export") f.datum) ≡ b → TellRenamed (exports_in unit form f)
all_in unit form f w at true e =
    let home = home_of unit form f in
    let ds = behind_first (list_parts f.datum) in
    let rises = datum_rises f.datum (read_rises f.datum (w (first_true f.declared (is_headed (codes "export") f.datum) e))) in
    rw e (all_with form home ds (each_lower home.first (place_of f.datum).first ds (home_before unit form f.datum f.home at) rises))
all_in unit form f w at false e = rw e tt

-- the declarations among forms were read
abbrev pub AreDeclaredRead : List UnitForm → Type 0
AreDeclaredRead [] = Unit {0}
AreDeclaredRead (f ∷ fs) = ((f.declared ≡ true → WasRead f.datum) × IsInHome f.home f.datum) × AreDeclaredRead fs

pub renamed_from : (unit form : ℕ) (fs : List UnitForm) → AreDeclaredRead fs → TellRenamed (exports_from unit form fs)
renamed_from unit form [] h = tt
renamed_from unit form (f ∷ fs) h = both (exports_in unit form f) (exports_from unit (suc form) fs) (all_in unit form f h.0.0 h.0.1 (f.declared && is_headed (codes "export") f.datum) refl) (renamed_from unit (suc form) fs h.1)
