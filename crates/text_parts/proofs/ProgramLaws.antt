-- The numbers of programs, counted on.
use Rattle.std.proofs.Common.{◌≡◌, ℕ, zero, suc, ◌+◌, ◌≤◌, ◌<◌, List, [], ◌∷◌, ◌++◌, map, filter, length, take, get_or, Bool, true, false, not, refl, sym, ap, ◌∙◌, arith, add-one, if◌then◌else◌}
use Rattle.std.specs.Prelude.{nat_lt, min}
use Rattle.std.proofs.lemmas.Bool.Decides.{nat_tests}
use Rattle.std.proofs.lemmas.List.{take_more, map-append}
use Rattle.scheme_model.specs.Data.{Datum}
use Rattle.scheme_model.specs.Declarations.{is_library}
use Rattle.scheme_model.specs.Includes.{Document, data_of, document_at, has_program, max_units, program_data, program_number, unit_count}
use Rattle.datum_reader.specs.declared.datum.Datum as code
use Rattle.datum_reader.specs.Views as seen
use Rattle.text_parts.specs.declared.programs.ProgramPlace.{ProgramPlace}
use Rattle.text_parts.specs.Programs.{units_in, IsProgramPlace}

-- ---- data

one_more : (ds : List code.Datum) (i : ℕ) (d : code.Datum) → i < length ds → d ≡ get_or ds i d → seen.data_of (take (i + 1) ds) ≡ seen.data_of (take i ds) ++ seen.datum_of d ∷ []
one_more ds i d lt is =
    ap seen.data_of (take_more ds i d lt) ∙ map-append seen.datum_of (take i ds) (get_or ds i d ∷ []) ∙ ap (λ (x : code.Datum). seen.data_of (take i ds) ++ seen.datum_of x ∷ []) (sym is)

filter_one : (p : Datum → Bool) (xs : List Datum) (x : Datum) (b : Bool) → p x ≡ b → filter p (xs ++ x ∷ []) ≡ filter p xs ++ (if b then x ∷ [] else [])
filter_one p [] x b e = ap (λ c. if c then x ∷ [] else []) e
filter_one p (y ∷ xs) x b e = go (p y) (filter_one p xs x b e)
  where
    go : (c : Bool) → filter p (xs ++ x ∷ []) ≡ filter p xs ++ (if b then x ∷ [] else []) → (if c then y ∷ filter p (xs ++ x ∷ []) else filter p (xs ++ x ∷ [])) ≡ (if c then y ∷ filter p xs else filter p xs) ++ (if b then x ∷ [] else [])
    go true rest = ap (λ q. y ∷ q) rest
    go false rest = rest

length_one : (xs : List Datum) (x : Datum) → length (xs ++ x ∷ []) ≡ length xs + 1
length_one [] x = refl
length_one (y ∷ xs) x = let rest = length_one xs x in omega arith

no_more : (xs : List Datum) → length (xs ++ []) ≡ length xs
no_more [] = refl
no_more (x ∷ xs) = ap (λ n. suc n) (no_more xs)

-- one library more, or none
pub library_more : (ds : List code.Datum) (i : ℕ) (d : code.Datum) → i < length ds → d ≡ get_or ds i d → is_library (seen.datum_of d) ≡ true →
    length (filter is_library (seen.data_of (take i ds))) + 1 ≡ length (filter is_library (seen.data_of (take (i + 1) ds)))
library_more ds i d lt is e =
    sym (ap (λ xs. length (filter is_library xs)) (one_more ds i d lt is) ∙ ap length (filter_one is_library (seen.data_of (take i ds)) (seen.datum_of d) true e)
    ∙ length_one (filter is_library (seen.data_of (take i ds))) (seen.datum_of d))

pub library_past : (ds : List code.Datum) (i : ℕ) (d : code.Datum) → i < length ds → d ≡ get_or ds i d → is_library (seen.datum_of d) ≡ false →
    length (filter is_library (seen.data_of (take i ds))) ≡ length (filter is_library (seen.data_of (take (i + 1) ds)))
library_past ds i d lt is e =
    sym (ap (λ xs. length (filter is_library xs)) (one_more ds i d lt is) ∙ ap length (filter_one is_library (seen.data_of (take i ds)) (seen.datum_of d) false e)
    ∙ no_more (filter is_library (seen.data_of (take i ds))))

-- a datum that is no library
pub program_here : (ds : List code.Datum) (i : ℕ) (d : code.Datum) → i < length ds → d ≡ get_or ds i d → is_library (seen.datum_of d) ≡ false → true ≡ has_program (seen.data_of ds)
program_here [] i d lt is e = absurd (omega arith)
program_here (x ∷ ds) zero d lt is e = go (is_library (seen.datum_of x)) (ap (λ (y : code.Datum). is_library (seen.datum_of y)) (sym is) ∙ e)
  where
    go : (b : Bool) → b ≡ false → true ≡ nat_lt 0 (length (if not b then seen.datum_of x ∷ program_data (seen.data_of ds) else program_data (seen.data_of ds)))
    go true f = absurd cc
    go false f = grind (arith, nat_tests)
program_here (x ∷ ds) (suc i) d lt is e = go (not (is_library (seen.datum_of x))) (program_here ds i d (omega arith) is e)
  where
    go : (b : Bool) → true ≡ has_program (seen.data_of ds) → true ≡ nat_lt 0 (length (if b then seen.datum_of x ∷ program_data (seen.data_of ds) else program_data (seen.data_of ds)))
    go true rest = grind (arith, nat_tests)
    go false rest = rest

-- data that are all libraries
pub no_program : (ds : List code.Datum) → ((i : ℕ) (d : code.Datum) → i < length ds → is_library (seen.datum_of (get_or ds i d)) ≡ true) → false ≡ has_program (seen.data_of ds)
no_program [] h = grind (arith, nat_tests)
no_program (x ∷ ds) h = go (is_library (seen.datum_of x)) (h 0 x (omega arith)) (no_program ds (λ i d lt. h (suc i) d (omega arith)))
  where
    go : (b : Bool) → b ≡ true → false ≡ has_program (seen.data_of ds) → false ≡ nat_lt 0 (length (if not b then seen.datum_of x ∷ program_data (seen.data_of ds) else program_data (seen.data_of ds)))
    go true f rest = rest
    go false f rest = absurd cc

-- ---- documents

number_at : (ds : List Document) (i : ℕ) → i < length ds → program_number ds i ≡ units_in (take i ds) + length (filter is_library (data_of (document_at ds i)))
number_at [] i lt = absurd (omega arith)
number_at (d ∷ ds) zero lt = omega arith
number_at (d ∷ ds) (suc i) lt = let rest = number_at ds i (omega arith) in omega arith

units_next : (ds : List Document) (i : ℕ) → i < length ds → units_in (take (suc i) ds) ≡ units_in (take i ds) + unit_count (data_of (document_at ds i))
units_next [] i lt = absurd (omega arith)
units_next (d ∷ ds) zero lt = omega arith
units_next (d ∷ ds) (suc i) lt = let rest = units_next ds i (omega arith) in omega arith

-- the number of a program, behind the units before it
pub number_here : (ds : List Document) (i : ℕ) (before number : ℕ) → i < length ds → before ≡ min (units_in (take i ds)) max_units → number ≡ min (before + length (filter is_library (data_of (document_at ds i)))) max_units →
    number ≡ min (program_number ds i) max_units
number_here ds i before number lt was is = let at = number_at ds i lt in omega arith

-- and the units with it
pub units_here : (ds : List Document) (i : ℕ) (number after : ℕ) (there : Bool) → i < length ds → number ≡ min (program_number ds i) max_units → there ≡ has_program (data_of (document_at ds i)) →
    after ≡ min (number + (if there then 1 else 0)) max_units → after ≡ min (units_in (take (i + 1) ds)) max_units
units_here ds i number after there lt was has is =
    let at = number_at ds i lt in
    let more = units_next ds i lt in
    let next : take (i + 1) ds ≡ take (suc i) ds = ap (λ n. take n ds) (add-one i) in
    go there has is at more ∙ ap (λ (xs : List Document). min (units_in xs) max_units) (sym next)
  where
    go : (b : Bool) → b ≡ has_program (data_of (document_at ds i)) → after ≡ min (number + (if b then 1 else 0)) max_units → program_number ds i ≡ units_in (take i ds) + length (filter is_library (data_of (document_at ds i)))
        → units_in (take (suc i) ds) ≡ units_in (take i ds) + unit_count (data_of (document_at ds i)) → after ≡ min (units_in (take (suc i) ds)) max_units
    go true e f at more = let one : unit_count (data_of (document_at ds i)) ≡ length (filter is_library (data_of (document_at ds i))) + 1 = ap (λ c. length (filter is_library (data_of (document_at ds i))) + (if c then 1 else 0)) (sym e) in omega arith
    go false e f at more = let one : unit_count (data_of (document_at ds i)) ≡ length (filter is_library (data_of (document_at ds i))) + 0 = ap (λ c. length (filter is_library (data_of (document_at ds i))) + (if c then 1 else 0)) (sym e) in omega arith
