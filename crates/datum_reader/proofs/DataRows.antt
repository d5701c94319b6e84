-- Data in a row, by what ends it.
use Rattle.std.proofs.Common.{◌≡◌, ℕ, ◌+◌, ◌<◌, List, [], ◌∷◌, length, get_or, drop, true, false, Option, Some, None, refl, sym, ap, ◌∙◌}
use Rattle.std.specs.Option.{is_some}
use Rattle.std.specs.Prelude.{not}
use Rattle.std.proofs.lemmas.List.{drop_more}
use Rattle.scheme_model.specs.Data.{Place, Datum, list, row}
use Rattle.scheme_model.specs.Declarations.{with_part, proper_parts, is_proper}
use Rattle.scheme_model.specs.Program.{second_or, behind_first}
use Rattle.datum_reader.specs.declared.datum.Datum as code
use Rattle.datum_reader.specs.Views.{datum_of, data_of}
use Rattle.datum_reader.specs.Looks.{end_with}

pub dotted_parts : (ds : List Datum) (end : Option Datum) → is_some end ≡ true → proper_parts (row ds (end_with end)) ≡ None
dotted_parts [] None h = absurd cc
dotted_parts [] (Some d) h = refl
dotted_parts (d ∷ ds) end h = ap (with_part d) (dotted_parts ds end h)

pub proper_all : (ds : List Datum) (end : Option Datum) → is_some end ≡ false → proper_parts (row ds (end_with end)) ≡ Some ds
proper_all [] None h = refl
proper_all [] (Some d) h = absurd cc
proper_all (d ∷ ds) end h = ap (with_part d) (proper_all ds end h)

pub second_none : (d : Datum) (ds : List Datum) (end : Option Datum) → is_some end ≡ true → d ≡ second_or d (proper_parts (row ds (end_with end)))
second_none d ds end h = sym (ap (second_or d) (dotted_parts ds end h))

pub second_empty : (d : Datum) (ds : List code.Datum) (end : Option Datum) → is_some end ≡ false → ds ≡ [] → d ≡ second_or d (proper_parts (row (data_of ds) (end_with end)))
second_empty d ds end h e = sym (ap (second_or d) (proper_all (data_of ds) end h) ∙ ap (λ (xs : List code.Datum). second_or d (Some (data_of xs))) e)

pub second_single : (d : Datum) (ds : List code.Datum) (end : Option Datum) (a : code.Datum) (es : List code.Datum) → is_some end ≡ false → ds ≡ a ∷ es → es ≡ [] → d ≡ second_or d (proper_parts (row (data_of ds) (end_with end)))
second_single d ds end a es h e f =
    sym (ap (second_or d) (proper_all (data_of ds) end h) ∙ ap (λ (xs : List code.Datum). second_or d (Some (data_of xs))) (e ∙ ap (λ (xs : List code.Datum). a ∷ xs) f))

pub second_there : (d : Datum) (ds : List code.Datum) (end : Option Datum) (a : code.Datum) (es : List code.Datum) (b : code.Datum) (fs : List code.Datum) → is_some end ≡ false → ds ≡ a ∷ es → es ≡ b ∷ fs →
    datum_of b ≡ second_or d (proper_parts (row (data_of ds) (end_with end)))
second_there d ds end a es b fs h e f =
    sym (ap (second_or d) (proper_all (data_of ds) end h) ∙ ap (λ (xs : List code.Datum). second_or d (Some (data_of xs))) (e ∙ ap (λ (xs : List code.Datum). a ∷ xs) f))

pub behind_none : (ds : List Datum) (end : Option Datum) → is_some end ≡ true → [] ≡ behind_first (proper_parts (row ds (end_with end)))
behind_none ds end h = sym (ap behind_first (dotted_parts ds end h))

pub behind_empty : (ds : List code.Datum) (end : Option Datum) → is_some end ≡ false → ds ≡ [] → [] ≡ behind_first (proper_parts (row (data_of ds) (end_with end)))
behind_empty ds end h e = sym (ap behind_first (proper_all (data_of ds) end h) ∙ ap (λ (xs : List code.Datum). behind_first (Some (data_of xs))) e)

pub behind_there : (ds : List code.Datum) (end : Option Datum) (a : code.Datum) (es : List code.Datum) → is_some end ≡ false → ds ≡ a ∷ es → data_of es ≡ behind_first (proper_parts (row (data_of ds) (end_with end)))
behind_there ds end a es h e = sym (ap behind_first (proper_all (data_of ds) end h) ∙ ap (λ (xs : List code.Datum). behind_first (Some (data_of xs))) e)

pub data_more : (ds : List code.Datum) (i : ℕ) (d : code.Datum) → i < length ds → d ≡ get_or ds i d → data_of (drop i ds) ≡ datum_of d ∷ data_of (drop (i + 1) ds)
data_more ds i d lt is = ap data_of (drop_more ds i d lt) ∙ ap (λ (x : code.Datum). datum_of x ∷ data_of (drop (i + 1) ds)) (sym is)

-- a list is proper where it isn't dotted
pub proper_row : (p : Place) (ds : List Datum) (end : Option Datum) → is_proper (list p (row ds (end_with end))) ≡ not (is_some end)
proper_row p ds None = ap is_some (proper_all ds None refl)
proper_row p ds (Some d) = ap is_some (dotted_parts ds (Some d) refl)
