-- The names of libraries, by the parts of data.
use Rattle.std.proofs.Common.{◌≡◌, ℕ, List, [], ◌∷◌, true, Option, Some, None, Result, Ok, Err, refl, sym, ap, ◌∙◌}
use Rattle.std.specs.Option.{option_map}
use Rattle.scheme_model.specs.declared.Occ.{Occ}
use Rattle.scheme_model.specs.Data.{Datum, atom, list, vector, bytes, Place, row}
use Rattle.scheme_model.specs.Declarations.{library_name, name_or, symbol_tree}
use Rattle.scheme_model.specs.ExpansionFaults.{Fault}
use Rattle.scheme_model.specs.Requirements.{LibraryName, library_name_of}
use Rattle.scheme_tokens.specs.LibraryNames.{library_text}
use Rattle.datum_reader.specs.declared.datum.Datum as code
use Rattle.datum_reader.specs.Views.{datum_of, data_of}
use Rattle.datum_reader.specs.Looks.{end_with, is_other}
use Rattle.known_libraries.specs.PartsRead.{map_ok}
use Rattle.known_libraries.proofs.NameTexts.{ok_of}

-- tokens by their numbers alone
abbrev pub alone : ℕ → Occ
alone n = record { unit = 0; form = 0; token = n }

-- ---- names by texts

pub text_there : (r : Result LibraryName (Fault (List ℕ))) (s : List ℕ) → map_ok library_text r ≡ Ok s → Some s ≡ option_map library_text (name_or r)
text_there r s h = let p = ok_of library_text r s h in ap Some (sym p.2) ∙ ap (λ (x : Result LibraryName (Fault (List ℕ))). option_map library_text (name_or x)) (sym p.1)

pub no_text : (r : Result LibraryName (Fault (List ℕ))) (e : Fault (List ℕ)) → map_ok library_text r ≡ Err e → None ≡ option_map library_text (name_or r)
no_text (Ok n) e h = absurd cc
no_text (Err f) e h = refl

-- ---- data by their parts

abbrev name_text : Datum → Option (List ℕ)
name_text d = option_map library_text (library_name d)

pub unnamed : (d other : Datum) → d ≡ other → name_text other ≡ None → None ≡ name_text d
unnamed d other e h = sym (ap name_text e ∙ h)

pub other_unnamed : (d : Datum) → is_other d ≡ true → None ≡ name_text d
other_unnamed (atom p a) h = refl
other_unnamed (list p ds) h = absurd cc
other_unnamed (vector p ds) h = refl
other_unnamed (bytes p bs) h = refl

pub none_behind : (p : Place) (ds : List code.Datum) (end : Option Datum) → ds ≡ [] → None ≡ name_text (list p (row (data_of ds) (end_with end)))
none_behind p ds end e = none end ∙ ap (λ (xs : List code.Datum). name_text (list p (row (data_of xs) (end_with end)))) (sym e)
  where
    none : (o : Option Datum) → None ≡ name_text (list p (end_with o))
    none None = refl
    none (Some d) = refl

pub one_alone : (p : Place) (ds es : List code.Datum) (d : code.Datum) (end : Option Datum) → ds ≡ d ∷ es → es ≡ [] → None ≡ name_text (list p (row (data_of ds) (end_with end)))
one_alone p ds es d end e none = alone_with end ∙ ap (λ (xs : List code.Datum). name_text (list p (row (data_of xs) (end_with end)))) (sym (e ∙ ap (λ (xs : List code.Datum). d ∷ xs) none))
  where
    alone_with : (o : Option Datum) → None ≡ name_text (list p (row (data_of (d ∷ [])) (end_with o)))
    alone_with None = refl
    alone_with (Some t) = refl

pub second_there : (p : Place) (ds es rest : List code.Datum) (d n : code.Datum) (end : Option Datum) → ds ≡ d ∷ es → es ≡ n ∷ rest →
    option_map library_text (name_or (library_name_of (λ s. s) (symbol_tree (datum_of n)))) ≡ name_text (list p (row (data_of ds) (end_with end)))
second_there p ds es rest d n end e f = ap (λ (xs : List code.Datum). name_text (list p (row (data_of xs) (end_with end)))) (sym (e ∙ ap (λ (xs : List code.Datum). d ∷ xs) f))
