-- The data of a document that are no libraries, one more at a time, and a part's program of them.
use Rattle.std.proofs.Common.{◌≡◌, ℕ, suc, ◌+◌, ◌<◌, ◌≤◌, List, [], ◌∷◌, ◌++◌, append_assoc, append-nil, length, get_or, drop, map, Bool, true, false, cond, not, Some, None, Ok, slice_get, refl, sym, ap, ◌∙◌, subst}
use Rattle.std.proofs.lemmas.List.{drop_more, at_drop_all}
use Rattle.scheme_model.specs.Data.{Datum, place_of}
use Rattle.scheme_model.specs.Declarations.{UnitForm, plain_form, is_library, IsPart}
use Rattle.scheme_model.specs.IncludedUnits.{part_of}
use Rattle.scheme_model.specs.Includes.{program_data}
use Rattle.scheme_model.specs.Program.{specs_from, exports_from}
use Rattle.datum_reader.specs.declared.datum.Datum as code
use Rattle.datum_reader.specs.FirstTokens.{first_token}
use Rattle.datum_reader.specs.Views.{datum_of, data_of}
use Rattle.unit_sources.specs.declared.units.ImportSpec as code_import
use Rattle.unit_sources.specs.declared.units.ExportSpec as code_export
use Rattle.unit_sources.specs.declared.units.UnitSource as source
use Rattle.unit_sources.specs.UnitsRead.{forms_of, kind_of, AreSpecs, AreExportsRead, IsSource}

module _ (ds : List code.Datum) (i : ℕ) (d : code.Datum) (low : i < length ds) (is : d ≡ get_or ds i d) where
  front : data_of (drop i ds) ≡ datum_of d ∷ data_of (drop (i + 1) ds)
  front = ap data_of (drop_more ds i d low ∙ ap (λ (x : code.Datum). x ∷ drop (i + 1) ds) (sym is))

  -- a library is passed over
  pub library_passed : is_library (datum_of d) ≡ true → program_data (data_of (drop (i + 1) ds)) ≡ program_data (data_of (drop i ds))
  library_passed h = sym (ap program_data front ∙ ap (λ (b : Bool). cond (not b) (datum_of d ∷ program_data (data_of (drop (i + 1) ds))) (program_data (data_of (drop (i + 1) ds)))) h)

  -- another datum is the first
  pub first_there : is_library (datum_of d) ≡ false → Some (datum_of d) ≡ slice_get (program_data (data_of (drop i ds))) 0
  first_there h =
      sym (ap (λ (xs : List Datum). slice_get xs 0)
      (ap program_data front ∙ ap (λ (b : Bool). cond (not b) (datum_of d ∷ program_data (data_of (drop (i + 1) ds))) (program_data (data_of (drop (i + 1) ds)))) h))

  -- one more form
  pub plain_more : (old new all : List UnitForm) → old ++ map plain_form (program_data (data_of (drop i ds))) ≡ all → new ≡ old ++ map plain_form (program_data (datum_of d ∷ [])) → new ++ map plain_form (program_data (data_of (drop (i + 1) ds))) ≡ all
  plain_more old new all so_far more =
      let rest = data_of (drop (i + 1) ds) in
      ap (λ (fs : List UnitForm). fs ++ map plain_form (program_data rest)) more ∙ append_assoc old (map plain_form (program_data (datum_of d ∷ []))) (map plain_form (program_data rest))
      ∙ ap (λ (fs : List UnitForm). old ++ fs) (by (is_library (datum_of d))) ∙ ap (λ (xs : List Datum). old ++ map plain_form (program_data xs)) (sym front) ∙ so_far
    where
      by : (b : Bool) → map plain_form (cond (not b) (datum_of d ∷ []) []) ++ map plain_form (program_data (data_of (drop (i + 1) ds)))
          ≡ map plain_form (cond (not b) (datum_of d ∷ program_data (data_of (drop (i + 1) ds))) (program_data (data_of (drop (i + 1) ds))))
      by true = refl
      by false = refl

pub none_left : (ds : List code.Datum) (i : ℕ) → length ds ≤ i → program_data (data_of (drop i ds)) ≡ []
none_left ds i h = at_drop_all (λ (xs : List code.Datum). program_data (data_of xs)) ds i h

pub plain_end : (ds : List code.Datum) (i : ℕ) (forms all : List UnitForm) → length ds ≤ i → forms ++ map plain_form (program_data (data_of (drop i ds))) ≡ all → forms ≡ all
plain_end ds i forms all h e = sym (append-nil forms) ∙ sym (ap (λ (xs : List Datum). forms ++ map plain_form xs) (none_left ds i h)) ∙ e

-- a datum alone
pub plain_library : (d : Datum) (old : List UnitForm) → is_library d ≡ true → old ≡ old ++ map plain_form (program_data (d ∷ []))
plain_library d old h = sym (append-nil old) ∙ ap (λ (b : Bool). old ++ map plain_form (cond (not b) (d ∷ []) [])) (sym h)

pub plain_datum : (d : Datum) (old new : List UnitForm) → is_library d ≡ false → new ≡ old ++ plain_form d ∷ [] → new ≡ old ++ map plain_form (program_data (d ∷ []))
plain_datum d old new h e = e ∙ ap (λ (b : Bool). old ++ map plain_form (cond (not b) (d ∷ []) [])) (sym h)

-- ---- forms as they stand declare nothing

pub no_specs : (unit k : ℕ) (ds : List Datum) → specs_from unit k (map plain_form ds) ≡ []
no_specs unit k [] = refl
no_specs unit k (d ∷ ds) = no_specs unit (suc k) ds

pub no_exports : (unit k : ℕ) (ds : List Datum) → exports_from unit k (map plain_form ds) ≡ []
no_exports unit k [] = refl
no_exports unit k (d ∷ ds) = no_exports unit (suc k) ds

-- a part's program
pub part_read : (unit : ℕ) (c : source.UnitSource) (ds : List Datum) (d : Datum) (rest : List Datum) → ds ≡ d ∷ rest → forms_of c.forms ≡ map plain_form ds → kind_of c.kind ≡ IsPart → c.name ≡ None → c.span ≡ first_token d →
    c.imports ≡ [] → c.exports ≡ [] → c.lost ≡ [] → IsSource unit c (part_of (place_of d) (d ∷ rest)) d
part_read unit c ds d rest e forms kind name span imports exports lost = record {
  forms = ap Ok (sym (forms ∙ ap (map plain_form) e));
  kind = kind;
  name = name;
  span = span;
  imports = subst (λ (xs : List code_import.ImportSpec). AreSpecs xs (specs_from unit 0 (forms_of c.forms))) (sym imports) (subst (AreSpecs []) (sym (ap (specs_from unit 0) forms ∙ no_specs unit 0 ds)) tt);
  exports = subst (λ (xs : List code_export.ExportSpec). AreExportsRead xs (exports_from unit 0 (forms_of c.forms))) (sym exports)
      (subst (AreExportsRead []) (sym (ap (exports_from unit 0) forms ∙ no_exports unit 0 ds)) tt);
  lost = lost;
}
