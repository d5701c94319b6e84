-- What texts list, as units have it.
use Rattle.std.proofs.Common.{Vec, ◌≡◌, ℕ, ◌+◌, ◌<◌, ◌≤◌, List, [], ◌∷◌, ◌++◌, append_assoc, append-nil, length, get_or, drop, map, Bool, true, false, Option, Result, Ok, Err, refl, sym, ap, ◌∙◌, subst}
use Rattle.std.specs.Prelude.{◌&&◌, ◌||◌, if◌then◌else◌}
use Rattle.std.proofs.lemmas.List.{drop_more, at_drop_all}
use Rattle.std.specs.Global.{Global}
use Rattle.std.specs.Option.{option_map}
use Rattle.std.specs.Result.{IsErrAnd}
use Rattle.scheme_model.specs.Data.{Place, Datum}
use Rattle.scheme_model.specs.Declarations.{UnitForm, UnitKind}
use Rattle.scheme_model.specs.Included.{Homed, FlatForm, Listing, Lists, BadAfter, TooLong}
use Rattle.scheme_model.specs.IncludedUnits.{BadAt, TooManyTokens, source_by, unit_form, with_imports}
use Rattle.scheme_model.specs.Program.{specs_from, exports_from}
use Rattle.scheme_model.specs.Requirements.{LibraryName}
use Rattle.scheme_tokens.specs.LibraryNames.{library_text}
use Rattle.datum_reader.specs.FirstTokens.{first_token}
use Rattle.datum_reader.specs.Views.{datum_of}
use Rattle.included_forms.specs.Counted.{lost_of}
use Rattle.included_forms.specs.Listed.{IsListed}
use Rattle.included_forms.specs.Steps.{homed_of, form_of as listed_form}
use Rattle.included_forms.specs.declared.given.LostString as lost
use Rattle.included_forms.specs.declared.steps.FlatForm as listed
use Rattle.included_forms.specs.declared.steps.Source.{Source}
use Rattle.included_forms.specs.declared.units.Listed.{Listed}
use Rattle.included_forms.specs.declared.units.Listed.TheVariants as end
use Rattle.unit_sources.specs.declared.fault.LibraryFault.{LibraryFault}
use Rattle.unit_sources.specs.declared.fault.LibraryFault.TheVariants as fault
use Rattle.library_table.specs.declared.reading.Lists as code_lists
use Rattle.unit_sources.specs.declared.units.UnitForm as code_form
use Rattle.unit_sources.specs.declared.units.UnitSource as code
use Rattle.unit_sources.specs.UnitsRead.{forms_of, is_import, kind_of, lost_as, AreSpecs, AreExportsRead, IsSource, IsUnitRead}
use Rattle.library_table.specs.ListingsRead.{forms_left, listing_left, IsBadAt, IsListingRead}

-- ---- forms

-- the first of what is left, and the others
pub forms_more : (leading : Bool) (f : FlatForm) (fs : List FlatForm) → forms_left leading (f ∷ fs)
    ≡ record { datum = f.source.datum; declared = (leading && is_import f.source.datum) || f.declared; home = f.source.home } ∷ forms_left (leading && is_import f.source.datum) fs
forms_more false f fs = refl
forms_more true f fs = go (is_import f.source.datum)
  where
    go : (b : Bool) → map unit_form (if b then record f { declared = true } ∷ with_imports fs else f ∷ fs)
        ≡ record { datum = f.source.datum; declared = b || f.declared; home = f.source.home } ∷ forms_left b fs
    go true = refl
    go false = refl

-- one more is copied
pub copied_more : (leads next : Bool) (fs : List listed.FlatForm) (i : ℕ) (f : listed.FlatForm) (old new all : List UnitForm) → i < length fs → f ≡ get_or fs i f → old ++ forms_left leads (map listed_form (drop i fs)) ≡ all →
    next ≡ (leads && is_import (datum_of f.source.datum.now)) → new ≡ old ++ record { datum = datum_of f.source.datum.now; declared = next || f.declared; home = f.source.origin.home } ∷ [] →
    new ++ forms_left next (map listed_form (drop (i + 1) fs)) ≡ all
copied_more leads next fs i f old new all low is so_far leading push =
    let rest = map listed_form (drop (i + 1) fs) in
    ap (λ (xs : List UnitForm). xs ++ forms_left next rest) push
    ∙ append_assoc old (record { datum = datum_of f.source.datum.now; declared = next || f.declared; home = f.source.origin.home } ∷ []) (forms_left next rest)
    ∙ ap (λ (b : Bool). old ++ (record { datum = datum_of f.source.datum.now; declared = b || f.declared; home = f.source.origin.home } ∷ forms_left b rest)) leading
    ∙ ap (λ (xs : List UnitForm). old ++ xs) (sym (forms_more leads (listed_form f) rest))
    ∙ ap (λ (g : listed.FlatForm). old ++ forms_left leads (listed_form g ∷ rest)) is
    ∙ ap (λ (gs : List listed.FlatForm). old ++ forms_left leads (map listed_form gs)) (sym (drop_more fs i f low)) ∙ so_far

-- all were copied
pub copied_all : (leads leading : Bool) (fs : List listed.FlatForm) (i : ℕ) (forms : List UnitForm) → length fs ≤ i → forms ++ forms_left leads (map listed_form (drop i fs)) ≡ forms_left leading (map listed_form fs) → forms ≡ forms_left leading (map listed_form fs)
copied_all leads leading fs i forms h e =
    sym (append-nil forms) ∙ ap (λ (xs : List UnitForm). forms ++ xs) (sym (at_drop_all (λ (xs : List listed.FlatForm). forms_left leads (map listed_form xs)) fs i h ∙ none leads)) ∙ e
  where
    none : (b : Bool) → forms_left b [] ≡ []
    none true = refl
    none false = refl

-- ---- what is listed

pub lists_read : (unit : ℕ) (leading : Bool) (x : Listed) (forms : Vec listed.FlatForm Global) (strings : Vec lost.LostString Global) (l : Listing) (c : code_lists.Lists) → x ≡ end.Lists forms strings → IsListed x l →
    forms_of c.forms.items ≡ forms_left leading (map listed_form forms.items) → c.lost ≡ map lost_as (map lost_of strings.items) → IsListingRead unit leading l (Ok c)
lists_read unit leading x forms strings l c is h f s =
    let k = subst (λ (y : Listed). IsListed y l) is h in
    (k.0, map listed_form forms.items, map lost_of strings.items, k.1, f, s)

pub bad_read : (unit : ℕ) (leading : Bool) (x : Listed) (s : Source) (l : Listing) (e : LibraryFault) → x ≡ end.Bad s → IsListed x l → IsBadAt unit (homed_of s) e → IsListingRead unit leading l (Err e)
bad_read unit leading x s l e is h k =
    let b = subst (λ (y : Listed). IsListed y l) is h in
    subst (λ (f : LibraryFault). IsListingRead unit leading l (Err f)) (sym k) (b.0, homed_of s, b.1, refl, refl)

pub long_read : (x : Listed) (l : Listing) → x ≡ end.TooLong → IsListed x l → l ≡ TooLong
long_read x l is h = subst (λ (y : Listed). IsListed y l) is h

-- ---- ends

module _ (unit : ℕ) (leading : Bool) (d : Datum) (kind : UnitKind) (name : Option LibraryName) (start : Place) (l : Listing) where
  bad_left : (b : Bool) (n : ℕ) (h : Homed) → (source_by kind name start (listing_left b (BadAfter n h))).forms ≡ Err (BadAt h)
  bad_left true n h = refl
  bad_left false n h = refl

  long_left : (b : Bool) → (source_by kind name start (listing_left b TooLong)).forms ≡ Err TooManyTokens
  long_left true = refl
  long_left false = refl

  end_read : (f : LibraryFault) → IsListingRead unit leading l (Err f) → IsUnitRead unit d (source_by kind name start (listing_left leading l)) (Err f)
  end_read fault.Memory h = tt
  end_read (fault.BadDeclaration m span) h = (h.1, ap (λ (x : Listing). (source_by kind name start (listing_left leading x)).forms) h.2 ∙ bad_left leading h.0 h.1, h.3, h.4)
  end_read fault.TooManyTokens h = ap (λ (x : Listing). (source_by kind name start (listing_left leading x)).forms) h ∙ long_left leading
  end_read (fault.Cycle names) h = absurd h
  end_read fault.SameLibrary h = absurd h
  end_read (fault.NotDefined s) h = absurd h
  end_read (fault.SameExport s) h = absurd h

  -- the end of what was listed, as that of the unit
  pub unit_ends : (x : Result code.UnitSource LibraryFault) (f : LibraryFault) → IsErrAnd x (λ g. g ≡ f) → IsListingRead unit leading l (Err f) → IsUnitRead unit d (source_by kind name start (listing_left leading l)) x
  unit_ends (Ok c) f h k = absurd h
  unit_ends (Err e) f h k = end_read e (subst (λ (g : LibraryFault). IsListingRead unit leading l (Err g)) (sym h) k)

  -- ---- units

  -- a unit of what was listed
  pub unit_made : (c : code.UnitSource) (lists : code_lists.Lists) → IsListingRead unit leading l (Ok lists) → kind_of c.kind ≡ kind → c.name ≡ option_map library_text name → c.span ≡ first_token d →
      c.forms ≡ lists.forms.items → c.lost ≡ lists.lost → AreSpecs c.imports (specs_from unit 0 (forms_of lists.forms.items)) → AreExportsRead c.exports (exports_from unit 0 (forms_of lists.forms.items)) →
      IsSource unit c (source_by kind name start (listing_left leading l)) d
  unit_made c lists h k n s forms lost imports exports =
      subst (λ (x : Listing). IsSource unit c (source_by kind name start (listing_left leading x)) d) (sym h.3) (go leading (ap forms_of forms ∙ h.4))
    where
      go : (b : Bool) → forms_of c.forms ≡ forms_left b h.1 → IsSource unit c (source_by kind name start (listing_left b (Lists h.0 h.1 h.2))) d
      go true f = record {
        forms = ap Ok (sym f);
        kind = k;
        name = n;
        span = s;
        imports = subst (λ (xs : List code_form.UnitForm). AreSpecs c.imports (specs_from unit 0 (forms_of xs))) (sym forms) imports;
        exports = subst (λ (xs : List code_form.UnitForm). AreExportsRead c.exports (exports_from unit 0 (forms_of xs))) (sym forms) exports;
        lost = lost ∙ h.5;
      }
      go false f = record {
        forms = ap Ok (sym f);
        kind = k;
        name = n;
        span = s;
        imports = subst (λ (xs : List code_form.UnitForm). AreSpecs c.imports (specs_from unit 0 (forms_of xs))) (sym forms) imports;
        exports = subst (λ (xs : List code_form.UnitForm). AreExportsRead c.exports (exports_from unit 0 (forms_of xs))) (sym forms) exports;
        lost = lost ∙ h.5;
      }

-- ---- one program

pub one_unit : {A : Type 0} (x y : A) → x ∷ [] ≡ y ∷ [] → x ≡ y
one_unit x y h = cc
