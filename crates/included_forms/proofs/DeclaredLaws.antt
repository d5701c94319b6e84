-- Declarations by their kinds (R7RS 5.6.1).
use Rattle.std.proofs.Common.{◌≡◌, List, [], ◌∷◌, ◌++◌, append-nil, map, Bool, true, false, Option, Some, None, refl, sym, ap, ◌∙◌, subst}
use Rattle.std.specs.Prelude.{◌&&◌, not, if◌then◌else◌}
use Rattle.std.specs.Option.{is_some}
use Rattle.scheme_model.specs.Data.{Place, place_of, Datum, atom, list, vector, bytes, Data, none, part, row}
use Rattle.scheme_model.specs.Requirements.{Known}
use Rattle.scheme_model.specs.Declarations.{Declared, declared_by, symbol_in, proper_parts, all_export_parts}
use Rattle.scheme_model.specs.Included.{Homed, Listing, in_a_row, followed, Texts, form_alone, bad, declaration, declarations, declared_as, clauses, if_proper}
use Rattle.datum_reader.specs.declared.datum.Datum as code
use Rattle.datum_reader.specs.Views.{datum_of, data_of}
use Rattle.datum_reader.specs.Looks.{end_with, is_other, IsListOf}
use Rattle.datum_reader.proofs.DataRows.{dotted_parts, proper_all}
use Rattle.included_forms.specs.declared.steps.Origin.{Origin}
use Rattle.included_forms.specs.Steps.{from}
use Rattle.included_forms.specs.Shapes.{kept}
use Rattle.included_forms.proofs.InRows.{bad_alone}

-- ---- proper lists and others

pub proper_given : (h : Homed) (ds : List Datum) (end : Option Datum) (f : List Datum → Listing) → is_some end ≡ false → if_proper h (proper_parts (row ds (end_with end))) f ≡ f ds
proper_given h ds end f e = ap (λ o. if_proper h o f) (proper_all ds end e)

pub dotted_given : (h : Homed) (ds : List Datum) (end : Option Datum) (f : List Datum → Listing) → is_some end ≡ true → if_proper h (proper_parts (row ds (end_with end))) f ≡ bad h
dotted_given h ds end f e = ap (λ o. if_proper h o f) (dotted_parts ds end e)

pub kept_plain : (h : Homed) (ds : List Datum) (end : Option Datum) (b : Bool) → is_some end ≡ b → if_proper h (proper_parts (row ds (end_with end))) (λ parts. form_alone true h) ≡ kept b h
kept_plain h ds end true e = dotted_given h ds end (λ parts. form_alone true h) e
kept_plain h ds end false e = proper_given h ds end (λ parts. form_alone true h) e

-- what an export gives
abbrev pub export_of : Homed → List Datum → Listing
export_of h ds = if all_export_parts ds then form_alone true h else bad h

pub kept_exports : (h : Homed) (ds : List Datum) (end : Option Datum) (b c : Bool) → is_some end ≡ b → c ≡ (not b && all_export_parts ds) → if_proper h (proper_parts (row ds (end_with end))) (export_of h) ≡ kept (not c) h
kept_exports h ds end true c e k = dotted_given h ds end (export_of h) e ∙ ap (λ x. kept (not x) h) (sym k)
kept_exports h ds end false c e k = proper_given h ds end (export_of h) e ∙ go (all_export_parts ds) ∙ ap (λ x. kept (not x) h) (sym k)
  where
    go : (b : Bool) → (if b then form_alone true h else bad h) ≡ kept (not b) h
    go true = refl
    go false = refl

pub never_proper : (h : Homed) (o : Option (List Datum)) → if_proper h o (λ parts. bad h) ≡ bad h
never_proper h None = refl
never_proper h (Some ds) = refl

-- ---- declarations one after another

pub declared_row : (t : Texts) (known : Known) (h : Homed) (whole : Datum) (ds : List Datum) → declarations t known h whole (row ds none) ≡ in_a_row t.limit (map (declaration t known h) ds)
declared_row t known h whole [] = refl
declared_row t known h whole (d ∷ ds) = ap (followed t.limit (declaration t known h d)) (declared_row t known h whole ds)

-- a tail behind declarations makes the whole bad
abbrev pub bad_tail : Origin → Datum → Option Datum → List Listing
bad_tail o whole None = []
bad_tail o whole (Some d) = bad (from o whole) ∷ []

pub proper_tail : (o : Origin) (whole : Datum) (end : Option Datum) (ls : List Listing) → is_some end ≡ false → ls ++ bad_tail o whole end ≡ ls
proper_tail o whole None ls e = append-nil ls
proper_tail o whole (Some d) ls e = absurd cc

pub dotted_tail : (o : Origin) (whole : Datum) (end : Option Datum) → is_some end ≡ true → bad_tail o whole end ≡ bad (from o whole) ∷ []
dotted_tail o whole None e = absurd cc
dotted_tail o whole (Some d) e = refl

pub declared_all : (t : Texts) (known : Known) (o : Origin) (any whole : Datum) (ds : List Datum) (end : Option Datum) →
    declarations t known (from o any) whole (row ds (end_with end)) ≡ in_a_row t.limit (map (declaration t known (from o any)) ds ++ bad_tail o whole end)
declared_all t known o any whole [] None = refl
declared_all t known o any whole [] (Some d) = sym (bad_alone t.limit (from o whole))
declared_all t known o any whole (x ∷ ds) end = ap (followed t.limit (declaration t known (from o any) x)) (declared_all t known o any whole ds end)

-- ---- a declaration by its parts

-- what a list gives, by its head's kind and what stands behind it
abbrev pub declared_with : Texts → Known → Origin → (any whole : Datum) → Declared → Data → Listing
declared_with t known o any whole k ds = if_proper (from o whole) (proper_parts ds) (λ parts. declared_as t known k (from o whole) parts (clauses t known (from o any) ds))

module _ (t : Texts) (known : Known) (o : Origin) (any whole : Datum) where
  declare_same : (p : Place) (x : Datum) (ds : Data) (k : Declared) → whole ≡ list p (part x ds) → k ≡ declared_by (symbol_in x) → declaration t known (from o any) whole ≡ declared_with t known o any whole k ds
  declare_same p x ds k q e =
      ap (declaration t known (from o any)) q ∙ (λ j. declared_with t known o any (sym q j) (sym e j) ds)

  pub declared_list : (p : Place) (ds : List code.Datum) (x : code.Datum) (rest : List code.Datum) (end : Option Datum) (k : Declared) → whole ≡ list p (row (data_of ds) (end_with end)) → ds ≡ x ∷ rest → k ≡ declared_by (symbol_in (datum_of x)) →
      declaration t known (from o any) whole ≡ declared_with t known o any whole k (row (data_of rest) (end_with end))
  declared_list p ds x rest end k q is e =
      declare_same p (datum_of x) (row (data_of rest) (end_with end)) k (q ∙ ap (λ (xs : List code.Datum). list p (row (data_of xs) (end_with end))) is) e

  -- ---- data that are no declarations

  pub atom_bad : (e : Datum) → whole ≡ e → declaration t known (from o any) e ≡ bad (from o e) → declaration t known (from o any) whole ≡ bad (from o whole)
  atom_bad e is h = subst (λ (x : Datum). declaration t known (from o any) x ≡ bad (from o x)) (sym is) h

  pub empty_bad : (ds : List code.Datum) (b : Bool) → IsListOf ds b whole → ds ≡ [] → declaration t known (from o any) whole ≡ bad (from o whole)
  empty_bad ds b l e = atom_bad (list (place_of whole) (end_with l.0)) (l.1 ∙ ap (λ (xs : List code.Datum). list (place_of whole) (row (data_of xs) (end_with l.0))) e) (go (place_of whole) l.0)
    where
      go : (p : Place) (end : Option Datum) → declaration t known (from o any) (list p (end_with end)) ≡ bad (from o (list p (end_with end)))
      go p None = refl
      go p (Some d) = refl

pub other_bad : (t : Texts) (known : Known) (o : Origin) (any d : Datum) → is_other d ≡ true → declaration t known (from o any) d ≡ bad (from o d)
other_bad t known o any (atom p a) h = refl
other_bad t known o any (list p ds) h = absurd cc
other_bad t known o any (vector p ds) h = refl
other_bad t known o any (bytes p bs) h = refl
