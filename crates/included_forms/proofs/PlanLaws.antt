-- What the plans of programs, libraries and included texts give.
use Rattle.std.proofs.Common.{◌≡◌, ℕ, suc, ◌+◌, ◌<◌, ◌≤◌, List, [], ◌∷◌, ◌++◌, append-nil, map, length, get_or, drop, Bool, true, false, cond, Option, Some, None, Result, Ok, Err, IfOk, refl, sym, ap, ◌∙◌, subst}
use Rattle.std.specs.Prelude.{not}
use Rattle.std.specs.Result.{IsErrAnd}
use Rattle.std.proofs.lemmas.List.{drop_more, at_drop_all}
use Rattle.ls_base.specs.declared.memory.Memory.{Memory}
use Rattle.scheme_model.specs.Data.{Place, Datum, atom, list, vector, bytes, Data, none, part, tail, row, place_of}
use Rattle.scheme_model.specs.ExpansionFaults.{Fault}
use Rattle.scheme_model.specs.Requirements.{Known, LibraryName, library_name_of}
use Rattle.scheme_model.specs.Declarations.{is_library, behind_head, symbol_tree, name_or, library_name_in}
use Rattle.scheme_model.specs.Includes.{program_data}
use Rattle.scheme_model.specs.Included.{Homed, inside, Listing, followed, in_a_row, Texts, form_or_texts, bad, declaration, declarations, homed_from}
use Rattle.scheme_model.specs.IncludedUnits.{own, library_listing, if_named}
use Rattle.datum_reader.specs.declared.datum.Datum as code
use Rattle.datum_reader.specs.Views.{datum_of, data_of}
use Rattle.datum_reader.specs.Looks.{end_with, is_other, IsListOf}
use Rattle.datum_reader.proofs.DatumLaws.{place-datum}
use Rattle.known_libraries.specs.PartsRead.{Fails, map_ok, library_text}
use Rattle.datum_reader.specs.declared.shape_fault.ShapeFault.{ShapeFault}
use Rattle.datum_reader.specs.declared.shape_fault.ShapeFault.TheVariants as fault
use Rattle.included_forms.specs.declared.steps.Origin.{Origin}
use Rattle.included_forms.specs.declared.steps.Step.{Step}
use Rattle.included_forms.specs.declared.steps.Stop.{Stop}
use Rattle.included_forms.specs.declared.steps.Stop.TheVariants as stop
use Rattle.included_forms.specs.declared.steps.Way.{Way}
use Rattle.included_forms.specs.declared.steps.Way.TheVariants as way
use Rattle.included_forms.specs.declared.plans.Plan.{Plan}
use Rattle.included_forms.specs.Steps.{from, given_by, steps_then, Plans}
use Rattle.included_forms.specs.Planned.{bad_one, plan_listing, IsPlanOf, included_as, included_from, all_included, PlansFirst, IsNamed}
use Rattle.included_forms.proofs.InRows.{row_in_place, bad_alone}

-- ---- how plans end

pub plan_made : (t : Texts) (n : ℕ) (old steps : List Step) (ended : Result Unit Stop) (r : Result Plan Memory) (ls : List Listing) → old ≡ [] → IsPlanOf steps ended r → Plans t n old steps ended ls →
    IfOk r (λ p. plan_listing t n p ≡ in_a_row t.limit ls)
plan_made t n old steps ended (Err e) ls empty h k = tt
plan_made t n old steps (Ok u) (Ok p) ls empty h k =
    (λ j. in_a_row t.limit (map (given_by t n) (h.0 j) ++ bad_one (h.1 j))) ∙ sym (k []) ∙ ap (λ (xs : List Step). steps_then t n xs (ls ++ [])) empty ∙ ap (in_a_row t.limit) (append-nil ls)
plan_made t n old steps (Err (stop.Bad s)) (Ok p) ls empty h k =
    (λ j. in_a_row t.limit (map (given_by t n) (h.0 j) ++ bad_one (h.1 j))) ∙ sym (k []) ∙ ap (λ (xs : List Step). steps_then t n xs (ls ++ [])) empty ∙ ap (in_a_row t.limit) (append-nil ls)
plan_made t n old steps (Err stop.Memory) (Ok p) ls empty h k = absurd h

-- ---- the data of programs

abbrev pub own_given : Texts → (document : ℕ) → List code.Datum → List Listing
own_given t n ds = map (form_or_texts t) (map (own n) (program_data (data_of ds)))

pub own_library : (t : Texts) (n : ℕ) (d : code.Datum) → is_library (datum_of d) ≡ true → own_given t n (d ∷ []) ≡ []
own_library t n d e = ap (λ b. map (form_or_texts t) (map (own n) (cond (not b) (datum_of d ∷ []) []))) e

pub own_other : (t : Texts) (n : ℕ) (d : code.Datum) → is_library (datum_of d) ≡ false → own_given t n (d ∷ []) ≡ form_or_texts t (own n (datum_of d)) ∷ []
own_other t n d e = ap (λ b. map (form_or_texts t) (map (own n) (cond (not b) (datum_of d ∷ []) []))) e

pub own_more : (t : Texts) (n : ℕ) (d : code.Datum) (ds : List code.Datum) → own_given t n (d ∷ ds) ≡ own_given t n (d ∷ []) ++ own_given t n ds
own_more t n d ds = go (is_library (datum_of d))
  where
    go : (b : Bool) → map (form_or_texts t) (map (own n) (cond (not b) (datum_of d ∷ program_data (data_of ds)) (program_data (data_of ds))))
        ≡ map (form_or_texts t) (map (own n) (cond (not b) (datum_of d ∷ []) [])) ++ own_given t n ds
    go true = refl
    go false = refl

-- ---- the data of texts that are included

module _ (t : Texts) (known : Known) (w : Way) (n unit : ℕ) where
  given_library : (k : ℕ) (d : code.Datum) (rest : List Datum) → is_library (datum_of d) ≡ true → included_from t known w n unit k (datum_of d ∷ rest) ≡ included_from t known w n unit k rest
  given_library k d rest e = ap (λ b. map (included_as t known w) (homed_from n unit k (cond (not b) (datum_of d ∷ program_data rest) (program_data rest)))) e

  given_other : (k : ℕ) (d : code.Datum) (rest : List Datum) → is_library (datum_of d) ≡ false →
      included_from t known w n unit k (datum_of d ∷ rest) ≡ included_as t known w (record { document = n; home = Some (record { unit = unit; form = k; first = d.first }); datum = datum_of d }) ∷ included_from t known w n unit (suc k) rest
  given_other k d rest e =
      ap (λ b. map (included_as t known w) (homed_from n unit k (cond (not b) (datum_of d ∷ program_data rest) (program_data rest)))) e
      ∙ ap (λ (p : Place). included_as t known w (record { document = n; home = Some (record { unit = unit; form = k; first = p.first }); datum = datum_of d }) ∷ included_from t known w n unit (suc k) rest) (place-datum d)

  pub passed_library : (steps : List Step) (k : ℕ) (d : code.Datum) → is_library (datum_of d) ≡ true → PlansFirst t n steps steps (Ok k) (datum_of d) (included_from t known w n unit) k
  passed_library steps k d e = λ rest behind. ap (λ ls. steps_then t n steps (ls ++ behind)) (given_library k d rest e)

  pub passed_other : (old new : List Step) (k next : ℕ) (d : code.Datum) → is_library (datum_of d) ≡ false → next ≡ suc k →
      Plans t n old new (Ok tt) (included_as t known w (record { document = n; home = Some (record { unit = unit; form = k; first = d.first }); datum = datum_of d }) ∷ []) →
      PlansFirst t n old new (Ok next) (datum_of d) (included_from t known w n unit) k
  passed_other old new k next d e same here = λ rest behind.
      ap (λ ls. steps_then t n old (ls ++ behind)) (given_other k d rest e) ∙ here (included_from t known w n unit (suc k) rest ++ behind)
      ∙ ap (λ m. steps_then t n new (included_from t known w n unit m rest ++ behind)) (sym same)

  pub stopped : (old new : List Step) (x : Result ℕ Stop) (k : ℕ) (f : Stop) (d : code.Datum) → is_library (datum_of d) ≡ false → IsErrAnd x (λ g. g ≡ f) →
      Plans t n old new (Err f) (included_as t known w (record { document = n; home = Some (record { unit = unit; form = k; first = d.first }); datum = datum_of d }) ∷ []) →
      PlansFirst t n old new x (datum_of d) (included_from t known w n unit) k
  stopped old new (Ok m) k f d e h here = absurd h
  stopped old new (Err g) k f d e h here = subst (λ (y : Stop). PlansFirst t n old new (Err y) (datum_of d) (included_from t known w n unit) k) (sym h) (go f here)
    where
      go : (f : Stop) → Plans t n old new (Err f) (included_as t known w (record { document = n; home = Some (record { unit = unit; form = k; first = d.first }); datum = datum_of d }) ∷ []) →
          PlansFirst t n old new (Err f) (datum_of d) (included_from t known w n unit) k
      go (stop.Bad s) here = λ rest behind. ap (λ ls. steps_then t n old (ls ++ behind)) (given_other k d rest e) ∙ here (included_from t known w n unit (suc k) rest ++ behind)
      go stop.Memory here = tt

  -- so many data were gone through, and this is the next number
  abbrev pub NumberedUpTo : List code.Datum → ℕ → ℕ → (old now : List Step) → Type 0
  NumberedUpTo ds i k old now = (behind : List Listing) → steps_then t n old (included_from t known w n unit 0 (data_of ds) ++ behind) ≡ steps_then t n now (included_from t known w n unit k (data_of (drop i ds)) ++ behind)

  module _ (ds : List code.Datum) (i : ℕ) (d : code.Datum) (k : ℕ) (old now new : List Step) (lt : i < length ds) (is : d ≡ get_or ds i d) (so_far : NumberedUpTo ds i k old now) where
    next_datum : (behind : List Listing) → steps_then t n old (included_from t known w n unit 0 (data_of ds) ++ behind) ≡ steps_then t n now (included_from t known w n unit k (datum_of d ∷ data_of (drop (i + 1) ds)) ++ behind)
    next_datum behind =
        so_far behind
        ∙ ap (λ (xs : List code.Datum). steps_then t n now (included_from t known w n unit k (data_of xs) ++ behind)) (drop_more ds i d lt ∙ ap (λ (x : code.Datum). x ∷ drop (i + 1) ds) (sym is))

    pub numbered_more : (m : ℕ) → PlansFirst t n now new (Ok m) (datum_of d) (included_from t known w n unit) k → NumberedUpTo ds (i + 1) m old new
    numbered_more m here = λ behind. next_datum behind ∙ here (data_of (drop (i + 1) ds)) behind

    pub numbered_fails : (x : Result Unit Stop) (f : Stop) → IsErrAnd x (λ g. g ≡ f) → PlansFirst t n now new (Err f) (datum_of d) (included_from t known w n unit) k → Plans t n old new x (included_from t known w n unit 0 (data_of ds))
    numbered_fails (Ok u) f h here = absurd h
    numbered_fails (Err g) f h here = subst (λ (y : Stop). Plans t n old new (Err y) (included_from t known w n unit 0 (data_of ds))) (sym h) (go f here)
      where
        go : (f : Stop) → PlansFirst t n now new (Err f) (datum_of d) (included_from t known w n unit) k → Plans t n old new (Err f) (included_from t known w n unit 0 (data_of ds))
        go (stop.Bad s) here = λ behind. next_datum behind ∙ here (data_of (drop (i + 1) ds)) behind
        go stop.Memory here = tt

  pub numbered_end : (ds : List code.Datum) (i k : ℕ) (old now : List Step) → length ds ≤ i → NumberedUpTo ds i k old now → Plans t n old now (Ok tt) (included_from t known w n unit 0 (data_of ds))
  numbered_end ds i k old now h so_far = λ behind. so_far behind ∙ ap (λ ls. steps_then t n now (ls ++ behind)) (at_drop_all (λ (xs : List code.Datum). included_from t known w n unit k (data_of xs)) ds i h)

pub given_in_way : (t : Texts) (known : Known) (w : Way) (hs : List Homed) → in_a_row t.limit (map (included_as t known w) hs) ≡ all_included t known w hs
given_in_way t known way.Forms hs = refl
given_in_way t known way.Declarations hs = refl

-- ---- libraries

module _ (t : Texts) (known : Known) (o : Origin) (d : Datum) where
  abbrev listing_in : Datum → Listing
  listing_in e = library_listing t known (from o e) (behind_head e)

  pub atom_library : (e : Datum) → d ≡ e → listing_in e ≡ bad (from o e) → listing_in d ≡ bad (from o d)
  atom_library e is h = subst (λ (x : Datum). listing_in x ≡ bad (from o x)) (sym is) h

  pub empty_library : (ds : List code.Datum) (b : Bool) → IsListOf ds b d → ds ≡ [] → listing_in d ≡ bad (from o d)
  empty_library ds b l e = atom_library (list (place_of d) (end_with l.0)) (l.1 ∙ ap (λ (xs : List code.Datum). list (place_of d) (row (data_of xs) (end_with l.0))) e) (go (place_of d) l.0)
    where
      go : (p : Place) (end : Option Datum) → listing_in (list p (end_with end)) ≡ bad (from o (list p (end_with end)))
      go p None = refl
      go p (Some x) = refl

  pub single_library : (ds : List code.Datum) (b : Bool) → IsListOf ds b d → (x : code.Datum) (es : List code.Datum) → ds ≡ x ∷ es → es ≡ [] → listing_in d ≡ bad (from o d)
  single_library ds b l x es e f =
      atom_library (list (place_of d) (part (datum_of x) (end_with l.0))) (l.1 ∙ ap (λ (xs : List code.Datum). list (place_of d) (row (data_of xs) (end_with l.0))) (e ∙ ap (λ (xs : List code.Datum). x ∷ xs) f)) (go (place_of d) l.0)
    where
      go : (p : Place) (end : Option Datum) → listing_in (list p (part (datum_of x) (end_with end))) ≡ bad (from o (list p (part (datum_of x) (end_with end))))
      go p None = refl
      go p (Some y) = refl

  -- a list with a second part
  pub named_library : (ds : List code.Datum) (b : Bool) (l : IsListOf ds b d) (x n : code.Datum) (es rest : List code.Datum) → ds ≡ x ∷ es → es ≡ n ∷ rest →
      listing_in d ≡ library_listing t known (from o d) (part (datum_of n) (row (data_of rest) (end_with l.0)))
  named_library ds b l x n es rest e f =
      ap (λ (y : Datum). library_listing t known (from o d) (behind_head y))
      (l.1 ∙ ap (λ (xs : List code.Datum). list (place_of d) (row (data_of xs) (end_with l.0))) (e ∙ ap (λ (xs : List code.Datum). x ∷ xs) f))

  pub library_there : (n : Datum) (ds : Data) (name : LibraryName) → library_name_of (λ s. s) (symbol_tree n) ≡ Ok name → library_listing t known (from o d) (part n ds) ≡ declarations t known (from o d) d ds
  library_there n ds name h = ap (λ (r : Result LibraryName (Fault (List ℕ))). if_named (from o d) (name_or r) (declarations t known (from o d) d ds)) h

  pub nameless : (n : Datum) (ds : Data) (e : Fault (List ℕ)) → library_name_of (λ s. s) (symbol_tree n) ≡ Err e → library_listing t known (from o d) (part n ds) ≡ bad (from o d)
  nameless n ds e h = ap (λ (r : Result LibraryName (Fault (List ℕ))). if_named (from o d) (name_or r) (declarations t known (from o d) d ds)) h

pub other_library : (t : Texts) (known : Known) (o : Origin) (d : Datum) → is_other d ≡ true → library_listing t known (from o d) (behind_head d) ≡ bad (from o d)
other_library t known o (atom p a) h = refl
other_library t known o (list p ds) h = absurd cc
other_library t known o (vector p ds) h = refl
other_library t known o (bytes p bs) h = refl

-- ---- one row alone

pub row_alone : (limit : ℕ) (ms : List Listing) → in_a_row limit (in_a_row limit ms ∷ []) ≡ in_a_row limit ms
row_alone limit ms = row_in_place limit [] ms [] ∙ ap (in_a_row limit) (append-nil ms)

module _ (t : Texts) (known : Known) (h : Homed) where
  rows : Datum → Data → List Listing
  rows whole none = []
  rows whole (part d ds) = declaration t known h d ∷ rows whole ds
  rows whole (tail d) = bad (inside h whole) ∷ []

  in_rows : (whole : Datum) (ds : Data) → declarations t known h whole ds ≡ in_a_row t.limit (rows whole ds)
  unfolding rows
  in_rows whole none = refl
  in_rows whole (part d ds) = ap (followed t.limit (declaration t known h d)) (in_rows whole ds)
  in_rows whole (tail d) = sym (bad_alone t.limit (inside h whole))

  pub library_alone : (ds : Data) → in_a_row t.limit (library_listing t known h ds ∷ []) ≡ library_listing t known h ds
  library_alone none = bad_alone t.limit h
  library_alone (tail d) = bad_alone t.limit h
  library_alone (part n ds) = go (library_name_in (part n ds))
    where
      go : (o : Option LibraryName) → in_a_row t.limit (if_named h o (declarations t known h h.datum ds) ∷ []) ≡ if_named h o (declarations t known h h.datum ds)
      go None = bad_alone t.limit h
      go (Some name) = ap (λ l. in_a_row t.limit (l ∷ [])) (in_rows h.datum ds) ∙ row_alone t.limit (rows h.datum ds) ∙ sym (in_rows h.datum ds)

-- ---- names

pub named_fails : (e : ShapeFault) (r : Result LibraryName (Fault (List ℕ))) → Fails e (map_ok library_text r) → Fails e r
named_fails fault.Memory r h = tt
named_fails fault.BadForm (Ok n) h = absurd cc
named_fails fault.BadForm (Err f) h = cc

pub named_err : (x : Result Unit ShapeFault) (e : ShapeFault) (r : Result LibraryName (Fault (List ℕ))) → IsErrAnd x (λ f. f ≡ e) → Fails e (map_ok library_text r) → IsNamed x r
named_err (Ok u) e r h k = absurd h
named_err (Err f) e r h k = subst (λ (g : ShapeFault). Fails g r) (sym h) (named_fails e r k)
