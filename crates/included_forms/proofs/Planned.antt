-- Steps that were added one after another.
use Rattle.std.proofs.Common.{◌≡◌, ℕ, ◌+◌, ◌<◌, ◌≤◌, List, [], ◌∷◌, ◌++◌, append_assoc, length, get_or, drop, map, Result, Ok, Err, refl, sym, ap, ◌∙◌, subst}
use Rattle.std.specs.Result.{IsErrAnd}
use Rattle.std.proofs.lemmas.List.{drop_more, at_drop_all, map-append}
use Rattle.scheme_model.specs.Included.{Listing, in_a_row, Texts, bad}
use Rattle.datum_reader.specs.declared.datum.Datum as code
use Rattle.included_forms.specs.declared.steps.Source.{Source}
use Rattle.included_forms.specs.declared.steps.Step.{Step}
use Rattle.included_forms.specs.declared.steps.Stop.{Stop}
use Rattle.included_forms.specs.declared.steps.Stop.TheVariants as stop
use Rattle.included_forms.specs.Steps.{homed_of, given_by, steps_then, Plans}
use Rattle.included_forms.proofs.InRows.{row_in_place, bad_ends}

-- ---- one step, and the first bad declaration

pub plans_one : (t : Texts) (n : ℕ) (old new : List Step) (s : Step) → new ≡ old ++ s ∷ [] → Plans t n old new (Ok tt) (given_by t n s ∷ [])
plans_one t n old new s e = λ behind.
    ap (in_a_row t.limit) (sym (append_assoc (map (given_by t n) old) (given_by t n s ∷ []) behind) ∙ ap (λ ls. ls ++ behind) (sym (map-append (given_by t n) old (s ∷ [])) ∙ ap (map (given_by t n)) (sym e)))

pub plans_none : (t : Texts) (n : ℕ) (steps : List Step) → Plans t n steps steps (Ok tt) []
plans_none t n steps = λ behind. refl

pub plans_bad : (t : Texts) (n : ℕ) (steps : List Step) (f : Stop) (h : Source) (l : Listing) → f ≡ stop.Bad h → l ≡ bad (homed_of h) → Plans t n steps steps (Err f) (l ∷ [])
plans_bad t n steps f h l e is = subst (λ (g : Stop). Plans t n steps steps (Err g) (l ∷ [])) (sym e) (λ behind.
    ap (λ (m : Listing). steps_then t n steps (m ∷ behind)) is ∙ bad_ends t.limit (map (given_by t n) steps) (homed_of h) behind)

pub plans_err : (t : Texts) (n : ℕ) (old new : List Step) (x : Result Unit Stop) (f : Stop) (ls : List Listing) → IsErrAnd x (λ g. g ≡ f) → Plans t n old new (Err f) ls → Plans t n old new x ls
plans_err t n old new (Ok u) f ls h k = absurd h
plans_err t n old new (Err g) f ls h k = subst (λ (y : Stop). Plans t n old new (Err y) ls) (sym h) k

-- ---- what is given, told otherwise

pub plans_same : (t : Texts) (n : ℕ) (old new : List Step) (x : Result Unit Stop) (ls ms : List Listing) → ms ≡ ls → Plans t n old new x ls → Plans t n old new x ms
plans_same t n old new x ls ms e h = subst (λ (y : List Listing). Plans t n old new x y) (sym e) h

pub plans_row : (t : Texts) (n : ℕ) (old new : List Step) (x : Result Unit Stop) (ls : List Listing) → Plans t n old new x ls → Plans t n old new x (in_a_row t.limit ls ∷ [])
plans_row t n old new (Ok u) ls h = λ behind. row_in_place t.limit (map (given_by t n) old) ls behind ∙ h behind
plans_row t n old new (Err (stop.Bad s)) ls h = λ behind. row_in_place t.limit (map (given_by t n) old) ls behind ∙ h behind
plans_row t n old new (Err stop.Memory) ls h = tt

-- ---- data in a row

-- so many data were gone through
abbrev pub PlansFrom : Texts → (document : ℕ) → (List code.Datum → List Listing) → List code.Datum → ℕ → (old now : List Step) → Type 0
PlansFrom t n give ds i old now = (behind : List Listing) → steps_then t n old (give ds ++ behind) ≡ steps_then t n now (give (drop i ds) ++ behind)

pub from_first : (t : Texts) (n : ℕ) (give : List code.Datum → List Listing) (ds : List code.Datum) (old : List Step) → PlansFrom t n give ds 0 old old
from_first t n give ds old = λ behind. refl

module _ (t : Texts) (n : ℕ) (give : List code.Datum → List Listing) (ds : List code.Datum) (i : ℕ) (d : code.Datum) (item : List Listing) (old now new : List Step) (lt : i < length ds) (is : d ≡ get_or ds i d)
    (one : give (d ∷ drop (i + 1) ds) ≡ item ++ give (drop (i + 1) ds)) (so_far : PlansFrom t n give ds i old now) where
  next : (behind : List Listing) → steps_then t n old (give ds ++ behind) ≡ steps_then t n now (item ++ (give (drop (i + 1) ds) ++ behind))
  next behind =
      so_far behind
      ∙ ap (λ ls. steps_then t n now (ls ++ behind)) (ap give (drop_more ds i d lt ∙ ap (λ (x : code.Datum). x ∷ drop (i + 1) ds) (sym is)) ∙ one)
      ∙ ap (steps_then t n now) (append_assoc item (give (drop (i + 1) ds)) behind)

  pub from_more : Plans t n now new (Ok tt) item → PlansFrom t n give ds (i + 1) old new
  from_more here = λ behind. next behind ∙ here (give (drop (i + 1) ds) ++ behind)

  pub from_fails : (f : Stop) (after : List Listing) → Plans t n now new (Err f) item → Plans t n old new (Err f) (give ds ++ after)
  from_fails (stop.Bad h) after here = λ behind.
      ap (steps_then t n old) (append_assoc (give ds) after behind) ∙ next (after ++ behind) ∙ here (give (drop (i + 1) ds) ++ (after ++ behind))
  from_fails stop.Memory after here = tt

-- behind all of them
pub from_end : (t : Texts) (n : ℕ) (give : List code.Datum → List Listing) (ds : List code.Datum) (i : ℕ) (old now : List Step) → length ds ≤ i → give [] ≡ [] → PlansFrom t n give ds i old now → Plans t n old now (Ok tt) (give ds)
from_end t n give ds i old now h nil so_far = λ behind. so_far behind ∙ ap (λ ls. steps_then t n now (ls ++ behind)) (at_drop_all give ds i h ∙ nil)

-- a bad declaration behind them
pub from_bad : (t : Texts) (n : ℕ) (give : List code.Datum → List Listing) (ds : List code.Datum) (i : ℕ) (old now : List Step) (f : Stop) (s : Source) → length ds ≤ i → give [] ≡ [] → f ≡ stop.Bad s → PlansFrom t n give ds i old now →
    Plans t n old now (Err f) (give ds ++ bad (homed_of s) ∷ [])
from_bad t n give ds i old now f s h nil e so_far = subst (λ (g : Stop). Plans t n old now (Err g) (give ds ++ bad (homed_of s) ∷ [])) (sym e) (λ behind.
    ap (steps_then t n old) (append_assoc (give ds) (bad (homed_of s) ∷ []) behind) ∙ so_far (bad (homed_of s) ∷ behind)
    ∙ ap (λ ls. steps_then t n now (ls ++ bad (homed_of s) ∷ behind)) (at_drop_all give ds i h ∙ nil) ∙ bad_ends t.limit (map (given_by t n) now) (homed_of s) behind)
