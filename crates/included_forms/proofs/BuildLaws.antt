-- How tables are built, and what strings give by the standing of the documents that they mean.
use Rattle.std.proofs.Common.{◌≡◌, ℕ, zero, suc, ◌+◌, ◌<◌, List, [], ◌∷◌, ◌++◌, length, take, set, map, Bool, true, false, Option, Some, None, slice_get, Ok, refl, sym, ap, ◌∙◌, subst, arith, ◌⊎◌, inl, inr}
use Rattle.std.specs.Prelude.{if◌then◌else◌, nat_lt}
use Rattle.std.proofs.lemmas.Bool.Decides.{nat_tests}
use Rattle.std.proofs.lemmas.List.{map-append, take-append-le, length-append, length-map}
use Rattle.std.specs.Option.{option_map}
use Rattle.std.proofs.lemmas.Option.{slice_get_within, slice_get-map, same_Some}
use Rattle.std.proofs.Math.Seq.{take-append_seam}
use Rattle.scheme_model.specs.Data.{Datum}
use Rattle.scheme_model.specs.Includes.{document_at, is_among, program_data, program_number, data_of as data_in}
use Rattle.scheme_model.specs.Included as model
use Rattle.scheme_model.specs.Included.{Listing, Lists, Texts, Sources, given_at, lost, given_or_lost, homed_from, included_data}
use Rattle.included_forms.specs.declared.steps.TextString.{TextString}
use Rattle.included_forms.specs.declared.steps.Way.{Way}
use Rattle.included_forms.specs.declared.steps.Way.TheVariants as way
use Rattle.included_forms.specs.declared.given.Given.{Given}
use Rattle.included_forms.specs.declared.given.Part.{Part}
use Rattle.included_forms.specs.declared.resolving.Standing.{Standing}
use Rattle.included_forms.specs.declared.resolving.Standing.TheVariants as standing
use Rattle.datum_reader.specs.Views.{data_of}
use Rattle.included_forms.specs.declared.tables.Text.{Text}
use Rattle.included_forms.specs.declared.tables.Table.{Table}
use Rattle.included_forms.specs.Built.{IsText, IsUsable, AreUsable, StandAt, IsTable, standing_for}
use Rattle.included_forms.specs.Steps.{string_of, text_by}
use Rattle.included_forms.specs.Planned.{all_included}
use Rattle.included_forms.specs.Counted.{in_way, listing_of, IsPart, Stand}
use Rattle.included_forms.specs.Tables.{Serve, IsPlaced, Placed, given_of, givens, IsByStanding}

-- ---- lists with one more

pub set_same : {A : Type 0} (xs : List A) (i : ℕ) (a : A) → i < length xs → slice_get (set xs i a) i ≡ Some a
set_same [] i a h = absurd (omega arith)
set_same (x ∷ xs) zero a h = refl
set_same (x ∷ xs) (suc i) a h = set_same xs i a (omega arith)

pub set_other : {A : Type 0} (xs : List A) (i j : ℕ) (a : A) → (j ≡ i → ⊥) → slice_get (set xs i a) j ≡ slice_get xs j
set_other [] i j a h = refl
set_other (x ∷ xs) zero zero a h = absurd (h refl)
set_other (x ∷ xs) zero (suc j) a h = refl
set_other (x ∷ xs) (suc i) zero a h = refl
set_other (x ∷ xs) (suc i) (suc j) a h = set_other xs i j a (λ e. h (ap suc e))

last_is : {A : Type 0} (xs : List A) (x : A) → slice_get (xs ++ x ∷ []) (length xs) ≡ Some x
last_is [] x = refl
last_is (y ∷ xs) x = last_is xs x

stays_there : {A : Type 0} (xs : List A) (x : A) (k : ℕ) (y : A) → slice_get xs k ≡ Some y → slice_get (xs ++ x ∷ []) k ≡ Some y
stays_there [] x k y h = absurd cc
stays_there (z ∷ xs) x zero y h = h
stays_there (z ∷ xs) x (suc k) y h = stays_there xs x k y h

pub there_or_last : {A : Type 0} (xs : List A) (x : A) (k : ℕ) (y : A) → slice_get (xs ++ x ∷ []) k ≡ Some y → (slice_get xs k ≡ Some y) ⊎ ((k ≡ length xs) × (x ≡ y))
there_or_last [] x zero y h = inr (refl, same_Some x y h)
there_or_last [] x (suc k) y h = absurd cc
there_or_last (z ∷ xs) x zero y h = inl h
there_or_last (z ∷ xs) x (suc k) y h = further (there_or_last xs x k y h)
  where
    further : (slice_get xs k ≡ Some y) ⊎ ((k ≡ length xs) × (x ≡ y)) → (slice_get xs k ≡ Some y) ⊎ ((suc k ≡ suc (length xs)) × (x ≡ y))
    further (inl p) = inl p
    further (inr p) = inr (ap suc p.0, p.1)

given_before : (gs : List model.Given) (g : model.Given) (k : ℕ) → k < length gs → given_at (gs ++ g ∷ []) k ≡ given_at gs k
given_before [] g k h = absurd (omega arith)
given_before (x ∷ gs) g zero h = refl
given_before (x ∷ gs) g (suc k) h = given_before gs g k (omega arith)

given_last : (gs : List model.Given) (g : model.Given) → given_at (gs ++ g ∷ []) (length gs) ≡ g
given_last [] g = refl
given_last (x ∷ gs) g = given_last gs g

-- ---- one text more

pub stand_more : (limit : ℕ) (gs : List model.Given) (parts : List Part) (g : model.Given) (p : Part) → Stand limit gs parts → IsPart limit gs p g → Stand limit (gs ++ g ∷ []) (parts ++ p ∷ [])
stand_more limit gs parts g p h here = record {
  as_many = length-append gs (g ∷ []) ∙ ap (λ n. n + 1) h.as_many ∙ sym (length-append parts (p ∷ []));
  each = λ k q is. by k q (there_or_last parts p k q is);
}
  where
    by : (k : ℕ) (q : Part) → (slice_get parts k ≡ Some q) ⊎ ((k ≡ length parts) × (p ≡ q)) → IsPart limit (take k (gs ++ g ∷ [])) q (given_at (gs ++ g ∷ []) k)
    by k q (inl is) =
        let within : k < length parts = slice_get_within parts k q is in
        let few : k < length gs = let e = h.as_many in omega arith in
        subst (λ (x : model.Given). IsPart limit (take k (gs ++ g ∷ [])) q x) (sym (given_before gs g k few))
        (subst (λ (xs : List model.Given). IsPart limit xs q (given_at gs k)) (sym (take-append-le k gs (g ∷ []) (omega arith))) (h.each k q is))
    by k q (inr is) =
        let here_k : length gs ≡ k = h.as_many ∙ sym is.0 in
        subst (λ (n : ℕ). IsPart limit (take n (gs ++ g ∷ [])) q (given_at (gs ++ g ∷ []) n)) here_k
        (subst (λ (x : model.Given). IsPart limit (take (length gs) (gs ++ g ∷ [])) q x) (sym (given_last gs g))
        (subst (λ (xs : List model.Given). IsPart limit xs q g) (sym (take-append_seam gs (g ∷ []))) (subst (λ (x : Part). IsPart limit gs x g) is.1 here)))

pub givens_more : (o : Sources) (t : Texts) (ms : List ℕ) (m : ℕ) → givens o t (ms ++ m ∷ []) ≡ givens o t ms ++ given_of o t m ∷ []
givens_more o t ms m = map-append (given_of o t) ms (m ∷ [])

stays_placed : (us ms : List ℕ) (m n : ℕ) (s : Option Standing) → IsPlaced us ms m s → IsPlaced us (ms ++ n ∷ []) m s
stays_placed us ms m n None h = h
stays_placed us ms m n (Some standing.Unusable) h = h
stays_placed us ms m n (Some standing.Later) h = h
stays_placed us ms m n (Some (standing.At k)) h = (h.0, stays_there ms n k m h.1)

pub same_or_other : (m n : ℕ) → (m ≡ n) ⊎ (m ≡ n → ⊥)
same_or_other zero zero = inl refl
same_or_other zero (suc n) = inr (λ e. omega arith)
same_or_other (suc m) zero = inr (λ e. omega arith)
same_or_other (suc m) (suc n) = further (same_or_other m n)
  where
    further : (m ≡ n) ⊎ (m ≡ n → ⊥) → (suc m ≡ suc n) ⊎ (suc m ≡ suc n → ⊥)
    further (inl e) = inl (ap suc e)
    further (inr e) = inr (λ q. e (omega arith))

pub placed_more : (us ms : List ℕ) (places : List Standing) (n : ℕ) → Placed us ms places → slice_get places n ≡ Some standing.Later → Placed us (ms ++ n ∷ []) (set places n (standing.At (length ms)))
placed_more us ms places n h later m = by (same_or_other m n)
  where
    by : (m ≡ n) ⊎ (m ≡ n → ⊥) → IsPlaced us (ms ++ n ∷ []) m (slice_get (set places n (standing.At (length ms))) m)
    by (inl e) =
        let usable : is_among us n ≡ true = subst (IsPlaced us ms n) later (h n) in
        subst (λ (k : ℕ). IsPlaced us (ms ++ n ∷ []) k (slice_get (set places n (standing.At (length ms))) k)) (sym e)
        (subst (IsPlaced us (ms ++ n ∷ []) n) (sym (set_same places n (standing.At (length ms)) (slice_get_within places n standing.Later later))) (usable, last_is ms n))
    by (inr e) = subst (IsPlaced us (ms ++ n ∷ []) m) (sym (set_other places n m (standing.At (length ms)) e)) (stays_placed us ms m n (slice_get places m) (h m))

-- ---- texts

-- the data of a text with their homes, which have no number where there are none
pub homed_here : (o : Sources) (n : ℕ) (x : Text) → IsText o n x → homed_from n x.unit 0 (program_data (data_of x.«data».now)) ≡ included_data o.documents n
homed_here o n x h = ap (λ ds. homed_from n x.unit 0 (program_data ds)) h.«data» ∙ by (program_data (data_in (document_at o.documents n))) h.unit
  where
    by : (ds : List Datum) → (nat_lt 0 (length ds) ≡ true → x.unit ≡ program_number o.documents n) → homed_from n x.unit 0 ds ≡ homed_from n (program_number o.documents n) 0 ds
    by [] q = refl
    by (d ∷ ds) q =
        let some : nat_lt 0 (suc (length ds)) ≡ true = grind (arith, nat_tests) in
        ap (λ unit. homed_from n unit 0 (d ∷ ds)) (q some)

-- ---- tables

pub placed_first : (us : List ℕ) (bs : List Bool) (places : List Standing) → AreUsable us bs → places ≡ map standing_for bs → Placed us [] places
placed_first us bs places h e m =
    subst (λ (xs : List Standing). IsPlaced us [] m (slice_get xs m)) (sym e) (subst (IsPlaced us [] m) (sym (slice_get-map standing_for bs m)) (by (slice_get bs m) (h m)))
  where
    by : (b : Option Bool) → IsUsable us m b → IsPlaced us [] m (option_map standing_for b)
    by None q = q
    by (Some true) q = q
    by (Some false) q = q

pub stand_first : (limit : ℕ) (parts : List Part) → parts ≡ [] → Stand limit [] parts
stand_first limit parts e = subst (Stand limit []) (sym e) (record { as_many = refl; each = λ k p is. absurd (nothing_there k p is) })
  where
    nothing_there : (k : ℕ) (p : Part) → slice_get [] k ≡ Some p → ⊥
    nothing_there k p is = absurd cc

pub table_first : (o : Sources) (bs : List Bool) (table : Table) → AreUsable o.usable bs → table.places.items ≡ map standing_for bs → table.parts.items ≡ [] → IsTable o table
table_first o bs table h places parts = record {
  members = [];
  stand = λ t s. record { placed = placed_first o.usable bs table.places.items h places; parts = stand_first o.limit table.parts.items parts };
}

pub table_more : (o : Sources) (old new : Table) (n k : ℕ) (p : Part) (h : IsTable o old) → slice_get old.places.items n ≡ Some standing.Later → new.parts.items ≡ old.parts.items ++ p ∷ [] → k ≡ length old.parts.items →
    new.places.items ≡ set old.places.items n (standing.At k) → ((t : Texts) → Serve o t → IsPart o.limit (givens o t h.members) p (given_of o t n)) → IsTable o new
table_more o old new n k p h later parts count places here = record {
  members = h.members ++ n ∷ [];
  stand = λ t s. more t s (h.stand t s);
}
  where
    more : (t : Texts) → Serve o t → StandAt o t h.members old → StandAt o t (h.members ++ n ∷ []) new
    more t s q =
        let place : length h.members ≡ k = sym (length-map h.members (given_of o t)) ∙ q.parts.as_many ∙ sym count in
        record {
          placed = subst (Placed o.usable (h.members ++ n ∷ [])) (sym (places ∙ ap (λ i. set old.places.items n (standing.At i)) (sym place))) (placed_more o.usable h.members old.places.items n q.placed later);
          parts = subst (Stand o.limit (givens o t (h.members ++ n ∷ []))) (sym parts)
              (subst (λ (gs : List model.Given). Stand o.limit gs (old.parts.items ++ p ∷ [])) (sym (givens_more o t h.members n)) (stand_more o.limit (givens o t h.members) old.parts.items (given_of o t n) p q.parts (here t s)));
        }

-- what a text gives in a way
pub text_in_way : (o : Sources) (t : Texts) (n : ℕ) (w : Way) → all_included t o.known w (included_data o.documents n) ≡ in_way (given_of o t n) w
text_in_way o t n way.Forms = refl
text_in_way o t n way.Declarations = refl

-- ---- what strings give

given_there : (f : ℕ → model.Given) (ms : List ℕ) (k m : ℕ) → slice_get ms k ≡ Some m → given_at (map f ms) k ≡ f m
given_there f [] k m h = absurd cc
given_there f (n ∷ ms) zero m h = ap f (same_Some n m h)
given_there f (n ∷ ms) (suc k) m h = given_there f ms k m h

module _ (o : Sources) (t : Texts) (ms : List ℕ) (n : ℕ) (s : TextString) (h : Serve o t) where
  served : (w : Way) (meaning : Option ℕ) → (document_at o.documents n).meant s.characters.now ≡ meaning →
      text_by t w n (string_of s) ≡ given_or_lost o.usable (λ m. in_way (given_of o t m) w) meaning (lost n (string_of s))
  served way.Forms meaning e = h.forms n (string_of s) ∙ ap (λ x. given_or_lost o.usable (λ m. in_way (given_of o t m) way.Forms) x (lost n (string_of s))) e
  served way.Declarations meaning e = h.declarations n (string_of s) ∙ ap (λ x. given_or_lost o.usable (λ m. in_way (given_of o t m) way.Declarations) x (lost n (string_of s))) e

  pub means_none : (w : Way) (g : Given) → (document_at o.documents n).meant s.characters.now ≡ None → IsByStanding None n s w (Ok g) → listing_of (givens o t ms) g ≡ text_by t w n (string_of s)
  means_none w g e is = ap (listing_of (givens o t ms)) is ∙ sym (served w None e)

  pub means_one : (w : Way) (g : Given) (m : ℕ) (st : Option Standing) → (document_at o.documents n).meant s.characters.now ≡ Some m → IsPlaced o.usable ms m st → IsByStanding st n s w (Ok g) →
      listing_of (givens o t ms) g ≡ text_by t w n (string_of s)
  means_one w g m st e placed is = by st placed is ∙ sym (served w (Some m) e)
    where
      by : (st : Option Standing) → IsPlaced o.usable ms m st → IsByStanding st n s w (Ok g) → listing_of (givens o t ms) g ≡ (if is_among o.usable m then in_way (given_of o t m) w else lost n (string_of s))
      by None p q = ap (listing_of (givens o t ms)) q ∙ ap (λ b. if b then in_way (given_of o t m) w else lost n (string_of s)) (sym p)
      by (Some standing.Unusable) p q = ap (listing_of (givens o t ms)) q ∙ ap (λ b. if b then in_way (given_of o t m) w else lost n (string_of s)) (sym p)
      by (Some standing.Later) p q = absurd q
      by (Some (standing.At k)) p q =
          ap (listing_of (givens o t ms)) q ∙ ap (λ x. in_way x w) (given_there (given_of o t) ms k m p.1) ∙ ap (λ b. if b then in_way (given_of o t m) w else lost n (string_of s)) (sym p.0)
