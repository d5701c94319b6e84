-- A rename is accepted exactly where all its conditions hold.
use Rattle.std.proofs.Common.{◌≡◌, ◌↔◌, ℕ, zero, suc, ◌≤◌, nat_lt, List, [], ◌∷◌, ◌++◌, map, filter, length, Bool, true, false, cond, Option, Some, None, Result, Ok, Err, ok_or, slice_get, refl, sym, ap, ◌∙◌, subst, ◌==◌}
use Rattle.std.proofs.lemmas.Bool.{eqb-true, eq-eqb, cond-true, ltb-false, le-ltb}
use Rattle.ls_base.specs.Limits.{max_text}
use Rattle.scheme_model.specs.declared.Occ.{Occ}
use Rattle.scheme_model.specs.Answers.{put_by, ordered_by, bytes_before}
use Rattle.scheme_model.specs.Diagnostics.{Bytes, Diagnostic}
use Rattle.scheme_model.specs.Entries.{is_below}
use Rattle.scheme_model.specs.Spelling.{Link, is_joined, prefixes_of, standard_origins}
use Rattle.rename_model.proofs.SameLaws.{none_is_same}
use Rattle.text_edits.specs.Members.{behind, some_text, prefix_of, stem_of}
use Rattle.rename_conditions.specs.Readers.{Reading, Reader}
use Rattle.rename_conditions.specs.Opened.{Opened, DocEdits, program_read, place_of, class_in, reach_in, edits_in, edited_in, told_edits, plan_in}
use Rattle.rename_conditions.specs.Renames.{Refusal, NotBound, IsStandard, BadName, Unreadable, PrefixLost, PrefixClash, TooLong, Differs, first_of, joined_at, standard_names, is_reserved, new_symbol, first_unread, clashes, errors_in_reach, first_too_long, difference_by, ◌>>=◌, unless, broken, rename_in}
use Rattle.rename_conditions.specs.Accepted.{IsAccepted}

some_none : {A : Type 0} (x : A) → Some x ≡ None → ⊥
some_none x e = cc

none_some : {A : Type 0} (x : A) → None ≡ Some x → ⊥
none_some x e = cc

value_or : {A : Type 0} → A → Option A → A
value_or d None = d
value_or d (Some a) = a

some_same : {A : Type 0} (a b : A) → Some a ≡ Some b → a ≡ b
unfolding value_or
some_same a b h = ap (value_or a) h

-- ---- one condition and then another

abbrev answer : {A : Type 0} → A → Result A Refusal
answer a = Ok a

bind_ok : {A B : Type 0} (x : Result A Refusal) (f : A → Result B Refusal) (y : B) → (x >>= f) ≡ Ok y → (a : A) × (x ≡ Ok a) × (f a ≡ Ok y)
bind_ok (Ok a) f y h = (a, refl, h)
bind_ok (Err e) f y h = cc

then_ok : {A B : Type 0} (x : Result A Refusal) (a : A) (f : A → Result B Refusal) (y : B) → x ≡ Ok a → f a ≡ Ok y → (x >>= f) ≡ Ok y
then_ok x a f y e h = ap (λ (q : Result _ Refusal). q >>= f) e ∙ h

or_told : {A : Type 0} (o : Option A) (e : Refusal) (a : A) → ok_or o e ≡ Ok a → o ≡ Some a
or_told None e a h = cc
or_told (Some b) e a h = cc

told_or : {A : Type 0} (o : Option A) (e : Refusal) (a : A) → o ≡ Some a → ok_or o e ≡ Ok a
told_or o e a h = ap (λ (q : Option _). ok_or q e) h

unless_told : {A : Type 0} (o : Option A) (why : A → Refusal) → unless o why ≡ Ok tt → o ≡ None
unless_told None why h = refl
unless_told (Some a) why h = cc

told_unless : {A : Type 0} (o : Option A) (why : A → Refusal) → o ≡ None → unless o why ≡ Ok tt
told_unless o why h = ap (λ (q : Option _). unless q why) h

first_none : {A : Type 0} (xs : List A) → first_of xs ≡ None → xs ≡ []
first_none [] h = refl
first_none (x ∷ xs) h = absurd (some_none x h)

-- ---- in order: of none there is none

put_some : {A : Type 0} (before : A → A → Bool) (x : A) (ys : List A) → put_by before x ys ≡ [] → ⊥
put_some before x [] h = cc
put_some before x (y ∷ ys) h = by_test (before x y) (before y x) h
  where
    by_test : (a b : Bool) → cond a (x ∷ y ∷ ys) (cond b (y ∷ put_by before x ys) (y ∷ ys)) ≡ [] → ⊥
    by_test true b h = cc
    by_test false true h = cc
    by_test false false h = cc

ordered_none : {A : Type 0} (before : A → A → Bool) (xs : List A) → ordered_by before xs ≡ [] → xs ≡ []
ordered_none before [] h = refl
ordered_none before (x ∷ xs) h = absurd (put_some before x (ordered_by before xs) h)

-- ---- each condition as a fact

joined_when : (o p : Occ) (b : Bool) → cond b (Some o) None ≡ Some p → (o ≡ p) × (b ≡ true)
joined_when o p true h = (some_same o p h, refl)
joined_when o p false h = absurd (none_some p h)

joined_told : (ls : List Link) (at : Option Occ) (o : Occ) → joined_at ls at ≡ Some o → (at ≡ Some o) × (is_joined ls o ≡ true)
joined_told ls None o h = absurd (none_some o h)
joined_told ls (Some p) o h = let j = joined_when p o (is_joined ls p) h in (ap (λ (q : Occ). Some q) j.0, ap (is_joined ls) (sym j.0) ∙ j.1)

free_when : (s t : List ℕ) (b : Bool) → cond b None (Some s) ≡ Some t → (s ≡ t) × (b ≡ false)
free_when s t true h = absurd (none_some t h)
free_when s t false h = (some_same s t h, refl)

symbol_told : (o : Option (List ℕ)) (s : List ℕ) → new_symbol o ≡ Some s → (o ≡ Some s) × (is_reserved s ≡ false)
symbol_told None s h = absurd (none_some s h)
symbol_told (Some t) s h = let g = free_when t s (is_reserved t) h in (ap (λ (q : List ℕ). Some q) g.0, ap is_reserved (sym g.0) ∙ g.1)

unread_told : (n : ℕ) (rs : List (Option Reading)) → first_unread n rs ≡ None → (k : ℕ) → slice_get rs k ≡ Some None → ⊥
unread_told n [] h k e = none_some None e
unread_told n (None ∷ rs) h k e = some_none n h
unread_told n (Some r ∷ rs) h zero e = some_none r (some_same (Some r) None e)
unread_told n (Some r ∷ rs) h (suc k) e = unread_told (suc n) rs h k e

told_unread : (n : ℕ) (rs : List (Option Reading)) → ((k : ℕ) → slice_get rs k ≡ Some None → ⊥) → first_unread n rs ≡ None
told_unread n [] h = refl
told_unread n (None ∷ rs) h = absurd (h zero refl)
told_unread n (Some r ∷ rs) h = told_unread (suc n) rs (λ k e. h (suc k) e)

behind_when : (p c : ℕ) (ps cs stem : List ℕ) (b : Bool) → (p == c) ≡ b → (behind ps cs ≡ Some stem → cs ≡ ps ++ stem) → cond b (behind ps cs) None ≡ Some stem → c ∷ cs ≡ p ∷ (ps ++ stem)
behind_when p c ps cs stem true e f h = λ j. sym (eqb-true p c e) j ∷ f h j
behind_when p c ps cs stem false e f h = absurd (none_some stem h)

behind_told : (prefix name stem : List ℕ) → behind prefix name ≡ Some stem → name ≡ prefix ++ stem
behind_told [] name stem h = some_same name stem h
behind_told (p ∷ ps) [] stem h = absurd (none_some stem h)
behind_told (p ∷ ps) (c ∷ cs) stem h = behind_when p c ps cs stem (p == c) refl (behind_told ps cs stem) h

told_behind : (prefix stem : List ℕ) → behind prefix (prefix ++ stem) ≡ Some stem
told_behind [] stem = refl
told_behind (p ∷ ps) stem = cond-true (p == p) _ _ (eq-eqb p p refl) ∙ told_behind ps stem

record Stem (o : Option (List ℕ)) (stem : List ℕ) : Type 0 where
  first : ℕ
  rest : List ℕ
  there : o ≡ Some (first ∷ rest)
  is : stem ≡ first ∷ rest

some_told : (o : Option (List ℕ)) (stem : List ℕ) → some_text o ≡ Some stem → Stem o stem
some_told None stem h = absurd (none_some stem h)
some_told (Some []) stem h = absurd (none_some stem h)
some_told (Some (c ∷ cs)) stem h = record { first = c; rest = cs; there = refl; is = sym (some_same (c ∷ cs) stem h) }

few_when : {A : Type 0} (b : Bool) (x : A) (xs : List A) → cond b (x ∷ xs) xs ≡ [] → (b ≡ false) × (xs ≡ [])
few_when true x xs h = cc
few_when false x xs h = (refl, h)

apart_told : (ls : List Link) (place : Occ → Bytes) (os : List Occ) → map place (filter (λ p. nat_lt 1 (length (prefixes_of ls p []))) os) ≡ [] →
    (n : ℕ) (o : Occ) → slice_get os n ≡ Some o → length (prefixes_of ls o []) ≤ 1
apart_told ls place [] h n o e = absurd (none_some o e)
apart_told ls place (p ∷ os) h n o e = by_test (apart_told ls place os) (nat_lt 1 (length (prefixes_of ls p []))) refl h n e
  where
    by_test : (map place (filter (λ p. nat_lt 1 (length (prefixes_of ls p []))) os) ≡ [] → (n : ℕ) (o : Occ) → slice_get os n ≡ Some o → length (prefixes_of ls o []) ≤ 1) → (b : Bool) → nat_lt 1 (length (prefixes_of ls p [])) ≡ b → map place (cond b (p ∷ filter (λ p. nat_lt 1 (length (prefixes_of ls p []))) os) (filter (λ p. nat_lt 1 (length (prefixes_of ls p []))) os)) ≡ [] →
        (n : ℕ) → slice_get (p ∷ os) n ≡ Some o → length (prefixes_of ls o []) ≤ 1
    by_test f true t h n e = cc
    by_test f false t h zero e = subst (λ (q : Occ). length (prefixes_of ls q []) ≤ 1) (some_same p o e) (ltb-false 1 (length (prefixes_of ls p [])) t)
    by_test f false t h (suc n) e = f h n o e

told_apart : (ls : List Link) (os : List Occ) → ((n : ℕ) (o : Occ) → slice_get os n ≡ Some o → length (prefixes_of ls o []) ≤ 1) →
    filter (λ p. nat_lt 1 (length (prefixes_of ls p []))) os ≡ []
told_apart ls [] h = refl
told_apart ls (p ∷ os) h =
    ap (λ (b : Bool). cond b (p ∷ filter (λ p. nat_lt 1 (length (prefixes_of ls p []))) os) (filter (λ p. nat_lt 1 (length (prefixes_of ls p []))) os))
    (le-ltb 1 (length (prefixes_of ls p [])) (h zero p refl))
    ∙ told_apart ls os (λ n o e. h (suc n) o e)

fit_told : (n : ℕ) (ts : List (List ℕ)) → first_too_long n ts ≡ None → (k : ℕ) (t : List ℕ) → slice_get ts k ≡ Some t → length t ≤ max_text
fit_told n [] h k t e = absurd (none_some t e)
fit_told n (s ∷ ts) h k t e = by_test (fit_told (suc n) ts) (nat_lt max_text (length s)) refl h k e
  where
    by_test : (first_too_long (suc n) ts ≡ None → (k : ℕ) (t : List ℕ) → slice_get ts k ≡ Some t → length t ≤ max_text) → (b : Bool) → nat_lt max_text (length s) ≡ b → cond b (Some n) (first_too_long (suc n) ts) ≡ None → (k : ℕ) → slice_get (s ∷ ts) k ≡ Some t → length t ≤ max_text
    by_test f true was h k e = absurd (some_none n h)
    by_test f false was h zero e = subst (λ (q : List ℕ). length q ≤ max_text) (some_same s t e) (ltb-false max_text (length s) was)
    by_test f false was h (suc k) e = f h k t e

told_fit : (n : ℕ) (ts : List (List ℕ)) → ((k : ℕ) (t : List ℕ) → slice_get ts k ≡ Some t → length t ≤ max_text) → first_too_long n ts ≡ None
told_fit n [] h = refl
told_fit n (s ∷ ts) h =
    ap (λ (b : Bool). cond b (Some n) (first_too_long (suc n) ts)) (le-ltb max_text (length s) (h zero s refl)) ∙ told_fit (suc n) ts (λ k t e. h (suc k) t e)

result_or : {A : Type 0} → A → Result A Refusal → A
result_or d (Ok a) = a
result_or d (Err e) = d

ok_same : {A : Type 0} (a b : A) → answer b ≡ answer a → a ≡ b
unfolding result_or
ok_same a b h = sym (ap (result_or a) h)

-- ---- all of them

-- what is accepted meets each condition
accepted : (r : Reader) (w : Opened) (at : Option Occ) (new : List ℕ) (es : List DocEdits) → rename_in r w at new ≡ Ok es → IsAccepted r w at new es
accepted r w at new es h =
    let a = bind_ok _ _ es h in
    let o = a.0 in
    let here = joined_told w.links at o (or_told (joined_at w.links at) NotBound o a.1) in
    let b = bind_ok _ _ es a.2 in
    let c = bind_ok _ _ es b.2 in
    let name = symbol_told (r.symbol new) c.0 (or_told (new_symbol (r.symbol new)) BadName c.0 c.1) in
    let d = bind_ok _ _ es c.2 in
    let e = bind_ok _ _ es d.2 in
    let stem = some_told (behind (prefix_of w.links o) c.0) e.0 (or_told (stem_of (prefix_of w.links o) c.0) (PrefixLost (prefix_of w.links o)) e.0 e.1) in
    let f = bind_ok _ _ es e.2 in
    let g = bind_ok _ _ es f.2 in
    let i = bind_ok _ _ es g.2 in
    let j = bind_ok _ _ es i.2 in
    let whole = stem.first ∷ stem.rest in
    record {
      occ = o;
      here = here.0;
      joined = here.1;
      bound = ordered_none is_below (standard_origins w.links (class_in w o)) (first_none (standard_names w o) (unless_told (first_of (standard_names w o)) IsStandard b.1));
      name = c.0;
      named = name.0;
      free = name.1;
      read = unread_told 0 w.readings (unless_told (first_unread 0 w.readings) Unreadable d.1);
      first = stem.first;
      rest = stem.rest;
      kept = behind_told (prefix_of w.links o) c.0 whole stem.there;
      apart = apart_told w.links (place_of w) (class_in w o) (ordered_none bytes_before _ (first_none (clashes w o) (unless_told (first_of (clashes w o)) PrefixClash f.1)));
      whole = first_none (errors_in_reach w o) (unless_told (first_of (errors_in_reach w o)) broken g.1);
      fit = fit_told 0 (edited_in w o whole) (subst (λ (q : List ℕ). first_too_long 0 (edited_in w o q) ≡ None) stem.is (unless_told (first_too_long 0 (edited_in w o e.0)) TooLong i.1));
      same = (none_is_same w.units w.program (program_read r w.uris (edited_in w o whole)) (plan_in w o whole) (reach_in w o)).0
          (subst (λ (q : List ℕ). difference_by r w o q ≡ None) stem.is (unless_told (difference_by r w o e.0) Differs j.1));
      edits = subst (λ (q : List ℕ). es ≡ told_edits (edits_in w o q)) stem.is (ok_same es (told_edits (edits_in w o e.0)) j.2);
    }

-- and what meets each is accepted
accepts : (r : Reader) (w : Opened) (at : Option Occ) (new : List ℕ) (es : List DocEdits) → IsAccepted r w at new es → rename_in r w at new ≡ Ok es
accepts r w at new es h =
    let o = h.occ in
    let stem = h.first ∷ h.rest in
    then_ok (ok_or (joined_at w.links at) NotBound) o _ es
    (told_or (joined_at w.links at) NotBound o (ap (joined_at w.links) h.here ∙ ap (λ (b : Bool). cond b (Some o) None) h.joined))
    (then_ok (unless (first_of (standard_names w o)) IsStandard) tt _ es
    (told_unless (first_of (standard_names w o)) IsStandard (ap (λ (q : List (List ℕ)). first_of (ordered_by is_below q)) h.bound))
    (then_ok (ok_or (new_symbol (r.symbol new)) BadName) h.name _ es
    (told_or (new_symbol (r.symbol new)) BadName h.name (ap new_symbol h.named ∙ ap (λ (b : Bool). cond b None (Some h.name)) h.free))
    (then_ok (unless (first_unread 0 w.readings) Unreadable) tt _ es
    (told_unless (first_unread 0 w.readings) Unreadable (told_unread 0 w.readings h.read))
    (then_ok (ok_or (stem_of (prefix_of w.links o) h.name) (PrefixLost (prefix_of w.links o))) stem _ es
    (told_or (stem_of (prefix_of w.links o) h.name) (PrefixLost (prefix_of w.links o)) stem (ap (stem_of (prefix_of w.links o)) h.kept ∙ ap some_text (told_behind (prefix_of w.links o) stem)))
    (then_ok (unless (first_of (clashes w o)) PrefixClash) tt _ es
    (told_unless (first_of (clashes w o)) PrefixClash (ap (λ (q : List Occ). first_of (ordered_by bytes_before (map (place_of w) q))) (told_apart w.links (class_in w o) h.apart)))
    (then_ok (unless (first_of (errors_in_reach w o)) broken) tt _ es
    (told_unless (first_of (errors_in_reach w o)) broken (ap (λ (q : List Diagnostic). first_of q) h.whole))
    (then_ok (unless (first_too_long 0 (edited_in w o stem)) TooLong) tt _ es
    (told_unless (first_too_long 0 (edited_in w o stem)) TooLong (told_fit 0 (edited_in w o stem) h.fit))
    (then_ok (unless (difference_by r w o stem) Differs) tt _ es
    (told_unless (difference_by r w o stem) Differs ((none_is_same w.units w.program (program_read r w.uris (edited_in w o stem)) (plan_in w o stem) (reach_in w o)).1 h.same))
    (ap (λ (q : List DocEdits). Ok q) (sym h.edits))))))))))

pub accepted_exactly : (r : Reader) (w : Opened) (at : Option Occ) (new : List ℕ) (es : List DocEdits) → rename_in r w at new ≡ Ok es ↔ IsAccepted r w at new es
accepted_exactly r w at new es = (accepted r w at new es, accepts r w at new es)
