-- In a unit of which some forms are kept as many macro uses are worked as the others count.
use Rattle.std.proofs.Common.{◌≡◌, ℕ, ◌+◌, ◌-◌, ◌≤◌, List, [], ◌∷◌, Bool, true, false, cond, Option, Some, None, Result, refl, sym, ap, ◌∙◌, subst, arith}
use Rattle.std.specs.Prelude.{nat_lt}
use Rattle.scheme_model.specs.Requirements.{Known}
use Rattle.scheme_model.specs.Cores.{Parts}
use Rattle.scheme_model.specs.Steps.{Broken}
use Rattle.scheme_model.specs.Order.{Left, Note, Pass}
use Rattle.scheme_model.specs.Ident.{Ident}
use Rattle.scheme_model.specs.UnitExpansion.{Formed, max_total, ◌then◌, going, nodes_in, unless_over}
use Rattle.scheme_model.specs.ScopedExpansion.{FramedIdent, ScopedState}
use Rattle.scheme_model.specs.CountedExpansion.{counted}
use Rattle.scheme_model.specs.Questions.{Around}
use Rattle.model_laws.proofs.FrameAsks.{AllOf, all_of_more}
use Rattle.model_laws.proofs.UnitEnds.{OnWork}
use Rattle.form_laws.proofs.Leaving.{at_here}
use Rattle.kept_forms.specs.KeptForms.{KeptParts, KeptForm, FormOrKept, around_form, goes_through, LeftOrKept, rest_kept, passes_keeping, comes_to, finished_keeping, numbers_of, unit_keeping, counts_at}
use Rattle.kept_forms.specs.Worked.{begun_by, unless_kept, worked_then, passes_worked, rests_worked, unit_worked, rest_of, not_kept, uses_not_kept, UsesTold}
use Rattle.kept_forms.proofs.UsesCounted.{pass_others, rest_others, rest_more, rest_form, Not, Distinct, of_form, of_left, passes_others, rests_others}

-- ---- work that goes on

then_state : {X Y : Type 0} (q : Option X × ScopedState) (f : X → Y) → (q then λ x. going (f x)).1 ≡ q.1
then_state (None, s) f = refl
then_state (Some x, s) f = refl

pub over_state : {X : Type 0} (known : Known) (fs : List ℕ) (q : X × ScopedState) → (unless_over (counted known) fs q).1 ≡ q.1
over_state {X} known fs q = go (nat_lt max_total (nodes_in (counted known) fs q.1))
  where
    go : (b : Bool) → (cond {A = Option X × ScopedState} b (None, q.1) (Some q.0, q.1)).1 ≡ q.1
    go true = refl
    go false = refl

on_and : {X : Type 0} (P : ScopedState → Type 0) (Q : ScopedState → X → Type 0) (R : ScopedState → Type 0) (q : Option X × ScopedState) → OnWork P Q q → R q.1 → OnWork (λ s. P s × R s) (λ s x. Q s x × R s) q
on_and P Q R (None, s) h k = (h, k)
on_and P Q R (Some x, s) h k = (h, k)

-- ---- the forms gone through

abbrev Same : {X : Type 0} → (X → ℕ) → ScopedState → ScopedState → List X → Type 0
Same number s t xs = AllOf (λ x. t.uses (number x) ≡ s.uses (number x)) xs

same_others : {X : Type 0} (number : X → ℕ) (g : ℕ) (s t : ScopedState) → ((f : ℕ) → (f ≡ g → ⊥) → t.uses f ≡ s.uses f) → (xs : List X) → Not number g xs → Same number s t xs
same_others number g s t e xs h = all_of_more (λ x. g ≡ number x → ⊥) (λ x. t.uses (number x) ≡ s.uses (number x)) (λ x ne. e (number x) (λ d. ne (sym d))) xs h

abbrev pub Zero : ScopedState → List FormOrKept → Type 0
Zero s xs = AllOf (λ (x : FormOrKept). s.uses x.form ≡ 0) xs

zero_still : (s t : ScopedState) (xs : List FormOrKept) → Same of_form s t xs → Zero s xs → Zero t xs
zero_still s t [] e z = tt
zero_still s t (x ∷ xs) e z = (e.0 ∙ z.0, zero_still s t xs e.1 z.1)

abbrev first_sum : List FormOrKept → ScopedState → ℕ
first_sum [] t = 0
first_sum (x ∷ xs) t = unless_kept x.kept (t.uses x.form) + first_sum xs t

none_kept : {X : Type 0} (o : Option X) (n : ℕ) → n ≡ 0 → unless_kept o n ≡ 0
none_kept None n e = e
none_kept (Some k) n e = refl

first_zero : (t : ScopedState) (xs : List FormOrKept) → Zero t xs → first_sum xs t ≡ 0
first_zero t [] z = refl
first_zero t (x ∷ xs) z = let a = none_kept x.kept (t.uses x.form) z.0 in let b = first_zero t xs z.1 in omega (arith, a, b)

-- what is kept of a form was counted where it was gone through, and it is counted then
abbrev FirstIs : Option KeptForm → ℕ → Type 0
FirstIs None n = Unit {0}
FirstIs (Some k) n = n ≡ k.aside.moment.uses

abbrev FirstWithin : Option KeptForm → ℕ → Type 0
FirstWithin None n = Unit {0}
FirstWithin (Some k) n = n - k.aside.moment.uses ≡ 0

within_is : (o : Option KeptForm) (n : ℕ) → FirstIs o n → FirstWithin o n
within_is None n e = tt
within_is (Some k) n e = (let d : n ≡ k.aside.moment.uses = e in omega (arith, d))

within_zero : (o : Option KeptForm) (n : ℕ) → n ≡ 0 → FirstWithin o n
within_zero None n e = tt
within_zero (Some k) n e = omega (arith, e)

-- the rest is kept where it was
abbrev Kin : Option KeptForm → Option KeptParts → Type 0
Kin None o = o ≡ None
Kin (Some k) o = (n : ℕ) → unless_kept o n ≡ unless_kept k.parts n

kin : (v : Around) (o : Option KeptForm) → Kin o (rest_kept v o)
kin v None = refl
kin v (Some k) = go k.parts
  where
    go : (o : Option KeptParts) → (n : ℕ) → unless_kept (rest_kept v (Some (record { aside = k.aside; parts = o }))) n ≡ unless_kept o n
    go None n = refl
    go (Some p) n = refl

abbrev Match : List LeftOrKept → List FormOrKept → Type 0
Match [] [] = Unit {0}
Match [] (x ∷ xs) = ⊥
Match (r ∷ rs) [] = ⊥
Match (r ∷ rs) (x ∷ xs) = (r.form ≡ x.form) × Kin x.kept r.kept × Match rs xs

abbrev FirstsAre : ScopedState → List FormOrKept → Type 0
FirstsAre t xs = AllOf (λ (x : FormOrKept). FirstIs x.kept (t.uses x.form)) xs

abbrev FirstsWithin : ScopedState → List FormOrKept → Type 0
FirstsWithin t xs = AllOf (λ (x : FormOrKept). FirstWithin x.kept (t.uses x.form)) xs

module _ (known : Known) (turns : ℕ) (fs : List ℕ) where
  abbrev Passed : List FormOrKept → List (Note FramedIdent) → ScopedState → Type 0
  Passed xs ns s =
      (passes_worked known turns fs xs ns s ≡ first_sum xs (passes_keeping known turns fs xs ns s).1)
      × OnWork (λ t. FirstsWithin t xs) (λ t rs. Match rs xs × FirstsAre t xs) (passes_keeping known turns fs xs ns s)

  module _ (x : FormOrKept) (xs : List FormOrKept) (ns : List (Note FramedIdent)) (s : ScopedState) (d : Not of_form x.form xs) (z : Zero s (x ∷ xs)) where
    abbrev v : Around
    v = around_form known x.form ns s

    abbrev q : Pass Ident FramedIdent × ScopedState
    q = goes_through v turns x.tree x.kept

    zero_later : Zero q.1 xs
    zero_later = zero_still s q.1 xs (same_others of_form x.form s q.1 (pass_others v turns x.tree x.kept) xs d) z.1

    first_is : FirstIs x.kept (q.1.uses x.form)
    first_is = go x.kept
      where
        go : (o : Option KeptForm) → FirstIs o ((goes_through v turns x.tree o).1.uses x.form)
        go None = tt
        go (Some k) = at_here x.form v.state.uses k.aside.moment.uses

    abbrev rest_of_form : Pass Ident FramedIdent → ScopedState → LeftOrKept
    rest_of_form p t = record { form = x.form; counts = counts_at x.form t; left = p.left; kept = rest_kept v x.kept }

    abbrev go_on : Pass Ident FramedIdent → ScopedState → Option (List LeftOrKept) × ScopedState
    go_on p t = passes_keeping known turns fs xs p.notes t then λ rest. going (rest_of_form p t ∷ rest)

    begun_is : begun_by x.form s q.1 ≡ q.1.uses x.form
    begun_is = let e = z.0 in omega (arith, e)

    sum_from : (o : Option (Pass Ident FramedIdent) × ScopedState) → o.1 ≡ q.1 → ((ms : List (Note FramedIdent)) → Passed xs ms q.1)
        → unless_kept x.kept (begun_by x.form s q.1) + worked_then (λ p t. passes_worked known turns fs xs p.notes t) o ≡ first_sum (x ∷ xs) (o then go_on).1
    sum_from (None, t) e law =
        let a = ap (unless_kept x.kept) begun_is in let b = first_zero q.1 xs zero_later in
        let c : unless_kept x.kept (begun_by x.form s q.1) + 0 ≡ first_sum (x ∷ xs) q.1 = omega (arith, a, b) in
        c ∙ ap (first_sum (x ∷ xs)) (sym e)
    sum_from (Some p, t) e law =
        let u = passes_keeping known turns fs xs p.notes t in
        let a = ap (unless_kept x.kept) begun_is in
        let head : u.1.uses x.form ≡ q.1.uses x.form = passes_others known turns fs x.form xs p.notes t d ∙ ap (λ (r : ScopedState). r.uses x.form) e in
        let b = ap (unless_kept x.kept) head in
        let c : passes_worked known turns fs xs p.notes t ≡ first_sum xs u.1 = subst (λ (r : ScopedState). passes_worked known turns fs xs p.notes r ≡ first_sum xs (passes_keeping known turns fs xs p.notes r).1) (sym e) (law p.notes).0 in
        let f : unless_kept x.kept (begun_by x.form s q.1) + passes_worked known turns fs xs p.notes t ≡ first_sum (x ∷ xs) u.1 = omega (arith, a, b, c) in
        f ∙ ap (first_sum (x ∷ xs)) (sym (then_state u (λ rest. rest_of_form p t ∷ rest)))

    ends_from : (o : Option (Pass Ident FramedIdent) × ScopedState) → o.1 ≡ q.1 → ((ms : List (Note FramedIdent)) → Passed xs ms q.1)
        → OnWork (λ t. FirstsWithin t (x ∷ xs)) (λ t rs. Match rs (x ∷ xs) × FirstsAre t (x ∷ xs)) (o then go_on)
    ends_from (None, t) e law =
        subst (λ (r : ScopedState). FirstsWithin r (x ∷ xs)) (sym e) (within_is x.kept (q.1.uses x.form) first_is, all_of_more (λ (y : FormOrKept). q.1.uses y.form ≡ 0) (λ (y : FormOrKept). FirstWithin y.kept (q.1.uses y.form)) (λ y h. within_zero y.kept (q.1.uses y.form) h) xs zero_later)
    ends_from (Some p, t) e law =
        let u = passes_keeping known turns fs xs p.notes t in
        let there = subst (λ (r : ScopedState). OnWork (λ t. FirstsWithin t xs) (λ t rs. Match rs xs × FirstsAre t xs) (passes_keeping known turns fs xs p.notes r)) (sym e) (law p.notes).1 in
        let head : FirstIs x.kept (u.1.uses x.form) = subst (FirstIs x.kept) (sym (passes_others known turns fs x.form xs p.notes t d ∙ ap (λ (r : ScopedState). r.uses x.form) e)) first_is in
        go p t u (on_and (λ r. FirstsWithin r xs) (λ r rs. Match rs xs × FirstsAre r xs) (λ r. FirstIs x.kept (r.uses x.form)) u there head)
      where
        go : (p : Pass Ident FramedIdent) (c : ScopedState) (u : Option (List LeftOrKept) × ScopedState) → OnWork (λ t. FirstsWithin t xs × FirstIs x.kept (t.uses x.form)) (λ t rs. (Match rs xs × FirstsAre t xs) × FirstIs x.kept (t.uses x.form)) u
            → OnWork (λ t. FirstsWithin t (x ∷ xs)) (λ t rs. Match rs (x ∷ xs) × FirstsAre t (x ∷ xs)) (u then λ rest. going (rest_of_form p c ∷ rest))
        go p c (None, t) h = (within_is x.kept (t.uses x.form) h.1, h.0)
        go p c (Some rs, t) h = ((refl, kin v x.kept, h.0.0), (h.1, h.0.1))

  passed : (xs : List FormOrKept) (ns : List (Note FramedIdent)) (s : ScopedState) → Distinct of_form xs → Zero s xs → Passed xs ns s
  passed [] ns s d z = (refl, (tt, tt))
  passed (x ∷ xs) ns s d z =
      let m = (goes_through (around_form known x.form ns s) turns x.tree x.kept) in
      let law : (ms : List (Note FramedIdent)) → Passed xs ms m.1 = λ ms. passed xs ms m.1 d.1 (zero_later x xs ns s d.0 z) in
      let e = over_state known fs m in
      (sum_from x xs ns s d.0 z (unless_over (counted known) fs m) e law, ends_from x xs ns s d.0 z (unless_over (counted known) fs m) e law)

  -- ---- what they set aside is expanded

  abbrev second_sum : List LeftOrKept → ScopedState → ScopedState → ℕ
  second_sum [] s t = 0
  second_sum (r ∷ rs) s t = unless_kept r.kept (begun_by r.form s t) + second_sum rs s t

  second_zero : (s t : ScopedState) (rs : List LeftOrKept) → Same of_left s t rs → second_sum rs s t ≡ 0
  second_zero s t [] e = refl
  second_zero s t (r ∷ rs) e = let c = e.0 in let a = none_kept r.kept (begun_by r.form s t) (omega (arith, c)) in let b = second_zero s t rs e.1 in omega (arith, a, b)

  second_same : (s t u : ScopedState) (rs : List LeftOrKept) → Same of_left s t rs → second_sum rs t u ≡ second_sum rs s u
  second_same s t u [] e = refl
  second_same s t u (r ∷ rs) e = let a = e.0 in let b = second_same s t u rs e.1 in λ j. unless_kept r.kept (u.uses r.form - a j) + b j

  -- an item that is expanded anew may use more
  abbrev IfAnew : Option KeptParts → Type 0 → Type 0
  IfAnew None P = P
  IfAnew (Some k) P = Unit {0}

  abbrev More : ScopedState → ScopedState → List LeftOrKept → Type 0
  More s t rs = AllOf (λ (r : LeftOrKept). IfAnew r.kept (s.uses r.form ≤ t.uses r.form)) rs

  if_anew : (o : Option KeptParts) {P : Type 0} → P → IfAnew o P
  if_anew None h = h
  if_anew (Some k) h = tt

  if_more : (o : Option KeptParts) {P Q : Type 0} → (P → Q) → IfAnew o P → IfAnew o Q
  if_more None f h = f h
  if_more (Some k) f h = tt

  abbrev Finished : List LeftOrKept → ScopedState → Type 0
  Finished rs s = (rests_worked known turns fs rs s ≡ second_sum rs s (finished_keeping known turns fs rs s).1) × More s (finished_keeping known turns fs rs s).1 rs

  more_same : (s t : ScopedState) (rs : List LeftOrKept) → Same of_left s t rs → More s t rs
  more_same s t rs e = all_of_more (λ (r : LeftOrKept). t.uses r.form ≡ s.uses r.form) (λ (r : LeftOrKept). IfAnew r.kept (s.uses r.form ≤ t.uses r.form)) (λ r a. if_anew r.kept (omega (arith, a))) rs e

  more_from : (s t u : ScopedState) (rs : List LeftOrKept) → Same of_left s t rs → More t u rs → More s u rs
  more_from s t u [] e h = tt
  more_from s t u (r ∷ rs) e h = (if_more r.kept (subst (λ n. n ≤ u.uses r.form) e.0) h.0, more_from s t u rs e.1 h.1)

  -- behind a form
  abbrev onto : LeftOrKept → List LeftOrKept → Option (Result Parts Broken) × ScopedState → Option (List Formed) × ScopedState
  onto r rs q = q then λ parts t. finished_keeping known turns fs rs t then λ rest. going (record { form = r.form; result = parts; counted = (counted known).counted t } ∷ rest)

  finished_sum : (rs : List LeftOrKept) (s : ScopedState) → Distinct of_left rs → Finished rs s
  finished_sum [] s d = (refl, tt)
  finished_sum (r ∷ rs) s d =
      let v = around_form known r.form [] s in
      go (comes_to v turns fs r.left r.kept) (more_here v r.left r.kept) (same_others of_left r.form s (comes_to v turns fs r.left r.kept).1 (rest_others v turns fs r.left r.kept) rs d.0) (λ t. finished_sum rs t d.1)
    where
      more_here : (v : Around) (l : Result (Left Ident) Broken) (o : Option KeptParts) → IfAnew o (v.state.uses v.state.form ≤ (comes_to v turns fs l o).1.uses v.state.form)
      more_here v l None = rest_more v turns fs l
      more_here v l (Some k) = tt

      go : (q : Option (Result Parts Broken) × ScopedState) → IfAnew r.kept (s.uses r.form ≤ q.1.uses r.form) → Same of_left s q.1 rs → ((t : ScopedState) → Finished rs t)
          → (unless_kept r.kept (begun_by r.form s q.1) + worked_then (λ p t. rests_worked known turns fs rs t) q ≡ second_sum (r ∷ rs) s (onto r rs q).1) × More s (onto r rs q).1 (r ∷ rs)
      go (None, t) m e law = ((let b = second_zero s t rs e in omega (arith, b)), (m, more_same s t rs e))
      go (Some p, t) m e law =
          let u = finished_keeping known turns fs rs t in
          let there = law t in
          let head : u.1.uses r.form ≡ t.uses r.form = rests_others known turns fs r.form rs t d.0 in
          let a = ap (λ n. unless_kept r.kept (n - s.uses r.form)) head in
          let b = there.0 ∙ second_same s t u.1 rs e in
          let c : unless_kept r.kept (begun_by r.form s t) + rests_worked known turns fs rs t ≡ second_sum (r ∷ rs) s u.1 = omega (arith, a, b) in
          let end = sym (then_state u (λ rest. record { form = r.form; result = p; counted = (counted known).counted t } ∷ rest)) in
          subst (λ (z : ScopedState). (unless_kept r.kept (begun_by r.form s t) + rests_worked known turns fs rs t ≡ second_sum (r ∷ rs) s z) × More s z (r ∷ rs)) end
          (c, (if_more r.kept (subst (λ n. s.uses r.form ≤ n) (sym head)) m, more_from s t u.1 rs e there.1))

  -- ---- what is told

  told : (rs : List LeftOrKept) (s : ScopedState) → Distinct of_left rs → OnWork (λ t. Unit {0}) (λ t fs. UsesTold fs t) (finished_keeping known turns fs rs s)
  told [] s d = tt
  told (r ∷ rs) s d =
      let v = around_form known r.form [] s in
      go (comes_to v turns fs r.left r.kept) (rest_form v turns fs r.left r.kept) (λ t. told rs t d.1)
    where
      one : (p : Result Parts Broken) (t : ScopedState) → t.form ≡ r.form → (u : Option (List Formed) × ScopedState) → u.1.uses r.form ≡ t.uses r.form → OnWork (λ t. Unit {0}) (λ t fs. UsesTold fs t) u
          → OnWork (λ t. Unit {0}) (λ t fs. UsesTold fs t) (u then λ rest. going (record { form = r.form; result = p; counted = (counted known).counted t } ∷ rest))
      one p t e (None, u) b h = tt
      one p t e (Some rest, u) b h = (ap t.uses e ∙ sym b, h)

      go : (q : Option (Result Parts Broken) × ScopedState) → q.1.form ≡ r.form → ((t : ScopedState) → OnWork (λ t. Unit {0}) (λ t fs. UsesTold fs t) (finished_keeping known turns fs rs t)) → OnWork (λ t. Unit {0}) (λ t fs. UsesTold fs t) (onto r rs q)
      go (None, t) e law = tt
      go (Some p, t) e law = one p t e (finished_keeping known turns fs rs t) (rests_others known turns fs r.form rs t d.0) (law t)

  -- ---- together

  ended_one : (o : Option KeptForm) (n : ℕ) → FirstWithin o n → unless_kept o n ≡ not_kept o n
  ended_one None n e = refl
  ended_one (Some k) n e = go k.parts
    where
      go : (p : Option KeptParts) → 0 ≡ rest_of p k.aside.moment.uses n
      go None = sym e
      go (Some c) = refl

  ended_sum : (t : ScopedState) (xs : List FormOrKept) → FirstsWithin t xs → first_sum xs t ≡ uses_not_kept xs t
  ended_sum t [] h = refl
  ended_sum t (x ∷ xs) h = let a = ended_one x.kept (t.uses x.form) h.0 in let b = ended_sum t xs h.1 in λ j. a j + b j

  anew_one : (p : Option KeptParts) (a b : ℕ) → p ≡ None → IfAnew p (a ≤ b) → a + unless_kept p (b - a) ≡ b
  anew_one None a b e h = (let le : a ≤ b = h in omega (arith, le))
  anew_one (Some k) a b e h = let z : Some k ≡ None = e in absurd cc

  both_one : (o : Option KeptForm) (p : Option KeptParts) (a b : ℕ) → Kin o p → FirstIs o a → IfAnew p (a ≤ b) → unless_kept o a + unless_kept p (b - a) ≡ not_kept o b
  both_one None p a b k e h = anew_one p a b k h
  both_one (Some c) p a b k e h = (let d = k (b - a) in let f = go c.parts in omega (arith, d, f))
    where
      go : (q : Option KeptParts) → unless_kept q (b - a) ≡ rest_of q c.aside.moment.uses b
      go None = ap (λ m. b - m) e
      go (Some z) = refl

  both_sum : (s t : ScopedState) (rs : List LeftOrKept) (xs : List FormOrKept) → Match rs xs → FirstsAre s xs → More s t rs → first_sum xs s + second_sum rs s t ≡ uses_not_kept xs t
  both_sum s t [] [] m h k = refl
  both_sum s t [] (x ∷ xs) m h k = absurd m
  both_sum s t (r ∷ rs) [] m h k = absurd m
  both_sum s t (r ∷ rs) (x ∷ xs) m h k =
      let e = m.0 in
      let a : unless_kept x.kept (s.uses x.form) + unless_kept r.kept (t.uses r.form - s.uses r.form) ≡ not_kept x.kept (t.uses x.form) =
      (λ j. unless_kept x.kept (s.uses x.form) + unless_kept r.kept (t.uses (e j) - s.uses (e j)))
      ∙ both_one x.kept r.kept (s.uses x.form) (t.uses x.form) m.1 h.0 (subst (λ f. IfAnew r.kept (s.uses f ≤ t.uses f)) e k.0) in
      let b = both_sum s t rs xs m.2 h.1 k.1 in
      omega (arith, a, b)

  distinct_match : (rs : List LeftOrKept) (xs : List FormOrKept) → Match rs xs → Distinct of_form xs → Distinct of_left rs
  distinct_match [] xs m d = tt
  distinct_match (r ∷ rs) [] m d = absurd m
  distinct_match (r ∷ rs) (x ∷ xs) m d = (subst (λ f. Not of_left f rs) (sym m.0) (go rs xs m.2 d.0), distinct_match rs xs m.2 d.1)
    where
      go : (rs : List LeftOrKept) (xs : List FormOrKept) → Match rs xs → Not of_form x.form xs → Not of_left x.form rs
      go [] xs m d = tt
      go (r ∷ rs) [] m d = absurd m
      go (r ∷ rs) (y ∷ ys) m d = ((λ e. d.0 (e ∙ m.0)), go rs ys m.2 d.1)

pub worked_law : (known : Known) (turns : ℕ) (xs : List FormOrKept) (s : ScopedState) → Distinct of_form xs → Zero s xs → unit_worked known turns xs s ≡ uses_not_kept xs (unit_keeping known turns xs s).1
worked_law known turns xs s d z =
    let fs = numbers_of xs in
    let p = passed known turns fs xs [] s d z in go (passes_keeping known turns fs xs [] s) p.0 p.1
  where
    go : (q : Option (List LeftOrKept) × ScopedState) → passes_worked known turns (numbers_of xs) xs [] s ≡ first_sum xs q.1 → OnWork (λ t. FirstsWithin t xs) (λ t rs. Match rs xs × FirstsAre t xs) q
        → passes_worked known turns (numbers_of xs) xs [] s + worked_then (λ rs t. rests_worked known turns (numbers_of xs) rs t) q ≡ uses_not_kept xs (q then finished_keeping known turns (numbers_of xs)).1
    go (None, t) e h = (let a = ended_sum known turns (numbers_of xs) t xs h in omega (arith, e, a))
    go (Some rs, t) e h =
        let f = finished_sum known turns (numbers_of xs) rs t (distinct_match known turns (numbers_of xs) rs xs h.0 d) in
        let a = f.0 in
        let b = both_sum known turns (numbers_of xs) t (finished_keeping known turns (numbers_of xs) rs t).1 rs xs h.0 h.1 f.1 in
        omega (arith, e, a, b)

pub told_law : (known : Known) (turns : ℕ) (xs : List FormOrKept) (s : ScopedState) → Distinct of_form xs → Zero s xs → OnWork (λ t. Unit {0}) (λ t rs. UsesTold rs t) (unit_keeping known turns xs s)
told_law known turns xs s d z = go (passes_keeping known turns (numbers_of xs) xs [] s) (passed known turns (numbers_of xs) xs [] s d z).1
  where
    go : (q : Option (List LeftOrKept) × ScopedState) → OnWork (λ t. FirstsWithin t xs) (λ t rs. Match rs xs × FirstsAre t xs) q → OnWork (λ t. Unit {0}) (λ t rs. UsesTold rs t) (q then finished_keeping known turns (numbers_of xs))
    go (None, t) h = tt
    go (Some rs, t) h = told known turns (numbers_of xs) rs t (distinct_match known turns (numbers_of xs) rs xs h.0 d)
