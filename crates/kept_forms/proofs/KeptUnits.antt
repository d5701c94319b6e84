-- A unit of which some forms are kept comes to what it comes to where every form is expanded, and each of its forms may begin where its
-- turn comes.
use Rattle.std.proofs.Common.{◌≡◌, ℕ, List, [], ◌∷◌, map, Option, Some, None, Result, refl, sym, ap, ◌∙◌, subst, Bool, true, false, cond}
use Rattle.std.specs.Prelude.{nat_lt}
use Rattle.scheme_model.specs.Ident.{Ident}
use Rattle.scheme_model.specs.Requirements.{Known}
use Rattle.scheme_model.specs.Cores.{Parts}
use Rattle.scheme_model.specs.Steps.{Broken}
use Rattle.scheme_model.specs.Questions.{Moment}
use Rattle.scheme_model.specs.Order.{Left, Note, Pass}
use Rattle.scheme_model.specs.Expression.{expand}
use Rattle.scheme_model.specs.UnitExpansion.{unless_over, passes, finished, unit, max_total, nodes_in}
use Rattle.scheme_model.specs.ScopedExpansion.{FramedIdent, ScopedState}
use Rattle.scheme_model.specs.CountedExpansion.{counted}
use Rattle.scheme_model.specs.FormsAlike.{set_aside, bare_note, bare_state}
use Rattle.model_laws.proofs.FrameEras.{Era}
use Rattle.model_laws.proofs.FrameAsks.{AllOf, all_of_more}
use Rattle.model_laws.proofs.FrameStates.{Grows, grows_itself, grows_then}
use Rattle.model_laws.proofs.FrameLeaves.{TreeAll, tree_more}
use Rattle.model_laws.proofs.FrameUnit.{UnitLeaf, leaf_later}
use Rattle.model_laws.proofs.UnitEnds.{Both, both_end, both_go, both_at, both_then, both_over, OnWork}
use Rattle.form_laws.specs.Begins.{Each}
use Rattle.kept_forms.specs.KeptForms.{FormOrKept, form_of, around_form, goes_through, LeftOrKept, passes_keeping, finished_keeping, numbers_of, unit_keeping, comes_to, counts_at, KeptParts, rest_kept}
use Rattle.kept_forms.specs.Carried.{Onwards, PassesKept, RestsKept, UnitKept, PassesBegin, RestsBegin, UnitBegins, SameWork, FormFits}
use Rattle.kept_forms.proofs.Bares.{bare_around, form_begins_too, rest_begins_too}
use Rattle.kept_forms.proofs.Fronts.{EndedLike, GivesLike, nodes_like}
use Rattle.kept_forms.proofs.OneForm.{PassLike, pass_like, BegunAt, rest_like}
use Rattle.kept_forms.proofs.UsesCounted.{pass_counts, rest_counts, Distinct, of_form, of_left}
use Rattle.kept_forms.proofs.Numbers.{LeftIs, left_is}
use Rattle.kept_forms.proofs.Ready.{AllNew, Ready, new_later, ready_later, passes_ready}
use Rattle.kept_forms.proofs.Between.{Between, form_may_begin, BetweenRests, between_rests, Stays, stays_later, rest_may_begin, AfterPass, after_pass, after_rest}

-- ---- what is known of both sides

onwards_work : {S X : Type 0} (P : X → S → Type 0) (q : Option X × S) → Onwards P q → OnWork (λ s. Unit {0}) (λ s x. P x s) q
onwards_work P (None, s) h = tt
onwards_work P (Some x, s) h = h

both_learn : {S T X Y : Type 0} {Ended : S → T → Type 0} {Going : S → T → X → Y → Type 0} {q : Option X × S} {m : Option Y × T} (Q : S → X → Type 0) (R : Y → T → Type 0)
    → OnWork (λ s. Unit {0}) Q q → Onwards R m → Both Ended Going q m → Both Ended (λ s t x y. Q s x × R y t × Going s t x y) q m
both_learn Q R k l (both_end s t e d h) = both_end s t e d h
both_learn Q R k l (both_go x y s t e d h) = both_go x y s t e d (subst (OnWork (λ s. Unit {0}) Q) e k, subst (Onwards R) d l, h)

onwards_of : {S T X Y : Type 0} {Ended : S → T → Type 0} {Going : S → T → X → Y → Type 0} {q : Option X × S} {m : Option Y × T} (P : Y → T → Type 0)
    → ((s : S) (t : T) (x : X) (y : Y) → Going s t x y → P y t) → Both Ended Going q m → Onwards P m
onwards_of P f (both_end s t e d h) = subst (Onwards P) (sym d) tt
onwards_of P f (both_go x y s t e d h) = subst (Onwards P) (sym d) (f s t x y h)

onwards_and : {S X : Type 0} (P : X → S → Type 0) (R : S → Type 0) (q : Option X × S) → Onwards P q → R q.1 → Onwards (λ x s. P x s × R s) q
onwards_and P R (None, s) h k = tt
onwards_and P R (Some x, s) h k = (h, k)

onwards_join : {S X : Type 0} (P Q : X → S → Type 0) (q : Option X × S) → Onwards P q → OnWork (λ s. Unit {0}) (λ s x. Q x s) q → Onwards (λ x s. P x s × Q x s) q
onwards_join P Q (None, s) h k = tt
onwards_join P Q (Some x, s) h k = (h, k)

onwards_both : {S X : Type 0} (P Q : X → S → Type 0) (q : Option X × S) → Onwards P q → Onwards Q q → Onwards (λ x s. P x s × Q x s) q
onwards_both P Q (None, s) h k = tt
onwards_both P Q (Some x, s) h k = (h, k)

onwards_over : {X : Type 0} (known : Known) (fs : List ℕ) (P : X → ScopedState → Type 0) (q : X × ScopedState) → P q.0 q.1 → Onwards P (unless_over (counted known) fs q)
onwards_over {X} known fs P q h = go (nat_lt max_total (nodes_in (counted known) fs q.1))
  where
    go : (b : Bool) → Onwards P (cond {A = Option X × ScopedState} b (None, q.1) (Some q.0, q.1))
    go true = tt
    go false = h

abbrev set_of : LeftOrKept → ℕ × Result (Left Ident) Broken
set_of r = (r.form, r.left)

module _ (w : Era) (known : Known) (turns : ℕ) (fs : List ℕ) where
  around_like : (form : ℕ) (ns ms : List (Note FramedIdent)) (s t : ScopedState) → bare_state t ≡ bare_state s → map bare_note ms ≡ map bare_note ns → bare_around (around_form known form ms t) ≡ bare_around (around_form known form ns s)
  around_like form ns ms s t e d = λ j. record { state = record (e j) { form = form }; known = known; notes = d j }

  -- ---- what they set aside is expanded

  abbrev StaysSet : ScopedState → LeftOrKept → Type 0
  StaysSet s r = Stays w known s r.form r.left

  -- what is kept of the rest is of what it set aside
  abbrev LeftsAre : List LeftOrKept → Type 0
  LeftsAre rs = AllOf (λ (r : LeftOrKept). LeftIs r.left r.kept) rs

  record RestsLike (rs : List LeftOrKept) (s t : ScopedState) : Type 0 where
    both : Both EndedLike GivesLike (finished (counted known) (expand (counted known) turns) [] fs (map set_of rs) t) (finished_keeping known turns fs rs s)
    begins : RestsBegin known turns fs rs s

  abbrev RestsGo : List LeftOrKept → Type 0
  RestsGo rs = (s t : ScopedState) → bare_state t ≡ bare_state s → BetweenRests w known t → AllOf (StaysSet t) rs → LeftsAre rs → Distinct of_left rs → Ready s rs → RestsKept known turns fs rs s → RestsLike rs s t

  rests_like : (rs : List LeftOrKept) → RestsGo rs
  rests_like [] s t e b l o d n k = record { both = both_go [] [] t s refl refl (e, refl); begins = tt }
  rests_like (r ∷ rs) s t e b l o d n k =
      let v = around_form known r.form [] t in let v2 = around_form known r.form [] s in
      let same = around_like r.form [] [] s t e refl in
      let begin = rest_may_begin w known r.form t b r.left l.0 in
      let P : Result Parts Broken → ScopedState → Type 0 = λ p u. RestsKept known turns fs rs u in
      let m = comes_to v2 turns fs r.left r.kept in
      let R : ScopedState → Type 0 = λ u. Ready u rs in
      let first = both_learn (λ u x. BetweenRests w known u × Grows w t u) (λ p u. P p u × R u) (after_rest w known turns fs r.form t b r.left l.0)
      (onwards_and P R m k.1 (ready_later r.form s m.1 (rest_counts v2 turns fs r.left r.kept) rs d.0 n.1)) (rest_like v2 v same turns fs r.left r.kept o.0 (begun_here (counts_at r.form s) r.counts r.kept n.0.0 n.0.1) begin k.0) in
      record {
        both = both_then _ _ first (λ x y u u2 z.
            let a = z.2.1 in
            let c : (counted known).counted u2 ≡ (counted known).counted u = ap (λ (q : ScopedState). (counted known).counted q) (sym z.2.0) in
            both_then _ _ (next_like rs (rests_like rs) t u u2 z.0 l.1 z.2.0 o.1 d.1 z.1.1 z.1.0).both (λ xs ys u3 u4 g. both_go _ _ u3 u4 refl refl (g.0, (let d = g.1 in λ j. record { form = r.form; result = a j; counted = c j } ∷ d j))));
        begins = (rest_begins_too v2 v same r.left begin, n.0.0, onwards_of (λ p u. RestsBegin known turns fs rs u) (λ u u2 x y z. (next_like rs (rests_like rs) t u u2 z.0 l.1 z.2.0 o.1 d.1 z.1.1 z.1.0).begins) first);
      }
    where
      begun_here : (m n : Moment) (o : Option KeptParts) → m ≡ n → BegunAt n o → BegunAt m o
      begun_here m n None e h = tt
      begun_here m n (Some k) e h = e ∙ h

      next_like : (rs : List LeftOrKept) → RestsGo rs → (t u u2 : ScopedState) → BetweenRests w known u × Grows w t u → AllOf (StaysSet t) rs → bare_state u ≡ bare_state u2 → LeftsAre rs → Distinct of_left rs → Ready u2 rs → RestsKept known turns fs rs u2 → RestsLike rs u2 u
      next_like rs law t u u2 b l e o d n k = law u2 u e b.0 (all_of_more (StaysSet t) (StaysSet u) (λ r q. stays_later w known t u b.1 r.form r.left q) rs l) o d n k

  -- ---- the forms gone through

  abbrev HeldTree : ScopedState → FormOrKept → Type 0
  HeldTree s x = TreeAll (UnitLeaf w known s) x.tree

  abbrev PassesGive : ScopedState → ScopedState → ScopedState → List (ℕ × Result (Left Ident) Broken) → List LeftOrKept → Type 0
  PassesGive t u u2 x y = (bare_state u ≡ bare_state u2) × (x ≡ map set_of y) × BetweenRests w known u × Grows w t u × AllOf (StaysSet u) y × LeftsAre y

  record PassesLike (xs : List FormOrKept) (ns ms : List (Note FramedIdent)) (s t : ScopedState) : Type 0 where
    both : Both EndedLike (PassesGive t) (passes (counted known) turns [] fs (map form_of xs) ms t) (passes_keeping known turns fs xs ns s)
    begins : PassesBegin known turns fs xs ns s

  abbrev AllFit : List FormOrKept → Type 0
  AllFit xs = Each (λ (x : FormOrKept). FormFits x.kept) xs

  abbrev PassesGo : List FormOrKept → Type 0
  PassesGo xs = (ns ms : List (Note FramedIdent)) (s t : ScopedState) → bare_state t ≡ bare_state s → map bare_note ms ≡ map bare_note ns → Between w known t ms → AllOf (HeldTree t) xs → AllFit xs → Distinct of_form xs → AllNew s xs → PassesKept known turns fs xs ns s → PassesLike xs ns ms s t

  -- one form gone through alike
  abbrev PassGives : ScopedState → ScopedState → Pass Ident FramedIdent → Pass Ident FramedIdent → Type 0
  PassGives u u2 x y = (bare_state u ≡ bare_state u2) × (x.left ≡ y.left) × (map bare_note x.notes ≡ map bare_note y.notes)

  over_like : (q m : Pass Ident FramedIdent × ScopedState) → PassLike q m → Both EndedLike PassGives (unless_over (counted known) fs q) (unless_over (counted known) fs m)
  over_like q m h = both_over (counted known) (counted known) fs q m (nodes_like known fs q.1 m.1 (sym h.state)) h.state (h.state, h.left, h.notes)

  passes_like : (xs : List FormOrKept) → PassesGo xs
  passes_like [] ns ms s t e d b l o a n k = record { both = both_go [] [] t s refl refl (e, refl, between_rests w known t ms b, grows_itself w t, tt, tt); begins = tt }
  passes_like (x ∷ xs) ns ms s t e d b l o a n k =
      let v = around_form known x.form ms t in let v2 = around_form known x.form ns s in
      let same = around_like x.form ns ms s t e d in
      let begin = form_may_begin w known x.form t ms b x.tree l.0 in
      let q = goes_through v2 turns x.tree x.kept in
      let P : Pass Ident FramedIdent → ScopedState → Type 0 = λ p u. PassesKept known turns fs xs p.notes u in
      let R : Pass Ident FramedIdent → ScopedState → Type 0 = λ p u. AllNew u xs × LeftIs p.left (rest_kept v2 x.kept) in
      let m = unless_over (counted known) fs q in
      let new = new_later x.form s q.1 (pass_counts v2 turns x.tree x.kept) xs a.0 n.1 in
      let there = onwards_both P R m k.1 (onwards_over known fs R q (new, left_is v2 turns x.tree x.kept k.0 o.0)) in
      let first = both_learn (λ u p. AfterPass w known turns fs t x.form u p) (λ p u. P p u × R p u) (after_pass w known turns fs x.form t ms b x.tree l.0) there
      (over_like (set_aside v turns x.tree) q (pass_like v2 v same turns x.tree x.kept n.0 begin k.0)) in
      record {
        both = both_then _ _ first (λ p q u u2 z.
            let f = z.2.1 in
            both_then _ _ (next_like xs (passes_like xs) t x.form p q u u2 z.0 l.1 z.2 o.1 a.1 z.1.1.0 z.1.0).both (λ ys zs u3 u4 g.
            let c = g.1 in
            both_go _ _ u3 u4 refl refl
            (g.0, (λ j. (x.form, f j) ∷ c j), g.2, grows_then w t u u3 z.0.1 g.3, (stays_later w known u u3 g.3 x.form q.left (subst (Stays w known u x.form) f z.0.2), g.4), (z.1.1.1, g.5))));
        begins = (form_begins_too v2 v same x.tree begin, n.0, onwards_of (λ q u. PassesBegin known turns fs xs q.notes u) (λ u u2 p q z. (next_like xs (passes_like xs) t x.form p q u u2 z.0 l.1 z.2 o.1 a.1 z.1.1.0 z.1.0).begins) first);
      }
    where
      next_like : (xs : List FormOrKept) → PassesGo xs → (t : ScopedState) (form : ℕ) (p q : Pass Ident FramedIdent) (u u2 : ScopedState) → AfterPass w known turns fs t form u p → AllOf (HeldTree t) xs → PassGives u u2 p q → AllFit xs → Distinct of_form xs → AllNew u2 xs
          → PassesKept known turns fs xs q.notes u2 → PassesLike xs q.notes p.notes u2 u
      next_like xs law t form p q u u2 b l g o a n k =
          law q.notes p.notes u2 u g.0 g.2 b.0 (all_of_more (HeldTree t) (HeldTree u) (λ x h. tree_more (UnitLeaf w known t) (UnitLeaf w known u) (leaf_later w known t u b.1) x.tree h) xs l) o a n k

-- ---- the unit, from starts that differ in times

same_work : {X : Type 0} {q m : Option X × ScopedState} → Both EndedLike GivesLike q m → SameWork m q
same_work (both_end s t e d h) = record { result = ap (λ z. z.0) e ∙ sym (ap (λ z. z.0) d); state = ap (λ z. bare_state z.1) e ∙ h ∙ sym (ap (λ z. bare_state z.1) d) }
same_work (both_go x y s t e d h) = record { result = ap (λ z. z.0) e ∙ sym (ap Some h.1) ∙ sym (ap (λ z. z.0) d); state = ap (λ z. bare_state z.1) e ∙ h.0 ∙ sym (ap (λ z. bare_state z.1) d) }

module _ (w : Era) (known : Known) (turns : ℕ) (xs : List FormOrKept) (s t : ScopedState) (e : bare_state t ≡ bare_state s) (b : Between w known t []) (l : AllOf (λ (x : FormOrKept). TreeAll (UnitLeaf w known t) x.tree) xs) (d : Distinct of_form xs) (n : AllNew s xs) (k : UnitKept known turns xs s) where
  abbrev fs : List ℕ
  fs = numbers_of xs

  gone : PassesLike w known turns fs xs [] [] s t
  gone = passes_like w known turns fs xs [] [] s t e refl b l k.0 d n k.1

  abbrev Set : Type 0
  Set = List (ℕ × Result (Left Ident) Broken)

  abbrev Behind : List LeftOrKept → ScopedState → Type 0
  Behind y u = RestsKept known turns fs y u × (Distinct of_left y × Ready u y)

  rests : (x : Set) (y : List LeftOrKept) (u u2 : ScopedState) → Behind y u2 → PassesGive w known turns fs t u u2 x y → RestsLike w known turns fs y u2 u
  rests x y u u2 r g = rests_like w known turns fs y u2 u g.0 g.2 g.4 g.5 r.1.0 r.1.1 r.0

  known_of : Both EndedLike (λ u u2 x y. Unit {0} × Behind y u2 × PassesGive w known turns fs t u u2 x y) (passes (counted known) turns [] fs (map form_of xs) [] t) (passes_keeping known turns fs xs [] s)
  known_of =
      let q = passes_keeping known turns fs xs [] s in
      both_learn (λ u x. Unit {0}) (λ y u. Behind y u) (on_unit (passes (counted known) turns [] fs (map form_of xs) [] t))
      (onwards_join (λ y u. RestsKept known turns fs y u) (λ y u. Distinct of_left y × Ready u y) q k.2 (passes_ready known turns fs xs [] s d k.0)) gone.both
    where
      on_unit : (q : Option Set × ScopedState) → OnWork (λ u. Unit {0}) (λ u x. Unit {0}) q
      on_unit (None, u) = tt
      on_unit (Some x, u) = tt

  pub unit_like : SameWork (unit_keeping known turns xs s) (unit (counted known) turns [] (map form_of xs) t)
  unit_like = same_work (both_then (finished (counted known) (expand (counted known) turns) [] fs) (finished_keeping known turns fs) known_of (λ x y u u2 z.
      both_at (ap (λ (rs : Set). finished (counted known) (expand (counted known) turns) [] fs rs u) z.2.1) refl (rests x y u u2 z.1 z.2).both))

  pub unit_begins : UnitBegins known turns xs s
  unit_begins = (gone.begins, onwards_of (λ y u. RestsBegin known turns fs y u) (λ u u2 x y z. (rests x y u u2 z.1 z.2).begins) known_of)
