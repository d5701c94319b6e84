-- Where every form is expanded, each turn that comes has around it what the form of that number that is worked on has.
use Rattle.std.proofs.Common.{◌≡◌, inl, inr, ℕ, List, [], ◌∷◌, map, Bool, true, false, cond, Option, Some, None, Result, refl, sym, ap, ◌∙◌, subst}
use Rattle.std.specs.Prelude.{nat_lt}
use Rattle.scheme_model.specs.Ident.{Ident}
use Rattle.scheme_model.specs.Trees.{Tree}
use Rattle.scheme_model.specs.Requirements.{Known}
use Rattle.scheme_model.specs.Cores.{Parts}
use Rattle.scheme_model.specs.Steps.{Broken}
use Rattle.scheme_model.specs.Order.{Note, Left, Pass}
use Rattle.scheme_model.specs.UnitExpansion.{◌then◌, going, max_total, nodes_in, unless_over}
use Rattle.scheme_model.specs.Program.{enough_turns}
use Rattle.scheme_model.specs.ScopedExpansion.{FramedIdent, ScopedState}
use Rattle.scheme_model.specs.CountedExpansion.{counted}
use Rattle.scheme_model.specs.Questions.{Around}
use Rattle.scheme_model.specs.FormsAlike.{set_aside, finish}
use Rattle.model_laws.proofs.FrameAsks.{AllOf}
use Rattle.kept_forms.specs.KeptForms.{FormOrKept, LeftOrKept, form_of, comes_to, numbers_of}
use Rattle.kept_forms.specs.KeptForms as kept
use Rattle.kept_forms.specs.Carried.{Onwards}
use Rattle.kept_forms.proofs.UsesCounted.{Not, Distinct, of_form}
use Rattle.forgotten_locals.specs.Ways.{anew, left_of, firsts_by, AtFirsts, AtSeconds, AtTurns}
use Rattle.carried_forms.specs.Worked.{WorkedForm, GoneForm, around_form, gone_through, gone_on, worked_forms}
use Rattle.carried_forms.specs.Carried.{IsIn}
use Rattle.carried_laws.proofs.Alone.{WentTo, form_went}
use Rattle.kept_turns.proofs.Onward.{onwards_all}
use Rattle.kept_turns.proofs.EachTurn.{firsts_with, seconds_with}

module _ (known : Known) (fs : List ℕ) where
  -- what holds of each form holds of it at its turn
  firsts_each : (R : FormOrKept → Type 0) (xs : List FormOrKept) (ns : List (Note FramedIdent)) (s : ScopedState) → AllOf R xs → AtFirsts (λ v x. R x) (anew enough_turns) known fs xs ns s
  firsts_each R [] ns s h = tt
  firsts_each R (x ∷ xs) ns s h =
      let v = kept.around_form known x.form ns s in
      (h.0, onwards_all (λ q t. AtFirsts (λ v x. R x) (anew enough_turns) known fs xs q.notes t) (λ q t. firsts_each R xs q.notes t h.1) (unless_over (counted known) fs (set_aside v enough_turns x.tree)))

  seconds_each : (R : LeftOrKept → Type 0) (rs : List LeftOrKept) (s : ScopedState) → AllOf R rs → AtSeconds (λ v r. R r) (anew enough_turns) known fs rs s
  seconds_each R [] s h = tt
  seconds_each R (r ∷ rs) s h =
      let v = kept.around_form known r.form [] s in
      (h.0, onwards_all (λ p t. AtSeconds (λ v r. R r) (anew enough_turns) known fs rs t) (λ p t. seconds_each R rs t h.1) (comes_to v enough_turns fs r.left None))

  -- ---- first turns

  gone_apart : (f : ℕ) (xs : List FormOrKept) (ns : List (Note FramedIdent)) (s : ScopedState) → Not of_form f xs → (g : GoneForm) → IsIn g (gone_through known (map form_of xs) ns s).0 → g.form ≡ f → ⊥
  gone_apart f [] ns s d g h e = absurd h
  gone_apart f (x ∷ xs) ns s d g (inl is) e = d.0 (sym e ∙ ap (λ (z : GoneForm). z.form) is)
  gone_apart f (x ∷ xs) ns s d g (inr h) e = let q = set_aside (around_form known ns s x.form) enough_turns x.tree in gone_apart f xs q.0.notes q.1 d.1 g h e

  -- the form of that number is gone through there
  abbrev GoneHere : List GoneForm → Around → FormOrKept → Type 0
  GoneHere gs v x = (g : GoneForm) → IsIn g gs → g.form ≡ x.form → g.around ≡ v

  -- with one more form, of another number
  more_gone : (g : GoneForm) (gs : List GoneForm) (v : Around) (x : FormOrKept) → GoneHere gs v x → (g.form ≡ x.form → ⊥) → GoneHere (g ∷ gs) v x
  more_gone g gs v x h d k (inl is) e = absurd (d (ap (λ (z : GoneForm). z.form) (sym is) ∙ e))
  more_gone g gs v x h d k (inr i) e = h k i e

  -- what is left of the forms, and of those that are gone through
  abbrev LeftOf : List GoneForm → List LeftOrKept → Type 0
  LeftOf [] [] = Unit {0}
  LeftOf [] (r ∷ rs) = ⊥
  LeftOf (g ∷ gs) [] = ⊥
  LeftOf (g ∷ gs) (r ∷ rs) = (r.form ≡ g.form) × (r.left ≡ g.left) × LeftOf gs rs

  abbrev Went : List GoneForm × ScopedState → List LeftOrKept → ScopedState → Type 0
  Went q rs t = LeftOf q.0 rs × (t ≡ q.1)

  firsts_gone : (xs : List FormOrKept) (ns : List (Note FramedIdent)) (s : ScopedState) → Distinct of_form xs → let q = gone_through known (map form_of xs) ns s in
      AtFirsts (GoneHere q.0) (anew enough_turns) known fs xs ns s × Onwards (Went q) (firsts_by (anew enough_turns) known fs xs ns s)
  firsts_gone [] ns s d = (tt, (tt, refl))
  firsts_gone (x ∷ xs) ns s d =
      let v = around_form known ns s x.form in
      let q = set_aside v enough_turns x.tree in
      let g : GoneForm = record { form = x.form; tree = x.tree; around = v; left = q.0.left } in
      let rest = gone_through known (map form_of xs) q.0.notes q.1 in
      let z = go v q (firsts_gone xs q.0.notes q.1 d.1) (firsts_each (λ y. x.form ≡ y.form → ⊥) xs q.0.notes q.1 d.0) (nat_lt max_total (nodes_in (counted known) fs q.1)) in
      ((first g rest.0 (gone_apart x.form xs q.0.notes q.1 d.0), z.0), z.1)
    where
      first : (g : GoneForm) (gs : List GoneForm) → ((k : GoneForm) → IsIn k gs → k.form ≡ x.form → ⊥) → (k : GoneForm) → IsIn k (g ∷ gs) → k.form ≡ x.form → k.around ≡ g.around
      first g gs other k (inl is) e = ap (λ (z : GoneForm). z.around) is
      first g gs other k (inr i) e = absurd (other k i e)

      behind : (v : Around) (q : Pass Ident FramedIdent × ScopedState) (m : Option (List LeftOrKept) × ScopedState) → let rest = gone_through known (map form_of xs) q.0.notes q.1 in
          Onwards (Went rest) m → Onwards (Went (record { form = x.form; tree = x.tree; around = v; left = q.0.left } ∷ rest.0, rest.1)) (m then λ ls. going (left_of x v q.0 q.1 ∷ ls))
      behind v q (None, t) h = tt
      behind v q (Some ls, t) h = ((refl, refl, h.0), h.1)

      go : (v : Around) (q : Pass Ident FramedIdent × ScopedState) → let rest = gone_through known (map form_of xs) q.0.notes q.1 in
          AtFirsts (GoneHere rest.0) (anew enough_turns) known fs xs q.0.notes q.1 × Onwards (Went rest) (firsts_by (anew enough_turns) known fs xs q.0.notes q.1) → AtFirsts (λ v y. x.form ≡ y.form → ⊥) (anew enough_turns) known fs xs q.0.notes q.1
          → (over : Bool) → let g : GoneForm = record { form = x.form; tree = x.tree; around = v; left = q.0.left } in let m = cond {A = Option (Pass Ident FramedIdent) × ScopedState} over (None, q.1) (Some q.0, q.1) in
          Onwards (λ p t. AtFirsts (GoneHere (g ∷ rest.0)) (anew enough_turns) known fs xs p.notes t) m × Onwards (Went (g ∷ rest.0, rest.1)) (m then λ p t. firsts_by (anew enough_turns) known fs xs p.notes t then λ ls. going (left_of x v p t ∷ ls))
      go v q h d true = (tt, tt)
      go v q h d false =
          let rest = gone_through known (map form_of xs) q.0.notes q.1 in
          let g : GoneForm = record { form = x.form; tree = x.tree; around = v; left = q.0.left } in (
            firsts_with (anew enough_turns) known fs (GoneHere rest.0) (λ v y. x.form ≡ y.form → ⊥) (GoneHere (g ∷ rest.0)) (λ u y a b. more_gone g rest.0 u y a b) xs q.0.notes q.1 h.0 d,
            behind v q (firsts_by (anew enough_turns) known fs xs q.0.notes q.1) h.1,
          )

  -- ---- second turns

  on_apart : (f : ℕ) (gs : List GoneForm) (rs : List LeftOrKept) (s : ScopedState) → LeftOf gs rs → AllOf (λ (r : LeftOrKept). f ≡ r.form → ⊥) rs → (g : WorkedForm) → IsIn g (gone_on known gs s) → g.form ≡ f → ⊥
  on_apart f [] rs s l d g h e = absurd h
  on_apart f (k ∷ gs) [] s l d g h e = absurd l
  on_apart f (k ∷ gs) (r ∷ rs) s l d g (inl is) e = d.0 (sym e ∙ (ap (λ (z : WorkedForm). z.form) is ∙ sym l.0))
  on_apart f (k ∷ gs) (r ∷ rs) s l d g (inr h) e = on_apart f gs rs (finish (around_form known [] s k.form) enough_turns k.left).1 l.2 d.1 g h e

  abbrev WorkedHere : List WorkedForm → Around → LeftOrKept → Type 0
  WorkedHere gs v r = (g : WorkedForm) → IsIn g gs → g.form ≡ r.form → g.later ≡ v

  more_worked : (g : WorkedForm) (gs : List WorkedForm) (v : Around) (r : LeftOrKept) → WorkedHere gs v r → (g.form ≡ r.form → ⊥) → WorkedHere (g ∷ gs) v r
  more_worked g gs v r h d k (inl is) e = absurd (d (ap (λ (z : WorkedForm). z.form) (sym is) ∙ e))
  more_worked g gs v r h d k (inr i) e = h k i e

  seconds_gone : (gs : List GoneForm) (rs : List LeftOrKept) (s : ScopedState) → LeftOf gs rs → Distinct (λ (r : LeftOrKept). r.form) rs → AtSeconds (WorkedHere (gone_on known gs s)) (anew enough_turns) known fs rs s
  seconds_gone gs [] s l d = tt
  seconds_gone [] (r ∷ rs) s l d = absurd l
  seconds_gone (g ∷ gs) (r ∷ rs) s l d =
      let w = around_form known [] s g.form in
      let u = (finish w enough_turns g.left).1 in
      let k : WorkedForm = record { form = g.form; tree = g.tree; around = g.around; left = g.left; later = w } in
      let v = kept.around_form known r.form [] s in
      let q = comes_to v enough_turns fs r.left None in
      let same = l.0 in let left = l.1 in
      let to : WentTo q u = subst (WentTo q) (λ j. (finish (around_form known [] s (same j)) enough_turns (left j)).1) (form_went known enough_turns fs r.left v.state) in
      let tail = gone_on known gs u in
      let more = seconds_with (anew enough_turns) known fs (WorkedHere tail) (λ v y. r.form ≡ y.form → ⊥) (WorkedHere (k ∷ tail)) (λ z y a b. more_worked k tail z y a (λ e. b (same ∙ e))) rs u (seconds_gone gs rs u l.2 d.1) (seconds_each (λ y. r.form ≡ y.form → ⊥) rs u d.0) in
      (first k tail (on_apart r.form gs rs u l.2 d.0) (λ j. around_form known [] s (sym same j)), go (λ t. AtSeconds (WorkedHere (k ∷ tail)) (anew enough_turns) known fs rs t) q u to more)
    where
      first : (k : WorkedForm) (tail : List WorkedForm) → ((z : WorkedForm) → IsIn z tail → z.form ≡ r.form → ⊥) → {v : Around} → k.later ≡ v → (z : WorkedForm) → IsIn z (k ∷ tail) → z.form ≡ r.form → z.later ≡ v
      first k tail other here z (inl is) e = ap (λ (y : WorkedForm). y.later) is ∙ here
      first k tail other here z (inr i) e = absurd (other z i e)

      go : (P : ScopedState → Type 0) (q : Option (Result Parts Broken) × ScopedState) (u : ScopedState) → WentTo q u → P u → Onwards (λ p t. P t) q
      go P (None, t) u e h = tt
      go P (Some p, t) u e h = subst P (sym e) h

  -- ---- the unit

  distinct_left : (gs : List GoneForm) (rs : List LeftOrKept) → LeftOf gs rs → Distinct (λ (g : GoneForm). g.form) gs → Distinct (λ (r : LeftOrKept). r.form) rs
  distinct_left gs [] l d = tt
  distinct_left [] (r ∷ rs) l d = absurd l
  distinct_left (g ∷ gs) (r ∷ rs) l d = (others gs rs l.2 d.0, distinct_left gs rs l.2 d.1)
    where
      others : (ks : List GoneForm) (qs : List LeftOrKept) → LeftOf ks qs → AllOf (λ (k : GoneForm). g.form ≡ k.form → ⊥) ks → AllOf (λ (q : LeftOrKept). r.form ≡ q.form → ⊥) qs
      others ks [] l2 h = tt
      others [] (q ∷ qs) l2 h = absurd l2
      others (k ∷ ks) (q ∷ qs) l2 h = ((λ e. h.0 (sym l.0 ∙ (e ∙ l2.0))), others ks qs l2.2 h.1)

  gone_distinct : (xs : List FormOrKept) (ns : List (Note FramedIdent)) (s : ScopedState) → Distinct of_form xs → Distinct (λ (g : GoneForm). g.form) (gone_through known (map form_of xs) ns s).0
  gone_distinct [] ns s d = tt
  gone_distinct (x ∷ xs) ns s d = let q = set_aside (around_form known ns s x.form) enough_turns x.tree in (others xs q.0.notes q.1 d.0, gone_distinct xs q.0.notes q.1 d.1)
    where
      others : (ys : List FormOrKept) (ms : List (Note FramedIdent)) (t : ScopedState) → Not of_form x.form ys → AllOf (λ (k : GoneForm). x.form ≡ k.form → ⊥) (gone_through known (map form_of ys) ms t).0
      others [] ms t h = tt
      others (y ∷ ys) ms t h = let q = set_aside (around_form known ms t y.form) enough_turns y.tree in (h.0, others ys q.0.notes q.1 h.1)

-- ---- the form that is worked on

abbrev pub Worked : List WorkedForm → Around → FormOrKept → Type 0
Worked gs v x = (g : WorkedForm) → IsIn g gs → g.form ≡ x.form → g.around ≡ v

abbrev pub WorkedLater : List WorkedForm → Around → LeftOrKept → Type 0
WorkedLater gs v r = (g : WorkedForm) → IsIn g gs → g.form ≡ r.form → g.later ≡ v

gone_before : (known : Known) (gs : List GoneForm) (s : ScopedState) (g : WorkedForm) → IsIn g (gone_on known gs s) → (k : GoneForm) × IsIn k gs × (k.form ≡ g.form) × (k.around ≡ g.around)
gone_before known [] s g h = absurd h
gone_before known (k ∷ gs) s g (inl is) = (k, inl refl, ap (λ (z : WorkedForm). z.form) (sym is), ap (λ (z : WorkedForm). z.around) (sym is))
gone_before known (k ∷ gs) s g (inr h) = let z = gone_before known gs (finish (around_form known [] s k.form) enough_turns k.left).1 g h in (z.0, inr z.1, z.2, z.3)

module _ (known : Known) (xs : List FormOrKept) (s : ScopedState) (d : Distinct of_form xs) where
  abbrev fs : List ℕ
  fs = numbers_of xs

  abbrev q : List GoneForm × ScopedState
  q = gone_through known (map form_of xs) [] s

  abbrev gs : List WorkedForm
  gs = worked_forms known (map form_of xs) s

  worked_here : (v : Around) (x : FormOrKept) → GoneHere known fs q.0 v x → Worked gs v x
  worked_here v x h g i e = let z = gone_before known q.0 q.1 g i in sym z.3 ∙ h z.0 z.1 (z.2 ∙ e)

  pub turns_anew : AtTurns (Worked gs) (WorkedLater gs) (anew enough_turns) known xs s
  turns_anew =
      let z = firsts_gone known fs xs [] s d in (
        firsts_with (anew enough_turns) known fs (GoneHere known fs q.0) (GoneHere known fs q.0) (Worked gs) (λ v x a b. worked_here v x a) xs [] s z.0 z.0,
        go (firsts_by (anew enough_turns) known fs xs [] s) z.1,
      )
    where
      go : (m : Option (List LeftOrKept) × ScopedState) → Onwards (Went known fs q) m → Onwards (λ rs t. AtSeconds (WorkedLater gs) (anew enough_turns) known fs rs t) m
      go (None, t) h = tt
      go (Some rs, t) h =
          subst (λ u. AtSeconds (WorkedLater gs) (anew enough_turns) known fs rs u) (sym h.1) (seconds_gone known fs q.0 rs q.1 h.0 (distinct_left known fs q.0 rs h.0 (gone_distinct known fs xs [] s d)))
