-- In a unit at work each use whose place is kept is counted.
use Rattle.std.proofs.Common.{◌≡◌, ℕ, suc, List, [], ◌∷◌, map, Bool, true, false, cond, Option, Some, None, Result, refl, sym, ◌∙◌, subst}
use Rattle.std.specs.Prelude.{nat_lt}
use Rattle.scheme_model.specs.Ident.{Ident}
use Rattle.scheme_model.specs.Trees.{Tree}
use Rattle.scheme_model.specs.Requirements.{Known}
use Rattle.scheme_model.specs.Steps.{Broken}
use Rattle.scheme_model.specs.Order.{Note, Left, Pass, Ops, run}
use Rattle.scheme_model.specs.Expression.{expand}
use Rattle.scheme_model.specs.UnitExpansion.{max_total, Work, ◌then◌, going, nodes_in, unless_over, one_form, passes, form_parts, finished, unit}
use Rattle.scheme_model.specs.Substitution.{at_form, Clock}
use Rattle.scheme_model.specs.ScopedExpansion.{Frames, FramedIdent, UsePlace, ScopedState, next_number}
use Rattle.scheme_model.specs.CountedExpansion.{counted}
use Rattle.scheme_model.proofs.Clocks.{leq_counted, next_counted}
use Rattle.model_laws.proofs.FrameEras.{Era, Before, before_more, unit_worked}
use Rattle.model_laws.proofs.FrameAsks.{AllOf, all_of_more}
use Rattle.model_laws.proofs.UnitEnds.{OnWork}
use Rattle.form_laws.specs.Begins.{BindsInUnit}
use Rattle.kept_forms.proofs.OneSide.{MacrosOfUnit, OthersStay, over_keeps, then_keeps, run_keeps, parts_keep, DefinesMore, left_of_unit}

module _ (w : Era) (known : Known) where
  abbrev ops : Ops Frames Ident FramedIdent ScopedState
  ops = counted known

  abbrev pub IsPlaced : ScopedState → Type 0
  IsPlaced s = (s.unit ≡ w.unit) × AllOf (λ (p : UsePlace). Before w s.uses p.use_number) s.places

  begun_placed : (fs : Frames) (s : ScopedState) → IsPlaced s → IsPlaced (ops.begin_use fs s)
  begun_placed fs s h =
      let u = at_form s.form suc s.uses in
      let k = next_number s s.uses in
      let here : Before w u k = (subst (λ (z : ℕ). Before (record w { unit = z }) u k) h.0 (next_counted s.unit s.form s.uses, unit_worked (record w { unit = s.unit }) s.unit refl)) in
      (h.0, (here, all_of_more (λ (p : UsePlace). Before w s.uses p.use_number) (λ (p : UsePlace). Before w u p.use_number) (λ p q. before_more w s.uses u (leq_counted s.form s.uses) p.use_number q) s.places h.1))

  still_placed : (s t : ScopedState) → t.unit ≡ s.unit → t.form ≡ s.form → t.uses ≡ s.uses → t.places ≡ s.places → OthersStay s t → DefinesMore s t → IsPlaced s → IsPlaced t
  still_placed s t unit form uses places others more h = (unit ∙ h.0, subst (λ (z : Clock × List UsePlace). AllOf (λ (p : UsePlace). Before w z.0 p.use_number) z.1) (λ j. (sym uses j, sym places j)) h.1)

  abbrev Goes : {X : Type 0} → Option X × ScopedState → Type 0
  Goes q = IsPlaced q.1

  then_placed : {X Y : Type 0} (q : Option X × ScopedState) (f : X → Work ScopedState Y) → Goes q → ((x : X) (s : ScopedState) → IsPlaced s → Goes (f x s)) → Goes (q then f)
  then_placed q f h next = then_keeps known IsPlaced q f h next

  run_placed : (turns : ℕ) (t : Tree Ident) (ns : List (Note FramedIdent)) (s : ScopedState) → IsPlaced s → let q = run (counted known) turns [] (one_form t ns) s in IsPlaced q.1 × MacrosOfUnit q.0.left
  run_placed turns t ns s h =
      let x = run_keeps known IsPlaced begun_placed still_placed BindsInUnit (λ s h. tt) turns t ns s h in (x.0, left_of_unit (run (counted known) turns [] (one_form t ns) s).0.left x.1)

  module _ (turns : ℕ) (fs : List ℕ) where
    parts_goes : (r : Result (Left Ident) Broken) (s : ScopedState) → IsPlaced s → Goes (form_parts (counted known) (expand (counted known) turns) [] fs r s)
    parts_goes r s h = parts_keep known IsPlaced begun_placed still_placed BindsInUnit (λ s h. tt) turns fs r s h

    on_placed : {X : Type 0} (q : Option X × ScopedState) → Goes q → OnWork IsPlaced (λ t x. IsPlaced t) q
    on_placed (None, s) h = h
    on_placed (Some x, s) h = h

    pub parts_placed : (r : Result (Left Ident) Broken) (s : ScopedState) → IsPlaced s → OnWork IsPlaced (λ t x. IsPlaced t) (form_parts (counted known) (expand (counted known) turns) [] fs r s)
    parts_placed r s h = on_placed (form_parts ops (expand ops turns) [] fs r s) (parts_goes r s h)

    pub pass_placed : (t : Tree Ident) (ns : List (Note FramedIdent)) (s : ScopedState) → IsPlaced s
        → OnWork IsPlaced (λ u q. IsPlaced u × MacrosOfUnit q.left) (unless_over (counted known) fs (run (counted known) turns [] (one_form t ns) s))
    pass_placed t ns s h = let q = run ops turns [] (one_form t ns) s in go q (run_placed turns t ns s h) (nat_lt max_total (nodes_in ops fs q.1))
      where
        go : (q : Pass Ident FramedIdent × ScopedState) → IsPlaced q.1 × MacrosOfUnit q.0.left → (b : Bool) → OnWork IsPlaced (λ u q. IsPlaced u × MacrosOfUnit q.left) (cond {A = Option (Pass Ident FramedIdent) × ScopedState} b (None, q.1) (Some q.0, q.1))
        go q k true = k.0
        go q k false = k

    passes_placed : (ts : List (ℕ × Tree Ident)) (ns : List (Note FramedIdent)) (s : ScopedState) → IsPlaced s → Goes (passes ops turns [] fs ts ns s)
    passes_placed [] ns s h = h
    passes_placed (t ∷ ts) ns s h =
        let q = run ops turns [] (one_form t.1 ns) (ops.turn t.0 s) in
        then_placed (unless_over ops fs q) (λ q t1. passes ops turns [] fs ts q.notes t1 then λ rest. going ((t.0, q.left) ∷ rest)) (over_keeps known IsPlaced fs q (run_placed turns t.1 ns (ops.turn t.0 s) h).0)
        (λ q t1 k. then_placed (passes ops turns [] fs ts q.notes t1) (λ rest. going ((t.0, q.left) ∷ rest)) (passes_placed ts q.notes t1 k) (λ rest t2 z. z))

    finished_placed : (rs : List (ℕ × Result (Left Ident) Broken)) (s : ScopedState) → IsPlaced s → Goes (finished ops (expand ops turns) [] fs rs s)
    finished_placed [] s h = h
    finished_placed (r ∷ rs) s h =
        then_placed (form_parts ops (expand ops turns) [] fs r.1 (ops.turn r.0 s)) (λ parts t. finished ops (expand ops turns) [] fs rs t then λ rest. going (record { form = r.0; result = parts; counted = ops.counted t } ∷ rest)) (parts_goes r.1 (ops.turn r.0 s) h)
        (λ parts t k. then_placed (finished ops (expand ops turns) [] fs rs t) (λ rest. going (record { form = r.0; result = parts; counted = ops.counted t } ∷ rest)) (finished_placed rs t k) (λ rest t2 z. z))

  pub unit_placed : (turns : ℕ) (ts : List (ℕ × Tree Ident)) (s : ScopedState) → IsPlaced s → IsPlaced (unit (counted known) turns [] ts s).1
  unit_placed turns ts s h =
      let fs = map (λ (t : ℕ × Tree Ident). t.0) ts in
      then_placed (passes ops turns [] fs ts [] s) (finished ops (expand ops turns) [] fs) (passes_placed turns fs ts [] s h) (λ rs t k. finished_placed turns fs rs t k)
