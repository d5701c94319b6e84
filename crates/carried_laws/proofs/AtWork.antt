-- The forms of a unit at work, each gone through and then expanded: each may begin at both of its turns, and has counted there what it had.
use Rattle.std.proofs.Common.{◌≡◌, ℕ, List, [], ◌∷◌, Option, Some, None, Result, refl, sym, ◌∙◌, subst}
use Rattle.scheme_model.specs.Ident.{Ident}
use Rattle.scheme_model.specs.Trees.{Tree}
use Rattle.scheme_model.specs.Requirements.{Known}
use Rattle.scheme_model.specs.Steps.{Broken}
use Rattle.scheme_model.specs.Order.{Note, Left}
use Rattle.scheme_model.specs.Expression.{expand}
use Rattle.scheme_model.specs.UnitExpansion.{unless_over, form_parts}
use Rattle.scheme_model.specs.Program.{enough_turns}
use Rattle.scheme_model.specs.ScopedExpansion.{FramedIdent, ScopedState}
use Rattle.scheme_model.specs.CountedExpansion.{counted}
use Rattle.scheme_model.specs.Questions.{Around, Moment}
use Rattle.scheme_model.specs.FormsAlike.{set_aside, finish, start}
use Rattle.model_laws.proofs.FrameEras.{Era}
use Rattle.model_laws.proofs.FrameAsks.{AllOf, all_of_more}
use Rattle.model_laws.proofs.FrameStates.{Grows, grows_itself, grows_then}
use Rattle.model_laws.proofs.FrameLeaves.{TreeAll, tree_more}
use Rattle.model_laws.proofs.FrameUnit.{UnitLeaf, leaf_later}
use Rattle.model_laws.proofs.UnitEnds.{OnWork}
use Rattle.form_laws.specs.Begins.{Each, FormBegins}
use Rattle.kept_forms.specs.KeptForms.{counts_at}
use Rattle.kept_forms.specs.Carried.{no_counts}
use Rattle.kept_forms.proofs.UsesCounted.{pass_counts, rest_counts, Not, Distinct}
use Rattle.kept_forms.proofs.Between.{Between, form_may_begin, BetweenRests, between_rests, Stays, stays_later, rest_may_begin, AfterPass, after_pass, after_rest}
use Rattle.carried_forms.specs.Worked.{GoneForm, around_form, gone_through, gone_on, worked_forms}
use Rattle.carried_laws.specs.AtWork.{IsAtWork}
use Rattle.carried_laws.proofs.Alone.{WentTo, WentOn, form_went, form_on}

-- ---- forms gone through

abbrev pub of_gone : GoneForm → ℕ
of_gone g = g.form

abbrev pub of_tree : ℕ × Tree Ident → ℕ
of_tree t = t.0

-- where its turn came in this unit
pub record IsGone (unit : ℕ) (g : GoneForm) : Type 0 where
  pub unit_here : g.around.state.unit ≡ unit
  pub form_here : g.around.state.form ≡ g.form
  pub new : start g.around.state ≡ no_counts
  pub begun : FormBegins g.around g.tree
  pub set : g.left ≡ (set_aside g.around enough_turns g.tree).0.left

-- what it had counted when it was gone through
abbrev pub counts_of : GoneForm → Moment
counts_of g = counts_at g.form (set_aside g.around enough_turns g.tree).1

module _ (w : Era) (known : Known) where
  abbrev Held : ScopedState → ℕ × Tree Ident → Type 0
  Held s t = TreeAll (UnitLeaf w known s) t.1

  abbrev New : ScopedState → ℕ × Tree Ident → Type 0
  New s t = counts_at t.0 s ≡ no_counts

  abbrev pub Left_of : ScopedState → GoneForm → Type 0
  Left_of s g = Stays w known s g.form g.left × (counts_at g.form s ≡ counts_of g)

  -- all were gone through from s to t
  record Gone (s t : ScopedState) (gs : List GoneForm) : Type 0 where
    rests : BetweenRests w known t
    grows : Grows w s t
    others : (g : ℕ) → Not of_gone g gs → counts_at g t ≡ counts_at g s
    each : AllOf (IsGone w.unit) gs
    left : AllOf (Left_of t) gs
    distinct : Distinct of_gone gs

  new_later : (g : ℕ) (s t : ScopedState) → ((f : ℕ) → (f ≡ g → ⊥) → counts_at f t ≡ counts_at f s) → (ts : List (ℕ × Tree Ident)) → Not of_tree g ts → AllOf (New s) ts → AllOf (New t) ts
  new_later g s t e [] d h = tt
  new_later g s t e (x ∷ ts) d h = (e x.0 (λ q. d.0 (sym q)) ∙ h.0, new_later g s t e ts d.1 h.1)

  not_gone : (g : ℕ) (ts : List (ℕ × Tree Ident)) (ns : List (Note FramedIdent)) (s : ScopedState) → Not of_tree g ts → Not of_gone g (gone_through known ts ns s).0
  not_gone g [] ns s h = tt
  not_gone g (t ∷ ts) ns s h = let q = set_aside (around_form known ns s t.0) enough_turns t.1 in (h.0, not_gone g ts q.0.notes q.1 h.1)

  -- where nothing is counted, work doesn't end
  over_nothing : {X : Type 0} (P : ScopedState → X → Type 0) (q : X × ScopedState) → OnWork (λ s. Unit {0}) P (unless_over (counted known) [] q) → P q.1 q.0
  over_nothing P q h = h

  one_gone : (turns form : ℕ) (s : ScopedState) (ns : List (Note FramedIdent)) → Between w known s ns → (t : Tree Ident) → TreeAll (UnitLeaf w known s) t → let q = set_aside (around_form known ns s form) turns t in AfterPass w known turns [] s form q.1 q.0
  one_gone turns form s ns b t l = over_nothing (λ u x. AfterPass w known turns [] s form u x) (set_aside (around_form known ns s form) turns t) (after_pass w known turns [] form s ns b t l)

  gone : (ts : List (ℕ × Tree Ident)) (ns : List (Note FramedIdent)) (s : ScopedState) → Between w known s ns → AllOf (Held s) ts → Distinct of_tree ts → AllOf (New s) ts → let q = gone_through known ts ns s in Gone s q.1 q.0
  gone [] ns s b h d n = record { rests = between_rests w known s ns b; grows = grows_itself w s; others = λ g k. refl; each = tt; left = tt; distinct = tt }
  gone (t ∷ ts) ns s b h d n =
      let v = around_form known ns s t.0 in
      let q = set_aside v enough_turns t.1 in
      let a = one_gone enough_turns t.0 s ns b t.1 h.0 in
      let counts = pass_counts v enough_turns t.1 None in
      let more = all_of_more (Held s) (Held q.1) (λ x k. tree_more (UnitLeaf w known s) (UnitLeaf w known q.1) (leaf_later w known s q.1 a.1) x.1 k) ts h.1 in
      let rest = gone ts q.0.notes q.1 a.0 more d.1 (new_later t.0 s q.1 counts ts d.0 n.1) in
      let g : GoneForm = record { form = t.0; tree = t.1; around = v; left = q.0.left } in
      let apart = not_gone t.0 ts q.0.notes q.1 d.0 in
      record {
        rests = rest.rests;
        grows = grows_then w s q.1 (gone_through known ts q.0.notes q.1).1 a.1 rest.grows;
        others = λ f k. rest.others f k.1 ∙ counts f k.0;
        each = (record { unit_here = b.placed.0; form_here = refl; new = n.0; begun = form_may_begin w known t.0 s ns b t.1 h.0; set = refl }, rest.each);
        left = ((stays_later w known q.1 (gone_through known ts q.0.notes q.1).1 rest.grows t.0 q.0.left a.2, rest.others t.0 apart), rest.left);
        distinct = (apart, rest.distinct);
      }

  -- ---- what they set aside is expanded

  went_on : {X : Type 0} (Q : ScopedState → X → Type 0) (P : ScopedState → Type 0) (q : Option X × ScopedState) (t : ScopedState) → WentOn q → WentTo q t → OnWork (λ s. Unit {0}) Q q → ((s : ScopedState) (x : X) → Q s x → P s) → P t
  went_on Q P (None, s) t on to h f = absurd on
  went_on Q P (Some x, s) t on to h f = subst P to (f s x h)

  finished : (form : ℕ) (s : ScopedState) → BetweenRests w known s → (r : Result (Left Ident) Broken) → Stays w known s form r → let u = (finish (around_form known [] s form) enough_turns r).1 in BetweenRests w known u × Grows w s u
  finished form s b r k =
      let v = around_form known [] s form in
      went_on (λ u x. BetweenRests w known u × Grows w s u) (λ u. BetweenRests w known u × Grows w s u) (form_parts (counted known) (expand (counted known) enough_turns) [] [] r v.state) (finish v enough_turns r).1
      (form_on known enough_turns r v.state) (form_went known enough_turns [] r v.state) (after_rest w known enough_turns [] form s b r k) (λ u x h. h)

  -- and so has each other form counted what it had
  finish_counts : (v : Around) (r : Result (Left Ident) Broken) → v.known ≡ known → (g : ℕ) → (g ≡ v.state.form → ⊥) → counts_at g (finish v enough_turns r).1 ≡ counts_at g v.state
  finish_counts v r e g ne =
      went_on (λ u x. counts_at g u ≡ counts_at g v.state) (λ u. counts_at g u ≡ counts_at g v.state) (form_parts (counted v.known) (expand (counted v.known) enough_turns) [] [] r v.state) (finish v enough_turns r).1
      (form_on v.known enough_turns r v.state) (form_went v.known enough_turns [] r v.state) (on_state (form_parts (counted v.known) (expand (counted v.known) enough_turns) [] [] r v.state) (rest_counts v enough_turns [] r None g ne)) (λ u x h. h)
    where
      on_state : {X : Type 0} (q : Option X × ScopedState) → counts_at g q.1 ≡ counts_at g v.state → OnWork (λ s. Unit {0}) (λ u x. counts_at g u ≡ counts_at g v.state) q
      on_state (None, s) h = tt
      on_state (Some x, s) h = h

  left_later : (s t : ScopedState) → Grows w s t → (f : ℕ) → ((g : ℕ) → (g ≡ f → ⊥) → counts_at g t ≡ counts_at g s) → (gs : List GoneForm) → Not of_gone f gs → AllOf (Left_of s) gs → AllOf (Left_of t) gs
  left_later s t g f e [] d h = tt
  left_later s t g f e (x ∷ gs) d h = ((stays_later w known s t g x.form x.left h.0.0, e x.form (λ q. d.0 (sym q)) ∙ h.0.1), left_later s t g f e gs d.1 h.1)

  went : (gs : List GoneForm) (s : ScopedState) → BetweenRests w known s → AllOf (IsGone w.unit) gs → AllOf (Left_of s) gs → Distinct of_gone gs → Each (IsAtWork w.unit) (gone_on known gs s)
  went [] s b g l d = tt
  went (x ∷ gs) s b g l d =
      let v = around_form known [] s x.form in
      let u = (finish v enough_turns x.left).1 in
      let a = finished x.form s b x.left l.0.0 in
      let h = g.0 in (
        record {
          unit_first = h.unit_here;
          form_first = h.form_here;
          new = h.new;
          begun = h.begun;
          set = h.set;
          unit_later = b.placed.0;
          form_later = refl;
          rest = rest_may_begin w known x.form s b x.left l.0.0;
          counts = l.0.1;
        },
        went gs u a.0 g.1 (left_later s u a.1 x.form (finish_counts v x.left refl) gs d.0 l.1) d.1,
      )

  pub forms_at_work : (ts : List (ℕ × Tree Ident)) (s : ScopedState) → Between w known s [] → AllOf (Held s) ts → Distinct of_tree ts → AllOf (New s) ts → Each (IsAtWork w.unit) (worked_forms known ts s)
  forms_at_work ts s b h d n = let q = gone_through known ts [] s in let z = gone ts [] s b h d n in went q.0 q.1 z.rests z.each z.left z.distinct
