-- Entries that have their answers where the forms of a unit are gone through and expanded anew have them where these are kept, one form
-- behind another: the state there is the same but for the times at which bodies were entered.
use Rattle.std.proofs.Common.{◌≡◌, ℕ, List, [], ◌∷◌, map, Bool, true, false, cond, Option, Some, None, Result, Ok, refl, sym, ap, ◌∙◌, subst}
use Rattle.std.specs.Prelude.{nat_lt}
use Rattle.scheme_model.specs.Ident.{Ident}
use Rattle.scheme_model.specs.Trees.{Tree}
use Rattle.scheme_model.specs.Requirements.{Known}
use Rattle.scheme_model.specs.Cores.{Parts}
use Rattle.scheme_model.specs.Steps.{Broken}
use Rattle.scheme_model.specs.Order.{Note, Left, Pass}
use Rattle.scheme_model.specs.Expression.{expand}
use Rattle.scheme_model.specs.UnitExpansion.{◌then◌, going, unless_over, max_total, nodes_in, form_parts}
use Rattle.scheme_model.specs.Substitution.{definition_count}
use Rattle.scheme_model.specs.Program.{enough_turns}
use Rattle.scheme_model.specs.ScopedExpansion.{FramedIdent, ScopedState}
use Rattle.scheme_model.specs.CountedExpansion.{counted}
use Rattle.scheme_model.specs.Questions.{Around, SameAnswer, Moment}
use Rattle.scheme_model.specs.FormsAlike.{set_aside, finish, start, bare_note, bare_state, bound_moved, questions_of_pass, questions_of_left}
use Rattle.model_laws.proofs.UnitEnds.{Both, both_end, both_go, OnWork}
use Rattle.form_laws.specs.Begins.{Each, RestBegins}
use Rattle.kept_forms.specs.KeptForms.{KeptParts, KeptForm, FormOrKept, form_of, around_form, goes_through, LeftOrKept, rest_kept, kept_moved, passes_keeping, comes_to, numbers_of, counts_at}
use Rattle.kept_forms.specs.Carried.{PassKept, RestKept, FormFits, Onwards, PassesKept, RestsKept, UnitKept}
use Rattle.kept_forms.proofs.Bares.{bare_around, answers_too}
use Rattle.kept_forms.proofs.Fronts.{EndedLike, GivesLike}
use Rattle.kept_forms.proofs.OneForm.{PassLike, pass_like, BegunAt, rest_like}
use Rattle.kept_forms.proofs.Numbers.{LeftIs, left_is}
use Rattle.kept_forms.proofs.UsesCounted.{rest_counts, Distinct, of_form, of_left}
use Rattle.kept_forms.proofs.Ready.{Ready, ready_later, passes_ready}
use Rattle.carried_forms.specs.Worked.{WorkedForm, GoneForm, gone_through, gone_on, worked_forms}
use Rattle.carried_laws.specs.Entries.{RestStands, RestAnswers, Stays, FormsStay}
use Rattle.carried_laws.specs.AtWork.{IsAtWork}
use Rattle.carried_laws.proofs.Alone.{WentTo, form_went}

-- ---- work that may end

onwards_then : {X Y S : Type 0} (P : Y → S → Type 0) (q : Option X × S) (f : X → S → Option Y × S) → Onwards (λ x s. Onwards P (f x s)) q → Onwards P (q then f)
onwards_then P (None, s) f h = tt
onwards_then P (Some x, s) f h = h

onwards_over : {X : Type 0} (known : Known) (fs : List ℕ) (P : X → ScopedState → Type 0) (q : X × ScopedState) → P q.0 q.1 → Onwards P (unless_over (counted known) fs q)
onwards_over {X} known fs P q h = go (nat_lt max_total (nodes_in (counted known) fs q.1))
  where
    go : (b : Bool) → Onwards P (cond {A = Option X × ScopedState} b (None, q.1) (Some q.0, q.1))
    go true = tt
    go false = h

onwards_on : {X S : Type 0} (P Q : X → S → Type 0) (q : Option X × S) → ((x : X) (s : S) → P x s → Q x s) → Onwards P q → Onwards Q q
onwards_on P Q (None, s) f h = tt
onwards_on P Q (Some x, s) f h = f x s h

onwards_work : {X S : Type 0} (P Q : X → S → Type 0) (q : Option X × S) → Onwards P q → OnWork (λ s. Unit {0}) (λ s x. Q x s) q → Onwards (λ x s. P x s × Q x s) q
onwards_work P Q (None, s) h k = tt
onwards_work P Q (Some x, s) h k = (h, k)

module _ (known : Known) (n : ℕ) where
  around_like : (form : ℕ) (ns ms : List (Note FramedIdent)) (s t : ScopedState) → bare_state t ≡ bare_state s → map bare_note ms ≡ map bare_note ns → bare_around (around_form known form ms t) ≡ bare_around (around_form known form ns s)
  around_like form ns ms s t e d = λ j. record { state = record (e j) { form = form }; known = known; notes = d j }

  abbrev worked_as : GoneForm → Around → WorkedForm
  worked_as g l = record { form = g.form; tree = g.tree; around = g.around; left = g.left; later = l }

  -- ---- what is known of each form

  abbrev Passing : List FormOrKept → List GoneForm → Type 0
  Passing [] [] = Unit {0}
  Passing [] (g ∷ gs) = ⊥
  Passing (x ∷ xs) [] = ⊥
  Passing (x ∷ xs) (g ∷ gs) = ((l : Around) × IsAtWork n (worked_as g l) × Stays n (form_of x) x.kept (worked_as g l)) × Passing xs gs

  passing : (xs : List FormOrKept) (gs : List GoneForm) (t : ScopedState) → FormsStay n xs (gone_on known gs t) → Each (IsAtWork n) (gone_on known gs t) → Passing xs gs
  passing [] [] t h k = tt
  passing [] (g ∷ gs) t h k = absurd h
  passing (x ∷ xs) [] t h k = absurd h
  passing (x ∷ xs) (g ∷ gs) t h k = let v = around_form known g.form [] t in ((v, k.0, h.1), passing xs gs (finish v enough_turns g.left).1 h.2 k.1)

  abbrev AllFit : List FormOrKept → Type 0
  AllFit xs = Each (λ (x : FormOrKept). FormFits x.kept) xs

  all_fit : (xs : List FormOrKept) (gs : List WorkedForm) → FormsStay n xs gs → AllFit xs
  all_fit [] [] h = tt
  all_fit [] (g ∷ gs) h = absurd h
  all_fit (x ∷ xs) [] h = absurd h
  all_fit (x ∷ xs) (g ∷ gs) h = (one x.kept h.1, all_fit xs gs h.2)
    where
      one : (o : Option KeptForm) → Stays n (form_of x) o g → FormFits o
      one None h = tt
      one (Some k) h = h.2.fits

  -- of each form, what is left of it, and what is kept of that, moved
  abbrev parts_of : Option KeptForm → Option KeptParts
  parts_of None = None
  parts_of (Some k) = k.parts

  abbrev moved_parts : ℕ → Option KeptParts → Option KeptParts
  moved_parts to None = None
  moved_parts to (Some c) = Some (kept_moved (bound_moved c.before to) c)

  kin : (v : Around) (o : Option KeptForm) → rest_kept v o ≡ moved_parts (definition_count v.state.table v.state.unit) (parts_of o)
  kin v None = refl
  kin v (Some k) = go k.parts
    where
      go : (o : Option KeptParts) → rest_kept v (Some (record { aside = k.aside; parts = o })) ≡ moved_parts (definition_count v.state.table v.state.unit) o
      go None = refl
      go (Some c) = refl

  abbrev Lefts : List FormOrKept → List LeftOrKept → List GoneForm → Type 0
  Lefts [] [] [] = Unit {0}
  Lefts (x ∷ xs) (r ∷ rs) (g ∷ gs) = ((r.form ≡ g.form) × (r.left ≡ g.left) × LeftIs r.left r.kept × (to : ℕ) × (r.kept ≡ moved_parts to (parts_of x.kept))) × Lefts xs rs gs
  Lefts [] [] (g ∷ gs) = ⊥
  Lefts [] (r ∷ rs) gs = ⊥
  Lefts (x ∷ xs) [] gs = ⊥
  Lefts (x ∷ xs) (r ∷ rs) [] = ⊥

  module _ (fs : List ℕ) where
    -- ---- gone through

    abbrev Gives : List FormOrKept → List GoneForm → ScopedState → List LeftOrKept → ScopedState → Type 0
    Gives xs gs t rs u = (bare_state t ≡ bare_state u) × Lefts xs rs gs

    record PassesStay (xs : List FormOrKept) (ns ms : List (Note FramedIdent)) (s t : ScopedState) : Type 0 where
      kept : PassesKept known enough_turns fs xs ns s
      gives : let q = gone_through known (map form_of xs) ms t in Onwards (Gives xs q.0 q.1) (passes_keeping known enough_turns fs xs ns s)

    pass_stays : (v p : Around) → bare_around p ≡ bare_around v → (x : ℕ × Tree Ident) → v.state.form ≡ x.0 → p.state.unit ≡ n → (g : WorkedForm) → g.around ≡ p → (o : Option KeptForm) → Stays n x o g → PassKept v enough_turns x.1 o
    pass_stays v p same x f e g here None h = tt
    pass_stays v p same x f e g here (Some k) h =
        let w = h.0 in let st = h.2 in
        let unit = ap (λ (z : Around). z.state.unit) (sym same) in (
          w,
          record {
            unit = unit ∙ e ∙ sym st.unit_there;
            form = f ∙ sym st.form_there;
            new = st.new;
            begun = st.begun;
            answers = answers_too p v (sym same) w (questions_of_pass w enough_turns x.1) (subst (λ (z : Around). Each (SameAnswer w z) (questions_of_pass w enough_turns x.1)) here h.3.pass);
          },
          st.aside,
        )

    passes_stay : (xs : List FormOrKept) (ns ms : List (Note FramedIdent)) (s t : ScopedState) → bare_state t ≡ bare_state s → map bare_note ms ≡ map bare_note ns
        → Passing xs (gone_through known (map form_of xs) ms t).0 → AllFit xs → PassesStay xs ns ms s t
    passes_stay [] ns ms s t e d h f = record { kept = tt; gives = (e, tt) }
    passes_stay (x ∷ xs) ns ms s t e d h f =
        let v = around_form known x.form ns s in
        let p = around_form known x.form ms t in
        let same = around_like x.form ns ms s t e d in
        let at = h.0.1 in
        let kept = pass_stays v p same (form_of x) refl at.unit_first (worked_as (record { form = x.form; tree = x.tree; around = p; left = (set_aside p enough_turns x.tree).0.left }) h.0.0) refl x.kept h.0.2 in
        let new = ap (λ (z : Around). start z.state) (sym same) ∙ at.new in
        let like = pass_like v p same enough_turns x.tree x.kept new at.begun kept in
        let q = goes_through v enough_turns x.tree x.kept in
        let a = set_aside p enough_turns x.tree in
        let both = behind v p q a kept like (left_is v enough_turns x.tree x.kept kept f.0) (passes_stay xs q.0.notes a.0.notes q.1 a.1 like.state like.notes h.1 f.1) in
        record { kept = both.0; gives = both.1 }
      where
        behind : (v p : Around) (q a : Pass Ident FramedIdent × ScopedState) → PassKept v enough_turns x.tree x.kept → PassLike a q → LeftIs q.0.left (rest_kept v x.kept) → PassesStay xs q.0.notes a.0.notes q.1 a.1
            → let more = gone_through known (map form_of xs) a.0.notes a.1 in
            let row : LeftOrKept = record { form = x.form; counts = counts_at x.form q.1; left = q.0.left; kept = rest_kept v x.kept } in
            (PassKept v enough_turns x.tree x.kept × Onwards (λ z u. PassesKept known enough_turns fs xs z.notes u) (unless_over (counted known) fs q))
            × Onwards (Gives (x ∷ xs) (record { form = x.form; tree = x.tree; around = p; left = a.0.left } ∷ more.0) more.1)
            (unless_over (counted known) fs q then λ z u. passes_keeping known enough_turns fs xs z.notes u then λ rest. going (record { form = x.form; counts = counts_at x.form u; left = z.left; kept = rest_kept v x.kept } ∷ rest))
        behind v p q a kept like is rec =
            let more = gone_through known (map form_of xs) a.0.notes a.1 in
            let row : LeftOrKept = record { form = x.form; counts = counts_at x.form q.1; left = q.0.left; kept = rest_kept v x.kept } in
            let P : List LeftOrKept → ScopedState → Type 0 = Gives (x ∷ xs) (record { form = x.form; tree = x.tree; around = p; left = a.0.left } ∷ more.0) more.1 in
            let rest = passes_keeping known enough_turns fs xs q.0.notes q.1 in
            let inner = onwards_then P rest (λ rs. going (row ∷ rs))
            (onwards_on (Gives xs more.0 more.1) (λ rs u. P (row ∷ rs) u) rest (λ rs u z. (z.0, ((refl, sym like.left, is, definition_count v.state.table v.state.unit, kin v x.kept), z.1))) rec.gives) in
            let go : Pass Ident FramedIdent → ScopedState → Option (List LeftOrKept) × ScopedState =
            λ z u. passes_keeping known enough_turns fs xs z.notes u then λ rest. going (record { form = x.form; counts = counts_at x.form u; left = z.left; kept = rest_kept v x.kept } ∷ rest) in
            ((kept, onwards_over known fs (λ z u. PassesKept known enough_turns fs xs z.notes u) q rec.kept), onwards_then P (unless_over (counted known) fs q) go (onwards_over known fs (λ z u. Onwards P (go z u)) q inner))

    -- ---- and what they set aside is expanded

    begun_here : (c d : Moment) (o : Option KeptParts) → c ≡ d → BegunAt d o → BegunAt c o
    begun_here c d None e h = tt
    begun_here c d (Some k) e h = e ∙ h

    rest_stays : (v p : Around) → bare_around p ≡ bare_around v → (f : ℕ) → v.state.form ≡ f → p.state.unit ≡ n → (u : Around) (to : ℕ) (o : Option KeptParts) → RestStands n f u o → RestAnswers u p o → RestKept v enough_turns (moved_parts to o)
    rest_stays v p same f at e u to None h k = tt
    rest_stays v p same f at e u to (Some c) h k =
        let unit = ap (λ (z : Around). z.state.unit) (sym same) in (
          u,
          c.left,
          c.before,
          to,
          record {
            unit = unit ∙ e ∙ sym h.0;
            form = at ∙ sym h.1;
            begun = h.2;
            answers = answers_too p v (sym same) u (questions_of_left u enough_turns (Ok c.left)) k;
          },
          ap (kept_moved (bound_moved c.before to)) h.3,
        )

    form_rest : (v p : Around) → bare_around p ≡ bare_around v → (x : ℕ × Tree Ident) → v.state.form ≡ x.0 → p.state.unit ≡ n → (g : WorkedForm) → g.later ≡ p → (to : ℕ) (o : Option KeptForm) → Stays n x o g → RestKept v enough_turns (moved_parts to (parts_of o))
    form_rest v p same x at e g here to None h = tt
    form_rest v p same x at e g here to (Some k) h = rest_stays v p same x.0 at e h.1 to k.parts h.2.rest (subst (λ (z : Around). RestAnswers h.1 z k.parts) here h.3.rest)

    -- where work goes on, it goes on from what is the same but for times
    onwards_like : (P : Result Parts Broken → ScopedState → Type 0) (m k : Option (Result Parts Broken) × ScopedState) (u : ScopedState) → WentTo m u → Both EndedLike GivesLike m k → ((y : Result Parts Broken) (z : ScopedState) → k ≡ (Some y, z) → bare_state u ≡ bare_state z → P y z) → Onwards P k
    onwards_like P m k u to (both_end s t e d h) f = subst (Onwards P) (sym d) tt
    onwards_like P m k u to (both_go x y s t e d h) f =
        let there : s ≡ u = subst (λ (z : Option (Result Parts Broken) × ScopedState). WentTo z u) e to in
        subst (Onwards P) (sym d) (f y t d (ap bare_state (sym there) ∙ h.0))

    rests_stay : (xs : List FormOrKept) (rs : List LeftOrKept) (gs : List GoneForm) (s t : ScopedState) → bare_state t ≡ bare_state s → Lefts xs rs gs → Distinct of_left rs → Ready s rs
        → Each (IsAtWork n) (gone_on known gs t) → FormsStay n xs (gone_on known gs t) → RestsKept known enough_turns fs rs s
    rests_stay [] [] [] s t e l d r w h = tt
    rests_stay (x ∷ xs) (r ∷ rs) (g ∷ gs) s t e l d q w h =
        let v = around_form known r.form [] s in
        let p = around_form known r.form [] t in
        let later = around_form known g.form [] t in
        let same = around_like r.form [] [] s t e refl in
        let there : later ≡ p = (let b = l.0.0 in λ j. around_form known (sym b j) [] t) in
        let at = w.0 in
        let kept = subst (RestKept v enough_turns) (sym l.0.4) (form_rest v p same (form_of x) (l.0.0 ∙ sym (ap (λ (z : ℕ × Tree Ident). z.0) h.0)) at.unit_later (worked_as g later) there l.0.3 x.kept h.1) in
        let begins : RestBegins p r.left = (let b = l.0.1 in subst (λ (z : Around × Result (Left Ident) Broken). RestBegins z.0 z.1) (λ j. (there j, sym b j)) at.rest) in
        let m = comes_to v enough_turns fs r.left r.kept in
        let like = rest_like v p same enough_turns fs r.left r.kept l.0.2 (begun_here (start v.state) r.counts r.kept q.0.0 q.0.1) begins kept in
        let u = (finish later enough_turns g.left).1 in
        let went : WentTo (form_parts (counted known) (expand (counted known) enough_turns) [] fs r.left p.state) u =
        (let b = l.0.1 in subst (λ (z : Around × Result (Left Ident) Broken). WentTo (form_parts (counted known) (expand (counted known) enough_turns) [] fs r.left p.state) (finish z.0 enough_turns z.1).1) (λ j. (sym there j, b j)) (form_went known enough_turns fs r.left p.state)) in
        let ready = ready_later r.form s m.1 (rest_counts v enough_turns fs r.left r.kept) rs d.0 q.1 in (
          kept,
          onwards_like (λ y z. RestsKept known enough_turns fs rs z) (form_parts (counted known) (expand (counted known) enough_turns) [] fs r.left p.state) m u went like
              (λ y z e b. rests_stay xs rs gs z u b l.1 d.1 (subst (λ (c : Option (Result Parts Broken) × ScopedState). Ready c.1 rs) e ready) w.1 h.2),
        )
    rests_stay [] [] (g ∷ gs) s t e l d q w h = absurd l
    rests_stay [] (r ∷ rs) gs s t e l d q w h = absurd l
    rests_stay (x ∷ xs) [] gs s t e l d q w h = absurd l
    rests_stay (x ∷ xs) (r ∷ rs) [] s t e l d q w h = absurd l

  -- ---- the unit

  pub unit_stays : (xs : List FormOrKept) (s t : ScopedState) → bare_state t ≡ bare_state s → Distinct of_form xs → Each (IsAtWork n) (worked_forms known (map form_of xs) t) → FormsStay n xs (worked_forms known (map form_of xs) t) → UnitKept known enough_turns xs s
  unit_stays xs s t e d w h =
      let fs = numbers_of xs in
      let q = gone_through known (map form_of xs) [] t in
      let fit = all_fit xs (worked_forms known (map form_of xs) t) h in
      let passes = passes_stay fs xs [] [] s t e refl (passing xs q.0 q.1 h w) fit in
      let u = passes_keeping known enough_turns fs xs [] s in (
        fit,
        passes.kept,
        onwards_on (λ rs z. Gives fs xs q.0 q.1 rs z × (Distinct of_left rs × Ready z rs)) (λ rs z. RestsKept known enough_turns fs rs z) u
            (λ rs z k. rests_stay fs xs rs q.0 z q.1 k.0.0 k.0.1 k.1.0 k.1.1 w h) (onwards_work (Gives fs xs q.0 q.1) (λ rs z. Distinct of_left rs × Ready z rs) u passes.gives (passes_ready known enough_turns fs xs [] s d fit)),
      )
