-- Where work on a unit went through, and at each turn all is kept that has its answers, each form that has them is kept whole.
use Rattle.std.proofs.Common.{◌≡◌, inl, inr, ℕ, List, [], ◌∷◌, map, Bool, true, Option, Some, None, Result, Ok, Err, refl, sym, ap, ◌∙◌, subst}
use Rattle.scheme_model.specs.Ident.{Ident, Written}
use Rattle.scheme_model.specs.Trees.{Tree}
use Rattle.scheme_model.specs.Cores.{Bound}
use Rattle.scheme_model.specs.Steps.{Broken}
use Rattle.scheme_model.specs.Order.{Left}
use Rattle.scheme_model.specs.Requirements.{Known}
use Rattle.scheme_model.specs.UnitExpansion.{Formed}
use Rattle.scheme_model.specs.ScopedExpansion.{ScopedState}
use Rattle.scheme_model.specs.Questions.{Around, SameAnswer}
use Rattle.scheme_model.specs.FormsAlike.{left_with, or_fault, questions_of_pass}
use Rattle.scheme_model.specs.IncludedUnits.{Placed}
use Rattle.scheme_model.specs.Program.{Prepared, is_ready, enough_turns, forms_at_work}
use Rattle.scheme_model.specs.ScopedProgram.{ScopedProgress, forms_over, scoped_start_after, scoped_work, scoped_before}
use Rattle.form_laws.specs.Begins.{Each}
use Rattle.question_laws.specs.Noted.{IsClosed}
use Rattle.kept_forms.specs.KeptForms.{KeptParts, KeptForm, FormOrKept, LeftOrKept, form_of, rest_kept}
use Rattle.kept_forms.proofs.Programs.{between_at, placed_at, new_unit, distinct}
use Rattle.kept_forms.proofs.WholePrograms.{itself}
use Rattle.kept_forms.proofs.UsesCounted.{Not, Distinct, of_form}
use Rattle.forgotten_locals.specs.Ways.{forgetting, unit_by, AtTurns, AllKept}
use Rattle.forgotten_locals.specs.Programs.{IsProgressOutside}
use Rattle.carried_forms.specs.Worked.{WorkedForm, worked_forms}
use Rattle.carried_forms.specs.Carried.{IsIn}
use Rattle.carried_laws.specs.AtWork.{IsAtWork}
use Rattle.carried_laws.specs.CarriedEntries.{IsWhole, IsKeptWhole}
use Rattle.carried_laws.specs.Entries.{RestAnswers, HasAnswers}
use Rattle.carried_laws.proofs.StayingPrograms.{unit_begins, unit_forms, worked_form}
use Rattle.kept_turns.proofs.EachTurn.{turns_with}
use Rattle.kept_turns.proofs.ClosedTurns.{unit_closed}
use Rattle.turns_at_work.specs.AtTurn.{IsAroundOutside}
use Rattle.turns_at_work.proofs.TurnsThere.{There, ThereLater, turns_there}
use Rattle.answers_at_turns.specs.Had.{Had, HadStands, HasFirst, HasLater, OnlyFirst, OnlyLater, KeepsFirst, KeepsLater, AreKept}
use Rattle.answers_at_turns.proofs.AtTurns.{first_told, later_told}
use Rattle.answers_at_turns.proofs.TurnsCame.{IsLeft, form_came}
use Rattle.answers_at_turns.proofs.ProgramsStay.{Same, programs_stay}

-- ---- the form of a number

pub one_of : {X : Type 0} (P : X → Type 0) (xs : List X) → Each P xs → (x : X) → IsIn x xs → P x
one_of P [] h x i = absurd i
one_of P (y ∷ ys) h x (inl e) = subst P (sym e) h.0
one_of P (y ∷ ys) h x (inr i) = one_of P ys h.1 x i

not_among : (f : ℕ) (xs : List FormOrKept) → Not of_form f xs → (x : FormOrKept) → IsIn x xs → f ≡ x.form → ⊥
not_among f [] d x i e = absurd i
not_among f (y ∷ ys) d x (inl c) e = d.0 (e ∙ ap of_form c)
not_among f (y ∷ ys) d x (inr i) e = not_among f ys d.1 x i e

by_form : (xs : List FormOrKept) → Distinct of_form xs → (x y : FormOrKept) → IsIn x xs → IsIn y xs → x.form ≡ y.form → x ≡ y
by_form [] d x y i j e = absurd i
by_form (z ∷ zs) d x y (inl a) (inl b) e = a ∙ sym b
by_form (z ∷ zs) d x y (inl a) (inr j) e = absurd (not_among z.form zs d.0 y j (sym (ap of_form a) ∙ e))
by_form (z ∷ zs) d x y (inr i) (inl b) e = absurd (not_among z.form zs d.0 x i (sym (ap of_form b) ∙ sym e))
by_form (z ∷ zs) d x y (inr i) (inr j) e = by_form zs d.1 x y i j e

pub is_mapped : {X Y : Type 0} (f : X → Y) (xs : List X) (x : X) → IsIn x xs → IsIn (f x) (map f xs)
is_mapped f [] x i = absurd i
is_mapped f (y ∷ ys) x (inl e) = inl (ap f e)
is_mapped f (y ∷ ys) x (inr i) = inr (is_mapped f ys x i)

pub mapped_from : {X Y : Type 0} (f : X → Y) (xs : List X) (y : Y) → IsIn y (map f xs) → (x : X) × IsIn x xs × (y ≡ f x)
mapped_from f [] y i = absurd i
mapped_from f (x ∷ xs) y (inl e) = (x, inl refl, e)
mapped_from f (x ∷ xs) y (inr i) = let a = mapped_from f xs y i in (a.0, inr a.1, a.2)

no_none : {X : Type 0} (c : X) → Some c ≡ None → ⊥
no_none c e = let z : Some c ≡ None = e in absurd cc

-- a form that left a fault was broken when it was gone through
broken_there : (f : Bound → Bound) (x : Result (Left Ident) Broken) (b : Broken) → or_fault (left_with f) x ≡ Err b → (e : Broken) × (x ≡ Err e)
broken_there f (Ok m) b e = let z : Ok (left_with f m) ≡ Err b = e in absurd cc
broken_there f (Err c) b e = (c, refl)

-- ---- a unit of a program

module _ (all : List Placed) (ps : List Prepared) (known : Known) (n : ℕ) (h : ScopedProgress) (p : Prepared) (xs : List FormOrKept) where
  abbrev a : ScopedProgress
  a = scoped_work all ps known n scoped_before

  abbrev t : ScopedState
  t = scoped_start_after all p a

  abbrev s : ScopedState
  s = scoped_start_after all p h

  abbrev ts : List (ℕ × Tree Ident)
  ts = forms_over (Written p.number) p.number 0 (forms_at_work p)

  abbrev gs : List WorkedForm
  gs = worked_forms known ts t

  module _ (o : IsProgressOutside a h) (ready : is_ready all ps a.results p ≡ true) (forms : map form_of xs ≡ ts) (k : AllKept (forgetting enough_turns) enough_turns known xs s) where
    at_work : Each (IsAtWork p.number) gs
    at_work = unit_begins all ps known a (between_at all ps known n) (placed_at all ps known n) p (new_unit all ps known a p ready)

    apart : Distinct of_form xs
    apart = distinct all ps known a a (between_at all ps known n) (placed_at all ps known n) (itself a) p (new_unit all ps known a p ready) xs forms

    pub same_form : (x : FormOrKept) → IsIn x xs → (g : WorkedForm) → IsIn g gs → g.form ≡ x.form → form_of x ≡ (g.form, g.tree)
    same_form x i g j e =
        let y = mapped_from form_of xs (worked_form g) (subst (IsIn (worked_form g)) (unit_forms known ts t ∙ sym forms) (is_mapped worked_form gs g j)) in
        ap form_of (by_form xs apart x y.0 i y.1 (sym e ∙ ap (λ (z : ℕ × Tree Ident). z.0) y.2)) ∙ sym y.2

    -- what holds at the turns, beside what is around the form
    module _ (P : Around → FormOrKept → Type 0) (Q : Around → LeftOrKept → Type 0) (turns : AtTurns P Q (forgetting enough_turns) known xs s) (fs : List Formed) (end : ScopedState) (went : unit_by (forgetting enough_turns) known xs s ≡ (Some fs, end)) where
      abbrev P1 : Around → FormOrKept → Type 0
      P1 v x = IsClosed v.state × There all ps known n h p xs v x

      abbrev Q1 : Around → LeftOrKept → Type 0
      Q1 v r = IsClosed v.state × ThereLater all ps known n h p xs v r

      abbrev pub P2 : Around → FormOrKept → Type 0
      P2 v x = P1 v x × P v x

      abbrev pub Q2 : Around → LeftOrKept → Type 0
      Q2 v r = Q1 v r × Q v r

      abbrev C : Around → FormOrKept → Type 0
      C v x = IsClosed v.state

      abbrev D : Around → LeftOrKept → Type 0
      D v r = IsClosed v.state

      all_turns : AtTurns P2 Q2 (forgetting enough_turns) known xs s
      all_turns =
          let way = forgetting enough_turns in
          let there = turns_there all ps known n h p xs o ready forms k in let closed = unit_closed all ps known n h p xs o ready forms k in
          let both = turns_with way known C (There all ps known n h p xs) P1 D (ThereLater all ps known n h p xs) Q1 (λ v x c d. (c, d)) (λ v r c d. (c, d)) xs s closed there in
          turns_with way known P1 P P2 Q1 Q Q2 (λ v x c d. (c, d)) (λ v r c d. (c, d)) xs s both turns

      pub came : (x : FormOrKept) → IsIn x xs → (r : LeftOrKept) × ((v : Around) × P2 v x × IsLeft (forgetting enough_turns) v x r) × ((u : Around) × Q2 u r)
      came x i = form_came P2 Q2 (forgetting enough_turns) known xs s end fs all_turns went x i

    -- ---- what forms of before had

    module _ (had : ℕ → Option Had) (fs : List Formed) (end : ScopedState) (went : unit_by (forgetting enough_turns) known xs s ≡ (Some fs, end)) (x : FormOrKept) (i : IsIn x xs) (g : WorkedForm) (j : IsIn g gs) (e : g.form ≡ x.form) (b : Had) (is : had x.form ≡ Some b) (st : HadStands p.number s.program (form_of x) b) where
      abbrev pub tree_is : form_of x ≡ (g.form, g.tree)
      tree_is = same_form x i g j e

      pub here : HadStands p.number s.program (g.form, g.tree) b
      here = subst (λ (y : ℕ × Tree Ident). HadStands p.number s.program y b) tree_is st

      pub at : IsAtWork p.number g
      at = one_of (IsAtWork p.number) gs at_work g j

      programs : Same known p.number t g
      programs = one_of (Same known p.number t) gs (programs_stay known p.number ts t at_work) g j

      abbrev pub Asked : Type 0
      Asked = Each (SameAnswer b.first g.around) (questions_of_pass b.first enough_turns g.tree)

      first_program : (v : Around) → IsAroundOutside g.around v → v.state.program ≡ s.program
      first_program v w = ap (λ (z : ScopedState). z.program) w.state ∙ programs.0

      later_program : (v : Around) → IsAroundOutside g.later v → v.state.program ≡ s.program
      later_program v w = ap (λ (z : ScopedState). z.program) w.state ∙ programs.1

      -- at its first turn, and at its second
      pub first_has : (v : Around) → IsClosed v.state → IsAroundOutside g.around v → (HasFirst b (form_of x) v → Asked) × (Asked → HasFirst b (form_of x) v)
      first_has v c w =
          let z = first_told p.number s.program b g here at v w c (first_program v w) in
          ((λ q. z.0 (subst (λ (y : ℕ × Tree Ident). HasFirst b y v) tree_is q)), (λ q. subst (λ (y : ℕ × Tree Ident). HasFirst b y v) (sym tree_is) (z.1 q)))

      pub later_has : Asked → (v : Around) → IsClosed v.state → IsAroundOutside g.later v → (HasLater b v → RestAnswers b.later g.later b.kept.parts) × (RestAnswers b.later g.later b.kept.parts → HasLater b v)
      later_has q v c w = let z = later_told p.number s.program b g here at q v w c (later_program v w) in (z.0, z.1)

      pub kept_whole : (kept_first : ℕ → Bool) → AreKept kept_first xs → AtTurns (KeepsFirst had) (KeepsLater had kept_first) (forgetting enough_turns) known xs s → HasAnswers (form_of x) b.kept b.first b.later g → IsKeptWhole x.kept
      kept_whole kept_first are turns has = go (came (KeepsFirst had) (KeepsLater had kept_first) turns fs end went x i)
        where
          asked : Asked
          asked = subst (λ (y : ℕ × Tree Ident). Each (SameAnswer b.first g.around) (questions_of_pass b.first enough_turns y.1)) tree_is has.pass

          rest : (v : Around) (r : LeftOrKept) → IsLeft (forgetting enough_turns) v x r → (u : Around) → IsClosed u.state → IsAroundOutside g.later u → KeepsLater had kept_first u r → (c : KeptForm) → x.kept ≡ Some c → (d : Option KeptParts) → c.parts ≡ d → IsWhole c.aside d
          rest v r left u closed out keeps c w (Some d) f = tt
          rest v r left u closed out keeps c w None f =
              let none : r.kept ≡ None = left.kept ∙ ap (rest_kept v) w ∙ ap (λ (z : Option KeptParts). rest_kept v (Some (record { aside = c.aside; parts = z }))) f in
              let some : x.kept ≡ None → ⊥ = λ q. no_none c (sym w ∙ q) in
              let first : kept_first r.form ≡ true = ap kept_first left.form ∙ one_of (λ (z : FormOrKept). (z.kept ≡ None → ⊥) → kept_first z.form ≡ true) xs are x i some in
              let y = keeps first b (ap had left.form ∙ is) ((later_has asked u closed out).1 has.rest) none in
              broken_there _ c.aside.pass.left y.0 (sym (ap (λ (z : Option KeptForm). ((forgetting enough_turns).first v x.tree z).0.left) w) ∙ (sym left.left ∙ y.1))

          whole : (v : Around) (r : LeftOrKept) → IsLeft (forgetting enough_turns) v x r → KeepsFirst had v x → HasFirst b (form_of x) v → (u : Around) → IsClosed u.state → IsAroundOutside g.later u → KeepsLater had kept_first u r → (c : Option KeptForm) → x.kept ≡ c → IsKeptWhole c
          whole v r left first has1 u closed out later None w = absurd (first b is has1 w)
          whole v r left first has1 u closed out later (Some c) w = rest v r left u closed out later c w c.parts refl

          go : (r : LeftOrKept) × ((v : Around) × P2 (KeepsFirst had) (KeepsLater had kept_first) turns fs end went v x × IsLeft (forgetting enough_turns) v x r) × ((u : Around) × Q2 (KeepsFirst had) (KeepsLater had kept_first) turns fs end went u r) → IsKeptWhole x.kept
          go z =
              let r = z.0 in let v = z.1.0 in let f = z.1.1 in let left = z.1.2 in let u = z.2.0 in let l = z.2.1 in
              whole v r left f.1 ((first_has v f.0.0 (f.0.1 g j e)).1 asked) u l.0.0 (l.0.1 g j (e ∙ sym left.form)) l.1 x.kept refl

      -- ---- the other way round

      pub kept_has : AtTurns (OnlyFirst had) (OnlyLater had) (forgetting enough_turns) known xs s → (c : KeptForm) → x.kept ≡ Some c →
          Each (SameAnswer b.first g.around) (questions_of_pass b.first enough_turns x.tree) × ((d : KeptParts) → c.parts ≡ Some d → HasAnswers (form_of x) b.kept b.first b.later g)
      kept_has turns c w = go (came (OnlyFirst had) (OnlyLater had) turns fs end went x i)
        where
          go : (r : LeftOrKept) × ((v : Around) × P2 (OnlyFirst had) (OnlyLater had) turns fs end went v x × IsLeft (forgetting enough_turns) v x r) × ((u : Around) × Q2 (OnlyFirst had) (OnlyLater had) turns fs end went u r) →
              Each (SameAnswer b.first g.around) (questions_of_pass b.first enough_turns x.tree) × ((d : KeptParts) → c.parts ≡ Some d → HasAnswers (form_of x) b.kept b.first b.later g)
          go z =
              let r = z.0 in let v = z.1.0 in let f = z.1.1 in let left = z.1.2 in let u = z.2.0 in let l = z.2.1 in
              let asked : Asked = (first_has v f.0.0 (f.0.1 g j e)).0 (f.1 c w b is) in
              let pass = subst (λ (y : ℕ × Tree Ident). Each (SameAnswer b.first g.around) (questions_of_pass b.first enough_turns y.1)) (sym tree_is) asked in (
                pass,
                λ d q.
                    let some = left.kept ∙ ap (rest_kept v) w ∙ ap (λ (y : Option KeptParts). rest_kept v (Some (record { aside = c.aside; parts = y }))) q in
                    record { pass = pass; rest = (later_has asked u l.0.0 (l.0.1 g j (e ∙ sym left.form))).0 (l.1 _ some b (ap had left.form ∙ is)) },
              )
