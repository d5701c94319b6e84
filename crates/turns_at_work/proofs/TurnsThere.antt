-- Where some forms are kept, and what is local is forgotten, each turn that comes has around it what is outside where every form is expanded.
use Rattle.std.proofs.Common.{◌≡◌, ◌↔◌, ℕ, List, [], ◌∷◌, ◌++◌, map, true, Result, refl, sym, ap, ◌∙◌, subst}
use Rattle.scheme_model.specs.Ident.{Ident, Written}
use Rattle.scheme_model.specs.Trees.{Tree}
use Rattle.scheme_model.specs.Steps.{Broken}
use Rattle.scheme_model.specs.Order.{Left}
use Rattle.scheme_model.specs.Requirements.{Known}
use Rattle.scheme_model.specs.ScopedExpansion.{ScopedState}
use Rattle.scheme_model.specs.Questions.{Around, SameAnswer}
use Rattle.scheme_model.specs.FormsAlike.{bare_state, questions_of_pass, questions_of_left}
use Rattle.scheme_model.specs.IncludedUnits.{Placed}
use Rattle.scheme_model.specs.Program.{Prepared, is_ready, enough_turns, forms_at_work}
use Rattle.scheme_model.specs.ScopedProgram.{ScopedProgress, forms_over, scoped_start_after, scoped_work, scoped_before}
use Rattle.form_laws.specs.Begins.{Each, Begins}
use Rattle.kept_forms.specs.KeptForms.{FormOrKept, LeftOrKept, form_of, around_form, numbers_of}
use Rattle.kept_forms.specs.Carried.{Onwards}
use Rattle.kept_forms.proofs.Bares.{bare_around, answers_too}
use Rattle.kept_forms.proofs.Programs.{between_at, placed_at, new_unit, distinct}
use Rattle.kept_forms.proofs.WholePrograms.{itself}
use Rattle.forgotten_locals.specs.Outside.{macros_outside, around_outside}
use Rattle.forgotten_locals.specs.Ways.{anew, forgetting, firsts_by, seconds_by, AtTurns, IsKept, IsRestKept, AllKept}
use Rattle.forgotten_locals.specs.Programs.{IsProgressOutside}
use Rattle.forgotten_locals.proofs.OneTurn.{pass_answers, left_answers}
use Rattle.forgotten_locals.proofs.Turns.{turns_out}
use Rattle.forgotten_locals.proofs.Followed.{forgetting_follows}
use Rattle.forgotten_locals.proofs.Units.{begins, start_outside, forgetting_kept}
use Rattle.carried_forms.specs.Worked.{WorkedForm, worked_forms}
use Rattle.carried_forms.specs.Carried.{IsIn}
use Rattle.kept_turns.specs.Turns.{passed, AtFirst}
use Rattle.kept_turns.proofs.Onward.{onwards_map}
use Rattle.kept_turns.proofs.EachTurn.{turns_with}
use Rattle.kept_turns.proofs.NextTurn.{AtNext, first_turn, second_turn}
use Rattle.turns_at_work.specs.AtTurn.{IsAroundOutside}
use Rattle.turns_at_work.proofs.TurnsAnew.{Worked, WorkedLater, turns_anew}

-- ---- what is outside

outside_told : (w v : Around) → bare_around v ≡ bare_around (around_outside w) → IsAroundOutside w v
outside_told w v e = record { state = ap (λ (z : Around). z.state) e; known = ap (λ (z : Around). z.known) e; notes = ap (λ (z : Around). z.notes) e }

pub told_outside : (w v : Around) → IsAroundOutside w v → bare_around v ≡ bare_around (around_outside w)
told_outside w v h = let a = h.state in let b = h.known in let c = h.notes in λ j. record { state = a j; known = b j; notes = c j }

module _ (w g v : Around) (turns : ℕ) (here : IsAroundOutside g v) (b : Begins w.state) (k : Begins g.state) where
  pub pass_there : (t : Tree Ident) → Each (SameAnswer w v) (questions_of_pass w turns t) ↔ Each (SameAnswer w g) (questions_of_pass w turns t)
  pass_there t =
      let qs = questions_of_pass w turns t in let x = pass_answers w g turns b k t in let e = told_outside g v here in
      ((λ h. x.0 (answers_too v (around_outside g) (sym e) w qs h)), (λ h. answers_too (around_outside g) v e w qs (x.1 h)))

  pub left_there : (r : Result (Left Ident) Broken) → Each (SameAnswer w v) (questions_of_left w turns r) ↔ Each (SameAnswer w g) (questions_of_left w turns r)
  left_there r =
      let qs = questions_of_left w turns r in let x = left_answers w g turns b k r in let e = told_outside g v here in
      ((λ h. x.0 (answers_too v (around_outside g) (sym e) w qs h)), (λ h. answers_too (around_outside g) v e w qs (x.1 h)))

-- ---- a unit of a program

module _ (all : List Placed) (ps : List Prepared) (known : Known) (n : ℕ) (h : ScopedProgress) (p : Prepared) (xs : List FormOrKept) where
  abbrev a : ScopedProgress
  a = scoped_work all ps known n scoped_before

  abbrev t : ScopedState
  t = scoped_start_after all p a

  abbrev s : ScopedState
  s = scoped_start_after all p h

  abbrev gs : List WorkedForm
  gs = worked_forms known (forms_over (Written p.number) p.number 0 (forms_at_work p)) t

  abbrev pub There : Around → FormOrKept → Type 0
  There v x = (g : WorkedForm) → IsIn g gs → g.form ≡ x.form → IsAroundOutside g.around v

  abbrev pub ThereLater : Around → LeftOrKept → Type 0
  ThereLater v r = (g : WorkedForm) → IsIn g gs → g.form ≡ r.form → IsAroundOutside g.later v

  module _ (o : IsProgressOutside a h) (ready : is_ready all ps a.results p ≡ true) (forms : map form_of xs ≡ forms_over (Written p.number) p.number 0 (forms_at_work p)) (k : AllKept (forgetting enough_turns) enough_turns known xs s) where
    abbrev A : Around → FormOrKept → Type 0
    A w x = IsKept enough_turns w x × Worked gs w x

    abbrev A2 : Around → LeftOrKept → Type 0
    A2 w r = IsRestKept enough_turns w r × WorkedLater gs w r

    abbrev B : Around → FormOrKept → Type 0
    B v x = IsKept enough_turns v x × There v x

    abbrev B2 : Around → LeftOrKept → Type 0
    B2 v r = IsRestKept enough_turns v r × ThereLater v r

    pub turns_there : AtTurns There ThereLater (forgetting enough_turns) known xs s
    turns_there =
        let b = between_at all ps known n in let placed = placed_at all ps known n in let new = new_unit all ps known a p ready in
        let law = forgetting_follows enough_turns in
        let apart = distinct all ps known a a b placed (itself a) p new xs forms in
        let worked = subst (λ ts. AtTurns (Worked (worked_forms known ts t)) (WorkedLater (worked_forms known ts t)) (anew enough_turns) known xs t) forms (turns_anew known xs t apart) in
        let there = (forgetting_kept all ps known a b placed p new xs forms h o).0 k in
        let both = turns_with (anew enough_turns) known (IsKept enough_turns) (Worked gs) A (IsRestKept enough_turns) (WorkedLater gs) A2 (λ v x c d. (c, d)) (λ v r c d. (c, d)) xs t there.1 worked in
        let here = turns_out macros_outside (λ ps. []) (λ ds. []) enough_turns (forgetting enough_turns) law known xs s t (start_outside all ps known a b placed p new xs forms h o) (begins all ps known a b placed p new xs forms) B A B2 A2
        (λ v x c. c.0) (λ v r c. c.0)
        (λ v w x same c d. ((law.kept v w same x.tree x.kept c.0).1 d.0, λ g i e. outside_told g.around v (same ∙ ap (λ z. bare_around (around_outside z)) (sym (d.1 g i e)))))
        (λ v w r same i c d. ((law.rest_kept v w same r.left r.kept i.0 c.0).1 d.0, λ g j e. outside_told g.later v (same ∙ ap (λ z. bare_around (around_outside z)) (sym (d.1 g j e))))) k.0 both in
        turns_with (forgetting enough_turns) known B B There B2 B2 ThereLater (λ v x c d. c.1) (λ v r c d. c.1) xs s here here

    pub second_there : (g : WorkedForm) → IsIn g gs → Onwards (λ ls u. AtNext (λ v r. g.form ≡ r.form → IsAroundOutside g.later v) (forgetting enough_turns) known (numbers_of xs) ls u) (firsts_by (forgetting enough_turns) known (numbers_of xs) xs [] s)
    second_there g i =
        onwards_map (λ ls u. AtNext ThereLater (forgetting enough_turns) known (numbers_of xs) ls u) (λ ls u. AtNext (λ v r. g.form ≡ r.form → IsAroundOutside g.later v) (forgetting enough_turns) known (numbers_of xs) ls u)
        (λ ls u c rs r qs e. onwards_map (λ ps z. ThereLater (around_form known r.form [] z) r) (λ ps z. g.form ≡ r.form → IsAroundOutside g.later (around_form known r.form [] z)) (λ ps z d. d g i) (seconds_by (forgetting enough_turns) known (numbers_of xs) rs u) (c rs r qs e))
        (firsts_by (forgetting enough_turns) known (numbers_of xs) xs [] s) (second_turn (forgetting enough_turns) known xs s There ThereLater turns_there)

pub first_there : (all : List Placed) (ps : List Prepared) (known : Known) (n : ℕ) (h : ScopedProgress) (p : Prepared) (ys zs : List FormOrKept) (x : FormOrKept) (g : WorkedForm) →
    let a = scoped_work all ps known n scoped_before in let s = scoped_start_after all p h in let xs = ys ++ x ∷ zs in let ts = forms_over (Written p.number) p.number 0 (forms_at_work p) in
    IsProgressOutside a h → is_ready all ps a.results p ≡ true → map form_of xs ≡ ts → AllKept (forgetting enough_turns) enough_turns known xs s → IsIn g (worked_forms known ts (scoped_start_after all p a)) → g.form ≡ x.form
    → AtFirst (λ v. IsAroundOutside g.around v) (forgetting enough_turns) known ys x zs s
first_there all ps known n h p ys zs x g o ready forms k i e =
    let xs = ys ++ x ∷ zs in
    first_at (first_turn (forgetting enough_turns) known ys zs x (scoped_start_after all p h) (There all ps known n h p xs) (ThereLater all ps known n h p xs) (turns_there all ps known n h p xs o ready forms k))
  where
    first_at : AtFirst (λ v. There all ps known n h p (ys ++ x ∷ zs) v x) (forgetting enough_turns) known ys x zs (scoped_start_after all p h) → AtFirst (λ v. IsAroundOutside g.around v) (forgetting enough_turns) known ys x zs (scoped_start_after all p h)
    first_at c =
        onwards_map (λ ms u. There all ps known n h p (ys ++ x ∷ zs) (around_form known x.form ms u) x) (λ ms u. IsAroundOutside g.around (around_form known x.form ms u)) (λ ms u d. d g i e)
        (passed (forgetting enough_turns) known (numbers_of (ys ++ x ∷ zs)) ys [] (scoped_start_after all p h)) c
