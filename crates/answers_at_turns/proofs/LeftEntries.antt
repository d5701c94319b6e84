-- Behind its turns each form has what has its answers at the form that is worked on.
use Rattle.std.proofs.Common.{◌≡◌, ◌⊎◌, inl, inr, ℕ, List, map, true, Option, Some, None, Ok, refl, sym, ap, ◌∙◌, subst}
use Rattle.scheme_model.specs.Ident.{Ident, Written}
use Rattle.scheme_model.specs.Trees.{Tree}
use Rattle.scheme_model.specs.Requirements.{Known}
use Rattle.scheme_model.specs.UnitExpansion.{Formed}
use Rattle.scheme_model.specs.ScopedExpansion.{ScopedState}
use Rattle.scheme_model.specs.Questions.{Around, SameAnswer}
use Rattle.scheme_model.specs.FormsAlike.{questions_of_pass, questions_of_left}
use Rattle.scheme_model.specs.IncludedUnits.{Placed}
use Rattle.scheme_model.specs.Program.{Prepared, is_ready, enough_turns, forms_at_work}
use Rattle.scheme_model.specs.ScopedProgram.{ScopedProgress, forms_over, scoped_start_after, scoped_work, scoped_before}
use Rattle.form_laws.specs.Begins.{Each}
use Rattle.question_laws.specs.Noted.{IsClosed}
use Rattle.kept_forms.specs.KeptForms.{KeptParts, FormOrKept, LeftOrKept, form_of}
use Rattle.kept_forms.specs.Carried.{RestFits}
use Rattle.kept_forms.proofs.Bares.{answers_itself}
use Rattle.forgotten_locals.specs.Ways.{forgetting, unit_by, AtTurns, AllKept}
use Rattle.forgotten_locals.specs.Programs.{IsProgressOutside}
use Rattle.carried_forms.specs.Worked.{WorkedForm, worked_forms}
use Rattle.carried_forms.specs.Carried.{IsIn}
use Rattle.carried_laws.specs.AtWork.{IsAtWork}
use Rattle.carried_laws.specs.Entries.{RestStands, RestAnswers, HasAnswers}
use Rattle.turns_at_work.specs.AtTurn.{IsAroundOutside}
use Rattle.turns_at_work.proofs.TurnsThere.{pass_there, left_there}
use Rattle.answers_at_turns.specs.Had.{Had, HadStands, HasFirst, HasLater, FirstIs, LaterIs}
use Rattle.answers_at_turns.proofs.AtTurns.{begins_there}
use Rattle.answers_at_turns.proofs.TurnsCame.{IsLeft}
use Rattle.answers_at_turns.proofs.WholeUnits.{P2, Q2, came, tree_is, here, at, first_has, later_has}

module _ (all : List Placed) (ps : List Prepared) (known : Known) (n : ℕ) (h : ScopedProgress) (p : Prepared) (xs : List FormOrKept) where
  abbrev a : ScopedProgress
  a = scoped_work all ps known n scoped_before

  abbrev s : ScopedState
  s = scoped_start_after all p h

  abbrev ts : List (ℕ × Tree Ident)
  ts = forms_over (Written p.number) p.number 0 (forms_at_work p)

  abbrev gs : List WorkedForm
  gs = worked_forms known ts (scoped_start_after all p a)

  module _ (o : IsProgressOutside a h) (ready : is_ready all ps a.results p ≡ true) (forms : map form_of xs ≡ ts) (k : AllKept (forgetting enough_turns) enough_turns known xs s)
      (now : ℕ → Option Had) (fs : List Formed) (end : ScopedState) (went : unit_by (forgetting enough_turns) known xs s ≡ (Some fs, end)) (x : FormOrKept) (i : IsIn x xs) (g : WorkedForm) (j : IsIn g gs) (e : g.form ≡ x.form) (b : Had) (is : now x.form ≡ Some b) (st : HadStands p.number s.program (form_of x) b) where
    abbrev Pass : Type 0
    Pass = Each (SameAnswer b.first g.around) (questions_of_pass b.first enough_turns g.tree)

    tree : form_of x ≡ (g.form, g.tree)
    tree = tree_is all ps known n h p xs o ready forms k now fs end went x i g j e b is st

    stands : HadStands p.number s.program (g.form, g.tree) b
    stands = here all ps known n h p xs o ready forms k now fs end went x i g j e b is st

    work : IsAtWork p.number g
    work = at all ps known n h p xs o ready forms k now fs end went x i g j e b is st

    pass : (v : Around) → IsClosed v.state → IsAroundOutside g.around v → (b.first ≡ v) ⊎ HasFirst b (form_of x) v → Pass
    pass v c w (inl q) =
        let here = subst (λ z. IsAroundOutside g.around z) (sym q) w in
        (pass_there b.first g.around b.first enough_turns here stands.stands.begun.state work.begun.state g.tree).0 (answers_itself b.first b.first refl (questions_of_pass b.first enough_turns g.tree))
    pass v c w (inr has) = (first_has all ps known n h p xs o ready forms k now fs end went x i g j e b is st v c w).0 has

    own_rest : Pass → (u : Around) → IsAroundOutside g.later u → IsClosed u.state → u.state.program ≡ s.program → b.later ≡ u → (d : Option KeptParts) → RestStands p.number g.form b.later d → RestFits b.kept.aside d → RestAnswers b.later g.later d
    own_rest q u w c same f None r t = tt
    own_rest q u w c same f (Some d) r t =
        let here = subst (λ z. IsAroundOutside g.later z) (sym f) w in
        let begins = begins_there p.number s.program b g stands work q u w c same d t in
        (left_there b.later g.later b.later enough_turns here r.2.state begins.0 (Ok d.left)).0 (answers_itself b.later b.later refl (questions_of_left b.later enough_turns (Ok d.left)))

    rest : Pass → (u : Around) → IsClosed u.state → IsAroundOutside g.later u → (b.later ≡ u) ⊎ HasLater b u → RestAnswers b.later g.later b.kept.parts
    rest q u c w (inl f) = own_rest q u w c (ap (λ (z : Around). z.state.program) (sym f) ∙ stands.program_later) f b.kept.parts stands.stands.rest stands.stands.fits
    rest q u c w (inr has) = (later_has all ps known n h p xs o ready forms k now fs end went x i g j e b is st q u c w).0 has

    pub entry_left : AtTurns (FirstIs now) (LaterIs now) (forgetting enough_turns) known xs s → HasAnswers (form_of x) b.kept b.first b.later g
    entry_left turns = go (came all ps known n h p xs o ready forms k (FirstIs now) (LaterIs now) turns fs end went x i)
      where
        go : (r : LeftOrKept) × ((v : Around) × P2 all ps known n h p xs o ready forms k (FirstIs now) (LaterIs now) turns fs end went v x × IsLeft (forgetting enough_turns) v x r) × ((u : Around) × Q2 all ps known n h p xs o ready forms k (FirstIs now) (LaterIs now) turns fs end went u r) →
            HasAnswers (form_of x) b.kept b.first b.later g
        go z =
            let r = z.0 in let v = z.1.0 in let f = z.1.1 in let left = z.1.2 in let u = z.2.0 in let l = z.2.1 in
            let q = pass v f.0.0 (f.0.1 g j e) (f.1 b is) in
            subst (λ (y : ℕ × Tree Ident). HasAnswers y b.kept b.first b.later g) (sym tree)
            (record { pass = q; rest = rest q u l.0.0 (l.0.1 g j (e ∙ sym left.form)) (l.1 b (ap now left.form ∙ is)) })
