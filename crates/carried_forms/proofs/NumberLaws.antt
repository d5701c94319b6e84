-- The numbers of pairs are a one to one renumbering that keeps the prelude, and what has the same answer up to them has it in surroundings
-- under the new numbers.
use Rattle.std.proofs.Common.{◌≡◌, ℕ, List, [], ◌∷◌, map, Bool, true, false, Result, refl, sym, ap, ◌∙◌, subst, eq-eqb}
use Rattle.std.specs.Prelude.{◌==◌, ◌&&◌}
use Rattle.std.proofs.lemmas.Bool.{eqb-true}
use Rattle.scheme_model.specs.Ident.{Ident}
use Rattle.scheme_model.specs.Trees.{Tree}
use Rattle.scheme_model.specs.Steps.{Broken}
use Rattle.scheme_model.specs.Order.{Left}
use Rattle.scheme_model.specs.Questions.{Around, Moment, Question, SameAnswer}
use Rattle.scheme_model.specs.FormsAlike.{questions_of_pass, questions_of_left}
use Rattle.form_laws.specs.Begins.{Each}
use Rattle.renumbering_laws.specs.Moving.{move_tree}
use Rattle.renumbering_laws.specs.Renumbering.{Renumbering, IsOneToOne, ident, change, result_as, left_as}
use Rattle.renumbering_laws.specs.Asked.{new_asked, AroundMoves, TurnsMove}
use Rattle.renumbering_laws.proofs.NewAnswers.{answer_moved}
use Rattle.renumbering_laws.proofs.AskingSide.{set_aside_asks, finish_asks}
use Rattle.carried_forms.specs.Paired.{UnitText, AreTold, AreWithin, unit_pairs, renumbering}
use Rattle.carried_forms.specs.Carried.{has_same_answer, have_same_answers}
use Rattle.carried_forms.proofs.PairLaws.{one_number}
use Rattle.carried_forms.proofs.UnitLaws.{units_apart}
use Rattle.carried_forms.proofs.AnswerLaws.{answers_told}

-- ---- one to one

told_apart : (f : ℕ → ℕ) → ((u v : ℕ) → f u ≡ f v → u ≡ v) → (u v : ℕ) → (f u == f v) ≡ (u == v)
told_apart f h u v = go (f u == f v) refl (u == v) refl
  where
    go : (a : Bool) → (f u == f v) ≡ a → (b : Bool) → (u == v) ≡ b → a ≡ b
    go true ea true eb = refl
    go false ea false eb = refl
    go true ea false eb = sym (eq-eqb u v (h u v (eqb-true (f u) (f v) ea))) ∙ eb
    go false ea true eb = sym ea ∙ eq-eqb (f u) (f v) (ap f (eqb-true u v eb))

pub pairs_apart : (us vs : List UnitText) → AreTold us → AreWithin 0 vs → IsOneToOne (renumbering (unit_pairs us vs))
pairs_apart us vs a b = let r = renumbering (unit_pairs us vs) in record {
  units = told_apart r.unit (units_apart us vs a b);
  forms = λ u. told_apart (r.form u) (one_number us vs u);
}

-- ---- the same answers under the new numbers

module _ (r : Renumbering) (o : IsOneToOne r) (w v : Around) where
  pub answer_kept : (u : Around) → AroundMoves r w u → (q : Moment × Question) → has_same_answer r w v q ≡ true → SameAnswer u v (new_asked r q)
  answer_kept u l q h = answers_told r w v q.0 q.1 h ∙ sym (answer_moved r o w u l q.0 q.1)

  answers_kept : (u : Around) → AroundMoves r w u → (qs : List (Moment × Question)) → have_same_answers r w v qs ≡ true → Each (SameAnswer u v) (map (new_asked r) qs)
  answers_kept u l [] h = tt
  answers_kept u l (q ∷ qs) h = go (has_same_answer r w v q) refl h (λ k. answers_kept u l qs k)
    where
      go : (b : Bool) → has_same_answer r w v q ≡ b → (b && have_same_answers r w v qs) ≡ true → (have_same_answers r w v qs ≡ true → Each (SameAnswer u v) (map (new_asked r) qs)) → Each (SameAnswer u v) (map (new_asked r) (q ∷ qs))
      go true e k ih = (answer_kept u l q e, ih k)
      go false e k ih = absurd cc

  module _ (u : Around) (t : TurnsMove r w u) (turns : ℕ) where
    pub pass_kept : (x : Tree Ident) → have_same_answers r w v (questions_of_pass w turns x) ≡ true → Each (SameAnswer u v) (questions_of_pass u turns (move_tree (change r) x))
    pass_kept x h = subst (λ (qs : List (Moment × Question)). Each (SameAnswer u v) qs) (sym (ap (λ p. p.1.asked) (set_aside_asks r o w u t turns x))) (answers_kept u t.around (questions_of_pass w turns x) h)

    pub left_kept : (x : Result (Left Ident) Broken) → have_same_answers r w v (questions_of_left w turns x) ≡ true → Each (SameAnswer u v) (questions_of_left u turns (result_as r (left_as r (ident r)) x))
    left_kept x h = subst (λ (qs : List (Moment × Question)). Each (SameAnswer u v) qs) (sym (ap (λ p. p.1.asked) (finish_asks r o w u t turns x))) (answers_kept u t.around (questions_of_left w turns x) h)
