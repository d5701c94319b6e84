-- A form that asks alike under some numbers does under each that sends numbers so wherever these lead to numbers of the program after.
use Rattle.std.proofs.Common.{◌≡◌, ℕ, List, [], ◌∷◌, map, Bool, true, false, Some, Result, Ok, Err, refl, sym, ap, ◌∙◌, subst}
use Rattle.std.specs.Prelude.{◌&&◌}
use Rattle.scheme_model.specs.Ident.{Ident}
use Rattle.scheme_model.specs.Trees.{Tree}
use Rattle.scheme_model.specs.Cores.{Parts}
use Rattle.scheme_model.specs.Steps.{Broken}
use Rattle.scheme_model.specs.Order.{Left, Pass}
use Rattle.scheme_model.specs.Program.{enough_turns}
use Rattle.scheme_model.specs.Substitution.{definition_count}
use Rattle.scheme_model.specs.ScopedExpansion.{FramedIdent, ScopedState}
use Rattle.scheme_model.specs.Questions.{Moment, Around, Question, answer, SameAnswer, Asking}
use Rattle.scheme_model.specs.FormsAlike.{left_with, moved_by, or_fault, start, Leaves, IsSetAside, set_aside, set_aside_asking, questions_of_pass, questions_of_left}
use Rattle.form_laws.specs.Begins.{Each, RestBegins, SameForm, FormBegins}
use Rattle.form_laws.proofs.AskingAlike.{pass_alike, left_alike}
use Rattle.form_laws.proofs.FormLaws.{set_itself, set_law}
use Rattle.renumbering_laws.specs.Moving.{move_tree}
use Rattle.renumbering_laws.specs.Renumbering.{Renumbering, IsOneToOne, ident, change, left_as, result_as}
use Rattle.renumbering_laws.specs.Asked.{new_moment, new_question, new_answer, new_asked, new_asking, new_pass}
use Rattle.renumbering_laws.specs.NewSurroundings.{HasOldNumbers, around_new}
use Rattle.renumbering_laws.proofs.NewAnswers.{answer_moved}
use Rattle.renumbering_laws.proofs.AskingSide.{set_aside_asks, finish_asks}
use Rattle.renumbering_laws.proofs.NewSurroundings.{old_numbers_apart, turns_move}
use Rattle.kept_forms.specs.KeptForms.{counts_at}
use Rattle.kept_forms.specs.Carried.{only_counted}
use Rattle.kept_forms.proofs.UsesCounted.{counts_here}
use Rattle.carried_forms.specs.Alike.{same_answer}
use Rattle.carried_forms.specs.Worked.{WorkedForm}
use Rattle.carried_forms.specs.Carried.{has_same_answer, have_same_answers, asks_alike}
use Rattle.carried_forms.proofs.NumberLaws.{answer_kept, pass_kept, left_kept}
use Rattle.carried_laws.specs.AtWork.{IsAtWork}
use Rattle.carried_forms.proofs.NewBeginnings.{form_begins_new, left_begins_new}
use Rattle.agreeing_numbers.proofs.Agreeing.{same_head, same_tail, AroundAgrees, pass_same, left_same, answers_same}
use Rattle.agreeing_numbers.proofs.NumbersFollow.{itself, asked_follows, answer_follows}
use Rattle.agreeing_numbers.proofs.UnitsAgree.{FormAgrees}

both : (a b : Bool) → (a && b) ≡ true → (a ≡ true) × (b ≡ true)
both true true h = (refl, refl)
both true false h = absurd cc
both false b h = absurd cc

pub itself_tells : HasOldNumbers itself
itself_tells = record { unit_back = λ u. Some u; unit_here = λ u. refl; form_back = λ u f. Some f; form_here = λ u f. refl; definitions = λ u n. refl }

-- a form's counts where it went to a moment
counts_left : (v : Around) (n : Moment) (s : ScopedState) → Leaves v n s → counts_at v.state.form s ≡ only_counted n
counts_left v n s h = ap (λ (z : ScopedState). counts_at v.state.form z) h ∙ counts_here v n

module _ (p r q : Renumbering) (c : HasOldNumbers p) (b : HasOldNumbers r) (units : (u : ℕ) → r.unit u ≡ p.unit (r.unit u) → r.unit u ≡ q.unit u)
    (forms : (u f : ℕ) → r.unit u ≡ p.unit (r.unit u) → r.form u f ≡ p.form (r.unit u) (r.form u f) → r.form u f ≡ q.form u f) where
  abbrev o : IsOneToOne r
  o = old_numbers_apart r b

  -- questions under new numbers that are kept, with answers of the program after
  module _ (w v : Around) (a : AroundAgrees itself p v) where
    one_follows : (x : Moment × Question) → new_asked itself (new_asked r x) ≡ new_asked p (new_asked r x) → has_same_answer r w v x ≡ true → has_same_answer q w v x ≡ true
    one_follows x same h =
        let told : answer v (new_moment r x.0) (new_question r x.1) ≡ new_answer r (answer w x.0 x.1) =
        answer_kept r o w v (around_new r b w) (turns_move r b w).around x h ∙ answer_moved r o w (around_new r b w) (turns_move r b w).around x.0 x.1 in
        let kept = answers_same itself p itself_tells c v a (new_moment r x.0) (new_question r x.1) same in
        let answers : new_answer r (answer w x.0 x.1) ≡ new_answer q (answer w x.0 x.1) = answer_follows p r q units forms (answer w x.0 x.1) (ap (new_answer itself) (sym told) ∙ (kept ∙ ap (new_answer p) told)) in
        let asked : new_asked r x ≡ new_asked q x = asked_follows p r q units forms x same in
        (λ j. same_answer (sym answers j) (answer v (sym asked j).0 (sym asked j).1)) ∙ h

    all_follow : (xs : List (Moment × Question)) → map (new_asked itself) (map (new_asked r) xs) ≡ map (new_asked p) (map (new_asked r) xs) → have_same_answers r w v xs ≡ true → have_same_answers q w v xs ≡ true
    all_follow [] same h = refl
    all_follow (x ∷ xs) same h =
        let k = both (has_same_answer r w v x) (have_same_answers r w v xs) h in
        let y = one_follows x (same_head (new_asked itself) (new_asked p) (new_asked r x) (map (new_asked r) xs) same) k.0 in
        let z = all_follow xs (same_tail (new_asked itself) (new_asked p) (new_asked r x) (map (new_asked r) xs) same) k.1 in λ j. y j && z j

  module _ (n : ℕ) (f g : WorkedForm) (at : IsAtWork n f) (there : IsAtWork (r.unit n) g) (form : r.form n f.form ≡ g.form) (tree : move_tree (change r) f.tree ≡ g.tree) (alike : asks_alike r f g ≡ true) (agrees : FormAgrees itself p g) where
    abbrev w : Around
    w = around_new r b f.around

    abbrev u : Around
    u = around_new r b f.later

    told : (have_same_answers r f.around g.around (questions_of_pass f.around enough_turns f.tree) ≡ true) × (have_same_answers r f.later g.later (questions_of_left f.later enough_turns f.left) ≡ true)
    told = both (have_same_answers r f.around g.around (questions_of_pass f.around enough_turns f.tree)) (have_same_answers r f.later g.later (questions_of_left f.later enough_turns f.left)) alike

    -- ---- its first turn

    here : Pass Ident FramedIdent × Asking
    here = set_aside_asking f.around enough_turns f.tree

    moved : set_aside_asking w enough_turns g.tree ≡ (new_pass r here.0, new_asking r here.1)
    unfolding here
    moved = ap (set_aside_asking w enough_turns) (sym tree) ∙ set_aside_asks r o f.around w (turns_move r b f.around) enough_turns f.tree

    answers : Each (SameAnswer w g.around) (questions_of_pass w enough_turns g.tree)
    answers = subst (λ (t : Tree Ident). Each (SameAnswer w g.around) (questions_of_pass w enough_turns t)) tree (pass_kept r o f.around g.around w (turns_move r b f.around) enough_turns f.tree told.0)

    same_form : SameForm w g.around
    same_form = record {
      unit = there.unit_first ∙ ap r.unit (sym at.unit_first);
      form = there.form_first ∙ (sym form ∙ (let x = sym at.unit_first in let y = sym at.form_first in λ j. r.form (x j) (y j)));
      counts = there.new ∙ sym ((turns_move r b f.around).begun ∙ ap (new_moment r) at.new);
    }

    begins : FormBegins w g.tree
    begins = subst (λ (t : Tree Ident). FormBegins w t) tree (form_begins_new r b f.around f.tree at.begun)

    asked : (set_aside_asking g.around enough_turns g.tree).1 ≡ new_asking r here.1
    unfolding here
    asked = pass_alike w g.around same_form begins.state there.begun.state enough_turns g.tree answers ∙ ap (λ (x : Pass Ident FramedIdent × Asking). x.1) moved

    first_follows : have_same_answers q f.around g.around (questions_of_pass f.around enough_turns f.tree) ≡ true
    unfolding here
    first_follows =
        let kept = ap (λ (x : Pass Ident FramedIdent × Asking). x.1.asked) (pass_same itself p itself_tells c g.around agrees.around enough_turns g.tree agrees.tree) in
        all_follow f.around g.around agrees.around (questions_of_pass f.around enough_turns f.tree) (subst (λ (x : Asking). map (new_asked itself) x.asked ≡ map (new_asked p) x.asked) asked kept) told.0

    -- ---- its second turn

    was : IsSetAside g.around (set_aside_asking w enough_turns g.tree) (or_fault (left_with (moved_by w g.around)) (set_aside_asking w enough_turns g.tree).0.left) (set_aside g.around enough_turns g.tree)
    was = set_law w g.around same_form enough_turns g.tree begins there.begun answers

    left_here : here.0.left ≡ f.left
    unfolding here
    left_here = sym (set_itself f.around enough_turns f.tree at.begun).rest ∙ sym at.set

    left_there : g.left ≡ or_fault (left_with (moved_by w g.around)) (result_as r (left_as r (ident r)) f.left)
    left_there =
        there.set ∙ (was.rest ∙ (ap (λ (x : Pass Ident FramedIdent × Asking). or_fault (left_with (moved_by w g.around)) x.0.left) moved
        ∙ ap (λ (x : Result (Left Ident) Broken). or_fault (left_with (moved_by w g.around)) (result_as r (left_as r (ident r)) x)) left_here))

    counts_f : start f.later.state ≡ only_counted here.1.moment
    unfolding here
    counts_f =
        at.counts ∙ (ap (λ m. counts_at m (set_aside f.around enough_turns f.tree).1) (sym at.form_first) ∙ counts_left f.around here.1.moment (set_aside f.around enough_turns f.tree).1 (set_itself f.around enough_turns f.tree at.begun).state)

    counts_g : start g.later.state ≡ new_moment r (start f.later.state)
    counts_g =
        there.counts ∙ (ap (λ m. counts_at m (set_aside g.around enough_turns g.tree).1) (sym there.form_first)
        ∙ (counts_left g.around (set_aside_asking w enough_turns g.tree).1.moment (set_aside g.around enough_turns g.tree).1 was.state
        ∙ (ap (λ (x : Pass Ident FramedIdent × Asking). only_counted x.1.moment) moved ∙ sym (ap (new_moment r) counts_f))))

    same_later : SameForm u g.later
    same_later = record {
      unit = there.unit_later ∙ ap r.unit (sym at.unit_later);
      form = there.form_later ∙ (sym form ∙ (let x = sym at.unit_later in let y = sym at.form_later in λ j. r.form (x j) (y j)));
      counts = counts_g ∙ sym (turns_move r b f.later).begun;
    }

    later_asked : (l : Left Ident) → f.left ≡ Ok l → questions_of_left g.later enough_turns g.left ≡ map (new_asked r) (questions_of_left f.later enough_turns f.left)
    later_asked l e =
        let begun = left_begins_new r b f.later l (subst (RestBegins f.later) e at.rest) in
        let m = left_as r (ident r) l in
        let left : g.left ≡ Ok (left_with (moved_by w g.around) m) = left_there ∙ ap (λ (x : Result (Left Ident) Broken). or_fault (left_with (moved_by w g.around)) (result_as r (left_as r (ident r)) x)) e in
        let begun_there = subst (RestBegins g.later) left there.rest in
        let had : Each (SameAnswer u g.later) (questions_of_left u enough_turns (Ok m)) =
        subst (λ (x : Result (Left Ident) Broken). Each (SameAnswer u g.later) (questions_of_left u enough_turns (result_as r (left_as r (ident r)) x))) e (left_kept r o f.later g.later u (turns_move r b f.later) enough_turns f.left told.1) in
        ap (questions_of_left g.later enough_turns) left
        ∙ (ap (λ (x : Asking). x.asked) (left_alike u g.later same_later begun.state begun_there.state enough_turns (definition_count w.state.table w.state.unit) (definition_count g.around.state.table g.around.state.unit) m had)
        ∙ (ap (λ (x : Result Parts Broken × Asking). x.1.asked) (finish_asks r o f.later u (turns_move r b f.later) enough_turns (Ok l)) ∙ ap (λ (x : Result (Left Ident) Broken). map (new_asked r) (questions_of_left f.later enough_turns x)) (sym e)))

    second_by : (x : Result (Left Ident) Broken) → f.left ≡ x → have_same_answers q f.later g.later (questions_of_left f.later enough_turns f.left) ≡ true
    second_by (Err d) e = ap (λ (x : Result (Left Ident) Broken). have_same_answers q f.later g.later (questions_of_left f.later enough_turns x)) e
    second_by (Ok l) e =
        let kept = ap (λ (x : Result Parts Broken × Asking). x.1.asked) (left_same itself p itself_tells c g.later agrees.later enough_turns g.left agrees.left) in
        all_follow f.later g.later agrees.later (questions_of_left f.later enough_turns f.left)
        (subst (λ (xs : List (Moment × Question)). map (new_asked itself) xs ≡ map (new_asked p) xs) (later_asked l e) kept) told.1

    pub alike_follows : asks_alike q f g ≡ true
    alike_follows = let x = first_follows in let y = second_by f.left refl in λ j. x j && y j
