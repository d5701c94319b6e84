-- All notes have their answers, where each of the code's has it.
use Rattle.std.proofs.Common.{◌≡◌, ℕ, ◌<◌, List, length, slice_index_or, sym, ◌∙◌, subst}
use Rattle.std.specs.List.{All, Contains}
use Rattle.scheme_model.specs.Questions.{Around}
use Rattle.syntax_tree.specs.declared.trees.Work.{Work}
use Rattle.form_notes.specs.Noted.{Noted, Since}
use Rattle.form_notes.specs.Standing.{IsNote, HaveNotes}
use Rattle.form_notes.specs.declared.notes.Note.{Note}
use Rattle.unit_scopes.specs.declared.scope.UnitScope.{UnitScope}
use Rattle.note_answers.specs.Answered.{answer_now, IsAskedOutside, CanAsk, AreAskedOutside, HasAnswer, HaveAnswers, IsDefinition, IsAtStart}

module _ (work : Work) (u : UnitScope) (v : Around) (r : Since) (xs : List Note) (ms : List Noted) (can : CanAsk work u v r) (have : HaveNotes work.symbols r xs ms) (outside : AreAskedOutside ms) where
  pub all_have : All (λ (x : Note). x.behind ≡ 0 → HasAnswer work u x) xs → HaveAnswers v ms
  all_have each m has start =
      let x = have.all m has in
      let note : IsNote work.symbols r x.0 m = x.2 in
      let at : (k : ℕ) × (k < length xs) × (slice_index_or xs k x.0 ≡ x.0) = x.1 in
      let here : x.0.behind ≡ 0 → HasAnswer work u x.0 = subst (λ (y : Note). y.behind ≡ 0 → HasAnswer work u y) at.2 (each at.0 x.0 at.1) in
      here (note.0 ∙ start.0) v r m can note (outside m has start)

  -- one that hasn't
  pub one_has_none : (x : Note) → Contains xs x → x.behind ≡ 0 → ((m : Noted) → IsNote work.symbols r x m → IsDefinition m.question → ⊥) →
      ((m : Noted) → IsNote work.symbols r x m → IsAskedOutside m.question → answer_now v m.question ≡ m.answer → ⊥) → HaveAnswers v ms → ⊥
  one_has_none x there behind other lacks have_all =
      let m = have.alone x there in
      let note : IsNote work.symbols r x m.0 = m.2 in
      let start : IsAtStart m.0 = (sym note.0 ∙ behind, other m.0 note) in
      lacks m.0 note (outside m.0 m.1 start) (have_all m.0 m.1 start)
