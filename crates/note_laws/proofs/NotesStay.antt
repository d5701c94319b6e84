-- Notes that have their answers in other surroundings of the form are what is to be noted there.
use Rattle.std.proofs.Common.{◌≡◌, ℕ, List, [], ◌∷◌, ◌++◌, map, length, cond, Ok, refl, ap, ◌∙◌}
use Rattle.std.specs.Prelude.{◌&&◌, ◌||◌, not}
use Rattle.scheme_model.specs.Ident.{Ident, Written, Inserted}
use Rattle.scheme_model.specs.Trees.{Tree}
use Rattle.scheme_model.specs.Order.{Left, is_some}
use Rattle.scheme_model.specs.Substitution.{Table}
use Rattle.scheme_model.specs.ScopedExpansion.{macro_at}
use Rattle.scheme_model.specs.Questions.{Moment, Around, Question, LooksUp, UsesRules, Compares, IsAssigned, Requires, Defines, SameAnswer, Asking}
use Rattle.scheme_model.specs.FormsAlike.{bound_moved, left_with, questions_of_pass, questions_of_left}
use Rattle.form_laws.specs.Begins.{Each, Begins, SameForm}
use Rattle.form_laws.proofs.FormLaws.{no_locals}
use Rattle.form_laws.proofs.AskingAlike.{pass_alike, left_alike}
use Rattle.question_laws.specs.Noted.{before_uses, is_defined_in, defines_within, answers_alone, noted, all_noted, IsClosed, SameUnit}
use Rattle.question_laws.proofs.Roots.{to_come_same}
use Rattle.question_laws.proofs.OwnRuns.{pass_known, left_known}
use Rattle.question_laws.proofs.NotedAnswers.{noted_suffice}
use Rattle.note_laws.specs.Told.{bare_question, told}

module _ (w v : Around) (same : SameForm w v) where
  alone_same : (own : Table) (i : Ident) → answers_alone v.state own i ≡ answers_alone w.state own i
  alone_same own (Written u x) = refl
  alone_same own (Inserted i k) = let a = to_come_same w v same k in let b = alone_same own i in λ j. is_defined_in own k.unit (Inserted i k) || (a j && b j)

  before_same : (i : Ident) → before_uses v.state i ≡ before_uses w.state i
  before_same (Written u x) = refl
  before_same (Inserted i k) = let a = to_come_same w v same k in let b = before_same i in λ j. cond (a j) (b j) (Inserted i k)

  -- in one form the same is noted of a question
  noted_same : (n : Moment) (q : Question) → noted v (n, q) ≡ noted w (n, q)
  noted_same n (LooksUp i) =
      let a = alone_same n.table i in let b = before_same i in let c = same.counts in
      λ j. cond (a j) [] (cond (defines_within n.table i) ((n, LooksUp i) ∷ []) ((c j, LooksUp (b j)) ∷ []))
  noted_same n (UsesRules m) = let c = same.counts in λ j. cond (is_some (macro_at n.macros m)) [] ((c j, UsesRules m) ∷ [])
  noted_same n (Compares l i) =
      let a = alone_same n.table l in let b = alone_same n.table i in let d = before_same l in let e = before_same i in let c = same.counts in
      λ j. cond ((a j && (b j || not (defines_within n.table i))) || (b j && not (defines_within n.table l))) [] (cond (defines_within n.table l || defines_within n.table i) ((n, Compares l i) ∷ []) ((c j, Compares (d j) (e j)) ∷ []))
  noted_same n (IsAssigned i) = let c = same.counts in let u = same.unit in λ j. cond (is_defined_in n.table (u j) i) [] ((c j, IsAssigned i) ∷ [])
  noted_same n (Requires l) = ap (λ m. (m, Requires l) ∷ []) same.counts
  noted_same n (Defines fs x r ns) = refl

  all_same : (qs : List (Moment × Question)) → all_noted v qs ≡ all_noted w qs
  all_same [] = refl
  all_same ((n, q) ∷ qs) = let a = noted_same n q in let b = all_same qs in λ j. a j ++ b j

  told_same : (qs : List (Moment × Question)) → Each (SameAnswer w v) qs → map (told v) qs ≡ map (told w) qs
  told_same [] h = refl
  told_same (q ∷ qs) h = let a = h.0 in let b = told_same qs h.1 in λ j. record { behind = length q.0.table; question = bare_question q.1; answer = a j } ∷ b j

module _ (w v : Around) (same : SameUnit w v) (begins : Begins w.state) (there : Begins v.state) (closed : IsClosed w.state) (closed_there : IsClosed v.state) (turns : ℕ) where
  pub pass_stays : (t : Tree Ident) → Each (SameAnswer w v) (all_noted w (questions_of_pass w turns t)) → map (told v) (all_noted v (questions_of_pass v turns t)) ≡ map (told w) (all_noted w (questions_of_pass w turns t))
  pass_stays t h =
      let qs = questions_of_pass w turns t in
      let en = no_locals w begins in
      let all = (noted_suffice w v same begins there closed closed_there qs (pass_known w en turns t).1 en).0 h in
      ap (λ (z : Asking). map (told v) (all_noted v z.asked)) (pass_alike w v same.form begins there turns t all)
      ∙ (ap (map (told v)) (all_same w v same.form qs) ∙ told_same w v same.form (all_noted w qs) h)

  pub left_stays : (from to : ℕ) (l : Left Ident) → Each (SameAnswer w v) (all_noted w (questions_of_left w turns (Ok l)))
      → map (told v) (all_noted v (questions_of_left v turns (Ok (left_with (bound_moved from to) l)))) ≡ map (told w) (all_noted w (questions_of_left w turns (Ok l)))
  left_stays from to l h =
      let qs = questions_of_left w turns (Ok l) in
      let en = no_locals w begins in
      let all = (noted_suffice w v same begins there closed closed_there qs (left_known w en turns l).1 en).0 h in
      ap (λ (z : Asking). map (told v) (all_noted v z.asked)) (left_alike w v same.form begins there turns from to l all)
      ∙ (ap (map (told v)) (all_same w v same.form qs) ∙ told_same w v same.form (all_noted w qs) h)
