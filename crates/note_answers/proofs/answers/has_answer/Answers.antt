use mathlib.Core.Bool.{beq}
use Rattle.std.specs.BTreeSet.{contains_text}
use Rattle.std.proofs.Common.{◌≡◌, IsTrue, false, eqb-true, sym, ap, ◌∙◌, subst}
use Rattle.scheme_model.specs.Questions.{LooksUp, Compares, IsAssigned, Requires, Means, Says}
use Rattle.form_notes.specs.Noted.{is_local}
use Rattle.form_notes.specs.Standing.{IsQuestion}
use Rattle.unit_scopes.specs.Macros.{edition_in}
use Rattle.form_notes.specs.declared.notes.Question as code
use Rattle.note_answers.specs.Answered.{answer_now, IsAskedOutside}
use Rattle.note_answers.proofs.RootLaws.{says_arm, carried, beq_same, rules_only}
use Rattle.note_answers.proofs.answers.has_answer.Goals as goal

pub returns-in-Lookup-clause-answer : goal.returns-in-Lookup-clause-answer
returns-in-Lookup-clause-answer c = λ v r m can note outside keeps.
    let q = subst (λ (x : code.Question). IsQuestion c.args.work.now.symbols r x m.question m.answer) c.in-Lookup.is note.1 in
    carried (IsTrue c.has_meaning.result) v m.question (LooksUp q.0) m.answer (Means q.1 c.in-Lookup.keyword) q.2 q.3 (c.has_meaning.ensures v r q.0 q.1 can q.4 q.5)

pub returns-in-Literal-clause-answer : goal.returns-in-Literal-clause-answer
returns-in-Literal-clause-answer c = λ v r m can note outside keeps.
    let q = subst (λ (x : code.Question). IsQuestion c.args.work.now.symbols r x m.question m.answer) c.in-Literal.is note.1 in
    let b = c.in-Literal.answer in
    let p = Compares q.0 q.1 in
    carried (IsTrue (beq c.is_literal.result b)) v m.question p m.answer (Says b) q.2 q.3
    (says_arm (IsTrue (beq c.is_literal.result b)) (answer_now v p) c.is_literal.result b (c.is_literal.ensures v r q.0 q.1 can q.4 q.5) (beq_same c.is_literal.result b))

pub returns-in-Assigned-clause-answer : goal.returns-in-Assigned-clause-answer
returns-in-Assigned-clause-answer c = λ v r m can note outside keeps.
    let q = subst (λ (x : code.Question). IsQuestion c.args.work.now.symbols r x m.question m.answer) c.in-Assigned.is note.1 in
    let b = c.in-Assigned.answer in
    let p = IsAssigned q.0 in
    carried (IsTrue (beq c.is_assigned.result b)) v m.question p m.answer (Says b) q.1 q.2
    (says_arm (IsTrue (beq c.is_assigned.result b)) (answer_now v p) c.is_assigned.result b (ap Says (sym (c.is_assigned.ensures c.args.work.now v r q.0 can q.3))) (beq_same c.is_assigned.result b))

pub returns-in-Library-clause-answer : goal.returns-in-Library-clause-answer
returns-in-Library-clause-answer c = λ v r m can note outside keeps.
    let q = subst (λ (x : code.Question). IsQuestion c.args.work.now.symbols r x m.question m.answer) c.in-Library.is note.1 in
    let b = c.in-Library.answer in
    let p = Requires q.0 in
    let proper = subst IsAskedOutside q.1 outside in
    let told : c.contains.result ≡ contains_text c.args.units.now.libraries c.in-Library.name = c.contains.ensures ∙ ap (contains_text c.args.units.now.libraries) c.as_str.ensures in
    carried (IsTrue (beq c.contains.result b)) v m.question p m.answer (Says b) q.1 q.2
    (says_arm (IsTrue (beq c.contains.result b)) (answer_now v p) c.contains.result b (ap Says (can.knows q.0 proper ∙ (ap (contains_text c.args.units.now.libraries) (sym q.3) ∙ sym told))) (beq_same c.contains.result b))

pub returns-in-Lookup-clause-only : goal.returns-in-Lookup-clause-only
returns-in-Lookup-clause-only c = λ v r m can note outside.
    let q = subst (λ (x : code.Question). IsQuestion c.args.work.now.symbols r x m.question m.answer) c.in-Lookup.is note.1 in
    (carried (IsTrue c.has_meaning.result) v m.question (LooksUp q.0) m.answer (Means q.1 c.in-Lookup.keyword) q.2 q.3 (c.has_meaning.ensures v r q.0 q.1 can q.4 q.5)).0

pub returns-in-Literal-clause-only : goal.returns-in-Literal-clause-only
returns-in-Literal-clause-only c = λ v r m can note outside.
    let q = subst (λ (x : code.Question). IsQuestion c.args.work.now.symbols r x m.question m.answer) c.in-Literal.is note.1 in
    let b = c.in-Literal.answer in
    let p = Compares q.0 q.1 in
    (carried (IsTrue (beq c.is_literal.result b)) v m.question p m.answer (Says b) q.2 q.3
    (says_arm (IsTrue (beq c.is_literal.result b)) (answer_now v p) c.is_literal.result b (c.is_literal.ensures v r q.0 q.1 can q.4 q.5) (beq_same c.is_literal.result b))).0

pub returns-in-Assigned-clause-only : goal.returns-in-Assigned-clause-only
returns-in-Assigned-clause-only c = λ v r m can note outside.
    let q = subst (λ (x : code.Question). IsQuestion c.args.work.now.symbols r x m.question m.answer) c.in-Assigned.is note.1 in
    let b = c.in-Assigned.answer in
    let p = IsAssigned q.0 in
    (carried (IsTrue (beq c.is_assigned.result b)) v m.question p m.answer (Says b) q.1 q.2
    (says_arm (IsTrue (beq c.is_assigned.result b)) (answer_now v p) c.is_assigned.result b (ap Says (sym (c.is_assigned.ensures c.args.work.now v r q.0 can q.3))) (beq_same c.is_assigned.result b))).0

pub returns-in-Library-clause-only : goal.returns-in-Library-clause-only
returns-in-Library-clause-only c = λ v r m can note outside.
    let q = subst (λ (x : code.Question). IsQuestion c.args.work.now.symbols r x m.question m.answer) c.in-Library.is note.1 in
    let b = c.in-Library.answer in
    let p = Requires q.0 in
    let proper = subst IsAskedOutside q.1 outside in
    let told : c.contains.result ≡ contains_text c.args.units.now.libraries c.in-Library.name = c.contains.ensures ∙ ap (contains_text c.args.units.now.libraries) c.as_str.ensures in
    (carried (IsTrue (beq c.contains.result b)) v m.question p m.answer (Says b) q.1 q.2
    (says_arm (IsTrue (beq c.contains.result b)) (answer_now v p) c.contains.result b (ap Says (can.knows q.0 proper ∙ (ap (contains_text c.args.units.now.libraries) (sym q.3) ∙ sym told))) (beq_same c.contains.result b))).0

pub returns-in-Rules-clause-only : goal.returns-in-Rules-clause-only
returns-in-Rules-clause-only c = λ v r m can note outside same.
    let q = subst (λ (x : code.Question). IsQuestion c.args.work.now.symbols r x m.question m.answer) c.in-Rules.is note.1 in
    let e = c.in-Rules.edition in
    let form = c.args.units.now.form.number in
    let lasts : is_local q.0 ≡ false = subst IsAskedOutside q.1 outside in
    let told = rules_only (edition_in c.args.units.now.macros form c.in-Rules.meaning ≡ e) c.args.work.now c.args.units.now v r c.in-Rules.meaning q.0 e form can lasts q.3 ((λ x. x), (λ x. x)) (sym c.edition.ensures ∙ eqb-true c.edition.result e same) in
    ap (answer_now v) q.1 ∙ (told ∙ sym q.2)
