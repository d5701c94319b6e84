use Rattle.std.proofs.Common.{List, subst, sym}
use Rattle.program_answers.specs.declared.publications.Published.{Published}
use Rattle.text_arrows.specs.Alone.{HoldsAlone}
use Rattle.text_arrows.proofs.alone.answer_to.Goals as goal

pub returns-clause-told : goal.returns-clause-told
returns-clause-told g c =
    let Holds : List Published → Type 0 = λ lists. HoldsAlone c.args.text.now c.open.new.workspace lists in
    c.in_ok-told_alone.ensures c.args.text.now (subst Holds (sym c.as_slice.ensures) c.in_ok-lists.ensures.holds)
