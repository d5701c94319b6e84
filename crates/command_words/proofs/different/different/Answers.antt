use Rattle.ls_base.specs.Limits.{max_documents}
use Rattle.command_words.proofs.DifferentLaws.{next_added, too_many_by}
use Rattle.command_words.proofs.different.different.Goals as goal

pub returns-then-full : goal.returns-then-full
returns-then-full c =
    too_many_by c.args.words.now c.loop-word.all c.add.new.all c.loop-word.word-index c.word-item.result max_documents c.in_ok-full.full c.loop-word-test.true c.word-item.is c.loop-word.invariant.are c.in_ok-full.ensures c.if-full.true

pub loop-word-preserved : goal.loop-word-preserved
loop-word-preserved c =
    let next = next_added c.args.words.now c.loop-word.all c.add.new.all c.loop-word.word-index c.word-item.result max_documents c.in_ok-full.full c.loop-word-test.true c.word-item.is c.loop-word.invariant.are c.in_ok-full.ensures c.if-full.false in
    record { are = next.0; few = next.1 }
