use Rattle.std.proofs.Common.{◌≡◌, rules, arith}
use Rattle.ls_base.specs.Limits.{max_documents}
use Rattle.command_words.proofs.DifferentLaws.{added, no_room, there}
use Rattle.command_words.proofs.different.add.Goals as goal

pub returns-then-contains : goal.returns-then-contains
returns-then-contains c = (there c.args.all.now c.as_slice.result.now c.args.word.now c.contains.result c.as_slice.ensures c.contains.ensures.value c.if-contains.true, c.requires)

pub returns-then-as_slice-eq-MAX_DOCUMENTS : goal.returns-then-as_slice-eq-MAX_DOCUMENTS
returns-then-as_slice-eq-MAX_DOCUMENTS c =
    no_room c.args.all.now c.as_slice.result.now c.as_slice-2.result.now c.args.word.now c.contains.result max_documents c.as_slice.ensures c.contains.ensures.value c.if-contains.false c.as_slice-2.ensures (omega arith)

pub returns : goal.returns
returns c =
    let same : c.in_ok-copy.copy ≡ c.args.word.now = search rules in
    added c.args.all.now c.as_slice.result.now c.as_slice-2.result.now c.push.new.self c.args.word.now c.in_ok-copy.copy c.contains.result max_documents
    c.as_slice.ensures c.contains.ensures.value c.if-contains.false c.as_slice-2.ensures (λ full. omega arith) c.requires c.in_ok-push.ensures.ok same
