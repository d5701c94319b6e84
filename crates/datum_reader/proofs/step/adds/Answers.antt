use Rattle.std.proofs.Common.{refl, sym}
use Rattle.datum_reader.proofs.StepLaws.{added_top}
use Rattle.datum_reader.proofs.step.adds.Goals as goal

pub returns-in-List : goal.returns-in-List
returns-in-List c = λ is d items. added_top c.args.stack.now c.in-Some.frame.now _ d items (sym c.in-Some.ensures.value) c.in-List.is (λ g e xs rest more. refl)

pub returns-in-Ended : goal.returns-in-Ended
returns-in-Ended c = λ is d items. added_top c.args.stack.now c.in-Some.frame.now _ d items (sym c.in-Some.ensures.value) c.in-Ended.is (λ g e xs rest more. refl)

pub returns-in-Vector : goal.returns-in-Vector
returns-in-Vector c = λ is d items. added_top c.args.stack.now c.in-Some.frame.now _ d items (sym c.in-Some.ensures.value) c.in-Vector.is (λ g e xs rest more. refl)

pub returns-in-Bytes : goal.returns-in-Bytes
returns-in-Bytes c = λ is d items. added_top c.args.stack.now c.in-Some.frame.now _ d items (sym c.in-Some.ensures.value) c.in-Bytes.is (λ g e xs rest more. refl)
