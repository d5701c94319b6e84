use Rattle.std.proofs.Common.{List, ap, ◌∙◌}
use Rattle.std.specs.Prelude.{Bool}
use Rattle.scheme_model.specs.Includes.{with_named}
use Rattle.text_parts.specs.Marks.{marked}
use Rattle.text_parts.proofs.ReachLaws.{same_marks}
use Rattle.text_parts.proofs.reaches.next_marks.Goals as goal

pub returns-then-are_same : goal.returns-then-are_same
returns-then-are_same c = λ all ns h m.
    same_marks all c.args.marks.now c.in_ok-found.found.items (with_named all 0 all ns) m.size
    (λ k lt. c.are_same.ensures c.if-are_same.true k lt ∙ ap (λ (bs : List Bool). marked bs k) c.as_slice.ensures.value) (c.in_ok-found.ensures all ns h m)
