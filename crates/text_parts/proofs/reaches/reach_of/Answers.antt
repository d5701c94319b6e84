use Rattle.std.proofs.Common.{List, length, sym, subst, arith}
use Rattle.std.specs.Prelude.{Bool}
use Rattle.nesting_laws.specs.Onward.{onward}
use Rattle.text_parts.specs.Marks.{Marks}
use Rattle.text_parts.proofs.reaches.reach_of.Goals as goal

pub returns : goal.returns
returns c = λ all h.
    c.reach_by.ensures all (subst (λ (bs : List Bool). Marks bs (length all) (onward all c.args.document)) (sym c.as_slice.ensures.value) (c.in_ok-marks.ensures all h)) (omega (arith, h.size))
