use Rattle.std.proofs.Common.{arith}
use Rattle.std.proofs.lemmas.List.{get_or_default}
use Rattle.std.proofs.lemmas.List.Edits.{map_over_more}
use Rattle.unit_scopes.specs.Within.{note_within}
use Rattle.unit_scopes.proofs.asked.all_within.Goals as goal

pub loop-at-preserved : goal.loop-at-preserved
loop-at-preserved c =
    rw c.within.ensures
    (map_over_more (note_within c.args.last) c.args.notes.now c.loop-at.notes c.loop-at.at _ c.loop-at-test.true c.loop-at.invariant (get_or_default c.loop-at.notes c.loop-at.at _ _ (omega (arith, c.loop-at-test.true, c.loop-at.auto.notes))))
