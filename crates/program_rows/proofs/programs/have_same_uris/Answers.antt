-- There are no more documents than turns.
use Rattle.std.proofs.Common.{◌≤◌, arith}
use Rattle.std.specs.FinMap.{len}
use Rattle.program_rows.proofs.UriLaws.{same_keys}
use Rattle.program_rows.proofs.programs.have_same_uris.Goals as goal

pub returns : goal.returns
returns c = λ _.
    let few_one : len c.args.one.now ≤ c.loop-n.n = omega (arith, c.loop-n.invariant.few_one) in
    let few_other : len c.args.other.now ≤ c.loop-n.n = omega (arith, c.loop-n.invariant.few_other) in
    same_keys c.loop-n.n c.args.one.now c.args.other.now few_one few_other c.loop-n.invariant.same
