use Rattle.std.proofs.Common.{arith}
use Rattle.core_tree.specs.declared.units.UnitError.{UnitError}
use Rattle.program_differences.specs.Listed.{forms_of, least_among}
use Rattle.program_differences.proofs.ListedLaws.{least_start, least_more, least_all}
use Rattle.program_differences.proofs.listed.least_form.Goals as goal

pub loop-error-init : goal.loop-error-init
loop-error-init c = least_start (forms_of c.args.errors.now)

pub loop-error-preserved : goal.loop-error-preserved
loop-error-preserved c =
    let d : UnitError = record { code = 0; form = 0 } in
    least_more c.args.errors.now c.loop-error.error-index d c.loop-error.least _ (least_among (forms_of c.args.errors.now)) (omega arith) c.lesser.ensures c.loop-error.invariant

pub returns : goal.returns
returns c = least_all c.args.errors.now c.loop-error.error-index c.loop-error.least (least_among (forms_of c.args.errors.now)) (omega arith) c.loop-error.invariant
