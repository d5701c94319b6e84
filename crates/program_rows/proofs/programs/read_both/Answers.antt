-- The program that was read first stands in what the trees and names grew to.
use Rattle.std.proofs.Common.{refl}
use Rattle.workspace_state.proofs.TrialLaws.{program_grown}
use Rattle.program_rows.proofs.CompareLaws.{comparable}
use Rattle.program_rows.proofs.programs.read_both.Goals as goal

pub returns : goal.returns
returns g c =
    comparable c.args.old.now c.args.new.now c.read_program-2.new.work c.in_ok-before.before.program c.in_ok-after.after.program
    (c.if-not-have_same_uris.ensures refl)
    (program_grown c.read_program.new.work c.read_program-2.new.work c.read_program-2.ensures.trees c.read_program-2.ensures.names c.args.old.now c.in_ok-before.before.program c.in_ok-before.before.program refl c.in_ok-before.ensures.reading.program)
    c.in_ok-after.ensures.reading.program
