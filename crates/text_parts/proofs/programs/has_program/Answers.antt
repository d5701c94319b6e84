use Rattle.std.proofs.Common.{sym, ap, ◌∙◌, arith}
use Rattle.text_parts.proofs.ProgramLaws.{program_here, no_program}
use Rattle.text_parts.proofs.programs.has_program.Goals as goal

pub returns-then-not-is_library : goal.returns-then-not-is_library
returns-then-not-is_library c = program_here c.args.data.now c.loop-datum.datum-index c.datum-item.result (omega arith) c.datum-item.is (sym c.is_library.ensures ∙ c.if-not-is_library.true)

pub returns : goal.returns
returns c = no_program c.args.data.now (λ i d lt. c.loop-datum.invariant i d (omega arith))
