use Rattle.std.proofs.Common.{sym, ◌∙◌, arith}
use Rattle.program_differences.proofs.ToldLaws.{member_here, member_past}
use Rattle.program_differences.proofs.difference.is_among.Goals as goal

pub returns-then-is_same_occ : goal.returns-then-is_same_occ
returns-then-is_same_occ c = sym (member_here c.args.occs.now c.loop-other.other-index (record { unit = 0; form = 0; token = 0 }) c.args.occ (omega arith) (sym c.is_same_occ.ensures ∙ c.if-is_same_occ.true)) ∙ c.loop-other.invariant

pub loop-other-preserved : goal.loop-other-preserved
loop-other-preserved c = member_past c.args.occs.now c.loop-other.other-index (record { unit = 0; form = 0; token = 0 }) c.args.occ (omega arith) (sym c.is_same_occ.ensures ∙ c.if-is_same_occ.false) ∙ c.loop-other.invariant
