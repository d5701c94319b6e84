use Rattle.std.proofs.Common.{◌≡◌, drop}
use Rattle.scheme_model.specs.Spelling.{is_member}
use Rattle.program_differences.proofs.difference.is_among.Given as goal

abbrev pub invariant-loop-other : goal.invariant-loop-other
invariant-loop-other l = is_member (drop l.other-index l.occs) l.occ ≡ is_member l.occs l.occ
