use Rattle.std.proofs.Common.{take}
use Rattle.scheme_model.specs.Spelling.{is_member}
use Rattle.arrow_index.specs.Classes.{Reaches}
use Rattle.arrow_index.proofs.classes.reach_all.Given as goal

abbrev pub invariant-loop-occ : goal.invariant-loop-occ
invariant-loop-occ l = Reaches l.fn.outside l.fn.left.items l.outside l.left.items (is_member (take l.occ-index l.occs))
