use Rattle.std.proofs.Common.{arith}
use Rattle.document_units.proofs.breaking.push_place.Goals as goal

pub overflow_cast-place : goal.overflow_cast-place
overflow_cast-place c = let lt = c.requires c.in-Some.place c.in-Some.is in omega arith
