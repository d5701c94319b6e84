use Rattle.moves.specs.Numbers.{numbers_of}
use Rattle.moves.proofs.EntryLaws.{IsFront}
use Rattle.moves.proofs.works.add_idents.Given as goal

abbrev pub invariant-loop-id : goal.invariant-loop-id
invariant-loop-id l = IsFront (numbers_of l.moves) l.from l.to l.id
