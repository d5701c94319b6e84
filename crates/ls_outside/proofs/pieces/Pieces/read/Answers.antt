use Rattle.std.proofs.Common.{arith, refl}
use Rattle.ls_outside.proofs.Fronts.{read_part, slice_rest}
use Rattle.ls_outside.proofs.pieces.Pieces.read.Goals as goal

pub returns-else-count-rest-clause-takes : goal.returns-else-count-rest-clause-takes
returns-else-count-rest-clause-takes c =
    let s = c.args.self.now in
    read_part s.pieces.items c.in-Some.piece.now c.copy_front-count.new.buf _ s.at c.copy_front-count.result (omega (arith, s.pieces.ok.0, c.in-Some.ensures.variant.0 refl)) c.in-Some.ensures.lookup
    (slice_rest c.deref.result.now c.in-Some.piece.now.items s.at c.deref.ensures.value) c.copy_front-count.ensures.count c.copy_front-count.ensures.bytes c.if-count-rest.false
