use Rattle.std.proofs.Common.{length, length-set, arith}
use Rattle.program_moves.proofs.PermutationLaws.{read_place, read_other, read_inverse, read_others}
use Rattle.program_moves.proofs.permutation.Permutation.send.Goals as goal

pub index_mut-requires : goal.index_mut-requires
index_mut-requires c =
    omega (arith, read_other c.args.self.now.forth.items c.args.self.now.back.items c.requires.inverse c.args.from c.args.to c.index-place.result.now c.index-other.result.now c.requires.from c.requires.to c.index-place.ensures c.index-other.ensures)

pub index_mut-requires-2 : goal.index_mut-requires-2
index_mut-requires-2 c =
    let h = c.requires.inverse in
    omega (arith, h.lengths, read_place c.args.self.now.forth.items c.args.self.now.back.items h c.args.from c.args.to c.index-place.result.now c.index-other.result.now c.requires.from c.requires.to c.index-place.ensures c.index-other.ensures)

pub returns-clause-inverse : goal.returns-clause-inverse
returns-clause-inverse c =
    read_inverse c.args.self.now.forth.items c.args.self.now.back.items c.requires.inverse c.args.from c.args.to c.index-place.result.now c.index-other.result.now c.requires.from c.requires.to c.index-place.ensures c.index-other.ensures

pub returns-clause-others : goal.returns-clause-others
returns-clause-others c =
    read_others c.args.self.now.forth.items c.args.self.now.back.items c.requires.inverse c.args.from c.args.to c.index-place.result.now c.index-other.result.now c.requires.from c.requires.to c.index-place.ensures c.index-other.ensures
