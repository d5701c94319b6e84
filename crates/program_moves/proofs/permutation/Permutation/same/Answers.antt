use Rattle.std.proofs.Common.{◌∙◌, sym, arith}
use Rattle.program_moves.proofs.PermutationLaws.{inverse_same}
use Rattle.program_moves.proofs.permutation.Permutation.same.Goals as goal

pub returns-clause-inverse : goal.returns-clause-inverse
returns-clause-inverse c =
    inverse_same c.in_ok-forth.forth.items c.in_ok-back.back.items (omega (arith, c.well_formed, c.in_ok-forth.ensures.length)) (c.in_ok-back.ensures.length ∙ sym c.in_ok-forth.ensures.length) c.in_ok-forth.ensures.same c.in_ok-back.ensures.same
