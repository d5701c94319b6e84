use Rattle.std.proofs.Common.{◌∙◌, refl, arith}
use Rattle.alpha_equal.proofs.NumberLaws.{units_law}
use Rattle.program_differences.proofs.difference.programs_of.Goals as goal

pub returns-clause-numbered : goal.returns-clause-numbered
returns-clause-numbered c = λ text uris before after p q one other.
    let work = c.args.work.now in
    let apart = c.told_apart.ensures.idents in
    record {
      old = λ u n i is. c.in_ok-of.ensures (record { unit = u; ident = n }) ∙ units_law work apart text uris before p 0 u n i c.args.old.now.units p.units one (omega arith) refl is;
      new = λ u n i is. c.in_ok-of-2.ensures (record { unit = u; ident = n }) ∙ units_law work apart text uris after q 0 u n i c.args.new.now.units q.units other (omega arith) refl is;
    }
