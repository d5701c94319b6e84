use Rattle.std.proofs.Common.{[], rules, arith}
use Rattle.std.proofs.lemmas.Grind.{common_steps}
use Rattle.scheme_model.specs.ProgramArrows.{program_table}
use Rattle.rename_model.specs.Walks.{meaning_seen}
use Rattle.alpha_equal.specs.Compared.{ArePartners}
use Rattle.program_differences.proofs.exports.mean_the_same.Goals as goal

pub seen_of-before-requires : goal.seen_of-before-requires
seen_of-before-requires c = (0, 0, c.requires.0, c.requires.2 0 0)

pub seen_of-after-requires : goal.seen_of-after-requires
seen_of-after-requires c = (0, 0, c.requires.1, c.requires.3 0 0)

pub returns : goal.returns
returns c = λ p q m n numbered h g.
    let none : ArePartners 0 0 c.new-none.result [] = λ a b. first_of (search rules, grind (arith, common_steps), cc) in
    c.agrees.ensures 0 0 [] (meaning_seen (program_table p) m) (meaning_seen (program_table q) n) none
    (c.seen_of-before.ensures (program_table p) 0 0 m numbered.old (h 0 0)) (c.seen_of-after.ensures (program_table q) 0 0 n numbered.new (g 0 0))
