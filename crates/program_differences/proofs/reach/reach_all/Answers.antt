use Rattle.std.proofs.Common.{◌≡◌, ◌+◌, ◌-◌, false, List, length, sym, ap, ◌∙◌, arith, rules}
use Rattle.std.specs.Prelude.{Bool}
use Rattle.program_differences.specs.Reached.{in_rounds}
use Rattle.program_differences.proofs.ReachLaws.{last_round, next_round}
use Rattle.program_differences.proofs.reach.reach_all.Goals as goal

pub returns-then-not-reach_importers : goal.returns-then-not-reach_importers
returns-then-not-reach_importers c =
    let none : c.reach_importers.result ≡ false = first_of (search rules, cc) in
    let same = c.reach_importers.ensures.none none in
    let units = c.args.units.now in
    same ∙ sym (last_round c.loop-round._round (length units) units c.loop-round.reached.items (sym c.reach_importers.ensures.reached ∙ same)) ∙ c.loop-round.invariant

pub loop-round-preserved : goal.loop-round-preserved
loop-round-preserved c =
    let units = c.args.units.now in
    ap (λ (bs : List Bool). in_rounds (length units - (c.loop-round._round + 1)) units bs) c.reach_importers.ensures.reached
    ∙ next_round c.loop-round._round units c.loop-round.reached.items (omega arith) ∙ c.loop-round.invariant
