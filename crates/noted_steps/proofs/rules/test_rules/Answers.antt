use Rattle.scheme_model.specs.Order.{rules_parts_of}
use Rattle.noted_steps.specs.Noting.{state_of}
use Rattle.noted_steps.proofs.NoteLaws.{plainly}
use Rattle.noted_steps.proofs.RulesLaws.{tested_ends}
use Rattle.noted_steps.proofs.rules.test_rules.Goals as goal

pub returns-clause-tested : goal.returns-clause-tested
returns-clause-tested c = λ known region ls s fs t e at stands.
    let work = c.args.work.now in
    let u = c.args.units.now in
    tested_ends known work region u c.note_rules_head.new.units ls c.args.here fs s (rules_parts_of t) c.test_rules-result.result e c.note_rules_head.ensures.rest (c.note_rules_head.ensures.noted known ls s fs t e at stands)
    (c.test_rules-result.ensures known ls (state_of s) fs t (plainly work u ls s e) at stands)
