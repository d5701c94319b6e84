use Rattle.std.proofs.Common.{sym, ap, ◌∙◌, subst}
use Rattle.std.specs.Prelude.{Result}
use Rattle.scheme_model.specs.ExpansionFaults.{Fault}
use Rattle.scheme_model.specs.RulesShape.{Rule, rule_of}
use Rattle.scheme_model.specs.Ident.{Ident as Identifier}
use Rattle.rules_check.specs.Checked.{ReadsRule}
use Rattle.rules_check.proofs.ReadLaws.{list_proper, rule_place}
use Rattle.rules_check.proofs.reading.read_rule.Goals as goal

pub returns-else-is_some : goal.returns-else-is_some
returns-else-is_some c = λ t h.
    let w = c.args.work.now in
    let l = c.in-List.ensures.look t h in
    let e = list_proper w c.in-List.end t l.0 l.1 l.2 l.3 l.5 (sym c.is_some.ensures ∙ c.if-is_some.false) in
    subst (λ (s : Result (Rule Identifier) (Fault Identifier)). ReadsRule w s c.pair.result) (sym (ap rule_of e ∙ rule_place l.0 l.2)) (c.pair.ensures l.0 l.4)
