use Rattle.std.proofs.Common.{List, subst, sym, suc, add-one}
use Rattle.syntax_tree.specs.declared.rules.Rule as code_rule
use Rattle.syntax_tree.proofs.Looking.{part_standing, part_there, behind_past}
use Rattle.rules_check.proofs.ReadLaws.{RulesUpTo, rules_step, rules_all, rules_end}
use Rattle.rules_check.proofs.reading.read_each.Goals as goal

pub read_rule-requires : goal.read_rule-requires
read_rule-requires c = part_standing c.args.work.now c.loop-k.k c.args.items.now _ c.requires c.loop-k-test.true

pub returns-in-None : goal.returns-in-None
returns-in-None c = λ ts stands.
    let w = c.args.work.now in
    let p = part_there w c.loop-k.k c.args.items.now ts (record { number = 0 }) stands c.loop-k-test.true in
    rules_end w ts c.args.from c.loop-k.k c.loop-k.rules p.part (c.loop-k.invariant ts stands) p.split (c.in-None.ensures p.part p.stands)

pub loop-k-preserved : goal.loop-k-preserved
loop-k-preserved c = λ ts stands.
    let w = c.args.work.now in
    let k = c.loop-k.k in
    let p = part_there w k c.args.items.now ts (record { number = 0 }) stands c.loop-k-test.true in
    let r = c.in-Some.ensures p.part p.stands in
    let more = rules_step w ts c.args.from k c.loop-k.rules p.part c.in-Some.rule r.0 (c.loop-k.invariant ts stands) p.split r.1 r.2 in
    rw add-one (subst (λ (ns : List code_rule.Rule). RulesUpTo w ts c.args.from (suc k) ns) (sym c.in_ok-push-in-Some.ensures.ok) more)

pub returns : goal.returns
returns c = λ ts stands.
    let w = c.args.work.now in
    rules_all w ts c.args.from c.loop-k.k c.loop-k.rules (c.loop-k.invariant ts stands) (behind_past w c.loop-k.k c.args.items.now ts stands c.loop-k-test.false)
