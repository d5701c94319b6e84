use Rattle.std.proofs.Common.{List, None, refl}
use Rattle.scheme_model.specs.Expression.{heads}
use Rattle.scheme_model.specs.Order.{RulesParts}
use Rattle.scheme_model.specs.Ident.{Ident as Identifier}
use Rattle.core_forms.specs.declared.shape.LocalMacro.{LocalMacro}
use Rattle.expander.proofs.LooseLaws.{look_on}
use Rattle.expander.proofs.RulesHeads.{macro_there, macros_past, no_heads, one_tested, head_fails, all_tested}
use Rattle.expander.proofs.UseNotes.{noted_again}
use Rattle.expander.proofs.bodies.test_all_rules.Goals as goal
use Rattle.noted_steps.specs.Noting.{noting}
use Rattle.noted_steps.proofs.NodeLaws.{here_err}
use Rattle.noted_steps.proofs.NoteLaws.{plain_look}

abbrev no_macro : LocalMacro
no_macro = record { name = record { ident = 0; occ = None }; rules = record { number = 0 } }

pub loop-local-init : goal.loop-local-init
loop-local-init c = record {
  so_far = λ known region ls s fs ns ts stands at are. no_heads known c.args.here fs c.args.work.now region c.args.units.now ls s ts stands;
  rest = refl;
}

pub test_rules-requires : goal.test_rules-requires
test_rules-requires c =
    let h = c.requires.rules in
    let q = macro_there c.args.work.now c.args.macros.now h.0 h.1 c.loop-local.local-index no_macro h.2 c.loop-local-test.true in
    record { look = plain_look c.args.work.now c.loop-local.units c.args.scope (look_on c.args.work.now c.args.units.now c.loop-local.units c.loop-local.invariant.rest c.args.scope c.requires.look); rules = (q.rules, q.stands) }

pub loop-local-preserved : goal.loop-local-preserved
loop-local-preserved c = record {
  so_far = λ known region ls s fs ns ts stands at are.
      let work = c.args.work.now in
      let k = c.loop-local.local-index in
      let h = c.loop-local.invariant.so_far known region ls s fs ns ts stands at are in
      let q = macro_there work c.args.macros.now ns ts k no_macro are c.loop-local-test.true in
      one_tested known c.args.here fs work region c.args.units.now ls s ts c.loop-local.units c.test_rules.new.units k q.rules q.split h
      (c.in_ok-test_rules.ensures.tested known region ls h.state fs q.rules h.stays.stands at q.stands);
  rest = noted_again c.args.units.now c.loop-local.units c.test_rules.new.units c.loop-local.invariant.rest c.test_rules.ensures.rest;
}

pub returns-in_err-test_rules-clause-tested : goal.returns-in_err-test_rules-clause-tested
returns-in_err-test_rules-clause-tested c = λ known region ls s fs ns ts stands at are.
    let work = c.args.work.now in
    let u = c.args.units.now in
    let w = c.test_rules.new.units in
    let k = c.loop-local.local-index in
    let e = c.in_err-test_rules.field-0.0 in
    let h = c.loop-local.invariant.so_far known region ls s fs ns ts stands at are in
    let q = macro_there work c.args.macros.now ns ts k no_macro are c.loop-local-test.true in
    here_err (λ (x : Unit {0}) (y : List (RulesParts Identifier)). Unit {0}) work work region u w ls c.from_residual.result e (heads (noting known) c.args.here fs ts s) c.from_residual.ensures.1
    (head_fails known c.args.here fs work region u ls s ts c.loop-local.units w k q.rules q.split h e (c.in_err-test_rules.ensures.tested known region ls h.state fs q.rules h.stays.stands at q.stands))

pub returns-in_err-test_rules-clause-rest : goal.returns-in_err-test_rules-clause-rest
returns-in_err-test_rules-clause-rest c = noted_again c.args.units.now c.loop-local.units c.test_rules.new.units c.loop-local.invariant.rest c.test_rules.ensures.rest

pub returns-clause-tested : goal.returns-clause-tested
returns-clause-tested c = λ known region ls s fs ns ts stands at are.
    let work = c.args.work.now in
    let k = c.loop-local.local-index in
    all_tested known c.args.here fs work region c.args.units.now ls s ts c.loop-local.units k (macros_past work c.args.macros.now ns ts k are c.loop-local-test.false) (c.loop-local.invariant.so_far known region ls s fs ns ts stands at are)
