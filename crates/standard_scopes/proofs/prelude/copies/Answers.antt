use Rattle.std.proofs.Common.{◌∙◌}
use Rattle.std.proofs.lemmas.List.{take_all}
use Rattle.standard_scopes.proofs.PreludeMacros.{more_copied}
use Rattle.standard_scopes.proofs.prelude.copies.Goals as goal

pub loop-one-preserved : goal.loop-one-preserved
loop-one-preserved c =
    let l = c.loop-one in
    more_copied c.args.macros.now l.copies.items c.push.new.self.items l.one-index c.one-item.result c.in_ok-rules.rules c.loop-one-test.true c.one-item.is c.in_ok-rules.ensures l.invariant c.in_ok-push.ensures.items

pub returns : goal.returns
returns c = let l = c.loop-one in l.invariant ∙ take_all l.one-index c.args.macros.now c.loop-one-test.false
