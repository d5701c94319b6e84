use Rattle.rules_build.proofs.DraftLaws.{plans_one}
use Rattle.rules_build.proofs.walk.keep.Goals as goal

pub returns-in_ok-push : goal.returns-in_ok-push
returns-in_ok-push c = λ work region k b h s. plans_one work region k c.args.plans.now.items c.push.new.self.items c.args.plan b c.in_ok-push.ensures.items (h s)
