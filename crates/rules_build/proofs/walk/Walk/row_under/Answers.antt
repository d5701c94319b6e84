use Rattle.std.proofs.Common.{ℕ, sym, subst}
use Rattle.rules_build.specs.Builds.{IsRow}
use Rattle.rules_build.proofs.walk.Walk.row_under.Goals as goal

pub returns-then-times-eq1 : goal.returns-then-times-eq1
returns-then-times-eq1 c = λ region t bounds ms h holds are. subst (λ (n : ℕ). IsRow c.args.self.now.work.now region n t ms c.row.result) (sym c.if-times-eq1.true) (c.row.ensures region t bounds ms h holds are)
