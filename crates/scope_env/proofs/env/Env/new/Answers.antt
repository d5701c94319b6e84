use Rattle.std.proofs.Common.{subst, sym}
use Rattle.scope_env.specs.Environment.{Environment}
use Rattle.scope_env.specs.Kept.{environment_of}
use Rattle.scope_env.specs.Marks.{IsKept}
use Rattle.scope_env.proofs.MarkLaws.{kept_empty}
use Rattle.scope_env.proofs.env.Env.new.Goals as goal

pub invariant_of-result : goal.invariant_of-result
invariant_of-result c =
    subst (λ (e : Environment). IsKept e c.new-4.result c.new-5.result) (λ j. environment_of (sym c.new.ensures.items j) (sym c.new-2.ensures.empty j) (sym c.new-3.ensures.empty j)) (kept_empty c.new-4.result c.new-5.result)
