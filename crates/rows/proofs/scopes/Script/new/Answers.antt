use Rattle.std.proofs.Common.{◌≡◌, ◌∙◌, ℕ, None, ap}
use Rattle.std.specs.Ordering.{nat_cmp}
use Rattle.std.specs.Cmp.{nat_cmp_total}
use Rattle.std.specs.FinMap.{empty, get, get-empty, get-insert}
use Rattle.scope_env.specs.Environment.{Environment, no_scopes, with_root}
use Rattle.rows.proofs.scopes.Script.new.Goals as goal

-- no unit has a scope yet
pub root-requires : goal.root-requires
root-requires c = ap (λ (e : Environment). get e.roots 0) c.new-env.ensures ∙ get-empty nat_cmp 0

-- the first unit's scope isn't the second's
pub root-requires-2 : goal.root-requires-2
root-requires-2 c =
    ap (λ (e : Environment). get e.roots 1) c.in_ok-root.ensures.added
    ∙ ap (λ (e : Environment). get (with_root e 0).roots 1) c.new-env.ensures
    ∙ (get-insert nat_cmp_total empty 0 0 1 ∙ get-empty nat_cmp 1)
