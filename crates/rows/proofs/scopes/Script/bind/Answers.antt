use Rattle.std.proofs.Common.{◌≡◌, ◌∙◌, ℕ, length, sym, ap}
use Rattle.scope_env.specs.Environment.{Environment, bound_in}
use Rattle.scope_env.proofs.Places.{length-changed_at}
use Rattle.rows.proofs.scopes.Script.bind.Goals as goal

-- a binding leaves as many scopes as there were
pub returns : goal.returns
returns c =
    c.requires ∙ sym (length-changed_at (bound_in c.in_ok-id.id c.in_ok-meaning.meaning) c.args.self.now.env.scopes c.in_ok-scope.scope)
    ∙ ap (λ (e : Environment). length e.scopes) (sym c.in_ok-bind.ensures.bound)
