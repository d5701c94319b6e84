use Rattle.std.proofs.Common.{vec_len, ◌≡◌, ℕ, Some, None, length, subst, sym, ap, ◌∙◌, refl, nat_cmp, arith}
use Rattle.std.specs.FinMap.{get}
use Rattle.std.specs.BTreeMap.{Updates}
use Rattle.scope_env.specs.Environment.{Environment, with_root}
use Rattle.scope_env.specs.Kept.{environment_of}
use Rattle.scope_env.specs.Marks.{IsKept}
use Rattle.scope_env.proofs.MarkLaws.{kept_root}
use Rattle.scope_env.proofs.Changes.{root_seen, on_ok, from_err, popped}
use Rattle.scope_env.proofs.env.Env.root.Goals as goal
use Rattle.scope_env.proofs.env.Env.root.Goals.{Else-is_err}

-- what the fields stand for then
opened : (c : Else-is_err) → environment_of c.push.new.self.items c.self.inside.uses.entries c.insert.new.self.entries ≡ with_root (environment_of c.self.inside.scopes.items c.self.inside.uses.entries c.self.inside.roots.entries) c.args.unit
opened c =
    let put : Updates nat_cmp c.self.inside.roots c.insert.new.self c.args.unit (Some c.len-scope.result) = on_ok c.insert.result (sym c.is_err.ensures.value ∙ c.if-is_err.false) c.insert.ensures.updates in
    let count : c.len-scope.result ≡ length c.self.inside.scopes.items = omega (arith, c.len-scope.ensures, c.self.inside.scopes.ok.0) in
    root_seen c.self.inside.scopes.items c.push.new.self.items c.self.inside.uses.entries c.self.inside.roots c.insert.new.self c.args.unit _ c.in_ok-push.ensures.items refl c.new-bound.ensures.empty
    (subst (λ (n : ℕ). Updates nat_cmp c.self.inside.roots c.insert.new.self c.args.unit (Some n)) count put)

pub invariant_of-self-else-is_err : goal.invariant_of-self-else-is_err
invariant_of-self-else-is_err c =
    let before = environment_of c.self.inside.scopes.items c.self.inside.uses.entries c.self.inside.roots.entries in
    let new : get before.roots c.args.unit ≡ None = subst (λ (e : Environment). get e.roots c.args.unit ≡ None) (sym c.self.view_is) c.requires in
    subst (λ (e : Environment). IsKept e c.self.inside.locals c.self.inside.owns) (sym (opened c)) (kept_root c.self.inside.locals c.self.inside.owns before c.args.unit c.self.invariant new)

pub returns-clause-added : goal.returns-clause-added
returns-clause-added c = opened c ∙ ap (λ (e : Environment). with_root e c.args.unit) c.self.view_is

pub invariant_of-self-then-is_err : goal.invariant_of-self-then-is_err
invariant_of-self-then-is_err c =
    let counted : vec_len c.push.new.self ≡ length c.push.new.self.items = omega (arith, c.push.new.self.ok.0) in
    let scopes = popped c.self.inside.scopes.items c.push.new.self.items c.pop.new.self.items _ (vec_len c.push.new.self) c.in_ok-push.ensures.items counted c.pop.ensures.rest in
    let roots : c.insert.new.self.entries ≡ c.self.inside.roots.entries = from_err c.insert.result (sym c.is_err.ensures.value ∙ c.if-is_err.true) c.insert.ensures.err in
    subst (λ (e : Environment). IsKept e c.self.inside.locals c.self.inside.owns) (λ j. environment_of (sym scopes j) c.self.inside.uses.entries (sym roots j)) c.self.invariant
