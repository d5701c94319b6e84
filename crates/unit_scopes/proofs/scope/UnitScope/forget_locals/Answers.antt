use Rattle.std.proofs.Common.{◌≡◌, ◌+◌, ◌<◌, length, take, refl, sym, subst, arith}
use Rattle.unit_scopes.specs.Forgotten.{AllOwn, OwnFirst, without_local_scopes}
use Rattle.unit_scopes.specs.Units.{UnitStands}
use Rattle.unit_scopes.specs.declared.scope.UnitScope.{UnitScope}
use Rattle.unit_scopes.proofs.ForgottenLaws.{units_forgotten, own_forgotten, all_forgotten, root_there, editions_forgotten, numbers_forgotten}
use Rattle.unit_scopes.proofs.scope.UnitScope.forget_locals.Goals as goal
use Rattle.unit_scopes.proofs.scope.UnitScope.forget_locals.Goals.{After-forget_from}

pub overflow_add-self : goal.overflow_add-self
overflow_add-self c = let within : c.args.self.now.root < length c.args.self.now.env.scopes = root_there c.args.self.now c.sound.ensures c.requires in omega (arith, within, c.count-scopes.ensures)

pub forget_from-requires : goal.forget_from-requires
forget_from-requires c = λ v n is. let h = c.requires.newest v n is in omega (arith, h)

-- the units then
after : (c : After-forget_from) → record c.args.self.now { env = c.forget_from.new.self; macros = c.forget_locals.new.self; asked = c.keep_within.new.self } ≡ without_local_scopes c.args.self.now c.forget_locals.new.self c.keep_within.new.self
after c = λ j. record c.args.self.now { env = c.forget_from.ensures j; macros = c.forget_locals.new.self; asked = c.keep_within.new.self }

pub returns-clause-after : goal.returns-clause-after
returns-clause-after c = after c

pub returns-clause-own : goal.returns-clause-own
returns-clause-own c = subst OwnFirst (sym (after c)) (own_forgotten c.args.self.now c.forget_locals.new.self c.keep_within.new.self c.requires)

pub returns-clause-all_own : goal.returns-clause-all_own
returns-clause-all_own c = subst AllOwn (sym (after c)) (all_forgotten c.args.self.now c.forget_locals.new.self c.keep_within.new.self c.requires)

pub returns-clause-rests : goal.returns-clause-rests
returns-clause-rests c = λ work ls s t notes h forgets none at.
    subst (λ (v : UnitScope). UnitStands work v (take (c.args.self.now.root + 1) ls) t notes) (sym (after c))
    (units_forgotten work c.args.self.now c.forget_locals.new.self c.keep_within.new.self c.sound.ensures c.requires c.forget_locals.ensures.locals c.forget_locals.ensures.globals c.forget_locals.ensures.standards
    c.keep_within.ensures.notes c.keep_within.ensures.asking ls s t notes h forgets none at)

pub returns-clause-editions : goal.returns-clause-editions
returns-clause-editions c = λ names s t editions forgets h. editions_forgotten c.args.self.now.root c.args.self.now.macros c.forget_locals.new.self c.forget_locals.ensures.globals c.forget_locals.ensures.standards names s t editions forgets h

pub returns-clause-numbers : goal.returns-clause-numbers
returns-clause-numbers c =
    numbers_forgotten c.args.self.now (record c.args.self.now { env = c.forget_from.new.self; macros = c.forget_locals.new.self; asked = c.keep_within.new.self }) refl c.args.self.now.root c.forget_locals.ensures.globals c.forget_locals.ensures.standards
