-- Procedures with several clauses, and conditionals.
use Rattle.std.proofs.Common.{◌≡◌, ◌+◌, ◌^◌, List, Vec, rules, refl, arith}
use Rattle.std.specs.declared.alloc.Global.{Global}
use Rattle.scheme_model.specs.Requirements.{Known}
use Rattle.scheme_model.specs.Cores.{Core, CaseLambda, If}
use Rattle.scheme_model.specs.Steps.{Step, ◌>>=◌, done}
use Rattle.scheme_model.specs.Expression.{whole, expand, clauses, each}
use Rattle.scheme_model.specs.ScopedExpansion.{Frames}
use Rattle.core_tree.specs.Cores.{CoreStands, ClausesStand}
use Rattle.core_tree.specs.declared.cores.Clause as code_clause
use Rattle.core_tree.specs.declared.cores.Core as code_core
use Rattle.core_tree.specs.declared.cores.Core.TheVariants as cores
use Rattle.expander.specs.CoreSteps.{case_lambda, conditional}
use Rattle.expander.proofs.AfterLaws.{spends_on}
use Rattle.expander.proofs.BelowLaws.{below_look, below_room, below_spends, below_enough}
use Rattle.expander.proofs.ExpandLaws.{trees_node, trees_node_fails}
use Rattle.expander.proofs.RowLaws.{trees_in, trees_match}
use Rattle.expander.proofs.StepLaws.{runs_err, node_runs, node_stops, node_none}
use Rattle.expander.proofs.cores.+core.Goals as goal
use Rattle.noted_steps.specs.Noting.{Noting, noting}

-- ---- procedures with several clauses

pub case_lambda-below-requires : goal.case_lambda-below-requires
case_lambda-below-requires t c = c.requires.look.stands.form.few_nodes

pub case_lambda-returns-in_err-below-clause-runs : goal.case_lambda-returns-in_err-below-clause-runs
case_lambda-returns-in_err-below-clause-runs t c = λ ds turns are enough.
    let a = c.args.work.now in
    let d = c.args.work.now in
    let region = c.args.region.now in
    let u = c.args.units.now in
    let v = c.below.new.units in
    let at = c.args.at in
    let Q : List Frames → code_core.Core → Core → Type 0 = λ layout. CoreStands d v.unit v.form.number in
    let f : Known → Frames → Step Noting Core = λ known fs. case_lambda (expand (noting known) turns) (noting known) at.depth at.here fs ds in
    let e = c.in_err-below.field-0.0 in
    runs_err Q a d region u v at.scope c.from_residual.result e f c.from_residual.ensures.1
    (node_none Q a region u v at 1 e (λ known fs depth t1. clauses (expand (noting known) turns) (noting known) depth at.here fs ds t1 >>= λ q. done (CaseLambda q)) c.in_err-below.ensures)

pub case_lambda-procedures-requires : goal.case_lambda-procedures-requires
case_lambda-procedures-requires t c =
    let u = c.args.units.now in
    let w = c.below.new.units in
    let below = c.in_ok-below.below in
    let h = c.in_ok-below.ensures in
    let is : c.args.at.depth ≡ below.depth + 1 = h.2.0 in (
      first_of (omega (arith, is), omega arith, search rules, grind arith),
      (c.requires.opened, (below_look u w c.args.at below 1 h c.args.work.now c.requires.look, (c.requires.clauses, below_room u w c.args.at below 1 h (2 ^ 43) c.requires.room))),
    )

pub case_lambda-returns-in_err-procedures-clause-runs : goal.case_lambda-returns-in_err-procedures-clause-runs
case_lambda-returns-in_err-procedures-clause-runs t c = λ ds turns are enough.
    let a = c.args.work.now in
    let d = c.procedures.new.work in
    let region = c.args.region.now in
    let u = c.args.units.now in
    let v = c.procedures.new.units in
    let at = c.args.at in
    let Q : List Frames → code_core.Core → Core → Type 0 = λ layout. CoreStands d v.unit v.form.number in
    let f : Known → Frames → Step Noting Core = λ known fs. case_lambda (expand (noting known) turns) (noting known) at.depth at.here fs ds in
    let w = c.below.new.units in
    let below = c.in_ok-below.below in
    let h = c.in_ok-below.ensures in
    let now = below_enough u w at below 1 h turns enough in
    let e = c.in_err-procedures.field-0.0 in
    runs_err Q a d region u v at.scope c.from_residual-in_err-procedures.result e f c.from_residual-in_err-procedures.ensures.1
    (node_stops a d region u w v at below 1 h (λ (layout : List Frames) (xs : Vec code_clause.Clause Global). ClausesStand d v.unit v.form.number xs.items) Q (λ known fs depth o. clauses (expand (noting known) turns) (noting known) depth o fs ds) e (λ known fs t1 q. done (CaseLambda q)) (c.in_err-procedures.ensures.runs ds turns are now))

pub case_lambda-returns-clause-runs : goal.case_lambda-returns-clause-runs
case_lambda-returns-clause-runs t c = λ ds turns are enough.
    let a = c.args.work.now in
    let d = c.procedures.new.work in
    let region = c.args.region.now in
    let u = c.args.units.now in
    let v = c.procedures.new.units in
    let at = c.args.at in
    let Q : List Frames → code_core.Core → Core → Type 0 = λ layout. CoreStands d v.unit v.form.number in
    let w = c.below.new.units in
    let below = c.in_ok-below.below in
    let h = c.in_ok-below.ensures in
    let now = below_enough u w at below 1 h turns enough in
    let x = c.in_ok-procedures.field-0 in
    node_runs a d region u w v at below 1 h (λ (layout : List Frames) (xs : Vec code_clause.Clause Global). ClausesStand d v.unit v.form.number xs.items) Q (λ known fs depth o. clauses (expand (noting known) turns) (noting known) depth o fs ds) x (cores.CaseLambda x) (λ known fs t1 q. CaseLambda q) (λ known ls s fs layout q e there held. (x, refl, held)) (c.in_ok-procedures.ensures.runs ds turns are now)

pub case_lambda-returns-clause-locals : goal.case_lambda-returns-clause-locals
case_lambda-returns-clause-locals t c = spends_on c.args.units.now c.below.new.units c.procedures.new.units (below_spends c.args.units.now c.below.new.units c.args.at c.in_ok-below.below 1 c.in_ok-below.ensures) c.in_ok-procedures.ensures.locals

-- ---- conditionals

pub conditional-below-requires : goal.conditional-below-requires
conditional-below-requires t c = c.requires.look.stands.form.few_nodes

pub conditional-returns-in_err-below-clause-runs : goal.conditional-returns-in_err-below-clause-runs
conditional-returns-in_err-below-clause-runs t c = λ ts turns are enough.
    let a = c.args.work.now in
    let d = c.args.work.now in
    let region = c.args.region.now in
    let u = c.args.units.now in
    let v = c.below.new.units in
    let at = c.args.at in
    let Q : List Frames → code_core.Core → Core → Type 0 = λ layout. CoreStands d v.unit v.form.number in
    let f : Known → Frames → Step Noting Core = λ known fs. conditional (expand (noting known) turns) (noting known) at.depth at.here fs ts in
    let e = c.in_err-below.field-0.0 in
    runs_err Q a d region u v at.scope c.from_residual.result e f c.from_residual.ensures.1
    (node_none Q a region u v at 1 e (λ known fs depth t1. each (λ x. expand (noting known) turns depth at.here fs (whole x)) ts t1 >>= λ q. done (If q)) c.in_err-below.ensures)

pub conditional-expand_all-requires : goal.conditional-expand_all-requires
conditional-expand_all-requires t c =
    let u = c.args.units.now in
    let w = c.below.new.units in
    let below = c.in_ok-below.below in
    let h = c.in_ok-below.ensures in
    let is : c.args.at.depth ≡ below.depth + 1 = h.2.0 in (
      first_of (omega (arith, is), omega arith, search rules, grind arith),
      (c.requires.opened, (below_look u w c.args.at below 1 h c.args.work.now c.requires.look, (c.requires.parts, below_room u w c.args.at below 1 h (2 ^ 43) c.requires.room))),
    )

pub conditional-returns-in_err-expand_all-clause-runs : goal.conditional-returns-in_err-expand_all-clause-runs
conditional-returns-in_err-expand_all-clause-runs t c = λ ts turns are enough.
    let a = c.args.work.now in
    let d = c.expand_all.new.work in
    let region = c.args.region.now in
    let u = c.args.units.now in
    let v = c.expand_all.new.units in
    let at = c.args.at in
    let Q : List Frames → code_core.Core → Core → Type 0 = λ layout. CoreStands d v.unit v.form.number in
    let f : Known → Frames → Step Noting Core = λ known fs. conditional (expand (noting known) turns) (noting known) at.depth at.here fs ts in
    let w = c.below.new.units in
    let below = c.in_ok-below.below in
    let h = c.in_ok-below.ensures in
    let now = below_enough u w at below 1 h turns enough in
    let e = c.in_err-expand_all.field-0.0 in
    runs_err Q a d region u v at.scope c.from_residual-in_err-expand_all.result e f c.from_residual-in_err-expand_all.ensures.1
    (trees_node_fails a d region u w v at below 1 turns h ts Q e If (c.in_err-expand_all.ensures.runs (trees_in ts) turns (trees_match a c.args.parts.now ts are) now))

pub conditional-returns-clause-runs : goal.conditional-returns-clause-runs
conditional-returns-clause-runs t c = λ ts turns are enough.
    let a = c.args.work.now in
    let d = c.expand_all.new.work in
    let region = c.args.region.now in
    let u = c.args.units.now in
    let v = c.expand_all.new.units in
    let at = c.args.at in
    let w = c.below.new.units in
    let below = c.in_ok-below.below in
    let h = c.in_ok-below.ensures in
    let now = below_enough u w at below 1 h turns enough in
    let x = c.in_ok-expand_all.field-0 in
    trees_node a d region u w v at below 1 turns h ts x (cores.If x) If (λ ms held. (x, refl, held)) (c.in_ok-expand_all.ensures.runs (trees_in ts) turns (trees_match a c.args.parts.now ts are) now)

pub conditional-returns-clause-locals : goal.conditional-returns-clause-locals
conditional-returns-clause-locals t c = spends_on c.args.units.now c.below.new.units c.expand_all.new.units (below_spends c.args.units.now c.below.new.units c.args.at c.in_ok-below.below 1 c.in_ok-below.ensures) c.in_ok-expand_all.ensures.locals
