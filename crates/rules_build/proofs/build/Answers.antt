use Rattle.std.proofs.Common.{ℕ}
use Rattle.syntax_tree.specs.Numbered.{number_of}
use Rattle.rules_build.specs.declared.plan.Plan.{Plan}
use Rattle.rules_build.specs.Builds.{instance}
use Rattle.rules_build.proofs.BuildSteps.{no_plan, not_full, can_add, none_taken, some_nodes, full_there, built_there, built_nodes}
use Rattle.rules_build.proofs.build.Goals as goal

pub returns-in_err-plan-clause-tree : goal.returns-in_err-plan-clause-tree
returns-in_err-plan-clause-tree c = λ rules m rules_for matched named.
    let w = c.args.work.now in
    let r = c.args.region.now in
    let k = number_of c.args.number in
    let left = c.args.left.now in
    let s = instance rules k m left in
    no_plan w r k left s c.from_residual.result c.in_err-plan.field-0.0 c.from_residual.ensures.1 (c.in_err-plan.ensures r k rules m rules_for matched named)

pub returns-in_err-plan-clause-full : goal.returns-in_err-plan-clause-full
returns-in_err-plan-clause-full c =
    let w = c.args.work.now in
    let r = c.args.region.now in
    let k = number_of c.args.number in
    let q = c.requires.matched in
    let left = c.args.left.now in
    not_full w r k left (instance q.0 k q.1 left) c.from_residual.result c.in_err-plan.field-0.0 c.from_residual.ensures.1 (c.in_err-plan.ensures r k q.0 q.1 q.2 q.3 q.4)

pub add_plan-requires-clause-plan : goal.add_plan-requires-clause-plan
add_plan-requires-clause-plan c =
    let w = c.args.work.now in
    let r = c.args.region.now in
    let k = number_of c.args.number in
    let q = c.requires.matched in
    let s = instance q.0 k q.1 c.args.left.now in
    let plan = c.in_ok-plan.ensures r k q.0 q.1 q.2 q.3 q.4 in
    let p : Plan × ℕ = (c.in_ok-plan.plan, c.in_ok-plan.rest) in
    can_add w r k c.args.left.now s p plan

pub returns-in_err-tree-clause-tree : goal.returns-in_err-tree-clause-tree
returns-in_err-tree-clause-tree c = λ rules m rules_for matched named.
    let w = c.args.work.now in
    let r = c.args.region.now in
    let k = number_of c.args.number in
    let left = c.args.left.now in
    let s = instance rules k m left in
    let plan = c.in_ok-plan.ensures r k rules m rules_for matched named in
    let p : Plan × ℕ = (c.in_ok-plan.plan, c.in_ok-plan.rest) in
    let new = c.add_plan.new.work in
    let f = c.from_residual-in_err-tree in
    let e = c.in_err-tree.field-0.0 in
    let a = c.in_err-tree.ensures plan.2.0 plan.2.1 in
    none_taken w r k left s p plan new f.result e f.ensures.1 a.1

pub returns-in_err-tree-clause-nodes : goal.returns-in_err-tree-clause-nodes
returns-in_err-tree-clause-nodes c = λ rules m rules_for matched named.
    let w = c.args.work.now in
    let r = c.args.region.now in
    let k = number_of c.args.number in
    let left = c.args.left.now in
    let s = instance rules k m left in
    let plan = c.in_ok-plan.ensures r k rules m rules_for matched named in
    let p : Plan × ℕ = (c.in_ok-plan.plan, c.in_ok-plan.rest) in
    let new = c.add_plan.new.work in
    let f = c.from_residual-in_err-tree in
    let e = c.in_err-tree.field-0.0 in
    let a = c.in_err-tree.ensures plan.2.0 plan.2.1 in
    some_nodes w r k left s p plan new f.result e f.ensures.1 a.0 a.1

pub returns-in_err-tree-clause-keeps : goal.returns-in_err-tree-clause-keeps
returns-in_err-tree-clause-keeps c =
    let r = c.args.region.now in
    let k = number_of c.args.number in
    let q = c.requires.matched in
    let plan = c.in_ok-plan.ensures r k q.0 q.1 q.2 q.3 q.4 in
    let a = c.in_err-tree.ensures plan.2.0 plan.2.1 in
    a.0.trees

pub returns-in_err-tree-clause-added : goal.returns-in_err-tree-clause-added
returns-in_err-tree-clause-added c =
    let r = c.args.region.now in
    let k = number_of c.args.number in
    let q = c.requires.matched in
    let plan = c.in_ok-plan.ensures r k q.0 q.1 q.2 q.3 q.4 in
    let a = c.in_err-tree.ensures plan.2.0 plan.2.1 in
    a.0.added

pub returns-in_err-tree-clause-regions : goal.returns-in_err-tree-clause-regions
returns-in_err-tree-clause-regions c =
    let r = c.args.region.now in
    let k = number_of c.args.number in
    let q = c.requires.matched in
    let plan = c.in_ok-plan.ensures r k q.0 q.1 q.2 q.3 q.4 in
    let a = c.in_err-tree.ensures plan.2.0 plan.2.1 in
    a.0.regions

pub returns-in_err-tree-clause-names : goal.returns-in_err-tree-clause-names
returns-in_err-tree-clause-names c =
    let r = c.args.region.now in
    let k = number_of c.args.number in
    let q = c.requires.matched in
    let plan = c.in_ok-plan.ensures r k q.0 q.1 q.2 q.3 q.4 in
    let a = c.in_err-tree.ensures plan.2.0 plan.2.1 in
    a.0.names

pub returns-in_err-tree-clause-full : goal.returns-in_err-tree-clause-full
returns-in_err-tree-clause-full c =
    let w = c.args.work.now in
    let r = c.args.region.now in
    let k = number_of c.args.number in
    let q = c.requires.matched in
    let s = instance q.0 k q.1 c.args.left.now in
    let plan = c.in_ok-plan.ensures r k q.0 q.1 q.2 q.3 q.4 in
    let p : Plan × ℕ = (c.in_ok-plan.plan, c.in_ok-plan.rest) in
    let f = c.from_residual-in_err-tree in
    let e = c.in_err-tree.field-0.0 in
    let a = c.in_err-tree.ensures plan.2.0 plan.2.1 in
    full_there w r k c.args.left.now s p plan f.result e f.ensures.1 a.1

pub returns-clause-tree : goal.returns-clause-tree
returns-clause-tree c = λ rules m rules_for matched named.
    let w = c.args.work.now in
    let r = c.args.region.now in
    let k = number_of c.args.number in
    let left = c.args.left.now in
    let s = instance rules k m left in
    let plan = c.in_ok-plan.ensures r k rules m rules_for matched named in
    let p : Plan × ℕ = (c.in_ok-plan.plan, c.in_ok-plan.rest) in
    let new = c.add_plan.new.work in
    let a = c.in_ok-tree.ensures plan.2.0 plan.2.1 in
    built_there w r k left s p plan new c.in_ok-tree.tree a.1

pub returns-clause-nodes : goal.returns-clause-nodes
returns-clause-nodes c = λ rules m rules_for matched named.
    let w = c.args.work.now in
    let r = c.args.region.now in
    let k = number_of c.args.number in
    let left = c.args.left.now in
    let s = instance rules k m left in
    let plan = c.in_ok-plan.ensures r k rules m rules_for matched named in
    let p : Plan × ℕ = (c.in_ok-plan.plan, c.in_ok-plan.rest) in
    let new = c.add_plan.new.work in
    let a = c.in_ok-tree.ensures plan.2.0 plan.2.1 in
    built_nodes w r k left s p plan new c.in_ok-tree.tree a.0

pub returns-clause-region : goal.returns-clause-region
returns-clause-region c =
    let r = c.args.region.now in
    let k = number_of c.args.number in
    let q = c.requires.matched in
    let plan = c.in_ok-plan.ensures r k q.0 q.1 q.2 q.3 q.4 in
    let a = c.in_ok-tree.ensures plan.2.0 plan.2.1 in
    a.2

pub returns-clause-keeps : goal.returns-clause-keeps
returns-clause-keeps c =
    let r = c.args.region.now in
    let k = number_of c.args.number in
    let q = c.requires.matched in
    let plan = c.in_ok-plan.ensures r k q.0 q.1 q.2 q.3 q.4 in
    let a = c.in_ok-tree.ensures plan.2.0 plan.2.1 in
    a.0.trees

pub returns-clause-added : goal.returns-clause-added
returns-clause-added c =
    let r = c.args.region.now in
    let k = number_of c.args.number in
    let q = c.requires.matched in
    let plan = c.in_ok-plan.ensures r k q.0 q.1 q.2 q.3 q.4 in
    let a = c.in_ok-tree.ensures plan.2.0 plan.2.1 in
    a.0.added

pub returns-clause-regions : goal.returns-clause-regions
returns-clause-regions c =
    let r = c.args.region.now in
    let k = number_of c.args.number in
    let q = c.requires.matched in
    let plan = c.in_ok-plan.ensures r k q.0 q.1 q.2 q.3 q.4 in
    let a = c.in_ok-tree.ensures plan.2.0 plan.2.1 in
    a.0.regions

pub returns-clause-names : goal.returns-clause-names
returns-clause-names c =
    let r = c.args.region.now in
    let k = number_of c.args.number in
    let q = c.requires.matched in
    let plan = c.in_ok-plan.ensures r k q.0 q.1 q.2 q.3 q.4 in
    let a = c.in_ok-tree.ensures plan.2.0 plan.2.1 in
    a.0.names
