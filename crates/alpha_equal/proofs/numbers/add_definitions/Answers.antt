use Rattle.std.proofs.Common.{Bool, Some, None, cond, get_or, ap, ◌∙◌, arith}
use Rattle.std.specs.BTreeMap.{get}
use Rattle.core_tree.specs.declared.cores.Binder.{Binder}
use Rattle.program_leaves.specs.Placed.{global_cmp}
use Rattle.program_leaves.proofs.KeyLaws.{globals_equal}
use Rattle.alpha_equal.proofs.NumberLaws.{given_more}
use Rattle.alpha_equal.proofs.numbers.add_definitions.Goals as goal

pub loop-binder-preserved : goal.loop-binder-preserved
loop-binder-preserved c = λ k.
    let d : Binder = record { number = 0; ident = 0; occ = None } in
    let b = get_or c.args.binders.now c.loop-binder.binder-index d in
    let old = get global_cmp c.loop-binder.numbers k in
    given_more c.args.unit c.args.binders.now c.loop-binder.binder-index d k (get global_cmp c.args.numbers.now k) old (get global_cmp c.insert.new.self k) (omega arith) (c.loop-binder.invariant k)
    (c.in_ok-insert.ensures.updates.0 k ∙ ap (λ (q : Bool). cond q (Some b.number) old) (globals_equal (record { unit = c.args.unit; ident = b.ident }) k))
