use Rattle.std.proofs.Common.{◌++◌, None, ap, ◌∙◌, arith}
use Rattle.rename_model.specs.SameProgram as same
use Rattle.rename_model.specs.SameProgram.{Partners}
use Rattle.core_tree.specs.declared.cores.Binder.{Binder}
use Rattle.alpha_equal.specs.Compared.{local}
use Rattle.alpha_equal.proofs.CompareLaws.{pair_more, zip_all}
use Rattle.alpha_equal.proofs.compare.pair.Goals as goal

pub loop-k-preserved : goal.loop-k-preserved
loop-k-preserved c = λ unit form ps h a b.
    let d : Binder = record { number = 0; ident = 0; occ = None } in
    pair_more unit form c.loop-k.k a b c.args.old.now c.args.new.now d ps _ _ (omega arith) (omega arith) (c.loop-k.invariant unit form ps h a b) (c.in_ok-insert.ensures.updates.0 (record { old = a; new = b }))

pub returns : goal.returns
returns c = λ unit form ps h a b.
    c.loop-k.invariant unit form ps h a b
    ∙ ap (λ (qs : Partners). same.are_partners (qs ++ ps) (local unit form a) (local unit form b)) (zip_all unit form c.loop-k.k c.args.old.now c.args.new.now (omega arith))
