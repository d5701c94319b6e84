use Rattle.std.proofs.Common.{[], ◌++◌, map, take, Option, refl, sym, ap, ◌∙◌, arith}
use Rattle.scheme_model.specs.declared.Occ.{Occ}
use Rattle.scheme_model.specs.ProgramArrows.{arrow_of, binder_of, name_arrows}
use Rattle.program_leaves.specs.Pairs.{as_arrow}
use Rattle.program_leaves.specs.Sights.{IsNameOf}
use Rattle.program_leaves.proofs.Growing.{grows_as, grows_by_none, grows_twice}
use Rattle.program_leaves.proofs.VariableLaws.{match_item, match_all}
use Rattle.program_leaves.proofs.StepLaws.{names_more}
use Rattle.arrow_index.proofs.arrows.add_unit_names.Goals as goal

pub loop-name-init : goal.loop-name-init
loop-name-init c = λ work leaves keywords names table ns sees match. grows_by_none as_arrow c.args.pairs.now.items [] refl

pub loop-name-preserved : goal.loop-name-preserved
loop-name-preserved c = λ work leaves keywords names table ns sees match.
    let binder = binder_of leaves table in
    let k = c.loop-name.name-index in
    let a = match_item (IsNameOf work) c.args.found.now ns k c.name-item.result match (omega arith) c.name-item.is in
    let m = a.item in
    let step = c.in_ok-add_meant.ensures work leaves keywords names table m.meaning sees (a.is.1.meaning 0 0) ∙ ap (λ (o : Option Occ). map as_arrow c.loop-name.pairs.items ++ arrow_of (binder m.meaning) o) a.is.1.place in
    grows_twice as_arrow c.args.pairs.now.items c.loop-name.pairs.items c.add_meant.new.pairs.items (name_arrows binder (take k ns)) (arrow_of (binder m.meaning) m.occ) _ (c.loop-name.invariant work leaves keywords names table ns sees match) step (names_more binder ns k m a.more)

pub returns : goal.returns
returns c = λ work leaves keywords names table ns sees match.
    let k = c.loop-name.name-index in
    let past = match_all (IsNameOf work) c.args.found.now ns k match (omega arith) in
    grows_as as_arrow c.args.pairs.now.items c.loop-name.pairs.items _ _ (c.loop-name.invariant work leaves keywords names table ns sees match) (ap (name_arrows (binder_of leaves table)) (sym past))
