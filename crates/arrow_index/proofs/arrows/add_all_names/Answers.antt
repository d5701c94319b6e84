use Rattle.std.proofs.Common.{◌≡◌, ◌+◌, List, [], ◌∷◌, ◌++◌, map, drop, refl, sym, ◌∙◌, subst, add-one, drop-cons, arith}
use Rattle.std.proofs.Math.ListN.{drop_of_length-le}
use Rattle.scheme_model.specs.Live.{NameUse}
use Rattle.scheme_model.specs.ProgramArrows.{binder_of, name_arrows}
use Rattle.core_tree.specs.Names.{AllMatch}
use Rattle.core_tree.specs.declared.units.NameUse as code_name
use Rattle.core_tree.specs.declared.units.Unit.{Unit as CodeUnit}
use Rattle.program_leaves.specs.Pairs.{as_arrow}
use Rattle.program_leaves.specs.Sights.{IsNameOf, all_names}
use Rattle.program_leaves.proofs.AddLaws.{Past, past_none, past_more, past_all}
use Rattle.program_leaves.proofs.Growing.{grows_by_none, grows_twice}
use Rattle.program_leaves.proofs.StepLaws.{names-append}
use Rattle.arrow_index.proofs.arrows.add_all_names.Goals as goal

pub loop-unit-init : goal.loop-unit-init
loop-unit-init c = λ work leaves keywords names table ns sees match. past_none (IsNameOf work) (all_names c.args.units.now) ns _ match (grows_by_none as_arrow c.args.pairs.now.items [] refl)

pub loop-unit-preserved : goal.loop-unit-preserved
loop-unit-preserved c = λ work leaves keywords names table ns sees match.
    let binder = binder_of leaves table in
    let us = c.args.units.now in
    let i = c.loop-unit.unit-index in
    let u = c.unit-item.result in
    let at : drop i us ≡ u ∷ drop (i + 1) us = drop-cons us i u (omega arith) ∙ (λ j. sym c.unit-item.is j ∷ drop (sym (add-one i) j) us) in
    let p = subst (λ (xs : List CodeUnit). Past (IsNameOf work) (all_names xs) ns (λ done. map as_arrow c.loop-unit.pairs.items ≡ map as_arrow c.args.pairs.now.items ++ name_arrows binder done)) at
    (c.loop-unit.invariant work leaves keywords names table ns sees match) in
    past_more (IsNameOf work) u.names (all_names (drop (i + 1) us)) ns _ _ p
    (λ r.
    let first = subst (λ (xs : List code_name.NameUse). AllMatch (IsNameOf work) xs r.first) (sym c.as_slice.ensures) r.one in
    grows_twice as_arrow c.args.pairs.now.items c.loop-unit.pairs.items c.add_unit_names.new.pairs.items (name_arrows binder p.done) (name_arrows binder r.first) (name_arrows binder (p.done ++ r.first)) p.holds
    (c.in_ok-add_unit_names.ensures work leaves keywords names table r.first sees first) (names-append binder p.done r.first))

pub returns : goal.returns
returns c = λ work leaves keywords names table ns sees match.
    let us = c.args.units.now in
    let Q = λ (done : List NameUse). map as_arrow c.loop-unit.pairs.items ≡ map as_arrow c.args.pairs.now.items ++ name_arrows (binder_of leaves table) done in
    past_all (IsNameOf work) ns Q (subst (λ (xs : List CodeUnit). Past (IsNameOf work) (all_names xs) ns Q) (drop_of_length-le us (omega arith)) (c.loop-unit.invariant work leaves keywords names table ns sees match))
