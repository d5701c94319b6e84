use Rattle.std.proofs.Common.{List, [], get_or, sym, subst, arith}
use Rattle.std.specs.List.{flat_map}
use Rattle.std.specs.List.Sorted.{IsStrictlySortedBy}
use Rattle.std.proofs.lemmas.List.{take_all}
use Rattle.scheme_model.specs.declared.Occ.{Occ}
use Rattle.scheme_model.specs.ProgramArrows.{uses_at}
use Rattle.program_leaves.specs.Pairs.{pair_cmp, AreArrows, AreOccs}
use Rattle.program_leaves.specs.declared.pairs.Pair.{Pair}
use Rattle.program_answers.proofs.AskedLaws.{uses_more}
use Rattle.program_answers.proofs.ListedLaws.{HaveSame, same_listed}
use Rattle.program_answers.proofs.answers.uses_of_all.Goals as goal

pub loop-binder-init : goal.loop-binder-init
loop-binder-init c = λ arrows are. same_listed c.new-all.result.items [] c.new-all.ensures.items

pub uses_of-requires : goal.uses_of-requires
uses_of-requires c = subst (IsStrictlySortedBy pair_cmp) (sym c.as_slice.ensures) c.requires

pub loop-binder-preserved : goal.loop-binder-preserved
loop-binder-preserved c = λ arrows are.
    let none : Occ = record { unit = 0; form = 0; token = 0 } in
    let bs = c.args.binders.now in
    let i = c.loop-binder.binder-index in
    let mine = subst (λ (ps : List Pair). AreArrows ps arrows) (sym c.as_slice.ensures) are in
    let found = subst (λ (os : List Occ). AreOccs os (uses_at arrows (get_or bs i none))) (sym c.as_slice-in-loop-binder.ensures) (c.in_ok-uses.ensures arrows mine) in
    uses_more arrows bs i none c.loop-binder.all.items c.extend_from_slice.new.self.items c.as_slice-in-loop-binder.result.now (omega arith) (c.loop-binder.invariant arrows are) found c.in_ok-extend_from_slice.ensures.items

pub returns : goal.returns
returns c = λ arrows are.
    subst (λ (bs : List Occ). HaveSame c.loop-binder.all.items (flat_map (uses_at arrows) bs)) (take_all c.loop-binder.binder-index c.args.binders.now (omega arith)) (c.loop-binder.invariant arrows are)
