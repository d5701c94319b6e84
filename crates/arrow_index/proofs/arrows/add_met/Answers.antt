use Rattle.std.proofs.Common.{◌≡◌, ◌<◌, None, subst, [], ◌++◌, map, take, length, get_or, Option, refl, sym, ap, ◌∙◌, arith}
use Rattle.std.proofs.lemmas.List.{get_or-map, length-map}
use Rattle.scheme_model.specs.declared.Occ.{Occ}
use Rattle.scheme_model.specs.ProgramArrows.{arrow_of, binder_of, target_arrows}
use Rattle.syntax_tree.specs.declared.meaning.Meaning.TheVariants as meanings
use Rattle.program_leaves.specs.declared.sight.PlacedTarget.{PlacedTarget}
use Rattle.program_leaves.specs.Pairs.{as_arrow}
use Rattle.program_leaves.specs.Placed.{use_of, Use, IsUseOf}
use Rattle.program_leaves.proofs.Growing.{grows_as, grows_by_none, grows_twice}
use Rattle.program_leaves.proofs.VariableLaws.{match_at, match_all}
use Rattle.program_leaves.proofs.StepLaws.{targets_more}
use Rattle.arrow_index.proofs.arrows.add_met.Goals as goal

pub loop-target-init : goal.loop-target-init
loop-target-init c = λ work leaves keywords names table ts sees match. grows_by_none as_arrow c.args.pairs.now.items [] refl

pub loop-target-preserved : goal.loop-target-preserved
loop-target-preserved c = λ work leaves keywords names table ts sees match.
    let binder = binder_of leaves table in
    let xs = c.args.met.now in
    let k = c.loop-target.target-index in
    let d : PlacedTarget = record { at = record { unit = 0; form = 0 }; target = record { meaning = meanings.Local 0; ident = 0; occ = None } } in
    let x = get_or xs k d in
    let many : length (map use_of xs) ≡ length xs = length-map xs use_of in
    let lt : k < length xs = omega arith in
    let a = match_at (IsUseOf work) (map use_of xs) ts k (use_of d) match (omega arith) in
    let m = a.item in
    let is = subst (λ (u : Use). IsUseOf work u m) (get_or-map use_of xs k d (use_of d) lt) a.is in
    let step = c.in_ok-add_meant.ensures work leaves keywords names table m.meaning sees is.meaning ∙ ap (λ (o : Option Occ). map as_arrow c.loop-target.pairs.items ++ arrow_of (binder m.meaning) o) is.place in
    grows_twice as_arrow c.args.pairs.now.items c.loop-target.pairs.items c.add_meant.new.pairs.items (target_arrows binder (take k ts)) (arrow_of (binder m.meaning) m.occ) _ (c.loop-target.invariant work leaves keywords names table ts sees match) step
    (targets_more binder ts k m a.more)

pub returns : goal.returns
returns c = λ work leaves keywords names table ts sees match.
    let k = c.loop-target.target-index in
    let many : length (map use_of c.args.met.now) ≡ length c.args.met.now = length-map c.args.met.now use_of in
    let past = match_all (IsUseOf work) (map use_of c.args.met.now) ts k match (omega arith) in
    grows_as as_arrow c.args.pairs.now.items c.loop-target.pairs.items _ _ (c.loop-target.invariant work leaves keywords names table ts sees match) (ap (target_arrows (binder_of leaves table)) (sym past))
