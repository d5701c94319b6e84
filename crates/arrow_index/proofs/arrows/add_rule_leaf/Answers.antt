use Rattle.std.proofs.Common.{[], ◌∷◌, ◌++◌, Option, map, ap, ◌∙◌}
use Rattle.std.specs.Prelude.{◌||◌, not}
use Rattle.scheme_model.specs.declared.Occ.{Occ}
use Rattle.scheme_model.specs.ProgramArrows.{arrow_of, binder_of, is_live_at, leaf_arrows}
use Rattle.program_leaves.specs.Pairs.{as_arrow}
use Rattle.program_leaves.proofs.Growing.{grows_as, grows_by_none}
use Rattle.program_leaves.proofs.StepLaws.{static_true, static_false}
use Rattle.arrow_index.proofs.arrows.add_rule_leaf.Goals as goal

pub returns-then-is_static : goal.returns-then-is_static
returns-then-is_static c = λ work leaves keywords names table m sees is.
    let live = is_live_at leaves keywords names in
    let l = c.args.leaf.now in
    let test = c.is_static.ensures work leaves keywords names table sees ∙ (λ j. is.literal j || not (live (is.target.place j))) in
    let here = arrow_of (binder_of leaves table m.target.meaning) m.target.occ in
    let meant = c.in_ok-add_meant.ensures work leaves keywords names table m.target.meaning sees is.target.meaning ∙ ap (λ (o : Option Occ). map as_arrow c.args.pairs.now.items ++ arrow_of (binder_of leaves table m.target.meaning) o) is.target.place in
    grows_as as_arrow c.args.pairs.now.items c.add_meant.new.pairs.items here (leaf_arrows (binder_of leaves table) live (m ∷ [])) meant (static_true c.is_static.result (m.literal || not (live m.target.occ)) here test c.if-is_static.true)

pub returns : goal.returns
returns c = λ work leaves keywords names table m sees is.
    let live = is_live_at leaves keywords names in
    let test = c.is_static.ensures work leaves keywords names table sees ∙ (λ j. is.literal j || not (live (is.target.place j))) in
    let here = arrow_of (binder_of leaves table m.target.meaning) m.target.occ in
    grows_by_none as_arrow c.args.pairs.now.items (leaf_arrows (binder_of leaves table) live (m ∷ [])) (static_false c.is_static.result (m.literal || not (live m.target.occ)) here test c.if-is_static.false)
