use Rattle.std.proofs.Common.{◌+◌, ◌∷◌, get_or, drop, None, sym, ◌∙◌, arith}
use Rattle.std.specs.BTreeSet.{contains}
use Rattle.std.specs.Ordering.{nat_cmp}
use Rattle.std.proofs.lemmas.Grind.{common_steps}
use Rattle.std.proofs.lemmas.List.{drop_more}
use Rattle.core_forms.specs.declared.shape.NamePart.{NamePart}
use Rattle.core_forms.proofs.Distinct.{twice_more, not_true}
use Rattle.core_forms.proofs.names.twice_of_many.Goals as goal

pub loop-name-preserved : goal.loop-name-preserved
loop-name-preserved c =
    let i = c.loop-name.name-index in
    let all = c.args.names.now in
    let v : NamePart = get_or all i (record { ident = 0; occ = None }) in
    let inv = c.loop-name.invariant in
    let fresh = sym (inv.2 v.ident) ∙ not_true (contains nat_cmp c.loop-name.seen v.ident) (sym c.in_ok-insert.ensures.added ∙ c.if-not-branch.false) in
    (v.ident ∷ inv.0, inv.1 ∙ twice_more inv.0 (drop i all) (drop (i + 1) all) v (drop_more all i (record { ident = 0; occ = None }) c.loop-name-test.true) fresh, λ q. grind (arith, common_steps, inv.2 q))
