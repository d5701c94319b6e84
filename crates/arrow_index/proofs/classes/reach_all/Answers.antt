use Rattle.std.proofs.Common.{◌+◌, List, take, get_or, ap, ◌∙◌, arith}
use Rattle.std.proofs.lemmas.List.{take_more}
use Rattle.scheme_model.specs.declared.Occ.{Occ}
use Rattle.scheme_model.specs.Entries.{same_occ}
use Rattle.scheme_model.specs.Spelling.{is_member}
use Rattle.arrow_index.proofs.ClassWalks.{reaches_again, member_push}
use Rattle.arrow_index.proofs.classes.reach_all.Goals as goal

pub loop-occ-preserved : goal.loop-occ-preserved
loop-occ-preserved c =
    let i = c.loop-occ.occ-index in
    let os = c.args.occs.now in
    let d : Occ = record { unit = 0; form = 0; token = 0 } in
    reaches_again c.args.outside.now c.loop-occ.outside c.reach.new.outside c.args.left.now.items c.loop-occ.left.items c.reach.new.left.items (is_member (take i os)) (same_occ (get_or os i d)) (is_member (take (i + 1) os)) c.loop-occ.invariant
    c.in_ok-reach.ensures (λ o. ap (λ (xs : List Occ). is_member xs o) (take_more os i d (omega arith)) ∙ member_push (take i os) (get_or os i d) o)
