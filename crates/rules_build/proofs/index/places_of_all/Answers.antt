use Rattle.std.proofs.Common.{◌||◌, ◌&&◌, ◌∙◌, Bool, nat_eq, get_or, sym, ap}
use Rattle.rules_build.proofs.PlaceLaws.{has_more}
use Rattle.rules_build.proofs.index.places_of_all.Goals as goal

pub loop-k-preserved : goal.loop-k-preserved
loop-k-preserved c = λ n q.
    let bs = c.args.bounds.now in
    let d = c.index-bounds-k.result in
    let k = c.loop-k.k in
    c.in_ok-add_place.ensures n q ∙ ap (λ (x : Bool). x || (nat_eq (get_or bs k d).variable n && nat_eq q k)) (c.loop-k.invariant n q) ∙ sym (has_more (λ v. nat_eq v n) bs k q d c.loop-k-test.true)
