use Rattle.std.proofs.Common.{◌||◌, ◌∙◌, Bool, true, nat_eq, get_or, take, sym, ap}
use Rattle.std.specs.Prelude.{if◌then◌else◌}
use Rattle.std.specs.List.{list_any}
use Rattle.std.specs.BTreeSet.{contains}
use Rattle.std.specs.Ordering.{nat_cmp}
use Rattle.std.proofs.lemmas.List.Folds.{list_any_more}
use Rattle.rules_build.proofs.NameLaws.{key_is, if_or, or_assoc}
use Rattle.rules_build.proofs.PlaceLaws.{eq_turned}
use Rattle.rules_build.proofs.index.add_places.Goals as goal

pub loop-place-preserved : goal.loop-place-preserved
loop-place-preserved c = λ q.
    let xs = c.args.those.now in
    let k = c.loop-place.place-index in
    let x = get_or xs k 0 in
    let now = contains nat_cmp c.loop-place.places q in
    let before = contains nat_cmp c.args.places.now q in
    c.in_ok-insert.ensures.updates.0 q ∙ ap (λ (b : Bool). if b then true else now) (key_is x q ∙ eq_turned x q) ∙ if_or (nat_eq q x) now ∙ ap (λ (b : Bool). b || nat_eq q x) (c.loop-place.invariant q)
    ∙ or_assoc before (list_any (nat_eq q) (take k xs)) (nat_eq q x) ∙ ap (λ (b : Bool). before || b) (sym (list_any_more (nat_eq q) xs k 0 c.loop-place-test.true))
