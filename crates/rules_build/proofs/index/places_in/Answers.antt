use Rattle.std.proofs.Common.{◌||◌, ◌∙◌, ℕ, List, nat_eq, sym, ap}
use Rattle.std.specs.List.{list_any}
use Rattle.std.specs.BTreeSet.{contains}
use Rattle.std.specs.Map.Iter.{deref}
use Rattle.std.specs.Ordering.{nat_cmp}
use Rattle.std.proofs.lemmas.Map.Iter.{rest_all}
use Rattle.rules_build.specs.Values.{places_at}
use Rattle.rules_build.proofs.NameLaws.{or_none}
use Rattle.rules_build.proofs.PlaceLaws.{among}
use Rattle.rules_build.proofs.index.places_in.Goals as goal

pub returns : goal.returns
returns c = λ bounds q are.
    let found = contains nat_cmp c.loop-name.places q in
    let f = λ (n : ℕ). list_any (nat_eq q) (places_at c.args.all.now n) in
    or_none found ∙ ap (λ (ks : List ℕ). found || list_any f ks) (sym (rest_all deref c.loop-name.name-iterator c.next.new.self c.next.result c.in-None.is c.next.ensures.steps))
    ∙ c.loop-name.invariant q ∙ among c.args.names.now c.args.all.now bounds q are
