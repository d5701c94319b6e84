use Rattle.std.proofs.Common.{◌||◌, ◌∙◌, ℕ, List, sym, ap, subst}
use Rattle.std.specs.BTreeSet.{contains}
use Rattle.std.specs.Ordering.{nat_cmp}
use Rattle.scheme_model.specs.Building.{stands_in, used_in}
use Rattle.scheme_model.specs.Ident.{same_ident}
use Rattle.rules_build.specs.declared.values.Bound as code
use Rattle.rules_build.specs.Values.{AreBound}
use Rattle.rules_build.proofs.PlaceLaws.{has_within, used_at}
use Rattle.rules_build.proofs.used.used_of_many.Goals as goal

pub at_places-requires : goal.at_places-requires
at_places-requires c = λ q h. has_within (contains nat_cmp c.collect.new.names) c.args.bounds.now q (sym (c.in_ok-places.ensures c.args.bounds.now q c.requires.maps.places) ∙ h)

pub returns : goal.returns
returns c = λ region t ms h are.
    let w = c.args.work.now in
    let names = c.collect.new.names in
    let bs = c.args.bounds.now in
    let made = used_at w region t (contains nat_cmp names)
    (λ b m g. c.in_ok-collect.ensures t b.variable m.variable h g.0 ∙ ap (λ (ks : List ℕ). contains nat_cmp (record { keys = ks }) b.variable || stands_in same_ident m.variable t) c.new-names.ensures.empty)
    bs ms c.in_ok-places.places c.in_ok-at_places.ensures.ordered (λ q. c.in_ok-places.ensures bs q c.requires.maps.places) are in
    subst (λ (used : List code.Bound). AreBound w region used (used_in same_ident t ms)) (sym c.in_ok-at_places.ensures.used) made
