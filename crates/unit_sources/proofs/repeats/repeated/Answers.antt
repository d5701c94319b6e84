use Rattle.std.proofs.Common.{sym, ap, ◌∙◌, arith}
use Rattle.scheme_model.specs.Program.{is_in}
use Rattle.unit_sources.specs.Named.{place_named}
use Rattle.unit_sources.proofs.NamedLaws.{repeated_same}
use Rattle.unit_sources.proofs.PlaceLaws.{later_below}
use Rattle.unit_sources.proofs.repeats.repeated.Goals as goal

pub returns-clause-repeated : goal.returns-clause-repeated
returns-clause-repeated c spelled tells all are = c.in_ok-later_places.ensures ∙ repeated_same spelled tells c.args.units.now all are

pub returns-clause-within : goal.returns-clause-within
returns-clause-within c = λ n i.
    let lt = later_below (λ s. place_named s 0 c.args.units.now) 0 c.args.units.now n (sym (ap (is_in n) c.in_ok-later_places.ensures) ∙ i) in omega arith
