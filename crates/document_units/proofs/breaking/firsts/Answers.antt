use Rattle.std.proofs.Common.{take, sym, ap, ◌∙◌, arith}
use Rattle.scheme_model.specs.Includes.{max_units}
use Rattle.unit_sources.specs.declared.units.UnitSource.{UnitSource}
use Rattle.unit_sources.specs.Named.{is_name, place_named}
use Rattle.document_units.proofs.BrokenLaws.{first_below, few_taken, taken_within}
use Rattle.document_units.proofs.breaking.firsts.Goals as goal

pub returns-clause-named : goal.returns-clause-named
returns-clause-named c = λ s. c.in_ok-first_places.ensures s ∙ ap (place_named s 0) c.foremost.ensures

pub returns-clause-within : goal.returns-clause-within
returns-clause-within c = λ s n e.
    let us = c.args.sources.now in
    let lt = first_below (λ (u : UnitSource). is_name s u.name) 0 (take max_units us) n (sym (c.in_ok-first_places.ensures s ∙ ap (place_named s 0) c.foremost.ensures) ∙ e) in
    let le = taken_within max_units us in omega arith

pub returns-clause-few : goal.returns-clause-few
returns-clause-few c = λ s n e.
    let us = c.args.sources.now in
    let lt = first_below (λ (u : UnitSource). is_name s u.name) 0 (take max_units us) n (sym (c.in_ok-first_places.ensures s ∙ ap (place_named s 0) c.foremost.ensures) ∙ e) in
    let le = few_taken max_units us in omega arith
