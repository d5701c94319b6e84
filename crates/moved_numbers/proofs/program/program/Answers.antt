use Rattle.std.proofs.Common.{map, ap, ◌∙◌}
use Rattle.moved_numbers.specs.Standing.{UnitMoves}
use Rattle.moved_numbers.specs.Values.{unit_as}
use Rattle.moves.specs.Numbers.{numbers_of}
use Rattle.moved_numbers.proofs.Fronts.{match_as}
use Rattle.moved_numbers.proofs.program.program.Goals as goal

pub returns-clause-forms : goal.returns-clause-forms
returns-clause-forms c = match_as (UnitMoves (numbers_of c.args.moves.now)) c.take-all.result.items c.args.it.now.units c.all_units.new.all.items c.from_vec.result c.take-all.ensures c.from_vec.ensures c.all_units.ensures.forms

pub returns-clause-value : goal.returns-clause-value
returns-clause-value c =
    let f = unit_as (numbers_of c.args.moves.now) in
    λ i. record { units = (c.from_vec.ensures ∙ c.all_units.ensures.value ∙ ap (map f) c.take-all.ensures) i }
