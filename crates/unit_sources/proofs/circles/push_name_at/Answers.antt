use Rattle.std.proofs.Common.{◌++◌, sym, ap, ◌∙◌}
use Rattle.unit_sources.specs.declared.units.UnitSource.{UnitSource}
use Rattle.unit_sources.specs.Graphs.{as_list}
use Rattle.unit_sources.proofs.CircleLaws.{name_is}
use Rattle.unit_sources.proofs.circles.push_name_at.Goals as goal

pub returns : goal.returns
returns c =
    c.in_ok-push_name.ensures ∙ ap (λ (u : UnitSource). c.args.names.now ++ as_list u.name) (sym c.index-units-place.is) ∙ ap (λ o. c.args.names.now ++ as_list o) (name_is c.args.units.now c.args.place c.index-units-place.result c.requires c.index-units-place.is)
