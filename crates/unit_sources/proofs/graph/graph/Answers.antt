use Rattle.std.proofs.Common.{subst}
use Rattle.unit_sources.specs.Graphs.{SameRows, rows_of}
use Rattle.unit_sources.proofs.graph.graph.Goals as goal

pub returns : goal.returns
returns c = subst (SameRows c.in_ok-rows.field-0.items) (λ j. rows_of (λ s. c.in_ok-firsts.ensures s j) c.args.units.now) c.in_ok-rows.ensures
