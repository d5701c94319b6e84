use Rattle.std.proofs.Common.{take}
use Rattle.std.specs.BTreeMap.{get_by_text}
use Rattle.unit_sources.specs.Graphs.{SameRows, rows_of}
use Rattle.unit_sources.proofs.graph.rows.Given as goal

abbrev pub invariant-loop-unit : goal.invariant-loop-unit
invariant-loop-unit l = SameRows l.rows.items (rows_of (λ s. get_by_text l.firsts s) (take l.unit-index l.units))
