use Rattle.std.proofs.Common.{sym, arith}
use Rattle.std.proofs.lemmas.List.{length-take-le}
use Rattle.scheme_model.specs.Includes.{max_units}
use Rattle.document_units.proofs.BrokenLaws.{all_taken}
use Rattle.document_units.proofs.breaking.foremost.Goals as goal

pub returns-then-sources-le-MAX_UNITS : goal.returns-then-sources-le-MAX_UNITS
returns-then-sources-le-MAX_UNITS c = all_taken max_units c.args.sources.now c.if-sources-le-MAX_UNITS.true

pub slice_bounds-result-end : goal.slice_bounds-result-end
slice_bounds-result-end c = sym (length-take-le 128 c.args.sources.now (omega arith))
