use Rattle.std.proofs.Common.{◌<◌, length}
use Rattle.rows.proofs.scopes.identifier_of.Given as goal

abbrev pub invariant-loop-by : goal.invariant-loop-by
invariant-loop-by l = l.id < length l.symbols.idents
