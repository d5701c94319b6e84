use Rattle.std.proofs.Common.{◌≡◌, map, take}
use Rattle.datum_reader.proofs.reader.spans_in.Given as goal

abbrev pub invariant-loop-token : goal.invariant-loop-token
invariant-loop-token l = l.spans.items ≡ map (λ t. t.span) (take l.token-index l.tokens)
