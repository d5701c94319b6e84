-- The span at the place, if there is one.
use Rattle.std.proofs.Common.{sym}
use Rattle.read_documents.proofs.Nths.{get_some, get_none}
use Rattle.read_documents.proofs.PlaceLaws.{span_there, no_span}
use Rattle.read_documents.proofs.places.span_at.Goals as goal

pub returns-in-Some : goal.returns-in-Some
returns-in-Some c = span_there c.args.spans.now c.args.n c.in-Some.span.now (get_some c.args.spans.now c.args.n c.in-Some.span.now (sym c.in-Some.ensures.lookup.0) c.in-Some.ensures.lookup.1)

pub returns-in-None : goal.returns-in-None
returns-in-None c = no_span c.args.spans.now c.args.n (get_none c.args.spans.now c.args.n (sym c.in-None.ensures.lookup.0))
