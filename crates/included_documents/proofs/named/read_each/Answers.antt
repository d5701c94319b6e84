use Rattle.std.proofs.Common.{sym, subst, arith}
use Rattle.std.specs.List.{All}
use Rattle.std.proofs.lemmas.Grind.{common_steps}
use Rattle.included_documents.specs.Kept.{IsRead}
use Rattle.included_documents.proofs.Readings.{read_more}
use Rattle.included_documents.proofs.named.read_each.Goals as goal

pub loop-uri-preserved : goal.loop-uri-preserved
loop-uri-preserved c = (
  subst (All IsRead) (sym c.in_ok-push.ensures.items) (read_more c.loop-uri.documents.items c.in_ok-read_one.field-0 c.loop-uri.invariant.0 c.in_ok-read_one.ensures.read),
  grind (arith, common_steps),
)
