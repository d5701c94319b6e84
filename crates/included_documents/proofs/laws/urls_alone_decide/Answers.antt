use Rattle.std.proofs.Common.{ap, sym, ◌∙◌}
use Rattle.included_documents.specs.Meant.{by_base}
use Rattle.included_documents.proofs.laws.urls_alone_decide.Goals as goal

pub returns : goal.returns
returns c uris uri other string url e f = ap (by_base uris uri string) e ∙ sym (ap (by_base uris other string) f)
