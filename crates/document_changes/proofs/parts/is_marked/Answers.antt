-- The mark at the place is told, where there is one.
use Rattle.std.proofs.Common.{sym, ap, ◌∙◌}
use Rattle.read_documents.proofs.Nths.{get_none, get_some}
use Rattle.document_changes.specs.Parts.{mark_at, mark_in}
use Rattle.document_changes.proofs.parts.is_marked.Goals as goal

pub returns-in-Some-get : goal.returns-in-Some-get
returns-in-Some-get c =
    ap mark_in (sym (get_some c.args.marks.now c.in-Some.place c.in-Some-get.mark.now (sym c.in-Some-get.ensures.lookup.0) c.in-Some-get.ensures.lookup.1)) ∙ ap (mark_at c.args.marks.now) (sym c.in-Some.is)

pub returns-in-None : goal.returns-in-None
returns-in-None c = ap mark_in (sym (get_none c.args.marks.now c.in-Some.place (sym c.in-None.ensures.lookup.0))) ∙ ap (mark_at c.args.marks.now) (sym c.in-Some.is)
