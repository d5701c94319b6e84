-- One string more.
use Rattle.std.proofs.Common.{length, refl, sym, ap, ◌∙◌, arith}
use Rattle.included_documents.specs.Meant.{meant}
use Rattle.text_parts.specs.Marks.{marked}
use Rattle.text_parts.proofs.NameLaws.{names_more}
use Rattle.text_parts.proofs.naming.note_all.Goals as goal

pub loop-string-preserved : goal.loop-string-preserved
loop-string-preserved c = (
  c.note.ensures.size ∙ c.loop-string.invariant.0,
  λ k lt.
      names_more (meant c.args.uris.now c.args.document) c.args.strings.now c.loop-string.string-index _ c.in_ok-place.place (marked c.args.marks.now.items k) (marked c.loop-string.marks.items k) (marked c.note.new.marks.items k) k (omega arith)
      c.in_ok-place.ensures (c.loop-string.invariant.1 k lt) (c.note.ensures.told k (omega (arith, c.loop-string.invariant.0))),
)
