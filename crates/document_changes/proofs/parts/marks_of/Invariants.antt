use Rattle.std.proofs.Common.{◌≡◌, map, take}
use Rattle.text_parts.specs.declared.parts.TextPart.{TextPart}
use Rattle.document_changes.proofs.parts.marks_of.Given as goal

abbrev pub invariant-loop-part : goal.invariant-loop-part
invariant-loop-part l = l.marks.items ≡ map (λ (p : TextPart). p.is_part) (take l.part-index l.parts)
