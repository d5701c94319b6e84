use Rattle.std.proofs.Common.{◌≡◌, map, take}
use Rattle.text_parts.specs.declared.parts.TextPart.{TextPart}
use Rattle.document_units.proofs.included.usable_of.Given as goal

abbrev pub invariant-loop-part : goal.invariant-loop-part
invariant-loop-part l = l.usable.items ≡ map (λ (p : TextPart). p.is_usable) (take l.part-index l.parts)
