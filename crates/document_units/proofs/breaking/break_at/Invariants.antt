use Rattle.std.proofs.Common.{take}
use Rattle.read_documents.specs.Broken.{Breaks}
use Rattle.document_units.proofs.breaking.break_at.Given as goal

abbrev pub invariant-loop-place : goal.invariant-loop-place
invariant-loop-place l = Breaks l.fault (take l.place-index l.places) l.initial.heads.items l.heads.items
