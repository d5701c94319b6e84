use Rattle.std.proofs.Common.{take}
use Rattle.read_documents.specs.Broken.{Forgets}
use Rattle.document_units.proofs.breaking.forget_imports.Given as goal

-- the broken units so far have no import sets any more
abbrev pub invariant-loop-place : goal.invariant-loop-place
invariant-loop-place l = Forgets (take l.place l.heads) l.initial.sources.items l.sources.items
