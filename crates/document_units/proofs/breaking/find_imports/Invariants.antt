use Rattle.std.proofs.Common.{take}
use Rattle.std.specs.BTreeMap.{get_by_text}
use Rattle.read_documents.specs.Broken.{FindsImports}
use Rattle.document_units.proofs.breaking.find_imports.Given as goal

-- the imports of the units so far are found
abbrev pub invariant-loop-place : goal.invariant-loop-place
invariant-loop-place l = FindsImports (λ s. get_by_text l.firsts s) (take l.place l.sources) l.initial.heads.items l.heads.items
