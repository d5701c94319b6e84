use Rattle.std.proofs.Common.{◌≡◌, ◌++◌, drop}
use Rattle.std.specs.BTreeMap.{get_by_text}
use Rattle.read_documents.specs.Libraries.{places_by}
use Rattle.document_units.proofs.breaking.places_named.Given as goal

-- the places so far and those that are left
abbrev pub invariant-loop-name : goal.invariant-loop-name
invariant-loop-name l = l.places ++ places_by (λ s. get_by_text l.firsts s) (drop l.name-index l.names) ≡ places_by (λ s. get_by_text l.firsts s) l.names
