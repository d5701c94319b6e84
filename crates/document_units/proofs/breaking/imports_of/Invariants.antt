use Rattle.std.proofs.Common.{◌≡◌, ◌++◌, drop}
use Rattle.std.specs.BTreeMap.{get_by_text}
use Rattle.unit_sources.specs.Named.{imported_places}
use Rattle.document_units.proofs.breaking.imports_of.Given as goal

-- the places so far and those that are left
abbrev pub invariant-loop-spec : goal.invariant-loop-spec
invariant-loop-spec l = l.places ++ imported_places (λ s. get_by_text l.firsts s) (drop l.spec-index l.specs) ≡ imported_places (λ s. get_by_text l.firsts s) l.specs
