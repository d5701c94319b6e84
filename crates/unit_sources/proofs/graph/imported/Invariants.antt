use Rattle.std.proofs.Common.{◌≡◌, ℕ, take}
use Rattle.std.specs.BTreeMap.{get_by_text}
use Rattle.scheme_model.specs.Program.{is_in}
use Rattle.unit_sources.specs.Named.{imported_places}
use Rattle.unit_sources.proofs.graph.imported.Given as goal

abbrev pub invariant-loop-import : goal.invariant-loop-import
invariant-loop-import l = (n : ℕ) → is_in n l.places.all ≡ is_in n (imported_places (λ s. get_by_text l.firsts s) (take l.import-index l.imports))
