use Rattle.std.proofs.Common.{◌∷◌, []}
use Rattle.scheme_model.specs.Program.{spec_of}
use Rattle.datum_reader.specs.Views.{datum_of}
use Rattle.unit_sources.specs.SetsRead.{IsImportSpec}
use Rattle.unit_sources.proofs.Gathering.{GatheredUpTo}
use Rattle.unit_sources.proofs.parts.add_specs.Given as goal

abbrev pub invariant-loop-datum : goal.invariant-loop-datum
invariant-loop-datum l = GatheredUpTo IsImportSpec (λ k d. spec_of l.home.unit l.home.form l.home.first (datum_of d) ∷ []) l.parts l.datum-index l.initial.specs l.specs
