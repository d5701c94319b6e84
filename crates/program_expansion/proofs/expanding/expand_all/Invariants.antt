use Rattle.std.proofs.Common.{◌≡◌, ℕ, ◌+◌, ◌≤◌, List, length, take, vec_len, slice_get, Some}
use Rattle.scheme_model.specs.IncludedUnits.{Placed}
use Rattle.scheme_model.specs.Program.{UnitResult}
use Rattle.scheme_model.specs.Requirements.{Known, LibraryName}
use Rattle.scheme_model.specs.ScopedProgram.{scoped_before}
use Rattle.feature_requirements.specs.Judged.{Knows}
use Rattle.unit_scopes.specs.Opened.{IsNew}
use Rattle.unit_scopes.specs.Outcomes.{Grows}
use Rattle.program_expansion.specs.UnitResults.{FindsLibraries, GoesOn, HeadsBy, IsUpTo}
use Rattle.read_documents.specs.UnitSources.{AreSourcesOf}
use Rattle.document_units.specs.Turned.{scoped_at, turns}
use Rattle.unit_results.specs.Formed.{CameFormed}
use Rattle.form_expansion.specs.Forms.{IsBench}
use Rattle.unit_imports.specs.EntriesMeant.{ExportsMean}
use Rattle.read_documents.specs.Places.{AreHeads, HeadsStay, NamesKept, HaveTokens}
use Rattle.read_documents.specs.Readings.{Read}
use Rattle.unit_results.specs.UnitsExpanded.{AreAllFound}
use Rattle.program_expansion.specs.UsesInTurn.{uses_at}
use Rattle.unit_results.specs.UnitsFound.{AreLostIn, AreResultsOf, HaveFound}
use Rattle.program_expansion.proofs.expanding.expand_all.Given as goal

-- the units so far came to something, and those to come are still to be begun
abbrev pub invariant-loop-place : goal.invariant-loop-place
invariant-loop-place g l = record {
  bench : IsBench l.bench;
  grows : Grows l.fn.bench.work l.bench.work l.fn.bench.region;
  region : l.bench.region ≡ l.fn.bench.region;
  heads : HeadsStay l.fn.units.heads.items l.units.heads.items;
  kept : NamesKept l.fn.units.heads.items l.units.heads.items;
  sources : l.units.sources ≡ l.fn.units.sources;
  count : vec_len l.all ≡ vec_len l.fn.units.heads;
  found : AreAllFound (length l.documents) l.all.items;
  mean : ExportsMean l.bench.work.symbols l.all.items;
  formed : CameFormed l.bench.work l.all.items;
  up : (spelled : LibraryName → List ℕ) (us : List Placed) (known : Known) → l.order ≡ turns us → vec_len l.fn.units.heads ≡ length us → FindsLibraries spelled us l.firsts → Knows l.fn.bench.scope.libraries known → GoesOn l.fn.bench scoped_before → HeadsBy us scoped_before l.fn.units.heads.items →
      AreSourcesOf spelled us l.fn.units.sources.items → IsUpTo spelled us known (take l.place-index l.order) l.bench l.units l.all.items;
  steps : (spelled : LibraryName → List ℕ) (us : List Placed) (known : Known) → l.order ≡ turns us → vec_len l.fn.units.heads ≡ length us → FindsLibraries spelled us l.firsts → Knows l.fn.bench.scope.libraries known → GoesOn l.fn.bench scoped_before → HeadsBy us scoped_before l.fn.units.heads.items →
      AreSourcesOf spelled us l.fn.units.sources.items → l.steps ≡ l.fn.steps + uses_at us known (take l.place-index l.order);
  finds : (spelled : LibraryName → List ℕ) (us : List Placed) (known : Known) → l.order ≡ turns us → vec_len l.fn.units.heads ≡ length us → FindsLibraries spelled us l.firsts → Knows l.fn.bench.scope.libraries known → GoesOn l.fn.bench scoped_before → HeadsBy us scoped_before l.fn.units.heads.items →
      AreSourcesOf spelled us l.fn.units.sources.items → (reads : List Read) (ends : List UnitResult) → AreHeads reads 0 l.fn.units.heads.items ends → HaveTokens l.documents reads → AreResultsOf us ends → AreLostIn (length l.documents) us →
      HaveFound reads ends (scoped_at us known (take l.place-index l.order)) l.all.items;
  new : (k u : ℕ) → l.place-index ≤ k → slice_get l.order k ≡ Some u → IsNew l.bench.scope u;
}
