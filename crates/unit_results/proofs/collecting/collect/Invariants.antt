use Rattle.std.proofs.Common.{◌≡◌, ℕ, ◌≤◌, List, length, map, slice_get, vec_len}
use Rattle.read_documents.specs.Belongs.{AreErrorsIn}
use Rattle.program_leaves.specs.Formed.{AreFormedIn}
use Rattle.syntax_tree.specs.declared.trees.Work.{Work}
use Rattle.unit_results.specs.Formed.{CameFormed}
use Rattle.scheme_model.specs.Program.{Program}
use Rattle.read_documents.specs.Places.{HeadsStay, HaveTokens}
use Rattle.read_documents.specs.Readings.{Read}
use Rattle.unit_results.specs.UnitsFound.{AreTold}
use Rattle.read_documents.specs.declared.documents.Document.{Document}
use Rattle.unit_imports.proofs.Collecting.{AreCollectedSo}
use Rattle.read_documents.proofs.ToldUnits.{AreToldTo}
use Rattle.unit_results.proofs.collecting.collect.Given as goal

-- heads stay, what is found of the units so far stands in the documents, and their forms stand for something
abbrev pub invariant-loop-place : goal.invariant-loop-place
invariant-loop-place l = record {
  heads : HeadsStay l.fn.units.heads.items l.heads.items;
  findings : vec_len l.findings ≡ vec_len l.documents;
  errors : AreErrorsIn (vec_len l.documents) l.first_errors.items;
  count : length l.program ≡ length l.yielded;
  formed : (work : Work) → CameFormed work l.fn.expanded.items → AreFormedIn work l.program;
  told : (rs : List Read) (p : Program) → HaveTokens l.documents.items rs → AreTold rs p l.fn.units.heads.items l.fn.expanded.items → AreToldTo rs p (length l.yielded) l.findings.items l.program l.first_errors.items;
  untouched : (k : ℕ) → length l.yielded ≤ k → slice_get l.heads.items k ≡ slice_get l.fn.units.heads.items k;
  collected : AreCollectedSo (map (λ (d : Document). d.uri) l.documents.items) l.fn.units.heads.items l.sources.items l.fn.expanded.items l.program;
}
