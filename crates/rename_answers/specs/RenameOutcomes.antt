-- Renames of the code and what they stand for: the edits, or the fault by which a rename is refused.
use Rattle.std.specs.Prelude.{◌≡◌, ℕ, List, map, Result, Ok, Err}
use Rattle.ls_base.specs.declared.answers.DocEdits as told
use Rattle.ls_base.specs.declared.encoding.Encoding.{Encoding}
use Rattle.document_store.specs.Texts.{Document}
use Rattle.program_answers.specs.ToldAnswers.{document_at, place_told}
use Rattle.program_differences.specs.Differences.{IsDifference}
use Rattle.rename_model.specs.Difference.{Difference}
use Rattle.scheme_model.specs.Diagnostics.{Bytes}
use Rattle.rename_conditions.specs.Opened.{DocEdits}
use Rattle.rename_conditions.specs.Renames as model
use Rattle.rename_answers.specs.ToldRenames.{document_told}
use Rattle.rename_answers.specs.declared.faults.RenameFault.{RenameFault}
use Rattle.rename_answers.specs.declared.faults.RenameFault.TheVariants as faults

-- a fault is this refusal, told of these documents
abbrev pub IsFaultOf : Encoding → List (List ℕ × Document) → model.Refusal → RenameFault → Type 0
IsFaultOf encoding ds refusal faults.Memory = ⊥
IsFaultOf encoding ds refusal faults.NotBound = refusal ≡ model.NotBound
IsFaultOf encoding ds refusal (faults.Standard name) = refusal ≡ model.IsStandard name
IsFaultOf encoding ds refusal faults.BadName = refusal ≡ model.BadName
IsFaultOf encoding ds refusal (faults.Unreadable uri) = (n : ℕ) × (refusal ≡ model.Unreadable n) × (uri ≡ (document_at ds n).0)
IsFaultOf encoding ds refusal (faults.PrefixLost prefix) = refusal ≡ model.PrefixLost prefix
IsFaultOf encoding ds refusal (faults.PrefixClash place) = (b : Bytes) × (refusal ≡ model.PrefixClash b) × (place ≡ place_told encoding ds b)
IsFaultOf encoding ds refusal (faults.BrokenUnit place code) = (b : Bytes) × (refusal ≡ model.BrokenUnit b code) × (place ≡ place_told encoding ds b)
IsFaultOf encoding ds refusal (faults.Limit uri) = (n : ℕ) × (refusal ≡ model.TooLong n) × (uri ≡ (document_at ds n).0)
IsFaultOf encoding ds refusal (faults.Differs difference) = (d : Difference) × (refusal ≡ model.Differs d) × IsDifference difference d

-- a fault is this refusal, or memory ran out
abbrev pub RefusesAs : Encoding → List (List ℕ × Document) → model.Refusal → RenameFault → Type 0
RefusesAs encoding ds refusal faults.Memory = Unit {0}
RefusesAs encoding ds refusal fault = IsFaultOf encoding ds refusal fault

-- a rename answers so: with these edits, or with a fault that is this refusal. Where memory runs out nothing is told
abbrev pub AnswersAs : Encoding → List (List ℕ × Document) → Result (List DocEdits) model.Refusal → Result (List told.DocEdits) RenameFault → Type 0
AnswersAs encoding ds answer (Err faults.Memory) = Unit {0}
AnswersAs encoding ds (Ok es) (Ok edits) = edits ≡ map (document_told encoding ds) es
AnswersAs encoding ds (Ok es) (Err fault) = ⊥
AnswersAs encoding ds (Err refusal) (Ok edits) = ⊥
AnswersAs encoding ds (Err refusal) (Err fault) = IsFaultOf encoding ds refusal fault
