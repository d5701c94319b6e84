-- A text alone in a workspace, as the document `input`, and what is told of it.
use Rattle.std.specs.Prelude.{◌≡◌, ℕ, List, [], ◌∷◌, map}
use Rattle.std.specs.FinMap.{entries}
use Rattle.std.specs.Str.{IsUtf8}
use Rattle.std.specs.String.{string_bytes}
use Rattle.ls_base.specs.declared.answers.Answer.{Answer}
use Rattle.ls_base.specs.declared.answers.Answer.TheVariants as answers
use Rattle.ls_base.specs.declared.answers.Arrow as drawn
use Rattle.ls_base.specs.declared.encoding.Encoding.TheVariants.{Utf16}
use Rattle.read_documents.specs.Listed.{found_of, told_in}
use Rattle.read_documents.specs.Readings.{Read}
use Rattle.workspace_state.specs.State as workspace
use Rattle.program_answers.specs.declared.publications.Published.{Published}
use Rattle.text_arrows.specs.Printed.{AreLines, IsReadAlone, IsStopLine, alone, input_name}
use Rattle.text_arrows.specs.declared.alone.Told.{Told}
use Rattle.text_arrows.specs.declared.alone.Told.TheVariants.{Arrows, Stop}

-- its diagnostics are published, and nothing else is
abbrev pub ArePublishedAlone : List ℕ → Read → List Published → Type 0
ArePublishedAlone text r lists = (p : Published) × (lists ≡ p ∷ []) × (p.uri ≡ input_name) × (p.list ≡ map (told_in Utf16 text) (found_of (r ∷ []) 0 r))

-- a workspace holds the text alone, and what belongs to it was published
pub record HoldsAlone (text : List ℕ) (w : workspace.State) (lists : List Published) : Type 0 where
  pub utf8 : IsUtf8 text
  pub encoding_is : w.encoding ≡ Utf16
  pub documents : entries w.texts ≡ alone text
  pub published : (r : Read) → IsReadAlone text r → ArePublishedAlone text r lists

abbrev pub HoldsText : workspace.State → List Published → Type 0
HoldsText w lists = (text : List ℕ) × HoldsAlone text w lists

-- an answer is arrows
abbrev pub IsDrawn : Answer → Type 0
IsDrawn answer = (arrows : List drawn.Arrow) × (answer ≡ answers.Arrows arrows)

-- what is told of a text
abbrev pub IsTold : List ℕ → Told → Type 0
IsTold text (Arrows lines) = AreLines text (string_bytes lines)
IsTold text (Stop lines) = IsStopLine text (string_bytes lines)
