-- The bytes that are printed.
use Rattle.std.specs.Prelude.{◌≡◌, ◌⊎◌, ℕ, pos, List, [], ◌∷◌, ◌++◌, map, codes}
use Rattle.std.specs.Str.{IsUtf8}
use Rattle.ls_base.specs.declared.answers.Arrow.{Arrow}
use Rattle.ls_base.specs.declared.encoding.Encoding.TheVariants.{Utf16}
use Rattle.scheme_model.specs.Data.{Datum}
use Rattle.scheme_model.specs.Diagnostics.{Span}
use Rattle.scheme_model.specs.Faults as faults
use Rattle.document_store.specs.Texts.{Document}
use Rattle.scheme_model.specs.Answers.{drawn_in}
use Rattle.read_documents.specs.Listed.{of_stop, told_in}
use Rattle.read_documents.specs.Readings.{Read, Reads, Stops, IsReadAs, uri_of}
use Rattle.program_answers.specs.ToldAnswers.{arrow_told, facts_in}
use Rattle.program_answers.specs.declared.publications.Published.{Published}
use Rattle.command_lines.specs.Diagnostics.{diagnostic_line, diagnostic_lines}
use Rattle.command_lines.specs.Places.{place_text}
use Rattle.text_arrows.specs.Wording.{not_utf8_text}

-- the starts of binder and use, and the use's token
abbrev pub line_of : Arrow → List ℕ
line_of arrow =
    place_text arrow.from.range.start ++ (codes " " ++ place_text arrow.to.range.start) ++ (codes " " ++ arrow.name) ++ codes "\n"

abbrev pub lines_of : List Arrow → List ℕ
lines_of [] = []
lines_of (arrow ∷ arrows) = line_of arrow ++ lines_of arrows

abbrev pub published_lines : List Published → List ℕ
published_lines [] = []
published_lines (p ∷ ps) = diagnostic_lines p.uri p.list ++ published_lines ps

-- ---- a text alone

-- as the document `input`
abbrev pub input_name : List ℕ
input_name = codes "input"

abbrev pub alone : List ℕ → List (List ℕ × Document)
alone text = (input_name, (pos 0, text)) ∷ []

-- how it reads
abbrev pub IsReadAlone : List ℕ → Read → Type 0
IsReadAlone text r = IsReadAs text r × (uri_of r ≡ input_name)

-- its arrows, where it is read so, with columns in UTF-16
abbrev pub arrows_alone : List ℕ → Read → List Arrow
arrows_alone text r = map (arrow_told Utf16 (alone text)) (drawn_in (facts_in (r ∷ [])) 0)

-- the text reads, and these are the lines of its arrows
pub record AreLines (text output : List ℕ) : Type 0 where
  pub utf8 : IsUtf8 text
  pub items : List Datum
  pub spans : List Span
  pub reads : IsReadAlone text (Reads input_name items spans)
  pub lines : output ≡ lines_of (arrows_alone text (Reads input_name items spans))

-- its reading stops, and this is the line of the diagnostic that says where and why
pub record IsStopLine (text output : List ℕ) : Type 0 where
  pub utf8 : IsUtf8 text
  pub stop : faults.Stop
  pub stops : IsReadAlone text (Stops input_name stop)
  pub line : output ≡ diagnostic_line input_name (told_in Utf16 text (of_stop 0 stop))

-- it isn't UTF-8, and this is the line for such texts
pub record IsBadLine (text output : List ℕ) : Type 0 where
  pub bad : ¬ IsUtf8 text
  pub line : output ≡ not_utf8_text

-- this is the line for a text that doesn't read
abbrev pub IsRefusal : (text output : List ℕ) → Type 0
IsRefusal text output = IsBadLine text output ⊎ IsStopLine text output

-- this is what a text is answered by
abbrev pub IsAnswer : (text output : List ℕ) → Type 0
IsAnswer text output = AreLines text output ⊎ IsRefusal text output
