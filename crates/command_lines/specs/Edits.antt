-- The lines of edits and of refusals (LSP 3.17, TextEdit).
use Rattle.std.specs.Prelude.{ℕ, List, [], ◌∷◌, ◌++◌, codes}
use Rattle.ls_base.specs.declared.answers.DocEdits.{DocEdits}
use Rattle.ls_base.specs.declared.answers.TextEdit.{TextEdit}
use Rattle.command_lines.specs.Places.{place_text}

-- `URI:LINE:COLUMN-LINE:COLUMN: NEWTEXT`
abbrev pub edit_line : (uri : List ℕ) → TextEdit → List ℕ
edit_line uri e =
    uri ++ (codes ":" ++ place_text e.range.start) ++ (codes "-" ++ place_text e.range.end) ++ (codes ": " ++ e.new_text) ++ codes "\n"

-- those of a document
abbrev pub document_lines : (uri : List ℕ) → List TextEdit → List ℕ
document_lines uri [] = []
document_lines uri (e ∷ es) = edit_line uri e ++ document_lines uri es

abbrev pub edit_lines : List DocEdits → List ℕ
edit_lines [] = []
edit_lines (d ∷ ds) = document_lines d.uri d.edits ++ edit_lines ds

-- the text of a refusal
abbrev pub refusal_line : List ℕ → List ℕ
refusal_line refusal = refusal ++ codes "\n"
