-- What is printed of a rename in a file, which is the one document that is open (LSP 3.17, textDocument/rename).
use Rattle.std.specs.Prelude.{ℕ, ◌+◌, pos, List, [], ◌∷◌, Result, Ok, Err, if◌then◌else◌}
use Rattle.std.specs.Str.{is_utf8}
use Rattle.ls_base.specs.declared.answers.DocEdits.{DocEdits}
use Rattle.ls_base.specs.declared.encoding.Encoding.TheVariants.{Utf16}
use Rattle.ls_base.specs.declared.places.Pos.{Pos}
use Rattle.document_store.specs.Texts.{Document}
use Rattle.rename_conditions.specs.Readers.{Reader}
use Rattle.rename_answers.specs.ToldRenames.{rename_told, rename_uses, text_uses}
use Rattle.command_lines.specs.Diagnostics.{diagnostic_line, not_utf8}
use Rattle.command_lines.specs.Edits.{edit_lines, refusal_line}
use Rattle.file_commands.specs.declared.renaming.Renamed.{Renamed}
use Rattle.file_commands.specs.declared.renaming.Renamed.TheVariants.{Edits, Refused, NotUtf8}

-- one document is open, of no version
abbrev pub one_document : (name text : List ℕ) → List (List ℕ × Document)
one_document name text = (name, (pos 0, text)) ∷ []

-- the edits, or what the refusal says
unfoldable pub rename_in_text : Reader → (name text : List ℕ) → Pos → (new : List ℕ) → Result (List DocEdits) (List ℕ)
rename_in_text r name text position new = rename_told r Utf16 (one_document name text) name position new

-- what is printed of edits, and of a refusal
unfoldable pub printed : Result (List DocEdits) (List ℕ) → Renamed
printed (Ok edits) = Edits (edit_lines edits)
printed (Err refusal) = Refused (refusal_line refusal)

-- what is printed of a rename in a content; one that isn't UTF-8 has diagnostic 13
abbrev pub renamed_in : Reader → (name content : List ℕ) → Pos → (new : List ℕ) → Renamed
renamed_in r name content position new =
    if is_utf8 content then printed (rename_in_text r name content position new) else NotUtf8 (diagnostic_line name not_utf8)

-- the macro uses that are counted: those of the text, and those of the edited text, once that is expanded. A content that isn't UTF-8 has none
abbrev pub renaming_uses : Reader → (name content : List ℕ) → Pos → (new : List ℕ) → ℕ
renaming_uses r name content position new =
    if is_utf8 content then text_uses r (name ∷ []) (content ∷ []) + rename_uses r Utf16 (one_document name content) name position new else 0
