-- The texts of open documents once they are edited (LSP 3.17, TextEdit): the ranges of a document are those of its text as it was.
use Rattle.std.specs.Prelude.{◌≡◌, ℕ, ◌≤◌, List, [], ◌∷◌, map, length, Some, slice_get, if◌then◌else◌}
use Rattle.std.specs.FinMap.{entries, from_sorted}
use Rattle.std.specs.Str.{bytes_eq}
use Rattle.ls_base.specs.Limits.{max_text}
use Rattle.ls_base.specs.Positions.{offset_of}
use Rattle.ls_base.specs.declared.answers.DocEdits.{DocEdits}
use Rattle.ls_base.specs.declared.answers.TextEdit.{TextEdit}
use Rattle.ls_base.specs.declared.encoding.Encoding.{Encoding}
use Rattle.document_store.specs.Texts.{Document, Texts}
use Rattle.text_edits.specs.Edits.{Edit, edited}
use Rattle.text_edits.specs.Views.{AreCuts}

-- an edit by its bytes
abbrev pub edit_in : Encoding → (text : List ℕ) → TextEdit → Edit
edit_in encoding text e = record { start = offset_of encoding text e.range.start; end = offset_of encoding text e.range.end; text = e.new_text }

-- the edits of the document with this uri, the first if there are several
abbrev pub edits_for : List DocEdits → (uri : List ℕ) → List TextEdit
edits_for [] uri = []
edits_for (d ∷ ds) uri = if bytes_eq d.uri uri then d.edits else edits_for ds uri

abbrev pub edits_in : Encoding → List DocEdits → List ℕ × Document → List Edit
edits_in encoding ds d = map (edit_in encoding d.1.1) (edits_for ds d.0)

-- the uri and the version stay
abbrev pub edited_document : Encoding → List DocEdits → List ℕ × Document → List ℕ × Document
edited_document encoding ds d = (d.0, (d.1.0, edited (edits_in encoding ds d) d.1.1))

abbrev pub edited_documents : Encoding → List DocEdits → List (List ℕ × Document) → List (List ℕ × Document)
edited_documents encoding ds texts = map (edited_document encoding ds) texts

-- all texts, edited
abbrev pub edited_texts : Encoding → List DocEdits → Texts → Texts
edited_texts encoding ds texts = from_sorted (edited_documents encoding ds (entries texts))

-- the edits of each document are for bytes of its text one behind another, which begin and end between characters, and what they leave
-- isn't too long
pub record CanEdit (encoding : Encoding) (ds : List DocEdits) (texts : List (List ℕ × Document)) : Type 0 where
  pub cuts : (n : ℕ) (d : List ℕ × Document) → slice_get texts n ≡ Some d → AreCuts d.1.1 0 (edits_in encoding ds d)
  pub fit : (n : ℕ) (d : List ℕ × Document) → slice_get texts n ≡ Some d → length (edited (edits_in encoding ds d) d.1.1) ≤ max_text
