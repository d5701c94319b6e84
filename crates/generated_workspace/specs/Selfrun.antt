-- What is counted of a workspace that was made of a number.
use Rattle.std.specs.Prelude.{ℕ, zero, suc, ◌+◌, true, List, length, Result, Ok, Err, codes}
use Rattle.std.specs.FinMap.{entries}
use Rattle.std.specs.List.{count_by, sum_by}
use Rattle.std.specs.Str.{bytes_eq}
use Rattle.ls_base.specs.declared.answers.Answer.{Answer}
use Rattle.ls_base.specs.declared.answers.Answer.TheVariants.{Nothing, Places, Highlights, Prepared, Arrows, Edits}
use Rattle.ls_base.specs.declared.answers.Arrow as told
use Rattle.ls_base.specs.declared.answers.DocEdits.{DocEdits}
use Rattle.ls_base.specs.declared.encoding.Encoding.TheVariants.{Utf16}
use Rattle.ls_base.specs.declared.places.Pos.{Pos}
use Rattle.document_store.specs.Texts.{Document, Texts}
use Rattle.read_documents.specs.Listed.{lists_of}
use Rattle.read_documents.specs.Readings.{Read}
use Rattle.program_answers.specs.ToldAnswers.{answer_of}
use Rattle.scheme_model.specs.Session as model
use Rattle.rename_conditions.specs.Readers.{Reader}
use Rattle.rename_answers.specs.ToldRenames.{rename_told, rename_uses, text_uses, texts_of, uris_of}
use Rattle.command_lines.specs.Counts.{count_lines}
use Rattle.command_lines.specs.declared.counts.Counts.{Counts}
use Rattle.generated_workspace.specs.Generated.{libraries, library_uri, selfrun_texts}

-- where the first library defines its function
abbrev pub defined_at : Pos
defined_at = record { line = 0; character = 154 }

-- what the function is renamed to
abbrev pub new_name : List ℕ
new_name = codes "g"

abbrev pub places_in : Answer → ℕ
places_in Nothing = 0
places_in (Places places) = length places
places_in (Highlights highlights) = 0
places_in (Prepared range placeholder) = 0
places_in (Arrows arrows) = 0
places_in (Edits edits) = 0

-- the arrows that lead to a document, among those with an end in it
abbrev pub arrows_to : (uri : List ℕ) → Answer → ℕ
arrows_to uri Nothing = 0
arrows_to uri (Places places) = 0
arrows_to uri (Highlights highlights) = 0
arrows_to uri (Prepared range placeholder) = 0
arrows_to uri (Arrows arrows) = count_by (λ (a : told.Arrow). bytes_eq a.to.uri uri) arrows
arrows_to uri (Edits edits) = 0

abbrev pub edits_in : Result (List DocEdits) (List ℕ) → ℕ
edits_in (Ok edits) = sum_by (λ (d : DocEdits). length d.edits) edits
edits_in (Err refusal) = 0

-- each arrow is counted in the document that it leads to; a document's arrows are the same wherever one asks
abbrev pub counts_of : Reader → List (List ℕ × Document) → List Read → Counts
counts_of r ds rs = record {
  documents = length ds;
  diagnostics = sum_by (λ l. length l.list) (lists_of Utf16 ds rs);
  arrows = sum_by (λ (d : List ℕ × Document). arrows_to d.0 (answer_of Utf16 ds rs d.0 defined_at model.Arrows)) ds;
  references = places_in (answer_of Utf16 ds rs (library_uri 0) defined_at (model.References true));
  edits = edits_in (rename_told r Utf16 ds (library_uri 0) defined_at new_name);
}

-- the lines of a workspace of so many libraries
abbrev pub selfrun_lines : Reader → List Read → (libraries : ℕ) → List ℕ
selfrun_lines r rs n = count_lines (counts_of r (entries (selfrun_texts n)) rs)

-- ---- the macro uses that are counted

unfoldable pub uses_of : Reader → Texts → ℕ
uses_of r texts = text_uses r (uris_of (entries texts)) (texts_of (entries texts))

-- each library that is opened, all that are open are expanded
abbrev pub opening_uses : Reader → (libraries : ℕ) → ℕ
opening_uses r zero = 0
opening_uses r (suc n) = opening_uses r n + uses_of r (libraries (suc n))

-- and all texts with the program, and once more with the edits of the rename
abbrev pub selfrun_uses : Reader → (libraries : ℕ) → ℕ
selfrun_uses r n = opening_uses r n + uses_of r (selfrun_texts n) + rename_uses r Utf16 (entries (selfrun_texts n)) (library_uri 0) defined_at new_name
