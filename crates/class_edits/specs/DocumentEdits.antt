-- The edits of the open documents by which a class gets a new stem, what the texts are then, and how the edits are told.
use Rattle.std.specs.Prelude.{ℕ, suc, nat_lt, List, [], ◌∷◌, ◌++◌, map, length, Option, Some, None, if◌then◌else◌}
use Rattle.ls_base.specs.Limits.{max_text}
use Rattle.ls_base.specs.declared.answers.DocEdits.{DocEdits}
use Rattle.ls_base.specs.declared.answers.TextEdit.{TextEdit}
use Rattle.ls_base.specs.declared.encoding.Encoding.{Encoding}
use Rattle.scheme_model.specs.declared.Occ.{Occ}
use Rattle.scheme_model.specs.Program.{UnitResult}
use Rattle.scheme_model.specs.Spelling.{Link}
use Rattle.document_store.specs.Texts.{Document}
use Rattle.read_documents.specs.Readings.{Read, program_in, spans_in}
use Rattle.program_answers.specs.ToldAnswers.{facts_in}
use Rattle.text_edits.specs.Edits.{Edit, edited}
use Rattle.text_edits.specs.Members.{class_edits}
use Rattle.text_edits.specs.Views.{CanEdit, edit_of, edit_told}
use Rattle.text_edits.specs.declared.edits.Edit as code

-- the edits of documents, whose numbers begin with one
abbrev pub edits_from : List Link → List UnitResult → (stem : List ℕ) → Occ → (document : ℕ) → List (List ℕ × Document) → List Read → List (List Edit)
edits_from ls us stem o n [] rs = []
edits_from ls us stem o n (d ∷ ds) [] = []
edits_from ls us stem o n (d ∷ ds) (r ∷ rs) = class_edits ls us stem o n d.1.1 (spans_in r) ∷ edits_from ls us stem o (suc n) ds rs

-- the edits of each open document by which the class of an occurrence gets a new stem
abbrev pub edits_of_class : List (List ℕ × Document) → List Read → (stem : List ℕ) → Occ → List (List Edit)
edits_of_class ds rs stem o = edits_from (facts_in rs).links (program_in rs).units stem o 0 ds rs

-- ---- the edited texts

abbrev pub all_edited : List (List ℕ × Document) → List (List Edit) → List (List ℕ)
all_edited [] all = []
all_edited (d ∷ ds) [] = []
all_edited (d ∷ ds) (es ∷ all) = edited es d.1.1 ∷ all_edited ds all

-- the first document whose edited text has more bytes than a text may have
abbrev pub too_long : List (List ℕ × Document) → List (List Edit) → Option (List ℕ)
too_long [] all = None
too_long (d ∷ ds) [] = None
too_long (d ∷ ds) (es ∷ all) = if nat_lt max_text (length (edited es d.1.1)) then Some d.0 else too_long ds all

-- ---- edits as they are told (LSP 3.17, WorkspaceEdit)

-- those of a document, where it has some
abbrev pub told_of : (uri : List ℕ) → List TextEdit → List DocEdits
told_of uri [] = []
told_of uri (e ∷ es) = record { uri = uri; edits = e ∷ es } ∷ []

abbrev pub told : Encoding → List (List ℕ × Document) → List (List Edit) → List DocEdits
told encoding [] all = []
told encoding (d ∷ ds) [] = []
told encoding (d ∷ ds) (es ∷ all) = told_of d.0 (map (edit_told encoding d.1.1) es) ++ told encoding ds all

-- ---- of the code

abbrev pub seen : List (List code.Edit) → List (List Edit)
seen all = map (map edit_of) all

-- the edits of each document can be made
abbrev pub CanEditAll : List (List ℕ × Document) → List (List code.Edit) → Type 0
CanEditAll [] [] = Unit {0}
CanEditAll [] (es ∷ all) = ⊥
CanEditAll (d ∷ ds) [] = ⊥
CanEditAll (d ∷ ds) (es ∷ all) = CanEdit d.1.1 es × CanEditAll ds all
