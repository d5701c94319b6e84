-- What a rename at a position of an open document answers (LSP 3.17, textDocument/rename): its edits as they are told, or what its
-- refusal says. Of a document that isn't open there is no identifier.
use Rattle.std.specs.Prelude.{ℕ, List, [], map, Bool, true, false, Option, Some, None, Result, Ok, Err, if◌then◌else◌}
use Rattle.ls_base.specs.Positions.{offset_of}
use Rattle.ls_base.specs.declared.answers.DocEdits as told
use Rattle.ls_base.specs.declared.encoding.Encoding.{Encoding}
use Rattle.ls_base.specs.declared.places.Pos.{Pos}
use Rattle.scheme_model.specs.declared.Occ.{Occ}
use Rattle.scheme_model.specs.Sites.{name_at}
use Rattle.document_store.specs.Texts.{Document}
use Rattle.program_answers.specs.ToldAnswers.{document_at, text_of, number_of}
use Rattle.text_edits.specs.Members.{prefix_of, stem_of}
use Rattle.text_edits.specs.Views.{edit_told}
use Rattle.macro_uses.specs.MacroUses.{program_uses}
use Rattle.rename_conditions.specs.Readers.{Reader}
use Rattle.rename_conditions.specs.Opened.{Opened, DocEdits, documents_read, opened, spans_read, edited_in}
use Rattle.rename_conditions.specs.Renames.{Refusal, NotBound, IsStandard, BadName, Unreadable, PrefixLost, PrefixClash, BrokenUnit, TooLong, Differs, rename_in}
use Rattle.rename_answers.specs.RefusalTexts.{refusal_text}

-- documents by their uris, as they are opened
abbrev pub texts_of : List (List ℕ × Document) → List (List ℕ)
texts_of ds = map (λ (d : List ℕ × Document). d.1.1) ds

abbrev pub uris_of : List (List ℕ × Document) → List (List ℕ)
uris_of ds = map (λ (d : List ℕ × Document). d.0) ds

abbrev pub opened_as : Reader → List (List ℕ × Document) → Opened
opened_as r ds = opened r (uris_of ds) (texts_of ds)

-- the identifier at a position of a document
abbrev pub identifier_by : Encoding → List (List ℕ × Document) → Opened → Option ℕ → Pos → Option Occ
identifier_by encoding ds w None position = None
identifier_by encoding ds w (Some n) position = name_at (spans_read w) w.program.units n (offset_of encoding (text_of ds n) position)

abbrev pub identifier_at : Encoding → List (List ℕ × Document) → Opened → (uri : List ℕ) → Pos → Option Occ
identifier_at encoding ds w uri position = identifier_by encoding ds w (number_of ds uri) position

abbrev pub rename_at : Reader → Encoding → List (List ℕ × Document) → (uri : List ℕ) → Pos → (new : List ℕ) → Result (List DocEdits) Refusal
rename_at r encoding ds uri position new =
    let w = opened_as r ds in rename_in r w (identifier_at encoding ds w uri position) new

-- ---- as it is told

abbrev pub document_told : Encoding → List (List ℕ × Document) → DocEdits → told.DocEdits
document_told encoding ds e = record { uri = (document_at ds e.document).0; edits = map (edit_told encoding (text_of ds e.document)) e.edits }

abbrev pub told_as : Encoding → List (List ℕ × Document) → Opened → Result (List DocEdits) Refusal → Result (List told.DocEdits) (List ℕ)
told_as encoding ds w (Ok es) = Ok (map (document_told encoding ds) es)
told_as encoding ds w (Err refusal) = Err (refusal_text encoding ds w refusal)

abbrev pub rename_told : Reader → Encoding → List (List ℕ × Document) → (uri : List ℕ) → Pos → (new : List ℕ) → Result (List told.DocEdits) (List ℕ)
rename_told r encoding ds uri position new = told_as encoding ds (opened_as r ds) (rename_at r encoding ds uri position new)

-- ---- the macro uses that it counts: those of the edited texts, once these are expanded

-- nothing refuses it before the edited texts are compared
abbrev pub is_tried : Result (List DocEdits) Refusal → Bool
is_tried (Ok es) = true
is_tried (Err NotBound) = false
is_tried (Err (IsStandard name)) = false
is_tried (Err BadName) = false
is_tried (Err (Unreadable n)) = false
is_tried (Err (PrefixLost prefix)) = false
is_tried (Err (PrefixClash b)) = false
is_tried (Err (BrokenUnit b code)) = false
is_tried (Err (TooLong n)) = false
is_tried (Err (Differs d)) = true

-- the texts as a rename of an identifier to a symbol leaves them; as they are, where it has no prefix to keep
abbrev pub edited_by : Opened → Option Occ → (symbol : Option (List ℕ)) → List (List ℕ)
edited_by w None symbol = w.texts
edited_by w (Some o) None = w.texts
edited_by w (Some o) (Some s) = by_stem (stem_of (prefix_of w.links o) s)
  where
    by_stem : Option (List ℕ) → List (List ℕ)
    by_stem None = w.texts
    by_stem (Some stem) = edited_in w o stem

abbrev pub text_uses : Reader → (uris : List (List ℕ)) → List (List ℕ) → ℕ
text_uses r uris texts = program_uses (documents_read r uris texts)

abbrev pub rename_uses : Reader → Encoding → List (List ℕ × Document) → (uri : List ℕ) → Pos → (new : List ℕ) → ℕ
rename_uses r encoding ds uri position new =
    let w = opened_as r ds in
    if is_tried (rename_at r encoding ds uri position new) then text_uses r w.uris (edited_by w (identifier_at encoding ds w uri position) (r.symbol new)) else 0
