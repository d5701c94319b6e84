-- A workspace as contracts see it: the encoding of positions, the texts of the open documents, and their program with its trees; and
-- what it keeps besides belongs to them.
use Rattle.std.specs.Prelude.{◌≡◌, ℕ, List, Bool, refl}
use Rattle.std.specs.Coded.{Coded, code_by, coded×}
use Rattle.std.specs.FinMap.{entries}
use Rattle.ls_base.specs.declared.encoding.Encoding.{Encoding}
use Rattle.ls_base.specs.declared.answers.Diagnostic as told
use Rattle.ls_base.specs.contracts.encoding.Encoding as encoding
use Rattle.document_store.specs.Docs.{coded_texts}
use Rattle.document_store.specs.Texts.{Texts}
use Rattle.workspace_state.specs.Expansions.{Seen, seen_code}
use Rattle.document_changes.specs.Parts.{parts_in}
use Rattle.workspace_state.specs.ProgramOfTexts.{IsProgramOfTexts}
use Rattle.read_documents.specs.Readings.{Read, AreReadAs, documents_in}
use Rattle.program_answers.specs.Updates.{AreListsOf}

pub record State : Type 0 where
  pub encoding : Encoding
  pub texts : Texts
  pub expansion : Seen

abbrev pub state_code : Coded State
state_code =
    code_by (Encoding × (Texts × Seen)) (coded× encoding.the_row.coded (coded× coded_texts seen_code)) (λ s. (s.encoding, (s.texts, s.expansion)))
    (λ p. record { encoding = p.0; texts = p.1.0; expansion = p.1.1 }) (λ _. refl)

-- the lists are those of the texts, however these are read
abbrev pub AreListsFor : Encoding → Texts → List (List ℕ × List told.Diagnostic) → Type 0
AreListsFor encoding texts lists = (rs : List Read) → AreReadAs (entries texts) rs → AreListsOf encoding texts rs lists

-- so are these marks of documents that are parts
abbrev pub ArePartsOf : Texts → List Bool → Type 0
ArePartsOf texts parts = (rs : List Read) → AreReadAs (entries texts) rs → parts ≡ parts_in (documents_in rs)

-- the program, the lists and the parts are those of the texts
pub record BelongTo (encoding : Encoding) (texts : Texts) (expansion : Seen) (shown : List (List ℕ × List told.Diagnostic)) (marks : List Bool) : Type 0 where
  pub program : IsProgramOfTexts texts expansion.work expansion.program
  pub lists : AreListsFor encoding texts shown
  pub parts : ArePartsOf texts marks
