-- What the code finds in forms, beside the definition's diagnostics and Errors.
use Rattle.std.specs.Prelude.{◌≡◌, ℕ, List, [], ◌∷◌, ◌++◌, Bool, Option, Some, None, Result, Ok, Err}
use Rattle.std.specs.BTreeMap.{BTreeMap}
use Rattle.scheme_model.specs.declared.Occ.{Occ}
use Rattle.scheme_model.specs.Ident.{Ident, symbol_of}
use Rattle.scheme_model.specs.ExpansionFaults.{Named, fault_code, fault_name}
use Rattle.scheme_model.specs.Meaning.{Meaning, Local, Global, Standard, Free}
use Rattle.scheme_model.specs.Cores.{Parts, Target}
use Rattle.scheme_model.specs.Steps.{Broken}
use Rattle.scheme_model.specs.UnitExpansion.{Formed}
use Rattle.scheme_model.specs.Data.{place_of}
use Rattle.scheme_model.specs.Program as model
use Rattle.scheme_model.specs.Diagnostics.{Bytes, fault_names, fault_occ, named_occ, or_start}
use Rattle.read_documents.specs.declared.heads.WholeFault.{WholeFault}
use Rattle.read_documents.specs.declared.heads.WholeFault.TheVariants as code
use Rattle.read_documents.specs.declared.findings.At.{At}
use Rattle.read_documents.specs.declared.findings.Finding.{Finding}
use Rattle.read_documents.specs.declared.documents.Document.{Document}
use Rattle.read_documents.specs.declared.documents.Unread.{Unread}
use Rattle.scheme_model.specs.DiagnosticTexts.{worded}
use Rattle.read_documents.specs.Findings.{at_of}

-- ---- forms

-- what a fault names: the symbol of an identifier, or the text of a `syntax-error`
abbrev pub named_text : Option (Named Ident) → Option (List ℕ) → List ℕ
named_text None None = []
named_text None (Some text) = text
named_text (Some n) text = symbol_of n.name

-- the finding of a broken form
abbrev pub fault_found : (Occ → Bytes) → (holds : ℕ → Occ → Bool) → (unit form : ℕ) → Broken → Finding
fault_found bytes holds unit form e = record {
  at = Some (at_of (bytes (or_start unit form (fault_occ (holds form) (named_occ (fault_name e.fault)) e.here))));
  form = form;
  code = fault_code e.fault;
  message = worded (fault_code e.fault) (fault_names e.fault);
}

abbrev pub result_found : (Occ → Bytes) → (ℕ → Occ → Bool) → ℕ → Result Parts Broken → ℕ → List Finding
result_found bytes holds unit (Ok ps) form = []
result_found bytes holds unit (Err e) form = fault_found bytes holds unit form e ∷ []

-- those of forms, in order
abbrev pub faults_found : (Occ → Bytes) → (ℕ → Occ → Bool) → ℕ → List Formed → List Finding
faults_found bytes holds unit [] = []
faults_found bytes holds unit (f ∷ fs) = result_found bytes holds unit f.result f.form ++ faults_found bytes holds unit fs

-- ---- what means nothing

abbrev pub free_found : (Occ → Bytes) → Meaning → Option Occ → List Finding
free_found bytes m None = []
free_found bytes (Local v) (Some o) = []
free_found bytes (Global u i) (Some o) = []
free_found bytes (Standard s) (Some o) = []
free_found bytes (Free s) (Some o) = record { at = Some (at_of (bytes o)); form = o.form; code = 103; message = worded 103 s } ∷ []

-- the finding of a use, where it means nothing and stands in a text
abbrev pub unbound_found : (Occ → Bytes) → Target → List Finding
unbound_found bytes t = free_found bytes t.meaning t.occ

-- ---- units

-- its code
abbrev pub whole_number : WholeFault → ℕ
whole_number code.TooMany = 67
whole_number code.IncludeCycle = 68
whole_number (code.BadDeclaration unit s) = 61
whole_number code.DefinedTwice = 63
whole_number code.ImportCycle = 62
whole_number code.TooLarge = 66

-- the unit and the bytes of a bad declaration
pub record DeclaredAt : Type 0 where
  pub unit : ℕ
  pub start : ℕ
  pub end : ℕ

abbrev pub declaration_found : WholeFault → Option DeclaredAt
declaration_found code.TooMany = None
declaration_found code.IncludeCycle = None
declaration_found (code.BadDeclaration unit s) = Some (record { unit = unit; start = s.start; end = s.end })
declaration_found code.DefinedTwice = None
declaration_found code.ImportCycle = None
declaration_found code.TooLarge = None

abbrev pub bad_declaration : model.WholeFault → Option DeclaredAt
bad_declaration model.TooMany = None
bad_declaration model.IncludeCycle = None
bad_declaration (model.BadDeclaration n d) = Some (record { unit = n; start = (place_of d).start; end = (place_of d).end })
bad_declaration model.DefinedTwice = None
bad_declaration model.ImportCycle = None
bad_declaration model.TooLarge = None

-- why a unit is broken as a whole, as the definition says it
pub record IsWhole (c : WholeFault) (m : model.WholeFault) : Type 0 where
  pub code : whole_number c ≡ model.whole_code m
  pub place : declaration_found c ≡ bad_declaration m

-- a unit of the document where it stands
abbrev pub text_unit : ℕ → WholeFault → ℕ
text_unit unit code.TooMany = unit
text_unit unit code.IncludeCycle = unit
text_unit unit (code.BadDeclaration n s) = n
text_unit unit code.DefinedTwice = unit
text_unit unit code.ImportCycle = unit
text_unit unit code.TooLarge = unit

-- a declaration that is bad is told, and else the unit's start
abbrev pub whole_at : At → WholeFault → At
whole_at start code.TooMany = start
whole_at start code.IncludeCycle = start
whole_at start (code.BadDeclaration unit s) = record { document = start.document; span = s }
whole_at start code.DefinedTwice = start
whole_at start code.ImportCycle = start
whole_at start code.TooLarge = start

-- ---- documents

-- a document that doesn't read has that alone, and another keeps what it has
abbrev pub TellsStop : Option Unread → (old new : BTreeMap (ℕ × ℕ × List ℕ) ℕ) → Type 0
TellsStop None old new = new ≡ old
TellsStop (Some u) old new = new.entries ≡ ((u.span.start, u.number, worded u.number []), u.span.end) ∷ []

abbrev pub TellsStopOf : Option Document → (old new : BTreeMap (ℕ × ℕ × List ℕ) ℕ) → Type 0
TellsStopOf None old new = Unit {0}
TellsStopOf (Some c) old new = TellsStop c.fault old new
