-- The diagnostics of a program: each with its code, the bytes of its document and its text.
use Rattle.std.specs.Prelude.{ℕ, zero, suc, ◌+◌, ◌==◌, nat_lt, List, [], ◌∷◌, ◌++◌, Bool, true, false, not, ◌&&◌, ◌||◌, Option, Some, None, Result, Ok, Err, if◌then◌else◌}
use Rattle.std.specs.List.{list_any}
use Rattle.scheme_model.specs.declared.Occ.{Occ}
use Rattle.scheme_model.specs.Ident.{Ident, Written, Inserted, symbol_of}
use Rattle.scheme_model.specs.Data.{Datum, place_of}
use Rattle.scheme_model.specs.ExpansionFaults.{Named, Fault, fault_code, fault_name, error_text}
use Rattle.scheme_model.specs.Meaning.{Meaning, Local, Global, Standard, Free}
use Rattle.scheme_model.specs.Cores.{Target, Parts}
use Rattle.scheme_model.specs.Steps.{Broken}
use Rattle.scheme_model.specs.UnitExpansion.{Formed}
use Rattle.scheme_model.specs.Substitution.{Table}
use Rattle.scheme_model.specs.Entries.{Entry, entry_at, ImportFault, NotThere, Clash, BadSet, is_below}
use Rattle.scheme_model.specs.Declarations.{UnitForm, unit_or, forms_hold}
use Rattle.scheme_model.specs.Included.{LostString}
use Rattle.scheme_model.specs.Program.{Prepared, UnitResult, Program, ImportSpec, ExportSpec, WholeFault, TooMany, IncludeCycle, BadDeclaration, DefinedTwice, ImportCycle, TooLarge, SetResult, Unknown, Faulty, Gives, ExportFault, NotDefined, SameExport, whole_code, result_at, imports_nothing}
use Rattle.scheme_model.specs.DiagnosticTexts.{worded}
use Rattle.scheme_model.specs.Live.{CoreLeaf, Binds, Uses, Assigns, Quotes, Defines, unit_leaves}

pub record Diagnostic : Type 0 where
  pub document : ℕ
  pub start : ℕ
  pub end : ℕ
  pub code : ℕ
  pub text : List ℕ

-- the bytes of a token
pub record Span : Type 0 where
  pub start : ℕ
  pub end : ℕ

-- ---- places

abbrev pub span_at : List Span → ℕ → Span
span_at [] n = record { start = 0; end = 0 }
span_at (s ∷ ss) zero = s
span_at (s ∷ ss) (suc n) = span_at ss n

abbrev pub spans_at : List (List Span) → ℕ → List Span
spans_at [] n = []
spans_at (s ∷ ss) zero = s
spans_at (s ∷ ss) (suc n) = spans_at ss n

abbrev pub first_token : List UnitForm → ℕ → ℕ
first_token [] n = 0
first_token (f ∷ fs) zero = (place_of f.datum).first
first_token (f ∷ fs) (suc n) = first_token fs n

-- a document and bytes in it
pub record Bytes : Type 0 where
  pub document : ℕ
  pub span : Span

abbrev pub document_if : Option UnitResult → ℕ
document_if None = 0
document_if (Some r) = r.unit.placed.document

-- the document of the unit with a number
abbrev pub document_of : List UnitResult → (unit : ℕ) → ℕ
document_of rs unit = document_if (result_at rs unit)

-- the unit where the text of the form with a number is at home: this one, unless that text is included
abbrev pub home_unit : (unit : ℕ) → List UnitForm → (form : ℕ) → ℕ
home_unit unit [] n = unit
home_unit unit (f ∷ fs) zero = unit_or unit f.home
home_unit unit (f ∷ fs) (suc n) = home_unit unit fs n

abbrev pub in_document : List (List Span) → (document token : ℕ) → Bytes
in_document spans document token = record { document = document; span = span_at (spans_at spans document) token }

-- a token of a form by its number there: in the document of the unit where the form's text is at home
abbrev pub in_unit : List (List Span) → List UnitResult → Option UnitResult → Occ → Bytes
in_unit spans rs None o = record { document = 0; span = record { start = 0; end = 0 } }
in_unit spans rs (Some r) o = in_document spans (document_of rs (home_unit o.unit r.unit.forms o.form)) (first_token r.unit.forms o.form + o.token)

-- where an occurrence stands
abbrev pub bytes_of : List (List Span) → List UnitResult → Occ → Bytes
bytes_of spans rs o = in_unit spans rs (result_at rs o.unit) o

-- a code that names something
abbrev pub at_bytes : Bytes → (code : ℕ) → (names : List ℕ) → Diagnostic
at_bytes b code names = record { document = b.document; start = b.span.start; end = b.span.end; code = code; text = worded code names }

-- ---- texts

-- what a fault names: the symbol of an identifier, or the text of a `syntax-error`
abbrev pub fault_names : Fault Ident → List ℕ
fault_names f = named_or (fault_name f) (error_text f)
  where
    named_or : Option (Named Ident) → Option (List ℕ) → List ℕ
    named_or None None = []
    named_or None (Some text) = text
    named_or (Some n) text = symbol_of n.name

-- ---- the diagnostics of a unit

-- the place of what a fault names
abbrev pub named_occ : {A : Type 0} → Option (Named A) → Option Occ
named_occ None = None
named_occ (Some n) = n.occ

-- what a fault names stands there, if that is a token of its form, or else the fault stands where the form was read
abbrev pub fault_occ : (holds : Occ → Bool) → (named here : Option Occ) → Option Occ
fault_occ holds None here = here
fault_occ holds (Some o) here = if holds o then Some o else here

-- a form's first token is told by the form's unit and number, also where its text is included
abbrev pub or_start : ℕ → ℕ → Option Occ → Occ
or_start unit form (Some o) = o
or_start unit form None = record { unit = unit; form = form; token = 0 }

-- by the tokens that the form with a number holds
abbrev pub form_diagnostics : (Occ → Bytes) → (holds : ℕ → Occ → Bool) → ℕ → List Formed → List Diagnostic
form_diagnostics bytes holds unit [] = []
form_diagnostics bytes holds unit (f ∷ fs) = of_result bytes holds unit f.result f.form ++ form_diagnostics bytes holds unit fs
  where
    of_result : (Occ → Bytes) → (ℕ → Occ → Bool) → ℕ → Result Parts Broken → ℕ → List Diagnostic
    of_result bytes holds unit (Ok ps) form = []
    of_result bytes holds unit (Err e) form =
        at_bytes (bytes (or_start unit form (fault_occ (holds form) (named_occ (fault_name e.fault)) e.here))) (fault_code e.fault) (fault_names e.fault) ∷ []

abbrev pub datum_bytes : ℕ → Datum → Bytes
datum_bytes document d = record { document = document; span = record { start = (place_of d).start; end = (place_of d).end } }

abbrev pub clash_diagnostics : Bytes → List (List ℕ) → List Diagnostic
clash_diagnostics b [] = []
clash_diagnostics b (s ∷ ss) = at_bytes b 52 s ∷ clash_diagnostics b ss

-- where an identifier stands; one without a token stands where it is found
abbrev pub bytes_or : (Occ → Bytes) → Bytes → Option Occ → Bytes
bytes_or bytes found None = found
bytes_or bytes found (Some o) = bytes o

abbrev pub import_fault : (Occ → Bytes) → Bytes → ImportFault → Diagnostic
import_fault bytes set (NotThere n) = at_bytes (bytes_or bytes set n.occ) 51 n.name
import_fault bytes set (Clash s) = at_bytes set 52 s
import_fault bytes set BadSet = at_bytes set 53 []

-- what a set in a document came to
abbrev pub set_found : (Occ → Bytes) → (document : ℕ) → ImportSpec → SetResult → List Diagnostic
set_found bytes document s Unknown = at_bytes (datum_bytes document s.library) 102 [] ∷ []
set_found bytes document s (Faulty f) = import_fault bytes (datum_bytes document s.whole) f ∷ []
set_found bytes document s (Gives es clashes) = clash_diagnostics (datum_bytes document s.whole) clashes

-- each set in the document of its unit
abbrev pub set_diagnostics : (Occ → Bytes) → (document : ℕ → ℕ) → List ImportSpec → List SetResult → List Diagnostic
set_diagnostics bytes document [] rs = []
set_diagnostics bytes document (s ∷ ss) [] = []
set_diagnostics bytes document (s ∷ ss) (r ∷ rs) = set_found bytes (document s.unit) s r ++ set_diagnostics bytes document ss rs

-- at an export's external name, or its declaration's first token
abbrev pub export_bytes : (Occ → Bytes) → ℕ → ExportSpec → Bytes
export_bytes bytes unit x = bytes (or_start unit x.form x.outer.occ)

abbrev pub export_diagnostics : (Occ → Bytes) → ℕ → List ExportFault → List Diagnostic
export_diagnostics bytes unit [] = []
export_diagnostics bytes unit (NotDefined x ∷ xs) = at_bytes (export_bytes bytes unit x) 64 x.inner.name ∷ export_diagnostics bytes unit xs
export_diagnostics bytes unit (SameExport x ∷ xs) = at_bytes (export_bytes bytes unit x) 65 x.outer.name ∷ export_diagnostics bytes unit xs

-- a string that means no text that can be included, where it is written
abbrev pub lost_diagnostics : List LostString → List Diagnostic
lost_diagnostics [] = []
lost_diagnostics (l ∷ ls) =
    at_bytes (record { document = l.document; span = record { start = l.string.place.start; end = l.string.place.end } }) 105 l.string.characters ∷ lost_diagnostics ls

-- a definition of a symbol that the unit imports
abbrev pub hides : List Entry → Ident → Bool
hides es (Inserted i k) = false
hides es (Written u s) = is_there (entry_at es s)
  where
    is_there : Option Entry → Bool
    is_there None = false
    is_there (Some e) = true

-- a form with this number that has a fault
abbrev pub is_broken : ℕ → Formed → Bool
is_broken form f = (f.form == form) && has_fault f.result
  where
    has_fault : Result Parts Broken → Bool
    has_fault (Ok ps) = false
    has_fault (Err e) = true

-- what a form with a fault defines isn't told
abbrev pub hiding_diagnostics : (Occ → Bytes) → ℕ → List Formed → List Entry → Table → List Diagnostic
hiding_diagnostics bytes unit fs es [] = []
hiding_diagnostics bytes unit fs es (d ∷ ds) =
    (if (d.unit == unit) && (hides es d.ident && not (list_any (is_broken d.form) fs)) then at_bytes (bytes (or_start unit d.form d.occ)) 101 (symbol_of d.ident) ∷ [] else [])
    ++ hiding_diagnostics bytes unit fs es ds

abbrev pub unbound_at : (Occ → Bytes) → Target → List Diagnostic
unbound_at bytes t = of_meaning bytes t.meaning t.occ
  where
    of_meaning : (Occ → Bytes) → Meaning → Option Occ → List Diagnostic
    of_meaning bytes (Local v) o = []
    of_meaning bytes (Global u i) o = []
    of_meaning bytes (Standard s) o = []
    of_meaning bytes (Free s) None = []
    of_meaning bytes (Free s) (Some o) = at_bytes (bytes o) 103 s ∷ []

abbrev pub unbound_diagnostics : (Occ → Bytes) → List CoreLeaf → List Diagnostic
unbound_diagnostics bytes [] = []
unbound_diagnostics bytes (Binds b ∷ ls) = unbound_diagnostics bytes ls
unbound_diagnostics bytes (Uses t ∷ ls) = unbound_at bytes t ++ unbound_diagnostics bytes ls
unbound_diagnostics bytes (Assigns t ∷ ls) = unbound_at bytes t ++ unbound_diagnostics bytes ls
unbound_diagnostics bytes (Quotes o ∷ ls) = unbound_diagnostics bytes ls
unbound_diagnostics bytes (Defines m ∷ ls) = unbound_diagnostics bytes ls

abbrev pub is_empty : {A : Type 0} → List A → Bool
is_empty [] = true
is_empty (x ∷ xs) = false

-- the bytes of a unit's first token
abbrev pub unit_start : List (List Span) → Prepared → Bytes
unit_start spans p = record { document = p.placed.document; span = span_at (spans_at spans p.placed.document) p.placed.source.start.first }

-- a bad declaration stands in the document of its unit
abbrev pub whole_bytes : List (List Span) → (document : ℕ → ℕ) → Prepared → WholeFault → Bytes
whole_bytes spans document p TooMany = unit_start spans p
whole_bytes spans document p IncludeCycle = unit_start spans p
whole_bytes spans document p (BadDeclaration unit d) = datum_bytes (document unit) d
whole_bytes spans document p DefinedTwice = unit_start spans p
whole_bytes spans document p ImportCycle = unit_start spans p
whole_bytes spans document p TooLarge = unit_start spans p

abbrev pub whole_fault : List (List Span) → (document : ℕ → ℕ) → Prepared → WholeFault → Diagnostic
whole_fault spans document p f = at_bytes (whole_bytes spans document p f) (whole_code f) []

abbrev pub inner_diagnostics : List (List Span) → Program → UnitResult → List Diagnostic → List Diagnostic
inner_diagnostics spans p r sets =
    sets ++ lost_diagnostics r.unit.placed.source.lost ++ export_diagnostics (bytes_of spans p.units) r.unit.number r.export_faults ++ form_diagnostics (bytes_of spans p.units) (forms_hold r.unit.number r.unit.forms) r.unit.number r.forms ++
    hiding_diagnostics (bytes_of spans p.units) r.unit.number r.forms r.entries p.table ++
    (if is_empty sets && is_empty r.unit.placed.source.lost then unbound_diagnostics (bytes_of spans p.units) (unit_leaves r.forms) else []) ++
    (if imports_nothing r.unit then at_bytes (unit_start spans r.unit) 104 [] ∷ [] else [])

abbrev pub unit_diagnostics : List (List Span) → Program → UnitResult → Option WholeFault → List Diagnostic
unit_diagnostics spans p r (Some f) = whole_fault spans (document_of p.units) r.unit f ∷ []
unit_diagnostics spans p r None = inner_diagnostics spans p r (set_diagnostics (bytes_of spans p.units) (document_of p.units) r.unit.specs r.sets)

abbrev pub all_diagnostics : List (List Span) → Program → List UnitResult → List Diagnostic
all_diagnostics spans p [] = []
all_diagnostics spans p (r ∷ rs) = unit_diagnostics spans p r r.fault ++ all_diagnostics spans p rs

-- ---- in order, each once

abbrev pub is_before : Diagnostic → Diagnostic → Bool
is_before a b =
    nat_lt a.document b.document || (a.document == b.document &&
    (nat_lt a.start b.start || (a.start == b.start && (nat_lt a.code b.code || (a.code == b.code && is_below a.text b.text)))))

abbrev pub same_diagnostic : Diagnostic → Diagnostic → Bool
same_diagnostic a b = not (is_before a b) && not (is_before b a)

abbrev pub put_in : Diagnostic → List Diagnostic → List Diagnostic
put_in d [] = d ∷ []
put_in d (e ∷ es) = if is_before d e then d ∷ e ∷ es else if same_diagnostic d e then e ∷ es else e ∷ put_in d es

abbrev pub sorted : List Diagnostic → List Diagnostic
sorted [] = []
sorted (d ∷ ds) = put_in d (sorted ds)

-- the diagnostics of documents that read, by the bytes of their tokens
abbrev pub diagnostics_of : List (List Span) → Program → List Diagnostic
diagnostics_of spans p = sorted (all_diagnostics spans p p.units)
