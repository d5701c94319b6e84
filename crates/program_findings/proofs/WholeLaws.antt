-- What is found of a unit that is broken as a whole tells the definition's diagnostic.
use Rattle.std.proofs.Common.{◌≡◌, ℕ, List, [], ◌∷◌, map, Bool, true, cond, Option, Some, None, refl, sym, ap, ◌∙◌}
use Rattle.std.proofs.lemmas.Option.{same_Some}
use Rattle.scheme_model.specs.Program as model
use Rattle.scheme_model.specs.Program.{Prepared, whole_code, result_at}
use Rattle.scheme_model.specs.Diagnostics.{Span, Bytes, Diagnostic, document_of, at_bytes, unit_diagnostics, unit_start, whole_bytes, whole_fault}
use Rattle.core_tree.specs.Units.{unit_errors}
use Rattle.read_documents.specs.declared.heads.WholeFault.{WholeFault}
use Rattle.read_documents.specs.declared.heads.WholeFault.TheVariants as code
use Rattle.read_documents.specs.declared.findings.At.{At}
use Rattle.read_documents.specs.declared.findings.Finding.{Finding}
use Rattle.read_documents.specs.Broken.{told as told_of}
use Rattle.read_documents.specs.Places.{bytes_at, spans_of, start_of}
use Rattle.read_documents.proofs.PlaceLaws.{start_document}
use Rattle.read_documents.specs.Readings.{Read}
use Rattle.read_documents.specs.UnitFindings.{IsFoundOf}
use Rattle.scheme_model.specs.DiagnosticTexts.{worded}
use Rattle.read_documents.specs.Findings.{diagnostic, told, all_told, is_error, errors_in, Adds}
use Rattle.read_documents.specs.Diagnosed.{DeclaredAt, IsWhole, bad_declaration, declaration_found, text_unit, whole_at, whole_number}

-- where a bad declaration stands
abbrev bytes_of_declaration : (document : ℕ → ℕ) → DeclaredAt → Bytes
bytes_of_declaration document d = record { document = document d.unit; span = record { start = d.start; end = d.end } }

-- a place tells of a fault's unit: it is the start of that unit, or in its document
abbrev pub TellsUnit : List (List Span) → (document : ℕ → ℕ) → Prepared → At → WholeFault → Type 0
TellsUnit spans document p start code.TooMany = bytes_at start ≡ unit_start spans p
TellsUnit spans document p start code.IncludeCycle = bytes_at start ≡ unit_start spans p
TellsUnit spans document p start (code.BadDeclaration unit s) = start.document ≡ document unit
TellsUnit spans document p start code.DefinedTwice = bytes_at start ≡ unit_start spans p
TellsUnit spans document p start code.ImportCycle = bytes_at start ≡ unit_start spans p
TellsUnit spans document p start code.TooLarge = bytes_at start ≡ unit_start spans p

module _ (spans : List (List Span)) (document : ℕ → ℕ) (p : Prepared) (start : At) where
  -- at the unit's start
  at_start : (f : model.WholeFault) → None ≡ bad_declaration f → unit_start spans p ≡ whole_bytes spans document p f
  at_start model.TooMany h = refl
  at_start model.IncludeCycle h = refl
  at_start (model.BadDeclaration n d) h = absurd cc
  at_start model.DefinedTwice h = refl
  at_start model.ImportCycle h = refl
  at_start model.TooLarge h = refl

  at_declaration : (f : model.WholeFault) (d : DeclaredAt) → Some d ≡ bad_declaration f → bytes_of_declaration document d ≡ whole_bytes spans document p f
  at_declaration model.TooMany d h = absurd cc
  at_declaration model.IncludeCycle d h = absurd cc
  at_declaration (model.BadDeclaration n e) d h = ap (bytes_of_declaration document) (same_Some d _ h)
  at_declaration model.DefinedTwice d h = absurd cc
  at_declaration model.ImportCycle d h = absurd cc
  at_declaration model.TooLarge d h = absurd cc

  whole_place : (fault : WholeFault) (f : model.WholeFault) → declaration_found fault ≡ bad_declaration f → TellsUnit spans document p start fault → bytes_at (whole_at start fault) ≡ whole_bytes spans document p f
  whole_place code.TooMany f h e = e ∙ at_start f h
  whole_place code.IncludeCycle f h e = e ∙ at_start f h
  whole_place (code.BadDeclaration unit s) f h e =
      ap (λ n. record { document = n; span = record { start = s.start; end = s.end } }) e ∙ at_declaration f (record { unit = unit; start = s.start; end = s.end }) h
  whole_place code.DefinedTwice f h e = e ∙ at_start f h
  whole_place code.ImportCycle f h e = e ∙ at_start f h
  whole_place code.TooLarge f h e = e ∙ at_start f h

  whole_told : (fault : WholeFault) (f : model.WholeFault) → IsWhole fault f → TellsUnit spans document p start fault → diagnostic (whole_at start fault) (whole_number fault) (worded (whole_number fault) []) ≡ whole_fault spans document p f
  whole_told fault f h e = λ i. at_bytes (whole_place fault f h.place e i) (h.code i) []

whole_is_error : (fault : WholeFault) → is_error (whole_number fault) ≡ true
whole_is_error code.TooMany = refl
whole_is_error code.IncludeCycle = refl
whole_is_error (code.BadDeclaration unit s) = refl
whole_is_error code.DefinedTwice = refl
whole_is_error code.ImportCycle = refl
whole_is_error code.TooLarge = refl

pub whole_adds : (spans : List (List Span)) (document : ℕ → ℕ) (p : Prepared) (start : At) (fault : WholeFault) (f : model.WholeFault) → TellsUnit spans document p start fault → IsWhole fault f → (found : Finding) →
    found ≡ record { at = Some (whole_at start fault); form = 0; code = whole_number fault; message = worded (whole_number fault) [] } → Adds [] (found ∷ []) (whole_fault spans document p f ∷ []) ((whole_code f, 0) ∷ [])
whole_adds spans document p start fault f e is found same = record {
  told = ap (λ (g : Finding). all_told (g ∷ [])) same ∙ ap (λ (d : Diagnostic). d ∷ []) (whole_told spans document p start fault f is e);
  errors = ap (λ (g : Finding). errors_in (g ∷ [])) same ∙ ap (λ b. map (λ (g : Finding). (g.code, g.form)) (cond b (found_as ∷ []) [])) (whole_is_error fault) ∙ ap (λ n. (n, 0) ∷ []) is.code;
}
  where
    found_as : Finding
    found_as = record { at = Some (whole_at start fault); form = 0; code = whole_number fault; message = worded (whole_number fault) [] }

-- the start of the unit of a fault's text tells of it
pub start_tells : (spans : List (List Span)) (us : List model.UnitResult) (r : model.UnitResult) (unit : ℕ) (start : At) (fault : WholeFault) → result_at us unit ≡ Some r →
    bytes_at start ≡ start_of spans (result_at us (text_unit unit fault)) → TellsUnit spans (document_of us) r.unit start fault
start_tells spans us r unit start code.TooMany at e = e ∙ ap (start_of spans) at
start_tells spans us r unit start code.IncludeCycle at e = e ∙ ap (start_of spans) at
start_tells spans us r unit start (code.BadDeclaration n s) at e = ap (λ (b : Bytes). b.document) e ∙ start_document spans (result_at us n)
start_tells spans us r unit start code.DefinedTwice at e = e ∙ ap (start_of spans) at
start_tells spans us r unit start code.ImportCycle at e = e ∙ ap (start_of spans) at
start_tells spans us r unit start code.TooLarge at e = e ∙ ap (start_of spans) at

-- ---- broken units of a program

-- a fault is told as it is
pub whole_of : (f : model.WholeFault) → IsWhole (told_of f) f
whole_of model.TooMany = record { code = refl; place = refl }
whole_of model.IncludeCycle = record { code = refl; place = refl }
whole_of (model.BadDeclaration n d) = record { code = refl; place = refl }
whole_of model.DefinedTwice = record { code = refl; place = refl }
whole_of model.ImportCycle = record { code = refl; place = refl }
whole_of model.TooLarge = record { code = refl; place = refl }

pub whole_found : (rs : List Read) (p : model.Program) (r : model.UnitResult) (f : model.WholeFault) (fs : List Finding) → r.fault ≡ Some f → Adds [] fs (whole_fault (spans_of rs) (document_of p.units) r.unit f ∷ []) ((whole_code f, 0) ∷ []) → IsFoundOf rs p r fs
whole_found rs p r f fs e h = record {
  told = h.told ∙ ap (λ o. unit_diagnostics (spans_of rs) p r o) (sym e);
  errors = h.errors ∙ ap (λ (o : Option model.WholeFault). unit_errors (record { unit = r.unit; fault = o; sets = r.sets; entries = r.entries; forms = r.forms; exports = r.exports; export_faults = r.export_faults })) (sym e);
}
