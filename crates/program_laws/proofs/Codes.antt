-- No diagnostic has the code of a fault that comes of the turns alone.
use Rattle.std.proofs.Common.{◌≡◌, ℕ, List, [], ◌∷◌, ◌++◌, Bool, true, false, not, Option, Some, None, Result, Ok, Err, arith, if◌then◌else◌}
use Rattle.std.specs.Prelude.{◌==◌, ◌&&◌}
use Rattle.std.specs.List.{list_any}
use Rattle.scheme_model.specs.declared.Occ.{Occ}
use Rattle.scheme_model.specs.Ident.{Ident, symbol_of}
use Rattle.scheme_model.specs.Meaning.{Meaning, Local, Global, Standard, Free}
use Rattle.scheme_model.specs.Cores.{Parts}
use Rattle.scheme_model.specs.Steps.{Broken}
use Rattle.scheme_model.specs.Order.{Counted}
use Rattle.scheme_model.specs.UnitExpansion.{Formed}
use Rattle.scheme_model.specs.Substitution.{Table, Defined}
use Rattle.scheme_model.specs.Entries.{Entry, ImportFault, NotThere, Clash, BadSet}
use Rattle.scheme_model.specs.Includes.{Document}
use Rattle.scheme_model.specs.Included.{LostString}
use Rattle.scheme_model.specs.Program.{Prepared, UnitResult, Program, ImportSpec, WholeFault, TooMany, IncludeCycle, BadDeclaration, DefinedTwice, ImportCycle, TooLarge, SetResult, Unknown, Faulty, Gives, ExportFault, NotDefined, SameExport, program_of, imports_nothing}
use Rattle.scheme_model.specs.Live.{CoreLeaf, Binds, Uses, Assigns, Quotes, Defines, unit_leaves}
use Rattle.scheme_model.specs.Declarations.{forms_hold}
use Rattle.scheme_model.specs.Diagnostics.{Diagnostic, Span, Bytes, document_of, bytes_of, at_bytes, form_diagnostics, datum_bytes, clash_diagnostics, import_fault, set_diagnostics, lost_diagnostics, export_diagnostics, or_start, hides, is_broken, hiding_diagnostics, unbound_at, unbound_diagnostics, is_empty, unit_start, whole_fault, inner_diagnostics, unit_diagnostics, all_diagnostics, is_before, same_diagnostic, put_in, sorted, diagnostics_of}
use Rattle.program_laws.specs.Turns.{Each, AreBounded}
use Rattle.program_laws.proofs.Faults.{Any, coded}
use Rattle.program_laws.proofs.Steps.{Ended}
use Rattle.program_laws.proofs.Lists.{each_both, one_of_two, three_ways}
use Rattle.program_laws.proofs.Programs.{FormFine, UnitFine, program_fine}

abbrev pub HasCode : Diagnostic → Type 0
HasCode d = d.code ≡ 0 → ⊥

abbrev AllHave : List Diagnostic → Type 0
AllHave ds = Each HasCode ds

-- ---- a unit

form_has : (bytes : Occ → Bytes) (holds : ℕ → Occ → Bool) (unit form : ℕ) (r : Result Parts Broken) (c : Counted) (fs : List Formed) → Ended Any r → AllHave (form_diagnostics bytes holds unit fs) → AllHave (form_diagnostics bytes holds unit (record { form = form; result = r; counted = c } ∷ fs))
form_has bytes holds unit form (Ok ps) c fs h k = k
form_has bytes holds unit form (Err b) c fs h k = (λ e. coded b.fault h e, k)

forms_have : (bytes : Occ → Bytes) (holds : ℕ → Occ → Bool) (unit : ℕ) (fs : List Formed) → Each FormFine fs → AllHave (form_diagnostics bytes holds unit fs)
forms_have bytes holds unit [] h = tt
forms_have bytes holds unit (f ∷ fs) h = form_has bytes holds unit f.form f.result f.counted fs h.0 (forms_have bytes holds unit fs h.1)

clashes_have : (b : Bytes) (ss : List (List ℕ)) → AllHave (clash_diagnostics b ss)
clashes_have b [] = tt
clashes_have b (s ∷ ss) = (omega arith, clashes_have b ss)

import_has : (bytes : Occ → Bytes) (b : Bytes) (f : ImportFault) → HasCode (import_fault bytes b f)
import_has bytes b (NotThere n) = omega arith
import_has bytes b (Clash s) = omega arith
import_has bytes b BadSet = omega arith

sets_have : (bytes : Occ → Bytes) (d : ℕ → ℕ) (ss : List ImportSpec) (rs : List SetResult) → AllHave (set_diagnostics bytes d ss rs)
sets_have bytes d [] rs = tt
sets_have bytes d (s ∷ ss) [] = tt
sets_have bytes d (s ∷ ss) (Unknown ∷ rs) = (omega arith, sets_have bytes d ss rs)
sets_have bytes d (s ∷ ss) (Faulty f ∷ rs) = (import_has bytes (datum_bytes (d s.unit) s.whole) f, sets_have bytes d ss rs)
sets_have bytes d (s ∷ ss) (Gives es clashes ∷ rs) = each_both HasCode (clash_diagnostics (datum_bytes (d s.unit) s.whole) clashes) (set_diagnostics bytes d ss rs) (clashes_have (datum_bytes (d s.unit) s.whole) clashes) (sets_have bytes d ss rs)

lost_have : (ls : List LostString) → AllHave (lost_diagnostics ls)
lost_have [] = tt
lost_have (l ∷ ls) = (omega arith, lost_have ls)

exports_have : (bytes : Occ → Bytes) (unit : ℕ) (xs : List ExportFault) → AllHave (export_diagnostics bytes unit xs)
exports_have bytes unit [] = tt
exports_have bytes unit (NotDefined x ∷ xs) = (omega arith, exports_have bytes unit xs)
exports_have bytes unit (SameExport x ∷ xs) = (omega arith, exports_have bytes unit xs)

hidden_has : (bytes : Occ → Bytes) (unit : ℕ) (d : Defined) (b : Bool) → AllHave (if b then at_bytes (bytes (or_start unit d.form d.occ)) 101 (symbol_of d.ident) ∷ [] else [])
hidden_has bytes unit d true = (omega arith, tt)
hidden_has bytes unit d false = tt

hiding_have : (bytes : Occ → Bytes) (unit : ℕ) (fs : List Formed) (es : List Entry) (ds : Table) → AllHave (hiding_diagnostics bytes unit fs es ds)
hiding_have bytes unit fs es [] = tt
hiding_have bytes unit fs es (d ∷ ds) =
    let b : Bool = (d.unit == unit) && (hides es d.ident && not (list_any (is_broken d.form) fs)) in
    each_both HasCode (if b then at_bytes (bytes (or_start unit d.form d.occ)) 101 (symbol_of d.ident) ∷ [] else []) (hiding_diagnostics bytes unit fs es ds) (hidden_has bytes unit d b) (hiding_have bytes unit fs es ds)

target_has : (bytes : Occ → Bytes) (m : Meaning) (i : Ident) (o : Option Occ) → AllHave (unbound_at bytes (record { meaning = m; ident = i; occ = o }))
target_has bytes (Local v) i o = tt
target_has bytes (Global u j) i o = tt
target_has bytes (Standard s) i o = tt
target_has bytes (Free s) i None = tt
target_has bytes (Free s) i (Some o) = (omega arith, tt)

unbound_have : (bytes : Occ → Bytes) (ls : List CoreLeaf) → AllHave (unbound_diagnostics bytes ls)
unbound_have bytes [] = tt
unbound_have bytes (Binds b ∷ ls) = unbound_have bytes ls
unbound_have bytes (Uses t ∷ ls) = each_both HasCode (unbound_at bytes t) (unbound_diagnostics bytes ls) (target_has bytes t.meaning t.ident t.occ) (unbound_have bytes ls)
unbound_have bytes (Assigns t ∷ ls) = each_both HasCode (unbound_at bytes t) (unbound_diagnostics bytes ls) (target_has bytes t.meaning t.ident t.occ) (unbound_have bytes ls)
unbound_have bytes (Quotes o ∷ ls) = unbound_have bytes ls
unbound_have bytes (Defines m ∷ ls) = unbound_have bytes ls

whole_has : (spans : List (List Span)) (document : ℕ → ℕ) (p : Prepared) (f : WholeFault) → HasCode (whole_fault spans document p f)
whole_has spans document p TooMany = omega arith
whole_has spans document p IncludeCycle = omega arith
whole_has spans document p (BadDeclaration unit d) = omega arith
whole_has spans document p DefinedTwice = omega arith
whole_has spans document p ImportCycle = omega arith
whole_has spans document p TooLarge = omega arith

-- ---- the program

module _ (spans : List (List Span)) (p : Program) where
  nothing_has : (b : Bool) (r : UnitResult) → AllHave (if b then at_bytes (unit_start spans r.unit) 104 [] ∷ [] else [])
  nothing_has true r = (omega arith, tt)
  nothing_has false r = tt

  inner_have : (r : UnitResult) (sets : List Diagnostic) → UnitFine r → AllHave sets → AllHave (inner_diagnostics spans p r sets)
  inner_have r sets h k =
      let bytes : Occ → Bytes = bytes_of spans p.units in
      let strings : List LostString = r.unit.placed.source.lost in
      let lost : List Diagnostic = lost_diagnostics strings in
      let exports : List Diagnostic = export_diagnostics bytes r.unit.number r.export_faults in
      let forms : List Diagnostic = form_diagnostics bytes (forms_hold r.unit.number r.unit.forms) r.unit.number r.forms in
      let hiding : List Diagnostic = hiding_diagnostics bytes r.unit.number r.forms r.entries p.table in
      let silent : Bool = is_empty sets && is_empty strings in
      let unbound : List Diagnostic = if silent then unbound_diagnostics bytes (unit_leaves r.forms) else [] in
      let empty : List Diagnostic = if imports_nothing r.unit then at_bytes (unit_start spans r.unit) 104 [] ∷ [] else [] in
      let a = each_both HasCode sets lost k (lost_have strings) in
      let b = each_both HasCode (sets ++ lost) exports a (exports_have bytes r.unit.number r.export_faults) in
      let c = each_both HasCode (sets ++ lost ++ exports) forms b (forms_have bytes (forms_hold r.unit.number r.unit.forms) r.unit.number r.forms h) in
      let d = each_both HasCode (sets ++ lost ++ exports ++ forms) hiding c (hiding_have bytes r.unit.number r.forms r.entries p.table) in
      let e = each_both HasCode (sets ++ lost ++ exports ++ forms ++ hiding) unbound d (one_of_two AllHave silent (unbound_diagnostics bytes (unit_leaves r.forms)) [] (unbound_have bytes (unit_leaves r.forms)) tt) in
      each_both HasCode (sets ++ lost ++ exports ++ forms ++ hiding ++ unbound) empty e (nothing_has (imports_nothing r.unit) r)

  unit_has : (r : UnitResult) (o : Option WholeFault) → UnitFine r → AllHave (unit_diagnostics spans p r o)
  unit_has r (Some f) h = (whole_has spans (document_of p.units) r.unit f, tt)
  unit_has r None h = inner_have r (set_diagnostics (bytes_of spans p.units) (document_of p.units) r.unit.specs r.sets) h (sets_have (bytes_of spans p.units) (document_of p.units) r.unit.specs r.sets)

  units_have : (rs : List UnitResult) → Each UnitFine rs → AllHave (all_diagnostics spans p rs)
  units_have [] h = tt
  units_have (r ∷ rs) h = each_both HasCode (unit_diagnostics spans p r r.fault) (all_diagnostics spans p rs) (unit_has r r.fault h.0) (units_have rs h.1)

put_has : (d : Diagnostic) (ds : List Diagnostic) → HasCode d → AllHave ds → AllHave (put_in d ds)
put_has d [] h k = (h, tt)
put_has d (e ∷ es) h k = three_ways AllHave (is_before d e) (same_diagnostic d e) (d ∷ e ∷ es) (e ∷ es) (e ∷ put_in d es) (h, k) k (k.0, put_has d es h k.1)

sorted_have : (ds : List Diagnostic) → AllHave ds → AllHave (sorted ds)
sorted_have [] h = tt
sorted_have (d ∷ ds) h = put_has d (sorted ds) h.0 (sorted_have ds h.1)

pub diagnostics_have : (spans : List (List Span)) (ds : List Document) → AreBounded ds → Each HasCode (diagnostics_of spans (program_of ds))
diagnostics_have spans ds h = sorted_have (all_diagnostics spans (program_of ds) (program_of ds).units) (units_have spans (program_of ds) (program_of ds).units (program_fine ds h))
