-- A unit has Errors by its diagnostics exactly where it has some by its forms.
use Rattle.std.proofs.Common.{◌≡◌, ◌↔◌, ℕ, suc, List, [], ◌∷◌, ◌++◌, map, length, filter, Bool, true, false, cond, Option, Some, None, Result, Ok, Err, refl, sym, ap, ◌∙◌, arith}
use Rattle.std.specs.Prelude.{◌==◌, ◌&&◌, ◌||◌, not, nat_lt, zip, if◌then◌else◌}
use Rattle.std.specs.List.{list_any}
use Rattle.std.proofs.lemmas.Bool.{and_parts}
use Rattle.std.proofs.lemmas.Bool.Decides.{nat_tests}
use Rattle.std.proofs.lemmas.List.{length-map, length-append}
use Rattle.scheme_model.specs.declared.Occ.{Occ}
use Rattle.scheme_model.specs.Ident.{Ident, symbol_of}
use Rattle.scheme_model.specs.ExpansionFaults.{Fault, BadRules, TwoEllipses, DuplicateVariable, EllipsisDepth, IdleEllipsis, NoRule, EllipsisLength, BadForm, DuplicateBinder, BadPlace, BadRecord, BadQuasi, KeywordRedefined, Duplicate, KeywordAsValue, UseBudget, NodeBudget, DepthBudget, SyntaxError, IncludeRefused, OutOfTurns, fault_code}
use Rattle.scheme_model.specs.Meaning.{Meaning, Local, Global, Standard, Free}
use Rattle.scheme_model.specs.Cores.{Parts}
use Rattle.scheme_model.specs.Steps.{Broken}
use Rattle.scheme_model.specs.Order.{Counted}
use Rattle.scheme_model.specs.UnitExpansion.{Formed}
use Rattle.scheme_model.specs.Substitution.{Table, Defined}
use Rattle.scheme_model.specs.Entries.{Entry, ImportFault, NotThere, Clash, BadSet}
use Rattle.scheme_model.specs.Declarations.{UnitForm, forms_hold}
use Rattle.scheme_model.specs.Included.{LostString}
use Rattle.scheme_model.specs.Program.{UnitResult, Program, ImportSpec, specs_in, specs_from, WholeFault, TooMany, IncludeCycle, BadDeclaration, DefinedTwice, ImportCycle, TooLarge, SetResult, Unknown, Faulty, Gives, ExportFault, NotDefined, SameExport, imports_nothing, whole_code}
use Rattle.scheme_model.specs.Live.{CoreLeaf, Binds, Uses, Assigns, Quotes, Defines, unit_leaves}
use Rattle.scheme_model.specs.Diagnostics.{Diagnostic, Span, Bytes, document_of, bytes_of, at_bytes, form_diagnostics, datum_bytes, import_fault, set_diagnostics, lost_diagnostics, export_diagnostics, or_start, hides, is_broken, hiding_diagnostics, unbound_at, unbound_diagnostics, is_empty, unit_start, inner_diagnostics, unit_diagnostics, is_before, same_diagnostic, put_in, sorted}
use Rattle.scheme_model.specs.Entries.{is_below}
use Rattle.rename_model.specs.SameProgram.{set_forms, set_errors, export_errors, form_errors, errors_of}

-- ---- Errors among diagnostics

abbrev pub is_error : Diagnostic → Bool
is_error d = nat_lt d.code 100

-- none of these is one
abbrev NoErrors : List Diagnostic → Type 0
NoErrors [] = Unit {0}
NoErrors (d ∷ ds) = (is_error d ≡ false) × NoErrors ds

none_kept : (ds : List Diagnostic) → NoErrors ds → filter is_error ds ≡ []
none_kept [] h = refl
none_kept (d ∷ ds) h = ap (λ (b : Bool). cond b (d ∷ filter is_error ds) (filter is_error ds)) h.0 ∙ none_kept ds h.1

kept_none : (ds : List Diagnostic) → filter is_error ds ≡ [] → NoErrors ds
kept_none [] e = tt
kept_none (d ∷ ds) e = go (is_error d) refl (kept_none ds) e
  where
    go : (b : Bool) → is_error d ≡ b → (filter is_error ds ≡ [] → NoErrors ds) → cond b (d ∷ filter is_error ds) (filter is_error ds) ≡ [] → NoErrors (d ∷ ds)
    go true q more k = absurd cc
    go false q more k = (q, more k)

no_error : {P : Type 0} → true ≡ false → P
no_error e = absurd cc

none_in_both : (xs ys : List Diagnostic) → NoErrors xs → NoErrors ys → NoErrors (xs ++ ys)
none_in_both [] ys h k = k
none_in_both (x ∷ xs) ys h k = (h.0, none_in_both xs ys h.1 k)

none_in_each : (xs ys : List Diagnostic) → NoErrors (xs ++ ys) → NoErrors xs × NoErrors ys
none_in_each [] ys h = (tt, h)
none_in_each (x ∷ xs) ys h = let m = none_in_each xs ys h.1 in ((h.0, m.0), m.1)

-- ---- in order, each once

neither : (a b : Bool) → (a || b) ≡ false → (a ≡ false) × (b ≡ false)
neither false b h = (refl, h)
neither true b h = absurd cc

was_not : (b : Bool) → not b ≡ true → b ≡ false
was_not false h = refl
was_not true h = absurd cc

record Level (m n : ℕ) (p q : Bool) : Type 0 where
  pub same : m ≡ n
  pub left : p ≡ false
  pub right : q ≡ false

level : (m n : ℕ) (p q : Bool) → (nat_lt m n || (m == n && p)) ≡ false → (nat_lt n m || (n == m && q)) ≡ false → Level m n p q
level m n p q h k =
    let a = neither (nat_lt m n) (m == n && p) h in
    let b = neither (nat_lt n m) (n == m && q) k in
    let e = equal m n a.0 b.0 in
    record { same = e; left = ap (λ (c : Bool). c && p) (sym (same_test m n e)) ∙ a.1; right = ap (λ (c : Bool). c && q) (sym (same_test n m (sym e))) ∙ b.1 }
  where
    equal : (m n : ℕ) → nat_lt m n ≡ false → nat_lt n m ≡ false → m ≡ n
    equal m n h k = grind (arith, nat_tests)

    same_test : (m n : ℕ) → m ≡ n → (m == n) ≡ true
    same_test m n e = grind (arith, nat_tests)

abbrev from_code : Diagnostic → Diagnostic → Bool
from_code a b = nat_lt a.code b.code || (a.code == b.code && is_below a.text b.text)

abbrev from_start : Diagnostic → Diagnostic → Bool
from_start a b = nat_lt a.start b.start || (a.start == b.start && from_code a b)

same_code : (a b : Diagnostic) → same_diagnostic a b ≡ true → a.code ≡ b.code
same_code a b h =
    let both = and_parts (not (is_before a b)) (not (is_before b a)) h in
    let p = was_not (is_before a b) both.0 in
    let q = was_not (is_before b a) both.1 in
    let document = level a.document b.document (from_start a b) (from_start b a) p q in
    let start = level a.start b.start (from_code a b) (from_code b a) document.left document.right in
    (level a.code b.code (is_below a.text b.text) (is_below b.text a.text) start.left start.right).same

none_put : (d : Diagnostic) (es : List Diagnostic) → is_error d ≡ false → NoErrors es → NoErrors (put_in d es)
none_put d [] h k = (h, tt)
none_put d (e ∷ es) h k = go (is_before d e) (same_diagnostic d e) (none_put d es h k.1)
  where
    go : (b c : Bool) → NoErrors (put_in d es) → NoErrors (if b then d ∷ e ∷ es else if c then e ∷ es else e ∷ put_in d es)
    go true c more = (h, k)
    go false true more = k
    go false false more = (k.0, more)

put_none : (d : Diagnostic) (es : List Diagnostic) → NoErrors (put_in d es) → (is_error d ≡ false) × NoErrors es
put_none d [] h = (h.0, tt)
put_none d (e ∷ es) h = go (is_before d e) (same_diagnostic d e) refl (put_none d es) h
  where
    go : (b c : Bool) → same_diagnostic d e ≡ c → (NoErrors (put_in d es) → (is_error d ≡ false) × NoErrors es) → NoErrors (if b then d ∷ e ∷ es else if c then e ∷ es else e ∷ put_in d es) →
        (is_error d ≡ false) × NoErrors (e ∷ es)
    go true c q more k = k
    go false true q more k = (ap (λ n. nat_lt n 100) (same_code d e q) ∙ k.0, k)
    go false false q more k = let m = more k.1 in (m.0, (k.0, m.1))

none_sorted : (ds : List Diagnostic) → NoErrors ds → NoErrors (sorted ds)
none_sorted [] h = tt
none_sorted (d ∷ ds) h = none_put d (sorted ds) h.0 (none_sorted ds h.1)

sorted_none : (ds : List Diagnostic) → NoErrors (sorted ds) → NoErrors ds
sorted_none [] h = tt
sorted_none (d ∷ ds) h = let m = put_none d (sorted ds) h in (m.0, sorted_none ds m.1)

-- ---- import sets

import_error : (bytes : Occ → Bytes) (b : Bytes) (f : ImportFault) → is_error (import_fault bytes b f) ≡ true
import_error bytes b (NotThere n) = refl
import_error bytes b (Clash s) = refl
import_error bytes b BadSet = refl

some_none : {P : Type 0} (n : ℕ) (ns : List ℕ) → n ∷ ns ≡ [] → P
some_none n ns e = absurd cc

sets_from : (bytes : Occ → Bytes) (document : ℕ → ℕ) (ss : List ImportSpec) (fs : List ℕ) (rs : List SetResult) → length ss ≡ length fs → NoErrors (set_diagnostics bytes document ss rs) → set_errors (zip fs rs) ≡ []
sets_from bytes document [] [] rs long h = refl
sets_from bytes document [] (f ∷ fs) rs long h = absurd (omega arith)
sets_from bytes document (s ∷ ss) [] rs long h = absurd (omega arith)
sets_from bytes document (s ∷ ss) (f ∷ fs) [] long h = refl
sets_from bytes document (s ∷ ss) (f ∷ fs) (Unknown ∷ rs) long h = sets_from bytes document ss fs rs (omega arith) h.1
sets_from bytes document (s ∷ ss) (f ∷ fs) (Faulty e ∷ rs) long h = no_error (sym (import_error bytes (datum_bytes (document s.unit) s.whole) e) ∙ h.0)
sets_from bytes document (s ∷ ss) (f ∷ fs) (Gives es [] ∷ rs) long h = sets_from bytes document ss fs rs (omega arith) h
sets_from bytes document (s ∷ ss) (f ∷ fs) (Gives es (c ∷ cs) ∷ rs) long h = no_error h.0

sets_to : (bytes : Occ → Bytes) (document : ℕ → ℕ) (ss : List ImportSpec) (fs : List ℕ) (rs : List SetResult) → length ss ≡ length fs → set_errors (zip fs rs) ≡ [] → NoErrors (set_diagnostics bytes document ss rs)
sets_to bytes document [] [] rs long e = tt
sets_to bytes document [] (f ∷ fs) rs long e = absurd (omega arith)
sets_to bytes document (s ∷ ss) [] rs long e = absurd (omega arith)
sets_to bytes document (s ∷ ss) (f ∷ fs) [] long e = tt
sets_to bytes document (s ∷ ss) (f ∷ fs) (Unknown ∷ rs) long e = (refl, sets_to bytes document ss fs rs (omega arith) e)
sets_to bytes document (s ∷ ss) (f ∷ fs) (Faulty g ∷ rs) long e = some_none f (set_errors (zip fs rs)) e
sets_to bytes document (s ∷ ss) (f ∷ fs) (Gives es [] ∷ rs) long e = sets_to bytes document ss fs rs (omega arith) e
sets_to bytes document (s ∷ ss) (f ∷ fs) (Gives es (c ∷ cs) ∷ rs) long e = some_none f _ e

-- as many sets as forms of sets
pub as_many : (unit form : ℕ) (fs : List UnitForm) → length (specs_from unit form fs) ≡ length (set_forms unit form fs)
as_many unit form [] = refl
as_many unit form (f ∷ fs) =
    omega (arith, as_many unit (suc form) fs, length-append (specs_in unit form f) (specs_from unit (suc form) fs), length-append (map (λ s. form) (specs_in unit form f)) (set_forms unit (suc form) fs), length-map (specs_in unit form f) (λ s. form))

-- ---- exports and forms

exports_from : (bytes : Occ → Bytes) (unit : ℕ) (xs : List ExportFault) → NoErrors (export_diagnostics bytes unit xs) → export_errors xs ≡ []
exports_from bytes unit [] h = refl
exports_from bytes unit (NotDefined x ∷ xs) h = no_error h.0
exports_from bytes unit (SameExport x ∷ xs) h = no_error h.0

exports_to : (bytes : Occ → Bytes) (unit : ℕ) (xs : List ExportFault) → export_errors xs ≡ [] → NoErrors (export_diagnostics bytes unit xs)
exports_to bytes unit [] e = tt
exports_to bytes unit (NotDefined x ∷ xs) e = some_none x.form (export_errors xs) e
exports_to bytes unit (SameExport x ∷ xs) e = some_none x.form (export_errors xs) e

fault_error : (f : Fault Ident) → nat_lt (fault_code f) 100 ≡ true
fault_error BadRules = refl
fault_error TwoEllipses = refl
fault_error (DuplicateVariable n) = refl
fault_error (EllipsisDepth n) = refl
fault_error IdleEllipsis = refl
fault_error (NoRule n) = refl
fault_error EllipsisLength = refl
fault_error BadForm = refl
fault_error (DuplicateBinder n) = refl
fault_error BadPlace = refl
fault_error BadRecord = refl
fault_error BadQuasi = refl
fault_error (KeywordRedefined n) = refl
fault_error (Duplicate n) = refl
fault_error (KeywordAsValue n) = refl
fault_error UseBudget = refl
fault_error NodeBudget = refl
fault_error DepthBudget = refl
fault_error (SyntaxError text) = refl
fault_error IncludeRefused = refl
fault_error OutOfTurns = refl

form_from : (bytes : Occ → Bytes) (holds : ℕ → Occ → Bool) (unit form : ℕ) (r : Result Parts Broken) (c : Counted) (fs : List Formed) → (NoErrors (form_diagnostics bytes holds unit fs) → form_errors fs ≡ []) →
    NoErrors (form_diagnostics bytes holds unit (record { form = form; result = r; counted = c } ∷ fs)) → form_errors (record { form = form; result = r; counted = c } ∷ fs) ≡ []
form_from bytes holds unit form (Ok ps) c fs more h = more h
form_from bytes holds unit form (Err b) c fs more h = no_error (sym (fault_error b.fault) ∙ h.0)

forms_from : (bytes : Occ → Bytes) (holds : ℕ → Occ → Bool) (unit : ℕ) (fs : List Formed) → NoErrors (form_diagnostics bytes holds unit fs) → form_errors fs ≡ []
forms_from bytes holds unit [] h = refl
forms_from bytes holds unit (f ∷ fs) h = form_from bytes holds unit f.form f.result f.counted fs (forms_from bytes holds unit fs) h

form_to : (bytes : Occ → Bytes) (holds : ℕ → Occ → Bool) (unit form : ℕ) (r : Result Parts Broken) (c : Counted) (fs : List Formed) → (form_errors fs ≡ [] → NoErrors (form_diagnostics bytes holds unit fs)) →
    form_errors (record { form = form; result = r; counted = c } ∷ fs) ≡ [] → NoErrors (form_diagnostics bytes holds unit (record { form = form; result = r; counted = c } ∷ fs))
form_to bytes holds unit form (Ok ps) c fs more e = more e
form_to bytes holds unit form (Err b) c fs more e = some_none form (form_errors fs) e

forms_to : (bytes : Occ → Bytes) (holds : ℕ → Occ → Bool) (unit : ℕ) (fs : List Formed) → form_errors fs ≡ [] → NoErrors (form_diagnostics bytes holds unit fs)
forms_to bytes holds unit [] e = tt
forms_to bytes holds unit (f ∷ fs) e = form_to bytes holds unit f.form f.result f.counted fs (forms_to bytes holds unit fs) e

-- ---- what is told and is no Error

hidden_none : (bytes : Occ → Bytes) (unit : ℕ) (d : Defined) (b : Bool) → NoErrors (if b then at_bytes (bytes (or_start unit d.form d.occ)) 101 (symbol_of d.ident) ∷ [] else [])
hidden_none bytes unit d true = (refl, tt)
hidden_none bytes unit d false = tt

hiding_none : (bytes : Occ → Bytes) (unit : ℕ) (fs : List Formed) (es : List Entry) (ds : Table) → NoErrors (hiding_diagnostics bytes unit fs es ds)
hiding_none bytes unit fs es [] = tt
hiding_none bytes unit fs es (d ∷ ds) =
    let b : Bool = (d.unit == unit) && (hides es d.ident && not (list_any (is_broken d.form) fs)) in
    none_in_both (if b then at_bytes (bytes (or_start unit d.form d.occ)) 101 (symbol_of d.ident) ∷ [] else []) (hiding_diagnostics bytes unit fs es ds) (hidden_none bytes unit d b) (hiding_none bytes unit fs es ds)

target_none : (bytes : Occ → Bytes) (m : Meaning) (i : Ident) (o : Option Occ) → NoErrors (unbound_at bytes (record { meaning = m; ident = i; occ = o }))
target_none bytes (Local v) i o = tt
target_none bytes (Global u j) i o = tt
target_none bytes (Standard s) i o = tt
target_none bytes (Free s) i None = tt
target_none bytes (Free s) i (Some o) = (refl, tt)

lost_none : (ls : List LostString) → NoErrors (lost_diagnostics ls)
lost_none [] = tt
lost_none (l ∷ ls) = (refl, lost_none ls)

unbound_none : (bytes : Occ → Bytes) (ls : List CoreLeaf) → NoErrors (unbound_diagnostics bytes ls)
unbound_none bytes [] = tt
unbound_none bytes (Binds b ∷ ls) = unbound_none bytes ls
unbound_none bytes (Uses t ∷ ls) = none_in_both (unbound_at bytes t) (unbound_diagnostics bytes ls) (target_none bytes t.meaning t.ident t.occ) (unbound_none bytes ls)
unbound_none bytes (Assigns t ∷ ls) = none_in_both (unbound_at bytes t) (unbound_diagnostics bytes ls) (target_none bytes t.meaning t.ident t.occ) (unbound_none bytes ls)
unbound_none bytes (Quotes o ∷ ls) = unbound_none bytes ls
unbound_none bytes (Defines m ∷ ls) = unbound_none bytes ls

if_none : (b : Bool) (ds : List Diagnostic) → NoErrors ds → NoErrors (if b then ds else [])
if_none true ds h = h
if_none false ds h = tt

-- ---- a unit

nothing_joined : (xs ys zs : List ℕ) → xs ≡ [] → ys ≡ [] → zs ≡ [] → (xs ++ ys) ++ zs ≡ []
nothing_joined xs ys zs p q r = ap (λ (l : List ℕ). (l ++ ys) ++ zs) p ∙ (ap (λ (l : List ℕ). l ++ zs) q ∙ r)

joined_nothing : (xs ys : List ℕ) → xs ++ ys ≡ [] → (xs ≡ []) × (ys ≡ [])
joined_nothing [] ys e = (refl, e)
joined_nothing (x ∷ xs) ys e = some_none x (xs ++ ys) e

abbrev with_fault : UnitResult → Option WholeFault → UnitResult
with_fault r f = record r { fault = f }

whole_error : (f : WholeFault) → nat_lt (whole_code f) 100 ≡ true
whole_error TooMany = refl
whole_error IncludeCycle = refl
whole_error (BadDeclaration unit d) = refl
whole_error DefinedTwice = refl
whole_error ImportCycle = refl
whole_error TooLarge = refl

module _ (spans : List (List Span)) (p : Program) (r : UnitResult) (long : length r.unit.specs ≡ length (set_forms r.unit.number 0 r.unit.forms)) where
  abbrev bytes : Occ → Bytes
  bytes = bytes_of spans p.units

  abbrev sets : List Diagnostic
  sets = set_diagnostics bytes (document_of p.units) r.unit.specs r.sets

  abbrev strings : List LostString
  strings = r.unit.placed.source.lost

  abbrev lost : List Diagnostic
  lost = lost_diagnostics strings

  abbrev exports : List Diagnostic
  exports = export_diagnostics bytes r.unit.number r.export_faults

  abbrev forms : List Diagnostic
  forms = form_diagnostics bytes (forms_hold r.unit.number r.unit.forms) r.unit.number r.forms

  abbrev hiding : List Diagnostic
  hiding = hiding_diagnostics bytes r.unit.number r.forms r.entries p.table

  abbrev unbound : List Diagnostic
  unbound = if is_empty sets && is_empty strings then unbound_diagnostics bytes (unit_leaves r.forms) else []

  abbrev without_imports : List Diagnostic
  without_imports = if imports_nothing r.unit then at_bytes (unit_start spans r.unit) 104 [] ∷ [] else []

  abbrev of_sets : List ℕ
  of_sets = set_errors (zip (set_forms r.unit.number 0 r.unit.forms) r.sets)

  inner_from : NoErrors (inner_diagnostics spans p r sets) → (of_sets ++ export_errors r.export_faults) ++ form_errors r.forms ≡ []
  inner_from h =
      let a = none_in_each (((((sets ++ lost) ++ exports) ++ forms) ++ hiding) ++ unbound) without_imports h in
      let b = none_in_each ((((sets ++ lost) ++ exports) ++ forms) ++ hiding) unbound a.0 in
      let c = none_in_each (((sets ++ lost) ++ exports) ++ forms) hiding b.0 in
      let d = none_in_each ((sets ++ lost) ++ exports) forms c.0 in
      let e = none_in_each (sets ++ lost) exports d.0 in
      let f = none_in_each sets lost e.0 in
      nothing_joined of_sets (export_errors r.export_faults) (form_errors r.forms) (sets_from bytes (document_of p.units) r.unit.specs (set_forms r.unit.number 0 r.unit.forms) r.sets long f.0)
      (exports_from bytes r.unit.number r.export_faults e.1) (forms_from bytes (forms_hold r.unit.number r.unit.forms) r.unit.number r.forms d.1)

  inner_to : (of_sets ++ export_errors r.export_faults) ++ form_errors r.forms ≡ [] → NoErrors (inner_diagnostics spans p r sets)
  inner_to e =
      let a = joined_nothing (of_sets ++ export_errors r.export_faults) (form_errors r.forms) e in
      let b = joined_nothing of_sets (export_errors r.export_faults) a.0 in
      none_in_both (((((sets ++ lost) ++ exports) ++ forms) ++ hiding) ++ unbound) without_imports
      (none_in_both ((((sets ++ lost) ++ exports) ++ forms) ++ hiding) unbound
      (none_in_both (((sets ++ lost) ++ exports) ++ forms) hiding
      (none_in_both ((sets ++ lost) ++ exports) forms
      (none_in_both (sets ++ lost) exports
      (none_in_both sets lost (sets_to bytes (document_of p.units) r.unit.specs (set_forms r.unit.number 0 r.unit.forms) r.sets long b.0) (lost_none strings))
      (exports_to bytes r.unit.number r.export_faults b.1))
      (forms_to bytes (forms_hold r.unit.number r.unit.forms) r.unit.number r.forms a.1))
      (hiding_none bytes r.unit.number r.forms r.entries p.table))
      (if_none (is_empty sets && is_empty strings) (unbound_diagnostics bytes (unit_leaves r.forms)) (unbound_none bytes (unit_leaves r.forms))))
      (if_none (imports_nothing r.unit) (at_bytes (unit_start spans r.unit) 104 [] ∷ []) (refl, tt))

  from_diagnostics : (f : Option WholeFault) → NoErrors (unit_diagnostics spans p (with_fault r f) f) → errors_of (with_fault r f) ≡ []
  from_diagnostics None h = inner_from h
  from_diagnostics (Some f) h = no_error (sym (whole_error f) ∙ h.0)

  to_diagnostics : (f : Option WholeFault) → errors_of (with_fault r f) ≡ [] → NoErrors (unit_diagnostics spans p (with_fault r f) f)
  to_diagnostics None e = inner_to e
  to_diagnostics (Some f) e = some_none 0 [] e

  -- both find none, or both some
  pub unit_errors_one : (filter is_error (sorted (unit_diagnostics spans p r r.fault)) ≡ []) ↔ (errors_of r ≡ [])
  unit_errors_one = (
    λ h. from_diagnostics r.fault (sorted_none (unit_diagnostics spans p r r.fault) (kept_none (sorted (unit_diagnostics spans p r r.fault)) h)),
    λ e. none_kept (sorted (unit_diagnostics spans p r r.fault)) (none_sorted (unit_diagnostics spans p r r.fault) (to_diagnostics r.fault e)),
  )
