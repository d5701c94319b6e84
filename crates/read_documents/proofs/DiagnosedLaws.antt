-- What is found in forms tells the definition's diagnostics.
use Rattle.std.proofs.Common.{◌≡◌, ℕ, zero, suc, inl, inr, List, [], ◌∷◌, ◌++◌, append-nil, append_assoc, map, filter, Option, Some, None, Result, Ok, Err, Bool, true, cond, slice_get, drop, length, ◌≤◌, drop_of_length-le, refl, sym, ap, ◌∙◌, subst}
use Rattle.std.proofs.lemmas.Grind.{flat_map-append}
use Rattle.std.proofs.lemmas.List.Elements.{filter-append}
use Rattle.scheme_model.proofs.RenamingLaws.{map-append}
use Rattle.scheme_model.specs.declared.Occ.{Occ}
use Rattle.scheme_model.specs.Ident.{Ident, symbol_of}
use Rattle.scheme_model.specs.ExpansionFaults.{Named, Fault, fault_code, fault_name, error_text, BadRules, TwoEllipses, DuplicateVariable, EllipsisDepth, IdleEllipsis, NoRule, EllipsisLength, BadForm, DuplicateBinder, BadPlace, BadRecord, BadQuasi, KeywordRedefined, Duplicate, KeywordAsValue, UseBudget, NodeBudget, DepthBudget, SyntaxError, IncludeRefused, OutOfTurns}
use Rattle.scheme_model.specs.Cores.{Parts}
use Rattle.scheme_model.specs.Steps.{Broken}
use Rattle.scheme_model.specs.UnitExpansion.{Formed}
use Rattle.scheme_model.specs.Diagnostics.{Bytes, Diagnostic, fault_names, fault_occ, named_occ, form_diagnostics, or_start}
use Rattle.syntax_tree.specs.Names.{Names, KeepsNames}
use Rattle.core_tree.specs.Traces.{IsFault, IsNamedBy}
use Rattle.core_tree.specs.Units.{FormsStand, IsResult, form_errors}
use Rattle.core_tree.specs.declared.units.UnitForm.{UnitForm}
use Rattle.syntax_tree.specs.declared.trees.Work.{Work}
use Rattle.core_tree.specs.declared.traces.FormFault.{FormFault}
use Rattle.read_documents.specs.declared.findings.At.{At}
use Rattle.read_documents.specs.declared.findings.Finding.{Finding}
use Rattle.read_documents.specs.Places.{bytes_at}
use Rattle.scheme_model.specs.DiagnosticTexts.{worded}
use Rattle.read_documents.specs.Findings.{told, all_told, is_error, errors_in, Adds, at_of}
use Rattle.read_documents.specs.Diagnosed.{named_text, fault_found, result_found, faults_found}

-- ---- what a fault names

-- an identifier or a text is what the fault names
names_told : (f : Fault Ident) → named_text (fault_name f) (error_text f) ≡ fault_names f
names_told BadRules = refl
names_told TwoEllipses = refl
names_told (DuplicateVariable n) = refl
names_told (EllipsisDepth n) = refl
names_told IdleEllipsis = refl
names_told (NoRule n) = refl
names_told EllipsisLength = refl
names_told BadForm = refl
names_told (DuplicateBinder n) = refl
names_told BadPlace = refl
names_told BadRecord = refl
names_told BadQuasi = refl
names_told (KeywordRedefined n) = refl
names_told (Duplicate n) = refl
names_told (KeywordAsValue n) = refl
names_told UseBudget = refl
names_told NodeBudget = refl
names_told DepthBudget = refl
names_told (SyntaxError text) = refl
names_told IncludeRefused = refl
names_told OutOfTurns = refl

-- a fault is an Error
fault_is_error : (f : Fault Ident) → is_error (fault_code f) ≡ true
fault_is_error BadRules = refl
fault_is_error TwoEllipses = refl
fault_is_error (DuplicateVariable n) = refl
fault_is_error (EllipsisDepth n) = refl
fault_is_error IdleEllipsis = refl
fault_is_error (NoRule n) = refl
fault_is_error EllipsisLength = refl
fault_is_error BadForm = refl
fault_is_error (DuplicateBinder n) = refl
fault_is_error BadPlace = refl
fault_is_error BadRecord = refl
fault_is_error BadQuasi = refl
fault_is_error (KeywordRedefined n) = refl
fault_is_error (Duplicate n) = refl
fault_is_error (KeywordAsValue n) = refl
fault_is_error UseBudget = refl
fault_is_error NodeBudget = refl
fault_is_error DepthBudget = refl
fault_is_error (SyntaxError text) = refl
fault_is_error IncludeRefused = refl
fault_is_error OutOfTurns = refl

module _ (names now : Names) (kept : KeepsNames names now) (text : List ℕ) where
  name_there : (n : ℕ) (m : Option (Named Ident)) (t : Option (List ℕ)) → IsNamedBy names (Some n) m → ((i : Ident) → slice_get now.idents n ≡ Some i → text ≡ symbol_of i) → text ≡ named_text m t
  name_there n None t h is = absurd h
  name_there n (Some i) t h is = is i.name (kept.idents n i.name h)

  pub names_it : (e : FormFault) (b : Broken) (n : ℕ) → IsFault names e b → e.name ≡ Some n → ((i : Ident) → slice_get now.idents n ≡ Some i → text ≡ symbol_of i) → text ≡ fault_names b.fault
  names_it e b n is at told = name_there n (fault_name b.fault) (error_text b.fault) (subst (λ (o : Option ℕ). IsNamedBy names o (fault_name b.fault)) at is.name) told ∙ names_told b.fault

no_name : (names : Names) (m : Option (Named Ident)) (t : Option (List ℕ)) → IsNamedBy names None m → named_text m t ≡ named_text None t
no_name names None t h = refl
no_name names (Some i) t h = absurd h

-- it names nothing, but may have a text
pub names_text : (names : Names) (e : FormFault) (b : Broken) → IsFault names e b → e.name ≡ None → named_text None e.text ≡ fault_names b.fault
names_text names e b is none = ap (named_text None) is.text ∙ sym (no_name names (fault_name b.fault) (error_text b.fault) (subst (λ (o : Option ℕ). IsNamedBy names o (fault_name b.fault)) none is.name)) ∙ names_told b.fault

-- ---- findings, one behind the other

pub told_both : (xs ys : List Finding) → all_told (xs ++ ys) ≡ all_told xs ++ all_told ys
told_both xs ys = flat_map-append told xs ys

pub errors_both : (xs ys : List Finding) → errors_in (xs ++ ys) ≡ errors_in xs ++ errors_in ys
errors_both xs ys = ap (map (λ (f : Finding). (f.code, f.form))) (filter-append (λ (f : Finding). is_error f.code) xs ys) ∙ map-append (λ (f : Finding). (f.code, f.form)) (filter (λ (f : Finding). is_error f.code) xs) (filter (λ (f : Finding). is_error f.code) ys)

pub adds_more : (old new more : List Finding) (ds : List Diagnostic) (es : List (ℕ × ℕ)) → new ≡ old ++ more → all_told more ≡ ds → errors_in more ≡ es → Adds old new ds es
adds_more old new more ds es is t e = record {
  told = ap all_told is ∙ told_both old more ∙ ap (λ xs. all_told old ++ xs) t;
  errors = ap errors_in is ∙ errors_both old more ∙ ap (λ xs. errors_in old ++ xs) e;
}

-- ---- forms

module _ (bytes : Occ → Bytes) (holds : ℕ → Occ → Bool) (unit : ℕ) where
  pub faults_told : (fs : List Formed) → all_told (faults_found bytes holds unit fs) ≡ form_diagnostics bytes holds unit fs
  faults_told [] = refl
  faults_told (f ∷ fs) = told_both (result_found bytes holds unit f.result f.form) (faults_found bytes holds unit fs) ∙ go f.result (faults_told fs)
    where
      go : (r : Result Parts Broken) → all_told (faults_found bytes holds unit fs) ≡ form_diagnostics bytes holds unit fs →
          all_told (result_found bytes holds unit r f.form) ++ all_told (faults_found bytes holds unit fs) ≡ form_diagnostics bytes holds unit (record { form = f.form; result = r; counted = f.counted } ∷ fs)
      go (Ok ps) rest = rest
      go (Err e) rest = ap (λ xs. told (fault_found bytes holds unit f.form e) ++ xs) rest

  pub faults_errors : (fs : List Formed) → errors_in (faults_found bytes holds unit fs) ≡ form_errors fs
  faults_errors [] = refl
  faults_errors (f ∷ fs) = errors_both (result_found bytes holds unit f.result f.form) (faults_found bytes holds unit fs) ∙ go f.result (faults_errors fs)
    where
      go : (r : Result Parts Broken) → errors_in (faults_found bytes holds unit fs) ≡ form_errors fs →
          errors_in (result_found bytes holds unit r f.form) ++ errors_in (faults_found bytes holds unit fs) ≡ form_errors (record { form = f.form; result = r; counted = f.counted } ∷ fs)
      go (Ok ps) rest = rest
      go (Err e) rest = ap (λ b. map (λ (g : Finding). (g.code, g.form)) (cond b (fault_found bytes holds unit f.form e ∷ []) []) ++ errors_in (faults_found bytes holds unit fs)) (fault_is_error e.fault) ∙ ap (λ xs. (fault_code e.fault, f.form) ∷ xs) rest

-- ---- the forms one by one

pub fault_is_found : (bytes : Occ → Bytes) (holds : ℕ → Occ → Bool) (unit form : ℕ) (names : Names) (fault : FormFault) (e : Broken) → IsFault names fault e → (spot : At) (name : List ℕ) →
    bytes_at spot ≡ bytes (or_start unit form (fault_occ (holds form) fault.occ fault.here)) → name ≡ fault_names e.fault → (f : Finding) → f ≡ record { at = Some spot; form = form; code = fault.code; message = worded fault.code name } →
    f ≡ fault_found bytes holds unit form e
fault_is_found bytes holds unit form names fault e is spot name exact named f told_so =
    let place : spot ≡ at_of (bytes (or_start unit form (fault_occ (holds form) (named_occ (fault_name e.fault)) e.here))) =
    ap at_of (exact ∙ (λ i. bytes (or_start unit form (fault_occ (holds form) (is.place i) (is.here i))))) in
    told_so ∙ (λ i. record { at = Some (place i); form = form; code = is.code i; message = worded (is.code i) (named i) })

-- what is still to come of forms that stand for others
pub record ToCome (bytes : Occ → Bytes) (holds : ℕ → Occ → Bool) (work : Work) (unit place : ℕ) (cs : List UnitForm) (fs : List Formed) (old now : List Finding) : Type 0 where
  pub rest : List Formed
  pub stand : FormsStand work unit place cs rest
  pub found : now ++ faults_found bytes holds unit rest ≡ old ++ faults_found bytes holds unit fs

drop_next : (cs : List UnitForm) (n : ℕ) (c : UnitForm) → slice_get cs n ≡ Some c → drop n cs ≡ c ∷ drop (suc n) cs
drop_next [] n c at = absurd cc
drop_next (b ∷ cs) zero c at = let same : b ≡ c = cc in ap (λ (x : UnitForm). x ∷ cs) same
drop_next (b ∷ cs) (suc n) c at = drop_next cs n c at

module _ (bytes : Occ → Bytes) (holds : ℕ → Occ → Bool) (work : Work) (unit : ℕ) (fs : List Formed) (old now new : List Finding) where
  one_form : (n : ℕ) (c : UnitForm) (cs : List UnitForm) (rest : List Formed) → FormsStand work unit n (c ∷ cs) rest → now ++ faults_found bytes holds unit rest ≡ old ++ faults_found bytes holds unit fs →
      (c.fault ≡ None → new ≡ now) → ((fault : FormFault) (e : Broken) → c.fault ≡ Some fault → IsFault work.symbols fault e → new ≡ now ++ fault_found bytes holds unit n e ∷ []) → ToCome bytes holds work unit (suc n) cs fs old new
  one_form n c cs [] h so whole broken = record { rest = []; stand = h.1; found = ap (λ xs. xs ++ []) (whole h.0.fault) ∙ so }
  one_form n c cs (f ∷ rest) (inl h) so whole broken = record { rest = f ∷ rest; stand = h.2; found = ap (λ xs. xs ++ faults_found bytes holds unit (f ∷ rest)) (whole h.0.fault) ∙ so }
  one_form n c cs (f ∷ rest) (inr h) so whole broken = record { rest = rest; stand = h.2; found = go f.result h.1 ∙ so }
    where
      go : (r : Result Parts Broken) → IsResult work unit n c r f.counted → new ++ faults_found bytes holds unit rest ≡ now ++ (result_found bytes holds unit r f.form ++ faults_found bytes holds unit rest)
      go (Ok ps) is = ap (λ xs. xs ++ faults_found bytes holds unit rest) (whole is.whole)
      go (Err e) is =
          ap (λ xs. xs ++ faults_found bytes holds unit rest) (broken is.0 e is.1 is.2 ∙ ap (λ m. now ++ fault_found bytes holds unit m e ∷ []) (sym h.0))
          ∙ append_assoc now (fault_found bytes holds unit f.form e ∷ []) (faults_found bytes holds unit rest)

  pub come_more : (n m : ℕ) (c : UnitForm) (cs : List UnitForm) → slice_get cs n ≡ Some c → m ≡ suc n → ToCome bytes holds work unit n (drop n cs) fs old now →
      (c.fault ≡ None → new ≡ now) → ((fault : FormFault) (e : Broken) → c.fault ≡ Some fault → IsFault work.symbols fault e → new ≡ now ++ fault_found bytes holds unit n e ∷ []) → ToCome bytes holds work unit m (drop m cs) fs old new
  come_more n m c cs at next come whole broken =
      subst (λ k. ToCome bytes holds work unit k (drop k cs) fs old new) (sym next)
      (one_form n c (drop (suc n) cs) come.rest (subst (λ xs. FormsStand work unit n xs come.rest) (drop_next cs n c at) come.stand) come.found whole broken)

  pub come_all : (n : ℕ) (cs : List UnitForm) → length cs ≤ n → ToCome bytes holds work unit n (drop n cs) fs old now → Adds old now (form_diagnostics bytes holds unit fs) (form_errors fs)
  come_all n cs over come = adds_more old now (faults_found bytes holds unit fs) (form_diagnostics bytes holds unit fs) (form_errors fs) (go come.rest (subst (λ xs. FormsStand work unit n xs come.rest) (drop_of_length-le cs over) come.stand) come.found) (faults_told bytes holds unit fs) (faults_errors bytes holds unit fs)
    where
      go : (rest : List Formed) → FormsStand work unit n [] rest → now ++ faults_found bytes holds unit rest ≡ old ++ faults_found bytes holds unit fs → now ≡ old ++ faults_found bytes holds unit fs
      go [] h so = sym (append-nil now) ∙ so
      go (f ∷ rest) h so = absurd h
