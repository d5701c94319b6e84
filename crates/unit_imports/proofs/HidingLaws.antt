-- What is found of definitions that hide imports tells the definition's diagnostics.
use Rattle.std.proofs.Common.{◌≡◌, ℕ, zero, suc, ◌<◌, length, arith, List, [], ◌∷◌, ◌++◌, append-nil, append_assoc, Bool, true, false, cond, slice_get, Option, Some, None, refl, sym, ap, ◌∙◌}
use Rattle.std.specs.Prelude.{◌==◌, ◌&&◌, ◌||◌, not}
use Rattle.std.specs.List.{flat_map, list_any}
use Rattle.std.specs.Str.{bytes_eq}
use Rattle.std.proofs.lemmas.Grind.{flat_map-append}
use Rattle.scheme_model.specs.declared.Occ.{Occ}
use Rattle.scheme_model.specs.Ident.{Ident, Written, Inserted, symbol_of}
use Rattle.scheme_model.specs.Entries.{Entry}
use Rattle.scheme_model.specs.Substitution.{Defined, Table}
use Rattle.scheme_model.specs.UnitExpansion.{Formed}
use Rattle.scheme_model.specs.Diagnostics.{Bytes, Diagnostic, at_bytes, or_start, hides, is_broken, hiding_diagnostics}
use Rattle.syntax_tree.specs.Names.{Names}
use Rattle.syntax_tree.specs.Meant.{AreEntries}
use Rattle.syntax_tree.specs.declared.units.Entry as code
use Rattle.core_tree.specs.Units.{AreDefinitions, FormsStand, IsDefinition, defined_by}
use Rattle.core_tree.specs.declared.units.UnitForm.{UnitForm}
use Rattle.syntax_tree.specs.declared.trees.Work.{Work}
use Rattle.core_tree.specs.declared.cores.Binder.{Binder}
use Rattle.import_sets.specs.Given.{has_name}
use Rattle.read_documents.specs.declared.findings.At.{At}
use Rattle.read_documents.specs.declared.findings.Finding.{Finding}
use Rattle.unit_imports.specs.Defined.{hidden_in, hidden_at, written_symbol}
use Rattle.read_documents.specs.Findings.{all_told, errors_in, Adds, at_of}
use Rattle.read_documents.specs.Places.{bytes_at}
use Rattle.scheme_model.specs.DiagnosticTexts.{worded}
use Rattle.unit_imports.proofs.BrokenForms.{broken_same}
use Rattle.unit_imports.specs.Hiding.{has_fault, hidden_found, unless_broken}
use Rattle.read_documents.proofs.DiagnosedLaws.{told_both, errors_both, adds_more}

-- ---- the definition, of the definitions of one unit

module _ (bytes : Occ → Bytes) (unit : ℕ) (fs : List Formed) (es : List Entry) where
  abbrev one_told : Bool → Defined → List Diagnostic
  one_told b d = cond (b && (hides es d.ident && not (list_any (is_broken d.form) fs))) (at_bytes (bytes (or_start unit d.form d.occ)) 101 (symbol_of d.ident) ∷ []) []

  abbrev own_told : List Defined → List Diagnostic
  own_told [] = []
  own_told (d ∷ ds) = one_told true d ++ own_told ds

  -- what other units define hides nothing here
  pub hiding_own : (table : Table) → hiding_diagnostics bytes unit fs es table ≡ own_told (defined_by unit table)
  hiding_own [] = refl
  hiding_own (d ∷ ds) = go (d.unit == unit) refl (hiding_own ds)
    where
      go : (b : Bool) → (d.unit == unit) ≡ b → hiding_diagnostics bytes unit fs es ds ≡ own_told (defined_by unit ds) →
          one_told (d.unit == unit) d ++ hiding_diagnostics bytes unit fs es ds ≡ own_told (cond (d.unit == unit) (d ∷ defined_by unit ds) (defined_by unit ds))
      go true e rest = (λ i. one_told (e i) d ++ rest i) ∙ ap (λ b. own_told (cond b (d ∷ defined_by unit ds) (defined_by unit ds))) (sym e)
      go false e rest = (λ i. one_told (e i) d ++ rest i) ∙ ap (λ b. own_told (cond b (d ∷ defined_by unit ds) (defined_by unit ds))) (sym e)

-- so it is the same for tables that have the same of a unit
pub hiding_same : (bytes : Occ → Bytes) (unit : ℕ) (fs : List Formed) (es : List Entry) (old new : Table) → defined_by unit new ≡ defined_by unit old → hiding_diagnostics bytes unit fs es new ≡ hiding_diagnostics bytes unit fs es old
hiding_same bytes unit fs es old new h = hiding_own bytes unit fs es new ∙ (ap (own_told bytes unit fs es) h ∙ sym (hiding_own bytes unit fs es old))

-- ---- names that are imported

-- a name is there where its entry is
entry_there : (names : Names) (cs : List code.Entry) (es : List Entry) → AreEntries names cs es → (u : ℕ) (s : List ℕ) → hides es (Written u s) ≡ has_name cs s
entry_there names [] [] h u s = refl
entry_there names [] (e ∷ es) h u s = absurd h
entry_there names (c ∷ cs) [] h u s = absurd h
entry_there names (c ∷ cs) (e ∷ es) h u s = go (bytes_eq e.name s) refl (entry_there names cs es h.1 u s) ∙ ap (λ n. bytes_eq n s || has_name cs s) (sym h.0.name)
  where
    go : (b : Bool) → bytes_eq e.name s ≡ b → hides es (Written u s) ≡ has_name cs s → hides (e ∷ es) (Written u s) ≡ (bytes_eq e.name s || has_name cs s)
    go true q rest = rw q refl
    go false q rest = rw q rest

-- ---- definitions one by one

-- a definition of a form that isn't broken is told, if it hides something
with_broken : (broken hidden : Bool) (found : List Finding) (ds : List Diagnostic) → all_told found ≡ cond hidden ds [] → all_told (unless_broken broken found) ≡ cond (hidden && not broken) ds []
with_broken true true found ds e = refl
with_broken true false found ds e = refl
with_broken false true found ds e = e
with_broken false false found ds e = e

module _ (bytes : Occ → Bytes) (unit : ℕ) (forms : List UnitForm) (names : Names) (cs : List code.Entry) where
  abbrev pub found_one : ℕ × Binder → List Finding
  found_one b = unless_broken (has_fault (slice_get forms b.0)) (hidden_found bytes unit b.0 b.1.occ (hidden_at cs (slice_get names.idents b.1.ident)))

  abbrev pub all_hidden : List (ℕ × Binder) → List Finding
  all_hidden bs = flat_map found_one bs

  pub hidden_more : (bs : List (ℕ × Binder)) (b : ℕ × Binder) (old now new : List Finding) → now ≡ old ++ all_hidden bs → new ≡ now ++ found_one b → new ≡ old ++ all_hidden (bs ++ b ∷ [])
  hidden_more bs b old now new so one =
      one ∙ (ap (λ fs. fs ++ found_one b) so ∙ (append_assoc old (all_hidden bs) (found_one b) ∙ ap (λ fs. old ++ fs)
      (ap (λ fs. all_hidden bs ++ fs) (sym (append-nil (found_one b))) ∙ sym (flat_map-append found_one bs (b ∷ [])))))

  no_error : (form : ℕ) (occ : Option Occ) (s : Option (List ℕ)) → errors_in (hidden_found bytes unit form occ s) ≡ []
  no_error form occ None = refl
  no_error form occ (Some s) = refl

  no_error_if : (broken : Bool) (found : List Finding) → errors_in found ≡ [] → errors_in (unless_broken broken found) ≡ []
  no_error_if true found e = refl
  no_error_if false found e = e

  no_errors : (bs : List (ℕ × Binder)) → errors_in (all_hidden bs) ≡ []
  no_errors [] = refl
  no_errors (b ∷ bs) = errors_both (found_one b) (all_hidden bs) ∙ (λ i. no_error_if (has_fault (slice_get forms b.0)) (hidden_found bytes unit b.0 b.1.occ (hidden_at cs (slice_get names.idents b.1.ident))) (no_error b.0 b.1.occ (hidden_at cs (slice_get names.idents b.1.ident))) i ++ no_errors bs i)

  module _ (es : List Entry) (are : AreEntries names cs es) (work : Work) (fs : List Formed) (stand : FormsStand work unit 0 forms fs) where
    by_name : (form : ℕ) (occ : Option Occ) (s : List ℕ) (b : Bool) →
        all_told (hidden_found bytes unit form occ (cond b (Some s) None)) ≡ cond b (at_bytes (bytes (or_start unit form occ)) 101 s ∷ []) []
    by_name form occ s true = refl
    by_name form occ s false = refl

    by_ident : (form : ℕ) (occ : Option Occ) (i : Ident) →
        all_told (hidden_found bytes unit form occ (hidden_in cs i)) ≡ cond (hides es i) (at_bytes (bytes (or_start unit form occ)) 101 (symbol_of i) ∷ []) []
    by_ident form occ (Inserted j k) = refl
    by_ident form occ (Written u s) = ap (λ b. all_told (hidden_found bytes unit form occ (cond b (Some s) None))) (sym (entry_there names cs es are u s)) ∙ by_name form occ s (hides es (Written u s))

    one_ident : (b : ℕ × Binder) (d : Defined) (n : ℕ) → IsDefinition names n b d →
        all_told (hidden_found bytes unit b.0 b.1.occ (hidden_at cs (slice_get names.idents b.1.ident))) ≡ cond (hides es d.ident) (at_bytes (bytes (or_start unit d.form d.occ)) 101 (symbol_of d.ident) ∷ []) []
    one_ident b d n h =
        ap (λ o. all_told (hidden_found bytes unit b.0 b.1.occ (hidden_at cs o))) h.ident
        ∙ ((λ i. all_told (hidden_found bytes unit (h.form i) (h.place i) (hidden_in cs d.ident))) ∙ by_ident d.form d.occ d.ident)

    same_fault : (n m : ℕ) → n ≡ m → has_fault (slice_get forms n) ≡ list_any (is_broken m) fs
    same_fault n m e = ap (λ k. has_fault (slice_get forms k)) e ∙ sym (broken_same work unit forms fs stand m)

    definition_told : (n : ℕ) (b : ℕ × Binder) (d : Defined) → IsDefinition names n b d → all_told (found_one b) ≡ one_told bytes unit fs es true d
    definition_told n b d h =
        with_broken (has_fault (slice_get forms b.0)) (hides es d.ident) (hidden_found bytes unit b.0 b.1.occ (hidden_at cs (slice_get names.idents b.1.ident))) (at_bytes (bytes (or_start unit d.form d.occ)) 101 (symbol_of d.ident) ∷ []) (one_ident b d n h)
        ∙ ap (λ q. cond (hides es d.ident && not q) (at_bytes (bytes (or_start unit d.form d.occ)) 101 (symbol_of d.ident) ∷ []) []) (same_fault b.0 d.form h.form)

    all_hidden_told : (bs : List (ℕ × Binder)) (ds : List Defined) → AreDefinitions names bs ds → all_told (all_hidden bs) ≡ own_told bytes unit fs es ds
    all_hidden_told [] [] h = refl
    all_hidden_told [] (d ∷ ds) h = absurd h
    all_hidden_told (b ∷ bs) [] h = absurd h
    all_hidden_told (b ∷ bs) (d ∷ ds) h = told_both (found_one b) (all_hidden bs) ∙ (λ i. definition_told _ b d h.0 i ++ all_hidden_told bs ds h.1 i)

    -- all of them are the definition's
    pub hidden_adds : (old new : List Finding) (bs : List (ℕ × Binder)) (table : Table) → AreDefinitions names bs (defined_by unit table) → new ≡ old ++ all_hidden bs → Adds old new (hiding_diagnostics bytes unit fs es table) []
    hidden_adds old new bs table h is =
        adds_more old new (all_hidden bs) (hiding_diagnostics bytes unit fs es table) [] is (all_hidden_told bs (defined_by unit table) h ∙ sym (hiding_own bytes unit fs es table)) (no_errors bs)

-- ---- one finding

pub hides_one : (bytes : Occ → Bytes) (unit form : ℕ) (occ : Option Occ) (spot : At) (name : List ℕ) (o : Option (List ℕ)) → bytes_at spot ≡ bytes (or_start unit form occ) → Some name ≡ o → (f : Finding) →
    f ≡ record { at = Some spot; form = form; code = 101; message = worded 101 name } → f ∷ [] ≡ hidden_found bytes unit form occ o
hides_one bytes unit form occ spot name None exact is f same = absurd cc
hides_one bytes unit form occ spot name (Some s) exact is f same =
    let text : name ≡ s = cc in
    let place : spot ≡ at_of (bytes (or_start unit form occ)) = ap at_of exact in
    ap (λ (g : Finding). g ∷ []) same ∙ (λ i. record { at = Some (place i); form = form; code = 101; message = worded 101 (text i) } ∷ [])

pub hides_none : (bytes : Occ → Bytes) (unit form : ℕ) (occ : Option Occ) (o : Option (List ℕ)) (xs : List Finding) → None ≡ o → xs ≡ xs ++ hidden_found bytes unit form occ o
hides_none bytes unit form occ None xs is = sym (append-nil xs)
hides_none bytes unit form occ (Some s) xs is = absurd cc

-- ---- the name that is hidden

pub no_symbol : (cs : List code.Entry) (o : Option Ident) → ((i : Ident) → o ≡ Some i → None ≡ written_symbol i) → None ≡ hidden_at cs o
no_symbol cs None h = refl
no_symbol cs (Some (Written u s)) h = let e : None ≡ Some s = h (Written u s) refl in absurd cc
no_symbol cs (Some (Inserted i k)) h = refl

pub symbol_there : (cs : List code.Entry) (is : List Ident) (n : ℕ) → n < length is → (name : List ℕ) → ((i : Ident) → slice_get is n ≡ Some i → Some name ≡ written_symbol i) → (b : Bool) → has_name cs name ≡ b → cond b (Some name) None ≡ hidden_at cs (slice_get is n)
symbol_there cs [] n lt name h b has = absurd (omega arith)
symbol_there cs (i ∷ is) zero lt name h b has = go i (h i refl)
  where
    go : (i : Ident) → Some name ≡ written_symbol i → cond b (Some name) None ≡ hidden_in cs i
    go (Written u s) e = let same : name ≡ s = cc in ap (λ t. cond t (Some name) None) (sym has) ∙ (λ j. cond (has_name cs (same j)) (Some (same j)) None)
    go (Inserted j k) e = absurd cc
symbol_there cs (i ∷ is) (suc n) lt name h b has = symbol_there cs is n (omega arith) name h b has
