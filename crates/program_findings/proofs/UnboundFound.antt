-- What is found of uses that mean nothing tells the definition's diagnostics.
use Rattle.std.proofs.Common.{◌≡◌, ℕ, zero, suc, List, [], ◌∷◌, ◌++◌, append-nil, append_assoc, Option, Some, None, slice_get, refl, sym, ap, ◌∙◌, subst}
use Rattle.std.specs.List.{flat_map}
use Rattle.std.proofs.lemmas.Grind.{flat_map-append}
use Rattle.scheme_model.specs.declared.Occ.{Occ}
use Rattle.scheme_model.specs.Ident.{Ident}
use Rattle.scheme_model.specs.Cores.{Target}
use Rattle.scheme_model.specs.Meaning.{Meaning, Local, Global, Standard, Free}
use Rattle.scheme_model.specs.Live as live
use Rattle.scheme_model.specs.Live.{CoreLeaf}
use Rattle.scheme_model.specs.Diagnostics.{Bytes, Diagnostic, unbound_at, unbound_diagnostics}
use Rattle.syntax_tree.specs.Names.{Names, KeepsNames}
use Rattle.syntax_tree.specs.Meant.{IsMeaning}
use Rattle.syntax_tree.specs.declared.meaning.Meaning as code_meaning
use Rattle.syntax_tree.specs.declared.meaning.Meaning.TheVariants as code
use Rattle.core_tree.specs.Names.{AllMatch}
use Rattle.core_tree.specs.declared.cores.Target as code_target
use Rattle.read_documents.specs.declared.findings.At.{At}
use Rattle.read_documents.specs.declared.findings.Finding.{Finding}
use Rattle.read_documents.specs.Places.{bytes_at}
use Rattle.scheme_model.specs.DiagnosticTexts.{worded}
use Rattle.program_findings.specs.Unbound.{IsUnbound, unbound_as, unbound_in}
use Rattle.read_documents.specs.Findings.{all_told, errors_in, Adds, at_of}
use Rattle.read_documents.specs.Diagnosed.{free_found, unbound_found}
use Rattle.read_documents.proofs.DiagnosedLaws.{told_both, errors_both, adds_more}

-- ---- one use

-- a use without a place
pub placeless : (bytes : Occ → Bytes) (m : Meaning) (o : Option Occ) (xs : List Finding) → None ≡ o → xs ≡ xs ++ free_found bytes m o
placeless bytes m None xs e = sym (append-nil xs)
placeless bytes m (Some o) xs e = absurd cc

none_free : (bytes : Occ → Bytes) (names : Names) (t : code_meaning.Meaning) (m : Meaning) (o : Option Occ) → IsMeaning names 0 0 t m → ((n : ℕ) → t ≡ code.Free n → ⊥) → [] ≡ free_found bytes m o
none_free bytes names t m None h not = refl
none_free bytes names t (Local v) (Some o) h not = refl
none_free bytes names t (Global u i) (Some o) h not = refl
none_free bytes names t (Standard s) (Some o) h not = refl
none_free bytes names (code.Local n) (Free s) (Some o) h not = absurd cc
none_free bytes names (code.Global u n) (Free s) (Some o) h not = absurd h
none_free bytes names (code.Standard n) (Free s) (Some o) h not = absurd h
none_free bytes names (code.Free n) (Free s) (Some o) h not = absurd (not n refl)

-- a use that means something
pub not_free : (bytes : Occ → Bytes) (names : Names) (t : code_target.Target) (m : Target) (xs : List Finding) → IsUnbound names t m → ((n : ℕ) → t.meaning ≡ code.Free n → ⊥) → xs ≡ xs ++ unbound_found bytes m
not_free bytes names t m xs is not = sym (append-nil xs) ∙ ap (λ ys. xs ++ ys) (none_free bytes names t.meaning m.meaning m.occ (is.meaning 0 0) not)

module _ (bytes : Occ → Bytes) (names now : Names) (kept : KeepsNames names now) (symbol : ℕ) (occ : Occ) (spot : At) (name : List ℕ) where
  free_so : (m : Meaning) (o : Option Occ) → IsMeaning names 0 0 (code.Free symbol) m → Some occ ≡ o → bytes_at spot ≡ bytes occ → slice_get now.symbols symbol ≡ Some name →
      ◌≡◌ {A = List Finding} (record { at = Some spot; form = occ.form; code = 103; message = worded 103 name } ∷ []) (free_found bytes m o)
  free_so m None h e exact there = absurd cc
  free_so (Local v) (Some o) h e exact there = absurd h
  free_so (Global u i) (Some o) h e exact there = absurd h
  free_so (Standard s) (Some o) h e exact there = absurd h
  free_so (Free s) (Some o) h e exact there =
      let same : occ ≡ o = cc in
      let both : Some name ≡ Some s = sym there ∙ kept.symbols symbol s h in
      let text : name ≡ s = cc in
      let place : spot ≡ at_of (bytes o) = ap at_of (exact ∙ ap bytes same) in
      λ i. record { at = Some (place i); form = (same i).form; code = 103; message = worded 103 (text i) } ∷ []

  -- a use that means nothing
  pub is_free : (t : code_target.Target) (m : Target) → IsUnbound names t m → t.meaning ≡ code.Free symbol → t.occ ≡ Some occ → bytes_at spot ≡ bytes occ → slice_get now.symbols symbol ≡ Some name →
      (f : Finding) → f ≡ record { at = Some spot; form = occ.form; code = 103; message = worded 103 name } → f ∷ [] ≡ unbound_found bytes m
  is_free t m is free at exact there f same =
      ap (λ (g : Finding). g ∷ []) same
      ∙ free_so m.meaning m.occ (subst (λ (x : code_meaning.Meaning). IsMeaning names 0 0 x m.meaning) free (is.meaning 0 0)) (sym at ∙ is.place) exact there

-- ---- uses one by one

module _ (bytes : Occ → Bytes) where
  abbrev pub all_unbound : List Target → List Finding
  all_unbound ms = flat_map (unbound_found bytes) ms

  one_told : (i : Ident) (m : Meaning) (o : Option Occ) → all_told (all_unbound (unbound_as m o (record { meaning = m; ident = i; occ = o }))) ≡ unbound_at bytes (record { meaning = m; ident = i; occ = o })
  one_told i (Local v) None = refl
  one_told i (Local v) (Some o) = refl
  one_told i (Global u j) None = refl
  one_told i (Global u j) (Some o) = refl
  one_told i (Standard s) None = refl
  one_told i (Standard s) (Some o) = refl
  one_told i (Free s) None = refl
  one_told i (Free s) (Some o) = refl

  use_told : (t : Target) (ls : List CoreLeaf) → all_told (all_unbound (unbound_in ls)) ≡ unbound_diagnostics bytes ls →
      all_told (all_unbound (unbound_as t.meaning t.occ t ++ unbound_in ls)) ≡ unbound_at bytes t ++ unbound_diagnostics bytes ls
  use_told t ls rest =
      ap all_told (flat_map-append (unbound_found bytes) (unbound_as t.meaning t.occ t) (unbound_in ls))
      ∙ told_both (all_unbound (unbound_as t.meaning t.occ t)) (all_unbound (unbound_in ls))
      ∙ (λ i. one_told t.ident t.meaning t.occ i ++ rest i)

  unbound_told : (ls : List CoreLeaf) → all_told (all_unbound (unbound_in ls)) ≡ unbound_diagnostics bytes ls
  unbound_told [] = refl
  unbound_told (live.Binds b ∷ ls) = unbound_told ls
  unbound_told (live.Uses t ∷ ls) = use_told t ls (unbound_told ls)
  unbound_told (live.Assigns t ∷ ls) = use_told t ls (unbound_told ls)
  unbound_told (live.Quotes o ∷ ls) = unbound_told ls
  unbound_told (live.Defines m ∷ ls) = unbound_told ls

  no_error : (m : Meaning) (o : Option Occ) → errors_in (free_found bytes m o) ≡ []
  no_error m None = refl
  no_error (Local v) (Some o) = refl
  no_error (Global u i) (Some o) = refl
  no_error (Standard s) (Some o) = refl
  no_error (Free s) (Some o) = refl

  no_errors : (ms : List Target) → errors_in (all_unbound ms) ≡ []
  no_errors [] = refl
  no_errors (m ∷ ms) = errors_both (unbound_found bytes m) (all_unbound ms) ∙ (λ i. no_error m.meaning m.occ i ++ no_errors ms i)

  pub unbound_adds : (old new : List Finding) (ls : List CoreLeaf) → new ≡ old ++ all_unbound (unbound_in ls) → Adds old new (unbound_diagnostics bytes ls) []
  unbound_adds old new ls is = adds_more old new (all_unbound (unbound_in ls)) (unbound_diagnostics bytes ls) [] is (unbound_told ls) (no_errors (unbound_in ls))

  pub unbound_none : (P : code_target.Target → Target → Type 0) (old : List Finding) (ms : List Target) → AllMatch P [] ms → old ≡ old ++ all_unbound ms
  unbound_none P old [] h = sym (append-nil old)
  unbound_none P old (m ∷ ms) h = absurd h

  match_split : (P : code_target.Target → Target → Type 0) (xs : List code_target.Target) (x : code_target.Target) (zs : List Target) → AllMatch P (xs ++ x ∷ []) zs →
      (front : List Target) × (z : Target) × (zs ≡ front ++ z ∷ []) × AllMatch P xs front × P x z
  match_split P [] x [] h = absurd h
  match_split P [] x (z ∷ []) h = ([], z, refl, tt, h.0)
  match_split P [] x (z ∷ w ∷ zs) h = absurd h.1
  match_split P (y ∷ xs) x [] h = absurd h
  match_split P (y ∷ xs) x (z ∷ zs) h = let q = match_split P xs x zs h.1 in (z ∷ q.0, q.1, ap (λ ws. z ∷ ws) q.2, (h.0, q.3), q.4)

  -- one use more
  pub unbound_more : (P : code_target.Target → Target → Type 0) (xs : List code_target.Target) (x : code_target.Target) (old now new : List Finding) →
      ((ms : List Target) → AllMatch P xs ms → now ≡ old ++ all_unbound ms) → ((m : Target) → P x m → new ≡ now ++ unbound_found bytes m) →
      (ms : List Target) → AllMatch P (xs ++ x ∷ []) ms → new ≡ old ++ all_unbound ms
  unbound_more P xs x old now new so one ms h =
      let q = match_split P xs x ms h in
      one q.1 q.4 ∙ ap (λ ys. ys ++ unbound_found bytes q.1) (so q.0 q.3) ∙ append_assoc old (all_unbound q.0) (unbound_found bytes q.1)
      ∙ ap (λ ys. old ++ (all_unbound q.0 ++ ys)) (sym (append-nil (unbound_found bytes q.1))) ∙ ap (λ ys. old ++ ys) (sym (flat_map-append (unbound_found bytes) q.0 (q.1 ∷ [])))
      ∙ ap (λ zs. old ++ all_unbound zs) (sym q.2)
