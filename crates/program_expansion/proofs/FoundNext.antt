-- The unit whose turn it is, broken or expanded: what is found of it is what the definition has of it, and of the units before it too.
use Rattle.std.proofs.Common.{◌≡◌, ℕ, List, [], ◌∷◌, ◌++◌, true, false, slice_get, slice_set, Option, Some, None, refl, sym, ap, ◌∙◌, subst}
use Rattle.std.specs.Prelude.{IfSome}
use Rattle.std.specs.Option.{is_some as is_there}
use Rattle.scheme_model.specs.Order.{is_some}
use Rattle.scheme_model.specs.Requirements.{LibraryName, Known}
use Rattle.scheme_model.specs.IncludedUnits.{Placed}
use Rattle.scheme_model.specs.Program.{Prepared, prepared, prepare, UnitResult, result_at, broken_result, unit_result, unit_entries, with_entries, fault_before}
use Rattle.scheme_model.specs.ScopedExpansion.{ScopedState}
use Rattle.scheme_model.specs.ScopedProgram.{ScopedProgress, after_unit}
use Rattle.scheme_model.specs.UnitExpansion.{Formed}
use Rattle.expansion_laws.proofs.OtherForms.{none_in_front}
use Rattle.program_expansion.specs.UnitResults.{IsCome, IsUpTo, expanded_after, so_far, with_unit}
use Rattle.read_documents.specs.Readings.{Read}
use Rattle.document_units.specs.Turned.{turns, scoped_at}
use Rattle.unit_results.specs.UnitsFound.{in_the_end, HaveFound}
use Rattle.read_documents.specs.UnitFindings.{IsFoundOf}
use Rattle.unit_imports.specs.declared.expanded.Expanded.{Expanded}
use Rattle.form_expansion.specs.declared.forms.Bench.{Bench}
use Rattle.read_documents.specs.declared.heads.Head.{Head}
use Rattle.document_units.specs.declared.listing.Units.{Units}
use Rattle.program_expansion.proofs.TurnCited.{TurnOf, turn_of, turn_broken}
use Rattle.program_expansion.proofs.UnitGoes.{IsOfUnit}
use Rattle.program_expansion.proofs.UnitsFoundLaws.{found_set, found_none}
use Rattle.program_expansion.proofs.UpTo.{done_at}
use Rattle.program_expansion.proofs.UpToNext.{before, told_some, no_result, reaches, own, front}

module _ (spelled : LibraryName → List ℕ) (us : List Placed) (known : Known) (x y : List ℕ) (n : ℕ) (order : turns us ≡ x ++ n ∷ y) (b : Bench) (units : Units) (es : List (Option Expanded)) (up : IsUpTo spelled us known x b units es)
    (hd : Head) (place : slice_get units.heads.items n ≡ Some hd) (reads : List Read) (ends : List UnitResult) (found : HaveFound reads ends (scoped_at us known x) es) where
  abbrev g : ScopedProgress
  g = scoped_at us known x

  abbrev turn : TurnOf us known x n
  turn = turn_of us known x y n order

  abbrev p : Prepared
  p = prepared us n turn.unit

  numbered : (m : ℕ) (s : UnitResult) → result_at g.results m ≡ Some s → s.unit.number ≡ m
  numbered m s at = ap (λ (q : Prepared). q.number) (done_at us known x (n ∷ y) order m s at).is

  nothing : (e : Expanded) → slice_get es n ≡ Some (Some e) → ⊥
  nothing e at =
      let none : Some e ≡ None = subst (λ (o : Option UnitResult). IsCome us (so_far g) b.work (Some e) o) (no_result (result_at g.results n) turn.fresh) (up.come n (Some e) at) in
      absurd cc

  pub broken_found : is_there hd.fault ≡ true → HaveFound reads ends (scoped_at us known (x ++ n ∷ [])) es
  broken_found h =
      let e = told_some (fault_before us (prepare us 0 us) p) hd.fault (before spelled us known x y n order b units es up hd place) h in
      let r = broken_result p e.0 in
      let k : ScopedProgress = record g { results = r ∷ g.results } in
      let to : scoped_at us known (x ++ n ∷ []) ≡ k = turn_broken us known x n turn e.0 e.1 in
      subst (λ (q : ScopedProgress). HaveFound reads ends q es) (sym to) (found_none reads ends g k n r refl turn.fresh refl (none_in_front (IsOfUnit n) g.table) numbered es found nothing)

  module _ (whole : is_there hd.fault ≡ false) where
    abbrev gone : Option (List Formed) × ScopedState
    gone = expanded_after known g p (unit_entries us g.results p).0

    pub expanded_found : (came : Option Expanded) → IfSome came (λ (e : Expanded). IsFoundOf reads (in_the_end ends (with_unit g gone.1)) (unit_result p (unit_entries us g.results p) gone.1.table gone.0) e.findings.items) →
        HaveFound reads ends (scoped_at us known (x ++ n ∷ [])) (slice_set es n came)
    expanded_found came here =
        let imports = unit_entries us g.results p in
        let k : ScopedProgress = after_unit p imports (with_entries p.number imports.0 g.entry) g.results gone in
        let r : UnitResult = unit_result p imports gone.1.table gone.0 in
        let mine = own spelled us known x y n order b units es up hd place whole in
        let fresh : is_some (result_at g.results r.unit.number) ≡ false = ap (λ m. is_some (result_at g.results m)) mine ∙ turn.fresh in
        subst (λ (q : ScopedProgress). HaveFound reads ends q (slice_set es n came)) (sym (reaches spelled us known x y n order b units es up hd place whole))
        (found_set reads ends g k n r mine fresh refl (front spelled us known x y n order b units es up hd place whole) numbered es found came here)
