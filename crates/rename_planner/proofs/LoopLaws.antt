-- Units and exports one by one.
use Rattle.std.proofs.Common.{◌≡◌, ◌⊎◌, inl, inr, slice_get, Some, subst, ◌≤◌, ◌<◌, ℕ, suc, ◌+◌, ◌-◌, List, [], ◌∷◌, ◌++◌, length, drop, get_or, Option, refl, sym, ap, ◌∙◌, arith, append_assoc, append-nil}
use Rattle.std.proofs.lemmas.Bool.{cases_lt}
use Rattle.std.proofs.lemmas.List.{at_drop_all, drop_more, length-drop}
use Rattle.scheme_model.specs.declared.Occ.{Occ}
use Rattle.rename_model.specs.SameProgram.{ExportChange}
use Rattle.syntax_tree.specs.declared.units.Entry.{Entry}
use Rattle.core_tree.specs.declared.units.NameUse.{NameUse}
use Rattle.core_tree.specs.declared.units.Unit.{Unit}
use Rattle.document_store.specs.Texts.{Document}
use Rattle.rename_planner.specs.Planning.{IsOpenText}
use Rattle.rename_planner.specs.Changes.{all_changes, change_told, changes_among, occ_from_end, unit_changes}

-- of one text more it is known
pub seen_more : (ds : List (List ℕ × Document)) (i : ℕ) → ((n : ℕ) (d : List ℕ × Document) → n < i → slice_get ds n ≡ Some d → IsOpenText d.1.1) → ((d : List ℕ × Document) → slice_get ds i ≡ Some d → IsOpenText d.1.1) →
    (n : ℕ) (d : List ℕ × Document) → n < i + 1 → slice_get ds n ≡ Some d → IsOpenText d.1.1
seen_more ds i seen here n d lt at = go (cases_lt n i)
  where
    go : (n < i) ⊎ (i ≤ n) → IsOpenText d.1.1
    go (inl h) = seen n d h at
    go (inr h) = let e : n ≡ i = omega (arith, lt, h) in here d (subst (λ k. slice_get ds k ≡ Some d) e at)

module _ (name : Occ → Option (List ℕ)) where
  pub unit_more : (units : List Unit) (i : ℕ) (u : Unit) (old new total : List ExportChange) → i < length units → u ≡ get_or units i u → new ≡ old ++ unit_changes name i u → old ++ all_changes name i (drop i units) ≡ total →
      new ++ all_changes name (i + 1) (drop (i + 1) units) ≡ total
  unit_more units i u old new total lt is e h =
      let one : suc i ≡ i + 1 = omega arith in
      let split : drop i units ≡ u ∷ drop (i + 1) units = drop_more units i u lt ∙ ap (λ x. x ∷ drop (i + 1) units) (sym is) in
      (λ j. e j ++ all_changes name (sym one j) (drop (i + 1) units)) ∙ append_assoc old (unit_changes name i u) (all_changes name (suc i) (drop (i + 1) units)) ∙ (λ j. old ++ all_changes name i (sym split j)) ∙ h

  pub units_end : (units : List Unit) (i : ℕ) (old total : List ExportChange) → length units ≤ i → old ++ all_changes name i (drop i units) ≡ total → old ≡ total
  units_end units i old total le h = sym (append-nil old) ∙ (λ j. old ++ sym (at_drop_all (λ us. all_changes name i us) units i le) j) ∙ h

  pub export_more : (unit : ℕ) (ns : List NameUse) (exports : List Entry) (i : ℕ) (x : Entry) (occ : Option Occ) (old new total : List ExportChange) → i < length exports → x ≡ get_or exports i x → occ ≡ occ_from_end ns (length exports - i) →
      new ≡ old ++ change_told name unit x.name occ → old ++ changes_among name unit ns (drop i exports) ≡ total → new ++ changes_among name unit ns (drop (i + 1) exports) ≡ total
  export_more unit ns exports i x occ old new total lt is at e h =
      let split : drop i exports ≡ x ∷ drop (i + 1) exports = drop_more exports i x lt ∙ ap (λ y. y ∷ drop (i + 1) exports) (sym is) in
      let count : length exports - i ≡ suc (length (drop (i + 1) exports)) = omega (arith, length-drop (i + 1) exports, lt) in
      let place : occ ≡ occ_from_end ns (suc (length (drop (i + 1) exports))) = at ∙ ap (occ_from_end ns) count in
      (λ j. e j ++ changes_among name unit ns (drop (i + 1) exports)) ∙ (λ j. (old ++ change_told name unit x.name (place j)) ++ changes_among name unit ns (drop (i + 1) exports))
      ∙ append_assoc old (change_told name unit x.name (occ_from_end ns (suc (length (drop (i + 1) exports))))) (changes_among name unit ns (drop (i + 1) exports)) ∙ (λ j. old ++ changes_among name unit ns (sym split j)) ∙ h

  pub exports_end : (unit : ℕ) (ns : List NameUse) (exports : List Entry) (i : ℕ) (old total : List ExportChange) → length exports ≤ i → old ++ changes_among name unit ns (drop i exports) ≡ total → old ≡ total
  exports_end unit ns exports i old total le h = sym (append-nil old) ∙ (λ j. old ++ sym (at_drop_all (λ es. changes_among name unit ns es) exports i le) j) ∙ h
