-- What a unit exports under other numbers.
use Rattle.std.proofs.Common.{◌≡◌, ℕ, List, [], ◌∷◌, map, Bool, true, false, cond, Option, Some, None, refl, ap, ◌∙◌}
use Rattle.scheme_model.specs.declared.Occ.{Occ}
use Rattle.scheme_model.specs.Ident.{Written}
use Rattle.scheme_model.specs.Meaning.{Global}
use Rattle.scheme_model.specs.RulesShape.{option_map}
use Rattle.scheme_model.specs.Substitution.{Table, Defined, defined_in}
use Rattle.scheme_model.specs.Entries.{Entry, entry_at, place_origin}
use Rattle.scheme_model.specs.Program.{ExportSpec, Exported, own_entry, names_of_unit, exported, has_name, export_one, export_all, SameExport}
use Rattle.scheme_model.proofs.RenamingLaws.{cond_map}
use Rattle.renumbering_laws.specs.Renumbering.{Renumbering, place, ident, meaning}
use Rattle.renumbering_laws.specs.States.{defined_as, TablesMove}
use Rattle.renumbering_laws.specs.Exports.{origin_as, entry_as, export_as, export_fault_as, exported_as}

module _ (r : Renumbering) where
  origin_moved : (o : Option Occ) → place_origin (place r o) ≡ map (origin_as r) (place_origin o)
  origin_moved None = refl
  origin_moved (Some o) = refl

  pub entry_moved : (es : List Entry) (s : List ℕ) → entry_at (map (entry_as r) es) s ≡ option_map (entry_as r) (entry_at es s)
  entry_moved [] s = refl
  entry_moved (e ∷ es) s = cond_map (option_map (entry_as r)) (Some e) (entry_at es s) refl refl (entry_moved es s)

  own_moved : (u : ℕ) (s : List ℕ) (d : Option Defined) (e : Option Entry) → own_entry (r.unit u) s (option_map (defined_as r) d) (option_map (entry_as r) e) ≡ option_map (entry_as r) (own_entry u s d e)
  own_moved u s None e = refl
  own_moved u s (Some d) e = ap (λ os. Some (record { name = s; meaning = Global (r.unit u) (ident r d.ident); origins = os })) (origin_moved d.occ)

  pub names_moved : (t t' : Table) → TablesMove r t t' → (u : ℕ) (es : List Entry) (s : List ℕ) → names_of_unit t' (r.unit u) (map (entry_as r) es) s ≡ option_map (entry_as r) (names_of_unit t u es s)
  names_moved t t' l u es s = (let a = l u (Written u s) in let b = entry_moved es s in λ j. own_entry (r.unit u) s (a j) (b j)) ∙ own_moved u s (defined_in t u (Written u s)) (entry_at es s)

  module _ (v : ℕ) (find find' : List ℕ → Option Entry) (same : (s : List ℕ) → find' s ≡ option_map (entry_as r) (find s)) where
    exported_moved : (x : ExportSpec) (e : Entry) → exported (export_as r v x) (entry_as r e) ≡ entry_as r (exported x e)
    exported_moved x e = ap (λ os. record { name = x.outer.name; meaning = meaning r e.meaning; origins = os }) (cond_map (map (origin_as r)) (place_origin x.outer.occ) e.origins refl (origin_moved x.outer.occ) refl)

    one_moved : (seen : List (List ℕ)) (x : ExportSpec) (o : Option Entry) (rest : Exported) → export_one seen (export_as r v x) (option_map (entry_as r) o) (exported_as r v rest) ≡ exported_as r v (export_one seen x o rest)
    one_moved seen x None rest = refl
    one_moved seen x (Some e) rest = go (has_name seen x.outer.name)
      where
        go : (b : Bool) → cond b (record { entries = map (entry_as r) rest.entries; faults = export_fault_as r v (SameExport x) ∷ map (export_fault_as r v) rest.faults }) (record { entries = exported (export_as r v x) (entry_as r e) ∷ map (entry_as r) rest.entries; faults = map (export_fault_as r v) rest.faults })
            ≡ exported_as r v (cond b (record { entries = rest.entries; faults = SameExport x ∷ rest.faults }) (record { entries = exported x e ∷ rest.entries; faults = rest.faults }))
        go true = refl
        go false = ap (λ y. record { entries = y ∷ map (entry_as r) rest.entries; faults = map (export_fault_as r v) rest.faults }) (exported_moved x e)

    -- the exports of a unit, and their faults
    pub exports_moved : (seen : List (List ℕ)) (xs : List ExportSpec) → export_all find' seen (map (export_as r v) xs) ≡ exported_as r v (export_all find seen xs)
    exports_moved seen [] = refl
    exports_moved seen (x ∷ xs) = (let a = same x.inner.name in let b = exports_moved (x.outer.name ∷ seen) xs in λ j. export_one seen (export_as r v x) (a j) (b j)) ∙ one_moved seen x (find x.inner.name) (export_all find (x.outer.name ∷ seen) xs)
