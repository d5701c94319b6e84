-- The law for a form, for what it set aside and for the forms of a unit, by scopes and by substitution, with what is defined since.
use Rattle.std.proofs.Common.{ℕ, List, [], map, false, Result, refl}
use Rattle.scheme_model.specs.Ident.{Ident}
use Rattle.scheme_model.specs.Identifiers.{Name}
use Rattle.scheme_model.specs.Trees.{Tree}
use Rattle.scheme_model.specs.RulesShape.{option_map}
use Rattle.scheme_model.specs.Requirements.{Known}
use Rattle.scheme_model.specs.Steps.{Broken}
use Rattle.scheme_model.specs.Order.{Left, Pending, run}
use Rattle.scheme_model.specs.UnitExpansion.{unit}
use Rattle.scheme_model.specs.FormsAlike.{finish_by}
use Rattle.scheme_model.specs.Substitution.{Table, State, model}
use Rattle.scheme_model.specs.ScopedExpansion.{FramedIdent, ScopedState}
use Rattle.scheme_model.specs.CountedExpansion.{counted}
use Rattle.renumbering_laws.specs.Renumbering.{Renumbering, IsOneToOne, ident, named_as, result_as, left_as, parts_as, formed_as, numbered_as, IsRenumbered}
use Rattle.renumbering_laws.specs.States.{named_pending, named_pass, DefinedAlike, StatesMove, StatesRest, StatesGo, StatesGoRest}
use Rattle.renumbering_laws.specs.ScopedStates.{IsOnto, scoped_pending, scoped_pass, ScopedMove, ScopedRest, ScopedGo, ScopedGoRest}
use Rattle.renumbering_laws.proofs.SideLaws.{set_aside_law, finished_law, unit_law}
use Rattle.renumbering_laws.proofs.ModelSide.{model_sides_since}
use Rattle.renumbering_laws.proofs.ScopedSide.{scoped_sides_since}

-- nothing was defined since
nothing : (r : Renumbering) (t t' : Table) → DefinedAlike r t t' t t'
nothing r t t' = record { added = []; here = refl; there = refl }

-- whichever form work turns to
at_rest : {X Y S S' : Type 0} {f : X → Y} (R : ℕ → S → S' → Type 0) (D : S → S' → Type 0) {p : X × S} {q : Y × S'} → IsRenumbered f (λ s t. (form : ℕ) → R form s t × D s t) p q → IsRenumbered f (λ s t. ((form : ℕ) → R form s t) × D s t) p q
at_rest R D h = record { result = h.result; states = (λ form. (h.states form).0, (h.states 0).1) }

module _ (r : Renumbering) (o : IsOneToOne r) (w : IsOnto r) (known : Known) (u turns : ℕ) where
  pub scoped_set_aside : (p : Pending Ident FramedIdent) (s t : ScopedState) → ScopedMove r w u s t → IsRenumbered (scoped_pass r w) (ScopedGo r w u s t) (run (counted known) turns [] p s) (run (counted known) turns [] (scoped_pending r w p) t)
  scoped_set_aside p s t m = set_aside_law (scoped_sides_since r o w u known s.table t.table) [] [] refl turns p s t (m, nothing r s.table t.table)

  pub scoped_finished : (l : Result (Left Ident) Broken) (s t : ScopedState) → ScopedMove r w u s t → IsRenumbered (result_as r (parts_as r)) (ScopedGo r w u s t) (finish_by (counted known) turns [] l s) (finish_by (counted known) turns [] (result_as r (left_as r (ident r)) l) t)
  scoped_finished l s t m = finished_law (scoped_sides_since r o w u known s.table t.table) [] [] refl turns l s t (m, nothing r s.table t.table)

  pub scoped_unit : (ts : List (ℕ × Tree Ident)) (s t : ScopedState) → ScopedRest r w u s t → IsRenumbered (option_map (map (formed_as r u))) (ScopedGoRest r w u s t) (unit (counted known) turns [] ts s) (unit (counted known) turns [] (map (numbered_as r u (ident r)) ts) t)
  scoped_unit ts s t m =
      at_rest (λ f x y. ScopedMove r w u (record x { form = f }) (record y { form = r.form u f })) (λ x y. DefinedAlike r s.table t.table x.table y.table)
      (unit_law (scoped_sides_since r o w u known s.table t.table) [] [] refl turns ts s t (λ f. (m f, nothing r s.table t.table)))

module _ (r : Renumbering) (o : IsOneToOne r) (known : Known) (u turns : ℕ) where
  pub named_set_aside : (p : Pending Name Name) (s t : State) → StatesMove r u s t → IsRenumbered (named_pass r) (StatesGo r u s t) (run (model known) turns tt p s) (run (model known) turns tt (named_pending r p) t)
  named_set_aside p s t m = set_aside_law (model_sides_since r o u known s.table t.table) tt tt tt turns p s t (m, nothing r s.table t.table)

  pub named_finished : (l : Result (Left Name) Broken) (s t : State) → StatesMove r u s t → IsRenumbered (result_as r (parts_as r)) (StatesGo r u s t) (finish_by (model known) turns tt l s) (finish_by (model known) turns tt (result_as r (left_as r (named_as r)) l) t)
  named_finished l s t m = finished_law (model_sides_since r o u known s.table t.table) tt tt tt turns l s t (m, nothing r s.table t.table)

  pub named_unit : (ts : List (ℕ × Tree Name)) (s t : State) → StatesRest r u s t → IsRenumbered (option_map (map (formed_as r u))) (StatesGoRest r u s t) (unit (model known) turns tt ts s) (unit (model known) turns tt (map (numbered_as r u (named_as r)) ts) t)
  named_unit ts s t m =
      at_rest (λ f x y. StatesMove r u (record x { form = f; in_body = false }) (record y { form = r.form u f; in_body = false })) (λ x y. DefinedAlike r s.table t.table x.table y.table)
      (unit_law (model_sides_since r o u known s.table t.table) tt tt tt turns ts s t (λ f. (m f, nothing r s.table t.table)))
