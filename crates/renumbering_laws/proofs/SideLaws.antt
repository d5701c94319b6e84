-- The law of two sides, for a form that is gone through, for what it set aside, and for the forms of a unit.
use Rattle.std.proofs.Common.{ℕ, List, map, Option, Result, Ok, Err, refl}
use Rattle.scheme_model.specs.Trees.{Tree}
use Rattle.scheme_model.specs.RulesShape.{option_map}
use Rattle.scheme_model.specs.Steps.{Broken}
use Rattle.scheme_model.specs.Order.{Left, Pending, Pass, run}
use Rattle.scheme_model.specs.Expression.{expand}
use Rattle.scheme_model.specs.UnitExpansion.{max_depth, unit}
use Rattle.scheme_model.specs.FormsAlike.{finish_by}
use Rattle.renumbering_laws.specs.Renumbering.{parts_as, result_as, left_as, pending_as, pass_as, formed_as, numbered_as, IsRenumbered}
use Rattle.renumbering_laws.proofs.Sides.{Sides}
use Rattle.renumbering_laws.proofs.SideSteps.{Goes, goes}
use Rattle.renumbering_laws.proofs.SideUses.{all_met}
use Rattle.renumbering_laws.proofs.SideForms.{Ran, ran}
use Rattle.renumbering_laws.proofs.SideRuns.{run_goes}
use Rattle.renumbering_laws.proofs.SideExpressions.{parts_goes, expand_goes}
use Rattle.renumbering_laws.proofs.SideUnits.{Idle, Works, works, unit_goes}

module _ (h : Sides) where
  from_ran : {q : Pass h.A h.L × h.S} {q' : Pass h.A' h.L' × h.S'} → Ran h q q' → IsRenumbered (pass_as h.r h.on h.look) h.state q q'
  from_ran (ran e m) = record { result = e; states = m }

  from_goes : {V W : Type 0} {g : V → W} {q : Result V Broken × h.S} {q' : Result W Broken × h.S'} → Goes h g q q' → IsRenumbered (result_as h.r g) h.state q q'
  from_goes (goes e m) = record { result = e; states = m }

  from_works : {V W : Type 0} {R : h.S → h.S' → Type 0} {g : V → W} {q : Option V × h.S} {q' : Option W × h.S'} → Works h R g q q' → IsRenumbered (option_map g) R q q'
  from_works (works e m) = record { result = e; states = m }

  module _ (e : h.E) (e' : h.E') (k : h.around e e') (turns : ℕ) where
    pub set_aside_law : (p : Pending h.A h.L) (s : h.S) (s' : h.S') → h.state s s' → IsRenumbered (pass_as h.r h.on h.look) h.state (run h.one turns e p s) (run h.two turns e' (pending_as h.r h.on h.look p) s')
    set_aside_law p s s' l = from_ran (run_goes h turns e e' k p s s' l)

    pub finished_law : (x : Result (Left h.A) Broken) (s : h.S) (s' : h.S') → h.state s s' → IsRenumbered (result_as h.r (parts_as h.r)) h.state (finish_by h.one turns e x s) (finish_by h.two turns e' (result_as h.r (left_as h.r h.on) x) s')
    finished_law (Ok x) s s' l =
        let both = expand_goes h turns in
        from_goes (parts_goes h (expand h.one turns) (expand h.two turns) both.0 both.1 max_depth e e' k x.items _ _ (all_met h e e' k x.uses s s' l))
    finished_law (Err b) s s' l = record { result = refl; states = l }

    pub unit_law : (ts : List (ℕ × Tree h.A)) (s : h.S) (s' : h.S') → Idle h s s' → IsRenumbered (option_map (map (formed_as h.r h.unit))) (Idle h) (unit h.one turns e ts s) (unit h.two turns e' (map (numbered_as h.r h.unit h.on) ts) s')
    unit_law ts s s' l = from_works (unit_goes h e e' k turns ts s s' l)
