-- What can be done after each call of the cycle of cores that was made: it was given something that stands, and turns enough.
use Rattle.std.proofs.Common.{ℕ, ◌+◌, ◌*◌, ◌^◌, ◌≤◌, List, Result, Ok, Vec, arith}
use Rattle.std.specs.declared.alloc.Global.{Global}
use Rattle.scheme_model.specs.Trees.{Tree, Trees}
use Rattle.scheme_model.specs.Ident.{Ident as Identifier}
use Rattle.scheme_model.specs.Measures.{trees_size}
use Rattle.scheme_model.specs.Shapes.{Clause}
use Rattle.scheme_model.specs.Order.{Item}
use Rattle.scheme_model.specs.Expression.{whole, expand, procedure, lambda, item_part}
use Rattle.scheme_model.specs.ScopedExpansion.{Frames}
use Rattle.syntax_tree.specs.Looks.{PartsStand}
use Rattle.syntax_tree.specs.Works.{StandsFor}
use Rattle.syntax_tree.specs.declared.trees.Work.{Work}
use Rattle.syntax_tree.specs.declared.trees.nodes.Tree as number
use Rattle.syntax_tree.specs.declared.trees.table.Region.{Region}
use Rattle.core_forms.specs.declared.shape.ClauseShape.{ClauseShape}
use Rattle.core_tree.specs.Cores.{CoreStands, PartStands}
use Rattle.core_tree.specs.declared.cores.Clause as code_clause
use Rattle.core_tree.specs.declared.cores.Core as code_core
use Rattle.core_tree.specs.declared.cores.CorePart as code_part
use Rattle.expander.specs.Bodies.{BodyFor, body_pass}
use Rattle.expander.specs.Expanded.{AreKeptAtWork, BodyAtWork, ClauseAtWork, ClauseStands, KeptAtWork}
use Rattle.unit_scopes.specs.Kept.{ClauseFor, KeptFor}
use Rattle.unit_scopes.specs.Outcomes.{IsAtWork, IsEnough, IsEnoughBelow}
use Rattle.expander.specs.declared.expressions.At as code_at
use Rattle.feature_requirements.specs.declared.fault.ExpandFault.{ExpandFault}
use Rattle.form_parts.specs.declared.items.Kept as code_kept
use Rattle.unit_scopes.specs.declared.scope.UnitScope.{UnitScope}
use Rattle.expander.proofs.AfterLaws.{IsAfter, all_known, enough_there, runs_after}
use Rattle.noted_steps.specs.Outcomes.{Runs}
use Rattle.noted_steps.specs.Noting.{noting}
use Rattle.noted_steps.specs.Kept.{CanLook}

module _ (old new : Work) (region : Region) (u v : UnitScope) (at : code_at.At) where
  -- an expression
  abbrev pub ExpandRuns : number.Tree → Result code_core.Core ExpandFault → Type 0
  ExpandRuns form result = (t : Tree Identifier) (turns : ℕ) → StandsFor old form t → IsEnough at.depth u.form.budget.uses turns →
      Runs (λ (layout : List Frames). CoreStands new v.unit v.form.number) old new region u v at.scope result (λ known fs. expand (noting known) turns at.depth at.here fs (whole t))

  pub expand_after : (form : number.Tree) (x : code_core.Core) → CanLook old u at.scope → IsAtWork old region form → ExpandRuns form (Ok x) → IsAfter old new region u v at.scope
  expand_after form x look works h =
      let turns : ℕ = (at.depth + 1) * 2 ^ 40 in
      runs_after (λ (layout : List Frames). CoreStands new v.unit v.form.number) old new region u v at.scope x (λ known fs. expand (noting known) turns at.depth at.here fs (whole works.0.0)) look
      (h works.0.0 turns works.0.1 (enough_there at.depth u.form.budget.uses))

  -- a clause
  abbrev pub ProcedureRuns : ClauseShape → Result code_clause.Clause ExpandFault → Type 0
  ProcedureRuns clause result = (c : Clause Identifier) (turns : ℕ) → ClauseFor old region clause c → IsEnough at.depth u.form.budget.uses turns →
      Runs (λ (layout : List Frames). ClauseStands new v.unit v.form.number) old new region u v at.scope result (λ known fs. procedure (expand (noting known) turns) (noting known) at.depth at.here fs c)

  pub procedure_after : (clause : ClauseShape) (x : code_clause.Clause) → CanLook old u at.scope → ClauseAtWork old region clause → ProcedureRuns clause (Ok x) → IsAfter old new region u v at.scope
  procedure_after clause x look works h =
      let turns : ℕ = (at.depth + 1) * 2 ^ 40 in
      runs_after (λ (layout : List Frames). ClauseStands new v.unit v.form.number) old new region u v at.scope x (λ known fs. procedure (expand (noting known) turns) (noting known) at.depth at.here fs works.0) look
      (h works.0 turns works.1 (enough_there at.depth u.form.budget.uses))

  -- a procedure
  abbrev pub LambdaRuns : ClauseShape → Result code_core.Core ExpandFault → Type 0
  LambdaRuns clause result = (c : Clause Identifier) (turns : ℕ) → ClauseFor old region clause c → IsEnoughBelow at.depth u.form.budget.uses turns →
      Runs (λ (layout : List Frames). CoreStands new v.unit v.form.number) old new region u v at.scope result (λ known fs. lambda (expand (noting known) turns) (noting known) at.depth at.here fs c)

  pub lambda_after : (clause : ClauseShape) (x : code_core.Core) → CanLook old u at.scope → ClauseAtWork old region clause → LambdaRuns clause (Ok x) → IsAfter old new region u v at.scope
  lambda_after clause x look works h =
      let turns : ℕ = (at.depth + 1) * 2 ^ 40 in
      runs_after (λ (layout : List Frames). CoreStands new v.unit v.form.number) old new region u v at.scope x (λ known fs. lambda (expand (noting known) turns) (noting known) at.depth at.here fs works.0) look
      (h works.0 turns works.1 (omega arith))

  -- what was set aside
  abbrev pub ItemRuns : code_kept.Kept → Result code_part.CorePart ExpandFault → Type 0
  ItemRuns kept result = (i : Item Identifier) (turns : ℕ) → KeptFor old region u.unit u.form.number kept i → IsEnough at.depth u.form.budget.uses turns →
      Runs (λ (layout : List Frames). PartStands new v.unit v.form.number) old new region u v at.scope result (λ known fs. item_part (expand (noting known) turns) (noting known) at.depth fs i)

  pub item_after : (kept : code_kept.Kept) (x : code_part.CorePart) → CanLook old u at.scope → KeptAtWork old region u kept → ItemRuns kept (Ok x) → IsAfter old new region u v at.scope
  item_after kept x look works h =
      let turns : ℕ = (at.depth + 1) * 2 ^ 40 in
      runs_after (λ (layout : List Frames). PartStands new v.unit v.form.number) old new region u v at.scope x (λ known fs. item_part (expand (noting known) turns) (noting known) at.depth fs works.0) look
      (h works.0 turns works.1 (enough_there at.depth u.form.budget.uses))

  -- the forms of a body
  abbrev pub PassRuns : List number.Tree → Result (ℕ × Vec code_kept.Kept Global) ExpandFault → Type 0
  PassRuns forms result = (ts : Trees Identifier) (turns : ℕ) → PartsStand old forms ts → trees_size ts ≤ 4194304 → 2 ^ 39 ≤ turns →
      Runs (BodyFor new region v.unit v.form.number) old new region u v at.scope result (body_pass turns at.here ts)

  -- the body's own scope, and what was set aside there
  pub record IsPassed (scope : ℕ) (aside : List code_kept.Kept) : Type 0 where
    pub after : IsAfter old new region u v scope
    pub kept : AreKeptAtWork new region v aside

  pub pass_after : (forms : List number.Tree) (scope : ℕ) (aside : Vec code_kept.Kept Global) → CanLook old u at.scope → BodyAtWork old region forms → PassRuns forms (Ok (scope, aside)) → IsPassed scope aside.items
  pass_after forms scope aside look works h =
      let k = all_known u.libraries in
      let turns : ℕ = 2 ^ 39 + at.depth in
      let ends = h works.0 turns works.1 works.3 (omega arith) k.0 look.layout look.state look.frames k.1 look.stands look.at in
      record {
        after = record { look = record { layout = ends.1.layout; state = (body_pass turns at.here works.0 k.0 look.frames look.state).1; frames = ends.0.0; stands = ends.1.stays.stands; at = ends.3.0 }; work = ends.1.stays.work; same = ends.1.stays.same };
        kept = (ends.0.1, ends.3.1);
      }
