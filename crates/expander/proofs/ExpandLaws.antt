-- An expression that was settled and read is expanded: its fault, its core, a call, or a core form by its shape.
use Rattle.std.proofs.Common.{◌≡◌, ℕ, ◌+◌, ◌*◌, ◌^◌, List, Option, Some, Result, Ok, Err, Vec, subst}
use Rattle.std.specs.declared.alloc.Global.{Global}
use Rattle.scheme_model.specs.declared.Occ.{Occ}
use Rattle.scheme_model.specs.Trees.{Tree, Trees}
use Rattle.scheme_model.specs.Ident.{Ident as Identifier}
use Rattle.scheme_model.specs.Keywords.{CoreKeyword}
use Rattle.scheme_model.specs.Requirements.{Known}
use Rattle.scheme_model.specs.Cores.{Core, Call, Cores}
use Rattle.scheme_model.specs.Steps.{Broken, Step, ◌>>=◌, done}
use Rattle.scheme_model.specs.Expression.{whole, expand, node, each, each_of}
use Rattle.scheme_model.specs.ScopedExpansion.{Frames}
use Rattle.syntax_tree.specs.Looks.{PartsStand}
use Rattle.syntax_tree.specs.Works.{StandsFor, CanName}
use Rattle.syntax_tree.specs.declared.trees.Work.{Work}
use Rattle.syntax_tree.specs.declared.trees.nodes.Tree as number
use Rattle.syntax_tree.specs.declared.trees.table.Region.{Region}
use Rattle.core_forms.specs.Ends.{keyword_as, ShapeFor}
use Rattle.core_forms.specs.Forms.{Shape}
use Rattle.core_forms.specs.declared.shape.CoreKeyword as code_keyword
use Rattle.core_forms.specs.declared.shape.CoreShape as code_shape
use Rattle.core_tree.specs.Cores.{CoreStands, CoresStand}
use Rattle.core_tree.specs.declared.cores.Core as code_core
use Rattle.expander.specs.CoreSteps.{core_step, IsLeft}
use Rattle.expander.specs.Expanded.{AreAtWork, ShapeAtWork}
use Rattle.feature_requirements.specs.Judged.{Knows}
use Rattle.unit_scopes.specs.Outcomes.{At, IsAtWork, WorksOn, IsEnough, IsEnoughBelow}
use Rattle.expander.specs.Passed.{ShapeFits}
use Rattle.expander.specs.Ready.{Prepares, BeginsBelow}
use Rattle.expander.specs.declared.expressions.At as code_at
use Rattle.expander.specs.declared.expressions.Ready as code_ready
use Rattle.expander.specs.declared.expressions.Ready.TheVariants as ready
use Rattle.feature_requirements.specs.declared.fault.ExpandFault.{ExpandFault}
use Rattle.unit_scopes.specs.declared.scope.UnitScope.{UnitScope}
use Rattle.expander.proofs.AfterLaws.{IsAfter, all_known, enough_there, runs_after}
use Rattle.expander.proofs.LoopLaws.{knows_on}
use Rattle.expander.proofs.PrepareLaws.{prepared_fails, prepared_core, prepared_call, prepared_shape, prepares_after}
use Rattle.expander.proofs.RowLaws.{each_list, trees_in}
use Rattle.expander.proofs.StepLaws.{node_runs, node_stops, runs_same}
use Rattle.noted_steps.specs.Noting.{Noting, noting}
use Rattle.noted_steps.specs.Outcomes.{Runs}
use Rattle.noted_steps.specs.Standing.{Stands}
use Rattle.noted_steps.specs.Kept.{CanLook}

-- ---- what was read

module _ (old mid : Work) (region : Region) (u w : UnitScope) (at : code_at.At) (form : number.Tree) where
  abbrev pub ReadyRuns : Result (Option Occ × code_ready.Ready) ExpandFault → Type 0
  ReadyRuns result = (known : Known) (turns : ℕ) (ls : List Frames) (s : Noting) (fs : Frames) (t : Tree Identifier) → Knows u.libraries known → Stands old u ls s → At ls at.scope fs →
      WorksOn old region form t → IsEnough at.depth u.form.budget.uses turns → Prepares known at.depth old mid region u w ls fs result (expand (noting known) turns at.depth at.here fs (whole t) s)

  read_as : (here : Option Occ) (r q : code_ready.Ready) → r ≡ q → ReadyRuns (Ok (here, r)) → ReadyRuns (Ok (here, q))
  read_as here r q is h = subst (λ (x : code_ready.Ready). ReadyRuns (Ok (here, x))) is h

  module _ (look : CanLook old u at.scope) (works : IsAtWork old region form) where
    abbrev known_here : Known
    known_here = (all_known u.libraries).0

    abbrev some_step : Result Core Broken × Noting
    some_step = expand (noting known_here) ((at.depth + 1) * 2 ^ 40) at.depth at.here look.frames (whole works.0.0) look.state

    prepared : (result : Result (Option Occ × code_ready.Ready) ExpandFault) → ReadyRuns result → Prepares known_here at.depth old mid region u w look.layout look.frames result some_step
    prepared result h =
        h known_here ((at.depth + 1) * 2 ^ 40) look.layout look.state look.frames works.0.0 (all_known u.libraries).1 look.stands look.at (works.0.1, works.1) (enough_there at.depth u.form.budget.uses)

    pub ready_after : (x : Option Occ × code_ready.Ready) → ReadyRuns (Ok x) → IsAfter old mid region u w at.scope
    ready_after x h = prepares_after known_here at.depth old mid region u w at.scope look.layout look.frames x some_step look.at (prepared (Ok x) h)

    pub ready_parts : (here : Option Occ) (r : code_ready.Ready) (parts : Vec number.Tree Global) → r ≡ ready.Call parts → ReadyRuns (Ok (here, r)) → AreAtWork mid region parts.items
    ready_parts here r parts is h = let q = prepared (Ok (here, ready.Call parts)) (read_as here r (ready.Call parts) is h) in (q.6.0, q.6.1, q.6.2)

    pub ready_keyword : (here : Option Occ) (r : code_ready.Ready) (k : code_keyword.CoreKeyword) (shape : code_shape.CoreShape) → r ≡ ready.Shape k shape → ReadyRuns (Ok (here, r)) → (c : CoreKeyword) × (keyword_as k ≡ Some c)
    ready_keyword here r k shape is h = let q = prepared (Ok (here, ready.Shape k shape)) (read_as here r (ready.Shape k shape) is h) in (q.6.0, q.6.2)

    pub ready_shape : (here : Option Occ) (r : code_ready.Ready) (k : code_keyword.CoreKeyword) (shape : code_shape.CoreShape) → r ≡ ready.Shape k shape → ReadyRuns (Ok (here, r)) → ShapeAtWork mid region shape
    ready_shape here r k shape is h = let q = prepared (Ok (here, ready.Shape k shape)) (read_as here r (ready.Shape k shape) is h) in (q.6.1, q.6.3, q.6.4, q.6.5.0, q.6.5.1)

  -- ---- what becomes of it

  module _ (named : CanName old region form) (t : Tree Identifier) (turns : ℕ) (stands : StandsFor old form t) (enough : IsEnough at.depth u.form.budget.uses turns) where
    abbrev step : Known → Frames → Step Noting Core
    step known fs = expand (noting known) turns at.depth at.here fs (whole t)

    pub expand_fails : {V : Type 0} (Q : List Frames → V → Core → Type 0) (x : ExpandFault) → ReadyRuns (Err x) → Runs Q old mid region u w at.scope (Err x) step
    expand_fails Q x h = λ known ls s fs knows e there.
        prepared_fails known at.depth old mid region u w ls fs at.here (step known fs s) Q x (h known turns ls s fs t knows e there (stands, named) enough)

    pub expand_core : (here : Option Occ) (r : code_ready.Ready) (c : code_core.Core) → r ≡ ready.Core c → ReadyRuns (Ok (here, r)) → Runs (λ layout. CoreStands mid w.unit w.form.number) old mid region u w at.scope (Ok c) step
    expand_core here r c is h = λ known ls s fs knows e there.
        prepared_core known at.depth old mid region u w ls fs here (step known fs s) c (read_as here r (ready.Core c) is h known turns ls s fs t knows e there (stands, named) enough)

    module _ {V : Type 0} (Q : List Frames → V → Core → Type 0) (new : Work) (v : UnitScope) (here : Option Occ) (placed : code_at.At) (is : placed ≡ record at { here = here }) (result : Result V ExpandFault) where
      -- the call goes on where the expression was read
      abbrev CallRuns : Vec number.Tree Global → code_at.At → Type 0
      CallRuns parts a = (left : ℕ) (ts : Trees Identifier) → PartsStand mid parts.items ts → IsEnoughBelow a.depth w.form.budget.uses left →
          Runs Q mid new region w v a.scope result (λ known fs. node (noting known) a.here 1 a.depth (λ below t1. each (λ x. expand (noting known) left below a.here fs (whole x)) ts t1 >>= λ cs. done (Call cs)))

      pub expand_call : (r : code_ready.Ready) (parts : Vec number.Tree Global) → r ≡ ready.Call parts → ReadyRuns (Ok (here, r)) → CallRuns parts placed → Runs Q old new region u v at.scope result step
      expand_call r parts read h next = λ known ls s fs knows e there.
          let q = read_as here r (ready.Call parts) read h known turns ls s fs t knows e there (stands, named) enough in
          let goes = subst (CallRuns parts) is next in
          prepared_call known at.depth old mid region u w ls fs here (step known fs s) Q new v parts result q
          (λ left ts t1 later less parts1 named1. goes left ts parts1 less known ls t1 fs (knows_on known u w q.3.same knows) later there)

      abbrev ShapeRuns : code_keyword.CoreKeyword → code_shape.CoreShape → code_at.At → Type 0
      ShapeRuns k shape a = (c : CoreKeyword) (m : Shape) (left : ℕ) → keyword_as k ≡ Some c → ShapeFor mid shape m → ShapeFits m → IsLeft m → IsEnoughBelow a.depth w.form.budget.uses left →
          Runs Q mid new region w v a.scope result (λ known fs. core_step (expand (noting known) left) (noting known) a.depth a.here fs c m)

      pub expand_form : (r : code_ready.Ready) (k : code_keyword.CoreKeyword) (shape : code_shape.CoreShape) → r ≡ ready.Shape k shape → ReadyRuns (Ok (here, r)) → ShapeRuns k shape placed → Runs Q old new region u v at.scope result step
      expand_form r k shape read h next = λ known ls s fs knows e there.
          let q = read_as here r (ready.Shape k shape) read h known turns ls s fs t knows e there (stands, named) enough in
          let goes = subst (ShapeRuns k shape) is next in
          prepared_shape known at.depth old mid region u w ls fs here (step known fs s) Q new v k shape result q
          (λ left c m t1 later less keyword for fits is_left. goes c m left keyword for fits is_left less known ls t1 fs (knows_on known u w q.3.same knows) later there)

-- ---- a node of which the parts are expanded from left to right

module _ (mid new : Work) (region : Region) (w v0 v : UnitScope) (at below : code_at.At) (n left : ℕ) (h : BeginsBelow w v0 at n (Ok below)) (ts : List (Tree Identifier)) where
  abbrev pub EachRuns : Result (Vec code_core.Core Global) ExpandFault → Type 0
  EachRuns result = Runs (λ (layout : List Frames) (cs : Vec code_core.Core Global). CoresStand new v.unit v.form.number cs.items) mid new region v0 v below.scope result (λ known fs. each_of (λ t. expand (noting known) left below.depth below.here fs (whole t)) ts)

  pub each_node : (xs : Vec code_core.Core Global) (z : code_core.Core) (k : Cores → Core) → ((ms : Cores) → CoresStand new v.unit v.form.number xs.items ms → CoreStands new v.unit v.form.number z (k ms)) → EachRuns (Ok xs) →
      Runs (λ layout. CoreStands new v.unit v.form.number) mid new region w v at.scope (Ok z) (λ known fs. node (noting known) at.here n at.depth (λ d t. each_of (λ x. expand (noting known) left d at.here fs (whole x)) ts t >>= λ cs. done (k cs)))
  each_node xs z k on runs =
      node_runs mid new region w v0 v at below n h (λ (layout : List Frames) (cs : Vec code_core.Core Global). CoresStand new v.unit v.form.number cs.items) (λ (layout : List Frames). CoreStands new v.unit v.form.number)
      (λ known fs d o. each_of (λ t. expand (noting known) left d o fs (whole t)) ts) xs z (λ known fs t. k) (λ known ls s fs layout y e there held. on y held) runs

  pub each_node_fails : {V : Type 0} (Q : List Frames → V → Core → Type 0) (x : ExpandFault) (k : Cores → Core) → EachRuns (Err x) →
      Runs Q mid new region w v at.scope (Err x) (λ known fs. node (noting known) at.here n at.depth (λ d t. each_of (λ x. expand (noting known) left d at.here fs (whole x)) ts t >>= λ cs. done (k cs)))
  each_node_fails Q x k runs =
      node_stops mid new region w v0 v at below n h (λ (layout : List Frames) (cs : Vec code_core.Core Global). CoresStand new v.unit v.form.number cs.items) Q
      (λ known fs d o. each_of (λ t. expand (noting known) left d o fs (whole t)) ts) x (λ known fs t cs. done (k cs)) runs

-- the same of trees in a row
pub each_told : (known : Known) (here : Option Occ) (n left depth : ℕ) (fs : Frames) (ts : Trees Identifier) (k : Cores → Core) (s : Noting) →
    node (noting known) here n depth (λ d t. each (λ x. expand (noting known) left d here fs (whole x)) ts t >>= λ cs. done (k cs)) s
    ≡ node (noting known) here n depth (λ d t. each_of (λ x. expand (noting known) left d here fs (whole x)) (trees_in ts) t >>= λ cs. done (k cs)) s
each_told known here n left depth fs ts k s =
    λ j. node (noting known) here n depth (λ d t. each_list (λ x. expand (noting known) left d here fs (whole x)) ts t j >>= λ cs. done (k cs)) s

module _ (mid new : Work) (region : Region) (w v0 v : UnitScope) (at below : code_at.At) (n left : ℕ) (h : BeginsBelow w v0 at n (Ok below)) (ts : Trees Identifier) where
  pub trees_node : (xs : Vec code_core.Core Global) (z : code_core.Core) (k : Cores → Core) → ((ms : Cores) → CoresStand new v.unit v.form.number xs.items ms → CoreStands new v.unit v.form.number z (k ms)) → EachRuns mid new region w v0 v at below n left h (trees_in ts) (Ok xs) →
      Runs (λ layout. CoreStands new v.unit v.form.number) mid new region w v at.scope (Ok z) (λ known fs. node (noting known) at.here n at.depth (λ d t. each (λ x. expand (noting known) left d at.here fs (whole x)) ts t >>= λ cs. done (k cs)))
  trees_node xs z k on runs =
      runs_same (λ (layout : List Frames). CoreStands new v.unit v.form.number) mid new region w v at.scope (Ok z)
      (λ known fs. node (noting known) at.here n at.depth (λ d t. each (λ x. expand (noting known) left d at.here fs (whole x)) ts t >>= λ cs. done (k cs)))
      (λ known fs. node (noting known) at.here n at.depth (λ d t. each_of (λ x. expand (noting known) left d at.here fs (whole x)) (trees_in ts) t >>= λ cs. done (k cs)))
      (λ known fs s. each_told known at.here n left at.depth fs ts k s) (each_node mid new region w v0 v at below n left h (trees_in ts) xs z k on runs)

  pub trees_node_fails : {V : Type 0} (Q : List Frames → V → Core → Type 0) (x : ExpandFault) (k : Cores → Core) → EachRuns mid new region w v0 v at below n left h (trees_in ts) (Err x) →
      Runs Q mid new region w v at.scope (Err x) (λ known fs. node (noting known) at.here n at.depth (λ d t. each (λ x. expand (noting known) left d at.here fs (whole x)) ts t >>= λ cs. done (k cs)))
  trees_node_fails Q x k runs =
      runs_same Q mid new region w v at.scope (Err x)
      (λ known fs. node (noting known) at.here n at.depth (λ d t. each (λ x. expand (noting known) left d at.here fs (whole x)) ts t >>= λ cs. done (k cs)))
      (λ known fs. node (noting known) at.here n at.depth (λ d t. each_of (λ x. expand (noting known) left d at.here fs (whole x)) (trees_in ts) t >>= λ cs. done (k cs)))
      (λ known fs s. each_told known at.here n left at.depth fs ts k s) (each_node_fails mid new region w v0 v at below n left h (trees_in ts) Q x k runs)

-- what can be done after the parts were expanded
pub each_after : (old new : Work) (region : Region) (u v : UnitScope) (at : code_at.At) (es : List (Tree Identifier)) (xs : Vec code_core.Core Global) → CanLook old u at.scope →
    ((turns : ℕ) → IsEnough at.depth u.form.budget.uses turns → Runs (λ (layout : List Frames) (cs : Vec code_core.Core Global). CoresStand new v.unit v.form.number cs.items) old new region u v at.scope (Ok xs) (λ known fs. each_of (λ t. expand (noting known) turns at.depth at.here fs (whole t)) es)) →
    IsAfter old new region u v at.scope
each_after old new region u v at es xs look runs =
    let turns : ℕ = (at.depth + 1) * 2 ^ 40 in
    runs_after (λ (layout : List Frames) (cs : Vec code_core.Core Global). CoresStand new v.unit v.form.number cs.items) old new region u v at.scope xs (λ known fs. each_of (λ t. expand (noting known) turns at.depth at.here fs (whole t)) es) look (runs turns (enough_there at.depth u.form.budget.uses))
