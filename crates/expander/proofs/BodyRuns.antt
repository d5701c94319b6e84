-- A body is gone through and then expanded; procedures and local macros, in whose scope one stands.
use Rattle.std.proofs.Common.{◌≡◌, ℕ, zero, suc, ◌+◌, ◌*◌, ◌^◌, ◌<◌, ◌≤◌, List, [], ◌∷◌, ◌++◌, length, Option, Result, Ok, Err, Vec, refl, sym, ap, subst, arith}
use Rattle.std.proofs.lemmas.Option.{slice_get_within}
use Rattle.std.specs.declared.alloc.Global.{Global}
use Rattle.scheme_model.specs.declared.Occ.{Occ}
use Rattle.scheme_model.specs.Trees.{Trees, no_trees, tree}
use Rattle.scheme_model.specs.Ident.{Ident as Identifier}
use Rattle.scheme_model.specs.ExpansionFaults.{Named}
use Rattle.scheme_model.specs.Requirements.{Known}
use Rattle.scheme_model.specs.Cores.{Core, Body, Parts}
use Rattle.scheme_model.specs.Steps.{Broken, Step, ◌>>=◌, done}
use Rattle.scheme_model.specs.Order.{Item}
use Rattle.scheme_model.specs.Expression.{body, expand, parts, item_part, body_in}
use Rattle.scheme_model.specs.ScopedExpansion.{Frames}
use Rattle.syntax_tree.specs.Names.{AreToldApart}
use Rattle.syntax_tree.specs.Looks.{PartsStand}
use Rattle.syntax_tree.specs.declared.trees.Work.{Work}
use Rattle.syntax_tree.specs.declared.trees.nodes.Tree as number
use Rattle.syntax_tree.specs.declared.trees.table.Region.{Region}
use Rattle.syntax_tree.proofs.WorkLaws.{stands_once}
use Rattle.scope_env.specs.Environment.{IsSound}
use Rattle.core_forms.specs.Parts.{AllMatch as AllParts, IsName}
use Rattle.core_forms.specs.declared.shape.NamePart.{NamePart}
use Rattle.core_tree.specs.Names.{AllMatch}
use Rattle.core_tree.specs.Cores.{CoreStands, PartsStand as PartsOfCores}
use Rattle.core_tree.specs.declared.cores.Binder as code_binder
use Rattle.core_tree.specs.declared.cores.Core as code_core
use Rattle.core_tree.specs.declared.cores.Core.TheVariants as cores
use Rattle.core_tree.specs.declared.cores.CorePart as code_part
use Rattle.unit_scopes.specs.Binds.{Binds}
use Rattle.expander.specs.Bodies.{BodyFor, body_pass}
use Rattle.feature_requirements.specs.Judged.{Knows}
use Rattle.unit_scopes.specs.Kept.{KeptFor}
use Rattle.unit_scopes.specs.Outcomes.{At, IsEnough, HasRoom, Spends}
use Rattle.expander.specs.Ready.{BeginsBelow}
use Rattle.unit_scopes.specs.State.{most_locals}
use Rattle.unit_scopes.specs.Stepped.{bound_frames}
use Rattle.expander.specs.declared.expressions.At as code_at
use Rattle.feature_requirements.specs.declared.fault.ExpandFault.{ExpandFault}
use Rattle.feature_requirements.specs.declared.fault.ExpandFault.TheVariants as fault
use Rattle.form_parts.specs.declared.items.Kept as code_kept
use Rattle.unit_scopes.specs.declared.scope.UnitScope.{UnitScope}
use Rattle.expander.proofs.AfterLaws.{IsAfter}
use Rattle.expander.proofs.BelowLaws.{below_at, below_knows, node_below}
use Rattle.noted_steps.proofs.BindersStand.{binders_stand, BindersStand}
use Rattle.expander.proofs.CoreLaws.{binds_moves, body_is, inner_at}
use Rattle.expander.proofs.LoopLaws.{knows_on}
use Rattle.unit_scopes.proofs.OutcomeLaws.{leaves_itself}
use Rattle.expander.proofs.RowLaws.{ends_mapped}
use Rattle.expander.proofs.StepLaws.{node_none}
use Rattle.noted_steps.specs.Noting.{Noting, next_number, noting}
use Rattle.noted_steps.specs.Outcomes.{Ends, Runs}
use Rattle.noted_steps.specs.Standing.{Stands}
use Rattle.noted_steps.specs.Stepped.{spent, taken, entered, entered_frames}
use Rattle.noted_steps.proofs.NodeLaws.{ends_then}
use Rattle.noted_steps.proofs.OutcomeLaws.{ends_fails}
use Rattle.noted_steps.specs.Kept.{CanLook}

-- ---- trees stand for the same

pub parts_once : (work : Work) (ns : List number.Tree) (ts us : Trees Identifier) → PartsStand work ns ts → PartsStand work ns us → ts ≡ us
parts_once work [] no_trees no_trees h g = refl
parts_once work [] no_trees (tree u us) h g = absurd g
parts_once work [] (tree t ts) us h g = absurd h
parts_once work (n ∷ ns) no_trees us h g = absurd h
parts_once work (n ∷ ns) (tree t ts) no_trees h g = absurd g
parts_once work (n ∷ ns) (tree t ts) (tree u us) h g = (λ j. tree (stands_once work n t u h.0 g.0 j) (parts_once work ns ts us h.1 g.1 j))

-- ---- names that were bound: the newest scope is theirs

module _ (work : Work) (region : Region) (u w : UnitScope) (scope : ℕ) (xs : List NamePart) (ns : List (Named Identifier)) (inner : ℕ) (bs : List code_binder.Binder)
    (apart : AreToldApart work.symbols.idents) (sound : IsSound u.env) (names : AllParts (IsName work) xs ns) (room : u.form.budget.locals + length xs ≤ most_locals u.form.budget.nodes) (h : Binds u w scope xs inner bs) where
  module _ (ls : List Frames) (s : Noting) (fs : Frames) (e : Stands work u ls s) (at : At ls scope fs) where
    pub binds_stand : BindersStand work w ls s fs ns inner bs
    binds_stand = binders_stand work u w ls s scope fs xs ns inner bs apart sound names room at e h

    pub binds_inner : At (ls ++ bound_frames (next_number s s.locals) ns fs ∷ []) inner (bound_frames (next_number s s.locals) ns fs)
    binds_inner = inner_at work region u w ls s scope fs xs ns inner bs binds_stand

  pub binds_after : CanLook work u scope → IsAfter work work region u w inner
  binds_after l =
      let m = binds_moves work region u w l.layout l.state scope l.frames xs ns inner bs (binds_stand l.layout l.state l.frames l.stands l.at) h in
      record {
        look = record {
          layout = l.layout ++ bound_frames (next_number l.state l.state.locals) ns l.frames ∷ [];
          state = taken (length ns) l.state;
          frames = bound_frames (next_number l.state l.state.locals) ns l.frames;
          stands = (binds_stand l.layout l.state l.frames l.stands l.at).stands;
          at = binds_inner l.layout l.state l.frames l.stands l.at;
        };
        work = m.stays.work;
        same = m.stays.same;
      }

-- ---- a body

module _ (old mid new : Work) (region : Region) (u w1 w v : UnitScope) (at below : code_at.At) (turns : ℕ) (ts : Trees Identifier) (h : BeginsBelow u w1 at 1 (Ok below)) where
  abbrev goes_through : Known → Frames → Step Noting (Frames × List (Item Identifier))
  goes_through = body_pass turns below.here ts

  abbrev set_aside : Known → Frames × List (Item Identifier) → Step Noting Parts
  set_aside known m = parts (item_part (expand (noting known) turns) (noting known) below.depth m.0) m.1

  abbrev whole_body : Known → Frames → ℕ → Option Occ → Step Noting Core
  whole_body known fs d o t = body_in (noting known) turns (item_part (expand (noting known) turns) (noting known) d) o (record { env = entered_frames t fs; trees = ts; state = entered t })

  abbrev PartsFor : List Frames → Vec code_part.CorePart Global → Parts → Type 0
  PartsFor ls ps ms = PartsOfCores new v.unit v.form.number ps.items ms

  abbrev BodyStands : List Frames → code_core.Core → Core → Type 0
  BodyStands ls = CoreStands new v.unit v.form.number

  -- the steps of a body from where its node began
  from_below : {V : Type 0} (Q : List Frames → V → Core → Type 0) (result : Result V ExpandFault) (known : Known) (ls : List Frames) (s : Noting) (fs : Frames) → Stands old u ls s →
      (Stands old w1 ls (spent 1 s) → Ends Q old new region w1 v ls result ((goes_through known fs (spent 1 s) >>= set_aside known) >>= λ ps. done (Body ps))) →
      Ends Q old new region u v ls result (expand (noting known) (suc turns) at.depth at.here fs (body ts) s)
  from_below Q result known ls s fs e next =
      node_below known old new region u w1 v ls s at below 1 e h Q (whole_body known fs) result
      (λ stands. subst (λ (p : Result Core Broken × Noting). Ends Q old new region w1 v ls result p) (sym (body_is known turns below.depth below.here fs ts (spent 1 s) below.depth)) (next stands))

  module _ (scope : ℕ) (aside : Vec code_kept.Kept Global) (passed : Runs (BodyFor mid region w.unit w.form.number) old mid region w1 w below.scope (Ok (scope, aside)) goes_through) where
    abbrev KeptRuns : Result (Vec code_part.CorePart Global) ExpandFault → Type 0
    KeptRuns result = (is : List (Item Identifier)) → AllMatch (KeptFor mid region w.unit w.form.number) aside.items is →
        Runs PartsFor mid new region w v scope result (λ known fs. parts (item_part (expand (noting known) turns) (noting known) below.depth fs) is)

    then_kept : (result : Result (Vec code_part.CorePart Global) ExpandFault) → KeptRuns result → (known : Known) (ls : List Frames) (s : Noting) (fs : Frames) → Knows u.libraries known → At ls at.scope fs → Stands old w1 ls (spent 1 s) →
        Ends PartsFor old new region w1 v ls result (goes_through known fs (spent 1 s) >>= set_aside known)
    then_kept result kept known ls s fs knows there now =
        let first = passed known ls (spent 1 s) fs (below_knows u w1 at below 1 h known knows) now (below_at u w1 at below 1 h ls fs there) in
        ends_then (BodyFor mid region w.unit w.form.number) PartsFor old mid new region w1 w v ls (scope, aside) result (goes_through known fs (spent 1 s)) (set_aside known) first
        (λ y m held. kept y.1 held.1 known m.layout (goes_through known fs (spent 1 s)).1 y.0 (knows_on known w1 w m.stays.same (below_knows u w1 at below 1 h known knows)) m.stays.stands held.0)

    pub body_runs : (ps : Vec code_part.CorePart Global) → KeptRuns (Ok ps) → Runs BodyStands old new region u v at.scope (Ok (cores.Body ps)) (λ known fs. expand (noting known) (suc turns) at.depth at.here fs (body ts))
    body_runs ps kept = λ known ls s fs knows e there.
        from_below BodyStands (Ok (cores.Body ps)) known ls s fs e
        (λ now. ends_mapped PartsFor BodyStands old new region w1 v ls ps (cores.Body ps) (goes_through known fs (spent 1 s) >>= set_aside known) Body (λ layout ms held. (ps, refl, held)) (then_kept (Ok ps) kept known ls s fs knows there now))

    pub body_fails : {V : Type 0} (Q : List Frames → V → Core → Type 0) (x : ExpandFault) → KeptRuns (Err x) → Runs Q old new region u v at.scope (Err x) (λ known fs. expand (noting known) (suc turns) at.depth at.here fs (body ts))
    body_fails Q x kept = λ known ls s fs knows e there.
        from_below Q (Err x) known ls s fs e
        (λ now. ends_fails PartsFor Q old new region w1 v ls x (goes_through known fs (spent 1 s) >>= set_aside known) (λ ps. done (Body ps)) (then_kept (Err x) kept known ls s fs knows there now))

-- its forms can't be gone through
module _ (old mid : Work) (region : Region) (u w1 w : UnitScope) (at below : code_at.At) (turns : ℕ) (ts : Trees Identifier) (h : BeginsBelow u w1 at 1 (Ok below)) where
  pub body_stops : {V : Type 0} (Q : List Frames → V → Core → Type 0) (x : ExpandFault) → Runs (BodyFor mid region w.unit w.form.number) old mid region w1 w below.scope (Err x) (body_pass turns below.here ts) →
      Runs Q old mid region u w at.scope (Err x) (λ known fs. expand (noting known) (suc turns) at.depth at.here fs (body ts))
  body_stops Q x passed = λ known ls s fs knows e there.
      let P = BodyFor mid region w.unit w.form.number in
      let next : Known → Frames × List (Item Identifier) → Step Noting Parts = λ k m. parts (item_part (expand (noting k) turns) (noting k) below.depth m.0) m.1 in
      from_below old mid mid region u w1 w w at below turns ts h Q (Err x) known ls s fs e
      (λ now.
      let first = passed known ls (spent 1 s) fs (below_knows u w1 at below 1 h known knows) now (below_at u w1 at below 1 h ls fs there) in
      let two = ends_fails P (λ (layout : List Frames) (y : Vec code_part.CorePart Global) (z : Parts). PartsOfCores mid w.unit w.form.number y.items z) old mid region w1 w ls x (body_pass turns below.here ts known fs (spent 1 s)) (next known) first in
      ends_fails (λ (layout : List Frames) (y : Vec code_part.CorePart Global) (z : Parts). PartsOfCores mid w.unit w.form.number y.items z) Q old mid region w1 w ls x (body_pass turns below.here ts known fs (spent 1 s) >>= next known) (λ ps. done (Body ps)) two)

-- its node can't begin
pub body_unbegun : (work : Work) (region : Region) (u w : UnitScope) (at : code_at.At) (turns : ℕ) (ts : Trees Identifier) {V : Type 0} (Q : List Frames → V → Core → Type 0) (x : ExpandFault) → BeginsBelow u w at 1 (Err x) →
    Runs Q work work region u w at.scope (Err x) (λ known fs. expand (noting known) (suc turns) at.depth at.here fs (body ts))
body_unbegun work region u w at turns ts Q x h =
    node_none Q work region u w at 1 x (λ known fs below t. body_in (noting known) turns (item_part (expand (noting known) turns) (noting known) below) at.here (record { env = entered_frames t fs; trees = ts; state = entered t })) h

-- one turn is the body's
pub body_turned : (old new : Work) (region : Region) (u v : UnitScope) (at : code_at.At) (turns n : ℕ) (ts : Trees Identifier) → turns ≡ suc n → {V : Type 0} (Q : List Frames → V → Core → Type 0) (result : Result V ExpandFault) →
    Runs Q old new region u v at.scope result (λ known fs. expand (noting known) (suc n) at.depth at.here fs (body ts)) → Runs Q old new region u v at.scope result (λ known fs. expand (noting known) turns at.depth at.here fs (body ts))
body_turned old new region u v at turns n ts is Q result runs = subst (λ (k : ℕ). Runs Q old new region u v at.scope result (λ known fs. expand (noting known) k at.depth at.here fs (body ts))) (sym is) runs

-- enough turns are some
pub some_turns : (depth uses turns : ℕ) → uses ≤ 10000 → IsEnough depth uses turns → (n : ℕ) × (turns ≡ suc n) × (2 ^ 39 ≤ n) × (depth * 2 ^ 40 ≤ n + uses)
some_turns depth uses zero few h = absurd (omega (arith, few, h))
some_turns depth uses (suc n) few h = (n, refl, omega (arith, few, h), omega (arith, few, h))

-- ---- locals

-- names were bound, and a node or more was counted
pub room_bound : (u w : UnitScope) (count : ℕ) → w.form.budget.locals ≡ u.form.budget.locals + count → u.form.budget.nodes ≤ w.form.budget.nodes → count ≤ 4194304 → HasRoom (2 ^ 43) u → HasRoom (2 ^ 42) w
room_bound u w count locals nodes few room = omega (arith, locals, nodes, few, room)

pub spends_bound : (u w v : UnitScope) (count : ℕ) → w.form.budget.locals ≡ u.form.budget.locals + count → u.form.budget.nodes ≤ w.form.budget.nodes → count ≤ 4194304 → Spends (2 ^ 43) w v → Spends 0 u v
spends_bound u w v count locals nodes few spends = omega (arith, locals, nodes, few, spends)

-- names may be bound
pub few_bound : (u : UnitScope) (count : ℕ) → u.form.budget.nodes ≤ 200000 → count ≤ 4194304 → HasRoom (2 ^ 43) u → u.form.budget.locals + count < 2 ^ 64
few_bound u count nodes few room = omega (arith, nodes, few, room)

pub bound_within : (u : UnitScope) (count : ℕ) → count ≤ 4194304 → HasRoom (2 ^ 43) u → u.form.budget.locals + count ≤ most_locals u.form.budget.nodes
bound_within u count few room = omega (arith, few, room)

pub scope_within : (work : Work) (u : UnitScope) (scope : ℕ) (l : CanLook work u scope) → scope < length u.env.scopes
scope_within work u scope l = subst (λ (len : ℕ). scope < len) l.stands.env.count (slice_get_within l.layout scope l.frames l.at)

pub names_count : {X Y : Type 0} (P : X → Y → Type 0) (xs : List X) (ys : List Y) → AllParts P xs ys → length xs ≡ length ys
names_count P [] [] h = refl
names_count P [] (y ∷ ys) h = absurd h
names_count P (x ∷ xs) [] h = absurd h
names_count P (x ∷ xs) (y ∷ ys) h = ap suc (names_count P xs ys h.1)

-- want of memory before anything was done
pub runs_nothing : {X Y : Type 0} (Q : List Frames → X → Y → Type 0) (work : Work) (region : Region) (u v : UnitScope) (scope : ℕ) (f : Known → Frames → Step Noting Y) → Runs Q work work region u v scope (Err fault.Memory) f
runs_nothing Q work region u v scope f = λ known ls s fs knows e at. leaves_itself work region u e.form.few_nodes

-- the forms of a body were gone through behind its node
pub room_passed : (u w1 w : UnitScope) → w1.form.budget.locals ≡ u.form.budget.locals → w1.form.budget.nodes ≡ u.form.budget.nodes + 1 → w.form.budget.locals ≤ w1.form.budget.locals + 2 ^ 38 → w1.form.budget.nodes ≤ w.form.budget.nodes → HasRoom (2 ^ 42) u → HasRoom (2 ^ 43) w
room_passed u w1 w locals nodes passed more room = omega (arith, locals, nodes, passed, more, room)

pub spends_passed : (u w1 w v : UnitScope) → w1.form.budget.locals ≡ u.form.budget.locals → w1.form.budget.nodes ≡ u.form.budget.nodes + 1 → w.form.budget.locals ≤ w1.form.budget.locals + 2 ^ 38 → w1.form.budget.nodes ≤ w.form.budget.nodes → Spends 0 w v → Spends (2 ^ 43) u v
spends_passed u w1 w v locals nodes passed more spends = omega (arith, locals, nodes, passed, more, spends)
