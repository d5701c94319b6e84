-- What the code has after a call that was made: it can look, and go on; and how rooms for locals and turns go on.
use Rattle.std.proofs.Common.{◌≡◌, ℕ, suc, ◌+◌, ◌*◌, ◌^◌, ◌≤◌, List, Option, Result, Ok, Err, refl, sym, ap, subst, arith}
use Rattle.std.specs.Prelude.{String}
use Rattle.std.specs.BTreeSet.{BTreeSet, contains_text}
use Rattle.std.specs.declared.alloc.Global.{Global}
use Rattle.scheme_model.specs.declared.Occ.{Occ}
use Rattle.scheme_model.specs.Requirements.{Known}
use Rattle.scheme_model.specs.Cores.{Core}
use Rattle.scheme_model.specs.Steps.{Broken, Step}
use Rattle.scheme_model.specs.Expression.{node}
use Rattle.scheme_model.specs.ScopedExpansion.{Frames}
use Rattle.syntax_tree.specs.Works.{IsOpened}
use Rattle.syntax_tree.specs.declared.trees.Work.{Work}
use Rattle.syntax_tree.specs.declared.trees.table.Region.{Region}
use Rattle.core_tree.specs.Cores.{CoreStands}
use Rattle.core_tree.specs.declared.cores.Core as code_core
use Rattle.unit_scopes.specs.Counts.{Begins}
use Rattle.feature_requirements.specs.Judged.{Knows, library_text}
use Rattle.unit_scopes.specs.Outcomes.{At, Grows, SameForm, IsEnough, IsEnoughBelow, HasRoom, Spends}
use Rattle.expander.specs.Ready.{Reads, Expanding}
use Rattle.expander.specs.declared.expressions.Ready.TheVariants as ready
use Rattle.feature_requirements.specs.declared.fault.ExpandFault.{ExpandFault}
use Rattle.feature_requirements.specs.declared.fault.ExpandFault.TheVariants as fault
use Rattle.unit_scopes.specs.declared.scope.UnitScope.{UnitScope}
use Rattle.noted_steps.specs.Noting.{Noting, noting}
use Rattle.noted_steps.specs.Standing.{Stands}
use Rattle.noted_steps.specs.Stepped.{spent}
use Rattle.noted_steps.specs.Outcomes.{Stays, Moves, Ends, Runs}
use Rattle.noted_steps.proofs.OutcomeLaws.{ends_after, moves_here, here_ends}
use Rattle.noted_steps.proofs.CountingStands.{nodes_stand}
use Rattle.noted_steps.proofs.NodeLaws.{spends, begins_goes, here_done}
use Rattle.noted_steps.specs.Kept.{CanLook}

-- ---- what can be done after a call

pub record IsAfter (old new : Work) (region : Region) (u v : UnitScope) (scope : ℕ) : Type 0 where
  pub look : CanLook new v scope
  pub work : Grows old new region
  pub same : SameForm u v

-- the libraries that there are, as the definition knows them
pub all_known : (libraries : BTreeSet (String Global)) → (known : Known) × Knows libraries known
all_known libraries = (λ n. contains_text libraries (library_text n), λ n written. refl)

pub moves_after : (old new : Work) (region : Region) (u v : UnitScope) (scope : ℕ) (ls : List Frames) (fs : Frames) (t : Noting) → At ls scope fs → Moves old new region u v ls t → IsAfter old new region u v scope
moves_after old new region u v scope ls fs t at m = record {
  look = record { layout = m.layout; state = t; frames = fs; stands = m.stays.stands; at = m.kept scope fs at };
  work = m.stays.work;
  same = m.stays.same;
}

pub stays_after : (old new : Work) (region : Region) (u v : UnitScope) (scope : ℕ) (ls : List Frames) (fs : Frames) (t : Noting) → At ls scope fs → Stays old new region u v ls t → IsAfter old new region u v scope
stays_after old new region u v scope ls fs t at m = record {
  look = record { layout = ls; state = t; frames = fs; stands = m.stands; at = at };
  work = m.work;
  same = m.same;
}

pub runs_after : {X Y : Type 0} (P : List Frames → X → Y → Type 0) (old new : Work) (region : Region) (u v : UnitScope) (scope : ℕ) (x : X) (step : Known → Frames → Step Noting Y) → CanLook old u scope → Runs P old new region u v scope (Ok x) step → IsAfter old new region u v scope
runs_after P old new region u v scope x step l h =
    let k = all_known u.libraries in
    let ends = h k.0 l.layout l.state l.frames k.1 l.stands l.at in
    moves_after old new region u v scope l.layout l.frames (step k.0 l.frames l.state).1 l.at ends.1

pub begins_after : (work : Work) (region : Region) (u v : UnitScope) (scope : ℕ) (here : Option Occ) (n depth below : ℕ) → CanLook work u scope → Begins u v here n depth (Ok below) → IsAfter work work region u v scope
begins_after work region u v scope here n depth below l h =
    stays_after work work region u v scope l.layout l.frames (spent n l.state) l.at
    (subst (λ (w : UnitScope). Stays work work region u w l.layout (spent n l.state)) (sym h.2) (spends work region u l.layout l.state n h.1 l.stands))

pub begins_look : (work : Work) (u v : UnitScope) (scope : ℕ) (here : Option Occ) (n depth below : ℕ) → CanLook work u scope → Begins u v here n depth (Ok below) → CanLook work v scope
begins_look work u v scope here n depth below l h =
    subst (λ (w : UnitScope). CanLook work w scope) (sym h.2) (record { layout = l.layout; state = spent n l.state; frames = l.frames; stands = nodes_stand work u l.layout l.state n h.1 l.stands; at = l.at })

pub opened_on : (old new : Work) (region : Region) → Grows old new region → IsOpened old region → IsOpened new region
opened_on old new region g h = g.trees.regions region h

-- ---- locals

pub room_same : (more : ℕ) (u v : UnitScope) → v.form.budget.locals ≡ u.form.budget.locals → SameForm u v → HasRoom more u → HasRoom more v
room_same more u v locals same room = omega (arith, locals, same.nodes, room)

pub room_begun : (more : ℕ) (u v : UnitScope) (here : Option Occ) (n depth below : ℕ) → Begins u v here n depth (Ok below) → HasRoom more u → HasRoom more v
room_begun more u v here n depth below h room = subst (HasRoom more) (sym h.2) (omega (arith, room))

pub room_on : (more : ℕ) (u v : UnitScope) → Spends 0 u v → HasRoom more u → HasRoom more v
room_on more u v h room = omega (arith, h, room)

pub spends_same : (u v : UnitScope) → v.form.budget.locals ≡ u.form.budget.locals → SameForm u v → Spends 0 u v
spends_same u v locals same = omega (arith, locals, same.nodes)

pub spends_begun : (u v : UnitScope) (here : Option Occ) (n depth below : ℕ) → Begins u v here n depth (Ok below) → Spends 0 u v
spends_begun u v here n depth below h = subst (Spends 0 u) (sym h.2) (omega arith)

pub spends_itself : (u : UnitScope) → Spends 0 u u
spends_itself u = omega arith

pub spends_on : (u w v : UnitScope) → Spends 0 u w → Spends 0 w v → Spends 0 u v
spends_on u w v p q = omega (arith, p, q)

-- ---- turns

pub enough_there : (depth uses : ℕ) → IsEnough depth uses ((depth + 1) * 2 ^ 40)
enough_there depth uses = omega arith

pub enough_less : (depth uses turns : ℕ) → IsEnough depth uses (suc turns) → IsEnoughBelow depth uses turns
enough_less depth uses turns h = omega (arith, h)

pub enough_deeper : (depth below uses later turns : ℕ) → depth ≡ below + 1 → uses ≤ later → IsEnoughBelow depth uses turns → IsEnough below later turns
enough_deeper depth below uses later turns is more h = let e : depth * 2 ^ 40 ≡ (below + 1) * 2 ^ 40 = ap (λ (n : ℕ). n * 2 ^ 40) is in omega (arith, h, more, e)

pub enough_later : (depth uses later turns : ℕ) → uses ≤ later → IsEnough depth uses turns → IsEnough depth later turns
enough_later depth uses later turns more h = omega (arith, h, more)

pub enough_below_later : (depth uses later turns : ℕ) → uses ≤ later → IsEnoughBelow depth uses turns → IsEnoughBelow depth later turns
enough_below_later depth uses later turns more h = omega (arith, h, more)

-- ---- a node that begins

module _ (known : Known) (work new : Work) (region : Region) (u w v : UnitScope) (ls : List Frames) (s : Noting) (here : Option Occ) (n : ℕ) (e : Stands work u ls s) where
  pub node_then : {V B : Type 0} (Q : List Frames → V → B → Type 0) (parts : ℕ → Step Noting B) (depth below : ℕ) (result : Result V ExpandFault) → Begins u w here n depth (Ok below) →
      (Stands work w ls (spent n s) → Ends Q work new region w v ls result (parts below (spent n s))) → Ends Q work new region u v ls result (node (noting known) here n depth parts s)
  unfolding moves_here
  node_then {V} {B} Q parts depth below result h next =
      let goes = begins_goes known work region u w ls s here n e parts depth below h in
      subst (λ (p : Result B Broken × Noting). Ends Q work new region u v ls result p) (sym goes.0)
      (ends_after Q work work new region u w v ls (spent n s) result (parts below (spent n s)) (moves_here work work region u w ls (spent n s) goes.1) (next goes.1.stands))

-- a step behind one that opened no scope
pub stays_then : {V B : Type 0} (Q : List Frames → V → B → Type 0) (a b c : Work) (region : Region) (u w v : UnitScope) (ls : List Frames) (s : Noting) (result : Result V ExpandFault) (p : Result B Broken × Noting) → Stays a b region u w ls s → Ends Q b c region w v ls result p → Ends Q a c region u v ls result p
unfolding moves_here
stays_then Q a b c region u w v ls s result p m h = ends_after Q a b c region u w v ls s result p (moves_here a b region u w ls s m) h

-- ---- an expression that was read

module _ (known : Known) (depth : ℕ) (here : Option Occ) (work : Work) (region : Region) (u v : UnitScope) (ls : List Frames) (fs : Frames) (step : Expanding → Result Core Broken × Noting) (f : Expanding) where
  pub reads_core : (c : code_core.Core) → Reads known depth here work region u v ls fs (Ok (ready.Core c)) step → Ends (λ layout. CoreStands work v.unit v.form.number) work work region u v ls (Ok c) (step f)
  reads_core c h =
      let P = CoreStands work v.unit v.form.number in
      here_ends P work work region u v ls (Ok c) (step f) (here_done P work work region u v ls c (step f) h.2.0 h.0 (h.2.2 f) h.1 h.2.1)

  pub reads_fail : {V : Type 0} (Q : List Frames → V → Core → Type 0) (e : ExpandFault) → Reads known depth here work region u v ls fs (Err e) step → Ends Q work work region u v ls (Err e) (step f)
  unfolding moves_here
  reads_fail Q (fault.At e) h =
      let is = h.4 f in
      subst (λ (q : Result Core Broken × Noting). Ends Q work work region u v ls (Err (fault.At e)) q) (sym is) (moves_here work work region u v ls h.1 h.2, (h.0, refl, h.3))
  reads_fail Q fault.Full h = h
  reads_fail Q fault.Memory h = h
