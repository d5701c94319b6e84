-- How a call of the expander ends: as a step of the expansion does, with what the code has after it.
use Rattle.std.specs.Prelude.{◌≡◌, ℕ, ◌+◌, ◌-◌, ◌*◌, ◌^◌, ◌<◌, ◌≤◌, List, slice_get, true, is_some, Some, Result, Ok, Err}
use Rattle.std.specs.BTreeMap.{get}
use Rattle.std.specs.Ordering.{nat_cmp}
use Rattle.scheme_model.specs.Trees.{Tree}
use Rattle.scheme_model.specs.Ident.{Ident as Identifier}
use Rattle.scheme_model.specs.Requirements.{Known}
use Rattle.scheme_model.specs.Steps.{Broken, Step}
use Rattle.scheme_model.specs.ScopedExpansion.{Frames, ScopedState}
use Rattle.syntax_tree.specs.Names.{KeepsNames}
use Rattle.syntax_tree.specs.declared.meaning.Meaning.{Meaning}
use Rattle.syntax_tree.specs.declared.meaning.Meaning.TheVariants.{Local, Global, Standard, Free}
use Rattle.syntax_tree.specs.Works.{StandsFor, IsStanding, CanName, KeepsTrees, SameRegions, AddsIn, live_count}
use Rattle.syntax_tree.specs.declared.trees.Work.{Work}
use Rattle.syntax_tree.specs.declared.trees.nodes.Tree as number
use Rattle.syntax_tree.specs.declared.trees.table.Region.{Region}
use Rattle.core_tree.specs.Traces.{IsFault}
use Rattle.feature_requirements.specs.Judged.{Knows}
use Rattle.unit_scopes.specs.Macros.{edition_in}
use Rattle.unit_scopes.specs.State.{Stands, most_locals}
use Rattle.feature_requirements.specs.declared.fault.ExpandFault.{ExpandFault}
use Rattle.feature_requirements.specs.declared.fault.ExpandFault.TheVariants as fault
use Rattle.core_tree.specs.declared.traces.FormFault.{FormFault}
use Rattle.unit_scopes.specs.declared.scope.UnitScope as code

-- a scope of the code that stands for these frames
abbrev pub At : List Frames → ℕ → Frames → Type 0
At ls scope fs = slice_get ls scope ≡ Some fs

-- ---- what a call leaves

-- what stood before still stands for the same, and what was added lies in the region
pub record Grows (old new : Work) (region : Region) : Type 0 where
  pub trees : KeepsTrees old new
  pub names : KeepsNames old.symbols new.symbols
  pub regions : SameRegions old new
  pub added : AddsIn old new region

-- whatever the call answers: no more nodes were added than the form had left to count
pub record Leaves (old new : Work) (region : Region) (u : code.UnitScope) : Type 0 where
  pub work : Grows old new region
  pub few : live_count new + u.form.budget.nodes ≤ live_count old + 200000

-- what isn't local and has its meaning already: all but what the unit hasn't defined yet
abbrev pub IsSettled : code.UnitScope → Meaning → Type 0
IsSettled u (Local n) = ⊥
IsSettled u (Global w i) = w ≡ u.unit → is_some (get nat_cmp u.defined i) ≡ true
IsSettled u (Standard x) = Unit {0}
IsSettled u (Free x) = Unit {0}

-- what the unit has defined stays defined, and a macro that stood has the edition that it had
pub record KeepsNumbers (u v : code.UnitScope) : Type 0 where
  pub defined : (i : ℕ) → is_some (get nat_cmp u.defined i) ≡ true → is_some (get nat_cmp v.defined i) ≡ true
  pub numbers : (form : ℕ) (c : Meaning) → IsSettled u c → edition_in v.macros form c ≡ edition_in u.macros form c

-- the same form of the same unit is at work, no unit was begun, and the form has counted no less; macros that stood keep their editions
pub record SameForm (u v : code.UnitScope) : Type 0 where
  pub unit : v.unit ≡ u.unit
  pub number : v.form.number ≡ u.form.number
  pub root : v.root ≡ u.root
  pub libraries : v.libraries ≡ u.libraries
  pub roots : v.env.roots ≡ u.env.roots
  pub uses : u.form.budget.uses ≤ v.form.budget.uses
  pub nodes : u.form.budget.nodes ≤ v.form.budget.nodes
  pub numbers : KeepsNumbers u v

-- what the code has after a step that comes to this state and opens no scope: no more nodes were added than were counted
pub record Stays (old new : Work) (region : Region) (u v : code.UnitScope) (ls : List Frames) (t : ScopedState) : Type 0 where
  pub stands : Stands new v ls t
  pub work : Grows old new region
  pub counted : live_count new + u.form.budget.nodes ≤ live_count old + v.form.budget.nodes
  pub same : SameForm u v

-- the same where scopes may be opened: those that there were keep their frames
pub record Moves (old new : Work) (region : Region) (u v : code.UnitScope) (ls : List Frames) (t : ScopedState) : Type 0 where
  pub layout : List Frames
  pub kept : (n : ℕ) (fs : Frames) → At ls n fs → At layout n fs
  pub stays : Stays old new region u v layout t

-- there may be no room for the nodes that the form has left to count
abbrev pub MayFill : Work → code.UnitScope → Type 0
MayFill old u = 2 ^ 31 < live_count old + (200000 - u.form.budget.nodes)

-- ---- how a call ends

-- the fault of the form that is at work
abbrev pub Breaks : Work → FormFault → {Y : Type 0} → Result Y Broken × ScopedState → Type 0
Breaks new e p = (b : Broken) × (p.0 ≡ Err b) × IsFault new.symbols e b

-- a step with the value of the code and that of the definition, where scopes may be opened
abbrev pub Ends : {X Y : Type 0} → (List Frames → X → Y → Type 0) → Work → Work → Region → code.UnitScope → code.UnitScope → List Frames → Result X ExpandFault → Result Y Broken × ScopedState → Type 0
Ends {X} {Y} P old new region u v ls (Ok x) p = (y : Y) × (m : Moves old new region u v ls p.1) × (p.0 ≡ Ok y) × P m.layout x y
Ends P old new region u v ls (Err (fault.At e)) p = Moves old new region u v ls p.1 × Breaks new e p
Ends P old new region u v ls (Err fault.Full) p = Leaves old new region u × MayFill old u
Ends P old new region u v ls (Err fault.Memory) p = Leaves old new region u

-- the same of a step that opens no scope
abbrev pub EndsHere : {X Y : Type 0} → (X → Y → Type 0) → Work → Work → Region → code.UnitScope → code.UnitScope → List Frames → Result X ExpandFault → Result Y Broken × ScopedState → Type 0
EndsHere {X} {Y} P old new region u v ls (Ok x) p = (y : Y) × Stays old new region u v ls p.1 × (p.0 ≡ Ok y) × P x y
EndsHere P old new region u v ls (Err (fault.At e)) p = Stays old new region u v ls p.1 × Breaks new e p
EndsHere P old new region u v ls (Err fault.Full) p = Leaves old new region u × MayFill old u
EndsHere P old new region u v ls (Err fault.Memory) p = Leaves old new region u

-- the call does this step, from whatever state and frames the scopes of the code stand for
abbrev pub Runs : {X Y : Type 0} → (List Frames → X → Y → Type 0) → Work → Work → Region → code.UnitScope → code.UnitScope → (scope : ℕ) → Result X ExpandFault → (Known → Frames → Step ScopedState Y) → Type 0
Runs P old new region u v scope result step =
    (known : Known) (ls : List Frames) (s : ScopedState) (fs : Frames) → Knows u.libraries known → Stands old u ls s → At ls scope fs → Ends P old new region u v ls result (step known fs s)

abbrev pub RunsHere : {X Y : Type 0} → (X → Y → Type 0) → Work → Work → Region → code.UnitScope → code.UnitScope → (scope : ℕ) → Result X ExpandFault → (Known → Frames → Step ScopedState Y) → Type 0
RunsHere P old new region u v scope result step =
    (known : Known) (ls : List Frames) (s : ScopedState) (fs : Frames) → Knows u.libraries known → Stands old u ls s → At ls scope fs → EndsHere P old new region u v ls result (step known fs s)

-- ---- what calls demand

-- the code's scopes stand for some state, and this one for some frames
pub record CanLook (work : Work) (u : code.UnitScope) (scope : ℕ) : Type 0 where
  pub layout : List Frames
  pub state : ScopedState
  pub frames : Frames
  pub stands : Stands work u layout state
  pub at : At layout scope frames

-- a tree that stands, which nodes of the region may name
abbrev pub IsAtWork : Work → Region → number.Tree → Type 0
IsAtWork work region n = IsStanding work n × CanName work region n

-- the number stands for this tree, which nodes of the region may name
abbrev pub WorksOn : Work → Region → number.Tree → Tree Identifier → Type 0
WorksOn work region n t = StandsFor work n t × CanName work region n

-- ---- turns and locals

-- within so much depth so many turns are enough, where so many macro uses were begun: 2^40 for each level, and one for each use
abbrev pub IsEnough : (depth uses turns : ℕ) → Type 0
IsEnough depth uses turns = (depth + 1) * 2 ^ 40 ≤ turns + uses

-- the same for what stands one level deeper
abbrev pub IsEnoughBelow : (depth uses turns : ℕ) → Type 0
IsEnoughBelow depth uses turns = depth * 2 ^ 40 ≤ turns + uses

-- the form has counted so many nodes that its locals are few, and would be with so many more
abbrev pub HasRoom : (more : ℕ) → code.UnitScope → Type 0
HasRoom more u = u.form.budget.locals + more ≤ most_locals u.form.budget.nodes

-- at most 2^44 locals were taken for each node that was counted, and so many fewer
abbrev pub Spends : (fewer : ℕ) → code.UnitScope → code.UnitScope → Type 0
Spends fewer u v = v.form.budget.locals + fewer + 2 ^ 44 * u.form.budget.nodes ≤ u.form.budget.locals + 2 ^ 44 * v.form.budget.nodes
