-- How a call of the expander ends while what is asked is noted: as a step of the expansion does, with what the code has after it.
use Rattle.std.specs.Prelude.{◌≡◌, ℕ, ◌+◌, ◌≤◌, List, Result, Ok, Err}
use Rattle.scheme_model.specs.Requirements.{Known}
use Rattle.scheme_model.specs.Steps.{Broken, Step}
use Rattle.scheme_model.specs.ScopedExpansion.{Frames}
use Rattle.syntax_tree.specs.Works.{live_count}
use Rattle.syntax_tree.specs.declared.trees.Work.{Work}
use Rattle.syntax_tree.specs.declared.trees.table.Region.{Region}
use Rattle.core_tree.specs.Traces.{IsFault}
use Rattle.core_tree.specs.declared.traces.FormFault.{FormFault}
use Rattle.feature_requirements.specs.Judged.{Knows}
use Rattle.feature_requirements.specs.declared.fault.ExpandFault.{ExpandFault}
use Rattle.feature_requirements.specs.declared.fault.ExpandFault.TheVariants as fault
use Rattle.unit_scopes.specs.Outcomes.{At, Grows, Leaves, SameForm, MayFill}
use Rattle.unit_scopes.specs.declared.scope.UnitScope as code
use Rattle.noted_steps.specs.Noting.{Noting}
use Rattle.noted_steps.specs.Standing.{Stands}

-- what the code has after a step that comes to this state and opens no scope: no more nodes were added than were counted
pub record Stays (old new : Work) (region : Region) (u v : code.UnitScope) (ls : List Frames) (t : Noting) : Type 0 where
  pub stands : Stands new v ls t
  pub work : Grows old new region
  pub counted : live_count new + u.form.budget.nodes ≤ live_count old + v.form.budget.nodes
  pub same : SameForm u v

-- the same where scopes may be opened: those that there were keep their frames
pub record Moves (old new : Work) (region : Region) (u v : code.UnitScope) (ls : List Frames) (t : Noting) : Type 0 where
  pub layout : List Frames
  pub kept : (n : ℕ) (fs : Frames) → At ls n fs → At layout n fs
  pub stays : Stays old new region u v layout t

-- ---- how a call ends

-- the fault of the form that is at work
abbrev pub Breaks : Work → FormFault → {Y : Type 0} → Result Y Broken × Noting → Type 0
Breaks new e p = (b : Broken) × (p.0 ≡ Err b) × IsFault new.symbols e b

-- a step with the value of the code and that of the definition, where scopes may be opened
abbrev pub Ends : {X Y : Type 0} → (List Frames → X → Y → Type 0) → Work → Work → Region → code.UnitScope → code.UnitScope → List Frames → Result X ExpandFault → Result Y Broken × Noting → Type 0
Ends {X} {Y} P old new region u v ls (Ok x) p = (y : Y) × (m : Moves old new region u v ls p.1) × (p.0 ≡ Ok y) × P m.layout x y
Ends P old new region u v ls (Err (fault.At e)) p = Moves old new region u v ls p.1 × Breaks new e p
Ends P old new region u v ls (Err fault.Full) p = Leaves old new region u × MayFill old u
Ends P old new region u v ls (Err fault.Memory) p = Leaves old new region u

-- the same of a step that opens no scope
abbrev pub EndsHere : {X Y : Type 0} → (X → Y → Type 0) → Work → Work → Region → code.UnitScope → code.UnitScope → List Frames → Result X ExpandFault → Result Y Broken × Noting → Type 0
EndsHere {X} {Y} P old new region u v ls (Ok x) p = (y : Y) × Stays old new region u v ls p.1 × (p.0 ≡ Ok y) × P x y
EndsHere P old new region u v ls (Err (fault.At e)) p = Stays old new region u v ls p.1 × Breaks new e p
EndsHere P old new region u v ls (Err fault.Full) p = Leaves old new region u × MayFill old u
EndsHere P old new region u v ls (Err fault.Memory) p = Leaves old new region u

-- the call does this step, from whatever state and frames the scopes of the code stand for
abbrev pub Runs : {X Y : Type 0} → (List Frames → X → Y → Type 0) → Work → Work → Region → code.UnitScope → code.UnitScope → (scope : ℕ) → Result X ExpandFault → (Known → Frames → Step Noting Y) → Type 0
Runs P old new region u v scope result step =
    (known : Known) (ls : List Frames) (s : Noting) (fs : Frames) → Knows u.libraries known → Stands old u ls s → At ls scope fs → Ends P old new region u v ls result (step known fs s)

abbrev pub RunsHere : {X Y : Type 0} → (X → Y → Type 0) → Work → Work → Region → code.UnitScope → code.UnitScope → (scope : ℕ) → Result X ExpandFault → (Known → Frames → Step Noting Y) → Type 0
RunsHere P old new region u v scope result step =
    (known : Known) (ls : List Frames) (s : Noting) (fs : Frames) → Knows u.libraries known → Stands old u ls s → At ls scope fs → EndsHere P old new region u v ls result (step known fs s)
