-- What a step does without notes it does with them: where the code leaves its notes and its macros, they stand as they did. And what
-- stands with notes stands without.
use Rattle.std.proofs.Common.{◌≡◌, List, true, Result, Ok, Err, sym, ◌∙◌}
use Rattle.scheme_model.specs.Steps.{Broken}
use Rattle.scheme_model.specs.ScopedExpansion.{Frames, ScopedState}
use Rattle.syntax_tree.specs.Names.{AreToldApart, KeepsNames}
use Rattle.syntax_tree.specs.declared.trees.Work.{Work}
use Rattle.syntax_tree.specs.declared.trees.table.Region.{Region}
use Rattle.form_notes.specs.Standing.{NotingStands}
use Rattle.form_notes.proofs.GrowLaws.{noting_on}
use Rattle.feature_requirements.specs.declared.fault.ExpandFault.{ExpandFault}
use Rattle.feature_requirements.specs.declared.fault.ExpandFault.TheVariants as fault
use Rattle.unit_scopes.specs.Outcomes as plain
use Rattle.unit_scopes.specs.declared.scope.UnitScope.{UnitScope}
use Rattle.noted_steps.specs.Noting.{Noting, state_of, with_state}
use Rattle.noted_steps.specs.Standing.{Stands}
use Rattle.noted_steps.specs.Outcomes.{Stays, Moves, Ends, EndsHere}
use Rattle.noted_steps.proofs.NoteLaws.{plainly}
use Rattle.noted_steps.proofs.CountingStands.{Beside, noting_after}

module _ (old new : Work) (region : Region) (u v : UnitScope) (ls : List Frames) (n : Noting) (e : Stands old u ls n) where
  -- where the notes stand in the work as it is then
  module _ (on : KeepsNames old.symbols new.symbols → n.exact ≡ true → NotingStands new.symbols u.form.trace.notes n.since n.noted) where
    stays_so : (ms : List Frames) (t : ScopedState) → Beside u v n t → plain.Stays old new region u v ms t → Stays old new region u v ms (with_state n t)
    stays_so ms t b p = record {
      stands = noting_after old new u v ls ms n t p.work.names e p.stands (on p.work.names) b (sym p.stands.unit ∙ (p.same.unit ∙ e.unit)) (sym p.stands.form.number ∙ (p.same.number ∙ e.form.number));
      work = p.work;
      counted = p.counted;
      same = p.same;
    }

    here_so : {X Y : Type 0} (P : X → Y → Type 0) (r : Result X ExpandFault) (p : Result Y Broken × ScopedState) → Beside u v n p.1 → plain.EndsHere P old new region u v ls r p → EndsHere P old new region u v ls r (p.0, with_state n p.1)
    here_so P (Ok x) p b h = (h.0, stays_so ls p.1 b h.1, h.2, h.3)
    here_so P (Err (fault.At f)) p b h = (stays_so ls p.1 b h.0, h.1)
    here_so P (Err fault.Full) p b h = h
    here_so P (Err fault.Memory) p b h = h

  module _ (apart : AreToldApart new.symbols.idents) where
    pub lift_stays : (ms : List Frames) (t : ScopedState) → Beside u v n t → plain.Stays old new region u v ms t → Stays old new region u v ms (with_state n t)
    lift_stays ms t b p = stays_so (λ keeps exact. noting_on old.symbols new.symbols keeps apart u.form.trace.notes n.since n.noted (e.notes exact)) ms t b p

    pub lift_moves : (t : ScopedState) → Beside u v n t → plain.Moves old new region u v ls t → Moves old new region u v ls (with_state n t)
    lift_moves t b p = record { layout = p.layout; kept = p.kept; stays = lift_stays p.layout t b p.stays }

    pub lift_here : {X Y : Type 0} (P : X → Y → Type 0) (r : Result X ExpandFault) (p : Result Y Broken × ScopedState) → Beside u v n p.1 → plain.EndsHere P old new region u v ls r p → EndsHere P old new region u v ls r (p.0, with_state n p.1)
    lift_here P r p b h = here_so (λ keeps exact. noting_on old.symbols new.symbols keeps apart u.form.trace.notes n.since n.noted (e.notes exact)) P r p b h

-- in a work that stays
pub lift_same : {X Y : Type 0} (P : X → Y → Type 0) (work : Work) (region : Region) (u v : UnitScope) (ls : List Frames) (n : Noting) → Stands work u ls n → (r : Result X ExpandFault) (p : Result Y Broken × ScopedState) → Beside u v n p.1 →
    plain.EndsHere P work work region u v ls r p → EndsHere P work work region u v ls r (p.0, with_state n p.1)
lift_same P work region u v ls n e r p b h = here_so work work region u v ls n e (λ keeps. e.notes) P r p b h

-- ---- without notes

abbrev pub unnoted : {Y : Type 0} → Result Y Broken × Noting → Result Y Broken × ScopedState
unnoted p = (p.0, state_of p.1)

module _ (old new : Work) (region : Region) (u v : UnitScope) (ls : List Frames) where
  pub plain_stays : (t : Noting) → Stays old new region u v ls t → plain.Stays old new region u v ls (state_of t)
  plain_stays t h = record { stands = plainly new v ls t h.stands; work = h.work; counted = h.counted; same = h.same }

  pub plain_here : {X Y : Type 0} (P : X → Y → Type 0) (r : Result X ExpandFault) (p : Result Y Broken × Noting) → EndsHere P old new region u v ls r p → plain.EndsHere P old new region u v ls r (unnoted p)
  plain_here P (Ok x) p h = (h.0, plain_stays p.1 h.1, h.2, h.3)
  plain_here P (Err (fault.At f)) p h = (plain_stays p.1 h.0, h.1)
  plain_here P (Err fault.Full) p h = h
  plain_here P (Err fault.Memory) p h = h

unfoldable pub plain_moves : (old new : Work) (region : Region) (u v : UnitScope) (ls : List Frames) (t : Noting) → Moves old new region u v ls t → plain.Moves old new region u v ls (state_of t)
plain_moves old new region u v ls t h = record { layout = h.layout; kept = h.kept; stays = plain_stays old new region u v h.layout t h.stays }

pub plain_ends : {X Y : Type 0} (P : List Frames → X → Y → Type 0) (old new : Work) (region : Region) (u v : UnitScope) (ls : List Frames) (r : Result X ExpandFault) (p : Result Y Broken × Noting) → Ends P old new region u v ls r p →
    plain.Ends P old new region u v ls r (unnoted p)
unfolding plain_moves
plain_ends P old new region u v ls (Ok x) p h = (h.0, plain_moves old new region u v ls p.1 h.1, h.2, h.3)
plain_ends P old new region u v ls (Err (fault.At f)) p h = (plain_moves old new region u v ls p.1 h.0, h.1)
plain_ends P old new region u v ls (Err fault.Full) p h = h
plain_ends P old new region u v ls (Err fault.Memory) p h = h
