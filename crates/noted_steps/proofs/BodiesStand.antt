-- A body that is entered, and what its scope binds, while what is asked is noted.
use Rattle.std.proofs.Common.{◌≡◌, ℕ, List, [], ◌∷◌, ◌++◌, length, slice_get, Bool, Some, refl}
use Rattle.scheme_model.specs.Identifiers.{Number}
use Rattle.scheme_model.specs.ScopedExpansion.{Enter, Frames}
use Rattle.syntax_tree.specs.Names.{AreToldApart, KeepsNames}
use Rattle.syntax_tree.specs.declared.trees.Work.{Work}
use Rattle.scope_env.specs.Environment.{IsSound, with_child}
use Rattle.unit_scopes.specs.Kept.{IsIn}
use Rattle.unit_scopes.specs.Stepped.{IsOpenBody, BindsBody}
use Rattle.unit_scopes.specs.declared.scope.UnitScope.{UnitScope}
use Rattle.unit_scopes.proofs.BodiesStand as plain
use Rattle.unit_scopes.proofs.BodyScopes as scopes
use Rattle.unit_scopes.proofs.DefineLaws as defining
use Rattle.noted_steps.specs.Noting.{Noting, state_of, next_number}
use Rattle.noted_steps.specs.Standing.{Stands}
use Rattle.noted_steps.specs.Stepped.{entered, entered_frames}
use Rattle.noted_steps.proofs.NoteLaws.{plainly}
use Rattle.noted_steps.proofs.CountingStands.{stands_after}

pub body_stands : (work : Work) (u : UnitScope) (ls : List Frames) (s : Noting) (scope : ℕ) (fs : Frames) → IsSound u.env → slice_get ls scope ≡ Some fs → Stands work u ls s →
    Stands work (record u { env = with_child u.env scope }) (ls ++ entered_frames s fs ∷ []) (entered s)
body_stands work u ls s scope fs sound at e =
    stands_after work u (record u { env = with_child u.env scope }) ls (ls ++ entered_frames s fs ∷ []) s (state_of (entered s)) e (plain.body_stands work u ls (state_of s) scope fs sound at (plainly work u ls s e))
    (record { notes = refl; macros = refl; table = refl; rules = refl }) refl refl

pub body_opens : (work : Work) (u : UnitScope) (ls : List Frames) (s : Noting) (scope : ℕ) (fs : Frames) → slice_get ls scope ≡ Some fs → Stands work u ls s →
    IsOpenBody (ls ++ entered_frames s fs ∷ []) (length u.env.scopes) (next_number s s.bodies) fs
body_opens work u ls s scope fs at e = plain.body_opens work u ls (state_of s) scope fs at (plainly work u ls s e)

pub new_binds : (work : Work) (u : UnitScope) (ls : List Frames) (s : Noting) (parent : ℕ) → Stands work u ls s → BindsBody work.symbols (with_child u.env parent) (length u.env.scopes) (state_of s) (next_number s s.bodies)
new_binds work u ls s parent e = scopes.new_binds work u ls (state_of s) parent (plainly work u ls s e)

pub binds_on : (old new : Work) (u : UnitScope) (ls : List Frames) (s : Noting) (scope : ℕ) (b : Number) (w : ℕ → ℕ) (fs : Frames) → KeepsNames old.symbols new.symbols → AreToldApart new.symbols.idents →
    slice_get ls scope ≡ Some (Enter b w ∷ fs) → Stands old u ls s → BindsBody old.symbols u.env scope (state_of s) b → BindsBody new.symbols u.env scope (state_of s) b
binds_on old new u ls s scope b w fs keeps apart at e binds = scopes.binds_on old new u ls (state_of s) scope b w fs keeps apart at (plainly old u ls s e) binds

-- where forms are gone through, with the same scopes and definitions
pub is_in_on : (work : Work) (ls : List Frames) (scope : ℕ) (fs : Frames) (u v : UnitScope) (s t : Noting) (b : Bool) → v.env ≡ u.env → v.root ≡ u.root → t.definitions ≡ s.definitions → IsIn work u ls (state_of s) scope fs b → IsIn work v ls (state_of t) scope fs b
is_in_on work ls scope fs u v s t b env root same h = defining.is_in_on work ls scope fs u v (state_of s) (state_of t) b env root same h
