-- How cancellations are counted by the ids that they name.
use Rattle.std.specs.Prelude.{◌≡◌, ℕ, ◌+◌, List, [], ◌∷◌, Bool, true, false, map, unwrap_or, if◌then◌else◌}
use Rattle.std.specs.Ordering.{int_cmp, nat_cmp}
use Rattle.std.specs.declared.cmp.Ordering.{Ordering}
use Rattle.std.specs.Cmp.Lexicographic.{slice_cmp}
use Rattle.std.specs.BTreeMap.{BTreeMap, get}
use Rattle.lsp_messages.specs.declared.message.Id.{Id}
use Rattle.lsp_messages.specs.declared.message.Id.TheVariants.{Number, Name}
use Rattle.lookahead.specs.Cancelled.{same_id}
use Rattle.lookahead.specs.declared.cancellations.Cancellations.{Cancellations}
use Rattle.lookahead.specs.declared.held.Held.{Held}
use Rattle.lookahead.specs.declared.role.Role.{Role}
use Rattle.lookahead.specs.declared.role.Role.TheVariants.{Request, Cancellation, Exit, Other}

-- how often a key is counted
abbrev pub count_at : {K : Type 0} → (K → K → Ordering) → BTreeMap K ℕ → K → ℕ
count_at cmp counts key = unwrap_or (get cmp counts key) 0

-- how often an id is counted
abbrev pub count_of : Cancellations → Id → ℕ
count_of all (Number n) = count_at int_cmp all.numbers n
count_of all (Name s) = count_at (slice_cmp nat_cmp) all.names s

-- how many cancellations of an id stand among bodies, before any `exit`
abbrev pub cancellations_of : Id → List Role → ℕ
cancellations_of id [] = 0
cancellations_of id (Request other ∷ later) = cancellations_of id later
cancellations_of id (Cancellation other ∷ later) = (if same_id id other then 1 else 0) + cancellations_of id later
cancellations_of id (Exit ∷ later) = 0
cancellations_of id (Other ∷ later) = cancellations_of id later

-- an `exit` stands among bodies
abbrev pub has_exit : List Role → Bool
has_exit [] = false
has_exit (Request id ∷ later) = has_exit later
has_exit (Cancellation id ∷ later) = has_exit later
has_exit (Exit ∷ later) = true
has_exit (Other ∷ later) = has_exit later

-- these are the cancellations among bodies of these roles
pub record IsOf (roles : List Role) (all : Cancellations) : Type 0 where
  pub counted : (id : Id) → count_of all id ≡ cancellations_of id roles
  pub exits : all.closed ≡ has_exit roles

-- ---- the bodies that are held

abbrev pub roles_in : List Held → List Role
roles_in held = map (λ h. h.role) held

abbrev pub bodies_in : List Held → List (List ℕ)
bodies_in held = map (λ h. h.body.items) held
