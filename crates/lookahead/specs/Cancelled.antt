-- Which requests are cancelled among the bodies that a piece of a stream completes (LSP 3.17, "Cancellation Support").
use Rattle.std.specs.Prelude.{ℕ, suc, ◌-◌, ◌%◌, List, [], ◌∷◌, Bool, false, ◌||◌, Option, Some, None, map, take, if◌then◌else◌}
use Rattle.std.specs.Ordering.{int_eq}
use Rattle.std.specs.Str.{bytes_eq}
use Rattle.lsp_messages.specs.declared.message.Id.{Id}
use Rattle.lsp_messages.specs.declared.message.Id.TheVariants.{Number, Name}
use Rattle.lookahead.specs.Roles.{role_of}
use Rattle.lookahead.specs.declared.role.Role.{Role}
use Rattle.lookahead.specs.declared.role.Role.TheVariants.{Request, Cancellation, Exit, Other}

-- ids are the same only within their kind
abbrev pub same_id : Id → Id → Bool
same_id (Number m) (Number n) = int_eq m n
same_id (Number m) (Name t) = false
same_id (Name s) (Number n) = false
same_id (Name s) (Name t) = bytes_eq s t

-- a cancellation of this id stands among these bodies, before any `exit`
abbrev pub is_cancelled : Id → List Role → Bool
is_cancelled id [] = false
is_cancelled id (Request other ∷ later) = is_cancelled id later
is_cancelled id (Cancellation other ∷ later) = same_id id other || is_cancelled id later
is_cancelled id (Exit ∷ later) = false
is_cancelled id (Other ∷ later) = is_cancelled id later

-- the id of a request that one of the bodies behind it cancels
abbrev pub cancelled_by : Role → List Role → Option Id
cancelled_by (Request id) later = if is_cancelled id later then Some id else None
cancelled_by (Cancellation id) later = None
cancelled_by Exit later = None
cancelled_by Other later = None

-- how many bodies make a group, at most
abbrev pub max_group : ℕ
max_group = 64

-- those of a group behind one body, which so many bodies of its piece stand before: groups are cut from the front
abbrev pub behind_in_group : {A : Type 0} → (place : ℕ) → List A → List A
behind_in_group place later = take (max_group - 1 - place % max_group) later

-- of each body from a place on the id by which its group cancels it, if it does
abbrev pub cancelled_from : (place : ℕ) → List Role → List (Option Id)
cancelled_from place [] = []
cancelled_from place (role ∷ later) = cancelled_by role (behind_in_group place later) ∷ cancelled_from (suc place) later

-- the same of all bodies that a piece completes
abbrev pub cancelled_in : List (List ℕ) → List (Option Id)
cancelled_in bodies = cancelled_from 0 (map role_of bodies)
