-- The bodies that a piece of a stream completes, each beside the id by which it is cancelled (LSP 3.17, "Cancellation Support").
use Rattle.std.specs.Prelude.{◌≡◌, ℕ, List, [], ◌∷◌, ◌++◌, Option, Some, None, map, zip}
use Rattle.lsp_messages.specs.declared.message.Id.{Id}
use Rattle.lookahead.specs.Cancelled.{cancelled_in}
use Rattle.lookahead.specs.declared.looking.Looking.{Looking}
use Rattle.lookahead.specs.declared.looking.Looking.TheVariants.{Ahead, OneByOne}
use Rattle.lookahead.specs.declared.window.Next.{Next}

-- a body, and the id of the request that it is, where that is cancelled
abbrev pub Looked : Type 0
Looked = List ℕ × Option Id

-- a body that isn't cancelled
abbrev pub uncancelled : List ℕ → Looked
uncancelled body = (body, None)

-- the bodies of one piece: looked at ahead, one can cancel another before it; looked at one by one, none can
abbrev pub looked : Looking → List (List ℕ) → List Looked
looked Ahead bodies = zip bodies (cancelled_in bodies)
looked OneByOne bodies = map uncancelled bodies

-- ---- bodies that are given out one after another

-- those that a window holds, and those behind it; without a window none is cancelled
abbrev pub left_in : Option (List (List ℕ)) → List (List ℕ) → List Looked
left_in None rest = looked OneByOne rest
left_in (Some held) rest = looked Ahead held ++ looked Ahead rest

-- what is given out
abbrev pub shown : Next → Looked
shown next = (next.body.items, next.cancelled)

-- the first is given out, or there is none
abbrev pub Gives : List Looked → Option Next → List Looked → Type 0
Gives [] None left = left ≡ []
Gives [] (Some next) left = ⊥
Gives (first ∷ later) None left = ⊥
Gives (first ∷ later) (Some next) left = (shown next ≡ first) × (left ≡ later)
