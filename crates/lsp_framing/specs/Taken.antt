-- What a piece of a stream makes of the frame that is being read.
use Rattle.std.specs.Prelude.{◌≡◌, ℕ, ◌+◌, ◌<◌, ◌≤◌, List, [], ◌++◌, Option, Some, None, Result, Ok, Err, length, take, drop, map, Vec, slice_index}
use Rattle.std.specs.List.{AllByRecursion}
use Rattle.std.specs.Global.{Global}
use Rattle.ls_base.specs.Frames.{Frame, IsFrame, stream, bodies_of}
use Rattle.lsp_framing.specs.Machine.{next}
use Rattle.lsp_framing.specs.Standing.{InHeader, Open, Stands, kept_bytes}
use Rattle.lsp_framing.specs.declared.header.HeaderState.{HeaderState}
use Rattle.lsp_framing.specs.declared.header.Wrong.{Wrong}
use Rattle.lsp_framing.specs.declared.partial.Partial.{Partial}
use Rattle.lsp_framing.specs.declared.partial.Stop.{Stop}
use Rattle.lsp_framing.specs.declared.partial.Stop.TheVariants as stop

-- the bytes of each body
abbrev pub contents : List (Vec ℕ Global) → List (List ℕ)
contents = map (λ v. v.items)

-- of the kept bytes and some more these whole frames were given, and a frame that isn't whole is kept
pub record Goes (old : Partial) (more : List ℕ) (frames : List Frame) (new : Partial) : Type 0 where
  pub each : AllByRecursion IsFrame frames
  pub text : kept_bytes old ++ more ≡ stream frames (kept_bytes new)
  pub stands : Stands new

-- of the kept bytes and some more these whole frames were given, and the next byte is wrong
pub record Breaks (old : Partial) (more : List ℕ) (frames : List Frame) (byte : ℕ) (wrong : Wrong) : Type 0 where
  pub each : AllByRecursion IsFrame frames
  pub place : HeaderState
  pub header : List ℕ
  pub text : kept_bytes old ++ more ≡ stream frames header
  pub inside : InHeader place header []
  pub refused : next place (length header) byte ≡ Err wrong

-- a byte was wrong, and so
abbrev pub IfWrong : {A : Type 0} → Result A Stop → (Wrong → ℕ → Type 0) → Type 0
IfWrong (Ok x) P = Unit {0}
IfWrong (Err stop.Memory) P = Unit {0}
IfWrong (Err (stop.Wrong wrong at)) P = P wrong at

-- some bytes of a piece were taken, from a place on, or the byte there is wrong
abbrev pub Advances : Result ℕ Stop → List ℕ → ℕ → Partial → Partial → Type 0
Advances (Ok count) piece at old new =
    (0 < count) × (at + count ≤ length piece) × Open new × (kept_bytes new ≡ kept_bytes old ++ take count (drop at piece))
Advances (Err stop.Memory) piece at old new = Unit {0}
Advances (Err (stop.Wrong wrong here)) piece at old new =
    (here ≡ at) × (place : HeaderState) × InHeader place old.header.items old.body.items × (next place (length old.header.items) (slice_index piece at) ≡ Err wrong)

-- a body is whole and is given, and then nothing of a frame is kept; or it isn't, and all stays
abbrev pub Finishes : Option (Vec ℕ Global) → Partial → Partial → Type 0
Finishes None old new = Stands new × (kept_bytes new ≡ kept_bytes old)
Finishes (Some body) old new =
    IsFrame (record { header = old.header.items; body = body.items }) × (body.items ≡ old.body.items) × Stands new × (kept_bytes new ≡ [])

-- a piece was taken, or a byte of it is wrong; bodies were added to those that were given
abbrev pub Takes : Result (Unit {0}) Stop → List ℕ → Partial → Partial → List (Vec ℕ Global) → List (Vec ℕ Global) → Type 0
Takes (Ok _) piece old new given more = (gs : List Frame) × Goes old piece gs new × (contents more ≡ contents given ++ bodies_of gs)
Takes (Err stop.Memory) piece old new given more = Unit {0}
Takes (Err (stop.Wrong wrong at)) piece old new given more =
    (at < length piece) × (gs : List Frame) × Breaks old (take at piece) gs (slice_index piece at) wrong × (contents more ≡ contents given ++ bodies_of gs)
