-- What callers see of a deframer.
use Rattle.std.specs.Prelude.{◌≡◌, ℕ, ◌+◌, ◌<◌, List, Option, Some, None, IsSomeAnd, length}
use Rattle.ls_base.specs.Frames.{max_header, max_body, End, rest, fault, IsFrames}
use Rattle.lsp_framing.specs.Machine.{kind_of}
use Rattle.lsp_framing.specs.declared.deframer.Halt.{Halt}
use Rattle.lsp_framing.specs.declared.deframer.Halt.TheVariants as halt

-- how the bytes that were taken end, which nothing says once memory ran out, and how many they are
pub record Deframed : Type 0 where
  pub end : Option End
  pub taken : ℕ

-- a deframer took these bytes and gave these bodies
pub record After (past : List ℕ) (bodies : List (List ℕ)) (d : Deframed) : Type 0 where
  pub frames : IsSomeAnd d.end (IsFrames past bodies)
  pub count : length past ≡ d.taken

-- what is seen where bytes are kept, or where the deframer halted
abbrev pub end_of : Option Halt → List ℕ → Option End
end_of None kept = Some (rest kept)
end_of (Some halt.Memory) kept = None
end_of (Some (halt.Fault wrong offset)) kept = Some (fault (kind_of wrong) offset)

-- so many bytes of an unfinished frame are kept
abbrev pub Keeps : Option End → ℕ → Type 0
Keeps (Some (rest kept)) count = (count ≡ length kept) × (count < max_header + max_body)
Keeps (Some (fault kind offset)) count = count ≡ 0
Keeps None count = count ≡ 0
