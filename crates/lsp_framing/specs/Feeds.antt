-- What a deframer answers to a piece, and what it is then.
use Rattle.std.specs.Prelude.{◌≡◌, ℕ, List, [], ◌++◌, Option, Some, None, Result, Ok, Err, Vec}
use Rattle.std.specs.Global.{Global}
use Rattle.ls_base.specs.Frames.{End, rest, fault, Fault, fault_number}
use Rattle.lsp_framing.specs.Taken.{contents}
use Rattle.lsp_framing.specs.Deframed.{Deframed, After}
use Rattle.lsp_framing.specs.Machine.{kind_of}
use Rattle.lsp_framing.specs.declared.deframer.Halt.{Halt}
use Rattle.lsp_framing.specs.declared.deframer.Halt.TheVariants as halt
use Rattle.lsp_framing.specs.declared.deframer.FrameFault.{FrameFault}
use Rattle.lsp_framing.specs.declared.deframer.FrameFault.TheVariants as frame_fault

-- what is answered after a halt
abbrev pub fault_again : Halt → FrameFault
fault_again halt.Memory = frame_fault.Memory
fault_again (halt.Fault wrong offset) = frame_fault.At (fault_number (kind_of wrong)) offset []

-- a fact of the bodies that an answer gives, also beside a fault; no body is given where memory ran out
abbrev pub IfGiven : Result (List (Vec ℕ Global)) FrameFault → (List (List ℕ) → Type 0) → Type 0
IfGiven (Ok items) P = P (contents items)
IfGiven (Err frame_fault.Memory) P = Unit {0}
IfGiven (Err (frame_fault.At number offset done)) P = P (contents done)

-- a piece was taken and bodies were given: whatever was taken and given before, both are the longer by them
abbrev pub Feeds : Deframed → List ℕ → List (List ℕ) → Deframed → Type 0
Feeds old piece given new = (past : List ℕ) (bodies : List (List ℕ)) → After past bodies old → After (past ++ piece) (bodies ++ given) new

-- how the bytes end where this is answered
abbrev pub EndsAs : Result (List (Vec ℕ Global)) FrameFault → Option End → Type 0
EndsAs (Ok items) end = (kept : List ℕ) × (end ≡ Some (rest kept))
EndsAs (Err frame_fault.Memory) end = end ≡ None
EndsAs (Err (frame_fault.At number offset done)) end = (kind : Fault) × (end ≡ Some (fault kind offset)) × (number ≡ fault_number kind)

-- what is answered where the bytes hold all these bodies, and end so, and these bodies were given before
abbrev pub Answers : Result (List (Vec ℕ Global)) FrameFault → List (List ℕ) → List (List ℕ) → End → Type 0
Answers (Ok items) before all (rest kept) = all ≡ before ++ contents items
Answers (Ok items) before all (fault kind at) = ⊥
Answers (Err frame_fault.Memory) before all end = Unit {0}
Answers (Err (frame_fault.At number offset done)) before all (rest kept) = ⊥
Answers (Err (frame_fault.At number offset done)) before all (fault kind at) =
    (number ≡ fault_number kind) × (offset ≡ at) × (all ≡ before ++ contents done)
