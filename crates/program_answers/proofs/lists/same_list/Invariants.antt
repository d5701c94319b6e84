use Rattle.std.proofs.Common.{◌≡◌, ◌<◌, ℕ, length, get_or}
use Rattle.ls_base.specs.declared.answers.Diagnostic.{Diagnostic}
use Rattle.program_answers.proofs.lists.same_list.Given as goal

-- those gone through are the same
abbrev pub invariant-loop-x : goal.invariant-loop-x
invariant-loop-x l = (k : ℕ) (d : Diagnostic) → k < length l.yielded → get_or l.a k d ≡ get_or l.b k d
