use Rattle.std.proofs.Common.{◌≡◌, ℕ, List}
use Rattle.std.specs.List.{fold}
use Rattle.program_answers.specs.Updates.{list_at}
use Rattle.generated_workspace.specs.Known.{with_published}
use Rattle.generated_workspace.proofs.known.learn.Given as goal

-- the lists gone through are kept
abbrev pub invariant-loop-published : goal.invariant-loop-published
invariant-loop-published l = (uri : List ℕ) → list_at l.known uri ≡ fold with_published (list_at l.initial.known) l.yielded uri
