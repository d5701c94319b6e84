use Rattle.std.proofs.Common.{◌≡◌, ◌+◌, length, take, bytes_eq}
use Rattle.std.specs.List.{count_by}
use Rattle.ls_base.specs.declared.answers.Arrow.{Arrow}
use Rattle.generated_workspace.proofs.counting.add_arrows.Given as goal

-- those that lead to the document, among the arrows gone through
abbrev pub invariant-loop-arrow : goal.invariant-loop-arrow
invariant-loop-arrow l = length l.ranges ≡ length l.initial.ranges + count_by (λ (a : Arrow). bytes_eq a.to.uri l.uri) (take l.arrow-index l.arrows)
