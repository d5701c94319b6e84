use Rattle.std.proofs.Common.{◌≡◌, ℕ, ◌-◌, suc, vec_len}
use Rattle.scope_env.specs.Marks.{marked}
use Rattle.scope_env.proofs.marks.Marks.add.Given as goal

abbrev pub invariant-loop-self : goal.invariant-loop-self
invariant-loop-self l = (n : ℕ) → marked l.self n ≡ marked l.initial.self n

abbrev pub decreases-loop-self : goal.decreases-loop-self
decreases-loop-self l = suc l.number - vec_len l.self.marks
