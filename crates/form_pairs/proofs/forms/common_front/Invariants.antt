use Rattle.std.proofs.Common.{◌≡◌, ◌+◌, drop}
use Rattle.form_pairs.specs.Fronts.{front_of}
use Rattle.form_pairs.proofs.forms.common_front.Given as goal

abbrev pub invariant-loop-n : goal.invariant-loop-n
invariant-loop-n l = front_of l.a l.b ≡ l.n + front_of (drop l.n l.a) (drop l.n l.b)
