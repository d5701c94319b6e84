use Rattle.std.proofs.Common.{◌≡◌, ◌+◌, drop}
use Rattle.std.specs.Prelude.{reverse}
use Rattle.form_pairs.specs.Fronts.{front_of}
use Rattle.form_pairs.proofs.forms.common_end.Given as goal

abbrev pub invariant-loop-n : goal.invariant-loop-n
invariant-loop-n l = front_of (reverse l.a) (reverse l.b) ≡ l.n + front_of (drop l.n (reverse l.a)) (drop l.n (reverse l.b))
