use Rattle.std.proofs.Common.{◌≡◌, drop, length}
use Rattle.std.specs.Str.{bytes_eq}
use Rattle.carried_forms.specs.Alike.{same_trees}
use Rattle.form_pairs.specs.Trees.{parts_as}
use Rattle.form_pairs.proofs.same.+same.Given as goal

abbrev pub invariant-are_same-loop-k : goal.invariant-are_same-loop-k
invariant-are_same-loop-k l =
    (length l.a ≡ length l.b) × (same_trees bytes_eq (parts_as l.first l.a) (parts_as l.other l.b) ≡ same_trees bytes_eq (parts_as l.first (drop l.k l.a)) (parts_as l.other (drop l.k l.b)))
