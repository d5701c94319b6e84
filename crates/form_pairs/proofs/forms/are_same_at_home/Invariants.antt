use Rattle.std.proofs.Common.{◌≡◌, drop}
use Rattle.carried_forms.specs.Alike.{same_list}
use Rattle.carried_forms.specs.Paired.{is_same_at_home}
use Rattle.form_pairs.specs.Units.{texts_at}
use Rattle.form_pairs.proofs.forms.are_same_at_home.Given as goal

abbrev pub invariant-loop-k : goal.invariant-loop-k
invariant-loop-k l =
    same_list is_same_at_home (texts_at l.before.units.now l.before.unit) (texts_at l.after.units.now l.after.unit)
    ≡ same_list is_same_at_home (drop l.k (texts_at l.before.units.now l.before.unit)) (drop l.k (texts_at l.after.units.now l.after.unit))
