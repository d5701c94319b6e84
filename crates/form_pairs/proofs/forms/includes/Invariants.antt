use Rattle.std.proofs.Common.{◌≡◌, drop}
use Rattle.std.specs.List.{list_any}
use Rattle.form_pairs.specs.Fronts.{is_included}
use Rattle.form_pairs.proofs.forms.includes.Given as goal

abbrev pub invariant-loop-form : goal.invariant-loop-form
invariant-loop-form l = list_any is_included l.forms ≡ list_any is_included (drop l.form-index l.forms)
