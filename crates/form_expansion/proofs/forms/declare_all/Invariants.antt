use Rattle.std.proofs.Common.{◌≡◌, ◌+◌, ◌≤◌, length}
use Rattle.form_expansion.specs.Forms.{used_by, Stays}
use Rattle.form_expansion.proofs.FormsHold.{Holds, PassedFrom}
use Rattle.form_expansion.proofs.forms.declare_all.Given as goal

abbrev pub invariant-loop-place : goal.invariant-loop-place
invariant-loop-place g l = record {
  holds : Holds l.bench l.unit l.all.items;
  count : length l.all.items ≡ l.place;
  within : l.place ≤ length l.forms;
  few : l.total ≤ 700000;
  stays : Stays l.fn.bench l.bench;
  so : PassedFrom l.fn.bench l.bench l.unit l.total l.place l.forms l.all.items;
  steps : l.steps ≡ l.fn.steps + used_by l.all.items;
}
