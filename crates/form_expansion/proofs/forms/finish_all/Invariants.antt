use Rattle.std.proofs.Common.{◌≡◌, length}
use Rattle.form_expansion.specs.Forms.{Stays}
use Rattle.form_expansion.proofs.FormsFinished.{AreFinished, AllFrom}
use Rattle.form_expansion.proofs.forms.finish_all.Given as goal

abbrev pub invariant-loop-place : goal.invariant-loop-place
invariant-loop-place g l = record {
  finished : AreFinished l.bench l.fn.unit (length l.yielded) l.fn.declared.items l.forms;
  count : length l.forms ≡ length l.yielded;
  stays : Stays l.fn.bench l.bench;
  so : AllFrom l.fn.bench l.bench l.fn.unit l.fn.declared.items l.fn.total l.total (length l.yielded) l.fn.steps l.steps l.forms;
}
