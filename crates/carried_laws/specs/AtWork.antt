-- A form of a unit at work, at both of its turns.
use Rattle.std.specs.Prelude.{◌≡◌, ℕ}
use Rattle.scheme_model.specs.Program.{enough_turns}
use Rattle.scheme_model.specs.FormsAlike.{set_aside, start}
use Rattle.form_laws.specs.Begins.{Each, FormBegins, RestBegins}
use Rattle.kept_forms.specs.KeptForms.{counts_at}
use Rattle.kept_forms.specs.Carried.{no_counts}
use Rattle.carried_forms.specs.Worked.{WorkedForm, WorkedUnit}

-- it may begin where its turn comes, and has counted nothing yet; and so may what it set aside where its turn comes again, when it has counted
-- what it had then
pub record IsAtWork (unit : ℕ) (f : WorkedForm) : Type 0 where
  pub unit_first : f.around.state.unit ≡ unit
  pub form_first : f.around.state.form ≡ f.form
  pub new : start f.around.state ≡ no_counts
  pub begun : FormBegins f.around f.tree
  pub set : f.left ≡ (set_aside f.around enough_turns f.tree).0.left
  pub unit_later : f.later.state.unit ≡ unit
  pub form_later : f.later.state.form ≡ f.form
  pub rest : RestBegins f.later f.left
  pub counts : start f.later.state ≡ counts_at f.form (set_aside f.around enough_turns f.tree).1

abbrev pub AreAtWork : WorkedUnit → Type 0
AreAtWork w = Each (IsAtWork w.number) w.forms
