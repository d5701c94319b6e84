-- What a form that was worked on came to, as an entry; and keepings that keep all of some forms.
use Rattle.std.specs.Prelude.{◌≡◌, ℕ, List, Option, Some, None, Result, Ok, Err}
use Rattle.scheme_model.specs.Ident.{Ident}
use Rattle.scheme_model.specs.Steps.{Broken}
use Rattle.scheme_model.specs.Order.{Left}
use Rattle.scheme_model.specs.Substitution.{definition_count}
use Rattle.scheme_model.specs.Program.{enough_turns}
use Rattle.form_laws.specs.Begins.{Each}
use Rattle.kept_forms.specs.KeptForms.{KeptAside, KeptParts, KeptForm, FormOrKept}
use Rattle.kept_forms.specs.Carried.{kept_aside, kept_parts, kept_form}
use Rattle.kept_forms.specs.KeptPrograms.{Keeping}
use Rattle.carried_forms.specs.Worked.{WorkedForm}
use Rattle.carried_forms.specs.Carried.{IsIn}

-- ---- what a form came to

-- nothing is expanded of a form that was broken when it was gone through
abbrev pub rest_came_to : WorkedForm → Result (Left Ident) Broken → Option KeptParts
rest_came_to f (Ok l) = Some (kept_parts f.later enough_turns (definition_count f.around.state.table f.around.state.unit) l)
rest_came_to f (Err e) = None

abbrev pub came_to : WorkedForm → KeptForm
came_to f = kept_form (kept_aside f.around enough_turns f.tree) (rest_came_to f f.left)

-- ---- keepings that leave nothing to be worked

abbrev pub IsWhole : KeptAside → Option KeptParts → Type 0
IsWhole a (Some c) = Unit {0}
IsWhole a None = (e : Broken) × (a.pass.left ≡ Err e)

abbrev pub IsKeptWhole : Option KeptForm → Type 0
IsKeptWhole None = ⊥
IsKeptWhole (Some k) = IsWhole k.aside k.parts

-- of all these forms, by their units and numbers
abbrev pub KeepsAll : List (ℕ × ℕ) → Keeping → Type 0
KeepsAll cs keep = (n : ℕ) → Each (λ (x : FormOrKept). IsIn (n, x.form) cs → IsKeptWhole x.kept) (keep n)
