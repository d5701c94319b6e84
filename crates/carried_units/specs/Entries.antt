-- Entries of forms that are carried (R7RS 4.3, 5.3): what was kept of each has its answers where the form is worked on.
use Rattle.std.specs.Prelude.{◌≡◌, ℕ, List, Bool, Option, Some}
use Rattle.scheme_model.specs.Requirements.{Known}
use Rattle.scheme_model.specs.Program.{Prepared, enough_turns}
use Rattle.scheme_model.specs.ScopedExpansion.{ScopedState}
use Rattle.form_laws.specs.Begins.{Each}
use Rattle.kept_forms.specs.KeptPrograms.{Keeping}
use Rattle.forgotten_locals.specs.Ways.{forgetting, AtTurns}
use Rattle.forgotten_locals.specs.Programs.{UnitIsKept}
use Rattle.carried_forms.specs.Worked.{WorkedForm, WorkedUnit, OpenDocument, read_documents, units_at_work}
use Rattle.carried_forms.specs.Carried.{IsIn, carried}
use Rattle.carried_laws.specs.Entries.{HasAnswers}
use Rattle.answers_at_turns.specs.Had.{Had, HadStands, KeepsFirst, KeepsLater, AreKept}

pub record HasEntry (unit : ℕ) (program : Bool) (had : ℕ → Option Had) (g : WorkedForm) : Type 0 where
  pub entry : Had
  pub there : had g.form ≡ Some entry
  pub stands : HadStands unit program (g.form, g.tree) entry
  pub answers : HasAnswers (g.form, g.tree) entry.kept entry.first entry.later g

-- so it is of each of these forms that is carried
abbrev pub CarriedHave : (before after : List OpenDocument) → (unit : ℕ) → (program : Bool) → (ℕ → Option Had) → List WorkedForm → Type 0
CarriedHave before after u program had gs = Each (λ (g : WorkedForm). IsIn (u, g.form) (carried before after) → HasEntry u program had g) gs

-- of each unit of a program
abbrev pub AllHave : (before after : List OpenDocument) → (ℕ → ℕ → Option Had) → Type 0
AllHave before after had =
    Each (λ (w : WorkedUnit). Each (λ (g : WorkedForm). IsIn (w.number, g.form) (carried before after) → HasEntry w.number g.around.state.program (had w.number) g) w.forms) (units_at_work (read_documents after))

-- what is kept of a unit may be kept, and at each turn all is that has its answers there
pub record KeepsAnswers (known : Known) (keep : Keeping) (had : ℕ → ℕ → Option Had) (kept_first : ℕ → ℕ → Bool) (p : Prepared) (s : ScopedState) : Type 0 where
  pub kept : UnitIsKept (forgetting enough_turns) known keep p s
  pub first : AreKept (kept_first p.number) (keep p.number)
  pub turns : AtTurns (KeepsFirst (had p.number)) (KeepsLater (had p.number) (kept_first p.number)) (forgetting enough_turns) known (keep p.number) s
