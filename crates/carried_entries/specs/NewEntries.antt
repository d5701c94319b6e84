-- Entries of forms that go on, under the numbers of the next program (R7RS 4.3, 5.3).
use Rattle.std.specs.Prelude.{◌≡◌, ℕ, List, Bool, Option, Some}
use Rattle.scheme_model.specs.Requirements.{Known}
use Rattle.scheme_model.specs.Program.{Prepared, enough_turns}
use Rattle.scheme_model.specs.ScopedExpansion.{ScopedState}
use Rattle.form_laws.specs.Begins.{Each}
use Rattle.renumbering_laws.specs.Renumbering.{Renumbering}
use Rattle.renumbering_laws.specs.NewSurroundings.{HasOldNumbers, around_new}
use Rattle.kept_forms.specs.KeptForms.{FormOrKept, form_of}
use Rattle.kept_forms.specs.Carried.{Onwards}
use Rattle.kept_forms.specs.KeptPrograms.{Keeping}
use Rattle.forgotten_locals.specs.Ways.{forgetting, unit_by, AtTurns}
use Rattle.forgotten_locals.specs.Programs.{UnitIsKept}
use Rattle.carried_forms.specs.Paired.{UnitPair}
use Rattle.carried_forms.specs.Worked.{WorkedForm, OpenDocument, read_documents, units_at_work}
use Rattle.carried_forms.specs.Carried.{IsIn, worked_at}
use Rattle.carried_laws.specs.Entries.{kept_as}
use Rattle.carried_laws.specs.CarriedOver.{pairs_between}
use Rattle.answers_at_turns.specs.Had.{Had, HadStands, FirstIs, LaterIs}
use Rattle.carried_units.specs.Entries.{HasEntry}

abbrev pub had_as : (r : Renumbering) → HasOldNumbers r → Had → Had
had_as r b h = record { kept = kept_as r h.kept; first = around_new r b h.first; later = around_new r b h.later }

-- a form of the program before goes on as one with this number in this unit
pub record GoesOn (before after : List OpenDocument) (q : UnitPair) (n : ℕ × ℕ) : Type 0 where
  pub unit : IsIn q (pairs_between before after)
  pub forms : IsIn n q.forms

-- each of these that was worked on had an entry with its answers
abbrev pub AllHad : (before after : List OpenDocument) → (ℕ → ℕ → Option Had) → Type 0
AllHad before after had =
    (q : UnitPair) (n : ℕ × ℕ) → GoesOn before after q n → (f : WorkedForm) → worked_at (units_at_work (read_documents before)) q.before n.0 ≡ Some f → HasEntry q.before f.around.state.program (had q.before) f

-- and has it under these numbers, which send it to where it goes on
pub record EntriesGoOn (before after : List OpenDocument) (r : Renumbering) (b : HasOldNumbers r) (had now : ℕ → ℕ → Option Had) : Type 0 where
  pub units : (q : UnitPair) (n : ℕ × ℕ) → GoesOn before after q n → r.unit q.before ≡ q.after
  pub forms : (q : UnitPair) (n : ℕ × ℕ) → GoesOn before after q n → r.form q.before n.0 ≡ n.1
  pub entries : (q : UnitPair) (n : ℕ × ℕ) → GoesOn before after q n → (h : Had) → had q.before n.0 ≡ Some h → now q.after n.1 ≡ Some (had_as r b h)

-- ---- what a program leaves

-- what this form has now stands for it
pub record HasNow (unit : ℕ) (program : Bool) (now : ℕ → Option Had) (x : FormOrKept) : Type 0 where
  pub entry : Had
  pub there : now x.form ≡ Some entry
  pub stands : HadStands unit program (form_of x) entry

-- what is kept of a unit may be kept; behind its turns each form has what came there, or what has its answers there
pub record LeavesEntries (known : Known) (keep : Keeping) (now : ℕ → ℕ → Option Had) (p : Prepared) (s : ScopedState) : Type 0 where
  pub kept : UnitIsKept (forgetting enough_turns) known keep p s
  pub turns : AtTurns (FirstIs (now p.number)) (LaterIs (now p.number)) (forgetting enough_turns) known (keep p.number) s
  pub entries : Onwards (λ fs t. Each (HasNow p.number s.program (now p.number)) (keep p.number)) (unit_by (forgetting enough_turns) known (keep p.number) s)
