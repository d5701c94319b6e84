-- The keeping of a program that keeps exactly the forms that are carried from the program before.
use Rattle.std.specs.Prelude.{ℕ, List, [], ◌∷◌, map, ◌==◌, ◌&&◌, Option, Some, None, if◌then◌else◌}
use Rattle.renumbering_laws.specs.Renumbering.{Renumbering}
use Rattle.kept_forms.specs.KeptForms.{KeptForm, FormOrKept}
use Rattle.kept_forms.specs.KeptPrograms.{Keeping}
use Rattle.carried_forms.specs.Paired.{UnitPair}
use Rattle.carried_forms.specs.Worked.{WorkedForm, WorkedUnit, OpenDocument, read_documents, units_at_work}
use Rattle.carried_forms.specs.Carried.{worked_at, both_alike}
use Rattle.carried_laws.specs.Entries.{kept_as}
use Rattle.carried_laws.specs.CarriedEntries.{came_to}
use Rattle.carried_laws.specs.CarriedOver.{numbers_between, pairs_between}

abbrev pub or_else : {X : Type 0} → Option X → Option X → Option X
or_else None o = o
or_else (Some x) o = Some x

abbrev pub came_over : Renumbering → Option WorkedForm → Option KeptForm
came_over r None = None
came_over r (Some f) = Some (kept_as r (came_to f))

-- of the form with a number afterwards, where it is one of these of a unit and asks alike
abbrev pub entry_in : Renumbering → (before after : List WorkedUnit) → UnitPair → (form : ℕ) → List (ℕ × ℕ) → Option KeptForm
entry_in r us vs p n [] = None
entry_in r us vs p n (q ∷ qs) =
    if (q.1 == n) && both_alike r (worked_at us p.before q.0) (worked_at vs p.after q.1) then came_over r (worked_at us p.before q.0) else entry_in r us vs p n qs

abbrev pub entry_by : Renumbering → (before after : List WorkedUnit) → List UnitPair → (unit form : ℕ) → Option KeptForm
entry_by r us vs [] u n = None
entry_by r us vs (p ∷ ps) u n = if p.after == u then or_else (entry_in r us vs p n p.forms) (entry_by r us vs ps u n) else entry_by r us vs ps u n

-- what a carried form came to before, under the new numbers; nothing of another form
abbrev pub carried_entry : (before after : List OpenDocument) → (unit form : ℕ) → Option KeptForm
carried_entry before after u n = entry_by (numbers_between before after) (units_at_work (read_documents before)) (units_at_work (read_documents after)) (pairs_between before after) u n

abbrev pub forms_worked : List WorkedUnit → ℕ → List WorkedForm
forms_worked [] u = []
forms_worked (w ∷ ws) u = if w.number == u then w.forms else forms_worked ws u

abbrev pub with_entry : (before after : List OpenDocument) → (unit : ℕ) → WorkedForm → FormOrKept
with_entry before after u g = record { form = g.form; tree = g.tree; kept = carried_entry before after u g.form }

abbrev pub carried_keeping : (before after : List OpenDocument) → Keeping
carried_keeping before after u = map (with_entry before after u) (forms_worked (units_at_work (read_documents after)) u)
