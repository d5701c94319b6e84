-- A form that is carried from a program to the next, and what may be kept of it.
use Rattle.std.specs.Prelude.{◌≡◌, ℕ, List, Some, None}
use Rattle.scheme_model.specs.Declarations.{UnitForm}
use Rattle.scheme_model.specs.Program.{Prepared, prepare, units_of}
use Rattle.form_laws.specs.Begins.{Each}
use Rattle.renumbering_laws.specs.Renumbering.{Renumbering}
use Rattle.carried_forms.specs.Paired.{UnitPair, unit_pairs, renumbering}
use Rattle.carried_forms.specs.Worked.{WorkedForm, OpenDocument, read_documents, units_at_work, unit_texts}
use Rattle.carried_forms.specs.Carried.{worked_at}
use Rattle.carried_laws.specs.Entries.{Stays, kept_as}
use Rattle.carried_laws.specs.CarriedEntries.{came_to}
use Rattle.carried_laws.specs.Homes.{HomesGoOn}

abbrev pub pairs_between : (before after : List OpenDocument) → List UnitPair
pairs_between before after = unit_pairs (unit_texts before) (unit_texts after)

-- the numbers afterwards
abbrev pub numbers_between : (before after : List OpenDocument) → Renumbering
numbers_between before after = renumbering (pairs_between before after)

abbrev pub prepared_of : List OpenDocument → List Prepared
prepared_of ds = let all = units_of (read_documents ds) in prepare all 0 all

abbrev pub AllHomesGoOn : (before after : List OpenDocument) → Type 0
AllHomesGoOn before after = HomesGoOn (numbers_between before after) (prepared_of before) (prepared_of after) (pairs_between before after)

-- no form of a unit is included
abbrev pub AreOwn : List OpenDocument → Type 0
AreOwn ds = Each (λ (p : Prepared). Each (λ (f : UnitForm). f.home ≡ None) p.forms) (prepared_of ds)

-- the form with this number of this unit afterwards: which one it was, and that what that came to before may be kept, under its new numbers
pub record CarriedOver (before after : List OpenDocument) (c : ℕ × ℕ) : Type 0 where
  pub unit : ℕ
  pub form : ℕ
  pub old : WorkedForm
  pub new : WorkedForm
  pub was : worked_at (units_at_work (read_documents before)) unit form ≡ Some old
  pub is : worked_at (units_at_work (read_documents after)) c.0 c.1 ≡ Some new
  pub unit_after : (numbers_between before after).unit unit ≡ c.0
  pub form_after : (numbers_between before after).form unit form ≡ c.1
  pub stays : Stays c.0 (new.form, new.tree) (Some (kept_as (numbers_between before after) (came_to old))) new
