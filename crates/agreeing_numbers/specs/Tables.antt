-- Numbers that tables of an event tell, where included forms that go on keep their numbers at home (R7RS 4.1.7, 5.1).
use Rattle.std.specs.Prelude.{◌≡◌, ◌<◌, ◌≤◌, ℕ, List, length, slice_get, Bool, true, false, Some}
use Rattle.scheme_model.specs.declared.Home.{Home}
use Rattle.scheme_model.specs.Declarations.{UnitForm, is_part_kind}
use Rattle.scheme_model.specs.Program.{Prepared, prelude_unit}
use Rattle.renumbering_laws.specs.Renumbering.{Renumbering}
use Rattle.carried_forms.specs.Worked.{OpenDocument}
use Rattle.carried_laws.specs.CarriedOver.{numbers_between, prepared_of}

-- a unit has a form with this number
abbrev pub HasForm : List OpenDocument → (unit form : ℕ) → Type 0
HasForm ds u f = (p : Prepared) × (slice_get (prepared_of ds) u ≡ Some p) × (f < length p.forms)

-- a unit includes a form that is at home there
abbrev pub Includes : List OpenDocument → Home → Type 0
Includes ds h = (u : ℕ) × (p : Prepared) × (slice_get (prepared_of ds) u ≡ Some p) × ((n : ℕ) × (f : UnitForm) × (slice_get p.forms n ≡ Some f) × (f.home ≡ Some h))

-- what isn't one of these homes gets the number that the pairs tell, and so do its forms; homes are parts, and where forms are at home there
-- the pairs tell the same
pub record FollowsPairs (before after : List OpenDocument) (is_home : ℕ → Bool) (q : Renumbering) : Type 0 where
  pub units : (u : ℕ) → u ≤ prelude_unit → is_home u ≡ false → q.unit u ≡ (numbers_between before after).unit u
  pub forms : (u f : ℕ) → u < prelude_unit → is_home u ≡ false → HasForm before u f → q.form u f ≡ (numbers_between before after).form u f
  pub prelude : is_home prelude_unit ≡ false
  pub prelude_form : q.form prelude_unit 0 ≡ 0
  pub parts : (u : ℕ) (p : Prepared) → is_home u ≡ true → slice_get (prepared_of before) u ≡ Some p → is_part_kind p.placed.source.kind ≡ true
  pub homes : (u : ℕ) → is_home u ≡ true → q.unit u ≡ (numbers_between before after).unit u
  pub at_home : (h : Home) → is_home h.unit ≡ true → Includes before h → q.form h.unit h.form ≡ (numbers_between before after).form h.unit h.form
