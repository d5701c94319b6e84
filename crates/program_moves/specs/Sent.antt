-- Where pairs of units send numbers.
use Rattle.std.specs.Prelude.{◌≡◌, ◌⊎◌, ℕ, ◌<◌, ◌≤◌, ◌+◌, ◌^◌, ◌==◌, List, [], ◌∷◌, map, slice_get, Option, Some, None, Bool, if◌then◌else◌}
use Rattle.std.specs.List.{list_any}
use Rattle.carried_forms.specs.Paired.{number_after, renumbering}
use Rattle.scheme_model.specs.Program.{prelude_unit}
use Rattle.renumbering_laws.specs.Renumbering.{Renumbering}
use Rattle.form_pairs.specs.Found.{pair_seen}
use Rattle.form_pairs.specs.declared.pairs.UnitPair.{UnitPair}
use Rattle.program_moves.specs.declared.tables.Home.{Home}

-- the renumbering that pairs tell
abbrev pub renumbering_of : List UnitPair → Renumbering
renumbering_of ps = renumbering (map pair_seen ps)

-- the new number of a form of a unit that goes on
abbrev pub number_in : UnitPair → ℕ → ℕ
number_in p f = number_after (p.forms_after + f) (pair_seen p).forms f

-- the number isn't among so many from this one on
abbrev pub Outside : (from count n : ℕ) → Type 0
Outside from count n = (n < from) ⊎ (from + count ≤ n)

-- the pair of a unit, if it goes on
abbrev pub pair_at : List UnitPair → ℕ → Option UnitPair
pair_at [] u = None
pair_at (p ∷ ps) u = if p.before == u then Some p else pair_at ps u

abbrev pub is_home : List Home → ℕ → Bool
is_home hs u = list_any (λ h. h.before == u) hs

-- the number is that of a form of the unit, where this goes on
abbrev pub IsForm : List UnitPair → (unit form : ℕ) → Type 0
IsForm ps u f = (p : UnitPair) → pair_at ps u ≡ Some p → f < p.forms_before

-- a unit's forms that go on are among its forms, before and after
pub record IsPaired (p : UnitPair) : Type 0 where
  pub before : p.front + p.end ≤ p.forms_before
  pub after : p.front + p.end ≤ p.forms_after
  pub few : p.forms_before + p.forms_after < 2 ^ 32

-- units that have a number go on as such, one to one
pub record ArePaired (ps : List UnitPair) : Type 0 where
  pub before : (i : ℕ) (p : UnitPair) → slice_get ps i ≡ Some p → p.before < prelude_unit
  pub after : (i : ℕ) (p : UnitPair) → slice_get ps i ≡ Some p → p.after < prelude_unit
  pub apart_before : (i j : ℕ) (p q : UnitPair) → slice_get ps i ≡ Some p → slice_get ps j ≡ Some q → p.before ≡ q.before → i ≡ j
  pub apart_after : (i j : ℕ) (p q : UnitPair) → slice_get ps i ≡ Some p → slice_get ps j ≡ Some q → p.after ≡ q.after → i ≡ j
  pub forms : (i : ℕ) (p : UnitPair) → slice_get ps i ≡ Some p → IsPaired p

-- units in which included forms are at home, one to one, and no other unit goes on as one of them
pub record AreHomes (ps : List UnitPair) (hs : List Home) : Type 0 where
  pub before : (i : ℕ) (h : Home) → slice_get hs i ≡ Some h → h.before < prelude_unit
  pub after : (i : ℕ) (h : Home) → slice_get hs i ≡ Some h → h.after < prelude_unit
  pub apart_before : (i j : ℕ) (h k : Home) → slice_get hs i ≡ Some h → slice_get hs j ≡ Some k → h.before ≡ k.before → i ≡ j
  pub apart_after : (i j : ℕ) (h k : Home) → slice_get hs i ≡ Some h → slice_get hs j ≡ Some k → h.after ≡ k.after → i ≡ j
  pub alone : (i : ℕ) (h : Home) → slice_get hs i ≡ Some h → (u : ℕ) → u ≤ prelude_unit → (renumbering_of ps).unit u ≡ h.after → u ≡ h.before
