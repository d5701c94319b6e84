-- Pairs of units as the code has them.
use Rattle.std.specs.Prelude.{◌≡◌, ◌+◌, ◌≤◌, ◌<◌, ℕ, List, [], ◌∷◌, length, slice_get, Option, Some, None}
use Rattle.form_pairs.specs.Fronts.{runs}
use Rattle.carried_forms.specs.Paired.{UnitText, UnitPair, form_pairs, pair_of, with_forms}
use Rattle.form_pairs.specs.Units.{forms_in, texts_at}
use Rattle.form_pairs.specs.declared.pairs.UnitPair as code
use Rattle.form_pairs.specs.declared.units.Side.{Side}
use Rattle.form_pairs.specs.declared.units.UnitText as text

abbrev pub pair_seen : code.UnitPair → UnitPair
pair_seen p = record { before = p.before; after = p.after; size = p.forms_after; forms = runs p.forms_before p.forms_after p.front p.end }

abbrev pub pair_there : Option code.UnitPair → List UnitPair
pair_there None = []
pair_there (Some p) = pair_seen p ∷ []

-- the pair of two units, if their forms allow it
abbrev pub pair_made : Side → Side → List UnitPair
pair_made b a = let fs = texts_at b.units.now b.unit in let gs = texts_at a.units.now a.unit in with_forms b.unit a.unit (length gs) (form_pairs fs gs)

-- the pair of the unit with a number, if there is such a unit, with one of those from a number on
abbrev pub pair_if : ℕ → Option UnitText → (from : ℕ) → List UnitText → List UnitPair
pair_if n None from vs = []
pair_if n (Some u) from vs = pair_of n u from vs

abbrev pub pair_from : List UnitText → ℕ → (from : ℕ) → List UnitText → List UnitPair
pair_from us n from vs = pair_if n (slice_get us n) from vs

abbrev pub pair_in : List UnitText → ℕ → List UnitText → List UnitPair
pair_in us n vs = pair_from us n 0 vs

-- it tells how many forms its units have, and no form goes on twice
pub record IsCounted (bs cs : List text.UnitText) (p : code.UnitPair) : Type 0 where
  pub forms_before : p.forms_before ≡ length (forms_in bs p.before)
  pub forms_after : p.forms_after ≡ length (forms_in cs p.after)
  pub before : p.front + p.end ≤ p.forms_before
  pub after : p.front + p.end ≤ p.forms_after
