-- What a form has defined in its unit by a moment (R7RS 5.3) is the end of what it has defined later: so a moment is told by how many
-- definitions there are.
use Rattle.std.specs.Prelude.{◌≡◌, ℕ, suc, List, [], ◌∷◌, ◌++◌, length, if◌then◌else◌}
use Rattle.scheme_model.specs.Substitution.{Table}
use Rattle.scheme_model.specs.Questions.{Moment}
use Rattle.forgotten_locals.specs.Outside.{macros_outside}

abbrev pub IsEnd : {X : Type 0} → List X → List X → Type 0
IsEnd {X} xs ys = (zs : List X) × (ys ≡ zs ++ xs)

abbrev pub keyword_count : Table → ℕ
keyword_count [] = 0
keyword_count (d ∷ ds) = if d.keyword then suc (keyword_count ds) else keyword_count ds

-- this moment is before that one, or is it, and has one macro that isn't local for each keyword that the form has defined by then
pub record IsBefore (n m : Moment) : Type 0 where
  pub table : IsEnd n.table m.table
  pub macros : IsEnd (macros_outside n.macros) (macros_outside m.macros)
  pub counts : length (macros_outside n.macros) ≡ keyword_count n.table
