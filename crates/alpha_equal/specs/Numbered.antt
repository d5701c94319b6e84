-- The numbers of definitions of the code.
use Rattle.std.specs.Prelude.{ℕ, List, [], ◌∷◌, Option, Some, None, if◌then◌else◌}
use Rattle.core_tree.specs.declared.units.Unit.{Unit as CodeUnit}
use Rattle.program_leaves.specs.declared.sight.GlobalNo.{GlobalNo}
use Rattle.program_leaves.specs.Placed.{Given, same_global, units_given}

-- the number of an identifier once these definitions were made, of which the last counts
abbrev pub number_after : List Given → GlobalNo → Option ℕ → Option ℕ
number_after [] k before = before
number_after (d ∷ ds) k before = number_after ds k (if same_global (record { unit = d.unit; ident = d.binder.ident }) k then Some d.binder.number else before)

abbrev pub number_at : List CodeUnit → GlobalNo → Option ℕ
number_at us k = number_after (units_given 0 us) k None
