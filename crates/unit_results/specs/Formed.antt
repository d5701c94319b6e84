-- Units that were expanded, whose forms stand for something of the definitions (R7RS 5.1).
use Rattle.std.specs.Prelude.{◌≡◌, ℕ, List, slice_get, Option, Some}
use Rattle.syntax_tree.specs.declared.trees.Work.{Work}
use Rattle.program_leaves.specs.Formed.{IsFormed}
use Rattle.unit_imports.specs.declared.expanded.Expanded.{Expanded}

-- those of the units that were expanded, each at its place
abbrev pub CameFormed : Work → List (Option Expanded) → Type 0
CameFormed work all = (n : ℕ) (e : Expanded) → slice_get all n ≡ Some (Some e) → IsFormed work n e.forms
