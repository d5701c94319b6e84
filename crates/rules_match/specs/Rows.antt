-- Rows of trees: the parts and the tail of a list or a vector.
use Rattle.std.specs.Prelude.{ℕ, Option}
use Rattle.scheme_model.specs.declared.Occ.{Occ}
use Rattle.scheme_model.specs.Trees.{list, Trees, Tail}
use Rattle.scheme_model.specs.Ident.{Ident as Identifier}
use Rattle.syntax_tree.specs.Looks.{PartsStand, EndStands, PartsWithin, EndWithin, AllNamed, EndNamed}
use Rattle.syntax_tree.specs.Works.{StandsFor}
use Rattle.syntax_tree.specs.declared.trees.Work.{Work}
use Rattle.syntax_tree.specs.declared.trees.nodes.Tree as number
use Rattle.syntax_tree.specs.declared.trees.table.Region.{Region}
use Rattle.rules_match.specs.declared.row.Row.{Row}

-- the numbers stand for these parts and this tail
pub record IsRow (work : Work) (row : Row) (ts : Trees Identifier) (end : Tail Identifier) : Type 0 where
  pub parts : PartsStand work row.items.now ts
  pub tail : EndStands work row.end end

-- the numbers stand
abbrev pub RowStands : Work → Row → Type 0
RowStands work row = (ts : Trees Identifier) × ((end : Tail Identifier) × IsRow work row ts end)

-- they stand for trees that are at most so deep
pub record RowWithin (work : Work) (row : Row) (depth : ℕ) : Type 0 where
  pub parts : PartsWithin work row.items.now depth
  pub tail : EndWithin work row.end depth

-- the row is that of a list of this number
pub record IsListRow (work : Work) (form : number.Tree) (row : Row) (ts : Trees Identifier) (end : Tail Identifier) : Type 0 where
  pub place : Option Occ
  pub whole : StandsFor work form (list ts end place)
  pub stands : IsRow work row ts end

-- the list stands
abbrev pub ListStands : Work → number.Tree → Row → Type 0
ListStands work form row = (ts : Trees Identifier) × ((end : Tail Identifier) × IsListRow work form row ts end)

-- nodes of the region may name the parts and the tail
abbrev pub RowNamed : Work → Region → Row → Type 0
RowNamed work region row = AllNamed work region row.items.now × EndNamed work region row.end
