-- What is known of the numbers of definitions, and how slots are filled.
use Rattle.std.specs.Prelude.{◌≡◌, ℕ, List, ◌∷◌, ◌++◌, drop}
use Rattle.std.specs.BTreeMap.{get}
use Rattle.scheme_model.specs.Ident.{Ident as Identifier}
use Rattle.scheme_model.specs.Cores.{RuleLeaf}
use Rattle.scheme_model.specs.Substitution.{Table}
use Rattle.rename_model.specs.Walks.{Point, Slot, number_in, filled}
use Rattle.syntax_tree.specs.Names.{Names}
use Rattle.syntax_tree.specs.Macros.{IsIdent}
use Rattle.program_leaves.specs.Adds.{Adds}
use Rattle.program_leaves.specs.Placed.{global_cmp}
use Rattle.alpha_equal.specs.declared.numbers.Numbers.{Numbers}
use Rattle.alpha_equal.specs.declared.points.Point as code
use Rattle.alpha_equal.specs.Points.{IsPoint}

-- the numbers of the definitions of a table
abbrev pub KnowsNumbers : Names → Numbers → Table → Type 0
KnowsNumbers names numbers table = (u n : ℕ) (i : Identifier) → IsIdent names n i → get global_cmp numbers.by_ident (record { unit = u; ident = n }) ≡ number_in table u i

-- a slot was filled, and the next leaf is then another
pub record FillsOne (names : Names) (table : Table) (unit form : ℕ) (old new : List code.Point) (s : Slot) (ls : List RuleLeaf) (next after : ℕ) : Type 0 where
  pub here : List Point
  pub adds : Adds (IsPoint names unit form) old new here
  pub more : (rest : List Slot) → filled table (s ∷ rest) (drop next ls) ≡ here ++ filled table rest (drop after ls)

-- slots up to a place were filled with leaves up to another
pub record FilledTo (names : Names) (table : Table) (unit form : ℕ) (old new : List code.Point) (ss : List Slot) (ls : List RuleLeaf) (k next : ℕ) : Type 0 where
  pub so_far : List Point
  pub adds : Adds (IsPoint names unit form) old new so_far
  pub whole : so_far ++ filled table (drop k ss) (drop next ls) ≡ filled table ss ls
