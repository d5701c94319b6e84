-- A program with the trees that it is over, and the index of it.
use Rattle.std.specs.Prelude.{ℕ, List, Option, Some, None, refl}
use Rattle.std.specs.Coded.{Coded, code_by, coded×}
use Rattle.std.specs.List.Sorted.{IsStrictlySortedBy}
use Rattle.scheme_model.specs.IncludedUnits.{Placed}
use Rattle.scheme_model.specs.Program.{Program as ModelProgram}
use Rattle.scheme_model.specs.Requirements.{LibraryName}
use Rattle.syntax_tree.specs.declared.trees.Work.{Work}
use Rattle.syntax_tree.specs.contracts.trees.Work as work
use Rattle.core_tree.specs.Units.{ProgramStands}
use Rattle.core_tree.specs.declared.units.Program.{Program}
use Rattle.core_tree.specs.contracts.units.Program as program
use Rattle.program_leaves.specs.Formed.{AreFormedIn}
use Rattle.arrow_index.specs.Index.{IsIndexOf}
use Rattle.program_leaves.specs.Pairs.{pair_cmp}
use Rattle.arrow_index.specs.declared.index.Index.{Index}

pub record Seen : Type 0 where
  pub work : Work
  pub program : Program

-- it is stored as the pair of its fields
abbrev pub seen_code : Coded Seen
seen_code =
    code_by (Work × Program) (coded× work.the_row.coded program.the_row.coded) (λ s. (s.work, s.program)) (λ p. record { work = p.0; program = p.1 }) (λ _. refl)

-- ---- the index

-- its arrows are in order, and it is that of whatever the program stands for
pub record IsIndexFor (work : Work) (program : Program) (i : Index) : Type 0 where
  pub sorted : IsStrictlySortedBy pair_cmp i.arrows
  pub is : (text : LibraryName → List ℕ) (uris : List (List ℕ)) (all : List Placed) (p : ModelProgram) → ProgramStands work text uris all program p → IsIndexOf all p i

abbrev pub IsIndexIfSome : Work → Program → Option Index → Type 0
IsIndexIfSome work program None = Unit {0}
IsIndexIfSome work program (Some i) = IsIndexFor work program i

-- the forms of the units stand for something, and an index that is there is that of the program
pub record Holds (work : Work) (program : Program) (index : Option Index) : Type 0 where
  pub formed : AreFormedIn work program.units
  pub of_program : IsIndexIfSome work program index
