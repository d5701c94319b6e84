-- What two programs of the code and a unit of both stand for.
use Rattle.std.specs.Prelude.{◌≡◌, ℕ, List, map, length}
use Rattle.scheme_model.specs.Cores.{Parts}
use Rattle.scheme_model.specs.Requirements.{LibraryName}
use Rattle.scheme_model.specs.IncludedUnits.{Placed}
use Rattle.scheme_model.specs.Program.{UnitResult, Program}
use Rattle.scheme_model.specs.ProgramArrows.{program_table}
use Rattle.syntax_tree.specs.declared.trees.Work.{Work}
use Rattle.core_tree.specs.Cores.{PartsStand}
use Rattle.core_tree.specs.Levels.{DefineOnTop}
use Rattle.core_tree.specs.Units.{UnitStands, ProgramStands, IsProgramOf}
use Rattle.core_tree.specs.declared.units.ExpandedItem.{ExpandedItem}
use Rattle.core_tree.specs.declared.units.Unit.{Unit as CodeUnit}
use Rattle.program_differences.specs.declared.both.Programs.{Programs}
use Rattle.program_differences.specs.declared.both.Both.{Both}
use Rattle.core_tree.specs.declared.units.Program.{Program as CodeProgram}
use Rattle.alpha_equal.specs.Filled.{KnowsNumbers}
use Rattle.program_differences.specs.Exported.{ExportsAreGiven}
use Rattle.program_differences.specs.Listed.{TellsApart, AreDistinct}

-- the documents have these uris, and libraries' names are written so
pub record BothStand (text : LibraryName → List ℕ) (uris : List (List ℕ)) (before after : List Placed) (c : Programs) (p q : Program) (b : Both) (r s : UnitResult) : Type 0 where
  pub old : UnitStands c.work.now text uris before p b.place b.old.now r
  pub new : UnitStands c.work.now text uris after q b.place b.new.now s
  pub count : length b.old.now.forms ≡ length b.new.now.forms

-- a unit stands for something
pub record IsUnitOf (work : Work) (place : ℕ) (c : CodeUnit) : Type 0 where
  pub text : LibraryName → List ℕ
  pub uris : List (List ℕ)
  pub all : List Placed
  pub p : Program
  pub r : UnitResult
  pub stand : UnitStands work text uris all p place c r

pub record AreBoth (c : Programs) (b : Both) : Type 0 where
  pub old : IsUnitOf c.work.now b.place b.old.now
  pub new : IsUnitOf c.work.now b.place b.new.now
  pub count : length b.old.now.forms ≡ length b.new.now.forms

pub record ProgramsStand (text : LibraryName → List ℕ) (uris : List (List ℕ)) (before after : List Placed) (c : Programs) (p q : Program) : Type 0 where
  pub old : ProgramStands c.work.now text uris before c.old.now p
  pub new : ProgramStands c.work.now text uris after c.new.now q

-- two programs stand for something
pub record AreStanding (c : Programs) : Type 0 where
  pub old : IsProgramOf c.work.now c.old.now
  pub new : IsProgramOf c.work.now c.new.now

-- the numbers of definitions are those of these programs
pub record AreNumbered (c : Programs) (p q : Program) : Type 0 where
  pub old : KnowsNumbers c.work.now.symbols c.old_numbers (program_table p)
  pub new : KnowsNumbers c.work.now.symbols c.new_numbers (program_table q)

-- the items of a form
pub record ItemsStand (work : Work) (unit form : ℕ) (items : List ExpandedItem) (ps : Parts) : Type 0 where
  pub parts : PartsStand work unit form (map (λ i. i.part) items) ps
  pub levels : DefineOnTop ps

pub record AreItems (work : Work) (items : List ExpandedItem) : Type 0 where
  pub unit : ℕ
  pub form : ℕ
  pub ps : Parts
  pub stand : ItemsStand work unit form items ps

-- two programs that can be compared
pub record AreComparable (work : Work) (old new : CodeProgram) : Type 0 where
  pub text : LibraryName → List ℕ
  pub uris : List (List ℕ)
  pub before : List Placed
  pub after : List Placed
  pub p : Program
  pub q : Program
  pub tells : TellsApart text p q
  pub distinct : AreDistinct uris
  pub old_stands : ProgramStands work text uris before old p
  pub new_stands : ProgramStands work text uris after new q
  pub old_given : ExportsAreGiven p
  pub new_given : ExportsAreGiven q
