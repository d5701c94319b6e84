use Rattle.std.proofs.Common.{ℕ, List}
use Rattle.scheme_model.specs.Requirements.{Known}
use Rattle.scheme_model.specs.IncludedUnits.{Placed}
use Rattle.scheme_model.specs.Program.{Prepared}
use Rattle.expansion_laws.proofs.SearchedPrograms.{unit_law, passed_law, front_passed_law, front_finished_law}
use Rattle.expansion_laws.proofs.laws.notes_are_searched.Goals as goal

pub returns : goal.returns
returns c = record {
  whole = λ (all : List Placed) (units : List Prepared) (known : Known) (n : ℕ) (p : Prepared). unit_law all units known n p;
  passed = λ (all : List Placed) (units : List Prepared) (known : Known) (n : ℕ) (p : Prepared). passed_law all units known n p;
  each_passed = λ (all : List Placed) (units : List Prepared) (known : Known) (n : ℕ) (p : Prepared) ready k. front_passed_law all units known n p ready k;
  each_finished = λ (all : List Placed) (units : List Prepared) (known : Known) (n : ℕ) (p : Prepared) ready k. front_finished_law all units known n p ready k;
}
