use Rattle.scheme_model.specs.Meaning.{Standard}
use Rattle.scheme_model.specs.ScopedProgram.{scoped_work, scoped_before}
use Rattle.mentioned_units.proofs.WorkedUnits.{work_stays, prelude_stays, macros_stay, units_nothing, starts}
use Rattle.mentioned_units.proofs.laws.other_units_stay.Goals as goal

pub returns : goal.returns
returns c = record {
  stay = λ all units known n m u h. work_stays all units known m (scoped_work all units known n scoped_before) u h;
  prelude = λ all units known n. prelude_stays all units known n scoped_before;
  standard = λ all units known n x. macros_stay all units known (Standard x) tt n scoped_before;
  nothing = λ all units known n u h ne. units_nothing all units known n u h ne;
  starts = λ mask all there units others known knows n m p q r r2 fault number program imports same. starts mask all there units others known knows n m p q r r2 fault number program imports same;
}
