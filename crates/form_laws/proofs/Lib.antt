pub mod Sides  -- Two sides of expansion over one kind of identifiers
pub mod AskedReaders  -- What is read of `cond-expand` depends on the libraries that it asks for alone, and what is read of a quasiquotation on the marks of the identifiers that it asks
pub mod SideSteps  -- Two sides of expansion, step by step
pub mod SideRuns  -- The forms of a body or a unit, gone through on two sides
pub mod SideExpressions  -- Expressions on two sides
pub mod Answering  -- A form at work in a state, expanded by its own answers and by what its surroundings give at the root alone
pub mod Bare  -- No look-up reads the times at which bodies were entered
pub mod Leaving  -- Where a form is at a moment in its surroundings, each step of it is at the next one; and what is read there is what the moment gives
pub mod AskingSides  -- A form with its questions, and the same form in other surroundings by its own answers and by what these give at the root, as two sides
pub mod OwnStates  -- A form at work, by what it has made and found since it began
pub mod OwnSide  -- A form expanded by its own answers, and by what is asked at the root, comes to what it comes to by counts
pub mod FormLaws  -- A form whose questions have the same answers in two surroundings comes to the same in both, but for the numbers of the unit's definitions
pub mod AskingAlike  -- A form with its questions, and the same form with its questions in other surroundings, as two sides
pub mod Beginnings  -- States in which a form may begin
pub mod QuestionRows  -- What small forms ask, computed
pub mod QuestionsMatter  -- Each question of a form matters
