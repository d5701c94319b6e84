pub mod ShownCarried  -- Carried forms and the work of an event in the notation of rows; and which forms would be carried if questions of one kind weren't asked
pub mod ShownPairs  -- Units that include texts, and their forms that go on, in the notation of rows
pub mod WorkLaws  -- The work of an event is at most the macro uses of the program that is there after it, and all of them where nothing was open before
pub mod PairLaws  -- The forms of a unit are paired in order, so no two of them get one number
pub mod UnitLaws  -- Units that go on are paired one to one, so no two units get one number
pub mod SameLaws  -- Where nothing changed, units and forms go on as themselves
pub mod CarriedLaws  -- The carried forms are exactly those that go on, were worked on and ask alike
pub mod ProgramUnits  -- The units of programs are told apart
pub mod AnswerLaws  -- Answers that are told to be the same are equal
pub mod NumberLaws  -- The numbers of pairs are a one to one renumbering that keeps the prelude, and what has the same answer up to them has it in surroundings under the new numbers
pub mod OldNumbers  -- The numbers of pairs tell the old ones
pub mod NewBeginnings  -- A form that may begin may begin under new numbers, and so may what it set aside
pub mod OtherNumbers  -- Where a unit doesn't go on, numbers that agree with the pairs may not give it the number of a unit that is new, computed
pub mod rows
