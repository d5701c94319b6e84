pub mod Results  -- The result of a unit that is worked on stays to the end
pub mod CarriedUnits  -- Work goes through each unit that has a carried form, and all its carried forms are kept whole
pub mod CarriedPrograms  -- A program that keeps all that has its answers keeps all carried forms whole, and stays within the work of the event
