pub mod Agreeing  -- Two renumberings that make the same of what is around a form make the same of what it asks and of the answers
pub mod NumbersFollow  -- Where all numbers to which a renumbering leads in what a form asks, and in an answer, are kept by another, these are sent alike by each renumbering that sends such numbers so
pub mod FormsAgree  -- So they do of what a form leaves
pub mod UnitsAgree  -- So they do at each turn of each form of a unit, and of what the unit leaves
pub mod ProgramsAgree  -- So they do in a program, unit by unit
pub mod TablesAgree  -- Numbers that tables of an event tell agree with those of its pairs
pub mod AlikeFollow  -- A form that asks alike under some numbers does under each that sends numbers so wherever these lead to numbers of the program after
pub mod NumbersKept  -- A renumbering that keeps the numbers of a program, and no others
pub mod Following  -- A carried form asks alike under all numbers that follow those of its program's event
