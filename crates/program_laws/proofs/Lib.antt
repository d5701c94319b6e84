pub mod Faults  -- Faults other than the end of the turns, and what tells such faults alone
pub mod Shapes  -- What is read from the shape of a core form is no larger than the form, and no reading ends the turns
pub mod Quasi  -- What a quasiquotation leaves to be evaluated is no larger than the datum, and no reading of one ends the turns
pub mod Rules  -- The rules of a macro are read and an instance is built within the turns, and an instance has so many nodes at most
pub mod Steps  -- Steps of an expansion, within macro uses that are left
pub mod Lists  -- What holds of each of a list, and of either branch of a test
pub mod Circles  -- What units import, directly or not, is closed
pub mod Runs  -- The forms of a body or a unit are gone through within the turns
pub mod Expressions  -- Expressions are expanded within the turns
pub mod Units  -- The forms of a unit are gone through and expanded within the turns
pub mod Model  -- The operations that substitute count macro uses alone, and keep trees as large as they are
pub mod Declared  -- The forms of a unit are no larger than the data of the documents
pub mod Programs  -- The forms of a program's units come to their ends within the turns
pub mod Codes  -- No diagnostic has the code of a fault that comes of the turns alone
pub mod Results  -- Each unit has a result
pub mod Written  -- A datum that was read from a text has at most two nodes for each token of the text
pub mod Texts  -- A text has at most as many tokens as characters, so its data are no larger than twice the text
mod Parts  -- Nothing comes of the program of a text that others include but its forms, and nothing is told of it
