pub mod WorkOutcome  -- How a command ends that works on files, or on a workspace made of a number, and prints the lines of its work
