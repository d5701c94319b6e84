pub mod Layers  -- An identifier of the table by what the code has of it, layer by layer
pub mod NoteLaws  -- A note more stands for a question more; and what is noted of an identifier by what the form's definitions have to do with it
pub mod OwnLaws  -- The form's own definitions, with one more
pub mod GrowLaws  -- Notes stand in a table of identifiers that has grown
