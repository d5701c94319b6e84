pub mod WorkLaws  -- How a command ends that works on files, or on a workspace made of a number, once its lines were printed or memory ran out
