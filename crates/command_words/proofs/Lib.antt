pub mod NumberLaws  -- Which words are numbers
pub mod PositionalLaws  -- The words before the first `--` and those behind it
pub mod DifferentLaws  -- The different words of a list that grows at its end
pub mod ClapRuns  -- What clap finds in the words of commands
pub mod ClapLaws  -- What is found in the words of a command says of them
pub mod Naming  -- Which command a first word asks for
pub mod AheadWords  -- The two words `serve --ahead`
pub mod OneCommand  -- Words ask for one command
pub mod SomeCommand  -- Words ask for some command
