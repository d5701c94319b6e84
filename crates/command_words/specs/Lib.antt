pub mod Words  -- The words of a command line (POSIX.1-2017, XBD 12.2, guideline 10)
pub mod Numbers  -- Words that are numbers
pub mod Different  -- Words, each once
pub mod Commands  -- The commands that words ask for
pub mod ClapWords  -- What the code makes of the words of a command by `clap`
pub mod FourValues  -- The values of four arguments, as the code reads them of what clap finds
