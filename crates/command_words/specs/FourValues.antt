-- The values of four arguments, as the code reads them of what clap finds.
use Rattle.std.specs.Prelude.{◌≡◌, List, IsSome, MatchOption, Option, None, Some, codes}
use Rattle.clap.specs.Matches.{found_of}
use Rattle.clap.specs.Walk.{Row, first_of, rows_of}
use Rattle.clap.specs.declared.parser.matches.ArgMatches.{ArgMatches}
use Rattle.command_words.specs.declared.clap_words.FourWords.{FourWords}

-- each argument has a value
pub record HasEach (rows : List Row) : Type 0 where
  pub file : IsSome (first_of (codes "file") rows)
  pub line : IsSome (first_of (codes "line") rows)
  pub column : IsSome (first_of (codes "column") rows)
  pub name : IsSome (first_of (codes "name") rows)

-- and these are the values
pub record IsEach (rows : List Row) (four : FourWords) : Type 0 where
  pub file : first_of (codes "file") rows ≡ Some four.file
  pub line : first_of (codes "line") rows ≡ Some four.line
  pub column : first_of (codes "column") rows ≡ Some four.column
  pub name : first_of (codes "name") rows ≡ Some four.name

abbrev pub HasFourValues : Option ArgMatches → Type 0
HasFourValues found = MatchOption found (Unit {0}) (λ m. HasEach (rows_of (found_of m)))

-- the four that were found, exactly where something was found
abbrev pub AreFound : List Row → Option FourWords → Type 0
AreFound rows None = ⊥
AreFound rows (Some four) = IsEach rows four

abbrev pub AreValues : Option ArgMatches → Option FourWords → Type 0
AreValues found four = MatchOption found (four ≡ None) (λ m. AreFound (rows_of (found_of m)) four)
