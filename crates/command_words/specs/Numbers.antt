-- Words that are numbers.
use Rattle.std.specs.Prelude.{◌≡◌, ◌≤◌, ℕ, length}
use Rattle.std.specs.Str.Parse.{IsNumeral, digits_value}
use Rattle.command_words.specs.Words.{Word}

-- one to nine decimal digits, with the number that they write
pub record IsNumber (word : Word) (number : ℕ) : Type 0 where
  pub digits : IsNumeral 10 word
  pub short : length word ≤ 9
  pub value : number ≡ digits_value 10 word
