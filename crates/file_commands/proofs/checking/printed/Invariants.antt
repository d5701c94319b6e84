use Rattle.std.proofs.Common.{◌≡◌, ◌++◌, ◌||◌, map}
use Rattle.std.specs.String.{string_bytes}
use Rattle.program_answers.specs.Updates.{entries_shown}
use Rattle.file_commands.specs.Checking.{printed}
use Rattle.file_commands.proofs.FileLaws.{shown}
use Rattle.file_commands.proofs.checking.printed.Given as goal

-- what is printed so far, with what is of the lists that are left
abbrev pub invariant-loop-name : goal.invariant-loop-name
invariant-loop-name l = record {
  lines : string_bytes l.text ++ (printed (map shown l.name-iterator)).lines ≡ (printed (entries_shown l.lists)).lines;
  error : (l.error || (printed (map shown l.name-iterator)).has_error) ≡ (printed (entries_shown l.lists)).has_error;
}
