use Rattle.std.proofs.Common.{◌≡◌}
use Rattle.std.specs.Iterator.Adapters.{zip_first, zip_second}
use Rattle.std.specs.List.{fold, zip}
use Rattle.std.specs.Slice.Iter.{iter_rest}
use Rattle.program_answers.specs.Updates.{entries_shown}
use Rattle.file_commands.specs.Checking.{bytes_in, with_file}
use Rattle.file_commands.proofs.checking.add_unopened.Given as goal

-- with those of the files that are left the lists are those of all
abbrev pub invariant-loop-name : goal.invariant-loop-name
invariant-loop-name l =
    fold with_file (entries_shown l.lists) (zip (iter_rest (zip_first l.name-iterator)) (bytes_in (iter_rest (zip_second l.name-iterator)))) ≡ fold with_file (entries_shown l.initial.lists) (zip l.names (bytes_in l.contents))
