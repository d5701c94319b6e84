use Rattle.std.proofs.Common.{◌≡◌}
use Rattle.std.specs.Iterator.Adapters.{zip_first, zip_second}
use Rattle.std.specs.List.{fold, zip}
use Rattle.std.specs.Slice.Iter.{iter_rest}
use Rattle.file_commands.specs.Checking.{bytes_in, open_file, opened}
use Rattle.file_commands.proofs.Room.{Fit}
use Rattle.file_commands.proofs.checking.open_files.Given as goal

-- with the files that are left the texts are those of all, and there is room for them
abbrev pub invariant-loop-name : goal.invariant-loop-name
invariant-loop-name l = record {
  same : fold open_file l.store (zip (iter_rest (zip_first l.name-iterator)) (bytes_in (iter_rest (zip_second l.name-iterator)))) ≡ opened l.names (bytes_in l.contents);
  fit : Fit l.store (iter_rest (zip_first l.name-iterator)) (iter_rest (zip_second l.name-iterator));
}
