use Rattle.std.proofs.Common.{◌≡◌, drop}
use Rattle.std.specs.List.{list_all}
use Rattle.std.specs.Char.{is_ascii_digit}
use Rattle.known_libraries.proofs.library_names.all_digits.Given as goal

abbrev pub invariant-loop-digit : goal.invariant-loop-digit
invariant-loop-digit l = list_all is_ascii_digit (drop l.digit-index l.bytes) ≡ list_all is_ascii_digit l.bytes
