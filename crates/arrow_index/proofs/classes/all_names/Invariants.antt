use Rattle.std.proofs.Common.{◌≡◌, take}
use Rattle.std.specs.List.{flat_map}
use Rattle.arrow_index.specs.Classes.{has_part, names_from}
use Rattle.arrow_index.proofs.classes.all_names.Given as goal

abbrev pub invariant-loop-link : goal.invariant-loop-link
invariant-loop-link l = l.names.items ≡ flat_map (names_from (has_part l.parts)) (take l.link-index l.links)
