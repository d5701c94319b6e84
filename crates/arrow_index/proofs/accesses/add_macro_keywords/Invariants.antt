use Rattle.std.proofs.Common.{◌≡◌, ◌++◌, take}
use Rattle.arrow_index.specs.Keywords.{macro_places}
use Rattle.arrow_index.proofs.accesses.add_macro_keywords.Given as goal

abbrev pub invariant-loop-macro_use : goal.invariant-loop-macro_use
invariant-loop-macro_use l = l.places.items ≡ l.fn.places.items ++ macro_places (take l.macro_use-index l.uses)
