use Rattle.std.proofs.Common.{◌≡◌, ◌++◌, take}
use Rattle.arrow_index.specs.Keywords.{core_places}
use Rattle.arrow_index.proofs.accesses.add_core_keywords.Given as goal

abbrev pub invariant-loop-keyword : goal.invariant-loop-keyword
invariant-loop-keyword l = l.places.items ≡ l.fn.places.items ++ core_places (take l.keyword-index l.keywords)
