use Rattle.std.proofs.Common.{ℕ, List}
use Rattle.scheme_model.specs.Cores.{RuleLeaf}
use Rattle.scheme_model.specs.Substitution.{Table}
use Rattle.rename_model.specs.Walks.{Slot}
use Rattle.core_tree.specs.Names.{AllMatch, IsLeaf}
use Rattle.alpha_equal.specs.Slots.{IsSlot}
use Rattle.alpha_equal.specs.Filled.{KnowsNumbers, FilledTo}
use Rattle.alpha_equal.proofs.slots.fill.Given as goal

abbrev pub invariant-loop-k : goal.invariant-loop-k
invariant-loop-k l =
    (table : Table) (unit form : ℕ) (ss : List Slot) (ls : List RuleLeaf) → KnowsNumbers l.work.symbols l.numbers table →
    AllMatch (IsSlot l.work.symbols unit form) l.slots ss → AllMatch (IsLeaf l.work.symbols unit form) l.leaves ls → FilledTo l.work.symbols table unit form l.fn.points.items l.points.items ss ls l.k l.next
