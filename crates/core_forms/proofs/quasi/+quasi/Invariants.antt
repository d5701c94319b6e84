use Rattle.std.proofs.Common.{◌+◌, ◌*◌, Option}
use Rattle.scheme_model.specs.Trees.{Trees, Tail}
use Rattle.scheme_model.specs.Quasiquote.{Mark}
use Rattle.scheme_model.specs.Ident.{Ident as Identifier}
use Rattle.syntax_tree.specs.Looks.{PartsStand, EndStands, AllNamed, EndNamed}
use Rattle.syntax_tree.specs.declared.trees.table.Region.{Region}
use Rattle.core_forms.specs.Marks.{TellsMarks}
use Rattle.core_forms.proofs.Holes.{RowUpTo, PartsUpTo}
use Rattle.core_forms.proofs.Finding.{Counted, CountedParts}
use Rattle.core_forms.proofs.quasi.+quasi.Given as goal

abbrev pub decreases-find : goal.decreases-find
decreases-find l = 3 * l.left

abbrev pub decreases-find_row : goal.decreases-find_row
decreases-find_row l = 3 * l.left + 2

abbrev pub decreases-find_parts : goal.decreases-find_parts
decreases-find_parts l = 3 * l.left + 1

abbrev pub invariant-find_parts-loop-k : goal.invariant-find_parts-loop-k
invariant-find_parts-loop-k l =
    ((mark : Identifier → Option Mark) (ts : Trees Identifier) → TellsMarks l.work l.told mark → PartsStand l.work l.items ts →
    PartsUpTo l.work l.fn.found l.found mark ts l.level l.k)
    × ((region : Region) → AllNamed l.work region l.items → AllNamed l.work region l.fn.found.trees.items → AllNamed l.work region l.found.trees.items)
    × CountedParts l.work l.items l.fn.found.passed l.found.passed l.k

abbrev pub invariant-find_row-loop-k : goal.invariant-find_row-loop-k
invariant-find_row-loop-k l =
    Counted l.work l.items l.end l.level l.inner l.k
    × ((mark : Identifier → Option Mark) (ts : Trees Identifier) (tail : Tail Identifier) → TellsMarks l.work l.told mark → PartsStand l.work l.items ts → EndStands l.work l.end tail →
    RowUpTo l.work l.fn.found l.found mark ts tail l.level l.element l.k l.inner l.first)
    × ((region : Region) → AllNamed l.work region l.items → EndNamed l.work region l.end → AllNamed l.work region l.fn.found.trees.items → AllNamed l.work region l.found.trees.items)
    × Counted l.work l.items l.end l.fn.found.passed l.found.passed l.k
