use Rattle.std.proofs.Common.{◌≡◌, ◌++◌, List, map, drop}
use Rattle.scheme_model.specs.Cores.{Target}
use Rattle.scheme_model.specs.Substitution.{Table}
use Rattle.scheme_model.specs.Live.{CoreLeaf, NameUse}
use Rattle.scheme_model.specs.Program.{UnitResult}
use Rattle.scheme_model.specs.ProgramArrows.{is_live_at}
use Rattle.scheme_model.specs.Spelling.{macro_links}
use Rattle.program_leaves.specs.Placed.{placed_of, AreAllSeen}
use Rattle.program_leaves.specs.Sights.{Sees}
use Rattle.program_leaves.proofs.LiveLaws.{Passed}
use Rattle.program_leaves.specs.Entries.{Gives}
use Rattle.arrow_index.specs.Links.{as_link}
use Rattle.arrow_index.proofs.use_links.link_macros.Given as goal

abbrev pub invariant-loop-leaf : goal.invariant-loop-leaf
invariant-loop-leaf l =
    (leaves : List CoreLeaf) (keywords : List Target) (names : List NameUse) (table : Table) (rs : List UnitResult) (ls : List CoreLeaf) → Sees l.work l.sight leaves keywords names table → Gives l.work.symbols l.entries.units.items rs → AreAllSeen l.work (map placed_of l.found) ls →
    Passed l.work (map placed_of (drop l.leaf-index l.found)) ls (λ done. map as_link l.links.items ≡ map as_link l.fn.links.items ++ macro_links (is_live_at leaves keywords names) leaves table rs done)
