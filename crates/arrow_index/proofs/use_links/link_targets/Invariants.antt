use Rattle.std.proofs.Common.{◌≡◌, ◌++◌, List, map, take}
use Rattle.scheme_model.specs.Cores.{Target}
use Rattle.scheme_model.specs.Substitution.{Table}
use Rattle.scheme_model.specs.Live.{CoreLeaf, NameUse}
use Rattle.scheme_model.specs.Program.{UnitResult}
use Rattle.scheme_model.specs.Spelling.{target_links}
use Rattle.core_tree.specs.Names.{AllMatch}
use Rattle.program_leaves.specs.Placed.{use_of, IsUseOf}
use Rattle.program_leaves.specs.Sights.{Sees}
use Rattle.program_leaves.specs.Entries.{Gives}
use Rattle.arrow_index.specs.Links.{as_link}
use Rattle.arrow_index.proofs.use_links.link_targets.Given as goal

abbrev pub invariant-loop-target : goal.invariant-loop-target
invariant-loop-target l =
    (leaves : List CoreLeaf) (keywords : List Target) (names : List NameUse) (table : Table) (rs : List UnitResult) (ts : List Target) → Sees l.work l.sight leaves keywords names table → Gives l.work.symbols l.entries.units.items rs → AllMatch (IsUseOf l.work) (map use_of l.targets) ts →
    map as_link l.links.items ≡ map as_link l.fn.links.items ++ target_links leaves table rs (take l.target-index ts)
