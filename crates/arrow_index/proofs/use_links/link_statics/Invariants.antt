use Rattle.std.proofs.Common.{◌≡◌, ◌++◌, List, map, take}
use Rattle.scheme_model.specs.Cores.{Target, RuleLeaf}
use Rattle.scheme_model.specs.Substitution.{Table}
use Rattle.scheme_model.specs.Live.{CoreLeaf, NameUse}
use Rattle.scheme_model.specs.Program.{UnitResult}
use Rattle.scheme_model.specs.ProgramArrows.{is_live_at}
use Rattle.scheme_model.specs.Spelling.{target_links, leaf_targets}
use Rattle.core_tree.specs.Names.{AllMatch, IsLeaf}
use Rattle.program_leaves.specs.Sights.{Sees}
use Rattle.program_leaves.specs.Entries.{Gives}
use Rattle.arrow_index.specs.Links.{as_link}
use Rattle.arrow_index.proofs.use_links.link_statics.Given as goal

abbrev pub invariant-loop-leaf : goal.invariant-loop-leaf
invariant-loop-leaf l =
    (leaves : List CoreLeaf) (keywords : List Target) (names : List NameUse) (table : Table) (rs : List UnitResult) (ms : List RuleLeaf) → Sees l.work l.sight leaves keywords names table → Gives l.work.symbols l.entries.units.items rs → AllMatch (IsLeaf l.work.symbols l.at.unit l.at.form) l.found ms →
    map as_link l.links.items ≡ map as_link l.fn.links.items ++ target_links leaves table rs (leaf_targets (is_live_at leaves keywords names) (take l.leaf-index ms))
