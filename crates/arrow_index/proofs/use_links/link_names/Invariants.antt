use Rattle.std.proofs.Common.{◌≡◌, ◌++◌, List, map, take}
use Rattle.scheme_model.specs.Live.{NameUse}
use Rattle.scheme_model.specs.Spelling.{name_links}
use Rattle.core_tree.specs.Names.{AllMatch}
use Rattle.program_leaves.specs.Sights.{IsNameOf}
use Rattle.arrow_index.specs.Links.{as_link}
use Rattle.arrow_index.proofs.use_links.link_names.Given as goal

abbrev pub invariant-loop-name : goal.invariant-loop-name
invariant-loop-name l =
    (ns : List NameUse) → AllMatch (IsNameOf l.work) l.found ns → map as_link l.links.items ≡ map as_link l.fn.links.items ++ name_links (take l.name-index ns)
