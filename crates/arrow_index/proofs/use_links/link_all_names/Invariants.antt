use Rattle.std.proofs.Common.{◌≡◌, ◌++◌, List, map, drop}
use Rattle.scheme_model.specs.Live.{NameUse}
use Rattle.scheme_model.specs.Spelling.{name_links}
use Rattle.core_tree.specs.Names.{AllMatch}
use Rattle.program_leaves.specs.Sights.{IsNameOf, all_names}
use Rattle.program_leaves.proofs.AddLaws.{Past}
use Rattle.arrow_index.specs.Links.{as_link}
use Rattle.arrow_index.proofs.use_links.link_all_names.Given as goal

abbrev pub invariant-loop-unit : goal.invariant-loop-unit
invariant-loop-unit l =
    (ns : List NameUse) → AllMatch (IsNameOf l.work) (all_names l.units) ns →
    Past (IsNameOf l.work) (all_names (drop l.unit-index l.units)) ns (λ done. map as_link l.links.items ≡ map as_link l.fn.links.items ++ name_links done)
