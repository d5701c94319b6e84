use Rattle.std.proofs.Common.{◌≡◌, ◌++◌, List, Some, map, take}
use Rattle.scheme_model.specs.Entries.{Origin}
use Rattle.scheme_model.specs.Meaning.{Meaning}
use Rattle.scheme_model.specs.Spelling.{links_at}
use Rattle.syntax_tree.specs.Meant.{IsGivenMeaning, AreOrigins}
use Rattle.arrow_index.specs.Links.{as_link}
use Rattle.arrow_index.proofs.links.link_origins.Given as goal

abbrev pub invariant-loop-origin : goal.invariant-loop-origin
invariant-loop-origin l =
    (m : Meaning) (ps : List Origin) → IsGivenMeaning l.work.symbols l.meaning m → AreOrigins m l.origins ps →
    map as_link l.links.items ≡ map as_link l.fn.links.items ++ links_at (Some l.target) (take l.origin-index ps)
