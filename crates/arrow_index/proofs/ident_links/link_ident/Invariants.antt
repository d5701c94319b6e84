use Rattle.std.proofs.Common.{◌≡◌, ◌<◌, List, length}
use Rattle.scheme_model.specs.Cores.{Target}
use Rattle.scheme_model.specs.Live.{CoreLeaf, NameUse}
use Rattle.scheme_model.specs.Program.{UnitResult}
use Rattle.scheme_model.specs.Substitution.{Table}
use Rattle.program_leaves.specs.Sights.{Sees}
use Rattle.arrow_index.proofs.IdentLaws.{Reached, depth_at}
use Rattle.arrow_index.proofs.ident_links.link_ident.Given as goal

abbrev pub invariant-loop-unit : goal.invariant-loop-unit
invariant-loop-unit l =
    (l.at < length l.work.symbols.idents) × (l.links.items ≡ l.fn.links.items) × ((leaves : List CoreLeaf) (keywords : List Target) (names : List NameUse) (table : Table) (rs : List UnitResult) → Sees l.work l.sight leaves keywords names table → Reached l.work.symbols l.fn.ident l.at table rs)

abbrev pub decreases-loop-unit : goal.decreases-loop-unit
decreases-loop-unit l = depth_at l.work.symbols l.at
