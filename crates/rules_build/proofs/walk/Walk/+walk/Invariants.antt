use Rattle.std.proofs.Common.{◌≡◌, ◌+◌, ◌*◌, ◌-◌, ◌^◌, List}
use Rattle.scheme_model.specs.Identifiers.{Number}
use Rattle.scheme_model.specs.Trees.{Tree, Trees}
use Rattle.scheme_model.specs.RulesShape.{Rules, starts_dots}
use Rattle.scheme_model.specs.Matching.{Binding, behind}
use Rattle.scheme_model.specs.Building.{build_tree, repeated}
use Rattle.scheme_model.specs.Ident.{Ident as Identifier}
use Rattle.syntax_tree.specs.Looks.{PartsStand}
use Rattle.syntax_tree.specs.Macros.{TellsRoles}
use Rattle.syntax_tree.specs.Works.{StandsFor}
use Rattle.syntax_tree.specs.declared.trees.table.Region.{Region}
use Rattle.rules_build.specs.Values.{AreBound}
use Rattle.rules_build.specs.Builds.{inserting, dots_where}
use Rattle.rules_build.proofs.WalkLaws.{PartsUpTo, PlacesUpTo}
use Rattle.rules_build.proofs.walk.Walk.+walk.Given as goal

abbrev pub decreases-tree : goal.decreases-tree
decreases-tree l = 2 ^ 65 * l.left

abbrev pub decreases-parts : goal.decreases-parts
decreases-parts l = 2 ^ 65 * l.left + (2 ^ 64 + 4)

abbrev pub decreases-part : goal.decreases-part
decreases-part l = 2 ^ 65 * l.left + (l.times + 3)

abbrev pub decreases-each_place : goal.decreases-each_place
decreases-each_place l = 2 ^ 65 * l.left + (l.times + 2)

abbrev pub decreases-repeated : goal.decreases-repeated
decreases-repeated l = 2 ^ 65 * l.left + (l.times + 1)

abbrev pub invariant-parts-loop-k : goal.invariant-parts-loop-k
invariant-parts-loop-k l =
    ((r : Rules Identifier) (ts : Trees Identifier) → TellsRoles l.self.work.now.symbols l.self.roles.now r → PartsStand l.self.work.now l.items ts → l.dots ≡ starts_dots (dots_where l.escaped r) (behind l.k ts))
    × ((r : Rules Identifier) (region : Region) (k : Number) (ts : Trees Identifier) (ms : List (Binding Identifier Identifier)) → TellsRoles l.self.work.now.symbols l.self.roles.now r → PartsStand l.self.work.now l.items ts →
    AreBound l.self.work.now region l.bounds ms → PartsUpTo l.self.work.now region k (dots_where l.escaped r) ts ms l.k l.fn.room l.room l.fn.plans.items l.plans.items)

abbrev pub invariant-repeated-loop-place : goal.invariant-repeated-loop-place
invariant-repeated-loop-place l =
    (r : Rules Identifier) (region : Region) (k : Number) (t : Tree Identifier) (ms : List (Binding Identifier Identifier)) → TellsRoles l.self.work.now.symbols l.self.roles.now r → StandsFor l.self.work.now l.template t →
    AreBound l.self.work.now region l.bounds ms →
    PlacesUpTo l.self.work.now region k (repeated (l.times - 1) (build_tree (inserting k) (dots_where l.escaped r) t)) l.places ms l._place l.fn.room l.room l.fn.plans.items l.plans.items l.here.items
