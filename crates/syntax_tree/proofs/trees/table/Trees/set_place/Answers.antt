use Rattle.std.proofs.Common.{ℕ, refl, sym, ap, subst, ◌∙◌}
use Rattle.std.specs.Ordering.{nat_cmp}
use Rattle.std.specs.FinMap as map
use Rattle.syntax_tree.specs.Regions.{Forest}
use Rattle.syntax_tree.specs.Kept.{regions_of, IsTable}
use Rattle.syntax_tree.proofs.AddedLaws.{kept_lives}
use Rattle.syntax_tree.proofs.PlaceLaws.{still_lives, placed_table, placed_nodes}
use Rattle.syntax_tree.proofs.trees.table.Trees.set_place.Goals as goal

pub replace-node-requires : goal.replace-node-requires
replace-node-requires c = kept_lives c.self.inside.pool.nodes c.args.self.now.nodes c.args.number (ap (λ (f : Forest). f.nodes) c.self.view_is) c.requires

pub replace-requires : goal.replace-requires
replace-requires c =
    still_lives c.args.self.now.nodes c.self.inside.pool.nodes c.replace-node.new.self.nodes c.args.number _ (ap (λ (f : Forest). f.nodes) c.self.view_is) c.requires c.replace-node.ensures.nodes

pub invariant_of-self : goal.invariant_of-self
invariant_of-self c =
    let vs = c.self.inside.outers.items in
    let view = ap (λ (f : Forest). f.nodes) c.self.view_is in
    let table = placed_table c.args.self.now.nodes c.self.inside.pool.nodes c.replace-node.new.self.nodes c.replace.new.self.nodes c.args.number _ c.replace-node.result _ c.args.place view
    c.replace-node.ensures.was c.replace-node.ensures.nodes c.replace.ensures.nodes refl refl c.placed_at-node.ensures (regions_of vs c.self.inside.pool.regions) c.self.invariant in
    subst (λ (counts : map.FinMap nat_cmp ℕ). IsTable c.replace.new.self.nodes (regions_of vs counts)) (sym (c.replace.ensures.regions ∙ c.replace-node.ensures.regions)) table

pub returns-clause-nodes : goal.returns-clause-nodes
returns-clause-nodes c l got =
    placed_nodes c.args.self.now.nodes c.self.inside.pool.nodes c.replace-node.new.self.nodes c.replace.new.self.nodes c.args.number _ c.replace-node.result _ c.args.place (ap (λ (f : Forest). f.nodes) c.self.view_is)
    c.replace-node.ensures.was c.replace-node.ensures.nodes c.replace.ensures.nodes refl refl c.placed_at-node.ensures l got
