use Rattle.std.proofs.Common.{sym, ap, subst, ◌∙◌}
use Rattle.syntax_tree.specs.Kept.{KeptNodes, lived_as, nodes_of, outers_at, regions_of, IsTable}
use Rattle.syntax_tree.proofs.SeenLaws.{seen_empty}
use Rattle.syntax_tree.proofs.AddedLaws.{empty_table}
use Rattle.syntax_tree.proofs.trees.table.Trees.new.Goals as goal

pub invariant_of-result : goal.invariant_of-result
invariant_of-result c = subst (λ (ns : KeptNodes). IsTable ns (regions_of c.new-2.result.items c.new.result.regions)) (sym c.new.ensures.nodes) (empty_table (regions_of c.new-2.result.items c.new.result.regions))

pub returns-clause-nodes : goal.returns-clause-nodes
returns-clause-nodes c = ap (λ (ns : KeptNodes). nodes_of ns) c.new.ensures.nodes ∙ seen_empty lived_as

pub returns-clause-regions : goal.returns-clause-regions
returns-clause-regions c = ap (regions_of c.new-2.result.items) c.new.ensures.regions ∙ seen_empty (λ r count. outers_at c.new-2.result.items r)
