use Rattle.std.proofs.Common.{sym, ap, ◌∙◌}
use Rattle.syntax_tree.specs.Regions.{Forest}
use Rattle.syntax_tree.proofs.PlaceLaws.{place_found, no_place}
use Rattle.syntax_tree.proofs.trees.table.Trees.place_at.Goals as goal

pub returns-then-lives : goal.returns-then-lives
returns-then-lives c =
    place_found c.self.inside.pool.nodes c.args.self.now.nodes c.args.number c.get-kept.result.now c.place_in.result (ap (λ (f : Forest). f.nodes) c.self.view_is) c.get-kept.ensures c.place_in.ensures

pub returns : goal.returns
returns c = no_place c.self.inside.pool.nodes c.args.self.now.nodes c.args.number (ap (λ (f : Forest). f.nodes) c.self.view_is) (sym c.if-lives.false ∙ c.lives.ensures)
