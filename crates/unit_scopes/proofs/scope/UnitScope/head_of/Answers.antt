use Rattle.syntax_tree.proofs.Places.{get_within}
use Rattle.scheme_model.specs.CountedExpansion.{means_here}
use Rattle.unit_scopes.proofs.scope.UnitScope.head_of.Goals as goal

pub head_by-requires : goal.head_by-requires
head_by-requires c =
    let l = c.requires.look in
    let i = get_within c.args.work.now.symbols.idents c.args.ident c.requires.ident in
    (l.layout, (l.state, l.stands, (means_here l.state l.frames i.0, c.means.ensures l.layout l.state l.frames i.0 l.stands l.at i.1)))
