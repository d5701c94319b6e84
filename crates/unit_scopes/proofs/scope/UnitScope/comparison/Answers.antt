use Rattle.std.proofs.Common.{◌∙◌}
use Rattle.scheme_model.specs.CountedExpansion.{means_here}
use Rattle.unit_scopes.proofs.MeantSame.{meant_same}
use Rattle.unit_scopes.proofs.scope.UnitScope.comparison.Goals as goal

pub returns : goal.returns
returns c = λ ls s gs fs l i stands there at first second.
    let names = c.args.work.now.symbols in (
      (there, first),
      (at, second),
      c.same_meaning.ensures ∙ meant_same names c.told_apart.ensures.idents c.told_apart.ensures.symbols s.unit s.form
          c.means-literal.result (means_here s gs l) (c.means-literal.ensures ls s gs l stands there first) c.means-ident.result (means_here s fs i) (c.means-ident.ensures ls s fs i stands at second),
    )
