use Rattle.std.proofs.Common.{ap, ◌∙◌}
use Rattle.syntax_tree.specs.Names.{with_symbol}
use Rattle.moves.proofs.Copies.{next_symbol}
use Rattle.moves.proofs.works.add_symbols.Goals as goal

pub loop-number-preserved : goal.loop-number-preserved
loop-number-preserved c = record {
  symbols = c.in_ok-symbol.ensures.symbols ∙ ap (λ l. with_symbol l c.name.result.now) c.loop-number.invariant.symbols
      ∙ next_symbol c.args.from.now.symbols c.loop-number.number c.name.result.now c.told_apart.ensures.symbols c.name.ensures;
  idents = c.in_ok-symbol.ensures.idents ∙ c.loop-number.invariant.idents;
}
