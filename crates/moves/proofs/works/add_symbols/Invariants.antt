use Rattle.std.proofs.Common.{◌≡◌, take}
use Rattle.moves.proofs.works.add_symbols.Given as goal

abbrev pub invariant-loop-number : goal.invariant-loop-number
invariant-loop-number l = record {
  symbols : l.to.symbols ≡ take l.number l.from.symbols;
  idents : l.to.idents ≡ l.initial.to.idents;
}
