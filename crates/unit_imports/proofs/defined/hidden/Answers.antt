-- The symbol of the identifier is looked up among the entries.
use Rattle.std.proofs.Common.{true, false, slice_get, sym}
use Rattle.unit_imports.proofs.HidingLaws.{no_symbol, symbol_there}
use Rattle.unit_imports.proofs.defined.hidden.Goals as goal

pub returns-in_default : goal.returns-in_default
returns-in_default c = no_symbol c.args.joined.now.entries.items (slice_get c.args.symbols.now.idents c.args.binder.ident) (λ i at. c.in_default.ensures i at)

pub returns-then-has : goal.returns-then-has
returns-then-has c = symbol_there c.args.joined.now.entries.items c.args.symbols.now.idents c.args.binder.ident c.requires c.in-Some.name.now (λ i at. c.in-Some.ensures i at) true (sym c.if-has.ensures)

pub returns-else-has : goal.returns-else-has
returns-else-has c = symbol_there c.args.joined.now.entries.items c.args.symbols.now.idents c.args.binder.ident c.requires c.in-Some.name.now (λ i at. c.in-Some.ensures i at) false (sym c.if-has.ensures)
