use Rattle.std.proofs.Common.{◌<◌, ◌∙◌, length, ap, sym, arith}
use Rattle.std.specs.Option.{option_map}
use Rattle.std.specs.Map.Iter.{deref_pair}
use Rattle.syntax_tree.proofs.TableSteps.{entries_length, ident_read}
use Rattle.syntax_tree.proofs.symbols.Symbols.ident_at.Goals as goal

pub unwrap-requires : goal.unwrap-requires
unwrap-requires c =
    let within : c.args.id < length c.self.inside.idents.entries =
    omega (arith, c.requires, entries_length c.self.inside.names c.self.inside.idents c.args.self.now c.self.view_is) in
    c.get_index.ensures.found.1 within

pub returns-clause-ident : goal.returns-clause-ident
returns-clause-ident c =
    let p = c.unwrap.result in
    (ident_read c.self.inside.names c.self.inside.idents c.args.self.now c.args.id p.0.now p.1.now c.self.invariant c.self.view_is
    (sym c.get_index.ensures.entry ∙ ap (option_map deref_pair) c.unwrap.ensures)).0

pub returns-clause-placed : goal.returns-clause-placed
returns-clause-placed c =
    let p = c.unwrap.result in
    (ident_read c.self.inside.names c.self.inside.idents c.args.self.now c.args.id p.0.now p.1.now c.self.invariant c.self.view_is
    (sym c.get_index.ensures.entry ∙ ap (option_map deref_pair) c.unwrap.ensures)).1
