use Rattle.std.proofs.Common.{◌∙◌}
use Rattle.unit_imports.proofs.UsedLaws.{adds_entry}
use Rattle.unit_imports.proofs.names.Identifiers.add_entry.Goals as goal

pub returns-clause-adds : goal.returns-clause-adds
returns-clause-adds c = λ e is.
    adds_entry c.args.symbols.now c.add.new.symbols c.in_ok-add.ensures.names c.args.self.now c.add.new.self c.args.name.now c.args.entry.now c.in_ok-origins.origins (c.in_ok-origins.ensures ∙ c.as_slice.ensures)
    c.in_ok-add.ensures.adds e is
