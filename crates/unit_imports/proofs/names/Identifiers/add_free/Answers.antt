use Rattle.std.proofs.Common.{Some, ap, ◌∙◌}
use Rattle.unit_imports.proofs.UsedLaws.{adds_free}
use Rattle.unit_imports.proofs.names.Identifiers.add_free.Goals as goal

pub returns-clause-adds : goal.returns-clause-adds
returns-clause-adds c =
    adds_free c.add.new.symbols c.args.self.now c.add.new.self c.args.name.now c.in_ok-symbol.symbol _ c.new.ensures
    (c.in_ok-add.ensures.names.symbols c.in_ok-symbol.symbol c.args.name.now.name (c.in_ok-symbol.ensures.ok ∙ ap Some c.as_str.ensures)) c.in_ok-add.ensures.adds
