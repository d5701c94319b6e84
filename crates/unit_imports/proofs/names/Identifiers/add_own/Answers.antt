use Rattle.unit_imports.proofs.UsedLaws.{adds_own}
use Rattle.unit_imports.proofs.names.Identifiers.add_own.Goals as goal

pub returns-clause-adds : goal.returns-clause-adds
returns-clause-adds c = λ m is.
    adds_own c.args.symbols.now c.add.new.symbols c.in_ok-add.ensures.names c.args.self.now c.add.new.self c.args.name.now c.args.meaning c.in_ok-origins.origins c.in_ok-origins.ensures c.in_ok-add.ensures.adds m is
