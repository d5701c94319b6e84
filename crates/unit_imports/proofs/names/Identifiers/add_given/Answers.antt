use Rattle.std.proofs.Common.{true, false, sym, ◌∙◌}
use Rattle.unit_imports.proofs.UsedLaws.{adds_as, external_is}
use Rattle.unit_imports.proofs.names.Identifiers.add_given.Goals as goal

pub returns-then-is_renamed-clause-adds : goal.returns-then-is_renamed-clause-adds
returns-then-is_renamed-clause-adds c = λ e is x export.
    adds_as c.add_own.new.symbols c.args.self.now c.add_own.new.self _ _ (external_is c.args.spec.now x export e true (sym c.if-is_renamed.true ∙ c.is_renamed.ensures)) (c.in_ok-add_own.ensures.adds e.meaning is.meaning)

pub returns-clause-adds : goal.returns-clause-adds
returns-clause-adds c = λ e is x export.
    adds_as c.add_entry.new.symbols c.args.self.now c.add_entry.new.self _ _ (external_is c.args.spec.now x export e false (sym c.if-is_renamed.false ∙ c.is_renamed.ensures)) (c.in_ok-add_entry.ensures.adds e is)
