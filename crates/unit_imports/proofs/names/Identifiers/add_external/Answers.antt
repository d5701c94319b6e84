use Rattle.std.proofs.Common.{Bool, Option, false, sym, subst}
use Rattle.scheme_model.specs.Entries.{Entry}
use Rattle.unit_imports.specs.NamesUsed.{AddsNames, external_adds}
use Rattle.unit_imports.proofs.UsedLaws.{adds_none, found_adds, missing_adds}
use Rattle.unit_imports.proofs.names.Identifiers.add_external.Goals as goal

pub returns-then-again-clause-adds : goal.returns-then-again-clause-adds
returns-then-again-clause-adds c = λ find finds x export.
    subst (λ (b : Bool). AddsNames c.args.symbols.now c.args.self.now c.args.self.now (external_adds b (find c.args.spec.now.inner.name) x)) (sym c.if-again.true) (adds_none c.args.symbols.now c.args.self.now)

pub returns-in-None-clause-adds : goal.returns-in-None-clause-adds
returns-in-None-clause-adds c = λ find finds x export.
    subst (λ (b : Bool). AddsNames c.args.symbols.now c.args.self.now c.args.self.now (external_adds b (find c.args.spec.now.inner.name) x)) (sym c.if-again.false)
    (missing_adds c.args.symbols.now c.args.found.entries.now find finds c.args.spec.now.inner.name _ c.as_str.ensures c.in-None.ensures
    (λ (o : Option Entry). AddsNames c.args.symbols.now c.args.self.now c.args.self.now (external_adds false o x)) (adds_none c.args.symbols.now c.args.self.now))

pub returns-in_ok-add_given-in-Some-clause-adds : goal.returns-in_ok-add_given-in-Some-clause-adds
returns-in_ok-add_given-in-Some-clause-adds c = λ find finds x export.
    subst (λ (b : Bool). AddsNames c.add_given.new.symbols c.args.self.now c.add_given.new.self (external_adds b (find c.args.spec.now.inner.name) x)) (sym c.if-again.false)
    (found_adds c.args.symbols.now c.args.found.entries.now find finds c.args.spec.now.inner.name _ c.as_str.ensures _ c.in-Some.ensures
    (λ (o : Option Entry). AddsNames c.add_given.new.symbols c.args.self.now c.add_given.new.self (external_adds false o x)) (λ e is. c.in_ok-add_given-in-Some.ensures.adds e is x export))
