use Rattle.std.proofs.Common.{Option}
use Rattle.scheme_model.specs.Entries.{Entry}
use Rattle.scheme_model.specs.Live.{second_use}
use Rattle.import_sets.specs.Sets.{named}
use Rattle.unit_imports.specs.NamesUsed.{AddsNames}
use Rattle.unit_imports.proofs.UsedLaws.{adds_none, found_adds, missing_adds}
use Rattle.unit_imports.proofs.names.Identifiers.add_second.Goals as goal

pub returns-in-None-clause-adds : goal.returns-in-None-clause-adds
returns-in-None-clause-adds c = λ find finds.
    missing_adds c.args.symbols.now c.args.found.entries.now find finds c.args.first.now.name _ c.as_str.ensures c.in-None.ensures
    (λ (o : Option Entry). AddsNames c.args.symbols.now c.args.self.now c.args.self.now (second_use o (named c.args.second.now))) (adds_none c.args.symbols.now c.args.self.now)

pub returns-in_ok-add_own-in-Some-clause-adds : goal.returns-in_ok-add_own-in-Some-clause-adds
returns-in_ok-add_own-in-Some-clause-adds c = λ find finds.
    found_adds c.args.symbols.now c.args.found.entries.now find finds c.args.first.now.name _ c.as_str.ensures _ c.in-Some.ensures
    (λ (o : Option Entry). AddsNames c.add_own.new.symbols c.args.self.now c.add_own.new.self (second_use o (named c.args.second.now))) (λ d is. c.in_ok-add_own-in-Some.ensures.adds d.meaning is.meaning)
