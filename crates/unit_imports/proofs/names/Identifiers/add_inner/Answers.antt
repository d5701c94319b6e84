use Rattle.std.proofs.Common.{Option, [], ◌∷◌}
use Rattle.scheme_model.specs.Entries.{Entry}
use Rattle.import_sets.specs.Sets.{named}
use Rattle.unit_imports.specs.NamesUsed.{AddsNames, inner_use}
use Rattle.unit_imports.proofs.UsedLaws.{found_adds, missing_adds}
use Rattle.unit_imports.proofs.names.Identifiers.add_inner.Goals as goal

pub returns-in_ok-add_free-in-None-clause-adds : goal.returns-in_ok-add_free-in-None-clause-adds
returns-in_ok-add_free-in-None-clause-adds c = λ find finds.
    missing_adds c.args.symbols.now c.args.found.entries.now find finds c.args.name.now.name _ c.as_str.ensures c.in-None.ensures
    (λ (o : Option Entry). AddsNames c.add_free.new.symbols c.args.self.now c.add_free.new.self (inner_use o (named c.args.name.now) ∷ [])) c.in_ok-add_free-in-None.ensures.adds

pub returns-in_ok-add_entry-in-Some-clause-adds : goal.returns-in_ok-add_entry-in-Some-clause-adds
returns-in_ok-add_entry-in-Some-clause-adds c = λ find finds.
    found_adds c.args.symbols.now c.args.found.entries.now find finds c.args.name.now.name _ c.as_str.ensures _ c.in-Some.ensures
    (λ (o : Option Entry). AddsNames c.add_entry.new.symbols c.args.self.now c.add_entry.new.self (inner_use o (named c.args.name.now) ∷ [])) c.in_ok-add_entry-in-Some.ensures.adds
