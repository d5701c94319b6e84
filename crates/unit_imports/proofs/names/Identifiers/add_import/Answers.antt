use Rattle.std.proofs.Common.{List, Option, [], sym, ◌∙◌, subst}
use Rattle.scheme_model.specs.Entries as model
use Rattle.scheme_model.specs.Live.{set_uses}
use Rattle.scheme_model.specs.ProgramArrows.{uses_in_set}
use Rattle.syntax_tree.specs.declared.units.Entry.{Entry}
use Rattle.unit_imports.specs.SetsGiven.{AreEntriesIf, set_exports}
use Rattle.unit_imports.proofs.GivenLaws.{set_as}
use Rattle.unit_imports.proofs.UsedLaws.{adds_as, adds_none, uses_known, uses_none, uses_unknown}
use Rattle.unit_imports.proofs.names.Identifiers.add_import.Goals as goal

pub returns-then-lists_none-clause-adds : goal.returns-then-lists_none-clause-adds
returns-then-lists_none-clause-adds c = λ spelled all rs libs s is.
    let none = sym c.lists_none.ensures ∙ c.if-lists_none.true in
    adds_as c.args.symbols.now c.args.self.now c.args.self.now [] (uses_in_set all rs s (model.library_in s)) (uses_none spelled c.args.set.now s is none all rs) (adds_none c.args.symbols.now c.args.self.now)

pub returns-in-None-clause-adds : goal.returns-in-None-clause-adds
returns-in-None-clause-adds c = λ spelled all rs libs s is.
    let names = c.library_entries.new.symbols in
    let h = subst (λ (o : Option (List Entry)). AreEntriesIf names o (set_exports all rs (model.library_in s))) c.in-None.is (c.in_ok-library_entries.ensures.exact spelled all rs libs s is) in
    adds_as names c.args.self.now c.args.self.now [] (uses_in_set all rs s (model.library_in s)) (uses_unknown all rs s (model.library_in s) h) (adds_none names c.args.self.now)

pub returns-in_ok-add_set-in-Some-clause-adds : goal.returns-in_ok-add_set-in-Some-clause-adds
returns-in_ok-add_set-in-Some-clause-adds c = λ spelled all rs libs s is.
    let names = c.library_entries.new.symbols in
    let h = subst (λ (o : Option (List Entry)). AreEntriesIf names o (set_exports all rs (model.library_in s))) c.in-Some.is (c.in_ok-library_entries.ensures.exact spelled all rs libs s is) in
    adds_as c.add_set.new.symbols c.args.self.now c.add_set.new.self (set_uses h.0 s) (uses_in_set all rs s (model.library_in s)) (uses_known all rs s (model.library_in s) h.0 h.1)
    (c.in_ok-add_set-in-Some.ensures.adds s (set_as spelled c.args.set.now s is) h.0 h.2)
