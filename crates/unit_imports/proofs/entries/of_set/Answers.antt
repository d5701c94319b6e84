use Rattle.std.proofs.Common.{List, Option, refl, sym, subst}
use Rattle.scheme_model.specs.Entries as model
use Rattle.scheme_model.specs.Program.{after_set, library_exports}
use Rattle.scheme_model.specs.StandardLibraries.{standard}
use Rattle.syntax_tree.specs.Meant.{AreEntries}
use Rattle.syntax_tree.specs.declared.units.Entry.{Entry}
use Rattle.unit_imports.specs.SetsGiven.{AreEntriesIf, with_set}
use Rattle.unit_imports.proofs.GivenLaws.{comes_as, names_one, names_no, set_as, set_bad, set_known, set_unknown}
use Rattle.unit_imports.proofs.entries.of_set.Goals as goal

pub returns-in_default-clause-exact : goal.returns-in_default-clause-exact
returns-in_default-clause-exact c = λ spelled all rs libs s is. (model.BadSet, refl, set_bad all rs s (names_no spelled c.args.set.now s is (sym c.in_default.ensures)))

pub returns-in-None-clause-exact : goal.returns-in-None-clause-exact
returns-in-None-clause-exact c = λ spelled all rs libs s is.
    let names = c.named_entries.new.symbols in
    let one = names_one spelled c.args.set.now s is c.in-Some.name.now (sym c.in-Some.ensures) in
    set_unknown all rs s one.name one.is
    (subst (λ (o : Option (List Entry)). AreEntriesIf names o (library_exports all rs one.name (standard one.name))) c.in-None.is (c.in_ok-named_entries.ensures.exact spelled all rs libs one.name one.text))

pub returns-in_ok-chosen-in-Some-2-clause-exact : goal.returns-in_ok-chosen-in-Some-2-clause-exact
returns-in_ok-chosen-in-Some-2-clause-exact c = λ spelled all rs libs s is.
    let names = c.named_entries.new.symbols in
    let one = names_one spelled c.args.set.now s is c.in-Some.name.now (sym c.in-Some.ensures) in
    let h = subst (λ (o : Option (List Entry)). AreEntriesIf names o (library_exports all rs one.name (standard one.name))) c.in-Some-2.is (c.in_ok-named_entries.ensures.exact spelled all rs libs one.name one.text) in
    comes_as names c.in_ok-chosen-in-Some-2.field-0 (λ before. after_set before (model.entries_of s h.0)) (with_set all rs s) (set_known all rs s one.name h.0 one.is h.1)
    (c.in_ok-chosen-in-Some-2.ensures.exact s (set_as spelled c.args.set.now s is) h.0 (subst (λ (l : List Entry). AreEntries names l h.0) (sym c.as_slice.ensures) h.2))
