use Rattle.std.proofs.Common.{List, Option, Some, None, sym, ap, ◌∙◌, subst}
use Rattle.std.specs.BTreeMap.{get_by_text}
use Rattle.scheme_model.specs.Program.{unit_exports, unit_named}
use Rattle.syntax_tree.specs.declared.units.Entry.{Entry}
use Rattle.unit_imports.specs.SetsGiven.{AreEntriesIf, exports_at}
use Rattle.unit_imports.proofs.GivenLaws.{exports_named, if_there, others_if, standard_if}
use Rattle.unit_imports.proofs.entries.named_entries.Goals as goal

pub returns-in_ok-entries-in-Some-clause-exact : goal.returns-in_ok-entries-in-Some-clause-exact
returns-in_ok-entries-in-Some-clause-exact c = λ spelled all rs libs n e.
    standard_if c.standard_entries.new.symbols all rs n c.as_slice.result.now c.in_ok-entries-in-Some.entries (ap Some c.as_slice.ensures ∙ sym c.in-Some.is ∙ c.in_ok-names.ensures.library spelled libs.spells n e) c.in_ok-entries-in-Some.ensures.entries

pub returns-in-None-exports_named-clause-exact : goal.returns-in-None-exports_named-clause-exact
returns-in-None-exports_named-clause-exact c = λ spelled all rs libs n e.
    others_if c.args.symbols.now all rs n None (sym c.in-None.is ∙ c.in_ok-names.ensures.library spelled libs.spells n e)
    (subst (λ (o : Option (List Entry)). AreEntriesIf c.args.symbols.now o (unit_exports rs (unit_named n 0 all))) (sym c.in-None-exports_named.ensures.exact) (exports_named c.args.symbols.now c.args.libraries spelled all rs libs n c.args.name.now e))

pub returns-in_ok-copy_of_entries-in-Some-exports_named-clause-exact : goal.returns-in_ok-copy_of_entries-in-Some-exports_named-clause-exact
returns-in_ok-copy_of_entries-in-Some-exports_named-clause-exact c = λ spelled all rs libs n e.
    let copy = c.in_ok-copy_of_entries-in-Some-exports_named.field-0 in
    others_if c.args.symbols.now all rs n (Some copy) (sym c.in-None.is ∙ c.in_ok-names.ensures.library spelled libs.spells n e)
    (if_there c.args.symbols.now c.in-Some-exports_named.exports.now copy (exports_at c.args.libraries.expanded.now (get_by_text c.args.libraries.firsts.now c.args.name.now)) (unit_exports rs (unit_named n 0 all))
    (sym c.in-Some-exports_named.ensures.exact) c.in_ok-copy_of_entries-in-Some-exports_named.ensures (exports_named c.args.symbols.now c.args.libraries spelled all rs libs n c.args.name.now e))
