use Rattle.std.proofs.Common.{sym}
use Rattle.unit_imports.proofs.GivenLaws.{names_one, names_no, of_name, of_none}
use Rattle.unit_imports.proofs.entries.library_entries.Goals as goal

pub returns-in_default-clause-exact : goal.returns-in_default-clause-exact
returns-in_default-clause-exact c = λ spelled all rs libs s is. of_none all rs s (names_no spelled c.args.set.now s is (sym c.in_default.ensures))

pub returns-clause-exact : goal.returns-clause-exact
returns-clause-exact c = λ spelled all rs libs s is.
    let one = names_one spelled c.args.set.now s is c.in-Some.name.now (sym c.in-Some.ensures) in
    of_name c.named_entries.new.symbols all rs s one.name c.in_ok-named_entries.field-0 one.is (c.in_ok-named_entries.ensures.exact spelled all rs libs one.name one.text)
