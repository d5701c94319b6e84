use Rattle.std.proofs.Common.{◌∙◌}
use Rattle.std.specs.BTreeMap.{get}
use Rattle.std.specs.FinMap.{entries}
use Rattle.read_documents.specs.Readings.{program_in}
use Rattle.program_answers.specs.ToldAnswers.{facts_in}
use Rattle.text_edits.specs.Members.{members_of, name_of}
use Rattle.text_edits.specs.Views.{occ_cmp}
use Rattle.class_edits.proofs.DocumentLaws.{edits_are}
use Rattle.class_edits.proofs.IdentifierLaws.{all_by_names}
use Rattle.class_edits.proofs.edits.class_edits.Goals as goal

pub returns-clause-exact : goal.returns-clause-exact
returns-clause-exact c = λ rs at stem are named.
    let ds = entries c.args.texts.now in
    let ls = (facts_in rs).links in
    let us = (program_in rs).units in
    c.in_ok-all.ensures.exact rs are
    ∙ all_by_names (λ o. get occ_cmp c.args.members.now o) (name_of (members_of ls stem at)) named us 0 ds rs
    ∙ edits_are ls us stem at 0 ds rs
