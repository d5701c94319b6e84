use Rattle.std.proofs.Common.{Some, sym, ap, ◌∙◌}
use Rattle.std.specs.FinMap.{entries}
use Rattle.std.specs.Option.{option_map}
use Rattle.read_documents.specs.Places.{bytes_at}
use Rattle.program_answers.specs.ToldAnswers.{facts_in, place_told}
use Rattle.class_edits.proofs.FirstLaws.{first_clashing, none_clashing}
use Rattle.class_edits.proofs.clashes.first_clash.Goals as goal

pub returns-in_ok-place-in-Some-clause-exact : goal.returns-in_ok-place-in-Some-clause-exact
returns-in_ok-place-in-Some-clause-exact c = λ rs at are parts.
    let told = place_told c.args.encoding (entries c.args.texts.now) in
    ap Some c.in_ok-place-in-Some.ensures.told ∙ ap (option_map told) (ap (option_map bytes_at) (sym c.in-Some.is) ∙ c.first_repeated.ensures.exact rs are ∙ first_clashing (facts_in rs) at c.args.parts.now parts)

pub returns-in-None-clause-exact : goal.returns-in-None-clause-exact
returns-in-None-clause-exact c = λ rs at are parts.
    let told = place_told c.args.encoding (entries c.args.texts.now) in
    ap (option_map told) (ap (option_map bytes_at) (sym c.in-None.is) ∙ c.first_repeated.ensures.exact rs are ∙ first_clashing (facts_in rs) at c.args.parts.now parts)

pub returns-in-None-clause-apart : goal.returns-in-None-clause-apart
returns-in-None-clause-apart c = λ rs at are parts.
    none_clashing (facts_in rs) at (sym (ap (option_map bytes_at) (sym c.in-None.is) ∙ c.first_repeated.ensures.exact rs are ∙ first_clashing (facts_in rs) at c.args.parts.now parts))
