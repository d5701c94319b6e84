use Rattle.std.proofs.Common.{◌<◌, length, sym, ◌∙◌, subst}
use Rattle.std.specs.FinMap.{entries}
use Rattle.scheme_model.specs.Diagnostics.{Bytes}
use Rattle.program_answers.proofs.answers.drawn_of.Goals as goal

pub returns-clause-from : goal.returns-clause-from
returns-clause-from c = subst (λ (b : Bytes). b.document < length (entries c.args.asked.now.texts.now)) (sym c.of.ensures) (c.bytes_of.ensures.inside c.requires)

pub returns-clause-to : goal.returns-clause-to
returns-clause-to c = subst (λ (b : Bytes). b.document < length (entries c.args.asked.now.texts.now)) (sym c.of-2.ensures) (c.bytes_of-2.ensures.inside c.requires)

pub returns-clause-exact : goal.returns-clause-exact
returns-clause-exact c = λ rs source.
    let from = c.of.ensures ∙ c.bytes_of.ensures.exact rs source.read in
    let to = c.of-2.ensures ∙ c.bytes_of-2.ensures.exact rs source.read in
    λ j. (from j, to j)
