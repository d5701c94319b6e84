use Rattle.std.proofs.Common.{List, sym, subst}
use Rattle.arrow_index.specs.Classes.{AreSaid}
use Rattle.arrow_index.specs.declared.links.Link.{Link}
use Rattle.program_answers.specs.ToldAnswers.{facts_in}
use Rattle.program_answers.proofs.asked.Asked.parts.Goals as goal

pub returns-clause-exact : goal.returns-clause-exact
returns-clause-exact c = λ rs source.
    let links = (facts_in rs).links in
    c.in_ok-parts.ensures.exact links (subst (λ (ls : List Link). AreSaid ls links) (sym c.as_slice.ensures) source.index.links.same)
