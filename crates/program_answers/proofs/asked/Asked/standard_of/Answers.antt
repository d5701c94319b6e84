use Rattle.std.proofs.Common.{List, sym, subst}
use Rattle.arrow_index.specs.Classes.{AreSaid}
use Rattle.arrow_index.specs.declared.links.Link.{Link}
use Rattle.program_answers.specs.ToldAnswers.{facts_in}
use Rattle.program_answers.proofs.asked.Asked.standard_of.Goals as goal

pub returns : goal.returns
returns c = λ rs occ source are.
    let links = (facts_in rs).links in
    c.in_ok-names.ensures links occ (subst (λ (ls : List Link). AreSaid ls links) (sym c.as_slice-links.ensures) source.index.links.same) are
