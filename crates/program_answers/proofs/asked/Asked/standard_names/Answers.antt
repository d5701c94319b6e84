use Rattle.std.proofs.Common.{List, sym, subst}
use Rattle.arrow_index.specs.Classes.{AreParts}
use Rattle.arrow_index.specs.declared.classes.ClassPart.{ClassPart}
use Rattle.program_answers.specs.ToldAnswers.{facts_in}
use Rattle.program_answers.proofs.asked.Asked.standard_names.Goals as goal

pub returns : goal.returns
returns c = λ rs source.
    let links = (facts_in rs).links in
    c.in_ok-names.ensures rs c.args.occ source (subst (λ (ps : List ClassPart). AreParts ps links c.args.occ) (sym c.as_slice.ensures) (c.in_ok-parts.ensures.exact rs source))
