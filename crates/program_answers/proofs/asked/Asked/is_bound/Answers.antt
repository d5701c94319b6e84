use Rattle.std.proofs.Common.{List, ℕ, sym, ◌∙◌, subst}
use Rattle.arrow_index.specs.Classes.{AreStandard}
use Rattle.program_answers.specs.ToldAnswers.{facts_in}
use Rattle.program_answers.proofs.AskedLaws.{bound_law, unbound_law}
use Rattle.program_answers.proofs.asked.Asked.is_bound.Goals as goal

pub returns-then-not-is_joined : goal.returns-then-not-is_joined
returns-then-not-is_joined c = λ rs source. unbound_law (facts_in rs) c.args.occ (sym (c.is_joined.ensures rs source) ∙ c.if-not-is_joined.true)

pub returns : goal.returns
returns c = λ rs source.
    let f = facts_in rs in
    c.is_empty.ensures
    ∙ bound_law f c.args.occ c.as_slice.result.now (sym (c.is_joined.ensures rs source) ∙ c.if-not-is_joined.false) (subst (λ (ns : List (List ℕ)). AreStandard ns f.links c.args.occ) (sym c.as_slice.ensures) (c.in_ok-names.ensures rs source))
