use Rattle.std.proofs.Common.{Option, Some, None, sym, ◌∙◌, subst}
use Rattle.std.specs.FinMap.{entries}
use Rattle.scheme_model.specs.declared.Occ.{Occ}
use Rattle.program_answers.specs.Classed.{IsClassAt}
use Rattle.program_answers.specs.ToldAnswers.{facts_in}
use Rattle.program_answers.proofs.classes.class_at.Goals as goal

pub class_of-requires : goal.class_of-requires
class_of-requires c = c.name_there.ensures.some c.in-Some.occ c.in-Some.is

pub returns-in_default : goal.returns-in_default
returns-in_default c = λ rs source.
    subst (λ (o : Option Occ). IsClassAt (entries c.args.asked.now.texts.now) (facts_in rs) o None) (sym c.in_default.is ∙ c.name_there.ensures.name rs source) tt

pub returns-then-not-is_joined : goal.returns-then-not-is_joined
returns-then-not-is_joined c = λ rs source.
    subst (λ (o : Option Occ). IsClassAt (entries c.args.asked.now.texts.now) (facts_in rs) o None) (sym c.in-Some.is ∙ c.name_there.ensures.name rs source) (sym (c.is_joined.ensures rs source) ∙ c.if-not-is_joined.true)

pub returns : goal.returns
returns c = λ rs source.
    subst (λ (o : Option Occ). IsClassAt (entries c.args.asked.now.texts.now) (facts_in rs) o (Some c.in_ok-class.class)) (sym c.in-Some.is ∙ c.name_there.ensures.name rs source)
    (c.in_ok-class.ensures rs source (sym (c.is_joined.ensures rs source) ∙ c.if-not-is_joined.false))
