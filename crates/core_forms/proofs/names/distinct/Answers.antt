use Rattle.std.proofs.Common.{[], Option, sym, subst, ◌∙◌}
use Rattle.scheme_model.specs.Shapes.{distinct}
use Rattle.scheme_model.specs.Ident.{same_ident}
use Rattle.core_forms.specs.declared.shape.NamePart.{NamePart}
use Rattle.core_forms.proofs.Distinct.{IsTwice, twice_is}
use Rattle.core_forms.proofs.names.distinct.Goals as goal

pub returns-in-None : goal.returns-in-None
returns-in-None c = λ ms are.
    let w = c.args.work.now in
    let t = twice_is w c.told_apart.ensures.idents [] [] c.args.names.now ms tt are in
    (tt, subst (λ (o : Option NamePart). IsTwice w o (distinct same_ident ms)) (sym c.in_ok-first_twice.ensures ∙ c.in-None.is) t, tt)

pub returns-in-Some : goal.returns-in-Some
returns-in-Some c = λ ms are.
    let w = c.args.work.now in
    let t = twice_is w c.told_apart.ensures.idents [] [] c.args.names.now ms tt are in
    subst (λ (o : Option NamePart). IsTwice w o (distinct same_ident ms)) (sym c.in_ok-first_twice.ensures ∙ c.in-Some.is) t
