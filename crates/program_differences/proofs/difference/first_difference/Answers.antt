use Rattle.std.proofs.Common.{ℕ, List, sym, ap, ◌∙◌, subst}
use Rattle.rename_model.specs.Reach.{in_reach}
use Rattle.rename_model.specs.Difference.{difference_in}
use Rattle.program_differences.specs.Differences.{plan_as, AreOne}
use Rattle.core_tree.specs.declared.units.Unit.{Unit as CodeUnit}
use Rattle.program_differences.specs.Reached.{HaveImports}
use Rattle.program_differences.proofs.ReachLaws.{have_imports}
use Rattle.program_differences.proofs.difference.first_difference.Goals as goal

pub returns : goal.returns
returns c = λ text uris before after p q tells apart one other given others.
    let reach = c.as_slice-3.ensures.value ∙ c.in_ok-reach.ensures p.units (subst (λ (us : List CodeUnit). HaveImports 0 us p.units) (sym c.as_slice.ensures) (have_imports c.args.work.now text uris before p 0 c.args.old.now.units p.units one)) ∙ ap (in_reach p.units) c.as_slice-2.ensures in
    subst (λ (ns : List ℕ). AreOne c.in_ok-first_difference_in.field-0 (difference_in before p q (plan_as c.args.plan.now) ns)) reach (c.in_ok-first_difference_in.ensures text uris before after p q tells apart one other given others)
