use Rattle.std.proofs.Common.{◌<◌, length, Option, Ok, ap, ◌∙◌, subst, arith}
use Rattle.std.specs.Prelude.{IfSome, Vec}
use Rattle.std.specs.declared.alloc.Global.{Global}
use Rattle.std.proofs.lemmas.Bool.Decides.{nat_tests}
use Rattle.scheme_model.specs.ExpansionFaults.{◌>>◌}
use Rattle.syntax_tree.specs.declared.trees.nodes.Tree as number
use Rattle.core_forms.specs.Named.{TreesNamed}
use Rattle.feature_requirements.specs.Judged.{chosen_among, some_chosen, Chooses}
use Rattle.feature_requirements.proofs.ChoiceLaws.{some_there}
use Rattle.feature_requirements.proofs.requirements.chosen_forms.Goals as goal

pub returns-else-is_empty-clause-chosen : goal.returns-else-is_empty-clause-chosen
returns-else-is_empty-clause-chosen c = λ known ps knows h.
    let w = c.args.judge.work.now in
    let q = subst (λ (o : Option (Vec number.Tree Global)). Chooses w c.args.here (Ok o) (chosen_among known ps)) c.in-Some.is (c.in_ok-forms.ensures.chosen known ps knows h) in
    let some : 0 < length c.in-Some.forms.items = grind (arith, nat_tests, c.in-Some.forms.ok.0) in
    (q.0, ap (λ r. r >> some_chosen) q.1 ∙ some_there w c.in-Some.forms.items q.0 q.2 some, q.2)

pub returns-else-is_empty-clause-named : goal.returns-else-is_empty-clause-named
returns-else-is_empty-clause-named c = λ region h. subst (λ (o : Option (Vec number.Tree Global)). IfSome o (TreesNamed c.args.judge.work.now region)) c.in-Some.is (c.in_ok-forms.ensures.named region h)
