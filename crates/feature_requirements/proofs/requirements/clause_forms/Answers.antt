use Rattle.std.proofs.Common.{List, sym, ap, ◌∙◌, subst}
use Rattle.syntax_tree.specs.Looks.{PartsStand, AllNamed}
use Rattle.syntax_tree.specs.declared.trees.nodes.Tree as number
use Rattle.core_forms.specs.declared.shape.Choice.{Choice}
use Rattle.feature_requirements.proofs.ChoiceLaws.{forms_there, named_there}
use Rattle.feature_requirements.proofs.requirements.clause_forms.Goals as goal

pub returns-clause-chosen : goal.returns-clause-chosen
returns-clause-chosen c = λ work ps h.
    let f = forms_there work c.args.place c.args.choices.now ps c.index-choices-place.result h c.requires in
    (f.0, f.1, subst (λ (ns : List number.Tree). PartsStand work ns f.0) (sym (c.in_ok-from_slice.ensures.items ∙ c.deref.ensures.value ∙ ap (λ (x : Choice). x.forms.items) c.index-choices-place.is)) f.2)

pub returns-clause-named : goal.returns-clause-named
returns-clause-named c = λ work region h.
    subst (λ (ns : List number.Tree). AllNamed work region ns) (sym (c.in_ok-from_slice.ensures.items ∙ c.deref.ensures.value ∙ ap (λ (x : Choice). x.forms.items) c.index-choices-place.is))
    (named_there work region c.args.place c.args.choices.now c.index-choices-place.result h c.requires)
