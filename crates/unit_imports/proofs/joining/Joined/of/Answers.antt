use Rattle.std.proofs.Common.{◌≡◌, List, map, sym, ap, ◌∙◌, subst}
use Rattle.std.specs.Option.{is_some}
use Rattle.syntax_tree.specs.declared.units.Entry.{Entry}
use Rattle.import_sets.specs.Given.{finished, has_name}
use Rattle.unit_imports.specs.EntriesMeant.{EachOnce}
use Rattle.unit_imports.proofs.JoiningLaws.{finished_names, finished_once, place_there}
use Rattle.unit_imports.proofs.joining.Joined.of.Goals as goal

pub invariant_of-result : goal.invariant_of-result
invariant_of-result c =
    let gs = c.args.gathering.groups.items in
    let here : c.into_vec.result.items ≡ map finished gs = c.into_vec.ensures ∙ c.in_ok-finished.ensures in
    record { told = λ s. ap is_some (c.args.gathering.placed s) ∙ place_there gs s ∙ sym (finished_names gs s) ∙ ap (λ (es : List Entry). has_name es s) (sym here) }

pub returns-clause-once : goal.returns-clause-once
returns-clause-once c = λ apart. subst EachOnce (sym (c.into_vec.ensures ∙ c.in_ok-finished.ensures)) (finished_once c.args.gathering.groups.items apart)
