use Rattle.std.proofs.Common.{sym, ap, ◌∙◌}
use Rattle.import_sets.specs.Given.{Gathered, take_in}
use Rattle.import_sets.specs.GatheringSeen.{seen}
use Rattle.import_sets.proofs.NameLaws.{take_all_more}
use Rattle.unit_imports.proofs.joining.take_all.Goals as goal

pub loop-entry-preserved : goal.loop-entry-preserved
loop-entry-preserved c =
    c.in_ok-gathering.ensures ∙ ap (λ (g : Gathered). take_in g c.in-Some.entry) c.loop-entry.invariant ∙ sym (take_all_more (seen c.args.gathering) c.loop-entry.yielded c.in-Some.entry)
