use Rattle.std.proofs.Common.{◌++◌, sym, ap, ◌∙◌}
use Rattle.import_sets.specs.Given.{given_under, under}
use Rattle.import_sets.proofs.NameLaws.{rename_more}
use Rattle.import_sets.proofs.rename.renamed_all.Goals as goal

pub loop-entry-preserved : goal.loop-entry-preserved
loop-entry-preserved c =
    let e = c.in-Some.entry in
    let names = c.names_under-names.ensures ∙ c.in_ok-under.ensures c.as_str.result.now ∙ ap (given_under c.args.pairs.now) c.as_str.ensures in
    c.in_ok-add_under.ensures ∙ (λ j. c.loop-entry.invariant j ++ under e (names j)) ∙ sym (rename_more c.args.pairs.now c.loop-entry.yielded e)
