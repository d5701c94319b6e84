use Rattle.std.proofs.Common.{sym, ◌∙◌}
use Rattle.core_forms.proofs.Distinct.{all_is}
use Rattle.core_forms.proofs.records.uses_fields.Goals as goal

pub returns : goal.returns
returns c = λ us fs used fields.
    c.are_among.ensures c.args.fields.now c.in_ok-numbers.ensures ∙ sym (all_is c.args.work.now c.told_apart.ensures.idents c.args.used.now c.args.fields.now us fs used fields)
