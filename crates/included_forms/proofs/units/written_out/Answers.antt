use Rattle.std.proofs.Common.{sym, ap, ◌∙◌}
use Rattle.included_forms.specs.Counted.{tally_as}
use Rattle.included_forms.specs.Steps.{homed_of}
use Rattle.included_forms.proofs.ListedLaws.{counted_lists, bad_there, long_there}
use Rattle.included_forms.proofs.units.written_out.Goals as goal

pub returns-in_ok-lists-in-Lists : goal.returns-in_ok-lists-in-Lists
returns-in_ok-lists-in-Lists c = λ limit gs l h w. c.in_ok-lists-in-Lists.ensures limit gs l h w (counted_lists l c.in-Lists.tokens c.in-Lists.is_empty (sym (ap tally_as c.in-Lists.is) ∙ w.count))

pub returns-in-BadAfter : goal.returns-in-BadAfter
returns-in-BadAfter c = λ limit gs l h w. (c.in-BadAfter.tokens, bad_there l c.in-BadAfter.tokens (homed_of c.in-BadAfter.source) (sym (ap tally_as c.in-BadAfter.is) ∙ w.count))

pub returns-in-TooLong : goal.returns-in-TooLong
returns-in-TooLong c = λ limit gs l h w. long_there l (sym (ap tally_as c.in-TooLong.is) ∙ w.count)
