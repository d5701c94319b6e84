use Rattle.std.proofs.Common.{ap, sym, ◌∙◌}
use Rattle.std.specs.Prelude.{not}
use Rattle.included_forms.specs.Counted.{counts_none, gives}
use Rattle.included_forms.proofs.counting.gives.Goals as goal

pub returns-in-Form : goal.returns-in-Form
returns-in-Form c = λ limit gs h. ap (gives gs) (sym c.in-Form.is)

pub returns-in-Text : goal.returns-in-Text
returns-in-Text c = λ limit gs h. ap not (c.is_nothing.ensures ∙ ap counts_none (c.text_count.ensures limit gs h)) ∙ ap (gives gs) (sym c.in-Text.is)

pub returns-in-Lost : goal.returns-in-Lost
returns-in-Lost c = λ limit gs h. ap (gives gs) (sym c.in-Lost.is)
