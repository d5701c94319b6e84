use Rattle.std.proofs.Common.{false, sym, ap, ◌∙◌}
use Rattle.scheme_model.specs.Included.{token_count}
use Rattle.datum_reader.specs.Views.{datum_of}
use Rattle.included_forms.specs.declared.given.Given.{Given}
use Rattle.included_forms.specs.Counted.{Tally, tally_of, tally_followed, listing_of}
use Rattle.included_forms.proofs.TallyLaws.{counted_first}
use Rattle.included_forms.proofs.counting.step_count.Goals as goal

pub returns-in-Form : goal.returns-in-Form
returns-in-Form c = λ gs h behind.
    let n = token_count (datum_of c.in-Form.form.source.datum.now) in
    ap (λ (x : Tally). tally_followed c.args.limit x behind) c.form_count.ensures ∙ counted_first c.args.limit n false behind
    ∙ sym (ap (λ (g : Given). tally_followed c.args.limit (tally_of (listing_of gs g)) behind) c.in-Form.is)

pub returns-in-Text : goal.returns-in-Text
returns-in-Text c = λ gs h behind.
    ap (λ (x : Tally). tally_followed c.args.limit x behind) (c.text_count.ensures c.args.limit gs h)
    ∙ sym (ap (λ (g : Given). tally_followed c.args.limit (tally_of (listing_of gs g)) behind) c.in-Text.is)
