use Rattle.std.proofs.Common.{List, map, ap, ◌∙◌}
use Rattle.included_forms.specs.declared.given.LostString.{LostString}
use Rattle.included_forms.specs.declared.steps.FlatForm.{FlatForm}
use Rattle.included_forms.specs.Counted.{lost_of}
use Rattle.included_forms.specs.Steps.{form_of as listed_form}
use Rattle.unit_sources.specs.UnitsRead.{lost_as}
use Rattle.library_table.specs.ListingsRead.{forms_left}
use Rattle.library_table.proofs.ListingRows.{lists_read, bad_read, long_read}
use Rattle.library_table.proofs.reading.forms_listed.Goals as goal

pub returns-in_ok-lost-in-Lists : goal.returns-in_ok-lost-in-Lists
returns-in_ok-lost-in-Lists c = λ l h.
    lists_read c.args.unit c.args.leading c.args.listed c.in-Lists.forms c.in-Lists.lost l (record { forms = c.in_ok-forms-in-Lists.forms; lost = c.in_ok-lost-in-Lists.lost }) c.in-Lists.is h
    (c.in_ok-forms-in-Lists.ensures ∙ ap (λ (fs : List FlatForm). forms_left c.args.leading (map listed_form fs)) c.as_slice.ensures.value)
    (c.in_ok-lost-in-Lists.ensures ∙ ap (λ (ls : List LostString). map lost_as (map lost_of ls)) c.as_slice-in-Lists.ensures.value)

pub returns-in-Bad : goal.returns-in-Bad
returns-in-Bad c = λ l h. bad_read c.args.unit c.args.leading c.args.listed c.in-Bad.source l c.bad.result c.in-Bad.is h c.bad.ensures

pub returns-in-TooLong : goal.returns-in-TooLong
returns-in-TooLong c = λ l h. long_read c.args.listed l c.in-TooLong.is h
