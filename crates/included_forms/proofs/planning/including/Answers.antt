use Rattle.std.proofs.Common.{◌∷◌, [], List, Option, map, ap}
use Rattle.scheme_model.specs.Includes.{StringAt}
use Rattle.scheme_model.specs.Included.{in_a_row, texts_or, including}
use Rattle.datum_reader.specs.Views.{datum_of, data_of}
use Rattle.included_forms.specs.declared.steps.Way.TheVariants as way
use Rattle.included_strings.specs.Strings.{strings_among}
use Rattle.included_forms.specs.Shapes.{including_or_itself}
use Rattle.included_forms.specs.Steps.{from, text_by}
use Rattle.included_forms.proofs.Planned.{plans_same, plans_row}
use Rattle.included_forms.proofs.planning.including.Goals as goal

pub returns-in-Some : goal.returns-in-Some
returns-in-Some c = λ t.
    let n = c.args.origin.document in
    let h = from c.args.origin (datum_of c.args.datum.now) in
    let given = map (text_by t way.Forms n) (strings_among (data_of c.in-Some.strings.now)) in
    plans_same t n c.args.steps.now.items c.push_texts.new.steps.items c.push_texts.result (in_a_row t.limit given ∷ []) (including t h ∷ [])
    (ap (λ (o : Option (List StringAt)). texts_or t.limit (t.as_forms n) o (including_or_itself t h) ∷ []) c.in-Some.ensures.0)
    (plans_row t n c.args.steps.now.items c.push_texts.new.steps.items c.push_texts.result given (c.push_texts.ensures t n))

pub returns-in-None : goal.returns-in-None
returns-in-None c = λ t.
    let n = c.args.origin.document in
    let h = from c.args.origin (datum_of c.args.datum.now) in
    plans_same t n c.args.steps.now.items c.including_declarations.new.steps.items c.including_declarations.result (including_or_itself t h ∷ []) (including t h ∷ [])
    (ap (λ (o : Option (List StringAt)). texts_or t.limit (t.as_forms n) o (including_or_itself t h) ∷ []) c.in-None.ensures)
    (c.including_declarations.ensures t)
