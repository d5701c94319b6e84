use Rattle.std.proofs.Common.{◌∷◌, [], Ok, Some, None, ap, map}
use Rattle.scheme_model.specs.Data.{place_of}
use Rattle.datum_reader.specs.Views.{datum_of}
use Rattle.included_strings.specs.Strings.{strings_among}
use Rattle.included_strings.proofs.StringLaws.{strings_one}
use Rattle.included_forms.specs.Steps.{text_by}
use Rattle.included_forms.proofs.Planned.{plans_none, plans_same}
use Rattle.included_forms.proofs.strings.push_text.Goals as goal

pub returns-in-None : goal.returns-in-None
returns-in-None c = λ t n.
    let f = text_by t c.args.way n in
    let d = datum_of c.args.datum.now in
    plans_same t n c.args.steps.now.items c.args.steps.now.items (Ok tt) [] (map f (strings_among (d ∷ []))) (ap (map f) (strings_one d None c.in-None.ensures)) (plans_none t n c.args.steps.now.items)

pub returns-in-Some : goal.returns-in-Some
returns-in-Some c = λ t n.
    let f = text_by t c.args.way n in
    let d = datum_of c.args.datum.now in
    plans_same t n c.args.steps.now.items c.push_step.new.steps.items c.push_step.result (f (record { place = place_of d; characters = c.in-Some.characters.now }) ∷ []) (map f (strings_among (d ∷ [])))
    (ap (map f) (strings_one d (Some c.in-Some.characters.now) c.in-Some.ensures)) (c.push_step.ensures t n)
