use Rattle.std.proofs.Common.{◌≡◌, ◌∷◌, [], List, Bool, true, false, Option, map, refl, sym, ap, ◌∙◌}
use Rattle.std.specs.Prelude.{not, codes, if◌then◌else◌}
use Rattle.scheme_model.specs.Declarations.{is_headed}
use Rattle.scheme_model.specs.Includes.{StringAt}
use Rattle.scheme_model.specs.Included.{Homed, Listing, in_a_row, texts_or, form_alone, bad}
use Rattle.datum_reader.specs.Views.{datum_of, data_of}
use Rattle.included_forms.specs.declared.steps.Way.TheVariants as way
use Rattle.included_strings.specs.Strings.{strings_among}
use Rattle.included_forms.specs.Shapes.{kept, including_or_itself}
use Rattle.included_forms.specs.Steps.{from, text_by}
use Rattle.included_forms.proofs.Planned.{plans_same, plans_row}
use Rattle.included_forms.proofs.planning.including_declarations.Goals as goal

itself : Homed → Bool → Listing
itself h b = if b then form_alone true h else bad h

kept_itself : (h : Homed) (b : Bool) → itself h b ≡ kept (not b) h
unfolding itself
kept_itself h true = refl
kept_itself h false = refl

pub returns-in-Some : goal.returns-in-Some
returns-in-Some c = λ t.
    let n = c.args.origin.document in
    let h = from c.args.origin (datum_of c.args.datum.now) in
    let given = map (text_by t way.Declarations n) (strings_among (data_of c.in-Some.strings.now)) in
    plans_same t n c.args.steps.now.items c.push_texts.new.steps.items c.push_texts.result (in_a_row t.limit given ∷ []) (including_or_itself t h ∷ [])
    (ap (λ (o : Option (List StringAt)). texts_or t.limit (t.as_declarations n) o (if is_headed (codes "include-ci") h.datum then form_alone true h else bad h) ∷ []) c.in-Some.ensures.0)
    (plans_row t n c.args.steps.now.items c.push_texts.new.steps.items c.push_texts.result given (c.push_texts.ensures t n))

pub returns-in-None : goal.returns-in-None
unfolding itself
returns-in-None c = λ t.
    let n = c.args.origin.document in
    let h = from c.args.origin (datum_of c.args.datum.now) in
    plans_same t n c.args.steps.now.items c.keep.new.steps.items c.keep.result (kept (not c.is_headed.result) h ∷ []) (including_or_itself t h ∷ [])
    (ap (λ (o : Option (List StringAt)). texts_or t.limit (t.as_declarations n) o (itself h (is_headed (codes "include-ci") h.datum)) ∷ []) c.in-None.ensures
    ∙ ap (λ (b : Bool). itself h b ∷ []) (sym c.is_headed.ensures) ∙ ap (λ (l : Listing). l ∷ []) (kept_itself h c.is_headed.result))
    (c.keep.ensures t)
