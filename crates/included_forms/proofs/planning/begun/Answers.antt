use Rattle.std.proofs.Common.{◌≡◌, ◌∷◌, [], List, map, refl, ap, ◌∙◌}
use Rattle.scheme_model.specs.Data.{Datum, row}
use Rattle.scheme_model.specs.Declarations.{proper_parts}
use Rattle.scheme_model.specs.Included.{Listing, in_a_row, if_proper, form_or_texts, forms_of}
use Rattle.datum_reader.specs.Views.{datum_of, data_of}
use Rattle.datum_reader.specs.Looks.{end_with}
use Rattle.included_forms.specs.Steps.{from}
use Rattle.included_forms.proofs.Planned.{plans_bad, plans_same, plans_row}
use Rattle.included_forms.proofs.DeclaredLaws.{proper_given, dotted_given}
use Rattle.included_forms.proofs.planning.begun.Goals as goal

both : {A B C : Type 0} (f : B → C) (g : A → B) (xs : List A) → map f (map g xs) ≡ map (λ x. f (g x)) xs
both f g [] = refl
both f g (x ∷ xs) = ap (λ ys. f (g x) ∷ ys) (both f g xs)

pub returns-then-dotted : goal.returns-then-dotted
returns-then-dotted c = λ t end e.
    let h = from c.args.origin (datum_of c.args.datum.now) in
    let ds = data_of c.args.parts.now in
    let f = λ (xs : List Datum). forms_of t (map (from c.args.origin) xs) in
    plans_bad t c.args.origin.document c.args.steps.now.items c.bad.result (record { origin = c.args.origin; datum = c.args.datum }) (if_proper h (proper_parts (row ds (end_with end))) f) c.bad.ensures (dotted_given h ds end f (e ∙ c.if-dotted.true))

pub returns : goal.returns
returns c = λ t end e.
    let n = c.args.origin.document in
    let h = from c.args.origin (datum_of c.args.datum.now) in
    let ds = data_of c.args.parts.now in
    let f = λ (xs : List Datum). forms_of t (map (from c.args.origin) xs) in
    let given = map (λ d. form_or_texts t (from c.args.origin d)) ds in
    plans_same t n c.args.steps.now.items c.forms.new.steps.items c.forms.result (in_a_row t.limit given ∷ []) (if_proper h (proper_parts (row ds (end_with end))) f ∷ [])
    (ap (λ (l : Listing). l ∷ []) (proper_given h ds end f (e ∙ c.if-dotted.false) ∙ ap (in_a_row t.limit) (both (form_or_texts t) (from c.args.origin) ds)))
    (plans_row t n c.args.steps.now.items c.forms.new.steps.items c.forms.result given (c.forms.ensures t))
