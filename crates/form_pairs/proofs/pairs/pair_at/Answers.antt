use Rattle.std.proofs.Common.{◌∙◌, ℕ, List, [], ◌∷◌, length, Option, Some, sym, ap}
use Rattle.std.specs.Option.{option_map}
use Rattle.form_pairs.specs.Fronts.{runs, runs_in}
use Rattle.carried_forms.specs.Paired.{UnitPair, with_forms}
use Rattle.form_pairs.specs.Units.{forms_in}
use Rattle.form_pairs.specs.declared.forms.Runs.{Runs}
use Rattle.form_pairs.proofs.UnitTexts.{many_texts}
use Rattle.form_pairs.specs.Units.{texts_at, uri_in}
use Rattle.form_pairs.proofs.pairs.pair_at.Goals as goal

pub returns-clause-pair : goal.returns-clause-pair
returns-clause-pair c =
    let b = c.args.before.now in
    let a = c.args.after.now in
    let r = c.in-Some.field-0 in
    let front = c.in-Some.front in
    let size = ap length c.forms_at-2.ensures in
    (λ j. record { before = b.unit; after = a.unit; size = size j; forms = runs (ap length c.forms_at.ensures j) (size j) r.front r.end } ∷ [])
    ∙ ap (λ (n : ℕ). with_forms b.unit a.unit n (Some (runs_in b a r))) (sym (many_texts (uri_in a.units.now) a.unit 0 (forms_in a.units.now a.unit)))
    ∙ ap (λ (o : Option (List (ℕ × ℕ))). with_forms b.unit a.unit (length (texts_at a.units.now a.unit)) o) (ap (option_map (runs_in b a)) (sym c.in-Some.is) ∙ c.in_ok-front.ensures.pairs)
