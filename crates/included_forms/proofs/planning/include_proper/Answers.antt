use Rattle.std.proofs.Common.{◌∷◌, [], ap, ◌∙◌}
use Rattle.scheme_model.specs.Data.{row}
use Rattle.scheme_model.specs.Declarations.{proper_parts}
use Rattle.scheme_model.specs.Included.{Listing, if_proper, including}
use Rattle.datum_reader.specs.Views.{datum_of}
use Rattle.datum_reader.specs.Looks.{end_with}
use Rattle.included_forms.specs.Steps.{from}
use Rattle.included_forms.proofs.Planned.{plans_bad, plans_same}
use Rattle.included_forms.proofs.DeclaredLaws.{proper_given, dotted_given}
use Rattle.included_forms.proofs.planning.include_proper.Goals as goal

pub returns-then-dotted : goal.returns-then-dotted
returns-then-dotted c = λ t parts end e.
    let h = from c.args.origin (datum_of c.args.datum.now) in
    plans_bad t c.args.origin.document c.args.steps.now.items c.bad.result (record { origin = c.args.origin; datum = c.args.datum }) (if_proper h (proper_parts (row parts (end_with end))) (λ ds. including t h)) c.bad.ensures
    (dotted_given h parts end (λ ds. including t h) (e ∙ c.if-dotted.true))

pub returns : goal.returns
returns c = λ t parts end e.
    let h = from c.args.origin (datum_of c.args.datum.now) in
    plans_same t c.args.origin.document c.args.steps.now.items c.including.new.steps.items c.including.result (including t h ∷ []) (if_proper h (proper_parts (row parts (end_with end))) (λ ds. including t h) ∷ [])
    (ap (λ (l : Listing). l ∷ []) (proper_given h parts end (λ ds. including t h) (e ∙ c.if-dotted.false))) (c.including.ensures t)
