use Rattle.std.proofs.Common.{List, ap, sym, ◌∙◌}
use Rattle.scheme_model.specs.Data.{place_of, row}
use Rattle.scheme_model.specs.Data as model
use Rattle.scheme_model.specs.Included.{clause_of}
use Rattle.datum_reader.specs.declared.datum.Datum.{Datum}
use Rattle.datum_reader.specs.Views.{datum_of, data_of}
use Rattle.datum_reader.specs.Looks.{end_with}
use Rattle.known_libraries.specs.Weights.{weight}
use Rattle.included_forms.proofs.ClauseLaws.{clause_dotted, clause_proper, clause_weight}
use Rattle.included_forms.proofs.choices.clause_of.Goals as goal

pub returns-then-dotted : goal.returns-then-dotted
returns-then-dotted c = λ d l t known h. ap (clause_of t known h) l.1 ∙ clause_dotted t known h (place_of d) c.args.parts.now l.0 (sym l.2 ∙ c.if-dotted.true)

pub returns-in-Parts : goal.returns-in-Parts
returns-in-Parts c = λ d l.
    let r = c.in-Parts.requirement.now in
    let fs = c.in-Parts.forms.now in (
      λ t known h. ap (clause_of t known h) l.1 ∙ ap (λ (ds : List Datum). clause_of t known h (model.list (place_of d) (row (data_of ds) (end_with l.0)))) c.in-Parts.ensures
          ∙ clause_proper t known h (place_of d) r fs l.0 (sym l.2 ∙ c.if-dotted.false),
      weight (datum_of r),
      clause_weight (place_of d) c.args.parts.now r fs l.0 c.in-Parts.ensures (sym l.2 ∙ c.if-dotted.false) ∙ sym (ap weight l.1),
    )
