use Rattle.scheme_model.specs.Requirements.{library_name_of}
use Rattle.datum_reader.specs.Looks.{tree_at}
use Rattle.known_libraries.specs.PartsRead.{library_text}
use Rattle.known_libraries.proofs.NameTexts.{ok_of}
use Rattle.included_forms.proofs.PlanLaws.{named_err}
use Rattle.included_forms.proofs.plans.is_named.Goals as goal

pub returns-in_err-library_name : goal.returns-in_err-library_name
returns-in_err-library_name c = λ place.
    named_err c.from_residual.result c.in_err-library_name.field-0.0 (library_name_of (λ s. s) (tree_at place c.args.name.now)) c.from_residual.ensures.1 (c.in_err-library_name.ensures place)

pub returns : goal.returns
returns c = λ place.
    let p = ok_of library_text (library_name_of (λ s. s) (tree_at place c.args.name.now)) c.in_ok-library_name.field-0 (c.in_ok-library_name.ensures place) in
    (p.0, p.1)
