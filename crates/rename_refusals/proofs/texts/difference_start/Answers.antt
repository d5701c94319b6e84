use Rattle.std.proofs.Common.{rules, ◌≡◌, ◌<◌, ◌++◌, ℕ, List, length, codes, IfOk, ◌+◌, ◌-◌, ◌*◌, ◌≤◌, ◌/◌, ◌%◌, Bool, true, false, nat_eq, nat_lt, [], ◌∷◌, slice_index_or, slice_set, bit_and, bit_or, Fits, w8, w32, w64, Bor, MutBor}
use Rattle.std.specs.FinMap.{entries}
use Rattle.std.specs.Fmt.{decimal}
use Rattle.scheme_model.specs.Diagnostics.{bytes_of}
use Rattle.rename_model.specs.Difference as model
use Rattle.read_documents.specs.Places.{spans_of}
use Rattle.read_documents.specs.Readings.{Read, AreReadAs, program_in}
use Rattle.program_answers.specs.Placed.{form_bytes}
use Rattle.program_differences.specs.Differences.{IsDifference, kind_number, side_as}
use Rattle.program_differences.specs.declared.plan.Difference.{Difference as AnyDifference}
use Rattle.rename_conditions.specs.Readers.{Reader, IsReader}
use Rattle.rename_conditions.specs.Opened.{place_of}
use Rattle.rename_conditions.specs.Renames.{Refusal}
use Rattle.rename_answers.specs.ReadDocuments.{read_as}
use Rattle.rename_answers.specs.RefusalTexts as spec
use Rattle.rename_answers.specs.RenameOutcomes.{IsFaultOf}
use Rattle.rename_answers.specs.ToldRenames.{opened_as}
use Rattle.rename_refusals.proofs.texts.difference_start.Goals as goal
use Rattle.std.proofs.Common.{refl, sym, ap, ◌∙◌, subst}
use Rattle.rename_answers.proofs.PlaceLaws.{start_is}
use Rattle.rename_answers.proofs.SpansRead.{spans_as}

pub returns-in_ok-start_text-in-None : goal.returns-in_ok-start_text-in-None
returns-in_ok-start_text-in-None c = λ rs are.
    let e = c.args.ws.now.encoding in
    let ds = entries c.args.ws.now.texts in
    let x = c.args.difference.now in
    let bytes = form_bytes (spans_of rs) (program_in rs).units x.unit x.form in
    c.in_ok-start_text-in-None.ensures ∙ (start_is e ds bytes c.in_ok-place-in-None.place (c.in_ok-place-in-None.ensures.exact rs are)
    ∙ (ap (λ ss. spec.place_text e ds (form_bytes ss (program_in rs).units x.unit x.form)) (sym (spans_as rs))
    ∙ ap (λ o. spec.place_text e ds (spec.difference_bytes (read_as ds rs) x.unit x.form o)) (sym c.in-None.is)))
