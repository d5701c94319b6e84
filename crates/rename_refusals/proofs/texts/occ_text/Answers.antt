use Rattle.std.proofs.Common.{rules, ◌≡◌, ◌<◌, ◌++◌, ℕ, List, length, codes, IfOk, ◌+◌, ◌-◌, ◌*◌, ◌≤◌, ◌/◌, ◌%◌, Bool, true, false, nat_eq, nat_lt, [], ◌∷◌, slice_index_or, slice_set, bit_and, bit_or, Fits, w8, w32, w64, Bor, MutBor}
use Rattle.std.specs.FinMap.{entries}
use Rattle.std.specs.Fmt.{decimal}
use Rattle.scheme_model.specs.Diagnostics.{bytes_of}
use Rattle.rename_model.specs.Difference as model
use Rattle.read_documents.specs.Places.{spans_of}
use Rattle.read_documents.specs.Readings.{Read, AreReadAs, program_in}
use Rattle.program_answers.specs.Placed.{form_bytes}
use Rattle.program_differences.specs.Differences.{IsDifference, kind_number, side_as}
use Rattle.program_differences.specs.declared.plan.Difference.{Difference as AnyDifference}
use Rattle.rename_conditions.specs.Readers.{Reader, IsReader}
use Rattle.rename_conditions.specs.Opened.{place_of}
use Rattle.rename_conditions.specs.Renames.{Refusal}
use Rattle.rename_answers.specs.ReadDocuments.{read_as}
use Rattle.rename_answers.specs.RefusalTexts as spec
use Rattle.rename_answers.specs.RenameOutcomes.{IsFaultOf}
use Rattle.rename_answers.specs.ToldRenames.{opened_as}
use Rattle.rename_refusals.proofs.texts.occ_text.Goals as goal
use Rattle.std.proofs.Common.{refl, sym, ap, ◌∙◌, subst}
use Rattle.rename_answers.proofs.PlaceLaws.{start_is}
use Rattle.rename_answers.proofs.SpansRead.{spans_as}

pub returns : goal.returns
returns c = λ rs are.
    let e = c.args.ws.now.encoding in
    let ds = entries c.args.ws.now.texts in
    let bytes = bytes_of (spans_of rs) (program_in rs).units c.args.occ in
    c.in_ok-start_text.ensures ∙ (start_is e ds bytes c.in_ok-place.place (c.in_ok-place.ensures.exact rs are) ∙ ap (λ ss. spec.place_text e ds (bytes_of ss (program_in rs).units c.args.occ)) (sym (spans_as rs)))
