use Rattle.std.proofs.Common.{rules, ◌≡◌, ◌<◌, ◌++◌, ℕ, List, length, codes, IfOk, ◌+◌, ◌-◌, ◌*◌, ◌≤◌, ◌/◌, ◌%◌, Bool, true, false, nat_eq, nat_lt, [], ◌∷◌, slice_index_or, slice_set, bit_and, bit_or, Fits, w8, w32, w64, Bor, MutBor}
use Rattle.std.specs.FinMap.{entries}
use Rattle.std.specs.Fmt.{decimal}
use Rattle.scheme_model.specs.Diagnostics.{bytes_of}
use Rattle.rename_model.specs.Difference as model
use Rattle.read_documents.specs.Places.{spans_of}
use Rattle.read_documents.specs.Readings.{Read, AreReadAs, program_in}
use Rattle.program_answers.specs.Placed.{form_bytes}
use Rattle.program_differences.specs.Differences.{IsDifference, kind_number, side_as}
use Rattle.program_differences.specs.declared.plan.Difference.{Difference as AnyDifference}
use Rattle.rename_conditions.specs.Readers.{Reader, IsReader}
use Rattle.rename_conditions.specs.Opened.{place_of}
use Rattle.rename_conditions.specs.Renames.{Refusal}
use Rattle.rename_answers.specs.ReadDocuments.{read_as}
use Rattle.rename_answers.specs.RefusalTexts as spec
use Rattle.rename_answers.specs.RenameOutcomes.{IsFaultOf}
use Rattle.rename_answers.specs.ToldRenames.{opened_as}
use Rattle.rename_refusals.proofs.texts.refusal_text.Goals as goal
use Rattle.std.proofs.Common.{refl, sym, ap, ◌∙◌, subst}
use Rattle.rename_answers.proofs.PlaceLaws.{start_is}
use Rattle.rename_answers.proofs.SpansRead.{spans_as}
use Rattle.rename_answers.proofs.ReadersAgree.{opened_is_read}
use Rattle.program_answers.proofs.TextLists.{some_row}

pub returns-in_ok-with-in-Differs-clause-text : goal.returns-in_ok-with-in-Differs-clause-text
returns-in_ok-with-in-Differs-clause-text c = λ r refusal is fault.
    let e = c.args.ws.now.encoding in
    let ds = entries c.args.ws.now.texts in
    let row = some_row ds in
    let f : (d : model.Difference) × (refusal ≡ _) × IsDifference c.in-Differs.difference d = subst (IsFaultOf e ds refusal) c.in-Differs.is fault in
    let text : c.in_ok-text-in-Differs.text ≡ spec.difference_text e ds (read_as ds row.0) f.0 = c.in_ok-text-in-Differs.ensures row.0 f.0 row.1 f.2 in
    c.in_ok-with-in-Differs.ensures ∙ (ap (λ t. codes "refused 9 " ++ t) (text ∙ ap (λ w. spec.difference_text e ds w f.0) (sym (opened_is_read r is ds row.0 row.1)))
    ∙ ap (spec.refusal_text e ds (opened_as r ds)) (sym f.1))
