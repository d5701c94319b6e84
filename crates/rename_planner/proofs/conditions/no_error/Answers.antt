use Rattle.std.proofs.Common.{◌≡◌, ◌+◌, ◌<◌, ℕ, List, [], ◌++◌, length, take, drop, map, slice_get, get_or, None, Some, Ok, Err, refl, sym, ap, ◌∙◌, subst, arith}
use Rattle.std.specs.FinMap.{entries}
use Rattle.std.proofs.lemmas.List.{take_all}
use Rattle.scheme_model.specs.Diagnostics.{Diagnostic}
use Rattle.scheme_model.specs.Program.{result_at, units_of}
use Rattle.scheme_tokens.specs.LibraryNames.{library_text}
use Rattle.read_documents.specs.Readings.{documents_in, program_in}
use Rattle.read_documents.specs.UnitFindings.{first_error_at}
use Rattle.program_answers.specs.Placed.{IsErrorAt}
use Rattle.rename_conditions.specs.Renames.{broken, first_of, unless}
use Rattle.rename_planner.specs.Planning.{ComesTo, Holds, errors_in}
use Rattle.rename_answers.specs.ReadDocuments.{read_as}
use Rattle.rename_answers.specs.declared.faults.RenameFault.TheVariants as faults
use Rattle.rename_planner.proofs.BindLaws.{passes}
use Rattle.rename_planner.proofs.ErrorLaws.{any_default, at_number, found_first, no_errors, none_more, refuses}
use Rattle.rename_planner.proofs.conditions.no_error.Goals as goal

pub returns-in-Some : goal.returns-in-Some
returns-in-Some c = λ rs are.
    let ds = entries c.args.ws.now.texts in
    let e = c.args.ws.now.encoding in
    let units = c.args.units.now in
    let i = c.loop-unit.unit-index in
    let u = get_or units i 0 in
    let lt : i < length units = omega arith in
    let at : result_at (program_in rs).units u ≡ slice_get (program_in rs).units u =
    at_number c.args.ws.now.expansion.work library_text (map (λ d. d.0) ds) (units_of (documents_in rs)) (program_in rs) u c.program-program.result.now.units (program_in rs).units (c.program-program.ensures.of_texts rs are) in
    let told = subst (IsErrorAt e ds (first_error_at rs (program_in rs) (slice_get (program_in rs).units u))) c.in-Some.is (c.in_ok-place.ensures.exact rs are) in
    subst (λ (xs : List Diagnostic). ComesTo {B = Unit {0}} e ds Holds (unless (first_of xs) broken) (Err (faults.BrokenUnit c.in-Some.field-0.place c.in-Some.field-0.code)))
    (sym (found_first (read_as ds rs) units i u lt (any_default units i 0 u lt) (c.loop-unit.invariant rs are)))
    (refuses e ds rs u (errors_in (read_as ds rs) (drop (i + 1) units)) c.in-Some.field-0 at told)

pub loop-unit-preserved : goal.loop-unit-preserved
loop-unit-preserved c = λ rs are.
    let ds = entries c.args.ws.now.texts in
    let e = c.args.ws.now.encoding in
    let units = c.args.units.now in
    let i = c.loop-unit.unit-index in
    let u = get_or units i 0 in
    let lt : i < length units = omega arith in
    let at : result_at (program_in rs).units u ≡ slice_get (program_in rs).units u =
    at_number c.args.ws.now.expansion.work library_text (map (λ d. d.0) ds) (units_of (documents_in rs)) (program_in rs) u c.program-program.result.now.units (program_in rs).units (c.program-program.ensures.of_texts rs are) in
    let told = subst (IsErrorAt e ds (first_error_at rs (program_in rs) (slice_get (program_in rs).units u))) c.in_default.is (c.in_ok-place.ensures.exact rs are) in
    none_more (read_as ds rs) units i u lt (any_default units i 0 u lt) (c.loop-unit.invariant rs are) (no_errors e ds rs u at told)

pub returns : goal.returns
returns c = λ rs are.
    let ds = entries c.args.ws.now.texts in
    let all : errors_in (read_as ds rs) c.args.units.now ≡ [] = ap (errors_in (read_as ds rs)) (sym (take_all c.loop-unit.unit-index c.args.units.now (omega arith))) ∙ c.loop-unit.invariant rs are in
    passes c.args.ws.now.encoding ds (first_of (errors_in (read_as ds rs) c.args.units.now)) broken _ (ap first_of all)
