use Rattle.std.proofs.Common.{◌≡◌, [], refl, sym, ap, ◌∙◌, subst, Option}
use Rattle.std.specs.Prelude.{IfNone}
use Rattle.std.specs.FinMap.{entries}
use Rattle.ls_base.specs.declared.places.Place.{Place}
use Rattle.program_answers.specs.Classed.{head_of}
use Rattle.program_answers.specs.ToldAnswers.{facts_in, place_told}
use Rattle.class_edits.specs.Clashes as code
use Rattle.rename_conditions.specs.Renames.{PrefixClash, clashes, first_of}
use Rattle.rename_answers.specs.ReadDocuments.{read_as}
use Rattle.rename_planner.proofs.BindLaws.{passes, refused}
use Rattle.rename_planner.proofs.StepLaws.{clashes_same, mapped_none, mapped_some}
use Rattle.rename_planner.proofs.conditions.no_clash.Goals as goal

pub returns-in-Some-clause-exact : goal.returns-in-Some-clause-exact
returns-in-Some-clause-exact c = λ rs o are is.
    let ds = entries c.args.ws.now.texts in
    let e = c.args.ws.now.encoding in
    let exact = rw (c.open.ensures, c.as_slice.ensures, c.encoding.ensures) at c.in_ok-place.ensures.exact in
    let it = mapped_some (place_told e ds) (head_of (code.clashes (facts_in rs) o)) _ (sym (exact rs o are is.parts) ∙ c.in-Some.is) in
    refused _ e ds (first_of (clashes (read_as ds rs) o)) PrefixClash it.0 _ (ap head_of (clashes_same ds rs o) ∙ it.1) (it.0, refl, it.2)

pub returns-in-None-clause-exact : goal.returns-in-None-clause-exact
returns-in-None-clause-exact c = λ rs o are is.
    let ds = entries c.args.ws.now.texts in
    let e = c.args.ws.now.encoding in
    let exact = rw (c.open.ensures, c.as_slice.ensures, c.encoding.ensures) at c.in_ok-place.ensures.exact in
    passes e ds (first_of (clashes (read_as ds rs) o)) PrefixClash _
    (ap head_of (clashes_same ds rs o) ∙ mapped_none (place_told e ds) (head_of (code.clashes (facts_in rs) o)) (sym (exact rs o are is.parts) ∙ c.in-None.is))

pub returns-in-None-clause-apart : goal.returns-in-None-clause-apart
returns-in-None-clause-apart c = λ rs o are is.
    let apart = rw (c.open.ensures, c.as_slice.ensures) at c.in_ok-place.ensures.apart in
    subst (λ (p : Option Place). IfNone p (code.clashing (facts_in rs).links o ≡ [])) c.in-None.is (apart rs o are is.parts)
