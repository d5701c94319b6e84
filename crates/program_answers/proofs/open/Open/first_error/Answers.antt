-- An Error stands in one of the documents.
use Rattle.std.proofs.Common.{◌≡◌, ◌∙◌, ◌<◌, ℕ, List, Option, Some, None, length, slice_get, refl, sym, ap, subst, arith}
use Rattle.std.specs.FinMap.{entries}
use Rattle.document_store.specs.Texts.{Texts}
use Rattle.read_documents.specs.declared.findings.At.{At}
use Rattle.read_documents.specs.Belongs.{AreErrorsIn, error_in}
use Rattle.program_answers.specs.Placed.{IsErrorAt}
use Rattle.read_documents.specs.Readings.{AreReadAs, program_in}
use Rattle.read_documents.specs.UnitFindings.{first_error_at}
use Rattle.read_documents.specs.Places.{bytes_at}
use Rattle.program_answers.proofs.TextLaws.{as_many}
use Rattle.read_documents.proofs.ToldUnits.{first_at}
use Rattle.program_answers.proofs.open.Open.first_error.Goals as goal

pub place-requires : goal.place-requires
place-requires c =
    let many = as_many (entries c.self.inside.store) c.self.inside.documents.items c.self.invariant.documents in
    let seen = ap (λ (t : Texts). length (entries t)) c.self.view_is in
    let errors : AreErrorsIn (length c.self.inside.documents.items) c.as_slice.result.now = subst (λ (es : List (Option (At × ℕ))). AreErrorsIn (length c.self.inside.documents.items) es) (sym c.as_slice.ensures.value) c.self.invariant.errors in
    let below : c.in-Some.at.document < length c.self.inside.documents.items = c.in-Some.ensures.inside (length c.self.inside.documents.items) errors in
    omega arith

pub returns-clause-inside : goal.returns-clause-inside
returns-clause-inside c = (bytes_at c.in-Some.at, c.in_ok-place.ensures.place)

pub returns-clause-exact : goal.returns-clause-exact
returns-clause-exact c = λ rs are.
    let p = program_in rs in
    let u = c.self.invariant.units rs (subst (λ (t : Texts). AreReadAs (entries t) rs) (sym c.self.view_is) are) in
    let e : Some (c.in-Some.at, c.in-Some.code) ≡ first_error_at rs p (slice_get p.units c.args.unit) =
    c.in-Some.ensures.exact ∙ (ap (λ (es : List (Option (At × ℕ))). error_in (slice_get es c.args.unit)) c.as_slice.ensures.value ∙ first_at rs p c.self.inside.errors.items u.errors c.args.unit) in
    subst (λ (o : Option (At × ℕ)). IsErrorAt c.args.encoding (entries c.args.self.now) o (Some (record { place = c.in_ok-place.place; code = c.in-Some.code }))) e (c.in_ok-place.ensures.place, refl)

pub returns-in_default-clause-exact : goal.returns-in_default-clause-exact
returns-in_default-clause-exact c = λ rs are.
    let p = program_in rs in
    let u = c.self.invariant.units rs (subst (λ (t : Texts). AreReadAs (entries t) rs) (sym c.self.view_is) are) in
    let e : None ≡ first_error_at rs p (slice_get p.units c.args.unit) =
    c.in_default.ensures.exact ∙ (ap (λ (es : List (Option (At × ℕ))). error_in (slice_get es c.args.unit)) c.as_slice.ensures.value ∙ first_at rs p c.self.inside.errors.items u.errors c.args.unit) in
    subst (λ (o : Option (At × ℕ)). IsErrorAt c.args.encoding (entries c.args.self.now) o None) e tt
