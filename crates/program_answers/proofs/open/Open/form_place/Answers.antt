-- The form stands in one of the documents, where the definition has it.
use Rattle.std.proofs.Common.{◌≡◌, ◌∙◌, ℕ, min, ◌-◌, length, sym, ap, subst, arith}
use Rattle.std.specs.FinMap.{entries}
use Rattle.scheme_model.specs.Diagnostics.{Bytes}
use Rattle.scheme_model.specs.Program.{result_at}
use Rattle.document_store.specs.Texts.{Texts}
use Rattle.program_answers.specs.Placed.{IsPlace}
use Rattle.read_documents.specs.Places.{bytes_at, form_or_start, spans_of}
use Rattle.read_documents.specs.Readings.{AreReadAs, program_in}
use Rattle.read_documents.proofs.HeadsKept.{as_many_heads}
use Rattle.program_answers.proofs.open.Open.form_place.Goals as goal

pub returns-clause-inside : goal.returns-clause-inside
returns-clause-inside c = (bytes_at c.form_start.result, c.in_ok-place.ensures.place)

pub returns-clause-exact : goal.returns-clause-exact
returns-clause-exact c = λ rs are.
    let us = (program_in rs).units in
    let u = c.self.invariant.units rs (subst (λ (t : Texts). AreReadAs (entries t) rs) (sym c.self.view_is) are) in
    let many : length c.self.inside.heads.items ≡ length us = as_many_heads rs 0 c.self.inside.heads.items us u.heads in
    let n : c.min-unit.result ≡ min (length us - 1) c.args.unit = omega (arith, c.min-unit.ensures, c.saturating_sub-last.ensures, c.len.ensures, many, c.self.inside.heads.ok.0) in
    subst (λ (b : Bytes). IsPlace c.args.encoding (entries c.args.self.now) b c.in_ok-place.place)
    (c.form_start.ensures.exact rs us (c.places.ensures.exact rs are) ∙ ap (λ (m : ℕ). form_or_start (spans_of rs) us (result_at us m) m c.args.form) n) c.in_ok-place.ensures.place
