use Rattle.std.proofs.Common.{sym, ◌∙◌}
use Rattle.std.specs.FinMap.{entries}
use Rattle.read_documents.specs.Places.{bytes_at}
use Rattle.program_answers.specs.ToldAnswers.{facts_in}
use Rattle.program_answers.proofs.AskedLaws.{prepared_law, unprepared_law}
use Rattle.program_answers.proofs.answers.prepared.Goals as goal

pub returns-then-not-is_bound : goal.returns-then-not-is_bound
returns-then-not-is_bound c = λ rs source.
    unprepared_law c.args.asked.now.encoding (entries c.args.asked.now.texts.now) (facts_in rs) c.args.occ (sym (c.in_ok-is_bound.ensures rs source) ∙ c.if-not-is_bound.true)

pub returns : goal.returns
returns c = λ rs source.
    let exact = c.bytes_of-at.ensures.exact rs source.read in
    prepared_law c.args.asked.now.encoding (entries c.args.asked.now.texts.now) (facts_in rs) c.args.occ c.range-range.result c.in_ok-placeholder.placeholder (bytes_at c.bytes_of-at.result)
    (sym (c.in_ok-is_bound.ensures rs source) ∙ c.if-not-is_bound.false) exact c.range-range.ensures (c.in_ok-placeholder.ensures rs c.args.occ source.read exact)
