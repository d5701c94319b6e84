-- The bytes of an occurrence can be cut out of its text.
use Rattle.std.proofs.Common.{List, ℕ, sym, ap, ◌∙◌, subst}
use Rattle.std.specs.FinMap.{entries}
use Rattle.std.specs.List.{slice_range}
use Rattle.std.specs.Str.{IsUtf8}
use Rattle.program_answers.specs.Named.{CanCut}
use Rattle.read_documents.specs.Places.{bytes_at}
use Rattle.read_documents.specs.Readings.{program_in, span_seen}
use Rattle.program_answers.proofs.TokenCuts.{occ_cut}
use Rattle.program_answers.proofs.open.Open.written_at.Goals as goal

pub returns : goal.returns
returns c = λ rs o are is.
    let ds = entries c.args.self.now in
    let s = c.args.at.span in
    let can = occ_cut ds rs are (program_in rs).units o (bytes_at c.args.at) is (subst IsUtf8 c.text.ensures c.text.utf8) in
    c.in_ok-of.ensures ∙ c.cut-written.ensures (subst (λ (t : List ℕ). CanCut t (span_seen s)) (sym c.text.ensures) can) ∙ ap (λ (t : List ℕ). slice_range t s.start s.end) c.text.ensures
