use Rattle.std.proofs.Common.{sym, ◌∙◌}
use Rattle.scheme_model.specs.Requirements.{holds, clause_holds}
use Rattle.datum_reader.specs.Looks.{tree_at}
use Rattle.known_libraries.proofs.Chaining.{reads_same}
use Rattle.known_libraries.proofs.RequirementRows.{plain_clause}
use Rattle.known_libraries.proofs.requirements.clause_holds.Goals as goal

pub returns : goal.returns
returns c = λ has k at later e.
    let t = tree_at at c.args.datum.now in
    reads_same (λ b. b) c.holds.result (holds (λ s. s) has t) (clause_holds (λ s. s) has t later) (plain_clause has t later (sym (c.is_else.ensures at) ∙ c.if-is_else.false)) (c.holds.ensures has k at)
