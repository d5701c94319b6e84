use Rattle.std.proofs.Common.{sym, ◌∙◌}
use Rattle.scheme_model.specs.Requirements.{holds}
use Rattle.scheme_model.specs.Ident.{symbol_of}
use Rattle.feature_requirements.specs.Judged.{clause_judged}
use Rattle.feature_requirements.proofs.JudgeLaws.{reads_same, plain_clause}
use Rattle.feature_requirements.proofs.requirements.Judge.clause_holds.Goals as goal

pub returns : goal.returns
returns c = λ known t k h.
    reads_same (λ b. b) c.holds.result (holds symbol_of known t) (clause_judged known t c.args.last) (plain_clause known t c.args.last (sym (c.is_else.ensures t h) ∙ c.if-is_else.false)) (c.holds.ensures known t k h)
