use Rattle.std.proofs.Common.{sym, ap, ◌∙◌}
use Rattle.scheme_model.specs.OwnAnswers.{root_means}
use Rattle.scheme_model.specs.Questions.{Says}
use Rattle.unit_scopes.proofs.MeantSame.{meant_same}
use Rattle.note_answers.proofs.answers.is_literal.Goals as goal

pub returns : goal.returns
returns c = λ v r l i can is_literal is_ident.
    let s = v.state in
    ap Says (sym (c.is_same.ensures
    ∙ meant_same c.args.work.now.symbols c.told_apart.ensures.idents c.told_apart.ensures.symbols s.unit s.form c.meaning.result (root_means s l) (c.meaning.ensures v r l can is_literal) c.meaning-2.result (root_means s i)
    (c.meaning-2.ensures v r i can is_ident)))
