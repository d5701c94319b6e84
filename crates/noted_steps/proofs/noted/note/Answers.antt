use Rattle.noted_steps.specs.Noting.{state_of, means_here}
use Rattle.noted_steps.proofs.NoteLaws.{plainly, lookup_stands}
use Rattle.noted_steps.proofs.noted.note.Goals as goal

pub returns-clause-noted : goal.returns-clause-noted
returns-clause-noted c = λ known ls s fs n e is.
    let work = c.args.work.now in
    let m = means_here s fs n.name in
    lookup_stands known work c.args.units.now ls s fs n.name c.args.target.meaning c.is_macro-keyword.result c.look_up.new.self c.look_up.ensures.start
    (c.is_macro-keyword.ensures work ls (state_of s) m (plainly work c.args.units.now ls s e) is.meaning) is.meaning
    (λ h means. c.look_up.ensures.noted s.since s.noted n.name m h is.ident means) e
