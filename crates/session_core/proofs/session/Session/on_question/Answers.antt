use Rattle.program_answers.specs.ToldAnswers.{query_of}
use Rattle.session_replies.specs.FromWire.{said_id}
use Rattle.session_core.proofs.Asking.{replies_so}
use Rattle.session_core.proofs.session.Session.on_question.Goals as goal

pub returns-clause-step : goal.returns-clause-step
returns-clause-step c =
    replies_so c.self.inside.mode c.collect.new.self c.self.inside.workspace c.args.self.now (said_id c.args.id) c.as_str.result.now c.args.at.now.uri c.args.at.now.pos (query_of c.args.query) c.in_ok-answer.answer
    c.in_ok-answered.field-0 c.in_ok-collect.ensures c.self.view_is c.as_str.ensures c.in_ok-answer.ensures c.in_ok-answered.ensures
