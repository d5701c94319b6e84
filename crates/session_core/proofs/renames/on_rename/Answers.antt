use Rattle.std.proofs.Common.{ap}
use Rattle.session_core.proofs.Renamed.{accepted_so, counted_so, fault_in, refused_with}
use Rattle.session_core.proofs.renames.on_rename.Goals as goal

pub returns-in_ok-renamed-in-Ok-clause-answer : goal.returns-in_ok-renamed-in-Ok-clause-answer
returns-in_ok-renamed-in-Ok-clause-answer g c =
    accepted_so c.collect.new.self c.args.workspace.now c.in_ok-collect.ensures c.args.at.now c.args.new_name.now c.args.id c.in-Ok.edits c.in_ok-renamed-in-Ok.field-0 c.in-Ok.ensures.answer c.in_ok-renamed-in-Ok.ensures

pub returns-in_ok-renamed-in-Ok-clause-steps : goal.returns-in_ok-renamed-in-Ok-clause-steps
returns-in_ok-renamed-in-Ok-clause-steps g c = λ r is.
    counted_so c.collect.new.self c.args.workspace.now c.in_ok-collect.ensures c.args.at.now c.args.new_name.now r c.args.steps.now c.rename.new.steps (c.in-Ok.ensures.steps r is (λ q. absurd cc))

pub returns-in_ok-request_failed-in-Err-clause-answer : goal.returns-in_ok-request_failed-in-Err-clause-answer
returns-in_ok-request_failed-in-Err-clause-answer g c =
    refused_with c.collect.new.self c.args.workspace.now c.in_ok-collect.ensures c.args.at.now c.args.new_name.now c.args.id c.in-Err.fault c.in_ok-text-in-Err.text c.in_ok-request_failed-in-Err.field-0 c.rename.new.ws
    c.in-Err.ensures.texts c.in-Err.ensures.encoding c.in-Err.ensures.answer c.in_ok-text-in-Err.ensures.text c.in_ok-request_failed-in-Err.ensures

pub returns-in_ok-request_failed-in-Err-clause-steps : goal.returns-in_ok-request_failed-in-Err-clause-steps
returns-in_ok-request_failed-in-Err-clause-steps g c = λ r is.
    counted_so c.collect.new.self c.args.workspace.now c.in_ok-collect.ensures c.args.at.now c.args.new_name.now r c.args.steps.now c.rename.new.steps
    (c.in-Err.ensures.steps r is (λ q. c.in_ok-text-in-Err.ensures.memory (ap fault_in q)))
