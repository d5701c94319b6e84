-- What the event leaves, its log and its lists.
use Rattle.std.proofs.Common.{◌≡◌, ◌≢◌, ◌∙◌, ap, refl, rules, Some, []}
use Rattle.document_store.specs.declared.faults.StoreFault.{StoreFault}
use Rattle.document_store.specs.declared.faults.StoreFault.TheVariants as faults
use Rattle.document_changes.specs.Events.{event_of}
use Rattle.session_replies.proofs.CountedLaws.{event_counted}
use Rattle.session_replies.proofs.Evented.{Updates, accepts, refuses, refuses_alone}
use Rattle.session_core.proofs.events.on_event.Goals as goal

pub returns-in-None-clause-event : goal.returns-in-None-clause-event
returns-in-None-clause-event g c =
    let u = c.in_ok-updated.updated in
    let w : Updates c.args.workspace.now.encoding c.args.workspace.now.texts c.update.new.self.texts c.args.event.now u.refused u.lists =
    record { texts = c.in_ok-updated.ensures.texts; refusal = c.in_ok-updated.ensures.refused; news = c.in_ok-updated.ensures.published } in
    accepts c.args.workspace.now.encoding c.args.workspace.now.texts c.update.new.self.texts c.args.event.now u.refused u.lists c.clear.new.self.items c.published.result w
    c.in-None.is c.clear.ensures.items c.published.ensures.replies c.published.ensures.end

pub returns-in-Some-TooLong-clause-event : goal.returns-in-Some-TooLong-clause-event
returns-in-Some-TooLong-clause-event g c =
    let u = c.in_ok-updated.updated in
    let w : Updates c.args.workspace.now.encoding c.args.workspace.now.texts c.update.new.self.texts c.args.event.now u.refused u.lists =
    record { texts = c.in_ok-updated.ensures.texts; refusal = c.in_ok-updated.ensures.refused; news = c.in_ok-updated.ensures.published } in
    let field : c.in-Some-TooLong.field-0 ≡ faults.TooLong = rw c.in-Some-TooLong.is at c.in-Some-TooLong.field-0-is in
    let long : u.refused ≡ Some faults.TooLong = c.in-Some-TooLong.is ∙ ap (λ (f : StoreFault). Some f) field in
    refuses c.args.workspace.now.encoding c.args.workspace.now.texts c.update.new.self.texts c.args.event.now u.refused u.lists faults.TooLong c.uri.result.now c.in_ok-messages.ensures.log.0
    [] c.in_ok-messages.messages.items c.published-in-Some-TooLong.result w
    long c.uri.ensures c.in_ok-messages.ensures.log.1 refl c.in_ok-messages.ensures.log.2 c.published-in-Some-TooLong.ensures.replies c.published-in-Some-TooLong.ensures.end

pub returns-in_ok-said-in-Some : goal.returns-in_ok-said-in-Some
returns-in_ok-said-in-Some g c =
    let u = c.in_ok-updated.updated in
    let w : Updates c.args.workspace.now.encoding c.args.workspace.now.texts c.update.new.self.texts c.args.event.now u.refused u.lists =
    record { texts = c.in_ok-updated.ensures.texts; refusal = c.in_ok-updated.ensures.refused; news = c.in_ok-updated.ensures.published } in
    let other : c.in-Some.fault ≢ faults.TooLong = search (c.in-Some.fault-is, c.in-Some.is, rules) in
    record {
      event = refuses_alone c.args.workspace.now.encoding c.args.workspace.now.texts c.update.new.self.texts c.args.event.now u.refused u.lists c.in-Some.fault c.uri-in-Some.result.now c.in_ok-refusal-in-Some.field-0
          c.in_ok-said-in-Some.field-0 w c.in-Some.is other c.uri-in-Some.ensures c.in_ok-refusal-in-Some.ensures c.in_ok-said-in-Some.ensures;
      encoding = c.update.ensures.encoding;
      kept = tt;
      counted = λ mode. event_counted mode c.args.workspace.now.encoding c.args.workspace.now.texts c.update.new.self.texts (event_of c.args.event.now) _ _ c.in_ok-updated.ensures.texts c.in_ok-updated.ensures.quiet c.in_ok-updated.ensures.steps;
    }

pub returns-in-None-clause-counted : goal.returns-in-None-clause-counted
returns-in-None-clause-counted g c =
    λ mode. event_counted mode c.args.workspace.now.encoding c.args.workspace.now.texts c.update.new.self.texts (event_of c.args.event.now) _ _ c.in_ok-updated.ensures.texts c.in_ok-updated.ensures.quiet c.in_ok-updated.ensures.steps

pub returns-in-Some-TooLong-clause-counted : goal.returns-in-Some-TooLong-clause-counted
returns-in-Some-TooLong-clause-counted g c =
    λ mode. event_counted mode c.args.workspace.now.encoding c.args.workspace.now.texts c.update.new.self.texts (event_of c.args.event.now) _ _ c.in_ok-updated.ensures.texts c.in_ok-updated.ensures.quiet c.in_ok-updated.ensures.steps
