-- The copy is the store, and its call answers by the event.
use Rattle.std.proofs.Common.{ap, ◌∙◌}
use Rattle.std.specs.Option.{option_map}
use Rattle.document_store.specs.Texts.{Texts, after}
use Rattle.document_changes.specs.Events.{event_of, fault_of}
use Rattle.document_changes.proofs.AfterLaws.{by_answer}
use Rattle.document_changes.proofs.texts.after_event.Goals as goal

pub returns-clause-texts : goal.returns-clause-texts
returns-clause-texts c =
    (by_answer c.take.result _ _ _ _ c.take.ensures c.in_ok-refused.ensures).0
    ∙ ap (λ (m : Texts). (after c.args.encoding m (event_of c.args.event.now)).0) c.in_ok-store.ensures

pub returns-clause-refused : goal.returns-clause-refused
returns-clause-refused c =
    (by_answer c.take.result _ _ _ _ c.take.ensures c.in_ok-refused.ensures).1
    ∙ ap (λ (m : Texts). option_map fault_of (after c.args.encoding m (event_of c.args.event.now)).1) c.in_ok-store.ensures
