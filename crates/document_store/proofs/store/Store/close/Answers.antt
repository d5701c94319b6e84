use Rattle.std.proofs.Common.{◌≡◌, ap, sym, ◌∙◌, None, is_some, refl}
use Rattle.std.specs.FinMap.{remove}
use Rattle.document_store.specs.Texts.{Texts, is_open}
use Rattle.document_store.specs.Docs.{texts_of}
use Rattle.document_store.proofs.Events.{closes}
use Rattle.document_store.proofs.TextsOf.{open_texts, texts_removed}
use Rattle.document_store.proofs.store.Store.close.Goals as goal
use Rattle.document_store.proofs.store.Store.close.Goals.{Joined-remove}

open_is : (c : Joined-remove) → c.is_some.result ≡ is_open c.args.self.now c.args.uri.now
open_is c = c.is_some.ensures ∙ ap is_some c.remove.ensures.value ∙ sym (open_texts c.self.inside.docs c.args.uri.now) ∙ ap (λ (m : Texts). is_open m c.args.uri.now) c.self.view_is

gone : (c : Joined-remove) → texts_of c.remove.new.self.entries ≡ remove c.args.self.now c.args.uri.now
gone c = texts_removed c.self.inside.docs c.remove.new.self c.args.uri.now None c.remove.ensures.updates refl ∙ ap (λ (m : Texts). remove m c.args.uri.now) c.self.view_is

pub returns-clause-was_open : goal.returns-clause-was_open
returns-clause-was_open c = open_is (goal.at.returns-clause-was_open c).Joined-remove

pub returns-clause-closed : goal.returns-clause-closed
returns-clause-closed c = gone (goal.at.returns-clause-closed c).Joined-remove

pub returns-clause-event : goal.returns-clause-event
returns-clause-event c = closes c.args.self.now _ c.args.uri.now c.is_some.result (open_is (goal.at.returns-clause-event c).Joined-remove) (gone (goal.at.returns-clause-event c).Joined-remove)
