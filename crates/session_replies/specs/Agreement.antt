-- The store's definition of what events make of the texts, in the words of a session's.
use Rattle.std.specs.Prelude.{Option, map}
use Rattle.std.specs.Option.{option_map}
use Rattle.document_store.specs.Texts as store
use Rattle.scheme_model.specs.Texts as texts
use Rattle.session_replies.specs.FromWire.{said_change}

abbrev pub said_event : store.Event → texts.Event
said_event (store.Added uri version text) = texts.Added uri version text
said_event (store.Changed uri version changes) = texts.Changed uri version (map said_change changes)
said_event (store.Closed uri) = texts.Closed uri

abbrev pub said_refusal : store.Refusal → texts.Refusal
said_refusal store.NotOpen = texts.NotOpen
said_refusal store.BadRange = texts.BadRange
said_refusal store.TooLong = texts.TooLong
said_refusal store.TooMany = texts.TooMany

-- what an event leaves, and its refusal
abbrev pub said_after : store.Texts × Option store.Refusal → texts.Texts × Option texts.Refusal
said_after result = (result.0, option_map said_refusal result.1)
