-- What the messages of a client are in the words of a session (JSON-RPC 2.0 sections 4 and 5; LSP 3.17).
use Rattle.std.specs.Prelude.{Result, Ok, Err, map}
use Rattle.std.specs.Option.{option_map}
use Rattle.ls_base.specs.Positions.{offset_of}
use Rattle.ls_base.specs.declared.encoding.Encoding.{Encoding}
use Rattle.ls_base.specs.declared.encoding.Encoding.TheVariants as encodings
use Rattle.ls_base.specs.declared.places.Pos.{Pos}
use Rattle.ls_base.specs.declared.places.Range.{Range}
use Rattle.ls_base.specs.declared.answers.Change.{Change}
use Rattle.lsp_messages.specs.declared.message.Id.{Id}
use Rattle.lsp_messages.specs.declared.message.Id.TheVariants as ids
use Rattle.lsp_messages.specs.declared.message.Call.{Call}
use Rattle.lsp_messages.specs.declared.message.Call.TheVariants as calls
use Rattle.lsp_messages.specs.declared.message.Note.{Note}
use Rattle.lsp_messages.specs.declared.message.Note.TheVariants as notes
use Rattle.lsp_messages.specs.declared.message.Message.{Message}
use Rattle.lsp_messages.specs.declared.message.Message.TheVariants as messages
use Rattle.lsp_messages.specs.declared.message.Reject.{Reject}
use Rattle.lsp_messages.specs.declared.message.Reject.TheVariants as rejects
use Rattle.scheme_model.specs.Session as session
use Rattle.scheme_model.specs.Texts as texts
use Rattle.program_answers.specs.ToldAnswers.{query_of}

-- ---- encodings, positions and changes

abbrev pub said_position : Pos → texts.Position
said_position p = record { line = p.line; character = p.character }

abbrev pub said_range : Range → texts.Range
said_range r = record { start = said_position r.start; end = said_position r.end }

abbrev pub said_change : Change → texts.Change
said_change c = record { range = option_map said_range c.range; text = c.text }

abbrev pub said_encoding : Encoding → texts.Encoding
said_encoding encodings.Utf8 = texts.Utf8
said_encoding encodings.Utf16 = texts.Utf16
said_encoding encodings.Utf32 = texts.Utf32

-- and back
abbrev pub encoding_of : texts.Encoding → Encoding
encoding_of texts.Utf8 = encodings.Utf8
encoding_of texts.Utf16 = encodings.Utf16
encoding_of texts.Utf32 = encodings.Utf32

-- a position, as the code has it
abbrev pub pos_of : texts.Position → Pos
pos_of p = record { line = p.line; character = p.character }

-- the offset of a position in an encoding
abbrev pub offsets : texts.Offsets
offsets encoding text p = offset_of (encoding_of encoding) text (pos_of p)

-- ---- requests and notifications

abbrev pub said_id : Id → session.Id
said_id (ids.Number n) = session.Number n
said_id (ids.Name s) = session.Name s

abbrev pub said_call : Call → session.Call
said_call (calls.Initialize prepare encoding) = session.Initialize prepare (said_encoding encoding)
said_call calls.Shutdown = session.Shutdown
said_call (calls.Ask place query) = session.Ask place.uri (said_position place.pos) (query_of query)
said_call (calls.Rename place new_name) = session.Rename place.uri (said_position place.pos) new_name

abbrev pub said_note : Note → session.Note
said_note notes.Exit = session.Exit
said_note (notes.Opened uri version text) = session.Document (texts.Added uri version text)
said_note (notes.Changed uri version changes) = session.Document (texts.Changed uri version (map said_change changes))
said_note (notes.Closed uri) = session.Document (texts.Closed uri)
said_note (notes.Cancel id) = session.Other
said_note (notes.BadParams method) = session.BadParams method
said_note notes.Other = session.Other

-- ---- messages

abbrev pub said_message : Message → session.Message
said_message (messages.Request id call) = session.Request (said_id id) (said_call call)
said_message (messages.Notice note) = session.Notice (said_note note)
said_message messages.Response = session.Response

-- a body that is no message, or a request that can't be answered; no body says `Memory`, which stands here so that
-- each case has a value
abbrev pub said_reject : Reject → session.Message
said_reject rejects.Memory = session.Unreadable
said_reject rejects.Parse = session.Unreadable
said_reject (rejects.Invalid id) = session.Invalid (option_map said_id id)
said_reject (rejects.Method id) = session.UnknownMethod (said_id id)
said_reject (rejects.Params id) = session.BadRequest (said_id id)

-- what a body says
abbrev pub said_by : Result Message Reject → session.Message
said_by (Ok message) = said_message message
said_by (Err reject) = said_reject reject
