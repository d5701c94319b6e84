-- What a body is to those that stand before it (LSP 3.17, "Cancellation Support"): a request that can be cancelled, a cancellation, an
-- `exit`, or anything else.
use Rattle.std.specs.Prelude.{ℕ, List, Result, Ok, Err}
use Rattle.lsp_messages.specs.Messages.{message_of}
use Rattle.lsp_messages.specs.declared.message.Id.{Id}
use Rattle.lsp_messages.specs.declared.message.Call.{Call}
use Rattle.lsp_messages.specs.declared.message.Call.TheVariants as calls
use Rattle.lsp_messages.specs.declared.message.Note.{Note}
use Rattle.lsp_messages.specs.declared.message.Note.TheVariants as notes
use Rattle.lsp_messages.specs.declared.message.Message.{Message}
use Rattle.lsp_messages.specs.declared.message.Message.TheVariants as messages
use Rattle.lsp_messages.specs.declared.message.Reject.{Reject}
use Rattle.lsp_messages.specs.declared.message.Reject.TheVariants as rejects
use Rattle.lookahead.specs.declared.role.Role.{Role}
use Rattle.lookahead.specs.declared.role.Role.TheVariants.{Request, Cancellation, Exit, Other}

-- each request can be cancelled but those that begin and end a session
abbrev pub role_of_call : Id → Call → Role
role_of_call id (calls.Initialize prepare encoding) = Other
role_of_call id calls.Shutdown = Other
role_of_call id (calls.Ask place query) = Request id
role_of_call id (calls.Rename place new_name) = Request id

abbrev pub role_of_note : Note → Role
role_of_note notes.Exit = Exit
role_of_note (notes.Opened uri version text) = Other
role_of_note (notes.Changed uri version changes) = Other
role_of_note (notes.Closed uri) = Other
role_of_note (notes.Cancel id) = Cancellation id
role_of_note (notes.BadParams method) = Other
role_of_note notes.Other = Other

abbrev pub role_of_message : Message → Role
role_of_message (messages.Request id call) = role_of_call id call
role_of_message (messages.Notice note) = role_of_note note
role_of_message messages.Response = Other

-- so can a request of an unknown method or with bad parameters. No body says `Memory`, which stands here so that each case has a value
abbrev pub role_of_reject : Reject → Role
role_of_reject rejects.Memory = Other
role_of_reject rejects.Parse = Other
role_of_reject (rejects.Invalid id) = Other
role_of_reject (rejects.Method id) = Request id
role_of_reject (rejects.Params id) = Request id

abbrev pub role_in : Result Message Reject → Role
role_in (Ok message) = role_of_message message
role_in (Err reject) = role_of_reject reject

abbrev pub role_of : List ℕ → Role
role_of body = role_in (message_of body)
