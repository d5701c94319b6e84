-- What a body says (JSON-RPC 2.0 section 4). Its reading as JSON is judged first, then its shape, then its method, then its parameters.
use Rattle.std.specs.Prelude.{◌≡◌, ◌||◌, ℕ, List, Bool, false, Option, Some, None, Result, Ok, Err, option_and_then, is_some, if◌then◌else◌, codes}
use Rattle.std.specs.Str.{bytes_eq, is_utf8}
use Rattle.serde_json.specs.Data.{Data}
use Rattle.serde_json.specs.Read.{read}
use Rattle.serde_json.specs.Find.{get, as_str}
use Rattle.lsp_messages.specs.declared.fault.Fault.{Fault}
use Rattle.lsp_messages.specs.declared.fault.Fault.TheVariants.{Unknown, Bad}
use Rattle.lsp_messages.specs.declared.message.Id.{Id}
use Rattle.lsp_messages.specs.declared.message.Call.{Call}
use Rattle.lsp_messages.specs.declared.message.Note.{Note}
use Rattle.lsp_messages.specs.declared.message.Note.TheVariants.{BadParams, Other}
use Rattle.lsp_messages.specs.declared.message.Message.{Message}
use Rattle.lsp_messages.specs.declared.message.Message.TheVariants.{Request, Notice, Response}
use Rattle.lsp_messages.specs.declared.message.Reject.{Reject}
use Rattle.lsp_messages.specs.declared.message.Reject.TheVariants.{Parse, Invalid, Method, Params}
use Rattle.lsp_messages.specs.declared.message.Reject.TheVariants as rejects
use Rattle.lsp_messages.specs.Fields.{id_of}
use Rattle.lsp_messages.specs.Parameters.{call_of, note_of}

-- a JSON text is UTF-8 (RFC 8259 section 8.1)
abbrev pub json_of : List ℕ → Option Data
json_of body = if is_utf8 body then read body else None

-- whether a message is of version 2.0
abbrev pub is_version : Option (List ℕ) → Bool
is_version None = false
is_version (Some version) = bytes_eq version (codes "2.0")

abbrev pub is_rpc : Data → Bool
is_rpc d = is_version (option_and_then as_str (get (codes "jsonrpc") d))

-- the field id, where it is a valid one
abbrev pub valid_id : Data → Option Id
valid_id d = option_and_then id_of (get (codes "id") d)

-- what isn't a message
abbrev pub invalid : Data → Result Message Reject
invalid d = Err (Invalid (valid_id d))

-- a request, which has an id
abbrev pub request_of : Id → Result Call Fault → Result Message Reject
request_of id (Ok call) = Ok (Request id call)
request_of id (Err Unknown) = Err (Method id)
request_of id (Err Bad) = Err (Params id)

-- what a notification tells in the end: an unknown method is passed over
abbrev pub resulting_note : List ℕ → Result Note Fault → Note
resulting_note method (Ok note) = note
resulting_note method (Err Unknown) = Other
resulting_note method (Err Bad) = BadParams method

-- a notification, which has no id
abbrev pub notice_of : List ℕ → Result Note Fault → Result Message Reject
notice_of method told = Ok (Notice (resulting_note method told))

-- a message without a field method: a response has a result or an error
abbrev pub response_of : Data → Result Message Reject
response_of d = if is_some (get (codes "result") d) || is_some (get (codes "error") d) then Ok Response else invalid d

-- a message with a method and a field id, by the valid id
abbrev pub message_by_valid_id : List ℕ → Data → Option Id → Result Message Reject
message_by_valid_id method d None = invalid d
message_by_valid_id method d (Some id) = request_of id (call_of method d)

-- a message with a method, by its field id
abbrev pub message_by_id : List ℕ → Data → Option Data → Result Message Reject
message_by_id method d None = notice_of method (note_of method d)
message_by_id method d (Some id) = message_by_valid_id method d (id_of id)

-- a message with a field method, by the string that it must be
abbrev pub message_by_name : Data → Option (List ℕ) → Result Message Reject
message_by_name d None = invalid d
message_by_name d (Some method) = message_by_id method d (get (codes "id") d)

-- a message, by its field method
abbrev pub message_by_method : Data → Option Data → Result Message Reject
message_by_method d None = response_of d
message_by_method d (Some method) = message_by_name d (as_str method)

-- what the JSON of a body says
abbrev pub message_in : Option Data → Result Message Reject
message_in None = Err Parse
message_in (Some d) = if is_rpc d then message_by_method d (get (codes "method") d) else invalid d

-- what a body says
abbrev pub message_of : List ℕ → Result Message Reject
message_of body = message_in (json_of body)

-- What a function answered is what the definition gives, unless memory ran out.
abbrev pub Refuses : Reject → Result Message Reject → Type 0
Refuses rejects.Memory given = Unit {0}
Refuses Parse given = given ≡ Err Parse
Refuses (Invalid id) given = given ≡ Err (Invalid id)
Refuses (Method id) given = given ≡ Err (Method id)
Refuses (Params id) given = given ≡ Err (Params id)

abbrev pub Answers : Result Message Reject → Result Message Reject → Type 0
Answers (Ok message) given = given ≡ Ok message
Answers (Err reject) given = Refuses reject given
