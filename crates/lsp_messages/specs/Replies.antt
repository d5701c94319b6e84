-- The JSON of each message to the client, with the members of an object in the byte order of their keys, and its text
-- (JSON-RPC 2.0 section 5; LSP 3.17).
use Rattle.std.specs.Prelude.{ℕ, ℤ, List, [], ◌∷◌, Bool, true, false, Option, Some, None, map, codes}
use Rattle.serde_json.specs.Data.{Data, null, boolean, number, unsigned, string, array, object, Members, no_members, member, put}
use Rattle.serde_json.specs.Find.{of_integer}
use Rattle.serde_json.specs.View.{items_of}
use Rattle.serde_json.specs.Written.{compact_text}
use Rattle.ls_base.specs.declared.encoding.Encoding.{Encoding}
use Rattle.ls_base.specs.declared.places.Pos.{Pos}
use Rattle.ls_base.specs.declared.places.Range.{Range}
use Rattle.ls_base.specs.declared.places.Place.{Place}
use Rattle.ls_base.specs.declared.answers.Arrow.{Arrow}
use Rattle.ls_base.specs.declared.answers.Highlight.{Highlight}
use Rattle.ls_base.specs.declared.answers.TextEdit.{TextEdit}
use Rattle.ls_base.specs.declared.answers.DocEdits.{DocEdits}
use Rattle.ls_base.specs.declared.answers.Diagnostic.{Diagnostic}
use Rattle.ls_base.specs.declared.answers.Answer.{Answer}
use Rattle.ls_base.specs.declared.answers.Answer.TheVariants as answers
use Rattle.lsp_messages.specs.declared.message.Id.{Id}
use Rattle.lsp_messages.specs.declared.message.Id.TheVariants.{Number, Name}
use Rattle.lsp_messages.specs.declared.reply.Reply.{Reply}
use Rattle.lsp_messages.specs.declared.reply.Reply.TheVariants as replies
use Rattle.lsp_messages.specs.Encodings.{encoding_name}

-- ---- numbers and lists

abbrev pub natural_json : ℕ → Data
natural_json n = number (unsigned n)

abbrev pub integer_json : ℤ → Data
integer_json z = number (of_integer z)

abbrev pub list_json : {A : Type 0} → (A → Data) → List A → Data
list_json json xs = array (items_of (map json xs))

-- ---- places in documents, and what is answered

-- Position
abbrev pub position_json : Pos → Data
position_json p = object (member (codes "character") (natural_json p.character) (member (codes "line") (natural_json p.line) no_members))

-- Range
abbrev pub range_json : Range → Data
range_json r = object (member (codes "end") (position_json r.end) (member (codes "start") (position_json r.start) no_members))

-- Location
abbrev pub place_json : Place → Data
place_json p = object (member (codes "range") (range_json p.range) (member (codes "uri") (string p.uri) no_members))

-- an arrow, from its binder to its use
abbrev pub arrow_json : Arrow → Data
arrow_json a = object (member (codes "from") (place_json a.from) (member (codes "to") (place_json a.to) no_members))

-- DocumentHighlight
abbrev pub highlight_json : Highlight → Data
highlight_json h = object (member (codes "kind") (natural_json h.kind) (member (codes "range") (range_json h.range) no_members))

-- what prepareRename answers
abbrev pub prepared_json : Range → List ℕ → Data
prepared_json range placeholder = object (member (codes "placeholder") (string placeholder) (member (codes "range") (range_json range) no_members))

-- TextEdit
abbrev pub text_edit_json : TextEdit → Data
text_edit_json e = object (member (codes "newText") (string e.new_text) (member (codes "range") (range_json e.range) no_members))

-- the edits of each document under its uri; of equal uris the last counts
abbrev pub with_documents : Members → List DocEdits → Members
with_documents found [] = found
with_documents found (d ∷ ds) = with_documents (put d.uri (list_json text_edit_json d.edits) found) ds

-- WorkspaceEdit
abbrev pub edits_json : List DocEdits → Data
edits_json ds = object (member (codes "changes") (object (with_documents no_members ds)) no_members)

abbrev pub answer_json : Answer → Data
answer_json answers.Nothing = null
answer_json (answers.Places places) = list_json place_json places
answer_json (answers.Highlights highlights) = list_json highlight_json highlights
answer_json (answers.Prepared range placeholder) = prepared_json range placeholder
answer_json (answers.Arrows arrows) = list_json arrow_json arrows
answer_json (answers.Edits edits) = edits_json edits

-- ---- what the server can do

-- ServerCapabilities.renameProvider
abbrev pub rename_json : Bool → Data
rename_json false = boolean true
rename_json true = object (member (codes "prepareProvider") (boolean true) no_members)

-- TextDocumentSyncOptions: documents are opened and closed, and changes come as ranges
abbrev pub sync_json : Data
sync_json = object (member (codes "change") (natural_json 2) (member (codes "openClose") (boolean true) no_members))

-- ServerCapabilities
abbrev pub capabilities_json : Bool → Encoding → Data
capabilities_json prepare encoding = object
    (member (codes "definitionProvider") (boolean true)
    (member (codes "documentHighlightProvider") (boolean true)
    (member (codes "positionEncoding") (string (encoding_name encoding))
    (member (codes "referencesProvider") (boolean true)
    (member (codes "renameProvider") (rename_json prepare)
    (member (codes "textDocumentSync") sync_json no_members))))))

-- InitializeResult
abbrev pub initialized_json : Bool → Encoding → Data
initialized_json prepare encoding = object
    (member (codes "capabilities") (capabilities_json prepare encoding)
    (member (codes "serverInfo") (object (member (codes "name") (string (codes "scheme_ls")) no_members)) no_members))

-- ---- diagnostics

-- Diagnostic
abbrev pub diagnostic_json : Diagnostic → Data
diagnostic_json d = object
    (member (codes "code") (natural_json d.code)
    (member (codes "message") (string d.message)
    (member (codes "range") (range_json d.range)
    (member (codes "severity") (natural_json d.severity)
    (member (codes "source") (string (codes "scheme_ls")) no_members)))))

-- a version, where there is one
abbrev pub version_member : Option ℤ → Members
version_member None = no_members
version_member (Some version) = member (codes "version") (integer_json version) no_members

-- PublishDiagnosticsParams
abbrev pub publish_json : List ℕ → Option ℤ → List Diagnostic → Data
publish_json uri version list = object (member (codes "diagnostics") (list_json diagnostic_json list) (member (codes "uri") (string uri) (version_member version)))

-- ---- messages

abbrev pub rpc_version : Data
rpc_version = string (codes "2.0")

abbrev pub id_json : Id → Data
id_json (Number n) = integer_json n
id_json (Name s) = string s

-- null, where there is none
abbrev pub optional_id_json : Option Id → Data
optional_id_json None = null
optional_id_json (Some id) = id_json id

-- the reply to a request
abbrev pub result_json : Id → Data → Data
result_json id result = object (member (codes "id") (id_json id) (member (codes "jsonrpc") rpc_version (member (codes "result") result no_members)))

-- an error reply
abbrev pub error_json : Option Id → ℤ → List ℕ → Data
error_json id code text = object
    (member (codes "error") (object (member (codes "code") (integer_json code) (member (codes "message") (string text) no_members)))
    (member (codes "id") (optional_id_json id)
    (member (codes "jsonrpc") rpc_version no_members)))

-- a notification
abbrev pub notification_json : List ℕ → Data → Data
notification_json method params = object (member (codes "jsonrpc") rpc_version (member (codes "method") (string method) (member (codes "params") params no_members)))

-- LogMessageParams, as an error
abbrev pub log_json : List ℕ → Data
log_json text = object (member (codes "message") (string text) (member (codes "type") (natural_json 1) no_members))

abbrev pub reply_json : Reply → Data
reply_json (replies.Capabilities id prepare encoding) = result_json id (initialized_json prepare encoding)
reply_json (replies.Result id answer) = result_json id (answer_json answer)
reply_json (replies.Error id code text) = error_json id code text
reply_json (replies.Publish uri version list) = notification_json (codes "textDocument/publishDiagnostics") (publish_json uri version list)
reply_json (replies.Log text) = notification_json (codes "window/logMessage") (log_json text)

-- the body of a reply: its JSON with no white space
abbrev pub reply_text : Reply → List ℕ
reply_text reply = compact_text (reply_json reply)
