-- The methods, and what the parameters of each say (LSP 3.17, "Lifecycle Messages", "Text Document Synchronization", "Language
-- Features").
use Rattle.std.specs.Prelude.{ℕ, List, [], ◌∷◌, Bool, false, Option, Some, None, Result, Ok, Err, option_and_then, unwrap_or, if◌then◌else◌, codes}
use Rattle.std.specs.Str.{bytes_eq}
use Rattle.serde_json.specs.Data.{Data, Items, no_items, item}
use Rattle.serde_json.specs.Find.{get, as_bool}
use Rattle.ls_base.specs.declared.answers.Change.{Change}
use Rattle.ls_base.specs.declared.answers.Query.{Query}
use Rattle.ls_base.specs.declared.answers.Query.TheVariants.{Definition, References, Highlights, Prepare, Arrows}
use Rattle.ls_base.specs.declared.places.Range.{Range}
use Rattle.lsp_messages.specs.declared.fault.Fault.{Fault}
use Rattle.lsp_messages.specs.declared.fault.Fault.TheVariants.{Unknown}
use Rattle.lsp_messages.specs.declared.message.At.{At}
use Rattle.lsp_messages.specs.declared.message.Call.{Call}
use Rattle.lsp_messages.specs.declared.message.Call.TheVariants.{Initialize, Shutdown, Ask, Rename}
use Rattle.lsp_messages.specs.declared.message.Note.{Note}
use Rattle.lsp_messages.specs.declared.message.Id.{Id}
use Rattle.lsp_messages.specs.declared.message.Note.TheVariants.{Exit, Opened, Changed, Closed, Cancel, Other}
use Rattle.lsp_messages.specs.Encodings.{agreed_encoding}
use Rattle.lsp_messages.specs.Fields.{◌>>=◌, field_at, text_at, boolean_at, list_at, integer_at, position_at, range_of, id_of}

-- the document that a message's parameters name (TextDocumentIdentifier, TextDocumentItem)
abbrev pub document_in : Data → Result Data Fault
document_in message = field_at (codes "params") message >>= field_at (codes "textDocument")

-- ---- what requests ask

-- whether a client states prepare support (RenameClientCapabilities)
abbrev pub prepare_support : Data → Option Bool
prepare_support message =
    let params = get (codes "params") message in
    let capabilities = option_and_then (get (codes "capabilities")) params in
    let documents = option_and_then (get (codes "textDocument")) capabilities in
    let rename = option_and_then (get (codes "rename")) documents in
    option_and_then as_bool (option_and_then (get (codes "prepareSupport")) rename)

abbrev pub states_prepare : Data → Bool
states_prepare message = unwrap_or (prepare_support message) false

-- the arrows of a document
abbrev pub arrows_asked : Data → Result Call Fault
arrows_asked message = do
  document ← document_in message
  uri ← text_at (codes "uri") document
  Ok (Ask (record { uri = uri; pos = record { line = 0; character = 0 } }) Arrows)

-- a position in a document (TextDocumentPositionParams)
abbrev pub place_in : Data → Result At Fault
place_in message = do
  params ← field_at (codes "params") message
  document ← field_at (codes "textDocument") params
  uri ← text_at (codes "uri") document
  pos ← position_at (codes "position") params
  Ok (record { uri = uri; pos = pos })

-- a question about a position
abbrev pub asked_there : Query → Data → Result Call Fault
asked_there query message = do
  at ← place_in message
  Ok (Ask at query)

-- whether declarations count among references (ReferenceContext)
abbrev pub asks_declaration : Data → Result Bool Fault
asks_declaration message = do
  params ← field_at (codes "params") message
  context ← field_at (codes "context") params
  boolean_at (codes "includeDeclaration") context

-- the references of what stands at a position (ReferenceParams)
abbrev pub references_asked : Data → Result Call Fault
references_asked message = do
  declaration ← asks_declaration message
  asked_there (References declaration) message

-- a rename of what stands at a position (RenameParams)
abbrev pub rename_asked : Data → Result Call Fault
rename_asked message = do
  at ← place_in message
  params ← field_at (codes "params") message
  new_name ← text_at (codes "newName") params
  Ok (Rename at new_name)

-- what a request asks, by its method
abbrev pub call_of : List ℕ → Data → Result Call Fault
call_of method message =
    if bytes_eq method (codes "initialize") then Ok (Initialize (states_prepare message) (agreed_encoding message))
    else if bytes_eq method (codes "shutdown") then Ok Shutdown
    else if bytes_eq method (codes "textDocument/definition") then asked_there Definition message
    else if bytes_eq method (codes "textDocument/references") then references_asked message
    else if bytes_eq method (codes "textDocument/documentHighlight") then asked_there Highlights message
    else if bytes_eq method (codes "textDocument/prepareRename") then asked_there Prepare message
    else if bytes_eq method (codes "textDocument/rename") then rename_asked message
    else if bytes_eq method (codes "scheme/arrows") then arrows_asked message
    else Err Unknown

-- ---- what notifications tell

-- an opened document (DidOpenTextDocumentParams)
abbrev pub opened_in : Data → Result Note Fault
opened_in message = do
  document ← document_in message
  uri ← text_at (codes "uri") document
  version ← integer_at (codes "version") document
  text ← text_at (codes "text") document
  Ok (Opened uri version text)

-- the range that a change replaces, or none where the change is of the whole text
abbrev pub replaced_range : Option Data → Result (Option Range) Fault
replaced_range None = Ok None
replaced_range (Some d) = range_of d >>= λ range. Ok (Some range)

-- a change (TextDocumentContentChangeEvent)
abbrev pub change_of : Data → Result Change Fault
change_of d = do
  range ← replaced_range (get (codes "range") d)
  text ← text_at (codes "text") d
  Ok (record { range = range; text = text })

abbrev pub changes_of : Items → Result (List Change) Fault
changes_of no_items = Ok []
changes_of (item d ds) = do
  first ← change_of d
  others ← changes_of ds
  Ok (first ∷ others)

-- a changed document (DidChangeTextDocumentParams)
abbrev pub changed_in : Data → Result Note Fault
changed_in message = do
  params ← field_at (codes "params") message
  document ← field_at (codes "textDocument") params
  uri ← text_at (codes "uri") document
  version ← integer_at (codes "version") document
  list ← list_at (codes "contentChanges") params
  changes ← changes_of list
  Ok (Changed uri version changes)

-- a closed document (DidCloseTextDocumentParams)
abbrev pub closed_in : Data → Result Note Fault
closed_in message = do
  document ← document_in message
  uri ← text_at (codes "uri") document
  Ok (Closed uri)

-- what stands where a cancellation names an id (CancelParams)
abbrev pub named_value : Data → Option Data
named_value message = option_and_then (get (codes "id")) (get (codes "params") message)

-- a cancellation of the request with this id. Without a valid id it is passed over
abbrev pub cancellation_of : Option Id → Note
cancellation_of None = Other
cancellation_of (Some id) = Cancel id

abbrev pub cancellation_in : Data → Note
cancellation_in message = cancellation_of (option_and_then id_of (named_value message))

-- what a notification tells, by its method
abbrev pub note_of : List ℕ → Data → Result Note Fault
note_of method message =
    if bytes_eq method (codes "exit") then Ok Exit
    else if bytes_eq method (codes "textDocument/didOpen") then opened_in message
    else if bytes_eq method (codes "textDocument/didChange") then changed_in message
    else if bytes_eq method (codes "textDocument/didClose") then closed_in message
    else if bytes_eq method (codes "$/cancelRequest") then Ok (cancellation_in message)
    else Err Unknown
