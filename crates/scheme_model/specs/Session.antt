-- A session (JSON-RPC 2.0; LSP 3.17, lifecycle): what a server answers to each message, and what it keeps. Which answer
-- a query has in given texts is given, what is published after them, and what a message is that a body reads as.
use Rattle.std.specs.Prelude.{ℕ, ℤ, neg_ℤ, pos, Bool, true, false, List, [], ◌∷◌, ◌++◌, Option, Some, None}
use Rattle.scheme_model.specs.Texts.{Position, Encoding, Utf16, Offsets, Texts, Event, Added, Changed, Closed, Refusal, NotOpen, BadRange, TooLong, TooMany, after}
use Rattle.scheme_model.specs.Wording.{parse_error_text, invalid_request_text, method_not_found_text, invalid_params_text, not_initialized_text, refusal_text, bad_params_text}

-- a request's id
pub data Id : Type 0 where
  Number : ℤ → Id
  Name : List ℕ → Id

-- what is asked at a position
pub data Query : Type 0 where
  Definition : Query
  References : (declaration : Bool) → Query
  Highlights : Query
  Prepare : Query
  Arrows : Query

-- what a request wants
pub data Call : Type 0 where
  Initialize : (prepare : Bool) → Encoding → Call
  Shutdown : Call
  Ask : (uri : List ℕ) → Position → Query → Call
  Rename : (uri : List ℕ) → Position → (new_name : List ℕ) → Call

-- what a notification says
pub data Note : Type 0 where
  Exit : Note
  Document : Event → Note
  BadParams : (method : List ℕ) → Note
  Other : Note

-- what a body reads as
pub data Message : Type 0 where
  Unreadable : Message
  Invalid : Option Id → Message
  UnknownMethod : Id → Message
  BadRequest : Id → Message
  Request : Id → Call → Message
  Notice : Note → Message
  Response : Message

-- what is answered, what a rename edits or why it is refused, and what is told without being asked: lists that are published, and a
-- text for the log
pub data Reply (A : Type 0) : Type 0 where
  Capabilities : Id → (prepare : Bool) → Encoding → Reply A
  Result : Id → A → Reply A
  Renamed : Id → A → Reply A
  Error : Option Id → ℤ → List ℕ → Reply A
  Publish : A → Reply A
  Log : List ℕ → Reply A

pub data Mode : Type 0 where
  Fresh : Mode
  Running : Mode
  Shut : Mode

-- the mode, what positions count in, and the texts of the open documents
pub record State : Type 0 where
  pub mode : Mode
  pub encoding : Encoding
  pub texts : Texts

-- how `exit` ends a session: after `shutdown`, or before it
pub data Ending : Type 0 where
  Clean : Ending
  Early : Ending

-- what answers queries and renames in given texts, whose positions count in an encoding, and what is published of the texts after
-- an event about a document, by the texts before it
pub record Answers (A : Type 0) : Type 0 where
  pub null : A
  pub query : Encoding → Texts → List ℕ → Position → Query → A
  pub rename : Encoding → Texts → List ℕ → Position → (new_name : List ℕ) → A
  pub lists : Encoding → (before after : Texts) → (uri : List ℕ) → A

-- what one message leads to: the state after it, the replies, and how it ends the session, where it does
pub record Stepped (A : Type 0) : Type 0 where
  pub state : State
  pub replies : List (Reply A)
  pub end : Option Ending

-- ---- states

-- before its first message a session counts in UTF-16
abbrev pub begin : Texts → State
begin none = record { mode = Fresh; encoding = Utf16; texts = none }

abbrev pub with_mode : Mode → State → State
with_mode mode state = record { mode = mode; encoding = state.encoding; texts = state.texts }

abbrev pub with_encoding : Encoding → State → State
with_encoding encoding state = record { mode = state.mode; encoding = encoding; texts = state.texts }

abbrev pub with_texts : Texts → State → State
with_texts texts state = record { mode = state.mode; encoding = state.encoding; texts = texts }

-- ---- replies

abbrev pub stays : {A : Type 0} → State → List (Reply A) → Stepped A
stays state replies = record { state = state; replies = replies; end = None }

abbrev pub minus : ℕ → ℤ
minus n = neg_ℤ (pos n)

-- the errors of JSON-RPC 2.0, section 5.1, and of the protocol
abbrev pub parse_error : {A : Type 0} → Reply A
parse_error = Error None (minus 32700) parse_error_text

abbrev pub invalid_request : {A : Type 0} → Option Id → Reply A
invalid_request id = Error id (minus 32600) invalid_request_text

abbrev pub method_not_found : {A : Type 0} → Id → Reply A
method_not_found id = Error (Some id) (minus 32601) method_not_found_text

abbrev pub invalid_params : {A : Type 0} → Id → Reply A
invalid_params id = Error (Some id) (minus 32602) invalid_params_text

abbrev pub not_initialized : {A : Type 0} → Id → Reply A
not_initialized id = Error (Some id) (minus 32002) not_initialized_text

-- ---- requests

-- a request while running: a second `initialize` is invalid, `shutdown` is answered with null
abbrev pub called : {A : Type 0} → Answers A → State → Id → Call → Stepped A
called answers state id (Initialize prepare encoding) = stays state (invalid_request (Some id) ∷ [])
called answers state id Shutdown = stays (with_mode Shut state) (Result id answers.null ∷ [])
called answers state id (Ask uri position query) = stays state (Result id (answers.query state.encoding state.texts uri position query) ∷ [])
called answers state id (Rename uri position new_name) = stays state (Renamed id (answers.rename state.encoding state.texts uri position new_name) ∷ [])

-- a request in the mode fresh: `initialize` fixes what positions count in
abbrev pub called_fresh : {A : Type 0} → State → Id → Call → Stepped A
called_fresh state id (Initialize prepare encoding) =
    stays (with_mode Running (with_encoding encoding state)) (Capabilities id prepare encoding ∷ [])
called_fresh state id Shutdown = stays state (not_initialized id ∷ [])
called_fresh state id (Ask uri position query) = stays state (not_initialized id ∷ [])
called_fresh state id (Rename uri position new_name) = stays state (not_initialized id ∷ [])

-- a request by the mode
abbrev pub requested : {A : Type 0} → Mode → Answers A → State → Id → Call → Stepped A
requested Fresh answers state id call = called_fresh state id call
requested Running answers state id call = called answers state id call
requested Shut answers state id call = stays state (invalid_request (Some id) ∷ [])

-- the error of a request by the mode: while running it is its own
abbrev pub refused : {A : Type 0} → Mode → Id → Reply A → Reply A
refused Fresh id own = not_initialized id
refused Running id own = own
refused Shut id own = invalid_request (Some id)

-- ---- notifications

-- an event was refused and left the texts as they were: a change that makes a text too long takes the document away
abbrev pub leaves : Event → Option Refusal → Bool
leaves event None = false
leaves event (Some NotOpen) = true
leaves event (Some BadRange) = true
leaves event (Some TooMany) = true
leaves (Added uri version text) (Some TooLong) = true
leaves (Changed uri version changes) (Some TooLong) = false
leaves (Closed uri) (Some TooLong) = true

abbrev pub uri_of : Event → List ℕ
uri_of (Added uri version text) = uri
uri_of (Changed uri version changes) = uri
uri_of (Closed uri) = uri

-- the log of a refusal
abbrev pub logged : {A : Type 0} → List ℕ → Option Refusal → List (Reply A)
logged uri None = []
logged uri (Some refusal) = Log (refusal_text refusal uri) ∷ []

-- lists are published unless the texts were left as they were
abbrev pub published : {A : Type 0} → (left : Bool) → A → List (Reply A)
published true lists = []
published false lists = Publish lists ∷ []

-- what a document event leaves of the texts, with the log of its refusal first, and then the lists
abbrev pub evented_to : {A : Type 0} → Answers A → State → Event → Texts × Option Refusal → Stepped A
evented_to answers state event left =
    stays (with_texts left.0 state) (logged (uri_of event) left.1 ++ published (leaves event left.1) (answers.lists state.encoding state.texts left.0 (uri_of event)))

abbrev pub evented : {A : Type 0} → Offsets → Answers A → State → Event → Stepped A
evented offset answers state event = evented_to answers state event (after offset state.encoding state.texts event)

-- how `exit` ends a session, by its mode
abbrev pub exit_in : Mode → Ending
exit_in Fresh = Early
exit_in Running = Early
exit_in Shut = Clean

abbrev pub ended : {A : Type 0} → State → Stepped A
ended state = record { state = state; replies = []; end = Some (exit_in state.mode) }

-- a notification while running
abbrev pub noticed : {A : Type 0} → Offsets → Answers A → State → Note → Stepped A
noticed offset answers state Exit = ended state
noticed offset answers state (Document event) = evented offset answers state event
noticed offset answers state (BadParams method) = stays state (Log (bad_params_text method) ∷ [])
noticed offset answers state Other = stays state []

-- a notification in another mode: all but `exit` are dropped
abbrev pub dropped : {A : Type 0} → State → Note → Stepped A
dropped state Exit = ended state
dropped state (Document event) = stays state []
dropped state (BadParams method) = stays state []
dropped state Other = stays state []

-- a notification by the mode
abbrev pub notified : {A : Type 0} → Mode → Offsets → Answers A → State → Note → Stepped A
notified Fresh offset answers state note = dropped state note
notified Running offset answers state note = noticed offset answers state note
notified Shut offset answers state note = dropped state note

-- ---- messages

-- one message: the shape of a body is judged first, then the mode, then the method, then the parameters
abbrev pub step : {A : Type 0} → Offsets → Answers A → State → Message → Stepped A
step offset answers state Unreadable = stays state (parse_error ∷ [])
step offset answers state (Invalid id) = stays state (invalid_request id ∷ [])
step offset answers state (UnknownMethod id) = stays state (refused state.mode id (method_not_found id) ∷ [])
step offset answers state (BadRequest id) = stays state (refused state.mode id (invalid_params id) ∷ [])
step offset answers state (Request id call) = requested state.mode answers state id call
step offset answers state (Notice note) = notified state.mode offset answers state note
step offset answers state Response = stays state []

-- a whole run: the replies to messages in order up to the first that ends the session, and how it ends where one does
pub record Run (A : Type 0) : Type 0 where
  pub replies : List (Reply A)
  pub state : State
  pub end : Option Ending

abbrev pub after_replies : {A : Type 0} → List (Reply A) → Run A → Run A
after_replies replies r = record { replies = replies ++ r.replies; state = r.state; end = r.end }

abbrev pub followed : {A : Type 0} → Option Ending → Stepped A → (State → Run A) → Run A
followed (Some exit) s more = record { replies = s.replies; state = s.state; end = Some exit }
followed None s more = after_replies s.replies (more s.state)

abbrev pub run_from : {A : Type 0} → Offsets → Answers A → List Message → State → Run A
run_from offset answers [] state = record { replies = []; state = state; end = None }
run_from offset answers (m ∷ ms) state =
    followed (step offset answers state m).end (step offset answers state m) (λ next. run_from offset answers ms next)
