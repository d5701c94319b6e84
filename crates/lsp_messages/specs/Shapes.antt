-- What requests, notifications and responses are (JSON-RPC 2.0 sections 4 and 5), apart from any order of judgement.
use Rattle.std.specs.Prelude.{◌≡◌, ◌⊎◌, ℕ, List, Option, Some, None, Result, Ok, Err, option_and_then, IsSome, codes}
use Rattle.serde_json.specs.Data.{Data}
use Rattle.serde_json.specs.Find.{get, as_str}
use Rattle.lsp_messages.specs.declared.fault.Fault.TheVariants.{Unknown, Bad}
use Rattle.lsp_messages.specs.declared.message.Id.{Id}
use Rattle.lsp_messages.specs.declared.message.Message.{Message}
use Rattle.lsp_messages.specs.declared.message.Message.TheVariants.{Request, Notice, Response}
use Rattle.lsp_messages.specs.declared.message.Reject.{Reject}
use Rattle.lsp_messages.specs.declared.message.Reject.TheVariants as rejects
use Rattle.lsp_messages.specs.Parameters.{call_of, note_of}
use Rattle.lsp_messages.specs.Messages.{json_of, valid_id, resulting_note}

-- the string in a field
abbrev pub text_in : List ℕ → Data → Option (List ℕ)
text_in key d = option_and_then as_str (get key d)

-- a message has the version 2.0
abbrev pub HasVersion : Data → Type 0
HasVersion d = text_in (codes "jsonrpc") d ≡ Some (codes "2.0")

-- a request has a method and a valid id
pub record IsRequest (d : Data) (id : Id) (method : List ℕ) : Type 0 where
  pub version : HasVersion d
  pub named : text_in (codes "method") d ≡ Some method
  pub numbered : valid_id d ≡ Some id

-- a notification has a method and no field id
pub record IsNotification (d : Data) (method : List ℕ) : Type 0 where
  pub version : HasVersion d
  pub named : text_in (codes "method") d ≡ Some method
  pub unnumbered : get (codes "id") d ≡ None

-- a response has a result or an error, and no field method
pub record IsResponse (d : Data) : Type 0 where
  pub version : HasVersion d
  pub unnamed : get (codes "method") d ≡ None
  pub outcome : IsSome (get (codes "result") d) ⊎ IsSome (get (codes "error") d)

pub data IsMessage (d : Data) : Type 0 where
  request : (id : Id) (method : List ℕ) → IsRequest d id method → IsMessage d
  notification : (method : List ℕ) → IsNotification d method → IsMessage d
  response : IsResponse d → IsMessage d

-- the JSON is this message
abbrev pub Says : Data → Message → Type 0
Says d (Request id call) = (method : List ℕ) × IsRequest d id method × (call_of method d ≡ Ok call)
Says d (Notice note) = (method : List ℕ) × IsNotification d method × (resulting_note method (note_of method d) ≡ note)
Says d Response = IsResponse d

-- the JSON is no message, or a request that can't be answered
abbrev pub IsRejected : Data → Reject → Type 0
IsRejected d rejects.Memory = ⊥
IsRejected d rejects.Parse = ⊥
IsRejected d (rejects.Invalid id) = (valid_id d ≡ id) × (IsMessage d → ⊥)
IsRejected d (rejects.Method id) = (method : List ℕ) × IsRequest d id method × (call_of method d ≡ Err Unknown)
IsRejected d (rejects.Params id) = (method : List ℕ) × IsRequest d id method × (call_of method d ≡ Err Bad)

-- The cause of each answer. Memory has none.
abbrev pub HasCause : List ℕ → Result Message Reject → Type 0
HasCause body (Ok message) = (d : Data) × (json_of body ≡ Some d) × Says d message
HasCause body (Err rejects.Memory) = Unit {0}
HasCause body (Err rejects.Parse) = json_of body ≡ None
HasCause body (Err (rejects.Invalid id)) = (d : Data) × (json_of body ≡ Some d) × IsRejected d (rejects.Invalid id)
HasCause body (Err (rejects.Method id)) = (d : Data) × (json_of body ≡ Some d) × IsRejected d (rejects.Method id)
HasCause body (Err (rejects.Params id)) = (d : Data) × (json_of body ≡ Some d) × IsRejected d (rejects.Params id)
