-- No body is refused for want of memory by what it says.
use Rattle.std.proofs.Common.{◌≢◌, ℕ, List, Bool, true, false, cond, ◌||◌, Option, Some, None, Result, Ok, Err, is_some, codes}
use Rattle.serde_json.specs.Data.{Data}
use Rattle.serde_json.specs.Find.{get, as_str}
use Rattle.lsp_messages.specs.declared.fault.Fault.{Fault}
use Rattle.lsp_messages.specs.declared.fault.Fault.TheVariants.{Unknown, Bad}
use Rattle.lsp_messages.specs.declared.message.Id.{Id}
use Rattle.lsp_messages.specs.declared.message.Call.{Call}
use Rattle.lsp_messages.specs.declared.message.Message.{Message}
use Rattle.lsp_messages.specs.declared.message.Reject.{Reject}
use Rattle.lsp_messages.specs.declared.message.Reject.TheVariants as rejects
use Rattle.lsp_messages.specs.Parameters.{call_of}
use Rattle.lsp_messages.specs.Messages as spec

abbrev IsSaying : Result Message Reject → Type 0
IsSaying read = read ≢ Err rejects.Memory

either_says : (b : Bool) (x y : Result Message Reject) → IsSaying x → IsSaying y → IsSaying (cond b x y)
either_says true x y p q = p
either_says false x y p q = q

request_says : (id : Id) (call : Result Call Fault) → IsSaying (spec.request_of id call)
request_says id (Ok call) = λ e. cc
request_says id (Err Unknown) = λ e. cc
request_says id (Err Bad) = λ e. cc

notice_says : (method : List ℕ) (d : Data) → IsSaying (spec.message_by_id method d None)
notice_says method d = λ e. cc

invalid_says : (d : Data) → IsSaying (spec.invalid d)
invalid_says d = λ e. cc

valid_id_says : (method : List ℕ) (d : Data) (id : Option Id) → IsSaying (spec.message_by_valid_id method d id)
valid_id_says method d None = invalid_says d
valid_id_says method d (Some id) = request_says id (call_of method d)

id_says : (method : List ℕ) (d : Data) (id : Option Data) → IsSaying (spec.message_by_id method d id)
id_says method d None = notice_says method d
id_says method d (Some id) = valid_id_says method d _

name_says : (d : Data) (method : Option (List ℕ)) → IsSaying (spec.message_by_name d method)
name_says d None = invalid_says d
name_says d (Some method) = id_says method d (get (codes "id") d)

method_says : (d : Data) (method : Option Data) → IsSaying (spec.message_by_method d method)
method_says d None = either_says (is_some (get (codes "result") d) || is_some (get (codes "error") d)) _ _ (λ e. cc) (invalid_says d)
method_says d (Some method) = name_says d (as_str method)

json_says : (json : Option Data) → IsSaying (spec.message_in json)
json_says None = λ e. cc
json_says (Some d) = either_says (spec.is_rpc d) _ _ (method_says d (get (codes "method") d)) (invalid_says d)

pub says : (body : List ℕ) → spec.message_of body ≢ Err rejects.Memory
says body = json_says (spec.json_of body)
