-- What a body says has the shape that the standard gives it, and each refusal has its cause.
use Rattle.std.proofs.Common.{◌≡◌, ℕ, List, Bool, true, false, Option, Some, None, Result, Ok, Err, option_and_then, codes, refl, sym, ap, ◌∙◌, true≢false, inl, inr, IsSome, subst}
use Rattle.std.specs.Prelude.{◌||◌, is_some, if◌then◌else◌}
use Rattle.std.proofs.lemmas.Slice.Eq.{bytes_eq-Decides}
use Rattle.serde_json.specs.Data.{Data}
use Rattle.serde_json.specs.Find.{get, as_str}
use Rattle.lsp_messages.specs.declared.fault.Fault.{Fault}
use Rattle.lsp_messages.specs.declared.fault.Fault.TheVariants.{Unknown, Bad}
use Rattle.lsp_messages.specs.declared.message.Id.{Id}
use Rattle.lsp_messages.specs.declared.message.Call.{Call}
use Rattle.lsp_messages.specs.declared.message.Message.{Message}
use Rattle.lsp_messages.specs.declared.message.Message.TheVariants.{Response}
use Rattle.lsp_messages.specs.declared.message.Reject.{Reject}
use Rattle.lsp_messages.specs.declared.message.Reject.TheVariants as rejects
use Rattle.lsp_messages.specs.Fields.{id_of}
use Rattle.lsp_messages.specs.Parameters.{call_of}
use Rattle.lsp_messages.specs.Messages.{json_of, is_version, is_rpc, invalid, request_of, message_by_valid_id, message_by_id, message_by_name, message_by_method, message_in, message_of, Answers}
use Rattle.lsp_messages.specs.Shapes.{text_in, HasVersion, IsRequest, IsMessage, request, notification, response, Says, IsRejected, HasCause}

-- the message that JSON is, or why it is none
abbrev pub Judged : Data → Result Message Reject → Type 0
Judged d (Ok message) = Says d message
Judged d (Err reject) = IsRejected d reject

-- ---- the version

version_from : (o : Option (List ℕ)) → is_version o ≡ true → o ≡ Some (codes "2.0")
version_from None e = absurd (true≢false (sym e))
version_from (Some s) e = ap Some ((bytes_eq-Decides s (codes "2.0")).0 e)

version_of : (d : Data) → IsMessage d → HasVersion d
version_of d (request id method r) = r.version
version_of d (notification method n) = n.version
version_of d (response r) = r.version

no_version : (d : Data) → is_rpc d ≡ false → IsMessage d → ⊥
no_version d e m = true≢false (sym (ap is_version (version_of d m)) ∙ e)

-- ---- what isn't a message

-- with no method it is no request and no notification
abbrev Unnamed : Data → Type 0
Unnamed d = text_in (codes "method") d ≡ None

nameless : (d : Data) (method : List ℕ) → Unnamed d → text_in (codes "method") d ≡ Some method → ⊥
nameless d method none some = absurd cc

no_response : (d : Data) → (IsSome (get (codes "result") d) → ⊥) → (IsSome (get (codes "error") d) → ⊥) → Unnamed d → IsMessage d → ⊥
no_response d result error none (request id method r) = nameless d method none r.named
no_response d result error none (notification method n) = nameless d method none n.named
no_response d result error none (response r) = elim r.outcome [ inl h ↦ result h | inr h ↦ error h ]

no_name : (d field : Data) → get (codes "method") d ≡ Some field → Unnamed d → IsMessage d → ⊥
no_name d field some none (request id method r) = nameless d method none r.named
no_name d field some none (notification method n) = nameless d method none n.named
no_name d field some none (response r) = let e = r.unnamed in absurd cc

no_id : (d field name : Data) → get (codes "id") d ≡ Some field → id_of field ≡ None → get (codes "method") d ≡ Some name → IsMessage d → ⊥
no_id d field name some none method (request id m r) = let e : id_of field ≡ Some id = sym (ap (option_and_then id_of) some) ∙ r.numbered in absurd cc
no_id d field name some none method (notification m n) = let e = n.unnumbered in absurd cc
no_id d field name some none method (response r) = let e = r.unnamed in absurd cc

-- ---- each judgement

asked : (d : Data) (id : Id) (method : List ℕ) → IsRequest d id method → (call : Result Call Fault) → call_of method d ≡ call → Judged d (request_of id call)
asked d id method r (Ok call) e = (method, r, e)
asked d id method r (Err Unknown) e = (method, r, e)
asked d id method r (Err Bad) e = (method, r, e)

by_valid_id : (d field name : Data) (method : List ℕ) → HasVersion d → get (codes "method") d ≡ Some name → text_in (codes "method") d ≡ Some method → get (codes "id") d ≡ Some field
    → (id : Option Id) → id_of field ≡ id → Judged d (message_by_valid_id method d id)
by_valid_id d field name method version is named some None e = (refl, no_id d field name some e is)
by_valid_id d field name method version is named some (Some id) e =
    asked d id method (record { version = version; named = named; numbered = ap (option_and_then id_of) some ∙ e }) (call_of method d) refl

by_id : (d name : Data) (method : List ℕ) → HasVersion d → get (codes "method") d ≡ Some name → text_in (codes "method") d ≡ Some method
    → (field : Option Data) → get (codes "id") d ≡ field → Judged d (message_by_id method d field)
by_id d name method version is named None e = (method, record { version = version; named = named; unnumbered = e }, refl)
by_id d name method version is named (Some field) e = by_valid_id d field name method version is named e (id_of field) refl

by_name : (d field : Data) → HasVersion d → get (codes "method") d ≡ Some field → (name : Option (List ℕ)) → text_in (codes "method") d ≡ name → Judged d (message_by_name d name)
by_name d field version some None e = (refl, no_name d field some e)
by_name d field version some (Some method) e = by_id d field method version some e (get (codes "id") d) refl

responded : (d : Data) → HasVersion d → get (codes "method") d ≡ None → (a b : Bool) → is_some (get (codes "result") d) ≡ a → is_some (get (codes "error") d) ≡ b → Judged d (if a || b then Ok Response else invalid d)
responded d version none true b x y = record { version = version; unnamed = none; outcome = inl x }
responded d version none false true x y = record { version = version; unnamed = none; outcome = inr y }
responded d version none false false x y = (refl, no_response d (λ h. true≢false (sym h ∙ x)) (λ h. true≢false (sym h ∙ y)) (ap (option_and_then as_str) none))

by_method : (d : Data) → HasVersion d → (field : Option Data) → get (codes "method") d ≡ field → Judged d (message_by_method d field)
by_method d version None e = responded d version e (is_some (get (codes "result") d)) (is_some (get (codes "error") d)) refl refl
by_method d version (Some field) e = by_name d field version e (as_str field) (ap (option_and_then as_str) e)

by_version : (d : Data) (b : Bool) → is_rpc d ≡ b → Judged d (if b then message_by_method d (get (codes "method") d) else invalid d)
by_version d true e = by_method d (version_from (text_in (codes "jsonrpc") d) e) (get (codes "method") d) refl
by_version d false e = (refl, no_version d e)

-- ---- bodies

of_json : (body : List ℕ) (d : Data) (answer : Result Message Reject) → json_of body ≡ Some d → Judged d answer → HasCause body answer
of_json body d (Ok message) e judged = (d, e, judged)
of_json body d (Err rejects.Memory) e judged = tt
of_json body d (Err rejects.Parse) e judged = absurd judged
of_json body d (Err (rejects.Invalid id)) e judged = (d, e, judged)
of_json body d (Err (rejects.Method id)) e judged = (d, e, judged)
of_json body d (Err (rejects.Params id)) e judged = (d, e, judged)

of_body : (body : List ℕ) (json : Option Data) → json_of body ≡ json → HasCause body (message_in json)
of_body body None e = e
of_body body (Some d) e = of_json body d (message_in (Some d)) e (by_version d (is_rpc d) refl)

-- what a body says has its cause
pub HasCause-message_of : (body : List ℕ) → HasCause body (message_of body)
HasCause-message_of body = of_body body (json_of body) refl

abbrev along : (body : List ℕ) (answer : Result Message Reject) → message_of body ≡ answer → HasCause body answer
along body answer e = subst (HasCause body) e (HasCause-message_of body)

pub HasCause-Answers : (body : List ℕ) (answer : Result Message Reject) → Answers answer (message_of body) → HasCause body answer
HasCause-Answers body (Ok message) e = along body (Ok message) e
HasCause-Answers body (Err rejects.Memory) e = tt
HasCause-Answers body (Err rejects.Parse) e = along body (Err rejects.Parse) e
HasCause-Answers body (Err (rejects.Invalid id)) e = along body (Err (rejects.Invalid id)) e
HasCause-Answers body (Err (rejects.Method id)) e = along body (Err (rejects.Method id)) e
HasCause-Answers body (Err (rejects.Params id)) e = along body (Err (rejects.Params id)) e
