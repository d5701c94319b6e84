-- A text that was written piece by piece is the body of its data.
use Rattle.std.proofs.Common.{◌≡◌, ◌≤◌, ℕ, ℤ, List, [], ◌∷◌, ◌++◌, Option, Some, None, IfSome, true, codes, sym, ap, ◌∙◌, subst, append_assoc}
use Rattle.std.specs.Str.{IsUtf8}
use Rattle.serde_json.specs.Data.{Data, string, depth}
use Rattle.serde_json.specs.Read.{read}
use Rattle.serde_json.specs.Written.{compact_text, members_text}
use Rattle.ls_base.specs.declared.answers.Diagnostic.{Diagnostic}
use Rattle.lsp_messages.specs.declared.reply.Reply.{Reply}
use Rattle.lsp_messages.specs.Replies.{integer_json, list_json, diagnostic_json, version_member, notification_json, publish_json, reply_json}
use Rattle.lsp_messages.specs.Written.{IsReadable, Writes, IsBodyOf}
use Rattle.lsp_messages.proofs.Bodies.{json_of-utf8}
use Rattle.lsp_messages.proofs.Depths.{depth-reply_json}
use Rattle.lsp_messages.proofs.Readable.{read-compact_text, IsReadable-string, no_more, and_member, IsReadable-object}

pub IsBodyOf-written : (reply : Reply) (d : Data) (old text body : List ℕ) → d ≡ reply_json reply → old ≡ [] → Writes d old text → body ≡ text → IsUtf8 text → IsBodyOf (reply_json reply) body
IsBodyOf-written reply d old text body is empty written same utf8 =
    let all : body ≡ compact_text d = same ∙ written.appended ∙ ap (λ s. s ++ compact_text d) empty in
    let shallow = subst (λ e. depth e ≤ 127) (sym is) (depth-reply_json reply) in
    let found = json_of-utf8 body (subst IsUtf8 (sym same) utf8) ∙ ap read all ∙ read-compact_text d written.readable shallow in
    record { text = all ∙ ap compact_text is; reads_back = found ∙ ap Some is }

-- ---- what is published

AreReadable-publish : (uri : List ℕ) (version : Option ℤ) (list : List Diagnostic) → IsReadable (list_json diagnostic_json list) → IfSome version (λ v. IsReadable (integer_json v)) → IsReadable (publish_json uri version list)
AreReadable-publish uri None list listed numbered = IsReadable-object _ (and_member _ _ _ _ _ listed (and_member _ _ _ _ _ (IsReadable-string uri) (no_more _)))
AreReadable-publish uri (Some v) list listed numbered = IsReadable-object _ (and_member _ _ _ _ _ listed (and_member _ _ _ _ _ (IsReadable-string uri) (and_member _ _ _ _ _ numbered (no_more _))))

regroup : (o a d b u v e : List ℕ) → (((((o ++ a) ++ d) ++ b) ++ u) ++ v) ++ e ≡ o ++ (a ++ ((d ++ (b ++ (u ++ v))) ++ e))
regroup o a d b u v e = simp append_assoc

pub Writes-published : (uri : List ℕ) (version : Option ℤ) (list : List Diagnostic) (a b t0 t1 t2 t3 t4 t5 t6 : List ℕ)
    → t1 ≡ t0 ++ a → Writes (list_json diagnostic_json list) t1 t2 → t3 ≡ t2 ++ b → Writes (string uri) t3 t4 → t5 ≡ t4 ++ members_text true (version_member version) → IfSome version (λ v. IsReadable (integer_json v))
    → t6 ≡ t5 ++ 125 ∷ []
    → compact_text (notification_json (codes "textDocument/publishDiagnostics") (publish_json uri version list))
    ≡ a ++ ((compact_text (list_json diagnostic_json list) ++ (b ++ (compact_text (string uri) ++ members_text true (version_member version)))) ++ 125 ∷ [])
    → Writes (notification_json (codes "textDocument/publishDiagnostics") (publish_json uri version list)) t0 t6
Writes-published uri version list a b t0 t1 t2 t3 t4 t5 t6 e1 listed e3 named e5 numbered e6 same =
    let diagnostics = compact_text (list_json diagnostic_json list) in
    let last = members_text true (version_member version) in
    let to2 : t2 ≡ (t0 ++ a) ++ diagnostics = listed.appended ∙ ap (λ s. s ++ diagnostics) e1 in
    let to4 : t4 ≡ (((t0 ++ a) ++ diagnostics) ++ b) ++ compact_text (string uri) = named.appended ∙ ap (λ s. s ++ compact_text (string uri)) (e3 ∙ ap (λ s. s ++ b) to2) in
    record {
      appended = e6 ∙ ap (λ s. s ++ 125 ∷ []) (e5 ∙ ap (λ s. s ++ last) to4) ∙ regroup t0 a diagnostics b (compact_text (string uri)) last (125 ∷ []) ∙ ap (λ s. t0 ++ s) (sym same);
      readable = IsReadable-object _ (and_member _ _ _ _ _ (IsReadable-string (codes "2.0")) (and_member _ _ _ _ _ (IsReadable-string (codes "textDocument/publishDiagnostics")) (and_member _ _ _ _ _ (AreReadable-publish uri version list listed.readable numbered) (no_more _))));
    }

pub version_written : (z : ℤ) (version : Option ℤ) (t0 t1 t2 new p : List ℕ) → version ≡ Some z → t1 ≡ t0 ++ p → Writes (integer_json z) t1 t2 → new ≡ t2 ++ 125 ∷ []
    → members_text true (version_member (Some z)) ≡ p ++ (compact_text (integer_json z) ++ 125 ∷ []) → new ≡ t0 ++ members_text true (version_member version)
version_written z version t0 t1 t2 new p is e1 written e3 same =
    e3 ∙ ap (λ s. s ++ 125 ∷ []) (written.appended ∙ ap (λ s. s ++ compact_text (integer_json z)) e1) ∙ append_assoc (t0 ++ p) (compact_text (integer_json z)) (125 ∷ []) ∙ append_assoc t0 p _
    ∙ ap (λ s. t0 ++ s) (sym same) ∙ ap (λ v. t0 ++ members_text true (version_member v)) (sym is)
