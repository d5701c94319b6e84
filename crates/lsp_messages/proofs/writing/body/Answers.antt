use Rattle.std.proofs.Common.{◌≡◌, ℕ, ℤ, List, Option, string_bytes, codes, sym, ap, ◌∙◌}
use Rattle.std.proofs.lemmas.Str.{IsUtf8-string_bytes}
use Rattle.ls_base.specs.declared.answers.Diagnostic.{Diagnostic}
use Rattle.lsp_messages.specs.declared.reply.Reply.{Reply}
use Rattle.lsp_messages.specs.declared.reply.Reply.TheVariants.{Publish}
use Rattle.lsp_messages.specs.Replies.{answer_json, result_json, notification_json, publish_json, reply_json}
use Rattle.lsp_messages.proofs.Written.{IsBodyOf-written}
use Rattle.lsp_messages.proofs.writing.body.Goals as goal

published : (reply : Reply) (uri name : List ℕ) (version : Option ℤ) (list items : List Diagnostic) → reply ≡ Publish uri version list → name ≡ uri → items ≡ list
    → notification_json (codes "textDocument/publishDiagnostics") (publish_json name version items) ≡ reply_json reply
published reply uri name version list items is named listed =
    ap (λ s. notification_json (codes "textDocument/publishDiagnostics") (publish_json s version items)) named ∙ ap (λ s. notification_json (codes "textDocument/publishDiagnostics") (publish_json uri version s)) listed ∙ sym (ap reply_json is)

pub returns-in_ok-write_answered-in-Result : goal.returns-in_ok-write_answered-in-Result
returns-in_ok-write_answered-in-Result c =
    let text = c.write_answered.new.text in
    IsBodyOf-written c.args.reply.now (result_json c.in-Result.id (answer_json c.in-Result.answer)) (string_bytes c.new-text.result) (string_bytes text) _
    (sym (ap reply_json c.in-Result.is)) c.new-text.ensures.bytes c.in_ok-write_answered-in-Result.ensures (ap (λ v. v.items) c.into_bytes.ensures.value) (IsUtf8-string_bytes text)

pub returns-in_ok-write_published-in-Publish : goal.returns-in_ok-write_published-in-Publish
returns-in_ok-write_published-in-Publish c =
    let text = c.write_published.new.text in
    let p = c.in-Publish in
    IsBodyOf-written c.args.reply.now (notification_json (codes "textDocument/publishDiagnostics") (publish_json c.as_str-in-Publish.result.now p.version c.as_slice.result.now)) (string_bytes c.new-text-in-Publish.result) (string_bytes text) _
    (published c.args.reply.now p.uri _ p.version p.list _ p.is c.as_str-in-Publish.ensures c.as_slice.ensures) c.new-text-in-Publish.ensures.bytes c.in_ok-write_published-in-Publish.ensures (ap (λ v. v.items) c.into_bytes-in-Publish.ensures.value) (IsUtf8-string_bytes text)
