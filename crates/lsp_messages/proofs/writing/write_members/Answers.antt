use Rattle.std.proofs.Common.{◌++◌, string_bytes, ap, ◌∙◌, subst}
use Rattle.serde_json.specs.Data.{string}
use Rattle.lsp_messages.specs.Written.{Writes}
use Rattle.lsp_messages.proofs.Documents.{members_step}
use Rattle.lsp_messages.proofs.writing.write_members.Goals as goal

pub loop-uri-preserved : goal.loop-uri-preserved
loop-uri-preserved c all held =
    let l = c.loop-uri in
    let left = l.invariant all held in
    let named = subst (λ s. Writes (string s) (string_bytes c.comma.new.text) (string_bytes c.write_string.new.text)) c.as_str.ensures.value c.in_ok-write_string.ensures in
    members_step (c.in-Some.uri.now, c.in-Some.list.now) c.next.new.self l.uri-iterator left.0 l.later (string_bytes l.text) _ _ _ _ _ c.in-Some.ensures.steps left.1
    c.in_ok-comma.ensures named c.in_ok-put.ensures (c.in_ok-put-2.ensures ∙ ap (λ s. string_bytes c.put.new.text ++ s) c.as_str-in-loop-uri.ensures.value) left.2
