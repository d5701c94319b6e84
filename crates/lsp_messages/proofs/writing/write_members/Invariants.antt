use Rattle.std.proofs.Common.{◌≡◌, ◌++◌, false, string_bytes}
use Rattle.serde_json.specs.Data.{Members}
use Rattle.serde_json.specs.Written.{members_text}
use Rattle.lsp_messages.specs.Written.{HoldTexts}
use Rattle.lsp_messages.proofs.writing.write_members.Given as goal

-- the text so far, with that of the members that are left
abbrev pub invariant-loop-uri : goal.invariant-loop-uri
invariant-loop-uri l =
    (all : Members) → HoldTexts l.documents.entries all → (ms : Members) × HoldTexts l.uri-iterator ms × (string_bytes l.text ++ members_text l.later ms ≡ string_bytes l.initial.text ++ members_text false all)
