use Rattle.std.proofs.Common.{◌≡◌, drop}
use Rattle.json.specs.Print.{escape}
use Rattle.lsp_messages.proofs.to_json.is_plain.Given as goal

-- the bytes before stand as they are
abbrev pub invariant-loop-byte : goal.invariant-loop-byte
invariant-loop-byte l = escape (drop l.byte-index l.byte-items) ≡ drop l.byte-index l.byte-items → escape l.content ≡ l.content
