use Rattle.std.proofs.Common.{get_or, arith}
use Rattle.std.proofs.lemmas.List.{drop_more}
use Rattle.lsp_messages.proofs.Pieces.{escape-drop}
use Rattle.lsp_messages.proofs.to_json.is_plain.Goals as goal

pub loop-byte-preserved : goal.loop-byte-preserved
loop-byte-preserved c =
    let l = c.loop-byte in
    let xs = c.as_bytes-byte-items.result.now in
    escape-drop (get_or xs l.byte-index 0) xs c.args.content.now l.byte-index c.if-byte-eq34.false c.if-byte-eq92.false c.if-byte-lt32.false (drop_more xs l.byte-index 0 (omega arith)) l.invariant
