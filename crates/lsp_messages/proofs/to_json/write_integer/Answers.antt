use Rattle.std.proofs.Common.{to_z-of_z}
use Rattle.std.proofs.lemmas.Result.{on_ok_weaker}
use Rattle.lsp_messages.proofs.Pieces.{Writes-integer}
use Rattle.lsp_messages.proofs.to_json.write_integer.Goals as goal

pub returns : goal.returns
returns c = on_ok_weaker c.write.result (Writes-integer c.args.number _ _ _ c.ranges.number (to_z-of_z c.ranges.number)) c.write.ensures.bytes
