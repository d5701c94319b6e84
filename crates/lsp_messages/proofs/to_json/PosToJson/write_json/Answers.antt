use Rattle.std.proofs.Common.{refl}
use Rattle.json.specs.Print.{escape_byte}
use Rattle.lsp_messages.specs.Replies.{natural_json, position_json}
use Rattle.lsp_messages.proofs.Pieces.{Writes-pair}
use Rattle.lsp_messages.proofs.Readable.{no_more, and_member, IsReadable-object}
use Rattle.lsp_messages.proofs.to_json.PosToJson.write_json.Goals as goal

pub returns : goal.returns
unfolding escape_byte
returns c =
    let wrote = c.write_pair.ensures in
    Writes-pair c.write_pair.result (position_json c.args.self.now) (natural_json c.args.self.now.character) (natural_json c.args.self.now.line) _ _ _ wrote.pieces wrote.first_readable wrote.second_readable refl
    (λ a b. IsReadable-object _ (and_member _ _ _ _ _ a (and_member _ _ _ _ _ b (no_more _))))
