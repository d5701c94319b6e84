use Rattle.std.proofs.Common.{codes, refl}
use Rattle.json.specs.Print.{escape_byte}
use Rattle.lsp_messages.specs.Replies.{id_json, answer_json, result_json}
use Rattle.lsp_messages.proofs.Pieces.{Writes-pair}
use Rattle.lsp_messages.proofs.Readable.{IsReadable-string, no_more, and_member, IsReadable-object}
use Rattle.lsp_messages.proofs.writing.write_answered.Goals as goal

pub returns : goal.returns
unfolding escape_byte
returns c =
    let wrote = c.write_pair.ensures in
    let id = id_json c.args.id.now in
    let answer = answer_json c.args.answer.now in
    Writes-pair c.write_pair.result (result_json c.args.id.now answer) id answer _ _ _ wrote.pieces wrote.first_readable wrote.second_readable refl
    (λ a b. IsReadable-object _ (and_member _ _ _ _ _ a (and_member _ _ _ _ _ (IsReadable-string (codes "2.0")) (and_member _ _ _ _ _ b (no_more _)))))
