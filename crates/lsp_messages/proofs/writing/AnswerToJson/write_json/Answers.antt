use Rattle.std.proofs.Common.{OnOk, string_bytes, refl, sym, ap, subst}
use Rattle.json.specs.Print.{escape_byte}
use Rattle.serde_json.specs.Data.{string}
use Rattle.lsp_messages.specs.Replies.{range_json, prepared_json, answer_json}
use Rattle.lsp_messages.specs.Written.{Writes}
use Rattle.lsp_messages.proofs.Pieces.{Writes-pair}
use Rattle.lsp_messages.proofs.Readable.{no_more, and_member, IsReadable-object}
use Rattle.lsp_messages.proofs.writing.AnswerToJson.write_json.Goals as goal

pub returns-in-Prepared : goal.returns-in-Prepared
unfolding escape_byte
returns-in-Prepared c =
    let wrote = c.write_pair.ensures in
    let p = c.in-Prepared in
    subst (λ d. OnOk c.write_pair.result (Writes d (string_bytes c.args.text.now) (string_bytes c.write_pair.new.text))) (sym (ap answer_json p.is))
    (Writes-pair c.write_pair.result (prepared_json p.range p.placeholder) (string p.placeholder) (range_json p.range) _ _ _ wrote.pieces wrote.first_readable wrote.second_readable refl
    (λ a b. IsReadable-object _ (and_member _ _ _ _ _ a (and_member _ _ _ _ _ b (no_more _)))))
