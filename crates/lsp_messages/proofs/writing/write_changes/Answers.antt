use Rattle.std.proofs.Common.{[], ◌∷◌, ◌++◌, codes, string_bytes, refl}
use Rattle.json.specs.Print.{escape_byte, quoted}
use Rattle.serde_json.specs.Data.{no_members}
use Rattle.lsp_messages.specs.Replies.{with_documents}
use Rattle.lsp_messages.proofs.Documents.{Writes-changes}
use Rattle.lsp_messages.proofs.writing.write_changes.Goals as goal

pub returns : goal.returns
unfolding escape_byte
returns c =
    let ms = with_documents no_members c.args.edits.now in
    let found = c.in_ok-documents.ensures in
    Writes-changes ms (123 ∷ (quoted (codes "changes") ++ 58 ∷ 123 ∷ [])) (string_bytes c.args.text.now) _ _ _
    c.in_ok-put.ensures (c.in_ok-write_members.ensures ms found.texts) c.in_ok-put-2.ensures found.readable refl
