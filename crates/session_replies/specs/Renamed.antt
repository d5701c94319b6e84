-- What the server tells of a rename (LSP 3.17, textDocument/rename).
use Rattle.std.specs.Prelude.{◌≡◌, ℕ, List, [], ◌∷◌, None}
use Rattle.std.specs.FinMap.{entries}
use Rattle.ls_base.specs.declared.encoding.Encoding.{Encoding}
use Rattle.lsp_messages.specs.declared.message.At.{At}
use Rattle.lsp_messages.specs.declared.message.Id.{Id}
use Rattle.scheme_model.specs.Texts.{Texts}
use Rattle.rename_conditions.specs.Readers.{Reader, IsReader}
use Rattle.rename_answers.specs.ToldRenames.{rename_told}
use Rattle.session_replies.specs.declared.out.Out.{Out}
use Rattle.session_replies.specs.ToWire.{rename_reply}

-- nothing ends, and the one message is the reply to a rename in these texts, however they read
abbrev pub IsRenamed : Encoding → Texts → Id → At → (new_name : List ℕ) → Out → Type 0
IsRenamed encoding texts id place new_name out =
    (r : Reader) → IsReader r → out ≡ record { replies = rename_reply id (rename_told r encoding (entries texts) place.uri place.pos new_name) ∷ []; end = None }
