use Rattle.std.proofs.Common.{ℕ, List, [], ◌∷◌, ◌++◌, codes, string_bytes, refl}
use Rattle.json.specs.Print.{escape_byte, quoted}
use Rattle.serde_json.specs.Data.{string}
use Rattle.lsp_messages.specs.Replies.{natural_json, range_json}
use Rattle.lsp_messages.proofs.Pieces.{five_pieces, Writes-diagnostic}
use Rattle.lsp_messages.proofs.to_json.DiagnosticToJson.write_json.Goals as goal

abbrev key : List ℕ → List ℕ
key k = quoted k ++ 58 ∷ []

pub returns : goal.returns
unfolding escape_byte
returns c =
    let d = c.args.self.now in
    let code = c.in_ok-write_json.ensures in
    let message = c.in_ok-write_json-2.ensures in
    let range = c.in_ok-write_json-3.ensures in
    let severity = c.in_ok-write_json-4.ensures in
    let last = 44 ∷ (key (codes "source") ++ (quoted (codes "scheme_ls") ++ 125 ∷ [])) in
    let text = five_pieces (natural_json d.code) (string d.message) (range_json d.range) (natural_json d.severity)
    (123 ∷ key (codes "code")) (44 ∷ key (codes "message")) (44 ∷ key (codes "range")) (44 ∷ key (codes "severity")) last
    (string_bytes c.args.text.now) _ _ _ _ _ _ _ _ _ c.in_ok-put.ensures code c.in_ok-put-2.ensures message c.in_ok-put-3.ensures range c.in_ok-put-4.ensures severity c.in_ok-put-5.ensures in
    Writes-diagnostic d _ _ _ code.readable range.readable severity.readable text refl
