use Rattle.std.proofs.Common.{List, ℕ, [], ◌∷◌, ◌++◌, codes, string_bytes, refl}
use Rattle.json.specs.Print.{escape_byte, quoted}
use Rattle.lsp_messages.proofs.Written.{Writes-published}
use Rattle.lsp_messages.proofs.writing.write_published.Goals as goal

abbrev key : List ℕ → List ℕ
key k = quoted k ++ 58 ∷ []

abbrev opening : List ℕ
opening = 123 ∷ (key (codes "jsonrpc") ++ (quoted (codes "2.0") ++ (44 ∷ (key (codes "method") ++ (quoted (codes "textDocument/publishDiagnostics") ++ (44 ∷ (key (codes "params") ++ (123 ∷ key (codes "diagnostics")))))))))

pub returns : goal.returns
unfolding escape_byte
returns c =
    Writes-published c.args.uri.now c.args.version c.args.diagnostics.now opening (44 ∷ key (codes "uri")) (string_bytes c.args.text.now) _ _ _ _ _ _
    c.in_ok-put.ensures c.in_ok-write_list.ensures c.in_ok-put-2.ensures c.in_ok-write_string.ensures c.in_ok-write_version.ensures.appended c.in_ok-write_version.ensures.readable c.in_ok-put-3.ensures refl
