use Rattle.std.proofs.Common.{[], ◌∷◌, ◌++◌, codes, string_bytes, refl, rules}
use Rattle.json.specs.Print.{escape_byte, quoted}
use Rattle.lsp_messages.specs.Replies.{integer_json}
use Rattle.lsp_messages.specs.Written.{Writes}
use Rattle.lsp_messages.proofs.Written.{version_written}
use Rattle.lsp_messages.proofs.writing.write_version.Goals as goal

pub returns-in_ok-put-in-Some-2-clause-appended : goal.returns-in_ok-put-in-Some-2-clause-appended
unfolding escape_byte
returns-in_ok-put-in-Some-2-clause-appended c =
    let written : Writes (integer_json c.in-Some.version) (string_bytes c.put-in-Some.new.text) (string_bytes c.write_integer.new.text) = search rules in
    version_written c.in-Some.version c.args.version (string_bytes c.args.text.now) _ _ _ (44 ∷ (quoted (codes "version") ++ 58 ∷ [])) c.in-Some.is
    c.in_ok-put-in-Some.ensures written c.in_ok-put-in-Some-2.ensures refl
