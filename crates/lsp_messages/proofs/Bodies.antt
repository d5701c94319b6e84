-- A body as JSON.
use Rattle.std.proofs.Common.{◌≡◌, ℕ, List, Bool, true, false, cond, Option, None, refl}
use Rattle.std.specs.Str.{IsUtf8, is_utf8}
use Rattle.std.proofs.lemmas.Str.{IsUtf8-from_is_utf8, is_utf8-from_IsUtf8}
use Rattle.serde_json.specs.Data.{Data}
use Rattle.serde_json.specs.Read.{read}
use Rattle.lsp_messages.specs.Messages.{json_of}

-- the reading of a body that is UTF-8
pub json_of-utf8 : (body : List ℕ) → IsUtf8 body → json_of body ≡ read body
json_of-utf8 body text = rw (is_utf8-from_IsUtf8 body text) refl

none_unless : (b : Bool) (found : Option Data) → (b ≡ true → found ≡ None) → cond b found None ≡ None
none_unless true found none = none refl
none_unless false found none = refl

-- no reading, where a body that is UTF-8 has none
pub json_of-none : (body : List ℕ) → (IsUtf8 body → read body ≡ None) → json_of body ≡ None
json_of-none body none = none_unless (is_utf8 body) (read body) (λ e. none (IsUtf8-from_is_utf8 body e))
