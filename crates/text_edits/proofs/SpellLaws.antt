-- A name is written in one way only (R7RS 7.1.1), so what spells it is what the edits have.
use Rattle.std.proofs.Common.{◌≡◌, ℕ, List, Bool, true, false, sym, ap, ◌∙◌, inl, inr}
use Rattle.std.specs.Str.{chars, encode_utf8_all, IsUtf8}
use Rattle.std.proofs.lemmas.Str.{encodes-chars}
use Rattle.scheme_tokens.specs.Spelling.{IsSpelling}
use Rattle.scheme_tokens.specs.Mirror.Spelled.{spelled}
use Rattle.scheme_tokens.proofs.Same.Spelling.{spelling}
use Rattle.text_edits.specs.NewNames.{written}

one_spelling : (name text other : List ℕ) (bars : Bool) → IsSpelling name bars text → IsSpelling name bars other → text ≡ other
one_spelling name text other true h k = h ∙ sym k
one_spelling name text other false h k = elim h [
  | inl a ↦ elim k [ inl b ↦ a.0 ∙ sym b.0 | inr b ↦ absurd (b.1 a.1) ]
  | inr a ↦ elim k [ inl b ↦ absurd (a.1 b.1) | inr b ↦ a.0 ∙ sym b.0 ]
]

pub written_is : (text name : List ℕ) (bars : Bool) → IsUtf8 text → IsSpelling (chars name) bars (chars text) → text ≡ written name bars
written_is text name bars utf8 h =
    sym (encodes-chars text utf8) ∙ ap encode_utf8_all (one_spelling (chars name) (chars text) (spelled (chars name) bars) bars h (spelling (chars name) bars))
