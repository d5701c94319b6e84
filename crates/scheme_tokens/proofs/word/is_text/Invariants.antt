use Rattle.std.proofs.Common.{◌≡◌, drop}
use Rattle.std.specs.Str.{chars}
use denote.Text.{Utf8}
use denote.Shadow.{shadow}
use Rattle.scheme_tokens.specs.Mirror.Words.{is_text}
use Rattle.scheme_tokens.proofs.word.is_text.Given as goal

abbrev pub invariant-loop-letter : goal.invariant-loop-letter
invariant-loop-letter l = record {
  utf8 : shadow (Utf8 l.rest);
  goes : is_text (chars l.rest) (drop l.letter-index l.letters) ≡ is_text (chars l.text) l.letters;
}
