use Rattle.std.proofs.Common.{◌≡◌, drop}
use Rattle.std.specs.Str.{chars}
use denote.Text.{Utf8}
use denote.Shadow.{shadow}
use Rattle.scheme_tokens.specs.Mirror.Words.{begins_with}
use Rattle.scheme_tokens.proofs.word.begins_with.Given as goal

abbrev pub invariant-loop-letter : goal.invariant-loop-letter
invariant-loop-letter l = record {
  utf8 : shadow (Utf8 l.rest);
  goes : begins_with (drop l.letter-index l.letters) (chars l.rest) ≡ begins_with l.letters (chars l.text);
}
