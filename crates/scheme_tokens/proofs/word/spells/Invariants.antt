use Rattle.std.proofs.Common.{◌≡◌, drop}
use Rattle.std.specs.Str.{chars}
use denote.Text.{Utf8}
use denote.Shadow.{shadow}
use Rattle.scheme_tokens.specs.Mirror.Words.{spells}
use Rattle.scheme_tokens.proofs.word.spells.Given as goal

abbrev pub invariant-loop-letter : goal.invariant-loop-letter
invariant-loop-letter l = record {
  utf8 : shadow (Utf8 l.rest);
  goes : spells (drop l.letter-index l.letters) (chars l.rest) ≡ spells l.letters (chars l.text);
}
