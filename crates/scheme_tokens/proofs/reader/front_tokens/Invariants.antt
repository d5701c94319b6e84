use Rattle.std.proofs.Common.{◌≤◌, ◌+◌, length}
use Rattle.std.specs.Str.{chars}
use denote.Text.{Utf8}
use denote.Shadow.{shadow}
use Rattle.std.specs.List.{All}
use Rattle.scheme_tokens.specs.Views.{IsWithin}
use Rattle.scheme_tokens.specs.Mirror.Reading.{behind_mark}
use Rattle.scheme_tokens.proofs.Readings.{GoesOn}
use Rattle.scheme_tokens.proofs.reader.front_tokens.Given as goal

abbrev pub invariant-loop-token : goal.invariant-loop-token
invariant-loop-token l = record {
  utf8 : shadow (Utf8 l.rest);
  few : length l.tokens + length l.rest ≤ length l.text;
  places : All (λ t. IsWithin (length l.text) t.span) l.tokens;
  goes : GoesOn (length l.text) (behind_mark (chars l.text)) l.tokens (chars l.rest);
}

abbrev pub decreases-loop-token : goal.decreases-loop-token
decreases-loop-token l = length l.rest
