use Rattle.std.proofs.Common.{◌≡◌, ℕ, ◌+◌, ◌*◌, true, length, fold}
use Rattle.std.specs.List.{list_all}
use Rattle.std.specs.Char.{digit_value}
use Rattle.std.specs.Str.{chars}
use denote.Text.{Utf8}
use denote.Shadow.{shadow}
use Rattle.scheme_tokens.specs.Lexical.{is_hex_digit}
use Rattle.scheme_tokens.specs.Mirror.Quoted.{hex_value}
use Rattle.scheme_tokens.specs.Mirror.Told.{IsCapped}
use Rattle.scheme_tokens.proofs.quoted.hex_value.Given as goal

abbrev pub invariant-loop-digit : goal.invariant-loop-digit
invariant-loop-digit l = record {
  utf8 : shadow (Utf8 l.rest);
  digits : list_all is_hex_digit (chars l.rest) ≡ true;
  goes : (n : ℕ) × IsCapped l.value n × (fold (λ n c. 16 * n + digit_value c) n (chars l.rest) ≡ hex_value (chars l.digits));
}

abbrev pub decreases-loop-digit : goal.decreases-loop-digit
decreases-loop-digit l = length l.rest
