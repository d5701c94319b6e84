use Rattle.std.proofs.Common.{◌+◌, ◌*◌, ap, ◌∙◌, sym, fold}
use Rattle.std.specs.List.{list_all}
use Rattle.std.specs.Char.{digit_value}
use Rattle.std.specs.Str.{chars}
use Rattle.std.proofs.lemmas.Bool.{and_parts}
use Rattle.scheme_tokens.specs.Lexical.{is_hex_digit}
use Rattle.scheme_tokens.proofs.quoted.hex_value.Goals as goal

pub loop-digit-preserved : goal.loop-digit-preserved
loop-digit-preserved c =
    let i = c.loop-digit.invariant in
    let all = and_parts (is_hex_digit c.in-Some.digit) (list_all is_hex_digit (chars c.in-Some.more.now)) (sym (ap (list_all is_hex_digit) c.in-Some.ensures.some) ∙ i.digits) in
    let n = i.goes.0 in
    record {
      utf8 = c.in-Some.ensures.utf8;
      digits = all.1;
      goes = (16 * n + digit_value c.in-Some.digit, c.with_digit-value.ensures n i.goes.1, sym (ap (fold (λ n c. 16 * n + digit_value c) n) c.in-Some.ensures.some) ∙ i.goes.2);
    }
