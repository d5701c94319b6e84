use Rattle.std.proofs.Common.{◌∙◌, ◌+◌, ◌*◌, ap, sym, arith}
use Rattle.std.specs.Str.{chars}
use Rattle.std.specs.Char.{digit_value}
use Rattle.std.proofs.lemmas.Str.{chars-nil}
use Rattle.scheme_model.specs.Numbered.{is_byte}
use Rattle.datum_reader.proofs.ByteLaws.{capped_byte, digit_more, digit_of}
use Rattle.datum_reader.proofs.bytes.is_byte.Goals as goal

pub loop-c-preserved : goal.loop-c-preserved
loop-c-preserved c =
    let v = c.loop-c.value in
    let d = c.in-Some.c in
    let more = chars c.in-Some.more.now in
    let digit = digit_of d (sym c.is_ascii_digit.ensures.value ∙ c.if-not-is_ascii_digit.false) in
    record {
      utf8 = c.in-Some.ensures.text;
      small = omega (arith, c.min-value.ensures);
      goes =
          capped_byte c.min-value.result (10 * v + digit_value d) more (omega (arith, c.min-value.ensures, digit))
          ∙ sym (digit_more v d more (sym c.is_ascii_digit.ensures.value ∙ c.if-not-is_ascii_digit.false)) ∙ sym (ap (is_byte v) c.in-Some.ensures.some) ∙ c.loop-c.invariant.goes;
    }

pub returns : goal.returns
returns c =
    let none = ap chars c.in_default.ensures.none ∙ chars-nil in
    sym (ap (is_byte c.loop-c.value) none) ∙ c.loop-c.invariant.goes
