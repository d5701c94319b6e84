use Rattle.std.proofs.Common.{ap, ◌∙◌, sym, subst, ℕ, List}
use Rattle.scheme_tokens.specs.Mirror.Quoted.{hex_value, hex_scalar}
use Rattle.scheme_tokens.specs.Mirror.Told.{IsCapped}
use Rattle.scheme_tokens.proofs.Fronts.{no_chars, first_char}
use Rattle.scheme_tokens.proofs.HexLaws.{hex_scalar_is}
use Rattle.scheme_tokens.proofs.quoted.hex_char.Goals as goal

pub returns-then-is_empty : goal.returns-then-is_empty
returns-then-is_empty c = sym (ap hex_scalar (no_chars c.args.digits.now (sym c.is_empty.ensures ∙ c.if-is_empty.true)))

pub returns : goal.returns
returns c =
    let some = first_char c.args.digits.now c.utf8.digits (sym c.is_empty.ensures ∙ c.if-is_empty.false) in
    hex_scalar_is c.from_u32.result c.hex_value.result some.0 some.1 (subst (λ (q : List ℕ). IsCapped c.hex_value.result (hex_value q)) some.2 c.hex_value.ensures) c.from_u32.ensures.value c.from_u32.ensures.cases
    ∙ ap hex_scalar (sym some.2)
