use Rattle.std.proofs.Common.{ap, ◌∙◌}
use Rattle.std.specs.List.{list_all}
use Rattle.std.specs.Str.{chars}
use Rattle.scheme_tokens.specs.Lexical.{is_hex_digit}
use Rattle.scheme_tokens.proofs.Fronts.{list_all-front_of}
use Rattle.scheme_tokens.proofs.quoted.escape.Goals as goal

pub hex_end-requires : goal.hex_end-requires
hex_end-requires c = ap (list_all is_hex_digit) c.split_front.ensures.front ∙ list_all-front_of is_hex_digit (chars c.in-Some.rest.now)
