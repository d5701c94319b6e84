use Rattle.std.proofs.Common.{ap, ◌∙◌}
use Rattle.std.specs.Str.{chars}
use Rattle.std.specs.String.{string_bytes}
use Rattle.std.proofs.lemmas.Str.{IsUtf8-string_bytes}
use Rattle.scheme_tokens.proofs.Fronts.{chars-push}
use Rattle.scheme_tokens.proofs.quoted.push.Goals as goal

pub returns : goal.returns
returns c = ap chars c.in_ok-push.ensures.bytes ∙ chars-push (string_bytes c.args.value.now) c.args.c (IsUtf8-string_bytes c.args.value.now) c.ranges.c.0
