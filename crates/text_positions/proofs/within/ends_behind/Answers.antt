use Rattle.std.proofs.Common.{◌≡◌, not, sym, ap, ◌∙◌, arith}
use Rattle.std.proofs.lemmas.Bool.Decides.{nat_tests}
use Rattle.std.specs.Str.{chars}
use Rattle.text_positions.specs.Walks.{begins_with_feed}
use Rattle.text_positions.proofs.LineStarts.{begins_with_feed-chars}
use Rattle.text_positions.proofs.within.ends_behind.Goals as goal

pub returns-then-c-eq13 : goal.returns-then-c-eq13
returns-then-c-eq13 c =
    let feed : c.starts_with.result ≡ begins_with_feed (chars c.args.more.now) =
    c.starts_with.ensures.byte (omega arith) (omega arith) (λ w o h. h) ∙ sym (begins_with_feed-chars c.args.more.now c.utf8.more) in
    ap not feed ∙ grind (arith, nat_tests)
