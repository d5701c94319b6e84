use Rattle.std.proofs.Common.{◌≡◌, rules, sym, subst}
use Rattle.std.specs.Str.{chars}
use Rattle.scheme_tokens.specs.Spelling.{IsSpelling}
use Rattle.scheme_tokens.specs.Mirror.Spelled.{spelled}
use Rattle.scheme_tokens.proofs.Same.Spelling.{spelling}
use Rattle.scheme_tokens.proofs.name.spell.Goals as goal

pub returns-in_ok-barred : goal.returns-in_ok-barred
unfolding spelled
returns-in_ok-barred c =
    let written : chars c.in_ok-barred.field-0 ≡ spelled (chars c.args.name.now) c.args.bars = search rules in
    subst (IsSpelling (chars c.args.name.now) c.args.bars) (sym written) (spelling (chars c.args.name.now) c.args.bars)

pub returns-in_ok-of : goal.returns-in_ok-of
unfolding spelled
returns-in_ok-of c =
    let written : chars c.in_ok-of.field-0 ≡ spelled (chars c.args.name.now) c.args.bars = search rules in
    subst (IsSpelling (chars c.args.name.now) c.args.bars) (sym written) (spelling (chars c.args.name.now) c.args.bars)
