use Rattle.std.proofs.Common.{ap, ◌∙◌, sym}
use Rattle.std.specs.Str.{chars}
use Rattle.std.proofs.lemmas.Str.{chars-nil}
use Rattle.scheme_tokens.specs.Mirror.Words.{behind}
use Rattle.scheme_tokens.specs.Mirror.Told.{test_of}
use Rattle.scheme_tokens.proofs.front.skip.Goals as goal

pub returns-clause-rest : goal.returns-clause-rest
returns-clause-rest c =
    let none = ap chars c.in_default.ensures.none ∙ chars-nil in
    none ∙ sym (ap (behind (test_of c.args.class)) none) ∙ c.loop-c.invariant.goes
