use Rattle.std.proofs.Common.{ℕ, ◌-◌, ap, sym}
use Rattle.scheme_tokens.proofs.Fronts.{byte_count-chars}
use Rattle.scheme_tokens.proofs.reader.span.Goals as goal

pub returns-clause-start : goal.returns-clause-start
returns-clause-start c = ap (λ (n : ℕ). c.args.size - n) (sym (byte_count-chars c.args.from.now c.utf8.from))

pub returns-clause-end : goal.returns-clause-end
returns-clause-end c = ap (λ (n : ℕ). c.args.size - n) (sym (byte_count-chars c.args.to.now c.utf8.to))
