use Rattle.std.proofs.Common.{sym, ◌∙◌, subst, rules}
use Rattle.std.specs.Str.{chars}
use Rattle.scheme_tokens.specs.Mirror.Tokens.{token}
use Rattle.scheme_tokens.specs.Views.{kind_of}
use Rattle.scheme_tokens.specs.Mirror.Told.{fault_of, Fails}
use Rattle.scheme_tokens.proofs.Fronts.{no_chars, first_char}
use Rattle.scheme_tokens.proofs.NameLaws.{identifier, more_left, no_symbol, no_identifier}
use Rattle.scheme_tokens.proofs.name.ident_of.Goals as goal

pub returns-then-is_empty-clause-some : goal.returns-then-is_empty-clause-some
returns-then-is_empty-clause-some c =
    identifier c.symbol.result (kind_of c.in-Ok.kind) (chars c.args.text.now) (chars c.in-Ok.rest.now) c.symbol.ensures c.in-Ok.ensures.gives (no_chars c.in-Ok.rest.now (sym c.is_empty.ensures ∙ c.if-is_empty.true))

pub returns-then-is_empty-clause-none : goal.returns-then-is_empty-clause-none
returns-then-is_empty-clause-none c =
    no_symbol c.symbol.result (kind_of c.in-Ok.kind) (chars c.args.text.now) (chars c.in-Ok.rest.now) c.symbol.ensures c.in-Ok.ensures.gives

pub returns-else-is_empty-clause-none : goal.returns-else-is_empty-clause-none
returns-else-is_empty-clause-none c =
    let some = first_char c.in-Ok.rest.now (search rules) (sym c.is_empty.ensures ∙ c.if-is_empty.false) in
    more_left (kind_of c.in-Ok.kind) (chars c.args.text.now) (chars c.in-Ok.rest.now) some.0 some.1 c.in-Ok.ensures.gives some.2

pub returns-in-Err-Fault-clause-none : goal.returns-in-Err-Fault-clause-none
returns-in-Err-Fault-clause-none c =
    no_identifier (chars c.args.text.now) (fault_of c.in-Err-Fault.field-0-0) (subst (λ e. Fails e (token (chars c.args.text.now))) c.in-Err-Fault.field-0-is c.in-Err-Fault.ensures.gives)
