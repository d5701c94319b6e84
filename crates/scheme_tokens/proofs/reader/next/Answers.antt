use Rattle.std.proofs.Common.{ap, ◌∙◌, sym, refl, subst}
use Rattle.std.specs.Str.{chars}
use Rattle.scheme_tokens.specs.Mirror.Tokens.{token}
use Rattle.scheme_tokens.specs.Mirror.Reading.{found, next, next_behind, next_token, at_front, fault_at}
use Rattle.scheme_tokens.specs.Views.{kind_of}
use Rattle.scheme_tokens.specs.Mirror.Told.{fault_of, Fails}
use Rattle.scheme_tokens.proofs.Fronts.{no_chars, first_char}
use Rattle.scheme_tokens.proofs.TokenLaws.{next-front}
use Rattle.scheme_tokens.proofs.reader.next.Goals as goal

pub returns-then-is_empty-clause-next : goal.returns-then-is_empty-clause-next
unfolding next
returns-then-is_empty-clause-next c =
    ap (next_behind c.args.size) c.in-Ok.ensures.gap ∙ ap (at_front c.args.size) (no_chars c.in-Ok.front.now (sym c.is_empty.ensures ∙ c.if-is_empty.true))

pub returns-in-Ok-token-clause-next : goal.returns-in-Ok-token-clause-next
returns-in-Ok-token-clause-next c =
    let some = first_char c.in-Ok.front.now c.in-Ok.ensures.utf8 (sym c.is_empty.ensures ∙ c.if-is_empty.false) in
    next-front c.args.size some.0 (chars c.args.text.now) (chars c.in-Ok.front.now) some.1 c.in-Ok.ensures.gap some.2
    ∙ ap (next_token c.args.size (chars c.in-Ok.front.now)) c.in-Ok-token.ensures.gives
    ∙ (λ i. found (record { kind = kind_of c.in-Ok-token.kind; start = sym c.span-span.ensures.start i; end = sym c.span-span.ensures.end i }) (chars c.in-Ok-token.rest.now))

pub returns-in-Err-Fault-clause-next : goal.returns-in-Err-Fault-clause-next
returns-in-Err-Fault-clause-next c =
    let some = first_char c.in-Ok.front.now c.in-Ok.ensures.utf8 (sym c.is_empty.ensures ∙ c.if-is_empty.false) in
    let stops = next-front c.args.size some.0 (chars c.args.text.now) (chars c.in-Ok.front.now) some.1 c.in-Ok.ensures.gap some.2
    ∙ ap (next_token c.args.size (chars c.in-Ok.front.now)) (subst (λ e. Fails e (token (chars c.in-Ok.front.now))) c.in-Err-Fault.field-0-is c.in-Err-Fault.ensures.gives) in
    rw c.fault_at-in-Err-Fault.ensures (fault_at c.args.size (fault_of c.in-Err-Fault.fault) (chars c.in-Ok.front.now), stops, refl)
