use Rattle.std.proofs.Common.{None, Some, Ok, length, subst, refl, sym, ◌∙◌}
use Rattle.std.specs.Str.{chars}
use Rattle.scheme_tokens.specs.Mirror.Reading.{next}
use Rattle.scheme_tokens.specs.Views.{IsFront}
use Rattle.scheme_tokens.specs.Mirror.Told.{IsNext}
use Rattle.scheme_tokens.specs.declared.fault.ReadFault.{ReadFault}
use Rattle.scheme_tokens.proofs.Fronts.{byte_count-chars}
use Rattle.scheme_tokens.proofs.Readings.{read_whole, front_fault}
use Rattle.scheme_tokens.proofs.reader.front_tokens.Goals as goal

pub returns-in-Ok-None-clause-front : goal.returns-in-Ok-None-clause-front
returns-in-Ok-None-clause-front c =
    let text = c.args.text.now in
    let rest = chars c.loop-token.rest.now in (
      None,
      read_whole (length text) (chars text) c.loop-token.tokens rest None c.loop-token.invariant.goes
          (subst (λ o. IsNext (Ok o) (next (length text) rest)) c.in-Ok-None.field-0-is c.in-Ok-None.ensures.next) (byte_count-chars text c.utf8.text),
      refl,
    )

pub returns-in-Err-clause-front : goal.returns-in-Err-clause-front
returns-in-Err-clause-front c =
    let text = c.args.text.now in
    let rest = chars c.loop-token.rest.now in
    let f = c.in_ok-of_text-in-Err.ensures in
    subst (λ (v : ReadFault). IsFront c.loop-token.tokens (Some v) (chars text)) (sym f.same)
    (front_fault c.in-Err.fault (length text) (chars text) c.loop-token.tokens rest c.loop-token.invariant.goes (byte_count-chars text c.utf8.text)
    (λ e. f.told (f.same ∙ e)) c.in-Err.ensures.next)
