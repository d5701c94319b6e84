use Rattle.std.proofs.Common.{◌∙◌, sym}
use Rattle.std.specs.Str.{chars}
use Rattle.scheme_tokens.proofs.Fronts.{no_chars, first_char}
use Rattle.scheme_tokens.proofs.TokenLaws.{character_of-none, character_of-code, character_of-name}
use Rattle.scheme_tokens.proofs.scan.character.Goals as goal

pub returns-then-is_empty : goal.returns-then-is_empty
returns-then-is_empty c = character_of-none c.args.first (chars c.args.word.now) (no_chars c.args.word.now (sym c.is_empty.ensures ∙ c.if-is_empty.true))

pub returns-then-tells_code : goal.returns-then-tells_code
returns-then-tells_code c =
    let some = first_char c.args.word.now c.utf8.word (sym c.is_empty.ensures ∙ c.if-is_empty.false) in
    c.hex_char.ensures ∙ character_of-code c.args.first some.0 (chars c.args.word.now) some.1 some.2 (sym c.tells_code.ensures ∙ c.if-tells_code.true)

pub returns-else-tells_code : goal.returns-else-tells_code
returns-else-tells_code c =
    let some = first_char c.args.word.now c.utf8.word (sym c.is_empty.ensures ∙ c.if-is_empty.false) in
    c.named.ensures ∙ character_of-name c.args.first some.0 (chars c.args.word.now) some.1 some.2 (sym c.tells_code.ensures ∙ c.if-tells_code.false)
