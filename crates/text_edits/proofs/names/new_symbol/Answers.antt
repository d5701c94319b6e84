use Rattle.std.proofs.Common.{ℕ, List, sym, ap, ◌∙◌, subst}
use Rattle.std.specs.Str.{chars, IsUtf8}
use Rattle.scheme_tokens.specs.Lexical.{IsIdentifier}
use Rattle.text_edits.specs.NewNames.{is_reserved}
use Rattle.text_edits.proofs.SymbolLaws.{none_for, one_symbol, some_for}
use Rattle.text_edits.proofs.names.new_symbol.Goals as goal

pub returns-in_default-clause-none : goal.returns-in_default-clause-none
returns-in_default-clause-none c = λ name utf8 h. absurd (none_for c.in_ok-symbol.field-0 c.in_default.is c.in_ok-symbol.ensures.none (chars name) h)

pub returns-then-is_reserved-clause-none : goal.returns-then-is_reserved-clause-none
returns-then-is_reserved-clause-none c = λ name utf8 h.
    let symbol = c.in-Some.symbol in
    let told = some_for (λ (s : List ℕ). IsIdentifier (chars s) (chars c.args.text.now)) c.in_ok-symbol.field-0 symbol c.in-Some.is c.in_ok-symbol.ensures.some in
    ap is_reserved (one_symbol (chars c.args.text.now) name symbol utf8 (subst IsUtf8 c.as_str.ensures c.as_str.utf8) h told ∙ sym c.as_str.ensures) ∙ sym c.is_reserved.ensures ∙ c.if-is_reserved.true
