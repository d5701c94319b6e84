use Rattle.std.proofs.Common.{◌≡◌, ℕ, List, Option, false, refl, subst}
use Rattle.std.specs.Prelude.{IfNone, IfSome, true}
use Rattle.std.specs.Str.{chars, IsUtf8}
use Rattle.scheme_tokens.specs.Lexical.{IsIdentifier}
use Rattle.text_edits.specs.NewNames.{is_reserved}
use Rattle.rename_conditions.specs.Renames.{BadName, new_symbol}
use Rattle.rename_planner.specs.Planning.{Same}
use Rattle.rename_planner.proofs.BindLaws.{has, lacks}
use Rattle.rename_answers.proofs.SymbolLaws.{no_symbol, symbol_told}
use Rattle.rename_planner.proofs.conditions.symbol.Goals as goal

pub returns-in-Some : goal.returns-in-Some
returns-in-Some c = λ e ds r is.
    let text = c.args.new_name.now in
    let h = subst (λ (o : Option (List ℕ)). IfSome o (λ name. IsUtf8 name × IsIdentifier (chars name) (chars text) × (is_reserved name ≡ false))) c.in-Some.is c.in_ok-symbol.ensures.some in
    has e ds Same (new_symbol (r.symbol text)) BadName _ _ (symbol_told r is text _ h.0 h.1 h.2) refl

pub returns-in-None : goal.returns-in-None
returns-in-None c = λ e ds r is.
    let text = c.args.new_name.now in
    let h = subst (λ (o : Option (List ℕ)). IfNone o ((name : List ℕ) → IsUtf8 name → IsIdentifier (chars name) (chars text) → is_reserved name ≡ true)) c.in-None.is c.in_ok-symbol.ensures.none in
    lacks e ds Same (new_symbol (r.symbol text)) BadName _ (no_symbol r is text h) refl
