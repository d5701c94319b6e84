-- The symbol of a new name is the one that a reader tells.
use Rattle.std.proofs.Common.{◌≡◌, ℕ, List, Bool, true, false, cond, Option, Some, None, refl, sym, ap, ◌∙◌}
use Rattle.std.specs.Str.{chars, IsUtf8}
use Rattle.scheme_tokens.specs.Lexical.{IsIdentifier}
use Rattle.text_edits.specs.NewNames as new
use Rattle.text_edits.proofs.SymbolLaws.{one_symbol}
use Rattle.rename_conditions.specs.Readers.{Reader, IsReader, IsSymbolOf}
use Rattle.rename_conditions.specs.Renames.{is_reserved, new_symbol}
use Rattle.rename_answers.proofs.ConditionLaws.{reserved_same}

symbol_by : (text : List ℕ) (o : Option (List ℕ)) (name : List ℕ) → IsSymbolOf text o → IsUtf8 name → IsIdentifier (chars name) (chars text) → new.is_reserved name ≡ false → new_symbol o ≡ Some name
symbol_by text None name h u i free = absurd (h name u i)
symbol_by text (Some s) name h u i free =
    let same : s ≡ name = one_symbol (chars text) s name h.0 u h.1 i in
    ap (λ (b : Bool). cond b None (Some s)) (reserved_same s ∙ ap new.is_reserved same ∙ free) ∙ ap (λ (t : List ℕ). Some t) same

none_by : (text : List ℕ) (o : Option (List ℕ)) → IsSymbolOf text o → ((name : List ℕ) → IsUtf8 name → IsIdentifier (chars name) (chars text) → new.is_reserved name ≡ true) → new_symbol o ≡ None
none_by text None h taken = refl
none_by text (Some s) h taken = ap (λ (b : Bool). cond b None (Some s)) (reserved_same s ∙ taken s h.0 h.1)

pub symbol_told : (r : Reader) → IsReader r → (text name : List ℕ) → IsUtf8 name → IsIdentifier (chars name) (chars text) → new.is_reserved name ≡ false → new_symbol (r.symbol text) ≡ Some name
symbol_told r is text name u i free = symbol_by text (r.symbol text) name (is.names text) u i free

pub no_symbol : (r : Reader) → IsReader r → (text : List ℕ) → ((name : List ℕ) → IsUtf8 name → IsIdentifier (chars name) (chars text) → new.is_reserved name ≡ true) → new_symbol (r.symbol text) ≡ None
no_symbol r is text taken = none_by text (r.symbol text) (is.names text) taken
