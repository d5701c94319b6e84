-- A text is one identifier in one way at most (R7RS 7.1.1).
use Rattle.std.proofs.Common.{◌≡◌, ℕ, List, [], Bool, refl, sym, ap, ◌∙◌, subst, Option, Some, None, IfNone, IfSome}
use Rattle.std.specs.Str.{chars, encode_utf8_all, IsUtf8}
use Rattle.std.proofs.lemmas.Str.{encodes-chars}
use Rattle.scheme_tokens.specs.Lexical.{Atomic, IsIdentifier, Name}
use Rattle.scheme_tokens.proofs.Apart.{one_first}

same_name : (name old : List ℕ) (b bars : Bool) → Atomic (Name name b) ≡ Atomic (Name old bars) → name ≡ old
same_name name old b bars h = cc

pub one_symbol : (text name other : List ℕ) → IsUtf8 name → IsUtf8 other → IsIdentifier (chars name) text → IsIdentifier (chars other) text → name ≡ other
one_symbol text name other utf8 utf8_other h k =
    let same = same_name (chars name) (chars other) h.0 k.0 (one_first (Atomic (Name (chars name) h.0)) (Atomic (Name (chars other) k.0)) text text [] [] refl h.1 k.1).0 in
    sym (encodes-chars name utf8) ∙ ap encode_utf8_all same ∙ encodes-chars other utf8_other

-- ---- where there is one, and where there is none

pub none_for : {P : Type 0} (o : Option (List ℕ)) → o ≡ None → IfNone o P → P
none_for None e h = h
none_for (Some s) e h = cc

pub some_for : (P : List ℕ → Type 0) (o : Option (List ℕ)) (s : List ℕ) → o ≡ Some s → IfSome o P → P s
some_for P None s e h = cc
some_for P (Some t) s e h = subst P (one t s e) h
  where
    one : (t s : List ℕ) → Some t ≡ Some s → t ≡ s
    one t s e = cc
