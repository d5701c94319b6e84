-- Names and the tokens that spell them.
use Rattle.std.proofs.Common.{◌≡◌, ℕ, List, [], ◌∷◌, Option, Some, None, Result, Ok, Err, Bool, sym, ap, ◌∙◌, option_map, IfSome, IfNone, ◌++◌, append_assoc}
use Rattle.std.specs.Str.{chars}
use Rattle.scheme_tokens.specs.Mirror.Quoted.{Fault}
use Rattle.scheme_tokens.specs.Mirror.Tokens.{TokenKind, Paren, VectorParen, BytesParen, Close, Dot, Skip, Marked, Atomic, Name, Numeral, Quoted, Character, Truth, token}
use Rattle.scheme_tokens.specs.Lexical.{IsIdentifier}
use Rattle.scheme_tokens.specs.Views.{symbol_of}
use Rattle.scheme_tokens.proofs.Same.Reading.{identifier_told, identifier_read}

some_none : (name : List ℕ) → Some name ≡ None → ⊥
some_none name e = cc

some_same : (name other : List ℕ) → Some name ≡ Some other → other ≡ name
some_same name other e = cc

-- a token that tells a symbol is that name
pub names : (k : TokenKind) (name : List ℕ) → Some name ≡ symbol_of k → (bars : Bool) × (k ≡ Atomic (Name name bars))
names Paren name e = absurd (some_none name e)
names VectorParen name e = absurd (some_none name e)
names BytesParen name e = absurd (some_none name e)
names Close name e = absurd (some_none name e)
names Dot name e = absurd (some_none name e)
names Skip name e = absurd (some_none name e)
names (Marked mark) name e = absurd (some_none name e)
names (Atomic (Name other bars)) name e = (bars, ap (λ (q : List ℕ). Atomic (Name q bars)) (some_same name other e))
names (Atomic (Numeral text)) name e = absurd (some_none name e)
names (Atomic (Quoted text)) name e = absurd (some_none name e)
names (Atomic (Character c)) name e = absurd (some_none name e)
names (Atomic (Truth b)) name e = absurd (some_none name e)

pub identifier : (symbol : Option (List ℕ)) (k : TokenKind) (text rest : List ℕ) → option_map (λ name. chars name) symbol ≡ symbol_of k → token text ≡ Ok (k, rest) → rest ≡ [] →
    IfSome symbol (λ name. IsIdentifier (chars name) text)
identifier None k text rest s t e = tt
identifier (Some name) k text rest s t e =
    let n = names k (chars name) s in
    identifier_told (chars name) text (n.0, t ∙ (λ i. Ok (n.1 i, e i)))

rest_of : Result (TokenKind × List ℕ) Fault → List ℕ
rest_of (Ok t) = t.1
rest_of (Err fault) = []

same_rest : (k j : TokenKind) (rest : List ℕ) (read : Result (TokenKind × List ℕ) Fault) → read ≡ Ok (k, rest) → read ≡ Ok (j, []) → rest ≡ []
unfolding rest_of
same_rest k j rest read e f = ap rest_of (sym e ∙ f)

no_chars_left : (c : ℕ) (cs : List ℕ) → c ∷ cs ≡ [] → ⊥
no_chars_left c cs e = cc

-- a token before more is no text of its own
pub more_left : (k : TokenKind) (text rest : List ℕ) (c : ℕ) (cs : List ℕ) → token text ≡ Ok (k, rest) → rest ≡ c ∷ cs → (name : List ℕ) → IsIdentifier name text → ⊥
more_left k text rest c cs t e name h = let read = identifier_read name text h in no_chars_left c cs (sym e ∙ same_rest k (Atomic (Name name read.0)) rest (token text) t read.1)

-- a character more before the closing bar
pub one_more : (front one more tail : List ℕ) → (front ++ one) ++ (more ++ tail) ≡ front ++ ((one ++ more) ++ tail)
one_more front one more tail = append_assoc front one (more ++ tail) ∙ ap (λ (q : List ℕ). front ++ q) (sym (append_assoc one more tail))

kind_or : TokenKind → Result (TokenKind × List ℕ) Fault → TokenKind
kind_or k (Ok t) = t.0
kind_or k (Err fault) = k

same_kind : (k j : TokenKind) (rest others : List ℕ) (read : Result (TokenKind × List ℕ) Fault) → read ≡ Ok (k, rest) → read ≡ Ok (j, others) → k ≡ j
unfolding kind_or
same_kind k j rest others read e f = ap (kind_or k) (sym e ∙ f)

-- a token that tells no symbol is no identifier, nor is a fault
pub no_symbol : (symbol : Option (List ℕ)) (k : TokenKind) (text rest : List ℕ) → option_map (λ name. chars name) symbol ≡ symbol_of k → token text ≡ Ok (k, rest) →
    IfNone symbol ((name : List ℕ) → IsIdentifier name text → ⊥)
no_symbol None k text rest s t = λ name h.
    let read = identifier_read name text h in
    some_none name (sym (s ∙ ap symbol_of (same_kind k (Atomic (Name name read.0)) rest [] (token text) t read.1)))
no_symbol (Some other) k text rest s t = tt

no_read : (read : Result (TokenKind × List ℕ) Fault) (f : Fault) (t : TokenKind × List ℕ) → read ≡ Err f → read ≡ Ok t → ⊥
no_read read f t e h = cc

pub no_identifier : (text : List ℕ) (f : Fault) → token text ≡ Err f → (name : List ℕ) → IsIdentifier name text → ⊥
no_identifier text f e name h =
    let read = identifier_read name text h in
    no_read (token text) f (Atomic (Name name read.0), []) e read.1
