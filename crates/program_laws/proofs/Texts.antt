-- A text has at most as many tokens as characters, so its data are no larger than twice the text.
use Rattle.std.proofs.Common.{◌≡◌, inl, inr, ℕ, zero, suc, ◌+◌, ◌-◌, ◌*◌, ◌^◌, ◌≤◌, ◌<◌, List, [], ◌∷◌, ◌++◌, map, length, codes, Bool, true, false, Option, Some, None, refl, ap, ◌∙◌, length-append, arith, if◌then◌else◌}
use Rattle.std.specs.Prelude.{◌==◌}
use Rattle.std.specs.Char.{to_ascii_lowercase}
use Rattle.scheme_model.specs.Data.{Datum}
use Rattle.scheme_model.specs.Kinds.{Token as ModelToken}
use Rattle.scheme_model.specs.Includes.{or_none, Document, data_of}
use Rattle.scheme_tokens.specs.Lexical.{Leaf, Name, Numeral, Quoted, Character, Truth, Quote, Quasi, Unquote, Splice, TokenKind, Paren, VectorParen, BytesParen, Close, Dot, Skip, Marked, Atomic, IsBare, IsNumeral, IsTruth, IsLeaf, IsToken, Token, First, IsSpelledFrom, mark_bytes, behind_mark}
use Rattle.std.specs.Str.{chars, chars_after, continuation_len, lead_bits}
use Rattle.std.specs.Option.{option_map}
use Rattle.scheme_model.specs.Order.{is_some}
use Rattle.scheme_tokens.specs.Stopping.{IsRead}
use Rattle.scheme_tokens.specs.Faults.{FaultAt}
use Rattle.datum_reader.specs.Texts.{token_seen, stop_seen, IsReading}
use Rattle.program_laws.specs.Turns.{Each, datum_size, AreBounded}
use Rattle.program_laws.specs.Texts.{AreOfText, IsOfText}
use Rattle.program_laws.proofs.Circles.{never}
use Rattle.program_laws.proofs.Lists.{each_of}
use Rattle.program_laws.proofs.Written.{data_within}

-- ---- a token has a character

abbrev HasCharacter : List ℕ → Type 0
HasCharacter cs = 1 ≤ length cs

spelled_some : (cs glyphs : List ℕ) (c : ℕ) → map to_ascii_lowercase glyphs ≡ c ∷ cs → HasCharacter glyphs
spelled_some cs [] c e = let l = ap length e in omega (arith, l)
spelled_some cs (g ∷ gs) c e = omega arith

as_some : (glyphs cs : List ℕ) (c : ℕ) → glyphs ≡ c ∷ cs → HasCharacter glyphs
as_some glyphs cs c e = let l = ap length e in omega (arith, l)

bare_some : (cs : List ℕ) → IsBare cs → HasCharacter cs
bare_some cs (IsBare.ordinary c ds h k) = omega arith
bare_some cs (IsBare.sign s h) = omega arith
bare_some cs (IsBare.signed s c ds h k l) = omega arith
bare_some cs (IsBare.signed_dot s c ds h k l) = omega arith
bare_some cs (IsBare.dot c ds h k) = omega arith

numeral_some : (cs : List ℕ) → IsNumeral cs → HasCharacter cs
numeral_some cs (IsNumeral.digit c ds h) = omega arith
numeral_some cs (IsNumeral.point c ds h) = omega arith
numeral_some cs (IsNumeral.signed s c ds h k) = omega arith
numeral_some cs (IsNumeral.signed_point s c ds h k) = omega arith
numeral_some cs (IsNumeral.prefixed c ds h) = omega arith
numeral_some cs (IsNumeral.infinite s ds more h k) = omega arith
numeral_some cs (IsNumeral.no_number s ds more h k) = omega arith
numeral_some cs (IsNumeral.imaginary s ds h k) = omega arith

truth_some : (b : Bool) (cs : List ℕ) → IsTruth b cs → HasCharacter cs
truth_some true cs (inl h) = spelled_some (codes "t") cs 35 h
truth_some true cs (inr h) = spelled_some (codes "true") cs 35 h
truth_some false cs (inl h) = spelled_some (codes "f") cs 35 h
truth_some false cs (inr h) = spelled_some (codes "false") cs 35 h

leaf_some : (leaf : Leaf) (cs rest : List ℕ) → IsLeaf leaf cs rest → HasCharacter cs
leaf_some (Name name true) cs rest h = as_some cs h.0 124 h.1
leaf_some (Name name false) cs rest h = let l = ap length h.0 in let b = bare_some name h.1 in omega (arith, l, b)
leaf_some (Numeral text) cs rest h = let l = ap length h.0 in let b = numeral_some text h.1 in omega (arith, l, b)
leaf_some (Quoted text) cs rest h = as_some cs h.0 34 h.1
leaf_some (Character c) cs rest h = as_some cs (92 ∷ h.0 ∷ h.1) 35 h.2
leaf_some (Truth b) cs rest h = truth_some b cs h.0

token_some : (k : TokenKind) (cs rest : List ℕ) → IsToken k cs rest → HasCharacter cs
token_some Paren cs rest h = as_some cs [] 40 h
token_some VectorParen cs rest h = as_some cs (codes "(") 35 h
token_some BytesParen cs rest (inl h) = as_some cs (codes "u8(") 35 h
token_some BytesParen cs rest (inr h) = as_some cs (codes "U8(") 35 h
token_some Close cs rest h = as_some cs [] 41 h
token_some Dot cs rest h = as_some cs [] 46 h.0
token_some Skip cs rest h = as_some cs (codes ";") 35 h
token_some (Marked Quote) cs rest h = as_some cs [] 39 h
token_some (Marked Quasi) cs rest h = as_some cs [] 96 h
token_some (Marked Unquote) cs rest h = as_some cs [] 44 h.0
token_some (Marked Splice) cs rest h = as_some cs (codes "@") 44 h
token_some (Atomic leaf) cs rest h = leaf_some leaf cs rest h

-- ---- texts

tokens_within : (at : ℕ) (ts : List Token) (text : List ℕ) → IsSpelledFrom at ts text → length ts ≤ length text
tokens_within at [] text h = omega arith
tokens_within at (t ∷ ts) text h =
    let f : First at t text = h.0 in
    let a = tokens_within t.end ts f.rest h.1 in
    let b = token_some t.kind f.glyphs f.rest f.token in
    let c : length text ≡ length (f.gap ++ (f.glyphs ++ f.rest)) = ap length f.whole in
    let d = length-append f.gap (f.glyphs ++ f.rest) in
    let e = length-append f.glyphs f.rest in
    omega (arith, a, b, c, d, e)

mark_within : (text : List ℕ) → length (behind_mark text) ≤ length text
mark_within [] = omega arith
mark_within (c ∷ cs) = by (c == 0xFEFF)
  where
    by : (b : Bool) → length (if b then cs else c ∷ cs) ≤ suc (length cs)
    by true = omega arith
    by false = omega arith

no_stop : (f : FaultAt) {X : Type 0} → None ≡ Some (stop_seen f) → X
no_stop f e = never (ap is_some e)

mapped_length : {X Y : Type 0} (f : X → Y) (xs : List X) → length (map f xs) ≡ length xs
mapped_length f [] = refl
mapped_length f (x ∷ xs) = ap suc (mapped_length f xs)

read_by : (text : List ℕ) (ts : List ModelToken) (us : List Token) (fin : Option FaultAt) → IsRead us fin text → ts ≡ map token_seen us → None ≡ option_map stop_seen fin → length ts ≤ length text
read_by text ts us None spelled same e =
    let a = tokens_within (mark_bytes text) us (behind_mark text) spelled in
    let b = mark_within text in
    let c : length ts ≡ length us = ap length same ∙ mapped_length token_seen us in
    omega (arith, a, b, c)
read_by text ts us (Some f) stopped same e = no_stop f e

pub text_within : (text : List ℕ) (ds : List Datum) → IsReading text ds → Each (λ (d : Datum). datum_size d ≤ 2 * length text) ds
text_within text ds r =
    let s = r.spelled in
    let few : length r.tokens ≤ length text = read_by text r.tokens s.0 s.1 s.2 s.3 s.4 in
    each_of (λ (d : Datum). datum_size d ≤ 2 * length r.tokens) (λ (d : Datum). datum_size d ≤ 2 * length text) ds (data_within r.written r.tokens ds r.formed r.means) (λ d le. omega (arith, le, few))

-- ---- bytes

after_fewer : (n c : ℕ) (bs : List ℕ) → length (chars_after n c bs) ≤ suc (length bs)
after_fewer zero c [] = omega arith
after_fewer zero c (b ∷ bs) = let h = after_fewer (continuation_len b) (lead_bits b) bs in omega (arith, h)
after_fewer (suc n) c [] = omega arith
after_fewer (suc n) c (b ∷ bs) = let h = after_fewer n (c * 64 + (b - 128)) bs in omega (arith, h)

-- a text has no more characters than bytes
chars_fewer : (bs : List ℕ) → length (chars bs) ≤ length bs
unfolding chars
chars_fewer [] = omega arith
chars_fewer (b ∷ bs) = after_fewer (continuation_len b) (lead_bits b) bs

data_bounded : (d : Option (List Datum)) → AreOfText d → Each (λ (x : Datum). datum_size x < 2 ^ 60) (or_none d)
data_bounded None h = tt
data_bounded (Some ds) h =
    let small = h.1 in
    let few = chars_fewer h.0 in
    each_of (λ (x : Datum). datum_size x ≤ 2 * length (chars h.0)) (λ (x : Datum). datum_size x < 2 ^ 60) ds (text_within (chars h.0) ds h.2) (λ x le. omega (arith, le, small, few))

pub texts_bounded : (ds : List Document) → Each IsOfText ds → AreBounded ds
texts_bounded ds h = each_of IsOfText (λ (d : Document). Each (λ (x : Datum). datum_size x < 2 ^ 60) (data_of d)) ds h (λ d x. data_bounded d.read x)
