-- The edits of tokens, by how each is written: for each token a new name and how it is written, or nothing (R7RS 7.1.1).
use Rattle.std.specs.Prelude.{◌≡◌, ℕ, suc, ◌+◌, ◌-◌, Bool, false, List, [], ◌∷◌, Option, Some, None}
use Rattle.std.specs.List.{slice_range}
use Rattle.std.specs.Str.{chars, encode_utf8_all}
use Rattle.scheme_tokens.specs.Lexical.{byte_count, TokenKind, Paren, VectorParen, BytesParen, Close, Dot, Skip, Marked, Atomic, Leaf, Name, Numeral, Quoted, Character, Truth, Token}
use Rattle.scheme_tokens.specs.Mirror.Spelled.{spelled}
use Rattle.scheme_tokens.specs.Spelling.{IsSpelling}
use Rattle.text_edits.specs.Edits.{Edit}
use Rattle.text_edits.specs.NewNames.{begins_with_bar}

-- a name, and how it is written
pub record New : Type 0 where
  pub name : List ℕ
  pub text : List ℕ

-- only a name gets a new name, and in bars where it stands in bars
abbrev pub Fits : Option New → Token → Type 0
Fits None t = Unit {0}
Fits (Some n) t = (old : List ℕ) × (bars : Bool) × (t.kind ≡ Atomic (Name old bars)) × IsSpelling n.name bars n.text

abbrev pub AllFit : List (Option New) → List Token → Type 0
AllFit [] [] = Unit {0}
AllFit [] (t ∷ ts) = ⊥
AllFit (n ∷ ns) [] = ⊥
AllFit (n ∷ ns) (t ∷ ts) = Fits n t × AllFit ns ts

-- ---- the text

abbrev pub edits : List (Option New) → List Token → List Edit
edits [] ts = []
edits (n ∷ ns) [] = []
edits (None ∷ ns) (t ∷ ts) = edits ns ts
edits (Some n ∷ ns) (t ∷ ts) = record { start = t.start; end = t.end; text = encode_utf8_all n.text } ∷ edits ns ts

-- ---- its tokens

abbrev pub KindAs : Option New → TokenKind → TokenKind → Type 0
KindAs None k j = j ≡ k
KindAs (Some n) k j = (bars : Bool) × (j ≡ Atomic (Name n.name bars)) × (begins_with_bar (encode_utf8_all n.text) ≡ bars)

abbrev pub size_as : Option New → Token → ℕ
size_as None t = t.end - t.start
size_as (Some n) t = byte_count n.text

-- the same tokens but for the new names, with the same bytes between them; from a place on, which is now another
abbrev pub AreRetold : (at to : ℕ) → List (Option New) → List Token → List Token → Type 0
AreRetold at to [] [] [] = Unit {0}
AreRetold at to [] [] (u ∷ us) = ⊥
AreRetold at to [] (t ∷ ts) us = ⊥
AreRetold at to (n ∷ ns) [] us = ⊥
AreRetold at to (n ∷ ns) (t ∷ ts) [] = ⊥
AreRetold at to (n ∷ ns) (t ∷ ts) (u ∷ us) =
    KindAs n t.kind u.kind × (u.start ≡ to + (t.start - at)) × (u.end ≡ u.start + size_as n t) × AreRetold t.end u.end ns ts us

-- ---- back again

-- a token with a new name is spelled as it was
abbrev pub BackAs : (bytes : List ℕ) → Option New → Option New → Token → Type 0
BackAs bytes None None t = Unit {0}
BackAs bytes None (Some m) t = ⊥
BackAs bytes (Some n) None t = ⊥
BackAs bytes (Some n) (Some m) t = encode_utf8_all m.text ≡ slice_range bytes t.start t.end

abbrev pub GoBack : (bytes : List ℕ) → (ns ms : List (Option New)) → List Token → Type 0
GoBack bytes [] [] ts = Unit {0}
GoBack bytes [] (m ∷ ms) ts = ⊥
GoBack bytes (n ∷ ns) [] ts = ⊥
GoBack bytes (n ∷ ns) (m ∷ ms) [] = ⊥
GoBack bytes (n ∷ ns) (m ∷ ms) (t ∷ ts) = BackAs bytes n m t × GoBack bytes ns ms ts

-- ---- the new names of tokens by their numbers

abbrev pub bars_of_leaf : Leaf → Bool
bars_of_leaf (Name name bars) = bars
bars_of_leaf (Numeral text) = false
bars_of_leaf (Quoted text) = false
bars_of_leaf (Character c) = false
bars_of_leaf (Truth b) = false

abbrev pub bars_in : TokenKind → Bool
bars_in Paren = false
bars_in VectorParen = false
bars_in BytesParen = false
bars_in Close = false
bars_in Dot = false
bars_in Skip = false
bars_in (Marked mark) = false
bars_in (Atomic leaf) = bars_of_leaf leaf

abbrev pub new_if : Option (List ℕ) → TokenKind → Option New
new_if None k = None
new_if (Some name) k = Some (record { name = chars name; text = spelled (chars name) (bars_in k) })

abbrev pub news_from : (ℕ → Option (List ℕ)) → (number : ℕ) → List Token → List (Option New)
news_from new number [] = []
news_from new number (t ∷ ts) = new_if (new number) t.kind ∷ news_from new (suc number) ts
