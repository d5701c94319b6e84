-- Tokens and space count what follows them by its first character alone.
use Rattle.std.proofs.Common.{◌≡◌, ℕ, List, [], ◌∷◌, ◌++◌, Bool, true, false, cond, refl, sym, ap, ◌∙◌, subst, append_assoc, ◌==◌}
use Rattle.std.proofs.lemmas.Bool.{eqb-true, cond-false}
use Rattle.scheme_tokens.specs.Lexical.{Ends, IsWord, is_inside, is_in_line, IsSpace, TokenKind, Paren, VectorParen, BytesParen, Close, Dot, Skip, Marked, Quote, Quasi, Unquote, Splice, Atomic, Name, Numeral, Quoted, Character, Truth, IsToken, Token, First, IsSpelledFrom, mark_bytes, behind_mark}
use Rattle.scheme_tokens.specs.Stopping.{Begins}
use Rattle.scheme_tokens.proofs.Same.Ends.{EndsLike, like_behind}

pub space_frame : {gap rest : List ℕ} → IsSpace gap rest → (others : List ℕ) → EndsLike rest others → IsSpace gap others
space_frame (IsSpace.none rest) others like = IsSpace.none others
space_frame (IsSpace.white c gap rest h more) others like = IsSpace.white c gap others h (space_frame more others like)
space_frame (IsSpace.line comment gap rest h ends more) others like = IsSpace.line comment gap others h (like_behind gap rest others like is_in_line ends) (space_frame more others like)
space_frame (IsSpace.nested comment gap rest h more) others like = IsSpace.nested comment gap others h (space_frame more others like)

word_frame : (word rest others : List ℕ) → EndsLike rest others → IsWord word rest → IsWord word others
word_frame word rest others like h = (h.0, like is_inside h.1)

pub token_frame : (k : TokenKind) (glyphs rest others : List ℕ) → EndsLike rest others → IsToken k glyphs rest → IsToken k glyphs others
token_frame Paren glyphs rest others like h = h
token_frame VectorParen glyphs rest others like h = h
token_frame BytesParen glyphs rest others like h = h
token_frame Close glyphs rest others like h = h
token_frame Dot glyphs rest others like h = (h.0, like is_inside h.1)
token_frame Skip glyphs rest others like h = h
token_frame (Marked Quote) glyphs rest others like h = h
token_frame (Marked Quasi) glyphs rest others like h = h
token_frame (Marked Unquote) glyphs rest others like h = (h.0, like (λ c. c == 64) h.1)
token_frame (Marked Splice) glyphs rest others like h = h
token_frame (Atomic (Name name true)) glyphs rest others like h = h
token_frame (Atomic (Name name false)) glyphs rest others like h = (h.0, h.1, h.2, word_frame name rest others like h.3)
token_frame (Atomic (Numeral text)) glyphs rest others like h = (h.0, h.1, word_frame text rest others like h.2)
token_frame (Atomic (Quoted text)) glyphs rest others like h = h
token_frame (Atomic (Character c)) glyphs rest others like h = (h.0, h.1, h.2, h.3, word_frame h.1 rest others like h.4)
token_frame (Atomic (Truth b)) glyphs rest others like h = (h.0, word_frame glyphs rest others like h.1)

-- ---- space before space

pub space_joined : {gap : List ℕ} {all : List ℕ} → IsSpace gap all → (more rest : List ℕ) → all ≡ more ++ rest → IsSpace more rest → IsSpace (gap ++ more) rest
space_joined (IsSpace.none all) more rest e h = h
space_joined (IsSpace.white c gap all w s) more rest e h = IsSpace.white c (gap ++ more) rest w (space_joined s more rest e h)
space_joined (IsSpace.line comment gap all w ends s) more rest e h =
    subst (λ (q : List ℕ). IsSpace (59 ∷ q) rest) (sym (append_assoc comment gap more))
    (IsSpace.line comment (gap ++ more) rest w (subst (Ends is_in_line) (ap (λ (q : List ℕ). gap ++ q) e ∙ sym (append_assoc gap more rest)) ends) (space_joined s more rest e h))
space_joined (IsSpace.nested comment gap all w s) more rest e h =
    subst (λ (q : List ℕ). IsSpace (35 ∷ 124 ∷ q) rest) (sym (append_assoc comment gap more)) (IsSpace.nested comment (gap ++ more) rest w (space_joined s more rest e h))

-- ---- the first tokens of a text

-- the characters of the first tokens, which are these before any rest that begins so
abbrev pub Fronted : ℕ → List Token → List ℕ → ℕ → List ℕ → Type 0
Fronted at ts text place rest = (front : List ℕ) × (text ≡ front ++ rest) × ((others : List ℕ) → EndsLike rest others → Begins at ts (front ++ others) place others)

regroup : (gap glyphs front rest : List ℕ) → (gap ++ (glyphs ++ front)) ++ rest ≡ gap ++ (glyphs ++ (front ++ rest))
regroup gap glyphs front rest = append_assoc gap (glyphs ++ front) rest ∙ ap (λ (q : List ℕ). gap ++ q) (append_assoc glyphs front rest)

first_frame : (at : ℕ) (t : Token) (text front rest others : List ℕ) → (first : First at t text) → first.rest ≡ front ++ rest → EndsLike rest others → First at t ((first.gap ++ (first.glyphs ++ front)) ++ others)
first_frame at t text front rest others first e like =
    let more = λ (p : ℕ → Bool) (h : Ends p first.rest). like_behind front rest others like p (subst (Ends p) e h) in
    record {
      gap = first.gap;
      glyphs = first.glyphs;
      rest = front ++ others;
      whole = regroup first.gap first.glyphs front others;
      space = space_frame first.space (first.glyphs ++ (front ++ others)) (like_behind first.glyphs first.rest (front ++ others) more);
      token = token_frame t.kind first.glyphs first.rest (front ++ others) more first.token;
      starts = first.starts;
      ends = first.ends;
    }

pub begins_fronted : (at : ℕ) (ts : List Token) (text : List ℕ) (place : ℕ) (rest : List ℕ) → Begins at ts text place rest → Fronted at ts text place rest
unfolding first_frame
begins_fronted at [] text place rest h = ([], sym h.1, λ others like. (h.0, refl))
begins_fronted at (t ∷ ts) text place rest h =
    let first = h.0 in
    let more = begins_fronted t.end ts first.rest place rest h.1 in (
      first.gap ++ (first.glyphs ++ more.0),
      first.whole ∙ ap (λ (q : List ℕ). first.gap ++ (first.glyphs ++ q)) more.1 ∙ sym (regroup first.gap first.glyphs more.0 rest),
      λ others like. (first_frame at t text more.0 rest others first more.1 like, more.2 others like),
    )

pub begins_spelled : (at : ℕ) (ts us : List Token) (text : List ℕ) (place : ℕ) (rest : List ℕ) → Begins at ts text place rest → IsSpelledFrom place us rest → IsSpelledFrom at (ts ++ us) text
begins_spelled at [] us text place rest h k = subst (λ (q : List ℕ). IsSpelledFrom at us q) h.1 (subst (λ (n : ℕ). IsSpelledFrom n us rest) h.0 k)
begins_spelled at (t ∷ ts) us text place rest h k = (h.0, begins_spelled t.end ts us h.0.rest place rest h.1 k)

-- ---- the mark at the front of a text

-- the mark of a text, which is that of the mark before anything that begins like the text behind it
abbrev pub MarkSplit : List ℕ → Type 0
MarkSplit text = (mark : List ℕ) × (text ≡ mark ++ behind_mark text) × ((others : List ℕ) → EndsLike (behind_mark text) others → (mark_bytes (mark ++ others) ≡ mark_bytes text) × (behind_mark (mark ++ others) ≡ others))

unmarked : (others : List ℕ) → Ends (λ c. c == 0xFEFF) others → (mark_bytes others ≡ 0) × (behind_mark others ≡ others)
unmarked [] h = (refl, refl)
unmarked (c ∷ cs) h = (cond-false (c == 0xFEFF) 3 0 h, cond-false (c == 0xFEFF) cs (c ∷ cs) h)

split_when : (c : ℕ) (cs : List ℕ) (b : Bool) → (c == 0xFEFF) ≡ b →
    (mark : List ℕ) × (c ∷ cs ≡ mark ++ cond b cs (c ∷ cs)) × ((others : List ℕ) → EndsLike (cond b cs (c ∷ cs)) others → (mark_bytes (mark ++ others) ≡ cond b 3 0) × (behind_mark (mark ++ others) ≡ others))
split_when c cs true e = (0xFEFF ∷ [], ap (λ (q : ℕ). q ∷ cs) (eqb-true c 0xFEFF e), λ others like. (refl, refl))
split_when c cs false e = ([], refl, λ others like. unmarked others (like (λ q. q == 0xFEFF) e))

pub mark_split : (text : List ℕ) → MarkSplit text
mark_split [] = ([], refl, λ others like. unmarked others (like (λ q. q == 0xFEFF) tt))
mark_split (c ∷ cs) = split_when c cs (c == 0xFEFF) refl
