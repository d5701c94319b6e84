-- Where a word that begins with `#` and is no token stops.
use Rattle.std.proofs.Common.{◌≡◌, ℕ, List, [], ◌∷◌, ◌++◌, Option, Some, None, Ok, Err, Bool, true, false, cond, refl, sym, ap, ◌∙◌, subst, append_assoc, append-nil, map, inl, inr, ◌==◌, ◌&&◌, ◌||◌}
use Rattle.std.specs.Prelude.{codes}
use Rattle.std.specs.List.{list_all}
use Rattle.std.specs.Char.{to_ascii_lowercase, is_ascii_digit}
use Rattle.std.proofs.lemmas.Bool.{cond-true, cond-false, or_cases, or_parts, or_left, or_right, and_parts, and_from, and_right, eqb-true, eq-eqb, false_from_ne_true}
use Rattle.scheme_tokens.specs.Lexical.{is_delimiter, IsWord, Spells, is_inside, TokenKind, BytesParen, Atomic, Numeral, Truth, IsToken}
use Rattle.scheme_tokens.specs.Faults.{bad_token}
use Rattle.scheme_tokens.specs.Stopping.{because}
use Rattle.scheme_tokens.specs.Mirror.Words.{word_of, behind_word, spells, is_numeral}
use Rattle.scheme_tokens.specs.Mirror.Tokens.{token, hash_kind, hash_word, hash_token, behind_bytes, bytes_or, before}
use Rattle.scheme_tokens.proofs.Fronts.{front-behind, front_of-cons}
use Rattle.scheme_tokens.proofs.TokenLaws.{hash_inside}
use Rattle.scheme_tokens.proofs.Same.Ends.{behind-all, front-all}
use Rattle.scheme_tokens.proofs.Same.Words.{spells_is, test_numeral}
use Rattle.scheme_tokens.proofs.Same.Tokens.{a_word, u8_is}
use Rattle.scheme_tokens.proofs.Same.Scanned.{cons_head, cons_tail, list_all_front, list_all_both, front_more, behind_more, scan_from, Goes, Halts, Refused}
use Rattle.scheme_tokens.proofs.Same.BadWords.{OrRefused}

not_both : (b : Bool) → b ≡ true → b ≡ false → ⊥
not_both b h k = cc

-- characters are the first of these letters, in either case
abbrev is_front : List ℕ → List ℕ → Bool
is_front letters [] = true
is_front [] (c ∷ cs) = false
is_front (l ∷ ls) (c ∷ cs) = to_ascii_lowercase c == l && is_front ls cs

-- letters that stay as they are in lower case
abbrev Small : List ℕ → Type 0
Small [] = Unit {0}
Small (l ∷ ls) = (to_ascii_lowercase l ≡ l) × Small ls

small_spelled : (ls : List ℕ) → Small ls → Spells ls ls
small_spelled [] h = refl
small_spelled (l ∷ ls) h = λ i. h.0 i ∷ small_spelled ls h.1 i

-- the letters that are missing behind a front
completed : (p : ℕ → Bool) (ls cs : List ℕ) → Small ls → list_all p ls ≡ true → is_front ls cs ≡ true → (more : List ℕ) × Spells ls (cs ++ more) × (list_all p more ≡ true)
completed p ls [] s all h = (ls, small_spelled ls s, all)
completed p [] (c ∷ cs) s all h = cc
completed p (l ∷ ls) (c ∷ cs) s all h =
    let parts = and_parts (to_ascii_lowercase c == l) (is_front ls cs) h in
    let more = completed p ls cs s.1 (and_parts (p l) (list_all p ls) all).1 parts.1 in
    (more.0, (λ i. eqb-true (to_ascii_lowercase c) l parts.0 i ∷ more.1 i), more.2)

front_spelled : (ls u y : List ℕ) → Spells ls (u ++ y) → is_front ls u ≡ true
front_spelled ls [] y h = refl
front_spelled [] (c ∷ cs) y h = cc
front_spelled (l ∷ ls) (c ∷ cs) y h =
    and_from (to_ascii_lowercase c == l) (is_front ls cs) (eq-eqb (to_ascii_lowercase c) l (cons_head (to_ascii_lowercase c) l (map to_ascii_lowercase (cs ++ y)) ls h))
    (front_spelled ls cs y (cons_tail (to_ascii_lowercase c) l (map to_ascii_lowercase (cs ++ y)) ls h))

front_longer : (ls more u : List ℕ) → is_front ls u ≡ true → is_front (ls ++ more) u ≡ true
front_longer ls more [] h = refl
front_longer [] more (c ∷ cs) h = cc
front_longer (l ∷ ls) more (c ∷ cs) h =
    let parts = and_parts (to_ascii_lowercase c == l) (is_front ls cs) h in
    and_from (to_ascii_lowercase c == l) (is_front (ls ++ more) cs) parts.0 (front_longer ls more cs parts.1)

-- ---- words that are tokens, and their fronts

abbrev is_good : List ℕ → Bool
is_good w = (spells (codes "#t") w || spells (codes "#true") w) || ((spells (codes "#f") w || spells (codes "#false") w) || is_numeral w)

abbrev is_viable : List ℕ → Bool
is_viable u = is_front (codes "#true") u || (is_front (codes "#false") u || (is_front (codes "#u8") u || is_numeral u))

true_viable : (u : List ℕ) → is_front (codes "#true") u ≡ true → is_viable u ≡ true
true_viable u h = or_left (is_front (codes "#true") u) _ h

false_viable : (u : List ℕ) → is_front (codes "#false") u ≡ true → is_viable u ≡ true
false_viable u h = or_right (is_front (codes "#true") u) _ (or_left (is_front (codes "#false") u) _ h)

bytes_viable : (u : List ℕ) → is_front (codes "#u8") u ≡ true → is_viable u ≡ true
bytes_viable u h = or_right (is_front (codes "#true") u) _ (or_right (is_front (codes "#false") u) _ (or_left (is_front (codes "#u8") u) _ h))

numeral_viable : (u : List ℕ) → is_numeral u ≡ true → is_viable u ≡ true
numeral_viable u h = or_right (is_front (codes "#true") u) _ (or_right (is_front (codes "#false") u) _ (or_right (is_front (codes "#u8") u) _ h))

-- what makes a numeral of a word with `#` is its second character
hash_numeral : (us y : List ℕ) → is_numeral (35 ∷ (us ++ y)) ≡ true → is_viable (35 ∷ us) ≡ true
unfolding is_numeral
hash_numeral [] y h = refl
hash_numeral (e ∷ es) y h = numeral_viable (35 ∷ e ∷ es) h

front_viable : (us y : List ℕ) → is_good (35 ∷ (us ++ y)) ≡ true → is_viable (35 ∷ us) ≡ true
front_viable us y h = elim (or_cases (spells (codes "#t") (35 ∷ (us ++ y)) || spells (codes "#true") (35 ∷ (us ++ y))) _ h) [
  | inl e ↦ elim (or_cases (spells (codes "#t") (35 ∷ (us ++ y))) (spells (codes "#true") (35 ∷ (us ++ y))) e) [
    | inl f ↦ true_viable (35 ∷ us) (front_longer (codes "#t") (codes "rue") (35 ∷ us) (front_spelled (codes "#t") (35 ∷ us) y (spells_is (codes "#t") (35 ∷ (us ++ y)) f)))
    | inr f ↦ true_viable (35 ∷ us) (front_spelled (codes "#true") (35 ∷ us) y (spells_is (codes "#true") (35 ∷ (us ++ y)) f))
  ]
  | inr e ↦ elim (or_cases (spells (codes "#f") (35 ∷ (us ++ y)) || spells (codes "#false") (35 ∷ (us ++ y))) _ e) [
    | inl f ↦ elim (or_cases (spells (codes "#f") (35 ∷ (us ++ y))) (spells (codes "#false") (35 ∷ (us ++ y))) f) [
      | inl g ↦ false_viable (35 ∷ us) (front_longer (codes "#f") (codes "alse") (35 ∷ us) (front_spelled (codes "#f") (35 ∷ us) y (spells_is (codes "#f") (35 ∷ (us ++ y)) g)))
      | inr g ↦ false_viable (35 ∷ us) (front_spelled (codes "#false") (35 ∷ us) y (spells_is (codes "#false") (35 ∷ (us ++ y)) g))
    ]
    | inr f ↦ hash_numeral us y f
  ]
]

bytes_front : (us y : List ℕ) → spells (codes "#u8") (35 ∷ (us ++ y)) ≡ true → is_viable (35 ∷ us) ≡ true
bytes_front us y h = bytes_viable (35 ∷ us) (front_spelled (codes "#u8") (35 ∷ us) y (spells_is (codes "#u8") (35 ∷ (us ++ y)) h))

true_inside : list_all is_inside (codes "#true") ≡ true
unfolding is_delimiter
true_inside = refl

false_inside : list_all is_inside (codes "#false") ≡ true
unfolding is_delimiter
false_inside = refl

bytes_inside : list_all is_inside (codes "#u8") ≡ true
unfolding is_delimiter
bytes_inside = refl

bytes_goes : (u more : List ℕ) → Spells (codes "#u8") (u ++ more) → Goes u
bytes_goes u more h = inr (
  more ++ 40 ∷ [],
  BytesParen,
  elim (u8_is (u ++ more) h) [
    | inl e ↦ inl (sym (append_assoc u more (40 ∷ [])) ∙ ap (λ (q : List ℕ). q ++ 40 ∷ []) e)
    | inr e ↦ inr (sym (append_assoc u more (40 ∷ [])) ∙ ap (λ (q : List ℕ). q ++ 40 ∷ []) e)
  ],
)

viable_goes : (u : List ℕ) → is_viable u ≡ true → list_all is_inside u ≡ true → Goes u
viable_goes u h i = elim (or_cases (is_front (codes "#true") u) _ h) [
  | inl e ↦ (let more = completed is_inside (codes "#true") u (refl, (refl, (refl, (refl, (refl, tt))))) true_inside e in
      inr (more.0, Atomic (Truth true), (inr more.1, (list_all_both is_inside u more.0 i more.2, tt))))
  | inr e ↦ elim (or_cases (is_front (codes "#false") u) _ e) [
    | inl f ↦ (let more = completed is_inside (codes "#false") u (refl, (refl, (refl, (refl, (refl, (refl, tt)))))) false_inside f in
        inr (more.0, Atomic (Truth false), (inr more.1, (list_all_both is_inside u more.0 i more.2, tt))))
    | inr f ↦ elim (or_cases (is_front (codes "#u8") u) _ f) [
      | inl g ↦ (let more = completed is_inside (codes "#u8") u (refl, (refl, (refl, tt))) bytes_inside g in bytes_goes u more.0 more.1)
      | inr g ↦ inr ([], Atomic (Numeral u), subst (λ (q : List ℕ). IsToken (Atomic (Numeral u)) q []) (sym (append-nil u)) (refl, test_numeral u g, (i, tt)))
    ]
  ]
]

bad_kind : (w : List ℕ) → is_good w ≡ false → hash_kind w ≡ Err bad_token
unfolding hash_kind
bad_kind w h =
    let parts = or_parts (spells (codes "#t") w || spells (codes "#true") w) _ h in
    let more = or_parts (spells (codes "#f") w || spells (codes "#false") w) (is_numeral w) parts.1 in
    cond-false (spells (codes "#t") w || spells (codes "#true") w) _ _ parts.0 ∙ cond-false (spells (codes "#f") w || spells (codes "#false") w) _ _ more.0 ∙ cond-false (is_numeral w) _ _ more.1

-- ---- bad words

-- a character that goes on a word behind `#`
pub record GoesOn (c : ℕ) : Type 0 where
  pub vector : (c == 40) ≡ false
  pub skip : (c == 59) ≡ false
  pub character : (c == 92) ≡ false
  pub directive : (c == 33) ≡ false
  pub label : is_ascii_digit c ≡ false
  pub comment : (c == 124) ≡ false

pub hash_step : (c : ℕ) (cs : List ℕ) → GoesOn c → token (35 ∷ c ∷ cs) ≡ hash_word (word_of (35 ∷ c ∷ cs)) (behind_word (35 ∷ c ∷ cs))
unfolding token hash_token
hash_step c cs h =
    cond-false (c == 40) _ _ h.vector ∙ cond-false (c == 59) _ _ h.skip ∙ cond-false (c == 92) _ _ h.character ∙ cond-false (c == 33) _ _ h.directive ∙ cond-false (is_ascii_digit c) _ _ h.label

no_bytes : (w rest : List ℕ) → spells (codes "#u8") w ≡ false → behind_bytes w rest ≡ None
no_bytes w [] h = refl
no_bytes w (c ∷ cs) h = cond-false (c == 40 && spells (codes "#u8") w) _ _ (and_right (c == 40) (spells (codes "#u8") w) h)

bad_word : (w rest : List ℕ) → behind_bytes w rest ≡ None → is_good w ≡ false → hash_word w rest ≡ Err bad_token
bad_word w rest e h = ap (λ (o : Option (List ℕ)). bytes_or o (before rest (hash_kind w))) e ∙ ap (before rest) (bad_kind w h)

-- what begins with characters that aren't viable is no token
not_viable : (us x : List ℕ) → list_all is_inside (35 ∷ us) ≡ true → is_viable (35 ∷ us) ≡ false → hash_word (word_of (35 ∷ us ++ x)) (behind_word (35 ∷ us ++ x)) ≡ Err bad_token
not_viable us x inside h =
    let w = 35 ∷ us ++ word_of x in
    (λ i. hash_word (front_more is_inside (35 ∷ us) x inside i) (behind_more is_inside (35 ∷ us) x inside i))
    ∙ bad_word w (behind_word x) (no_bytes w (behind_word x) (false_from_ne_true (spells (codes "#u8") w) (λ e. not_both (is_viable (35 ∷ us)) (bytes_front us (word_of x) e) h)))
    (false_from_ne_true (is_good w) (λ e. not_both (is_viable (35 ∷ us)) (front_viable us (word_of x) e) h))

-- the second character, of a word or of what follows it
abbrev Second : List ℕ → List ℕ → Type 0
Second [] [] = Unit {0}
Second [] (r ∷ rs) = GoesOn r
Second (c ∷ cs) rest = GoesOn c

step_of : (us : List ℕ) (r : ℕ) (rs : List ℕ) → Second us (r ∷ rs) → (x : List ℕ) → token (35 ∷ us ++ r ∷ x) ≡ hash_word (word_of (35 ∷ us ++ r ∷ x)) (behind_word (35 ∷ us ++ r ∷ x))
step_of [] r rs h x = hash_step r x h
step_of (c ∷ cs) r rs h x = hash_step c (cs ++ r ∷ x) h

none_when : (b : Bool) (rs x : List ℕ) → cond b (Some rs) None ≡ None → cond b (Some x) None ≡ None
none_when true rs x h = cc
none_when false rs x h = refl

-- whether a bytevector opens is told by the next character
same_none : (us : List ℕ) (r : ℕ) (rs x : List ℕ) → behind_bytes (35 ∷ us) (r ∷ rs) ≡ None → behind_bytes (35 ∷ us) (r ∷ x) ≡ None
same_none us r rs x h = none_when (r == 40 && spells (codes "#u8") (35 ∷ us)) rs x h

word_halts : (us rest : List ℕ) → Second us rest → IsWord (35 ∷ us) rest → behind_bytes (35 ∷ us) rest ≡ None → is_good (35 ∷ us) ≡ false → Halts (35 ∷ us) rest
word_halts us [] second word none bad = tt
word_halts us (r ∷ rs) second word none bad = λ x. (
  bad_token,
  step_of us r rs second x
      ∙ (λ i. hash_word (front-all is_inside (35 ∷ us) (r ∷ x) word.0 word.1 i) (behind-all is_inside (35 ∷ us) (r ∷ x) word.0 word.1 i))
      ∙ bad_word (35 ∷ us) (r ∷ x) (same_none us r rs x none) bad,
)

hash_why : (us rest : List ℕ) → Second us rest → bad_token ≡ because (35 ∷ us) rest
hash_why [] [] second = refl
hash_why [] (r ∷ rs) second = sym (cond-false (r == 33) _ _ second.directive ∙ cond-false (is_ascii_digit r) _ _ second.label)
hash_why (c ∷ cs) [] second = sym (cond-false (c == 124) _ _ second.comment)
hash_why (c ∷ cs) (r ∷ rs) second = refl

viable_hash : is_viable (35 ∷ []) ≡ true
viable_hash = refl

second_front : (fs : List ℕ) (e : ℕ) (more rest : List ℕ) → Second (fs ++ e ∷ more) rest → Second fs (e ∷ (more ++ rest))
second_front [] e more rest h = h
second_front (f ∷ fs) e more rest h = h

split_refused : (us rest front : List ℕ) (e : ℕ) (more : List ℕ) → Second us rest → list_all is_inside (35 ∷ us) ≡ true → 35 ∷ us ≡ front ++ e ∷ more → is_viable front ≡ true → is_viable (front ++ e ∷ []) ≡ false → Refused bad_token (35 ∷ us ++ rest)
split_refused us rest [] e more second inside whole v bad =
    absurd (not_both true refl (ap (λ (q : ℕ). is_viable (q ∷ [])) (cons_head 35 e us more whole) ∙ bad))
split_refused us rest (f ∷ fs) e more second inside whole v bad =
    let same = cons_head 35 f us (fs ++ e ∷ more) whole in
    let tail = cons_tail 35 f us (fs ++ e ∷ more) whole in
    let all = ap (λ (q : List ℕ). list_all is_inside (35 ∷ q)) (sym tail) ∙ inside in
    let here = second_front fs e more rest (subst (λ (q : List ℕ). Second q rest) tail second) in
    record {
      begun = 35 ∷ fs;
      behind = e ∷ (more ++ rest);
      whole = ap (λ (q : List ℕ). 35 ∷ q ++ rest) tail ∙ append_assoc (35 ∷ fs) (e ∷ more) rest;
      goes = viable_goes (35 ∷ fs) (ap (λ (q : ℕ). is_viable (q ∷ fs)) same ∙ v) (list_all_front is_inside (35 ∷ fs) (e ∷ more) all);
      halts = λ x. (
        bad_token,
        step_of fs e (more ++ rest) here x
            ∙ ap (λ (q : List ℕ). hash_word (word_of q) (behind_word q)) (sym (append_assoc (35 ∷ fs) (e ∷ []) x))
            ∙ not_viable (fs ++ e ∷ []) x (list_all_front is_inside (35 ∷ fs ++ e ∷ []) more (ap (list_all is_inside) (append_assoc (35 ∷ fs) (e ∷ []) more) ∙ all)) (ap (λ (q : ℕ). is_viable (q ∷ fs ++ e ∷ [])) same ∙ bad),
      );
      why = hash_why fs (e ∷ (more ++ rest)) here;
      no_hash = tt;
    }

-- a bad word is refused
bad_refused : (us rest : List ℕ) → Second us rest → IsWord (35 ∷ us) rest → behind_bytes (35 ∷ us) rest ≡ None → is_good (35 ∷ us) ≡ false → Refused bad_token (35 ∷ us ++ rest)
bad_refused us rest second word none bad = elim (scan_from is_viable [] (35 ∷ us) refl) [
  | inl v ↦ record {
    begun = 35 ∷ us;
    behind = rest;
    whole = refl;
    goes = viable_goes (35 ∷ us) v word.0;
    halts = word_halts us rest second word none bad;
    why = hash_why us rest second;
    no_hash = tt;
  }
  | inr h ↦ split_refused us rest h.0 h.1 h.2 second word.0 h.3 h.4 h.5
]

good_when : (w : List ℕ) (a b n : Bool) → (a || (b || n)) ≡ true → (k : TokenKind) × (cond a (Ok (Atomic (Truth true))) (cond b (Ok (Atomic (Truth false))) (cond n (Ok (Atomic (Numeral w))) (Err bad_token))) ≡ Ok k)
good_when w true b n h = (Atomic (Truth true), refl)
good_when w false true n h = (Atomic (Truth false), refl)
good_when w false false true h = (Atomic (Numeral w), refl)
good_when w false false false h = cc

good_kind : (w : List ℕ) → is_good w ≡ true → (k : TokenKind) × (hash_kind w ≡ Ok k)
unfolding hash_kind
good_kind w h = good_when w (spells (codes "#t") w || spells (codes "#true") w) (spells (codes "#f") w || spells (codes "#false") w) (is_numeral w) h

kind_when : (us rest : List ℕ) (good : Bool) → Second us rest → IsWord (35 ∷ us) rest → behind_bytes (35 ∷ us) rest ≡ None → is_good (35 ∷ us) ≡ good → OrRefused (35 ∷ us ++ rest) (before rest (hash_kind (35 ∷ us)))
kind_when us rest true second word none e =
    let k = good_kind (35 ∷ us) e in
    subst (OrRefused (35 ∷ us ++ rest)) (sym (ap (before rest) k.1)) tt
kind_when us rest false second word none e = subst (OrRefused (35 ∷ us ++ rest)) (sym (ap (before rest) (bad_kind (35 ∷ us) e))) (bad_refused us rest second word none e)

bytes_when : (us rest : List ℕ) (o : Option (List ℕ)) → behind_bytes (35 ∷ us) rest ≡ o → Second us rest → IsWord (35 ∷ us) rest → OrRefused (35 ∷ us ++ rest) (bytes_or o (before rest (hash_kind (35 ∷ us))))
bytes_when us rest (Some cs) e second word = tt
bytes_when us rest None e second word = kind_when us rest (is_good (35 ∷ us)) second word e refl

second_of : (c : ℕ) (cs : List ℕ) (b : Bool) → is_inside c ≡ b → GoesOn c → Second (cond b (c ∷ word_of cs) []) (cond b (behind_word cs) (c ∷ cs))
second_of c cs true e h = h
second_of c cs false e h = h

pub hash_refused : (c : ℕ) (cs : List ℕ) → GoesOn c → OrRefused (35 ∷ c ∷ cs) (hash_word (word_of (35 ∷ c ∷ cs)) (behind_word (35 ∷ c ∷ cs)))
hash_refused c cs h =
    let text = c ∷ cs in
    let word = front_of-cons is_inside 35 text hash_inside in
    let rest = cond-true (is_inside 35) (behind_word text) (35 ∷ text) hash_inside in
    let isword = subst (λ (q : List ℕ). IsWord q (behind_word (35 ∷ text))) word (a_word (35 ∷ text)) in
    let isword_here = subst (IsWord (35 ∷ word_of text)) rest isword in
    subst (λ (q : List ℕ). OrRefused q (hash_word (word_of (35 ∷ text)) (behind_word (35 ∷ text)))) (ap (λ (q : List ℕ). 35 ∷ q) (front-behind is_inside text))
    (subst (OrRefused (35 ∷ word_of text ++ behind_word text)) (λ i. hash_word (sym word i) (sym rest i))
    (bytes_when (word_of text) (behind_word text) (behind_bytes (35 ∷ word_of text) (behind_word text)) refl (second_of c cs (is_inside c) refl h) isword_here))
