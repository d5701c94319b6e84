-- Where a character that is none stops.
use Rattle.std.proofs.Common.{◌≡◌, ℕ, ◌<◌, ◌≤◌, ◌+◌, ◌*◌, List, [], ◌∷◌, ◌++◌, Option, Some, None, Err, Bool, true, false, refl, sym, ap, ◌∙◌, subst, append_assoc, append-nil, arith, inl, inr, ◌==◌, ◌&&◌, ◌||◌}
use Rattle.std.specs.Prelude.{codes, nat_lt}
use Rattle.std.specs.List.{list_all, fold}
use Rattle.std.specs.Char.{to_ascii_lowercase, digit_value}
use Rattle.std.proofs.lemmas.Bool.{cond_both, or_cases, or_left, or_right, and_parts, and_from, eqb-true, eq-eqb, lt-ltb, ltb-true}
use Rattle.std.proofs.lemmas.Bool.Decides.{nat_tests}
use Rattle.scheme_tokens.specs.Lexical.{is_hex_digit, is_scalar, is_delimiter, IsWord, is_inside, Atomic, Character, hex_value, IsCode, IsCharacter, IsCharacterName}
use Rattle.scheme_tokens.specs.Faults.{bad_token}
use Rattle.scheme_tokens.specs.Stopping.{because}
use Rattle.scheme_tokens.specs.Mirror.Words.{word_of, behind_word}
use Rattle.scheme_tokens.specs.Mirror.Quoted.{hex_scalar}
use Rattle.scheme_tokens.specs.Mirror.Tokens.{token, hash_token, named, character_of, character, before, behind_hash_slash}
use Rattle.scheme_tokens.proofs.Fronts.{front-behind}
use Rattle.scheme_tokens.proofs.Same.Ends.{behind-all, front-all}
use Rattle.scheme_tokens.proofs.Same.Elements.{scalar_code}
use Rattle.scheme_tokens.proofs.Same.Words.{NameTold, named_told}
use Rattle.scheme_tokens.proofs.Same.Tokens.{a_word}
use Rattle.scheme_tokens.proofs.Same.Scanned.{cons_head, cons_tail, cons_none, list_all_front, list_all_behind, list_all_both, front_more, behind_more, scan_from, Goes, Halts, Refused}
use Rattle.scheme_tokens.proofs.Same.BadWords.{OrRefused}

not_both : (b : Bool) → b ≡ true → b ≡ false → ⊥
not_both b h k = cc

none_some : (n : ℕ) → None ≡ Some n → ⊥
none_some n e = cc

zero_inside : list_all is_inside (48 ∷ []) ≡ true
unfolding is_delimiter
zero_inside = refl

-- ---- codes that can go on

fold_more : (n : ℕ) (cs ds : List ℕ) → fold (λ n c. 16 * n + digit_value c) n (cs ++ ds) ≡ fold (λ n c. 16 * n + digit_value c) (fold (λ n c. 16 * n + digit_value c) n cs) ds
fold_more n [] ds = refl
fold_more n (c ∷ cs) ds = fold_more (16 * n + digit_value c) cs ds

fold_grows : (n : ℕ) (ds : List ℕ) → n ≤ fold (λ n c. 16 * n + digit_value c) n ds
fold_grows n [] = omega arith
fold_grows n (d ∷ ds) = let more = fold_grows (16 * n + digit_value d) ds in omega arith

-- more digits write no smaller number, and a `0` sixteen times as much
pub value_grows : (cs ds : List ℕ) → hex_value cs ≤ hex_value (cs ++ ds)
value_grows cs ds = let more = fold_grows (hex_value cs) ds in let e = fold_more 0 cs ds in omega (arith, more, e)

value_zero : (cs : List ℕ) → hex_value (cs ++ 48 ∷ []) ≡ 16 * hex_value cs
value_zero cs = let e = fold_more 0 cs (48 ∷ []) in omega (arith, e)

scalar_small : (n : ℕ) → is_scalar n ≡ true → n < 0x11_0000
scalar_small n h = grind (arith, nat_tests)

surrogate_grows : (n : ℕ) → is_scalar n ≡ false → n < 0x11_0000 → is_scalar (16 * n) ≡ true
surrogate_grows n h k = grind (arith, nat_tests)

some_more : (cs ds : List ℕ) (d : ℕ) → cs ++ d ∷ ds ≡ [] → ⊥
some_more [] ds d e = cons_none d ds e
some_more (c ∷ cs) ds d e = cons_none c (cs ++ d ∷ ds) e

hex_zero : is_hex_digit 48 ≡ true
hex_zero = refl

code_goes : (d : ℕ) (ds : List ℕ) (b : Bool) → is_scalar (hex_value (d ∷ ds)) ≡ b → list_all is_hex_digit (d ∷ ds) ≡ true → hex_value (d ∷ ds) < 0x11_0000 → (more : List ℕ) × (c : ℕ) × IsCode (d ∷ ds ++ more) c × (list_all is_inside more ≡ true)
code_goes d ds true e h k =
    ([], hex_value (d ∷ ds), subst (λ (q : List ℕ). IsCode q (hex_value (d ∷ ds))) (sym (append-nil (d ∷ ds))) (record { some = cons_none d ds; all = h; value = refl; scalar = e }), refl)
code_goes d ds false e h k =
    let n = 16 * hex_value (d ∷ ds) in (
      48 ∷ [],
      n,
      record {
        some = cons_none d (ds ++ 48 ∷ []);
        all = list_all_both is_hex_digit (d ∷ ds) (48 ∷ []) h refl;
        value = value_zero (d ∷ ds);
        scalar = surrogate_grows (hex_value (d ∷ ds)) e k;
      },
      zero_inside,
    )

-- hex digits that a character's code can begin with
pub digits_go : (digits : List ℕ) → list_all is_hex_digit digits ≡ true → hex_value digits < 0x11_0000 → (more : List ℕ) × (c : ℕ) × IsCode (digits ++ more) c × (list_all is_inside more ≡ true)
digits_go [] h k = (48 ∷ [], 0, record { some = cons_none 48 []; all = refl; value = refl; scalar = refl }, zero_inside)
digits_go (d ∷ ds) h k = code_goes d ds (is_scalar (hex_value (d ∷ ds))) refl h k

pub code_small : {digits : List ℕ} {c : ℕ} → IsCode digits c → hex_value digits < 0x11_0000
code_small {digits} {c} h = let small = scalar_small c h.scalar in omega (arith, small, h.value)

-- ---- names that can go on

abbrev is_head : List ℕ → List ℕ → Bool
is_head letters [] = true
is_head [] (c ∷ cs) = false
is_head (l ∷ ls) (c ∷ cs) = c == l && is_head ls cs

missing : (ls cs : List ℕ) → is_head ls cs ≡ true → (more : List ℕ) × (ls ≡ cs ++ more)
missing ls [] h = (ls, refl)
missing [] (c ∷ cs) h = cc
missing (l ∷ ls) (c ∷ cs) h =
    let parts = and_parts (c == l) (is_head ls cs) h in
    let more = missing ls cs parts.1 in
    (more.0, (λ i. sym (eqb-true c l parts.0) i ∷ more.1 i))

head_of : (ls cs more : List ℕ) → ls ≡ cs ++ more → is_head ls cs ≡ true
head_of ls [] more e = refl
head_of [] (c ∷ cs) more e = absurd (cons_none c (cs ++ more) (sym e))
head_of (l ∷ ls) (c ∷ cs) more e = and_from (c == l) (is_head ls cs) (eq-eqb c l (sym (cons_head l c ls (cs ++ more) e))) (head_of ls cs more (cons_tail l c ls (cs ++ more) e))

-- a front of some name
abbrev is_name_front : List ℕ → Bool
is_name_front u =
    is_head (codes "alarm") u || (is_head (codes "backspace") u || (is_head (codes "delete") u || (is_head (codes "escape") u || (is_head (codes "newline") u
    || (is_head (codes "null") u || (is_head (codes "return") u || (is_head (codes "space") u || is_head (codes "tab") u)))))))

-- some name begins so, and its letters are no delimiters
abbrev IsNameFront : List ℕ → Type 0
IsNameFront u = (more : List ℕ) × (c : ℕ) × IsCharacterName (u ++ more) c × (list_all is_inside more ≡ true)

name_front : (letters u : List ℕ) (c : ℕ) → IsCharacterName letters c → list_all is_inside letters ≡ true → is_head letters u ≡ true → IsNameFront u
name_front letters u c name inside h =
    let more = missing letters u h in
    (more.0, c, subst (λ (q : List ℕ). IsCharacterName q c) more.1 name, list_all_behind is_inside u more.0 (ap (list_all is_inside) (sym more.1) ∙ inside))

front_named : (u : List ℕ) → is_name_front u ≡ true → IsNameFront u
unfolding is_delimiter
front_named u h = elim (or_cases (is_head (codes "alarm") u) _ h) [
  | inl e ↦ name_front (codes "alarm") u 7 IsCharacterName.alarm refl e
  | inr a ↦ elim (or_cases (is_head (codes "backspace") u) _ a) [
    | inl e ↦ name_front (codes "backspace") u 8 IsCharacterName.backspace refl e
    | inr b ↦ elim (or_cases (is_head (codes "delete") u) _ b) [
      | inl e ↦ name_front (codes "delete") u 127 IsCharacterName.delete refl e
      | inr c ↦ elim (or_cases (is_head (codes "escape") u) _ c) [
        | inl e ↦ name_front (codes "escape") u 27 IsCharacterName.escape refl e
        | inr d ↦ elim (or_cases (is_head (codes "newline") u) _ d) [
          | inl e ↦ name_front (codes "newline") u 10 IsCharacterName.newline refl e
          | inr f ↦ elim (or_cases (is_head (codes "null") u) _ f) [
            | inl e ↦ name_front (codes "null") u 0 IsCharacterName.null refl e
            | inr g ↦ elim (or_cases (is_head (codes "return") u) _ g) [
              | inl e ↦ name_front (codes "return") u 13 IsCharacterName.return refl e
              | inr i ↦ elim (or_cases (is_head (codes "space") u) _ i) [
                | inl e ↦ name_front (codes "space") u 32 IsCharacterName.space refl e
                | inr j ↦ name_front (codes "tab") u 9 IsCharacterName.tab refl j
              ]
            ]
          ]
        ]
      ]
    ]
  ]
]

-- the place of a name among them
later : (a b : Bool) → b ≡ true → (a || b) ≡ true
later a b h = or_right a b h

named_front : {name : List ℕ} {c : ℕ} → IsCharacterName name c → (u more : List ℕ) → name ≡ u ++ more → is_name_front u ≡ true
named_front IsCharacterName.alarm u more e = or_left (is_head (codes "alarm") u) _ (head_of (codes "alarm") u more e)
named_front IsCharacterName.backspace u more e = later (is_head (codes "alarm") u) _ (or_left (is_head (codes "backspace") u) _ (head_of (codes "backspace") u more e))
named_front IsCharacterName.delete u more e = later (is_head (codes "alarm") u) _ (later (is_head (codes "backspace") u) _ (or_left (is_head (codes "delete") u) _ (head_of (codes "delete") u more e)))
named_front IsCharacterName.escape u more e =
    later (is_head (codes "alarm") u) _ (later (is_head (codes "backspace") u) _ (later (is_head (codes "delete") u) _ (or_left (is_head (codes "escape") u) _ (head_of (codes "escape") u more e))))
named_front IsCharacterName.newline u more e =
    later (is_head (codes "alarm") u) _ (later (is_head (codes "backspace") u) _ (later (is_head (codes "delete") u) _ (later (is_head (codes "escape") u) _ (or_left (is_head (codes "newline") u) _ (head_of (codes "newline") u more e)))))
named_front IsCharacterName.null u more e =
    later (is_head (codes "alarm") u) _ (later (is_head (codes "backspace") u) _ (later (is_head (codes "delete") u) _ (later (is_head (codes "escape") u) _ (later (is_head (codes "newline") u) _ (or_left (is_head (codes "null") u) _ (head_of (codes "null") u more e))))))
named_front IsCharacterName.return u more e =
    later (is_head (codes "alarm") u) _ (later (is_head (codes "backspace") u) _ (later (is_head (codes "delete") u) _ (later (is_head (codes "escape") u) _ (later (is_head (codes "newline") u) _ (later (is_head (codes "null") u) _ (or_left (is_head (codes "return") u) _ (head_of (codes "return") u more e)))))))
named_front IsCharacterName.space u more e =
    later (is_head (codes "alarm") u) _ (later (is_head (codes "backspace") u) _ (later (is_head (codes "delete") u) _ (later (is_head (codes "escape") u) _ (later (is_head (codes "newline") u) _ (later (is_head (codes "null") u) _ (later (is_head (codes "return") u) _
    (or_left (is_head (codes "space") u) _ (head_of (codes "space") u more e))))))))
named_front IsCharacterName.tab u more e =
    later (is_head (codes "alarm") u) _ (later (is_head (codes "backspace") u) _ (later (is_head (codes "delete") u) _ (later (is_head (codes "escape") u) _ (later (is_head (codes "newline") u) _ (later (is_head (codes "null") u) _ (later (is_head (codes "return") u) _
    (later (is_head (codes "space") u) _ (head_of (codes "tab") u more e))))))))

-- ---- what can go on behind `#\` and a character

abbrev is_code_front : ℕ → List ℕ → Bool
is_code_front c w = to_ascii_lowercase c == 120 && (list_all is_hex_digit w && nat_lt (hex_value w) 0x11_0000)

abbrev is_viable : ℕ → List ℕ → Bool
is_viable c [] = true
is_viable c (d ∷ ds) = is_code_front c (d ∷ ds) || is_name_front (c ∷ d ∷ ds)

viable_goes : (c : ℕ) (w : List ℕ) → is_viable c w ≡ true → list_all is_inside w ≡ true → Goes (35 ∷ 92 ∷ c ∷ w)
viable_goes c [] h i = inr ([], Atomic (Character c), (c, [], refl, IsCharacter.itself c, (refl, tt)))
viable_goes c (d ∷ ds) h i = elim (or_cases (is_code_front c (d ∷ ds)) _ h) [
  | inl e ↦ (let parts = and_parts (to_ascii_lowercase c == 120) _ e in
      let more = and_parts (list_all is_hex_digit (d ∷ ds)) _ parts.1 in
      let go = digits_go (d ∷ ds) more.0 (ltb-true (hex_value (d ∷ ds)) 0x11_0000 more.1) in
      inr (go.0, Atomic (Character go.1), (c, d ∷ ds ++ go.0, refl, IsCharacter.code c go.1 (d ∷ ds ++ go.0) (eqb-true (to_ascii_lowercase c) 120 parts.0) go.2, (list_all_both is_inside (d ∷ ds) go.0 i go.3, tt))))
  | inr e ↦ (let name = front_named (c ∷ d ∷ ds) e in
      inr (name.0, Atomic (Character name.1), (c, d ∷ ds ++ name.0, refl, IsCharacter.named (c ∷ d ∷ ds ++ name.0) name.1 name.2, (list_all_both is_inside (d ∷ ds) name.0 i name.3, tt))))
]

-- a character is told
abbrev Tells : Option ℕ → Type 0
Tells o = (m : ℕ) × (o ≡ Some m)

code_front : (c d : ℕ) (ds y : List ℕ) → (to_ascii_lowercase c == 120 && list_all is_hex_digit (d ∷ (ds ++ y))) ≡ true → Tells (hex_scalar (d ∷ (ds ++ y))) → is_viable c (d ∷ ds) ≡ true
code_front c d ds y h t =
    let parts = and_parts (to_ascii_lowercase c == 120) (list_all is_hex_digit (d ∷ (ds ++ y))) h in
    let small = code_small (scalar_code (d ∷ (ds ++ y)) t.0 parts.1 t.1) in
    let grows = value_grows (d ∷ ds) y in
    or_left (is_code_front c (d ∷ ds)) _ (and_from (to_ascii_lowercase c == 120) _ parts.0 (and_from (list_all is_hex_digit (d ∷ ds)) _ (list_all_front is_hex_digit (d ∷ ds) y parts.1) (lt-ltb (hex_value (d ∷ ds)) 0x11_0000 (omega (arith, small, grows)))))

name_viable : (c d : ℕ) (ds y : List ℕ) (o : Option ℕ) → NameTold (c ∷ d ∷ (ds ++ y)) o → Tells o → is_viable c (d ∷ ds) ≡ true
name_viable c d ds y None h t = absurd (none_some t.0 t.1)
name_viable c d ds y (Some m) h t = or_right (is_code_front c (d ∷ ds)) _ (named_front h (c ∷ d ∷ ds) y refl)

front_viable : (c : ℕ) (w y : List ℕ) → Tells (character_of c (w ++ y)) → is_viable c w ≡ true
unfolding character_of
front_viable c [] y t = refl
front_viable c (d ∷ ds) y t =
    cond_both (to_ascii_lowercase c == 120 && list_all is_hex_digit (d ∷ (ds ++ y))) _ _ (λ (o : Option ℕ). Tells o → is_viable c (d ∷ ds) ≡ true) (λ e u. code_front c d ds y e u)
    (λ _ u. name_viable c d ds y (named (c ∷ d ∷ (ds ++ y))) (named_told (c ∷ d ∷ (ds ++ y))) u) t

none_told : (c : ℕ) (w y : List ℕ) (o : Option ℕ) → character_of c (w ++ y) ≡ o → is_viable c w ≡ false → o ≡ None
none_told c w y None e h = refl
none_told c w y (Some m) e h = absurd (not_both (is_viable c w) (front_viable c w y (m, e)) h)

slash_step : (c : ℕ) (cs : List ℕ) → token (35 ∷ 92 ∷ c ∷ cs) ≡ before (behind_word cs) (character (character_of c (word_of cs)))
unfolding token hash_token
slash_step c cs = refl

no_character : (rest : List ℕ) (o : Option ℕ) → o ≡ None → before rest (character o) ≡ Err bad_token
no_character rest o e = ap (λ (q : Option ℕ). before rest (character q)) e

not_viable : (c : ℕ) (w x : List ℕ) → list_all is_inside w ≡ true → is_viable c w ≡ false → token (35 ∷ 92 ∷ c ∷ (w ++ x)) ≡ Err bad_token
not_viable c w x inside h =
    slash_step c (w ++ x)
    ∙ (λ i. before (behind_more is_inside w x inside i) (character (character_of c (front_more is_inside w x inside i))))
    ∙ no_character (behind_word x) (character_of c (w ++ word_of x)) (none_told c w (word_of x) (character_of c (w ++ word_of x)) refl h)

word_halts : (c : ℕ) (w rest : List ℕ) → IsWord w rest → character_of c w ≡ None → Halts (35 ∷ 92 ∷ c ∷ w) rest
word_halts c w [] word bad = tt
word_halts c w (r ∷ rs) word bad = λ x. (
  bad_token,
  slash_step c (w ++ r ∷ x) ∙ (λ i. before (behind-all is_inside w (r ∷ x) word.0 word.1 i) (character (character_of c (front-all is_inside w (r ∷ x) word.0 word.1 i)))) ∙ no_character (r ∷ x) (character_of c w) bad,
)

slash_why : (w rest : List ℕ) → bad_token ≡ because (35 ∷ 92 ∷ w) rest
slash_why w [] = refl
slash_why w (r ∷ rs) = refl

-- a bad word behind `#\` and a character is refused
bad_refused : (c : ℕ) (w rest : List ℕ) → IsWord w rest → character_of c w ≡ None → Refused bad_token (35 ∷ 92 ∷ c ∷ (w ++ rest))
bad_refused c w rest word bad = elim (scan_from (is_viable c) [] w refl) [
  | inl v ↦ record {
    begun = 35 ∷ 92 ∷ c ∷ w;
    behind = rest;
    whole = refl;
    goes = viable_goes c w v word.0;
    halts = word_halts c w rest word bad;
    why = slash_why (c ∷ w) rest;
    no_hash = tt;
  }
  | inr h ↦ (let front = h.0 in
      let all = ap (list_all is_inside) (sym h.3) ∙ word.0 in
      record {
        begun = 35 ∷ 92 ∷ c ∷ front;
        behind = h.1 ∷ (h.2 ++ rest);
        whole = ap (λ (q : List ℕ). 35 ∷ 92 ∷ c ∷ (q ++ rest)) h.3 ∙ ap (λ (q : List ℕ). 35 ∷ 92 ∷ c ∷ q) (append_assoc front (h.1 ∷ h.2) rest);
        goes = viable_goes c front h.4 (list_all_front is_inside front (h.1 ∷ h.2) all);
        halts = λ x. (
          bad_token,
          ap (λ (q : List ℕ). token (35 ∷ 92 ∷ c ∷ q)) (sym (append_assoc front (h.1 ∷ []) x))
              ∙ not_viable c (front ++ h.1 ∷ []) x (list_all_front is_inside (front ++ h.1 ∷ []) h.2 (ap (list_all is_inside) (append_assoc front (h.1 ∷ []) h.2) ∙ all)) h.5,
        );
        why = slash_why (c ∷ front) (h.1 ∷ (h.2 ++ rest));
        no_hash = tt;
      })
]

word_when : (c : ℕ) (w rest : List ℕ) (o : Option ℕ) → IsWord w rest → character_of c w ≡ o → OrRefused (35 ∷ 92 ∷ c ∷ (w ++ rest)) (before rest (character o))
word_when c w rest None word e = bad_refused c w rest word e
word_when c w rest (Some m) word e = tt

nothing_refused : Refused bad_token (35 ∷ 92 ∷ [])
nothing_refused = record {
  begun = 35 ∷ 92 ∷ [];
  behind = [];
  whole = refl;
  goes = inr (97 ∷ [], Atomic (Character 97), (97, [], refl, IsCharacter.itself 97, (refl, tt)));
  halts = tt;
  why = refl;
  no_hash = tt;
}

pub slash_refused : (cs : List ℕ) → OrRefused (35 ∷ 92 ∷ cs) (behind_hash_slash cs)
slash_refused [] = nothing_refused
slash_refused (c ∷ cs) =
    subst (λ (q : List ℕ). OrRefused (35 ∷ 92 ∷ c ∷ q) (before (behind_word cs) (character (character_of c (word_of cs))))) (front-behind is_inside cs)
    (word_when c (word_of cs) (behind_word cs) (character_of c (word_of cs)) (a_word cs) refl)
