-- Numbers in UTF-8, whether they are characters or not, are decoded to themselves.
use Rattle.std.proofs.Common.{◌≡◌, ℕ, zero, suc, ◌+◌, ◌-◌, ◌*◌, ◌/◌, ◌<◌, ◌≤◌, Bool, true, false, not, cond, ltb, T, ltb→lt, lt→ltb, nltb→le, List, [], ◌∷◌, ◌++◌, refl, sym, ap, ◌∙◌, subst, arith, inl, inr}
use Rattle.std.specs.Prelude.{◌⊎◌}
use Rattle.std.specs.Str.{chars, chars_after, continuation_len, lead_bits, encode_utf8_all}
use lib.Utf8.{encode, next}
use Rattle.scheme_tokens.specs.Symbols.{IsEncoded}

-- ---- the bytes of a number

abbrev Follows : ℕ → Type 0
Follows b = (128 ≤ b) × (b < 192)

taken : {X : Type 0} (y : Bool) (a b : X) → T y → cond y a b ≡ a
taken true a b t = refl
taken false a b t = absurd t

passed_by : {X : Type 0} (m n : ℕ) (a b : X) → n ≤ m → (y : Bool) → ltb m n ≡ y → cond y a b ≡ b
passed_by m n a b le true e = let lt : m < n = ltb→lt m n (subst T (sym e) tt) in absurd (omega (arith, lt, le))
passed_by m n a b le false e = refl

passed : {X : Type 0} (m n : ℕ) (a b : X) → n ≤ m → cond (ltb m n) a b ≡ b
passed m n a b le = passed_by m n a b le (ltb m n) refl

bytes_one : (c : ℕ) → c < 128 → encode c ≡ c ∷ []
unfolding encode
bytes_one c h = taken (ltb c 128) _ _ (lt→ltb c 128 h)

bytes_two : (c : ℕ) → 128 ≤ c → c < 2048 → encode c ≡ (192 + c / 64) ∷ next c ∷ []
unfolding encode
bytes_two c l h = passed c 128 _ _ l ∙ taken (ltb c 2048) _ _ (lt→ltb c 2048 h)

bytes_three : (c : ℕ) → 2048 ≤ c → c < 65536 → encode c ≡ (224 + c / 4096) ∷ next (c / 64) ∷ next c ∷ []
unfolding encode
bytes_three c l h = passed c 128 _ _ (omega arith) ∙ passed c 2048 _ _ l ∙ taken (ltb c 65536) _ _ (lt→ltb c 65536 h)

bytes_four : (c : ℕ) → 65536 ≤ c → encode c ≡ (240 + c / 262144) ∷ next (c / 4096) ∷ next (c / 64) ∷ next c ∷ []
unfolding encode
bytes_four c l = passed c 128 _ _ (omega arith) ∙ passed c 2048 _ _ (omega arith) ∙ passed c 65536 _ _ l

order_by : (m n : ℕ) (y : Bool) → ltb m n ≡ y → (m < n) ⊎ (n ≤ m)
order_by m n true e = inl (ltb→lt m n (subst T (sym e) tt))
order_by m n false e = inr (nltb→le m n (subst (λ (z : Bool). T (not z)) (sym e) tt))

order : (m n : ℕ) → (m < n) ⊎ (n ≤ m)
order m n = order_by m n (ltb m n) refl

-- ---- what they are decoded to

whole : (c : ℕ) (bs : List ℕ) → chars_after zero c bs ≡ c ∷ chars bs
unfolding chars
whole c [] = refl
whole c (b ∷ bs) = refl

led : (a n v : ℕ) (bs : List ℕ) → n ≡ continuation_len a → v ≡ lead_bits a → chars (a ∷ bs) ≡ chars_after n v bs
unfolding chars
led a n v bs p q = λ i. chars_after (sym p i) (sym q i) bs

-- one to four bytes, by the number that they are of
one : (c : ℕ) (rest : List ℕ) → c < 128 → chars (c ∷ rest) ≡ c ∷ chars rest
one c rest h = led c zero c rest (grind arith) (grind arith) ∙ whole c rest

two : (c a b : ℕ) (rest : List ℕ) → 192 ≤ a → a < 224 → Follows b → c + 12416 ≡ a * 64 + b → chars (a ∷ b ∷ rest) ≡ c ∷ chars rest
two c a b rest l h f s =
    let is : (a - 192) * 64 + (b - 128) ≡ c = omega (arith, f.0, s) in
    led a (suc zero) (a - 192) (b ∷ rest) (grind arith) (grind arith) ∙ whole _ rest ∙ ap (λ (x : ℕ). x ∷ chars rest) is

three : (c a b d : ℕ) (rest : List ℕ) → 224 ≤ a → a < 240 → Follows b → Follows d → c + 925824 ≡ a * 4096 + b * 64 + d → chars (a ∷ b ∷ d ∷ rest) ≡ c ∷ chars rest
three c a b d rest l h f g s =
    let is : ((a - 224) * 64 + (b - 128)) * 64 + (d - 128) ≡ c = omega (arith, f.0, g.0, s) in
    led a (suc (suc zero)) (a - 224) (b ∷ d ∷ rest) (grind arith) (grind arith) ∙ whole _ rest ∙ ap (λ (x : ℕ). x ∷ chars rest) is

four : (c a b d e : ℕ) (rest : List ℕ) → 240 ≤ a → Follows b → Follows d → Follows e → c + 63447168 ≡ a * 262144 + b * 4096 + d * 64 + e → chars (a ∷ b ∷ d ∷ e ∷ rest) ≡ c ∷ chars rest
four c a b d e rest l f g k s =
    let is : (((a - 240) * 64 + (b - 128)) * 64 + (d - 128)) * 64 + (e - 128) ≡ c = omega (arith, f.0, g.0, k.0, s) in
    led a (suc (suc (suc zero))) (a - 240) (b ∷ d ∷ e ∷ rest) (grind arith) (grind arith) ∙ whole _ rest ∙ ap (λ (x : ℕ). x ∷ chars rest) is

follows : (x : ℕ) → Follows (next x)
follows x = (omega arith, omega arith)

first_back : (c : ℕ) (rest : List ℕ) → chars (encode c ++ rest) ≡ c ∷ chars rest
first_back c rest = by (order c 128) (order c 2048) (order c 65536)
  where
    before : (p : List ℕ) → encode c ≡ p → chars (p ++ rest) ≡ c ∷ chars rest → chars (encode c ++ rest) ≡ c ∷ chars rest
    before p e h = ap (λ (q : List ℕ). chars (q ++ rest)) e ∙ h

    by : (c < 128) ⊎ (128 ≤ c) → (c < 2048) ⊎ (2048 ≤ c) → (c < 65536) ⊎ (65536 ≤ c) → chars (encode c ++ rest) ≡ c ∷ chars rest
    by (inl h) _ _ = before (c ∷ []) (bytes_one c h) (one c rest h)
    by (inr l) (inl h) _ = before ((192 + c / 64) ∷ next c ∷ []) (bytes_two c l h) (two c (192 + c / 64) (next c) rest (omega arith) (omega arith) (follows c) (omega arith))
    by (inr _) (inr l) (inl h) =
        before ((224 + c / 4096) ∷ next (c / 64) ∷ next c ∷ []) (bytes_three c l h)
        (three c (224 + c / 4096) (next (c / 64)) (next c) rest (omega arith) (omega arith) (follows (c / 64)) (follows c) (omega arith))
    by (inr _) (inr _) (inr l) =
        before ((240 + c / 262144) ∷ next (c / 4096) ∷ next (c / 64) ∷ next c ∷ []) (bytes_four c l)
        (four c (240 + c / 262144) (next (c / 4096)) (next (c / 64)) (next c) rest (omega arith) (follows (c / 4096)) (follows (c / 64)) (follows c) (omega arith))

no_chars : chars [] ≡ []
unfolding chars
no_chars = refl

pub chars_back : (cs : List ℕ) → chars (encode_utf8_all cs) ≡ cs
chars_back [] = no_chars
chars_back (c ∷ cs) = first_back c (encode_utf8_all cs) ∙ ap (λ (q : List ℕ). c ∷ q) (chars_back cs)

-- the bytes of any numbers
pub bytes_encoded : (cs : List ℕ) → IsEncoded (encode_utf8_all cs)
bytes_encoded cs = ap encode_utf8_all (sym (chars_back cs))

pub is_encoded : (s cs : List ℕ) → encode_utf8_all cs ≡ s → IsEncoded s
is_encoded s cs e = subst IsEncoded e (bytes_encoded cs)
