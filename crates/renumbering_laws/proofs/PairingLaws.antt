-- A pairing is a renumbering with an inverse: it sends each first number to its second, and keeps what stands in no pair.
use Rattle.std.proofs.Common.{◌≡◌, ℕ, List, [], ◌∷◌, Bool, true, false, cond, refl, sym, ap, ◌∙◌, arith, eq-eqb}
use Rattle.std.specs.Prelude.{◌==◌}
use Rattle.std.proofs.lemmas.Bool.Decides.{nat_tests}
use Rattle.renumbering_laws.specs.Pairings.{swap, forth, back, Differ, ArePairs, IsAside, Sends}

itself : (a : ℕ) → (a == a) ≡ true
itself a = eq-eqb a a refl

turned : (a b : ℕ) → (a == b) ≡ false → (b == a) ≡ false
turned a b h = go (b == a) refl
  where
    go : (t : Bool) → (b == a) ≡ t → t ≡ false
    go false e = refl
    go true e = let q : b ≡ a = grind (arith, nat_tests) in let z : (a == b) ≡ true = ap (λ x. a == x) q ∙ itself a in let y : true ≡ false = sym z ∙ h in absurd cc

first_goes : (a b : ℕ) → swap a b a ≡ b
first_goes a b = ap (λ t. cond t b (cond (a == b) a a)) (itself a)

aside_stays : (a b n : ℕ) → (n == a) ≡ false → (n == b) ≡ false → swap a b n ≡ n
aside_stays a b n h k = (λ j. cond (h j) b (cond (k j) a n))

twice : (a b n : ℕ) → swap a b (swap a b n) ≡ n
twice a b n = go (n == a) refl
  where
    at_b : (t : Bool) → (n == b) ≡ t → (n == a) ≡ false → swap a b (cond t a n) ≡ n
    at_b true e d = first_goes a b ∙ (let q : b ≡ n = grind (arith, nat_tests) in q)
    at_b false e d = aside_stays a b n d e

    at_a : (b == a) ≡ (b == a) → n ≡ a → swap a b b ≡ n
    at_a e q = both (b == a) refl
      where
        both : (t : Bool) → (b == a) ≡ t → swap a b b ≡ n
        both true d = (λ j. cond (d j) b (cond (b == b) a b)) ∙ (let z : b ≡ a = grind (arith, nat_tests) in z) ∙ sym q
        both false d = (λ j. cond (d j) b (cond (itself b j) a b)) ∙ sym q

    go : (t : Bool) → (n == a) ≡ t → swap a b (swap a b n) ≡ n
    go true e = ap (λ t. swap a b (cond t b (cond (n == b) a n))) e ∙ at_a refl (let q : n ≡ a = grind (arith, nat_tests) in q)
    go false e = ap (λ t. swap a b (cond t b (cond (n == b) a n))) e ∙ at_b (n == b) refl e

pub back_forth : (ps : List (ℕ × ℕ)) (n : ℕ) → back ps (forth ps n) ≡ n
back_forth [] n = refl
back_forth (p ∷ ps) n = ap (back ps) (twice (forth ps p.0) p.1 (forth ps n)) ∙ back_forth ps n

pub forth_back : (ps : List (ℕ × ℕ)) (n : ℕ) → forth ps (back ps n) ≡ n
forth_back [] n = refl
forth_back (p ∷ ps) n = ap (swap (forth ps p.0) p.1) (forth_back ps (swap (forth ps p.0) p.1 n)) ∙ twice (forth ps p.0) p.1 n

-- what differs, differs after it
apart : (ps : List (ℕ × ℕ)) (m n : ℕ) → (m == n) ≡ false → (forth ps m == forth ps n) ≡ false
apart ps m n h = go (forth ps m == forth ps n) refl
  where
    go : (t : Bool) → (forth ps m == forth ps n) ≡ t → t ≡ false
    go false e = refl
    go true e =
        let q : forth ps m ≡ forth ps n = grind (arith, nat_tests) in let z : m ≡ n = sym (back_forth ps m) ∙ ap (back ps) q ∙ back_forth ps n in
        let y : true ≡ false = sym (ap (λ x. m == x) (sym z) ∙ itself m) ∙ h in absurd cc

pub keeps : (ps : List (ℕ × ℕ)) (n : ℕ) → IsAside n ps → forth ps n ≡ n
keeps [] n h = refl
keeps (p ∷ ps) n h =
    let rest = keeps ps n h.1.1 in
    let a : (n == forth ps p.0) ≡ false = ap (λ x. x == forth ps p.0) (sym rest) ∙ apart ps n p.0 h.0 in
    ap (swap (forth ps p.0) p.1) rest ∙ aside_stays (forth ps p.0) p.1 n a h.1.0

-- the pairs behind stay sent
still_sent : (p : ℕ × ℕ) (ps qs : List (ℕ × ℕ)) → Differ p qs → Sends (forth ps) qs → Sends (λ n. swap (forth ps p.0) p.1 (forth ps n)) qs
still_sent p ps [] d s = tt
still_sent p ps (q ∷ qs) d s =
    let a : (q.1 == forth ps p.0) ≡ false = ap (λ x. x == forth ps p.0) (sym s.0) ∙ apart ps q.0 p.0 d.0 in
    (ap (swap (forth ps p.0) p.1) s.0 ∙ aside_stays (forth ps p.0) p.1 q.1 a d.1.0, still_sent p ps qs d.1.1 s.1)

pub sends : (ps : List (ℕ × ℕ)) → ArePairs ps → Sends (forth ps) ps
sends [] h = tt
sends (p ∷ ps) h = (first_goes (forth ps p.0) p.1, still_sent p ps ps h.0 (sends ps h.1))
