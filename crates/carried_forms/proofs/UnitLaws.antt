-- Units that go on are paired one to one, so no two units get one number.
use Rattle.std.proofs.Common.{◌≡◌, ℕ, suc, ◌≤◌, ◌<◌, List, [], ◌∷◌, ◌++◌, length, Bool, true, false, cond, Option, Some, None, refl, sym, ap, ◌∙◌, arith}
use Rattle.std.specs.Prelude.{not, ◌&&◌, ◌==◌}
use Rattle.std.specs.Str.{bytes_eq}
use Rattle.std.proofs.lemmas.Bool.{eqb-true}
use Rattle.std.proofs.lemmas.Slice.Eq.{bytes_eq-Decides}
use Rattle.scheme_model.specs.Requirements.{LibraryName, LibraryPart, Symbol, Digits, same_part, same_library}
use Rattle.scheme_model.specs.Matching.{same_truth}
use Rattle.scheme_model.specs.Program.{prelude_unit}
use Rattle.carried_forms.specs.Alike.{same_option}
use Rattle.carried_forms.specs.Paired.{UnitText, UnitPair, is_same_unit, IsAlone, AreTold, AreWithin, with_forms, form_pairs, pair_of, pairs_from, unit_pairs, prelude_pair, unit_after, renumbering}

-- ---- what tells a unit

both : (a b : Bool) → (a && b) ≡ true → (a ≡ true) × (b ≡ true)
both true true h = (refl, refl)
both true false h = absurd cc
both false b h = absurd cc

bytes_told : (s t : List ℕ) → bytes_eq s t ≡ true → s ≡ t
bytes_told s t = (bytes_eq-Decides s t).0

pub bytes_itself : (s : List ℕ) → bytes_eq s s ≡ true
bytes_itself s = (bytes_eq-Decides s s).1 refl

part_told : (p q : LibraryPart) → same_part p q ≡ true → p ≡ q
part_told (Symbol s) (Symbol t) h = ap Symbol (bytes_told s t h)
part_told (Symbol s) (Digits t) h = absurd cc
part_told (Digits s) (Symbol t) h = absurd cc
part_told (Digits s) (Digits t) h = ap Digits (bytes_told s t h)

part_itself : (p : LibraryPart) → same_part p p ≡ true
part_itself (Symbol s) = bytes_itself s
part_itself (Digits s) = bytes_itself s

library_told : (m n : LibraryName) → same_library m n ≡ true → m ≡ n
library_told [] [] h = refl
library_told [] (q ∷ qs) h = absurd cc
library_told (p ∷ ps) [] h = absurd cc
library_told (p ∷ ps) (q ∷ qs) h = let t = both (same_part p q) (same_library ps qs) h in (λ j. part_told p q t.0 j ∷ library_told ps qs t.1 j)

library_itself : (n : LibraryName) → same_library n n ≡ true
library_itself [] = refl
library_itself (p ∷ ps) = (λ j. part_itself p j && library_itself ps j)

name_told : (m n : Option LibraryName) → same_option same_library m n ≡ true → m ≡ n
name_told None None h = refl
name_told None (Some n) h = absurd cc
name_told (Some m) None h = absurd cc
name_told (Some m) (Some n) h = ap (λ (l : LibraryName). Some l) (library_told m n h)

name_itself : (n : Option LibraryName) → same_option same_library n n ≡ true
name_itself None = refl
name_itself (Some n) = library_itself n

truth_told : (a b : Bool) → same_truth a b ≡ true → a ≡ b
truth_told true true h = refl
truth_told true false h = absurd cc
truth_told false true h = absurd cc
truth_told false false h = refl

truth_itself : (a : Bool) → same_truth a a ≡ true
truth_itself true = refl
truth_itself false = refl

not_true : (b : Bool) → not b ≡ true → b ≡ false
not_true true h = absurd cc
not_true false h = refl

pub record SameKey (u v : UnitText) : Type 0 where
  pub here : u.broken ≡ false
  pub there : v.broken ≡ false
  pub uri : u.uri ≡ v.uri
  pub kind : u.is_library ≡ v.is_library
  pub name : u.name ≡ v.name

pub key_told : (u v : UnitText) → is_same_unit u v ≡ true → SameKey u v
key_told u v h =
    let a = both (not u.broken) (not v.broken && (bytes_eq u.uri v.uri && (same_truth u.is_library v.is_library && same_option same_library u.name v.name))) h in
    let b = both (not v.broken) (bytes_eq u.uri v.uri && (same_truth u.is_library v.is_library && same_option same_library u.name v.name)) a.1 in
    let c = both (bytes_eq u.uri v.uri) (same_truth u.is_library v.is_library && same_option same_library u.name v.name) b.1 in
    let d = both (same_truth u.is_library v.is_library) (same_option same_library u.name v.name) c.1 in
    record { here = not_true u.broken a.0; there = not_true v.broken b.0; uri = bytes_told u.uri v.uri c.0; kind = truth_told u.is_library v.is_library d.0; name = name_told u.name v.name d.1 }

pub by_key : (u v : UnitText) → SameKey u v → is_same_unit u v ≡ true
by_key u v k =
    (λ j. not (k.here j) && (not (k.there j) && (bytes_eq u.uri (sym k.uri j) && (same_truth u.is_library (sym k.kind j) && same_option same_library u.name (sym k.name j)))))
    ∙ (λ j. bytes_itself u.uri j && (truth_itself u.is_library j && name_itself u.name j))

-- units that are the same as one are the same
same_as_one : (u v w : UnitText) → is_same_unit u w ≡ true → is_same_unit v w ≡ true → is_same_unit u v ≡ true
same_as_one u v w h k =
    let a = key_told u w h in let b = key_told v w k in
    by_key u v (record { here = a.here; there = b.here; uri = a.uri ∙ sym b.uri; kind = a.kind ∙ sym b.kind; name = a.name ∙ sym b.name })

-- ---- numbers afterwards

abbrev Afters : (ℕ → Type 0) → List UnitPair → Type 0
Afters P [] = Unit {0}
Afters P (p ∷ ps) = P p.after × Afters P ps

afters_joined : (P : ℕ → Type 0) (ps qs : List UnitPair) → Afters P ps → Afters P qs → Afters P (ps ++ qs)
afters_joined P [] qs h k = k
afters_joined P (p ∷ ps) qs h k = (h.0, afters_joined P ps qs h.1 k)

afters_on : (P Q : ℕ → Type 0) → ((n : ℕ) → P n → Q n) → (ps : List UnitPair) → Afters P ps → Afters Q ps
afters_on P Q f [] h = tt
afters_on P Q f (p ∷ ps) h = (f p.after h.0, afters_on P Q f ps h.1)

one_after : (P : ℕ → Type 0) (b a size : ℕ) (fs : Option (List (ℕ × ℕ))) → P a → Afters P (with_forms b a size fs)
one_after P b a size None h = tt
one_after P b a size (Some fs) h = (h, tt)

least : (b : ℕ) (u : UnitText) (a : ℕ) (vs : List UnitText) → Afters (λ n. a ≤ n) (pair_of b u a vs)
least b u a [] = tt
least b u a (v ∷ vs) = go (is_same_unit u v) (pair_of b u (suc a) vs) (least b u (suc a) vs)
  where
    go : (t : Bool) (ps : List UnitPair) → Afters (λ n. suc a ≤ n) ps → Afters (λ n. a ≤ n) (cond t (with_forms b a (length v.forms) (form_pairs u.forms v.forms)) ps)
    go true ps h = one_after (λ n. a ≤ n) b a (length v.forms) (form_pairs u.forms v.forms) (omega arith)
    go false ps h = afters_on (λ n. suc a ≤ n) (λ n. a ≤ n) (λ n l. omega (arith, l)) ps h

-- no number is in both
abbrev Apart : List UnitPair → List UnitPair → Type 0
Apart ps qs = Afters (λ m. Afters (λ n. m ≡ n → ⊥) qs) ps

apart_units : (u w : UnitText) → is_same_unit u w ≡ false → (b c a : ℕ) (vs : List UnitText) → Apart (pair_of b u a vs) (pair_of c w a vs)
apart_units u w differ b c a [] = tt
apart_units u w differ b c a (v ∷ vs) =
    go (is_same_unit u v) (is_same_unit w v) refl refl (pair_of b u (suc a) vs) (pair_of c w (suc a) vs) (least b u (suc a) vs) (least c w (suc a) vs) (apart_units u w differ b c (suc a) vs)
  where
    go : (s t : Bool) → is_same_unit u v ≡ s → is_same_unit w v ≡ t → (ps qs : List UnitPair) → Afters (λ n. suc a ≤ n) ps → Afters (λ n. suc a ≤ n) qs → Apart ps qs →
        Apart (cond s (with_forms b a (length v.forms) (form_pairs u.forms v.forms)) ps) (cond t (with_forms c a (length v.forms) (form_pairs w.forms v.forms)) qs)
    go true true hs ht ps qs hp hq h = let e = same_as_one u w v hs ht in absurd cc
    go true false hs ht ps qs hp hq h = one_after (λ m. Afters (λ n. m ≡ n → ⊥) qs) b a (length v.forms) (form_pairs u.forms v.forms) (afters_on (λ n. suc a ≤ n) (λ n. a ≡ n → ⊥) (λ n l e. omega (arith, l, e)) qs hq)
    go false true hs ht ps qs hp hq h =
        afters_on (λ n. suc a ≤ n) (λ m. Afters (λ n. m ≡ n → ⊥) (with_forms c a (length v.forms) (form_pairs w.forms v.forms)))
        (λ m l. one_after (λ n. m ≡ n → ⊥) c a (length v.forms) (form_pairs w.forms v.forms) (λ e. omega (arith, l, e))) ps hp
    go false false hs ht ps qs hp hq h = h

apart_nothing : (ps : List UnitPair) → Apart ps []
apart_nothing [] = tt
apart_nothing (p ∷ ps) = (tt, apart_nothing ps)

apart_joined : (ps qs rs : List UnitPair) → Apart ps qs → Apart ps rs → Apart ps (qs ++ rs)
apart_joined [] qs rs h k = tt
apart_joined (p ∷ ps) qs rs h k = (afters_joined (λ n. p.after ≡ n → ⊥) qs rs h.0 k.0, apart_joined ps qs rs h.1 k.1)

apart_alone : (u : UnitText) (us vs : List UnitText) → IsAlone u us → (b c : ℕ) → Apart (pair_of b u 0 vs) (pairs_from c us vs)
apart_alone u [] vs h b c = apart_nothing (pair_of b u 0 vs)
apart_alone u (w ∷ us) vs h b c = apart_joined (pair_of b u 0 vs) (pair_of c w 0 vs) (pairs_from (suc c) us vs) (apart_units u w h.0 b c 0 vs) (apart_alone u us vs h.1 b (suc c))

-- ---- pairs whose numbers differ

abbrev Distinct : List UnitPair → Type 0
Distinct [] = Unit {0}
Distinct (p ∷ ps) = Afters (λ n. p.after ≡ n → ⊥) ps × Distinct ps

distinct_joined : (ps qs : List UnitPair) → Distinct ps → Distinct qs → Apart ps qs → Distinct (ps ++ qs)
distinct_joined [] qs h k a = k
distinct_joined (p ∷ ps) qs h k a = (afters_joined (λ n. p.after ≡ n → ⊥) ps qs h.0 a.0, distinct_joined ps qs h.1 k a.1)

one_distinct : (b a size : ℕ) (fs : Option (List (ℕ × ℕ))) → Distinct (with_forms b a size fs)
one_distinct b a size None = tt
one_distinct b a size (Some fs) = (tt, tt)

pair_distinct : (b : ℕ) (u : UnitText) (a : ℕ) (vs : List UnitText) → Distinct (pair_of b u a vs)
pair_distinct b u a [] = tt
pair_distinct b u a (v ∷ vs) = go (is_same_unit u v) (pair_of b u (suc a) vs) (pair_distinct b u (suc a) vs)
  where
    go : (t : Bool) (ps : List UnitPair) → Distinct ps → Distinct (cond t (with_forms b a (length v.forms) (form_pairs u.forms v.forms)) ps)
    go true ps h = one_distinct b a (length v.forms) (form_pairs u.forms v.forms)
    go false ps h = h

pairs_distinct : (b : ℕ) (us vs : List UnitText) → AreTold us → Distinct (pairs_from b us vs)
pairs_distinct b [] vs h = tt
pairs_distinct b (u ∷ us) vs h =
    distinct_joined (pair_of b u 0 vs) (pairs_from (suc b) us vs) (pair_distinct b u 0 vs) (pairs_distinct (suc b) us vs h.1) (apart_alone u us vs h.0 b (suc b))

-- ---- none is the prelude's, nor one that nothing has

within : (a : ℕ) (v : UnitText) → v.broken ≡ false → (prelude_unit ≤ a → v.broken ≡ true) → a < prelude_unit
within a v e h =
    let below : prelude_unit ≤ a → ⊥ = λ l. let t = h l in absurd cc in
    omega (arith, below)

pair_within : (b : ℕ) (u : UnitText) (a : ℕ) (vs : List UnitText) → AreWithin a vs → Afters (λ n. n < prelude_unit) (pair_of b u a vs)
pair_within b u a [] h = tt
pair_within b u a (v ∷ vs) h = go (is_same_unit u v) refl (pair_of b u (suc a) vs) (pair_within b u (suc a) vs h.1)
  where
    go : (t : Bool) → is_same_unit u v ≡ t → (ps : List UnitPair) → Afters (λ n. n < prelude_unit) ps →
        Afters (λ n. n < prelude_unit) (cond t (with_forms b a (length v.forms) (form_pairs u.forms v.forms)) ps)
    go true e ps k = one_after (λ n. n < prelude_unit) b a (length v.forms) (form_pairs u.forms v.forms) (within a v (key_told u v e).there h.0)
    go false e ps k = k

pairs_within : (b : ℕ) (us vs : List UnitText) → AreWithin 0 vs → Afters (λ n. n < prelude_unit) (pairs_from b us vs)
pairs_within b [] vs h = tt
pairs_within b (u ∷ us) vs h = afters_joined (λ n. n < prelude_unit) (pair_of b u 0 vs) (pairs_from (suc b) us vs) (pair_within b u 0 vs h) (pairs_within (suc b) us vs h)

-- ---- no two units get one number

elsewhere : (a : ℕ) → a < suc prelude_unit → (ps : List UnitPair) → Afters (λ n. a ≡ n → ⊥) ps → (u : ℕ) → unit_after ps u ≡ a → ⊥
elsewhere a l [] h u e = omega (arith, l, e)
elsewhere a l (p ∷ ps) h u e = go (p.before == u) (elsewhere a l ps h.1 u) e
  where
    go : {x : ℕ} (t : Bool) → (x ≡ a → ⊥) → cond t p.after x ≡ a → ⊥
    go true rest k = h.0 (sym k)
    go false rest k = rest k

one_number : (ps : List UnitPair) → Distinct ps → Afters (λ n. n < suc prelude_unit) ps → (u v : ℕ) → unit_after ps u ≡ unit_after ps v → u ≡ v
one_number [] d l u v e = omega (arith, e)
one_number (p ∷ ps) d l u v e = go (p.before == u) (p.before == v) refl refl (one_number ps d.1 l.1 u v) (elsewhere p.after l.0 ps d.0 u) (elsewhere p.after l.0 ps d.0 v) e
  where
    go : {x y : ℕ} (s t : Bool) → (p.before == u) ≡ s → (p.before == v) ≡ t → (x ≡ y → u ≡ v) → (x ≡ p.after → ⊥) → (y ≡ p.after → ⊥) → cond s p.after x ≡ cond t p.after y → u ≡ v
    go true true hs ht rest hx hy k = sym (eqb-true p.before u hs) ∙ eqb-true p.before v ht
    go true false hs ht rest hx hy k = absurd (hy (sym k))
    go false true hs ht rest hx hy k = absurd (hx k)
    go false false hs ht rest hx hy k = rest k

pub units_apart : (us vs : List UnitText) → AreTold us → AreWithin 0 vs → (u v : ℕ) → (renumbering (unit_pairs us vs)).unit u ≡ (renumbering (unit_pairs us vs)).unit v → u ≡ v
units_apart us vs h k u v e =
    let below = pairs_within 0 us vs k in
    one_number (prelude_pair ∷ unit_pairs us vs)
    (afters_on (λ n. n < prelude_unit) (λ n. prelude_unit ≡ n → ⊥) (λ n l q. omega (arith, l, q)) (unit_pairs us vs) below, pairs_distinct 0 us vs h)
    (omega arith, afters_on (λ n. n < prelude_unit) (λ n. n < suc prelude_unit) (λ n l. omega (arith, l)) (unit_pairs us vs) below) u v e
