-- Partners one after another, and the points at a place of two lists.
use Rattle.std.proofs.Common.{◌≡◌, ℕ, zero, suc, ◌+◌, ◌<◌, ◌≤◌, List, [], ◌∷◌, ◌++◌, take, drop, length, get_or, Bool, true, false, cond, Some, refl, sym, ap, ◌∙◌, arith, add-one, append_assoc}
use Rattle.std.specs.Prelude.{◌&&◌, ◌||◌, ◌==◌, min}
use Rattle.std.specs.List.{zip}
use Rattle.std.specs.Ordering.{nat_cmp, is_eq}
use Rattle.std.proofs.lemmas.Bool.Decides.{nat_tests}
use Rattle.std.specs.Prelude.{slice_get}
use Rattle.std.specs.Str.{bytes_eq}
use Rattle.std.proofs.lemmas.Slice.Eq.{bytes_eq-Decides}
use Rattle.std.proofs.lemmas.Option.{same_Some}
use Rattle.syntax_tree.specs.Names.{Names, AreToldApart}
use Rattle.syntax_tree.specs.Meant.{IsSymbol}
use Rattle.scheme_model.specs.Identifiers.{Number, same_number}
use Rattle.rename_model.specs.SameProgram as same
use Rattle.core_tree.specs.Names.{AllMatch}
use Rattle.core_tree.specs.declared.cores.Binder.{Binder}
use Rattle.program_leaves.proofs.KeyLaws.{both_equal, numbers_equal}
use Rattle.alpha_equal.specs.Points.{locals_of}
use Rattle.alpha_equal.specs.Compared.{partners_cmp, local}

-- ---- partners

same_local : (u f a b : ℕ) → same_number (local u f a) (local u f b) ≡ (a == b)
same_local u f a b =
    let unit : (u == u) ≡ true = grind (arith, nat_tests) in
    let form : (f == f) ≡ true = grind (arith, nat_tests) in
    λ j. unit j && (form j && a == b)

or_assoc : (a b c : Bool) → ((a || b) || c) ≡ (a || (b || c))
or_assoc true b c = refl
or_assoc false b c = refl

partners_append : (ps qs : same.Partners) (v w : Number) → same.are_partners (ps ++ qs) v w ≡ (same.are_partners ps v w || same.are_partners qs v w)
partners_append [] qs v w = refl
partners_append (p ∷ ps) qs v w =
    ap (λ (b : Bool). (same_number p.0 v && same_number p.1 w) || b) (partners_append ps qs v w) ∙ sym (or_assoc (same_number p.0 v && same_number p.1 w) (same.are_partners ps v w) (same.are_partners qs v w))

or_of : (b x : Bool) → cond b true x ≡ (x || b)
or_of true true = refl
or_of true false = refl
or_of false true = refl
or_of false false = refl

or_swap : (a b : Bool) → (a || b) ≡ (b || a)
or_swap true true = refl
or_swap true false = refl
or_swap false true = refl
or_swap false false = refl

zip_more : (u f k : ℕ) (xs ys : List Binder) (d : Binder) → k < length xs → k < length ys →
    zip (locals_of u f (take (suc k) xs)) (locals_of u f (take (suc k) ys)) ≡ zip (locals_of u f (take k xs)) (locals_of u f (take k ys)) ++ (local u f (get_or xs k d).number, local u f (get_or ys k d).number) ∷ []
zip_more u f k [] ys d p q = absurd (omega (arith, p))
zip_more u f k (x ∷ xs) [] d p q = absurd (omega (arith, q))
zip_more u f zero (x ∷ xs) (y ∷ ys) d p q = refl
zip_more u f (suc k) (x ∷ xs) (y ∷ ys) d p q = ap (λ (ps : same.Partners). (local u f x.number, local u f y.number) ∷ ps) (zip_more u f k xs ys d (omega (arith, p)) (omega (arith, q)))

pub zip_all : (u f n : ℕ) (xs ys : List Binder) → min (length xs) (length ys) ≤ n → zip (locals_of u f (take n xs)) (locals_of u f (take n ys)) ≡ zip (locals_of u f xs) (locals_of u f ys)
zip_all u f zero [] ys le = refl
zip_all u f zero (x ∷ xs) [] le = refl
zip_all u f zero (x ∷ xs) (y ∷ ys) le = absurd (omega (arith, le))
zip_all u f (suc n) [] ys le = refl
zip_all u f (suc n) (x ∷ xs) [] le = refl
zip_all u f (suc n) (x ∷ xs) (y ∷ ys) le = ap (λ (ps : same.Partners). (local u f x.number, local u f y.number) ∷ ps) (zip_all u f n xs ys (omega (arith, le)))

pub pair_more : (u f k a b : ℕ) (xs ys : List Binder) (d : Binder) (ps : same.Partners) (old new : Bool) → k < length xs → k < length ys →
    old ≡ same.are_partners (zip (locals_of u f (take k xs)) (locals_of u f (take k ys)) ++ ps) (local u f a) (local u f b) →
    new ≡ cond (is_eq (partners_cmp (record { old = (get_or xs k d).number; new = (get_or ys k d).number }) (record { old = a; new = b }))) true old →
    new ≡ same.are_partners (zip (locals_of u f (take (k + 1) xs)) (locals_of u f (take (k + 1) ys)) ++ ps) (local u f a) (local u f b)
pair_more u f k a b xs ys d ps old new p q h n =
    let v = (get_or xs k d).number in
    let w = (get_or ys k d).number in
    let before = zip (locals_of u f (take k xs)) (locals_of u f (take k ys)) in
    let here : Bool = same_number (local u f v) (local u f a) && same_number (local u f w) (local u f b) in
    let key : is_eq (partners_cmp (record { old = v; new = w }) (record { old = a; new = b })) ≡ here =
    both_equal (nat_cmp v a) (nat_cmp w b) ∙ (λ j. numbers_equal v a j && numbers_equal w b j) ∙ sym (λ j. same_local u f v a j && same_local u f w b j) in
    let added : new ≡ (old || here) = n ∙ ap (λ (x : Bool). cond x true old) key ∙ or_of here old in
    let front = same.are_partners before (local u f a) (local u f b) in
    let rest = same.are_partners ps (local u f a) (local u f b) in
    added ∙ ap (λ (x : Bool). x || here) (h ∙ partners_append before ps (local u f a) (local u f b))
    ∙ or_assoc front rest here ∙ ap (λ (x : Bool). front || x) (or_swap rest here)
    ∙ sym (partners_append before ((local u f v, local u f w) ∷ ps) (local u f a) (local u f b))
    ∙ ap (λ (qs : same.Partners). same.are_partners qs (local u f a) (local u f b)) (sym (append_assoc before ((local u f v, local u f w) ∷ []) ps))
    ∙ ap (λ (qs : same.Partners). same.are_partners (qs ++ ps) (local u f a) (local u f b)) (sym (zip_more u f k xs ys d p q))
    ∙ ap (λ (m : ℕ). same.are_partners (zip (locals_of u f (take m xs)) (locals_of u f (take m ys)) ++ ps) (local u f a) (local u f b)) (sym (add-one k))

-- ---- what matches at a place

pub record At {X Y : Type 0} (P : X → Y → Type 0) (xs : List X) (ys : List Y) (k : ℕ) (d : X) : Type 0 where
  pub it : Y
  pub is : drop k ys ≡ it ∷ drop (suc k) ys
  pub holds : P (get_or xs k d) it

pub match_at : {X Y : Type 0} (P : X → Y → Type 0) (xs : List X) (ys : List Y) (k : ℕ) (d : X) → AllMatch P xs ys → k < length xs → At P xs ys k d
match_at P [] ys k d h lt = absurd (omega (arith, lt))
match_at P (x ∷ xs) [] k d h lt = absurd h
match_at P (x ∷ xs) (y ∷ ys) zero d h lt = record { it = y; is = refl; holds = h.0 }
match_at P (x ∷ xs) (y ∷ ys) (suc k) d h lt =
    let r = match_at P xs ys k d h.1 (omega (arith, lt)) in record { it = r.it; is = r.is; holds = r.holds }

pub match_past : {X Y : Type 0} (P : X → Y → Type 0) (xs : List X) (ys : List Y) (k : ℕ) → AllMatch P xs ys → length xs ≤ k → drop k ys ≡ []
match_past P [] [] zero h le = refl
match_past P [] [] (suc k) h le = refl
match_past P [] (y ∷ ys) k h le = absurd h
match_past P (x ∷ xs) [] k h le = absurd h
match_past P (x ∷ xs) (y ∷ ys) zero h le = absurd (omega (arith, le))
match_past P (x ∷ xs) (y ∷ ys) (suc k) h le = match_past P xs ys k h.1 (omega (arith, le))

-- ---- names

one_nat : (m n : ℕ) → (m == n) ≡ true → m ≡ n
one_nat m n h = grind (arith, nat_tests)

nat_itself : (m : ℕ) → (m == m) ≡ true
nat_itself m = grind (arith, nat_tests)

bytes_other : (s t : List ℕ) → (s ≡ t → ⊥) → bytes_eq s t ≡ false
bytes_other s t f = go (bytes_eq s t) refl
  where
    go : (b : Bool) → bytes_eq s t ≡ b → b ≡ false
    go true e = absurd (f ((bytes_eq-Decides s t).0 e))
    go false e = refl

-- names of one kind are the same where their symbols have one number
pub name_same : (names : Names) → AreToldApart names.symbols → (a b m n : ℕ) (s t : List ℕ) → IsSymbol names m s → IsSymbol names n t → a ≡ b →
    (m == n) ≡ bytes_eq (2 ∷ a ∷ s) (2 ∷ b ∷ t)
name_same names apart a b m n s t one other k = go (m == n) refl
  where
    within : {A : Type 0} (xs : List A) (i : ℕ) (x : A) → slice_get xs i ≡ Some x → i < length xs
    within [] i x e = absurd cc
    within (y ∷ ys) zero x e = omega arith
    within (y ∷ ys) (suc i) x e = let lt = within ys i x e in omega (arith, lt)

    go : (q : Bool) → (m == n) ≡ q → q ≡ bytes_eq (2 ∷ a ∷ s) (2 ∷ b ∷ t)
    go true e =
        let same_text : s ≡ t = same_Some s t (sym one ∙ ap (slice_get names.symbols) (one_nat m n e) ∙ other) in
        sym ((bytes_eq-Decides (2 ∷ a ∷ s) (2 ∷ b ∷ t)).1 (λ j. 2 ∷ k j ∷ same_text j))
    go false e = sym (bytes_other (2 ∷ a ∷ s) (2 ∷ b ∷ t) (λ (eq : 2 ∷ a ∷ s ≡ 2 ∷ b ∷ t).
        let texts : s ≡ t = cc in
        let same_place : m ≡ n = apart m n (within names.symbols m s one) (one ∙ ap Some texts ∙ sym other) in
        let itself : (m == n) ≡ true = ap (λ (x : ℕ). m == x) (sym same_place) ∙ nat_itself m in
        absurd cc))
