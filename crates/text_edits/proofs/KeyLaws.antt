-- Occurrences that are one as keys of maps, and maps of which the first name counts.
use Rattle.std.proofs.Common.{◌≡◌, ◌+◌, ◌<◌, ℕ, zero, suc, nat_lt, map, take, get_or, Bool, true, false, cond, length, List, [], ◌∷◌, ◌++◌, slice_get, Option, Some, None, refl, sym, ap, ◌∙◌, arith}
use Rattle.std.specs.Prelude.{◌&&◌, ◌==◌}
use Rattle.std.specs.Ordering.{nat_cmp, ordering_then, is_eq}
use Rattle.std.specs.declared.cmp.Ordering.{Ordering}
use Rattle.std.specs.declared.cmp.Ordering.TheVariants.{Less, Equal, Greater}
use Rattle.std.proofs.lemmas.Bool.Decides.{nat_tests}
use Rattle.scheme_model.specs.declared.Occ.{Occ}
use Rattle.scheme_model.specs.Entries.{same_occ}
use Rattle.scheme_model.specs.Sites.{or_else}
use Rattle.text_edits.specs.Members.{Identifier, behind, name_at, some_text, stem_of}
use Rattle.text_edits.specs.Views.{first_at, identifier_by, occ_cmp}
use Rattle.std.proofs.lemmas.Bool.{eqb-true}
use Rattle.std.proofs.lemmas.List.{map-append, take_more}
use Rattle.std.proofs.lemmas.Option.{slice_get_read}

both_equal : (a b : Ordering) → is_eq (ordering_then a b) ≡ (is_eq a && is_eq b)
both_equal Less b = refl
both_equal Equal b = refl
both_equal Greater b = refl

pub numbers_equal : (a b : ℕ) → is_eq (nat_cmp a b) ≡ (a == b)
numbers_equal a b = grind (arith, nat_tests)

pub occs_equal : (o p : Occ) → is_eq (occ_cmp o p) ≡ same_occ o p
occs_equal o p =
    both_equal (nat_cmp o.unit p.unit) (ordering_then (nat_cmp o.form p.form) (nat_cmp o.token p.token))
    ∙ (λ j. numbers_equal o.unit p.unit j && (both_equal (nat_cmp o.form p.form) (nat_cmp o.token p.token) ∙ (λ i. numbers_equal o.form p.form i && numbers_equal o.token p.token i)) j)

-- ---- the first counts

pub or_none : {A : Type 0} → (x : Option A) → or_else x None ≡ x
or_none None = refl
or_none (Some a) = refl

pub or_again : {A : Type 0} → (x y z : Option A) → or_else (or_else x y) z ≡ or_else x (or_else y z)
or_again None y z = refl
or_again (Some a) y z = refl

-- ---- names of tokens

pub name_more : (name : Occ → Option (List ℕ)) (is : List Identifier) (i : Identifier) (n : ℕ) →
    name_at name (is ++ i ∷ []) n ≡ or_else (name_at name is n) (cond (i.token == n) (name i.occ) None)
name_more name [] i n = or_none (cond (i.token == n) (name i.occ) None)
name_more name (j ∷ is) i n =
    ap (λ (q : Option (List ℕ)). or_else (cond (j.token == n) (name j.occ) None) q) (name_more name is i n)
    ∙ sym (or_again (cond (j.token == n) (name j.occ) None) (name_at name is n) (cond (i.token == n) (name i.occ) None))

-- ---- numbers at places

pub first_there : (xs : List ℕ) (n x : ℕ) → slice_get xs n ≡ Some x → x ≡ first_at xs n
first_there [] n x h = cc
first_there (y ∷ xs) zero x h = cc
first_there (y ∷ xs) (suc n) x h = first_there xs n x h

pub no_first : (xs : List ℕ) (n : ℕ) → slice_get xs n ≡ None → 0 ≡ first_at xs n
no_first [] n h = refl
no_first (y ∷ xs) zero h = cc
no_first (y ∷ xs) (suc n) h = no_first xs n h

-- ---- stems

one_number : (p : ℕ) → (p == p) ≡ true
one_number p = grind (arith, nat_tests)

behind_front : (p rest : List ℕ) → behind p (p ++ rest) ≡ Some rest
behind_front [] rest = refl
behind_front (p ∷ ps) rest = ap (λ (b : Bool). cond b (behind ps (ps ++ rest)) None) (one_number p) ∙ behind_front ps rest

chosen : (p c : ℕ) (ps cs rest : List ℕ) (b : Bool) → (p == c) ≡ b → cond b (behind ps cs) None ≡ Some rest → (behind ps cs ≡ Some rest → cs ≡ ps ++ rest) → c ∷ cs ≡ (p ∷ ps) ++ rest
chosen p c ps cs rest true e h ih = λ j. sym (eqb-true p c e) j ∷ ih h j
chosen p c ps cs rest false e h ih = cc

behind_splits : (p s rest : List ℕ) → behind p s ≡ Some rest → s ≡ p ++ rest
behind_splits [] s rest h = cc
behind_splits (p ∷ ps) [] rest h = cc
behind_splits (p ∷ ps) (c ∷ cs) rest h = chosen p c ps cs rest (p == c) refl h (behind_splits ps cs rest)

pub stem_there : (p s rest : List ℕ) → s ≡ p ++ rest → stem_of p s ≡ some_text (Some rest)
stem_there p s rest e = ap (stem_of p) e ∙ ap some_text (behind_front p rest)

pub no_stem : (p s : List ℕ) → ((rest : List ℕ) → s ≡ p ++ rest → ⊥) → stem_of p s ≡ None
no_stem p s h = go (behind p s) refl
  where
    go : (o : Option (List ℕ)) → behind p s ≡ o → some_text (behind p s) ≡ None
    go None e = ap some_text e
    go (Some rest) e = absurd (h rest (behind_splits p s rest e))

not_both : (b : Bool) → b ≡ true → b ≡ false → ⊥
not_both b h k = cc

pub not_zero : (n : ℕ) → (n == 0) ≡ false → n ≡ 0 → ⊥
not_zero n h e = not_both (n == 0) (ap (λ (m : ℕ). m == 0) e) h

pub some_stem : (rest : List ℕ) → (length rest ≡ 0 → ⊥) → some_text (Some rest) ≡ Some rest
some_stem [] h = absurd (h refl)
some_stem (c ∷ cs) h = refl

pub no_text : (rest : List ℕ) → length rest ≡ 0 → some_text (Some rest) ≡ None
no_text [] h = refl
no_text (c ∷ cs) h = cc

-- ---- entries of lists

pub get_none : (xs : List ℕ) (i : ℕ) → nat_lt i (length xs) ≡ false → slice_get xs i ≡ None
get_none [] i h = refl
get_none (x ∷ xs) zero h = absurd (grind (arith, nat_tests))
get_none (x ∷ xs) (suc i) h = get_none xs i (grind (arith, nat_tests))

pub get_some : (xs : List ℕ) (i : ℕ) (x : ℕ) → nat_lt i (length xs) ≡ true → x ≡ get_or xs i x → slice_get xs i ≡ Some x
get_some xs i x h e = slice_get_read xs (length xs) i x refl (grind (arith, nat_tests)) e

-- ---- identifiers one by one

names_next : (name : Occ → Option (List ℕ)) (firsts : List ℕ) (all : List Occ) (i n : ℕ) (d : Occ) → i < length all →
    name_at name (map (identifier_by firsts) (take (i + 1) all)) n
    ≡ or_else (name_at name (map (identifier_by firsts) (take i all)) n) (cond ((identifier_by firsts (get_or all i d)).token == n) (name (get_or all i d)) None)
names_next name firsts all i n d h =
    ap (λ (q : List Occ). name_at name (map (identifier_by firsts) q) n) (take_more all i d h)
    ∙ ap (λ (q : List Identifier). name_at name q n) (map-append (identifier_by firsts) (take i all) (get_or all i d ∷ []))
    ∙ name_more name (map (identifier_by firsts) (take i all)) (identifier_by firsts (get_or all i d)) n

-- what was there, then those gone through, then the next
pub noted_more : (name : Occ → Option (List ℕ)) (firsts : List ℕ) (all : List Occ) (i n : ℕ) (d : Occ) (old before new : Option (List ℕ)) → i < length all →
    before ≡ or_else old (name_at name (map (identifier_by firsts) (take i all)) n) →
    new ≡ or_else before (cond ((identifier_by firsts (get_or all i d)).token == n) (name (get_or all i d)) None) →
    new ≡ or_else old (name_at name (map (identifier_by firsts) (take (i + 1) all)) n)
noted_more name firsts all i n d old before new h b e =
    let now = name_at name (map (identifier_by firsts) (take i all)) n in
    let next = cond ((identifier_by firsts (get_or all i d)).token == n) (name (get_or all i d)) None in
    e ∙ ap (λ (q : Option (List ℕ)). or_else q next) b ∙ or_again old now next ∙ ap (or_else old) (sym (names_next name firsts all i n d h))
