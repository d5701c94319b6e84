-- The prefixes of an occurrence: they differ, so it has two different ones exactly where it has more than one; and which is the longest.
use Rattle.std.proofs.Common.{◌≡◌, ◌⊎◌, inl, inr, ℕ, suc, List, [], ◌∷◌, ◌++◌, length, Bool, true, false, cond, refl, sym, ap, ◌∙◌, arith}
use Rattle.std.specs.Prelude.{◌&&◌, ◌||◌, nat_lt, not}
use Rattle.std.specs.Cmp.{tied_itself}
use Rattle.std.specs.Ordering.{is_eq}
use Rattle.std.specs.Str.{bytes_eq}
use Rattle.std.proofs.lemmas.Bool.Decides.{nat_tests}
use Rattle.std.proofs.lemmas.Cmp.{nat_list_cmp_total}
use Rattle.scheme_model.specs.declared.Occ.{Occ}
use Rattle.scheme_model.specs.Entries.{same_occ}
use Rattle.scheme_model.specs.Spelling.{Link, has_prefix, prefixes_of}
use Rattle.program_leaves.specs.Members.{IsIn}
use Rattle.program_leaves.proofs.MemberLaws.{in_either}
use Rattle.arrow_index.proofs.ClassParts.{name_ties}

-- ---- they differ

abbrev pub AreDistinct : List (List ℕ) → Type 0
AreDistinct [] = Unit {0}
AreDistinct (t ∷ ts) = (IsIn t ts → ⊥) × AreDistinct ts

bytes_itself : (s : List ℕ) → bytes_eq s s ≡ true
bytes_itself s = name_ties s s ∙ ap is_eq (tied_itself nat_list_cmp_total s)

not_both : (b : Bool) → b ≡ true → b ≡ false → ⊥
not_both b h k = cc

first_not : (a b : Bool) → (a || b) ≡ false → a ≡ false
first_not true b h = cc
first_not false b h = refl

rest_not : (a b : Bool) → (a || b) ≡ false → b ≡ false
rest_not true b h = cc
rest_not false b h = h

one_more : (ts : List (List ℕ)) (s : List ℕ) → AreDistinct ts → has_prefix ts s ≡ false → AreDistinct (ts ++ s ∷ [])
one_more [] s d h = (λ i. i, tt)
one_more (t ∷ ts) s d h = (λ i. by_case (in_either t ts (s ∷ []) i), one_more ts s d.1 (rest_not (bytes_eq t s) (has_prefix ts s) h))
  where
    by_case : IsIn t ts ⊎ ((s ≡ t) ⊎ ⊥) → ⊥
    by_case (inl i) = d.0 i
    by_case (inr (inl e)) = not_both (bytes_eq t s) (ap (bytes_eq t) e ∙ bytes_itself t) (first_not (bytes_eq t s) (has_prefix ts s) h)
    by_case (inr (inr i)) = i

distinct_from : (ls : List Link) (o : Occ) (seen : List (List ℕ)) → AreDistinct seen → AreDistinct (prefixes_of ls o seen)
distinct_from [] o seen d = d
distinct_from (l ∷ ls) o seen d = by_test (λ more. distinct_from ls o (seen ++ l.prefix ∷ []) more) (distinct_from ls o seen d) (same_occ l.target o) (has_prefix seen l.prefix) refl
  where
    by_test : (AreDistinct (seen ++ l.prefix ∷ []) → AreDistinct (prefixes_of ls o (seen ++ l.prefix ∷ []))) → AreDistinct (prefixes_of ls o seen) → (a b : Bool) → has_prefix seen l.prefix ≡ b →
        AreDistinct (cond (a && not b) (prefixes_of ls o (seen ++ l.prefix ∷ [])) (prefixes_of ls o seen))
    by_test with_it without false b e = without
    by_test with_it without true true e = without
    by_test with_it without true false e = with_it (one_more seen l.prefix d e)

distinct : (ls : List Link) (o : Occ) → AreDistinct (prefixes_of ls o [])
distinct ls o = distinct_from ls o [] tt

-- ---- two of them

-- two different ones
pub record HasTwo (ts : List (List ℕ)) : Type 0 where
  pub one : List ℕ
  pub other : List ℕ
  pub one_in : IsIn one ts
  pub other_in : IsIn other ts
  pub differ : one ≡ other → ⊥

two_of : (ts : List (List ℕ)) → AreDistinct ts → nat_lt 1 (length ts) ≡ true → HasTwo ts
two_of [] d h = absurd (not_both (nat_lt 1 0) h refl)
two_of (s ∷ []) d h = absurd (not_both (nat_lt 1 1) h refl)
two_of (s ∷ t ∷ ts) d h = record { one = s; other = t; one_in = inl refl; other_in = inr (inl refl); differ = λ e. d.0 (inl (sym e)) }

pub has_two_of : (ls : List Link) (o : Occ) → nat_lt 1 (length (prefixes_of ls o [])) ≡ true → HasTwo (prefixes_of ls o [])
has_two_of ls o h = two_of (prefixes_of ls o []) (distinct ls o) h

pub one_of_one : (ts : List (List ℕ)) (s t : List ℕ) → nat_lt 1 (length ts) ≡ false → IsIn s ts → IsIn t ts → s ≡ t
one_of_one [] s t h i j = absurd i
one_of_one (u ∷ []) s t h (inl e) (inl f) = sym e ∙ f
one_of_one (u ∷ []) s t h (inl e) (inr j) = absurd j
one_of_one (u ∷ []) s t h (inr i) j = absurd i
one_of_one (u ∷ v ∷ ts) s t h i j = absurd (not_both (nat_lt 1 (suc (suc (length ts)))) (grind (arith, nat_tests)) h)

pub more_than_one : (ts : List (List ℕ)) → HasTwo ts → nat_lt 1 (length ts) ≡ true
more_than_one ts h = go (nat_lt 1 (length ts)) refl
  where
    go : (b : Bool) → nat_lt 1 (length ts) ≡ b → nat_lt 1 (length ts) ≡ true
    go true e = e
    go false e = absurd (h.differ (one_of_one ts h.one h.other e h.one_in h.other_in))
