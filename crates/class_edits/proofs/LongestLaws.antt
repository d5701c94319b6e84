-- The longest prefix of an identifier as classes tell it is the one that its new name has to keep.
use Rattle.std.proofs.Common.{◌≡◌, ℕ, List, [], ◌∷◌, ◌++◌, length, Bool, true, false, cond, refl, sym, ap, ◌∙◌, subst, append_assoc, append-nil}
use Rattle.std.specs.Prelude.{◌&&◌, ◌||◌}
use Rattle.std.specs.Cmp.{IsTotalOrder}
use Rattle.std.specs.Cmp.Lexicographic.{slice_cmp}
use Rattle.std.specs.Ordering.{nat_cmp, ordering_reverse, ordering_then, is_eq, is_lt}
use Rattle.std.specs.declared.cmp.Ordering.{Ordering}
use Rattle.std.specs.declared.cmp.Ordering.TheVariants.{Less, Equal, Greater}
use Rattle.std.proofs.lemmas.Cmp.{on_total, then_total, nat_cmp_total, nat_list_cmp_total}
use Rattle.scheme_model.specs.declared.Occ.{Occ}
use Rattle.scheme_model.specs.Spelling.{Link, prefixes_of}
use Rattle.program_leaves.proofs.KeyLaws.{numbers_equal}
use Rattle.program_answers.specs.Classed.{IsLongest, prefix_cmp}
use Rattle.program_answers.proofs.BytesLaws.{number_order, text_order}
use Rattle.program_answers.proofs.LongestLaws.{longest_new, longest_still}
use Rattle.text_edits.specs.Members.{is_shorter, longest, prefix_of}

-- ---- one test

shorter_is : (s t : List ℕ) → is_shorter s t ≡ is_lt (prefix_cmp s t)
shorter_is s t =
    (λ j. number_order.is (length s) (length t) j || (sym (numbers_equal (length s) (length t)) j && text_order.is s t j)) ∙ go (nat_cmp (length s) (length t)) (slice_cmp nat_cmp s t)
  where
    go : (c d : Ordering) → (is_lt c || (is_eq c && is_lt d)) ≡ is_lt (ordering_then c d)
    go Less d = refl
    go Equal d = refl
    go Greater d = refl

-- ---- the longest is one of them

longest_from : (seen ts : List (List ℕ)) (s : List ℕ) → IsLongest seen s → IsLongest (seen ++ ts) (longest s ts)
longest_from seen [] s h = subst (λ (us : List (List ℕ)). IsLongest us s) (sym (append-nil seen)) h
longest_from seen (t ∷ ts) s h = subst (λ (us : List (List ℕ)). IsLongest us (longest s (t ∷ ts))) (append_assoc seen (t ∷ []) ts) (go (longest_from (seen ++ t ∷ []) ts t) (longest_from (seen ++ t ∷ []) ts s) (is_shorter s t) refl)
  where
    go : (IsLongest (seen ++ t ∷ []) t → IsLongest ((seen ++ t ∷ []) ++ ts) (longest t ts)) → (IsLongest (seen ++ t ∷ []) s → IsLongest ((seen ++ t ∷ []) ++ ts) (longest s ts)) →
        (b : Bool) → is_shorter s t ≡ b → IsLongest ((seen ++ t ∷ []) ++ ts) (longest (cond b t s) ts)
    go new still true e = new (longest_new seen s t h (sym (shorter_is s t) ∙ e))
    go new still false e = still (longest_still seen s t h (sym (shorter_is s t) ∙ e))

-- ---- there is one alone

prefix_total : IsTotalOrder prefix_cmp
prefix_total = then_total (on_total (λ (s : List ℕ). length s) nat_cmp_total) nat_list_cmp_total

tied : (s u : List ℕ) → is_lt (prefix_cmp s u) ≡ false → is_lt (prefix_cmp u s) ≡ false → s ≡ u
tied s u h k = go (prefix_cmp s u) refl
  where
    second : (c d : Ordering) → ordering_then c d ≡ Equal → d ≡ Equal
    second Less d e = cc
    second Equal d e = e
    second Greater d e = cc

    go : (c : Ordering) → prefix_cmp s u ≡ c → s ≡ u
    go Less e = let never : true ≡ false = sym (ap is_lt e) ∙ h in cc
    go Equal e = text_order.one s u (second (nat_cmp (length s) (length u)) (slice_cmp nat_cmp s u) e)
    go Greater e =
        let turned : prefix_cmp u s ≡ Less = prefix_total.antisymm u s ∙ ap ordering_reverse e in
        let never : true ≡ false = sym (ap is_lt turned) ∙ k in cc

one_longest : (ts : List (List ℕ)) (s u : List ℕ) → IsLongest ts s → IsLongest ts u → s ≡ u
one_longest [] s u h k = h ∙ sym k
one_longest (t ∷ ts) s u h k = tied s u (h.1 u k.0) (k.1 s h.0)

pub longest_is : (ls : List Link) (at : Occ) (prefix : List ℕ) → IsLongest (prefixes_of ls at []) prefix → prefix ≡ prefix_of ls at
longest_is ls at prefix h = one_longest (prefixes_of ls at []) prefix (prefix_of ls at) h (longest_from [] (prefixes_of ls at []) [] refl)
