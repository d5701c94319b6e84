-- The pairs of literals and identifiers that mean the same, by number.
use Rattle.std.proofs.Common.{◌≡◌, ℕ, zero, suc, ◌+◌, ◌<◌, length, take, get_or, Bool, true, false, ◌&&◌, ◌||◌, List, [], ◌∷◌, slice_get, Option, Some, None, refl, sym, ap, ◌∙◌, arith}
use Rattle.std.specs.Prelude.{nat_eq, if◌then◌else◌}
use Rattle.std.specs.declared.cmp.Ordering.{Ordering}
use Rattle.std.specs.declared.cmp.Ordering.TheVariants.{Less, Equal, Greater}
use Rattle.std.specs.Ordering.{nat_cmp, ordering_then, is_eq, MatchOrdering}
use Rattle.std.proofs.lemmas.Cmp.{ranked}
use Rattle.std.proofs.lemmas.Bool.Decides.{nat_tests}
use Rattle.rules_match.specs.Found.{pair_cmp}
use Rattle.std.specs.List.{list_any}
use Rattle.std.specs.Option.{option_map_or}
use Rattle.std.proofs.lemmas.Bool.{eqb-true}
use Rattle.scheme_model.specs.Trees.{Tree, name}
use Rattle.scheme_model.specs.ExpansionFaults.{named}
use Rattle.scheme_model.specs.RulesShape.{Role}
use Rattle.scheme_model.specs.declared.Occ.{Occ}
use Rattle.scheme_model.specs.Matching.{match_of, when, match_literal, match_name}
use Rattle.scheme_model.specs.Ident.{Ident as Identifier, same_ident}
use Rattle.syntax_tree.specs.Names.{Names, AreToldApart}
use Rattle.syntax_tree.specs.Macros.{IsIdent}
use Rattle.syntax_tree.specs.declared.trees.Work.{Work}
use Rattle.syntax_tree.specs.declared.rules.IdPair.{IdPair}
use Rattle.syntax_tree.proofs.RoleLaws.{same_by_number}
use Rattle.rules_match.specs.Matches.{is_ident, means_same}

or_if : (a b : Bool) → (a || b) ≡ (if a then true else b)
or_if true b = refl
or_if false b = refl

bool_false : (b : Bool) → (b ≡ true → ⊥) → b ≡ false
bool_false true h = absurd (h refl)
bool_false false h = refl

module _ (names : Names) (apart : AreToldApart names.idents) where
  at_number : (o : Option Identifier) (k n : ℕ) (i : Identifier) → slice_get names.idents k ≡ o → IsIdent names n i → nat_eq n k ≡ option_map_or (λ (j : Identifier). same_ident j i) o false
  at_number (Some j) k n i e h = sym (same_by_number names apart k n j i e h)
  at_number None k n i e h =
      bool_false (nat_eq n k)
      (λ g. let same = eqb-true n k g in
      let clash : None ≡ Some i = sym e ∙ ap (slice_get names.idents) (sym same) ∙ h in
      absurd cc)

  pub number_is : (k n : ℕ) (i : Identifier) → IsIdent names n i → nat_eq n k ≡ is_ident names k i
  number_is k n i h = at_number (slice_get names.idents k) k n i refl h

pub known_means : (work : Work) (apart : AreToldApart work.symbols.idents) (n m : ℕ) (i j : Identifier) → IsIdent work.symbols n i → IsIdent work.symbols m j → (pairs : List IdPair) →
    list_any (λ (p : IdPair). nat_eq n p.literal && nat_eq m p.ident) pairs ≡ means_same work pairs i j
known_means work apart n m i j h g [] = refl
known_means work apart n m i j h g (p ∷ ps) =
    let a = number_is work.symbols apart p.literal n i h in
    let b = number_is work.symbols apart p.ident m j g in
    let rest = known_means work apart n m i j h g ps in
    λ k. (a k && b k) || rest k

-- ---- literals

pub literal_is : (same : Identifier → Identifier → Bool) (i j : Identifier) (t : Tree Identifier) (o : Option Occ) (b : Bool) → t ≡ name j o → same i j ≡ b → match_literal same i t ≡ when b (match_of [] (named j o ∷ []))
literal_is same i j t o b e h = ap (match_literal same i) e ∙ ap (λ (x : Bool). when x (match_of [] (named j o ∷ []))) h

pub name_is : (same : Identifier → Identifier → Bool) (role known : Role) (i : Identifier) (t : Tree Identifier) → known ≡ role → match_name same known i t ≡ match_name same role i t
name_is same role known i t e = ap (λ (x : Role). match_name same x i t) e

-- ---- pairs as keys

key_by : (r s : Ordering) (a n b m : ℕ) → MatchOrdering r (a < n) (a ≡ n) (n < a) → MatchOrdering s (b < m) (b ≡ m) (m < b) → is_eq (ordering_then r s) ≡ (nat_eq n a && nat_eq m b)
key_by Less s a n b m h g = let e : nat_eq n a ≡ false = grind (arith, nat_tests) in ap (λ (x : Bool). x && nat_eq m b) (sym e)
key_by Greater s a n b m h g = let e : nat_eq n a ≡ false = grind (arith, nat_tests) in ap (λ (x : Bool). x && nat_eq m b) (sym e)
key_by Equal Less a n b m h g =
    let e : nat_eq n a ≡ true = grind (arith, nat_tests) in
    let f : nat_eq m b ≡ false = grind (arith, nat_tests) in
    λ k. sym e k && sym f k
key_by Equal Greater a n b m h g =
    let e : nat_eq n a ≡ true = grind (arith, nat_tests) in
    let f : nat_eq m b ≡ false = grind (arith, nat_tests) in
    λ k. sym e k && sym f k
key_by Equal Equal a n b m h g =
    let e : nat_eq n a ≡ true = grind (arith, nat_tests) in
    let f : nat_eq m b ≡ true = grind (arith, nat_tests) in
    λ k. sym e k && sym f k

pub key_is : (a b n m : ℕ) → is_eq (pair_cmp (a, b) (n, m)) ≡ (nat_eq n a && nat_eq m b)
key_is a b n m = key_by (nat_cmp a n) (nat_cmp b m) a n b m (ranked a n (nat_cmp a n) refl) (ranked b m (nat_cmp b m) refl)

-- one more pair
pub pairs_more : (pairs : List IdPair) (k : ℕ) (d : IdPair) (n m : ℕ) → k < length pairs →
    list_any (λ (p : IdPair). nat_eq n p.literal && nat_eq m p.ident) (take (k + 1) pairs)
    ≡ (if (nat_eq n (get_or pairs k d).literal && nat_eq m (get_or pairs k d).ident) then true else list_any (λ (p : IdPair). nat_eq n p.literal && nat_eq m p.ident) (take k pairs))
pairs_more [] k d n m h = absurd (omega arith)
pairs_more (p ∷ ps) zero d n m h = let e : 0 + 1 ≡ 1 = omega arith in or_if (nat_eq n p.literal && nat_eq m p.ident) false
pairs_more (p ∷ ps) (suc k) d n m h =
    let e : suc k + 1 ≡ suc (k + 1) = omega arith in
    let test = λ (q : IdPair). nat_eq n q.literal && nat_eq m q.ident in
    ap (λ x. list_any test (take x (p ∷ ps))) e ∙ ap (λ x. test p || x) (pairs_more ps k d n m (omega arith)) ∙ or_swap (test p) (test (get_or ps k d)) (list_any test (take k ps))
  where
    or_swap : (a b c : Bool) → (a || (if b then true else c)) ≡ (if b then true else (a || c))
    or_swap true true c = refl
    or_swap true false c = refl
    or_swap false b c = refl
