-- Live nodes are no fewer in a work that keeps its trees.
use Rattle.std.proofs.Common.{◌≡◌, ℕ, zero, suc, ◌-◌, ◌≤◌, ◌<◌, Bool, true, false, cond, List, [], ◌∷◌, map, length, Option, Some, None, refl, sym, ap, ◌∙◌, arith}
use Rattle.std.specs.Prelude.{is_some, ◌||◌}
use Rattle.std.specs.List.{list_any}
use Rattle.std.specs.FinMap as maps
use Rattle.std.specs.FinMap.{FinMap}
use Rattle.std.specs.Ordering.{nat_cmp, eq_by_cmp}
use Rattle.std.specs.Cmp.{nat_cmp_total, eq_by_cmp_equiv}
use Rattle.std.specs.Option.{option_map}
use Rattle.syntax_tree.specs.Nodes.{Lived}
use Rattle.syntax_tree.specs.Works.{KeepsTrees, live_count}
use Rattle.syntax_tree.specs.declared.trees.Work.{Work}

same_key : (k : ℕ) → eq_by_cmp nat_cmp k k ≡ true
same_key k = (eq_by_cmp_equiv nat_cmp_total).refl k

module _ {X : Type 0} where
  abbrev Has : FinMap nat_cmp X → ℕ → Type 0
  Has m k = is_some (maps.get m k) ≡ true

  key_in : (m : FinMap nat_cmp X) (n : ℕ) (es : List (ℕ × X)) → maps.entries m ≡ es → length es ≡ suc n → (k : ℕ) × Has m k
  key_in m n [] is long = absurd (omega arith)
  key_in m n (e ∷ es) is long =
      (e.0, maps.contains_key-keys m e.0 ∙ ap (λ xs. list_any (eq_by_cmp nat_cmp e.0) (map (λ (x : ℕ × X). x.0) xs)) is ∙ ap (λ b. b || list_any (eq_by_cmp nat_cmp e.0) (map (λ (x : ℕ × X). x.0) es)) (same_key e.0))

  a_key : (m : FinMap nat_cmp X) (n : ℕ) → maps.len m ≡ suc n → (k : ℕ) × Has m k
  a_key m n long = key_in m n (maps.entries m) refl (sym (maps.len-entries m) ∙ long)

  none_has : {P : Type 0} (m : FinMap nat_cmp X) (k : ℕ) → maps.len m ≡ 0 → Has m k → P
  none_has m k none has = absurd (cc (has, ap (λ (x : FinMap nat_cmp X). is_some (maps.get x k)) (maps.empty_of_len m none), ap is_some (maps.get-empty {X = X} nat_cmp k)))

  one_less : (m : FinMap nat_cmp X) (k : ℕ) → Has m k → maps.len (maps.remove m k) ≡ maps.len m - 1
  one_less m k has = maps.len-remove nat_cmp_total m k ∙ ap (λ b. cond b (maps.len m - 1) (maps.len m)) has

  left_has : (m n : FinMap nat_cmp X) (k q : ℕ) (b : Bool) → eq_by_cmp nat_cmp q k ≡ b → (Has m q → Has n q) → Has (maps.remove m k) q → Has (maps.remove n k) q
  left_has m n k q true is each has = absurd (cc (has, ap is_some (maps.get-remove nat_cmp_total m k q ∙ ap (λ b. cond b None (maps.get m q)) is)))
  left_has m n k q false is each has =
      ap is_some (maps.get-remove nat_cmp_total n k q ∙ ap (λ b. cond b None (maps.get n q)) is)
      ∙ each (sym (ap is_some (maps.get-remove nat_cmp_total m k q ∙ ap (λ b. cond b None (maps.get m q)) is)) ∙ has)

  some_len : (n : ℕ) (m : FinMap nat_cmp X) (k : ℕ) → maps.len m ≡ n → Has m k → 0 < n
  some_len zero m k is has = none_has m k is has
  some_len (suc n) m k is has = omega arith

  len_by : (c : ℕ) (m n : FinMap nat_cmp X) → maps.len m ≡ c → ((k : ℕ) → Has m k → Has n k) → maps.len m ≤ maps.len n
  len_by zero m n is each = omega (arith, is)
  len_by (suc c) m n is each =
      let f = a_key m c is in
      let k : ℕ = f.0 in
      let less : maps.len (maps.remove m k) ≡ maps.len m - 1 = one_less m k f.1 in
      let also : maps.len (maps.remove n k) ≡ maps.len n - 1 = one_less n k (each k f.1) in
      let some : 0 < maps.len n = some_len (maps.len n) n k refl (each k f.1) in
      let rest : maps.len (maps.remove m k) ≤ maps.len (maps.remove n k) = len_by c (maps.remove m k) (maps.remove n k) (omega (arith, less, is)) (λ q. left_has m n k q (eq_by_cmp nat_cmp q k) refl (each q)) in
      omega (arith, less, also, some, rest, is)

  pub len_le : (m n : FinMap nat_cmp X) → ((k : ℕ) → is_some (maps.get m k) ≡ true → is_some (maps.get n k) ≡ true) → maps.len m ≤ maps.len n
  len_le m n each = len_by (maps.len m) m n refl each

is_placed : (o p : Option Lived) → ((r : ℕ) → option_map (λ (l : Lived). l.region) o ≡ Some r → option_map (λ (l : Lived). l.region) p ≡ Some r) → is_some o ≡ true → is_some p ≡ true
is_placed None p keeps has = absurd cc
is_placed (Some l) None keeps has = absurd (cc (keeps l.region refl))
is_placed (Some l) (Some k) keeps has = refl

pub live_on : (old new : Work) → KeepsTrees old new → live_count old ≤ live_count new
live_on old new trees = len_le old.trees.nodes new.trees.nodes (λ k. is_placed (maps.get old.trees.nodes k) (maps.get new.trees.nodes k) (λ r. trees.places (record { number = k }) r))
