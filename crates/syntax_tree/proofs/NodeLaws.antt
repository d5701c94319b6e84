-- The nodes as a map, without the measures that the pool keeps with them.
use Rattle.std.proofs.Common.{◌≡◌, ◌≢◌, ℕ, ◌+◌, ◌<◌, Bool, true, false, cond, Option, Some, None, refl, sym, ap, subst, ◌∙◌, inl, inr}
use Rattle.std.specs.Prelude.{◌⊎◌, is_some, IsSome}
use Rattle.std.specs.Option.{option_map}
use Rattle.std.specs.Ordering.{nat_cmp, eq_by_cmp}
use Rattle.std.specs.Cmp.{nat_cmp_total}
use Rattle.std.specs.FinMap as map
use Rattle.std.specs.FinMap.{get-insert, len-insert}
use Rattle.std.proofs.lemmas.Bool.{cases_eq}
use Rattle.std.proofs.lemmas.Option.{same_Some}
use Rattle.node_pool.specs.NodePool as pool
use Rattle.node_pool.specs.Pools.{HasRanks}
use Rattle.node_pool.proofs.MapLaws.{tied, apart, holds}
use Rattle.node_pool.proofs.BackLaws.{get_back}
use Rattle.syntax_tree.specs.Nodes.{Shape, Lived, Nodes, shape_at, IsPut, back_to}
use Rattle.syntax_tree.specs.Kept.{shape_of, KeptNodes, lived_as, nodes_of}
use Rattle.syntax_tree.specs.declared.trees.measures.Kept.{Kept}
use Rattle.syntax_tree.proofs.Places.{none_some}
use Rattle.syntax_tree.proofs.SeenLaws.{same_finite, get_seen, len_seen, seen_at, seen_insert, found_seen}

pub map_some : {A B : Type 0} (f : A → B) (o : Option A) (y : B) → option_map f o ≡ Some y → (x : A) × (o ≡ Some x) × (f x ≡ y)
map_some f None y h = none_some y h
map_some f (Some x) y h = (x, refl, same_Some (f x) y h)

-- ---- a node that is put

module _ {N : Type 0} (old new : pool.Nodes N) (n : ℕ) (l : pool.Lived N) (h : IsPut old new n l) where
  got : (m : ℕ) → map.get new m ≡ cond (eq_by_cmp nat_cmp m n) (Some l) (map.get old m)
  got m = ap (λ (nodes : pool.Nodes N). map.get nodes m) h.put ∙ get-insert nat_cmp_total old n l m

  pub put_there : map.get new n ≡ Some l
  put_there = got n ∙ ap (λ (b : Bool). cond b (Some l) (map.get old n)) (tied n)

  pub put_other : (m : ℕ) → m ≢ n → map.get new m ≡ map.get old m
  put_other m ne = got m ∙ ap (λ (b : Bool). cond b (Some l) (map.get old m)) (apart m n ne)

  clash : (m : ℕ) (x : pool.Lived N) → map.get old m ≡ Some x → m ≢ n
  clash m x at e = none_some x (sym h.free ∙ ap (map.get old) (sym e) ∙ at)

  -- what lived lives on
  pub put_keeps : (m : ℕ) (x : pool.Lived N) → map.get old m ≡ Some x → map.get new m ≡ Some x
  put_keeps m x at = put_other m (clash m x at) ∙ at

  -- each node that lives did so before, or is the one that was put
  pub put_cases : (m : ℕ) (x : pool.Lived N) → map.get new m ≡ Some x → (map.get old m ≡ Some x) ⊎ ((m ≡ n) × (x ≡ l))
  put_cases m x at =
      elim (cases_eq m n) [
        | inl e ↦ inr (e, same_Some x l (sym at ∙ ap (map.get new) e ∙ put_there))
        | inr ne ↦ inl (sym (put_other m ne) ∙ at)
      ]

  pub put_counts : map.len new ≡ map.len old + 1
  put_counts = ap (λ (nodes : pool.Nodes N). map.len nodes) h.put ∙ len-insert nat_cmp_total old n l ∙ ap (λ (o : Option (pool.Lived N)). cond (is_some o) (map.len old) (map.len old + 1)) h.free

-- ---- the nodes of the pool

-- a node that lives has measures
pub kept_at : (ns : KeptNodes) (n : ℕ) (s : Shape) → shape_at (nodes_of ns) n ≡ Some s → (k : pool.Lived Kept) × (map.get ns n ≡ Some k) × (shape_of k.node.node ≡ s)
kept_at ns n s h =
    let p = map_some (λ (l : Lived). l.node) (map.get (nodes_of ns) n) s h in
    let q = found_seen lived_as ns n p.0 p.1 in
    (q.0, q.1, ap (λ (l : Lived). l.node) q.2 ∙ p.2)

pub lived_at : (ns : KeptNodes) (n : ℕ) (k : pool.Lived Kept) → map.get ns n ≡ Some k → map.get (nodes_of ns) n ≡ Some (lived_as n k)
lived_at ns n k h = seen_at lived_as ns n k h

pub is_kept : (ns : KeptNodes) (n : ℕ) → IsSome (map.get (nodes_of ns) n) → (k : pool.Lived Kept) × (map.get ns n ≡ Some k)
is_kept ns n h =
    let p = holds (map.get (nodes_of ns) n) h in
    let q = found_seen lived_as ns n p.0 p.1 in
    (q.0, q.1)

-- to put a node into the pool is to put it
pub put_seen : (old new : KeptNodes) (n : ℕ) (k : pool.Lived Kept) → IsPut old new n k → IsPut (nodes_of old) (nodes_of new) n (lived_as n k)
put_seen old new n k put = record {
  free = get_seen lived_as old n ∙ ap (option_map (lived_as n)) put.free;
  put = ap (λ (x : KeptNodes). nodes_of x) put.put ∙ seen_insert lived_as old n k;
}

-- and where a region goes back, the same nodes go
pub back_seen : (ns : KeptNodes) (r count : ℕ) → nodes_of (back_to ns r count) ≡ back_to (nodes_of ns) r count
back_seen ns r count = same_finite (nodes_of (back_to ns r count)) (back_to (nodes_of ns) r count) (λ q. by_node q (map.get ns q) refl)
  where
    stay : (o : Option (pool.Lived Kept)) (q : ℕ) → pool.stays r count (option_map (lived_as q) o) ≡ pool.stays r count o
    stay None q = refl
    stay (Some k) q = refl

    kept : (b : Bool) (o : Option (pool.Lived Kept)) (q : ℕ) → option_map (lived_as q) (cond b o None) ≡ cond b (option_map (lived_as q) o) None
    kept true o q = refl
    kept false o q = refl

    by_node : (q : ℕ) (o : Option (pool.Lived Kept)) → map.get ns q ≡ o → map.get (nodes_of (back_to ns r count)) q ≡ map.get (back_to (nodes_of ns) r count) q
    by_node q o e =
        let there : map.get (nodes_of ns) q ≡ option_map (lived_as q) o = get_seen lived_as ns q ∙ ap (option_map (lived_as q)) e in
        get_seen lived_as (back_to ns r count) q
        ∙ ap (option_map (lived_as q)) (get_back ns r count q ∙ ap (λ (x : Option (pool.Lived Kept)). cond (pool.stays r count x) x None) e)
        ∙ kept (pool.stays r count o) o q
        ∙ ap (λ (b : Bool). cond b (option_map (lived_as q) o) None) (sym (stay o q))
        ∙ sym (get_back (nodes_of ns) r count q ∙ ap (λ (x : Option Lived). cond (pool.stays r count x) x None) there)

-- the nodes of a region have the ranks that they have in the pool
pub ranks_seen : (ns : KeptNodes) (r count : ℕ) → HasRanks ns r count → HasRanks (nodes_of ns) r count
ranks_seen ns r count has = record {
  below = λ n l at e.
      let q = found_seen lived_as ns n l at in
      let lt = has.below n q.0 q.1 (ap (λ (x : Lived). x.region) q.2 ∙ e) in
      subst (λ (x : Lived). x.rank < count) q.2 lt;
  taken = λ rank lt.
      let p = has.taken rank lt in
      (p.0, lived_as p.0 p.1, lived_at ns p.0 p.1 p.2, p.3, p.4);
  once = λ a b k l at_a at_b ea eb same.
      let p = found_seen lived_as ns a k at_a in
      let q = found_seen lived_as ns b l at_b in
      has.once a b p.0 q.0 p.1 q.1 (ap (λ (x : Lived). x.region) p.2 ∙ ea) (ap (λ (x : Lived). x.region) q.2 ∙ eb)
      (ap (λ (x : Lived). x.rank) p.2 ∙ same ∙ sym (ap (λ (x : Lived). x.rank) q.2));
}

pub count_seen : (ns : KeptNodes) → map.len (nodes_of ns) ≡ map.len ns
count_seen ns = len_seen lived_as ns
