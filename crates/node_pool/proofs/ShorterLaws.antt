-- A region that loses its last nodes one by one comes to where it goes back at once.
use Rattle.std.proofs.Common.{◌≡◌, ◌≢◌, ◌⊎◌, ℕ, ◌+◌, Bool, true, cond, Some, None, refl, sym, ap, ◌∙◌, inl, inr, arith}
use Rattle.std.specs.Ordering.{nat_cmp, eq_by_cmp}
use Rattle.std.specs.Cmp.{nat_cmp_total}
use Rattle.std.specs.FinMap as map
use Rattle.std.specs.FinMap.{get-insert, get-remove, same_map, nat_cmp-IsAntisymmetric}
use Rattle.std.proofs.lemmas.Bool.{cases_eq}
use Rattle.std.proofs.lemmas.Option.{same_Some}
use Rattle.node_pool.specs.NodePool.{Nodes, NodePool, back_to}
use Rattle.node_pool.specs.Pools.{HasRanks}
use Rattle.node_pool.proofs.MapLaws.{tied, apart}
use Rattle.node_pool.proofs.BackLaws.{back_again, back_all}

-- ---- numbers under keys

module _ {X : Type 0} (m : map.FinMap nat_cmp X) (k : ℕ) where
  pub got_here : (v : X) → map.get (map.insert m k v) k ≡ Some v
  got_here v = get-insert nat_cmp_total m k v k ∙ ap (λ (b : Bool). cond b (Some v) (map.get m k)) (tied k)

  pub got_there : (v : X) (q : ℕ) → q ≢ k → map.get (map.insert m k v) q ≡ map.get m q
  got_there v q ne = get-insert nat_cmp_total m k v q ∙ ap (λ (b : Bool). cond b (Some v) (map.get m q)) (apart q k ne)

module _ {X : Type 0} where
  at_key : (m : map.FinMap nat_cmp X) (k q : ℕ) → q ≡ k → (v : X) → map.get (map.insert m k v) q ≡ Some v
  at_key m k q e v = ap (map.get (map.insert m k v)) e ∙ got_here m k v

  pub insert_twice : (m : map.FinMap nat_cmp X) (k : ℕ) (v w : X) → map.insert (map.insert m k v) k w ≡ map.insert m k w
  insert_twice m k v w = same_map nat_cmp_total nat_cmp-IsAntisymmetric (map.insert (map.insert m k v) k w) (map.insert m k w) (λ q. got q (cases_eq q k))
    where
      got : (q : ℕ) → (q ≡ k) ⊎ (q ≢ k) → map.get (map.insert (map.insert m k v) k w) q ≡ map.get (map.insert m k w) q
      got q (inl e) = at_key (map.insert m k v) k q e w ∙ sym (at_key m k q e w)
      got q (inr ne) = got_there (map.insert m k v) k w q ne ∙ got_there m k v q ne ∙ sym (got_there m k w q ne)

  pub insert_same : (m : map.FinMap nat_cmp X) (k : ℕ) (v : X) → map.get m k ≡ Some v → map.insert m k v ≡ m
  insert_same m k v is = same_map nat_cmp_total nat_cmp-IsAntisymmetric (map.insert m k v) m (λ q. got q (cases_eq q k))
    where
      got : (q : ℕ) → (q ≡ k) ⊎ (q ≢ k) → map.get (map.insert m k v) q ≡ map.get m q
      got q (inl e) = at_key m k q e v ∙ sym is ∙ ap (map.get m) (sym e)
      got q (inr ne) = got_there m k v q ne

  pub remove_inserted : (m : map.FinMap nat_cmp X) (k : ℕ) (v : X) → map.remove (map.insert m k v) k ≡ map.remove m k
  remove_inserted m k v = same_map nat_cmp_total nat_cmp-IsAntisymmetric (map.remove (map.insert m k v) k) (map.remove m k) (λ q. got q (cases_eq q k))
    where
      gone : (n : map.FinMap nat_cmp X) (q : ℕ) → map.get (map.remove n k) q ≡ cond (eq_by_cmp nat_cmp q k) None (map.get n q)
      gone n q = get-remove nat_cmp_total n k q

      got : (q : ℕ) → (q ≡ k) ⊎ (q ≢ k) → map.get (map.remove (map.insert m k v) k) q ≡ map.get (map.remove m k) q
      got q (inl e) =
          let same : eq_by_cmp nat_cmp q k ≡ true = ap (λ (x : ℕ). eq_by_cmp nat_cmp x k) e ∙ tied k in
          gone (map.insert m k v) q ∙ ap (λ (b : Bool). cond b None (map.get (map.insert m k v) q)) same
          ∙ sym (gone m q ∙ ap (λ (b : Bool). cond b None (map.get m q)) same)
      got q (inr ne) = gone (map.insert m k v) q ∙ ap (cond (eq_by_cmp nat_cmp q k) None) (got_there m k v q ne) ∙ sym (gone m q)

-- ---- the loop

module _ {N : Type 0} where
  -- of the region so many nodes are left
  pub record IsShorter (old now : NodePool N) (r left : ℕ) : Type 0 where
    pub nodes : now.nodes ≡ back_to old.nodes r left
    pub regions : now.regions ≡ map.insert old.regions r left
    pub identity : now.identity ≡ old.identity
    pub live : (k : ℕ) → map.get old.regions r ≡ Some k → map.len now.nodes + k ≡ map.len old.nodes + left
    pub room : map.len now.nodes + now.spare ≡ map.len old.nodes + old.spare

  pub none_gone : (old : NodePool N) (r left : ℕ) → map.get old.regions r ≡ Some left → HasRanks old.nodes r left → IsShorter old old r left
  none_gone old r left is ranks = record { nodes = sym (back_all old.nodes r left ranks); regions = sym (insert_same old.regions r left is); identity = refl; live = λ k h. ap (λ (x : ℕ). map.len old.nodes + x) (same_Some k left (sym h ∙ is)); room = refl }

  -- how many a region has that is shorter
  pub count_left : (old now : NodePool N) (r left : ℕ) → IsShorter old now r left → map.get now.regions r ≡ Some left
  count_left old now r left h = ap (λ rs. map.get rs r) h.regions ∙ got_here old.regions r left

  pub one_gone : (old now new : NodePool N) (r left k : ℕ) → IsShorter old now r left → left ≡ k + 1 → new.nodes ≡ back_to now.nodes r k → new.regions ≡ map.insert now.regions r k → new.identity ≡ now.identity →
      map.len new.nodes + 1 ≡ map.len now.nodes → map.len new.nodes + new.spare ≡ map.len now.nodes + now.spare → IsShorter old new r k
  one_gone old now new r left k so_far more nodes regions identity less room = record {
    nodes = nodes ∙ ap (λ (ns : Nodes N). back_to ns r k) so_far.nodes ∙ back_again old.nodes r left k (omega (arith, more));
    regions = regions ∙ ap (λ rs. map.insert rs r k) so_far.regions ∙ insert_twice old.regions r left k;
    identity = identity ∙ so_far.identity;
    live = λ j h. let was = so_far.live j h in omega (arith, was, less, more);
    room = room ∙ so_far.room;
  }
