-- Steps of laws of changes: what comes of a value, of a choice and of a tree, once each identifier and each place is changed.
use Rattle.std.proofs.Common.{◌≡◌, ◌+◌, max, Bool, true, false, cond, Result, Ok, Err, refl, sym, ap, subst}
use Rattle.scheme_model.specs.Trees.{Tree, name, atom, list, vector, Trees, no_trees, tree, Tail, proper, dotted}
use Rattle.scheme_model.specs.TreeParts.{append, count}
use Rattle.scheme_model.specs.Measures.{tree_size, trees_size, tail_size, tree_depth, trees_depth, tail_depth}
use Rattle.scheme_model.specs.ExpansionFaults.{Fault, ◌>>◌}
use Rattle.renumbering_laws.specs.Moving.{Change, move_tree, move_trees, move_tail}
use Rattle.renumbering_laws.proofs.MovedParts.{move_result}

-- what is read of changed trees is what is read, changed
pub data Reads {A B X Y : Type 0} (f : Change A B) (g : X → Y) (r : Result X (Fault A)) (r' : Result Y (Fault B)) : Type 0 where
  reads : r' ≡ move_result f g r → Reads f g r r'

pub reads_is : {A B X Y : Type 0} {f : Change A B} {g : X → Y} {r : Result X (Fault A)} {r' : Result Y (Fault B)} → Reads f g r r' → r' ≡ move_result f g r
reads_is (reads e) = e

then_ok : {A B X X' Y Y' : Type 0} (f : Change A B) (g : X → X') (h : Y → Y') (r : Result X (Fault A)) (k : X → Result Y (Fault A)) (k' : X' → Result Y' (Fault B))
    → ((x : X) → Reads f h (k x) (k' (g x))) → Reads f h (r >> k) (move_result f g r >> k')
then_ok f g h (Ok x) k k' e = e x
then_ok f g h (Err d) k k' e = reads refl

pub then_map : {A B X X' Y Y' : Type 0} {f : Change A B} {g : X → X'} {h : Y → Y'} {r : Result X (Fault A)} {r' : Result X' (Fault B)} {k : X → Result Y (Fault A)} (k' : X' → Result Y' (Fault B))
    → Reads f g r r' → ((x : X) → Reads f h (k x) (k' (g x))) → Reads f h (r >> k) (r' >> k')
then_map {A} {B} {X} {X'} {Y} {Y'} {f} {g} {h} {r} {r'} {k} k' (reads e) hk = subst (λ q. Reads f h (r >> k) (q >> k')) (sym e) (then_ok f g h r k k' hk)

-- the same choice on both sides
pub cond_reads : {A B X Y : Type 0} {f : Change A B} {g : X → Y} {t t' : Bool} {a b : Result X (Fault A)} {a' b' : Result Y (Fault B)} → t' ≡ t → Reads f g a a' → Reads f g b b' → Reads f g (cond t a b) (cond t' a' b')
cond_reads {f = f} {g = g} {t = t} {t' = t'} {a = a} {b = b} {a' = a'} {b' = b'} e ra rb = subst (λ (u : Bool). Reads f g (cond t a b) (cond u a' b')) (sym e) (go t)
  where
    go : (u : Bool) → Reads f g (cond u a b) (cond u a' b')
    go true = ra
    go false = rb

-- ---- trees

module _ (A B : Type 0) (f : Change A B) where
  pub append-map : (ts us : Trees A) → append (move_trees f ts) (move_trees f us) ≡ move_trees f (append ts us)
  append-map no_trees us = refl
  append-map (tree t ts) us = ap (λ vs. tree (move_tree f t) vs) (append-map ts us)

  pub count-map : (ts : Trees A) → count (move_trees f ts) ≡ count ts
  count-map no_trees = refl
  count-map (tree t ts) = ap (λ n. n + 1) (count-map ts)

  mutual
    pub size-map : (t : Tree A) → tree_size (move_tree f t) ≡ tree_size t
    size-map (name i o) = refl
    size-map (atom a o) = refl
    size-map (list ts tail o) = let a = sizes-map ts in let b = tail_size-map tail in λ j. 1 + (a j + b j)
    size-map (vector ts o) = ap (λ n. 1 + n) (sizes-map ts)

    sizes-map : (ts : Trees A) → trees_size (move_trees f ts) ≡ trees_size ts
    sizes-map no_trees = refl
    sizes-map (tree t ts) = let a = size-map t in let b = sizes-map ts in λ j. a j + b j

    tail_size-map : (tail : Tail A) → tail_size (move_tail f tail) ≡ tail_size tail
    tail_size-map proper = refl
    tail_size-map (dotted t) = size-map t

  mutual
    pub depth-map : (t : Tree A) → tree_depth (move_tree f t) ≡ tree_depth t
    depth-map (name i o) = refl
    depth-map (atom a o) = refl
    depth-map (list ts tail o) = let a = depths-map ts in let b = tail_depth-map tail in λ j. 1 + max (a j) (b j)
    depth-map (vector ts o) = ap (λ n. 1 + n) (depths-map ts)

    depths-map : (ts : Trees A) → trees_depth (move_trees f ts) ≡ trees_depth ts
    depths-map no_trees = refl
    depths-map (tree t ts) = let a = depth-map t in let b = depths-map ts in λ j. max (a j) (b j)

    tail_depth-map : (tail : Tail A) → tail_depth (move_tail f tail) ≡ tail_depth tail
    tail_depth-map proper = refl
    tail_depth-map (dotted t) = depth-map t
