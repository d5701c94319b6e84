-- Steps of laws of renamings: what comes of a value, of a choice and of a list, once each identifier in it is changed.
use Rattle.std.proofs.Common.{◌≡◌, ◌+◌, max, List, [], ◌∷◌, ◌++◌, map, Bool, true, false, cond, Option, Some, None, Result, Ok, Err, refl, sym, ap, subst, ◌∙◌}
use Rattle.scheme_model.specs.Trees.{Tree, name, atom, list, vector, Trees, no_trees, tree, Tail, proper, dotted, map_tree, map_trees, map_tail}
use Rattle.scheme_model.specs.TreeParts.{append, count}
use Rattle.scheme_model.specs.Measures.{tree_size, trees_size, tail_size, tree_depth, trees_depth, tail_depth}
use Rattle.scheme_model.specs.ExpansionFaults.{Fault, ◌>>◌}
use Rattle.scheme_model.specs.RulesShape.{option_map}
use Rattle.scheme_model.specs.Matching.{◌>>=◌}
use Rattle.scheme_model.specs.Renaming.{result_map}

-- ---- what comes of a value

-- what is read of renamed trees is what is read, renamed; the same of what is found
pub data Reads {A B X Y : Type 0} (f : A → B) (g : X → Y) (r : Result X (Fault A)) (r' : Result Y (Fault B)) : Type 0 where
  reads : r' ≡ result_map f g r → Reads f g r r'

pub data Finds {X Y : Type 0} (g : X → Y) (r : Option X) (r' : Option Y) : Type 0 where
  finds : r' ≡ option_map g r → Finds g r r'

pub reads_is : {A B X Y : Type 0} {f : A → B} {g : X → Y} {r : Result X (Fault A)} {r' : Result Y (Fault B)} → Reads f g r r' → r' ≡ result_map f g r
reads_is (reads e) = e

pub finds_is : {X Y : Type 0} {g : X → Y} {r : Option X} {r' : Option Y} → Finds g r r' → r' ≡ option_map g r
finds_is (finds e) = e

then_ok : {A B X X' Y Y' : Type 0} (f : A → B) (g : X → X') (h : Y → Y') (r : Result X (Fault A)) (k : X → Result Y (Fault A)) (k' : X' → Result Y' (Fault B))
    → ((x : X) → Reads f h (k x) (k' (g x))) → Reads f h (r >> k) (result_map f g r >> k')
then_ok f g h (Ok x) k k' e = e x
then_ok f g h (Err d) k k' e = reads refl

pub then_map : {A B X X' Y Y' : Type 0} {f : A → B} {g : X → X'} {h : Y → Y'} {r : Result X (Fault A)} {r' : Result X' (Fault B)} {k : X → Result Y (Fault A)} (k' : X' → Result Y' (Fault B))
    → Reads f g r r' → ((x : X) → Reads f h (k x) (k' (g x))) → Reads f h (r >> k) (r' >> k')
then_map {A} {B} {X} {X'} {Y} {Y'} {f} {g} {h} {r} {r'} {k} k' (reads e) hk = subst (λ q. Reads f h (r >> k) (q >> k')) (sym e) (then_ok f g h r k k' hk)

then_some : {X X' Y Y' : Type 0} (g : X → X') (h : Y → Y') (r : Option X) (k : X → Option Y) (k' : X' → Option Y')
    → ((x : X) → Finds h (k x) (k' (g x))) → Finds h (r >>= k) (option_map g r >>= k')
then_some g h (Some x) k k' e = e x
then_some g h None k k' e = finds refl

pub some_map : {X X' Y Y' : Type 0} {g : X → X'} {h : Y → Y'} {r : Option X} {r' : Option X'} {k : X → Option Y} (k' : X' → Option Y')
    → Finds g r r' → ((x : X) → Finds h (k x) (k' (g x))) → Finds h (r >>= k) (r' >>= k')
some_map {X} {X'} {Y} {Y'} {g} {h} {r} {r'} {k} k' (finds e) hk = subst (λ q. Finds h (r >>= k) (q >>= k')) (sym e) (then_some g h r k k' hk)

-- ---- choices

cond_goes : {X Y : Type 0} (h : X → Y) (t : Bool) (a b : X) → cond t (h a) (h b) ≡ h (cond t a b)
cond_goes h true a b = refl
cond_goes h false a b = refl

pub cond_map : {X Y : Type 0} (h : X → Y) (a b : X) {t t' : Bool} {a' b' : Y} → t' ≡ t → a' ≡ h a → b' ≡ h b → cond t' a' b' ≡ h (cond t a b)
cond_map h a b {t} {t'} {a'} {b'} et ea eb = (λ j. cond (et j) (ea j) (eb j)) ∙ cond_goes h t a b

-- the same choice on both sides
pub cond_reads : {A B X Y : Type 0} {f : A → B} {g : X → Y} {t t' : Bool} {a b : Result X (Fault A)} {a' b' : Result Y (Fault B)} → t' ≡ t → Reads f g a a' → Reads f g b b' → Reads f g (cond t a b) (cond t' a' b')
cond_reads {f = f} {g = g} {t = t} {t' = t'} {a = a} {b = b} {a' = a'} {b' = b'} e ra rb = subst (λ (u : Bool). Reads f g (cond t a b) (cond u a' b')) (sym e) (go t)
  where
    go : (u : Bool) → Reads f g (cond u a b) (cond u a' b')
    go true = ra
    go false = rb

-- ---- lists

pub map-append : {X Y : Type 0} (f : X → Y) (xs ys : List X) → map f (xs ++ ys) ≡ map f xs ++ map f ys
map-append f [] ys = refl
map-append f (x ∷ xs) ys = ap (λ zs. f x ∷ zs) (map-append f xs ys)

-- two lists in turn, each mapped
pub append_map : {X Y : Type 0} (f : X → Y) (xs ys : List X) {xs' ys' : List Y} → xs' ≡ map f xs → ys' ≡ map f ys → xs' ++ ys' ≡ map f (xs ++ ys)
append_map f xs ys ex ey = (λ j. ex j ++ ey j) ∙ sym (map-append f xs ys)

pub map_after : {X Y Z : Type 0} (g : Y → Z) (f : X → Y) (h : X → Z) → ((x : X) → g (f x) ≡ h x) → (xs : List X) → map g (map f xs) ≡ map h xs
map_after g f h e [] = refl
map_after g f h e (x ∷ xs) = let a = e x in let b = map_after g f h e xs in λ j. a j ∷ b j

-- mapped two ways round
pub map_turned : {X Y Z W : Type 0} (g : Y → W) (f : X → Y) (h : Z → W) (k : X → Z) → ((x : X) → g (f x) ≡ h (k x)) → (xs : List X) → map g (map f xs) ≡ map h (map k xs)
map_turned g f h k e [] = refl
map_turned g f h k e (x ∷ xs) = let a = e x in let b = map_turned g f h k e xs in λ j. a j ∷ b j

-- ---- trees

module _ (A B : Type 0) (f : A → B) where
  pub append-map : (ts us : Trees A) → append (map_trees f ts) (map_trees f us) ≡ map_trees f (append ts us)
  append-map no_trees us = refl
  append-map (tree t ts) us = ap (λ vs. tree (map_tree f t) vs) (append-map ts us)

  pub count-map : (ts : Trees A) → count (map_trees f ts) ≡ count ts
  count-map no_trees = refl
  count-map (tree t ts) = ap (λ n. n + 1) (count-map ts)

  mutual
    pub size-map : (t : Tree A) → tree_size (map_tree f t) ≡ tree_size t
    size-map (name i o) = refl
    size-map (atom a o) = refl
    size-map (list ts tail o) = let a = sizes-map ts in let b = tail_size-map tail in λ j. 1 + (a j + b j)
    size-map (vector ts o) = ap (λ n. 1 + n) (sizes-map ts)

    sizes-map : (ts : Trees A) → trees_size (map_trees f ts) ≡ trees_size ts
    sizes-map no_trees = refl
    sizes-map (tree t ts) = let a = size-map t in let b = sizes-map ts in λ j. a j + b j

    tail_size-map : (tail : Tail A) → tail_size (map_tail f tail) ≡ tail_size tail
    tail_size-map proper = refl
    tail_size-map (dotted t) = size-map t

  mutual
    pub depth-map : (t : Tree A) → tree_depth (map_tree f t) ≡ tree_depth t
    depth-map (name i o) = refl
    depth-map (atom a o) = refl
    depth-map (list ts tail o) = let a = depths-map ts in let b = tail_depth-map tail in λ j. 1 + max (a j) (b j)
    depth-map (vector ts o) = ap (λ n. 1 + n) (depths-map ts)

    depths-map : (ts : Trees A) → trees_depth (map_trees f ts) ≡ trees_depth ts
    depths-map no_trees = refl
    depths-map (tree t ts) = let a = depth-map t in let b = depths-map ts in λ j. max (a j) (b j)

    tail_depth-map : (tail : Tail A) → tail_depth (map_tail f tail) ≡ tail_depth tail
    tail_depth-map proper = refl
    tail_depth-map (dotted t) = depth-map t
