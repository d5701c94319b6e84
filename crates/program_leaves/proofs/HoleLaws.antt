-- Walks over data with holes: what a node, a hole and a row leave.
use Rattle.std.proofs.Common.{◌≡◌, ℕ, ◌+◌, ◌≤◌, zero, suc, List, [], ◌∷◌, ◌++◌, Bool, true, false, Option, Some, None, refl, sym, ap, ◌∙◌, subst, append_assoc, arith}
use Rattle.std.proofs.lemmas.List.{append-nil}
use Rattle.std.proofs.lemmas.Bool.Decides.{nat_tests}
use Rattle.scheme_model.specs.declared.Occ.{Occ}
use Rattle.scheme_model.specs.Trees.{Atom, Tree, name, atom, list, vector, Trees, no_trees, tree, Tail, proper, dotted}
use Rattle.scheme_model.specs.Cores.{hole_weight, weight, weights, tail_weight}
use Rattle.scheme_model.specs.Measures.{tree_size, trees_size, tail_size}
use Rattle.scheme_model.specs.Matching.{behind}
use Rattle.scheme_model.specs.Holes.{FillsHole, HasHoles, AreLike, IsTailLike, places_in, places_among, places_behind}
use Rattle.syntax_tree.specs.Placed.{tree_place}
use Rattle.scheme_model.specs.Ident.{Ident as Identifier}
use Rattle.program_leaves.specs.Holes.{occs_in, occs_among, occs_behind, is_next, behind_first, AllFrom}
use Rattle.program_leaves.specs.Names.{list_parts, list_end}

-- ---- places

pub from_less : (n m : ℕ) (ps : List ℕ) → n ≤ m → AllFrom m ps → AllFrom n ps
from_less n m [] le h = h
from_less n m (p ∷ ps) le h = (omega (arith, h.0), from_less n m ps le h.1)

pub from_both : (n : ℕ) (ps qs : List ℕ) → AllFrom n ps → AllFrom n qs → AllFrom n (ps ++ qs)
from_both n [] qs h g = g
from_both n (p ∷ ps) qs h g = (h.0, from_both n ps qs h.1 g)

pub none_next : (n : ℕ) (ps : List ℕ) → AllFrom (n + 1) ps → is_next ps n ≡ false
none_next n [] h = refl
none_next n (p ∷ ps) h = let far : n + 1 ≤ p = h.0 in grind (arith, nat_tests)

mutual
  pub from_in : (n : ℕ) (h : Tree (Option (List ℕ))) → AllFrom n (places_in hole_weight n h)
  from_in n (name None o) = (omega arith, tt)
  from_in n (name (Some i) o) = tt
  from_in n (atom a o) = tt
  from_in n (list ts tail o) =
      from_both n (places_among hole_weight (n + 1) ts) (places_behind hole_weight (n + 1 + weights hole_weight ts) tail) (from_less n (n + 1) (places_among hole_weight (n + 1) ts) (omega arith) (from_among (n + 1) ts))
      (from_less n (n + 1 + weights hole_weight ts) (places_behind hole_weight (n + 1 + weights hole_weight ts) tail) (omega arith) (from_behind (n + 1 + weights hole_weight ts) tail))
  from_in n (vector ts o) = from_less n (n + 1) (places_among hole_weight (n + 1) ts) (omega arith) (from_among (n + 1) ts)

  pub from_among : (n : ℕ) (ts : Trees (Option (List ℕ))) → AllFrom n (places_among hole_weight n ts)
  from_among n no_trees = tt
  from_among n (tree t ts) =
      from_both n (places_in hole_weight n t) (places_among hole_weight (n + weight hole_weight t) ts) (from_in n t)
      (from_less n (n + weight hole_weight t) (places_among hole_weight (n + weight hole_weight t) ts) (omega arith) (from_among (n + weight hole_weight t) ts))

  pub from_behind : (n : ℕ) (tail : Tail (Option (List ℕ))) → AllFrom n (places_behind hole_weight n tail)
  from_behind n proper = tt
  from_behind n (dotted t) = from_in n t

abbrev pub is_hole : Tree (Option (List ℕ)) → Bool
is_hole (name None o) = true
is_hole (name (Some i) o) = false
is_hole (atom a o) = false
is_hole (list ts tail o) = false
is_hole (vector ts o) = false

-- a hole is next just where the datum is one
pub hole_next : (n : ℕ) (h : Tree (Option (List ℕ))) (rest : List ℕ) → AllFrom (n + weight hole_weight h) rest → is_next (places_in hole_weight n h ++ rest) n ≡ is_hole h
hole_next n (name None o) rest g = grind (arith, nat_tests)
hole_next n (name (Some i) o) rest g = none_next n rest g
hole_next n (atom a o) rest g = none_next n rest g
hole_next n (list ts tail o) rest g =
    let first = from_among (n + 1) ts in
    let second = from_less (n + 1) (n + 1 + weights hole_weight ts) (places_behind hole_weight (n + 1 + weights hole_weight ts) tail) (omega arith) (from_behind (n + 1 + weights hole_weight ts) tail) in
    none_next n _ (from_both (n + 1) (places_among hole_weight (n + 1) ts ++ places_behind hole_weight (n + 1 + weights hole_weight ts) tail) rest
    (from_both (n + 1) (places_among hole_weight (n + 1) ts) (places_behind hole_weight (n + 1 + weights hole_weight ts) tail) first second) (from_less (n + 1) (n + weight hole_weight (list ts tail o)) rest (omega arith) g))
hole_next n (vector ts o) rest g =
    none_next n _ (from_both (n + 1) (places_among hole_weight (n + 1) ts) rest (from_among (n + 1) ts) (from_less (n + 1) (n + weight hole_weight (vector ts o)) rest (omega arith) g))

-- ---- what each kind leaves

pub record Hole (h : Tree (Option (List ℕ))) (n : ℕ) (rest : List ℕ) : Type 0 where
  pub occs : occs_in h ≡ []
  pub past : behind_first (places_in hole_weight n h ++ rest) ≡ rest
  pub none : weight hole_weight h ≡ 0

pub a_hole : (h : Tree (Option (List ℕ))) (n : ℕ) (rest : List ℕ) → is_hole h ≡ true → Hole h n rest
a_hole (name None o) n rest e = record { occs = refl; past = refl; none = refl }
a_hole (name (Some i) o) n rest e = absurd cc
a_hole (atom a o) n rest e = absurd cc
a_hole (list ts tail o) n rest e = absurd cc
a_hole (vector ts o) n rest e = absurd cc

pub record Leaf (h : Tree (Option (List ℕ))) (n : ℕ) (os : List (Option Occ)) : Type 0 where
  pub occs : occs_in h ≡ os
  pub none : places_in hole_weight n h ≡ []
  pub one : weight hole_weight h ≡ 1

pub a_name : (f : Identifier → List ℕ) (t : Tree Identifier) (h : Tree (Option (List ℕ))) (n : ℕ) (i : Identifier) (o : Option Occ) → HasHoles f t h → t ≡ name i o → is_hole h ≡ false → Leaf h n (tree_place t ∷ [])
a_name f t (name None p) n i o g e not_hole = absurd cc
a_name f t (name (Some b) p) n i o g e not_hole = record { occs = ap (λ q. q ∷ []) (sym (ap tree_place g.1)); none = refl; one = refl }
a_name f t (atom a p) n i o g e not_hole = absurd cc
a_name f t (list us end p) n i o g e not_hole = let k = g.2 in absurd cc
a_name f t (vector us p) n i o g e not_hole = let k = g.1 in absurd cc

pub an_atom : (f : Identifier → List ℕ) (t : Tree Identifier) (h : Tree (Option (List ℕ))) (n : ℕ) (a : Atom) (o : Option Occ) → HasHoles f t h → t ≡ atom a o → is_hole h ≡ false → Leaf h n []
an_atom f t (name None p) n a o g e not_hole = absurd cc
an_atom f t (name (Some b) p) n a o g e not_hole = let k = g.1 in absurd cc
an_atom f t (atom b p) n a o g e not_hole = record { occs = refl; none = refl; one = refl }
an_atom f t (list us end p) n a o g e not_hole = let k = g.2 in absurd cc
an_atom f t (vector us p) n a o g e not_hole = let k = g.1 in absurd cc

pub record Row {A : Type 0} (f : A → List ℕ) (h : Tree (Option (List ℕ))) (ts : Trees A) (tail : Tail A) (n : ℕ) : Type 0 where
  pub parts : Trees (Option (List ℕ))
  pub last : Tail (Option (List ℕ))
  pub like : AreLike (FillsHole f) ts parts
  pub tail_like : IsTailLike (FillsHole f) tail last
  pub occs : occs_in h ≡ occs_among parts ++ occs_behind last
  pub places : places_in hole_weight n h ≡ places_among hole_weight (n + 1) parts ++ places_behind hole_weight (n + 1 + weights hole_weight parts) last
  pub many : weight hole_weight h ≡ weights hole_weight parts + tail_weight hole_weight last + 1

pub a_list : (f : Identifier → List ℕ) (t : Tree Identifier) (h : Tree (Option (List ℕ))) (n : ℕ) (ts : Trees Identifier) (tail : Tail Identifier) (o : Option Occ) → HasHoles f t h → t ≡ list ts tail o → is_hole h ≡ false → Row f h ts tail n
a_list f t (name None p) n ts tail o g e not_hole = absurd cc
a_list f t (name (Some b) p) n ts tail o g e not_hole = let k = g.1 in absurd cc
a_list f t (atom b p) n ts tail o g e not_hole = absurd cc
a_list f t (list us end p) n ts tail o g e not_hole =
    let same = sym g.2 ∙ e in
    record {
      parts = us;
      last = end;
      like = subst (λ x. AreLike (FillsHole f) x us) (ap list_parts same) g.3;
      tail_like = subst (λ x. IsTailLike (FillsHole f) x end) (ap list_end same) g.4;
      occs = refl;
      places = refl;
      many = refl;
    }
a_list f t (vector us p) n ts tail o g e not_hole = let k = g.1 in absurd cc

abbrev vector_parts : {A : Type 0} → Tree A → Trees A
vector_parts (name i o) = no_trees
vector_parts (atom a o) = no_trees
vector_parts (list ts tail o) = no_trees
vector_parts (vector ts o) = ts

pub a_vector : (f : Identifier → List ℕ) (t : Tree Identifier) (h : Tree (Option (List ℕ))) (n : ℕ) (ts : Trees Identifier) (o : Option Occ) → HasHoles f t h → t ≡ vector ts o → is_hole h ≡ false → Row f h ts proper n
a_vector f t (name None p) n ts o g e not_hole = absurd cc
a_vector f t (name (Some b) p) n ts o g e not_hole = let k = g.1 in absurd cc
a_vector f t (atom b p) n ts o g e not_hole = absurd cc
a_vector f t (list us end p) n ts o g e not_hole = let k = g.2 in absurd cc
a_vector f t (vector us p) n ts o g e not_hole =
    let same = sym g.1 ∙ e in
    record {
      parts = us;
      last = proper;
      like = subst (λ x. AreLike (FillsHole f) x us) (ap vector_parts same) g.2;
      tail_like = refl;
      occs = sym (append-nil (occs_among us));
      places = sym (append-nil (places_among hole_weight (n + 1) us));
      many = omega arith;
    }

-- ---- rows

abbrev first_tree : {A : Type 0} → Tree A → Trees A → Tree A
first_tree d no_trees = d
first_tree d (tree t ts) = t

abbrev other_trees : {A : Type 0} → Trees A → Trees A
other_trees no_trees = no_trees
other_trees (tree t ts) = ts

-- what is left of a row behind its first parts
pub behind_step : {A : Type 0} (k : ℕ) (us : Trees A) (u : Tree A) (vs : Trees A) → behind k us ≡ tree u vs → behind (k + 1) us ≡ vs
behind_step zero no_trees u vs e = absurd cc
behind_step zero (tree w ws) u vs e = ap other_trees e
behind_step (suc k) no_trees u vs e = absurd cc
behind_step (suc k) (tree w ws) u vs e = let next : suc k + 1 ≡ suc (k + 1) = omega arith in ap (λ j. behind j (tree w ws)) next ∙ behind_step k ws u vs e

-- the walk over a row with holes up to a part: the names before it were added, and the holes from there on are left
pub record Walked {A : Type 0} (f : A → List ℕ) (old new : List (Option Occ)) (left : List ℕ) (nodes n k : ℕ) (ts : Trees A) (us : Trees (Option (List ℕ))) (last : Tail (Option (List ℕ))) (rest : List ℕ) : Type 0 where
  pub so_far : List (Option Occ)
  pub added : new ≡ old ++ so_far
  pub whole : so_far ++ occs_among (behind k us) ≡ occs_among us
  pub like : AreLike (FillsHole f) (behind k ts) (behind k us)
  pub holes : left ≡ places_among hole_weight nodes (behind k us) ++ places_behind hole_weight (nodes + weights hole_weight (behind k us)) last ++ rest
  pub count : nodes + weights hole_weight (behind k us) ≡ n + weights hole_weight us

-- the part at a place of a row with holes
pub record PartAt {A : Type 0} (f : A → List ℕ) (t : Tree A) (ts : Trees A) (k : ℕ) (us : Trees (Option (List ℕ))) : Type 0 where
  pub part : Tree (Option (List ℕ))
  pub like : HasHoles f t part
  pub split : behind k us ≡ tree part (behind (k + 1) us)
  pub more : AreLike (FillsHole f) ts (behind (k + 1) us)

pub part_at : {A : Type 0} (f : A → List ℕ) (t : Tree A) (ts row : Trees A) (k : ℕ) (us : Trees (Option (List ℕ))) → row ≡ tree t ts → AreLike (FillsHole f) row (behind k us) → PartAt f t ts k us
part_at {A = A} f t ts row k us e h = by_rest (behind k us) refl h
  where
    by_rest : (vs : Trees (Option (List ℕ))) → behind k us ≡ vs → AreLike (FillsHole f) row vs → PartAt f t ts k us
    by_rest no_trees q g = let z = g in absurd cc
    by_rest (tree u vs) q g =
        let same = sym g.2 ∙ e in
        let next = behind_step k us u vs q in
        record {
          part = u;
          like = subst (λ x. HasHoles f x u) (ap (first_tree t) same) g.3;
          split = q ∙ ap (tree u) (sym next);
          more = subst (λ x. AreLike (FillsHole f) ts x) (sym next) (subst (λ x. AreLike (FillsHole f) x vs) (ap other_trees same) g.4);
        }

-- what is left behind a part of a row
abbrev pub left_of_row : ℕ → ℕ → Trees (Option (List ℕ)) → Tail (Option (List ℕ)) → List ℕ → List ℕ
left_of_row m w vs last rest = (places_among hole_weight m vs ++ places_behind hole_weight w last) ++ rest

pub step_at : (m : ℕ) (left : List ℕ) (row : Trees (Option (List ℕ))) (u : Tree (Option (List ℕ))) (vs : Trees (Option (List ℕ))) (last : Tail (Option (List ℕ))) (rest : List ℕ) → row ≡ tree u vs →
    left ≡ places_among hole_weight m row ++ places_behind hole_weight (m + weights hole_weight row) last ++ rest →
    left ≡ places_in hole_weight m u ++ left_of_row (m + weight hole_weight u) (m + (weight hole_weight u + weights hole_weight vs)) vs last rest
step_at m left row u vs last rest e h =
    let X = places_among hole_weight (m + weight hole_weight u) vs in
    let Y = places_behind hole_weight (m + (weight hole_weight u + weights hole_weight vs)) last in
    h ∙ ap (λ r. places_among hole_weight m r ++ places_behind hole_weight (m + weights hole_weight r) last ++ rest) e ∙ ap (λ (q : List ℕ). q ++ rest) (append_assoc (places_in hole_weight m u) X Y)
    ∙ append_assoc (places_in hole_weight m u) (X ++ Y) rest

pub step_from : (m total : ℕ) (wu wv : ℕ) (vs : Trees (Option (List ℕ))) (last : Tail (Option (List ℕ))) (rest : List ℕ) → m + wu ≤ total → AllFrom total rest → AllFrom (m + wu) (left_of_row (m + wu) (m + (wu + wv)) vs last rest)
step_from m total wu wv vs last rest le g =
    from_both (m + wu) (places_among hole_weight (m + wu) vs ++ places_behind hole_weight (m + (wu + wv)) last) rest
    (from_both (m + wu) (places_among hole_weight (m + wu) vs) (places_behind hole_weight (m + (wu + wv)) last) (from_among (m + wu) vs)
    (from_less (m + wu) (m + (wu + wv)) (places_behind hole_weight (m + (wu + wv)) last) (omega arith) (from_behind (m + (wu + wv)) last)))
    (from_less (m + wu) total rest le g)

pub walked_more : {A : Type 0} (f : A → List ℕ) (old mid new : List (Option Occ)) (left left' : List ℕ) (m m' n k : ℕ) (ts : Trees A) (us : Trees (Option (List ℕ))) (last : Tail (Option (List ℕ))) (rest : List ℕ) (t : Tree A) (p : PartAt f t (behind (k + 1) ts) k us) →
    Walked f old mid left m n k ts us last rest → new ≡ mid ++ occs_in p.part →
    left' ≡ left_of_row (m + weight hole_weight p.part) (m + (weight hole_weight p.part + weights hole_weight (behind (k + 1) us))) (behind (k + 1) us) last rest → m' ≡ m + weight hole_weight p.part →
    Walked f old new left' m' n (k + 1) ts us last rest
walked_more f old mid new left left' m m' n k ts us last rest t p w names at count =
    let u = p.part in
    let vs = behind (k + 1) us in
    let weighs : weights hole_weight (behind k us) ≡ weight hole_weight u + weights hole_weight vs = ap (weights hole_weight) p.split in
    let sum : m + (weight hole_weight u + weights hole_weight vs) ≡ m' + weights hole_weight vs = omega (arith, count) in
    record {
      so_far = w.so_far ++ occs_in u;
      added = names ∙ ap (λ (q : List (Option Occ)). q ++ occs_in u) w.added ∙ append_assoc old w.so_far (occs_in u);
      whole = append_assoc w.so_far (occs_in u) (occs_among vs) ∙ ap (λ q. w.so_far ++ occs_among q) (sym p.split) ∙ w.whole;
      like = p.more;
      holes = at ∙ (λ j. left_of_row (sym count j) (sum j) vs last rest);
      count = omega (arith, w.count, weighs, count);
    }

pub walked_all : {A : Type 0} (f : A → List ℕ) (old new : List (Option Occ)) (left : List ℕ) (m n k : ℕ) (ts : Trees A) (us : Trees (Option (List ℕ))) (last : Tail (Option (List ℕ))) (rest : List ℕ) → Walked f old new left m n k ts us last rest → behind k ts ≡ no_trees →
    (new ≡ old ++ occs_among us) × (left ≡ places_behind hole_weight m last ++ rest) × (m ≡ n + weights hole_weight us)
walked_all f old new left m n k ts us last rest w e =
    let none = no_row (behind k us) (subst (λ x. AreLike (FillsHole f) x (behind k us)) e w.like) in
    let so : w.so_far ≡ occs_among us = sym (append-nil w.so_far) ∙ ap (λ q. w.so_far ++ occs_among q) (sym none) ∙ w.whole in
    let weighs : weights hole_weight (behind k us) ≡ 0 = ap (weights hole_weight) none in (
      w.added ∙ ap (λ q. old ++ q) so,
      w.holes ∙ (λ j. places_among hole_weight m (none j) ++ places_behind hole_weight (m + weights hole_weight (behind k us)) last ++ rest) ∙ ap (λ x. places_behind hole_weight x last ++ rest) (omega (arith, weighs)),
      omega (arith, w.count, weighs),
    )
  where
    no_row : (vs : Trees (Option (List ℕ))) → AreLike (FillsHole f) no_trees vs → vs ≡ no_trees
    no_row no_trees g = refl
    no_row (tree v vs) g = let z = g.2 in absurd cc

-- ---- tails

pub no_tail : {A : Type 0} (f : A → List ℕ) (tail : Tail A) (last : Tail (Option (List ℕ))) → tail ≡ proper → IsTailLike (FillsHole f) tail last → last ≡ proper
no_tail f tail proper e g = refl
no_tail f tail (dotted u) e g = let z = g.1 in absurd cc

pub record TailAt {A : Type 0} (f : A → List ℕ) (t : Tree A) (last : Tail (Option (List ℕ))) : Type 0 where
  pub part : Tree (Option (List ℕ))
  pub is : last ≡ dotted part
  pub like : HasHoles f t part

abbrev tail_tree : {A : Type 0} → Tree A → Tail A → Tree A
tail_tree d proper = d
tail_tree d (dotted t) = t

pub a_tail : {A : Type 0} (f : A → List ℕ) (tail : Tail A) (t : Tree A) (last : Tail (Option (List ℕ))) → tail ≡ dotted t → IsTailLike (FillsHole f) tail last → TailAt f t last
a_tail f tail t proper e g = let z = g in absurd cc
a_tail f tail t (dotted u) e g = record { part = u; is = refl; like = subst (λ x. HasHoles f x u) (ap (tail_tree t) (sym g.1 ∙ e)) g.2 }

-- ---- how many nodes stand outside of holes

mutual
  pub fewer : {A : Type 0} (f : A → List ℕ) (t : Tree A) (h : Tree (Option (List ℕ))) → HasHoles f t h → weight hole_weight h ≤ tree_size t
  fewer f t (name None o) g = omega arith
  fewer f t (name (Some b) o) g = let e = ap tree_size g.1 in omega (arith, e)
  fewer f t (atom a o) g = let e = ap tree_size g in omega (arith, e)
  fewer f t (list us end o) g = let e = ap tree_size g.2 in omega (arith, e, all_fewer f g.0 us g.3, tail_fewer f g.1 end g.4)
  fewer f t (vector us o) g = let e = ap tree_size g.1 in omega (arith, e, all_fewer f g.0 us g.2)

  all_fewer : {A : Type 0} (f : A → List ℕ) (ts : Trees A) (us : Trees (Option (List ℕ))) → AreLike (FillsHole f) ts us → weights hole_weight us ≤ trees_size ts
  all_fewer f ts no_trees g = omega arith
  all_fewer f ts (tree u us) g = let e = ap trees_size g.2 in omega (arith, e, fewer f g.0 u g.3, all_fewer f g.1 us g.4)

  tail_fewer : {A : Type 0} (f : A → List ℕ) (tail : Tail A) (last : Tail (Option (List ℕ))) → IsTailLike (FillsHole f) tail last → tail_weight hole_weight last ≤ tail_size tail
  tail_fewer f tail proper g = omega arith
  tail_fewer f tail (dotted u) g = let e = ap tail_size g.1 in omega (arith, e, fewer f g.0 u g.2)
