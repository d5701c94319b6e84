-- The nodes of data with holes, and walks over them.
use Rattle.std.proofs.Common.{◌≡◌, ℕ, ◌+◌, List, [], ◌∷◌, ◌++◌, Bool, true, false, Option, Some, None, refl, sym, ap, ◌∙◌, subst, append_assoc, arith}
use Rattle.std.proofs.lemmas.List.{append-nil}
use Rattle.scheme_model.specs.declared.Occ.{Occ}
use Rattle.scheme_model.specs.Trees.{Atom, Tree, name, atom, list, vector, Trees, no_trees, tree, Tail, proper, dotted}
use Rattle.scheme_model.specs.TreeParts.{count}
use Rattle.scheme_model.specs.Cores.{hole_weight, weight, weights, tail_weight}
use Rattle.scheme_model.specs.Holes.{FillsHole, HasHoles, AreLike, IsTailLike, places_in, places_among, places_behind}
use Rattle.scheme_model.specs.RulesShape.{nowhere, is_dots}
use Rattle.scheme_model.specs.Building.{is_escape}
use Rattle.scheme_model.specs.Leaves.{if_escape}
use Rattle.scheme_model.specs.Matching.{behind}
use Rattle.scheme_model.specs.Ident.{Ident as Identifier}
use Rattle.rename_model.specs.Walks.{TreeNode, NameAt, AtomAt, ListOf, VectorOf, Escape, has_tail, list_nodes, nodes_in, nodes_among, nodes_behind, nodes_escaped}
use Rattle.program_leaves.specs.Adds.{Adds}
use Rattle.program_leaves.specs.Holes.{occs_among}
use Rattle.program_leaves.specs.Names.{list_parts, list_end}
use Rattle.program_leaves.proofs.AddLaws.{adds_both, adds_same}
use Rattle.program_leaves.proofs.HoleLaws.{is_hole, Row, PartAt, left_of_row}
use Rattle.alpha_equal.proofs.NodeLaws.{no_choice}

abbrev Datum : Type 0
Datum = Tree (Option (List ℕ))

-- ---- one node

pub hole_is : (h : Datum) → is_hole h ≡ true → (o : Option Occ) × (nodes_in nowhere h ≡ NameAt None false o ∷ [])
hole_is (name None o) e = (o, refl)
hole_is (name (Some i) o) e = absurd cc
hole_is (atom a o) e = absurd cc
hole_is (list ts tail o) e = absurd cc
hole_is (vector ts o) e = absurd cc

abbrev name_nodes : (Identifier → List ℕ) → Tree Identifier → List (TreeNode (Option (List ℕ)))
name_nodes f (name i o) = NameAt (Some (f i)) false o ∷ []
name_nodes f (atom a o) = []
name_nodes f (list ts tail o) = []
name_nodes f (vector ts o) = []

abbrev atom_nodes : Tree Identifier → List (TreeNode (Option (List ℕ)))
atom_nodes (name i o) = []
atom_nodes (atom a o) = AtomAt a o ∷ []
atom_nodes (list ts tail o) = []
atom_nodes (vector ts o) = []

pub name_is : (f : Identifier → List ℕ) (t : Tree Identifier) (h : Datum) (i : Identifier) (o : Option Occ) → HasHoles f t h → t ≡ name i o → is_hole h ≡ false → nodes_in nowhere h ≡ NameAt (Some (f i)) false o ∷ []
name_is f t (name None p) i o g e not_hole = absurd cc
name_is f t (name (Some b) p) i o g e not_hole = ap (λ (x : List ℕ). NameAt (Some x) false p ∷ []) (sym g.2) ∙ ap (name_nodes f) (sym g.1 ∙ e)
name_is f t (atom a p) i o g e not_hole = absurd cc
name_is f t (list us end p) i o g e not_hole = let k = g.2 in absurd cc
name_is f t (vector us p) i o g e not_hole = let k = g.1 in absurd cc

pub atom_is : (f : Identifier → List ℕ) (t : Tree Identifier) (h : Datum) (a : Atom) (o : Option Occ) → HasHoles f t h → t ≡ atom a o → is_hole h ≡ false → nodes_in nowhere h ≡ AtomAt a o ∷ []
atom_is f t (name None p) a o g e not_hole = absurd cc
atom_is f t (name (Some b) p) a o g e not_hole = let k = g.1 in absurd cc
atom_is f t (atom b p) a o g e not_hole = ap atom_nodes (sym g ∙ e)
atom_is f t (list us end p) a o g e not_hole = let k = g.2 in absurd cc
atom_is f t (vector us p) a o g e not_hole = let k = g.1 in absurd cc

-- ---- lists and vectors

no_dots : (t : Datum) → is_dots nowhere t ≡ false
no_dots (name i o) = refl
no_dots (atom a o) = refl
no_dots (list ts tail o) = refl
no_dots (vector ts o) = refl

no_escape : (ts : Trees (Option (List ℕ))) (tail : Tail (Option (List ℕ))) → is_escape nowhere ts tail ≡ false
no_escape no_trees tail = refl
no_escape (tree t no_trees) tail = refl
no_escape (tree t (tree u no_trees)) proper = no_choice u (is_dots nowhere t) (no_dots t)
no_escape (tree t (tree u no_trees)) (dotted v) = refl
no_escape (tree t (tree u (tree v vs))) tail = refl

list_is : (ts : Trees (Option (List ℕ))) (tail : Tail (Option (List ℕ))) (o : Option Occ) → nodes_in nowhere (list ts tail o) ≡ ListOf (count ts) (has_tail tail) ∷ (nodes_among nowhere ts ++ nodes_behind nowhere tail)
list_is ts tail o = ap (λ (b : Bool). if_escape b (Escape ∷ nodes_escaped ts) (list_nodes ts tail (nodes_among nowhere ts ++ nodes_behind nowhere tail))) (no_escape ts tail)

pub count_like : {A : Type 0} (f : A → List ℕ) (ts : Trees A) (us : Trees (Option (List ℕ))) → AreLike (FillsHole f) ts us → count us ≡ count ts
count_like f ts no_trees g = sym (ap count g)
count_like f ts (tree u us) g = ap (λ (n : ℕ). n + 1) (count_like f g.1 us g.4) ∙ sym (ap count g.2)

pub tail_like : {A : Type 0} (f : A → List ℕ) (tail : Tail A) (last : Tail (Option (List ℕ))) → IsTailLike (FillsHole f) tail last → has_tail last ≡ has_tail tail
tail_like f tail proper g = sym (ap has_tail g)
tail_like f tail (dotted u) g = sym (ap has_tail g.1)

-- a list with the nodes of its parts
pub record ListRow (f : Identifier → List ℕ) (h : Datum) (ts : Trees Identifier) (tail : Tail Identifier) (n : ℕ) : Type 0 where
  pub row : Row f h ts tail n
  pub nodes : nodes_in nowhere h ≡ ListOf (count ts) (has_tail tail) ∷ (nodes_among nowhere row.parts ++ nodes_behind nowhere row.last)

pub list_row : (f : Identifier → List ℕ) (t : Tree Identifier) (h : Datum) (n : ℕ) (ts : Trees Identifier) (tail : Tail Identifier) (o : Option Occ) (g : HasHoles f t h) (e : t ≡ list ts tail o) (not_hole : is_hole h ≡ false) → ListRow f h ts tail n
list_row f t (name None p) n ts tail o g e not_hole = absurd cc
list_row f t (name (Some b) p) n ts tail o g e not_hole = let k = g.1 in absurd cc
list_row f t (atom b p) n ts tail o g e not_hole = absurd cc
list_row f t (list us end p) n ts tail o g e not_hole =
    let same = sym g.2 ∙ e in
    let like : AreLike (FillsHole f) ts us = subst (λ x. AreLike (FillsHole f) x us) (ap list_parts same) g.3 in
    let ends : IsTailLike (FillsHole f) tail end = subst (λ x. IsTailLike (FillsHole f) x end) (ap list_end same) g.4 in
    record {
      row = record { parts = us; last = end; like = like; tail_like = ends; occs = refl; places = refl; many = refl };
      nodes = list_is us end p ∙ (λ j. ListOf (count_like f ts us like j) (tail_like f tail end ends j) ∷ (nodes_among nowhere us ++ nodes_behind nowhere end));
    }
list_row f t (vector us p) n ts tail o g e not_hole = let k = g.1 in absurd cc

abbrev vector_parts : {A : Type 0} → Tree A → Trees A
vector_parts (name i o) = no_trees
vector_parts (atom a o) = no_trees
vector_parts (list ts tail o) = no_trees
vector_parts (vector ts o) = ts

pub record VectorRow (f : Identifier → List ℕ) (h : Datum) (ts : Trees Identifier) (n : ℕ) : Type 0 where
  pub row : Row f h ts proper n
  pub nodes : nodes_in nowhere h ≡ VectorOf (count ts) ∷ (nodes_among nowhere row.parts ++ nodes_behind nowhere row.last)

pub vector_row : (f : Identifier → List ℕ) (t : Tree Identifier) (h : Datum) (n : ℕ) (ts : Trees Identifier) (o : Option Occ) (g : HasHoles f t h) (e : t ≡ vector ts o) (not_hole : is_hole h ≡ false) → VectorRow f h ts n
vector_row f t (name None p) n ts o g e not_hole = absurd cc
vector_row f t (name (Some b) p) n ts o g e not_hole = let k = g.1 in absurd cc
vector_row f t (atom b p) n ts o g e not_hole = absurd cc
vector_row f t (list us end p) n ts o g e not_hole = let k = g.2 in absurd cc
vector_row f t (vector us p) n ts o g e not_hole =
    let same = sym g.1 ∙ e in
    let like : AreLike (FillsHole f) ts us = subst (λ x. AreLike (FillsHole f) x us) (ap vector_parts same) g.2 in
    record {
      row = record { parts = us; last = proper; like = like; tail_like = refl; occs = sym (append-nil (occs_among us)); places = sym (append-nil (places_among hole_weight (n + 1) us)); many = omega arith };
      nodes = ap (λ (n : ℕ). VectorOf n ∷ nodes_among nowhere us) (count_like f ts us like) ∙ ap (λ (q : List (TreeNode (Option (List ℕ)))). VectorOf (count ts) ∷ q) (sym (append-nil (nodes_among nowhere us)));
    }

-- ---- rows

-- the walk over a row with holes up to a part
pub record Walked {X : Type 0} (P : X → TreeNode (Option (List ℕ)) → Type 0) (f : Identifier → List ℕ) (old new : List X) (left : List ℕ) (nodes n k : ℕ) (ts : Trees Identifier) (us : Trees (Option (List ℕ))) (last : Tail (Option (List ℕ))) (rest : List ℕ) : Type 0 where
  pub so_far : List (TreeNode (Option (List ℕ)))
  pub adds : Adds P old new so_far
  pub whole : so_far ++ nodes_among nowhere (behind k us) ≡ nodes_among nowhere us
  pub like : AreLike (FillsHole f) (behind k ts) (behind k us)
  pub holes : left ≡ places_among hole_weight nodes (behind k us) ++ places_behind hole_weight (nodes + weights hole_weight (behind k us)) last ++ rest
  pub count : nodes + weights hole_weight (behind k us) ≡ n + weights hole_weight us

pub walked_more : {X : Type 0} (P : X → TreeNode (Option (List ℕ)) → Type 0) (f : Identifier → List ℕ) (old mid new : List X) (left left' : List ℕ) (m m' n k : ℕ) (ts : Trees Identifier) (us : Trees (Option (List ℕ))) (last : Tail (Option (List ℕ))) (rest : List ℕ) (t : Tree Identifier) (p : PartAt f t (behind (k + 1) ts) k us) →
    Walked P f old mid left m n k ts us last rest → Adds P mid new (nodes_in nowhere p.part) →
    left' ≡ left_of_row (m + weight hole_weight p.part) (m + (weight hole_weight p.part + weights hole_weight (behind (k + 1) us))) (behind (k + 1) us) last rest → m' ≡ m + weight hole_weight p.part →
    Walked P f old new left' m' n (k + 1) ts us last rest
walked_more P f old mid new left left' m m' n k ts us last rest t p w names at count =
    let u = p.part in
    let vs = behind (k + 1) us in
    let weighs : weights hole_weight (behind k us) ≡ weight hole_weight u + weights hole_weight vs = ap (weights hole_weight) p.split in
    let sum : m + (weight hole_weight u + weights hole_weight vs) ≡ m' + weights hole_weight vs = omega (arith, count) in
    record {
      so_far = w.so_far ++ nodes_in nowhere u;
      adds = adds_both P old mid new w.so_far (nodes_in nowhere u) w.adds names;
      whole = append_assoc w.so_far (nodes_in nowhere u) (nodes_among nowhere vs) ∙ ap (λ q. w.so_far ++ nodes_among nowhere q) (sym p.split) ∙ w.whole;
      like = p.more;
      holes = at ∙ (λ j. left_of_row (sym count j) (sum j) vs last rest);
      count = omega (arith, w.count, weighs, count);
    }

pub walked_all : {X : Type 0} (P : X → TreeNode (Option (List ℕ)) → Type 0) (f : Identifier → List ℕ) (old new : List X) (left : List ℕ) (m n k : ℕ) (ts : Trees Identifier) (us : Trees (Option (List ℕ))) (last : Tail (Option (List ℕ))) (rest : List ℕ) →
    Walked P f old new left m n k ts us last rest → behind k ts ≡ no_trees →
    Adds P old new (nodes_among nowhere us) × (left ≡ places_behind hole_weight m last ++ rest) × (m ≡ n + weights hole_weight us)
walked_all P f old new left m n k ts us last rest w e =
    let none = no_row (behind k us) (subst (λ x. AreLike (FillsHole f) x (behind k us)) e w.like) in
    let so : w.so_far ≡ nodes_among nowhere us = sym (append-nil w.so_far) ∙ ap (λ q. w.so_far ++ nodes_among nowhere q) (sym none) ∙ w.whole in
    let weighs : weights hole_weight (behind k us) ≡ 0 = ap (weights hole_weight) none in (
      adds_same P old new w.so_far (nodes_among nowhere us) so w.adds,
      w.holes ∙ (λ j. places_among hole_weight m (none j) ++ places_behind hole_weight (m + weights hole_weight (behind k us)) last ++ rest) ∙ ap (λ x. places_behind hole_weight x last ++ rest) (omega (arith, weighs)),
      omega (arith, w.count, weighs),
    )
  where
    no_row : (vs : Trees (Option (List ℕ))) → AreLike (FillsHole f) no_trees vs → vs ≡ no_trees
    no_row no_trees g = refl
    no_row (tree v vs) g = let z = g.2 in absurd cc
