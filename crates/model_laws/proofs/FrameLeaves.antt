-- Trees each of whose identifiers was made by then, part by part.
use Rattle.std.proofs.Common.{◌≡◌, refl, sym, ap, ◌∙◌, subst}
use Rattle.scheme_model.specs.Identifiers.{Name}
use Rattle.scheme_model.specs.Ident.{Ident}
use Rattle.scheme_model.specs.Trees.{Tree, name, atom, list, vector, Trees, no_trees, tree, Tail, proper, dotted, map_tree, map_trees, map_tail}
use Rattle.scheme_model.specs.Substitution.{Clock}
use Rattle.model_laws.proofs.FrameEras.{Era, Below, below_more}
use Rattle.model_laws.proofs.IdentKinds.{Kind, mapped_same, tree_kind, trees_kind}
use Rattle.scheme_model.proofs.Clocks.{leq_itself}
use Rattle.model_laws.proofs.FrameStates.{Old, ident_of, Made}

-- each identifier of a tree
abbrev mutual
  pub TreeAll : {A : Type 0} → (A → Type 0) → Tree A → Type 0
  TreeAll P (name i o) = P i
  TreeAll P (atom a o) = Unit {0}
  TreeAll P (list ts tail o) = TreesAll P ts × TailAll P tail
  TreeAll P (vector ts o) = TreesAll P ts

  pub TreesAll : {A : Type 0} → (A → Type 0) → Trees A → Type 0
  TreesAll P no_trees = Unit {0}
  TreesAll P (tree t ts) = TreeAll P t × TreesAll P ts

  pub TailAll : {A : Type 0} → (A → Type 0) → Tail A → Type 0
  TailAll P proper = Unit {0}
  TailAll P (dotted t) = TreeAll P t

mutual
  pub tree_more : {A : Type 0} (P Q : A → Type 0) → ((a : A) → P a → Q a) → (t : Tree A) → TreeAll P t → TreeAll Q t
  tree_more P Q h (name i o) e = h i e
  tree_more P Q h (atom a o) e = tt
  tree_more P Q h (list ts tail o) e = (trees_more P Q h ts e.0, tail_more P Q h tail e.1)
  tree_more P Q h (vector ts o) e = trees_more P Q h ts e

  pub trees_more : {A : Type 0} (P Q : A → Type 0) → ((a : A) → P a → Q a) → (ts : Trees A) → TreesAll P ts → TreesAll Q ts
  trees_more P Q h no_trees e = tt
  trees_more P Q h (tree t ts) e = (tree_more P Q h t e.0, trees_more P Q h ts e.1)

  pub tail_more : {A : Type 0} (P Q : A → Type 0) → ((a : A) → P a → Q a) → (tail : Tail A) → TailAll P tail → TailAll Q tail
  tail_more P Q h proper e = tt
  tail_more P Q h (dotted t) e = tree_more P Q h t e

-- maps that agree on each identifier of a tree
mutual
  pub tree_same : {A B : Type 0} (P : A → Type 0) (f g : A → B) → ((a : A) → P a → f a ≡ g a) → (t : Tree A) → TreeAll P t → map_tree f t ≡ map_tree g t
  tree_same P f g h (name i o) e = ap (λ x. name x o) (h i e)
  tree_same P f g h (atom a o) e = refl
  tree_same P f g h (list ts tail o) e = let us = trees_same P f g h ts e.0 in let end = tail_same P f g h tail e.1 in λ j. list (us j) (end j) o
  tree_same P f g h (vector ts o) e = ap (λ us. vector us o) (trees_same P f g h ts e)

  pub trees_same : {A B : Type 0} (P : A → Type 0) (f g : A → B) → ((a : A) → P a → f a ≡ g a) → (ts : Trees A) → TreesAll P ts → map_trees f ts ≡ map_trees g ts
  trees_same P f g h no_trees e = refl
  trees_same P f g h (tree t ts) e = let u = tree_same P f g h t e.0 in let us = trees_same P f g h ts e.1 in λ j. tree (u j) (us j)

  pub tail_same : {A B : Type 0} (P : A → Type 0) (f g : A → B) → ((a : A) → P a → f a ≡ g a) → (tail : Tail A) → TailAll P tail → map_tail f tail ≡ map_tail g tail
  tail_same P f g h proper e = refl
  tail_same P f g h (dotted t) e = ap dotted (tree_same P f g h t e)

-- ---- trees over identifiers that hold P

module _ (P : Ident → Type 0) where
  abbrev pub Holding : Type 0
  Holding = (i : Ident) × P i

  abbrev pub held : Holding → Ident
  held p = p.0

  abbrev mutual
    pub lift_tree : (t : Tree Ident) → TreeAll P t → Tree Holding
    lift_tree (name i o) e = name (i, e) o
    lift_tree (atom a o) e = atom a o
    lift_tree (list ts tail o) e = list (lift_trees ts e.0) (lift_tail tail e.1) o
    lift_tree (vector ts o) e = vector (lift_trees ts e) o

    pub lift_trees : (ts : Trees Ident) → TreesAll P ts → Trees Holding
    lift_trees no_trees e = no_trees
    lift_trees (tree t ts) e = tree (lift_tree t e.0) (lift_trees ts e.1)

    pub lift_tail : (tail : Tail Ident) → TailAll P tail → Tail Holding
    lift_tail proper e = proper
    lift_tail (dotted t) e = dotted (lift_tree t e)

  mutual
    pub lifted_tree : (t : Tree Ident) (e : TreeAll P t) → map_tree held (lift_tree t e) ≡ t
    lifted_tree (name i o) e = refl
    lifted_tree (atom a o) e = refl
    lifted_tree (list ts tail o) e = let us = lifted_trees ts e.0 in let end = lifted_tail tail e.1 in λ j. list (us j) (end j) o
    lifted_tree (vector ts o) e = ap (λ us. vector us o) (lifted_trees ts e)

    pub lifted_trees : (ts : Trees Ident) (e : TreesAll P ts) → map_trees held (lift_trees ts e) ≡ ts
    lifted_trees no_trees e = refl
    lifted_trees (tree t ts) e = let u = lifted_tree t e.0 in let us = lifted_trees ts e.1 in λ j. tree (u j) (us j)

    pub lifted_tail : (tail : Tail Ident) (e : TailAll P tail) → map_tail held (lift_tail tail e) ≡ tail
    lifted_tail proper e = refl
    lifted_tail (dotted t) e = ap dotted (lifted_tree t e)

  mutual
    pub all_held : (t : Tree Holding) → TreeAll P (map_tree held t)
    all_held (name p o) = p.1
    all_held (atom a o) = tt
    all_held (list ts tail o) = (all_held_trees ts, all_held_tail tail)
    all_held (vector ts o) = all_held_trees ts

    pub all_held_trees : (ts : Trees Holding) → TreesAll P (map_trees held ts)
    all_held_trees no_trees = tt
    all_held_trees (tree t ts) = (all_held t, all_held_trees ts)

    pub all_held_tail : (tail : Tail Holding) → TailAll P (map_tail held tail)
    all_held_tail proper = tt
    all_held_tail (dotted t) = all_held t

-- ---- trees that were made by then

module _ (w : Era) (u : Clock) where
  pub all_made_tree : (t : Tree Ident) → Made tree_kind w u t → TreeAll (Below w u) t
  all_made_tree t m = tree_more (Below w m.clock) (Below w u) (below_more w m.clock u m.earlier) t (subst (TreeAll (Below w m.clock)) m.same (all_held (Below w m.clock) m.made))

  pub all_made_trees : (ts : Trees Ident) → Made trees_kind w u ts → TreesAll (Below w u) ts
  all_made_trees ts m = trees_more (Below w m.clock) (Below w u) (below_more w m.clock u m.earlier) ts (subst (TreesAll (Below w m.clock)) m.same (all_held_trees (Below w m.clock) m.made))

-- ---- structures over identifiers that hold P

pub record Held (k : Kind) (P : Ident → Type 0) (x : k.of Ident) : Type 0 where
  pub made : k.of (Holding P)
  pub same : k.map (Holding P) Ident (held P) made ≡ x

pub held_more : (k : Kind) (P Q : Ident → Type 0) → ((i : Ident) → P i → Q i) → (x : k.of Ident) → Held k P x → Held k Q x
held_more k P Q h x m = record {
  made = k.map (Holding P) (Holding Q) (λ p. (p.0, h p.0 p.1)) m.made;
  same = k.fused (Holding P) (Holding Q) Ident (held Q) (λ p. (p.0, h p.0 p.1)) m.made ∙ m.same;
}

-- maps that agree where P holds
pub held_same : (k : Kind) (P : Ident → Type 0) (f g : Ident → Name) → ((i : Ident) → P i → f i ≡ g i) → (x : k.of Ident) → Held k P x → k.map Ident Name f x ≡ k.map Ident Name g x
held_same k P f g e x m =
    ap (k.map Ident Name f) (sym m.same)
    ∙ k.fused (Holding P) Ident Name f (held P) m.made
    ∙ mapped_same k (Holding P) Name (λ p. f p.0) (λ p. g p.0) (λ p. e p.0 p.1) m.made
    ∙ sym (k.fused (Holding P) Ident Name g (held P) m.made)
    ∙ ap (k.map Ident Name g) m.same

pub held_made : (k : Kind) (w : Era) (u : Clock) (x : k.of Ident) → Held k (Below w u) x → Made k w u x
held_made k w u x m = record { clock = u; earlier = leq_itself u; made = m.made; same = m.same }

pub made_held : (k : Kind) (w : Era) (u : Clock) (x : k.of Ident) → Made k w u x → Held k (Below w u) x
made_held k w u x m = record {
  made = k.map (Old w m.clock) (Old w u) (λ p. (p.0, below_more w m.clock u m.earlier p.0 p.1)) m.made;
  same = k.fused (Old w m.clock) (Old w u) Ident (ident_of w u) (λ p. (p.0, below_more w m.clock u m.earlier p.0 p.1)) m.made ∙ m.same;
}

pub tree_held : (P : Ident → Type 0) (t : Tree Ident) → Held tree_kind P t → TreeAll P t
tree_held P t m = subst (TreeAll P) m.same (all_held P m.made)

pub trees_held : (P : Ident → Type 0) (ts : Trees Ident) → Held trees_kind P ts → TreesAll P ts
trees_held P ts m = subst (TreesAll P) m.same (all_held_trees P m.made)
