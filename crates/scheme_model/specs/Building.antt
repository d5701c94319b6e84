-- Building (R7RS 4.3.2): the instance of a template, and how many nodes are built for it.
use Rattle.std.specs.Prelude.{ℕ, zero, suc, ◌+◌, ◌==◌, nat_le, List, [], ◌∷◌, Bool, false, ◌||◌, ◌&&◌, Option, Some, None, is_some, Result, Ok, Err, if◌then◌else◌}
use Rattle.scheme_model.specs.declared.Occ.{Occ}
use Rattle.scheme_model.specs.Trees.{Tree, name, atom, list, vector, Trees, no_trees, tree, Tail, proper, dotted}
use Rattle.scheme_model.specs.TreeParts.{append}
use Rattle.scheme_model.specs.Measures.{tree_size, tree_depth}
use Rattle.scheme_model.specs.ExpansionFaults.{Fault, EllipsisLength, NodeBudget, DepthBudget, ◌>>◌}
use Rattle.scheme_model.specs.RulesShape.{Names, Rules, dots_of, is_dots, leading, escape_of, nowhere}
use Rattle.scheme_model.specs.Matching.{Value, One, Many, Values, no_values, value, Binding, ◌>>=◌, chosen}

-- a tree or trees that were built, and how many nodes were built for it; a variable's value counts 1
pub record Built (T : Type 0) : Type 0 where
  pub value : T
  pub count : ℕ

abbrev pub built : {T : Type 0} → T → ℕ → Built T
built t n = record { value = t; count = n }

abbrev pub value_of : {A B : Type 0} → (A → A → Bool) → List (Binding A B) → A → Option (Value B)
value_of same [] i = None
value_of same (b ∷ bs) i = if same b.variable i then Some b.value else value_of same bs i

-- ---- the places of an ellipsis

abbrev mutual
  pub stands_in : {A : Type 0} → (A → A → Bool) → A → Tree A → Bool
  stands_in same i (name j o) = same i j
  stands_in same i (atom a o) = false
  stands_in same i (list ts tail o) = stands_among same i ts || stands_behind same i tail
  stands_in same i (vector ts o) = stands_among same i ts

  pub stands_among : {A : Type 0} → (A → A → Bool) → A → Trees A → Bool
  stands_among same i no_trees = false
  stands_among same i (tree t ts) = stands_in same i t || stands_among same i ts

  pub stands_behind : {A : Type 0} → (A → A → Bool) → A → Tail A → Bool
  stands_behind same i proper = false
  stands_behind same i (dotted t) = stands_in same i t

-- the bindings of variables that stand in a part of a template
abbrev pub used_in : {A B : Type 0} → (A → A → Bool) → Tree A → List (Binding A B) → List (Binding A B)
used_in same t [] = []
used_in same t (b ∷ bs) = if stands_in same b.variable t then b ∷ used_in same t bs else used_in same t bs

abbrev pub value_count : {B : Type 0} → Values B → ℕ
value_count no_values = 0
value_count (value v vs) = suc (value_count vs)

-- how many places the ellipsis has by these variables: those with several values drive it, and must agree
abbrev pub agree : Option ℕ → ℕ → Option (Option ℕ)
agree None n = Some (Some n)
agree (Some m) n = if m == n then Some (Some m) else None

abbrev pub agree_with : {B : Type 0} → Option ℕ → Value B → Option (Option ℕ)
agree_with n (One t) = Some n
agree_with n (Many vs) = agree n (value_count vs)

abbrev pub places_of : {A B : Type 0} → Option ℕ → List (Binding A B) → Option (Option ℕ)
places_of n [] = Some n
places_of n (b ∷ bs) = agree_with n b.value >>= λ m. places_of m bs

-- what a variable stands for at the first place, and at the places after it; one with one value is the same everywhere
abbrev pub first_value : {B : Type 0} → Value B → Value B
first_value (One t) = One t
first_value (Many no_values) = Many no_values
first_value (Many (value v vs)) = v

abbrev pub later_values : {B : Type 0} → Value B → Value B
later_values (One t) = One t
later_values (Many no_values) = Many no_values
later_values (Many (value v vs)) = Many vs

abbrev pub first_place : {A B : Type 0} → List (Binding A B) → List (Binding A B)
first_place [] = []
first_place (b ∷ bs) = record { variable = b.variable; value = first_value b.value } ∷ first_place bs

abbrev pub later_places : {A B : Type 0} → List (Binding A B) → List (Binding A B)
later_places [] = []
later_places (b ∷ bs) = record { variable = b.variable; value = later_values b.value } ∷ later_places bs

abbrev pub or_zero : Option ℕ → ℕ
or_zero None = 0
or_zero (Some n) = n

-- ---- parts that an ellipsis repeats

abbrev pub Maker : (A B : Type 0) → Type 0
Maker A B = List (Binding A B) → Option (Built (Tree B))

abbrev pub joined : {B : Type 0} → Built (Trees B) → Built (Trees B) → Built (Trees B)
joined a b = built (append a.value b.value) (a.count + b.count)

abbrev pub alone : {B : Type 0} → Built (Tree B) → Built (Trees B)
alone b = built (tree b.value no_trees) b.count

-- at each of so many places
abbrev pub at_places : {A B : Type 0} → (List (Binding A B) → Option (Built (Trees B))) → ℕ → List (Binding A B) → Option (Built (Trees B))
at_places f zero bs = Some (built no_trees 0)
at_places f (suc n) bs = f (first_place bs) >>= λ a. at_places f n (later_places bs) >>= λ b. Some (joined a b)

-- under so many ellipses, the last of which is the outermost; the bindings are those of the variables that stand here
abbrev pub repeated : {A B : Type 0} → ℕ → Maker A B → List (Binding A B) → Option (Built (Trees B))
repeated zero f bs = f bs >>= λ b. Some (alone b)
repeated (suc n) f bs = places_of None bs >>= λ k. at_places (repeated n f) (or_zero k) bs

-- ---- templates

abbrev pub named_value : {A B : Type 0} → (A → B) → A → Option Occ → Option (Value B) → Tree B
named_value insert i o None = name (insert i) o
named_value insert i o (Some (Many vs)) = name (insert i) o
named_value insert i o (Some (One t)) = t

-- a list; where its parts all vanish before a tail it is the tail itself
abbrev pub list_built : {B : Type 0} → Built (Trees B) → Option (Built (Tree B)) → Built (Tree B)
list_built parts None = built (list parts.value proper None) (parts.count + 1)
list_built parts (Some tail) = with_tail parts.value parts.count tail
  where
    ended : {B : Type 0} → Trees B → ℕ → Tree B → ℕ → Built (Tree B)
    ended parts n (name i o) m = built (list parts (dotted (name i o)) None) (n + m + 1)
    ended parts n (atom a o) m = built (list parts (dotted (atom a o)) None) (n + m + 1)
    ended parts n (list us end o) m = built (list (append parts us) end None) (n + m + 1)
    ended parts n (vector us o) m = built (list parts (dotted (vector us o)) None) (n + m + 1)

    with_tail : {B : Type 0} → Trees B → ℕ → Built (Tree B) → Built (Tree B)
    with_tail no_trees n tail = tail
    with_tail (tree t ts) n tail = ended (tree t ts) n tail.value tail.count

-- `(... template)`
abbrev pub is_escape : {A : Type 0} → (A → Bool) → Trees A → Tail A → Bool
is_escape dots ts tail = is_some (escape_of dots ts tail)

pub record Template (A B : Type 0) : Type 0 where
  pub same : A → A → Bool
  pub insert : A → B

-- None where lengths differ
abbrev mutual
  pub build_tree : {A B : Type 0} → Template A B → (A → Bool) → Tree A → List (Binding A B) → Option (Built (Tree B))
  build_tree m dots (name i o) bs = Some (built (named_value m.insert i o (value_of m.same bs i)) 1)
  build_tree m dots (atom a o) bs = Some (built (atom a None) 1)
  build_tree m dots (vector ts o) bs = build_parts m dots ts bs >>= λ ps. Some (built (vector ps.value None) (ps.count + 1))
  build_tree m dots (list ts tail o) bs =
      chosen (is_escape dots ts tail) (λ u. build_escaped m ts bs)
      (λ u. build_parts m dots ts bs >>= λ ps. build_tail m dots tail bs >>= λ t. Some (list_built ps t))

  -- an ellipsis itself is no part
  pub build_parts : {A B : Type 0} → Template A B → (A → Bool) → Trees A → List (Binding A B) → Option (Built (Trees B))
  build_parts m dots no_trees bs = Some (built no_trees 0)
  build_parts m dots (tree t ts) bs =
      chosen (is_dots dots t) (λ u. build_parts m dots ts bs)
      (λ u. repeated (leading dots ts) (λ cs. build_tree m dots t cs) (used_in m.same t bs) >>= λ a. build_parts m dots ts bs >>= λ b. Some (joined a b))

  pub build_tail : {A B : Type 0} → Template A B → (A → Bool) → Tail A → List (Binding A B) → Option (Option (Built (Tree B)))
  build_tail m dots proper bs = Some None
  build_tail m dots (dotted t) bs = build_tree m dots t bs >>= λ b. Some (Some b)

  -- `(... template)`, in which ellipses are identifiers
  pub build_escaped : {A B : Type 0} → Template A B → Trees A → List (Binding A B) → Option (Built (Tree B))
  build_escaped m no_trees bs = None
  build_escaped m (tree t no_trees) bs = None
  build_escaped m (tree t (tree u us)) bs = build_tree m nowhere u bs

-- the most nodes and the greatest depth of a built tree
abbrev pub max_nodes : ℕ
max_nodes = 4194304

abbrev pub max_depth : ℕ
max_depth = 1000

abbrev pub within : {A B : Type 0} → ℕ → Built (Tree B) → Result (Built (Tree B)) (Fault A)
within left b =
    if nat_le b.count left && nat_le (tree_size b.value) max_nodes then (if nat_le (tree_depth b.value) max_depth then Ok b else Err DepthBudget)
    else Err NodeBudget

abbrev pub or_lengths : {A X : Type 0} → Option X → Result X (Fault A)
or_lengths None = Err EllipsisLength
or_lengths (Some x) = Ok x

-- the instance of a template, of which at most so many nodes may be built
abbrev pub build : {A B C : Type 0} → Names A → Rules A → (A → B) → Tree A → List (Binding A B) → ℕ → Result (Built (Tree B)) (Fault C)
build n r insert template bs left = or_lengths (build_tree (record { same = n.same; insert = insert }) (dots_of n r) template bs) >> within left
