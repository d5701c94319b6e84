-- The arms of the walk over a template: atoms, identifiers, and the two parts of an escape.
use Rattle.std.proofs.Common.{◌≡◌, ℕ, ◌-◌, ◌<◌, List, length, get_or, Bool, true, Option, Some, None, refl, sym, ap, ◌∙◌, subst, arith}
use Rattle.std.specs.Prelude.{slice_get, Ok, Err}
use Rattle.std.specs.Option.{option_map}
use Rattle.scheme_model.specs.declared.Occ.{Occ}
use Rattle.scheme_model.specs.Identifiers.{Number}
use Rattle.scheme_model.specs.Trees.{Atom, Numeral, Quoted, Character, Boolean, Bytes, Tree, name, atom, Trees, no_trees, tree, Tail}
use Rattle.scheme_model.specs.TreeParts.{count}
use Rattle.scheme_model.specs.Matching.{Binding, behind, ◌>>=◌}
use Rattle.scheme_model.specs.Building.{Built, built, alone, places_of, at_places, repeated, is_escape, build_tree}
use Rattle.scheme_model.specs.Ident.{Ident as Identifier}
use Rattle.syntax_tree.specs.Names.{Names}
use Rattle.syntax_tree.specs.Standing.{leaf_tree}
use Rattle.syntax_tree.specs.Looks.{PartsStand}
use Rattle.syntax_tree.specs.Works.{StandsFor}
use Rattle.syntax_tree.specs.declared.trees.Work.{Work}
use Rattle.syntax_tree.specs.declared.trees.table.Region.{Region}
use Rattle.syntax_tree.specs.declared.trees.nodes.Tree as number
use Rattle.syntax_tree.specs.declared.trees.nodes.Leaf.{Leaf}
use Rattle.syntax_tree.specs.declared.trees.nodes.Leaf.TheVariants as code
use Rattle.syntax_tree.proofs.Looking.{count_stands, part_there}
use Rattle.rules_build.specs.declared.fault.BuildFault.{BuildFault}
use Rattle.rules_build.specs.declared.fault.BuildFault.TheVariants as fault
use Rattle.rules_build.specs.declared.plan.Plan.TheVariants as plan
use Rattle.rules_build.specs.declared.plan.Plan.{Plan}
use Rattle.rules_build.specs.Drafts.{spent, plain}
use Rattle.rules_build.specs.Values.{Differ, HasPlaces}
use Rattle.rules_build.specs.Builds.{inserting, Fails, Plans}
use Rattle.rules_build.proofs.WalkLaws.{escape_there, fails_same, repeated_places, PartsUpTo}

-- ---- atoms

-- an atom without its place
bare : (f : List ℕ → Atom) (x : Option (List ℕ)) (o : Option Occ) (a : Atom) → option_map {U = Tree Identifier} (λ (s : List ℕ). atom (f s) o) x ≡ Some (atom a o) → option_map {U = Tree Identifier} (λ (s : List ℕ). atom (f s) None) x ≡ Some (atom a None)
bare f None o a h = absurd cc
bare f (Some s) o a h = let same : f s ≡ a = cc in ap (λ (b : Atom). Some (atom b None)) same

no_name : (x : Option Identifier) (o : Option Occ) (a : Atom) → option_map {U = Tree Identifier} (λ (j : Identifier). name j o) x ≡ Some (atom a o) → option_map {U = Tree Identifier} (λ (j : Identifier). name j None) x ≡ Some (atom a None)
no_name None o a h = absurd cc
no_name (Some j) o a h = absurd cc

pub leaf_bare : (names : Names) (leaf : Leaf) (a : Atom) (o : Option Occ) → leaf_tree names leaf o ≡ Some (atom a o) → leaf_tree names leaf None ≡ Some (atom a None)
leaf_bare names (code.Name i) a o h = no_name (slice_get names.idents i) o a h
leaf_bare names (code.Numeral k) a o h = bare Numeral (slice_get names.symbols k) o a h
leaf_bare names (code.Quoted k) a o h = bare Quoted (slice_get names.symbols k) o a h
leaf_bare names (code.Char c) a o h = let same : Character c ≡ a = cc in ap (λ (b : Atom). Some (atom b None)) same
leaf_bare names (code.Bool c) a o h = let same : Boolean c ≡ a = cc in ap (λ (b : Atom). Some (atom b None)) same
leaf_bare names (code.Bytes k) a o h = bare Bytes (slice_get names.symbols k) o a h

pub atom_planned : (work : Work) (region : Region) (k : Number) (dots : Identifier → Bool) (t : Tree Identifier) (a : Atom) (o : Option Occ) (leaf : Leaf) (ms : List (Binding Identifier Identifier)) (old new : Option ℕ) →
    t ≡ atom a o → leaf_tree work.symbols leaf o ≡ Some (atom a o) → new ≡ spent old 1 → Plans work region k old new (build_tree (inserting k) dots t ms) (Ok (plan.Atom leaf))
atom_planned work region k dots t a o leaf ms old new is h e = (
  built (atom a None) 1,
  ap (λ (x : Tree Identifier). build_tree (inserting k) dots x ms) is,
  e,
  λ s. (plain a, (leaf, refl, leaf_bare work.symbols leaf a o h), refl, omega arith),
)

-- ---- escapes

-- the template of an escape
pub record Inner (work : Work) (dots : Identifier → Bool) (ns : List number.Tree) (ts : Trees Identifier) (d : number.Tree) : Type 0 where
  pub first : Tree Identifier
  pub inner : Tree Identifier
  pub parts : ts ≡ tree first (tree inner no_trees)
  pub stands : StandsFor work (get_or ns 1 d) inner

pub escape_size : (work : Work) (dots : Identifier → Bool) (ns : List number.Tree) (ts : Trees Identifier) (tail : Tail Identifier) → PartsStand work ns ts → is_escape dots ts tail ≡ true → 1 < length ns
escape_size work dots ns ts tail h e =
    let x = (escape_there dots ts tail e).0 in
    let n = count_stands work ns ts h in
    let m : count ts ≡ 2 = ap count x.parts in
    omega (arith, n, m)

pub escape_inner : (work : Work) (dots : Identifier → Bool) (ns : List number.Tree) (ts : Trees Identifier) (tail : Tail Identifier) (d : number.Tree) → PartsStand work ns ts → is_escape dots ts tail ≡ true → Inner work dots ns ts d
escape_inner work dots ns ts tail d h e =
    let x = (escape_there dots ts tail e).0 in
    let p = part_there work 1 ns ts d h (escape_size work dots ns ts tail h e) in
    let split : tree x.inner no_trees ≡ tree p.part (behind 2 ts) = sym (ap (behind 1) x.parts) ∙ p.split in
    let same : p.part ≡ x.inner = cc in
    record { first = x.first; inner = x.inner; parts = x.parts; stands = subst (StandsFor work (get_or ns 1 d)) same p.stands }

-- ---- ellipses

abbrev Bindings : Type 0
Bindings = List (Binding Identifier Identifier)

pub differ_fails : {X Y : Type 0} (s : Option X) (u : Option Y) (e : BuildFault) → (s ≡ None → u ≡ None) → Differ s e → Fails u e
differ_fails s u fault.EllipsisLength f h = f h
differ_fails s u fault.NodeBudget f h = h
differ_fails s u fault.DepthBudget f h = h
differ_fails s u fault.Full f h = h
differ_fails s u fault.Memory f h = tt

-- without an ellipsis
pub once_is : (times : ℕ) (f : Bindings → Option (Built (Tree Identifier))) (ms : Bindings) → times ≡ 0 → (f ms >>= λ b. Some (alone b)) ≡ repeated times f ms
once_is times f ms z = sym (ap (λ (n : ℕ). repeated n f ms) z)

pub once_fails : (times : ℕ) (f : Bindings → Option (Built (Tree Identifier))) (ms : Bindings) (e : BuildFault) → times ≡ 0 → Fails (f ms) e → Fails (repeated times f ms) e
once_fails times f ms e z h = fails_same (f ms) (repeated times f ms) e (λ n. sym (once_is times f ms z) ∙ ap (λ (o : Option (Built (Tree Identifier))). o >>= λ b. Some (alone b)) n) h

-- with one left
pub left_is : (work : Work) (region : Region) (k : Number) (times n : ℕ) (f : Bindings → Option (Built (Tree Identifier))) (ms : Bindings) → (times ≡ 0 → ⊥) → HasPlaces (places_of None ms) (Ok n) → repeated times f ms ≡ at_places (repeated (times - 1) f) n ms
left_is work region k times n f ms l h = repeated_places work region k times f ms (Some h.0) l h.1 ∙ ap (λ (x : ℕ). at_places (repeated (times - 1) f) x ms) (sym h.2)

pub left_fails : (work : Work) (region : Region) (k : Number) (times : ℕ) (f : Bindings → Option (Built (Tree Identifier))) (ms : Bindings) (e : BuildFault) → (times ≡ 0 → ⊥) → HasPlaces (places_of None ms) (Err e) → Fails (repeated times f ms) e
left_fails work region k times f ms e l h = differ_fails (places_of None ms) (repeated times f ms) e (λ n. repeated_places work region k times f ms None l n) h

pub upto_same : (work : Work) (region : Region) (k : Number) (dots : Identifier → Bool) (ts : Trees Identifier) (ms : Bindings) (j : ℕ) (old mid new : Option ℕ) (ps qs rs : List Plan) → new ≡ mid → rs ≡ qs → PartsUpTo work region k dots ts ms j old mid ps qs →
    PartsUpTo work region k dots ts ms j old new ps rs
upto_same work region k dots ts ms j old mid new ps qs rs e f h =
    subst (λ (xs : List Plan). PartsUpTo work region k dots ts ms j old new ps xs) (sym f) (subst (λ (o : Option ℕ). PartsUpTo work region k dots ts ms j old o ps qs) (sym e) h)
