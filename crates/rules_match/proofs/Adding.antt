-- What was matched, one after another.
use Rattle.std.proofs.Common.{◌≡◌, ℕ, ◌<◌, arith, List, [], ◌∷◌, ◌++◌, Bool, true, false, Option, Some, None, refl, sym, ap, ◌∙◌, subst, append_assoc}
use Rattle.std.proofs.lemmas.List.{append-nil}
use Rattle.scheme_model.specs.Trees.{Atom, Tree, name, atom, list, vector, Trees, no_trees, tree, Tail, proper}
use Rattle.scheme_model.specs.TreeParts.{count}
use Rattle.scheme_model.specs.ExpansionFaults.{Named}
use Rattle.scheme_model.specs.Matching.{Binding, One, Match, match_of, both, Matcher, behind, ◌>>=◌, at_end, when, match_atom, match_parts}
use Rattle.scheme_model.specs.Ident.{Ident as Identifier}
use Rattle.syntax_tree.specs.Macros.{IsIdent, AreBindings, AreLeaves, IsOne}
use Rattle.syntax_tree.specs.Works.{StandsFor}
use Rattle.syntax_tree.specs.declared.trees.Work.{Work}
use Rattle.syntax_tree.specs.declared.trees.nodes.Tree as number
use Rattle.syntax_tree.specs.declared.rules.Binding as code
use Rattle.rules_match.specs.declared.matching.Found.{Found}
use Rattle.rules_match.specs.Found.{Adds, Finds, FindsParts, later, is_atom}

-- ---- matches

abbrev pub no_match : {A B : Type 0} → Match A B
no_match = match_of [] []

pub both_none : {A B : Type 0} (m : Match A B) → both m no_match ≡ m
both_none m =
    let b = append-nil m.bindings in
    let l = append-nil m.met in
    λ k. match_of (b k) (l k)

pub both_assoc : {A B : Type 0} (m n o : Match A B) → both (both m n) o ≡ both m (both n o)
both_assoc m n o =
    let b = append_assoc m.bindings n.bindings o.bindings in
    let l = append_assoc m.met n.met o.met in
    λ k. match_of (b k) (l k)

pub later_none : {A B : Type 0} (o : Option (Match A B)) → later no_match o ≡ o
later_none None = refl
later_none (Some n) = refl

pub later_both : {A B : Type 0} (m n : Match A B) (o : Option (Match A B)) → later m (later n o) ≡ later (both m n) o
later_both m n None = refl
later_both m n (Some o) = ap Some (sym (both_assoc m n o))

pub later_bind : {A B : Type 0} (n : Match A B) (o : Option (Match A B)) → (o >>= λ b. Some (both n b)) ≡ later n o
later_bind n None = refl
later_bind n (Some o) = refl

-- ---- bindings and leaves

pub bindings_append : (work : Work) (bs cs : List code.Binding) (ms ns : List (Binding Identifier Identifier)) → AreBindings work bs ms → AreBindings work cs ns → AreBindings work (bs ++ cs) (ms ++ ns)
bindings_append work [] cs [] ns h g = g
bindings_append work [] cs (m ∷ ms) ns h g = absurd h
bindings_append work (b ∷ bs) cs [] ns h g = absurd h
bindings_append work (b ∷ bs) cs (m ∷ ms) ns h g = (h.0, bindings_append work bs cs ms ns h.1 g)

pub leaves_append : (work : Work) (ns ls : List number.Tree) (is js : List (Named Identifier)) → AreLeaves work ns is → AreLeaves work ls js → AreLeaves work (ns ++ ls) (is ++ js)
leaves_append work [] ls [] js h g = g
leaves_append work [] ls (i ∷ is) js h g = absurd h
leaves_append work (n ∷ ns) ls [] js h g = absurd h
leaves_append work (n ∷ ns) ls (i ∷ is) js h g = (h.0, leaves_append work ns ls is js h.1 g)

-- ---- what is added

pub adds_nothing : (work : Work) (f : Found) → Adds work f f no_match
adds_nothing work f = record { bindings = []; bound = sym (append-nil f.bindings.items); are_bound = tt; leaves = []; met = sym (append-nil f.leaves.items); are_met = tt }

pub adds_both : (work : Work) (f g h : Found) (m n : Match Identifier Identifier) → Adds work f g m → Adds work g h n → Adds work f h (both m n)
adds_both work f g h m n p q =
    record {
      bindings = p.bindings ++ q.bindings;
      bound = q.bound ∙ ap (λ x. x ++ q.bindings) p.bound ∙ append_assoc f.bindings.items p.bindings q.bindings;
      are_bound = bindings_append work p.bindings q.bindings m.bindings n.bindings p.are_bound q.are_bound;
      leaves = p.leaves ++ q.leaves;
      met = q.met ∙ ap (λ x. x ++ q.leaves) p.met ∙ append_assoc f.leaves.items p.leaves q.leaves;
      are_met = leaves_append work p.leaves q.leaves m.met n.met p.are_met q.are_met;
    }

-- a variable with its tree
pub adds_one : (work : Work) (f g : Found) (b : code.Binding) (v : ℕ) (i : Identifier) (t : Tree Identifier) → g.bindings.items ≡ f.bindings.items ++ b ∷ [] → g.leaves.items ≡ f.leaves.items → IsIdent work.symbols v i →
    IsOne work b v t → Adds work f g (match_of (record { variable = i; value = One t } ∷ []) [])
adds_one work f g b v i t e l h o =
    record { bindings = b ∷ []; bound = e; are_bound = ((v, h, o), tt); leaves = []; met = l ∙ sym (append-nil f.leaves.items); are_met = tt }

-- a leaf that met a literal
pub adds_leaf : (work : Work) (f g : Found) (n : number.Tree) (i : Named Identifier) → g.bindings.items ≡ f.bindings.items → g.leaves.items ≡ f.leaves.items ++ n ∷ [] → StandsFor work n (name i.name i.occ) →
    Adds work f g (match_of [] (i ∷ []))
adds_leaf work f g n i b l h = record { bindings = []; bound = b ∙ sym (append-nil f.bindings.items); are_bound = tt; leaves = n ∷ []; met = l; are_met = (h, tt) }

-- ---- what is found

pub finds_same : (work : Work) (f g : Found) (s u : Option (Match Identifier Identifier)) (b : Bool) → s ≡ u → Finds work f g s b → Finds work f g u b
finds_same work f g s u b e h = subst (λ x. Finds work f g x b) e h

-- what was matched before, and then the rest
pub finds_later : (work : Work) (f g h : Found) (n : Match Identifier Identifier) (s : Option (Match Identifier Identifier)) (b : Bool) → Adds work f g n → Finds work g h s b → Finds work f h (later n s) b
finds_later work f g h n s true a q = (both n q.0, ap (later n) q.1, adds_both work f g h n q.0 a q.2)
finds_later work f g h n s false a q = ap (later n) q

-- the parts match up to a place, and the rest as a tail
pub parts_then : (work : Work) (m : Matcher Identifier Identifier) (ps ts : Trees Identifier) (from j : ℕ) (f g h : Found) (rest : Trees Identifier → Tail Identifier → Option (Match Identifier Identifier)) (end : Tail Identifier) (b : Bool) →
    FindsParts work m ps ts from f g (Some j) → Finds work g h (rest (behind j ts) end) b → Finds work f h (match_parts m (behind from ps) rest (behind from ts) end) b
parts_then work m ps ts from j f g h rest end b p q =
    finds_same work f h (later p.0 (rest (behind j ts) end)) (match_parts m (behind from ps) rest (behind from ts) end) b (sym (p.2 rest end)) (finds_later work f g h p.0 (rest (behind j ts) end) b p.1 q)

pub finds_true : (work : Work) (f g : Found) (s : Option (Match Identifier Identifier)) (b : Bool) → b ≡ true → Finds work f g s b → (m : Match Identifier Identifier) × (s ≡ Some m) × Adds work f g m
finds_true work f g s true e h = h
finds_true work f g s false e h = absurd cc

pub finds_false : (work : Work) (f g : Found) (s : Option (Match Identifier Identifier)) (b : Bool) → b ≡ false → Finds work f g s b → s ≡ None
finds_false work f g s true e h = absurd cc
finds_false work f g s false e h = h

-- a list at its end, or before it
pub end_found : (work : Work) (f : Found) (us : Trees Identifier) (b : Bool) → (b ≡ true → count us ≡ 0) → (b ≡ false → 0 < count us) → Finds work f f (at_end us proper) b
end_found work f no_trees true h g = (no_match, refl, adds_nothing work f)
end_found work f no_trees false h g = let e = g refl in absurd (omega arith)
end_found work f (tree t us) true h g = let e = h refl in absurd (omega arith)
end_found work f (tree t us) false h g = refl

-- an atom
pub atom_found : (work : Work) (f : Found) (a : Atom) (t : Tree Identifier) (b : Bool) → b ≡ is_atom a t → Finds work f f (match_atom a t) b
atom_found work f a (name i o) true h = absurd cc
atom_found work f a (name i o) false h = refl
atom_found work f a (list ts end o) true h = absurd cc
atom_found work f a (list ts end o) false h = refl
atom_found work f a (vector ts o) true h = absurd cc
atom_found work f a (vector ts o) false h = refl
atom_found work f a (atom c o) true h = (no_match, ap (λ (x : Bool). when x no_match) (sym h), adds_nothing work f)
atom_found work f a (atom c o) false h = ap (λ (x : Bool). when {A = Identifier} {B = Identifier} x no_match) (sym h)
