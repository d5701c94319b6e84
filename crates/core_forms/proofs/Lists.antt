-- Rows by their first tree, and lists by their tails.
use Rattle.std.proofs.Common.{◌≡◌, ◌≢◌, ℕ, zero, suc, ◌+◌, ◌<◌, ◌≤◌, List, [], ◌∷◌, ◌++◌, length, true, false, Option, Some, None, Result, Ok, Err, refl, subst, arith}
use Rattle.std.proofs.lemmas.Option.{same_Some}
use Rattle.scheme_model.specs.Trees.{Tree, Trees, no_trees, tree, Tail, proper, dotted}
use Rattle.scheme_model.specs.TreeParts.{count}
use Rattle.scheme_model.specs.Matching.{behind}
use Rattle.scheme_model.specs.ExpansionFaults.{Named, Fault, BadForm, ◌>>◌}
use Rattle.scheme_model.specs.Shapes.{Formals, name_of, names_of, formals_in, one_of, if_of}
use Rattle.scheme_model.specs.Ident.{Ident as Identifier}
use Rattle.syntax_tree.specs.Works.{StandsFor}
use Rattle.syntax_tree.specs.Looks.{PartsStand, EndStands}
use Rattle.syntax_tree.specs.declared.trees.Work.{Work}
use Rattle.syntax_tree.specs.declared.trees.nodes.Tree as number

pub row_empty : (work : Work) (ns : List number.Tree) (ts : Trees Identifier) → ns ≡ [] → PartsStand work ns ts → ts ≡ no_trees
row_empty work [] no_trees e h = refl
row_empty work [] (tree t ts) e h = absurd h
row_empty work (n ∷ ns) ts e h = absurd cc

pub row_parts : (work : Work) (ns : List number.Tree) (n : number.Tree) (ms : List number.Tree) (ts : Trees Identifier) → ns ≡ n ∷ ms → PartsStand work ns ts →
    (t : Tree Identifier) × (us : Trees Identifier) × (ts ≡ tree t us) × StandsFor work n t × PartsStand work ms us
row_parts work ns n ms no_trees e h = absurd (subst (λ (x : List number.Tree). PartsStand work x no_trees) e h)
row_parts work ns n ms (tree t us) e h = let g = subst (λ (x : List number.Tree). PartsStand work x (tree t us)) e h in (t, us, refl, g.0, g.1)

-- `if` has two parts or three
pub if_few : (ts : Trees Identifier) → count ts < 2 → if_of ts proper ≡ Err BadForm
if_few no_trees h = refl
if_few (tree t no_trees) h = refl
if_few (tree t (tree u us)) h = absurd (omega arith)

pub if_many : (ts : Trees Identifier) → 3 < count ts → if_of ts proper ≡ Err BadForm
if_many no_trees h = absurd (omega arith)
if_many (tree t no_trees) h = absurd (omega arith)
if_many (tree t (tree u no_trees)) h = absurd (omega arith)
if_many (tree t (tree u (tree v no_trees))) h = absurd (omega arith)
if_many (tree t (tree u (tree v (tree w vs)))) h = refl

pub nothing_in : {A : Type 0} (xs : List A) → length xs ≡ 0 → xs ≡ []
nothing_in [] h = refl
nothing_in (x ∷ xs) h = absurd (omega arith)

-- formals begin with the names before the tail
pub formals_start : (ts : Trees Identifier) (tail : Tail Identifier) → (f : (List (Named Identifier) → Result (Formals Identifier) (Fault Identifier))) × (formals_in ts tail ≡ (names_of ts >> f))
formals_start ts proper = ((λ ns. Ok (record { names = ns; rest = false })), refl)
formals_start ts (dotted t) = ((λ ns. name_of t >> λ n. Ok (record { names = ns ++ n ∷ []; rest = true })), refl)

-- the tree of a tail that is there
pub end_tree : (work : Work) (end : Option number.Tree) (n : number.Tree) (tail : Tail Identifier) → end ≡ Some n → EndStands work end tail → (t : Tree Identifier) × (tail ≡ dotted t) × StandsFor work n t
end_tree work None n tail e h = absurd cc
end_tree work (Some m) n proper e h = absurd h
end_tree work (Some m) n (dotted t) e h = (t, refl, subst (λ (x : number.Tree). StandsFor work x t) (same_Some m n e) h.1)

-- ---- one tree alone

pub one_not : (ts : Trees Identifier) (tail : Tail Identifier) → count ts ≢ 1 → one_of ts tail ≡ Err BadForm
one_not no_trees tail h = refl
one_not (tree t no_trees) tail h = absurd (h refl)
one_not (tree t (tree u us)) tail h = refl

pub one_dotted : (ts : Trees Identifier) (u : Tree Identifier) → one_of ts (dotted u) ≡ Err BadForm
one_dotted no_trees u = refl
one_dotted (tree t no_trees) u = refl
one_dotted (tree t (tree v vs)) u = refl

pub count_behind : (k : ℕ) (ts : Trees Identifier) → k ≤ count ts → count (behind k ts) + k ≡ count ts
count_behind zero ts h = omega arith
count_behind (suc k) no_trees h = absurd (omega arith)
count_behind (suc k) (tree t ts) h = omega (arith, count_behind k ts (omega arith))

pub if_fits : (ts : Trees Identifier) → 2 ≤ count ts → count ts ≤ 3 → if_of ts proper ≡ Ok ts
if_fits no_trees h g = absurd (omega arith)
if_fits (tree t no_trees) h g = absurd (omega arith)
if_fits (tree t (tree u no_trees)) h g = refl
if_fits (tree t (tree u (tree v no_trees))) h g = refl
if_fits (tree t (tree u (tree v (tree w vs)))) h g = absurd (omega arith)

pub if_dotted : (ts : Trees Identifier) (u : Tree Identifier) → if_of ts (dotted u) ≡ Err BadForm
if_dotted ts u = refl
