-- What matching of a part adds to what was matched before.
use Rattle.std.specs.Prelude.{◌≡◌, ℕ, List, [], ◌∷◌, ◌++◌, map, Bool, true, false, Option, Some, None, Vec}
use Rattle.std.specs.declared.alloc.Global.{Global}
use Rattle.std.specs.declared.cmp.Ordering.{Ordering}
use Rattle.std.specs.Ordering.{nat_cmp, ordering_then}
use Rattle.std.specs.BTreeSet.{contains}
use Rattle.scheme_model.specs.Trees.{Atom, Tree as ModelTree, name, atom, list, vector, Trees, Tail}
use Rattle.scheme_model.specs.RulesShape.{Rules}
use Rattle.scheme_model.specs.Matching.{same_atom, Values, no_values, Match, both, Matcher as ModelMatcher, behind, match_parts}
use Rattle.scheme_model.specs.Ident.{Ident as Identifier}
use Rattle.syntax_tree.specs.Macros.{IsIdent, TellsRoles, AreValues, AreBindings, AreLeaves}
use Rattle.syntax_tree.specs.Bound.{PlacesNamed, BindingsNamed}
use Rattle.syntax_tree.specs.declared.trees.Work.{Work}
use Rattle.syntax_tree.specs.declared.trees.table.Region.{Region}
use Rattle.syntax_tree.specs.declared.trees.nodes.Tree.{Tree}
use Rattle.syntax_tree.specs.declared.rules.Binding.{Binding}
use Rattle.syntax_tree.specs.declared.rules.Binding.TheVariants as bound
use Rattle.rules_match.specs.declared.matching.Matcher.{Matcher}
use Rattle.rules_match.specs.declared.matching.Found.{Found}
use Rattle.rules_match.specs.declared.columns.Column.{Column}

-- ---- what matching knows

-- pairs of numbers by their first and then by their second
abbrev pub pair_cmp : ℕ × ℕ → ℕ × ℕ → Ordering
pair_cmp p q = ordering_then (nat_cmp p.0 q.0) (nat_cmp p.1 q.1)

-- it tells the roles of the rules' identifiers, and has the pairs of a literal and an identifier that mean the same
pub record Knows (code : Matcher) (r : Rules Identifier) (same : Identifier → Identifier → Bool) : Type 0 where
  pub tells : TellsRoles code.work.now.symbols code.roles.now r
  pub means : (n m : ℕ) (i j : Identifier) → IsIdent code.work.now.symbols n i → IsIdent code.work.now.symbols m j → contains pair_cmp code.same.now (n, m) ≡ same i j

-- it does so for some rules
abbrev pub IsKnowing : Matcher → Type 0
IsKnowing code = (r : Rules Identifier) × ((same : Identifier → Identifier → Bool) × Knows code r same)

-- the tree is this atom
abbrev pub is_atom : Atom → ModelTree Identifier → Bool
is_atom a (name i o) = false
is_atom a (atom b o) = same_atom a b
is_atom a (list ts tail o) = false
is_atom a (vector ts o) = false

-- ---- what is added

-- bindings and leaves were added
pub record Adds (work : Work) (old new : Found) (m : Match Identifier Identifier) : Type 0 where
  pub bindings : List Binding
  pub bound : new.bindings.items ≡ old.bindings.items ++ bindings
  pub are_bound : AreBindings work bindings m.bindings
  pub leaves : List Tree
  pub met : new.leaves.items ≡ old.leaves.items ++ leaves
  pub are_met : AreLeaves work leaves m.met

-- the part matches, and what it gives was added; or it doesn't match
abbrev pub Finds : Work → Found → Found → Option (Match Identifier Identifier) → Bool → Type 0
Finds work old new s true = (m : Match Identifier Identifier) × (s ≡ Some m) × Adds work old new m
Finds work old new s false = s ≡ None

-- what was matched before
abbrev pub later : {A B : Type 0} → Match A B → Option (Match A B) → Option (Match A B)
later m None = None
later m (Some n) = Some (both m n)

-- parts from a place on match up to a place of the form, whatever follows; or they don't match
abbrev pub FindsParts : Work → ModelMatcher Identifier Identifier → Trees Identifier → Trees Identifier → ℕ → Found → Found → Option ℕ → Type 0
FindsParts work m ps ts from old new (Some j) =
    (n : Match Identifier Identifier) × Adds work old new n
    × ((rest : Trees Identifier → Tail Identifier → Option (Match Identifier Identifier)) (end : Tail Identifier) → match_parts m (behind from ps) rest (behind from ts) end ≡ later n (rest (behind j ts) end))
FindsParts work m ps ts from old new None =
    (rest : Trees Identifier → Tail Identifier → Option (Match Identifier Identifier)) (end : Tail Identifier) → match_parts m (behind from ps) rest (behind from ts) end ≡ None

-- ---- columns

-- variables with what they stand for at the places so far
abbrev pub AreColumns : Work → List Column → List (Identifier × Values Identifier) → Type 0
AreColumns work [] [] = Unit {0}
AreColumns work [] (c ∷ cs) = ⊥
AreColumns work (k ∷ ks) [] = ⊥
AreColumns work (k ∷ ks) (c ∷ cs) = IsIdent work.symbols k.variable c.0 × AreValues work k.values.items k.variable c.1 × AreColumns work ks cs

-- variables with no place
abbrev pub no_places : List Identifier → List (Identifier × Values Identifier)
no_places is = map (λ i. (i, no_values)) is

-- variables with no place were added
pub record AddsColumns (work : Work) (old new : Vec Column Global) (is : List Identifier) : Type 0 where
  pub more : List Column
  pub added : new.items ≡ old.items ++ more
  pub are : AreColumns work more (no_places is)

-- each column has one more value at its end
abbrev pub Spreads : List Binding → List Column → List Column → Type 0
Spreads [] ks ls = ls ≡ ks
Spreads (b ∷ bs) [] ls = ⊥
Spreads (b ∷ bs) (k ∷ ks) [] = ⊥
Spreads (b ∷ bs) (k ∷ ks) (l ∷ ls) = (l.variable ≡ k.variable) × (l.values.items ≡ k.values.items ++ b ∷ []) × Spreads bs ks ls

-- the binding of a variable with places
abbrev pub many_of : Column → Binding
many_of k = bound.Many k.variable k.values

-- ---- what nodes of a region may name

-- what the bindings so far name
abbrev pub FoundNamed : Work → Region → Found → Type 0
FoundNamed work region found = BindingsNamed work region found.bindings.items

-- what the columns so far name
abbrev pub ColumnsNamed : Work → Region → List Column → Type 0
ColumnsNamed work region [] = Unit {0}
ColumnsNamed work region (k ∷ ks) = PlacesNamed work region k.values.items × ColumnsNamed work region ks
