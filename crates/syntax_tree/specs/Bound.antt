-- What nodes of a region may name of the bindings of a match (R7RS 4.3.2).
use Rattle.std.specs.Prelude.{◌≡◌, ℕ, List, [], ◌∷◌, Vec}
use Rattle.std.specs.declared.alloc.Global.{Global}
use Rattle.scheme_model.specs.RulesShape.{Rules}
use Rattle.scheme_model.specs.Matching.{Value, One, Many, Values, no_values, value, Binding, Chosen}
use Rattle.scheme_model.specs.Ident.{Ident as Identifier}
use Rattle.syntax_tree.specs.Works.{CanName}
use Rattle.syntax_tree.specs.Macros.{RulesFor, MatchedFor}
use Rattle.syntax_tree.specs.declared.trees.Work.{Work}
use Rattle.syntax_tree.specs.declared.trees.table.Region.{Region}
use Rattle.syntax_tree.specs.declared.trees.nodes.Tree as number
use Rattle.syntax_tree.specs.declared.rules.Rules as code_rules
use Rattle.syntax_tree.specs.declared.rules.Binding as code_binding
use Rattle.syntax_tree.specs.declared.rules.Binding.TheVariants as bound
use Rattle.syntax_tree.specs.declared.rules.Matched as code_matched

-- nodes of the region may name each node that a binding names
abbrev mutual
  pub MayNameValue : Work → Region → code_binding.Binding → Value Identifier → Type 0
  MayNameValue work region b (One t) =
      ((v : ℕ) (n : number.Tree) → b ≡ bound.One v n → CanName work region n) × ((v : ℕ) (n : number.Tree) (from : ℕ) → b ≡ bound.Rest v n from → CanName work region n)
  MayNameValue work region b (Many vs) = (v : ℕ) (list : Vec code_binding.Binding Global) → b ≡ bound.Many v list → MayNameValues work region list.items vs

  pub MayNameValues : Work → Region → List code_binding.Binding → Values Identifier → Type 0
  MayNameValues work region [] vs = Unit {0}
  MayNameValues work region (b ∷ bs) no_values = Unit {0}
  MayNameValues work region (b ∷ bs) (value x xs) = MayNameValue work region b x × MayNameValues work region bs xs

abbrev pub MayNameBindings : Work → Region → List code_binding.Binding → List (Binding Identifier Identifier) → Type 0
MayNameBindings work region [] ms = Unit {0}
MayNameBindings work region (b ∷ bs) [] = Unit {0}
MayNameBindings work region (b ∷ bs) (m ∷ ms) = MayNameValue work region b m.value × MayNameBindings work region bs ms

-- ---- whatever the bindings stand for

abbrev pub BindingNamed : Work → Region → code_binding.Binding → Type 0
BindingNamed work region b = (x : Value Identifier) → MayNameValue work region b x

-- those of the places of an ellipsis
abbrev pub PlacesNamed : Work → Region → List code_binding.Binding → Type 0
PlacesNamed work region bs = (xs : Values Identifier) → MayNameValues work region bs xs

abbrev pub BindingsNamed : Work → Region → List code_binding.Binding → Type 0
BindingsNamed work region bs = (ms : List (Binding Identifier Identifier)) → MayNameBindings work region bs ms

-- ---- a whole match

-- a match of one of these rules, whose bindings nodes of the region may name
abbrev pub IsMatched : Work → Region → code_rules.Rules → code_matched.Matched → Type 0
IsMatched work region rules matched =
    (r : Rules Identifier) × (m : Chosen Identifier Identifier) × RulesFor work rules r × MatchedFor work matched r m × MayNameBindings work region matched.bindings m.match.bindings
