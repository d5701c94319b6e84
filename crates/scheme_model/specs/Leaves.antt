-- The leaves of rules that mean something where their macro is defined (R7RS 4.3.2).
use Rattle.std.specs.Prelude.{List, [], ◌∷◌, ◌++◌, map, Bool, true, false, ◌||◌}
use Rattle.scheme_model.specs.Trees.{Tree, name, atom, list, vector, Trees, no_trees, tree, Tail, proper, dotted}
use Rattle.scheme_model.specs.ExpansionFaults.{Named, named}
use Rattle.scheme_model.specs.Shapes.{is_among}
use Rattle.scheme_model.specs.RulesShape.{Rule, Rules, Names, Role, IsLiteral, IsEllipsis, IsAny, IsVariable, role_of, dots_of, nowhere, pattern_variables}
use Rattle.scheme_model.specs.Building.{is_escape}

pub record Leaf (A : Type 0) : Type 0 where
  pub leaf : Named A
  pub literal : Bool

abbrev pub literal_at : {A : Type 0} → Role → Named A → List (Leaf A)
literal_at IsLiteral n = record { leaf = n; literal = true } ∷ []
literal_at IsEllipsis n = []
literal_at IsAny n = []
literal_at IsVariable n = []

-- the literals in a pattern
abbrev mutual
  pub pattern_leaves : {A : Type 0} → (A → Role) → Tree A → List (Leaf A)
  pattern_leaves role (name i o) = literal_at (role i) (named i o)
  pattern_leaves role (atom a o) = []
  pattern_leaves role (list ts tail o) = leaves_among role ts ++ leaves_behind role tail
  pattern_leaves role (vector ts o) = leaves_among role ts

  pub leaves_among : {A : Type 0} → (A → Role) → Trees A → List (Leaf A)
  leaves_among role no_trees = []
  leaves_among role (tree t ts) = pattern_leaves role t ++ leaves_among role ts

  pub leaves_behind : {A : Type 0} → (A → Role) → Tail A → List (Leaf A)
  leaves_behind role proper = []
  leaves_behind role (dotted t) = pattern_leaves role t

abbrev pub unless : {A : Type 0} → Bool → Named A → List (Leaf A)
unless true n = []
unless false n = record { leaf = n; literal = false } ∷ []

abbrev pub if_escape : {X : Type 0} → Bool → X → X → X
if_escape true escaped other = escaped
if_escape false escaped other = other

-- the identifiers of a template that are neither variables nor ellipses
abbrev mutual
  pub template_leaves : {A : Type 0} → (A → Bool) → (A → Bool) → Tree A → List (Leaf A)
  template_leaves dots variable (name i o) = unless (dots i || variable i) (named i o)
  template_leaves dots variable (atom a o) = []
  template_leaves dots variable (list ts tail o) = if_escape (is_escape dots ts tail) (behind_dots variable ts) (template_among dots variable ts ++ template_behind dots variable tail)
  template_leaves dots variable (vector ts o) = template_among dots variable ts

  pub template_among : {A : Type 0} → (A → Bool) → (A → Bool) → Trees A → List (Leaf A)
  template_among dots variable no_trees = []
  template_among dots variable (tree t ts) = template_leaves dots variable t ++ template_among dots variable ts

  pub template_behind : {A : Type 0} → (A → Bool) → (A → Bool) → Tail A → List (Leaf A)
  template_behind dots variable proper = []
  template_behind dots variable (dotted t) = template_leaves dots variable t

  -- in an escape ellipses are identifiers; its own first part is none
  pub behind_dots : {A : Type 0} → (A → Bool) → Trees A → List (Leaf A)
  behind_dots variable no_trees = []
  behind_dots variable (tree t no_trees) = []
  behind_dots variable (tree t (tree u us)) = template_leaves nowhere variable u

abbrev pub rule_leaves : {A : Type 0} → Names A → Rules A → Rule A → List (Leaf A)
rule_leaves n r rule =
    leaves_among (role_of n r) rule.parts ++ leaves_behind (role_of n r) rule.tail ++
    template_leaves (dots_of n r) (λ i. is_among n.same i (map (λ v. v.variable) (pattern_variables n r rule))) rule.template

abbrev pub all_rule_leaves : {A : Type 0} → Names A → Rules A → List (Rule A) → List (Leaf A)
all_rule_leaves n r [] = []
all_rule_leaves n r (rule ∷ rules) = rule_leaves n r rule ++ all_rule_leaves n r rules

-- the literals in their list, and then rule by rule the literals of the pattern and the leaves of the template
abbrev pub leaves_of : {A : Type 0} → Names A → Rules A → List (Leaf A)
leaves_of n r = map (λ l. record { leaf = l; literal = true }) r.literals ++ all_rule_leaves n r r.rules
