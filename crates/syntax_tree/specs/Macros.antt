-- What the rules of the code stand for, and what a match of them stands for (R7RS 4.3.2).
use Rattle.std.specs.Prelude.{◌≡◌, ◌⊎◌, ℕ, ◌≤◌, true, List, [], ◌∷◌, nat_eq, Option, Some, None, Ok, slice_get, Vec}
use Rattle.std.specs.declared.alloc.Global.{Global}
use Rattle.std.specs.BTreeSet.{contains}
use Rattle.std.specs.List.{list_any}
use Rattle.std.specs.Ordering.{nat_cmp}
use Rattle.scheme_model.specs.declared.Occ.{Occ}
use Rattle.scheme_model.specs.Trees.{Tree, name, list, Trees, tree, Tail}
use Rattle.scheme_model.specs.TreeParts.{count}
use Rattle.scheme_model.specs.ExpansionFaults.{Named}
use Rattle.scheme_model.specs.RulesShape.{Names as RuleNames, Rule, Rules, Role, IsLiteral, IsEllipsis, IsAny, IsVariable, check_rules}
use Rattle.scheme_model.specs.Matching.{Value, One, Many, Values, no_values, value, Binding, Match, Chosen, rest_of, behind}
use Rattle.scheme_model.specs.Ident.{Ident as Identifier, symbol_of, same_ident}
use Rattle.syntax_tree.specs.Names.{Names}
use Rattle.syntax_tree.specs.Standing.{is_list}
use Rattle.syntax_tree.specs.Works.{StandsFor}
use Rattle.syntax_tree.specs.declared.trees.Work.{Work}
use Rattle.syntax_tree.specs.declared.trees.nodes.Tree as number
use Rattle.syntax_tree.specs.declared.rules.Rule as code_rule
use Rattle.syntax_tree.specs.declared.rules.Rules as code_rules
use Rattle.syntax_tree.specs.declared.rules.Roles.{Roles}
use Rattle.syntax_tree.specs.declared.rules.Role as code_role
use Rattle.syntax_tree.specs.declared.rules.Role.TheVariants as role
use Rattle.syntax_tree.specs.declared.rules.Binding as code_binding
use Rattle.syntax_tree.specs.declared.rules.Binding.TheVariants as bound
use Rattle.syntax_tree.specs.declared.rules.Matched as code_matched

-- ---- identifiers of rules

-- which identifiers are one, and their symbols
abbrev pub identifiers : RuleNames Identifier
identifiers = record { same = same_ident; strip = symbol_of }

-- the number of an identifier
abbrev pub IsIdent : Names → ℕ → Identifier → Type 0
IsIdent names n i = slice_get names.idents n ≡ Some i

-- the numbers of these identifiers, in order
abbrev pub AreIdents : Names → List ℕ → List (Named Identifier) → Type 0
AreIdents names [] [] = Unit {0}
AreIdents names [] (i ∷ is) = ⊥
AreIdents names (n ∷ ns) [] = ⊥
AreIdents names (n ∷ ns) (i ∷ is) = IsIdent names n i.name × AreIdents names ns is

-- the number of an ellipsis, where there is one
abbrev pub IsEllipsisOf : Names → Option ℕ → Option Identifier → Type 0
IsEllipsisOf names None None = Unit {0}
IsEllipsisOf names None (Some i) = ⊥
IsEllipsisOf names (Some n) None = ⊥
IsEllipsisOf names (Some n) (Some i) = IsIdent names n i

abbrev pub role_as : code_role.Role → Role
role_as role.Literal = IsLiteral
role_as role.Ellipsis = IsEllipsis
role_as role.Any = IsAny
role_as role.Variable = IsVariable

-- it has this ellipsis and these literals
pub record AreRolesOf (roles : Roles) (ellipsis : Option ℕ) (literals : List ℕ) : Type 0 where
  pub own : roles.ellipsis ≡ ellipsis
  pub has : (n : ℕ) → contains nat_cmp roles.literals n ≡ list_any (nat_eq n) literals

-- it tells the roles of the identifiers of these rules
pub record TellsRoles (names : Names) (roles : Roles) (r : Rules Identifier) : Type 0 where
  pub numbers : List ℕ
  pub has : (n : ℕ) → contains nat_cmp roles.literals n ≡ list_any (nat_eq n) numbers
  pub literals : AreIdents names numbers r.literals
  pub ellipsis : IsEllipsisOf names roles.ellipsis r.ellipsis

-- ---- rules

-- the trees of a pattern and of a template
pub record IsRule (work : Work) (rule : code_rule.Rule) (r : Rule Identifier) : Type 0 where
  pub head : Identifier
  pub head_place : Option Occ
  pub place : Option Occ
  pub pattern : StandsFor work rule.pattern (list (tree (name head head_place) r.parts) r.tail place)
  pub template : StandsFor work rule.template r.template

abbrev pub AreRules : Work → List code_rule.Rule → List (Rule Identifier) → Type 0
AreRules work [] [] = Unit {0}
AreRules work [] (r ∷ rs) = ⊥
AreRules work (n ∷ ns) [] = ⊥
AreRules work (n ∷ ns) (r ∷ rs) = IsRule work n r × AreRules work ns rs

-- the rules of the code stand for these
pub record RulesFor (work : Work) (code : code_rules.Rules) (r : Rules Identifier) : Type 0 where
  pub ellipsis : IsEllipsisOf work.symbols code.ellipsis r.ellipsis
  pub literals : AreIdents work.symbols code.literals r.literals
  pub rules : AreRules work code.rules r.rules

-- ---- matches

-- a list that no node holds: the parts of a list from a place on, with its tail
pub record IsRest (work : Work) (n : number.Tree) (from : ℕ) (t : Tree Identifier) : Type 0 where
  pub parts : Trees Identifier
  pub tail : Tail Identifier
  pub place : Option Occ
  pub whole : StandsFor work n (list parts tail place)
  pub within : from ≤ count parts
  pub rest : t ≡ rest_of (behind from parts) tail
  pub own : is_list t ≡ true

-- a variable's number stands beside this one tree
abbrev pub IsOne : Work → code_binding.Binding → ℕ → Tree Identifier → Type 0
IsOne work b v t =
    ((n : number.Tree) × (b ≡ bound.One v n) × StandsFor work n t)
    ⊎ ((n : number.Tree) × ((from : ℕ) × (b ≡ bound.Rest v n from) × IsRest work n from t))

-- a variable's number stands beside this value
abbrev mutual
  pub IsValue : Work → code_binding.Binding → ℕ → Value Identifier → Type 0
  IsValue work b v (One t) = IsOne work b v t
  IsValue work b v (Many vs) = (list : Vec code_binding.Binding Global) × (b ≡ bound.Many v list) × AreValues work list.items v vs

  pub AreValues : Work → List code_binding.Binding → ℕ → Values Identifier → Type 0
  AreValues work [] v no_values = Unit {0}
  AreValues work [] v (value x xs) = ⊥
  AreValues work (b ∷ bs) v no_values = ⊥
  AreValues work (b ∷ bs) v (value x xs) = IsValue work b v x × AreValues work bs v xs

-- what a variable stands for
abbrev pub IsBinding : Work → code_binding.Binding → Binding Identifier Identifier → Type 0
IsBinding work b m = (v : ℕ) × IsIdent work.symbols v m.variable × IsValue work b v m.value

abbrev pub AreBindings : Work → List code_binding.Binding → List (Binding Identifier Identifier) → Type 0
AreBindings work [] [] = Unit {0}
AreBindings work [] (m ∷ ms) = ⊥
AreBindings work (b ∷ bs) [] = ⊥
AreBindings work (b ∷ bs) (m ∷ ms) = IsBinding work b m × AreBindings work bs ms

-- the leaves that met literals
abbrev pub AreLeaves : Work → List number.Tree → List (Named Identifier) → Type 0
AreLeaves work [] [] = Unit {0}
AreLeaves work [] (i ∷ is) = ⊥
AreLeaves work (n ∷ ns) [] = ⊥
AreLeaves work (n ∷ ns) (i ∷ is) = StandsFor work n (name i.name i.occ) × AreLeaves work ns is

-- bindings and leaves stand for a match
pub record IsMatch (work : Work) (bound_by : List code_binding.Binding) (leaves : List number.Tree) (m : Match Identifier Identifier) : Type 0 where
  pub bindings : AreBindings work bound_by m.bindings
  pub met : AreLeaves work leaves m.met

-- the match of a rule of these
pub record MatchedFor (work : Work) (matched : code_matched.Matched) (r : Rules Identifier) (m : Chosen Identifier Identifier) : Type 0 where
  pub rule : slice_get r.rules matched.rule ≡ Some m.rule
  pub match : IsMatch work matched.bindings matched.literals m.match

-- ---- what calls demand

-- rules that were checked
abbrev pub AreChecked : Work → code_rules.Rules → Type 0
AreChecked work rules = (r : Rules Identifier) × RulesFor work rules r × (check_rules identifiers r r.rules ≡ Ok tt)
