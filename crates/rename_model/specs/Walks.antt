-- What two programs are compared by: each form, with the rules of its macros, as a list of points, from the outside in and left
-- to right, where the numbers of a node's parts stand before its parts.
use Rattle.std.specs.Prelude.{ℕ, zero, suc, ◌==◌, List, [], ◌∷◌, ◌++◌, map, length, Bool, true, false, ◌&&◌, Option, Some, None, if◌then◌else◌}
use Rattle.std.specs.List.{flat_map}
use Rattle.scheme_model.specs.declared.Occ.{Occ}
use Rattle.scheme_model.specs.Identifiers.{Number}
use Rattle.scheme_model.specs.Ident.{Ident, same_ident, symbol_of}
use Rattle.scheme_model.specs.Trees.{Atom, Numeral, Quoted, Character, Boolean, Bytes, Tree, name, atom, list, vector, Trees, no_trees, tree, Tail, proper, dotted, map_tree}
use Rattle.scheme_model.specs.TreeParts.{count}
use Rattle.scheme_model.specs.Meaning.{Meaning, Local, Global, Standard, Free}
use Rattle.scheme_model.specs.RulesShape.{Rule, Rules, Role, IsLiteral, IsEllipsis, IsAny, IsVariable, Variable, role_of, dots_of, nowhere, pattern_variables}
use Rattle.scheme_model.specs.Building.{is_escape}
use Rattle.scheme_model.specs.Leaves.{if_escape}
use Rattle.scheme_model.specs.Cores.{Target, Bound, LocalNumber, Definition, Binder, Binders, RuleLeaf, MacroDef, FieldUse, RecordType, Core, Ref, Const, Quote, Quasi, Lambda, CaseLambda, If, Set, Call, Body, LetSyntax, Cores, no_cores, core, Clauses, no_clauses, clause, Parts, no_parts, part, Part, Expression, Define, Values, Fields, Syntax}
use Rattle.scheme_model.specs.Substitution.{Table, definition_count}
use Rattle.scheme_model.specs.Program.{prelude_unit}
use Rattle.scheme_model.specs.ProgramArrows.{ident_names}

-- ---- points

-- the kinds of nodes: of cores, of parts of bodies and units, of binders, of data, of rules, and of what names mean
pub data Node : Type 0 where
  IsReference : Node
  IsConstant : Node
  IsQuotation : Node
  IsQuasiquotation : Node
  IsProcedure : Node
  IsCaseLambda : Node
  IsConditional : Node
  IsAssignment : Node
  IsCall : Node
  IsBody : Node
  IsLocalMacros : Node
  IsForm : Node
  IsExpression : Node
  IsDefinition : Node
  IsValues : Node
  IsRecord : Node
  IsSyntax : Node
  BindsLocal : Node
  BindsDefinition : Node
  IsSymbol : Node
  IsHole : Node
  IsNumeral : Node
  IsString : Node
  IsCharacter : Node
  IsTrue : Node
  IsFalse : Node
  IsBytes : Node
  IsList : Node
  IsVector : Node
  IsRules : Node
  IsRuleLiteral : Node
  IsDots : Node
  IsUnderscore : Node
  IsPatternVariable : Node
  IsInserted : Node
  IsEscape : Node
  IsOfPrelude : Node
  IsStandard : Node
  IsUnbound : Node

-- kinds are told apart by number
abbrev pub node_number : Node → ℕ
node_number IsReference = 0
node_number IsConstant = 1
node_number IsQuotation = 2
node_number IsQuasiquotation = 3
node_number IsProcedure = 4
node_number IsCaseLambda = 5
node_number IsConditional = 6
node_number IsAssignment = 7
node_number IsCall = 8
node_number IsBody = 9
node_number IsLocalMacros = 10
node_number IsForm = 11
node_number IsExpression = 12
node_number IsDefinition = 13
node_number IsValues = 14
node_number IsRecord = 15
node_number IsSyntax = 16
node_number BindsLocal = 17
node_number BindsDefinition = 18
node_number IsSymbol = 19
node_number IsHole = 20
node_number IsNumeral = 21
node_number IsString = 22
node_number IsCharacter = 23
node_number IsTrue = 24
node_number IsFalse = 25
node_number IsBytes = 26
node_number IsList = 27
node_number IsVector = 28
node_number IsRules = 29
node_number IsRuleLiteral = 30
node_number IsDots = 31
node_number IsUnderscore = 32
node_number IsPatternVariable = 33
node_number IsInserted = 34
node_number IsEscape = 35
node_number IsOfPrelude = 36
node_number IsStandard = 37
node_number IsUnbound = 38

-- what is seen at a point: a node, a number, a name of a kind, a definition of a unit by its number there, a local, or the locals
-- that a kind of binder binds, whose uses may also stand before them
pub data Seen : Type 0 where
  OfNode : Node → Seen
  OfNumber : ℕ → Seen
  OfName : Node → List ℕ → Seen
  OfDefinition : (unit : ℕ) → Option ℕ → Seen
  OfLocal : Number → Seen
  OfBinders : Node → List Number → Seen

-- where a point stands: at a use of an identifier, at a quoted symbol, in the rules of a macro, there at an identifier of a
-- template, in an export, at the Errors of a unit, or elsewhere
pub data Spot : Type 0 where
  AtUse : Spot
  AtQuoted : Spot
  AtRule : Spot
  AtTemplate : Spot
  AtExport : Spot
  AtErrors : Spot
  AtShape : Spot

-- what is told of a point: a symbol, what binds a meaning, or the place of a pattern variable
pub data Shown : Type 0 where
  ShowsNothing : Shown
  ShowsSymbol : List ℕ → Shown
  ShowsMeaning : Meaning → Shown
  ShowsPlace : Option Occ → Shown

pub record Point : Type 0 where
  pub spot : Spot
  pub seen : Seen
  pub occ : Option Occ
  pub shown : Shown

abbrev pub point : Spot → Seen → Option Occ → Shown → Point
point spot seen o shown = record { spot = spot; seen = seen; occ = o; shown = shown }

-- a node, and a number, that only shape tells
abbrev pub node : Node → Point
node n = point AtShape (OfNode n) None ShowsNothing

abbrev pub number : ℕ → Point
number n = point AtShape (OfNumber n) None ShowsNothing

abbrev pub truth_number : Bool → ℕ
truth_number true = 1
truth_number false = 0

-- ---- meanings

-- the number of a definition of a unit: how many the unit had before
abbrev pub number_in : Table → ℕ → Ident → Option ℕ
number_in [] u i = None
number_in (d ∷ ds) u i = if d.unit == u && same_ident d.ident i then Some (definition_count ds u) else number_in ds u i

abbrev pub meaning_seen : Table → Meaning → Seen
meaning_seen table (Local v) = OfLocal v
meaning_seen table (Global u i) = if u == prelude_unit then OfName IsOfPrelude (symbol_of i) else OfDefinition u (number_in table u i)
meaning_seen table (Standard s) = OfName IsStandard s
meaning_seen table (Free s) = OfName IsUnbound s

abbrev pub meaning_at : Table → Spot → Meaning → Option Occ → Point
meaning_at table spot m o = point spot (meaning_seen table m) o (ShowsMeaning m)

abbrev pub use_of : Table → Target → Point
use_of table t = meaning_at table AtUse t.meaning t.occ

-- ---- nodes of trees

-- a name, which may act as an ellipsis; another atom; a list by the number of its parts and whether it has a tail; a vector; or an
-- escape, which has one part
pub data TreeNode (A : Type 0) : Type 0 where
  NameAt : A → (dots : Bool) → Option Occ → TreeNode A
  AtomAt : Atom → Option Occ → TreeNode A
  ListOf : (parts : ℕ) → (tail : Bool) → TreeNode A
  VectorOf : (parts : ℕ) → TreeNode A
  Escape : TreeNode A

abbrev pub has_tail : {A : Type 0} → Tail A → Bool
has_tail proper = false
has_tail (dotted t) = true

-- a list with its parts and its tail, whose nodes are these
abbrev pub list_nodes : {A : Type 0} → Trees A → Tail A → List (TreeNode A) → List (TreeNode A)
list_nodes ts tail inside = ListOf (count ts) (has_tail tail) ∷ inside

abbrev mutual
  pub nodes_in : {A : Type 0} → (A → Bool) → Tree A → List (TreeNode A)
  nodes_in dots (name i o) = NameAt i (dots i) o ∷ []
  nodes_in dots (atom a o) = AtomAt a o ∷ []
  nodes_in dots (list ts tail o) =
      if_escape (is_escape dots ts tail) (Escape ∷ nodes_escaped ts) (list_nodes ts tail (nodes_among dots ts ++ nodes_behind dots tail))
  nodes_in dots (vector ts o) = VectorOf (count ts) ∷ nodes_among dots ts

  pub nodes_among : {A : Type 0} → (A → Bool) → Trees A → List (TreeNode A)
  nodes_among dots no_trees = []
  nodes_among dots (tree t ts) = nodes_in dots t ++ nodes_among dots ts

  pub nodes_behind : {A : Type 0} → (A → Bool) → Tail A → List (TreeNode A)
  nodes_behind dots proper = []
  nodes_behind dots (dotted t) = nodes_in dots t

  -- in an escape ellipses are names; its own is no part
  pub nodes_escaped : {A : Type 0} → Trees A → List (TreeNode A)
  nodes_escaped no_trees = []
  nodes_escaped (tree t no_trees) = []
  nodes_escaped (tree t (tree u us)) = nodes_in nowhere u

-- ---- data

-- an atom, which is told with its place in rules alone
abbrev pub atom_points : Spot → Option Occ → Atom → List Point
atom_points spot o (Numeral s) = point spot (OfName IsNumeral s) o ShowsNothing ∷ []
atom_points spot o (Quoted s) = point spot (OfName IsString s) o ShowsNothing ∷ []
atom_points spot o (Character c) = point spot (OfNode IsCharacter) o ShowsNothing ∷ point spot (OfNumber c) o ShowsNothing ∷ []
atom_points spot o (Boolean b) = point spot (OfNode (if b then IsTrue else IsFalse)) o ShowsNothing ∷ []
atom_points spot o (Bytes s) = point spot (OfName IsBytes s) o ShowsNothing ∷ []

abbrev pub list_points : Spot → (parts : ℕ) → Bool → List Point
list_points spot n tail =
    point spot (OfNode IsList) None ShowsNothing ∷ point spot (OfNumber n) None ShowsNothing ∷
    point spot (OfNumber (truth_number tail)) None ShowsNothing ∷ []

abbrev pub vector_points : Spot → (parts : ℕ) → List Point
vector_points spot n = point spot (OfNode IsVector) None ShowsNothing ∷ point spot (OfNumber n) None ShowsNothing ∷ []

-- a quoted symbol, or a hole
abbrev pub symbol_points : Option (List ℕ) → Option Occ → List Point
symbol_points None o = node IsHole ∷ []
symbol_points (Some s) o = node IsSymbol ∷ point AtQuoted (OfName IsSymbol s) o (ShowsSymbol s) ∷ []

abbrev pub data_point : TreeNode (Option (List ℕ)) → List Point
data_point (NameAt i dots o) = symbol_points i o
data_point (AtomAt a o) = atom_points AtShape None a
data_point (ListOf n tail) = list_points AtShape n tail
data_point (VectorOf n) = vector_points AtShape n
data_point Escape = []

-- quoted data, where holes take no part
abbrev pub data_points : Tree (Option (List ℕ)) → List Point
data_points t = flat_map data_point (nodes_in nowhere t)

-- ---- the rules of macros

-- a point, or a leaf of the rules, which means something where the macro is defined
pub data Slot : Type 0 where
  Fixed : Point → Slot
  LeafOf : Node → Slot

abbrev pub in_rules : Seen → Option Occ → Shown → Slot
in_rules seen o shown = Fixed (point AtRule seen o shown)

-- a variable by its place among those of its rule, with where it stands; else a leaf or what else a name is
abbrev pub variable_slots : ℕ → List (Variable Ident) → Ident → Option Occ → List Slot → List Slot
variable_slots n [] i o other = other
variable_slots n (v ∷ vs) i o other =
    if same_ident v.variable.name i
    then in_rules (OfNode IsPatternVariable) o (ShowsPlace v.variable.occ) ∷ in_rules (OfNumber n) o (ShowsPlace v.variable.occ) ∷ []
    else variable_slots (suc n) vs i o other

abbrev pub pattern_name : List (Variable Ident) → Role → Ident → Option Occ → List Slot
pattern_name vs IsLiteral i o = LeafOf IsRuleLiteral ∷ []
pattern_name vs IsEllipsis i o = in_rules (OfNode IsDots) o ShowsNothing ∷ []
pattern_name vs IsAny i o = in_rules (OfNode IsUnderscore) o ShowsNothing ∷ []
pattern_name vs IsVariable i o = variable_slots 0 vs i o []

abbrev pub template_name : List (Variable Ident) → Bool → Ident → Option Occ → List Slot
template_name vs true i o = in_rules (OfNode IsDots) o ShowsNothing ∷ []
template_name vs false i o = variable_slots 0 vs i o (LeafOf IsInserted ∷ [])

-- a node of a pattern or a template, by what its names are
abbrev pub rule_slots : (Ident → Bool → Option Occ → List Slot) → TreeNode Ident → List Slot
rule_slots named (NameAt i dots o) = named i dots o
rule_slots named (AtomAt a o) = map Fixed (atom_points AtRule o a)
rule_slots named (ListOf n tail) = map Fixed (list_points AtRule n tail)
rule_slots named (VectorOf n) = map Fixed (vector_points AtRule n)
rule_slots named Escape = in_rules (OfNode IsEscape) None ShowsNothing ∷ []

-- the parts of a pattern behind its first
abbrev pub pattern_nodes : Rule Ident → List (TreeNode Ident)
pattern_nodes rule = list_nodes rule.parts rule.tail (nodes_among nowhere rule.parts ++ nodes_behind nowhere rule.tail)

-- pattern before template
abbrev pub slots_of_rule : Rules Ident → Rule Ident → List Slot
slots_of_rule r rule =
    let vs = pattern_variables ident_names r rule in
    flat_map (rule_slots (λ i dots o. pattern_name vs (role_of ident_names r i) i o)) (pattern_nodes rule) ++
    flat_map (rule_slots (λ i dots o. template_name vs dots i o)) (nodes_in (dots_of ident_names r) rule.template)

abbrev pub is_given : {A : Type 0} → Option A → Bool
is_given None = false
is_given (Some a) = true

-- whether there is an own ellipsis, and how many literals and rules; the literals; the rules
abbrev pub slots_of : Rules Ident → List Slot
slots_of r =
    in_rules (OfNode IsRules) None ShowsNothing ∷ in_rules (OfNumber (truth_number (is_given r.ellipsis))) None ShowsNothing ∷
    in_rules (OfNumber (length r.literals)) None ShowsNothing ∷ in_rules (OfNumber (length r.rules)) None ShowsNothing ∷
    map (λ l. LeafOf IsRuleLiteral) r.literals ++ flat_map (slots_of_rule r) r.rules

abbrev pub leaf_spot : Bool → Spot
leaf_spot literal = if literal then AtRule else AtTemplate

-- a leaf: what it is, and what it means where the macro is defined
abbrev pub leaf_points : Table → Node → RuleLeaf → List Point
leaf_points table n l =
    point AtRule (OfNode n) l.target.occ (ShowsMeaning l.target.meaning) ∷
    meaning_at table (leaf_spot l.literal) l.target.meaning l.target.occ ∷ []

-- the leaves in their order
abbrev pub filled : Table → List Slot → List RuleLeaf → List Point
filled table [] ls = []
filled table (Fixed p ∷ ss) ls = p ∷ filled table ss ls
filled table (LeafOf n ∷ ss) [] = filled table ss []
filled table (LeafOf n ∷ ss) (l ∷ ls) = leaf_points table n l ++ filled table ss ls

abbrev pub macro_points : Table → MacroDef → List Point
macro_points table m = filled table (slots_of m.rules) m.leaves

-- ---- cores

abbrev pub local_bound : Bound → List Number
local_bound (LocalNumber v) = v ∷ []
local_bound (Definition u n) = []

abbrev pub locals_in : List Binder → List Number
locals_in bs = flat_map (λ (b : Binder). local_bound b.bound) bs

-- locals that are bound, by binders of a kind
abbrev pub binders_at : Node → List Binder → Point
binders_at n bs = point AtShape (OfBinders n (locals_in bs)) None ShowsNothing

-- what a binder is: a local, or the definition of its unit with a number
abbrev pub bound_points : Binder → List Point
bound_points b = of_bound b.bound
  where
    of_bound : Bound → List Point
    of_bound (LocalNumber v) = node BindsLocal ∷ []
    of_bound (Definition u n) = node BindsDefinition ∷ number n ∷ []

abbrev pub binder_points : List Binder → List Point
binder_points bs = flat_map bound_points bs

-- the locals of a part of a body
abbrev pub part_binders : Part → Point
part_binders (Expression c) = binders_at IsExpression []
part_binders (Define b c) = binders_at IsDefinition (b ∷ [])
part_binders (Values bs c) = binders_at IsValues bs.names
part_binders (Fields r) = binders_at IsRecord r.binders
part_binders (Syntax m) = binders_at IsSyntax (m.binder ∷ [])

abbrev pub all_part_binders : Parts → List Point
all_part_binders no_parts = []
all_part_binders (part p ps) = part_binders p ∷ all_part_binders ps

abbrev pub core_count : Cores → ℕ
core_count no_cores = 0
core_count (core c cs) = suc (core_count cs)

abbrev pub clause_count : Clauses → ℕ
clause_count no_clauses = 0
clause_count (clause bs c cs) = suc (clause_count cs)

abbrev pub part_count : Parts → ℕ
part_count no_parts = 0
part_count (part p ps) = suc (part_count ps)

-- the formals of a clause
abbrev pub formal_points : Binders → List Point
formal_points bs =
    node IsProcedure ∷ number (length bs.names) ∷ number (truth_number bs.rest) ∷ binders_at IsProcedure bs.names ∷ []

abbrev pub values_points : Binders → List Point
values_points bs = node IsValues ∷ number (length bs.names) ∷ number (truth_number bs.rest) ∷ binder_points bs.names

-- a record's binders, and which fields have a modifier or are used by the constructor
abbrev pub record_points : RecordType → List Point
record_points r =
    node IsRecord ∷ number (length r.binders) ∷ number (length r.fields) ∷ number (length r.modified) ∷ number (length r.used) ∷
    binder_points r.binders ++ map number r.modified ++ map (λ (u : FieldUse). number u.field) r.used

abbrev pub macro_binders : List MacroDef → List Point
macro_binders ms = map (λ (m : MacroDef). binders_at IsSyntax (m.binder ∷ [])) ms

abbrev mutual
  pub core_points : Table → Core → List Point
  core_points table (Ref t) = node IsReference ∷ use_of table t ∷ []
  core_points table (Const a) = node IsConstant ∷ atom_points AtShape None a
  core_points table (Quote d) = node IsQuotation ∷ data_points (map_tree Some d)
  core_points table (Quasi d cs) = node IsQuasiquotation ∷ number (core_count cs) ∷ data_points d ++ all_core_points table cs
  core_points table (Lambda bs c) = formal_points bs ++ core_points table c
  core_points table (CaseLambda cs) = node IsCaseLambda ∷ number (clause_count cs) ∷ clause_points table cs
  core_points table (If cs) = node IsConditional ∷ number (core_count cs) ∷ all_core_points table cs
  core_points table (Set t c) = node IsAssignment ∷ use_of table t ∷ core_points table c
  core_points table (Call cs) = node IsCall ∷ number (core_count cs) ∷ all_core_points table cs
  core_points table (Body ps) = node IsBody ∷ number (part_count ps) ∷ all_part_binders ps ++ all_part_points table ps
  core_points table (LetSyntax ms c) =
      node IsLocalMacros ∷ number (length ms) ∷ macro_binders ms ++ flat_map (macro_points table) ms ++ core_points table c

  pub all_core_points : Table → Cores → List Point
  all_core_points table no_cores = []
  all_core_points table (core c cs) = core_points table c ++ all_core_points table cs

  pub clause_points : Table → Clauses → List Point
  clause_points table no_clauses = []
  clause_points table (clause bs c cs) = formal_points bs ++ core_points table c ++ clause_points table cs

  pub all_part_points : Table → Parts → List Point
  all_part_points table no_parts = []
  all_part_points table (part p ps) = part_points table p ++ all_part_points table ps

  pub part_points : Table → Part → List Point
  part_points table (Expression c) = node IsExpression ∷ core_points table c
  part_points table (Define b c) = node IsDefinition ∷ bound_points b ++ core_points table c
  part_points table (Values bs c) = values_points bs ++ core_points table c
  part_points table (Fields r) = record_points r
  part_points table (Syntax m) = node IsSyntax ∷ bound_points m.binder ++ macro_points table m

-- the items of a form
abbrev pub form_points : Table → Parts → List Point
form_points table ps = node IsForm ∷ number (part_count ps) ∷ all_part_points table ps
