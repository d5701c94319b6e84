-- The pattern variables of a rule by number, and the slots of names of patterns and templates (R7RS 4.3.2).
use Rattle.std.specs.Prelude.{◌≡◌, ℕ, zero, suc, List, [], ◌∷◌, ◌==◌, Bool, true, false, Option, Some, None, if◌then◌else◌}
use Rattle.std.specs.BTreeMap.{BTreeMap, get}
use Rattle.std.specs.Ordering.{nat_cmp}
use Rattle.scheme_model.specs.declared.Occ.{Occ}
use Rattle.scheme_model.specs.ExpansionFaults.{Named, named}
use Rattle.scheme_model.specs.RulesShape.{Role, IsLiteral, IsEllipsis, IsAny, IsVariable, Variable as RuleVariable}
use Rattle.scheme_model.specs.Ident.{Ident as Identifier}
use Rattle.rename_model.specs.Walks.{Slot, LeafOf, TreeNode, NameAt, AtomAt, ListOf, VectorOf, Escape, OfNode, OfNumber, ShowsNothing, ShowsPlace, IsRules, IsRuleLiteral, IsDots, IsUnderscore, IsPatternVariable, IsInserted, truth_number, in_rules, variable_slots}
use Rattle.syntax_tree.specs.Names.{Names}
use Rattle.syntax_tree.specs.Macros.{IsIdent}
use Rattle.syntax_tree.specs.declared.rules.Named as code
use Rattle.program_leaves.specs.Variables.{if_variable}
use Rattle.program_differences.specs.declared.rules.Variable.{Variable}

-- the variable that a node is, by the roles of names
abbrev pub variable_in : (Identifier → Role) → TreeNode Identifier → List (Named Identifier)
variable_in role (NameAt i dots o) = if_variable (role i) (named i o)
variable_in role (AtomAt a o) = []
variable_in role (ListOf n tail) = []
variable_in role (VectorOf n) = []
variable_in role Escape = []

-- the first of these variables with a number, by its place among them, which are counted from a number on
abbrev pub numbered : ℕ → List code.Named → ℕ → Option Variable
numbered k [] n = None
numbered k (v ∷ vs) n = if v.ident == n then Some (record { place = k; occ = v.occ }) else numbered (suc k) vs n

-- a place of a variable, or what else a name is
abbrev pub placed : Option Variable → Option Occ → List Slot → List Slot
placed None o other = other
placed (Some v) o other = in_rules (OfNode IsPatternVariable) o (ShowsPlace v.occ) ∷ in_rules (OfNumber v.place) o (ShowsPlace v.occ) ∷ []

abbrev pub pattern_slots : Role → Option Variable → Option Occ → List Slot
pattern_slots IsLiteral v o = LeafOf IsRuleLiteral ∷ []
pattern_slots IsEllipsis v o = in_rules (OfNode IsDots) o ShowsNothing ∷ []
pattern_slots IsAny v o = in_rules (OfNode IsUnderscore) o ShowsNothing ∷ []
pattern_slots IsVariable v o = placed v o []

abbrev pub template_slots : Bool → Option Variable → Option Occ → List Slot
template_slots true v o = in_rules (OfNode IsDots) o ShowsNothing ∷ []
template_slots false v o = placed v o (LeafOf IsInserted ∷ [])

-- the places of these variables
abbrev pub TellsPlaces : Names → BTreeMap ℕ Variable → List (RuleVariable Identifier) → Type 0
TellsPlaces names places vs = (n : ℕ) (i : Identifier) (o : Option Occ) (other : List Slot) → IsIdent names n i → placed (get nat_cmp places n) o other ≡ variable_slots 0 vs i o other

-- what stands before the literals and the rules: whether there is an own ellipsis, and how many there are
abbrev pub heading : Bool → (literals rules : ℕ) → List Slot
heading own literals rules =
    in_rules (OfNode IsRules) None ShowsNothing ∷ in_rules (OfNumber (truth_number own)) None ShowsNothing ∷
    in_rules (OfNumber literals) None ShowsNothing ∷ in_rules (OfNumber rules) None ShowsNothing ∷ []

-- the literals of the list of literals
abbrev pub literals : ℕ → List Slot
literals zero = []
literals (suc n) = LeafOf IsRuleLiteral ∷ literals n
