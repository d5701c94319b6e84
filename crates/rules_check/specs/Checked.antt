-- How a check of rules ends.
use Rattle.std.specs.Prelude.{◌≡◌, ℕ, List, Bool, true, false, Option, Some, None, Result, Ok, Err}
use Rattle.scheme_model.specs.Trees.{Tree, name, atom, list, vector, Trees, no_trees, tree, proper, dotted}
use Rattle.scheme_model.specs.ExpansionFaults.{Named, Fault, BadRules, TwoEllipses, DuplicateVariable, EllipsisDepth, IdleEllipsis}
use Rattle.scheme_model.specs.Shapes.{names_of}
use Rattle.scheme_model.specs.RulesShape.{Rules, Rule, rules_of, rules_parts, rule_of, bad}
use Rattle.scheme_model.specs.Ident.{Ident as Identifier}
use Rattle.syntax_tree.specs.Placed.{IsNamed}
use Rattle.syntax_tree.specs.Macros.{identifiers, AreIdents, IsRule, AreRules, RulesFor}
use Rattle.syntax_tree.specs.declared.trees.Work.{Work}
use Rattle.syntax_tree.specs.declared.rules.Rules as code_rules
use Rattle.syntax_tree.specs.declared.rules.Rule as code_rule
use Rattle.rules_check.specs.declared.fault.RulesFault.{RulesFault}
use Rattle.rules_check.specs.declared.fault.RulesFault.TheVariants as fault

-- the rules of a list whose first part isn't looked at, or the first fault
abbrev pub rules_in_form : Tree Identifier → Result (Rules Identifier) (Fault Identifier)
rules_in_form (name i o) = Err BadRules
rules_in_form (atom a o) = Err BadRules
rules_in_form (vector ts o) = Err BadRules
rules_in_form (list no_trees tail o) = Err BadRules
rules_in_form (list (tree head ts) tail o) = rules_of identifiers ts tail

-- the same by shape alone, of the parts of a list without a tail
abbrev pub parts_shapes : Trees Identifier → Result (Rules Identifier) (Fault Identifier)
parts_shapes no_trees = Err BadRules
parts_shapes (tree head ts) = rules_parts ts proper

abbrev pub shapes_in : Tree Identifier → Result (Rules Identifier) (Fault Identifier)
shapes_in (name i o) = Err BadRules
shapes_in (atom a o) = Err BadRules
shapes_in (vector ts o) = Err BadRules
shapes_in (list ts (dotted u) o) = Err BadRules
shapes_in (list ts proper o) = parts_shapes ts

-- a list of literals
abbrev pub literals_in : Tree Identifier → Result (List (Named Identifier)) (Fault Identifier)
literals_in (name i o) = Err BadRules
literals_in (atom a o) = Err BadRules
literals_in (vector ts o) = Err BadRules
literals_in (list ts (dotted u) o) = Err BadRules
literals_in (list ts proper o) = bad (names_of ts)

-- a pattern and a template
abbrev pub pair_in : Trees Identifier → Result (Rule Identifier) (Fault Identifier)
pair_in ts = rule_of (list ts proper None)

abbrev pub is_name : Tree Identifier → Bool
is_name (name i o) = true
is_name (atom a o) = false
is_name (list ts tail o) = false
is_name (vector ts o) = false

abbrev pub starts_name : Trees Identifier → Bool
starts_name no_trees = false
starts_name (tree t ts) = is_name t

-- a list whose first part is an identifier
abbrev pub is_headed : Tree Identifier → Bool
is_headed (name i o) = false
is_headed (atom a o) = false
is_headed (list ts tail o) = starts_name ts
is_headed (vector ts o) = false

-- ---- how a call ends

-- a fault of the code is that of the definition, and a variable stands at the place that it tells; want of memory says nothing
abbrev pub Refuses : {Y : Type 0} → Work → RulesFault → Result Y (Fault Identifier) → Type 0
Refuses work fault.BadShape s = s ≡ Err BadRules
Refuses work fault.TwoEllipses s = s ≡ Err TwoEllipses
Refuses work (fault.DuplicateVariable n) s = (i : Named Identifier) × (s ≡ Err (DuplicateVariable i)) × IsNamed work.symbols n i
Refuses work (fault.Depth n) s = (i : Named Identifier) × (s ≡ Err (EllipsisDepth i)) × IsNamed work.symbols n i
Refuses work fault.IdleEllipsis s = s ≡ Err IdleEllipsis
Refuses work fault.Memory s = Unit {0}

-- a value of the code stands for that of the definition
abbrev pub Ends : {X Y : Type 0} → Work → (X → Y → Type 0) → Result Y (Fault Identifier) → Result X RulesFault → Type 0
Ends {X} {Y} work P s (Ok x) = (y : Y) × (s ≡ Ok y) × P x y
Ends work P s (Err e) = Refuses work e s

-- the rules that are read
abbrev pub Checks : Work → Result (Rules Identifier) (Fault Identifier) → Result code_rules.Rules RulesFault → Type 0
Checks work = Ends work (RulesFor work)

-- literals, and rules in a row
abbrev pub ReadsLiterals : Work → Result (List (Named Identifier)) (Fault Identifier) → Result (List ℕ) RulesFault → Type 0
ReadsLiterals work = Ends work (AreIdents work.symbols)

abbrev pub ReadsRules : Work → Result (List (Rule Identifier)) (Fault Identifier) → Result (List code_rule.Rule) RulesFault → Type 0
ReadsRules work = Ends work (AreRules work)

-- one rule, or none of its shape
abbrev pub ReadsRule : Work → Result (Rule Identifier) (Fault Identifier) → Option code_rule.Rule → Type 0
ReadsRule work s None = s ≡ Err BadRules
ReadsRule work s (Some rule) = (r : Rule Identifier) × (s ≡ Ok r) × IsRule work rule r

-- nothing is found wrong
abbrev pub Passes : Work → Result (Unit {0}) (Fault Identifier) → Result (Unit {0}) RulesFault → Type 0
Passes work = Ends work (λ done also. Unit {0})
