-- What the macros of the prelude stand for.
use Rattle.std.specs.Prelude.{◌≡◌, ℕ, ◌+◌, List, [], ◌∷◌, codes, None, Some, Result, Ok, Err, slice_get}
use Rattle.std.specs.List.{AllByRecursion}
use Rattle.scheme_model.specs.Trees.{Tree, list, tree, proper}
use Rattle.scheme_model.specs.Measures.{tree_size}
use Rattle.scheme_model.specs.ExpansionFaults.{Fault}
use Rattle.scheme_model.specs.RulesShape.{Rules, Rule, rules_map, rules_parts, check_rules}
use Rattle.scheme_model.specs.Ident.{Ident as Identifier, Written}
use Rattle.scheme_model.specs.Prelude as model
use Rattle.scheme_model.specs.Program.{prelude_unit}
use Rattle.syntax_tree.specs.Macros.{identifiers, RulesFor, AreChecked}
use Rattle.syntax_tree.specs.Works.{StandsFor, LiesIn}
use Rattle.syntax_tree.specs.declared.trees.Work.{Work}
use Rattle.syntax_tree.specs.declared.trees.table.Region.{Region}
use Rattle.syntax_tree.specs.declared.rules.Rule as code_rule
use Rattle.base_library.specs.declared.macros.PreludeMacro.{PreludeMacro}
use Rattle.base_library.specs.Sketches.{name_tree}

-- ---- the macros of the definitions

-- the rules that stand behind `syntax-rules`, with the identifiers of the prelude's unit
abbrev pub written : Rules (List ℕ) → Rules Identifier
written r = rules_map (Written prelude_unit) r

-- place by place
abbrev pub Each : {X Y : Type 0} → (X → Y → Type 0) → List X → List Y → Type 0
Each P [] [] = Unit {0}
Each P [] (y ∷ ys) = ⊥
Each P (x ∷ xs) [] = ⊥
Each P (x ∷ xs) (y ∷ ys) = P x y × Each P xs ys

-- a pattern, with the first part that takes no part in matching
abbrev pub pattern_of : Rule Identifier → Tree Identifier
pattern_of r = list (tree (name_tree (codes "_")) r.parts) r.tail None

-- its name is that of this macro, and its rules are those that this macro's parts have, which pass the check; no tree has a place
pub record IsMacro (work : Work) (m : PreludeMacro) (p : model.PreludeMacro) : Type 0 where
  pub name : slice_get work.symbols.symbols m.name ≡ Some p.name
  pub read : Rules (List ℕ)
  pub shape : rules_parts p.parts proper ≡ Ok read
  pub checked : check_rules identifiers (written read) (written read).rules ≡ Ok tt
  pub rules : RulesFor work m.rules (written read)
  pub patterns : Each (λ c r. StandsFor work c.pattern (pattern_of r)) m.rules.rules (written read).rules

-- these are the macros, in order
abbrev pub AreMacros : Work → List PreludeMacro → List model.PreludeMacro → Type 0
AreMacros work [] [] = Unit {0}
AreMacros work [] (p ∷ ps) = ⊥
AreMacros work (m ∷ ms) [] = ⊥
AreMacros work (m ∷ ms) (p ∷ ps) = IsMacro work m p × AreMacros work ms ps

-- the rules of each pass the check
abbrev pub AllChecked : Work → List PreludeMacro → Type 0
AllChecked work ms = AllByRecursion (λ m. AreChecked work m.rules) ms

-- all patterns and templates lie in the region
pub record RuleLies (work : Work) (region : Region) (r : code_rule.Rule) : Type 0 where
  pub pattern : LiesIn work region r.pattern
  pub template : LiesIn work region r.template

abbrev pub AllLieIn : Work → Region → List PreludeMacro → Type 0
AllLieIn work region ms = AllByRecursion (λ m. AllByRecursion (RuleLies work region) m.rules.rules) ms

-- ---- how many nodes they have

abbrev pub rules_size : List (Rule Identifier) → ℕ
rules_size [] = 0
rules_size (r ∷ rs) = tree_size (pattern_of r) + (tree_size r.template + rules_size rs)

abbrev pub read_size : Result (Rules (List ℕ)) (Fault (List ℕ)) → ℕ
read_size (Ok r) = rules_size (written r).rules
read_size (Err e) = 0

-- the nodes of the patterns and templates
abbrev pub macros_size : List model.PreludeMacro → ℕ
macros_size [] = 0
macros_size (p ∷ ps) = read_size (rules_parts p.parts proper) + macros_size ps

abbrev pub prelude_nodes : ℕ
prelude_nodes = macros_size model.prelude
