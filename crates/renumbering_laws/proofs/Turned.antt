-- An identifier seen by what it came from, or by its symbol, before a change and after it.
use Rattle.std.proofs.Common.{◌≡◌, Option, Some, None, refl, ap}
use Rattle.scheme_model.specs.declared.Occ.{Occ}
use Rattle.scheme_model.specs.Trees.{Tree, name, atom, list, vector, Trees, no_trees, tree, Tail, proper, dotted, map_tree, map_trees, map_tail}
use Rattle.scheme_model.specs.ExpansionFaults.{Named, named_map, Fault, BadRules, TwoEllipses, DuplicateVariable, EllipsisDepth, IdleEllipsis, NoRule, EllipsisLength, BadForm, DuplicateBinder, BadPlace, BadRecord, BadQuasi, KeywordRedefined, Duplicate, KeywordAsValue, UseBudget, NodeBudget, DepthBudget, SyntaxError, IncludeRefused, OutOfTurns, fault_map}
use Rattle.scheme_model.specs.RulesShape.{Rule, Rules, rule_map, rules_map, option_map}
use Rattle.scheme_model.proofs.RenamingLaws.{map_turned}
use Rattle.renumbering_laws.specs.Moving.{Change, move_tree, move_trees, move_tail, move_named, move_fault, move_rule, move_rules}

module _ (A B C D : Type 0) (at : Option Occ → Option Occ) (on : A → B) (to : C → D) (u : A → C) (v : B → D) (same : (i : A) → v (on i) ≡ to (u i)) where
  abbrev before : Change A B
  before = record { on = on; at = at }

  abbrev after : Change C D
  after = record { on = to; at = at }

  mutual
    pub tree_turned : (t : Tree A) → map_tree v (move_tree before t) ≡ move_tree after (map_tree u t)
    tree_turned (name i o) = ap (λ x. name x (at o)) (same i)
    tree_turned (atom a o) = refl
    tree_turned (list ts tail o) = let a = trees_turned ts in let b = tail_turned tail in λ j. list (a j) (b j) (at o)
    tree_turned (vector ts o) = ap (λ xs. vector xs (at o)) (trees_turned ts)

    pub trees_turned : (ts : Trees A) → map_trees v (move_trees before ts) ≡ move_trees after (map_trees u ts)
    trees_turned no_trees = refl
    trees_turned (tree t ts) = let a = tree_turned t in let b = trees_turned ts in λ j. tree (a j) (b j)

    pub tail_turned : (tail : Tail A) → map_tail v (move_tail before tail) ≡ move_tail after (map_tail u tail)
    tail_turned proper = refl
    tail_turned (dotted t) = ap dotted (tree_turned t)

  pub named_turned : (n : Named A) → named_map v (move_named before n) ≡ move_named after (named_map u n)
  named_turned n = ap (λ x. record { name = x; occ = at n.occ }) (same n.name)

  pub fault_turned : (e : Fault A) → fault_map v (move_fault before e) ≡ move_fault after (fault_map u e)
  fault_turned BadRules = refl
  fault_turned TwoEllipses = refl
  fault_turned (DuplicateVariable n) = ap DuplicateVariable (named_turned n)
  fault_turned (EllipsisDepth n) = ap EllipsisDepth (named_turned n)
  fault_turned IdleEllipsis = refl
  fault_turned (NoRule n) = ap NoRule (named_turned n)
  fault_turned EllipsisLength = refl
  fault_turned BadForm = refl
  fault_turned (DuplicateBinder n) = ap DuplicateBinder (named_turned n)
  fault_turned BadPlace = refl
  fault_turned BadRecord = refl
  fault_turned BadQuasi = refl
  fault_turned (KeywordRedefined n) = ap KeywordRedefined (named_turned n)
  fault_turned (Duplicate n) = ap Duplicate (named_turned n)
  fault_turned (KeywordAsValue n) = ap KeywordAsValue (named_turned n)
  fault_turned UseBudget = refl
  fault_turned NodeBudget = refl
  fault_turned DepthBudget = refl
  fault_turned (SyntaxError text) = refl
  fault_turned IncludeRefused = refl
  fault_turned OutOfTurns = refl

  pub rule_turned : (r : Rule A) → rule_map v (move_rule before r) ≡ move_rule after (rule_map u r)
  rule_turned r = let ps = trees_turned r.parts in let e = tail_turned r.tail in let t = tree_turned r.template in λ j. record { parts = ps j; tail = e j; template = t j }

  some_turned : (o : Option A) → option_map v (option_map on o) ≡ option_map to (option_map u o)
  some_turned None = refl
  some_turned (Some i) = ap Some (same i)

  pub rules_turned : (r : Rules A) → rules_map v (move_rules before r) ≡ move_rules after (rules_map u r)
  rules_turned r =
      let e = some_turned r.ellipsis in let ls = map_turned (named_map v) (move_named before) (move_named after) (named_map u) named_turned r.literals in
      let rs = map_turned (rule_map v) (move_rule before) (move_rule after) (rule_map u) rule_turned r.rules in
      λ j. record { ellipsis = e j; literals = ls j; rules = rs j }
