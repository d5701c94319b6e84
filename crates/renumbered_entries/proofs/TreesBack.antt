-- By the way back numbers, trees and rules are what they were.
use Rattle.std.proofs.Common.{◌≡◌, ℕ, List, [], ◌∷◌, map, Option, Some, None, refl, ap}
use Rattle.scheme_model.specs.declared.Occ.{Occ}
use Rattle.scheme_model.specs.Identifiers.{Number}
use Rattle.scheme_model.specs.Ident.{Ident, Written, Inserted}
use Rattle.scheme_model.specs.Trees.{Tree, name, atom, list, vector, Trees, no_trees, tree, Tail, proper, dotted}
use Rattle.scheme_model.specs.ExpansionFaults.{Named, Fault, BadRules, TwoEllipses, DuplicateVariable, EllipsisDepth, IdleEllipsis, NoRule, EllipsisLength, BadForm, DuplicateBinder, BadPlace, BadRecord, BadQuasi, KeywordRedefined, Duplicate, KeywordAsValue, UseBudget, NodeBudget, DepthBudget, SyntaxError, IncludeRefused, OutOfTurns}
use Rattle.scheme_model.specs.RulesShape.{Rule, Rules, option_map}
use Rattle.scheme_model.specs.Shapes.{Clause}
use Rattle.renumbering_laws.specs.Moving.{Change, move_tree, move_trees, move_tail, move_named, move_fault, move_rule, move_rules, move_clause}
use Rattle.renumbering_laws.specs.Renumbering.{Renumbering, number, place, ident}
use Rattle.moves.specs.Numbers.{IsBack}

-- ---- things of which each is what it was

pub list_back : {X Y : Type 0} (f : Y → X) (g : X → Y) → ((x : X) → f (g x) ≡ x) → (xs : List X) → map f (map g xs) ≡ xs
list_back f g back [] = refl
list_back f g back (x ∷ xs) = let a = back x in let b = list_back f g back xs in λ j. a j ∷ b j

pub option_back : {X Y : Type 0} (f : Y → X) (g : X → Y) → ((x : X) → f (g x) ≡ x) → (o : Option X) → option_map f (option_map g o) ≡ o
option_back f g back None = refl
option_back f g back (Some x) = ap Some (back x)

-- ---- numbers

module _ (r s : Renumbering) (back : IsBack r s) where
  pub number_back : (k : Number) → number s (number r k) ≡ k
  number_back k = λ j. record { unit = back.unit k.unit j; form = back.form k.unit k.form j; count = k.count }

  pub ident_back : (i : Ident) → ident s (ident r i) ≡ i
  ident_back (Written u t) = ap (λ (v : ℕ). Written v t) (back.unit u)
  ident_back (Inserted i k) = let a = ident_back i in let b = number_back k in λ j. Inserted (a j) (b j)

  pub place_back : (o : Option Occ) → place s (place r o) ≡ o
  place_back None = refl
  place_back (Some o) = λ j. Some (record { unit = back.unit o.unit j; form = back.form o.unit o.form j; token = o.token })

-- ---- trees

module _ (A : Type 0) (f g : Change A A) (on : (a : A) → f.on (g.on a) ≡ a) (at : (o : Option Occ) → f.at (g.at o) ≡ o) where
  mutual
    pub tree_back : (t : Tree A) → move_tree f (move_tree g t) ≡ t
    tree_back (name i o) = let a = on i in let b = at o in λ j. name (a j) (b j)
    tree_back (atom a o) = ap (atom a) (at o)
    tree_back (list ts tail o) = let a = trees_back ts in let b = tail_back tail in let c = at o in λ j. list (a j) (b j) (c j)
    tree_back (vector ts o) = let a = trees_back ts in let b = at o in λ j. vector (a j) (b j)

    pub trees_back : (ts : Trees A) → move_trees f (move_trees g ts) ≡ ts
    trees_back no_trees = refl
    trees_back (tree t ts) = let a = tree_back t in let b = trees_back ts in λ j. tree (a j) (b j)

    tail_back : (tail : Tail A) → move_tail f (move_tail g tail) ≡ tail
    tail_back proper = refl
    tail_back (dotted t) = ap dotted (tree_back t)

  pub named_back : (n : Named A) → move_named f (move_named g n) ≡ n
  named_back n = let a = on n.name in let b = at n.occ in λ j. record { name = a j; occ = b j }

  pub fault_back : (e : Fault A) → move_fault f (move_fault g e) ≡ e
  fault_back BadRules = refl
  fault_back TwoEllipses = refl
  fault_back (DuplicateVariable n) = ap DuplicateVariable (named_back n)
  fault_back (EllipsisDepth n) = ap EllipsisDepth (named_back n)
  fault_back IdleEllipsis = refl
  fault_back (NoRule n) = ap NoRule (named_back n)
  fault_back EllipsisLength = refl
  fault_back BadForm = refl
  fault_back (DuplicateBinder n) = ap DuplicateBinder (named_back n)
  fault_back BadPlace = refl
  fault_back BadRecord = refl
  fault_back BadQuasi = refl
  fault_back (KeywordRedefined n) = ap KeywordRedefined (named_back n)
  fault_back (Duplicate n) = ap Duplicate (named_back n)
  fault_back (KeywordAsValue n) = ap KeywordAsValue (named_back n)
  fault_back UseBudget = refl
  fault_back NodeBudget = refl
  fault_back DepthBudget = refl
  fault_back (SyntaxError text) = refl
  fault_back IncludeRefused = refl
  fault_back OutOfTurns = refl

  rule_back : (x : Rule A) → move_rule f (move_rule g x) ≡ x
  rule_back x = let a = trees_back x.parts in let b = tail_back x.tail in let c = tree_back x.template in λ j. record { parts = a j; tail = b j; template = c j }

  pub rules_back : (x : Rules A) → move_rules f (move_rules g x) ≡ x
  rules_back x =
      let a = option_back f.on g.on on x.ellipsis in
      let b = list_back (move_named f) (move_named g) named_back x.literals in
      let c = list_back (move_rule f) (move_rule g) rule_back x.rules in
      λ j. record { ellipsis = a j; literals = b j; rules = c j }

  pub clause_back : (x : Clause A) → move_clause f (move_clause g x) ≡ x
  clause_back x =
      let a = list_back (move_named f) (move_named g) named_back x.formals.names in
      let b = trees_back x.body in
      λ j. record { formals = record { names = a j; rest = x.formals.rest }; body = b j }
