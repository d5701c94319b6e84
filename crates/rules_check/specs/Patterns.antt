-- What is found in patterns: the shapes that are refused, and the variables.
use Rattle.std.specs.Prelude.{◌≡◌, ℕ, List, [], ◌∷◌, ◌++◌, Bool, ◌||◌, nat_lt}
use Rattle.scheme_model.specs.Trees.{Tree, Trees, Tail}
use Rattle.scheme_model.specs.RulesShape.{Rules, Variable, role_of, dots_of, starts_dots, ends_dots, dots_count, bad_pattern, some_bad_pattern, bad_pattern_tail, two_dots, some_two_dots, two_dots_tail, variables_in, variables_among, variables_behind}
use Rattle.scheme_model.specs.Ident.{Ident as Identifier}
use Rattle.syntax_tree.specs.Macros.{identifiers}
use Rattle.syntax_tree.specs.Placed.{IsNamed}
use Rattle.syntax_tree.specs.declared.trees.Work.{Work}
use Rattle.rules_check.specs.declared.pattern.Variable as code
use Rattle.rules_check.specs.declared.pattern.Found.{Found}

-- whether an ellipsis is misplaced, whether there are two in one list or vector, and the variables
pub record Content : Type 0 where
  pub misplaced : Bool
  pub two : Bool
  pub variables : List (Variable Identifier)

abbrev pub of_pattern : Rules Identifier → Tree Identifier → ℕ → Content
of_pattern r t depth = record { misplaced = bad_pattern (dots_of identifiers r) t; two = two_dots (dots_of identifiers r) t; variables = variables_in (role_of identifiers r) t depth }

abbrev pub of_parts : Rules Identifier → Trees Identifier → ℕ → Content
of_parts r ts depth =
    record { misplaced = some_bad_pattern (dots_of identifiers r) ts; two = some_two_dots (dots_of identifiers r) ts; variables = variables_among (role_of identifiers r) ts depth }

-- the parts and the tail of a list
abbrev pub of_list : Rules Identifier → Trees Identifier → Tail Identifier → ℕ → Content
of_list r ts tail depth =
    record {
      misplaced = starts_dots (dots_of identifiers r) ts || (ends_dots (dots_of identifiers r) tail || (some_bad_pattern (dots_of identifiers r) ts || bad_pattern_tail (dots_of identifiers r) tail));
      two = nat_lt 1 (dots_count (dots_of identifiers r) ts) || (some_two_dots (dots_of identifiers r) ts || two_dots_tail (dots_of identifiers r) tail);
      variables = variables_among (role_of identifiers r) ts depth ++ variables_behind (role_of identifiers r) tail depth;
    }

-- these are the variables, in order
abbrev pub AreVariables : Work → List code.Variable → List (Variable Identifier) → Type 0
AreVariables work [] [] = Unit {0}
AreVariables work [] (w ∷ ws) = ⊥
AreVariables work (v ∷ vs) [] = ⊥
AreVariables work (v ∷ vs) (w ∷ ws) = IsNamed work.symbols v.name w.variable × (v.depth ≡ w.depth) × AreVariables work vs ws

-- a pattern's content was added to what was found
pub record Finds (work : Work) (old new : Found) (content : Content) : Type 0 where
  pub misplaced : new.misplaced ≡ (old.misplaced || content.misplaced)
  pub two : new.two ≡ (old.two || content.two)
  pub more : List code.Variable
  pub variables : new.variables.items ≡ old.variables.items ++ more
  pub found : AreVariables work more content.variables

-- this is what a pattern contains
pub record Contains (work : Work) (found : Found) (content : Content) : Type 0 where
  pub misplaced : found.misplaced ≡ content.misplaced
  pub two : found.two ≡ content.two
  pub are : AreVariables work found.variables.items content.variables
