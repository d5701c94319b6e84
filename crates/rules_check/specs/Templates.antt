-- What is seen of templates: the shapes that are refused, ellipses that nothing drives, and variables under too few of them.
use Rattle.std.specs.Prelude.{◌≡◌, ℕ, ◌+◌, ◌^◌, ◌<◌, ◌≤◌, List, Bool, true, false, ◌||◌, nat_le, Option, Some, None, Result, Ok, Err, if◌then◌else◌}
use Rattle.std.specs.BTreeMap.{BTreeMap, get}
use Rattle.std.specs.Ordering.{nat_cmp}
use Rattle.scheme_model.specs.Trees.{Tree, Trees, Tail}
use Rattle.scheme_model.specs.ExpansionFaults.{Named, Fault, EllipsisDepth, ◌>>◌}
use Rattle.scheme_model.specs.RulesShape.{Rules, dots_of, nowhere, starts_dots, ends_dots, bad_template, some_bad_template, bad_template_tail, is_idle, some_idle, idle_tail, deepest, deepest_among, deepest_tail, greater, deep_enough, all_deep, deep_tail}
use Rattle.scheme_model.specs.Ident.{Ident as Identifier}
use Rattle.scheme_model.specs.Measures.{tree_size, trees_size, tail_size, tree_depth, trees_depth, tail_depth}
use Rattle.syntax_tree.specs.Looks.{PartsStand, EndStands}
use Rattle.syntax_tree.specs.Macros.{identifiers, IsIdent}
use Rattle.syntax_tree.specs.Placed.{IsNamed}
use Rattle.syntax_tree.specs.Works.{StandsFor}
use Rattle.syntax_tree.specs.declared.trees.Work.{Work}
use Rattle.syntax_tree.specs.declared.trees.nodes.Tree as number
use Rattle.syntax_tree.specs.declared.rules.Named as code_name
use Rattle.rules_check.specs.declared.template.Seen.{Seen}

-- whether an ellipsis is misplaced, whether one is idle, the most ellipses of a variable in the pattern, and the first variable
-- that stands under too few
pub record Sight : Type 0 where
  pub misplaced : Bool
  pub idle : Bool
  pub deepest : ℕ
  pub deep : Result (Unit {0}) (Fault Identifier)

-- in an escape nothing is an ellipsis
abbrev pub dots_where : Bool → Rules Identifier → Identifier → Bool
dots_where true r = nowhere
dots_where false r = dots_of identifiers r

abbrev pub of_template : (Identifier → Bool) → (Identifier → Option ℕ) → Tree Identifier → ℕ → Sight
of_template dots depth t level = record { misplaced = bad_template dots t; idle = is_idle dots depth t level; deepest = deepest depth t; deep = deep_enough dots depth t level }

abbrev pub of_parts : (Identifier → Bool) → (Identifier → Option ℕ) → Trees Identifier → ℕ → Sight
of_parts dots depth ts level =
    record { misplaced = some_bad_template dots ts; idle = some_idle dots depth ts level; deepest = deepest_among depth ts; deep = all_deep dots depth ts level }

-- the parts and the tail of a list
abbrev pub of_list : (Identifier → Bool) → (Identifier → Option ℕ) → Trees Identifier → Tail Identifier → ℕ → Sight
of_list dots depth ts tail level =
    record {
      misplaced = starts_dots dots ts || (ends_dots dots tail || (some_bad_template dots ts || bad_template_tail dots tail));
      idle = some_idle dots depth ts level || idle_tail dots depth tail level;
      deepest = greater (deepest_among depth ts) (deepest_tail depth tail);
      deep = all_deep dots depth ts level >> λ done. deep_tail dots depth tail level;
    }

-- the variable that is too shallow, with its place
abbrev pub IsShallow : Work → Option code_name.Named → Result (Unit {0}) (Fault Identifier) → Type 0
IsShallow work None (Ok done) = Unit {0}
IsShallow work None (Err e) = ⊥
IsShallow work (Some n) (Ok done) = ⊥
IsShallow work (Some n) (Err e) = (i : Named Identifier) × (e ≡ EllipsisDepth i) × IsNamed work.symbols n i

pub record Sees (work : Work) (seen : Seen) (s : Sight) : Type 0 where
  pub misplaced : seen.misplaced ≡ s.misplaced
  pub idle : seen.idle ≡ s.idle
  pub deepest : seen.deepest ≡ s.deepest
  pub shallow : IsShallow work seen.shallow s.deep

-- the map holds the depths of variables by number
abbrev pub HasDepths : Work → BTreeMap ℕ ℕ → (Identifier → Option ℕ) → Type 0
HasDepths work depths depth = (n : ℕ) (i : Identifier) → IsIdent work.symbols n i → get nat_cmp depths n ≡ depth i

-- the first of two
abbrev pub first_of : Option code_name.Named → Option code_name.Named → Option code_name.Named
first_of None n = n
first_of (Some m) n = Some m

-- what is seen of a variable of a depth
abbrev pub seen_name : code_name.Named → Option ℕ → ℕ → Seen
seen_name name None level = record { misplaced = false; idle = false; deepest = 0; shallow = None }
seen_name name (Some depth) level = record { misplaced = false; idle = false; deepest = depth; shallow = if nat_le depth level then None else Some name }

-- a template that is at most so deep, under so many ellipses that all that it has can be counted
abbrev pub CanSee : Work → number.Tree → ℕ → ℕ → Type 0
CanSee work n level left = (t : Tree Identifier) × StandsFor work n t × (tree_depth t ≤ left) × (level + tree_size t < 2 ^ 32)

abbrev pub CanSeeParts : Work → List number.Tree → ℕ → ℕ → Type 0
CanSeeParts work ns level left = (ts : Trees Identifier) × PartsStand work ns ts × (trees_depth ts ≤ left) × (level + trees_size ts < 2 ^ 32)

abbrev pub CanSeeEnd : Work → Option number.Tree → ℕ → ℕ → Type 0
CanSeeEnd work end level left = (tail : Tail Identifier) × EndStands work end tail × (tail_depth tail ≤ left) × (level + tail_size tail < 2 ^ 32)
