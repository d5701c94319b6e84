-- The rules of a macro (R7RS 4.3.2), and which shapes they have.
use Rattle.std.specs.Prelude.{ℕ, suc, ◌+◌, nat_lt, nat_le, List, [], ◌∷◌, ◌++◌, map, Bool, true, false, not, ◌&&◌, ◌||◌, Option, Some, None, Result, Ok, Err, codes, if◌then◌else◌}
use Rattle.std.specs.Str.{bytes_eq}
use Rattle.scheme_model.specs.declared.Occ.{Occ}
use Rattle.scheme_model.specs.Trees.{Tree, name, atom, list, vector, Trees, no_trees, tree, Tail, proper, dotted, map_tree, map_trees, map_tail}
use Rattle.scheme_model.specs.ExpansionFaults.{Named, named, named_map, Fault, BadRules, TwoEllipses, DuplicateVariable, EllipsisDepth, IdleEllipsis, ◌>>◌}
use Rattle.scheme_model.specs.Shapes.{is_among, names_of}

-- a pattern without its first part, and a template
pub record Rule (A : Type 0) : Type 0 where
  pub parts : Trees A
  pub tail : Tail A
  pub template : Tree A

-- an ellipsis of its own, where there is one; the literals; the rules
pub record Rules (A : Type 0) : Type 0 where
  pub ellipsis : Option A
  pub literals : List (Named A)
  pub rules : List (Rule A)

abbrev pub rule_map : {A B : Type 0} → (A → B) → Rule A → Rule B
rule_map f r = record { parts = map_trees f r.parts; tail = map_tail f r.tail; template = map_tree f r.template }

abbrev pub option_map : {A B : Type 0} → (A → B) → Option A → Option B
option_map f None = None
option_map f (Some a) = Some (f a)

abbrev pub rules_map : {A B : Type 0} → (A → B) → Rules A → Rules B
rules_map f r = record { ellipsis = option_map f r.ellipsis; literals = map (named_map f) r.literals; rules = map (rule_map f) r.rules }

-- what an identifier is in a pattern
pub data Role : Type 0 where
  IsLiteral : Role
  IsEllipsis : Role
  IsAny : Role
  IsVariable : Role

-- what tells identifiers of rules: which are equal, and their symbols
pub record Names (A : Type 0) : Type 0 where
  pub same : A → A → Bool
  pub strip : A → List ℕ

-- the ellipsis of its own, or `...` by its symbol
abbrev pub is_ellipsis : {A : Type 0} → Names A → Option A → A → Bool
is_ellipsis n (Some e) i = n.same e i
is_ellipsis n None i = bytes_eq (n.strip i) (codes "...")

-- a literal goes before an ellipsis and `_`
abbrev pub role_of : {A : Type 0} → Names A → Rules A → A → Role
role_of n r i =
    if is_among n.same i r.literals then IsLiteral
    else if is_ellipsis n r.ellipsis i then IsEllipsis
    else if bytes_eq (n.strip i) (codes "_") then IsAny
    else IsVariable

abbrev pub acts_as_ellipsis : Role → Bool
acts_as_ellipsis IsLiteral = false
acts_as_ellipsis IsEllipsis = true
acts_as_ellipsis IsAny = false
acts_as_ellipsis IsVariable = false

abbrev pub dots_of : {A : Type 0} → Names A → Rules A → A → Bool
dots_of n r i = acts_as_ellipsis (role_of n r i)

-- a tree that is an ellipsis
abbrev pub is_dots : {A : Type 0} → (A → Bool) → Tree A → Bool
is_dots dots (name i o) = dots i
is_dots dots (atom a o) = false
is_dots dots (list ts tail o) = false
is_dots dots (vector ts o) = false

abbrev pub starts_dots : {A : Type 0} → (A → Bool) → Trees A → Bool
starts_dots dots no_trees = false
starts_dots dots (tree t ts) = is_dots dots t

abbrev pub ends_dots : {A : Type 0} → (A → Bool) → Tail A → Bool
ends_dots dots proper = false
ends_dots dots (dotted t) = is_dots dots t

-- ---- counts of ellipses

-- how many ellipses stand at the front
abbrev pub leading : {A : Type 0} → (A → Bool) → Trees A → ℕ
leading dots no_trees = 0
leading dots (tree t ts) = if is_dots dots t then suc (leading dots ts) else 0

-- ---- shapes of patterns

-- an ellipsis with nothing before it in its list or vector, or as a tail
abbrev mutual
  pub bad_pattern : {A : Type 0} → (A → Bool) → Tree A → Bool
  bad_pattern dots (name i o) = false
  bad_pattern dots (atom a o) = false
  bad_pattern dots (list ts tail o) = starts_dots dots ts || (ends_dots dots tail || (some_bad_pattern dots ts || bad_pattern_tail dots tail))
  bad_pattern dots (vector ts o) = starts_dots dots ts || some_bad_pattern dots ts

  pub some_bad_pattern : {A : Type 0} → (A → Bool) → Trees A → Bool
  some_bad_pattern dots no_trees = false
  some_bad_pattern dots (tree t ts) = bad_pattern dots t || some_bad_pattern dots ts

  pub bad_pattern_tail : {A : Type 0} → (A → Bool) → Tail A → Bool
  bad_pattern_tail dots proper = false
  bad_pattern_tail dots (dotted t) = bad_pattern dots t

abbrev pub dots_count : {A : Type 0} → (A → Bool) → Trees A → ℕ
dots_count dots no_trees = 0
dots_count dots (tree t ts) = if is_dots dots t then suc (dots_count dots ts) else dots_count dots ts

-- a list or a vector with two ellipses
abbrev mutual
  pub two_dots : {A : Type 0} → (A → Bool) → Tree A → Bool
  two_dots dots (name i o) = false
  two_dots dots (atom a o) = false
  two_dots dots (list ts tail o) = nat_lt 1 (dots_count dots ts) || (some_two_dots dots ts || two_dots_tail dots tail)
  two_dots dots (vector ts o) = nat_lt 1 (dots_count dots ts) || some_two_dots dots ts

  pub some_two_dots : {A : Type 0} → (A → Bool) → Trees A → Bool
  some_two_dots dots no_trees = false
  some_two_dots dots (tree t ts) = two_dots dots t || some_two_dots dots ts

  pub two_dots_tail : {A : Type 0} → (A → Bool) → Tail A → Bool
  two_dots_tail dots proper = false
  two_dots_tail dots (dotted t) = two_dots dots t

-- ---- variables

-- a pattern variable, and under how many ellipses it stands
pub record Variable (A : Type 0) : Type 0 where
  pub variable : Named A
  pub depth : ℕ

abbrev pub variable_at : {A : Type 0} → Role → A → Option Occ → ℕ → List (Variable A)
variable_at IsLiteral i o depth = []
variable_at IsEllipsis i o depth = []
variable_at IsAny i o depth = []
variable_at IsVariable i o depth = record { variable = named i o; depth = depth } ∷ []

-- the depth of a part that may be followed by an ellipsis
abbrev pub depth_before : {A : Type 0} → (A → Bool) → Trees A → ℕ → ℕ
depth_before dots ts depth = if starts_dots dots ts then suc depth else depth

abbrev mutual
  pub variables_in : {A : Type 0} → (A → Role) → Tree A → ℕ → List (Variable A)
  variables_in role (name i o) depth = variable_at (role i) i o depth
  variables_in role (atom a o) depth = []
  variables_in role (list ts tail o) depth = variables_among role ts depth ++ variables_behind role tail depth
  variables_in role (vector ts o) depth = variables_among role ts depth

  pub variables_among : {A : Type 0} → (A → Role) → Trees A → ℕ → List (Variable A)
  variables_among role no_trees depth = []
  variables_among role (tree t ts) depth = variables_in role t (depth_before (λ i. acts_as_ellipsis (role i)) ts depth) ++ variables_among role ts depth

  pub variables_behind : {A : Type 0} → (A → Role) → Tail A → ℕ → List (Variable A)
  variables_behind role proper depth = []
  variables_behind role (dotted t) depth = variables_in role t depth

abbrev pub first_twice : {A : Type 0} → (A → A → Bool) → List (Named A) → List (Variable A) → Result (Unit {0}) (Fault A)
first_twice same seen [] = Ok tt
first_twice same seen (v ∷ vs) = if is_among same v.variable.name seen then Err (DuplicateVariable v.variable) else first_twice same (v.variable ∷ seen) vs

-- the depth of a variable, if it is one
abbrev pub depth_of : {A : Type 0} → (A → A → Bool) → List (Variable A) → A → Option ℕ
depth_of same [] i = None
depth_of same (v ∷ vs) i = if same v.variable.name i then Some v.depth else depth_of same vs i

-- ---- shapes of templates

-- `(... template)`: what stands in an escape
abbrev pub escape_of : {A : Type 0} → (A → Bool) → Trees A → Tail A → Option (Tree A)
escape_of dots no_trees tail = None
escape_of dots (tree t no_trees) tail = None
escape_of dots (tree t (tree u no_trees)) proper = if is_dots dots t then Some u else None
escape_of dots (tree t (tree u no_trees)) (dotted v) = None
escape_of dots (tree t (tree u (tree v vs))) tail = None

abbrev pub unless_escape : {A : Type 0} → Option (Tree A) → Bool → Bool
unless_escape (Some t) bad = false
unless_escape None bad = bad

-- an ellipsis with nothing before it, or as a tail
abbrev mutual
  pub bad_template : {A : Type 0} → (A → Bool) → Tree A → Bool
  bad_template dots (name i o) = false
  bad_template dots (atom a o) = false
  bad_template dots (list ts tail o) = unless_escape (escape_of dots ts tail) (starts_dots dots ts || (ends_dots dots tail || (some_bad_template dots ts || bad_template_tail dots tail)))
  bad_template dots (vector ts o) = starts_dots dots ts || some_bad_template dots ts

  pub some_bad_template : {A : Type 0} → (A → Bool) → Trees A → Bool
  some_bad_template dots no_trees = false
  some_bad_template dots (tree t ts) = bad_template dots t || some_bad_template dots ts

  pub bad_template_tail : {A : Type 0} → (A → Bool) → Tail A → Bool
  bad_template_tail dots proper = false
  bad_template_tail dots (dotted t) = bad_template dots t

abbrev pub too_shallow : {A : Type 0} → Option ℕ → A → Option Occ → ℕ → Result (Unit {0}) (Fault A)
too_shallow None i o level = Ok tt
too_shallow (Some depth) i o level = if nat_le depth level then Ok tt else Err (EllipsisDepth (named i o))

abbrev pub nowhere : {A : Type 0} → A → Bool
nowhere i = false

-- in an escape ellipses are identifiers
abbrev pub deep_in : {A B : Type 0} → Option A → B → B → B
deep_in (Some t) escaped other = escaped
deep_in None escaped other = other

-- each variable stands under at least its number of ellipses; the leftmost that doesn't is the fault
abbrev mutual
  pub deep_enough : {A : Type 0} → (A → Bool) → (A → Option ℕ) → Tree A → ℕ → Result (Unit {0}) (Fault A)
  deep_enough dots depth (name i o) level = too_shallow (depth i) i o level
  deep_enough dots depth (atom a o) level = Ok tt
  deep_enough dots depth (list ts tail o) level = deep_in (escape_of dots ts tail) (all_deep nowhere depth ts level) (all_deep dots depth ts level >> λ done. deep_tail dots depth tail level)
  deep_enough dots depth (vector ts o) level = all_deep dots depth ts level

  pub all_deep : {A : Type 0} → (A → Bool) → (A → Option ℕ) → Trees A → ℕ → Result (Unit {0}) (Fault A)
  all_deep dots depth no_trees level = Ok tt
  all_deep dots depth (tree t ts) level = deep_enough dots depth t (level + leading dots ts) >> λ done. all_deep dots depth ts level

  pub deep_tail : {A : Type 0} → (A → Bool) → (A → Option ℕ) → Tail A → ℕ → Result (Unit {0}) (Fault A)
  deep_tail dots depth proper level = Ok tt
  deep_tail dots depth (dotted t) level = deep_enough dots depth t level

-- the most ellipses that a variable of a template stands under in the pattern
abbrev pub most : Option ℕ → ℕ
most None = 0
most (Some n) = n

abbrev pub greater : ℕ → ℕ → ℕ
greater m n = if nat_le m n then n else m

abbrev mutual
  pub deepest : {A : Type 0} → (A → Option ℕ) → Tree A → ℕ
  deepest depth (name i o) = most (depth i)
  deepest depth (atom a o) = 0
  deepest depth (list ts tail o) = greater (deepest_among depth ts) (deepest_tail depth tail)
  deepest depth (vector ts o) = deepest_among depth ts

  pub deepest_among : {A : Type 0} → (A → Option ℕ) → Trees A → ℕ
  deepest_among depth no_trees = 0
  deepest_among depth (tree t ts) = greater (deepest depth t) (deepest_among depth ts)

  pub deepest_tail : {A : Type 0} → (A → Option ℕ) → Tail A → ℕ
  deepest_tail depth proper = 0
  deepest_tail depth (dotted t) = deepest depth t

-- an ellipsis that no variable drives: those behind a part repeat it by its variables that stand as deep in the pattern
abbrev mutual
  pub is_idle : {A : Type 0} → (A → Bool) → (A → Option ℕ) → Tree A → ℕ → Bool
  is_idle dots depth (name i o) level = false
  is_idle dots depth (atom a o) level = false
  is_idle dots depth (list ts tail o) level = unless_escape (escape_of dots ts tail) (some_idle dots depth ts level || idle_tail dots depth tail level)
  is_idle dots depth (vector ts o) level = some_idle dots depth ts level

  pub some_idle : {A : Type 0} → (A → Bool) → (A → Option ℕ) → Trees A → ℕ → Bool
  some_idle dots depth no_trees level = false
  some_idle dots depth (tree t ts) level =
      (not (is_dots dots t) && (nat_lt 0 (leading dots ts) && nat_lt (deepest depth t) (level + leading dots ts))) || (is_idle dots depth t (level + leading dots ts) || some_idle dots depth ts level)

  pub idle_tail : {A : Type 0} → (A → Bool) → (A → Option ℕ) → Tail A → ℕ → Bool
  idle_tail dots depth proper level = false
  idle_tail dots depth (dotted t) level = is_idle dots depth t level

-- ---- the check

abbrev pub pattern_variables : {A : Type 0} → Names A → Rules A → Rule A → List (Variable A)
pattern_variables n r rule = variables_among (role_of n r) rule.parts 0 ++ variables_behind (role_of n r) rule.tail 0

abbrev pub refuse : {A : Type 0} → Bool → Fault A → Result (Unit {0}) (Fault A)
refuse bad fault = if bad then Err fault else Ok tt

-- one rule: the lowest fault that holds
abbrev pub check_rule : {A : Type 0} → Names A → Rules A → Rule A → Result (Unit {0}) (Fault A)
check_rule n r rule =
    refuse (bad_pattern (dots_of n r) (list rule.parts rule.tail None) || (is_dots (dots_of n r) rule.template || bad_template (dots_of n r) rule.template)) BadRules >> λ done.
    refuse (two_dots (dots_of n r) (list rule.parts rule.tail None)) TwoEllipses >> λ done.
    first_twice n.same [] (pattern_variables n r rule) >> λ done.
    deep_enough (dots_of n r) (depth_of n.same (pattern_variables n r rule)) rule.template 0 >> λ done.
    refuse (is_idle (dots_of n r) (depth_of n.same (pattern_variables n r rule)) rule.template 0) IdleEllipsis

abbrev pub check_rules : {A : Type 0} → Names A → Rules A → List (Rule A) → Result (Unit {0}) (Fault A)
check_rules n r [] = Ok tt
check_rules n r (rule ∷ rules) = check_rule n r rule >> λ done. check_rules n r rules

-- ---- reading

abbrev pub bad : {A B : Type 0} → Result B (Fault A) → Result B (Fault A)
bad (Ok b) = Ok b
bad (Err e) = Err BadRules

-- `(pattern template)`: a pattern is a list whose first part is an identifier
abbrev pub rule_in : {A : Type 0} → Trees A → Tail A → Tree A → Result (Rule A) (Fault A)
rule_in no_trees tail template = Err BadRules
rule_in (tree (name i o) ts) tail template = Ok (record { parts = ts; tail = tail; template = template })
rule_in (tree (atom a o) ts) tail template = Err BadRules
rule_in (tree (list us end o) ts) tail template = Err BadRules
rule_in (tree (vector us o) ts) tail template = Err BadRules

abbrev pub rule_of : {A : Type 0} → Tree A → Result (Rule A) (Fault A)
rule_of (name i o) = Err BadRules
rule_of (atom a o) = Err BadRules
rule_of (vector ts o) = Err BadRules
rule_of (list no_trees tail o) = Err BadRules
rule_of (list (tree p no_trees) tail o) = Err BadRules
rule_of (list (tree p (tree t (tree u us))) tail o) = Err BadRules
rule_of (list (tree p (tree t no_trees)) (dotted u) o) = Err BadRules
rule_of (list (tree (name i q) (tree t no_trees)) proper o) = Err BadRules
rule_of (list (tree (atom a q) (tree t no_trees)) proper o) = Err BadRules
rule_of (list (tree (vector us q) (tree t no_trees)) proper o) = Err BadRules
rule_of (list (tree (list ps end q) (tree t no_trees)) proper o) = rule_in ps end t

abbrev pub rules_in : {A : Type 0} → Trees A → Result (List (Rule A)) (Fault A)
rules_in no_trees = Ok []
rules_in (tree t ts) = rule_of t >> λ r. rules_in ts >> λ rs. Ok (r ∷ rs)

-- the literals, and then the rules
abbrev pub rules_behind : {A : Type 0} → Option A → Trees A → Result (Rules A) (Fault A)
rules_behind ellipsis no_trees = Err BadRules
rules_behind ellipsis (tree (name i o) ts) = Err BadRules
rules_behind ellipsis (tree (atom a o) ts) = Err BadRules
rules_behind ellipsis (tree (vector us o) ts) = Err BadRules
rules_behind ellipsis (tree (list us (dotted t) o) ts) = Err BadRules
rules_behind ellipsis (tree (list us proper o) ts) = bad (names_of us) >> λ ls. rules_in ts >> λ rs. Ok (record { ellipsis = ellipsis; literals = ls; rules = rs })

-- behind the head: an ellipsis of its own may come first
abbrev pub rules_parts : {A : Type 0} → Trees A → Tail A → Result (Rules A) (Fault A)
rules_parts no_trees tail = Err BadRules
rules_parts (tree t ts) (dotted u) = Err BadRules
rules_parts (tree (name i o) ts) proper = rules_behind (Some i) ts
rules_parts (tree (atom a o) ts) proper = Err BadRules
rules_parts (tree (list us end o) ts) proper = rules_behind None (tree (list us end o) ts)
rules_parts (tree (vector us o) ts) proper = Err BadRules

-- the rules that a list behind its head has, or the first fault
abbrev pub rules_of : {A : Type 0} → Names A → Trees A → Tail A → Result (Rules A) (Fault A)
rules_of n ts tail = rules_parts ts tail >> λ r. check_rules n r r.rules >> λ done. Ok r
