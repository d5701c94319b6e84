-- The variables of patterns and their places in templates, by the names of trees.
use Rattle.std.proofs.Common.{◌≡◌, ℕ, ◌+◌, ◌<◌, ◌≤◌, zero, suc, List, [], ◌∷◌, ◌++◌, map, length, take, get_or, Bool, true, false, Option, Some, refl, sym, ap, ◌∙◌, subst, append_assoc, arith}
use Rattle.std.specs.Prelude.{◌==◌, if◌then◌else◌}
use Rattle.std.specs.List.{flat_map}
use Rattle.std.proofs.lemmas.List.{append-nil, map-append}
use Rattle.std.proofs.lemmas.Grind.{flat_map-append}
use Rattle.scheme_model.specs.declared.Occ.{Occ}
use Rattle.scheme_model.specs.Trees.{Tree, name, atom, list, vector, Trees, no_trees, tree, Tail, proper, dotted}
use Rattle.scheme_model.specs.ExpansionFaults.{Named, named}
use Rattle.scheme_model.specs.Ident.{Ident as Identifier, same_ident}
use Rattle.scheme_model.specs.RulesShape.{Rules, Rule, pattern_variables, role_of, Role, IsLiteral, IsEllipsis, IsAny, IsVariable, Variable, variable_at, variables_in, variables_among, variables_behind, depth_before, acts_as_ellipsis}
use Rattle.scheme_model.specs.ProgramArrows.{Arrow, arrow_of, variable_arrow, template_arrows, template_arrows_all, template_arrows_tail, rule_arrows, rule_binders, variable_places}
use Rattle.syntax_tree.specs.Names.{Names, AreToldApart}
use Rattle.syntax_tree.specs.Macros.{identifiers, IsIdent, AreIdents, IsEllipsisOf, AreRolesOf, TellsRoles, IsRule, AreRules}
use Rattle.syntax_tree.specs.Placed.{IsNamed}
use Rattle.syntax_tree.specs.declared.trees.Work.{Work}
use Rattle.syntax_tree.specs.declared.rules.Named as code
use Rattle.syntax_tree.specs.declared.rules.Rule as code_rule
use Rattle.syntax_tree.specs.declared.rules.Rules as code_rules
use Rattle.syntax_tree.specs.declared.rules.Roles.{Roles}
use Rattle.syntax_tree.proofs.RoleLaws.{same_by_number}
use Rattle.core_tree.specs.Names.{AllMatch}
use Rattle.program_leaves.specs.Names.{names_in, names_among, names_behind}
use Rattle.program_leaves.specs.Placed.{place_in}
use Rattle.program_leaves.specs.Variables.{if_variable, chosen, place_among}
use Rattle.program_leaves.proofs.KeyLaws.{flip}

-- ---- lists that match

pub record At {X Y : Type 0} (P : X → Y → Type 0) (x : X) (ys : List Y) (k : ℕ) : Type 0 where
  pub item : Y
  pub is : P x item
  pub more : take (k + 1) ys ≡ take k ys ++ item ∷ []

pub match_at : {X Y : Type 0} (P : X → Y → Type 0) (xs : List X) (ys : List Y) (k : ℕ) (d : X) → AllMatch P xs ys → k < length xs → At P (get_or xs k d) ys k
match_at P [] ys k d h lt = absurd (omega (arith, lt))
match_at P (z ∷ zs) [] k d h lt = absurd h
match_at P (z ∷ zs) (y ∷ ys) zero d h lt = record { item = y; is = h.0; more = refl }
match_at P (z ∷ zs) (y ∷ ys) (suc k) d h lt =
    let r = match_at P zs ys k d h.1 (omega (arith, lt)) in
    let next : suc k + 1 ≡ suc (k + 1) = omega arith in
    record { item = r.item; is = r.is; more = ap (λ n. take n (y ∷ ys)) next ∙ ap (λ q. y ∷ q) r.more }

pub match_item : {X Y : Type 0} (P : X → Y → Type 0) (xs : List X) (ys : List Y) (k : ℕ) (x : X) → AllMatch P xs ys → k < length xs → x ≡ get_or xs k x → At P x ys k
match_item P xs ys k x h lt e =
    let r = match_at P xs ys k x h lt in
    record { item = r.item; is = subst (λ w. P w r.item) (sym e) r.is; more = r.more }

pub match_all : {X Y : Type 0} (P : X → Y → Type 0) (xs : List X) (ys : List Y) (k : ℕ) → AllMatch P xs ys → length xs ≤ k → take k ys ≡ ys
match_all P [] [] zero h le = refl
match_all P [] [] (suc k) h le = refl
match_all P [] (y ∷ ys) k h le = absurd h
match_all P (x ∷ xs) [] k h le = absurd h
match_all P (x ∷ xs) (y ∷ ys) zero h le = absurd (omega (arith, le))
match_all P (x ∷ xs) (y ∷ ys) (suc k) h le = ap (λ q. y ∷ q) (match_all P xs ys k h.1 (omega (arith, le)))

-- ---- the variables among names

chosen-append : {A : Type 0} (role : A → Role) (ns ms : List (Named A)) → chosen role (ns ++ ms) ≡ chosen role ns ++ chosen role ms
chosen-append role ns ms = flat_map-append (λ n. if_variable (role n.name) n) ns ms

-- one more
pub chosen_more : {A : Type 0} (role : A → Role) (ns : List (Named A)) (k : ℕ) (m : Named A) → take (k + 1) ns ≡ take k ns ++ m ∷ [] → chosen role (take (k + 1) ns) ≡ chosen role (take k ns) ++ if_variable (role m.name) m
chosen_more role ns k m e =
    ap (chosen role) e ∙ chosen-append role (take k ns) (m ∷ []) ∙ ap (λ q. chosen role (take k ns) ++ q) (append-nil (if_variable (role m.name) m))

abbrev bare : {A : Type 0} → List (Variable A) → List (Named A)
bare vs = map (λ v. v.variable) vs

bare-append : {A : Type 0} (vs ws : List (Variable A)) → bare (vs ++ ws) ≡ bare vs ++ bare ws
bare-append vs ws = map-append (λ v. v.variable) vs ws

bare_at : {A : Type 0} (r : Role) (i : A) (o : Option Occ) (depth : ℕ) → bare (variable_at r i o depth) ≡ if_variable r (named i o) ++ []
bare_at IsLiteral i o depth = refl
bare_at IsEllipsis i o depth = refl
bare_at IsAny i o depth = refl
bare_at IsVariable i o depth = refl

mutual
  chosen_in : {A : Type 0} (role : A → Role) (t : Tree A) (depth : ℕ) → bare (variables_in role t depth) ≡ chosen role (names_in t)
  chosen_in role (name i o) depth = bare_at (role i) i o depth
  chosen_in role (atom a o) depth = refl
  chosen_in role (list ts tail o) depth =
      bare-append (variables_among role ts depth) (variables_behind role tail depth) ∙ (λ j. chosen_among role ts depth j ++ chosen_behind role tail depth j) ∙ sym (chosen-append role (names_among ts) (names_behind tail))
  chosen_in role (vector ts o) depth = chosen_among role ts depth

  chosen_among : {A : Type 0} (role : A → Role) (ts : Trees A) (depth : ℕ) → bare (variables_among role ts depth) ≡ chosen role (names_among ts)
  chosen_among role no_trees depth = refl
  chosen_among role (tree t ts) depth =
      let d = depth_before (λ i. acts_as_ellipsis (role i)) ts depth in
      bare-append (variables_in role t d) (variables_among role ts depth) ∙ (λ j. chosen_in role t d j ++ chosen_among role ts depth j) ∙ sym (chosen-append role (names_in t) (names_among ts))

  chosen_behind : {A : Type 0} (role : A → Role) (tail : Tail A) (depth : ℕ) → bare (variables_behind role tail depth) ≡ chosen role (names_behind tail)
  chosen_behind role proper depth = refl
  chosen_behind role (dotted t) depth = chosen_in role t depth

pub variables_are : (r : Rules Identifier) (m : Rule Identifier) → chosen (role_of identifiers r) (names_among m.parts ++ names_behind m.tail) ≡ map (λ v. v.variable) (pattern_variables identifiers r m)
variables_are r m =
    let role = role_of identifiers r in
    chosen-append role (names_among m.parts) (names_behind m.tail) ∙ (λ j. sym (chosen_among role m.parts 0) j ++ sym (chosen_behind role m.tail 0) j) ∙ sym (bare-append (variables_among role m.parts 0) (variables_behind role m.tail 0))

-- ---- places in templates

abbrev used : List (Variable Identifier) → Named Identifier → List Arrow
used vs n = variable_arrow vs n.name n.occ

mutual
  used_in : (vs : List (Variable Identifier)) (t : Tree Identifier) → template_arrows vs t ≡ flat_map (used vs) (names_in t)
  used_in vs (name i o) = sym (append-nil (variable_arrow vs i o))
  used_in vs (atom a o) = refl
  used_in vs (list ts tail o) = (λ j. used_among vs ts j ++ used_behind vs tail j) ∙ sym (flat_map-append (used vs) (names_among ts) (names_behind tail))
  used_in vs (vector ts o) = used_among vs ts

  used_among : (vs : List (Variable Identifier)) (ts : Trees Identifier) → template_arrows_all vs ts ≡ flat_map (used vs) (names_among ts)
  used_among vs no_trees = refl
  used_among vs (tree t ts) = (λ j. used_in vs t j ++ used_among vs ts j) ∙ sym (flat_map-append (used vs) (names_in t) (names_among ts))

  used_behind : (vs : List (Variable Identifier)) (tail : Tail Identifier) → template_arrows_tail vs tail ≡ flat_map (used vs) (names_behind tail)
  used_behind vs proper = refl
  used_behind vs (dotted t) = used_in vs t

if_arrow : (b : Bool) (o p : Option Occ) (x : Option (Option Occ)) (q : Option Occ) (rest : List Arrow) → o ≡ p → arrow_of (place_in x) q ≡ rest →
    arrow_of (place_in (if b then Some o else x)) q ≡ (if b then arrow_of p q else rest)
if_arrow true o p x q rest e h = ap (λ (r : Option Occ). arrow_of r q) e
if_arrow false o p x q rest e h = h

module _ (names : Names) (apart : AreToldApart names.idents) where
  place_is : (vs : List code.Named) (ws : List (Variable Identifier)) (n : ℕ) (i : Identifier) (q : Option Occ) → AllMatch (IsNamed names) vs (map (λ v. v.variable) ws) → IsIdent names n i →
      arrow_of (place_in (place_among vs n)) q ≡ variable_arrow ws i q
  place_is [] [] n i q h at = refl
  place_is [] (w ∷ ws) n i q h at = absurd h
  place_is (v ∷ vs) [] n i q h at = absurd h
  place_is (v ∷ vs) (w ∷ ws) n i q h at =
      let same : (v.ident == n) ≡ same_ident w.variable.name i = flip v.ident n ∙ sym (same_by_number names apart v.ident n w.variable.name i h.0.0 at) in
      if_arrow (v.ident == n) v.occ w.variable.occ (place_among vs n) q (variable_arrow ws i q) h.0.1 (place_is vs ws n i q h.1 at)
      ∙ ap (λ (b : Bool). if b then arrow_of w.variable.occ q else variable_arrow ws i q) same

  -- the arrows of a code's names are those of the names that they stand for
  pub uses_are : (vs : List code.Named) (ws : List (Variable Identifier)) (ns : List code.Named) (ms : List (Named Identifier)) → AllMatch (IsNamed names) vs (map (λ v. v.variable) ws) → AllMatch (IsNamed names) ns ms →
      flat_map (λ (n : code.Named). arrow_of (place_in (place_among vs n.ident)) n.occ) ns ≡ flat_map (used ws) ms
  uses_are vs ws [] [] h g = refl
  uses_are vs ws [] (m ∷ ms) h g = absurd g
  uses_are vs ws (n ∷ ns) [] h g = absurd g
  uses_are vs ws (n ∷ ns) (m ∷ ms) h g =
      λ j. (place_is vs ws n.ident m.name n.occ h g.0.0 ∙ ap (variable_arrow ws m.name) g.0.1) j ++ uses_are vs ws ns ms h g.1 j

  pub template_is : (vs : List code.Named) (ws : List (Variable Identifier)) (ns : List code.Named) (t : Tree Identifier) → AllMatch (IsNamed names) vs (map (λ v. v.variable) ws) → AllMatch (IsNamed names) ns (names_in t) →
      flat_map (λ (n : code.Named). arrow_of (place_in (place_among vs n.ident)) n.occ) ns ≡ template_arrows ws t
  template_is vs ws ns t h g = uses_are vs ws ns (names_in t) h g ∙ sym (used_in ws t)

-- ---- rules

pub tells_roles : (names : Names) (roles : Roles) (rules : code_rules.Rules) (r : Rules Identifier) → AreRolesOf roles rules.ellipsis rules.literals → IsEllipsisOf names rules.ellipsis r.ellipsis → AreIdents names rules.literals r.literals →
    TellsRoles names roles r
tells_roles names roles rules r h e l = record {
  numbers = rules.literals;
  has = h.has;
  literals = l;
  ellipsis = subst (λ (x : Option ℕ). IsEllipsisOf names x r.ellipsis) (sym h.own) e;
}

pub record RuleAt (work : Work) (x : code_rule.Rule) (ms : List (Rule Identifier)) (k : ℕ) : Type 0 where
  pub item : Rule Identifier
  pub is : IsRule work x item
  pub more : take (k + 1) ms ≡ take k ms ++ item ∷ []

pub rule_at : (work : Work) (xs : List code_rule.Rule) (ms : List (Rule Identifier)) (k : ℕ) (d : code_rule.Rule) → AreRules work xs ms → k < length xs → RuleAt work (get_or xs k d) ms k
rule_at work [] ms k d h lt = absurd (omega (arith, lt))
rule_at work (z ∷ zs) [] k d h lt = absurd h
rule_at work (z ∷ zs) (m ∷ ms) zero d h lt = record { item = m; is = h.0; more = refl }
rule_at work (z ∷ zs) (m ∷ ms) (suc k) d h lt =
    let r = rule_at work zs ms k d h.1 (omega (arith, lt)) in
    let next : suc k + 1 ≡ suc (k + 1) = omega arith in
    record { item = r.item; is = r.is; more = ap (λ n. take n (m ∷ ms)) next ∙ ap (λ (q : List (Rule Identifier)). m ∷ q) r.more }

pub rules_all : (work : Work) (xs : List code_rule.Rule) (ms : List (Rule Identifier)) (k : ℕ) → AreRules work xs ms → length xs ≤ k → take k ms ≡ ms
rules_all work [] [] zero h le = refl
rules_all work [] [] (suc k) h le = refl
rules_all work [] (m ∷ ms) k h le = absurd h
rules_all work (x ∷ xs) [] k h le = absurd h
rules_all work (x ∷ xs) (m ∷ ms) zero h le = absurd (omega (arith, le))
rules_all work (x ∷ xs) (m ∷ ms) (suc k) h le = ap (λ (q : List (Rule Identifier)). m ∷ q) (rules_all work xs ms k h.1 (omega (arith, le)))

-- what a rule gives, before what others give
arrows-append : (r : Rules Identifier) (ms ns : List (Rule Identifier)) → rule_arrows r (ms ++ ns) ≡ rule_arrows r ms ++ rule_arrows r ns
arrows-append r [] ns = refl
arrows-append r (m ∷ ms) ns =
    ap (λ (q : List Arrow). template_arrows (pattern_variables identifiers r m) m.template ++ q) (arrows-append r ms ns) ∙ sym (append_assoc (template_arrows (pattern_variables identifiers r m) m.template) (rule_arrows r ms) (rule_arrows r ns))

pub arrows_more : (r : Rules Identifier) (ms : List (Rule Identifier)) (k : ℕ) (m : Rule Identifier) → take (k + 1) ms ≡ take k ms ++ m ∷ [] →
    rule_arrows r (take (k + 1) ms) ≡ rule_arrows r (take k ms) ++ template_arrows (pattern_variables identifiers r m) m.template
arrows_more r ms k m e = ap (rule_arrows r) e ∙ arrows-append r (take k ms) (m ∷ []) ∙ ap (λ (q : List Arrow). rule_arrows r (take k ms) ++ q) (append-nil (template_arrows (pattern_variables identifiers r m) m.template))

binders-append : (r : Rules Identifier) (ms ns : List (Rule Identifier)) → rule_binders r (ms ++ ns) ≡ rule_binders r ms ++ rule_binders r ns
binders-append r [] ns = refl
binders-append r (m ∷ ms) ns =
    ap (λ (q : List Occ). variable_places (pattern_variables identifiers r m) ++ q) (binders-append r ms ns) ∙ sym (append_assoc (variable_places (pattern_variables identifiers r m)) (rule_binders r ms) (rule_binders r ns))

pub binders_more : (r : Rules Identifier) (ms : List (Rule Identifier)) (k : ℕ) (m : Rule Identifier) → take (k + 1) ms ≡ take k ms ++ m ∷ [] →
    rule_binders r (take (k + 1) ms) ≡ rule_binders r (take k ms) ++ variable_places (pattern_variables identifiers r m)
binders_more r ms k m e = ap (rule_binders r) e ∙ binders-append r (take k ms) (m ∷ []) ∙ ap (λ (q : List Occ). rule_binders r (take k ms) ++ q) (append-nil (variable_places (pattern_variables identifiers r m)))
