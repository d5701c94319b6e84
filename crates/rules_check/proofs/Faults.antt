-- The lowest fault of a rule, by numbers and as it is defined.
use Rattle.std.proofs.Common.{◌≡◌, ℕ, zero, suc, ◌<◌, ◌≤◌, List, [], ◌∷◌, ◌++◌, length, drop, get_or, Bool, true, false, not, ◌||◌, cond, Option, Some, None, Result, Ok, Err, refl, sym, ap, ◌∙◌, subst, arith}
use Rattle.std.proofs.lemmas.Bool.{eqb-true}
use Rattle.std.proofs.lemmas.Bool.Decides.{nat_tests}
use Rattle.std.specs.Prelude.{nat_eq, is_some, if◌then◌else◌}
use Rattle.std.specs.List.{list_any}
use Rattle.std.specs.Ordering.{nat_cmp, is_eq}
use Rattle.scheme_model.specs.Trees.{Tree, name, atom, list, vector, no_trees, tree, proper, dotted}
use Rattle.scheme_model.specs.ExpansionFaults.{Named, Fault, BadRules, TwoEllipses, DuplicateVariable, IdleEllipsis, ◌>>◌}
use Rattle.scheme_model.specs.RulesShape.{Rules, Rule, Variable, first_twice, depth_of, refuse, check_rule, check_rules, pattern_variables, dots_of, is_dots, bad_template, is_idle, deep_enough}
use Rattle.scheme_model.specs.Ident.{Ident as Identifier}
use Rattle.syntax_tree.specs.Names.{Names, AreToldApart}
use Rattle.syntax_tree.specs.Placed.{IsNamed}
use Rattle.syntax_tree.specs.Macros.{identifiers, IsIdent, AreIdents, IsEllipsisOf, AreRolesOf, TellsRoles, IsRule, AreRules}
use Rattle.syntax_tree.specs.declared.trees.Work.{Work}
use Rattle.syntax_tree.specs.declared.rules.Rules as code_rules
use Rattle.syntax_tree.specs.declared.rules.Rule as code_rule
use Rattle.syntax_tree.specs.declared.rules.Roles.{Roles}
use Rattle.syntax_tree.specs.declared.rules.Named as code_name
use Rattle.syntax_tree.proofs.RoleLaws.{same_by_number, among_by_number}
use Rattle.rules_check.specs.declared.pattern.Variable as code
use Rattle.rules_check.specs.declared.fault.RulesFault.{RulesFault}
use Rattle.rules_check.specs.Checked.{Refuses, Passes, shapes_in, rules_in_form}
use Rattle.rules_check.proofs.ReadLaws.{refuses_then}
use Rattle.rules_check.specs.declared.pattern.Found.{Found}
use Rattle.rules_check.specs.declared.template.Seen.{Seen}
use Rattle.rules_check.specs.Patterns.{of_list, AreVariables, Contains}
use Rattle.rules_check.specs.Templates.{of_template, IsShallow, Sees}
use Rattle.rules_check.specs.Lowest.{depth_by_number, twice_by_number, lowest_of}

-- the variable that stands twice, with its place
abbrev pub IsTwice : Work → Option code_name.Named → Result (Unit {0}) (Fault Identifier) → Type 0
IsTwice work None (Ok done) = Unit {0}
IsTwice work None (Err e) = ⊥
IsTwice work (Some n) (Ok done) = ⊥
IsTwice work (Some n) (Err e) = (i : Named Identifier) × (e ≡ DuplicateVariable i) × IsNamed work.symbols n i

twice_step : (work : Work) (b : Bool) (n : code_name.Named) (i : Named Identifier) (m : Option code_name.Named) (x : Result (Unit {0}) (Fault Identifier)) → IsNamed work.symbols n i → IsTwice work m x →
    IsTwice work (if b then Some n else m) (if b then Err (DuplicateVariable i) else x)
twice_step work true n i m x h g = (i, refl, h)
twice_step work false n i m x h g = g

pub twice_is : (work : Work) (apart : AreToldApart work.symbols.idents) (seen : List ℕ) (names : List (Named Identifier)) (vs : List code.Variable) (ws : List (Variable Identifier)) →
    AreIdents work.symbols seen names → AreVariables work vs ws → IsTwice work (twice_by_number seen vs) (first_twice identifiers.same names ws)
twice_is work apart seen names [] [] s h = tt
twice_is work apart seen names [] (w ∷ ws) s h = absurd h
twice_is work apart seen names (v ∷ vs) [] s h = absurd h
twice_is work apart seen names (v ∷ vs) (w ∷ ws) s h =
    let e = among_by_number work.symbols apart v.name.ident w.variable.name h.0.0 seen names s in
    let rest = twice_is work apart (v.name.ident ∷ seen) (w.variable ∷ names) vs ws (h.0.0, s) h.2 in
    subst (λ (b : Bool). IsTwice work (twice_by_number seen (v ∷ vs)) (if b then Err (DuplicateVariable w.variable) else first_twice identifiers.same (w.variable ∷ names) ws)) (sym e)
    (twice_step work (list_any (nat_eq v.name.ident) seen) v.name w.variable (twice_by_number (v.name.ident ∷ seen) vs) (first_twice identifiers.same (w.variable ∷ names) ws) h.0 rest)

-- the depth of a variable
pub depth_is : (work : Work) (apart : AreToldApart work.symbols.idents) (vs : List code.Variable) (ws : List (Variable Identifier)) → AreVariables work vs ws → (n : ℕ) (i : Identifier) → IsIdent work.symbols n i →
    depth_by_number vs n ≡ depth_of identifiers.same ws i
depth_is work apart [] [] h n i g = refl
depth_is work apart [] (w ∷ ws) h n i g = absurd h
depth_is work apart (v ∷ vs) [] h n i g = absurd h
depth_is work apart (v ∷ vs) (w ∷ ws) h n i g =
    let first = sym (same_by_number work.symbols apart v.name.ident n w.variable.name i h.0.0 g) in
    let rest = depth_is work apart vs ws h.2 n i g in
    λ k. if first k then Some (h.1 k) else rest k

-- the lowest fault
pub lowest_passes : (work : Work) (bad two idle : Bool) (twice shallow : Option code_name.Named) (x y : Result (Unit {0}) (Fault Identifier)) → IsTwice work twice x → IsShallow work shallow y →
    Passes work (refuse bad BadRules >> λ done. refuse two TwoEllipses >> λ done. x >> λ done. y >> λ done. refuse idle IdleEllipsis) (lowest_of bad two twice shallow idle)
lowest_passes work true two idle twice shallow x y h g = refl
lowest_passes work false true idle twice shallow x y h g = refl
lowest_passes work false false idle None shallow (Err e) y h g = absurd h
lowest_passes work false false idle (Some n) shallow (Ok u) y h g = absurd h
lowest_passes work false false idle (Some n) shallow (Err e) y h g = (h.0, ap Err h.1, h.2)
lowest_passes work false false idle None None (Ok u) (Err e) h g = absurd g
lowest_passes work false false idle None (Some n) (Ok u) (Ok v) h g = absurd g
lowest_passes work false false idle None (Some n) (Ok u) (Err e) h g = (g.0, ap Err g.1, g.2)
lowest_passes work false false true None None (Ok u) (Ok v) h g = refl
lowest_passes work false false false None None (Ok u) (Ok v) h g = (tt, refl, tt)

-- ---- the whole list

pub tells : (names : Names) (roles : Roles) (rules : code_rules.Rules) (r : Rules Identifier) → AreRolesOf roles rules.ellipsis rules.literals → IsEllipsisOf names rules.ellipsis r.ellipsis →
    AreIdents names rules.literals r.literals → TellsRoles names roles r
tells names roles rules r h e l = record { numbers = rules.literals; has = h.has; literals = l; ellipsis = subst (λ o. IsEllipsisOf names o r.ellipsis) (sym h.own) e }

-- the shapes come first, and then the rules in order
pub in_form : (t : Tree Identifier) → rules_in_form t ≡ (shapes_in t >> λ r. check_rules identifiers r r.rules >> λ done. Ok r)
in_form (name i o) = refl
in_form (atom a o) = refl
in_form (vector ts o) = refl
in_form (list no_trees proper o) = refl
in_form (list no_trees (dotted u) o) = refl
in_form (list (tree head ts) proper o) = refl
in_form (list (tree head no_trees) (dotted u) o) = refl
in_form (list (tree head (tree t ts)) (dotted u) o) = refl

-- ---- variables one after another

-- a depth, or else that of one more
abbrev pub or_one_more : Option ℕ → code.Variable → ℕ → Option ℕ
or_one_more (Some d) v n = Some d
or_one_more None v n = if nat_eq n v.name.ident then Some v.depth else None

pub depth_more : (vs : List code.Variable) (v : code.Variable) (n : ℕ) → depth_by_number (vs ++ v ∷ []) n ≡ or_one_more (depth_by_number vs n) v n
depth_more [] v n = refl
depth_more (u ∷ us) v n =
    elim (nat_eq n u.name.ident) as (λ b. (if b then Some u.depth else depth_by_number (us ++ v ∷ []) n) ≡ or_one_more (if b then Some u.depth else depth_by_number us n) v n) [
      | true ↦ refl
      | false ↦ depth_more us v n
    ]

-- numbers compare as equal where they are one
pub eq_cmp : (k n : ℕ) → is_eq (nat_cmp k n) ≡ nat_eq n k
eq_cmp k n = grind (arith, nat_tests)

pub none_is : {A : Type 0} (o : Option A) → is_some o ≡ false → o ≡ None
none_is None h = refl
none_is (Some a) h = absurd cc

pub some_is : {A : Type 0} (o : Option A) → is_some o ≡ true → (a : A) × (o ≡ Some a)
some_is None h = absurd cc
some_is (Some a) h = (a, refl)

-- a variable that wasn't there, with its depth
pub depth_added : (vs : List code.Variable) (v : code.Variable) (n : ℕ) (before now : Option ℕ) → before ≡ depth_by_number vs n → depth_by_number vs v.name.ident ≡ None → now ≡ cond (is_eq (nat_cmp v.name.ident n)) (Some v.depth) before →
    now ≡ depth_by_number (vs ++ v ∷ []) n
depth_added vs v n before now e new h =
    h ∙ ap (λ (b : Bool). cond b (Some v.depth) before) (eq_cmp v.name.ident n) ∙ step (nat_eq n v.name.ident) refl ∙ ap (λ (o : Option ℕ). or_one_more o v n) e ∙ sym (depth_more vs v n)
  where
    here : (o : Option ℕ) → nat_eq n v.name.ident ≡ true → o ≡ None → Some v.depth ≡ or_one_more o v n
    here o t g = sym (ap (λ (x : Option ℕ). or_one_more x v n) g ∙ ap (λ (b : Bool). cond b (Some v.depth) None) t)

    other : (o : Option ℕ) → nat_eq n v.name.ident ≡ false → o ≡ or_one_more o v n
    other None t = sym (ap (λ (b : Bool). cond b (Some v.depth) None) t)
    other (Some d) t = refl

    step : (b : Bool) → nat_eq n v.name.ident ≡ b → cond b (Some v.depth) before ≡ or_one_more before v n
    step true t = here before t (e ∙ ap (depth_by_number vs) (eqb-true n v.name.ident t) ∙ new)
    step false t = other before t

-- and one that was there
pub depth_kept : (vs : List code.Variable) (v : code.Variable) (n d : ℕ) → depth_by_number vs v.name.ident ≡ Some d → depth_by_number vs n ≡ depth_by_number (vs ++ v ∷ []) n
depth_kept vs v n d there = step (depth_by_number vs n) refl ∙ sym (depth_more vs v n)
  where
    none : (b : Bool) → nat_eq n v.name.ident ≡ b → depth_by_number vs n ≡ None → None ≡ cond b (Some v.depth) None
    none true t g = let same = ap (depth_by_number vs) (eqb-true n v.name.ident t) in absurd cc
    none false t g = refl

    step : (o : Option ℕ) → depth_by_number vs n ≡ o → o ≡ or_one_more o v n
    step None g = none (nat_eq n v.name.ident) refl g
    step (Some x) g = refl

-- a variable that isn't among those before it
pub twice_more : (ns : List ℕ) (vs us : List code.Variable) (v : code.Variable) → vs ≡ v ∷ us → list_any (nat_eq v.name.ident) ns ≡ false → twice_by_number ns vs ≡ twice_by_number (v.name.ident ∷ ns) us
twice_more ns vs us v e h = ap (twice_by_number ns) e ∙ ap (λ (b : Bool). if b then Some v.name else twice_by_number (v.name.ident ∷ ns) us) h

pub not_true : (b : Bool) → not b ≡ true → b ≡ false
not_true true h = absurd cc
not_true false h = refl

-- ---- rules one after another

-- the rule at a place
pub record IsRuleAt (work : Work) (rs : List (Rule Identifier)) (k : ℕ) (n : code_rule.Rule) : Type 0 where
  pub rule : Rule Identifier
  pub is : IsRule work n rule
  pub split : drop k rs ≡ rule ∷ drop (suc k) rs

pub rule_there : (work : Work) (k : ℕ) (ns : List code_rule.Rule) (rs : List (Rule Identifier)) (d : code_rule.Rule) → AreRules work ns rs → k < length ns → IsRuleAt work rs k (get_or ns k d)
rule_there work k [] rs d h l = absurd (omega arith)
rule_there work k (n ∷ ns) [] d h l = absurd h
rule_there work zero (n ∷ ns) (r ∷ rs) d h l = record { rule = r; is = h.0; split = refl }
rule_there work (suc k) (n ∷ ns) (r ∷ rs) d h l = let p = rule_there work k ns rs d h.1 (omega arith) in record { rule = p.rule; is = p.is; split = p.split }

pub rules_past : (work : Work) (k : ℕ) (ns : List code_rule.Rule) (rs : List (Rule Identifier)) → AreRules work ns rs → length ns ≤ k → drop k rs ≡ []
rules_past work zero [] [] h l = refl
rules_past work zero [] (r ∷ rs) h l = absurd h
rules_past work zero (n ∷ ns) rs h l = absurd (omega arith)
rules_past work (suc k) [] [] h l = refl
rules_past work (suc k) [] (r ∷ rs) h l = absurd h
rules_past work (suc k) (n ∷ ns) [] h l = absurd h
rules_past work (suc k) (n ∷ ns) (r ∷ rs) h l = rules_past work k ns rs h.1 (omega arith)

abbrev then_check : Rules Identifier → List (Rule Identifier) → Unit {0} → Result (Unit {0}) (Fault Identifier)
then_check r rs done = check_rules identifiers r rs

pub rule_refused : (work : Work) (r : Rules Identifier) (xs : List (Rule Identifier)) (m : Rule Identifier) (rs : List (Rule Identifier)) (e : RulesFault) → xs ≡ m ∷ rs → Refuses work e (check_rule identifiers r m) →
    Refuses work e (check_rules identifiers r xs)
rule_refused work r xs m rs e split h = subst (λ (ys : List (Rule Identifier)). Refuses work e (check_rules identifiers r ys)) (sym split) (refuses_then work e (check_rule identifiers r m) (then_check r rs) h)

pub rule_passed : (r : Rules Identifier) (xs : List (Rule Identifier)) (m : Rule Identifier) (rs : List (Rule Identifier)) (u : Unit {0}) → xs ≡ m ∷ rs → check_rule identifiers r m ≡ Ok u → check_rules identifiers r xs ≡ check_rules identifiers r rs
rule_passed r xs m rs u split h = ap (check_rules identifiers r) split ∙ ap (λ (x : Result (Unit {0}) (Fault Identifier)). x >> then_check r rs) h

-- ---- how the whole ends

pub form_refused : (work : Work) (t : Tree Identifier) (r : Rules Identifier) (e : RulesFault) → shapes_in t ≡ Ok r → Refuses work e (check_rules identifiers r r.rules) → Refuses work e (rules_in_form t)
form_refused work t r e s h =
    subst (Refuses work e) (sym (in_form t ∙ ap (λ (x : Result (Rules Identifier) (Fault Identifier)). x >> λ y. check_rules identifiers y y.rules >> λ done. Ok y) s))
    (refuses_then work e (check_rules identifiers r r.rules) (λ done. Ok r) h)

pub form_passed : (t : Tree Identifier) (r : Rules Identifier) (u : Unit {0}) → shapes_in t ≡ Ok r → check_rules identifiers r r.rules ≡ Ok u → rules_in_form t ≡ Ok r
form_passed t r u s h =
    in_form t ∙ ap (λ (x : Result (Rules Identifier) (Fault Identifier)). x >> λ y. check_rules identifiers y y.rules >> λ done. Ok y) s
    ∙ ap (λ (x : Result (Unit {0}) (Fault Identifier)). x >> λ done. Ok r) h

-- ---- one rule

pub rule_passes : (work : Work) (r : Rules Identifier) (m : Rule Identifier) (found : Found) (whole : Bool) (twice : Option code_name.Named) (seen : Seen) → Contains work found (of_list r m.parts m.tail 0) →
    whole ≡ is_dots (dots_of identifiers r) m.template → IsTwice work twice (first_twice identifiers.same [] (pattern_variables identifiers r m)) →
    Sees work seen (of_template (dots_of identifiers r) (depth_of identifiers.same (pattern_variables identifiers r m)) m.template 0) →
    Passes work (check_rule identifiers r m) (lowest_of (found.misplaced || (whole || seen.misplaced)) found.two twice seen.shallow seen.idle)
rule_passes work r m found whole twice seen f w t s =
    let dots = dots_of identifiers r in
    let depth = depth_of identifiers.same (pattern_variables identifiers r m) in
    let content = of_list r m.parts m.tail 0 in
    let bad : (found.misplaced || (whole || seen.misplaced)) ≡ (content.misplaced || (is_dots dots m.template || bad_template dots m.template)) = λ k. f.misplaced k || (w k || s.misplaced k) in
    let passes = lowest_passes work (content.misplaced || (is_dots dots m.template || bad_template dots m.template)) content.two (is_idle dots depth m.template 0) twice seen.shallow
    (first_twice identifiers.same [] (pattern_variables identifiers r m)) (deep_enough dots depth m.template 0) t s.shallow in
    subst (λ (b : Bool). Passes work (check_rule identifiers r m) (lowest_of b found.two twice seen.shallow seen.idle)) (sym bad)
    (subst (λ (b : Bool). Passes work (check_rule identifiers r m) (lowest_of (content.misplaced || (is_dots dots m.template || bad_template dots m.template)) b twice seen.shallow seen.idle)) (sym f.two)
    (subst (λ (b : Bool). Passes work (check_rule identifiers r m) (lowest_of (content.misplaced || (is_dots dots m.template || bad_template dots m.template)) content.two twice seen.shallow b)) (sym s.idle) passes))
