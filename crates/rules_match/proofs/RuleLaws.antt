-- Rules by number, and the lists that are their patterns.
use Rattle.std.proofs.Common.{true, ◌≡◌, ℕ, zero, suc, ◌+◌, ◌<◌, ◌≤◌, List, [], ◌∷◌, ◌++◌, length, get_or, drop, refl, sym, ap, ◌∙◌, subst, arith}
use Rattle.std.specs.Prelude.{Option, Some, None, Vec, Bool, Result, Ok, Err, IsErrAnd, slice_get}
use Rattle.std.specs.declared.alloc.Global.{Global}
use Rattle.scheme_model.specs.declared.Occ.{Occ}
use Rattle.scheme_model.specs.Trees.{Tree, name, list, Trees, no_trees, tree, Tail}
use Rattle.scheme_model.specs.RulesShape.{Rule, Rules, role_of, dots_of}
use Rattle.scheme_model.specs.TreeParts.{count}
use Rattle.scheme_model.specs.Matching.{Chosen, Match, Matcher, behind, rest_of, compared, match_parts, match_rest, matcher, first_match, or_later}
use Rattle.scheme_model.specs.Ident.{Ident as Identifier}
use Rattle.syntax_tree.specs.Works.{IsStanding}
use Rattle.syntax_tree.specs.Looks.{PartsStand, EndStands}
use Rattle.syntax_tree.specs.Macros.{identifiers, AreIdents, IsEllipsisOf, AreRolesOf, TellsRoles, IsRule, AreRules, IsRest, IsMatch, AreBindings, AreLeaves}
use Rattle.syntax_tree.specs.Standing.{is_list}
use Rattle.syntax_tree.specs.Names.{Names}
use Rattle.syntax_tree.specs.declared.rules.Roles.{Roles}
use Rattle.syntax_tree.specs.declared.rules.Rules as code_rules
use Rattle.syntax_tree.specs.declared.rules.IdPair.{IdPair}
use Rattle.rules_match.specs.Matches.{AddsPairs, ArePairs, compared_in, match_in, Matches}
use Rattle.rules_match.specs.Found.{Adds}
use Rattle.rules_match.specs.declared.matching.Found.{Found}
use Rattle.rules_match.specs.declared.fault.MatchFault.{MatchFault}
use Rattle.syntax_tree.specs.declared.rules.Matched.{Matched}
use Rattle.syntax_tree.specs.declared.rules.Binding.{Binding}
use Rattle.syntax_tree.specs.declared.trees.Work.{Work}
use Rattle.syntax_tree.specs.declared.trees.nodes.Tree as number
use Rattle.syntax_tree.specs.declared.rules.Rule as code_rule
use Rattle.rules_match.specs.Rows.{IsListRow}
use Rattle.rules_match.specs.declared.row.Row.{Row}

-- the rule at a place
pub record RuleAt (work : Work) (rs : List (Rule Identifier)) (k : ℕ) (n : code_rule.Rule) : Type 0 where
  pub rule : Rule Identifier
  pub is : IsRule work n rule
  pub split : drop k rs ≡ rule ∷ drop (k + 1) rs

pub rule_there : (work : Work) (k : ℕ) (ns : List code_rule.Rule) (rs : List (Rule Identifier)) (d : code_rule.Rule) → AreRules work ns rs → k < length ns → RuleAt work rs k (get_or ns k d)
rule_there work k [] rs d h l = absurd (omega arith)
rule_there work k (n ∷ ns) [] d h l = absurd h
rule_there work zero (n ∷ ns) (r ∷ rs) d h l = record { rule = r; is = h.0; split = refl }
rule_there work (suc k) (n ∷ ns) (r ∷ rs) d h l =
    let p = rule_there work k ns rs d h.1 (omega arith) in
    let e : suc k + 1 ≡ suc (k + 1) = omega arith in
    record { rule = p.rule; is = p.is; split = p.split ∙ ap (λ (j : ℕ). p.rule ∷ drop j (r ∷ rs)) (sym e) }

pub rules_past : (work : Work) (k : ℕ) (ns : List code_rule.Rule) (rs : List (Rule Identifier)) → AreRules work ns rs → length ns ≤ k → drop k rs ≡ []
rules_past work zero [] [] h l = refl
rules_past work (suc k) [] [] h l = refl
rules_past work k [] (r ∷ rs) h l = absurd h
rules_past work k (n ∷ ns) [] h l = absurd h
rules_past work zero (n ∷ ns) (r ∷ rs) h l = absurd (omega arith)
rules_past work (suc k) (n ∷ ns) (r ∷ rs) h l = rules_past work k ns rs h.1 (omega arith)

-- ---- the pattern of a rule

abbrev pub pattern_parts : (work : Work) (n : code_rule.Rule) (r : Rule Identifier) → IsRule work n r → Trees Identifier
pattern_parts work n r h = tree (name h.head h.head_place) r.parts

abbrev pub rule_standing : (work : Work) (n : code_rule.Rule) (r : Rule Identifier) → IsRule work n r → IsStanding work n.pattern
rule_standing work n r h = (list (pattern_parts work n r h) r.tail h.place, h.pattern)

-- a list's parts and tail are its own
pub list_is : (work : Work) (ns : List number.Tree) (end : Option number.Tree) (us ts : Trees Identifier) (tail last : Tail Identifier) (o q : Option Occ) → list us tail o ≡ list ts last q → PartsStand work ns ts → EndStands work end last →
    PartsStand work ns us × EndStands work end tail
list_is work ns end us ts tail last o q e h g =
    let parts : us ≡ ts = cc in
    let rest : tail ≡ last = cc in
    (subst (PartsStand work ns) (sym parts) h, subst (EndStands work end) (sym rest) g)

-- ---- whole uses

pub tells : (names : Names) (roles : Roles) (rules : code_rules.Rules) (r : Rules Identifier) → AreRolesOf roles rules.ellipsis rules.literals → IsEllipsisOf names rules.ellipsis r.ellipsis →
    AreIdents names rules.literals r.literals → TellsRoles names roles r
tells names roles rules r h e l = record { numbers = rules.literals; has = h.has; literals = l; ellipsis = subst (λ o. IsEllipsisOf names o r.ellipsis) (sym h.own) e }

-- what is compared behind the head of a form
behind_head : (r : Rules Identifier) (ts : Trees Identifier) (end : Tail Identifier) (o : Option Occ) → 1 ≤ count ts →
    compared (role_of identifiers r) (dots_of identifiers r) r.rules (behind 1 ts) end ≡ compared_in r (list ts end o)
behind_head r no_trees end o h = absurd (omega arith)
behind_head r (tree t ts) end o h = refl

pub whole_pairs : (work : Work) (r : Rules Identifier) (t : Tree Identifier) (ts : Trees Identifier) (end : Tail Identifier) (o : Option Occ) (old new : Vec IdPair Global) (all : List IdPair) → t ≡ list ts end o → 1 ≤ count ts →
    old.items ≡ [] → all ≡ new.items → AddsPairs work old new (compared (role_of identifiers r) (dots_of identifiers r) r.rules (behind 1 ts) end) → ArePairs work all (compared_in r t)
whole_pairs work r t ts end o old new all e h none same a =
    let items : a.pairs ≡ all = ap (λ x. x ++ a.pairs) (sym none) ∙ sym a.added ∙ sym same in
    let there = behind_head r ts end o h ∙ ap (compared_in r) (sym e) in
    subst (ArePairs work all) there (subst (λ x. ArePairs work x (compared (role_of identifiers r) (dots_of identifiers r) r.rules (behind 1 ts) end)) items a.are)

-- ---- what is left of a list

pub rest_is : (work : Work) (form : number.Tree) (row : Row) (ts : Trees Identifier) (end : Tail Identifier) (from : ℕ) → IsListRow work form row ts end → from ≤ count ts → is_list (rest_of (behind from ts) end) ≡ true →
    IsRest work form from (rest_of (behind from ts) end)
rest_is work form row ts end from h l e = record { parts = ts; tail = end; place = h.place; whole = h.whole; within = l; rest = refl; own = e }

-- ---- the first rule that matches

pub rule_number : (rs : List (Rule Identifier)) (k : ℕ) (r : Rule Identifier) (rest : List (Rule Identifier)) → drop k rs ≡ r ∷ rest → slice_get rs k ≡ Some r
rule_number [] zero r rest h = absurd cc
rule_number [] (suc k) r rest h = absurd cc
rule_number (x ∷ rs) zero r rest h = let e : x ≡ r = cc in ap Some e
rule_number (x ∷ rs) (suc k) r rest h = rule_number rs k r rest h

module _ (m : Matcher Identifier Identifier) (ts : Trees Identifier) (end : Tail Identifier) where
  pub next_rule : (rs : List (Rule Identifier)) (r : Rule Identifier) (rest : List (Rule Identifier)) (o : Option (Match Identifier Identifier)) → rs ≡ r ∷ rest → match_parts m r.parts (match_rest m r.tail) ts end ≡ o →
      first_match m rs ts end ≡ or_later r o (λ u. first_match m rest ts end)
  next_rule rs r rest o e h = ap (λ x. first_match m x ts end) e ∙ ap (λ (x : Option (Match Identifier Identifier)). or_later r x (λ u. first_match m rest ts end)) h

-- what a match added to nothing is the match
pub added_match : (work : Work) (old new : Found) (m : Match Identifier Identifier) (bindings : List Binding) (leaves : List number.Tree) → old.bindings.items ≡ [] → old.leaves.items ≡ [] → bindings ≡ new.bindings.items → leaves ≡ new.leaves.items →
    Adds work old new m → IsMatch work bindings leaves m
added_match work old new m bindings leaves nb nl b l a =
    let bound : a.bindings ≡ bindings = ap (λ x. x ++ a.bindings) (sym nb) ∙ sym a.bound ∙ sym b in
    let met : a.leaves ≡ leaves = ap (λ x. x ++ a.leaves) (sym nl) ∙ sym a.met ∙ sym l in
    record { bindings = subst (λ x. AreBindings work x m.bindings) bound a.are_bound; met = subst (λ x. AreLeaves work x m.met) met a.are_met }

match_head : (r : Rules Identifier) (same : Identifier → Identifier → Bool) (ts : Trees Identifier) (end : Tail Identifier) (o : Option Occ) → 1 ≤ count ts →
    first_match (matcher identifiers r same) r.rules (behind 1 ts) end ≡ match_in r same (list ts end o)
match_head r same no_trees end o h = absurd (omega arith)
match_head r same (tree t ts) end o h = refl

pub whole_match : (work : Work) (r : Rules Identifier) (same : Identifier → Identifier → Bool) (t : Tree Identifier) (ts : Trees Identifier) (end : Tail Identifier) (o : Option Occ) (result : Result Matched MatchFault) → t ≡ list ts end o →
    1 ≤ count ts → Matches work r (first_match (matcher identifiers r same) r.rules (behind 1 ts) end) result → Matches work r (match_in r same t) result
whole_match work r same t ts end o result e h a =
    subst (λ x. Matches work r x result) (match_head r same ts end o h ∙ ap (match_in r same) (sym e)) a

pub no_head : (r : Rules Identifier) (same : Identifier → Identifier → Bool) (t : Tree Identifier) (ts : Trees Identifier) (end : Tail Identifier) (o : Option Occ) → t ≡ list ts end o → count ts ≡ 0 → match_in r same t ≡ None
no_head r same t no_trees end o e h = ap (match_in r same) e
no_head r same t (tree u us) end o e h = absurd (omega arith)

pub fault_handed_on : (work : Work) (r : Rules Identifier) (s : Option (Chosen Identifier Identifier)) (result : Result Matched MatchFault) (e : MatchFault) → IsErrAnd result (λ f. f ≡ e) → Matches work r s (Err e) → Matches work r s result
fault_handed_on work r s (Ok m) e h a = absurd h
fault_handed_on work r s (Err f) e h a = subst (λ x. Matches work r s (Err x)) (sym h) a
