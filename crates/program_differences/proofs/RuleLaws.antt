-- The slots of rules: the variables among the nodes of a pattern, their places, and what names of patterns and templates are.
use Rattle.std.proofs.Common.{◌≡◌, ℕ, zero, suc, ◌+◌, ◌<◌, ◌≤◌, Bool, true, false, List, [], ◌∷◌, ◌++◌, map, take, length, get_or, Option, Some, None, refl, sym, ap, ◌∙◌, arith, append_assoc}
use Rattle.std.specs.Prelude.{◌==◌, if◌then◌else◌, is_some}
use Rattle.std.specs.List.{flat_map}
use Rattle.std.proofs.lemmas.List.{append-nil, take_more}
use Rattle.std.proofs.lemmas.Grind.{flat_map-append}
use Rattle.scheme_model.specs.declared.Occ.{Occ}
use Rattle.scheme_model.specs.Trees.{Tree, name, atom, list, vector, Trees, no_trees, tree, Tail, proper, dotted}
use Rattle.scheme_model.specs.ExpansionFaults.{Named}
use Rattle.scheme_model.specs.RulesShape.{Role, IsLiteral, IsEllipsis, IsAny, IsVariable, Rule, Rules, Variable as RuleVariable, nowhere, role_of, pattern_variables}
use Rattle.scheme_model.specs.Ident.{Ident as Identifier, same_ident}
use Rattle.rename_model.specs.Walks.{Slot, LeafOf, OfNode, OfNumber, ShowsPlace, IsPatternVariable, IsInserted, IsRuleLiteral, in_rules, is_given, nodes_in, nodes_among, nodes_behind, variable_slots, pattern_name, template_name, pattern_nodes, slots_of_rule, slots_of}
use Rattle.syntax_tree.specs.Names.{Names, AreToldApart}
use Rattle.syntax_tree.specs.Macros.{identifiers, IsIdent, AreIdents, IsEllipsisOf, AreRules}
use Rattle.syntax_tree.specs.Placed.{IsNamed}
use Rattle.syntax_tree.specs.declared.rules.Named as code
use Rattle.syntax_tree.specs.declared.rules.Rule as code_rule
use Rattle.syntax_tree.specs.declared.trees.Work.{Work}
use Rattle.syntax_tree.proofs.RoleLaws.{same_by_number}
use Rattle.core_tree.specs.Names.{AllMatch}
use Rattle.program_leaves.specs.Adds.{Adds}
use Rattle.program_leaves.specs.Names.{names_in, names_among, names_behind}
use Rattle.program_leaves.specs.Placed.{first_or}
use Rattle.program_leaves.specs.Variables.{if_variable, chosen}
use Rattle.program_leaves.proofs.AddLaws.{adds_both, adds_same}
use Rattle.program_leaves.proofs.KeyLaws.{flip, if_first}
use Rattle.program_leaves.proofs.VariableLaws.{variables_are, match_all}
use Rattle.program_differences.specs.declared.rules.Variable.{Variable}
use Rattle.program_differences.specs.Variables.{variable_in, numbered, placed, pattern_slots, template_slots, heading, literals}
use Rattle.alpha_equal.proofs.NodeLaws.{no_escape, plain}

-- ---- what is added for one thing after another

module _ {X Y Z : Type 0} (P : X → Y → Type 0) (f : Z → List Y) where
  pub adds_next : (old mid new : List X) (zs : List Z) (k : ℕ) (z : Z) → take (k + 1) zs ≡ take k zs ++ z ∷ [] → Adds P old mid (flat_map f (take k zs)) → Adds P mid new (f z) → Adds P old new (flat_map f (take (k + 1) zs))
  adds_next old mid new zs k z e h g =
      adds_same P old new (flat_map f (take k zs) ++ f z) (flat_map f (take (k + 1) zs))
      (sym (ap (flat_map f) e ∙ flat_map-append f (take k zs) (z ∷ []) ∙ ap (λ (q : List Y). flat_map f (take k zs) ++ q) (append-nil (f z))))
      (adds_both P old mid new (flat_map f (take k zs)) (f z) h g)

  pub adds_all : {W : Type 0} (Q : W → Z → Type 0) (old new : List X) (ws : List W) (zs : List Z) (k : ℕ) → AllMatch Q ws zs → length ws ≤ k → Adds P old new (flat_map f (take k zs)) → Adds P old new (flat_map f zs)
  adds_all Q old new ws zs k h le g = adds_same P old new (flat_map f (take k zs)) (flat_map f zs) (ap (flat_map f) (match_all Q ws zs k h le)) g

-- ---- variables among nodes

chosen_both : (role : Identifier → Role) (ns ms : List (Named Identifier)) → chosen role (ns ++ ms) ≡ chosen role ns ++ chosen role ms
chosen_both role ns ms = flat_map-append (λ n. if_variable (role n.name) n) ns ms

mutual
  node_in : (role : Identifier → Role) (t : Tree Identifier) → flat_map (variable_in role) (nodes_in nowhere t) ≡ chosen role (names_in t)
  node_in role (name i o) = refl
  node_in role (atom a o) = refl
  node_in role (list ts tail o) =
      ap (flat_map (variable_in role)) (sym (plain nowhere ts tail o (no_escape ts tail)))
      ∙ flat_map-append (variable_in role) (nodes_among nowhere ts) (nodes_behind nowhere tail) ∙ (λ j. node_among role ts j ++ node_behind role tail j) ∙ sym (chosen_both role (names_among ts) (names_behind tail))
  node_in role (vector ts o) = node_among role ts

  node_among : (role : Identifier → Role) (ts : Trees Identifier) → flat_map (variable_in role) (nodes_among nowhere ts) ≡ chosen role (names_among ts)
  node_among role no_trees = refl
  node_among role (tree t ts) =
      flat_map-append (variable_in role) (nodes_in nowhere t) (nodes_among nowhere ts) ∙ (λ j. node_in role t j ++ node_among role ts j) ∙ sym (chosen_both role (names_in t) (names_among ts))

  node_behind : (role : Identifier → Role) (tail : Tail Identifier) → flat_map (variable_in role) (nodes_behind nowhere tail) ≡ chosen role (names_behind tail)
  node_behind role proper = refl
  node_behind role (dotted t) = node_in role t

node_list : (role : Identifier → Role) (ts : Trees Identifier) (tail : Tail Identifier) →
    flat_map (variable_in role) (nodes_among nowhere ts ++ nodes_behind nowhere tail) ≡ chosen role (names_among ts ++ names_behind tail)
node_list role ts tail =
    flat_map-append (variable_in role) (nodes_among nowhere ts) (nodes_behind nowhere tail) ∙ (λ j. node_among role ts j ++ node_behind role tail j) ∙ sym (chosen_both role (names_among ts) (names_behind tail))

-- those of a pattern are the variables of its rule
pub pattern_has : (r : Rules Identifier) (m : Rule Identifier) → flat_map (variable_in (role_of identifiers r)) (pattern_nodes m) ≡ map (λ v. v.variable) (pattern_variables identifiers r m)
pattern_has r m = node_list (role_of identifiers r) m.parts m.tail ∙ variables_are r m

-- ---- places of variables

length_take : {A : Type 0} (i : ℕ) (xs : List A) → i ≤ length xs → length (take i xs) ≡ i
length_take zero xs le = refl
length_take (suc i) [] le = absurd (omega (arith, le))
length_take (suc i) (x ∷ xs) le = ap suc (length_take i xs (omega (arith, le)))

numbered-append : (k : ℕ) (vs ws : List code.Named) (n : ℕ) → numbered k (vs ++ ws) n ≡ first_or (numbered k vs n) (numbered (k + length vs) ws n)
numbered-append k [] ws n = let same : k ≡ k + 0 = omega arith in ap (λ (m : ℕ). numbered m ws n) same
numbered-append k (v ∷ vs) ws n =
    let same : suc k + length vs ≡ k + length (v ∷ vs) = omega arith in
    let here : Variable = record { place = k; occ = v.occ } in
    ap (λ (q : Option Variable). if v.ident == n then Some here else q) (numbered-append (suc k) vs ws n ∙ ap (λ (m : ℕ). first_or (numbered (suc k) vs n) (numbered m ws n)) same)
    ∙ if_first (v.ident == n) here (numbered (suc k) vs n) (numbered (k + length (v ∷ vs)) ws n)

pub numbered_more : (vs : List code.Named) (i n : ℕ) (d : code.Named) (old new : Option Variable) → i < length vs → old ≡ numbered 0 (take i vs) n →
    new ≡ first_or old (if (get_or vs i d).ident == n then Some (record { place = i; occ = (get_or vs i d).occ }) else None) → new ≡ numbered 0 (take (i + 1) vs) n
numbered_more vs i n d old new lt h k =
    let v = get_or vs i d in
    let long = length_take i vs (omega (arith, lt)) in
    let place : i ≡ 0 + length (take i vs) = omega (arith, long) in
    k ∙ (λ j. first_or (h j) (if v.ident == n then Some (record { place = place j; occ = v.occ }) else None))
    ∙ sym (numbered-append 0 (take i vs) (v ∷ []) n) ∙ ap (λ (q : List code.Named). numbered 0 q n) (sym (take_more vs i d lt))

if_placed : (b : Bool) (k : ℕ) (o p : Option Occ) (x : Option Variable) (q : Option Occ) (other rest : List Slot) → o ≡ p → placed x q other ≡ rest →
    placed (if b then Some (record { place = k; occ = o }) else x) q other ≡ (if b then in_rules (OfNode IsPatternVariable) q (ShowsPlace p) ∷ in_rules (OfNumber k) q (ShowsPlace p) ∷ [] else rest)
if_placed true k o p x q other rest e h = ap (λ (r : Option Occ). in_rules (OfNode IsPatternVariable) q (ShowsPlace r) ∷ in_rules (OfNumber k) q (ShowsPlace r) ∷ []) e
if_placed false k o p x q other rest e h = h

module _ (names : Names) (apart : AreToldApart names.idents) where
  pub placed_is : (vs : List code.Named) (ws : List (RuleVariable Identifier)) (k n : ℕ) (i : Identifier) (q : Option Occ) (other : List Slot) → AllMatch (IsNamed names) vs (map (λ v. v.variable) ws) → IsIdent names n i →
      placed (numbered k vs n) q other ≡ variable_slots k ws i q other
  placed_is [] [] k n i q other h at = refl
  placed_is [] (w ∷ ws) k n i q other h at = absurd h
  placed_is (v ∷ vs) [] k n i q other h at = absurd h
  placed_is (v ∷ vs) (w ∷ ws) k n i q other h at =
      let same : (v.ident == n) ≡ same_ident w.variable.name i = flip v.ident n ∙ sym (same_by_number names apart v.ident n w.variable.name i h.0.0 at) in
      if_placed (v.ident == n) k v.occ w.variable.occ (numbered (suc k) vs n) q other (variable_slots (suc k) ws i q other) h.0.1 (placed_is vs ws (suc k) n i q other h.1 at)
      ∙ ap (λ (b : Bool). if b then in_rules (OfNode IsPatternVariable) q (ShowsPlace w.variable.occ) ∷ in_rules (OfNumber k) q (ShowsPlace w.variable.occ) ∷ [] else variable_slots (suc k) ws i q other) same

-- ---- names

pub pattern_named : (role : Role) (v : Option Variable) (vs : List (RuleVariable Identifier)) (i : Identifier) (o : Option Occ) → placed v o [] ≡ variable_slots 0 vs i o [] → pattern_slots role v o ≡ pattern_name vs role i o
pattern_named IsLiteral v vs i o h = refl
pattern_named IsEllipsis v vs i o h = refl
pattern_named IsAny v vs i o h = refl
pattern_named IsVariable v vs i o h = h

pub template_named : (dots : Bool) (v : Option Variable) (vs : List (RuleVariable Identifier)) (i : Identifier) (o : Option Occ) → placed v o (LeafOf IsInserted ∷ []) ≡ variable_slots 0 vs i o (LeafOf IsInserted ∷ []) →
    template_slots dots v o ≡ template_name vs dots i o
template_named true v vs i o h = refl
template_named false v vs i o h = h

-- ---- the heading and the literals

pub ellipsis_given : (names : Names) (n : Option ℕ) (e : Option Identifier) → IsEllipsisOf names n e → is_some n ≡ is_given e
ellipsis_given names None None h = refl
ellipsis_given names None (Some i) h = absurd h
ellipsis_given names (Some n) None h = absurd h
ellipsis_given names (Some n) (Some i) h = refl

pub literals_count : (names : Names) (ns : List ℕ) (ls : List (Named Identifier)) → AreIdents names ns ls → length ns ≡ length ls
literals_count names [] [] h = refl
literals_count names [] (l ∷ ls) h = absurd h
literals_count names (n ∷ ns) [] h = absurd h
literals_count names (n ∷ ns) (l ∷ ls) h = ap suc (literals_count names ns ls h.1)

pub literals_are : (names : Names) (ns : List ℕ) (ls : List (Named Identifier)) → AreIdents names ns ls → literals (length ns) ≡ map (λ (l : Named Identifier). LeafOf IsRuleLiteral) ls
literals_are names [] [] h = refl
literals_are names [] (l ∷ ls) h = absurd h
literals_are names (n ∷ ns) [] h = absurd h
literals_are names (n ∷ ns) (l ∷ ls) h = ap (λ (q : List Slot). LeafOf IsRuleLiteral ∷ q) (literals_are names ns ls h.1)

-- one literal more
pub literals_more : (k : ℕ) → literals (k + 1) ≡ literals k ++ LeafOf IsRuleLiteral ∷ []
literals_more zero = refl
literals_more (suc k) = let next : suc k + 1 ≡ suc (k + 1) = omega arith in ap literals next ∙ ap (λ (q : List Slot). LeafOf IsRuleLiteral ∷ q) (literals_more k)

pub rules_count : (work : Work) (ns : List code_rule.Rule) (ms : List (Rule Identifier)) → AreRules work ns ms → length ns ≡ length ms
rules_count work [] [] h = refl
rules_count work [] (m ∷ ms) h = absurd h
rules_count work (n ∷ ns) [] h = absurd h
rules_count work (n ∷ ns) (m ∷ ms) h = ap suc (rules_count work ns ms h.1)

-- the slots of rules, by what the code has of them
pub slots_are : (work : Work) (e : Option ℕ) (ns : List ℕ) (us : List code_rule.Rule) (r : Rules Identifier) → IsEllipsisOf work.symbols e r.ellipsis → AreIdents work.symbols ns r.literals → AreRules work us r.rules →
    (heading (is_some e) (length ns) (length us) ++ literals (length ns)) ++ flat_map (slots_of_rule r) r.rules ≡ slots_of r
slots_are work e ns us r own ls rs =
    append_assoc (heading (is_some e) (length ns) (length us)) (literals (length ns)) (flat_map (slots_of_rule r) r.rules)
    ∙ (λ j. heading (ellipsis_given work.symbols e r.ellipsis own j) (literals_count work.symbols ns r.literals ls j) (rules_count work us r.rules rs j) ++ (literals_are work.symbols ns r.literals ls j ++ flat_map (slots_of_rule r) r.rules))
