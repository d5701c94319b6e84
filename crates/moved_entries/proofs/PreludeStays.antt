-- The macros of the prelude stand under other numbers that keep the prelude's unit, since no tree of theirs has a place.
use Rattle.std.proofs.Common.{◌≡◌, ℕ, List, [], ◌∷◌, map, Bool, true, false, Option, Some, None, Result, Ok, Err, refl, sym, ap, ◌∙◌, subst}
use Rattle.std.specs.Prelude.{◌&&◌, codes}
use Rattle.scheme_model.specs.declared.Occ.{Occ}
use Rattle.scheme_model.specs.Ident.{Written}
use Rattle.scheme_model.specs.Trees.{Tree, name, atom, list, vector, Trees, no_trees, tree, Tail, proper, dotted, map_tree, map_trees, map_tail}
use Rattle.scheme_model.specs.ExpansionFaults.{Named, named_map, Fault}
use Rattle.scheme_model.specs.RulesShape.{Rule, Rules, rule_map, option_map, rules_parts}
use Rattle.scheme_model.specs.Prelude as model
use Rattle.scheme_model.specs.Prelude.{prelude}
use Rattle.scheme_model.specs.Program.{prelude_unit}
use Rattle.syntax_tree.specs.Macros.{RulesFor}
use Rattle.syntax_tree.specs.Works.{StandsFor}
use Rattle.syntax_tree.specs.declared.rules.Rule as code_rule
use Rattle.syntax_tree.specs.declared.trees.Work.{Work}
use Rattle.base_library.specs.Macros.{Each, IsMacro, AreMacros, pattern_of, written}
use Rattle.base_library.specs.declared.macros.PreludeMacro.{PreludeMacro}
use Rattle.renumbering_laws.specs.Moving.{move_tree, move_trees, move_tail, move_named, move_rule, move_rules}
use Rattle.renumbering_laws.specs.Renumbering.{Renumbering, place, ident, change}
use Rattle.moves.specs.Works.{WorkMoves}
use Rattle.moves.proofs.EntryLaws.{symbol_there}
use Rattle.moves.proofs.StandLaws.{stands_there}
use Rattle.moved_numbers.proofs.LeafLaws.{KeepsDefinitions, rules_there}

-- ---- without places

no_place : Option Occ → Bool
no_place None = true
no_place (Some o) = false

mutual
  bare : Tree (List ℕ) → Bool
  bare (name i o) = no_place o
  bare (atom a o) = no_place o
  bare (list ts tail o) = no_place o && (bares ts && bare_tail tail)
  bare (vector ts o) = no_place o && bares ts

  bares : Trees (List ℕ) → Bool
  bares no_trees = true
  bares (tree t ts) = bare t && bares ts

  bare_tail : Tail (List ℕ) → Bool
  bare_tail proper = true
  bare_tail (dotted t) = bare t

bare_names : List (Named (List ℕ)) → Bool
bare_names [] = true
bare_names (n ∷ ns) = no_place n.occ && bare_names ns

bare_rules : List (Rule (List ℕ)) → Bool
bare_rules [] = true
bare_rules (r ∷ rs) = (bares r.parts && (bare_tail r.tail && bare r.template)) && bare_rules rs

bare_read : Result (Rules (List ℕ)) (Fault (List ℕ)) → Bool
bare_read (Ok r) = bare_names r.literals && bare_rules r.rules
bare_read (Err e) = true

all_bare : List model.PreludeMacro → Bool
all_bare [] = true
all_bare (m ∷ ms) = bare_read (rules_parts m.parts proper) && all_bare ms

prelude_bare : all_bare prelude ≡ true
unfolding prelude all_bare bare_read bare_rules bare_names bare_tail bares bare no_place
prelude_bare = refl

both_first : (a b : Bool) → (a && b) ≡ true → a ≡ true
both_first true b h = refl
both_first false b h = h

both_second : (a b : Bool) → (a && b) ≡ true → b ≡ true
both_second true b h = h
both_second false b h = absurd cc

-- ---- what doesn't move

module _ (r : Renumbering) (unit : r.unit prelude_unit ≡ prelude_unit) where
  still_name : (s : List ℕ) → ident r (Written prelude_unit s) ≡ Written prelude_unit s
  still_name s = ap (λ (u : ℕ). Written u s) unit

  still_place : (o : Option Occ) → no_place o ≡ true → place r o ≡ o
  unfolding no_place
  still_place None h = refl
  still_place (Some o) h = absurd cc

  mutual
    unfolding bare bares bare_tail

    still_tree : (t : Tree (List ℕ)) → bare t ≡ true → move_tree (change r) (map_tree (Written prelude_unit) t) ≡ map_tree (Written prelude_unit) t
    still_tree (name i o) h = let a = still_name i in let b = still_place o h in λ j. name (a j) (b j)
    still_tree (atom a o) h = ap (atom a) (still_place o h)
    still_tree (list ts tail o) h =
        let a = still_place o (both_first (no_place o) (bares ts && bare_tail tail) h) in
        let k = both_second (no_place o) (bares ts && bare_tail tail) h in
        let b = still_trees ts (both_first (bares ts) (bare_tail tail) k) in
        let c = still_tail tail (both_second (bares ts) (bare_tail tail) k) in
        λ j. list (b j) (c j) (a j)
    still_tree (vector ts o) h = let a = still_place o (both_first (no_place o) (bares ts) h) in let b = still_trees ts (both_second (no_place o) (bares ts) h) in λ j. vector (b j) (a j)

    still_trees : (ts : Trees (List ℕ)) → bares ts ≡ true → move_trees (change r) (map_trees (Written prelude_unit) ts) ≡ map_trees (Written prelude_unit) ts
    still_trees no_trees h = refl
    still_trees (tree t ts) h = let a = still_tree t (both_first (bare t) (bares ts) h) in let b = still_trees ts (both_second (bare t) (bares ts) h) in λ j. tree (a j) (b j)

    still_tail : (tail : Tail (List ℕ)) → bare_tail tail ≡ true → move_tail (change r) (map_tail (Written prelude_unit) tail) ≡ map_tail (Written prelude_unit) tail
    still_tail proper h = refl
    still_tail (dotted t) h = ap dotted (still_tree t h)

  still_names : (ns : List (Named (List ℕ))) → bare_names ns ≡ true → map (move_named (change r)) (map (named_map (Written prelude_unit)) ns) ≡ map (named_map (Written prelude_unit)) ns
  unfolding bare_names
  still_names [] h = refl
  still_names (n ∷ ns) h =
      let a = still_name n.name in
      let b = still_place n.occ (both_first (no_place n.occ) (bare_names ns) h) in
      let c = still_names ns (both_second (no_place n.occ) (bare_names ns) h) in
      λ j. record { name = a j; occ = b j } ∷ c j

  still_rule : (x : Rule (List ℕ)) → (bares x.parts && (bare_tail x.tail && bare x.template)) ≡ true → move_rule (change r) (rule_map (Written prelude_unit) x) ≡ rule_map (Written prelude_unit) x
  still_rule x h =
      let k = both_second (bares x.parts) (bare_tail x.tail && bare x.template) h in
      let a = still_trees x.parts (both_first (bares x.parts) (bare_tail x.tail && bare x.template) h) in
      let b = still_tail x.tail (both_first (bare_tail x.tail) (bare x.template) k) in
      let c = still_tree x.template (both_second (bare_tail x.tail) (bare x.template) k) in
      λ j. record { parts = a j; tail = b j; template = c j }

  still_rules : (xs : List (Rule (List ℕ))) → bare_rules xs ≡ true → map (move_rule (change r)) (map (rule_map (Written prelude_unit)) xs) ≡ map (rule_map (Written prelude_unit)) xs
  unfolding bare_rules
  still_rules [] h = refl
  still_rules (x ∷ xs) h =
      let a = still_rule x (both_first (bares x.parts && (bare_tail x.tail && bare x.template)) (bare_rules xs) h) in
      let b = still_rules xs (both_second (bares x.parts && (bare_tail x.tail && bare x.template)) (bare_rules xs) h) in
      λ j. a j ∷ b j

  still_ellipsis : (e : Option (List ℕ)) → option_map (ident r) (option_map (Written prelude_unit) e) ≡ option_map (Written prelude_unit) e
  still_ellipsis None = refl
  still_ellipsis (Some s) = ap Some (still_name s)

  still_written : (x : Rules (List ℕ)) → bare_names x.literals ≡ true → bare_rules x.rules ≡ true → move_rules (change r) (written x) ≡ written x
  still_written x names rules =
      let e = still_ellipsis x.ellipsis in let a = still_names x.literals names in let b = still_rules x.rules rules in
      λ j. record { ellipsis = e j; literals = a j; rules = b j }

  still_pattern : (x : Rule (List ℕ)) → (bares x.parts && (bare_tail x.tail && bare x.template)) ≡ true → move_tree (change r) (pattern_of (rule_map (Written prelude_unit) x)) ≡ pattern_of (rule_map (Written prelude_unit) x)
  still_pattern x h =
      let u = unit in
      let k = both_second (bares x.parts) (bare_tail x.tail && bare x.template) h in
      let a = still_trees x.parts (both_first (bares x.parts) (bare_tail x.tail && bare x.template) h) in
      let b = still_tail x.tail (both_first (bare_tail x.tail) (bare x.template) k) in
      λ j. list (tree (name (Written (u j) (codes "_")) None) (a j)) (b j) None

  -- ---- macros

  module _ (keeps : KeepsDefinitions r) (old new : Work) (moves : WorkMoves r old new) where
    patterns_stay : (cs : List code_rule.Rule) (xs : List (Rule (List ℕ))) → bare_rules xs ≡ true → Each (λ c x. StandsFor old c.pattern (pattern_of x)) cs (map (rule_map (Written prelude_unit)) xs) →
        Each (λ c x. StandsFor new c.pattern (pattern_of x)) cs (map (rule_map (Written prelude_unit)) xs)
    unfolding bare_rules
    patterns_stay [] [] b h = h
    patterns_stay [] (x ∷ xs) b h = h
    patterns_stay (c ∷ cs) [] b h = h
    patterns_stay (c ∷ cs) (x ∷ xs) b h = (
      subst (StandsFor new c.pattern) (still_pattern x (both_first (bares x.parts && (bare_tail x.tail && bare x.template)) (bare_rules xs) b))
          (stands_there r old.trees.nodes new.trees.nodes old.symbols new.symbols moves.trees.nodes moves.names (pattern_of (rule_map (Written prelude_unit) x)) c.pattern.number h.0),
      patterns_stay cs xs (both_second (bares x.parts && (bare_tail x.tail && bare x.template)) (bare_rules xs) b) h.1,
    )

    macro_stays : (m : PreludeMacro) (p : model.PreludeMacro) → bare_read (rules_parts p.parts proper) ≡ true → IsMacro old m p → IsMacro new m p
    unfolding bare_read
    macro_stays m p b h =
        let bare_here : (bare_names h.read.literals && bare_rules h.read.rules) ≡ true = ap bare_read (sym h.shape) ∙ b in
        let names = both_first (bare_names h.read.literals) (bare_rules h.read.rules) bare_here in
        let rules = both_second (bare_names h.read.literals) (bare_rules h.read.rules) bare_here in
        record {
          name = symbol_there r old.symbols new.symbols moves.names m.name p.name h.name;
          read = h.read;
          shape = h.shape;
          checked = h.checked;
          rules = subst (RulesFor new m.rules) (still_written h.read names rules) (rules_there r keeps old new moves m.rules (written h.read) h.rules);
          patterns = patterns_stay m.rules.rules h.read.rules rules h.patterns;
        }

    all_stay : (ms : List PreludeMacro) (ps : List model.PreludeMacro) → all_bare ps ≡ true → AreMacros old ms ps → AreMacros new ms ps
    unfolding all_bare
    all_stay [] [] b h = h
    all_stay [] (p ∷ ps) b h = h
    all_stay (m ∷ ms) [] b h = h
    all_stay (m ∷ ms) (p ∷ ps) b h =
        (macro_stays m p (both_first (bare_read (rules_parts p.parts proper)) (all_bare ps) b) h.0, all_stay ms ps (both_second (bare_read (rules_parts p.parts proper)) (all_bare ps) b) h.1)

    pub prelude_stays : (ms : List PreludeMacro) → AreMacros old ms prelude → AreMacros new ms prelude
    prelude_stays ms h = all_stay ms prelude prelude_bare h
