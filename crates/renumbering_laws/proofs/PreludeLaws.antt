-- The prelude under a renumbering that keeps its unit and its form: nothing of it changes. This is where the number 128 is looked at.
use Rattle.std.proofs.Common.{◌≡◌, ℕ, List, [], ◌∷◌, map, Bool, true, false, cond, Option, Some, None, Result, Ok, Err, refl, sym, ap, ◌∙◌, subst}
use Rattle.std.specs.Prelude.{◌&&◌, ◌==◌}
use Rattle.scheme_model.specs.declared.Occ.{Occ}
use Rattle.scheme_model.specs.Identifiers.{Name, Written}
use Rattle.scheme_model.specs.Ident.{Ident, Written as WrittenIdent}
use Rattle.scheme_model.specs.Trees.{Tree, name, atom, list, vector, Trees, no_trees, tree, Tail, proper, dotted, map_tree, map_trees, map_tail}
use Rattle.scheme_model.specs.ExpansionFaults.{Named, named_map, Fault}
use Rattle.scheme_model.specs.Meaning.{Meaning, Standard, Global, same_meaning}
use Rattle.scheme_model.specs.RulesShape.{Rule, Rules, rule_map, rules_map, option_map, rules_parts}
use Rattle.scheme_model.specs.Substitution.{Defined, rules_at}
use Rattle.scheme_model.specs.Prelude.{PreludeMacro, prelude}
use Rattle.scheme_model.specs.Program.{prelude_unit, is_standard, prelude_entry, written_rules, prelude_meaning, prelude_macro, prelude_definitions, progress_before}
use Rattle.scheme_model.specs.ScopedExpansion.{macro_at}
use Rattle.scheme_model.specs.ScopedProgram.{prelude_rules, scoped_prelude_macro, scoped_before}
use Rattle.scheme_model.proofs.RenamingLaws.{cond_map}
use Rattle.renumbering_laws.specs.Moving.{Change, move_tree, move_trees, move_tail, move_named, move_rule, move_rules}
use Rattle.renumbering_laws.specs.Renumbering.{Renumbering, IsOneToOne, place, ident, named_as, meaning, change}
use Rattle.renumbering_laws.specs.ScopedStates.{IsOnto, transformer_as, ScopedMacrosMove}
use Rattle.renumbering_laws.specs.Units.{KeepsPrelude, ProgressMoves, ScopedProgressMoves}
use Rattle.renumbering_laws.specs.States.{defined_as, names_change, TablesMove, EntriesMove}
use Rattle.renumbering_laws.proofs.OneToOne.{same_moved}
use Rattle.renumbering_laws.proofs.NameLaws.{table_step}

-- ---- trees without places

abbrev no_place : Option Occ → Bool
no_place None = true
no_place (Some o) = false

abbrev mutual
  bare : {A : Type 0} → Tree A → Bool
  bare (name i o) = no_place o
  bare (atom a o) = no_place o
  bare (list ts tail o) = no_place o && (bares ts && bare_tail tail)
  bare (vector ts o) = no_place o && bares ts

  bares : {A : Type 0} → Trees A → Bool
  bares no_trees = true
  bares (tree t ts) = bare t && bares ts

  bare_tail : {A : Type 0} → Tail A → Bool
  bare_tail proper = true
  bare_tail (dotted t) = bare t

abbrev bare_names : {A : Type 0} → List (Named A) → Bool
bare_names [] = true
bare_names (n ∷ ns) = no_place n.occ && bare_names ns

abbrev bare_rules : {A : Type 0} → List (Rule A) → Bool
bare_rules [] = true
bare_rules (r ∷ rs) = (bares r.parts && (bare_tail r.tail && bare r.template)) && bare_rules rs

abbrev bare_result : {A : Type 0} → Result (Rules A) (Fault A) → Bool
bare_result (Ok r) = bare_names r.literals && bare_rules r.rules
bare_result (Err e) = true

abbrev all_bare : List PreludeMacro → Bool
all_bare [] = true
all_bare (m ∷ ms) = bare_result (rules_parts m.parts proper) && all_bare ms

prelude_bare : all_bare prelude ≡ true
unfolding prelude
prelude_bare = refl

left_of : (a b : Bool) → (a && b) ≡ true → a ≡ true
left_of true b h = refl
left_of false b h = absurd cc

right_of : (a b : Bool) → (a && b) ≡ true → b ≡ true
right_of true b h = h
right_of false b h = absurd cc

module _ (A B : Type 0) (r : Renumbering) (on : B → B) (u : A → B) (same : (i : A) → on (u i) ≡ u i) where
  abbrev f : Change B B
  f = record { on = on; at = place r }

  still_place : (o : Option Occ) → no_place o ≡ true → place r o ≡ o
  still_place None h = refl
  still_place (Some o) h = absurd cc

  mutual
    still_tree : (t : Tree A) → bare t ≡ true → move_tree f (map_tree u t) ≡ map_tree u t
    still_tree (name i o) h = let a = same i in let b = still_place o h in λ j. name (a j) (b j)
    still_tree (atom a o) h = ap (atom a) (still_place o h)
    still_tree (list ts tail o) h =
        let a = still_place o (left_of (no_place o) (bares ts && bare_tail tail) h) in let k = right_of (no_place o) (bares ts && bare_tail tail) h in
        let b = still_trees ts (left_of (bares ts) (bare_tail tail) k) in let c = still_tail tail (right_of (bares ts) (bare_tail tail) k) in λ j. list (b j) (c j) (a j)
    still_tree (vector ts o) h = let a = still_place o (left_of (no_place o) (bares ts) h) in let b = still_trees ts (right_of (no_place o) (bares ts) h) in λ j. vector (b j) (a j)

    still_trees : (ts : Trees A) → bares ts ≡ true → move_trees f (map_trees u ts) ≡ map_trees u ts
    still_trees no_trees h = refl
    still_trees (tree t ts) h = let a = still_tree t (left_of (bare t) (bares ts) h) in let b = still_trees ts (right_of (bare t) (bares ts) h) in λ j. tree (a j) (b j)

    still_tail : (tail : Tail A) → bare_tail tail ≡ true → move_tail f (map_tail u tail) ≡ map_tail u tail
    still_tail proper h = refl
    still_tail (dotted t) h = ap dotted (still_tree t h)

  still_names : (ns : List (Named A)) → bare_names ns ≡ true → map (move_named f) (map (named_map u) ns) ≡ map (named_map u) ns
  still_names [] h = refl
  still_names (n ∷ ns) h =
      let a = same n.name in let b = still_place n.occ (left_of (no_place n.occ) (bare_names ns) h) in let c = still_names ns (right_of (no_place n.occ) (bare_names ns) h) in
      λ j. record { name = a j; occ = b j } ∷ c j

  still_rules : (rs : List (Rule A)) → bare_rules rs ≡ true → map (move_rule f) (map (rule_map u) rs) ≡ map (rule_map u) rs
  still_rules [] h = refl
  still_rules (x ∷ xs) h =
      let k = left_of (bares x.parts && (bare_tail x.tail && bare x.template)) (bare_rules xs) h in let rest = still_rules xs (right_of (bares x.parts && (bare_tail x.tail && bare x.template)) (bare_rules xs) h) in
      let a = still_trees x.parts (left_of (bares x.parts) (bare_tail x.tail && bare x.template) k) in let k2 = right_of (bares x.parts) (bare_tail x.tail && bare x.template) k in
      let b = still_tail x.tail (left_of (bare_tail x.tail) (bare x.template) k2) in let c = still_tree x.template (right_of (bare_tail x.tail) (bare x.template) k2) in
      λ j. record { parts = a j; tail = b j; template = c j } ∷ rest j

  still_ellipsis : (e : Option A) → option_map on (option_map u e) ≡ option_map u e
  still_ellipsis None = refl
  still_ellipsis (Some i) = ap Some (same i)

  pub still : (x : Rules A) → (bare_names x.literals && bare_rules x.rules) ≡ true → move_rules f (rules_map u x) ≡ rules_map u x
  still x h =
      let e = still_ellipsis x.ellipsis in let a = still_names x.literals (left_of (bare_names x.literals) (bare_rules x.rules) h) in let b = still_rules x.rules (right_of (bare_names x.literals) (bare_rules x.rules) h) in
      λ j. record { ellipsis = e j; literals = a j; rules = b j }

-- ---- the prelude

module _ (r : Renumbering) (o : IsOneToOne r) (keeps : KeepsPrelude r) where
  abbrev kept : r.unit prelude_unit ≡ prelude_unit
  kept = keeps.unit

  abbrev form_kept : r.form prelude_unit 0 ≡ 0
  form_kept = keeps.form

  pub entry_still : EntriesMove r prelude_entry prelude_entry
  entry_still u x =
      cond_map (option_map (meaning r)) (Some (Standard x)) None
      (ap (λ t. t && is_standard x) (ap (λ v. r.unit u == v) (sym kept) ∙ o.units u prelude_unit)) refl refl

  abbrev of_prelude : PreludeMacro → Defined
  of_prelude m = record { unit = prelude_unit; form = 0; ident = WrittenIdent prelude_unit m.name; keyword = true; occ = None }

  one_still : (m : PreludeMacro) → defined_as r (of_prelude m) ≡ of_prelude m
  one_still m = let a = kept in let b = form_kept in λ j. record { unit = a j; form = b j; ident = WrittenIdent (a j) m.name; keyword = true; occ = None }

  table_still : (ms : List PreludeMacro) → TablesMove r (prelude_definitions ms) (prelude_definitions ms)
  table_still [] = λ u i. refl
  table_still (m ∷ ms) = go (is_standard m.name) (table_still ms)
    where
      go : (t : Bool) → TablesMove r (prelude_definitions ms) (prelude_definitions ms)
          → TablesMove r (cond t (prelude_definitions ms) (of_prelude m ∷ prelude_definitions ms)) (cond t (prelude_definitions ms) (of_prelude m ∷ prelude_definitions ms))
      go true ih = ih
      go false ih = subst (λ d. TablesMove r (of_prelude m ∷ prelude_definitions ms) (d ∷ prelude_definitions ms)) (one_still m) (table_step r o (prelude_definitions ms) (prelude_definitions ms) ih (of_prelude m))

  meaning_still : (s : List ℕ) → meaning r (prelude_meaning s) ≡ prelude_meaning s
  meaning_still s = go (is_standard s)
    where
      go : (t : Bool) → meaning r (cond t (Standard s) (Global prelude_unit (WrittenIdent prelude_unit s))) ≡ cond t (Standard s) (Global prelude_unit (WrittenIdent prelude_unit s))
      go true = refl
      go false = let a = kept in λ j. Global (a j) (WrittenIdent (a j) s)

  written_still : (x : Result (Rules (List ℕ)) (Fault (List ℕ))) → bare_result x ≡ true → move_rules (names_change r) (written_rules x) ≡ written_rules x
  written_still (Ok x) h = still (List ℕ) Name r (named_as r) (Written prelude_unit) (λ s. ap (λ u. Written u s) kept) x h
  written_still (Err e) h = refl

  macros_still : (ms : List PreludeMacro) → all_bare ms ≡ true → (m : Meaning) → rules_at (map prelude_macro ms) (meaning r m) ≡ option_map (move_rules (names_change r)) (rules_at (map prelude_macro ms) m)
  macros_still [] h m = refl
  macros_still (k ∷ ks) h m =
      let b = bare_result (rules_parts k.parts proper) in
      cond_map (option_map (move_rules (names_change r))) (Some (written_rules (rules_parts k.parts proper))) (rules_at (map prelude_macro ks) m)
      (ap (λ x. same_meaning x (meaning r m)) (sym (meaning_still k.name)) ∙ same_moved r o (prelude_meaning k.name) m)
      (ap Some (sym (written_still (rules_parts k.parts proper) (left_of (bare_result (rules_parts k.parts proper)) (all_bare ks) h)))) (macros_still ks (right_of (bare_result (rules_parts k.parts proper)) (all_bare ks) h) m)

  prelude_rules_still : (x : Result (Rules (List ℕ)) (Fault (List ℕ))) → bare_result x ≡ true → move_rules (change r) (prelude_rules x) ≡ prelude_rules x
  prelude_rules_still (Ok x) h = still (List ℕ) Ident r (ident r) (WrittenIdent prelude_unit) (λ s. ap (λ u. WrittenIdent u s) kept) x h
  prelude_rules_still (Err e) h = refl

  scoped_macros_still : (w : IsOnto r) (ms : List PreludeMacro) → all_bare ms ≡ true → ScopedMacrosMove r w (map scoped_prelude_macro ms) (map scoped_prelude_macro ms)
  scoped_macros_still w [] h m = refl
  scoped_macros_still w (k ∷ ks) h m =
      cond_map (option_map (transformer_as r w)) (Some (record { env = []; rules = prelude_rules (rules_parts k.parts proper) })) (macro_at (map scoped_prelude_macro ks) m)
      (ap (λ x. same_meaning x (meaning r m)) (sym (meaning_still k.name)) ∙ same_moved r o (prelude_meaning k.name) m)
      (ap (λ x. Some (record { env = []; rules = x })) (sym (prelude_rules_still (rules_parts k.parts proper) (left_of (bare_result (rules_parts k.parts proper)) (all_bare ks) h)))) (scoped_macros_still w ks (right_of (bare_result (rules_parts k.parts proper)) (all_bare ks) h) m)

  -- what stands before any unit is worked on corresponds to itself
  pub before_moves : ProgressMoves r progress_before progress_before
  before_moves = record { table = table_still prelude; macros = macros_still prelude prelude_bare; entry = entry_still }

  pub scoped_before_moves : (w : IsOnto r) → ScopedProgressMoves r w scoped_before scoped_before
  scoped_before_moves w = record { table = table_still prelude; macros = scoped_macros_still w prelude prelude_bare; places = λ k. refl; definitions = λ b i. refl; entry = entry_still }
