-- Answers that are told to be the same are equal.
use Rattle.std.proofs.Common.{◌≡◌, ℕ, List, [], ◌∷◌, map, Bool, true, false, Option, Some, None, refl, sym, ap}
use Rattle.std.specs.Prelude.{◌&&◌, ◌==◌}
use Rattle.std.specs.Str.{bytes_eq}
use Rattle.std.proofs.lemmas.Bool.{eqb-true}
use Rattle.std.proofs.lemmas.Slice.Eq.{bytes_eq-Decides}
use Rattle.scheme_model.specs.declared.Occ.{Occ}
use Rattle.scheme_model.specs.Identifiers.{same_number}
use Rattle.scheme_model.specs.Ident.{Ident, same_ident}
use Rattle.scheme_model.specs.Meaning.{Meaning, Local, Global, Standard, Free, same_meaning}
use Rattle.scheme_model.specs.Trees.{Atom, Numeral, Quoted, Character, Boolean, Bytes, Tree, name, atom, list, vector, Trees, no_trees, tree, Tail, proper, dotted}
use Rattle.scheme_model.specs.ExpansionFaults.{Named}
use Rattle.scheme_model.specs.RulesShape.{Rule, Rules, option_map}
use Rattle.scheme_model.specs.Matching.{same_atom, same_truth}
use Rattle.scheme_model.specs.Entries.{same_occ}
use Rattle.scheme_model.specs.Order.{Transformer, is_some}
use Rattle.scheme_model.specs.ScopedExpansion.{Bind, Enter, Frames, macro_at, assigned}
use Rattle.scheme_model.specs.OwnAnswers.{root_means}
use Rattle.scheme_model.specs.Questions.{Outcome, Stands, Redefines, StoodBefore, Around, Moment, Question, LooksUp, UsesRules, Compares, IsAssigned, Requires, Defines, Means, Expands, Says, Ends, at_moment, unit_outcome, bare, bare_macro, answer}
use Rattle.scheme_model.proofs.IdentLaws.{number_told, ident_told}
use Rattle.renumbering_laws.specs.Moving.{move_named, move_rules}
use Rattle.renumbering_laws.specs.Renumbering.{Renumbering, number, ident, meaning, change}
use Rattle.renumbering_laws.specs.Asked.{new_frames, new_macro, new_note, new_moment, new_question, new_answer}
use Rattle.carried_forms.specs.Alike.{same_option, same_list, same_tree, same_trees, same_tail, same_named, same_rule, same_rules, same_frame, same_macro, same_outcome}
use Rattle.carried_forms.specs.Carried.{has_same_answer}

both : (a b : Bool) → (a && b) ≡ true → (a ≡ true) × (b ≡ true)
both true true h = (refl, refl)
both true false h = absurd cc
both false b h = absurd cc

bytes_told : (s t : List ℕ) → bytes_eq s t ≡ true → s ≡ t
bytes_told s t = (bytes_eq-Decides s t).0

option_told : {A : Type 0} (same : A → A → Bool) → ((a b : A) → same a b ≡ true → a ≡ b) → (x y : Option A) → same_option same x y ≡ true → x ≡ y
option_told same told None None h = refl
option_told same told None (Some b) h = absurd cc
option_told same told (Some a) None h = absurd cc
option_told {A} same told (Some a) (Some b) h = ap (λ (x : A). Some x) (told a b h)

list_told : {A : Type 0} (same : A → A → Bool) → ((a b : A) → same a b ≡ true → a ≡ b) → (xs ys : List A) → same_list same xs ys ≡ true → xs ≡ ys
list_told same told [] [] h = refl
list_told same told [] (y ∷ ys) h = absurd cc
list_told same told (x ∷ xs) [] h = absurd cc
list_told same told (x ∷ xs) (y ∷ ys) h = let t = both (same x y) (same_list same xs ys) h in (λ j. told x y t.0 j ∷ list_told same told xs ys t.1 j)

truth_told : (b c : Bool) → same_truth b c ≡ true → b ≡ c
truth_told true true h = refl
truth_told true false h = absurd cc
truth_told false true h = absurd cc
truth_told false false h = refl

occ_told : (o p : Occ) → same_occ o p ≡ true → o ≡ p
occ_told o p h =
    let a = both (o.unit == p.unit) ((o.form == p.form) && (o.token == p.token)) h in
    let b = both (o.form == p.form) (o.token == p.token) a.1 in
    let unit = eqb-true o.unit p.unit a.0 in
    let form = eqb-true o.form p.form b.0 in
    let token = eqb-true o.token p.token b.1 in
    λ j. record { unit = unit j; form = form j; token = token j }

place_told : (o p : Option Occ) → same_option same_occ o p ≡ true → o ≡ p
place_told o p h = option_told same_occ occ_told o p h

atom_told : (a b : Atom) → same_atom a b ≡ true → a ≡ b
atom_told (Numeral s) (Numeral t) h = ap Numeral (bytes_told s t h)
atom_told (Quoted s) (Quoted t) h = ap Quoted (bytes_told s t h)
atom_told (Character c) (Character d) h = ap Character (eqb-true c d h)
atom_told (Boolean b) (Boolean c) h = ap Boolean (truth_told b c h)
atom_told (Bytes s) (Bytes t) h = ap Bytes (bytes_told s t h)
atom_told a b h = absurd cc

mutual
  tree_told : (t u : Tree Ident) → same_tree same_ident t u ≡ true → t ≡ u
  tree_told (name i o) (name j p) h = let a = both (same_ident i j) (same_option same_occ o p) h in (λ k. name (ident_told i j a.0 k) (place_told o p a.1 k))
  tree_told (atom a o) (atom b p) h = let c = both (same_atom a b) (same_option same_occ o p) h in (λ k. atom (atom_told a b c.0 k) (place_told o p c.1 k))
  tree_told (list ts tail o) (list us end p) h =
      let a = both (same_trees same_ident ts us) (same_tail same_ident tail end && same_option same_occ o p) h in
      let b = both (same_tail same_ident tail end) (same_option same_occ o p) a.1 in
      (λ k. list (trees_told ts us a.0 k) (tail_told tail end b.0 k) (place_told o p b.1 k))
  tree_told (vector ts o) (vector us p) h = let a = both (same_trees same_ident ts us) (same_option same_occ o p) h in (λ k. vector (trees_told ts us a.0 k) (place_told o p a.1 k))
  tree_told t u h = absurd cc

  trees_told : (ts us : Trees Ident) → same_trees same_ident ts us ≡ true → ts ≡ us
  trees_told no_trees no_trees h = refl
  trees_told (tree t ts) (tree u us) h = let a = both (same_tree same_ident t u) (same_trees same_ident ts us) h in (λ k. tree (tree_told t u a.0 k) (trees_told ts us a.1 k))
  trees_told ts us h = absurd cc

  tail_told : (t u : Tail Ident) → same_tail same_ident t u ≡ true → t ≡ u
  tail_told proper proper h = refl
  tail_told (dotted t) (dotted u) h = ap (λ (x : Tree Ident). dotted x) (tree_told t u h)
  tail_told t u h = absurd cc

-- ---- rules

named_told : (n m : Named Ident) → same_named n m ≡ true → n ≡ m
named_told n m h =
    let a = both (same_ident n.name m.name) (same_option same_occ n.occ m.occ) h in
    (λ k. record { name = ident_told n.name m.name a.0 k; occ = place_told n.occ m.occ a.1 k })

rule_told : (x y : Rule Ident) → same_rule x y ≡ true → x ≡ y
rule_told x y h =
    let a = both (same_trees same_ident x.parts y.parts) (same_tail same_ident x.tail y.tail && same_tree same_ident x.template y.template) h in
    let b = both (same_tail same_ident x.tail y.tail) (same_tree same_ident x.template y.template) a.1 in
    (λ k. record { parts = trees_told x.parts y.parts a.0 k; tail = tail_told x.tail y.tail b.0 k; template = tree_told x.template y.template b.1 k })

rules_told : (rs qs : Rules Ident) → same_rules rs qs ≡ true → rs ≡ qs
rules_told rs qs h =
    let a = both (same_option same_ident rs.ellipsis qs.ellipsis) (same_list same_named rs.literals qs.literals && same_list same_rule rs.rules qs.rules) h in
    let b = both (same_list same_named rs.literals qs.literals) (same_list same_rule rs.rules qs.rules) a.1 in
    (λ k. record {
      ellipsis = option_told same_ident ident_told rs.ellipsis qs.ellipsis a.0 k;
      literals = list_told same_named named_told rs.literals qs.literals b.0 k;
      rules = list_told same_rule rule_told rs.rules qs.rules b.1 k;
    })

-- frames without times
frames_told : (r : Renumbering) (fs gs : Frames) → same_list same_frame (new_frames r (bare fs)) (bare gs) ≡ true → new_frames r (bare fs) ≡ bare gs
frames_told r [] [] h = refl
frames_told r (Bind x v ∷ fs) (Bind y w ∷ gs) h =
    let a = both (same_ident (ident r x) y && same_number (number r v) w) (same_list same_frame (new_frames r (bare fs)) (bare gs)) h in
    let b = both (same_ident (ident r x) y) (same_number (number r v) w) a.0 in
    (λ k. Bind (ident_told (ident r x) y b.0 k) (number_told (number r v) w b.1 k) ∷ frames_told r fs gs a.1 k)
frames_told r (Enter b us ∷ fs) (Enter c vs ∷ gs) h =
    let a = both (same_number (number r b) c) (same_list same_frame (new_frames r (bare fs)) (bare gs)) h in
    (λ k. Enter (number_told (number r b) c a.0 k) (λ f. 0) ∷ frames_told r fs gs a.1 k)
frames_told r [] (Bind y w ∷ gs) h = absurd cc
frames_told r [] (Enter c vs ∷ gs) h = absurd cc
frames_told r (Bind x v ∷ fs) [] h = absurd cc
frames_told r (Enter b us ∷ fs) [] h = absurd cc
frames_told r (Bind x v ∷ fs) (Enter c vs ∷ gs) h = absurd cc
frames_told r (Enter b us ∷ fs) (Bind y w ∷ gs) h = absurd cc

macro_told : (r : Renumbering) (m n : Transformer Frames Ident) → same_macro (new_macro r (bare_macro m)) (bare_macro n) ≡ true → new_macro r (bare_macro m) ≡ bare_macro n
macro_told r m n h =
    let a = both (same_list same_frame (new_frames r (bare m.env)) (bare n.env)) (same_rules (move_rules (change r) m.rules) n.rules) h in
    (λ k. record { env = frames_told r m.env n.env a.0 k; rules = rules_told (move_rules (change r) m.rules) n.rules a.1 k })

macros_told : (r : Renumbering) (x y : Option (Transformer Frames Ident)) → same_option same_macro (option_map (new_macro r) (option_map bare_macro x)) (option_map bare_macro y) ≡ true →
    option_map (new_macro r) (option_map bare_macro x) ≡ option_map bare_macro y
macros_told r None None h = refl
macros_told r None (Some n) h = absurd cc
macros_told r (Some m) None h = absurd cc
macros_told r (Some m) (Some n) h = ap (λ (t : Transformer Frames Ident). Some t) (macro_told r m n h)

-- ---- answers

meaning_told : (m n : Meaning) → same_meaning m n ≡ true → m ≡ n
meaning_told (Local v) (Local w) h = ap Local (number_told v w h)
meaning_told (Global u i) (Global v j) h = let a = both (u == v) (same_ident i j) h in (λ k. Global (eqb-true u v a.0 k) (ident_told i j a.1 k))
meaning_told (Standard s) (Standard t) h = ap Standard (bytes_told s t h)
meaning_told (Free s) (Free t) h = ap Free (bytes_told s t h)
meaning_told m n h = absurd cc

outcome_told : (o p : Outcome) → same_outcome o p ≡ true → o ≡ p
outcome_told Stands Stands h = refl
outcome_told Redefines Redefines h = refl
outcome_told StoodBefore StoodBefore h = refl
outcome_told o p h = absurd cc

pub answers_told : (r : Renumbering) (w v : Around) (n : Moment) (q : Question) → has_same_answer r w v (n, q) ≡ true → answer v (new_moment r n) (new_question r q) ≡ new_answer r (answer w n q)
answers_told r w v n (LooksUp i) h =
    let s = at_moment w n in
    let t = at_moment v (new_moment r n) in
    let m = meaning r (root_means s i) in
    let o = root_means t (ident r i) in
    let a = both (same_meaning m o) (same_truth (is_some (macro_at s.macros (root_means s i))) (is_some (macro_at t.macros o))) h in
    (λ k. Means (sym (meaning_told m o a.0) k) (sym (truth_told (is_some (macro_at s.macros (root_means s i))) (is_some (macro_at t.macros o)) a.1) k))
answers_told r w v n (UsesRules m) h =
    let x = macro_at (at_moment w n).macros m in
    let y = macro_at (at_moment v (new_moment r n)).macros (meaning r m) in
    ap (λ (z : Option (Transformer Frames Ident)). Expands z) (sym (macros_told r x y h))
answers_told r w v n (Compares l i) h =
    let s = at_moment w n in
    let t = at_moment v (new_moment r n) in
    ap Says (sym (truth_told (same_meaning (root_means s l) (root_means s i)) (same_meaning (root_means t (ident r l)) (root_means t (ident r i))) h))
answers_told r w v n (IsAssigned i) h = ap Says (sym (truth_told (assigned (at_moment w n) None i) (assigned (at_moment v (new_moment r n)) None (ident r i)) h))
answers_told r w v n (Requires l) h = ap Says (sym (truth_told (w.known l) (v.known l) h))
answers_told r w v n (Defines fs x rs ns) h =
    ap Ends (sym (outcome_told (unit_outcome w n fs x rs ns) (unit_outcome v (new_moment r n) (new_frames r fs) (move_named (change r) x) (option_map (move_rules (change r)) rs) (map (new_note r) ns)) h))
