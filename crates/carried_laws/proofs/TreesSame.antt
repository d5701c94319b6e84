-- Where the trees of two texts are the same but for their homes, the tree of one as a form is that of the other under the numbers of these.
use Rattle.std.proofs.Common.{◌≡◌, ℕ, List, Bool, true, false, Option, Some, None, refl, sym, ap, ◌∙◌}
use Rattle.std.specs.Prelude.{◌&&◌, ◌==◌}
use Rattle.std.specs.Str.{bytes_eq}
use Rattle.std.proofs.lemmas.Bool.{eqb-true}
use Rattle.std.proofs.lemmas.Slice.Eq.{bytes_eq-Decides}
use Rattle.scheme_model.specs.declared.Occ.{Occ}
use Rattle.scheme_model.specs.declared.Home.{Home}
use Rattle.scheme_model.specs.Data.{Datum}
use Rattle.scheme_model.specs.DataTrees.{tree_of}
use Rattle.scheme_model.specs.Ident.{Ident, Written}
use Rattle.scheme_model.specs.Trees.{Atom, Numeral, Quoted, Character, Boolean, Bytes, Tree, name, atom, list, vector, Trees, no_trees, tree, Tail, proper, dotted, placed_in, placed_by}
use Rattle.scheme_model.specs.Matching.{same_atom, same_truth}
use Rattle.scheme_model.specs.Entries.{same_occ}
use Rattle.renumbering_laws.specs.Moving.{move_tree}
use Rattle.renumbering_laws.specs.Renumbering.{Renumbering, ident, change, with_places}
use Rattle.renumbering_laws.proofs.DatumLaws.{tree_moved}
use Rattle.carried_forms.specs.Alike.{same_option, same_tree, same_trees, same_tail}

-- ---- what is told to be the same is

both : (a b : Bool) → (a && b) ≡ true → (a ≡ true) × (b ≡ true)
both true true h = (refl, refl)
both true false h = absurd cc
both false b h = absurd cc

bytes_told : (s t : List ℕ) → bytes_eq s t ≡ true → s ≡ t
bytes_told s t = (bytes_eq-Decides s t).0

truth_told : (b c : Bool) → same_truth b c ≡ true → b ≡ c
truth_told true true h = refl
truth_told true false h = absurd cc
truth_told false true h = absurd cc
truth_told false false h = refl

occ_told : (o p : Occ) → same_occ o p ≡ true → o ≡ p
occ_told o p h =
    let a = both (o.unit == p.unit) ((o.form == p.form) && (o.token == p.token)) h in
    let b = both (o.form == p.form) (o.token == p.token) a.1 in
    let unit = eqb-true o.unit p.unit a.0 in
    let form = eqb-true o.form p.form b.0 in
    let token = eqb-true o.token p.token b.1 in
    λ j. record { unit = unit j; form = form j; token = token j }

place_told : (o p : Option Occ) → same_option same_occ o p ≡ true → o ≡ p
place_told None None h = refl
place_told None (Some p) h = absurd cc
place_told (Some o) None h = absurd cc
place_told (Some o) (Some p) h = ap (λ (x : Occ). Some x) (occ_told o p h)

atom_told : (a b : Atom) → same_atom a b ≡ true → a ≡ b
atom_told (Numeral s) (Numeral t) h = ap Numeral (bytes_told s t h)
atom_told (Quoted s) (Quoted t) h = ap Quoted (bytes_told s t h)
atom_told (Character c) (Character d) h = ap Character (eqb-true c d h)
atom_told (Boolean b) (Boolean c) h = ap Boolean (truth_told b c h)
atom_told (Bytes s) (Bytes t) h = ap Bytes (bytes_told s t h)
atom_told a b h = absurd cc

mutual
  tree_told : (t u : Tree (List ℕ)) → same_tree bytes_eq t u ≡ true → t ≡ u
  tree_told (name i o) (name j p) h = let a = both (bytes_eq i j) (same_option same_occ o p) h in (λ k. name (bytes_told i j a.0 k) (place_told o p a.1 k))
  tree_told (atom a o) (atom b p) h = let c = both (same_atom a b) (same_option same_occ o p) h in (λ k. atom (atom_told a b c.0 k) (place_told o p c.1 k))
  tree_told (list ts tail o) (list us end p) h =
      let a = both (same_trees bytes_eq ts us) (same_tail bytes_eq tail end && same_option same_occ o p) h in
      let b = both (same_tail bytes_eq tail end) (same_option same_occ o p) a.1 in
      (λ k. list (trees_told ts us a.0 k) (tail_told tail end b.0 k) (place_told o p b.1 k))
  tree_told (vector ts o) (vector us p) h = let a = both (same_trees bytes_eq ts us) (same_option same_occ o p) h in (λ k. vector (trees_told ts us a.0 k) (place_told o p a.1 k))
  tree_told t u h = absurd cc

  trees_told : (ts us : Trees (List ℕ)) → same_trees bytes_eq ts us ≡ true → ts ≡ us
  trees_told no_trees no_trees h = refl
  trees_told (tree t ts) (tree u us) h = let a = both (same_tree bytes_eq t u) (same_trees bytes_eq ts us) h in (λ k. tree (tree_told t u a.0 k) (trees_told ts us a.1 k))
  trees_told ts us h = absurd cc

  tail_told : (t u : Tail (List ℕ)) → same_tail bytes_eq t u ≡ true → t ≡ u
  tail_told proper proper h = refl
  tail_told (dotted t) (dotted u) h = ap (λ (x : Tree (List ℕ)). dotted x) (tree_told t u h)
  tail_told t u h = absurd cc

-- ---- at home

abbrev symbols : ℕ → Datum → Tree (List ℕ)
symbols first d = tree_of (λ s. s) (placed_in 0 0 first) d

-- all places in one form of one unit
abbrev all_in : ℕ → ℕ → Renumbering
all_in u f = record { unit = λ v. u; form = λ v g. f; definition = λ v n. n }

module _ (v u f first : ℕ) (d : Datum) where
  named : move_tree (with_places (all_in u f) (Written v)) (symbols first d) ≡ tree_of (Written v) (placed_in u f first) d
  named = tree_moved (all_in u f) (List ℕ) Ident (Written v) (λ s. s) (placed_in 0 0 first) d

pub trees_same : (r : Renumbering) (u v : ℕ) (h i : Home) (d e : Datum) → same_tree bytes_eq (symbols h.first d) (symbols i.first e) ≡ true → r.unit u ≡ v → r.unit h.unit ≡ i.unit → r.form h.unit h.form ≡ i.form
    → move_tree (change r) (tree_of (Written u) (placed_by h) d) ≡ tree_of (Written v) (placed_by i) e
trees_same r u v h i d e same unit home form =
    tree_moved r Ident Ident (ident r) (Written u) (placed_by h) d
    ∙ (λ j. tree_of (Written (unit j)) (placed_in (home j) (form j) h.first) d)
    ∙ sym (named v i.unit i.form h.first d)
    ∙ ap (move_tree (with_places (all_in i.unit i.form) (Written v))) (tree_told (symbols h.first d) (symbols i.first e) same)
    ∙ named v i.unit i.form i.first e
