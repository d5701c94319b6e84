-- Where nothing changed, units and forms go on as themselves.
use Rattle.std.proofs.Common.{◌≡◌, ℕ, suc, ◌+◌, ◌-◌, List, [], ◌∷◌, ◌++◌, length, drop, Bool, true, false, cond, Option, Some, None, refl, sym, ap, ◌∙◌, arith, append_assoc, subst, eq-eqb}
use Rattle.std.specs.Prelude.{reverse, ◌&&◌, ◌==◌}
use Rattle.std.specs.List.{list_any}
use Rattle.std.specs.Str.{bytes_eq}
use Rattle.std.proofs.lemmas.List.{append-nil, length-reverse, length-drop, length-append}
use Rattle.scheme_model.specs.declared.Occ.{Occ}
use Rattle.scheme_model.specs.Trees.{Atom, Numeral, Quoted, Character, Boolean, Bytes, Tree, name, atom, list, vector, Trees, no_trees, tree, Tail, proper, dotted}
use Rattle.scheme_model.specs.Matching.{same_atom, same_truth}
use Rattle.scheme_model.specs.Entries.{same_occ}
use Rattle.carried_forms.specs.Alike.{same_option, same_list, same_tree, same_trees, same_tail}
use Rattle.carried_forms.specs.Paired.{FormText, is_same_at_home, common_front, in_step, by_ends, form_pairs, UnitText, is_same_unit, IsAlone, AreTold, with_forms, pair_of, pairs_from, unit_pairs, with_themselves}
use Rattle.carried_forms.proofs.UnitLaws.{bytes_itself, key_told, by_key}

-- ---- trees

number_itself : (n : ℕ) → (n == n) ≡ true
number_itself n = eq-eqb n n refl

occ_itself : (o : Occ) → same_occ o o ≡ true
occ_itself o = (λ j. number_itself o.unit j && (number_itself o.form j && number_itself o.token j))

place_itself : (o : Option Occ) → same_option same_occ o o ≡ true
place_itself None = refl
place_itself (Some o) = occ_itself o

truth_itself : (b : Bool) → same_truth b b ≡ true
truth_itself true = refl
truth_itself false = refl

atom_itself : (a : Atom) → same_atom a a ≡ true
atom_itself (Numeral s) = bytes_itself s
atom_itself (Quoted s) = bytes_itself s
atom_itself (Character c) = number_itself c
atom_itself (Boolean b) = truth_itself b
atom_itself (Bytes s) = bytes_itself s

mutual
  tree_itself : (t : Tree (List ℕ)) → same_tree bytes_eq t t ≡ true
  tree_itself (name i o) = (λ j. bytes_itself i j && place_itself o j)
  tree_itself (atom a o) = (λ j. atom_itself a j && place_itself o j)
  tree_itself (list ts tail o) = (λ j. trees_itself ts j && (tail_itself tail j && place_itself o j))
  tree_itself (vector ts o) = (λ j. trees_itself ts j && place_itself o j)

  trees_itself : (ts : Trees (List ℕ)) → same_trees bytes_eq ts ts ≡ true
  trees_itself no_trees = refl
  trees_itself (tree t ts) = (λ j. tree_itself t j && trees_itself ts j)

  tail_itself : (t : Tail (List ℕ)) → same_tail bytes_eq t t ≡ true
  tail_itself proper = refl
  tail_itself (dotted t) = tree_itself t

-- ---- forms

at_home_itself : (f : FormText) → is_same_at_home f f ≡ true
at_home_itself f = (λ j. tree_itself f.tree j && (bytes_itself f.home.uri j && number_itself f.home.number j))

all_itself : (fs : List FormText) → same_list is_same_at_home fs fs ≡ true
all_itself [] = refl
all_itself (f ∷ fs) = (λ j. at_home_itself f j && all_itself fs j)

front_itself : (fs : List FormText) → common_front fs fs ≡ length fs
front_itself [] = refl
front_itself (f ∷ fs) = (λ j. cond (tree_itself f.tree j) (suc (front_itself fs j)) 0)

ends_itself : (fs : List FormText) → by_ends fs fs ≡ in_step 0 0 (length fs)
ends_itself fs =
    let front = common_front fs fs in
    let rest = reverse (drop front fs) in
    let none : common_front rest rest ≡ 0 = let a = front_itself rest in let b = length-reverse (drop front fs) in let c = length-drop front fs in let d = front_itself fs in omega (arith, a, b, c, d) in
    (λ j. in_step 0 0 (front_itself fs j) ++ in_step (length fs - none j) (length fs - none j) (none j)) ∙ append-nil (in_step 0 0 (length fs))

pairs_itself : (fs : List FormText) → form_pairs fs fs ≡ Some (in_step 0 0 (length fs))
pairs_itself fs = go (list_any (λ f. f.included) (fs ++ fs))
  where
    go : (t : Bool) → cond t (cond (same_list is_same_at_home fs fs) (Some (in_step 0 0 (length fs))) None) (Some (by_ends fs fs)) ≡ Some (in_step 0 0 (length fs))
    go true = (λ j. cond (all_itself fs j) (Some (in_step 0 0 (length fs))) None)
    go false = ap (λ (qs : List (ℕ × ℕ)). Some qs) (ends_itself fs)

-- ---- units

abbrev NoneSame : UnitText → List UnitText → Type 0
NoneSame u [] = Unit {0}
NoneSame u (v ∷ vs) = (is_same_unit u v ≡ false) × NoneSame u vs

turned : (u v : UnitText) → is_same_unit u v ≡ false → is_same_unit v u ≡ false
turned u v h = go (is_same_unit v u) refl
  where
    go : (t : Bool) → is_same_unit v u ≡ t → is_same_unit v u ≡ false
    go true e = let k = key_told v u e in let same = by_key u v (record { here = k.there; there = k.here; uri = sym k.uri; kind = sym k.kind; name = sym k.name }) in absurd cc
    go false e = e

alone_of : (u v : UnitText) (pre post : List UnitText) → IsAlone v (pre ++ u ∷ post) → is_same_unit v u ≡ false
alone_of u v [] post h = h.0
alone_of u v (w ∷ pre) post h = alone_of u v pre post h.1

none_before : (u : UnitText) (pre post : List UnitText) → AreTold (pre ++ u ∷ post) → NoneSame u pre
none_before u [] post h = tt
none_before u (v ∷ pre) post h = (turned v u (alone_of u v pre post h.0), none_before u pre post h.1)

skipped : (b : ℕ) (u : UnitText) (a : ℕ) (pre rest : List UnitText) → NoneSame u pre → pair_of b u a (pre ++ rest) ≡ pair_of b u (length pre + a) rest
skipped b u a [] rest h = ap (λ n. pair_of b u n rest) (omega arith)
skipped b u a (v ∷ pre) rest h =
    (λ j. cond (h.0 j) (with_forms b a (length v.forms) (form_pairs u.forms v.forms)) (pair_of b u (suc a) (pre ++ rest)))
    ∙ (skipped b u (suc a) pre rest h.1 ∙ ap (λ n. pair_of b u n rest) (omega arith))

broken_alone : (b : ℕ) (u : UnitText) → u.broken ≡ true → (a : ℕ) (vs : List UnitText) → pair_of b u a vs ≡ []
broken_alone b u h a [] = refl
broken_alone b u h a (v ∷ vs) = go (is_same_unit u v) refl (broken_alone b u h (suc a) vs)
  where
    go : (t : Bool) → is_same_unit u v ≡ t → pair_of b u (suc a) vs ≡ [] → cond t (with_forms b a (length v.forms) (form_pairs u.forms v.forms)) (pair_of b u (suc a) vs) ≡ []
    go true e k = let no_more = (key_told u v e).here in absurd cc
    go false e k = k

first_itself : (n : ℕ) (u : UnitText) → u.broken ≡ false → (post : List UnitText) →
    pair_of n u n (u ∷ post) ≡ record { before = n; after = n; size = length u.forms; forms = in_step 0 0 (length u.forms) } ∷ []
first_itself n u h post =
    let same = by_key u u (record { here = h; there = h; uri = refl; kind = refl; name = refl }) in
    (λ j. cond (same j) (with_forms n n (length u.forms) (pairs_itself u.forms j)) (pair_of n u (suc n) post))

one_itself : (n : ℕ) (u : UnitText) (pre post : List UnitText) → n ≡ length pre → AreTold (pre ++ u ∷ post) →
    pair_of n u 0 (pre ++ u ∷ post) ≡ cond u.broken [] (record { before = n; after = n; size = length u.forms; forms = in_step 0 0 (length u.forms) } ∷ [])
one_itself n u pre post e h = go u.broken refl
  where
    go : (t : Bool) → u.broken ≡ t → pair_of n u 0 (pre ++ u ∷ post) ≡ cond t [] (record { before = n; after = n; size = length u.forms; forms = in_step 0 0 (length u.forms) } ∷ [])
    go true k = broken_alone n u k 0 (pre ++ u ∷ post)
    go false k = skipped n u 0 pre (u ∷ post) (none_before u pre post h) ∙ (ap (λ m. pair_of n u m (u ∷ post)) (omega (arith, e)) ∙ first_itself n u k post)

rest_itself : (n : ℕ) (pre rest : List UnitText) → n ≡ length pre → AreTold (pre ++ rest) → pairs_from n rest (pre ++ rest) ≡ with_themselves n rest
rest_itself n pre [] e h = refl
rest_itself n pre (u ∷ post) e h =
    let moved = append_assoc pre (u ∷ []) post in
    let more = rest_itself (suc n) (pre ++ u ∷ []) post (let l = length-append pre (u ∷ []) in omega (arith, l, e)) in
    go (pre ++ u ∷ post) ((pre ++ u ∷ []) ++ post) moved h more (one_itself n u pre post e h)
  where
    go : (xs ys : List UnitText) → ys ≡ xs → AreTold xs → (AreTold ys → pairs_from (suc n) post ys ≡ with_themselves (suc n) post) →
        pair_of n u 0 xs ≡ cond u.broken [] (record { before = n; after = n; size = length u.forms; forms = in_step 0 0 (length u.forms) } ∷ []) →
        pairs_from n (u ∷ post) xs ≡ with_themselves n (u ∷ post)
    go xs ys same told more here =
        let rest : pairs_from (suc n) post xs ≡ with_themselves (suc n) post = subst (λ zs. AreTold zs → pairs_from (suc n) post zs ≡ with_themselves (suc n) post) same more told in
        (λ j. here j ++ rest j)

pub goes_on_as_itself : (us : List UnitText) → AreTold us → unit_pairs us us ≡ with_themselves 0 us
goes_on_as_itself us h = rest_itself 0 [] us refl h
