-- Rules without literals compare none.
use Rattle.std.proofs.Common.{◌≡◌, ℕ, ◌-◌, List, [], ◌∷◌, ◌++◌, length, Bool, true, false, Option, Some, None, refl, ap, ◌∙◌}
use Rattle.std.specs.Prelude.{codes, if◌then◌else◌}
use Rattle.std.specs.Str.{bytes_eq}
use Rattle.scheme_model.specs.ExpansionFaults.{Named}
use Rattle.scheme_model.specs.Shapes.{is_among}
use Rattle.scheme_model.specs.Trees.{Tree, name, atom, list, vector, Trees, no_trees, tree, Tail, proper, dotted}
use Rattle.scheme_model.specs.TreeParts.{count}
use Rattle.scheme_model.specs.RulesShape.{Role, IsLiteral, IsEllipsis, IsAny, IsVariable, Rule, Rules, role_of, dots_of, is_dots, is_ellipsis}
use Rattle.scheme_model.specs.Matching.{front, behind, can_take, rest_of, chosen, of_list, of_vector, of_first, list_parts, vector_parts, no_pairs, pair_of, pairs_in, pairs_each, pairs_among, pairs_behind, compared}
use Rattle.scheme_model.specs.Ident.{Ident as Identifier}
use Rattle.syntax_tree.specs.Names.{Names}
use Rattle.syntax_tree.specs.Macros.{identifiers, AreIdents}
use Rattle.rules_match.specs.Matches.{compared_in}

abbrev Pairs : Type 0
Pairs = List (Identifier × Identifier)

-- ---- what is put together of nothing

append_none : (xs ys : Pairs) → xs ≡ [] → ys ≡ [] → xs ++ ys ≡ []
append_none xs ys h g = λ j. h j ++ g j

chosen_none : (b : Bool) (f g : Unit {0} → Pairs) → f tt ≡ [] → g tt ≡ [] → chosen b f g ≡ []
chosen_none true f g h e = h
chosen_none false f g h e = e

of_list_none : (o : Option (Trees Identifier × Tail Identifier)) (f : Trees Identifier × Tail Identifier → Pairs) → ((q : Trees Identifier × Tail Identifier) → f q ≡ []) → of_list o f ≡ []
of_list_none None f h = refl
of_list_none (Some q) f h = h q

of_vector_none : (o : Option (Trees Identifier)) (f : Trees Identifier → Pairs) → ((us : Trees Identifier) → f us ≡ []) → of_vector o f ≡ []
of_vector_none None f h = refl
of_vector_none (Some us) f h = h us

of_first_none : (ts : Trees Identifier) (f : Tree Identifier → Trees Identifier → Pairs) → ((t : Tree Identifier) (us : Trees Identifier) → f t us ≡ []) → of_first ts f ≡ []
of_first_none no_trees f h = refl
of_first_none (tree t ts) f h = h t ts

each_none : (f : Tree Identifier → Pairs) → ((t : Tree Identifier) → f t ≡ []) → (ts : Trees Identifier) → pairs_each f ts ≡ []
each_none f h no_trees = refl
each_none f h (tree t ts) = append_none (f t) (pairs_each f ts) (h t) (each_none f h ts)

-- ---- patterns in which no identifier is a literal

module _ (role : Identifier → Role) (dots : Identifier → Bool) (plain : (i : Identifier) (t : Tree Identifier) → pair_of (role i) i t ≡ []) where
  mutual
    none_in : (p t : Tree Identifier) → pairs_in role dots p t ≡ []
    none_in (name i o) t = plain i t
    none_in (atom a o) t = refl
    none_in (list ps tail o) t =
        of_list_none (list_parts t) _
        (λ q. chosen_none (can_take dots ps tail q.0 q.1) _ _ (none_among ps (pairs_behind role dots tail) q.0 q.1 (λ us end. none_behind tail us end)) refl)
    none_in (vector ps o) t =
        of_vector_none (vector_parts t) _
        (λ us. chosen_none (can_take dots ps proper us proper) _ _ (none_among ps no_pairs us proper (λ vs end. refl)) refl)

    none_among : (ps : Trees Identifier) (rest : Trees Identifier → Tail Identifier → Pairs) (ts : Trees Identifier) (end : Tail Identifier) → ((us : Trees Identifier) (e : Tail Identifier) → rest us e ≡ []) →
        pairs_among role dots ps rest ts end ≡ []
    none_among no_trees rest ts end h = h ts end
    none_among (tree p no_trees) rest ts end h = of_first_none ts _ (λ t us. append_none (pairs_in role dots p t) (rest us end) (none_in p t) (h us end))
    none_among (tree p (tree d ps)) rest ts end h =
        chosen_none (is_dots dots d) _ _
        (append_none (pairs_each (λ t. pairs_in role dots p t) (front (count ts - count ps) ts)) (pairs_among role dots ps rest (behind (count ts - count ps) ts) end)
        (each_none (λ t. pairs_in role dots p t) (λ t. none_in p t) (front (count ts - count ps) ts)) (none_among ps rest (behind (count ts - count ps) ts) end h))
        (of_first_none ts _ (λ t us. append_none (pairs_in role dots p t) (pairs_among role dots (tree d ps) rest us end) (none_in p t) (none_among (tree d ps) rest us end h)))

    none_behind : (tail : Tail Identifier) (ts : Trees Identifier) (end : Tail Identifier) → pairs_behind role dots tail ts end ≡ []
    none_behind proper ts end = refl
    none_behind (dotted p) ts end = none_in p (rest_of ts end)

  none_compared : (rs : List (Rule Identifier)) (ts : Trees Identifier) (end : Tail Identifier) → compared role dots rs ts end ≡ []
  none_compared [] ts end = refl
  none_compared (r ∷ rs) ts end =
      append_none (chosen (can_take dots r.parts r.tail ts end) (λ u. pairs_among role dots r.parts (pairs_behind role dots r.tail) ts end) (λ u. [])) (compared role dots rs ts end)
      (chosen_none (can_take dots r.parts r.tail ts end) _ _ (none_among r.parts (pairs_behind role dots r.tail) ts end (λ us e. none_behind r.tail us e)) refl)
      (none_compared rs ts end)

-- ---- rules without literals

plain_role : (e a : Bool) (i : Identifier) (t : Tree Identifier) → pair_of (if e then IsEllipsis else if a then IsAny else IsVariable) i t ≡ []
plain_role true a i t = refl
plain_role false true i t = refl
plain_role false false i t = refl

no_literal : (r : Rules Identifier) → r.literals ≡ [] → (i : Identifier) (t : Tree Identifier) → pair_of (role_of identifiers r i) i t ≡ []
no_literal r none i t =
    ap (λ (ls : List (Named Identifier)). pair_of (if is_among identifiers.same i ls then IsLiteral else (if is_ellipsis identifiers r.ellipsis i then IsEllipsis else if bytes_eq (identifiers.strip i) (codes "_") then IsAny else IsVariable)) i t) none
    ∙ plain_role (is_ellipsis identifiers r.ellipsis i) (bytes_eq (identifiers.strip i) (codes "_")) i t

pub none_compared_in : (r : Rules Identifier) → r.literals ≡ [] → (t : Tree Identifier) → compared_in r t ≡ []
none_compared_in r none (name i o) = refl
none_compared_in r none (atom a o) = refl
none_compared_in r none (vector ts o) = refl
none_compared_in r none (list no_trees tail o) = refl
none_compared_in r none (list (tree head ts) tail o) = none_compared (role_of identifiers r) (dots_of identifiers r) (no_literal r none) r.rules ts tail

pub no_literals : (names : Names) (ms : List ℕ) (ls : List (Named Identifier)) → AreIdents names ms ls → length ms ≡ 0 → ls ≡ []
no_literals names [] [] h e = refl
no_literals names [] (l ∷ ls) h e = absurd h
no_literals names (m ∷ ms) [] h e = refl
no_literals names (m ∷ ms) (l ∷ ls) h e = let never : ⊥ = cc in absurd never
