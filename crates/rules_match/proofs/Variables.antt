-- The variables of a match are those of the pattern, from left to right.
use Rattle.std.proofs.Common.{◌≡◌, List, [], ◌∷◌, ◌++◌, map, Bool, true, false, Option, Some, None, refl, sym, ap, ◌∙◌, subst, append_assoc}
use Rattle.std.proofs.lemmas.List.{append-nil, map-append}
use Rattle.std.proofs.lemmas.Option.{same_Some}
use Rattle.scheme_model.specs.Trees.{Atom, Tree, name, atom, list, vector, Trees, no_trees, tree, Tail, proper, dotted}
use Rattle.scheme_model.specs.TreeParts.{count}
use Rattle.scheme_model.specs.ExpansionFaults.{named}
use Rattle.scheme_model.specs.RulesShape.{Role, IsLiteral, IsEllipsis, IsAny, IsVariable, is_dots, acts_as_ellipsis}
use Rattle.scheme_model.specs.Matching.{One, Binding, Match, match_of, both, Matcher, ◌>>=◌, variable_name, names_in, names_among, names_behind, empty, spread, when, match_each, match_name, match_atom, same_atom, at_end, first_part, taken, chosen, rest_of, list_parts, vector_parts, match_tree, match_parts, match_rest}

-- the variables of bindings
abbrev pub bound_names : {A B : Type 0} → List (Binding A B) → List A
bound_names bs = map (λ b. b.variable) bs

pub empty_names : {A : Type 0} (B : Type 0) (is : List A) → bound_names {A = A} {B = B} (empty is) ≡ is
empty_names B [] = refl
empty_names B (i ∷ is) = ap (λ js. i ∷ js) (empty_names B is)

-- where variables are the same, those of one place and of the places after it stand beside one another
pub spread_names : {A B : Type 0} (bs cs : List (Binding A B)) → bound_names cs ≡ bound_names bs → bound_names (spread bs cs) ≡ bound_names bs
spread_names [] cs h = refl
spread_names (b ∷ bs) [] h = absurd cc
spread_names (b ∷ bs) (c ∷ cs) h =
    let rest : bound_names cs ≡ bound_names bs = cc in
    ap (λ is. b.variable ∷ is) (spread_names bs cs rest)

-- a value behind a `>>=`
pub bound_some : {X Y : Type 0} (o : Option X) (f : X → Option Y) (y : Y) → (o >>= f) ≡ Some y → (x : X) × (o ≡ Some x) × (f x ≡ Some y)
bound_some None f y h = absurd cc
bound_some (Some x) f y h = (x, refl, h)

pub each_names : {A B : Type 0} (f : Tree B → Option (Match A B)) (names : List A) (of_part : (t : Tree B) (m : Match A B) → f t ≡ Some m → bound_names m.bindings ≡ names) (ts : Trees B) (m : Match A B) →
    match_each f names ts ≡ Some m → bound_names m.bindings ≡ names
each_names f names of_part no_trees m h = subst (λ (x : Match _ _). bound_names x.bindings ≡ names) (same_Some (match_of (empty names) []) m h) (empty_names _ names)
each_names f names of_part (tree t ts) m h =
    let p = bound_some (f t) (λ a. match_each f names ts >>= λ b. Some (match_of (spread a.bindings b.bindings) (a.met ++ b.met))) m h in
    let q = bound_some (match_each f names ts) (λ b. Some (match_of (spread p.0.bindings b.bindings) (p.0.met ++ b.met))) m p.2 in
    let first = of_part t p.0 p.1 in
    let rest = each_names f names of_part ts q.0 q.1 in
    subst (λ (x : Match _ _). bound_names x.bindings ≡ names) (same_Some (match_of (spread p.0.bindings q.0.bindings) (p.0.met ++ q.0.met)) m q.2) (spread_names p.0.bindings q.0.bindings (rest ∙ sym first) ∙ first)

-- ---- patterns

-- what tells ellipses goes by roles
abbrev pub GoesByRole : {A B : Type 0} → Matcher A B → Type 0
GoesByRole {A} {B} m = (i : A) → m.dots i ≡ acts_as_ellipsis (m.role i)

role_names : {A : Type 0} (role : Role) (i : A) → acts_as_ellipsis role ≡ true → variable_name role i ≡ []
role_names IsLiteral i h = absurd cc
role_names IsEllipsis i h = refl
role_names IsAny i h = absurd cc
role_names IsVariable i h = absurd cc

-- an ellipsis is no variable
dots_names : {A B : Type 0} (m : Matcher A B) (by : GoesByRole m) (d : Tree A) → is_dots m.dots d ≡ true → names_in m.role d ≡ []
dots_names m by (name i o) h = role_names (m.role i) i (sym (by i) ∙ h)
dots_names m by (atom a o) h = absurd cc
dots_names m by (list ts tail o) h = absurd cc
dots_names m by (vector ts o) h = absurd cc

-- the variables of two matches together
both_names : {A B : Type 0} (m n : Match A B) (is js : List A) → bound_names m.bindings ≡ is → bound_names n.bindings ≡ js → bound_names (both m n).bindings ≡ is ++ js
both_names m n is js g h = map-append (λ b. b.variable) m.bindings n.bindings ∙ (λ k. g k ++ h k)

literal_names : {A B : Type 0} (b : Bool) (m a : Match A B) → bound_names m.bindings ≡ [] → when b m ≡ Some a → bound_names a.bindings ≡ []
literal_names true m a e h = subst (λ x. bound_names x.bindings ≡ []) (same_Some m a h) e
literal_names false m a e h = absurd cc

name_names : {A B : Type 0} (same : A → B → Bool) (role : Role) (i : A) (t : Tree B) (a : Match A B) → match_name same role i t ≡ Some a → bound_names a.bindings ≡ variable_name role i
name_names same IsLiteral i (name j o) a h = literal_names (same i j) (match_of [] (named j o ∷ [])) a refl h
name_names same IsLiteral i (atom b o) a h = absurd cc
name_names same IsLiteral i (list us tail o) a h = absurd cc
name_names same IsLiteral i (vector us o) a h = absurd cc
name_names same IsEllipsis i t a h = absurd cc
name_names same IsAny i t a h = subst (λ x. bound_names x.bindings ≡ []) (same_Some (match_of [] []) a h) refl
name_names same IsVariable i t a h = subst (λ x. bound_names x.bindings ≡ i ∷ []) (same_Some (match_of (record { variable = i; value = One t } ∷ []) []) a h) refl

atom_names : {A B : Type 0} (b : Atom) (t : Tree B) (a : Match A B) → match_atom b t ≡ Some a → bound_names a.bindings ≡ []
atom_names b (name j o) a h = absurd cc
atom_names b (atom c o) a h = literal_names (same_atom b c) (match_of [] []) a refl h
atom_names b (list us tail o) a h = absurd cc
atom_names b (vector us o) a h = absurd cc

end_names : {A B : Type 0} (ts : Trees B) (end : Tail B) (a : Match A B) → at_end ts end ≡ Some a → bound_names a.bindings ≡ []
end_names no_trees proper a h = subst (λ x. bound_names x.bindings ≡ []) (same_Some (match_of [] []) a h) refl
end_names no_trees (dotted t) a h = absurd cc
end_names (tree t ts) end a h = absurd cc

-- what a rest of a pattern binds
abbrev pub Binds : {A B : Type 0} → (Trees B → Tail B → Option (Match A B)) → List A → Type 0
Binds {A} {B} rest names = (ts : Trees B) (end : Tail B) (a : Match A B) → rest ts end ≡ Some a → bound_names a.bindings ≡ names

mutual
  pub tree_names : {A B : Type 0} (m : Matcher A B) (by : GoesByRole m) (p : Tree A) (t : Tree B) (a : Match A B) → match_tree m p t ≡ Some a → bound_names a.bindings ≡ names_in m.role p
  tree_names m by (name i o) t a h = name_names m.means_same (m.role i) i t a h
  tree_names m by (atom b o) t a h = atom_names b t a h
  tree_names m by (list ps tail o) t a h =
      let q = bound_some (list_parts t) (λ q. match_parts m ps (match_rest m tail) q.0 q.1) a h in
      parts_names m by ps (match_rest m tail) (names_behind m.role tail) (rest_names m by tail) q.0.0 q.0.1 a q.2
  tree_names m by (vector ps o) t a h =
      let q = bound_some (vector_parts t) (λ us. match_parts m ps at_end us proper) a h in
      parts_names m by ps at_end [] end_names q.0 proper a q.2 ∙ append-nil (names_among m.role ps)

  pub parts_names : {A B : Type 0} (m : Matcher A B) (by : GoesByRole m) (ps : Trees A) (rest : Trees B → Tail B → Option (Match A B)) (names : List A) → Binds rest names →
      (ts : Trees B) (end : Tail B) (a : Match A B) → match_parts m ps rest ts end ≡ Some a → bound_names a.bindings ≡ names_among m.role ps ++ names
  parts_names m by no_trees rest names of_rest ts end a h = of_rest ts end a h
  parts_names m by (tree p no_trees) rest names of_rest ts end a h =
      let q = bound_some (first_part ts) (λ q. match_tree m p q.0 >>= λ x. rest q.1 end >>= λ y. Some (both x y)) a h in
      let x = bound_some (match_tree m p q.0.0) (λ x. rest q.0.1 end >>= λ y. Some (both x y)) a q.2 in
      let y = bound_some (rest q.0.1 end) (λ y. Some (both x.0 y)) a x.2 in
      subst (λ (z : Match _ _). bound_names z.bindings ≡ (names_in m.role p ++ []) ++ names) (same_Some (both x.0 y.0) a y.2)
      (both_names x.0 y.0 (names_in m.role p ++ []) names (tree_names m by p q.0.0 x.0 x.1 ∙ sym (append-nil (names_in m.role p))) (of_rest q.0.1 end y.0 y.1))
  parts_names {A} {B} m by (tree p (tree d ps)) rest names of_rest ts end a h =
      let repeated : Unit {0} → Option (Match A B) = λ u. taken (count ps) ts >>= λ q. match_each (λ t. match_tree m p t) (names_in m.role p) q.0 >>= λ x. match_parts m ps rest q.1 end >>= λ y. Some (both x y) in
      let alone : Unit {0} → Option (Match A B) = λ u. first_part ts >>= λ q. match_tree m p q.0 >>= λ x. match_parts m (tree d ps) rest q.1 end >>= λ y. Some (both x y) in
      elim (is_dots m.dots d) as (λ b. is_dots m.dots d ≡ b → chosen b repeated alone ≡ Some a → bound_names a.bindings ≡ (names_in m.role p ++ (names_in m.role d ++ names_among m.role ps)) ++ names) [
        | true ↦ λ e g.
            let q = bound_some (taken (count ps) ts) (λ q. match_each (λ t. match_tree m p t) (names_in m.role p) q.0 >>= λ x. match_parts m ps rest q.1 end >>= λ y. Some (both x y)) a g in
            let x = bound_some (match_each (λ t. match_tree m p t) (names_in m.role p) q.0.0) (λ x. match_parts m ps rest q.0.1 end >>= λ y. Some (both x y)) a q.2 in
            let y = bound_some (match_parts m ps rest q.0.1 end) (λ y. Some (both x.0 y)) a x.2 in
            let none = dots_names m by d e in
            subst (λ (z : Match A B). bound_names z.bindings ≡ (names_in m.role p ++ (names_in m.role d ++ names_among m.role ps)) ++ names) (same_Some (both x.0 y.0) a y.2)
            (both_names x.0 y.0 (names_in m.role p) (names_among m.role ps ++ names) (each_names (λ t. match_tree m p t) (names_in m.role p) (λ t b k. tree_names m by p t b k) q.0.0 x.0 x.1)
            (parts_names m by ps rest names of_rest q.0.1 end y.0 y.1)
            ∙ sym (append_assoc (names_in m.role p) (names_among m.role ps) names) ∙ (λ i. (names_in m.role p ++ (sym none i ++ names_among m.role ps)) ++ names))
        | false ↦ λ e g.
            let q = bound_some (first_part ts) (λ q. match_tree m p q.0 >>= λ x. match_parts m (tree d ps) rest q.1 end >>= λ y. Some (both x y)) a g in
            let x = bound_some (match_tree m p q.0.0) (λ x. match_parts m (tree d ps) rest q.0.1 end >>= λ y. Some (both x y)) a q.2 in
            let y = bound_some (match_parts m (tree d ps) rest q.0.1 end) (λ y. Some (both x.0 y)) a x.2 in
            subst (λ (z : Match A B). bound_names z.bindings ≡ (names_in m.role p ++ (names_in m.role d ++ names_among m.role ps)) ++ names) (same_Some (both x.0 y.0) a y.2)
            (both_names x.0 y.0 (names_in m.role p) ((names_in m.role d ++ names_among m.role ps) ++ names) (tree_names m by p q.0.0 x.0 x.1) (parts_names m by (tree d ps) rest names of_rest q.0.1 end y.0 y.1)
            ∙ sym (append_assoc (names_in m.role p) (names_in m.role d ++ names_among m.role ps) names))
      ] refl h

  pub rest_names : {A B : Type 0} (m : Matcher A B) (by : GoesByRole m) (tail : Tail A) → Binds (match_rest m tail) (names_behind m.role tail)
  rest_names m by proper ts end a h = end_names ts end a h
  rest_names m by (dotted p) ts end a h = tree_names m by p (rest_of ts end) a h
