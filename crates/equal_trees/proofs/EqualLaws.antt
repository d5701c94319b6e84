-- Trees and rules are the same where what the code has of them is.
use Rattle.std.proofs.Common.{◌≡◌, ◌↔◌, ◌==◌, ℕ, zero, suc, ◌+◌, ◌<◌, ◌≤◌, IsTrue, List, [], ◌∷◌, ◌++◌, map, length, take, drop, get_or, slice_get, Bool, true, false, Option, Some, None, refl, sym, ap, ◌∙◌, subst, arith, eq-eqb, eqb-true}
use Rattle.std.specs.Str.{bytes_eq}
use Rattle.std.proofs.lemmas.List.{length-append, length-map}
use Rattle.std.proofs.lemmas.Option.{same_Some, slice_get_within}
use Rattle.std.proofs.lemmas.Slice.Eq.{bytes_eq-Decides}
use Rattle.scheme_model.specs.declared.Occ.{Occ}
use Rattle.scheme_model.specs.ExpansionFaults.{Named}
use Rattle.scheme_model.specs.Ident.{Ident as Identifier}
use Rattle.scheme_model.specs.Leaves.{Leaf, leaves_of, all_rule_leaves}
use Rattle.scheme_model.specs.Measures.{tail_depth}
use Rattle.scheme_model.specs.Matching.{same_atom, same_truth, behind}
use Rattle.scheme_model.specs.RulesShape.{Rule, Rules}
use Rattle.scheme_model.specs.TreeParts.{count}
use Rattle.scheme_model.specs.Trees.{Atom, Numeral, Quoted, Character, Boolean, Bytes, Tree, name, atom, list, vector, Trees, no_trees, tree, Tail, proper, dotted}
use Rattle.syntax_tree.specs.Macros.{identifiers, IsIdent, AreIdents, IsEllipsisOf, IsRule, AreRules}
use Rattle.syntax_tree.specs.Names.{Names, AreToldApart}
use Rattle.syntax_tree.specs.Placed.{tree_place, IsNamed}
use Rattle.syntax_tree.specs.Looks.{PartsStand, EndStands, EndWithin, StandsWithin}
use Rattle.syntax_tree.specs.declared.trees.nodes.Tree as number
use Rattle.syntax_tree.specs.Works.{StandsFor}
use Rattle.syntax_tree.proofs.Looking.{count_stands}
use Rattle.syntax_tree.specs.declared.rules.Named as code_named
use Rattle.syntax_tree.specs.declared.rules.Rule as code_rule
use Rattle.syntax_tree.specs.declared.rules.Rules as code_rules
use Rattle.syntax_tree.specs.declared.trees.Work.{Work}
use Rattle.rules_check.specs.Gathered.{AreLeaves}
use Rattle.equal_trees.specs.Told.{IsPattern, TellsRules}
use Rattle.rules_check.specs.declared.leaf.RuleLeaf.{RuleLeaf}

pub clash : {P : Type 0} → true ≡ false → P
clash h = absurd cc

-- what is told not to be, and isn't
pub is_not : {P : Type 0} (b : Bool) → b ≡ false → (P → ⊥) → IsTrue b ↔ P
is_not b e never = (λ h. clash (sym h ∙ e), λ p. absurd (never p))

-- ---- leaves

pub name_same : (names : Names) → AreToldApart names.idents → (x y : ℕ) (i j : Identifier) (o : Option Occ) (u : Tree Identifier) → u ≡ name j o → IsIdent names x i → IsIdent names y j → IsTrue (x == y) ↔ (name i (tree_place u) ≡ u)
name_same names apart x y i j o u is first second = (
  λ h.
      let same : i ≡ j = same_Some i j (sym first ∙ (ap (slice_get names.idents) (eqb-true x y h) ∙ second)) in
      (λ k. name (same k) (tree_place (is k))) ∙ sym is,
  λ h.
      let z : name i (tree_place u) ≡ name j o = h ∙ is in
      let same : i ≡ j = cc in
      eq-eqb x y (apart x y (slice_get_within names.idents x i first) (first ∙ (ap (λ (k : Identifier). Some k) same ∙ sym second))),
)

bytes_told : (s t : List ℕ) → bytes_eq s t ≡ true → s ≡ t
bytes_told s t = (bytes_eq-Decides s t).0

bytes_itself : (s : List ℕ) → bytes_eq s s ≡ true
bytes_itself s = (bytes_eq-Decides s s).1 refl

truth_told : (b c : Bool) → same_truth b c ≡ true → b ≡ c
truth_told true true h = refl
truth_told true false h = absurd cc
truth_told false true h = absurd cc
truth_told false false h = refl

truth_itself : (b : Bool) → same_truth b b ≡ true
truth_itself true = refl
truth_itself false = refl

atom_told : (a b : Atom) → same_atom a b ≡ true → a ≡ b
atom_told (Numeral s) (Numeral t) h = ap Numeral (bytes_told s t h)
atom_told (Quoted s) (Quoted t) h = ap Quoted (bytes_told s t h)
atom_told (Character c) (Character d) h = ap Character (eqb-true c d h)
atom_told (Boolean b) (Boolean c) h = ap Boolean (truth_told b c h)
atom_told (Bytes s) (Bytes t) h = ap Bytes (bytes_told s t h)
atom_told a b h = absurd cc

atom_itself : (a : Atom) → same_atom a a ≡ true
atom_itself (Numeral s) = bytes_itself s
atom_itself (Quoted s) = bytes_itself s
atom_itself (Character c) = eq-eqb c c refl
atom_itself (Boolean b) = truth_itself b
atom_itself (Bytes s) = bytes_itself s

pub atom_same : (b : Bool) (x y : Atom) (p : Option Occ) (u : Tree Identifier) → b ≡ same_atom x y → u ≡ atom y p → IsTrue b ↔ (atom x (tree_place u) ≡ u)
atom_same b x y p u tells is = (
  λ h. let same = atom_told x y (sym tells ∙ h) in (λ k. atom (same k) (tree_place (is k))) ∙ sym is,
  λ h.
      let z : atom x (tree_place u) ≡ atom y p = h ∙ is in
      let same : x ≡ y = cc in
      tells ∙ (ap (same_atom x) (sym same) ∙ atom_itself x),
)

-- ---- rows of trees, from a place on

module _ {P : Type 0} (k : ℕ) (ts us : Trees Identifier) (t u : Tree Identifier) (p : behind k ts ≡ tree t (behind (k + 1) ts)) (q : behind k us ≡ tree u (behind (k + 1) us)) (so_far : P ↔ (behind k ts ≡ behind k us)) where
  pub rows_more : t ≡ u → P ↔ (behind (k + 1) ts ≡ behind (k + 1) us)
  rows_more e = (
    λ h. let z : tree t (behind (k + 1) ts) ≡ tree u (behind (k + 1) us) = sym p ∙ (so_far.0 h ∙ q) in cc,
    λ h. so_far.1 (p ∙ ((λ j. tree (e j) (h j)) ∙ sym q)),
  )

  pub rows_differ : (t ≡ u → ⊥) → P → ⊥
  rows_differ never h = let z : tree t (behind (k + 1) ts) ≡ tree u (behind (k + 1) us) = sym p ∙ (so_far.0 h ∙ q) in never cc

pub rows_end : {P : Type 0} (k : ℕ) (ts us : Trees Identifier) → behind k ts ≡ no_trees → behind k us ≡ no_trees → P ↔ (behind k ts ≡ behind k us) → P
rows_end k ts us p q so_far = so_far.1 (p ∙ sym q)

count_behind : (k : ℕ) (ts : Trees Identifier) → k ≤ count ts → count (behind k ts) + k ≡ count ts
count_behind zero ts l = omega arith
count_behind (suc k) no_trees l = absurd (omega (arith, l))
count_behind (suc k) (tree t ts) l = let h = count_behind k ts (omega (arith, l)) in omega (arith, h)

-- rows of other lengths
pub rows_as_long : (work : Work) (from : ℕ) (ns ms : List number.Tree) (ts us : Trees Identifier) → PartsStand work ns ts → PartsStand work ms us → from ≤ length ns → from ≤ length ms → behind from ts ≡ behind from us → length ms ≡ length ns
rows_as_long work from ns ms ts us f g l m h =
    let a = count_stands work ns ts f in
    let b = count_stands work ms us g in
    let x = count_behind from ts (omega (arith, a, l)) in
    let y = count_behind from us (omega (arith, b, m)) in
    let z = ap count h in
    omega (arith, a, b, x, y, z)

-- ---- whole trees

module _ (a : Bool) (ts us : Trees Identifier) (tail end : Tail Identifier) (p : Option Occ) (u : Tree Identifier) (is : u ≡ list us end p) (parts : IsTrue a ↔ (ts ≡ us)) where
  pub list_is : (b : Bool) → a ≡ true → IsTrue b ↔ (tail ≡ end) → IsTrue b ↔ (list ts tail (tree_place u) ≡ u)
  list_is b there ends = (
    λ h. let x = parts.0 there in let y = ends.0 h in (λ j. list (x j) (y j) (tree_place (is j))) ∙ sym is,
    λ h. let z : list ts tail (tree_place u) ≡ list us end p = h ∙ is in ends.1 cc,
  )

  pub list_isnt : a ≡ false → list ts tail (tree_place u) ≡ u → ⊥
  list_isnt there h =
      let z : list ts tail (tree_place u) ≡ list us end p = h ∙ is in
      let same : ts ≡ us = cc in
      clash (sym (parts.1 same) ∙ there)

pub vector_is : (a : Bool) (ts us : Trees Identifier) (p : Option Occ) (u : Tree Identifier) → u ≡ vector us p → IsTrue a ↔ (ts ≡ us) → IsTrue a ↔ (vector ts (tree_place u) ≡ u)
vector_is a ts us p u is parts = (
  λ h. let x = parts.0 h in (λ j. vector (x j) (tree_place (is j))) ∙ sym is,
  λ h. let z : vector ts (tree_place u) ≡ vector us p = h ∙ is in parts.1 cc,
)

-- a tail
pub end_is : (b : Bool) (t u : Tree Identifier) → IsTrue b ↔ (t ≡ u) → IsTrue b ↔ (dotted t ≡ dotted u)
end_is b t u h = (λ x. ap (λ (v : Tree Identifier). dotted v) (h.0 x), λ e. let same : t ≡ u = cc in h.1 same)

pub tail_same : (b : Bool) (x tail last : Tail Identifier) → tail ≡ x → IsTrue b ↔ (x ≡ last) → IsTrue b ↔ (tail ≡ last)
tail_same b x tail last e h = (λ q. e ∙ h.0 q, λ q. h.1 (sym e ∙ q))

pub last_same : (b : Bool) (x last y : Tail Identifier) → last ≡ y → IsTrue b ↔ (x ≡ y) → IsTrue b ↔ (x ≡ last)
last_same b x last y e h = (λ q. h.0 q ∙ sym e, λ q. h.1 (q ∙ e))

-- the tree of a tail
pub end_tree : (work : Work) (end : Option number.Tree) (n : number.Tree) (tail : Tail Identifier) → end ≡ Some n → EndStands work end tail → (t : Tree Identifier) × (tail ≡ dotted t) × StandsFor work n t
end_tree work None n tail e h = absurd cc
end_tree work (Some m) n proper e h = absurd h
end_tree work (Some m) n (dotted t) e h = (t, refl, subst (λ (x : number.Tree). StandsFor work x t) (same_Some m n e) h.1)

pub end_part : (work : Work) (end : Option number.Tree) (n : number.Tree) (d : ℕ) → end ≡ Some n → EndWithin work end d → StandsWithin work n d
end_part work end n d e h =
    let t = end_tree work end n h.0 e h.1 in
    let below : tail_depth (dotted t.0) ≤ d = subst (λ (x : Tail Identifier). tail_depth x ≤ d) t.1 h.2 in
    (t.0, t.2, below)

pub no_tail : (work : Work) (end : Option number.Tree) (tail : Tail Identifier) → end ≡ None → EndStands work end tail → tail ≡ proper
no_tail work None proper e h = refl
no_tail work None (dotted t) e h = absurd h
no_tail work (Some n) tail e h = absurd cc

pub not_proper : (work : Work) (end : Option number.Tree) (n : number.Tree) (last : Tail Identifier) → end ≡ Some n → EndStands work end last → proper ≡ last → ⊥
not_proper work end n last e g h = let d = end_tree work end n last e g in let z : proper ≡ dotted d.0 = h ∙ d.1 in absurd cc

-- with the place of the other tree
pub placed_same : (b : Bool) (x : Tree Identifier) (t u : Tree Identifier) → t ≡ x → IsTrue b ↔ (x ≡ u) → IsTrue b ↔ (t ≡ u)
placed_same b x t u e h = (λ q. e ∙ h.0 q, λ q. h.1 (sym e ∙ q))

-- ---- rules

-- the rule at a place
pub rule_there : (work : Work) (k : ℕ) (ns : List code_rule.Rule) (rs : List (Rule Identifier)) (d : code_rule.Rule) → AreRules work ns rs → k < length ns → (r : Rule Identifier) × IsRule work (get_or ns k d) r × (drop k rs ≡ r ∷ drop (k + 1) rs)
rule_there work k [] rs d h l = absurd (omega (arith, l))
rule_there work k (n ∷ ns) [] d h l = absurd h
rule_there work zero (n ∷ ns) (r ∷ rs) d h l = (r, h.0, refl)
rule_there work (suc k) (n ∷ ns) (r ∷ rs) d h l =
    let p = rule_there work k ns rs d h.1 (omega (arith, l)) in
    let e : suc (k + 1) ≡ suc k + 1 = omega arith in
    (p.0, p.1, p.2 ∙ ap (λ (n : ℕ). p.0 ∷ drop n (r ∷ rs)) e)

drop_none : (X : Type 0) (k : ℕ) → drop {A = X} k [] ≡ []
drop_none X zero = refl
drop_none X (suc k) = refl

pub rules_past : (work : Work) (k : ℕ) (ns : List code_rule.Rule) (rs : List (Rule Identifier)) → AreRules work ns rs → length ns ≤ k → drop k rs ≡ []
rules_past work k [] [] h l = drop_none (Rule Identifier) k
rules_past work k [] (r ∷ rs) h l = absurd h
rules_past work k (n ∷ ns) [] h l = absurd h
rules_past work zero (n ∷ ns) (r ∷ rs) h l = absurd (omega (arith, l))
rules_past work (suc k) (n ∷ ns) (r ∷ rs) h l = rules_past work k ns rs h.1 (omega (arith, l))

pub rules_many : (work : Work) (ns : List code_rule.Rule) (rs : List (Rule Identifier)) → AreRules work ns rs → length ns ≡ length rs
rules_many work [] [] h = refl
rules_many work [] (r ∷ rs) h = absurd h
rules_many work (n ∷ ns) [] h = absurd h
rules_many work (n ∷ ns) (r ∷ rs) h = ap suc (rules_many work ns rs h.1)

module _ {X : Type 0} (k : ℕ) (xs ys : List X) (x y : X) (p : drop k xs ≡ x ∷ drop (k + 1) xs) (q : drop k ys ≡ y ∷ drop (k + 1) ys) (so_far : (xs ≡ ys) ↔ (drop k xs ≡ drop k ys)) where
  pub list_more : x ≡ y → (xs ≡ ys) ↔ (drop (k + 1) xs ≡ drop (k + 1) ys)
  list_more e = (
    λ h. let z : x ∷ drop (k + 1) xs ≡ y ∷ drop (k + 1) ys = sym p ∙ (so_far.0 h ∙ q) in cc,
    λ h. so_far.1 (p ∙ ((λ j. e j ∷ h j) ∙ sym q)),
  )

  pub list_no_more : (x ≡ y → ⊥) → xs ≡ ys → ⊥
  list_no_more never h = let z : x ∷ drop (k + 1) xs ≡ y ∷ drop (k + 1) ys = sym p ∙ (so_far.0 h ∙ q) in never cc

-- the rule's pattern
pub pattern_of : (work : Work) (n : code_rule.Rule) (r : Rule Identifier) → IsRule work n r → IsPattern work n.pattern r.parts r.tail
pattern_of work n r h = record { head = h.head; head_place = h.head_place; place = h.place; stands = h.pattern }

abbrev pub whole_pattern : (work : Work) (n : number.Tree) (ts : Trees Identifier) (tail : Tail Identifier) → IsPattern work n ts tail → Tree Identifier
whole_pattern work n ts tail h = list (tree (name h.head h.head_place) ts) tail h.place

pub pattern_same : (b : Bool) (h : Tree Identifier) (ts us xs : Trees Identifier) (tail last end : Tail Identifier) → tree h ts ≡ xs → tail ≡ end → IsTrue b ↔ ((behind 1 xs ≡ us) × (end ≡ last)) → IsTrue b ↔ ((ts ≡ us) × (tail ≡ last))
pattern_same b h ts us xs tail last end e d is = (λ q. let p = is.0 q in (ap (behind 1) e ∙ p.0, d ∙ p.1), λ p. is.1 (sym (ap (behind 1) e) ∙ p.0, sym d ∙ p.1))

-- ---- first items

pub take_next : {X : Type 0} (k : ℕ) (xs : List X) (x : X) → slice_get xs k ≡ Some x → take (k + 1) xs ≡ take k xs ++ x ∷ []
take_next k [] x e = absurd cc
take_next zero (y ∷ xs) x e = let same : y ≡ x = same_Some y x e in ap (λ z. z ∷ []) same
take_next (suc k) (y ∷ xs) x e = let n : suc k + 1 ≡ suc (k + 1) = omega arith in ap (λ (m : ℕ). take m (y ∷ xs)) n ∙ ap (λ zs. y ∷ zs) (take_next k xs x e)

pub same_there : {X : Type 0} (n k : ℕ) (xs ys : List X) → take n xs ≡ take n ys → k < n → slice_get xs k ≡ slice_get ys k
same_there zero k xs ys e l = absurd (omega (arith, l))
same_there (suc n) k [] [] e l = refl
same_there (suc n) k [] (y ∷ ys) e l = absurd cc
same_there (suc n) k (x ∷ xs) [] e l = absurd cc
same_there (suc n) zero (x ∷ xs) (y ∷ ys) e l = let same : x ≡ y = cc in ap (λ z. Some z) same
same_there (suc n) (suc k) (x ∷ xs) (y ∷ ys) e l = let rest : take n xs ≡ take n ys = cc in same_there n k xs ys rest (omega (arith, l))

named_at : (xs : List RuleLeaf) (k : ℕ) (d : RuleLeaf) → k < length xs → slice_get (map (λ l. l.name) xs) k ≡ Some (get_or xs k d).name
named_at [] k d l = absurd (omega (arith, l))
named_at (x ∷ xs) zero d l = refl
named_at (x ∷ xs) (suc k) d l = named_at xs k d (omega (arith, l))

module _ (k : ℕ) (xs ys : List RuleLeaf) (d e : RuleLeaf) (l : k < length xs) (m : k < length ys) where
  pub names_more : take k (map (λ x. x.name) xs) ≡ take k (map (λ x. x.name) ys) → (get_or xs k d).name ≡ (get_or ys k e).name → take (k + 1) (map (λ x. x.name) xs) ≡ take (k + 1) (map (λ x. x.name) ys)
  names_more so_far same =
      take_next k (map (λ x. x.name) xs) (get_or xs k d).name (named_at xs k d l)
      ∙ ((λ j. so_far j ++ same j ∷ []) ∙ sym (take_next k (map (λ x. x.name) ys) (get_or ys k e).name (named_at ys k e m)))

  pub name_there : (n : ℕ) → take n (map (λ x. x.name) xs) ≡ take n (map (λ x. x.name) ys) → k < n → (get_or xs k d).name ≡ (get_or ys k e).name
  name_there n all lt = same_Some (get_or xs k d).name (get_or ys k e).name (sym (named_at xs k d l) ∙ (same_there n k (map (λ x. x.name) xs) (map (λ x. x.name) ys) all lt ∙ named_at ys k e m))

-- ---- literals

-- names with their places
abbrev pub AreNamed : Names → List code_named.Named → List (Named Identifier) → Type 0
AreNamed names [] [] = Unit {0}
AreNamed names [] (m ∷ ms) = ⊥
AreNamed names (n ∷ ns) [] = ⊥
AreNamed names (n ∷ ns) (m ∷ ms) = IsNamed names n m × AreNamed names ns ms

-- the first leaves tell the literals
pub literals_told : (names : Names) (leaves : List RuleLeaf) (ls : List (Named Identifier)) (rest : List (Leaf Identifier)) → AreLeaves names leaves (map (λ l. record { leaf = l; literal = true }) ls ++ rest) → AreNamed names (take (length ls) (map (λ l. l.name) leaves)) ls
literals_told names leaves [] rest h = none leaves
  where
    none : (leaves : List RuleLeaf) → AreNamed names (take 0 (map (λ l. l.name) leaves)) []
    none [] = tt
    none (l ∷ leaves) = tt
literals_told names [] (m ∷ ls) rest h = absurd h
literals_told names (l ∷ leaves) (m ∷ ls) rest h = (h.0.0, literals_told names leaves ls rest h.1)

pub idents_many : (names : Names) (ns : List ℕ) (ls : List (Named Identifier)) → AreIdents names ns ls → length ns ≡ length ls
idents_many names [] [] h = refl
idents_many names [] (l ∷ ls) h = absurd h
idents_many names (n ∷ ns) [] h = absurd h
idents_many names (n ∷ ns) (l ∷ ls) h = ap suc (idents_many names ns ls h.1)

pub leaves_many : (names : Names) (leaves : List RuleLeaf) (ls : List (Leaf Identifier)) → AreLeaves names leaves ls → length leaves ≡ length ls
leaves_many names [] [] h = refl
leaves_many names [] (l ∷ ls) h = absurd h
leaves_many names (n ∷ ns) [] h = absurd h
leaves_many names (n ∷ ns) (l ∷ ls) h = ap suc (leaves_many names ns ls h.1)

module _ (names : Names) (apart : AreToldApart names.idents) where
  -- one name of the code is one of the definition
  named_same : (n m : code_named.Named) (i j : Named Identifier) → IsNamed names n i → IsNamed names m j → (n ≡ m) ↔ (i ≡ j)
  named_same n m i j f g = (
    λ e.
        let name : i.name ≡ j.name = same_Some i.name j.name (sym f.0 ∙ (ap (λ (x : code_named.Named). slice_get names.idents x.ident) e ∙ g.0)) in
        let occ : i.occ ≡ j.occ = sym f.1 ∙ (ap (λ (x : code_named.Named). x.occ) e ∙ g.1) in
        (λ k. record { name = name k; occ = occ k }),
    λ e.
        let ident : n.ident ≡ m.ident = apart n.ident m.ident (slice_get_within names.idents n.ident i.name f.0) (f.0 ∙ (ap (λ (x : Named Identifier). Some x.name) e ∙ sym g.0)) in
        let occ : n.occ ≡ m.occ = f.1 ∙ (ap (λ (x : Named Identifier). x.occ) e ∙ sym g.1) in
        (λ k. record { ident = ident k; occ = occ k }),
  )

  pub all_named_same : (ns ms : List code_named.Named) (is js : List (Named Identifier)) → AreNamed names ns is → AreNamed names ms js → (ns ≡ ms) ↔ (is ≡ js)
  all_named_same [] [] [] [] f g = (λ e. refl, λ e. refl)
  all_named_same [] [] is (j ∷ js) f g = absurd g
  all_named_same [] [] (i ∷ is) [] f g = absurd f
  all_named_same [] (m ∷ ms) is [] f g = absurd g
  all_named_same [] (m ∷ ms) [] (j ∷ js) f g = (λ e. absurd cc, λ e. absurd cc)
  all_named_same [] (m ∷ ms) (i ∷ is) (j ∷ js) f g = absurd f
  all_named_same (n ∷ ns) ms [] js f g = absurd f
  all_named_same (n ∷ ns) [] (i ∷ is) [] f g = (λ e. absurd cc, λ e. absurd cc)
  all_named_same (n ∷ ns) [] (i ∷ is) (j ∷ js) f g = absurd g
  all_named_same (n ∷ ns) (m ∷ ms) (i ∷ is) [] f g = absurd g
  all_named_same (n ∷ ns) (m ∷ ms) (i ∷ is) (j ∷ js) f g =
      let one = named_same n m i j f.0 g.0 in
      let more = all_named_same ns ms is js f.1 g.1 in (
        λ e. let a : n ≡ m = cc in let b : ns ≡ ms = cc in let x = one.0 a in let y = more.0 b in (λ k. x k ∷ y k),
        λ e. let a : i ≡ j = cc in let b : is ≡ js = cc in let x = one.1 a in let y = more.1 b in (λ k. x k ∷ y k),
      )

  -- an ellipsis of the rules' own
  pub ellipsis_same : (x y : Option ℕ) (e d : Option Identifier) → IsEllipsisOf names x e → IsEllipsisOf names y d → (x ≡ y) ↔ (e ≡ d)
  ellipsis_same None None None None f g = (λ h. refl, λ h. refl)
  ellipsis_same None y (Some i) d f g = absurd f
  ellipsis_same None None None (Some j) f g = absurd g
  ellipsis_same None (Some m) None None f g = absurd g
  ellipsis_same None (Some m) None (Some j) f g = (λ h. absurd cc, λ h. absurd cc)
  ellipsis_same (Some n) y None d f g = absurd f
  ellipsis_same (Some n) None (Some i) None f g = (λ h. absurd cc, λ h. absurd cc)
  ellipsis_same (Some n) None (Some i) (Some j) f g = absurd g
  ellipsis_same (Some n) (Some m) (Some i) None f g = absurd g
  ellipsis_same (Some n) (Some m) (Some i) (Some j) f g = (
    λ h. sym f ∙ (ap (slice_get names.idents) (same_Some n m h) ∙ g),
    λ h. ap (λ (k : ℕ). Some k) (apart n m (slice_get_within names.idents n i f) (f ∙ (h ∙ sym g))),
  )

-- ---- the whole

-- the literals, by the leaves that tell them
module _ (work : Work) (apart : AreToldApart work.symbols.idents) (one other : code_rules.Rules) (leaves others : List RuleLeaf) (r q : Rules Identifier) (f : TellsRules work one leaves r) (g : TellsRules work other others q) where
  abbrev Same : Type 0
  Same = (length one.literals ≡ length other.literals) × (take (length one.literals) (map (λ l. l.name) leaves) ≡ take (length one.literals) (map (λ l. l.name) others))

  literal_count : length one.literals ≡ length r.literals
  literal_count = idents_many work.symbols one.literals r.literals f.stands.literals

  other_count : length other.literals ≡ length q.literals
  other_count = idents_many work.symbols other.literals q.literals g.stands.literals

  told : AreNamed work.symbols (take (length one.literals) (map (λ l. l.name) leaves)) r.literals
  told = subst (λ (n : ℕ). AreNamed work.symbols (take n (map (λ l. l.name) leaves)) r.literals) (sym literal_count) (literals_told work.symbols leaves r.literals (all_rule_leaves identifiers r r.rules) f.told)

  told_too : AreNamed work.symbols (take (length other.literals) (map (λ l. l.name) others)) q.literals
  told_too = subst (λ (n : ℕ). AreNamed work.symbols (take n (map (λ l. l.name) others)) q.literals) (sym other_count) (literals_told work.symbols others q.literals (all_rule_leaves identifiers q q.rules) g.told)

  pub literals_same : Same ↔ (r.literals ≡ q.literals)
  literals_same = (
    λ p.
        let there = subst (λ (n : ℕ). AreNamed work.symbols (take n (map (λ l. l.name) others)) q.literals) (sym p.0) told_too in
        (all_named_same work.symbols apart (take (length one.literals) (map (λ l. l.name) leaves)) (take (length one.literals) (map (λ l. l.name) others)) r.literals q.literals told there).0 p.1,
    λ e.
        let n : length one.literals ≡ length other.literals = literal_count ∙ (ap (λ (ls : List (Named Identifier)). length ls) e ∙ sym other_count) in
        let there = subst (λ (n : ℕ). AreNamed work.symbols (take n (map (λ l. l.name) others)) q.literals) (sym n) told_too in
        (n, (all_named_same work.symbols apart (take (length one.literals) (map (λ l. l.name) leaves)) (take (length one.literals) (map (λ l. l.name) others)) r.literals q.literals told there).1 e),
  )

  -- there are as many leaves
  pub enough : length one.literals ≤ length leaves
  enough =
      let a = leaves_many work.symbols leaves (leaves_of identifiers r) f.told in
      let literal : Named Identifier → Leaf Identifier = λ l. record { leaf = l; literal = true } in
      let b = length-append (map literal r.literals) (all_rule_leaves identifiers r r.rules) in
      let c = length-map r.literals literal in
      let d = literal_count in
      omega (arith, a, b, c, d)

pub rules_same : (r q : Rules Identifier) → r.ellipsis ≡ q.ellipsis → r.literals ≡ q.literals → r.rules ≡ q.rules → r ≡ q
rules_same r q a b c = λ j. record { ellipsis = a j; literals = b j; rules = c j }

pub rule_same : (r q : Rule Identifier) → r.parts ≡ q.parts → r.tail ≡ q.tail → r.template ≡ q.template → r ≡ q
rule_same r q a b c = λ j. record { parts = a j; tail = b j; template = c j }
