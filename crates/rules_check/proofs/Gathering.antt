-- Leaves of rules, gathered one after another.
use Rattle.std.proofs.Common.{◌≡◌, ℕ, suc, ◌+◌, List, [], ◌∷◌, ◌++◌, map, drop, Bool, true, false, ◌||◌, Option, Some, None, Result, Ok, Err, refl, sym, ap, ◌∙◌, subst, append_assoc, add-one}
use Rattle.std.specs.Prelude.{is_some, if◌then◌else◌}
use Rattle.std.proofs.lemmas.List.{append-nil}
use Rattle.scheme_model.specs.declared.Occ.{Occ}
use Rattle.scheme_model.specs.Trees.{Tree, name, atom, list, vector, Trees, no_trees, tree, Tail, proper, dotted}
use Rattle.scheme_model.specs.ExpansionFaults.{Named, named, Fault, ◌>>◌}
use Rattle.scheme_model.specs.Shapes.{names_of, is_among}
use Rattle.scheme_model.specs.Matching.{behind}
use Rattle.scheme_model.specs.RulesShape.{Rules, Rule, Variable, nowhere, is_dots, escape_of, depth_of, check_rules, rules_in, rules_behind, bad}
use Rattle.scheme_model.specs.Leaves.{Leaf, rule_leaves, all_rule_leaves, unless, if_escape, template_leaves, template_among, template_behind}
use Rattle.scheme_model.specs.Ident.{Ident as Identifier}
use Rattle.syntax_tree.specs.Names.{Names}
use Rattle.syntax_tree.specs.Macros.{identifiers, AreIdents}
use Rattle.rules_check.specs.declared.leaf.RuleLeaf.{RuleLeaf}
use Rattle.rules_check.specs.Checked.{rules_in_form}
use Rattle.rules_check.specs.Gathered.{IsLeaf, AreLeaves, AddsLeaves, AreUnplaced, unplaced_leaf, listed_in, name_leaves}

-- ---- one after another

module _ (names : Names) where
  both_are : (ns ms : List RuleLeaf) (ks ls : List (Leaf Identifier)) → AreLeaves names ns ks → AreLeaves names ms ls → AreLeaves names (ns ++ ms) (ks ++ ls)
  both_are [] ms [] ls h g = g
  both_are [] ms (k ∷ ks) ls h g = absurd h
  both_are (n ∷ ns) ms [] ls h g = absurd h
  both_are (n ∷ ns) ms (k ∷ ks) ls h g = (h.0, both_are ns ms ks ls h.1 g)

  pub adds_none : (old : List RuleLeaf) → AddsLeaves names old old []
  adds_none old = record { more = []; added = sym (append-nil old); are = tt }

  pub adds_one : (old new : List RuleLeaf) (n : RuleLeaf) (l : Leaf Identifier) → new ≡ old ++ n ∷ [] → IsLeaf names n l → AddsLeaves names old new (l ∷ [])
  adds_one old new n l e is = record { more = n ∷ []; added = e; are = (is, tt) }

  pub adds_both : (old mid new : List RuleLeaf) (ks ls : List (Leaf Identifier)) → AddsLeaves names old mid ks → AddsLeaves names mid new ls → AddsLeaves names old new (ks ++ ls)
  adds_both old mid new ks ls p q = record {
    more = p.more ++ q.more;
    added = q.added ∙ ap (λ (x : List RuleLeaf). x ++ q.more) p.added ∙ append_assoc old p.more q.more;
    are = both_are p.more q.more ks ls p.are q.are;
  }

  pub adds_same : (old new : List RuleLeaf) (ks ls : List (Leaf Identifier)) → ks ≡ ls → AddsLeaves names old new ks → AddsLeaves names old new ls
  adds_same old new ks ls e h = subst (AddsLeaves names old new) e h

  -- nothing comes after
  pub adds_last : (old new : List RuleLeaf) (ks : List (Leaf Identifier)) → AddsLeaves names old new ks → AddsLeaves names old new (ks ++ [])
  adds_last old new ks h = adds_same old new ks (ks ++ []) (sym (append-nil ks)) h

  -- all that was added where there was nothing
  pub all_are : (old new : List RuleLeaf) (ls : List (Leaf Identifier)) → old ≡ [] → AddsLeaves names old new ls → AreLeaves names new ls
  all_are old new ls e h = subst (λ (x : List RuleLeaf). AreLeaves names x ls) (sym (h.added ∙ ap (λ (x : List RuleLeaf). x ++ h.more) e)) h.are

  -- ---- rows

  -- the leaves of a row
  module _ (all : Trees Identifier → List (Leaf Identifier)) where
    -- those of the trees from a place up to another
    pub record UpTo (old new : List RuleLeaf) (ts : Trees Identifier) (from k : ℕ) : Type 0 where
      pub so_far : List (Leaf Identifier)
      pub adds : AddsLeaves names old new so_far
      pub whole : so_far ++ all (behind k ts) ≡ all (behind from ts)

    pub up_none : (old : List RuleLeaf) (ts : Trees Identifier) (from : ℕ) → UpTo old old ts from from
    up_none old ts from = record { so_far = []; adds = adds_none old; whole = refl }

    pub up_more : (here : List (Leaf Identifier)) (old mid new : List RuleLeaf) (ts : Trees Identifier) (from k : ℕ) (t : Tree Identifier) → UpTo old mid ts from k → behind k ts ≡ tree t (behind (k + 1) ts) →
        all (tree t (behind (k + 1) ts)) ≡ here ++ all (behind (k + 1) ts) → AddsLeaves names mid new here → UpTo old new ts from (k + 1)
    up_more here old mid new ts from k t p e step h = record {
      so_far = p.so_far ++ here;
      adds = adds_both old mid new p.so_far here p.adds h;
      whole = append_assoc p.so_far here (all (behind (k + 1) ts)) ∙ ap (λ (x : List (Leaf Identifier)). p.so_far ++ x) (sym (ap all e ∙ step)) ∙ p.whole;
    }

    pub up_all : (old new : List RuleLeaf) (ts : Trees Identifier) (from k : ℕ) → UpTo old new ts from k → behind k ts ≡ no_trees → all no_trees ≡ [] → AddsLeaves names old new (all (behind from ts))
    up_all old new ts from k p e stop =
        adds_same old new p.so_far (all (behind from ts)) (sym (append-nil p.so_far) ∙ ap (λ (x : List (Leaf Identifier)). p.so_far ++ x) (sym (ap all e ∙ stop)) ∙ p.whole) p.adds

-- ---- rules

-- the leaves of the rules before one
pub record RulesUpTo (names : Names) (r : Rules Identifier) (rs : List (Rule Identifier)) (old new : List RuleLeaf) (k : ℕ) : Type 0 where
  pub so_far : List (Leaf Identifier)
  pub adds : AddsLeaves names old new so_far
  pub whole : so_far ++ all_rule_leaves identifiers r (drop k rs) ≡ all_rule_leaves identifiers r rs

pub rules_none : (names : Names) (r : Rules Identifier) (rs : List (Rule Identifier)) (old : List RuleLeaf) → RulesUpTo names r rs old old 0
rules_none names r rs old = record { so_far = []; adds = adds_none names old; whole = refl }

pub rules_one_more : (names : Names) (r : Rules Identifier) (rs : List (Rule Identifier)) (old mid new : List RuleLeaf) (k : ℕ) (m : Rule Identifier) → RulesUpTo names r rs old mid k → drop k rs ≡ m ∷ drop (suc k) rs →
    AddsLeaves names mid new (rule_leaves identifiers r m) → RulesUpTo names r rs old new (k + 1)
rules_one_more names r rs old mid new k m p e h =
    let here = rule_leaves identifiers r m in
    let next = ap (λ (x : List (Rule Identifier)). all_rule_leaves identifiers r x) e ∙ ap (λ (j : ℕ). here ++ all_rule_leaves identifiers r (drop j rs)) (sym (add-one k)) in
    record {
      so_far = p.so_far ++ here;
      adds = adds_both names old mid new p.so_far here p.adds h;
      whole = append_assoc p.so_far here (all_rule_leaves identifiers r (drop (k + 1) rs)) ∙ ap (λ (x : List (Leaf Identifier)). p.so_far ++ x) (sym next) ∙ p.whole;
    }

pub rules_all : (names : Names) (r : Rules Identifier) (rs : List (Rule Identifier)) (old new : List RuleLeaf) (k : ℕ) → RulesUpTo names r rs old new k → drop k rs ≡ [] → AddsLeaves names old new (all_rule_leaves identifiers r rs)
rules_all names r rs old new k p e =
    adds_same names old new p.so_far (all_rule_leaves identifiers r rs) (sym (append-nil p.so_far) ∙ ap (λ (x : List (Rule Identifier)). p.so_far ++ all_rule_leaves identifiers r x) (sym e) ∙ p.whole) p.adds

-- ---- templates

pub unless_true : {A : Type 0} (b : Bool) (n : Named A) → b ≡ true → unless b n ≡ []
unless_true b n h = ap (λ (x : Bool). unless x n) h

pub unless_false : {A : Type 0} (b : Bool) (n : Named A) → b ≡ false → unless b n ≡ record { leaf = n; literal = false } ∷ []
unless_false b n h = ap (λ (x : Bool). unless x n) h

pub or_first : (a b : Bool) → a ≡ true → (a || b) ≡ true
or_first a b h = ap (λ x. x || b) h

pub or_second : (a b : Bool) → b ≡ true → (a || b) ≡ true
or_second true b h = refl
or_second false b h = h

pub or_neither : (a b : Bool) → a ≡ false → b ≡ false → (a || b) ≡ false
or_neither a b h g = ap (λ x. x || b) h ∙ g

module _ (dots : Identifier → Bool) (variable : Identifier → Bool) where
  chosen_some : (b : Bool) (u : Tree Identifier) (p q : List (Leaf Identifier)) → is_some (if b then Some u else None) ≡ true → if_escape (is_some (if b then Some u else None)) p q ≡ p
  chosen_some true u p q h = refl
  chosen_some false u p q h = absurd cc

  chosen_none : (b : Bool) (u : Tree Identifier) (p q : List (Leaf Identifier)) → (if b then Some u else None) ≡ None → if_escape (is_some (if b then Some u else None)) p q ≡ q
  chosen_none true u p q h = absurd cc
  chosen_none false u p q h = refl

  -- of an escape, what stands behind its first part
  pub escaped_leaves : (ts : Trees Identifier) (tail : Tail Identifier) (o : Option Occ) → is_some (escape_of dots ts tail) ≡ true →
      template_among nowhere variable (behind 1 ts) ++ template_behind nowhere variable tail ≡ template_leaves dots variable (list ts tail o)
  escaped_leaves no_trees tail o h = absurd cc
  escaped_leaves (tree t no_trees) tail o h = absurd cc
  escaped_leaves (tree t (tree u no_trees)) (dotted v) o h = absurd cc
  escaped_leaves (tree t (tree u (tree v vs))) tail o h = absurd cc
  escaped_leaves (tree t (tree u no_trees)) proper o h =
      let here = template_leaves nowhere variable u in
      let other = template_among dots variable (tree t (tree u no_trees)) ++ [] in
      append-nil (here ++ []) ∙ append-nil here ∙ sym (chosen_some (is_dots dots t) u here other h)

  -- of another list, those of its parts and its tail
  pub plain_leaves : (ts : Trees Identifier) (tail : Tail Identifier) (o : Option Occ) → escape_of dots ts tail ≡ None →
      template_among dots variable ts ++ template_behind dots variable tail ≡ template_leaves dots variable (list ts tail o)
  plain_leaves no_trees tail o h = refl
  plain_leaves (tree t no_trees) tail o h = refl
  plain_leaves (tree t (tree u no_trees)) (dotted v) o h = refl
  plain_leaves (tree t (tree u (tree v vs))) tail o h = refl
  plain_leaves (tree t (tree u no_trees)) proper o h =
      sym (chosen_none (is_dots dots t) u (template_leaves nowhere variable u) (template_among dots variable (tree t (tree u no_trees)) ++ []) h)

-- a variable is one that has a depth
pub has_depth : (same : Identifier → Identifier → Bool) (ws : List (Variable Identifier)) (i : Identifier) → is_some (depth_of same ws i) ≡ is_among same i (map (λ v. v.variable) ws)
has_depth same [] i = refl
has_depth same (w ∷ ws) i = by_test (same w.variable.name i) (has_depth same ws i)
  where
    by_test : (b : Bool) → is_some (depth_of same ws i) ≡ is_among same i (map (λ v. v.variable) ws) → is_some (if b then Some w.depth else depth_of same ws i) ≡ (b || is_among same i (map (λ v. v.variable) ws))
    by_test true h = refl
    by_test false h = h

pub same_leaves : (dots f g : Identifier → Bool) (t : Tree Identifier) → ((i : Identifier) → f i ≡ g i) → template_leaves dots f t ≡ template_leaves dots g t
same_leaves dots f g t h = λ k. template_leaves dots (λ i. h i k) t

-- ---- the literals in their list

abbrev pub literals : List (Named Identifier) → List (Leaf Identifier)
literals ls = map (λ l. record { leaf = l; literal = true }) ls

listed_name : (t : Tree Identifier) (us : Trees Identifier) (ls : List (Named Identifier)) (x : Result (List (Named Identifier)) (Fault Identifier)) → ((ms : List (Named Identifier)) → x ≡ Ok ms → name_leaves us ≡ literals ms) → names_of us ≡ x →
    names_of (tree t us) ≡ Ok ls → name_leaves (tree t us) ≡ literals ls
listed_name (atom a o) us ls x rest e h = absurd cc
listed_name (list ts tail o) us ls x rest e h = absurd cc
listed_name (vector ts o) us ls x rest e h = absurd cc
listed_name (name i o) us ls (Err f) rest e h = let bad_rest = ap (λ (y : Result (List (Named Identifier)) (Fault Identifier)). y >> λ ns. Ok (named i o ∷ ns)) e in absurd cc
listed_name (name i o) us ls (Ok ms) rest e h =
    let whole = sym (ap (λ (y : Result (List (Named Identifier)) (Fault Identifier)). y >> λ ns. Ok (named i o ∷ ns)) e) ∙ h in
    let same : named i o ∷ ms ≡ ls = cc in
    ap (λ (ks : List (Leaf Identifier)). record { leaf = named i o; literal = true } ∷ ks) (rest ms refl) ∙ ap literals same

pub listed_names : (us : Trees Identifier) (ls : List (Named Identifier)) → names_of us ≡ Ok ls → name_leaves us ≡ literals ls
listed_names no_trees [] h = refl
listed_names no_trees (l ∷ ls) h = absurd cc
listed_names (tree t us) ls h = listed_name t us ls (names_of us) (λ ms e. listed_names us ms e) refl h

-- what is handed on is there
then_ok : {A B : Type 0} (x : Result A (Fault Identifier)) (f : A → Result B (Fault Identifier)) (b : B) → (x >> f) ≡ Ok b → (a : A) × (x ≡ Ok a) × (f a ≡ Ok b)
then_ok (Ok a) f b h = (a, refl, h)
then_ok (Err e) f b h = absurd cc

bad_ok : {B : Type 0} (x : Result B (Fault Identifier)) (b : B) → bad x ≡ Ok b → x ≡ Ok b
bad_ok (Ok c) b h = h
bad_ok (Err e) b h = absurd cc

abbrev ok_or : {A : Type 0} → A → Result A (Fault Identifier) → A
ok_or a (Ok x) = x
ok_or a (Err e) = a

same_ok : {A : Type 0} (a b : A) (x : Result A (Fault Identifier)) → x ≡ Ok a → x ≡ Ok b → a ≡ b
same_ok a b x h g = ap (ok_or a) (sym h ∙ g)

abbrev checked : Rules Identifier → Result (Rules Identifier) (Fault Identifier)
checked s = check_rules identifiers s s.rules >> λ done. Ok s

-- what rules that were read have as their literals
read_literals : (e : Option Identifier) (us ts : Trees Identifier) (p : Option Occ) (r : Rules Identifier) → (rules_behind e (tree (list us proper p) ts) >> checked) ≡ Ok r → name_leaves us ≡ literals r.literals
read_literals e us ts p r h =
    let a = then_ok (rules_behind e (tree (list us proper p) ts)) checked r h in
    let b = then_ok (check_rules identifiers a.0 a.0.rules) (λ done. Ok a.0) r a.2 in
    let c = then_ok (bad (names_of us)) (λ ls. rules_in ts >> λ rs. Ok (record { ellipsis = e; literals = ls; rules = rs })) a.0 a.1 in
    let d = then_ok (rules_in ts) (λ rs. Ok (record { ellipsis = e; literals = c.0; rules = rs })) a.0 c.2 in
    listed_names us c.0 (bad_ok (names_of us) c.0 c.1)
    ∙ ap (λ (s : Rules Identifier). literals s.literals) (same_ok (record { ellipsis = e; literals = c.0; rules = d.0 }) a.0 (Ok (record { ellipsis = e; literals = c.0; rules = d.0 })) refl d.2 ∙ same_ok a.0 r (Ok a.0) refl b.2)

pub listed : (t : Tree Identifier) (r : Rules Identifier) → rules_in_form t ≡ Ok r → name_leaves (listed_in t) ≡ literals r.literals
listed (name i o) r h = absurd cc
listed (atom a o) r h = absurd cc
listed (vector ts o) r h = absurd cc
listed (list no_trees tail o) r h = absurd cc
listed (list (tree head no_trees) tail o) r h = absurd cc
listed (list (tree head (tree t ts)) (dotted u) o) r h = absurd cc
listed (list (tree head (tree (atom a p) ts)) proper o) r h = absurd cc
listed (list (tree head (tree (vector us p) ts)) proper o) r h = absurd cc
listed (list (tree head (tree (list us (dotted u) p) ts)) proper o) r h = absurd cc
listed (list (tree head (tree (list us proper p) ts)) proper o) r h = read_literals None us ts p r h
listed (list (tree head (tree (name i p) no_trees)) proper o) r h = absurd cc
listed (list (tree head (tree (name i p) (tree (name j q) ts))) proper o) r h = absurd cc
listed (list (tree head (tree (name i p) (tree (atom a q) ts))) proper o) r h = absurd cc
listed (list (tree head (tree (name i p) (tree (vector us q) ts))) proper o) r h = absurd cc
listed (list (tree head (tree (name i p) (tree (list us (dotted u) q) ts))) proper o) r h = absurd cc
listed (list (tree head (tree (name i p) (tree (list us proper q) ts))) proper o) r h = read_literals (Some i) us ts q r h

-- ---- literals without places

pub unplaced_are : (names : Names) (ns : List ℕ) (is : List (Named Identifier)) → AreIdents names ns is → AreUnplaced is → AreLeaves names (map unplaced_leaf ns) (literals is)
unplaced_are names [] [] h g = tt
unplaced_are names [] (i ∷ is) h g = absurd h
unplaced_are names (n ∷ ns) [] h g = absurd h
unplaced_are names (n ∷ ns) (i ∷ is) h g = (((h.0, sym g.0), refl), unplaced_are names ns is h.1 g.1)
