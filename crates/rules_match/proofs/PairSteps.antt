-- Comparing a row of parts, step by step.
use Rattle.std.proofs.Common.{◌≡◌, ℕ, ◌+◌, ◌-◌, List, [], ◌∷◌, ◌++◌, Bool, true, false, Option, Some, None, refl, sym, ap, ◌∙◌, subst, append_assoc}
use Rattle.std.proofs.lemmas.List.{append-nil}
use Rattle.std.specs.Prelude.{Vec}
use Rattle.std.specs.declared.alloc.Global.{Global}
use Rattle.scheme_model.specs.declared.Occ.{Occ}
use Rattle.scheme_model.specs.Trees.{Tree, name, atom, list, vector, Trees, no_trees, tree, Tail, proper, dotted}
use Rattle.scheme_model.specs.TreeParts.{count}
use Rattle.scheme_model.specs.RulesShape.{Role, IsLiteral, IsEllipsis, IsAny, IsVariable, Rule, is_dots, starts_dots}
use Rattle.scheme_model.specs.Matching.{front, behind, can_take, rest_of, chosen, of_first, pair_of, pairs_in, pairs_each, pairs_among, pairs_behind, compared}
use Rattle.scheme_model.specs.Ident.{Ident as Identifier}
use Rattle.syntax_tree.specs.Standing.{is_list}
use Rattle.syntax_tree.specs.Looks.{EndStands}
use Rattle.syntax_tree.specs.Macros.{IsIdent}
use Rattle.syntax_tree.specs.declared.trees.nodes.Tree as number
use Rattle.syntax_tree.specs.declared.trees.Work.{Work}
use Rattle.syntax_tree.specs.declared.rules.IdPair.{IdPair}
use Rattle.rules_match.specs.Matches.{ArePairs, AddsPairs, pairs_where}
use Rattle.rules_match.proofs.Parts.{dots_there}

-- ---- pairs one after another

pub pairs_append : (work : Work) (ps qs : List IdPair) (is js : List (Identifier × Identifier)) → ArePairs work ps is → ArePairs work qs js → ArePairs work (ps ++ qs) (is ++ js)
pairs_append work [] qs [] js h g = g
pairs_append work [] qs (i ∷ is) js h g = absurd h
pairs_append work (p ∷ ps) qs [] js h g = absurd h
pairs_append work (p ∷ ps) qs (i ∷ is) js h g = (h.0, h.1, pairs_append work ps qs is js h.2 g)

pub adds_none : (work : Work) (v : Vec IdPair Global) → AddsPairs work v v []
adds_none work v = record { pairs = []; added = sym (append-nil v.items); are = tt }

pub adds_both : (work : Work) (u v w : Vec IdPair Global) (is js : List (Identifier × Identifier)) → AddsPairs work u v is → AddsPairs work v w js → AddsPairs work u w (is ++ js)
adds_both work u v w is js p q =
    record {
      pairs = p.pairs ++ q.pairs;
      added = q.added ∙ ap (λ x. x ++ q.pairs) p.added ∙ append_assoc u.items p.pairs q.pairs;
      are = pairs_append work p.pairs q.pairs is js p.are q.are;
    }

pub adds_same : (work : Work) (u v : Vec IdPair Global) (is js : List (Identifier × Identifier)) → is ≡ js → AddsPairs work u v is → AddsPairs work u v js
adds_same work u v is js e h = subst (AddsPairs work u v) e h

pub adds_one : (work : Work) (u v : Vec IdPair Global) (literal ident : ℕ) (i j : Identifier) → v.items ≡ u.items ++ record { literal = literal; ident = ident } ∷ [] → IsIdent work.symbols literal i →
    IsIdent work.symbols ident j → AddsPairs work u v ((i, j) ∷ [])
adds_one work u v literal ident i j e h g = record { pairs = record { literal = literal; ident = ident } ∷ []; added = e; are = (h, g, tt) }

-- ---- one step

module _ (role : Identifier → Role) (dots : Identifier → Bool) (rest : Trees Identifier → Tail Identifier → List (Identifier × Identifier)) where
  -- a part that no ellipsis follows takes one
  pub pairs_alone : (p : Tree Identifier) (ps : Trees Identifier) (ts : Trees Identifier) (end : Tail Identifier) → starts_dots dots ps ≡ false →
      pairs_among role dots (tree p ps) rest ts end ≡ of_first ts (λ t us. pairs_in role dots p t ++ pairs_among role dots ps rest us end)
  pairs_alone p no_trees ts end h = refl
  pairs_alone p (tree d ps) ts end h =
      ap (λ (x : Bool).
      chosen x (λ u. pairs_each (λ t. pairs_in role dots p t) (front (count ts - count ps) ts) ++ pairs_among role dots ps rest (behind (count ts - count ps) ts) end)
      (λ u. of_first ts (λ t us. pairs_in role dots p t ++ pairs_among role dots (tree d ps) rest us end))) h

  -- one that an ellipsis follows takes all but as many as follow
  pub pairs_repeated : (p d : Tree Identifier) (ps : Trees Identifier) (ts : Trees Identifier) (end : Tail Identifier) → is_dots dots d ≡ true →
      pairs_among role dots (tree p (tree d ps)) rest ts end
      ≡ pairs_each (λ t. pairs_in role dots p t) (front (count ts - count ps) ts) ++ pairs_among role dots ps rest (behind (count ts - count ps) ts) end
  pairs_repeated p d ps ts end h =
      ap (λ (x : Bool).
      chosen x (λ u. pairs_each (λ t. pairs_in role dots p t) (front (count ts - count ps) ts) ++ pairs_among role dots ps rest (behind (count ts - count ps) ts) end)
      (λ u. of_first ts (λ t us. pairs_in role dots p t ++ pairs_among role dots (tree d ps) rest us end))) h

  -- what was added up to places of the pattern and of the form, and that all is that and what is left
  pub record PairsUpTo (work : Work) (old new : Vec IdPair Global) (ps ts : Trees Identifier) (end : Tail Identifier) (from k j : ℕ) : Type 0 where
    pub done : List (Identifier × Identifier)
    pub added : AddsPairs work old new done
    pub whole : pairs_among role dots (behind from ps) rest (behind from ts) end ≡ done ++ pairs_among role dots (behind k ps) rest (behind j ts) end

  pub pairs_none : (work : Work) (v : Vec IdPair Global) (ps ts : Trees Identifier) (end : Tail Identifier) (from : ℕ) → PairsUpTo work v v ps ts end from from from
  pairs_none work v ps ts end from = record { done = []; added = adds_none work v; whole = refl }

  -- more was added
  pub pairs_more : (work : Work) (old mid new : Vec IdPair Global) (ps ts : Trees Identifier) (end : Tail Identifier) (from k j l i : ℕ) (more : List (Identifier × Identifier)) →
      PairsUpTo work old mid ps ts end from k j → AddsPairs work mid new more →
      pairs_among role dots (behind k ps) rest (behind j ts) end ≡ more ++ pairs_among role dots (behind l ps) rest (behind i ts) end → PairsUpTo work old new ps ts end from l i
  pairs_more work old mid new ps ts end from k j l i more u a e =
      record {
        done = u.done ++ more;
        added = adds_both work old mid new u.done more u.added a;
        whole = u.whole ∙ ap (λ x. u.done ++ x) e ∙ sym (append_assoc u.done more (pairs_among role dots (behind l ps) rest (behind i ts) end));
      }

  pub step_alone : (ps ts : Trees Identifier) (end : Tail Identifier) (k j : ℕ) (p t : Tree Identifier) → behind k ps ≡ tree p (behind (k + 1) ps) → behind j ts ≡ tree t (behind (j + 1) ts) →
      false ≡ starts_dots dots (behind (k + 1) ps) →
      pairs_among role dots (behind k ps) rest (behind j ts) end ≡ pairs_in role dots p t ++ pairs_among role dots (behind (k + 1) ps) rest (behind (j + 1) ts) end
  step_alone ps ts end k j p t ep et d =
      (λ i. pairs_among role dots (ep i) rest (et i) end) ∙ pairs_alone p (behind (k + 1) ps) (tree t (behind (j + 1) ts)) end (sym d)

  pub step_repeated : (ps ts : Trees Identifier) (end : Tail Identifier) (k j c : ℕ) (p : Tree Identifier) → behind k ps ≡ tree p (behind (k + 1) ps) → true ≡ starts_dots dots (behind (k + 1) ps) →
      c ≡ count (behind j ts) - count (behind (k + 2) ps) → (b : behind c (behind j ts) ≡ behind (j + c) ts) →
      pairs_among role dots (behind k ps) rest (behind j ts) end ≡ pairs_each (λ t. pairs_in role dots p t) (front c (behind j ts)) ++ pairs_among role dots (behind (k + 2) ps) rest (behind (j + c) ts) end
  step_repeated ps ts end k j c p ep d e b =
      let q = dots_there dots k ps d in
      ap (λ x. pairs_among role dots x rest (behind j ts) end) (ep ∙ ap (tree p) q.1) ∙ pairs_repeated p q.0 (behind (k + 2) ps) (behind j ts) end q.2
      ∙ (λ i. pairs_each (λ t. pairs_in role dots p t) (front (sym e i) (behind j ts)) ++ pairs_among role dots (behind (k + 2) ps) rest (behind (sym e i) (behind j ts)) end)
      ∙ ap (λ x. pairs_each (λ t. pairs_in role dots p t) (front c (behind j ts)) ++ pairs_among role dots (behind (k + 2) ps) rest x end) b

  -- no tree is left for a part
  pub pairs_short : (work : Work) (old new : Vec IdPair Global) (ps ts : Trees Identifier) (end : Tail Identifier) (from k j : ℕ) (p : Tree Identifier) → PairsUpTo work old new ps ts end from k j →
      behind k ps ≡ tree p (behind (k + 1) ps) → behind j ts ≡ no_trees → false ≡ starts_dots dots (behind (k + 1) ps) →
      AddsPairs work old new (pairs_among role dots (behind from ps) rest (behind from ts) end)
  pairs_short work old new ps ts end from k j p u ep et d =
      let none : pairs_among role dots (behind k ps) rest (behind j ts) end ≡ [] = (λ i. pairs_among role dots (ep i) rest (et i) end) ∙ pairs_alone p (behind (k + 1) ps) no_trees end (sym d) in
      adds_same work old new u.done (pairs_among role dots (behind from ps) rest (behind from ts) end) (sym (append-nil u.done) ∙ ap (λ x. u.done ++ x) (sym none) ∙ sym u.whole) u.added

  -- the end of the pattern
  pub pairs_all : (work : Work) (old mid new : Vec IdPair Global) (ps ts : Trees Identifier) (end : Tail Identifier) (from k j : ℕ) → PairsUpTo work old mid ps ts end from k j → behind k ps ≡ no_trees →
      AddsPairs work mid new (rest (behind j ts) end) → AddsPairs work old new (pairs_among role dots (behind from ps) rest (behind from ts) end)
  pairs_all work old mid new ps ts end from k j u e a =
      adds_same work old new (u.done ++ rest (behind j ts) end) (pairs_among role dots (behind from ps) rest (behind from ts) end)
      (ap (λ x. u.done ++ pairs_among role dots x rest (behind j ts) end) (sym e) ∙ sym u.whole) (adds_both work old mid new u.done (rest (behind j ts) end) u.added a)

-- where the pattern can take the list
pub where_added : (work : Work) (old new : Vec IdPair Global) (role : Identifier → Role) (dots : Identifier → Bool) (ps : Trees Identifier) (tail : Tail Identifier) (ts : Trees Identifier) (end : Tail Identifier) →
    can_take dots ps tail ts end ≡ true → AddsPairs work old new (pairs_among role dots ps (pairs_behind role dots tail) ts end) → AddsPairs work old new (pairs_where role dots ps tail ts end)
where_added work old new role dots ps tail ts end h a =
    adds_same work old new (pairs_among role dots ps (pairs_behind role dots tail) ts end) (pairs_where role dots ps tail ts end)
    (ap (λ (x : Bool). chosen x (λ u. pairs_among role dots ps (pairs_behind role dots tail) ts end) (λ u. [])) (sym h)) a

-- ---- tails

-- a list that no node holds is compared with no literal
pub rest_pairs : (role : Identifier → Role) (dots : Identifier → Bool) (p t : Tree Identifier) → is_list p ≡ false → is_list t ≡ true → pairs_in role dots p t ≡ []
rest_pairs role dots p (name j o) h g = absurd cc
rest_pairs role dots p (atom b o) h g = absurd cc
rest_pairs role dots p (vector us o) h g = absurd cc
rest_pairs role dots (atom a q) (list us end o) h g = refl
rest_pairs role dots (list ps tail q) (list us end o) h g = absurd cc
rest_pairs role dots (vector ps q) (list us end o) h g = refl
rest_pairs role dots (name i q) (list us end o) h g = list_pair (role i) i us end o
  where
    list_pair : (r : Role) (i : Identifier) (us : Trees Identifier) (end : Tail Identifier) (o : Option Occ) → pair_of r i (list us end o) ≡ []
    list_pair r i us end o = elim r as (λ x. pair_of x i (list us end o) ≡ []) [ IsLiteral ↦ refl | IsEllipsis ↦ refl | IsAny ↦ refl | IsVariable ↦ refl ]

-- behind the parts of a pattern a tail is compared with the form's tail alone
pub rest_none : (work : Work) (role : Identifier → Role) (dots : Identifier → Bool) (n : Option number.Tree) (q : Tail Identifier) (us : Trees Identifier) (end : Tail Identifier) → EndStands work n q →
    is_list (rest_of us end) ≡ true → pairs_behind role dots q us end ≡ []
rest_none work role dots None proper us end h g = refl
rest_none work role dots None (dotted p) us end h g = absurd h
rest_none work role dots (Some n) proper us end h g = absurd h
rest_none work role dots (Some n) (dotted p) us end h g = rest_pairs role dots p (rest_of us end) h.0 g

-- ---- one pattern and many trees

pub record EachUpTo (work : Work) (old new : Vec IdPair Global) (f : Tree Identifier → List (Identifier × Identifier)) (ts : Trees Identifier) (k : ℕ) : Type 0 where
  pub done : List (Identifier × Identifier)
  pub added : AddsPairs work old new done
  pub whole : pairs_each f ts ≡ done ++ pairs_each f (behind k ts)

pub each_none : (work : Work) (v : Vec IdPair Global) (f : Tree Identifier → List (Identifier × Identifier)) (ts : Trees Identifier) → EachUpTo work v v f ts 0
each_none work v f ts = record { done = []; added = adds_none work v; whole = refl }

pub each_more : (work : Work) (old mid new : Vec IdPair Global) (f : Tree Identifier → List (Identifier × Identifier)) (ts : Trees Identifier) (k : ℕ) (t : Tree Identifier) → EachUpTo work old mid f ts k →
    behind k ts ≡ tree t (behind (k + 1) ts) → AddsPairs work mid new (f t) → EachUpTo work old new f ts (k + 1)
each_more work old mid new f ts k t u e a =
    record {
      done = u.done ++ f t;
      added = adds_both work old mid new u.done (f t) u.added a;
      whole = u.whole ∙ ap (λ x. u.done ++ pairs_each f x) e ∙ sym (append_assoc u.done (f t) (pairs_each f (behind (k + 1) ts)));
    }

pub each_all : (work : Work) (old new : Vec IdPair Global) (f : Tree Identifier → List (Identifier × Identifier)) (ts : Trees Identifier) (k : ℕ) → EachUpTo work old new f ts k → behind k ts ≡ no_trees →
    AddsPairs work old new (pairs_each f ts)
each_all work old new f ts k u e = adds_same work old new u.done (pairs_each f ts) (sym (append-nil u.done) ∙ ap (λ x. u.done ++ pairs_each f x) (sym e) ∙ sym u.whole) u.added

-- ---- rules

pub record RulesUpTo (work : Work) (old new : Vec IdPair Global) (role : Identifier → Role) (dots : Identifier → Bool) (rs left : List (Rule Identifier)) (ts : Trees Identifier) (end : Tail Identifier) : Type 0 where
  pub done : List (Identifier × Identifier)
  pub added : AddsPairs work old new done
  pub whole : compared role dots rs ts end ≡ done ++ compared role dots left ts end

pub rules_none : (work : Work) (v : Vec IdPair Global) (role : Identifier → Role) (dots : Identifier → Bool) (rs : List (Rule Identifier)) (ts : Trees Identifier) (end : Tail Identifier) →
    RulesUpTo work v v role dots rs rs ts end
rules_none work v role dots rs ts end = record { done = []; added = adds_none work v; whole = refl }

pub rules_more : (work : Work) (old mid new : Vec IdPair Global) (role : Identifier → Role) (dots : Identifier → Bool) (rs : List (Rule Identifier)) (r : Rule Identifier) (left : List (Rule Identifier))
    (ts : Trees Identifier) (end : Tail Identifier) → RulesUpTo work old mid role dots rs (r ∷ left) ts end → AddsPairs work mid new (pairs_where role dots r.parts r.tail ts end) →
    RulesUpTo work old new role dots rs left ts end
rules_more work old mid new role dots rs r left ts end u a =
    record {
      done = u.done ++ pairs_where role dots r.parts r.tail ts end;
      added = adds_both work old mid new u.done (pairs_where role dots r.parts r.tail ts end) u.added a;
      whole = u.whole ∙ sym (append_assoc u.done (pairs_where role dots r.parts r.tail ts end) (compared role dots left ts end));
    }

pub rules_all : (work : Work) (old new : Vec IdPair Global) (role : Identifier → Role) (dots : Identifier → Bool) (rs left : List (Rule Identifier)) (ts : Trees Identifier) (end : Tail Identifier) →
    RulesUpTo work old new role dots rs left ts end → left ≡ [] → AddsPairs work old new (compared role dots rs ts end)
rules_all work old new role dots rs left ts end u e = adds_same work old new u.done (compared role dots rs ts end) (sym (append-nil u.done) ∙ ap (λ x. u.done ++ compared role dots x ts end) (sym e) ∙ sym u.whole) u.added
