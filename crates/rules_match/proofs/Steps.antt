-- Matching of a row of parts, step by step.
use Rattle.std.proofs.Common.{◌≡◌, ℕ, ◌+◌, ◌-◌, ◌<◌, ◌≤◌, Bool, true, false, Option, Some, None, refl, sym, ap, ◌∙◌, arith}
use Rattle.std.specs.Prelude.{nat_le, if◌then◌else◌}
use Rattle.std.proofs.lemmas.Bool.Decides.{nat_tests}
use Rattle.scheme_model.specs.Trees.{Tree, Trees, no_trees, tree, Tail}
use Rattle.scheme_model.specs.TreeParts.{count}
use Rattle.scheme_model.specs.RulesShape.{is_dots, starts_dots}
use Rattle.scheme_model.specs.Matching.{Match, both, Matcher, ◌>>=◌, chosen, first_part, taken, front, behind, names_in, match_each, match_tree, match_parts}
use Rattle.scheme_model.specs.Ident.{Ident as Identifier}
use Rattle.syntax_tree.specs.declared.trees.Work.{Work}
use Rattle.rules_match.specs.declared.matching.Found.{Found}
use Rattle.rules_match.specs.Found.{Adds, FindsParts, later}
use Rattle.rules_match.proofs.Adding.{no_match, later_none, later_both, later_bind, adds_nothing, adds_both}
use Rattle.rules_match.proofs.Parts.{dots_there}

module _ (m : Matcher Identifier Identifier) (rest : Trees Identifier → Tail Identifier → Option (Match Identifier Identifier)) where
  -- a part that no ellipsis follows takes one
  part_alone : (p : Tree Identifier) (ps ts : Trees Identifier) (end : Tail Identifier) → starts_dots m.dots ps ≡ false →
      match_parts m (tree p ps) rest ts end ≡ (first_part ts >>= λ q. match_tree m p q.0 >>= λ a. match_parts m ps rest q.1 end >>= λ b. Some (both a b))
  part_alone p no_trees ts end h = refl
  part_alone p (tree d ps) ts end h =
      ap (λ (x : Bool).
      chosen x (λ u. taken (count ps) ts >>= λ q. match_each (λ t. match_tree m p t) (names_in m.role p) q.0 >>= λ a. match_parts m ps rest q.1 end >>= λ b. Some (both a b))
      (λ u. first_part ts >>= λ q. match_tree m p q.0 >>= λ a. match_parts m (tree d ps) rest q.1 end >>= λ b. Some (both a b))) h

  -- one that an ellipsis follows takes all but as many as follow
  part_repeated : (p d : Tree Identifier) (ps ts : Trees Identifier) (end : Tail Identifier) → is_dots m.dots d ≡ true →
      match_parts m (tree p (tree d ps)) rest ts end
      ≡ (taken (count ps) ts >>= λ q. match_each (λ t. match_tree m p t) (names_in m.role p) q.0 >>= λ a. match_parts m ps rest q.1 end >>= λ b. Some (both a b))
  part_repeated p d ps ts end h =
      ap (λ (x : Bool).
      chosen x (λ u. taken (count ps) ts >>= λ q. match_each (λ t. match_tree m p t) (names_in m.role p) q.0 >>= λ a. match_parts m ps rest q.1 end >>= λ b. Some (both a b))
      (λ u. first_part ts >>= λ q. match_tree m p q.0 >>= λ a. match_parts m (tree d ps) rest q.1 end >>= λ b. Some (both a b))) h

  module _ (ps ts : Trees Identifier) (end : Tail Identifier) (k j : ℕ) (p : Tree Identifier) (ep : behind k ps ≡ tree p (behind (k + 1) ps)) where
    here : Option (Match Identifier Identifier)
    here = match_parts m (behind k ps) rest (behind j ts) end

    alone : (t : Tree Identifier) (o : Option (Match Identifier Identifier)) → behind j ts ≡ tree t (behind (j + 1) ts) → false ≡ starts_dots m.dots (behind (k + 1) ps) → match_tree m p t ≡ o →
        match_parts m (behind k ps) rest (behind j ts) end ≡ (o >>= λ a. match_parts m (behind (k + 1) ps) rest (behind (j + 1) ts) end >>= λ b. Some (both a b))
    alone t o et d h =
        (λ i. match_parts m (ep i) rest (et i) end) ∙ part_alone p (behind (k + 1) ps) (tree t (behind (j + 1) ts)) end (sym d)
        ∙ ap (λ (x : Option (Match Identifier Identifier)). x >>= λ a. match_parts m (behind (k + 1) ps) rest (behind (j + 1) ts) end >>= λ b. Some (both a b)) h

    pub step_alone : (t : Tree Identifier) (a : Match Identifier Identifier) → behind j ts ≡ tree t (behind (j + 1) ts) → false ≡ starts_dots m.dots (behind (k + 1) ps) → match_tree m p t ≡ Some a →
        match_parts m (behind k ps) rest (behind j ts) end ≡ later a (match_parts m (behind (k + 1) ps) rest (behind (j + 1) ts) end)
    step_alone t a et d h = alone t (Some a) et d h ∙ later_bind a (match_parts m (behind (k + 1) ps) rest (behind (j + 1) ts) end)

    -- a part that doesn't match
    pub fail_alone : (t : Tree Identifier) → behind j ts ≡ tree t (behind (j + 1) ts) → false ≡ starts_dots m.dots (behind (k + 1) ps) → match_tree m p t ≡ None → match_parts m (behind k ps) rest (behind j ts) end ≡ None
    fail_alone t et d h = alone t None et d h

    -- no tree is left for a part
    pub fail_short : behind j ts ≡ no_trees → false ≡ starts_dots m.dots (behind (k + 1) ps) → match_parts m (behind k ps) rest (behind j ts) end ≡ None
    fail_short et d = (λ i. match_parts m (ep i) rest (et i) end) ∙ part_alone p (behind (k + 1) ps) no_trees end (sym d)

    repeated : (o : Option (Trees Identifier × Trees Identifier)) → true ≡ starts_dots m.dots (behind (k + 1) ps) → taken (count (behind (k + 2) ps)) (behind j ts) ≡ o →
        match_parts m (behind k ps) rest (behind j ts) end
        ≡ (o >>= λ q. match_each (λ t. match_tree m p t) (names_in m.role p) q.0 >>= λ a. match_parts m (behind (k + 2) ps) rest q.1 end >>= λ b. Some (both a b))
    repeated o d h =
        let q = dots_there m.dots k ps d in
        ap (λ x. match_parts m x rest (behind j ts) end) (ep ∙ ap (tree p) q.1) ∙ part_repeated p q.0 (behind (k + 2) ps) (behind j ts) end q.2
        ∙ ap (λ (x : Option (Trees Identifier × Trees Identifier)). x >>= λ q. match_each (λ t. match_tree m p t) (names_in m.role p) q.0 >>= λ a. match_parts m (behind (k + 2) ps) rest q.1 end >>= λ b. Some (both a b)) h

    pub step_repeated : (i : ℕ) (us : Trees Identifier) (a : Match Identifier Identifier) → true ≡ starts_dots m.dots (behind (k + 1) ps) → taken (count (behind (k + 2) ps)) (behind j ts) ≡ Some (us, behind i ts) →
        match_each (λ t. match_tree m p t) (names_in m.role p) us ≡ Some a → match_parts m (behind k ps) rest (behind j ts) end ≡ later a (match_parts m (behind (k + 2) ps) rest (behind i ts) end)
    step_repeated i us a d e h =
        repeated (Some (us, behind i ts)) d e
        ∙ ap (λ (x : Option (Match Identifier Identifier)). x >>= λ a. match_parts m (behind (k + 2) ps) rest (behind i ts) end >>= λ b. Some (both a b)) h
        ∙ later_bind a (match_parts m (behind (k + 2) ps) rest (behind i ts) end)

    -- a tree that an ellipsis takes doesn't match
    pub fail_repeated : (us vs : Trees Identifier) → true ≡ starts_dots m.dots (behind (k + 1) ps) → taken (count (behind (k + 2) ps)) (behind j ts) ≡ Some (us, vs) →
        match_each (λ t. match_tree m p t) (names_in m.role p) us ≡ None → match_parts m (behind k ps) rest (behind j ts) end ≡ None
    fail_repeated us vs d e h =
        repeated (Some (us, vs)) d e ∙ ap (λ (x : Option (Match Identifier Identifier)). x >>= λ a. match_parts m (behind (k + 2) ps) rest vs end >>= λ b. Some (both a b)) h

    -- there are too few trees for the parts that follow an ellipsis
    pub fail_few : true ≡ starts_dots m.dots (behind (k + 1) ps) → taken (count (behind (k + 2) ps)) (behind j ts) ≡ None → match_parts m (behind k ps) rest (behind j ts) end ≡ None
    fail_few d e = repeated None d e

-- ---- what an ellipsis takes

pub taken_some : (n c : ℕ) (ts : Trees Identifier) → n ≤ count ts → c ≡ count ts - n → taken n ts ≡ Some (front c ts, behind c ts)
taken_some n c ts h e =
    let b : nat_le n (count ts) ≡ true = grind (arith, nat_tests) in
    ap (λ (x : Bool). if x then Some (front (count ts - n) ts, behind (count ts - n) ts) else None) b ∙ (λ i. Some (front (sym e i) ts, behind (sym e i) ts))

pub taken_none : (n : ℕ) (ts : Trees Identifier) → count ts < n → taken n ts ≡ None
taken_none n ts h =
    let b : nat_le n (count ts) ≡ false = grind (arith, nat_tests) in
    ap (λ (x : Bool). if x then Some (front (count ts - n) ts, behind (count ts - n) ts) else None) b

-- ---- up to a place

-- what was matched up to places of the pattern and of the form, whatever follows
pub record UpTo (work : Work) (m : Matcher Identifier Identifier) (ps ts : Trees Identifier) (from k j : ℕ) (old new : Found) : Type 0 where
  pub match : Match Identifier Identifier
  pub added : Adds work old new match
  pub whole : (rest : Trees Identifier → Tail Identifier → Option (Match Identifier Identifier)) (end : Tail Identifier) → match_parts m (behind from ps) rest (behind from ts) end ≡ later match (match_parts m (behind k ps) rest (behind j ts) end)

pub up_to_none : (work : Work) (m : Matcher Identifier Identifier) (ps ts : Trees Identifier) (from : ℕ) (f : Found) → UpTo work m ps ts from from from f f
up_to_none work m ps ts from f = record { match = no_match; added = adds_nothing work f; whole = λ rest end. sym (later_none (match_parts m (behind from ps) rest (behind from ts) end)) }

pub up_to_more : (work : Work) (m : Matcher Identifier Identifier) (ps ts : Trees Identifier) (from k j l i : ℕ) (f g h : Found) (a : Match Identifier Identifier) → UpTo work m ps ts from k j f g → Adds work g h a →
    ((rest : Trees Identifier → Tail Identifier → Option (Match Identifier Identifier)) (end : Tail Identifier) → match_parts m (behind k ps) rest (behind j ts) end ≡ later a (match_parts m (behind l ps) rest (behind i ts) end)) →
    UpTo work m ps ts from l i f h
up_to_more work m ps ts from k j l i f g h a u q s =
    record {
      match = both u.match a;
      added = adds_both work f g h u.match a u.added q;
      whole = λ rest end. u.whole rest end ∙ ap (later u.match) (s rest end) ∙ later_both u.match a (match_parts m (behind l ps) rest (behind i ts) end);
    }

pub up_to_fail : (work : Work) (m : Matcher Identifier Identifier) (ps ts : Trees Identifier) (from k j : ℕ) (f g h : Found) → UpTo work m ps ts from k j f g →
    ((rest : Trees Identifier → Tail Identifier → Option (Match Identifier Identifier)) (end : Tail Identifier) → match_parts m (behind k ps) rest (behind j ts) end ≡ None) → FindsParts work m ps ts from f h None
up_to_fail work m ps ts from k j f g h u s = λ rest end. u.whole rest end ∙ ap (later u.match) (s rest end)

pub up_to_all : (work : Work) (m : Matcher Identifier Identifier) (ps ts : Trees Identifier) (from k j : ℕ) (f g : Found) → UpTo work m ps ts from k j f g → behind k ps ≡ no_trees → FindsParts work m ps ts from f g (Some j)
up_to_all work m ps ts from k j f g u e = (u.match, u.added, λ rest end. u.whole rest end ∙ ap (λ (x : Trees Identifier). later u.match (match_parts m x rest (behind j ts) end)) e)
