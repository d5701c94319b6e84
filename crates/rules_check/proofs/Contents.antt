-- What is found in patterns, part by part.
use Rattle.std.proofs.Common.{◌≡◌, ℕ, suc, ◌≤◌, List, [], ◌∷◌, ◌++◌, Bool, true, false, ◌||◌, refl, sym, ap, ◌∙◌, subst, append_assoc}
use Rattle.std.specs.Prelude.{nat_lt, Option, Some, None}
use Rattle.std.proofs.lemmas.List.{append-nil}
use Rattle.std.proofs.lemmas.Option.{same_Some}
use Rattle.scheme_model.specs.declared.Occ.{Occ}
use Rattle.scheme_model.specs.Trees.{Tree, name, vector, Trees, no_trees, tree, Tail, proper, dotted}
use Rattle.scheme_model.specs.ExpansionFaults.{named}
use Rattle.scheme_model.specs.Matching.{behind}
use Rattle.scheme_model.specs.RulesShape.{Rules, Variable, Role, IsVariable, role_of, dots_of, variable_at, starts_dots, ends_dots, dots_count, depth_before, some_bad_pattern, bad_pattern_tail, some_two_dots, two_dots_tail, variables_among, variables_behind}
use Rattle.scheme_model.specs.Ident.{Ident as Identifier}
use Rattle.syntax_tree.specs.Macros.{identifiers}
use Rattle.syntax_tree.specs.Placed.{IsNamed}
use Rattle.scheme_model.specs.Measures.{tail_depth}
use Rattle.syntax_tree.specs.Looks.{EndStands, StandsWithin, EndWithin}
use Rattle.syntax_tree.specs.Works.{StandsFor}
use Rattle.syntax_tree.specs.declared.trees.Work.{Work}
use Rattle.syntax_tree.specs.declared.trees.nodes.Tree as number
use Rattle.syntax_tree.specs.declared.rules.Named as code_name
use Rattle.rules_check.specs.declared.pattern.Variable as code
use Rattle.rules_check.specs.declared.pattern.Found.{Found}
use Rattle.rules_check.specs.Patterns.{Content, of_pattern, of_parts, of_list, AreVariables, Finds, Contains}

-- ---- truth values

pub or_none : (a : Bool) → (a || false) ≡ a
or_none true = refl
or_none false = refl

pub or_assoc : (a b c : Bool) → ((a || b) || c) ≡ (a || (b || c))
or_assoc true b c = refl
or_assoc false b c = refl

-- what the code finds of `m || a`
pub or_true : (m a v : Bool) → m ≡ true → v ≡ true → v ≡ (m || a)
or_true m a v e h = h ∙ sym (ap (λ x. x || a) e)

pub or_false : (m a v : Bool) → m ≡ false → v ≡ a → v ≡ (m || a)
or_false m a v e h = h ∙ sym (ap (λ x. x || a) e)

-- ---- contents added up

abbrev pub nothing : Content
nothing = record { misplaced = false; two = false; variables = [] }

abbrev pub added : Content → Content → Content
added c d = record { misplaced = c.misplaced || d.misplaced; two = c.two || d.two; variables = c.variables ++ d.variables }

pub added_nothing : (c : Content) → added c nothing ≡ c
added_nothing c =
    let m = or_none c.misplaced in
    let t = or_none c.two in
    let v = append-nil c.variables in
    λ k. record { misplaced = m k; two = t k; variables = v k }

pub added_assoc : (c d e : Content) → added (added c d) e ≡ added c (added d e)
added_assoc c d e =
    let m = or_assoc c.misplaced d.misplaced e.misplaced in
    let t = or_assoc c.two d.two e.two in
    let v = append_assoc c.variables d.variables e.variables in
    λ k. record { misplaced = m k; two = t k; variables = v k }

-- ---- variables

pub variables_append : (work : Work) (us vs : List code.Variable) (xs ys : List (Variable Identifier)) → AreVariables work us xs → AreVariables work vs ys → AreVariables work (us ++ vs) (xs ++ ys)
variables_append work [] vs [] ys h g = g
variables_append work [] vs (x ∷ xs) ys h g = absurd h
variables_append work (u ∷ us) vs [] ys h g = absurd h
variables_append work (u ∷ us) vs (x ∷ xs) ys h g = (h.0, h.1, variables_append work us vs xs ys h.2 g)

-- ---- found, one after another

pub finds_nothing : (work : Work) (f : Found) → Finds work f f nothing
finds_nothing work f = record { misplaced = sym (or_none f.misplaced); two = sym (or_none f.two); more = []; variables = sym (append-nil f.variables.items); found = tt }

pub finds_both : (work : Work) (f g h : Found) (c d : Content) → Finds work f g c → Finds work g h d → Finds work f h (added c d)
finds_both work f g h c d p q =
    record {
      misplaced = q.misplaced ∙ ap (λ x. x || d.misplaced) p.misplaced ∙ or_assoc f.misplaced c.misplaced d.misplaced;
      two = q.two ∙ ap (λ x. x || d.two) p.two ∙ or_assoc f.two c.two d.two;
      more = p.more ++ q.more;
      variables = q.variables ∙ ap (λ x. x ++ q.more) p.variables ∙ append_assoc f.variables.items p.more q.more;
      found = variables_append work p.more q.more c.variables d.variables p.found q.found;
    }

-- ---- one identifier

pub variable_found : (work : Work) (f g : Found) (r : Rules Identifier) (i : Identifier) (o : Option Occ) (depth : ℕ) (n : code_name.Named) → g.misplaced ≡ f.misplaced → g.two ≡ f.two →
    g.variables.items ≡ f.variables.items ++ record { name = n; depth = depth } ∷ [] → IsNamed work.symbols n (named i o) → IsVariable ≡ role_of identifiers r i → Finds work f g (of_pattern r (name i o) depth)
variable_found work f g r i o depth n m t v is e =
    let one : List code.Variable = record { name = n; depth = depth } ∷ [] in
    record {
      misplaced = m ∙ sym (or_none f.misplaced);
      two = t ∙ sym (or_none f.two);
      more = one;
      variables = v;
      found = subst (λ (x : Role). AreVariables work one (variable_at x i o depth)) e (is, refl, tt);
    }

pub other_found : (work : Work) (f : Found) (r : Rules Identifier) (i : Identifier) (o : Option Occ) (depth : ℕ) (role : Role) → variable_at role i o depth ≡ [] → role ≡ role_of identifiers r i → Finds work f f (of_pattern r (name i o) depth)
other_found work f r i o depth role none e =
    let nothing_more : [] ≡ variable_at (role_of identifiers r i) i o depth = sym none ∙ ap (λ (x : Role). variable_at x i o depth) e in
    record {
      misplaced = sym (or_none f.misplaced);
      two = sym (or_none f.two);
      more = [];
      variables = sym (append-nil f.variables.items);
      found = subst (λ (ws : List (Variable Identifier)). AreVariables work [] ws) nothing_more tt;
    }

-- ---- parts

-- the content of one more part
pub one_more : (r : Rules Identifier) (t : Tree Identifier) (ts : Trees Identifier) (depth : ℕ) →
    added (of_pattern r t (depth_before (dots_of identifiers r) ts depth)) (of_parts r ts depth) ≡ of_parts r (tree t ts) depth
one_more r t ts depth = refl

-- what was found in the parts from a place up to another
pub record FindsUpTo (work : Work) (old new : Found) (r : Rules Identifier) (ts : Trees Identifier) (depth from k : ℕ) : Type 0 where
  pub content : Content
  pub found : Finds work old new content
  pub whole : added content (of_parts r (behind k ts) depth) ≡ of_parts r (behind from ts) depth

pub up_to_none : (work : Work) (f : Found) (r : Rules Identifier) (ts : Trees Identifier) (depth from : ℕ) → FindsUpTo work f f r ts depth from from
up_to_none work f r ts depth from = record { content = nothing; found = finds_nothing work f; whole = refl }

pub up_to_more : (work : Work) (f g h : Found) (r : Rules Identifier) (ts : Trees Identifier) (depth from k inner : ℕ) (t : Tree Identifier) → FindsUpTo work f g r ts depth from k →
    behind k ts ≡ tree t (behind (suc k) ts) → inner ≡ depth_before (dots_of identifiers r) (behind (suc k) ts) depth → Finds work g h (of_pattern r t inner) → FindsUpTo work f h r ts depth from (suc k)
up_to_more work f g h r ts depth from k inner t p e d q =
    let part = of_pattern r t inner in
    record {
      content = added p.content part;
      found = finds_both work f g h p.content part p.found q;
      whole =
          added_assoc p.content part (of_parts r (behind (suc k) ts) depth)
          ∙ ap (added p.content) (ap (λ n. added (of_pattern r t n) (of_parts r (behind (suc k) ts) depth)) d ∙ ap (λ us. of_parts r us depth) (sym e)) ∙ p.whole;
    }

pub up_to_all : (work : Work) (f g : Found) (r : Rules Identifier) (ts : Trees Identifier) (depth from k : ℕ) → FindsUpTo work f g r ts depth from k → behind k ts ≡ no_trees →
    Finds work f g (of_parts r (behind from ts) depth)
up_to_all work f g r ts depth from k p e =
    subst (Finds work f g) (sym (added_nothing p.content) ∙ ap (λ us. added p.content (of_parts r us depth)) (sym e) ∙ p.whole) p.found

-- ---- lists

-- what a list has beside its parts and its tail
abbrev pub marks : Rules Identifier → Trees Identifier → Tail Identifier → Content
marks r ts tail = record { misplaced = starts_dots (dots_of identifiers r) ts || ends_dots (dots_of identifiers r) tail; two = nat_lt 1 (dots_count (dots_of identifiers r) ts); variables = [] }

abbrev pub of_end : Rules Identifier → Tail Identifier → ℕ → Content
of_end r tail depth = record { misplaced = bad_pattern_tail (dots_of identifiers r) tail; two = two_dots_tail (dots_of identifiers r) tail; variables = variables_behind (role_of identifiers r) tail depth }

pub list_whole : (r : Rules Identifier) (ts : Trees Identifier) (tail : Tail Identifier) (depth : ℕ) → added (marks r ts tail) (added (of_parts r ts depth) (of_end r tail depth)) ≡ of_list r ts tail depth
list_whole r ts tail depth =
    let m = or_assoc (starts_dots (dots_of identifiers r) ts) (ends_dots (dots_of identifiers r) tail) (some_bad_pattern (dots_of identifiers r) ts || bad_pattern_tail (dots_of identifiers r) tail) in
    λ k. record { misplaced = m k; two = nat_lt 1 (dots_count (dots_of identifiers r) ts) || (some_two_dots (dots_of identifiers r) ts || two_dots_tail (dots_of identifiers r) tail); variables = variables_among (role_of identifiers r) ts depth ++ variables_behind (role_of identifiers r) tail depth }

-- a vector is seen as a list without a tail
pub vector_whole : (r : Rules Identifier) (ts : Trees Identifier) (o : Option Occ) (depth : ℕ) → of_list r ts proper depth ≡ of_pattern r (vector ts o) depth
vector_whole r ts o depth =
    let m = ap (λ x. starts_dots (dots_of identifiers r) ts || x) (or_none (some_bad_pattern (dots_of identifiers r) ts)) in
    let t = ap (λ x. nat_lt 1 (dots_count (dots_of identifiers r) ts) || x) (or_none (some_two_dots (dots_of identifiers r) ts)) in
    let v = append-nil (variables_among (role_of identifiers r) ts depth) in
    λ k. record { misplaced = m k; two = t k; variables = v k }

-- a list: its marks, its parts, and then its tail
pub list_found : (work : Work) (f g h i : Found) (r : Rules Identifier) (ts : Trees Identifier) (tail : Tail Identifier) (depth : ℕ) (v : Bool) → v ≡ (f.misplaced || starts_dots (dots_of identifiers r) ts) →
    g.misplaced ≡ (v || ends_dots (dots_of identifiers r) tail) → g.two ≡ (f.two || nat_lt 1 (dots_count (dots_of identifiers r) ts)) → g.variables.items ≡ f.variables.items →
    Finds work g h (of_parts r ts depth) → Finds work h i (of_end r tail depth) → Finds work f i (of_list r ts tail depth)
list_found work f g h i r ts tail depth v a b t e p q =
    let starts = starts_dots (dots_of identifiers r) ts in
    let ends = ends_dots (dots_of identifiers r) tail in
    let first : Finds work f g (marks r ts tail) = record {
      misplaced = b ∙ ap (λ x. x || ends) a ∙ or_assoc f.misplaced starts ends;
      two = t;
      more = [];
      variables = e ∙ sym (append-nil f.variables.items);
      found = tt;
    } in
    subst (Finds work f i) (list_whole r ts tail depth)
    (finds_both work f g i (marks r ts tail) (added (of_parts r ts depth) (of_end r tail depth)) first (finds_both work g h i (of_parts r ts depth) (of_end r tail depth) p q))

-- what was found where nothing had been
pub contains_found : (work : Work) (f g : Found) (c : Content) → f.misplaced ≡ false → f.two ≡ false → f.variables.items ≡ [] → Finds work f g c → Contains work g c
contains_found work f g c m t e p =
    record {
      misplaced = p.misplaced ∙ ap (λ x. x || c.misplaced) m;
      two = p.two ∙ ap (λ x. x || c.two) t;
      are = subst (λ (xs : List code.Variable). AreVariables work xs c.variables) (sym (p.variables ∙ ap (λ xs. xs ++ p.more) e)) p.found;
    }

-- ---- tails by number

-- the tree of a tail
pub end_tree : (work : Work) (end : Option number.Tree) (n : number.Tree) (tail : Tail Identifier) → end ≡ Some n → EndStands work end tail → (t : Tree Identifier) × (tail ≡ dotted t) × StandsFor work n t
end_tree work None n tail e h = absurd cc
end_tree work (Some m) n proper e h = absurd h
end_tree work (Some m) n (dotted t) e h = (t, refl, subst (λ (x : number.Tree). StandsFor work x t) (same_Some m n e) h.1)

pub end_part : (work : Work) (end : Option number.Tree) (n : number.Tree) (d : ℕ) → end ≡ Some n → EndWithin work end d → StandsWithin work n d
end_part work end n d e h =
    let t = end_tree work end n h.0 e h.1 in
    let below : tail_depth (dotted t.0) ≤ d = subst (λ (x : Tail Identifier). tail_depth x ≤ d) t.1 h.2 in
    (t.0, t.2, below)
