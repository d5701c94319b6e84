-- What is seen of templates, part by part.
use Rattle.std.proofs.Common.{◌≡◌, ℕ, zero, suc, ◌+◌, ◌-◌, ◌^◌, ◌<◌, ◌≤◌, Bool, true, false, ◌||◌, ◌&&◌, not, refl, sym, ap, ◌∙◌, subst, arith, add-one}
use Rattle.std.specs.Prelude.{nat_lt, nat_le, max, is_some, Option, Some, None, Result, Ok, Err, if◌then◌else◌}
use Rattle.std.proofs.lemmas.Bool.Decides.{nat_tests}
use Rattle.scheme_model.specs.declared.Occ.{Occ}
use Rattle.scheme_model.specs.Trees.{Tree, name, atom, list, vector, Trees, no_trees, tree, Tail, proper, dotted}
use Rattle.scheme_model.specs.ExpansionFaults.{named, Fault, EllipsisDepth, ◌>>◌}
use Rattle.scheme_model.specs.RulesShape.{nowhere, is_dots, starts_dots, ends_dots, leading, escape_of, unless_escape, deep_in, some_bad_template, bad_template_tail, is_idle, some_idle, idle_tail, deepest, deepest_among, deepest_tail, greater, deep_enough, all_deep, deep_tail, most, too_shallow}
use Rattle.scheme_model.specs.Ident.{Ident as Identifier}
use Rattle.syntax_tree.specs.declared.trees.Work.{Work}
use Rattle.rules_check.specs.declared.template.Seen.{Seen}
use Rattle.rules_check.specs.Templates.{Sight, of_template, of_parts, of_list, IsShallow, Sees, first_of, seen_name}
use Rattle.rules_check.specs.Templates.{CanSee, CanSeeEnd}
use Rattle.rules_check.proofs.Contents.{or_none, end_tree}
use Rattle.scheme_model.specs.TreeParts.{count}
use Rattle.scheme_model.specs.Matching.{behind}
use Rattle.scheme_model.specs.Measures.{tree_size, trees_size, tail_size, tail_depth}
use Rattle.syntax_tree.specs.Placed.{IsNamed}
use Rattle.syntax_tree.specs.declared.trees.nodes.Tree as number
use Rattle.syntax_tree.specs.declared.rules.Named as code_name

-- ---- truth values and numbers

or_swap : (a b : Bool) → (a || b) ≡ (b || a)
or_swap true true = refl
or_swap true false = refl
or_swap false true = refl
or_swap false false = refl

and_assoc : (a b c : Bool) → ((a && b) && c) ≡ (a && (b && c))
and_assoc true b c = refl
and_assoc false b c = refl

-- what the code finds of `m && a`
pub and_true : (m a v : Bool) → m ≡ true → v ≡ a → v ≡ (m && a)
and_true m a v e h = h ∙ sym (ap (λ x. x && a) e)

pub and_false : (m a v : Bool) → m ≡ false → v ≡ false → v ≡ (m && a)
and_false m a v e h = h ∙ sym (ap (λ x. x && a) e)

pub or_parts : (a b : Bool) → (a || b) ≡ false → (a ≡ false) × (b ≡ false)
or_parts true b h = absurd cc
or_parts false b h = (refl, h)

-- a list that is marked by its start or its end
pub marked : (s e rest : Bool) → (s || e) ≡ true → true ≡ (s || (e || rest))
marked true e rest h = refl
marked false true rest h = refl
marked false false rest h = absurd cc

pub unmarked : (s e rest m : Bool) → s ≡ false → e ≡ false → m ≡ rest → m ≡ (s || (e || rest))
unmarked s e rest m a b h = h ∙ sym (λ k. a k || (b k || rest))

pub greater_max : (m n : ℕ) → max m n ≡ greater m n
greater_max m n = grind (arith, nat_tests)

pub greater_none : (n : ℕ) → greater n 0 ≡ n
greater_none n = grind (arith, nat_tests)

-- ---- nothing is an ellipsis in an escape

pub no_dots : (t : Tree Identifier) → is_dots nowhere t ≡ false
no_dots (name i o) = refl
no_dots (atom a o) = refl
no_dots (list ts tail o) = refl
no_dots (vector ts o) = refl

pub no_start : (ts : Trees Identifier) → starts_dots nowhere ts ≡ false
no_start no_trees = refl
no_start (tree t ts) = no_dots t

pub no_end : (tail : Tail Identifier) → ends_dots nowhere tail ≡ false
no_end proper = refl
no_end (dotted t) = no_dots t

pub no_escape : (ts : Trees Identifier) (tail : Tail Identifier) → escape_of nowhere ts tail ≡ None
no_escape no_trees tail = refl
no_escape (tree t no_trees) tail = refl
no_escape (tree t (tree u no_trees)) proper = ap (λ b. if b then Some u else None) (no_dots t)
no_escape (tree t (tree u no_trees)) (dotted v) = refl
no_escape (tree t (tree u (tree v vs))) tail = refl

-- an escape has no tail
pub escape_proper : (dots : Identifier → Bool) (ts : Trees Identifier) (tail : Tail Identifier) → is_some (escape_of dots ts tail) ≡ true → tail ≡ proper
escape_proper dots no_trees tail h = absurd cc
escape_proper dots (tree t no_trees) tail h = absurd cc
escape_proper dots (tree t (tree u no_trees)) proper h = refl
escape_proper dots (tree t (tree u no_trees)) (dotted v) h = absurd cc
escape_proper dots (tree t (tree u (tree v vs))) tail h = absurd cc

-- ---- the first that is too shallow

pub first_shallow : (work : Work) (a b : Option code_name.Named) (x y : Result (Unit {0}) (Fault Identifier)) → IsShallow work a x → IsShallow work b y → IsShallow work (first_of a b) (x >> λ done. y)
first_shallow work None b (Ok u) y h g = g
first_shallow work None b (Err e) y h g = absurd h
first_shallow work (Some n) b (Ok u) y h g = absurd h
first_shallow work (Some n) b (Err e) y h g = h

then_done : (x : Result (Unit {0}) (Fault Identifier)) → (x >> λ done. Ok tt) ≡ x
then_done (Ok tt) = refl
then_done (Err e) = refl

-- ---- one identifier

seen_shallow : (work : Work) (n : code_name.Named) (i : Identifier) (o : Option Occ) (level : ℕ) (d : Option ℕ) → IsNamed work.symbols n (named i o) → IsShallow work (seen_name n d level).shallow (too_shallow d i o level)
seen_shallow work n i o level None h = tt
seen_shallow work n i o level (Some d) h = by_test (nat_le d level)
  where
    by_test : (b : Bool) → IsShallow work (if b then None else Some n) (if b then Ok tt else Err (EllipsisDepth (named i o)))
    by_test true = tt
    by_test false = (named i o, refl, h)

seen_placed : (n : code_name.Named) (level : ℕ) (d : Option ℕ) → (seen_name n d level).misplaced ≡ false
seen_placed n level None = refl
seen_placed n level (Some d) = refl

seen_driven : (n : code_name.Named) (level : ℕ) (d : Option ℕ) → (seen_name n d level).idle ≡ false
seen_driven n level None = refl
seen_driven n level (Some d) = refl

seen_most : (n : code_name.Named) (level : ℕ) (d : Option ℕ) → (seen_name n d level).deepest ≡ most d
seen_most n level None = refl
seen_most n level (Some d) = refl

pub sees_name : (work : Work) (dots : Identifier → Bool) (depth : Identifier → Option ℕ) (n : code_name.Named) (i : Identifier) (o : Option Occ) (level : ℕ) (d : Option ℕ) (s : Seen) → IsNamed work.symbols n (named i o) → d ≡ depth i →
    s ≡ seen_name n d level → Sees work s (of_template dots depth (name i o) level)
sees_name work dots depth n i o level d s is e same =
    subst (λ (x : Seen). Sees work x (of_template dots depth (name i o) level)) (sym same)
    (record {
      misplaced = seen_placed n level d;
      idle = seen_driven n level d;
      deepest = seen_most n level d ∙ ap most e;
      shallow = subst (λ (x : Option ℕ). IsShallow work (seen_name n d level).shallow (too_shallow x i o level)) e (seen_shallow work n i o level d is);
    })

-- ---- one after another

-- nothing of note
abbrev pub unseen : Seen
unseen = record { misplaced = false; idle = false; deepest = 0; shallow = None }

-- what two sights are together
pub record Joins (first rest both : Seen) : Type 0 where
  pub misplaced : both.misplaced ≡ (first.misplaced || rest.misplaced)
  pub idle : both.idle ≡ (first.idle || rest.idle)
  pub deepest : both.deepest ≡ max first.deepest rest.deepest
  pub shallow : both.shallow ≡ first_of first.shallow rest.shallow

-- parts of which nothing is left
pub sees_none : (work : Work) (dots : Identifier → Bool) (depth : Identifier → Option ℕ) (level : ℕ) (s : Seen) → s.misplaced ≡ false → s.idle ≡ false → s.deepest ≡ 0 → s.shallow ≡ None →
    Sees work s (of_parts dots depth no_trees level)
sees_none work dots depth level s m i d h = record { misplaced = m; idle = i; deepest = d; shallow = subst (λ (x : Option code_name.Named). IsShallow work x (Ok tt)) (sym h) tt }

-- one more part, before those behind it
pub sees_more : (work : Work) (dots : Identifier → Bool) (depth : Identifier → Option ℕ) (t : Tree Identifier) (ts : Trees Identifier) (level n : ℕ) (first rest both : Seen) (here : Bool) →
    n ≡ leading dots ts → Sees work first (of_template dots depth t (level + n)) → Sees work rest (of_parts dots depth ts level) →
    both.misplaced ≡ (first.misplaced || rest.misplaced) → both.idle ≡ ((first.idle || rest.idle) || here) → both.deepest ≡ max first.deepest rest.deepest → both.shallow ≡ first_of first.shallow rest.shallow →
    here ≡ ((not (is_dots dots t) && nat_lt 0 n) && nat_lt first.deepest (level + n)) → Sees work both (of_parts dots depth (tree t ts) level)
sees_more work dots depth t ts level n first rest both here e p q m i d s h =
    let same : (level + n) ≡ (level + leading dots ts) = ap (λ x. level + x) e in
    let now : here ≡ (not (is_dots dots t) && (nat_lt 0 (leading dots ts) && nat_lt (deepest depth t) (level + leading dots ts))) =
    h ∙ and_assoc (not (is_dots dots t)) (nat_lt 0 n) (nat_lt first.deepest (level + n)) ∙ (λ k. not (is_dots dots t) && (nat_lt 0 (e k) && nat_lt (p.deepest k) (same k))) in
    record {
      misplaced = m ∙ (λ k. p.misplaced k || q.misplaced k);
      idle = i ∙ or_swap (first.idle || rest.idle) here ∙ (λ k. now k || ((p.idle ∙ ap (is_idle dots depth t) same) k || q.idle k));
      deepest = d ∙ greater_max first.deepest rest.deepest ∙ (λ k. greater (p.deepest k) (q.deepest k));
      shallow =
          subst (λ (x : Option code_name.Named). IsShallow work x (deep_enough dots depth t (level + leading dots ts) >> λ done. all_deep dots depth ts level)) (sym s)
          (first_shallow work first.shallow rest.shallow (deep_enough dots depth t (level + leading dots ts)) (all_deep dots depth ts level)
          (subst (λ x. IsShallow work first.shallow (deep_enough dots depth t x)) same p.shallow) q.shallow);
    }

-- ---- tails

abbrev pub of_end : (Identifier → Bool) → (Identifier → Option ℕ) → Tail Identifier → ℕ → Sight
of_end dots depth tail level = record { misplaced = bad_template_tail dots tail; idle = idle_tail dots depth tail level; deepest = deepest_tail depth tail; deep = deep_tail dots depth tail level }

pub end_none : (work : Work) (dots : Identifier → Bool) (depth : Identifier → Option ℕ) (level : ℕ) (s : Seen) → s.misplaced ≡ false → s.idle ≡ false → s.deepest ≡ 0 → s.shallow ≡ None →
    Sees work s (of_end dots depth proper level)
end_none work dots depth level s m i d h = record { misplaced = m; idle = i; deepest = d; shallow = subst (λ (x : Option code_name.Named). IsShallow work x (Ok tt)) (sym h) tt }

-- the parts and the tail of a list
pub sees_list : (work : Work) (dots : Identifier → Bool) (depth : Identifier → Option ℕ) (ts : Trees Identifier) (tail : Tail Identifier) (level : ℕ) (first last both : Seen) →
    Sees work first (of_parts dots depth ts level) → Sees work last (of_end dots depth tail level) →
    both.misplaced ≡ (starts_dots dots ts || (ends_dots dots tail || (first.misplaced || last.misplaced))) → both.idle ≡ (first.idle || last.idle) → both.deepest ≡ max first.deepest last.deepest →
    both.shallow ≡ first_of first.shallow last.shallow → Sees work both (of_list dots depth ts tail level)
sees_list work dots depth ts tail level first last both p q m i d s =
    record {
      misplaced = m ∙ (λ k. starts_dots dots ts || (ends_dots dots tail || (p.misplaced k || q.misplaced k)));
      idle = i ∙ (λ k. p.idle k || q.idle k);
      deepest = d ∙ greater_max first.deepest last.deepest ∙ (λ k. greater (p.deepest k) (q.deepest k));
      shallow =
          subst (λ (x : Option code_name.Named). IsShallow work x (all_deep dots depth ts level >> λ done. deep_tail dots depth tail level)) (sym s)
          (first_shallow work first.shallow last.shallow (all_deep dots depth ts level) (deep_tail dots depth tail level) p.shallow q.shallow);
    }

-- ---- lists and vectors as templates

same_sight : (work : Work) (s : Seen) (a b : Sight) → a ≡ b → Sees work s a → Sees work s b
same_sight work s a b e h = subst (Sees work s) e h

pub sees_vector : (work : Work) (dots : Identifier → Bool) (depth : Identifier → Option ℕ) (ts : Trees Identifier) (o : Option Occ) (level : ℕ) (s : Seen) → Sees work s (of_list dots depth ts proper level) →
    Sees work s (of_template dots depth (vector ts o) level)
sees_vector work dots depth ts o level s h =
    let m = ap (λ x. starts_dots dots ts || x) (or_none (some_bad_template dots ts)) in
    let i = or_none (some_idle dots depth ts level) in
    let d = greater_none (deepest_among depth ts) in
    let e = then_done (all_deep dots depth ts level) in
    same_sight work s (of_list dots depth ts proper level) (of_template dots depth (vector ts o) level) (λ k. record { misplaced = m k; idle = i k; deepest = d k; deep = e k }) h

pub sees_plain : (work : Work) (dots : Identifier → Bool) (depth : Identifier → Option ℕ) (ts : Trees Identifier) (tail : Tail Identifier) (o : Option Occ) (level : ℕ) (s : Seen) → escape_of dots ts tail ≡ None →
    Sees work s (of_list dots depth ts tail level) → Sees work s (of_template dots depth (list ts tail o) level)
sees_plain work dots depth ts tail o level s e h =
    let bad = starts_dots dots ts || (ends_dots dots tail || (some_bad_template dots ts || bad_template_tail dots tail)) in
    let idle = some_idle dots depth ts level || idle_tail dots depth tail level in
    let deep : Result (Unit {0}) (Fault Identifier) = all_deep dots depth ts level >> λ done. deep_tail dots depth tail level in
    let back = sym e in
    same_sight work s (of_list dots depth ts tail level) (of_template dots depth (list ts tail o) level)
    (λ k. record { misplaced = unless_escape (back k) bad; idle = unless_escape (back k) idle; deepest = greater (deepest_among depth ts) (deepest_tail depth tail); deep = deep_in (back k) (all_deep nowhere depth ts level) deep })
    h

some_is : {A : Type 0} (o : Option A) → is_some o ≡ true → (x : A) × (o ≡ Some x)
some_is None h = absurd cc
some_is (Some x) h = (x, refl)

pub sees_escape : (work : Work) (dots : Identifier → Bool) (depth : Identifier → Option ℕ) (ts : Trees Identifier) (tail : Tail Identifier) (o : Option Occ) (level : ℕ) (s both : Seen) →
    is_some (escape_of dots ts tail) ≡ true → Sees work s (of_list nowhere depth ts tail level) → both.misplaced ≡ false → both.idle ≡ false → both.deepest ≡ s.deepest → both.shallow ≡ s.shallow →
    Sees work both (of_template dots depth (list ts tail o) level)
sees_escape work dots depth ts tail o level s both h p m i d e =
    let t = some_is (escape_of dots ts tail) h in
    let whole = escape_proper dots ts tail h in
    let deep : (all_deep nowhere depth ts level >> λ done. deep_tail nowhere depth tail level) ≡ all_deep nowhere depth ts level =
    ap (λ (x : Tail Identifier). all_deep nowhere depth ts level >> λ done. deep_tail nowhere depth x level) whole ∙ then_done (all_deep nowhere depth ts level) in
    let bad = starts_dots dots ts || (ends_dots dots tail || (some_bad_template dots ts || bad_template_tail dots tail)) in
    let idle = some_idle dots depth ts level || idle_tail dots depth tail level in
    let other : Result (Unit {0}) (Fault Identifier) = all_deep dots depth ts level >> λ done. deep_tail dots depth tail level in
    let back = sym t.1 in
    subst (Sees work both)
    (λ k. record { misplaced = unless_escape (back k) bad; idle = unless_escape (back k) idle; deepest = greater (deepest_among depth ts) (deepest_tail depth tail); deep = deep_in (back k) (all_deep nowhere depth ts level) other })
    (record {
      misplaced = m;
      idle = i;
      deepest = d ∙ p.deepest;
      shallow = subst (λ x. IsShallow work both.shallow x) deep (subst (λ (x : Option code_name.Named). IsShallow work x (all_deep nowhere depth ts level >> λ done. deep_tail nowhere depth tail level)) (sym e) p.shallow);
    })

-- ---- ellipses in a row

pub leading_dots : (dots : Identifier → Bool) (t : Tree Identifier) (us : Trees Identifier) (n : ℕ) → is_dots dots t ≡ true → n ≡ leading dots us → n + 1 ≡ leading dots (tree t us)
leading_dots dots t us n e h = add-one n ∙ ap suc h ∙ sym (ap (λ (b : Bool). if b then suc (leading dots us) else 0) e)

pub leading_none : (dots : Identifier → Bool) (t : Tree Identifier) (us : Trees Identifier) → is_dots dots t ≡ false → 0 ≡ leading dots (tree t us)
leading_none dots t us e = sym (ap (λ (b : Bool). if b then suc (leading dots us) else 0) e)

-- ---- sizes, which bound how many ellipses there are

size_positive : (t : Tree Identifier) → 1 ≤ tree_size t
size_positive (name i o) = omega arith
size_positive (atom a o) = omega arith
size_positive (list ts tail o) = omega arith
size_positive (vector ts o) = omega arith

pub count_size : (ts : Trees Identifier) → count ts ≤ trees_size ts
count_size no_trees = omega arith
count_size (tree t ts) = omega (arith, size_positive t, count_size ts)

behind_size : (k : ℕ) (ts : Trees Identifier) → trees_size (behind k ts) ≤ trees_size ts
behind_size zero ts = omega arith
behind_size (suc k) no_trees = omega arith
behind_size (suc k) (tree t ts) = omega (arith, behind_size k ts)

pub size_there : (k : ℕ) (ts : Trees Identifier) (t : Tree Identifier) (us : Trees Identifier) → behind k ts ≡ tree t us → tree_size t + count us ≤ trees_size ts
size_there k ts t us e =
    let b : trees_size (tree t us) ≤ trees_size ts = subst (λ (x : Trees Identifier). trees_size x ≤ trees_size ts) e (behind_size k ts) in
    omega (arith, count_size us)

pub count_behind : (k : ℕ) (ts : Trees Identifier) → count (behind k ts) ≡ count ts - k
count_behind zero ts = omega arith
count_behind (suc k) no_trees = omega arith
count_behind (suc k) (tree t ts) = omega (arith, count_behind k ts)

pub back_one : (k : ℕ) → 0 < k → suc (k - 1) ≡ k
back_one k h = omega arith

-- a tail that can be seen
pub see_end : (work : Work) (end : Option number.Tree) (n : number.Tree) (level left : ℕ) → end ≡ Some n → CanSeeEnd work end level left → CanSee work n level left
see_end work end n level left e h =
    let t = end_tree work end n h.0 e h.1 in
    let deep : tail_depth (dotted t.0) ≤ left = subst (λ (x : Tail Identifier). tail_depth x ≤ left) t.1 h.2 in
    let small : level + tail_size (dotted t.0) < 2 ^ 32 = subst (λ (x : Tail Identifier). level + tail_size x < 2 ^ 32) t.1 h.3 in
    (t.0, t.2, deep, small)
