-- Sizes and depths of drafts, part by part.
use Rattle.std.proofs.Common.{◌≡◌, ℕ, ◌+◌, ◌-◌, ◌<◌, ◌≤◌, Bool, true, false, Option, refl, sym, ap, ◌∙◌, arith}
use Rattle.std.specs.Prelude.{nat_le, max}
use Rattle.std.proofs.lemmas.Bool.Decides.{nat_tests}
use Rattle.scheme_model.specs.Identifiers.{Number}
use Rattle.scheme_model.specs.declared.Occ.{Occ}
use Rattle.scheme_model.specs.Trees.{Tree, list, Trees, no_trees, tree, Tail}
use Rattle.scheme_model.specs.Matching.{behind}
use Rattle.scheme_model.specs.Measures.{tree_size, trees_size, tail_size, tree_depth, trees_depth, tail_depth}
use Rattle.scheme_model.specs.Ident.{Ident as Identifier}
use Rattle.syntax_tree.specs.declared.trees.Work.{Work}
use Rattle.syntax_tree.specs.declared.trees.table.Region.{Region}
use Rattle.syntax_tree.specs.declared.trees.nodes.Tree as number
use Rattle.rules_build.specs.Drafts.{spent, Draft, listed, in_vector, Drafts, no_drafts, draft, Ending, ends, ending_parts, tree_of, row_of, tail_of, IsRestOf}
use Rattle.rules_build.proofs.DraftLaws.{spent_on, spent_nothing}
use Rattle.rules_build.proofs.DraftRows.{drafts_behind, row_size, row_depth}

module _ (k : Number) where
  -- how many nodes what comes behind the parts has
  abbrev pub ending_size : Ending → ℕ
  ending_size e = trees_size (ending_parts e) + tail_size (tail_of k e)

  abbrev pub ending_depth : Ending → ℕ
  ending_depth e = max (trees_depth (ending_parts e)) (tail_depth (tail_of k e))

  pub listed_size : (r : Option ℕ) (ds : Drafts) (e : Ending) → spent (spent (spent r 1) (trees_size (row_of k ds no_trees))) (ending_size e) ≡ spent r (tree_size (tree_of k (listed ds e)))
  listed_size r ds e =
      let s = row_size k ds (ending_parts e) in
      let total : (1 + trees_size (row_of k ds no_trees)) + ending_size e ≡ tree_size (tree_of k (listed ds e)) = omega (arith, s) in
      ap (λ (x : Option ℕ). spent x (ending_size e)) (spent_on r 1 (trees_size (row_of k ds no_trees))) ∙ spent_on r (1 + trees_size (row_of k ds no_trees)) (ending_size e) ∙ ap (spent r) total

  pub listed_ends : (r : Option ℕ) (ds : Drafts) → spent (spent r 1) (trees_size (row_of k ds no_trees)) ≡ spent r (tree_size (tree_of k (listed ds ends)))
  listed_ends r ds = spent_nothing (spent (spent r 1) (trees_size (row_of k ds no_trees))) ∙ listed_size r ds ends

  pub vector_size : (r : Option ℕ) (ds : Drafts) → spent (spent r 1) (trees_size (row_of k ds no_trees)) ≡ spent r (tree_size (tree_of k (in_vector ds)))
  vector_size r ds = spent_on r 1 (trees_size (row_of k ds no_trees))

  -- one draft more
  pub sizes_more : (r s : Option ℕ) (ds : Drafts) (j : ℕ) (d : Draft) → drafts_behind j ds ≡ draft d (drafts_behind (j + 1) ds) → s ≡ spent r (tree_size (tree_of k d)) →
      spent s (trees_size (row_of k (drafts_behind (j + 1) ds) no_trees)) ≡ spent r (trees_size (row_of k (drafts_behind j ds) no_trees))
  sizes_more r s ds j d e h =
      let rest = trees_size (row_of k (drafts_behind (j + 1) ds) no_trees) in
      ap (λ (x : Option ℕ). spent x rest) h ∙ spent_on r (tree_size (tree_of k d)) rest ∙ sym (ap (λ (x : Drafts). spent r (trees_size (row_of k x no_trees))) e)

  pub sizes_all : (r : Option ℕ) (ds : Drafts) (j : ℕ) → drafts_behind j ds ≡ no_drafts → r ≡ spent r (trees_size (row_of k (drafts_behind j ds) no_trees))
  sizes_all r ds j e = spent_nothing r ∙ sym (ap (λ (x : Drafts). spent r (trees_size (row_of k x no_trees))) e)

-- a depth is within a bound where those of its two sides are
pub max_within : (a b n : ℕ) (p q : Bool) → p ≡ nat_le a n → q ≡ nat_le b n → p ≡ true → q ≡ nat_le (max a b) n
max_within a b n p true e f h =
    let x : a ≤ n = grind (arith, nat_tests) in
    let y : b ≤ n = grind (arith, nat_tests) in
    let z : max a b ≤ n = omega arith in
    grind (arith, nat_tests)
max_within a b n p false e f h =
    let y : n < b = grind (arith, nat_tests) in
    let z : n < max a b = omega arith in
    grind (arith, nat_tests)

pub max_without : (a b n : ℕ) → nat_le a n ≡ false → false ≡ nat_le (max a b) n
max_without a b n h =
    let x : n < a = grind (arith, nat_tests) in
    let z : n < max a b = omega arith in
    grind (arith, nat_tests)

-- a node more
pub one_deeper : (a n : ℕ) → 1 ≤ n → nat_le a (n - 1) ≡ nat_le (1 + a) n
one_deeper a n l = by (nat_le a (n - 1)) refl
  where
    by : (p : Bool) → nat_le a (n - 1) ≡ p → nat_le a (n - 1) ≡ nat_le (1 + a) n
    by true e =
        let x : a ≤ n - 1 = grind (arith, nat_tests) in
        let y : 1 + a ≤ n = omega arith in
        let z : nat_le (1 + a) n ≡ true = grind (arith, nat_tests) in
        e ∙ sym z
    by false e =
        let x : n - 1 < a = grind (arith, nat_tests) in
        let y : n < 1 + a = omega arith in
        let z : nat_le (1 + a) n ≡ false = grind (arith, nat_tests) in
        e ∙ sym z

pub none_deep : (a n : ℕ) → n ≡ 0 → false ≡ nat_le (1 + a) n
none_deep a n e =
    let y : n < 1 + a = omega arith in
    grind (arith, nat_tests)

-- ---- the rest of a list

pub rest_parts : (work : Work) (region : Region) (n : number.Tree) (from : ℕ) (us : Trees Identifier) (tail : Tail Identifier) (h : IsRestOf work region n from us tail) (ts : Trees Identifier) (last : Tail Identifier) (o : Option Occ) → list h.parts tail h.place ≡ list ts last o →
    (us ≡ behind from ts) × (tail ≡ last)
rest_parts work region n from us tail h ts last o e =
    let p : h.parts ≡ ts = cc in
    let q : tail ≡ last = cc in
    (h.rest ∙ ap (behind from) p, q)

pub take_one : (r s : Option ℕ) (n : ℕ) (ts us : Trees Identifier) (t : Tree Identifier) (more : ℕ) → ts ≡ tree t us → n ≡ tree_size t → s ≡ spent r n → spent r (trees_size ts + more) ≡ spent s (trees_size us + more)
take_one r s n ts us t more e f g =
    let total : trees_size ts + more ≡ n + (trees_size us + more) = let a = ap (λ (x : Trees Identifier). trees_size x) e in omega (arith, a, f) in
    ap (spent r) total ∙ sym (spent_on r n (trees_size us + more)) ∙ ap (λ (x : Option ℕ). spent x (trees_size us + more)) (sym g)

-- ---- depths of a row, part by part

deep_by : (a b c n : ℕ) (p : Bool) → a ≤ n → nat_le (max b c) n ≡ p → nat_le (max (max a b) c) n ≡ nat_le (max b c) n
deep_by a b c n true l e =
    let x : max b c ≤ n = grind (arith, nat_tests) in
    let y : max (max a b) c ≤ n = omega arith in
    let z : nat_le (max (max a b) c) n ≡ true = grind (arith, nat_tests) in
    z ∙ sym e
deep_by a b c n false l e =
    let x : n < max b c = grind (arith, nat_tests) in
    let y : n < max (max a b) c = omega arith in
    let z : nat_le (max (max a b) c) n ≡ false = grind (arith, nat_tests) in
    z ∙ sym e

pub fit_one : (n d : ℕ) (ts us : Trees Identifier) (t : Tree Identifier) (more : ℕ) → ts ≡ tree t us → d ≡ tree_depth t → d ≤ n → nat_le (max (trees_depth ts) more) n ≡ nat_le (max (trees_depth us) more) n
fit_one n d ts us t more e f l =
    ap (λ (x : Trees Identifier). nat_le (max (trees_depth x) more) n) e ∙ deep_by (tree_depth t) (trees_depth us) more n (nat_le (max (trees_depth us) more) n) (omega (arith, f, l)) refl

pub too_deep : (n d : ℕ) (ts us : Trees Identifier) (t : Tree Identifier) (more : ℕ) → ts ≡ tree t us → d ≡ tree_depth t → n < d → false ≡ nat_le (max (trees_depth ts) more) n
too_deep n d ts us t more e f l =
    let a : trees_depth ts ≡ max (tree_depth t) (trees_depth us) = ap (λ (x : Trees Identifier). trees_depth x) e in
    let y : n < max (trees_depth ts) more = omega (arith, a, f, l) in
    let z : nat_le (max (trees_depth ts) more) n ≡ false = grind (arith, nat_tests) in
    sym z

-- no part is left
pub fit_end : (n : ℕ) (ts : Trees Identifier) (tail : Tail Identifier) → ts ≡ no_trees → nat_le (max (trees_depth ts) (tail_depth tail)) n ≡ nat_le (tail_depth tail) n
fit_end n ts tail e =
    let s : max 0 (tail_depth tail) ≡ tail_depth tail = omega arith in
    ap (λ (x : Trees Identifier). nat_le (max (trees_depth x) (tail_depth tail)) n) e ∙ ap (λ (x : ℕ). nat_le x n) s

pub nothing_deep : (n : ℕ) → true ≡ nat_le 0 n
nothing_deep n = grind (arith, nat_tests)

-- ---- depths of lists

module _ (k : Number) (n : ℕ) (ds : Drafts) (e : Ending) (l : 1 ≤ n) where
  pub list_deep : nat_le (trees_depth (row_of k ds no_trees)) (n - 1) ≡ false → false ≡ nat_le (tree_depth (tree_of k (listed ds e))) n
  list_deep h =
      let s = row_depth k ds (ending_parts e) in
      let x : n - 1 < trees_depth (row_of k ds no_trees) = grind (arith, nat_tests) in
      let y : n < tree_depth (tree_of k (listed ds e)) = omega (arith, s, x, l) in
      let z : nat_le (tree_depth (tree_of k (listed ds e))) n ≡ false = grind (arith, nat_tests) in
      sym z

  pub list_fits : nat_le (trees_depth (row_of k ds no_trees)) (n - 1) ≡ true → nat_le (ending_depth k e) (n - 1) ≡ nat_le (tree_depth (tree_of k (listed ds e))) n
  list_fits h = by (nat_le (ending_depth k e) (n - 1)) refl
    where
      fit : trees_depth (row_of k ds no_trees) ≤ n - 1
      fit = grind (arith, nat_tests)

      by : (p : Bool) → nat_le (ending_depth k e) (n - 1) ≡ p → nat_le (ending_depth k e) (n - 1) ≡ nat_le (tree_depth (tree_of k (listed ds e))) n
      by true g =
          let s = row_depth k ds (ending_parts e) in
          let f = fit in
          let x : ending_depth k e ≤ n - 1 = grind (arith, nat_tests) in
          let y : tree_depth (tree_of k (listed ds e)) ≤ n = omega (arith, s, x, f, l) in
          let z : nat_le (tree_depth (tree_of k (listed ds e))) n ≡ true = grind (arith, nat_tests) in
          g ∙ sym z
      by false g =
          let s = row_depth k ds (ending_parts e) in
          let x : n - 1 < ending_depth k e = grind (arith, nat_tests) in
          let y : n < tree_depth (tree_of k (listed ds e)) = omega (arith, s, x, l) in
          let z : nat_le (tree_depth (tree_of k (listed ds e))) n ≡ false = grind (arith, nat_tests) in
          g ∙ sym z
