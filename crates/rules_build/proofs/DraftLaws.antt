-- Drafts in a row, what is left when nodes are counted, and plans that are put together.
use Rattle.std.proofs.Common.{◌≡◌, ℕ, ◌+◌, ◌-◌, ◌<◌, ◌≤◌, List, [], ◌∷◌, ◌++◌, Bool, true, false, Option, Some, None, refl, sym, ap, ◌∙◌, subst, arith, append_assoc}
use Rattle.std.specs.Prelude.{nat_le, if◌then◌else◌, is_some, IsSome, Vec}
use Rattle.std.specs.declared.alloc.Global.{Global}
use Rattle.std.proofs.lemmas.Bool.Decides.{nat_tests}
use Rattle.std.proofs.lemmas.List.{append-nil}
use Rattle.scheme_model.specs.Identifiers.{Number}
use Rattle.scheme_model.specs.Trees.{Tree, list, vector, Trees, no_trees, tree, proper}
use Rattle.scheme_model.specs.TreeParts.{append}
use Rattle.scheme_model.specs.Building.{Built, built, joined, alone, list_built}
use Rattle.scheme_model.specs.Ident.{Ident as Identifier}
use Rattle.syntax_tree.specs.Standing.{is_list}
use Rattle.syntax_tree.specs.declared.trees.Work.{Work}
use Rattle.syntax_tree.specs.declared.trees.table.Region.{Region}
use Rattle.rules_build.specs.declared.plan.Plan.{Plan}
use Rattle.rules_build.specs.declared.plan.Plan.TheVariants as plan
use Rattle.rules_build.specs.declared.plan.End.{End}
use Rattle.rules_build.specs.Drafts.{spent, Draft, held, marked, plain, listed, in_vector, Drafts, no_drafts, draft, ends, ending_parts, tree_of, row_of, tail_of, makes, all_make, is_listed, AreDrafts, IsEnding, IsPlanOf, ArePlansOf, front_of, back_of, IsEndedBy}
use Rattle.rules_build.proofs.BuildLaws.{nothing, list_tailed}

-- ---- what is left

spent_step : (n a b : ℕ) (x y z : Bool) → nat_le a n ≡ x → nat_le b (n - a) ≡ y → nat_le (a + b) n ≡ z → spent (spent (Some n) a) b ≡ spent (Some n) (a + b)
spent_step n a b true true true e f g =
    let r : (n - a) - b ≡ n - (a + b) = omega arith in
    ap (λ (q : Bool). spent (if q then Some (n - a) else None) b) e ∙ ap (λ (q : Bool). if q then Some ((n - a) - b) else None) f ∙ ap Some r
    ∙ sym (ap (λ (q : Bool). if q then Some (n - (a + b)) else None) g)
spent_step n a b true false false e f g =
    ap (λ (q : Bool). spent (if q then Some (n - a) else None) b) e ∙ ap (λ (q : Bool). if q then Some ((n - a) - b) else None) f ∙ sym (ap (λ (q : Bool). if q then Some (n - (a + b)) else None) g)
spent_step n a b false y false e f g =
    ap (λ (q : Bool). spent (if q then Some (n - a) else None) b) e ∙ sym (ap (λ (q : Bool). if q then Some (n - (a + b)) else None) g)
spent_step n a b true true false e f g =
    let p : a ≤ n = grind (arith, nat_tests) in
    let q : b ≤ n - a = grind (arith, nat_tests) in
    let r : n < a + b = grind (arith, nat_tests) in
    absurd (omega arith)
spent_step n a b true false true e f g =
    let q : n - a < b = grind (arith, nat_tests) in
    let r : a + b ≤ n = grind (arith, nat_tests) in
    absurd (omega arith)
spent_step n a b false y true e f g =
    let p : n < a = grind (arith, nat_tests) in
    let r : a + b ≤ n = grind (arith, nat_tests) in
    absurd (omega arith)

pub spent_on : (r : Option ℕ) (a b : ℕ) → spent (spent r a) b ≡ spent r (a + b)
spent_on None a b = refl
spent_on (Some n) a b = spent_step n a b (nat_le a n) (nat_le b (n - a)) (nat_le (a + b) n) refl refl refl

-- where something is left, there was something before
pub some_before : (r : Option ℕ) (n : ℕ) → IsSome (spent r n) → IsSome r
some_before None n h = h
some_before (Some m) n h = refl

pub some_left : (r s : Option ℕ) (n : ℕ) → s ≡ spent r n → IsSome s → IsSome r
some_left r s n e h = some_before r n (subst (λ (x : Option ℕ). IsSome x) e h)

pub spent_none : (r : Option ℕ) (n : ℕ) → r ≡ None → r ≡ spent r n
spent_none r n e = e ∙ sym (ap (λ (x : Option ℕ). spent x n) e)

pub none_is : {A : Type 0} (o : Option A) → is_some o ≡ false → o ≡ None
none_is None h = refl
none_is (Some x) h = absurd cc

-- nothing is spent
pub spent_nothing : (r : Option ℕ) → r ≡ spent r 0
spent_nothing None = refl
spent_nothing (Some n) =
    let e : nat_le 0 n ≡ true = grind (arith, nat_tests) in
    let m : n ≡ n - 0 = omega arith in
    ap Some m ∙ sym (ap (λ (q : Bool). if q then Some (n - 0) else None) e)

-- ---- drafts in a row

abbrev pub add_drafts : Drafts → Drafts → Drafts
add_drafts no_drafts es = es
add_drafts (draft d ds) es = draft d (add_drafts ds es)

pub drafts_both : (work : Work) (region : Region) (ps qs : List Plan) (ds es : Drafts) → AreDrafts work region ps ds → AreDrafts work region qs es → AreDrafts work region (ps ++ qs) (add_drafts ds es)
drafts_both work region [] qs no_drafts es h g = g
drafts_both work region [] qs (draft d ds) es h g = absurd h
drafts_both work region (p ∷ ps) qs no_drafts es h g = absurd h
drafts_both work region (p ∷ ps) qs (draft d ds) es h g = (h.0, drafts_both work region ps qs ds es h.1 g)

module _ (k : Number) where
  pub row_both : (ds es : Drafts) (us : Trees Identifier) → row_of k (add_drafts ds es) us ≡ row_of k ds (row_of k es us)
  row_both no_drafts es us = refl
  row_both (draft d ds) es us = ap (tree (tree_of k d)) (row_both ds es us)

  pub row_before : (ds : Drafts) (us : Trees Identifier) → row_of k ds us ≡ append (row_of k ds no_trees) us
  row_before no_drafts us = refl
  row_before (draft d ds) us = ap (tree (tree_of k d)) (row_before ds us)

pub make_both : (ds es : Drafts) → all_make (add_drafts ds es) ≡ all_make ds + all_make es
make_both no_drafts es = omega arith
make_both (draft d ds) es = let e = make_both ds es in omega arith

-- ---- plans that are put together

module _ (work : Work) (region : Region) (k : Number) where
  pub plans_none : (ps : List Plan) → ArePlansOf work region k ps ps nothing
  plans_none ps = ([], no_drafts, sym (append-nil ps), tt, refl, omega arith)

  pub plans_one : (ps qs : List Plan) (p : Plan) (b : Built (Tree Identifier)) → qs ≡ ps ++ p ∷ [] → IsPlanOf work region k p b → ArePlansOf work region k ps qs (alone b)
  plans_one ps qs p b e h = (p ∷ [], draft h.0 no_drafts, e, (h.1, tt), ap (λ (t : Tree Identifier). tree t no_trees) h.2, omega (arith, h.3))

  pub plans_both : (ps qs rs : List Plan) (a b : Built (Trees Identifier)) → ArePlansOf work region k ps qs a → ArePlansOf work region k qs rs b → ArePlansOf work region k ps rs (joined a b)
  plans_both ps qs rs a b h g = (
    h.0 ++ g.0,
    add_drafts h.1 g.1,
    g.2 ∙ ap (λ xs. xs ++ g.0) h.2 ∙ append_assoc ps h.0 g.0,
    drafts_both work region h.0 g.0 h.1 g.1 h.3 g.3,
    row_both k h.1 g.1 no_trees ∙ row_before k h.1 (row_of k g.1 no_trees) ∙ (λ j. append (h.4 j) (g.4 j)),
    omega (arith, make_both h.1 g.1, h.5, g.5),
  )

  -- from no plans on
  pub plans_all : (qs : List Plan) (b : Built (Trees Identifier)) (none : List Plan) → none ≡ [] → ArePlansOf work region k none qs b → (ds : Drafts) × AreDrafts work region qs ds × (row_of k ds no_trees ≡ b.value) × (all_make ds ≤ b.count)
  plans_all qs b none e h =
      let same : h.0 ≡ qs = ap (λ xs. xs ++ h.0) (sym e) ∙ sym h.2 in
      (h.1, subst (λ (xs : List Plan). AreDrafts work region xs h.1) same h.3, h.4, h.5)

  pub vector_plan : (items : Vec Plan Global) (none : List Plan) (b : Built (Trees Identifier)) → none ≡ [] → ArePlansOf work region k none items.items b → IsPlanOf work region k (plan.Vector items) (built (vector b.value None) (b.count + 1))
  vector_plan items none b e h =
      let p = plans_all items.items b none e h in
      (in_vector p.0, (items, refl, p.1), ap (λ (ts : Trees Identifier). vector ts None) p.2, omega (arith, p.3))

  pub list_plan : (items : Vec Plan Global) (behind : End) (none : List Plan) (b : Built (Trees Identifier)) → none ≡ [] → IsEnding work region behind ends → ArePlansOf work region k none items.items b →
      IsPlanOf work region k (plan.List items behind) (list_built b None)
  list_plan items behind none b e h g =
      let p = plans_all items.items b none e g in
      (listed p.0 ends, (items, behind, refl, p.1, h), ap (λ (ts : Trees Identifier). list ts proper None) p.2, omega (arith, p.3))

  -- a list with a tail, whose parts don't vanish
  pub tailed_plan : (items : Vec Plan Global) (behind : End) (ds : Drafts) (d : Draft) (u : Draft) (us : Drafts) (a : Built (Trees Identifier)) (t : Built (Tree Identifier)) → ds ≡ draft u us → row_of k ds no_trees ≡ a.value → all_make ds ≤ a.count →
      tree_of k d ≡ t.value → makes d ≤ t.count → IsEndedBy work region k ds d items.items behind → IsPlanOf work region k (plan.List items behind) (list_built a (Some t))
  tailed_plan items behind ds d u us a t e row made is more h =
      let some : a.value ≡ tree (tree_of k u) (row_of k us no_trees) = sym row ∙ ap (λ (x : Drafts). row_of k x no_trees) e in
      let whole = list_tailed a.value a.count t (tree_of k u) (row_of k us no_trees) some in
      let shown : list (row_of k h.0 (ending_parts h.1)) (tail_of k h.1) None ≡ list (append a.value (front_of t.value)) (back_of t.value) None =
      λ j. list ((h.4 ∙ (λ i. append (row i) (front_of (is i)))) j) ((h.5 ∙ ap back_of is) j) None in
      subst (IsPlanOf work region k (plan.List items behind)) (sym whole) (listed h.0 h.1, (items, behind, refl, h.2, h.3), shown, omega (arith, h.6, made, more))

-- a draft is a list where its tree is
pub listed_is : (k : Number) (d : Draft) → is_list (tree_of k d) ≡ is_listed d
listed_is k (held t) = refl
listed_is k (marked i o) = refl
listed_is k (plain a) = refl
listed_is k (listed ds e) = refl
listed_is k (in_vector ds) = refl
