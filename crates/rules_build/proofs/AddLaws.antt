-- What adding nodes leaves, one after another.
use Rattle.std.proofs.Common.{◌≡◌, ℕ, zero, suc, ◌+◌, ◌≤◌, List, [], ◌∷◌, ◌++◌, ◌⊎◌, inl, inr, false, Option, Some, None, refl, sym, ap, ◌∙◌, subst, slice_get, drop, length, arith}
use Rattle.std.specs.Prelude.{Result, Ok, Err, IsErrAnd, Vec, if◌then◌else◌, Bool, true}
use Rattle.std.specs.declared.alloc.Global.{Global}
use Rattle.std.specs.Option.{option_map}
use Rattle.std.specs.List.{AllByRecursion, list_any}
use Rattle.std.specs.FinMap as map
use Rattle.std.proofs.lemmas.Option.{same_Some}
use Rattle.ls_base.specs.Limits.{max_tree_nodes, max_tree_depth}
use Rattle.scheme_model.specs.declared.Occ.{Occ}
use Rattle.scheme_model.specs.Identifiers.{Number}
use Rattle.scheme_model.specs.Trees.{Tree, atom, list, Trees, no_trees, tree, Tail}
use Rattle.scheme_model.specs.TreeParts.{append}
use Rattle.scheme_model.specs.Matching.{behind}
use Rattle.scheme_model.specs.Measures.{tree_size, tree_depth}
use Rattle.scheme_model.specs.Ident.{Ident as Identifier, Inserted, same_ident}
use Rattle.syntax_tree.specs.Names.{Names, KeepsNames, with_ident}
use Rattle.syntax_tree.specs.Nodes.{Lived, IsPut}
use Rattle.syntax_tree.specs.Regions.{MayName}
use Rattle.syntax_tree.specs.Kept.{numbers}
use Rattle.syntax_tree.specs.Looks.{PartsStand, EndStands}
use Rattle.syntax_tree.specs.Works.{IsNodeOf, CanName, CanNameParts, KeepsTrees, SameRegions, AddsIn, live_count, lived_in, with_names}
use Rattle.syntax_tree.specs.declared.trees.Work.{Work}
use Rattle.syntax_tree.specs.declared.trees.table.Region.{Region}
use Rattle.syntax_tree.specs.declared.trees.nodes.Tree as number
use Rattle.syntax_tree.specs.declared.trees.nodes.Node.{Node}
use Rattle.syntax_tree.specs.declared.trees.nodes.Node.TheVariants as node
use Rattle.syntax_tree.proofs.NodeLaws.{put_cases}
use Rattle.syntax_tree.proofs.WorkLaws.{names_keep}
use Rattle.syntax_tree.proofs.StandingLaws.{leaf_kept}
use Rattle.syntax_tree.proofs.Looking.{behind_stands}
use Rattle.rules_build.specs.declared.fault.BuildFault.{BuildFault}
use Rattle.rules_build.specs.declared.fault.BuildFault.TheVariants as fault
use Rattle.rules_build.specs.declared.plan.Plan.{Plan}
use Rattle.rules_build.specs.declared.plan.Plan.TheVariants as plan
use Rattle.rules_build.specs.declared.plan.End.{End}
use Rattle.rules_build.specs.Drafts.{Draft, held, marked, plain, listed, in_vector, Drafts, no_drafts, draft, Ending, ends, tailed, goes_on, ending_parts, tree_of, row_of, makes, all_make, IsRestOf, IsDraft, AreDrafts, IsEnding}
use Rattle.rules_build.specs.Adds.{Inserts, Grows, Lacks, Adds, AreNamed, IsNamedEnd, AddsAll, AddsEnd, CanBeAdded, AllCanBeAdded, EndCanBeAdded, CopiesRest}
use Rattle.rules_build.proofs.PlanViews.{vector_draft, list_draft}
use Rattle.rules_build.proofs.BuildLaws.{append_nil, append_more}
use Rattle.rules_build.proofs.DraftRows.{drafts_behind, row_size, row_depth}

-- ---- names

names_itself : (a : Names) → KeepsNames a a
names_itself a = record { symbols = λ n s h. h; idents = λ n i h. h }

names_on : (a b c : Names) → KeepsNames a b → KeepsNames b c → KeepsNames a c
names_on a b c p q = record { symbols = λ n s h. q.symbols n s (p.symbols n s h); idents = λ n i h. q.idents n i (p.idents n i h) }

inserts_none : (a : Names) (k : Number) → Inserts a a k
inserts_none a k = record { keeps = names_itself a; symbols = refl; idents = λ n i h. inl h }

inserts_on : (a b c : Names) (k : Number) → Inserts a b k → Inserts b c k → Inserts a c k
inserts_on a b c k p q = record {
  keeps = names_on a b c p.keeps q.keeps;
  symbols = q.symbols ∙ p.symbols;
  idents = λ n i h. elim (q.idents n i h) [ inl was ↦ p.idents n i was | inr new ↦ inr new ];
}

-- ---- growing

trees_itself : (w : Work) → KeepsTrees w w
trees_itself w = record { trees = λ n t h. h; places = λ n r h. h; regions = λ r h. h; outlives = λ a b h. h }

trees_on : (a b c : Work) → KeepsTrees a b → KeepsTrees b c → KeepsTrees a c
trees_on a b c p q = record {
  trees = λ n t h. q.trees n t (p.trees n t h);
  places = λ n r h. q.places n r (p.places n r h);
  regions = λ r h. q.regions r (p.regions r h);
  outlives = λ x y h. q.outlives x y (p.outlives x y h);
}

clash : {P : Type 0} {A : Type 0} (x : A) → None ≡ Some x → P
clash x h = absurd cc

-- where none lived later, none lived before
free_before : (a b : Work) → KeepsTrees a b → (n : ℕ) → map.get b.trees.nodes n ≡ None → map.get a.trees.nodes n ≡ None
free_before a b keeps n none = before (map.get a.trees.nodes n) refl
  where
    before : (o : Option Lived) → map.get a.trees.nodes n ≡ o → map.get a.trees.nodes n ≡ None
    before None at = at
    before (Some l) at =
        let there = keeps.places (record { number = n }) l.region (ap (option_map (λ (x : Lived). x.region)) at) in
        clash l.region (ap (option_map (λ (x : Lived). x.region)) (sym none) ∙ there)

added_on : (a b c : Work) (region : Region) → KeepsTrees a b → AddsIn a b region → AddsIn b c region → AddsIn a c region
added_on a b c region keeps p q n l at =
    elim (q n l at) [
      | inl was ↦ p n l was
      | inr new ↦ inr (free_before a b keeps n new.0, new.1)
    ]

pub grows_none : (w : Work) (region : Region) (k : Number) (n : ℕ) → Grows w w region k n
grows_none w region k n = record { trees = trees_itself w; names = inserts_none w.symbols k; added = λ n l h. inl h; regions = record { identity = refl; regions = refl }; nodes = omega arith }

pub grows_on : (a b c : Work) (region : Region) (k : Number) (m n most : ℕ) → Grows a b region k m → Grows b c region k n → m + n ≤ most → Grows a c region k most
grows_on a b c region k m n most p q l = record {
  trees = trees_on a b c p.trees q.trees;
  names = inserts_on a.symbols b.symbols c.symbols k p.names q.names;
  added = added_on a b c region p.trees p.added q.added;
  regions = record { identity = q.regions.identity ∙ p.regions.identity; regions = q.regions.regions ∙ p.regions.regions };
  nodes = omega (arith, p.nodes, q.nodes, l);
}

pub grows_more : (a b : Work) (region : Region) (k : Number) (m most : ℕ) → Grows a b region k m → m ≤ most → Grows a b region k most
grows_more a b region k m most p l = record { trees = p.trees; names = p.names; added = p.added; regions = p.regions; nodes = omega (arith, p.nodes, l) }

-- a node was added
pub grows_put : (a b : Work) (region : Region) (k : Number) (x : Node) (n : ℕ) → KeepsTrees a b → SameRegions a b → b.symbols ≡ a.symbols → IsPut a.trees.nodes b.trees.nodes n (lived_in a region x) → live_count b ≡ live_count a + 1 → Grows a b region k 1
grows_put a b region k x n keeps same symbols put more = record {
  trees = keeps;
  names = subst (λ (names : Names). Inserts a.symbols names k) (sym symbols) (inserts_none a.symbols k);
  added = λ m l at.
      elim (put_cases a.trees.nodes b.trees.nodes n (lived_in a region x) put m l at) [
        | inl was ↦ inl was
        | inr is ↦ inr (ap (map.get a.trees.nodes) is.0 ∙ put.free, ap (λ (y : Lived). y.region) is.1)
      ];
  regions = same;
  nodes = omega (arith, more);
}

-- an identifier was marked
pub inserts_one : (a b : Names) (k : Number) (j : Identifier) → KeepsNames a b → b.symbols ≡ a.symbols → b.idents ≡ with_ident a.idents (Inserted j k) → Inserts a b k
inserts_one a b k j keeps symbols idents = record {
  keeps = keeps;
  symbols = symbols;
  idents = λ n i h. one (list_any (same_ident (Inserted j k)) a.idents) n i (subst (λ (xs : List Identifier). slice_get xs n ≡ Some i) idents h);
}
  where
    last : (xs : List Identifier) (n : ℕ) (i x : Identifier) → slice_get (xs ++ x ∷ []) n ≡ Some i → (slice_get xs n ≡ Some i) ⊎ (i ≡ x)
    last [] zero i x h = inr (sym (same_Some x i h))
    last [] (suc n) i x h = absurd cc
    last (y ∷ ys) zero i x h = inl h
    last (y ∷ ys) (suc n) i x h = last ys n i x h

    one : (found : Bool) (n : ℕ) (i : Identifier) → slice_get (if found then a.idents else (a.idents ++ Inserted j k ∷ [])) n ≡ Some i → (slice_get a.idents n ≡ Some i) ⊎ ((x : Identifier) × (i ≡ Inserted x k))
    one true n i h = inl h
    one false n i h = elim (last a.idents n i (Inserted j k) h) [ inl was ↦ inl was | inr is ↦ inr (j, is) ]

pub grows_names : (w : Work) (names : Names) (region : Region) (k : Number) (n : ℕ) → Inserts w.symbols names k → Grows w (with_names w names) region k n
grows_names w names region k n h = record { trees = names_keep w names h.keeps; names = h; added = λ m l at. inl at; regions = record { identity = refl; regions = refl }; nodes = omega arith }

-- ---- what stood before still stands

module _ (old new : Work) (region : Region) (trees : KeepsTrees old new) (names : KeepsNames old.symbols new.symbols) where
  pub name_kept : (n : number.Tree) → CanName old region n → CanName new region n
  name_kept n h = (h.0, trees.places n h.0 h.1, trees.outlives h.0 region.in_pool.number h.2)

  pub rest_kept : (n : number.Tree) (from : ℕ) (us : Trees Identifier) (tail : Tail Identifier) → IsRestOf old region n from us tail → IsRestOf new region n from us tail
  rest_kept n from us tail h = record { parts = h.parts; place = h.place; whole = trees.trees n (list h.parts tail h.place) h.whole; within = h.within; rest = h.rest; named = name_kept n h.named }

  mutual
    pub draft_kept : (p : Plan) (d : Draft) → IsDraft old region p d → IsDraft new region p d
    draft_kept p (held t) h = (h.0, h.1, trees.trees h.0 t h.2, name_kept h.0 h.3)
    draft_kept p (marked i o) h = (h.0, h.1, names.idents h.0 i h.2)
    draft_kept p (plain a) h = (h.0, h.1, leaf_kept old.symbols new.symbols names h.0 None (atom a None) h.2)
    draft_kept p (listed ds e) h = (h.0, h.1, h.2, drafts_kept h.0.items ds h.3, ending_kept h.1 e h.4)
    draft_kept p (in_vector ds) h = (h.0, h.1, drafts_kept h.0.items ds h.2)

    pub drafts_kept : (ps : List Plan) (ds : Drafts) → AreDrafts old region ps ds → AreDrafts new region ps ds
    drafts_kept [] no_drafts h = tt
    drafts_kept [] (draft d ds) h = h
    drafts_kept (p ∷ ps) no_drafts h = h
    drafts_kept (p ∷ ps) (draft d ds) h = (draft_kept p d h.0, drafts_kept ps ds h.1)

    pub ending_kept : (b : End) (e : Ending) → IsEnding old region b e → IsEnding new region b e
    ending_kept b ends h = h
    ending_kept b (tailed d) h = (h.0, h.1, h.2, draft_kept h.0.value d h.3)
    ending_kept b (goes_on us tail) h = (h.0, h.1, h.2, rest_kept h.0 h.1 us tail h.3)

  pub all_kept : (ns : List number.Tree) (ts : Trees Identifier) → PartsStand old ns ts → PartsStand new ns ts
  all_kept [] no_trees h = tt
  all_kept [] (tree t ts) h = h
  all_kept (n ∷ ns) no_trees h = h
  all_kept (n ∷ ns) (tree t ts) h = (trees.trees n t h.0, all_kept ns ts h.1)

  pub named_kept : (ns : List number.Tree) → AreNamed old region ns → AreNamed new region ns
  named_kept [] h = tt
  named_kept (n ∷ ns) h = (name_kept n h.0, named_kept ns h.1)

-- ---- rows of numbers

pub stand_both : (w : Work) (ns ms : List number.Tree) (ts us : Trees Identifier) → PartsStand w ns ts → PartsStand w ms us → PartsStand w (ns ++ ms) (append ts us)
stand_both w [] ms no_trees us h g = g
stand_both w [] ms (tree t ts) us h g = absurd h
stand_both w (n ∷ ns) ms no_trees us h g = absurd h
stand_both w (n ∷ ns) ms (tree t ts) us h g = (h.0, stand_both w ns ms ts us h.1 g)

pub named_both : (w : Work) (region : Region) (ns ms : List number.Tree) → AreNamed w region ns → AreNamed w region ms → AreNamed w region (ns ++ ms)
named_both w region [] ms h g = g
named_both w region (n ∷ ns) ms h g = (h.0, named_both w region ns ms h.1 g)

pub named_parts : (w : Work) (region : Region) (ns : List number.Tree) → AreNamed w region ns → AllByRecursion (MayName w.trees.nodes w.trees.regions region.in_pool.number) (numbers ns)
named_parts w region [] h = tt
named_parts w region (n ∷ ns) h = (h.0, named_parts w region ns h.1)

pub named_list : (w : Work) (region : Region) (items : Vec number.Tree Global) (end : Option number.Tree) (o : Option Occ) → AreNamed w region items.items → IsNamedEnd w region end → CanNameParts w region (node.List items end o)
named_list w region items None o h g = named_parts w region items.items h
named_list w region items (Some n) o h g = (g, named_parts w region items.items h)

-- ---- faults

pub lacks_more : (a b : Work) (m n most : ℕ) (e : BuildFault) → live_count b ≤ live_count a + m → m + n ≤ most → Lacks b n e → Lacks a most e
lacks_more a b m n most fault.EllipsisLength l f h = h
lacks_more a b m n most fault.NodeBudget l f h = h
lacks_more a b m n most fault.DepthBudget l f h = h
lacks_more a b m n most fault.Full l f h = omega (arith, h, l, f)
lacks_more a b m n most fault.Memory l f h = tt

pub adds_handed_on : (a c : Work) (region : Region) (k : Number) (most : ℕ) (t : Tree Identifier) (r : Result number.Tree BuildFault) (e : BuildFault) → IsErrAnd r (λ f. f ≡ e) → Grows a c region k most → Lacks a most e → Adds a c region k most t r
adds_handed_on a c region k most t (Ok n) e h g l = absurd h
adds_handed_on a c region k most t (Err f) e h g l = (g, subst (Lacks a most) (sym h) l)

pub all_handed_on : (a c : Work) (region : Region) (k : Number) (most : ℕ) (ts : Trees Identifier) (r : Result (Vec number.Tree Global) BuildFault) (e : BuildFault) → IsErrAnd r (λ f. f ≡ e) → Grows a c region k most → Lacks a most e →
    AddsAll a c region k most ts r
all_handed_on a c region k most ts (Ok n) e h g l = absurd h
all_handed_on a c region k most ts (Err f) e h g l = (g, subst (Lacks a most) (sym h) l)

pub end_handed_on : (a c : Work) (region : Region) (k : Number) (most : ℕ) (ts : Trees Identifier) (tail : Tail Identifier) (ns : List number.Tree) (r : Result (Option number.Tree) BuildFault) (e : BuildFault) → IsErrAnd r (λ f. f ≡ e) →
    Grows a c region k most → Lacks a most e → AddsEnd a c region k most ts tail ns r
end_handed_on a c region k most ts tail ns (Ok n) e h g l = absurd h
end_handed_on a c region k most ts tail ns (Err f) e h g l = (g, subst (Lacks a most) (sym h) l)

-- a node, after others
pub adds_on : (a b c : Work) (region : Region) (k : Number) (m n most : ℕ) (t : Tree Identifier) (r : Result number.Tree BuildFault) → Grows a b region k m → Adds b c region k n t r → m + n ≤ most → Adds a c region k most t r
adds_on a b c region k m n most t (Ok x) g h l = (grows_on a b c region k m n most g h.0 l, h.1, h.2)
adds_on a b c region k m n most t (Err e) g h l = (grows_on a b c region k m n most g h.0 l, lacks_more a b m n most e g.nodes l h.1)

-- ---- sizes

module _ (k : Number) where
  pub vector_small : (w : Work) (region : Region) (p : Plan) (items : Vec Plan Global) → p ≡ plan.Vector items → CanBeAdded w region k p → AllCanBeAdded w region k items.items
  vector_small w region p items is h =
      let v = vector_draft w region p h.0 items is h.1 in
      let size : tree_size (tree_of k (in_vector v.0)) ≤ max_tree_nodes = subst (λ (d : Draft). tree_size (tree_of k d) ≤ max_tree_nodes) v.1 h.2 in
      let deep : tree_depth (tree_of k (in_vector v.0)) ≤ max_tree_depth = subst (λ (d : Draft). tree_depth (tree_of k d) ≤ max_tree_depth) v.1 h.3 in
      (v.0, v.2, omega (arith, size), omega (arith, deep))

  pub list_small : (w : Work) (region : Region) (p : Plan) (items : Vec Plan Global) (b : End) → p ≡ plan.List items b → CanBeAdded w region k p → AllCanBeAdded w region k items.items × EndCanBeAdded w region k b
  list_small w region p items b is h =
      let v = list_draft w region p h.0 items b is h.1 in
      let us = ending_parts v.1 in
      let size : tree_size (tree_of k (listed v.0 v.1)) ≤ max_tree_nodes = subst (λ (d : Draft). tree_size (tree_of k d) ≤ max_tree_nodes) v.2 h.2 in
      let deep : tree_depth (tree_of k (listed v.0 v.1)) ≤ max_tree_depth = subst (λ (d : Draft). tree_depth (tree_of k d) ≤ max_tree_depth) v.2 h.3 in
      let s = row_size k v.0 us in
      let t = row_depth k v.0 us in
      ((v.0, v.3, omega (arith, size, s), omega (arith, deep, t)), (v.1, v.4, omega (arith, size), omega (arith, deep)))

-- ---- drafts in a row, up to a place

-- the trees before a place were added
pub record RowUpTo (old new : Work) (region : Region) (k : Number) (ds : Drafts) (j : ℕ) (ns : List number.Tree) : Type 0 where
  pub done : Trees Identifier
  pub count : ℕ
  pub grows : Grows old new region k count
  pub stand : PartsStand new ns done
  pub named : AreNamed new region ns
  pub row : row_of k ds no_trees ≡ append done (row_of k (drafts_behind j ds) no_trees)
  pub makes : count + all_make (drafts_behind j ds) ≤ all_make ds

pub row_none : (w : Work) (region : Region) (k : Number) (ds : Drafts) (ns : List number.Tree) → ns ≡ [] → RowUpTo w w region k ds 0 ns
row_none w region k ds ns e =
    record {
      done = no_trees;
      count = 0;
      grows = grows_none w region k 0;
      stand = subst (λ (xs : List number.Tree). PartsStand w xs no_trees) (sym e) tt;
      named = subst (λ (xs : List number.Tree). AreNamed w region xs) (sym e) tt;
      row = refl;
      makes = omega arith;
    }

pub row_more : (a b c : Work) (region : Region) (k : Number) (ds : Drafts) (j : ℕ) (ns ms : List number.Tree) (n : number.Tree) (d : Draft) → RowUpTo a b region k ds j ns → drafts_behind j ds ≡ draft d (drafts_behind (j + 1) ds) →
    Adds b c region k (makes d) (tree_of k d) (Ok n) → ms ≡ ns ++ n ∷ [] → RowUpTo a c region k ds (j + 1) ms
row_more a b c region k ds j ns ms n d u e h is =
    let t = tree_of k d in
    let keeps = h.0.names.keeps in
    let total : makes d + all_make (drafts_behind (j + 1) ds) ≡ all_make (drafts_behind j ds) = sym (ap all_make e) in
    record {
      done = append u.done (tree t no_trees);
      count = u.count + makes d;
      grows = grows_on a b c region k u.count (makes d) (u.count + makes d) u.grows h.0 (omega arith);
      stand = subst (λ (xs : List number.Tree). PartsStand c xs (append u.done (tree t no_trees))) (sym is) (stand_both c ns (n ∷ []) u.done (tree t no_trees) (all_kept b c region h.0.trees keeps ns u.done u.stand) (h.1, tt));
      named = subst (λ (xs : List number.Tree). AreNamed c region xs) (sym is) (named_both c region ns (n ∷ []) (named_kept b c region h.0.trees keeps ns u.named) (h.2, tt));
      row = u.row ∙ ap (λ (x : Drafts). append u.done (row_of k x no_trees)) e ∙ sym (append_more u.done (tree t no_trees) (row_of k (drafts_behind (j + 1) ds) no_trees));
      makes = omega (arith, u.makes, total);
    }

pub row_end : (a b : Work) (region : Region) (k : Number) (ds : Drafts) (j : ℕ) (v : Vec number.Tree Global) → RowUpTo a b region k ds j v.items → drafts_behind j ds ≡ no_drafts →
    AddsAll a b region k (all_make ds) (row_of k ds no_trees) (Ok v)
row_end a b region k ds j v u e =
    let whole : row_of k ds no_trees ≡ u.done = u.row ∙ ap (λ (x : Drafts). append u.done (row_of k x no_trees)) e ∙ append_nil u.done in
    (grows_more a b region k u.count (all_make ds) u.grows (omega (arith, u.makes)), subst (λ (ts : Trees Identifier). PartsStand b v.items ts) (sym whole) u.stand, u.named)

pub row_fail : (a b c : Work) (region : Region) (k : Number) (ds : Drafts) (j : ℕ) (ns : List number.Tree) (d : Draft) (e : BuildFault) → RowUpTo a b region k ds j ns → drafts_behind j ds ≡ draft d (drafts_behind (j + 1) ds) →
    Grows b c region k (makes d) × Lacks b (makes d) e → Grows a c region k (all_make ds) × Lacks a (all_make ds) e
row_fail a b c region k ds j ns d e u is h =
    let total : makes d + all_make (drafts_behind (j + 1) ds) ≡ all_make (drafts_behind j ds) = sym (ap all_make is) in
    let fits : u.count + makes d ≤ all_make ds = omega (arith, u.makes, total) in
    (grows_on a b c region k u.count (makes d) (all_make ds) u.grows h.0 fits, lacks_more a b u.count (makes d) (all_make ds) e u.grows.nodes fits h.1)

pub row_grows : (a b : Work) (region : Region) (k : Number) (ds : Drafts) (j : ℕ) (ns : List number.Tree) → RowUpTo a b region k ds j ns → Grows a b region k (all_make ds)
row_grows a b region k ds j ns u = grows_more a b region k u.count (all_make ds) u.grows (omega (arith, u.makes))

-- ---- a list that is copied

named_from : (w : Work) (region : Region) (ns : List number.Tree) → AllByRecursion (MayName w.trees.nodes w.trees.regions region.in_pool.number) (numbers ns) → AreNamed w region ns
named_from w region [] h = tt
named_from w region (n ∷ ns) h = (h.0, named_from w region ns h.1)

named_drop : (w : Work) (region : Region) (k : ℕ) (ns : List number.Tree) → AreNamed w region ns → AreNamed w region (drop k ns)
named_drop w region zero ns h = h
named_drop w region (suc k) [] h = tt
named_drop w region (suc k) (n ∷ ns) h = named_drop w region k ns h.1

list_named : (w : Work) (region : Region) (items : Vec number.Tree Global) (end : Option number.Tree) (o : Option Occ) → CanNameParts w region (node.List items end o) → AreNamed w region items.items × IsNamedEnd w region end
list_named w region items None o h = (named_from w region items.items h, tt)
list_named w region items (Some n) o h = (named_from w region items.items h.1, h.0)

pub copied_rest : (w : Work) (region : Region) (x : Node) (items : Vec number.Tree Global) (end : Option number.Tree) (o q : Option Occ) (ps : Trees Identifier) (tail : Tail Identifier) → x ≡ node.List items end o → IsNodeOf w x (list ps tail q) → CanNameParts w region x →
    (from : ℕ) (us vs : Trees Identifier) (old new : List number.Tree) → us ≡ behind from ps → new ≡ old ++ drop from items.items → PartsStand w old vs → AreNamed w region old → CopiesRest w region (append vs us) tail new end
copied_rest w region x items end o q ps tail is h g from us vs old new e f stands named =
    let p = subst (λ (y : Node). IsNodeOf w y (list ps tail q)) is h in
    let parts : ps ≡ p.0 = cc in
    let last : tail ≡ p.1 = cc in
    let names = list_named w region items end o (subst (CanNameParts w region) is g) in
    let rest = subst (PartsStand w (drop from items.items)) (ap (behind from) (sym parts) ∙ sym e) (behind_stands w from items.items p.0 p.3) in (
      subst (λ (ns : List number.Tree). PartsStand w ns (append vs us)) (sym f) (stand_both w old (drop from items.items) vs us stands rest),
      subst (AreNamed w region) (sym f) (named_both w region old (drop from items.items) named (named_drop w region from items.items names.0)),
      subst (EndStands w end) (sym last) p.4,
      names.1,
    )

pub drop_past : (k : ℕ) (ns : List number.Tree) → length ns ≤ k → drop k ns ≡ []
drop_past zero [] l = refl
drop_past zero (n ∷ ns) l = absurd (omega arith)
drop_past (suc k) [] l = refl
drop_past (suc k) (n ∷ ns) l = drop_past k ns (omega arith)
