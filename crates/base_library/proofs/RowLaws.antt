-- Rows of trees that steps make.
use Rattle.std.proofs.Common.{◌≡◌, ℕ, zero, suc, ◌+◌, ◌-◌, ◌^◌, ◌<◌, ◌≤◌, List, [], ◌∷◌, ◌++◌, map, length, get_or, take, drop, Option, Some, None, Ok, Err, refl, sym, ap, ◌∙◌, subst, arith}
use Rattle.std.specs.Prelude.{Vec, Result, IsErrAnd}
use Rattle.std.proofs.lemmas.List.{map-append, take_more}
use Rattle.std.specs.List.{AllByRecursion}
use Rattle.std.specs.Option.{option_map}
use Rattle.std.specs.declared.alloc.Global.{Global}
use Rattle.ls_base.specs.declared.memory.Memory.{Memory}
use Rattle.scheme_model.specs.Trees.{Tree, name, atom, list, vector, Trees, no_trees, tree, Tail, proper, dotted}
use Rattle.scheme_model.specs.Measures.{tree_size, trees_size, tail_size, tree_depth, trees_depth, tail_depth}
use Rattle.scheme_model.specs.Ident.{Ident as Identifier}
use Rattle.syntax_tree.specs.Names.{Names, KeepsNames}
use Rattle.syntax_tree.specs.Interned.{interned, all_interned, tail_interned}
use Rattle.syntax_tree.specs.Nodes.{Nodes, list_shape, parts_of, region_at, IsPut}
use Rattle.syntax_tree.specs.Regions.{MayName}
use Rattle.syntax_tree.specs.Standing.{Stands, AllStand, TailStands}
use Rattle.syntax_tree.specs.Kept.{numbers}
use Rattle.syntax_tree.specs.Works.{StandsFor, LiesIn, KeepsTrees, SameRegions, live_count, lived_in, with_names}
use Rattle.syntax_tree.specs.declared.trees.Work.{Work}
use Rattle.syntax_tree.specs.declared.trees.nodes.Tree as code
use Rattle.syntax_tree.specs.declared.trees.nodes.Node.{Node}
use Rattle.syntax_tree.specs.declared.trees.nodes.Node.TheVariants as node_of
use Rattle.syntax_tree.specs.declared.trees.table.Region.{Region}
use Rattle.syntax_tree.specs.declared.trees.faults.PoolFault.{PoolFault}
use Rattle.syntax_tree.specs.declared.trees.faults.PoolFault.TheVariants as fault
use Rattle.syntax_tree.proofs.InternLaws.{interned_keeps, tail_interned_keeps}
use Rattle.syntax_tree.proofs.WorkLaws.{names_keep}
use Rattle.datum_reader.specs.Seeding.{trees_from, Grows, Adds, Begins, Fails, Interns, AllLie, tail_numbers}
use Rattle.datum_reader.proofs.Growing.{names_itself, names_on, grows_itself, grows_on, grows_names, grows_put, all_kept, lie_kept, may_name, interns_keep, fails_more}
use Rattle.base_library.specs.declared.sketch.Step.{Step}
use Rattle.base_library.specs.declared.sketch.Step.TheVariants as step
use Rattle.base_library.specs.Sketches.{name_tree, tree_by, after, after_all, made, row_size}
use Rattle.base_library.specs.Rows.{Holds, IsReady, Breaks, Readies}

abbrev Row : Type 0
Row = List (Tree Identifier)

-- ---- fronts and rests

pub split : {A : Type 0} (k : ℕ) (xs : List A) → take k xs ++ drop k xs ≡ xs
split zero xs = refl
split (suc k) [] = refl
split {A} (suc k) (x ∷ xs) = ap (λ (l : List A). x ∷ l) (split k xs)

take_map : {A B : Type 0} (f : A → B) (k : ℕ) (xs : List A) → map f (take k xs) ≡ take k (map f xs)
take_map f zero xs = refl
take_map f (suc k) [] = refl
take_map {B = B} f (suc k) (x ∷ xs) = ap (λ (l : List B). f x ∷ l) (take_map f k xs)

drop_map : {A B : Type 0} (f : A → B) (k : ℕ) (xs : List A) → map f (drop k xs) ≡ drop k (map f xs)
drop_map f zero xs = refl
drop_map f (suc k) [] = refl
drop_map f (suc k) (x ∷ xs) = drop_map f k xs

pub all_append : (xs ys : Row) (names : Names) → all_interned (trees_from (xs ++ ys)) names ≡ all_interned (trees_from ys) (all_interned (trees_from xs) names)
all_append [] ys names = refl
all_append (x ∷ xs) ys names = all_append xs ys (interned x names)

pub size_append : (xs ys : Row) → row_size (xs ++ ys) ≡ row_size xs + row_size ys
size_append [] ys = omega arith
size_append (x ∷ xs) ys = let more = size_append xs ys in omega arith

stand_take : (nodes : Nodes) (names : Names) (k : ℕ) (ts : Row) (ns : List ℕ) → AllStand nodes names (trees_from ts) ns → AllStand nodes names (trees_from (take k ts)) (take k ns)
stand_take nodes names zero ts ns h = tt
stand_take nodes names (suc k) [] [] h = tt
stand_take nodes names (suc k) [] (n ∷ ns) h = absurd h
stand_take nodes names (suc k) (t ∷ ts) [] h = absurd h
stand_take nodes names (suc k) (t ∷ ts) (n ∷ ns) h = (h.0, stand_take nodes names k ts ns h.1)

stand_drop : (nodes : Nodes) (names : Names) (k : ℕ) (ts : Row) (ns : List ℕ) → AllStand nodes names (trees_from ts) ns → AllStand nodes names (trees_from (drop k ts)) (drop k ns)
stand_drop nodes names zero ts ns h = h
stand_drop nodes names (suc k) [] [] h = tt
stand_drop nodes names (suc k) [] (n ∷ ns) h = absurd h
stand_drop nodes names (suc k) (t ∷ ts) [] h = absurd h
stand_drop nodes names (suc k) (t ∷ ts) (n ∷ ns) h = stand_drop nodes names k ts ns h.1

stand_push : (nodes : Nodes) (names : Names) (ts : Row) (ns : List ℕ) (t : Tree Identifier) (n : ℕ) → AllStand nodes names (trees_from ts) ns → Stands nodes names t n →
    AllStand nodes names (trees_from (ts ++ t ∷ [])) (ns ++ n ∷ [])
stand_push nodes names [] [] t n h s = (s, tt)
stand_push nodes names [] (m ∷ ns) t n h s = absurd h
stand_push nodes names (u ∷ ts) [] t n h s = absurd h
stand_push nodes names (u ∷ ts) (m ∷ ns) t n h s = (h.0, stand_push nodes names ts ns t n h.1 s)

lie_take : (w : Work) (region : Region) (k : ℕ) (ns : List ℕ) → AllLie w region ns → AllLie w region (take k ns)
lie_take w region zero ns h = tt
lie_take w region (suc k) [] h = tt
lie_take w region (suc k) (n ∷ ns) h = (h.0, lie_take w region k ns h.1)

lie_drop : (w : Work) (region : Region) (k : ℕ) (ns : List ℕ) → AllLie w region ns → AllLie w region (drop k ns)
lie_drop w region zero ns h = h
lie_drop w region (suc k) [] h = tt
lie_drop w region (suc k) (n ∷ ns) h = lie_drop w region k ns h.1

lie_push : (w : Work) (region : Region) (ns : List ℕ) (n : ℕ) → AllLie w region ns → region_at w.trees.nodes n ≡ Some region.in_pool.number → AllLie w region (ns ++ n ∷ [])
lie_push w region [] n h at = (at, tt)
lie_push w region (m ∷ ns) n h at = (h.0, lie_push w region ns n h.1 at)

pub as_many : (nodes : Nodes) (names : Names) (ts : Row) (ns : List code.Tree) → AllStand nodes names (trees_from ts) (numbers ns) → length ts ≡ length ns
as_many nodes names [] [] h = refl
as_many nodes names [] (n ∷ ns) h = absurd h
as_many nodes names (t ∷ ts) [] h = absurd h
as_many nodes names (t ∷ ts) (n ∷ ns) h = ap suc (as_many nodes names ts ns h.1)

-- ---- the depth of a tree is at most its size

mutual
  pub depth_size : (t : Tree Identifier) → tree_depth t ≤ tree_size t
  depth_size (name i o) = omega arith
  depth_size (atom a o) = omega arith
  depth_size (list ts tail o) = let p = depths_sizes ts in let q = tail_depth_size tail in omega arith
  depth_size (vector ts o) = let p = depths_sizes ts in omega arith

  depths_sizes : (ts : Trees Identifier) → trees_depth ts ≤ trees_size ts
  depths_sizes no_trees = omega arith
  depths_sizes (tree t ts) = let p = depth_size t in let q = depths_sizes ts in omega arith

  tail_depth_size : (tail : Tail Identifier) → tail_depth tail ≤ tail_size tail
  tail_depth_size proper = omega arith
  tail_depth_size (dotted t) = depth_size t

-- ---- what a list's node does to sizes and names

module _ (ts : Row) (k : ℕ) (tail : Tail Identifier) where
  abbrev whole : Tree Identifier
  whole = list (trees_from (drop k ts)) tail None

  pub gathered-size : row_size (take k ts ++ whole ∷ []) ≡ row_size ts + 1 + tail_size tail
  gathered-size =
      let p = size_append (take k ts) (whole ∷ []) in
      let q = size_append (take k ts) (drop k ts) in
      let r : row_size (take k ts ++ drop k ts) ≡ row_size ts = ap row_size (split k ts) in
      omega arith

  pub gathered-names : (names : Names) → all_interned (trees_from (take k ts ++ whole ∷ [])) names ≡ tail_interned tail (all_interned (trees_from ts) names)
  gathered-names names =
      all_append (take k ts) (whole ∷ []) names
      ∙ ap (tail_interned tail) (sym (all_append (take k ts) (drop k ts) names) ∙ ap (λ (xs : Row). all_interned (trees_from xs) names) (split k ts))

-- ---- steps lengthen what they find

pub after_size : (ts : Row) (s : Step) → row_size ts ≤ row_size (after ts s)
after_size ts (step.Name s) = let p = size_append ts (tree_by ts (step.Name s) ∷ []) in omega arith
after_size ts (step.Truth b) = let p = size_append ts (tree_by ts (step.Truth b) ∷ []) in omega arith
after_size ts (step.List n) = let p = gathered-size ts (length ts - n) proper in omega arith
after_size ts (step.Dotted n s) = let p = gathered-size ts (length ts - n) (dotted (name_tree s.now)) in omega arith

pub all_size : (ts : Row) (ss : List Step) → row_size ts ≤ row_size (after_all ts ss)
all_size ts [] = omega arith
all_size ts (s ∷ ss) = let p = after_size ts s in let q = all_size (after ts s) ss in omega arith

leaf_names : (ts : Row) (t : Tree Identifier) (names : Names) → KeepsNames (all_interned (trees_from ts) names) (all_interned (trees_from (ts ++ t ∷ [])) names)
leaf_names ts t names =
    subst (λ (n : Names). KeepsNames (all_interned (trees_from ts) names) n) (sym (all_append ts (t ∷ []) names)) (interned_keeps t (all_interned (trees_from ts) names))

gathered_keeps : (ts : Row) (k : ℕ) (tail : Tail Identifier) (names : Names) → KeepsNames (all_interned (trees_from ts) names) (all_interned (trees_from (take k ts ++ whole ts k tail ∷ [])) names)
gathered_keeps ts k tail names =
    subst (λ (n : Names). KeepsNames (all_interned (trees_from ts) names) n) (sym (gathered-names ts k tail names)) (tail_interned_keeps tail (all_interned (trees_from ts) names))

pub after_names : (ts : Row) (s : Step) (names : Names) → KeepsNames (all_interned (trees_from ts) names) (all_interned (trees_from (after ts s)) names)
after_names ts (step.Name s) names = leaf_names ts (tree_by ts (step.Name s)) names
after_names ts (step.Truth b) names = leaf_names ts (tree_by ts (step.Truth b)) names
after_names ts (step.List n) names = gathered_keeps ts (length ts - n) proper names
after_names ts (step.Dotted n s) names = gathered_keeps ts (length ts - n) (dotted (name_tree s.now)) names

pub all_names : (ts : Row) (ss : List Step) (names : Names) → KeepsNames (all_interned (trees_from ts) names) (all_interned (trees_from (after_all ts ss)) names)
all_names ts [] names = names_itself (all_interned (trees_from ts) names)
all_names ts (s ∷ ss) names =
    names_on (all_interned (trees_from ts) names) (all_interned (trees_from (after ts s)) names) (all_interned (trees_from (after_all (after ts s) ss)) names) (after_names ts s names) (all_names (after ts s) ss names)

-- ---- a row that holds, and a step

module _ (start w : Work) (region : Region) (ts : Row) (ns : List code.Tree) (h : Holds start w region ts ns) where
  -- a part of the step was done
  pub broken : (c : Work) (us : Row) (e : PoolFault) → Grows w c region → KeepsNames c.symbols (all_interned (trees_from us) start.symbols) → live_count c ≤ live_count start + row_size us → Fails start (row_size us) e →
      Breaks start c region us e
  broken c us e grows keeps nodes fails = (record { grows = grows_on start w c region h.grows grows; names = keeps; nodes = omega arith }, fails)

  -- nothing was done, since memory ran out
  pub nothing_done : (s : Step) → Breaks start w region (after ts s) fault.Memory
  nothing_done s =
      broken w (after ts s) fault.Memory (grows_itself w region) (subst (λ (n : Names). KeepsNames n (all_interned (trees_from (after ts s)) start.symbols)) (sym h.names) (after_names ts s start.symbols))
      (let p = h.nodes in let q = after_size ts s in omega arith) tt

  -- a leaf
  pub leaf_ready : (names : Names) (t : Tree Identifier) (node : Node) → tree_size t ≡ 1 → Interns w.symbols names t (Ok node) → IsReady start (with_names w names) region ts t ns node
  leaf_ready names t node size i =
      let keeps = interns_keep w.symbols names t (Ok node) i in
      let new = with_names w names in
      record {
        grows = grows_on start w new region h.grows (grows_names w names region keeps);
        names = i.1 ∙ ap (interned t) h.names ∙ sym (all_append ts (t ∷ []) start.symbols);
        nodes = (let p = h.nodes in let q = size_append ts (t ∷ []) in omega arith);
        stand = all_kept w new (names_keep w names keeps) (trees_from ts) (numbers ns) h.stand;
        lie = h.lie;
        of_last = i.0.tree w.trees.nodes;
        can_name = subst (λ (l : List ℕ). AllByRecursion (MayName w.trees.nodes w.trees.regions region.in_pool.number) l) (sym i.0.alone) tt;
      }

  pub leaf_broken : (names : Names) (t : Tree Identifier) (e : Memory) → Interns w.symbols names t (Err e) → Breaks start (with_names w names) region (ts ++ t ∷ []) fault.Memory
  leaf_broken names t e i =
      broken (with_names w names) (ts ++ t ∷ []) fault.Memory (grows_names w names region i.0)
      (subst (λ (n : Names). KeepsNames names n) (ap (interned t) h.names ∙ sym (all_append ts (t ∷ []) start.symbols)) i.1)
      (let p = h.nodes in let q = size_append ts (t ∷ []) in omega arith) tt

  -- a list of trees at the end, whose tail was added
  module _ (c : Work) (k : ℕ) (tail : Tail Identifier) where
    pub gathered : Adds w c region (tail_interned tail w.symbols) (tail_size tail) → (end : Option code.Tree) → TailStands c.trees.nodes c.symbols tail (option_map (λ (t : code.Tree). t.number) end) →
        AllLie c region (tail_numbers end) → (front : List code.Tree) (items : Vec code.Tree Global) → front ≡ take k ns → items.items ≡ drop k ns → IsReady start c region (take k ts) (whole ts k tail) front (node_of.List items end None)
    gathered adds end ends ends_lie front items is_front is_items =
        let stand = all_kept w c adds.grows.trees (trees_from ts) (numbers ns) h.stand in
        let lie = lie_kept w c region adds.grows.trees (numbers ns) h.lie in
        let fronts : take k (numbers ns) ≡ numbers front = sym (take_map (λ (t : code.Tree). t.number) k ns) ∙ ap numbers (sym is_front) in
        let rests : drop k (numbers ns) ≡ numbers items.items = sym (drop_map (λ (t : code.Tree). t.number) k ns) ∙ ap numbers (sym is_items) in
        let stand_rest = subst (λ (l : List ℕ). AllStand c.trees.nodes c.symbols (trees_from (drop k ts)) l) rests (stand_drop c.trees.nodes c.symbols k ts (numbers ns) stand) in
        let lie_rest = subst (AllLie c region) rests (lie_drop c region k (numbers ns) lie) in
        record {
          grows = grows_on start w c region h.grows adds.grows;
          names = adds.names ∙ ap (tail_interned tail) h.names ∙ sym (gathered-names ts k tail start.symbols);
          nodes = (let p = h.nodes in let q = adds.nodes in let r = gathered-size ts k tail in omega arith);
          stand = subst (λ (l : List ℕ). AllStand c.trees.nodes c.symbols (trees_from (take k ts)) l) fronts (stand_take c.trees.nodes c.symbols k ts (numbers ns) stand);
          lie = subst (AllLie c region) fronts (lie_take c region k (numbers ns) lie);
          of_last = (trees_from (drop k ts), tail, refl, stand_rest, ends);
          can_name = may_name_list end ends_lie (numbers items.items) lie_rest;
        }
      where
        may_name_list : (end : Option code.Tree) → AllLie c region (tail_numbers end) → (items : List ℕ) → AllLie c region items →
            AllByRecursion (MayName c.trees.nodes c.trees.regions region.in_pool.number) (parts_of (list_shape items (option_map (λ (t : code.Tree). t.number) end) None))
        may_name_list None end_lie items l = may_name c region items l
        may_name_list (Some n) end_lie items l = may_name c region (n.number ∷ items) (end_lie.0, l)

    -- its tail failed
    pub tail_broken : (e : PoolFault) → Begins w c region (tail_interned tail w.symbols) (tail_size tail) → Fails w (tail_size tail) e → Breaks start c region (take k ts ++ whole ts k tail ∷ []) e
    tail_broken e begins fails =
        broken c (take k ts ++ whole ts k tail ∷ []) e begins.grows
        (subst (λ (n : Names). KeepsNames c.symbols n) (ap (tail_interned tail) h.names ∙ sym (gathered-names ts k tail start.symbols)) begins.names)
        (let p = h.nodes in let q = begins.nodes in let r = gathered-size ts k tail in omega arith)
        (let r = gathered-size ts k tail in fails_more start w (row_size ts) (tail_size tail) (row_size (take k ts ++ whole ts k tail ∷ [])) e h.nodes (omega arith) fails)

-- ---- the outermost node

module _ (start b : Work) (region : Region) (left : Row) (t : Tree Identifier) (ns : List code.Tree) (node : Node) (h : IsReady start b region left t ns node) where
  pub put_on : (c : Work) (n : code.Tree) → KeepsTrees b c → SameRegions b c → c.symbols ≡ b.symbols → IsPut b.trees.nodes c.trees.nodes n.number (lived_in b region node) →
      live_count c ≡ live_count b + 1 → StandsFor c n t → LiesIn c region n → Holds start c region (left ++ t ∷ []) (ns ++ n ∷ [])
  put_on c n keeps same symbols put more stands lies =
      let all : numbers ns ++ n.number ∷ [] ≡ numbers (ns ++ n ∷ []) = sym (map-append (λ (t : code.Tree). t.number) ns (n ∷ [])) in
      record {
        grows = grows_on start b c region h.grows (grows_put b c region node n.number keeps same symbols put);
        names = symbols ∙ h.names;
        nodes = (let p = h.nodes in omega arith);
        stand = subst (λ (l : List ℕ). AllStand c.trees.nodes c.symbols (trees_from (left ++ t ∷ [])) l) all
            (stand_push c.trees.nodes c.symbols left (numbers ns) t n.number (all_kept b c keeps (trees_from left) (numbers ns) h.stand) stands);
        lie = subst (AllLie c region) all (lie_push c region (numbers ns) n.number (lie_kept b c region keeps (numbers ns) h.lie) lies);
      }

  -- there was no room
  pub not_put : (c : Work) (e : PoolFault) → c ≡ b → (e ≡ fault.Full → live_count b ≡ 2 ^ 31) → Breaks start c region (left ++ t ∷ []) e
  not_put c e same full = subst (λ (w : Work). Breaks start w region (left ++ t ∷ []) e) (sym same) (
    record {
      grows = h.grows;
      names = subst (λ (n : Names). KeepsNames n (all_interned (trees_from (left ++ t ∷ [])) start.symbols)) (sym h.names) (names_itself (all_interned (trees_from (left ++ t ∷ [])) start.symbols));
      nodes = (let p = h.nodes in omega arith);
    },
    reason e full,
  )
    where
      reason : (e : PoolFault) → (e ≡ fault.Full → live_count b ≡ 2 ^ 31) → Fails start (row_size (left ++ t ∷ [])) e
      reason fault.Full full = let room : live_count b ≡ 2 ^ 31 = full refl in let p = h.nodes in omega arith
      reason fault.Memory full = tt

-- ---- the beginning, and the rest of the steps

pub nothing_made : (a : Work) (region : Region) (ns : List code.Tree) → ns ≡ [] → Holds a a region [] ns
nothing_made a region ns none = record {
  grows = grows_itself a region;
  names = refl;
  nodes = omega arith;
  stand = subst (λ (l : List code.Tree). AllStand a.trees.nodes a.symbols no_trees (numbers l)) (sym none) tt;
  lie = subst (λ (l : List code.Tree). AllLie a region (numbers l)) (sym none) tt;
}

pub breaks_on : (start c : Work) (region : Region) (ts : Row) (ss : List Step) (e : PoolFault) → Breaks start c region ts e → Breaks start c region (after_all ts ss) e
breaks_on start c region ts ss e h =
    let more = all_size ts ss in (
      record {
        grows = h.0.grows;
        names = names_on c.symbols (all_interned (trees_from ts) start.symbols) (all_interned (trees_from (after_all ts ss)) start.symbols) h.0.names (all_names ts ss start.symbols);
        nodes = (let p = h.0.nodes in omega arith);
      },
      fails_more start start 0 (row_size ts) (row_size (after_all ts ss)) e (omega arith) (omega arith) h.1,
    )

-- ---- faults that are handed on

pub readies_broken : (start now : Work) (region : Region) (ts : Row) (s : Step) (ns : List code.Tree) (r : Result Node PoolFault) (e : PoolFault) → IsErrAnd r (λ f. f ≡ e) → Breaks start now region (after ts s) e →
    Readies start now region ts s ns r
readies_broken start now region ts s ns (Ok node) e h b = absurd h
readies_broken start now region ts s ns (Err f) e h b = subst (Breaks start now region (after ts s)) (sym h) b

-- ---- step by step

after_more : (ts : Row) (xs ys : List Step) → after_all ts (xs ++ ys) ≡ after_all (after_all ts xs) ys
after_more ts [] ys = refl
after_more ts (x ∷ xs) ys = after_more (after ts x) xs ys

module _ (ss : List Step) (i : ℕ) (d : Step) (lt : i < length ss) where
  pub made_next : made (take (i + 1) ss) ≡ after (made (take i ss)) (get_or ss i d)
  made_next = ap made (take_more ss i d lt) ∙ after_more [] (take i ss) (get_or ss i d ∷ [])

  made_whole : after_all (after (made (take i ss)) (get_or ss i d)) (drop (i + 1) ss) ≡ made ss
  made_whole =
      ap (λ (ts : Row). after_all ts (drop (i + 1) ss)) (sym made_next)
      ∙ sym (after_more [] (take (i + 1) ss) (drop (i + 1) ss))
      ∙ ap made (split (i + 1) ss)

  pub small_step : (m : ℕ) → row_size (made ss) ≤ m → row_size (after (made (take i ss)) (get_or ss i d)) ≤ m
  small_step m few =
      let p = all_size (after (made (take i ss)) (get_or ss i d)) (drop (i + 1) ss) in
      let q : row_size (after_all (after (made (take i ss)) (get_or ss i d)) (drop (i + 1) ss)) ≡ row_size (made ss) = ap row_size made_whole in
      omega arith

  pub broken_whole : (start c : Work) (region : Region) (e : PoolFault) → Breaks start c region (after (made (take i ss)) (get_or ss i d)) e → Breaks start c region (made ss) e
  broken_whole start c region e h =
      subst (λ (us : Row). Breaks start c region us e) made_whole (breaks_on start c region (after (made (take i ss)) (get_or ss i d)) (drop (i + 1) ss) e h)

-- all of these were added, and then memory ran out
pub stopped : (start w : Work) (region : Region) (ts : Row) (ns : List code.Tree) → Holds start w region ts ns → Breaks start w region ts fault.Memory
stopped start w region ts ns h =
    broken start w region ts ns h w ts fault.Memory (grows_itself w region)
    (subst (λ (n : Names). KeepsNames n (all_interned (trees_from ts) start.symbols)) (sym h.names) (names_itself (all_interned (trees_from ts) start.symbols)))
    (let p = h.nodes in omega arith) tt
