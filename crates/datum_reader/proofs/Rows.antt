-- Trees in a row, one more at a time.
use Rattle.std.proofs.Common.{◌≡◌, ℕ, zero, suc, ◌+◌, ◌<◌, List, [], ◌∷◌, ◌++◌, map, length, get_or, take, drop, Some, refl, sym, ap, ◌∙◌, subst, arith}
use Rattle.std.proofs.lemmas.List.{take_more, map-append}
use Rattle.scheme_model.specs.Trees.{Tree, Trees, tree}
use Rattle.scheme_model.specs.Measures.{tree_size, trees_size}
use Rattle.scheme_model.specs.Ident.{Ident as Identifier}
use Rattle.syntax_tree.specs.Names.{Names, KeepsNames}
use Rattle.syntax_tree.specs.Interned.{interned, all_interned}
use Rattle.syntax_tree.specs.Nodes.{Nodes, region_at}
use Rattle.syntax_tree.specs.Standing.{Stands, AllStand}
use Rattle.syntax_tree.specs.Kept.{numbers}
use Rattle.syntax_tree.specs.Works.{StandsFor, LiesIn, live_count}
use Rattle.syntax_tree.specs.declared.trees.Work.{Work}
use Rattle.syntax_tree.specs.declared.trees.nodes.Tree as code
use Rattle.syntax_tree.specs.declared.trees.table.Region.{Region}
use Rattle.syntax_tree.specs.declared.trees.faults.PoolFault.{PoolFault}
use Rattle.syntax_tree.specs.declared.trees.faults.PoolFault.TheVariants as fault
use Rattle.syntax_tree.proofs.InternLaws.{all_interned_keeps}
use Rattle.datum_reader.specs.declared.datum.Datum.{Datum}
use Rattle.datum_reader.specs.Seeding.{trees_from, Grows, Adds, Begins, Fails, AllLie}
use Rattle.datum_reader.proofs.Growing.{grows_itself, grows_on, all_kept, lie_kept}

stand_push : (nodes : Nodes) (names : Names) (ts : List (Tree Identifier)) (ns : List ℕ) (t : Tree Identifier) (n : ℕ) → AllStand nodes names (trees_from ts) ns → Stands nodes names t n →
    AllStand nodes names (trees_from (ts ++ t ∷ [])) (ns ++ n ∷ [])
stand_push nodes names [] [] t n h s = (s, tt)
stand_push nodes names [] (m ∷ ns) t n h s = absurd h
stand_push nodes names (u ∷ ts) [] t n h s = absurd h
stand_push nodes names (u ∷ ts) (m ∷ ns) t n h s = (h.0, stand_push nodes names ts ns t n h.1 s)

lie_push : (w : Work) (region : Region) (ns : List ℕ) (n : ℕ) → AllLie w region ns → region_at w.trees.nodes n ≡ Some region.in_pool.number → AllLie w region (ns ++ n ∷ [])
lie_push w region [] n h at = (at, tt)
lie_push w region (m ∷ ns) n h at = (h.0, lie_push w region ns n h.1 at)

drop_next : (ds : List Datum) (i : ℕ) (d : Datum) → i < length ds → drop i ds ≡ get_or ds i d ∷ drop (suc i) ds
drop_next [] i d h = absurd (omega arith)
drop_next (x ∷ ds) zero d h = refl
drop_next (x ∷ ds) (suc i) d h = drop_next ds i d (omega arith)

drop_all : (ds : List Datum) → drop (length ds) ds ≡ []
drop_all [] = refl
drop_all (d ∷ ds) = drop_all ds

take_all : (ds : List Datum) → take (length ds) ds ≡ ds
take_all [] = refl
take_all (d ∷ ds) = ap (λ (l : List Datum). d ∷ l) (take_all ds)

module _ (f : Datum → Tree Identifier) where
  abbrev row : List Datum → Trees Identifier
  row ds = trees_from (map f ds)

  row_more : (ds : List Datum) (i : ℕ) (d : Datum) → i < length ds → d ≡ get_or ds i d → map f (take (i + 1) ds) ≡ map f (take i ds) ++ f d ∷ []
  row_more ds i d lt at =
      ap (map f) (take_more ds i d lt) ∙ map-append f (take i ds) (get_or ds i d ∷ []) ∙ ap (λ (x : Datum). map f (take i ds) ++ f x ∷ []) (sym at)

  row_next : (ds : List Datum) (i : ℕ) (d : Datum) → i < length ds → d ≡ get_or ds i d → row (drop i ds) ≡ tree (f d) (row (drop (i + 1) ds))
  row_next ds i d lt at =
      let next : suc i ≡ i + 1 = omega arith in
      ap row (drop_next ds i d lt) ∙ (λ j. tree (f (sym at j)) (row (drop (next j) ds)))

  -- the first so many trees were added: those that are left and their names complete the whole
  pub record RowAdds (a b : Work) (region : Region) (ds : List Datum) (i : ℕ) (ns : List code.Tree) : Type 0 where
    pub grows : Grows a b region
    pub names : all_interned (row (drop i ds)) b.symbols ≡ all_interned (row ds) a.symbols
    pub nodes : live_count b + trees_size (row (drop i ds)) ≡ live_count a + trees_size (row ds)
    pub stand : AllStand b.trees.nodes b.symbols (row (take i ds)) (numbers ns)
    pub lie : AllLie b region (numbers ns)

  pub row_begun : (a : Work) (region : Region) (ds : List Datum) (ns : List code.Tree) → ns ≡ [] → RowAdds a a region ds 0 ns
  row_begun a region ds ns none = record {
    grows = grows_itself a region;
    names = refl;
    nodes = refl;
    stand = subst (λ (l : List code.Tree). AllStand a.trees.nodes a.symbols (row (take 0 ds)) (numbers l)) (sym none) tt;
    lie = subst (λ (l : List code.Tree). AllLie a region (numbers l)) (sym none) tt;
  }

  -- their numbers found no place, before any was added
  pub row_unbegun : (a : Work) (region : Region) (ds : List Datum) → Begins a a region (all_interned (row ds) a.symbols) (trees_size (row ds) + 1) × Fails a (trees_size (row ds)) fault.Memory
  row_unbegun a region ds = (record { grows = grows_itself a region; names = all_interned_keeps (row ds) a.symbols; nodes = omega arith }, tt)

  module _ (a b c : Work) (region : Region) (ds : List Datum) (i : ℕ) (d : Datum) (ns : List code.Tree) (lt : i < length ds) (at : d ≡ get_or ds i d) (h : RowAdds a b region ds i ns) where
    left : all_interned (row (drop (i + 1) ds)) (interned (f d) b.symbols) ≡ all_interned (row ds) a.symbols
    left = ap (λ (ts : Trees Identifier). all_interned ts b.symbols) (sym (row_next ds i d lt at)) ∙ h.names

    count : live_count b + (tree_size (f d) + trees_size (row (drop (i + 1) ds))) ≡ live_count a + trees_size (row ds)
    count = ap (λ (ts : Trees Identifier). live_count b + trees_size ts) (sym (row_next ds i d lt at)) ∙ h.nodes

    up_to : KeepsNames (interned (f d) b.symbols) (all_interned (row ds) a.symbols)
    up_to = subst (λ (n : Names). KeepsNames (interned (f d) b.symbols) n) left (all_interned_keeps (row (drop (i + 1) ds)) (interned (f d) b.symbols))

    -- one tree more was added
    pub row_adds : (ms : List code.Tree) (n : code.Tree) → Adds b c region (interned (f d) b.symbols) (tree_size (f d)) × StandsFor c n (f d) × LiesIn c region n → ms ≡ ns ++ n ∷ [] → RowAdds a c region ds (i + 1) ms
    row_adds ms n one pushed =
        let kept = all_kept b c one.0.grows.trees (row (take i ds)) (numbers ns) h.stand in
        let more = stand_push c.trees.nodes c.symbols (map f (take i ds)) (numbers ns) (f d) n.number kept one.1 in
        let all : numbers ns ++ n.number ∷ [] ≡ numbers ms = sym (ap numbers pushed ∙ map-append (λ (t : code.Tree). t.number) ns (n ∷ [])) in
        let size = count in
        record {
          grows = grows_on a b c region h.grows one.0.grows;
          names = ap (all_interned (row (drop (i + 1) ds))) one.0.names ∙ left;
          nodes = omega (arith, size, one.0.nodes);
          stand = subst (λ (ts : List (Tree Identifier)). AllStand c.trees.nodes c.symbols (trees_from ts) (numbers ms)) (sym (row_more ds i d lt at))
              (subst (λ (l : List ℕ). AllStand c.trees.nodes c.symbols (trees_from (map f (take i ds) ++ f d ∷ [])) l) all more);
          lie = subst (AllLie c region) all (lie_push c region (numbers ns) n.number (lie_kept b c region one.0.grows.trees (numbers ns) h.lie) one.2);
        }

    -- a tree failed, after others
    pub row_fails : (e : PoolFault) → Begins b c region (interned (f d) b.symbols) (tree_size (f d)) × Fails b (tree_size (f d)) e →
        Begins a c region (all_interned (row ds) a.symbols) (trees_size (row ds) + 1) × Fails a (trees_size (row ds)) e
    row_fails e one =
        let size = count in (
          record {
            grows = grows_on a b c region h.grows one.0.grows;
            names = record {
              symbols = λ n s k. up_to.symbols n s (one.0.names.symbols n s k);
              idents = λ n j k. up_to.idents n j (one.0.names.idents n j k);
            };
            nodes = omega (arith, size, one.0.nodes);
          },
          reason e one.1,
        )
      where
        reason : (e : PoolFault) → Fails b (tree_size (f d)) e → Fails a (trees_size (row ds)) e
        reason fault.Full k = let size = count in omega (arith, k, size)
        reason fault.Memory k = tt

    -- its number found no place
    pub row_unplaced : Adds b c region (interned (f d) b.symbols) (tree_size (f d)) → Begins a c region (all_interned (row ds) a.symbols) (trees_size (row ds) + 1) × Fails a (trees_size (row ds)) fault.Memory
    row_unplaced one =
        let size = count in (
          record {
            grows = grows_on a b c region h.grows one.grows;
            names = subst (λ (n : Names). KeepsNames n (all_interned (row ds) a.symbols)) (sym one.names) up_to;
            nodes = omega (arith, size, one.nodes);
          },
          tt,
        )

  -- all were added
  pub row_done : (a b : Work) (region : Region) (ds : List Datum) (i : ℕ) (ns : List code.Tree) → i ≡ length ds → RowAdds a b region ds i ns →
      Adds a b region (all_interned (row ds) a.symbols) (trees_size (row ds)) × AllStand b.trees.nodes b.symbols (row ds) (numbers ns) × AllLie b region (numbers ns)
  row_done a b region ds i ns at h =
      let none : drop i ds ≡ [] = ap (λ (k : ℕ). drop k ds) at ∙ drop_all ds in
      let all : take i ds ≡ ds = ap (λ (k : ℕ). take k ds) at ∙ take_all ds in
      let size = ap (λ (l : List Datum). live_count b + trees_size (row l)) (sym none) ∙ h.nodes in (
        record {
          grows = h.grows;
          names = ap (λ (l : List Datum). all_interned (row l) b.symbols) (sym none) ∙ h.names;
          nodes = omega (arith, size);
        },
        subst (λ (l : List Datum). AllStand b.trees.nodes b.symbols (row l) (numbers ns)) all h.stand,
        h.lie,
      )
