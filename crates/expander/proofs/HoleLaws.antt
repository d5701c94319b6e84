-- The datum of a quasiquotation is its tree with the holes taken out, also with symbols in place of identifiers.
use Rattle.std.proofs.Common.{◌≡◌, ℕ, zero, suc, ◌+◌, List, ◌++◌, Bool, true, false, Option, Some, None, Result, Ok, Err, refl, ap, ◌∙◌, subst}
use Rattle.std.specs.Prelude.{if◌then◌else◌}
use Rattle.scheme_model.specs.declared.Occ.{Occ}
use Rattle.scheme_model.specs.Trees.{Tree, name, atom, list, vector, Trees, no_trees, tree, Tail, proper, dotted, map_tree, map_trees, map_tail}
use Rattle.scheme_model.specs.ExpansionFaults.{Fault, ◌>>◌}
use Rattle.scheme_model.specs.Shapes.{one_of}
use Rattle.scheme_model.specs.Cores.{hole_weight, weight, weights, tail_weight}
use Rattle.scheme_model.specs.Holes.{places_in, places_among, places_behind, hole_places, IsLike, AreLike, IsTailLike, FillsHole, HasHoles}
use Rattle.scheme_model.specs.Quasiquote.{Mark, Nested, Unquoted, Spliced, Pieces, RowPieces, pieces, row_pieces, before, listed, mark_in, level_behind, hole_behind, pair_by, is_splice, element_by, datum_at, pair_at, tail_at, elements_at, quasi_of}
use Rattle.scheme_model.specs.Expression.{symbol_or_hole}
use Rattle.scheme_model.specs.Ident.{Ident as Identifier}

abbrev Fills : Tree Identifier → Option Identifier → Option Occ → Type 0
Fills = FillsHole {A = Identifier} {B = Identifier} (λ i. i)

-- ---- what was read

abbrev PiecesLike : Tree Identifier → Result (Pieces Identifier) (Fault Identifier) → Type 0
PiecesLike t (Ok p) = IsLike Fills t p.datum
PiecesLike t (Err e) = Unit {0}

abbrev RowLike : Trees Identifier → Tail Identifier → Result (RowPieces Identifier) (Fault Identifier) → Type 0
RowLike ts tail (Ok r) = AreLike Fills ts r.parts × IsTailLike Fills tail r.tail
RowLike ts tail (Err e) = Unit {0}

abbrev PartsLike : Trees Identifier → Result (RowPieces Identifier) (Fault Identifier) → Type 0
PartsLike ts (Ok r) = AreLike Fills ts r.parts
PartsLike ts (Err e) = Unit {0}

list_like : (ts : Trees Identifier) (tail : Tail Identifier) (o : Option Occ) (r : Result (RowPieces Identifier) (Fault Identifier)) → RowLike ts tail r → PiecesLike (list ts tail o) (r >> λ r. Ok (pieces (list r.parts r.tail o) r.holes))
list_like ts tail o (Ok r) h = (ts, tail, refl, h.0, h.1)
list_like ts tail o (Err e) h = tt

vector_like : (ts : Trees Identifier) (o : Option Occ) (r : Result (RowPieces Identifier) (Fault Identifier)) → PartsLike ts r → PiecesLike (vector ts o) (r >> λ r. Ok (pieces (vector r.parts o) r.holes))
vector_like ts o (Ok r) h = (ts, refl, h)
vector_like ts o (Err e) h = tt

before_like : (t : Tree Identifier) (ts : Trees Identifier) (tail : Tail Identifier) (p : Result (Pieces Identifier) (Fault Identifier)) (r : Result (RowPieces Identifier) (Fault Identifier)) → PiecesLike t p → RowLike ts tail r → RowLike (tree t ts) tail (p >> λ y. r >> λ r. Ok (before y r))
before_like t ts tail (Ok p) (Ok r) h g = ((t, ts, refl, h, g.0), g.1)
before_like t ts tail (Ok p) (Err e) h g = tt
before_like t ts tail (Err e) r h g = tt

part_like : (t : Tree Identifier) (ts : Trees Identifier) (p : Result (Pieces Identifier) (Fault Identifier)) (r : Result (RowPieces Identifier) (Fault Identifier)) → PiecesLike t p → PartsLike ts r → PartsLike (tree t ts) (p >> λ y. r >> λ r. Ok (before y r))
part_like t ts (Ok p) (Ok r) h g = (t, ts, refl, h, g)
part_like t ts (Ok p) (Err e) h g = tt
part_like t ts (Err e) r h g = tt

hole_like : (i : Identifier) (o : Option Occ) (ts : Trees Identifier) (tail : Tail Identifier) → RowLike (tree (name i o) ts) tail (hole_behind (name i o) (one_of ts tail))
hole_like i o no_trees tail = tt
hole_like i o (tree t no_trees) proper = ((name i o, tree t no_trees, refl, (i, refl, refl), (t, no_trees, refl, tt, refl)), refl)
hole_like i o (tree t no_trees) (dotted u) = tt
hole_like i o (tree t (tree u us)) tail = tt

by_mark_like : (m : Option Mark) (level : ℕ) (t : Tree Identifier) (ts : Trees Identifier) (tail : Tail Identifier) (hole rest : Result (RowPieces Identifier) (Fault Identifier)) (first : Result (Pieces Identifier) (Fault Identifier)) →
    RowLike (tree t ts) tail hole → PiecesLike t first → RowLike ts tail rest → RowLike (tree t ts) tail (pair_by m level hole first rest)
by_mark_like None level t ts tail hole rest first h p r = before_like t ts tail first rest p r
by_mark_like (Some Nested) level t ts tail hole rest first h p r = before_like t ts tail first rest p r
by_mark_like (Some Unquoted) zero t ts tail hole rest first h p r = h
by_mark_like (Some Unquoted) (suc level) t ts tail hole rest first h p r = before_like t ts tail first rest p r
by_mark_like (Some Spliced) zero t ts tail hole rest first h p r = tt
by_mark_like (Some Spliced) (suc level) t ts tail hole rest first h p r = before_like t ts tail first rest p r

end_like : (t : Tree Identifier) (p : Result (Pieces Identifier) (Fault Identifier)) → PiecesLike t p → RowLike no_trees (dotted t) (p >> λ p. Ok (row_pieces no_trees (dotted p.datum) p.holes))
end_like t (Ok p) h = (refl, (t, refl, h))
end_like t (Err e) h = tt

module _ (mark : Identifier → Option Mark) where
  element_like : (level : ℕ) (t : Tree Identifier) (datum : Result (Pieces Identifier) (Fault Identifier)) → PiecesLike t datum → PiecesLike t (element_by mark level t datum)
  element_like level (name i o) datum h = h
  element_like level (atom a o) datum h = h
  element_like level (vector ts o) datum h = h
  element_like level (list no_trees tail o) datum h = h
  element_like level (list (tree (name i p) ts) tail o) datum h = go (is_splice (mark i) level)
    where
      go : (b : Bool) → PiecesLike (list (tree (name i p) ts) tail o) (if b then (hole_behind (name i p) (one_of ts tail) >> λ r. Ok (listed o r)) else datum)
      go true = list_like (tree (name i p) ts) tail o (hole_behind (name i p) (one_of ts tail)) (hole_like i p ts tail)
      go false = h
  element_like level (list (tree (atom a p) ts) tail o) datum h = h
  element_like level (list (tree (list us end p) ts) tail o) datum h = h
  element_like level (list (tree (vector us p) ts) tail o) datum h = h

  pair_like : (level : ℕ) (t : Tree Identifier) (ts : Trees Identifier) (tail : Tail Identifier) (first : Result (Pieces Identifier) (Fault Identifier)) (rest : Result (RowPieces Identifier) (Fault Identifier)) → PiecesLike t first → RowLike ts tail rest →
      RowLike (tree t ts) tail (pair_by (mark_in mark t) level (hole_behind t (one_of ts tail)) first rest)
  pair_like level (name i o) ts tail first rest p r = by_mark_like (mark i) level (name i o) ts tail (hole_behind (name i o) (one_of ts tail)) rest first (hole_like i o ts tail) p r
  pair_like level (atom a o) ts tail first rest p r = before_like (atom a o) ts tail first rest p r
  pair_like level (list us end o) ts tail first rest p r = before_like (list us end o) ts tail first rest p r
  pair_like level (vector us o) ts tail first rest p r = before_like (vector us o) ts tail first rest p r

  mutual
    datum_like : (level : ℕ) (t : Tree Identifier) → PiecesLike t (datum_at mark level t)
    datum_like level (name i o) = (i, refl, refl)
    datum_like level (atom a o) = refl
    datum_like level (list ts tail o) = list_like ts tail o (pair_at mark level ts tail (tail_at mark tail)) (row_like level ts tail (tail_at mark tail) (λ l. tail_like tail l))
    datum_like level (vector ts o) = vector_like ts o (elements_at mark level ts) (elements_like level ts)

    row_like : (level : ℕ) (ts : Trees Identifier) (tail : Tail Identifier) (end : ℕ → Result (RowPieces Identifier) (Fault Identifier)) → ((l : ℕ) → RowLike no_trees tail (end l)) → RowLike ts tail (pair_at mark level ts tail end)
    row_like level no_trees tail end h = h level
    row_like level (tree t ts) tail end h =
        pair_like level t ts tail (element_by mark level t (datum_at mark level t)) (pair_at mark (level_behind (mark_in mark t) level) ts tail end) (element_like level t (datum_at mark level t) (datum_like level t)) (row_like (level_behind (mark_in mark t) level) ts tail end h)

    elements_like : (level : ℕ) (ts : Trees Identifier) → PartsLike ts (elements_at mark level ts)
    elements_like level no_trees = refl
    elements_like level (tree t ts) = part_like t ts (element_by mark level t (datum_at mark level t)) (elements_at mark level ts) (element_like level t (datum_at mark level t) (datum_like level t)) (elements_like level ts)

    tail_like : (tail : Tail Identifier) (level : ℕ) → RowLike no_trees tail (tail_at mark tail level)
    tail_like proper level = (refl, refl)
    tail_like (dotted t) level = end_like t (datum_at mark level t) (datum_like level t)

-- ---- symbols in place of identifiers

module _ (f : Identifier → List ℕ) where
  mutual
    like_map : (t : Tree Identifier) (d : Tree (Option Identifier)) → IsLike Fills t d → IsLike (FillsHole f) t (map_tree (symbol_or_hole f) d)
    like_map t (name None o) h = tt
    like_map t (name (Some i) o) h = (h.0, h.1, ap f h.2)
    like_map t (atom a o) h = h
    like_map t (list us end o) h = (h.0, h.1, h.2, likes_map h.0 us h.3, tail_map h.1 end h.4)
    like_map t (vector us o) h = (h.0, h.1, likes_map h.0 us h.2)

    likes_map : (ts : Trees Identifier) (us : Trees (Option Identifier)) → AreLike Fills ts us → AreLike (FillsHole f) ts (map_trees (symbol_or_hole f) us)
    likes_map ts no_trees h = h
    likes_map ts (tree u us) h = (h.0, h.1, h.2, like_map h.0 u h.3, likes_map h.1 us h.4)

    tail_map : (tail : Tail Identifier) (end : Tail (Option Identifier)) → IsTailLike Fills tail end → IsTailLike (FillsHole f) tail (map_tail (symbol_or_hole f) end)
    tail_map tail proper h = h
    tail_map tail (dotted u) h = (h.0, h.1, like_map h.0 u h.2)

  mutual
    weight_map : (d : Tree (Option Identifier)) → weight hole_weight (map_tree (symbol_or_hole f) d) ≡ weight hole_weight d
    weight_map (name None o) = refl
    weight_map (name (Some i) o) = refl
    weight_map (atom a o) = refl
    weight_map (list us end o) = (λ j. weights_map us j + tail_weight_map end j + 1)
    weight_map (vector us o) = (λ j. weights_map us j + 1)

    weights_map : (us : Trees (Option Identifier)) → weights hole_weight (map_trees (symbol_or_hole f) us) ≡ weights hole_weight us
    weights_map no_trees = refl
    weights_map (tree u us) = (λ j. weight_map u j + weights_map us j)

    tail_weight_map : (end : Tail (Option Identifier)) → tail_weight hole_weight (map_tail (symbol_or_hole f) end) ≡ tail_weight hole_weight end
    tail_weight_map proper = refl
    tail_weight_map (dotted u) = weight_map u

  mutual
    places_map : (n : ℕ) (d : Tree (Option Identifier)) → places_in hole_weight n (map_tree (symbol_or_hole f) d) ≡ places_in hole_weight n d
    places_map n (name None o) = refl
    places_map n (name (Some i) o) = refl
    places_map n (atom a o) = refl
    places_map n (list us end o) =
        (λ j. places_among hole_weight (n + 1) (map_trees (symbol_or_hole f) us) ++ places_behind hole_weight (n + 1 + weights_map us j) (map_tail (symbol_or_hole f) end))
        ∙ (λ j. among_map (n + 1) us j ++ behind_map (n + 1 + weights hole_weight us) end j)
    places_map n (vector us o) = among_map (n + 1) us

    among_map : (n : ℕ) (us : Trees (Option Identifier)) → places_among hole_weight n (map_trees (symbol_or_hole f) us) ≡ places_among hole_weight n us
    among_map n no_trees = refl
    among_map n (tree u us) =
        (λ j. places_in hole_weight n (map_tree (symbol_or_hole f) u) ++ places_among hole_weight (n + weight_map u j) (map_trees (symbol_or_hole f) us))
        ∙ (λ j. places_map n u j ++ among_map (n + weight hole_weight u) us j)

    behind_map : (n : ℕ) (end : Tail (Option Identifier)) → places_behind hole_weight n (map_tail (symbol_or_hole f) end) ≡ places_behind hole_weight n end
    behind_map n proper = refl
    behind_map n (dotted u) = places_map n u

  -- what was read of a quasiquotation has its holes, and these their places
  pub quasi_holes : (mark : Identifier → Option Mark) (t : Tree Identifier) (p : Pieces Identifier) → quasi_of mark t ≡ Ok p → HasHoles f t (map_tree (symbol_or_hole f) p.datum)
  quasi_holes mark t p h = like_map t p.datum (subst (PiecesLike t) h (datum_like mark zero t))

  pub quasi_places : (p : Pieces Identifier) → hole_places (map_tree (symbol_or_hole f) p.datum) ≡ hole_places p.datum
  quasi_places p = places_map 0 p.datum
