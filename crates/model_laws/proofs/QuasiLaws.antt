-- Reading a quasiquotation commutes with a renaming under which each identifier marks the same.
use Rattle.std.proofs.Common.{◌≡◌, ℕ, zero, suc, [], ◌∷◌, map, Option, Some, None, Result, Ok, Err, refl, sym, ap, ◌∙◌, subst}
use Rattle.scheme_model.specs.Trees.{Tree, name, atom, list, vector, Trees, no_trees, tree, Tail, proper, dotted, map_tree, map_trees, map_tail}
use Rattle.scheme_model.specs.ExpansionFaults.{Fault}
use Rattle.scheme_model.specs.Shapes.{one_of}
use Rattle.scheme_model.specs.RulesShape.{option_map}
use Rattle.scheme_model.specs.Quasiquote.{Mark, Nested, Unquoted, Spliced, Pieces, RowPieces, row_pieces, before, mark_in, level_behind, hole_behind, pair_by, is_splice, element_by, datum_at, pair_at, tail_at, elements_at, quasi_of}
use Rattle.scheme_model.specs.Renaming.{result_map, pieces_map}
use Rattle.scheme_model.proofs.RenamingLaws.{Reads, reads, then_map, cond_reads, map-append}
use Rattle.scheme_model.proofs.ScopeLaws.{map_map}
use Rattle.scheme_model.proofs.ShapeLaws.{one_of-map}

module _ (A B : Type 0) (f : A → B) where
  abbrev row_map : RowPieces A → RowPieces B
  row_map r = record { parts = map_trees (option_map f) r.parts; tail = map_tail (option_map f) r.tail; holes = map (map_tree f) r.holes }

  before-map : (p : Pieces A) (r : RowPieces A) → before (pieces_map f p) (row_map r) ≡ row_map (before p r)
  before-map p r = ap (λ hs. row_pieces (tree (map_tree (option_map f) p.datum) (map_trees (option_map f) r.parts)) (map_tail (option_map f) r.tail) hs) (sym (map-append (map_tree f) p.holes r.holes))

  -- the one operand of a mark
  hole_goes : (t : Tree A) (q : Result (Tree A) (Fault A)) → Reads f row_map (hole_behind t q) (hole_behind (map_tree f t) (result_map f (map_tree f) q))
  hole_goes t (Ok e) = reads (ap (λ d. Ok (row_pieces (tree d (tree (name None None) no_trees)) proper (map_tree f e ∷ []))) (map_map Some f t ∙ sym (map_map (option_map f) Some t)))
  hole_goes t (Err e) = reads refl

  hole_behind-map : (t : Tree A) {q : Result (Tree A) (Fault A)} {q' : Result (Tree B) (Fault B)} → Reads f (map_tree f) q q' → Reads f row_map (hole_behind t q) (hole_behind (map_tree f t) q')
  hole_behind-map t {q} {q'} (reads e) = subst (λ (x : Result (Tree B) (Fault B)). Reads f row_map (hole_behind t q) (hole_behind (map_tree f t) x)) (sym e) (hole_goes t q)

  pair_by-map : (m : Option Mark) (level : ℕ) {hole : Result (RowPieces A) (Fault A)} {hole' : Result (RowPieces B) (Fault B)} {first : Result (Pieces A) (Fault A)} {first' : Result (Pieces B) (Fault B)}
      {rest : Result (RowPieces A) (Fault A)} {rest' : Result (RowPieces B) (Fault B)} → Reads f row_map hole hole' → Reads f (pieces_map f) first first' → Reads f row_map rest rest'
      → Reads f row_map (pair_by m level hole first rest) (pair_by m level hole' first' rest')
  pair_by-map None level h a b = then_map _ a (λ p. then_map _ b (λ r. reads (ap Ok (before-map p r))))
  pair_by-map (Some Nested) level h a b = then_map _ a (λ p. then_map _ b (λ r. reads (ap Ok (before-map p r))))
  pair_by-map (Some Unquoted) zero h a b = h
  pair_by-map (Some Unquoted) (suc level) h a b = then_map _ a (λ p. then_map _ b (λ r. reads (ap Ok (before-map p r))))
  pair_by-map (Some Spliced) zero h a b = reads refl
  pair_by-map (Some Spliced) (suc level) h a b = then_map _ a (λ p. then_map _ b (λ r. reads (ap Ok (before-map p r))))

  module _ (mark : A → Option Mark) (mark' : B → Option Mark) (same_mark : (i : A) → mark' (f i) ≡ mark i) where
    mark_in-same : (t : Tree A) → mark_in mark' (map_tree f t) ≡ mark_in mark t
    mark_in-same (name i o) = same_mark i
    mark_in-same (atom a o) = refl
    mark_in-same (list ts tail o) = refl
    mark_in-same (vector ts o) = refl

    element_by-map : (level : ℕ) (t : Tree A) {datum : Result (Pieces A) (Fault A)} {datum' : Result (Pieces B) (Fault B)} → Reads f (pieces_map f) datum datum'
        → Reads f (pieces_map f) (element_by mark level t datum) (element_by mark' level (map_tree f t) datum')
    element_by-map level (name i o) h = h
    element_by-map level (atom a o) h = h
    element_by-map level (vector ts o) h = h
    element_by-map level (list no_trees tail o) h = h
    element_by-map level (list (tree t ts) tail o) h =
        cond_reads (ap (λ m. is_splice m level) (mark_in-same t)) (then_map _ (hole_behind-map t (one_of-map A B f ts tail)) (λ r. reads refl)) h

    mutual
      datum_at-map : (level : ℕ) (t : Tree A) → Reads f (pieces_map f) (datum_at mark level t) (datum_at mark' level (map_tree f t))
      datum_at-map level (name i o) = reads refl
      datum_at-map level (atom a o) = reads refl
      datum_at-map level (list ts tail o) = then_map _ (pair_at-map level ts tail (tail_at mark tail) (tail_at mark' (map_tail f tail)) (λ l. tail_at-map tail l)) (λ r. reads refl)
      datum_at-map level (vector ts o) = then_map _ (elements_at-map level ts) (λ r. reads refl)

      pair_at-map : (level : ℕ) (ts : Trees A) (tail : Tail A) (end : ℕ → Result (RowPieces A) (Fault A)) (end' : ℕ → Result (RowPieces B) (Fault B)) → ((l : ℕ) → Reads f row_map (end l) (end' l))
          → Reads f row_map (pair_at mark level ts tail end) (pair_at mark' level (map_trees f ts) (map_tail f tail) end')
      pair_at-map level no_trees tail end end' h = h level
      pair_at-map level (tree t ts) tail end end' h =
          subst (λ (m : Option Mark). Reads f row_map (pair_at mark level (tree t ts) tail end)
          (pair_by m level (hole_behind (map_tree f t) (one_of (map_trees f ts) (map_tail f tail))) (element_by mark' level (map_tree f t) (datum_at mark' level (map_tree f t))) (pair_at mark' (level_behind m level) (map_trees f ts) (map_tail f tail) end')))
          (sym (mark_in-same t))
          (pair_by-map (mark_in mark t) level (hole_behind-map t (one_of-map A B f ts tail)) (element_by-map level t (datum_at-map level t)) (pair_at-map (level_behind (mark_in mark t) level) ts tail end end' h))

      tail_at-map : (tail : Tail A) (level : ℕ) → Reads f row_map (tail_at mark tail level) (tail_at mark' (map_tail f tail) level)
      tail_at-map proper level = reads refl
      tail_at-map (dotted t) level = then_map _ (datum_at-map level t) (λ p. reads refl)

      elements_at-map : (level : ℕ) (ts : Trees A) → Reads f row_map (elements_at mark level ts) (elements_at mark' level (map_trees f ts))
      elements_at-map level no_trees = reads refl
      elements_at-map level (tree t ts) = then_map _ (element_by-map level t (datum_at-map level t)) (λ p. then_map _ (elements_at-map level ts) (λ r. reads (ap Ok (before-map p r))))

    pub quasi_of-map : (t : Tree A) → Reads f (pieces_map f) (quasi_of mark t) (quasi_of mark' (map_tree f t))
    quasi_of-map t = datum_at-map zero t
