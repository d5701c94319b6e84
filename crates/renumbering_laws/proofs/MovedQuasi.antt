-- Reading a quasiquotation commutes with a change under which each identifier marks the same.
use Rattle.std.proofs.Common.{◌≡◌, ℕ, zero, suc, List, [], ◌∷◌, map, Option, Some, None, Result, Ok, Err, refl, sym, ap, ◌∙◌, subst}
use Rattle.scheme_model.specs.Trees.{Tree, name, atom, list, vector, Trees, no_trees, tree, Tail, proper, dotted}
use Rattle.scheme_model.specs.ExpansionFaults.{Fault}
use Rattle.scheme_model.specs.Shapes.{one_of}
use Rattle.scheme_model.specs.RulesShape.{option_map}
use Rattle.scheme_model.specs.Quasiquote.{Mark, Nested, Unquoted, Spliced, Pieces, RowPieces, row_pieces, before, mark_in, level_behind, hole_behind, pair_by, is_splice, element_by, datum_at, pair_at, tail_at, elements_at, quasi_of, first_name, marks_by, marks_at, pair_marks, tail_marks, element_marks, datum_marks, marks_in}
use Rattle.scheme_model.proofs.RenamingLaws.{append_map, map-append}
use Rattle.renumbering_laws.specs.Moving.{Change, move_tree, move_trees, move_tail}
use Rattle.renumbering_laws.proofs.MovedParts.{KeepsNone, on_some, move_result, move_pieces}
use Rattle.renumbering_laws.proofs.MovingSteps.{Reads, reads, then_map, cond_reads}
use Rattle.renumbering_laws.proofs.MovedShapes.{one_of-map}
use Rattle.renumbering_laws.proofs.Turned.{tree_turned}

module _ (A B : Type 0) (f : Change A B) (none : KeepsNone f) where
  abbrev row_map : RowPieces A → RowPieces B
  row_map r = record { parts = move_trees (on_some f) r.parts; tail = move_tail (on_some f) r.tail; holes = map (move_tree f) r.holes }

  before-map : (p : Pieces A) (r : RowPieces A) → before (move_pieces f p) (row_map r) ≡ row_map (before p r)
  before-map p r = ap (λ hs. row_pieces (tree (move_tree (on_some f) p.datum) (move_trees (on_some f) r.parts)) (move_tail (on_some f) r.tail) hs) (sym (map-append (move_tree f) p.holes r.holes))

  -- the one operand of a mark
  hole_goes : (t : Tree A) (q : Result (Tree A) (Fault A)) → Reads f row_map (hole_behind t q) (hole_behind (move_tree f t) (move_result f (move_tree f) q))
  hole_goes t (Ok e) =
      let d = tree_turned A B (Option A) (Option B) f.at f.on (option_map f.on) Some Some (λ i. refl) t in let z = sym none in
      reads (λ j. Ok (row_pieces (tree (d j) (tree (name None (z j)) no_trees)) proper (move_tree f e ∷ [])))
  hole_goes t (Err e) = reads refl

  hole_behind-map : (t : Tree A) {q : Result (Tree A) (Fault A)} {q' : Result (Tree B) (Fault B)} → Reads f (move_tree f) q q' → Reads f row_map (hole_behind t q) (hole_behind (move_tree f t) q')
  hole_behind-map t {q} {q'} (reads e) = subst (λ (x : Result (Tree B) (Fault B)). Reads f row_map (hole_behind t q) (hole_behind (move_tree f t) x)) (sym e) (hole_goes t q)

  pair_by-map : (m : Option Mark) (level : ℕ) {hole : Result (RowPieces A) (Fault A)} {hole' : Result (RowPieces B) (Fault B)} {first : Result (Pieces A) (Fault A)} {first' : Result (Pieces B) (Fault B)}
      {rest : Result (RowPieces A) (Fault A)} {rest' : Result (RowPieces B) (Fault B)} → Reads f row_map hole hole' → Reads f (move_pieces f) first first' → Reads f row_map rest rest'
      → Reads f row_map (pair_by m level hole first rest) (pair_by m level hole' first' rest')
  pair_by-map None level h a b = then_map _ a (λ p. then_map _ b (λ r. reads (ap Ok (before-map p r))))
  pair_by-map (Some Nested) level h a b = then_map _ a (λ p. then_map _ b (λ r. reads (ap Ok (before-map p r))))
  pair_by-map (Some Unquoted) zero h a b = h
  pair_by-map (Some Unquoted) (suc level) h a b = then_map _ a (λ p. then_map _ b (λ r. reads (ap Ok (before-map p r))))
  pair_by-map (Some Spliced) zero h a b = reads refl
  pair_by-map (Some Spliced) (suc level) h a b = then_map _ a (λ p. then_map _ b (λ r. reads (ap Ok (before-map p r))))

  module _ (mark : A → Option Mark) (mark' : B → Option Mark) (same_mark : (i : A) → mark' (f.on i) ≡ mark i) where
    mark_in-same : (t : Tree A) → mark_in mark' (move_tree f t) ≡ mark_in mark t
    mark_in-same (name i o) = same_mark i
    mark_in-same (atom a o) = refl
    mark_in-same (list ts tail o) = refl
    mark_in-same (vector ts o) = refl

    element_by-map : (level : ℕ) (t : Tree A) {datum : Result (Pieces A) (Fault A)} {datum' : Result (Pieces B) (Fault B)} → Reads f (move_pieces f) datum datum'
        → Reads f (move_pieces f) (element_by mark level t datum) (element_by mark' level (move_tree f t) datum')
    element_by-map level (name i o) h = h
    element_by-map level (atom a o) h = h
    element_by-map level (vector ts o) h = h
    element_by-map level (list no_trees tail o) h = h
    element_by-map level (list (tree t ts) tail o) h =
        cond_reads (ap (λ m. is_splice m level) (mark_in-same t)) (then_map _ (hole_behind-map t (one_of-map A B f ts tail)) (λ r. reads refl)) h

    mutual
      datum_at-map : (level : ℕ) (t : Tree A) → Reads f (move_pieces f) (datum_at mark level t) (datum_at mark' level (move_tree f t))
      datum_at-map level (name i o) = reads refl
      datum_at-map level (atom a o) = reads refl
      datum_at-map level (list ts tail o) = then_map _ (pair_at-map level ts tail (tail_at mark tail) (tail_at mark' (move_tail f tail)) (λ l. tail_at-map tail l)) (λ r. reads refl)
      datum_at-map level (vector ts o) = then_map _ (elements_at-map level ts) (λ r. reads refl)

      pair_at-map : (level : ℕ) (ts : Trees A) (tail : Tail A) (end : ℕ → Result (RowPieces A) (Fault A)) (end' : ℕ → Result (RowPieces B) (Fault B)) → ((l : ℕ) → Reads f row_map (end l) (end' l))
          → Reads f row_map (pair_at mark level ts tail end) (pair_at mark' level (move_trees f ts) (move_tail f tail) end')
      pair_at-map level no_trees tail end end' h = h level
      pair_at-map level (tree t ts) tail end end' h =
          subst (λ (m : Option Mark). Reads f row_map (pair_at mark level (tree t ts) tail end)
          (pair_by m level (hole_behind (move_tree f t) (one_of (move_trees f ts) (move_tail f tail))) (element_by mark' level (move_tree f t) (datum_at mark' level (move_tree f t))) (pair_at mark' (level_behind m level) (move_trees f ts) (move_tail f tail) end')))
          (sym (mark_in-same t))
          (pair_by-map (mark_in mark t) level (hole_behind-map t (one_of-map A B f ts tail)) (element_by-map level t (datum_at-map level t)) (pair_at-map (level_behind (mark_in mark t) level) ts tail end end' h))

      tail_at-map : (tail : Tail A) (level : ℕ) → Reads f row_map (tail_at mark tail level) (tail_at mark' (move_tail f tail) level)
      tail_at-map proper level = reads refl
      tail_at-map (dotted t) level = then_map _ (datum_at-map level t) (λ p. reads refl)

      elements_at-map : (level : ℕ) (ts : Trees A) → Reads f row_map (elements_at mark level ts) (elements_at mark' level (move_trees f ts))
      elements_at-map level no_trees = reads refl
      elements_at-map level (tree t ts) = then_map _ (element_by-map level t (datum_at-map level t)) (λ p. then_map _ (elements_at-map level ts) (λ r. reads (ap Ok (before-map p r))))

    -- ---- of which identifiers it is asked what they mark

    first_name-map : (t : Tree A) → first_name (move_tree f t) ≡ map f.on (first_name t)
    first_name-map (name i o) = refl
    first_name-map (atom a o) = refl
    first_name-map (list ts tail o) = refl
    first_name-map (vector ts o) = refl

    marks_by-map : (m : Option Mark) (level : ℕ) (first rest : List A) → marks_by m level (map f.on first) (map f.on rest) ≡ map f.on (marks_by m level first rest)
    marks_by-map None level first rest = sym (map-append f.on first rest)
    marks_by-map (Some Nested) level first rest = sym (map-append f.on first rest)
    marks_by-map (Some Unquoted) zero first rest = refl
    marks_by-map (Some Unquoted) (suc level) first rest = sym (map-append f.on first rest)
    marks_by-map (Some Spliced) zero first rest = refl
    marks_by-map (Some Spliced) (suc level) first rest = sym (map-append f.on first rest)

    mutual
      marks_at-map : (level : ℕ) (t : Tree A) → marks_at mark' level (move_tree f t) ≡ map f.on (marks_at mark level t)
      marks_at-map level (name i o) = refl
      marks_at-map level (atom a o) = refl
      marks_at-map level (list ts tail o) = pair_marks-map level ts (tail_marks mark tail) (tail_marks mark' (move_tail f tail)) (λ l. tail_marks-map tail l)
      marks_at-map level (vector ts o) = element_marks-map level ts

      pair_marks-map : (level : ℕ) (ts : Trees A) (end : ℕ → List A) (end' : ℕ → List B) → ((l : ℕ) → end' l ≡ map f.on (end l)) → pair_marks mark' level (move_trees f ts) end' ≡ map f.on (pair_marks mark level ts end)
      pair_marks-map level no_trees end end' h = h level
      pair_marks-map level (tree t ts) end end' h =
          let m = mark_in-same t in let a = first_name-map t in let b = marks_at-map level t in
          append_map f.on (first_name t) (marks_by (mark_in mark t) level (marks_at mark level t) (pair_marks mark (level_behind (mark_in mark t) level) ts end)) a
          ((λ j. marks_by (m j) level (b j) (pair_marks mark' (level_behind (m j) level) (move_trees f ts) end'))
          ∙ ap (marks_by (mark_in mark t) level (map f.on (marks_at mark level t))) (pair_marks-map (level_behind (mark_in mark t) level) ts end end' h)
          ∙ marks_by-map (mark_in mark t) level (marks_at mark level t) (pair_marks mark (level_behind (mark_in mark t) level) ts end))

      tail_marks-map : (tail : Tail A) (level : ℕ) → tail_marks mark' (move_tail f tail) level ≡ map f.on (tail_marks mark tail level)
      tail_marks-map proper level = refl
      tail_marks-map (dotted t) level = marks_at-map level t

      element_marks-map : (level : ℕ) (ts : Trees A) → element_marks mark' level (move_trees f ts) ≡ map f.on (element_marks mark level ts)
      element_marks-map level no_trees = refl
      element_marks-map level (tree t ts) = append_map f.on (marks_at mark level t) (element_marks mark level ts) (marks_at-map level t) (element_marks-map level ts)

    datum_marks-map : {q : Result (Tree A) (Fault A)} {q' : Result (Tree B) (Fault B)} → Reads f (move_tree f) q q' → datum_marks mark' q' ≡ map f.on (datum_marks mark q)
    datum_marks-map {q} (reads e) = ap (datum_marks mark') e ∙ go q
      where
        go : (x : Result (Tree A) (Fault A)) → datum_marks mark' (move_result f (move_tree f) x) ≡ map f.on (datum_marks mark x)
        go (Ok t) = marks_at-map zero t
        go (Err d) = refl

    pub marks_in-map : (ts : Trees A) (tail : Tail A) → marks_in mark' (move_trees f ts) (move_tail f tail) ≡ map f.on (marks_in mark ts tail)
    marks_in-map ts tail = datum_marks-map (one_of-map A B f ts tail)

    -- ---- the datum

    pub quasi_of-map : (t : Tree A) → Reads f (move_pieces f) (quasi_of mark t) (quasi_of mark' (move_tree f t))
    quasi_of-map t = datum_at-map zero t
