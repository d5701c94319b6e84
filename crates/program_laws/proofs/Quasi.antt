-- What a quasiquotation leaves to be evaluated is no larger than the datum, and no reading of one ends the turns.
use Rattle.std.proofs.Common.{ℕ, zero, suc, ◌≤◌, List, [], ◌∷◌, ◌++◌, Option, Some, None, Result, Ok, Err, arith}
use Rattle.scheme_model.specs.Trees.{Tree, name, atom, list, vector, Trees, no_trees, tree, Tail, proper, dotted}
use Rattle.scheme_model.specs.Measures.{tree_size, trees_size, tail_size}
use Rattle.scheme_model.specs.ExpansionFaults.{Fault, ◌>>◌}
use Rattle.scheme_model.specs.Shapes.{one_of}
use Rattle.scheme_model.specs.Quasiquote.{Mark, Nested, Unquoted, Spliced, Pieces, RowPieces, pieces, row_pieces, before, listed, mark_in, level_behind, hole_behind, pair_by, is_splice, element_by, datum_at, pair_at, tail_at, elements_at, quasi_of}
use Rattle.program_laws.proofs.Faults.{Gives, then_gives, either_gives}
use Rattle.program_laws.proofs.Shapes.{TreeWithin, one_within}

module _ {A : Type 0} (n : ℕ) where
  abbrev pub AllWithin : List (Tree A) → Type 0
  AllWithin [] = Unit {0}
  AllWithin (t ∷ ts) = (tree_size t ≤ n) × AllWithin ts

  abbrev pub HolesWithin : Pieces A → Type 0
  HolesWithin p = AllWithin p.holes

  abbrev RowWithin : RowPieces A → Type 0
  RowWithin r = AllWithin r.holes

  both_within : (ts us : List (Tree A)) → AllWithin ts → AllWithin us → AllWithin (ts ++ us)
  both_within [] us h k = k
  both_within (t ∷ ts) us h k = (h.0, both_within ts us h.1 k)

  hole_of : (t : Tree A) (m : ℕ) (r : Result (Tree A) (Fault A)) → m ≤ n → Gives (TreeWithin m) r → Gives RowWithin (hole_behind t r)
  hole_of t m (Ok e) le h = (omega arith, tt)
  hole_of t m (Err e) le h = tt

  hole_within : (t : Tree A) (ts : Trees A) (tail : Tail A) → trees_size ts ≤ n → Gives RowWithin (hole_behind t (one_of ts tail))
  hole_within t ts tail le = hole_of t (trees_size ts) (one_of ts tail) le (one_within ts tail)

  rest_within : (first : Result (Pieces A) (Fault A)) (rest : Result (RowPieces A) (Fault A)) → Gives HolesWithin first → Gives RowWithin rest → Gives RowWithin (first >> λ p. rest >> λ r. Ok (before p r))
  rest_within first rest h k = then_gives HolesWithin RowWithin first (λ p. rest >> λ r. Ok (before p r)) h (λ p x. then_gives RowWithin RowWithin rest (λ r. Ok (before p r)) k (λ r y. both_within p.holes r.holes x y))

  pair_by_within : (m : Option Mark) (level : ℕ) (hole : Result (RowPieces A) (Fault A)) (first : Result (Pieces A) (Fault A)) (rest : Result (RowPieces A) (Fault A))
      → Gives RowWithin hole → Gives HolesWithin first → Gives RowWithin rest → Gives RowWithin (pair_by m level hole first rest)
  pair_by_within None level hole first rest h k l = rest_within first rest k l
  pair_by_within (Some Nested) level hole first rest h k l = rest_within first rest k l
  pair_by_within (Some Unquoted) zero hole first rest h k l = h
  pair_by_within (Some Unquoted) (suc level) hole first rest h k l = rest_within first rest k l
  pair_by_within (Some Spliced) zero hole first rest h k l = tt
  pair_by_within (Some Spliced) (suc level) hole first rest h k l = rest_within first rest k l

  module _ (mark : A → Option Mark) where
    element_within : (level : ℕ) (t : Tree A) (datum : Result (Pieces A) (Fault A)) → tree_size t ≤ n → Gives HolesWithin datum → Gives HolesWithin (element_by mark level t datum)
    element_within level (name i o) datum le h = h
    element_within level (atom a o) datum le h = h
    element_within level (vector ts o) datum le h = h
    element_within level (list no_trees tail o) datum le h = h
    element_within level (list (tree t ts) tail o) datum le h =
        either_gives HolesWithin (is_splice (mark_in mark t) level) (hole_behind t (one_of ts tail) >> λ r. Ok (listed o r)) datum
        (then_gives RowWithin HolesWithin (hole_behind t (one_of ts tail)) (λ r. Ok (listed o r)) (hole_within t ts tail (omega arith)) (λ r x. x)) h

    mutual
      datum_within : (t : Tree A) (level : ℕ) → tree_size t ≤ n → Gives HolesWithin (datum_at mark level t)
      datum_within (name i o) level le = tt
      datum_within (atom a o) level le = tt
      datum_within (list ts tail o) level le =
          then_gives RowWithin HolesWithin (pair_at mark level ts tail (tail_at mark tail)) (λ r. Ok (listed o r)) (pair_within ts level tail (tail_at mark tail) (omega arith) (λ l. tail_within tail l (omega arith))) (λ r h. h)
      datum_within (vector ts o) level le = then_gives RowWithin HolesWithin (elements_at mark level ts) (λ r. Ok (pieces (vector r.parts o) r.holes)) (elements_within ts level (omega arith)) (λ r h. h)

      pair_within : (ts : Trees A) (level : ℕ) (tail : Tail A) (end : ℕ → Result (RowPieces A) (Fault A)) → trees_size ts ≤ n → ((l : ℕ) → Gives RowWithin (end l)) → Gives RowWithin (pair_at mark level ts tail end)
      pair_within no_trees level tail end le h = h level
      pair_within (tree t ts) level tail end le h =
          pair_by_within (mark_in mark t) level (hole_behind t (one_of ts tail)) (element_by mark level t (datum_at mark level t)) (pair_at mark (level_behind (mark_in mark t) level) ts tail end)
          (hole_within t ts tail (omega arith)) (element_within level t (datum_at mark level t) (omega arith) (datum_within t level (omega arith))) (pair_within ts (level_behind (mark_in mark t) level) tail end (omega arith) h)

      tail_within : (tail : Tail A) (level : ℕ) → tail_size tail ≤ n → Gives RowWithin (tail_at mark tail level)
      tail_within proper level le = tt
      tail_within (dotted t) level le = then_gives HolesWithin RowWithin (datum_at mark level t) (λ p. Ok (row_pieces no_trees (dotted p.datum) p.holes)) (datum_within t level le) (λ p h. h)

      elements_within : (ts : Trees A) (level : ℕ) → trees_size ts ≤ n → Gives RowWithin (elements_at mark level ts)
      elements_within no_trees level le = tt
      elements_within (tree t ts) level le =
          then_gives HolesWithin RowWithin (element_by mark level t (datum_at mark level t)) (λ p. elements_at mark level ts >> λ r. Ok (before p r)) (element_within level t (datum_at mark level t) (omega arith) (datum_within t level (omega arith)))
          (λ p h. then_gives RowWithin RowWithin (elements_at mark level ts) (λ r. Ok (before p r)) (elements_within ts level (omega arith)) (λ r k. both_within p.holes r.holes h k))

    pub quasi_within : (t : Tree A) → tree_size t ≤ n → Gives HolesWithin (quasi_of mark t)
    quasi_within t le = datum_within t zero le
