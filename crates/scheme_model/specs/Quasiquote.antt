-- Quasiquoted data (R7RS 4.2.8): a tree with a hole for each expression that is unquoted at level 0, and these expressions.
-- A list is its first datum and the rest, so `(a unquote b)` is `(a . ,b)`.
use Rattle.std.specs.Prelude.{ℕ, zero, suc, List, [], ◌∷◌, ◌++◌, Bool, true, false, Option, Some, None, Result, Ok, Err, if◌then◌else◌}
use Rattle.scheme_model.specs.declared.Occ.{Occ}
use Rattle.scheme_model.specs.Trees.{Tree, name, atom, list, vector, Trees, no_trees, tree, Tail, proper, dotted, map_tree}
use Rattle.scheme_model.specs.ExpansionFaults.{Fault, BadQuasi, ◌>>◌}
use Rattle.scheme_model.specs.Shapes.{one_of}

-- what an identifier in a quasiquotation marks
pub data Mark : Type 0 where
  Nested : Mark
  Unquoted : Mark
  Spliced : Mark

-- a datum with holes, or parts of one with their tail, and what stands in the holes
pub record Pieces (A : Type 0) : Type 0 where
  pub datum : Tree (Option A)
  pub holes : List (Tree A)

pub record RowPieces (A : Type 0) : Type 0 where
  pub parts : Trees (Option A)
  pub tail : Tail (Option A)
  pub holes : List (Tree A)

abbrev pub pieces : {A : Type 0} → Tree (Option A) → List (Tree A) → Pieces A
pieces datum holes = record { datum = datum; holes = holes }

abbrev pub row_pieces : {A : Type 0} → Trees (Option A) → Tail (Option A) → List (Tree A) → RowPieces A
row_pieces parts tail holes = record { parts = parts; tail = tail; holes = holes }

-- one part before others
abbrev pub before : {A : Type 0} → Pieces A → RowPieces A → RowPieces A
before p r = row_pieces (tree p.datum r.parts) r.tail (p.holes ++ r.holes)

abbrev pub listed : {A : Type 0} → Option Occ → RowPieces A → Pieces A
listed o r = pieces (list r.parts r.tail o) r.holes

-- what a datum marks as the first of a list
abbrev pub mark_in : {A : Type 0} → (A → Option Mark) → Tree A → Option Mark
mark_in mark (name i o) = mark i
mark_in mark (atom a o) = None
mark_in mark (list ts tail o) = None
mark_in mark (vector ts o) = None

-- the level of what is behind it
abbrev pub level_behind : Option Mark → ℕ → ℕ
level_behind None level = level
level_behind (Some Nested) level = suc level
level_behind (Some Unquoted) zero = zero
level_behind (Some Unquoted) (suc level) = level
level_behind (Some Spliced) zero = zero
level_behind (Some Spliced) (suc level) = level

-- a mark, and the hole of its one operand
abbrev pub hole_behind : {A : Type 0} → Tree A → Result (Tree A) (Fault A) → Result (RowPieces A) (Fault A)
hole_behind t (Ok e) = Ok (row_pieces (tree (map_tree Some t) (tree (name None None) no_trees)) proper (e ∷ []))
hole_behind t (Err e) = Err BadQuasi

-- `(first . rest)` at a level, by what `first` marks: its hole, else what both give. A splice is no whole datum, and no tail
abbrev pub pair_by : {A : Type 0} → Option Mark → ℕ → Result (RowPieces A) (Fault A) → Result (Pieces A) (Fault A) → Result (RowPieces A) (Fault A) → Result (RowPieces A) (Fault A)
pair_by None level hole first rest = first >> λ p. rest >> λ r. Ok (before p r)
pair_by (Some Nested) level hole first rest = first >> λ p. rest >> λ r. Ok (before p r)
pair_by (Some Unquoted) zero hole first rest = hole
pair_by (Some Unquoted) (suc level) hole first rest = first >> λ p. rest >> λ r. Ok (before p r)
pair_by (Some Spliced) zero hole first rest = Err BadQuasi
pair_by (Some Spliced) (suc level) hole first rest = first >> λ p. rest >> λ r. Ok (before p r)

abbrev pub is_splice : Option Mark → ℕ → Bool
is_splice None level = false
is_splice (Some Nested) level = false
is_splice (Some Unquoted) level = false
is_splice (Some Spliced) zero = true
is_splice (Some Spliced) (suc level) = false

-- an element of a list or a vector, which as a datum gives this: it may be a splice
abbrev pub element_by : {A : Type 0} → (A → Option Mark) → ℕ → Tree A → Result (Pieces A) (Fault A) → Result (Pieces A) (Fault A)
element_by mark level (name i o) datum = datum
element_by mark level (atom a o) datum = datum
element_by mark level (vector ts o) datum = datum
element_by mark level (list no_trees tail o) datum = datum
element_by mark level (list (tree t ts) tail o) datum = if is_splice (mark_in mark t) level then (hole_behind t (one_of ts tail) >> λ r. Ok (listed o r)) else datum

-- `end` is what the tail gives at a level
abbrev mutual
  pub datum_at : {A : Type 0} → (A → Option Mark) → ℕ → Tree A → Result (Pieces A) (Fault A)
  datum_at mark level (name i o) = Ok (pieces (name (Some i) o) [])
  datum_at mark level (atom a o) = Ok (pieces (atom a o) [])
  datum_at mark level (list ts tail o) = pair_at mark level ts tail (tail_at mark tail) >> λ r. Ok (listed o r)
  datum_at mark level (vector ts o) = elements_at mark level ts >> λ r. Ok (pieces (vector r.parts o) r.holes)

  pub pair_at : {A : Type 0} → (A → Option Mark) → ℕ → Trees A → Tail A → (ℕ → Result (RowPieces A) (Fault A)) → Result (RowPieces A) (Fault A)
  pair_at mark level no_trees tail end = end level
  pair_at mark level (tree t ts) tail end =
      pair_by (mark_in mark t) level (hole_behind t (one_of ts tail)) (element_by mark level t (datum_at mark level t)) (pair_at mark (level_behind (mark_in mark t) level) ts tail end)

  pub tail_at : {A : Type 0} → (A → Option Mark) → Tail A → ℕ → Result (RowPieces A) (Fault A)
  tail_at mark proper level = Ok (row_pieces no_trees proper [])
  tail_at mark (dotted t) level = datum_at mark level t >> λ p. Ok (row_pieces no_trees (dotted p.datum) p.holes)

  pub elements_at : {A : Type 0} → (A → Option Mark) → ℕ → Trees A → Result (RowPieces A) (Fault A)
  elements_at mark level no_trees = Ok (row_pieces no_trees proper [])
  elements_at mark level (tree t ts) = element_by mark level t (datum_at mark level t) >> λ p. elements_at mark level ts >> λ r. Ok (before p r)

-- the datum of `(quasiquote datum)`
abbrev pub quasi_of : {A : Type 0} → (A → Option Mark) → Tree A → Result (Pieces A) (Fault A)
quasi_of mark t = datum_at mark zero t

-- ---- of which identifiers it is asked what they mark

-- the first of a list
abbrev pub first_name : {A : Type 0} → Tree A → List A
first_name (name i o) = i ∷ []
first_name (atom a o) = []
first_name (list ts tail o) = []
first_name (vector ts o) = []

-- those of a datum and of what is behind it, where it marks this as the first of a list
abbrev pub marks_by : {A : Type 0} → Option Mark → ℕ → List A → List A → List A
marks_by None level first rest = first ++ rest
marks_by (Some Nested) level first rest = first ++ rest
marks_by (Some Unquoted) zero first rest = []
marks_by (Some Unquoted) (suc level) first rest = first ++ rest
marks_by (Some Spliced) zero first rest = []
marks_by (Some Spliced) (suc level) first rest = first ++ rest

-- `end` are those of the tail at a level
abbrev mutual
  pub marks_at : {A : Type 0} → (A → Option Mark) → ℕ → Tree A → List A
  marks_at mark level (name i o) = []
  marks_at mark level (atom a o) = []
  marks_at mark level (list ts tail o) = pair_marks mark level ts (tail_marks mark tail)
  marks_at mark level (vector ts o) = element_marks mark level ts

  pub pair_marks : {A : Type 0} → (A → Option Mark) → ℕ → Trees A → (ℕ → List A) → List A
  pair_marks mark level no_trees end = end level
  pair_marks mark level (tree t ts) end = first_name t ++ marks_by (mark_in mark t) level (marks_at mark level t) (pair_marks mark (level_behind (mark_in mark t) level) ts end)

  pub tail_marks : {A : Type 0} → (A → Option Mark) → Tail A → ℕ → List A
  tail_marks mark proper level = []
  tail_marks mark (dotted t) level = marks_at mark level t

  pub element_marks : {A : Type 0} → (A → Option Mark) → ℕ → Trees A → List A
  element_marks mark level no_trees = []
  element_marks mark level (tree t ts) = marks_at mark level t ++ element_marks mark level ts

abbrev pub datum_marks : {A : Type 0} → (A → Option Mark) → Result (Tree A) (Fault A) → List A
datum_marks mark (Ok t) = marks_at mark zero t
datum_marks mark (Err e) = []

-- those of `(quasiquote datum)`
abbrev pub marks_in : {A : Type 0} → (A → Option Mark) → Trees A → Tail A → List A
marks_in mark ts tail = datum_marks mark (one_of ts tail)
