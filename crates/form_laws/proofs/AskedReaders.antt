-- What is read of `cond-expand` depends on the libraries that it asks for alone, and what is read of a quasiquotation on the marks of
-- the identifiers that it asks.
use Rattle.std.proofs.Common.{◌≡◌, ℕ, zero, suc, List, [], ◌∷◌, ◌++◌, Bool, true, false, cond, Option, Some, None, Result, Ok, Err, refl, ap, ◌∙◌}
use Rattle.std.specs.Prelude.{◌&&◌, ◌||◌, not, codes}
use Rattle.std.specs.Str.{bytes_eq}
use Rattle.scheme_model.specs.Trees.{Tree, name, atom, list, vector, Trees, no_trees, tree, Tail, proper, dotted}
use Rattle.scheme_model.specs.ExpansionFaults.{Fault, BadForm, ◌>>◌}
use Rattle.scheme_model.specs.Shapes.{first_of, some_of, one_of, list_of}
use Rattle.scheme_model.specs.Requirements.{LibraryName, Known, library_name_of, holds, all_hold, some_holds, none_holds, is_else, clause_holds, or_chosen, choices, chosen_of, name_asked, libraries_of, libraries_among, clause_libraries, all_libraries, libraries_in}
use Rattle.scheme_model.specs.Quasiquote.{Mark, Nested, Unquoted, Spliced, Pieces, RowPieces, pieces, row_pieces, before, listed, mark_in, level_behind, hole_behind, pair_by, is_splice, element_by, datum_at, pair_at, tail_at, elements_at, quasi_of, first_name, marks_by, marks_at, pair_marks, tail_marks, element_marks, datum_marks, marks_in}
use Rattle.model_laws.proofs.FrameAsks.{AllOf}

parted : {X : Type 0} (P : X → Type 0) (xs ys : List X) → AllOf P (xs ++ ys) → AllOf P xs × AllOf P ys
parted P [] ys h = (tt, h)
parted P (x ∷ xs) ys h = let q = parted P xs ys h.1 in ((h.0, q.0), q.1)

-- ---- libraries

module _ {A : Type 0} (strip : A → List ℕ) (known there : Known) where
  abbrev pub SameKnown : List LibraryName → Type 0
  SameKnown ns = AllOf (λ (n : LibraryName). known n ≡ there n) ns

  named_same : (r : Result LibraryName (Fault A)) → SameKnown (name_asked r) → (r >> λ n. Ok (known n)) ≡ (r >> λ n. Ok (there n))
  named_same (Ok n) h = ap (λ (b : Bool). Ok b) h.0
  named_same (Err e) h = refl

  -- by the word at the head of a requirement
  by_word : (ts : Trees A) → (SameKnown (libraries_among strip ts) → all_hold strip known ts ≡ all_hold strip there ts) → (SameKnown (libraries_among strip ts) → some_holds strip known ts ≡ some_holds strip there ts)
      → (SameKnown (libraries_among strip ts) → none_holds strip known ts ≡ none_holds strip there ts) → (a b c d : Bool)
      → SameKnown (cond a (libraries_among strip ts) (cond b (libraries_among strip ts) (cond c (libraries_among strip ts) (cond d (name_asked (one_of ts proper >> library_name_of strip)) []))))
      → cond a (all_hold strip known ts) (cond b (some_holds strip known ts) (cond c (none_holds strip known ts) (cond d (one_of ts proper >> library_name_of strip >> λ n. Ok (known n)) (Err BadForm))))
      ≡ cond a (all_hold strip there ts) (cond b (some_holds strip there ts) (cond c (none_holds strip there ts) (cond d (one_of ts proper >> library_name_of strip >> λ n. Ok (there n)) (Err BadForm))))
  by_word ts x y z true b c d k = x k
  by_word ts x y z false true c d k = y k
  by_word ts x y z false false true d k = z k
  by_word ts x y z false false false true k = named_same (one_of ts proper >> library_name_of strip) k
  by_word ts x y z false false false false k = refl

  mutual
    holds_same : (t : Tree A) → SameKnown (libraries_of strip t) → holds strip known t ≡ holds strip there t
    holds_same (name i o) h = refl
    holds_same (atom a o) h = refl
    holds_same (vector ts o) h = refl
    holds_same (list no_trees tail o) h = refl
    holds_same (list (tree (atom a p) ts) tail o) h = refl
    holds_same (list (tree (list us end p) ts) tail o) h = refl
    holds_same (list (tree (vector us p) ts) tail o) h = refl
    holds_same (list (tree (name i p) ts) (dotted u) o) h = refl
    holds_same (list (tree (name i p) ts) proper o) h = by_word ts (λ k. all_same ts k) (λ k. some_same ts k) (λ k. none_same ts k) (bytes_eq (strip i) (codes "and")) (bytes_eq (strip i) (codes "or")) (bytes_eq (strip i) (codes "not")) (bytes_eq (strip i) (codes "library")) h

    all_same : (ts : Trees A) → SameKnown (libraries_among strip ts) → all_hold strip known ts ≡ all_hold strip there ts
    all_same no_trees h = refl
    all_same (tree t ts) h =
        let q = parted (λ (n : LibraryName). known n ≡ there n) (libraries_of strip t) (libraries_among strip ts) h in let a = holds_same t q.0 in let b = all_same ts q.1 in
        λ j. a j >> λ x. b j >> λ y. Ok (x && y)

    some_same : (ts : Trees A) → SameKnown (libraries_among strip ts) → some_holds strip known ts ≡ some_holds strip there ts
    some_same no_trees h = refl
    some_same (tree t ts) h =
        let q = parted (λ (n : LibraryName). known n ≡ there n) (libraries_of strip t) (libraries_among strip ts) h in let a = holds_same t q.0 in let b = some_same ts q.1 in
        λ j. a j >> λ x. b j >> λ y. Ok (x || y)

    none_same : (ts : Trees A) → SameKnown (libraries_among strip ts) → none_holds strip known ts ≡ none_holds strip there ts
    none_same no_trees h = refl
    none_same (tree t no_trees) h = let q = parted (λ (n : LibraryName). known n ≡ there n) (libraries_of strip t) [] h in ap (λ r. r >> λ x. Ok (not x)) (holds_same t q.0)
    none_same (tree t (tree u us)) h = refl

  ended_same : (t : Tree A) (last : Bool) → SameKnown (cond (is_else strip t) [] (libraries_of strip t)) → (end : Result Bool (Fault A)) → cond (is_else strip t) end (holds strip known t) ≡ cond (is_else strip t) end (holds strip there t)
  ended_same t last h end = go (is_else strip t) h
    where
      go : (b : Bool) → SameKnown (cond b [] (libraries_of strip t)) → cond b end (holds strip known t) ≡ cond b end (holds strip there t)
      go true k = refl
      go false k = holds_same t k

  clause_same : (t : Tree A) (ts : Trees A) → SameKnown (cond (is_else strip t) [] (libraries_of strip t)) → clause_holds strip known t ts ≡ clause_holds strip there t ts
  clause_same t no_trees h = ended_same t true h (Ok true)
  clause_same t (tree u us) h = ended_same t false h (Err BadForm)

  -- a clause that was read, and what the clauses behind it give
  by_clause : (r : Result (Tree A × Trees A) (Fault A)) (ts : Trees A) (o o2 : Result (Option (Trees A)) (Fault A)) → SameKnown (clause_libraries strip r) → o ≡ o2
      → (r >> λ q. clause_holds strip known q.0 ts >> λ b. o >> λ later. Ok (or_chosen b q.1 later)) ≡ (r >> λ q. clause_holds strip there q.0 ts >> λ b. o2 >> λ later. Ok (or_chosen b q.1 later))
  by_clause (Ok q) ts o o2 h e = let c = clause_same q.0 ts h in λ j. c j >> λ b. e j >> λ later. Ok (or_chosen b q.1 later)
  by_clause (Err x) ts o o2 h e = refl

  -- a clause by its list, and by its parts
  by_parts : (r : Result (Trees A) (Fault A)) (ts : Trees A) (o o2 : Result (Option (Trees A)) (Fault A)) → SameKnown (clause_libraries strip (r >> first_of)) → o ≡ o2
      → (r >> first_of >> λ q. clause_holds strip known q.0 ts >> λ b. o >> λ later. Ok (or_chosen b q.1 later)) ≡ (r >> first_of >> λ q. clause_holds strip there q.0 ts >> λ b. o2 >> λ later. Ok (or_chosen b q.1 later))
  by_parts (Ok us) ts o o2 h e = by_clause (first_of us) ts o o2 h e
  by_parts (Err x) ts o o2 h e = refl

  by_list : (r : Result (Trees A × Tail A) (Fault A)) (ts : Trees A) (o o2 : Result (Option (Trees A)) (Fault A)) → SameKnown (clause_libraries strip (r >> λ p. some_of p.0 p.1 >> first_of)) → o ≡ o2
      → (r >> λ p. some_of p.0 p.1 >> first_of >> λ q. clause_holds strip known q.0 ts >> λ b. o >> λ later. Ok (or_chosen b q.1 later)) ≡ (r >> λ p. some_of p.0 p.1 >> first_of >> λ q. clause_holds strip there q.0 ts >> λ b. o2 >> λ later. Ok (or_chosen b q.1 later))
  by_list (Ok p) ts o o2 h e = by_parts (some_of p.0 p.1) ts o o2 h e
  by_list (Err x) ts o o2 h e = refl

  choices_same : (ts : Trees A) → SameKnown (all_libraries strip ts) → choices strip known ts ≡ choices strip there ts
  choices_same no_trees h = refl
  choices_same (tree t ts) h =
      let q = parted (λ (n : LibraryName). known n ≡ there n) (clause_libraries strip (list_of t >> λ p. some_of p.0 p.1 >> first_of)) (all_libraries strip ts) h in
      by_list (list_of t) ts (choices strip known ts) (choices strip there ts) q.0 (choices_same ts q.1)

  pub chosen_same : (ts : Trees A) (tail : Tail A) → SameKnown (libraries_in strip ts tail) → chosen_of strip known ts tail ≡ chosen_of strip there ts tail
  chosen_same no_trees tail h = refl
  chosen_same (tree t ts) proper h = choices_same (tree t ts) h
  chosen_same (tree t ts) (dotted u) h = refl

-- ---- marks

module _ {A : Type 0} (mark there : A → Option Mark) where
  abbrev pub SameMarks : List A → Type 0
  SameMarks is = AllOf (λ (i : A). there i ≡ mark i) is

  first_same : (t : Tree A) → SameMarks (first_name t) → mark_in there t ≡ mark_in mark t
  first_same (name i o) h = h.0
  first_same (atom a o) h = refl
  first_same (list ts tail o) h = refl
  first_same (vector ts o) h = refl

  both_same : (xs ys : List A) (first first2 : Result (Pieces A) (Fault A)) (rest rest2 : Result (RowPieces A) (Fault A)) → (SameMarks xs → first2 ≡ first) → (SameMarks ys → rest2 ≡ rest) → SameMarks (xs ++ ys)
      → (first2 >> λ p. rest2 >> λ r. Ok (before p r)) ≡ (first >> λ p. rest >> λ r. Ok (before p r))
  both_same xs ys first first2 rest rest2 ha hb h =
      let q = parted (λ (i : A). there i ≡ mark i) xs ys h in let a = ha q.0 in let b = hb q.1 in
      λ j. a j >> λ p. b j >> λ r. Ok (before p r)

  pair_same : (m : Option Mark) (level : ℕ) (hole : Result (RowPieces A) (Fault A)) (xs ys : List A) (first first2 : Result (Pieces A) (Fault A)) (rest rest2 : Result (RowPieces A) (Fault A)) → (SameMarks xs → first2 ≡ first) → (SameMarks ys → rest2 ≡ rest)
      → SameMarks (marks_by m level xs ys) → pair_by m level hole first2 rest2 ≡ pair_by m level hole first rest
  pair_same None level hole xs ys first first2 rest rest2 ha hb h = both_same xs ys first first2 rest rest2 ha hb h
  pair_same (Some Nested) level hole xs ys first first2 rest rest2 ha hb h = both_same xs ys first first2 rest rest2 ha hb h
  pair_same (Some Unquoted) zero hole xs ys first first2 rest rest2 ha hb h = refl
  pair_same (Some Unquoted) (suc level) hole xs ys first first2 rest rest2 ha hb h = both_same xs ys first first2 rest rest2 ha hb h
  pair_same (Some Spliced) zero hole xs ys first first2 rest rest2 ha hb h = refl
  pair_same (Some Spliced) (suc level) hole xs ys first first2 rest rest2 ha hb h = both_same xs ys first first2 rest rest2 ha hb h

  -- a datum as an element
  element_from : (t : Tree A) (level : ℕ) (d d2 : Result (Pieces A) (Fault A)) → d2 ≡ d → SameMarks (marks_at mark level t) → element_by there level t d2 ≡ element_by mark level t d
  element_from (name i o) level d d2 e h = e
  element_from (atom a o) level d d2 e h = e
  element_from (vector ts o) level d d2 e h = e
  element_from (list no_trees tail o) level d d2 e h = e
  element_from (list (tree u us) tail o) level d d2 e h =
      let q = parted (λ (i : A). there i ≡ mark i) (first_name u) (marks_by (mark_in mark u) level (marks_at mark level u) (pair_marks mark (level_behind (mark_in mark u) level) us (tail_marks mark tail))) h in
      let m = first_same u q.0 in
      λ j. cond (is_splice (m j) level) (hole_behind u (one_of us tail) >> λ r. Ok (listed o r)) (e j)

  mutual
    datum_same : (t : Tree A) (level : ℕ) → SameMarks (marks_at mark level t) → datum_at there level t ≡ datum_at mark level t
    datum_same (name i o) level h = refl
    datum_same (atom a o) level h = refl
    datum_same (list ts tail o) level h =
        ap (λ (r : Result (RowPieces A) (Fault A)). r >> λ x. Ok (listed o x)) (row_same ts tail (tail_at mark tail) (tail_at there tail) (tail_marks mark tail) (λ l k. tail_same tail l k) level h)
    datum_same (vector ts o) level h = ap (λ (r : Result (RowPieces A) (Fault A)). r >> λ x. Ok (pieces (vector x.parts o) x.holes)) (elements_same ts level h)

    row_same : (ts : Trees A) (tail : Tail A) (end end2 : ℕ → Result (RowPieces A) (Fault A)) (asked : ℕ → List A) → ((l : ℕ) → SameMarks (asked l) → end2 l ≡ end l) → (level : ℕ) → SameMarks (pair_marks mark level ts asked)
        → pair_at there level ts tail end2 ≡ pair_at mark level ts tail end
    row_same no_trees tail end end2 asked he level h = he level h
    row_same (tree t ts) tail end end2 asked he level h =
        let m = mark_in mark t in
        let q = parted (λ (i : A). there i ≡ mark i) (first_name t) (marks_by m level (marks_at mark level t) (pair_marks mark (level_behind m level) ts asked)) h in
        ap (λ x. pair_by x level (hole_behind t (one_of ts tail)) (element_by there level t (datum_at there level t)) (pair_at there (level_behind x level) ts tail end2)) (first_same t q.0)
        ∙ pair_same m level (hole_behind t (one_of ts tail)) (marks_at mark level t) (pair_marks mark (level_behind m level) ts asked) (element_by mark level t (datum_at mark level t)) (element_by there level t (datum_at there level t))
        (pair_at mark (level_behind m level) ts tail end) (pair_at there (level_behind m level) ts tail end2) (λ k. element_from t level (datum_at mark level t) (datum_at there level t) (datum_same t level k) k)
        (λ k. row_same ts tail end end2 asked he (level_behind m level) k) q.1

    elements_same : (ts : Trees A) (level : ℕ) → SameMarks (element_marks mark level ts) → elements_at there level ts ≡ elements_at mark level ts
    elements_same no_trees level h = refl
    elements_same (tree t ts) level h =
        both_same (marks_at mark level t) (element_marks mark level ts) (element_by mark level t (datum_at mark level t)) (element_by there level t (datum_at there level t)) (elements_at mark level ts) (elements_at there level ts)
        (λ k. element_from t level (datum_at mark level t) (datum_at there level t) (datum_same t level k) k) (λ k. elements_same ts level k) h

    tail_same : (tail : Tail A) (level : ℕ) → SameMarks (tail_marks mark tail level) → tail_at there tail level ≡ tail_at mark tail level
    tail_same proper level h = refl
    tail_same (dotted t) level h = ap (λ (r : Result (Pieces A) (Fault A)). r >> λ p. Ok (row_pieces no_trees (dotted p.datum) p.holes)) (datum_same t level h)

  by_datum : (r : Result (Tree A) (Fault A)) → SameMarks (datum_marks mark r) → (r >> quasi_of there) ≡ (r >> quasi_of mark)
  by_datum (Ok t) h = datum_same t zero h
  by_datum (Err e) h = refl

  pub quasi_same : (ts : Trees A) (tail : Tail A) → SameMarks (marks_in mark ts tail) → (one_of ts tail >> quasi_of there) ≡ (one_of ts tail >> quasi_of mark)
  quasi_same ts tail h = by_datum (one_of ts tail) h

  -- ---- which identifiers are asked

  both_marks : (xs xs2 ys ys2 : List A) → (SameMarks xs → xs2 ≡ xs) → (SameMarks ys → ys2 ≡ ys) → SameMarks (xs ++ ys) → xs2 ++ ys2 ≡ xs ++ ys
  both_marks xs xs2 ys ys2 ha hb h = let q = parted (λ (i : A). there i ≡ mark i) xs ys h in let a = ha q.0 in let b = hb q.1 in λ j. a j ++ b j

  by_mark : (m : Option Mark) (level : ℕ) (xs xs2 ys ys2 : List A) → (SameMarks xs → xs2 ≡ xs) → (SameMarks ys → ys2 ≡ ys) → SameMarks (marks_by m level xs ys) → marks_by m level xs2 ys2 ≡ marks_by m level xs ys
  by_mark None level xs xs2 ys ys2 ha hb h = both_marks xs xs2 ys ys2 ha hb h
  by_mark (Some Nested) level xs xs2 ys ys2 ha hb h = both_marks xs xs2 ys ys2 ha hb h
  by_mark (Some Unquoted) zero xs xs2 ys ys2 ha hb h = refl
  by_mark (Some Unquoted) (suc level) xs xs2 ys ys2 ha hb h = both_marks xs xs2 ys ys2 ha hb h
  by_mark (Some Spliced) zero xs xs2 ys ys2 ha hb h = refl
  by_mark (Some Spliced) (suc level) xs xs2 ys ys2 ha hb h = both_marks xs xs2 ys ys2 ha hb h

  mutual
    marks_at_same : (t : Tree A) (level : ℕ) → SameMarks (marks_at mark level t) → marks_at there level t ≡ marks_at mark level t
    marks_at_same (name i o) level h = refl
    marks_at_same (atom a o) level h = refl
    marks_at_same (list ts tail o) level h = pair_marks_same ts (tail_marks mark tail) (tail_marks there tail) (λ l k. tail_marks_same tail l k) level h
    marks_at_same (vector ts o) level h = element_marks_same ts level h

    pair_marks_same : (ts : Trees A) (end end2 : ℕ → List A) → ((l : ℕ) → SameMarks (end l) → end2 l ≡ end l) → (level : ℕ) → SameMarks (pair_marks mark level ts end) → pair_marks there level ts end2 ≡ pair_marks mark level ts end
    pair_marks_same no_trees end end2 he level h = he level h
    pair_marks_same (tree t ts) end end2 he level h =
        let m = mark_in mark t in
        let q = parted (λ (i : A). there i ≡ mark i) (first_name t) (marks_by m level (marks_at mark level t) (pair_marks mark (level_behind m level) ts end)) h in
        ap (λ x. first_name t ++ marks_by x level (marks_at there level t) (pair_marks there (level_behind x level) ts end2)) (first_same t q.0)
        ∙ ap (λ xs. first_name t ++ xs)
        (by_mark m level (marks_at mark level t) (marks_at there level t) (pair_marks mark (level_behind m level) ts end) (pair_marks there (level_behind m level) ts end2) (λ k. marks_at_same t level k)
        (λ k. pair_marks_same ts end end2 he (level_behind m level) k) q.1)

    element_marks_same : (ts : Trees A) (level : ℕ) → SameMarks (element_marks mark level ts) → element_marks there level ts ≡ element_marks mark level ts
    element_marks_same no_trees level h = refl
    element_marks_same (tree t ts) level h =
        let q = parted (λ (i : A). there i ≡ mark i) (marks_at mark level t) (element_marks mark level ts) h in
        let a = marks_at_same t level q.0 in let b = element_marks_same ts level q.1 in λ j. a j ++ b j

    tail_marks_same : (tail : Tail A) (level : ℕ) → SameMarks (tail_marks mark tail level) → tail_marks there tail level ≡ tail_marks mark tail level
    tail_marks_same proper level h = refl
    tail_marks_same (dotted t) level h = marks_at_same t level h

  asked_same : (r : Result (Tree A) (Fault A)) → SameMarks (datum_marks mark r) → datum_marks there r ≡ datum_marks mark r
  asked_same (Ok t) h = marks_at_same t zero h
  asked_same (Err e) h = refl

  pub marks_same : (ts : Trees A) (tail : Tail A) → SameMarks (marks_in mark ts tail) → marks_in there ts tail ≡ marks_in mark ts tail
  marks_same ts tail h = asked_same (one_of ts tail) h
