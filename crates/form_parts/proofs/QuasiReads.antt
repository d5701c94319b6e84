-- A reading of a quasiquotation asks only of the identifiers that stand in it, and its nodes are those outside its holes and those of
-- what stands in the holes.
use Rattle.std.proofs.Common.{◌≡◌, ℕ, zero, suc, ◌+◌, ◌<◌, ◌≤◌, List, [], ◌∷◌, ◌++◌, length, get_or, drop, Bool, true, false, Option, Some, None, Result, Ok, Err, refl, sym, ap, ◌∙◌, subst, arith}
use Rattle.std.specs.Prelude.{◌||◌, ◌⊎◌, if◌then◌else◌}
use Rattle.std.proofs.Common.{inl, inr}
use Rattle.std.proofs.lemmas.Option.{same_Some}
use Rattle.scheme_model.specs.declared.Occ.{Occ}
use Rattle.scheme_model.specs.Trees.{Tree, name, atom, list, vector, Trees, no_trees, tree, Tail, proper, dotted}
use Rattle.scheme_model.specs.Keywords.{CoreKeyword, IsQuote, IsQuasiquote, IsLambda, IsCaseLambda, IsIf, IsSet, IsBegin, IsDefine, IsDefineValues, IsDefineRecordType, IsDefineSyntax, IsLetSyntax, IsLetrecSyntax, IsCondExpand, IsSyntaxError, IsInclude}
use Rattle.scheme_model.specs.Measures.{tree_size, trees_size, tail_size}
use Rattle.scheme_model.specs.ExpansionFaults.{Fault, ◌>>◌}
use Rattle.scheme_model.specs.Shapes.{one_of}
use Rattle.scheme_model.specs.Building.{stands_in, stands_among, stands_behind}
use Rattle.scheme_model.specs.Cores.{weight, weights, tail_weight, hole_weight, outside}
use Rattle.scheme_model.specs.Quasiquote.{Mark, Nested, Unquoted, Spliced, Pieces, RowPieces, pieces, row_pieces, before, listed, mark_in, level_behind, hole_behind, pair_by, is_splice, element_by, datum_at, pair_at, tail_at, elements_at, quasi_of}
use Rattle.scheme_model.specs.Ident.{Ident as Identifier, same_ident}
use Rattle.syntax_tree.specs.Works.{StandsFor}
use Rattle.syntax_tree.specs.declared.trees.Work.{Work}
use Rattle.syntax_tree.specs.declared.trees.nodes.Tree as number
use Rattle.syntax_tree.proofs.InternLaws.{ident_itself}
use Rattle.core_forms.specs.Forms.{Quasi, shape_of, shape_in}
use Rattle.core_forms.specs.Parts.{AllMatch}
use Rattle.core_forms.specs.Ends.{keyword_as}
use Rattle.core_forms.specs.Marks.{AreMarks}
use Rattle.core_forms.specs.declared.shape.QuasiMark.{QuasiMark}
use Rattle.core_forms.specs.declared.shape.CoreKeyword as code_keyword
use Rattle.core_forms.specs.declared.shape.CoreKeyword.TheVariants as word
use Rattle.form_parts.specs.Marked.{mark_within}

-- ---- what is asked

-- two tests say the same of the identifiers of a tree, of trees in a row, and of a tail
abbrev Agree : (f g : Identifier → Option Mark) → (Identifier → Bool) → Type 0
Agree f g stands = (i : Identifier) → stands i ≡ true → f i ≡ g i

or_left : (a b : Bool) → a ≡ true → (a || b) ≡ true
or_left true b h = refl
or_left false b h = absurd cc

or_right : (a b : Bool) → b ≡ true → (a || b) ≡ true
or_right true b h = refl
or_right false b h = h

module _ (f g : Identifier → Option Mark) where
  first_agrees : (t : Tree Identifier) (ts : Trees Identifier) → Agree f g (λ i. stands_among same_ident i (tree t ts)) → Agree f g (λ i. stands_in same_ident i t)
  first_agrees t ts h i s = h i (or_left (stands_in same_ident i t) (stands_among same_ident i ts) s)

  later_agree : (t : Tree Identifier) (ts : Trees Identifier) → Agree f g (λ i. stands_among same_ident i (tree t ts)) → Agree f g (λ i. stands_among same_ident i ts)
  later_agree t ts h i s = h i (or_right (stands_in same_ident i t) (stands_among same_ident i ts) s)

  parts_agree : (ts : Trees Identifier) (tail : Tail Identifier) (o : Option Occ) → Agree f g (λ i. stands_in same_ident i (list ts tail o)) → Agree f g (λ i. stands_among same_ident i ts)
  parts_agree ts tail o h i s = h i (or_left (stands_among same_ident i ts) (stands_behind same_ident i tail) s)

  tail_agrees : (ts : Trees Identifier) (tail : Tail Identifier) (o : Option Occ) → Agree f g (λ i. stands_in same_ident i (list ts tail o)) → Agree f g (λ i. stands_behind same_ident i tail)
  tail_agrees ts tail o h i s = h i (or_right (stands_among same_ident i ts) (stands_behind same_ident i tail) s)

  mark_same : (t : Tree Identifier) → Agree f g (λ i. stands_in same_ident i t) → mark_in f t ≡ mark_in g t
  mark_same (name i o) h = h i (ident_itself i)
  mark_same (atom a o) h = refl
  mark_same (list ts tail o) h = refl
  mark_same (vector ts o) h = refl

  element_same : (level : ℕ) (t : Tree Identifier) → Agree f g (λ i. stands_in same_ident i t) → (p q : Result (Pieces Identifier) (Fault Identifier)) → p ≡ q → element_by f level t p ≡ element_by g level t q
  element_same level (name i o) h p q e = e
  element_same level (atom a o) h p q e = e
  element_same level (vector ts o) h p q e = e
  element_same level (list no_trees tail o) h p q e = e
  element_same level (list (tree t ts) tail o) h p q e =
      let m = mark_same t (first_agrees t ts (parts_agree (tree t ts) tail o h)) in
      λ j. if is_splice (m j) level then (hole_behind t (one_of ts tail) >> λ r. Ok (listed o r)) else e j

  mutual
    datum_same : (level : ℕ) (t : Tree Identifier) → Agree f g (λ i. stands_in same_ident i t) → datum_at f level t ≡ datum_at g level t
    datum_same level (name i o) h = refl
    datum_same level (atom a o) h = refl
    datum_same level (list ts tail o) h =
        ap (λ (r : Result (RowPieces Identifier) (Fault Identifier)). r >> λ r. Ok (listed o r))
        (pair_same level ts tail (tail_at f tail) (tail_at g tail) (λ l. tail_same tail (tail_agrees ts tail o h) l) (parts_agree ts tail o h))
    datum_same level (vector ts o) h = ap (λ (r : Result (RowPieces Identifier) (Fault Identifier)). r >> λ r. Ok (pieces (vector r.parts o) r.holes)) (elements_same level ts h)

    pair_same : (level : ℕ) (ts : Trees Identifier) (tail : Tail Identifier) (p q : ℕ → Result (RowPieces Identifier) (Fault Identifier)) → ((l : ℕ) → p l ≡ q l) → Agree f g (λ i. stands_among same_ident i ts) → pair_at f level ts tail p ≡ pair_at g level ts tail q
    pair_same level no_trees tail p q e h = e level
    pair_same level (tree t ts) tail p q e h =
        let m = mark_same t (first_agrees t ts h) in
        let one = element_same level t (first_agrees t ts h) (datum_at f level t) (datum_at g level t) (datum_same level t (first_agrees t ts h)) in
        (λ j. pair_by (m j) level (hole_behind t (one_of ts tail)) (one j) (pair_at f (level_behind (m j) level) ts tail p))
        ∙ ap (pair_by (mark_in g t) level (hole_behind t (one_of ts tail)) (element_by g level t (datum_at g level t))) (pair_same (level_behind (mark_in g t) level) ts tail p q e (later_agree t ts h))

    elements_same : (level : ℕ) (ts : Trees Identifier) → Agree f g (λ i. stands_among same_ident i ts) → elements_at f level ts ≡ elements_at g level ts
    elements_same level no_trees h = refl
    elements_same level (tree t ts) h =
        ap (λ (x : Result (Pieces Identifier) (Fault Identifier)). x >> λ y. elements_at f level ts >> λ r. Ok (before y r))
        (element_same level t (first_agrees t ts h) (datum_at f level t) (datum_at g level t) (datum_same level t (first_agrees t ts h)))
        ∙ ap (λ (r : Result (RowPieces Identifier) (Fault Identifier)). element_by g level t (datum_at g level t) >> λ y. r >> λ r. Ok (before y r)) (elements_same level ts (later_agree t ts h))

    tail_same : (tail : Tail Identifier) → Agree f g (λ i. stands_behind same_ident i tail) → (level : ℕ) → tail_at f tail level ≡ tail_at g tail level
    tail_same proper h level = refl
    tail_same (dotted t) h level = ap (λ (x : Result (Pieces Identifier) (Fault Identifier)). x >> λ p. Ok (row_pieces no_trees (dotted p.datum) p.holes)) (datum_same level t h)

-- what marks an identifier of a whole, marks it in a part
within_agrees : (whole : Tree Identifier) (mark : Identifier → Option Mark) (stands : Identifier → Bool) → ((i : Identifier) → stands i ≡ true → stands_in same_ident i whole ≡ true) → Agree (mark_within whole mark) mark stands
within_agrees whole mark stands h i s = ap (λ (b : Bool). if b then mark i else None) (h i s)

quasi_within : (head : Tree Identifier) (ts : Trees Identifier) (tail : Tail Identifier) (o : Option Occ) (mark : Identifier → Option Mark) (us : Trees Identifier) → us ≡ ts →
    (one_of us tail >> λ t. quasi_of (mark_within (list (tree head ts) tail o) mark) t >> λ p. Ok (Quasi t p)) ≡ (one_of us tail >> λ t. quasi_of mark t >> λ p. Ok (Quasi t p))
quasi_within head ts tail o mark no_trees e = refl
quasi_within head ts (dotted u) o mark (tree t no_trees) e = refl
quasi_within head ts tail o mark (tree t (tree u us)) e = refl
quasi_within head ts proper o mark (tree t no_trees) e =
    let whole = list (tree head ts) proper o in
    ap (λ (r : Result (Pieces Identifier) (Fault Identifier)). r >> λ p. Ok (Quasi t p))
    (datum_same (mark_within whole mark) mark zero t (within_agrees whole mark (λ i. stands_in same_ident i t)
    (λ i s. or_left (stands_in same_ident i head || stands_among same_ident i ts) false (or_right (stands_in same_ident i head) (stands_among same_ident i ts)
    (ap (λ (x : Trees Identifier). stands_among same_ident i x) (sym e) ∙ or_left (stands_in same_ident i t) false s)))))

shape_within : (k : CoreKeyword) (expression : Bool) (mark : Identifier → Option Mark) (head : Tree Identifier) (ts : Trees Identifier) (tail : Tail Identifier) (o : Option Occ) →
    shape_of k expression (mark_within (list (tree head ts) tail o) mark) ts tail ≡ shape_of k expression mark ts tail
shape_within IsQuote expression mark head ts tail o = refl
shape_within IsQuasiquote expression mark head ts tail o = quasi_within head ts tail o mark ts refl
shape_within IsLambda expression mark head ts tail o = refl
shape_within IsCaseLambda expression mark head ts tail o = refl
shape_within IsIf expression mark head ts tail o = refl
shape_within IsSet expression mark head ts tail o = refl
shape_within IsBegin expression mark head ts tail o = refl
shape_within IsDefine expression mark head ts tail o = refl
shape_within IsDefineValues expression mark head ts tail o = refl
shape_within IsDefineRecordType expression mark head ts tail o = refl
shape_within IsDefineSyntax expression mark head ts tail o = refl
shape_within IsLetSyntax expression mark head ts tail o = refl
shape_within IsLetrecSyntax expression mark head ts tail o = refl
shape_within IsCondExpand expression mark head ts tail o = refl
shape_within IsSyntaxError expression mark head ts tail o = refl
shape_within IsInclude expression mark head ts tail o = refl

-- a form is read alike by what its own identifiers mark
pub marks_within : (k : CoreKeyword) (expression : Bool) (mark : Identifier → Option Mark) (t : Tree Identifier) → shape_in k expression (mark_within t mark) t ≡ shape_in k expression mark t
marks_within k expression mark (name i o) = refl
marks_within k expression mark (atom a o) = refl
marks_within k expression mark (vector ts o) = refl
marks_within k expression mark (list no_trees tail o) = refl
marks_within k expression mark (list (tree head ts) tail o) = shape_within k expression mark head ts tail o

-- ---- the marks that are handed in

-- no other form asks for marks
shape_unread : (k : CoreKeyword) → (k ≡ IsQuasiquote → ⊥) → (expression : Bool) (f g : Identifier → Option Mark) (ts : Trees Identifier) (tail : Tail Identifier) → shape_of k expression f ts tail ≡ shape_of k expression g ts tail
shape_unread IsQuasiquote differs expression f g ts tail = absurd (differs refl)
shape_unread IsQuote differs expression f g ts tail = refl
shape_unread IsLambda differs expression f g ts tail = refl
shape_unread IsCaseLambda differs expression f g ts tail = refl
shape_unread IsIf differs expression f g ts tail = refl
shape_unread IsSet differs expression f g ts tail = refl
shape_unread IsBegin differs expression f g ts tail = refl
shape_unread IsDefine differs expression f g ts tail = refl
shape_unread IsDefineValues differs expression f g ts tail = refl
shape_unread IsDefineRecordType differs expression f g ts tail = refl
shape_unread IsDefineSyntax differs expression f g ts tail = refl
shape_unread IsLetSyntax differs expression f g ts tail = refl
shape_unread IsLetrecSyntax differs expression f g ts tail = refl
shape_unread IsCondExpand differs expression f g ts tail = refl
shape_unread IsSyntaxError differs expression f g ts tail = refl
shape_unread IsInclude differs expression f g ts tail = refl

unread : (k : CoreKeyword) → (k ≡ IsQuasiquote → ⊥) → (expression : Bool) (f g : Identifier → Option Mark) (t : Tree Identifier) → shape_in k expression f t ≡ shape_in k expression g t
unread k differs expression f g (name i o) = refl
unread k differs expression f g (atom a o) = refl
unread k differs expression f g (vector ts o) = refl
unread k differs expression f g (list no_trees tail o) = refl
unread k differs expression f g (list (tree head ts) tail o) = shape_unread k differs expression f g ts tail

-- only one keyword of the code is that of a quasiquotation
other_keyword : (k : CoreKeyword) (m : CoreKeyword) → (m ≡ IsQuasiquote → ⊥) → Some m ≡ Some k → k ≡ IsQuasiquote → ⊥
other_keyword k m differs h e = differs (same_Some m k h ∙ e)

not_quasi : (c : code_keyword.CoreKeyword) → (c ≡ word.Quasiquote) ⊎ ((c ≡ word.Quasiquote → ⊥) × ((k : CoreKeyword) → keyword_as c ≡ Some k → k ≡ IsQuasiquote → ⊥))
not_quasi word.Quasiquote = inl refl
not_quasi word.Quote = inr ((λ e. absurd cc), (λ k h. other_keyword k IsQuote (λ e. absurd cc) h))
not_quasi word.Unquote = inr ((λ e. absurd cc), (λ k h g. absurd cc))
not_quasi word.UnquoteSplicing = inr ((λ e. absurd cc), (λ k h g. absurd cc))
not_quasi word.Lambda = inr ((λ e. absurd cc), (λ k h. other_keyword k IsLambda (λ e. absurd cc) h))
not_quasi word.CaseLambda = inr ((λ e. absurd cc), (λ k h. other_keyword k IsCaseLambda (λ e. absurd cc) h))
not_quasi word.If = inr ((λ e. absurd cc), (λ k h. other_keyword k IsIf (λ e. absurd cc) h))
not_quasi word.Set = inr ((λ e. absurd cc), (λ k h. other_keyword k IsSet (λ e. absurd cc) h))
not_quasi word.Begin = inr ((λ e. absurd cc), (λ k h. other_keyword k IsBegin (λ e. absurd cc) h))
not_quasi word.Define = inr ((λ e. absurd cc), (λ k h. other_keyword k IsDefine (λ e. absurd cc) h))
not_quasi word.DefineValues = inr ((λ e. absurd cc), (λ k h. other_keyword k IsDefineValues (λ e. absurd cc) h))
not_quasi word.DefineRecordType = inr ((λ e. absurd cc), (λ k h. other_keyword k IsDefineRecordType (λ e. absurd cc) h))
not_quasi word.DefineSyntax = inr ((λ e. absurd cc), (λ k h. other_keyword k IsDefineSyntax (λ e. absurd cc) h))
not_quasi word.LetSyntax = inr ((λ e. absurd cc), (λ k h. other_keyword k IsLetSyntax (λ e. absurd cc) h))
not_quasi word.LetrecSyntax = inr ((λ e. absurd cc), (λ k h. other_keyword k IsLetrecSyntax (λ e. absurd cc) h))
not_quasi word.CondExpand = inr ((λ e. absurd cc), (λ k h. other_keyword k IsCondExpand (λ e. absurd cc) h))
not_quasi word.SyntaxError = inr ((λ e. absurd cc), (λ k h. other_keyword k IsSyntaxError (λ e. absurd cc) h))
not_quasi word.Include = inr ((λ e. absurd cc), (λ k h. other_keyword k IsInclude (λ e. absurd cc) h))
not_quasi word.IncludeCi = inr ((λ e. absurd cc), (λ k h. other_keyword k IsInclude (λ e. absurd cc) h))

-- what stands for marks that are enough to read a form
pub record ReadsMarks (work : Work) (k : CoreKeyword) (expression : Bool) (marks : List QuasiMark) (mark : Identifier → Option Mark) (t : Tree Identifier) : Type 0 where
  pub told : Identifier → Option Mark
  pub are : AreMarks work marks told
  pub same : shape_in k expression told t ≡ shape_in k expression mark t

none_marked : (work : Work) (marks : List QuasiMark) → marks ≡ [] → AreMarks work marks (λ i. None)
none_marked work marks e = subst (λ (ms : List QuasiMark). AreMarks work ms (λ i. None)) (sym e) (λ n i is. refl)

-- a form is read as by all marks: by those of its own identifiers where it is a quasiquotation, and else by none
pub marks_read : (work : Work) (c : code_keyword.CoreKeyword) (k : CoreKeyword) (expression : Bool) (marks : List QuasiMark) (mark : Identifier → Option Mark) (t : Tree Identifier) → keyword_as c ≡ Some k →
    (c ≡ word.Quasiquote → AreMarks work marks (mark_within t mark)) → ((c ≡ word.Quasiquote → ⊥) → marks ≡ []) → ReadsMarks work k expression marks mark t
marks_read work c k expression marks mark t is quasi other =
    elim (not_quasi c) [
      | inl e ↦ record { told = mark_within t mark; are = quasi e; same = marks_within k expression mark t }
      | inr p ↦ record { told = λ i. None; are = none_marked work marks (other p.0); same = unread k (p.1 k is) expression (λ i. None) mark t }
    ]

-- ---- what is counted

abbrev pub sizes : List (Tree Identifier) → ℕ
sizes [] = 0
sizes (t ∷ ts) = tree_size t + sizes ts

sizes_both : (xs ys : List (Tree Identifier)) → sizes (xs ++ ys) ≡ sizes xs + sizes ys
sizes_both [] ys = omega arith
sizes_both (x ∷ xs) ys = let h = sizes_both xs ys in omega arith

-- what was read has so many nodes
abbrev PiecesFit : ℕ → Result (Pieces Identifier) (Fault Identifier) → Type 0
PiecesFit n (Ok p) = weight hole_weight p.datum + sizes p.holes ≡ n
PiecesFit n (Err e) = Unit {0}

abbrev RowFits : ℕ → Result (RowPieces Identifier) (Fault Identifier) → Type 0
RowFits n (Ok r) = weights hole_weight r.parts + tail_weight hole_weight r.tail + sizes r.holes ≡ n
RowFits n (Err e) = Unit {0}

abbrev PartsFit : ℕ → Result (RowPieces Identifier) (Fault Identifier) → Type 0
PartsFit n (Ok r) = weights hole_weight r.parts + sizes r.holes ≡ n
PartsFit n (Err e) = Unit {0}

list_fits : (n : ℕ) (o : Option Occ) (r : Result (RowPieces Identifier) (Fault Identifier)) → RowFits n r → PiecesFit (1 + n) (r >> λ r. Ok (pieces (list r.parts r.tail o) r.holes))
list_fits n o (Ok r) h = omega arith
list_fits n o (Err e) h = tt

vector_fits : (n : ℕ) (o : Option Occ) (r : Result (RowPieces Identifier) (Fault Identifier)) → PartsFit n r → PiecesFit (1 + n) (r >> λ r. Ok (pieces (vector r.parts o) r.holes))
vector_fits n o (Ok r) h = omega arith
vector_fits n o (Err e) h = tt

before_fits : (m n : ℕ) (p : Result (Pieces Identifier) (Fault Identifier)) (r : Result (RowPieces Identifier) (Fault Identifier)) → PiecesFit m p → RowFits n r → RowFits (m + n) (p >> λ y. r >> λ r. Ok (before y r))
before_fits m n (Ok p) (Ok r) h g = let b = sizes_both p.holes r.holes in omega arith
before_fits m n (Ok p) (Err e) h g = tt
before_fits m n (Err e) r h g = tt

part_fits : (m n : ℕ) (p : Result (Pieces Identifier) (Fault Identifier)) (r : Result (RowPieces Identifier) (Fault Identifier)) → PiecesFit m p → PartsFit n r → PartsFit (m + n) (p >> λ y. r >> λ r. Ok (before y r))
part_fits m n (Ok p) (Ok r) h g = let b = sizes_both p.holes r.holes in omega arith
part_fits m n (Ok p) (Err e) h g = tt
part_fits m n (Err e) r h g = tt

hole_fits : (i : Identifier) (o : Option Occ) (ts : Trees Identifier) (tail : Tail Identifier) → RowFits (1 + (trees_size ts + tail_size tail)) (hole_behind (name i o) (one_of ts tail))
hole_fits i o no_trees tail = tt
hole_fits i o (tree t no_trees) proper = omega arith
hole_fits i o (tree t no_trees) (dotted u) = tt
hole_fits i o (tree t (tree u us)) tail = tt

by_mark_fits : (m : Option Mark) (level k n : ℕ) (hole rest : Result (RowPieces Identifier) (Fault Identifier)) (first : Result (Pieces Identifier) (Fault Identifier)) → RowFits (k + n) hole → PiecesFit k first → RowFits n rest →
    RowFits (k + n) (pair_by m level hole first rest)
by_mark_fits None level k n hole rest first h p r = before_fits k n first rest p r
by_mark_fits (Some Nested) level k n hole rest first h p r = before_fits k n first rest p r
by_mark_fits (Some Unquoted) zero k n hole rest first h p r = h
by_mark_fits (Some Unquoted) (suc level) k n hole rest first h p r = before_fits k n first rest p r
by_mark_fits (Some Spliced) zero k n hole rest first h p r = tt
by_mark_fits (Some Spliced) (suc level) k n hole rest first h p r = before_fits k n first rest p r

row_as : (m n : ℕ) (r : Result (RowPieces Identifier) (Fault Identifier)) → m ≡ n → RowFits m r → RowFits n r
row_as m n r e h = subst (λ (k : ℕ). RowFits k r) e h

module _ (mark : Identifier → Option Mark) where
  -- a form that may be a splice
  element_fits : (level : ℕ) (t : Tree Identifier) (datum : Result (Pieces Identifier) (Fault Identifier)) → PiecesFit (tree_size t) datum → PiecesFit (tree_size t) (element_by mark level t datum)
  element_fits level (name i o) datum h = h
  element_fits level (atom a o) datum h = h
  element_fits level (vector ts o) datum h = h
  element_fits level (list no_trees tail o) datum h = h
  element_fits level (list (tree (name i p) ts) tail o) datum h = go (is_splice (mark i) level)
    where
      go : (b : Bool) → PiecesFit (tree_size (list (tree (name i p) ts) tail o)) (if b then (hole_behind (name i p) (one_of ts tail) >> λ r. Ok (listed o r)) else datum)
      go true =
          list_fits (trees_size (tree (name i p) ts) + tail_size tail) o (hole_behind (name i p) (one_of ts tail))
          (row_as (1 + (trees_size ts + tail_size tail)) (1 + trees_size ts + tail_size tail) (hole_behind (name i p) (one_of ts tail)) (omega arith) (hole_fits i p ts tail))
      go false = h
  element_fits level (list (tree (atom a p) ts) tail o) datum h = h
  element_fits level (list (tree (list us end p) ts) tail o) datum h = h
  element_fits level (list (tree (vector us p) ts) tail o) datum h = h

  pair_fits : (level : ℕ) (t : Tree Identifier) (ts : Trees Identifier) (tail : Tail Identifier) (first : Result (Pieces Identifier) (Fault Identifier)) (rest : Result (RowPieces Identifier) (Fault Identifier)) → PiecesFit (tree_size t) first → RowFits (trees_size ts + tail_size tail) rest →
      RowFits (tree_size t + (trees_size ts + tail_size tail)) (pair_by (mark_in mark t) level (hole_behind t (one_of ts tail)) first rest)
  pair_fits level (name i o) ts tail first rest p r = by_mark_fits (mark i) level 1 (trees_size ts + tail_size tail) (hole_behind (name i o) (one_of ts tail)) rest first (hole_fits i o ts tail) p r
  pair_fits level (atom a o) ts tail first rest p r = before_fits 1 (trees_size ts + tail_size tail) first rest p r
  pair_fits level (list us end o) ts tail first rest p r = before_fits (tree_size (list us end o)) (trees_size ts + tail_size tail) first rest p r
  pair_fits level (vector us o) ts tail first rest p r = before_fits (tree_size (vector us o)) (trees_size ts + tail_size tail) first rest p r

  mutual
    datum_fits : (level : ℕ) (t : Tree Identifier) → PiecesFit (tree_size t) (datum_at mark level t)
    datum_fits level (name i o) = refl
    datum_fits level (atom a o) = refl
    datum_fits level (list ts tail o) = list_fits (trees_size ts + tail_size tail) o (pair_at mark level ts tail (tail_at mark tail)) (row_fits level ts tail (tail_at mark tail) (λ l. tail_fits tail l))
    datum_fits level (vector ts o) = vector_fits (trees_size ts) o (elements_at mark level ts) (elements_fit level ts)

    row_fits : (level : ℕ) (ts : Trees Identifier) (tail : Tail Identifier) (end : ℕ → Result (RowPieces Identifier) (Fault Identifier)) → ((l : ℕ) → RowFits (tail_size tail) (end l)) → RowFits (trees_size ts + tail_size tail) (pair_at mark level ts tail end)
    row_fits level no_trees tail end h = row_as (tail_size tail) (0 + tail_size tail) (end level) (omega arith) (h level)
    row_fits level (tree t ts) tail end h =
        row_as (tree_size t + (trees_size ts + tail_size tail)) (tree_size t + trees_size ts + tail_size tail) (pair_at mark level (tree t ts) tail end) (omega arith)
        (pair_fits level t ts tail (element_by mark level t (datum_at mark level t)) (pair_at mark (level_behind (mark_in mark t) level) ts tail end) (element_fits level t (datum_at mark level t) (datum_fits level t)) (row_fits (level_behind (mark_in mark t) level) ts tail end h))

    elements_fit : (level : ℕ) (ts : Trees Identifier) → PartsFit (trees_size ts) (elements_at mark level ts)
    elements_fit level no_trees = refl
    elements_fit level (tree t ts) =
        part_fits (tree_size t) (trees_size ts) (element_by mark level t (datum_at mark level t)) (elements_at mark level ts) (element_fits level t (datum_at mark level t) (datum_fits level t)) (elements_fit level ts)

    tail_fits : (tail : Tail Identifier) (level : ℕ) → RowFits (tail_size tail) (tail_at mark tail level)
    tail_fits proper level = refl
    tail_fits (dotted t) level = end_fits (tree_size t) (datum_at mark level t) (datum_fits level t)
      where
        end_fits : (n : ℕ) (p : Result (Pieces Identifier) (Fault Identifier)) → PiecesFit n p → RowFits n (p >> λ p. Ok (row_pieces no_trees (dotted p.datum) p.holes))
        end_fits n (Ok p) h = omega arith
        end_fits n (Err e) h = tt

-- the nodes of a datum are those outside its holes, and those that stand in them
pub outside_fits : (mark : Identifier → Option Mark) (t : Tree Identifier) (p : Pieces Identifier) → quasi_of mark t ≡ Ok p → outside p.datum + sizes p.holes ≡ tree_size t
outside_fits mark t p h = subst (PiecesFit (tree_size t)) h (datum_fits mark zero t)

-- ---- holes one after another

pub record IsHole (work : Work) (holes : List (Tree Identifier)) (k : ℕ) (n : number.Tree) : Type 0 where
  pub tree : Tree Identifier
  pub stands : StandsFor work n tree
  pub split : drop k holes ≡ tree ∷ drop (k + 1) holes

pub hole_there : (work : Work) (k : ℕ) (ns : List number.Tree) (hs : List (Tree Identifier)) (d : number.Tree) → AllMatch (StandsFor work) ns hs → k < length ns → IsHole work hs k (get_or ns k d)
hole_there work k [] hs d h l = absurd (omega arith)
hole_there work k (n ∷ ns) [] d h l = absurd h
hole_there work zero (n ∷ ns) (t ∷ hs) d h l = record { tree = t; stands = h.0; split = refl }
hole_there work (suc k) (n ∷ ns) (t ∷ hs) d h l =
    let p = hole_there work k ns hs d h.1 (omega arith) in
    let more : suc (k + 1) ≡ suc k + 1 = omega arith in
    record { tree = p.tree; stands = p.stands; split = p.split ∙ ap (λ (m : ℕ). p.tree ∷ drop m (t ∷ hs)) more }

pub holes_past : (work : Work) (k : ℕ) (ns : List number.Tree) (hs : List (Tree Identifier)) → AllMatch (StandsFor work) ns hs → length ns ≤ k → drop k hs ≡ []
holes_past work zero [] [] h l = refl
holes_past work zero [] (t ∷ hs) h l = absurd h
holes_past work zero (n ∷ ns) hs h l = absurd (omega arith)
holes_past work (suc k) [] [] h l = refl
holes_past work (suc k) [] (t ∷ hs) h l = absurd h
holes_past work (suc k) (n ∷ ns) [] h l = absurd h
holes_past work (suc k) (n ∷ ns) (t ∷ hs) h l = holes_past work k ns hs h.1 (omega arith)

pub sizes_there : (work : Work) (k : ℕ) (hs : List (Tree Identifier)) (n : number.Tree) (h : IsHole work hs k n) → sizes (drop k hs) ≡ tree_size h.tree + sizes (drop (k + 1) hs)
sizes_there work k hs n h = ap sizes h.split
