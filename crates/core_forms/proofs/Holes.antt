-- What is unquoted in a datum, part by part.
use Rattle.std.proofs.Common.{◌≡◌, ℕ, zero, suc, ◌+◌, List, [], ◌∷◌, ◌++◌, Bool, true, false, cond, Option, Some, None, Result, Ok, Err, refl, sym, ap, ◌∙◌, subst, append_assoc, arith}
use Rattle.std.specs.Prelude.{Vec, OnOk}
use Rattle.std.specs.declared.alloc.Global.{Global}
use Rattle.std.proofs.lemmas.List.{append-nil}
use Rattle.scheme_model.specs.declared.Occ.{Occ}
use Rattle.scheme_model.specs.Trees.{Atom, Tree, name, atom, list, vector, Trees, no_trees, tree, Tail, proper, dotted}
use Rattle.scheme_model.specs.ExpansionFaults.{Fault, BadQuasi, ◌>>◌}
use Rattle.scheme_model.specs.Shapes.{one_of}
use Rattle.scheme_model.specs.Matching.{behind}
use Rattle.scheme_model.specs.Quasiquote.{Mark, Nested, Unquoted, Spliced, Pieces, RowPieces, pieces, row_pieces, before, listed, mark_in, hole_behind, is_splice, pair_at, tail_at, elements_at}
use Rattle.scheme_model.specs.Ident.{Ident as Identifier}
use Rattle.syntax_tree.specs.Works.{StandsFor}
use Rattle.syntax_tree.specs.declared.trees.Work.{Work}
use Rattle.syntax_tree.specs.declared.trees.nodes.Tree as number
use Rattle.core_forms.specs.declared.fault.CoreFault.{CoreFault}
use Rattle.core_forms.specs.declared.fault.CoreFault.TheVariants as fault
use Rattle.core_forms.specs.declared.quasi.Step.TheVariants as step
use Rattle.core_forms.specs.declared.quasi.Found.{Found}
use Rattle.core_forms.specs.Marks.{AddsHoles, AddsFound, nodes_in, nodes_among, nodes_behind, passed_in, places_from, datum_as, row_as, step_by}
use Rattle.core_forms.specs.Ends.{Refuses, AddsPieces, AddsRow}
use Rattle.core_forms.proofs.Reading.{refuses_then, matches_both}

-- what holds of a call that ends well
pub on_ok : {X : Type 0} {E : Type 0} {P : Type 0} {Q : Type 0} (r : Result X E) → (P → Q) → OnOk r P → OnOk r Q
on_ok (Ok x) f h = f h
on_ok (Err e) f h = h

-- ---- what is found added up

pub places_both : (n : ℕ) (bs cs : List Bool) → places_from n (bs ++ cs) ≡ places_from n bs ++ places_from (n + passed_in bs) cs
places_both n [] cs = ap (λ (m : ℕ). places_from m cs) (omega arith)
places_both n (true ∷ bs) cs = places_both (n + 1) bs cs ∙ ap (λ (m : ℕ). places_from (n + 1) bs ++ places_from m cs) (omega arith)
places_both n (false ∷ bs) cs = ap (λ (ms : List ℕ). n ∷ ms) (places_both n bs cs)

pub passed_both : (bs cs : List Bool) → passed_in (bs ++ cs) ≡ passed_in bs + passed_in cs
passed_both [] cs = omega arith
passed_both (true ∷ bs) cs = omega (arith, passed_both bs cs)
passed_both (false ∷ bs) cs = passed_both bs cs

holes_none : (work : Work) (ns : List number.Tree) → AddsHoles work ns ns []
holes_none work ns = ([], sym (append-nil ns), tt)

holes_both : (work : Work) (a b c : List number.Tree) (hs gs : List (Tree Identifier)) → AddsHoles work a b hs → AddsHoles work b c gs → AddsHoles work a c (hs ++ gs)
holes_both work a b c hs gs p q =
    (p.0 ++ q.0, q.1 ∙ ap (λ (x : List number.Tree). x ++ q.0) p.1 ∙ append_assoc a p.0 q.0, matches_both (StandsFor work) p.0 q.0 hs gs p.2 q.2)

-- the unquoted expressions, and the nodes gone through
abbrev pub Trace : Type 0
Trace = List (Tree Identifier) × List Bool

abbrev pub Traces : Work → Found → Found → Trace → Type 0
Traces work old new x = AddsFound work old new x.0 x.1

abbrev pub both : Trace → Trace → Trace
both x y = (x.0 ++ y.0, x.1 ++ y.1)

pub adds_none : (work : Work) (a : Found) → Traces work a a ([], [])
adds_none work a = record { trees = holes_none work a.trees.items; places = sym (append-nil a.places.items); passed = omega arith }

pub adds_both : (work : Work) (a b c : Found) (x y : Trace) → Traces work a b x → Traces work b c y → Traces work a c (both x y)
adds_both work a b c x y p q =
    record {
      trees = holes_both work a.trees.items b.trees.items c.trees.items x.0 y.0 p.trees q.trees;
      places =
          q.places
          ∙ ap (λ (ns : List ℕ). ns ++ places_from b.passed y.1) p.places
          ∙ append_assoc a.places.items (places_from a.passed x.1) (places_from b.passed y.1)
          ∙ ap (λ (n : ℕ). a.places.items ++ (places_from a.passed x.1 ++ places_from n y.1)) p.passed
          ∙ ap (λ (ns : List ℕ). a.places.items ++ ns) (sym (places_both a.passed x.1 y.1));
      passed = omega (arith, p.passed, q.passed, passed_both x.1 y.1);
    }

-- a node is passed
pub adds_node : (work : Work) (a b : Found) → b.trees ≡ a.trees → b.places ≡ a.places → b.passed ≡ a.passed + 1 → Traces work a b ([], true ∷ [])
adds_node work a b t l n =
    record {
      trees = subst (λ (v : Vec number.Tree Global). AddsHoles work a.trees.items v.items []) (sym t) (holes_none work a.trees.items);
      places = ap (λ (v : Vec ℕ Global). v.items) l ∙ sym (append-nil a.places.items);
      passed = n;
    }

-- a mark and the hole behind it
pub adds_hole : (work : Work) (a b : Found) (n : number.Tree) (t : Tree Identifier) → b.trees.items ≡ a.trees.items ++ n ∷ [] → b.places.items ≡ a.places.items ++ (a.passed + 1) ∷ [] → b.passed ≡ a.passed + 1 → StandsFor work n t →
    Traces work a b (t ∷ [], true ∷ false ∷ [])
adds_hole work a b n t e l m h = record { trees = (n ∷ [], e, (h, tt)); places = l; passed = m }

-- traces one after another
abbrev pub after : Trace → Result Trace (Fault Identifier) → Result Trace (Fault Identifier)
after x (Ok y) = Ok (both x y)
after x (Err e) = Err e

pub after_none : (s : Result Trace (Fault Identifier)) → after ([], []) s ≡ s
after_none (Ok y) = refl
after_none (Err e) = refl

pub refuses_after : (work : Work) (e : CoreFault) (x : Trace) (s : Result Trace (Fault Identifier)) → Refuses work e s → Refuses work e (after x s)
refuses_after work fault.BadForm x s h = ap (after x) h
refuses_after work (fault.DuplicateBinder n) x s h = (h.0, ap (after x) h.1, h.2)
refuses_after work fault.BadPlace x s h = ap (after x) h
refuses_after work fault.BadRecord x s h = ap (after x) h
refuses_after work fault.BadQuasi x s h = ap (after x) h
refuses_after work fault.Memory x s h = tt

-- ---- the trace of a datum, and of a row

abbrev pub piece_trace : Pieces Identifier → Trace
piece_trace p = (p.holes, nodes_in p.datum)

abbrev pub row_trace : RowPieces Identifier → Trace
row_trace r = (r.holes, nodes_among r.parts ++ nodes_behind r.tail)

abbrev pub row_holes : Result (RowPieces Identifier) (Fault Identifier) → Result Trace (Fault Identifier)
row_holes (Ok r) = Ok (row_trace r)
row_holes (Err e) = Err e

-- the row that has this
pub row_had : (s : Result (RowPieces Identifier) (Fault Identifier)) (x : Trace) → row_holes s ≡ Ok x → (r : RowPieces Identifier) × (s ≡ Ok r) × (row_trace r ≡ x)
row_had (Ok r) x h = (r, refl, cc)
row_had (Err e) x h = absurd cc

pub row_refused : (work : Work) (e : CoreFault) (s : Result (RowPieces Identifier) (Fault Identifier)) → Refuses work e (row_holes s) → Refuses work e s
row_refused work e (Ok r) h = no_fault work e (row_trace r) h
  where
    no_fault : (work : Work) (e : CoreFault) (x : Trace) → Refuses work e (Ok x) → Refuses work e (Ok r)
    no_fault work fault.BadForm x h = absurd cc
    no_fault work (fault.DuplicateBinder n) x h = let e = h.1 in absurd cc
    no_fault work fault.BadPlace x h = absurd cc
    no_fault work fault.BadRecord x h = absurd cc
    no_fault work fault.BadQuasi x h = absurd cc
    no_fault work fault.Memory x h = tt
row_refused work fault.BadForm (Err f) h = cc
row_refused work (fault.DuplicateBinder n) (Err f) h = let e = h.1 in (h.0, cc, h.2)
row_refused work fault.BadPlace (Err f) h = cc
row_refused work fault.BadRecord (Err f) h = cc
row_refused work fault.BadQuasi (Err f) h = cc
row_refused work fault.Memory (Err f) h = tt

holes_refused : (work : Work) (e : CoreFault) (s : Result (RowPieces Identifier) (Fault Identifier)) → Refuses work e s → Refuses work e (row_holes s)
holes_refused work fault.BadForm s h = ap row_holes h
holes_refused work (fault.DuplicateBinder n) s h = (h.0, ap row_holes h.1, h.2)
holes_refused work fault.BadPlace s h = ap row_holes h
holes_refused work fault.BadRecord s h = ap row_holes h
holes_refused work fault.BadQuasi s h = ap row_holes h
holes_refused work fault.Memory s h = tt

-- ---- one part before others

abbrev pub joined : Pieces Identifier → Result (RowPieces Identifier) (Fault Identifier) → Result (RowPieces Identifier) (Fault Identifier)
joined p s = s >> λ r. Ok (before p r)

pub joined_holes : (p : Pieces Identifier) (s : Result (RowPieces Identifier) (Fault Identifier)) → row_holes (joined p s) ≡ after (piece_trace p) (row_holes s)
joined_holes p (Ok r) = ap (λ (bs : List Bool). Ok (p.holes ++ r.holes, bs)) (append_assoc (nodes_in p.datum) (nodes_among r.parts) (nodes_behind r.tail))
joined_holes p (Err e) = refl

pub after_after : (x y : Trace) (s : Result Trace (Fault Identifier)) → after (both x y) s ≡ after x (after y s)
after_after x y (Ok z) = ap (λ (hs : List (Tree Identifier)). Ok (hs, (x.1 ++ y.1) ++ z.1)) (append_assoc x.0 y.0 z.0) ∙ ap (λ (bs : List Bool). Ok (x.0 ++ (y.0 ++ z.0), bs)) (append_assoc x.1 y.1 z.1)
after_after x y (Err e) = refl

-- nothing more
pub after_end : (x : Trace) → both x ([], []) ≡ x
after_end x = ap (λ (hs : List (Tree Identifier)). (hs, x.1 ++ [])) (append-nil x.0) ∙ ap (λ (bs : List Bool). (x.0, bs)) (append-nil x.1)

-- ---- a datum, by its outermost node

abbrev pub listed_row : Option Occ → Result (RowPieces Identifier) (Fault Identifier) → Result (Pieces Identifier) (Fault Identifier)
listed_row o s = s >> λ r. Ok (listed o r)

module _ (mark : Identifier → Option Mark) (l : ℕ) where
  pub name_is : (e : Bool) (i : Identifier) (o : Option Occ) → datum_as mark l e (name i o) ≡ Ok (pieces (name (Some i) o) [])
  name_is true i o = refl
  name_is false i o = refl

  pub atom_is : (e : Bool) (a : Atom) (o : Option Occ) → datum_as mark l e (atom a o) ≡ Ok (pieces (atom a o) [])
  atom_is true a o = refl
  atom_is false a o = refl

  pub vector_is : (e : Bool) (ts : Trees Identifier) (o : Option Occ) → datum_as mark l e (vector ts o) ≡ (elements_at mark l ts >> λ r. Ok (pieces (vector r.parts o) r.holes))
  vector_is true ts o = refl
  vector_is false ts o = refl

  pub list_is : (e : Bool) (ts : Trees Identifier) (tail : Tail Identifier) (o : Option Occ) → datum_as mark l e (list ts tail o) ≡ listed_row o (row_as mark l e ts tail)
  list_is false ts tail o = refl
  list_is true no_trees tail o = refl
  list_is true (tree t ts) tail o =
      elim (is_splice (mark_in mark t) l) as (λ b.
      cond b (listed_row o (hole_behind t (one_of ts tail))) (listed_row o (pair_at mark l (tree t ts) tail (tail_at mark tail))) ≡ listed_row o (cond b (hole_behind t (one_of ts tail)) (pair_at mark l (tree t ts) tail (tail_at mark tail)))) [
        | true ↦ refl
        | false ↦ refl
      ]

  -- nothing but a tail
  pub row_end : (e : Bool) (tail : Tail Identifier) → row_as mark l e no_trees tail ≡ tail_at mark tail l
  row_end true tail = refl
  row_end false tail = refl

-- ---- the parts of a list

module _ (mark : Identifier → Option Mark) (us : Trees Identifier) (tail : Tail Identifier) where
  -- a part that is gone into
  pub into_is : (t : Tree Identifier) (l : ℕ) (e : Bool) → step_by (mark_in mark t) l e ≡ step.Into → row_as mark l e (tree t us) tail ≡ (datum_as mark l true t >> λ p. joined p (row_as mark l false us tail))
  into_is t l e h = by (mark_in mark t) refl l e h
    where
      by : (m : Option Mark) → mark_in mark t ≡ m → (l : ℕ) (e : Bool) → step_by m l e ≡ step.Into → row_as mark l e (tree t us) tail ≡ (datum_as mark l true t >> λ p. joined p (row_as mark l false us tail))
      by None g l true h = rw g refl
      by None g l false h = rw g refl
      by (Some Nested) g l e h = absurd cc
      by (Some Unquoted) g zero e h = absurd cc
      by (Some Unquoted) g (suc l) e h = absurd cc
      by (Some Spliced) g zero true h = absurd cc
      by (Some Spliced) g zero false h = absurd cc
      by (Some Spliced) g (suc l) e h = absurd cc

  -- a mark that changes the level
  pub level_is : (t : Tree Identifier) (l m : ℕ) (e : Bool) → step_by (mark_in mark t) l e ≡ step.Level m → row_holes (row_as mark l e (tree t us) tail) ≡ after ([], true ∷ []) (row_holes (row_as mark m false us tail))
  level_is (name i o) l m e h = by (mark i) refl l m e h
    where
      same : (l m : ℕ) → step.Level l ≡ step.Level m → l ≡ m
      same l m h = cc

      holes_same : (s : Result (RowPieces Identifier) (Fault Identifier)) → row_holes (joined (pieces (name (Some i) o) []) s) ≡ after ([], true ∷ []) (row_holes s)
      holes_same s = joined_holes (pieces (name (Some i) o) []) s

      by : (k : Option Mark) → mark i ≡ k → (l m : ℕ) (e : Bool) → step_by k l e ≡ step.Level m → row_holes (row_as mark l e (tree (name i o) us) tail) ≡ after ([], true ∷ []) (row_holes (row_as mark m false us tail))
      by None g l m e h = absurd cc
      by (Some Nested) g l m true h = rw (g, sym (same (suc l) m h)) (holes_same (row_as mark (suc l) false us tail))
      by (Some Nested) g l m false h = rw (g, sym (same (suc l) m h)) (holes_same (row_as mark (suc l) false us tail))
      by (Some Unquoted) g zero m e h = absurd cc
      by (Some Unquoted) g (suc l) m true h = rw (g, sym (same l m h)) (holes_same (row_as mark l false us tail))
      by (Some Unquoted) g (suc l) m false h = rw (g, sym (same l m h)) (holes_same (row_as mark l false us tail))
      by (Some Spliced) g zero m true h = absurd cc
      by (Some Spliced) g zero m false h = absurd cc
      by (Some Spliced) g (suc l) m true h = rw (g, sym (same l m h)) (holes_same (row_as mark l false us tail))
      by (Some Spliced) g (suc l) m false h = rw (g, sym (same l m h)) (holes_same (row_as mark l false us tail))
  level_is (atom a o) l m e h = absurd cc
  level_is (list ts last o) l m e h = absurd cc
  level_is (vector ts o) l m e h = absurd cc

  -- a hole
  pub hole_is : (t : Tree Identifier) (l : ℕ) (e : Bool) → step_by (mark_in mark t) l e ≡ step.Hole → (i : Identifier) × ((o : Option Occ) × (row_as mark l e (tree t us) tail ≡ hole_behind (name i o) (one_of us tail)))
  hole_is (name i o) l e h = (i, (o, by (mark i) refl l e h))
    where
      by : (m : Option Mark) → mark i ≡ m → (l : ℕ) (e : Bool) → step_by m l e ≡ step.Hole → row_as mark l e (tree (name i o) us) tail ≡ hole_behind (name i o) (one_of us tail)
      by None g l e h = absurd cc
      by (Some Nested) g l e h = absurd cc
      by (Some Unquoted) g zero true h = rw g refl
      by (Some Unquoted) g zero false h = rw g refl
      by (Some Unquoted) g (suc l) e h = absurd cc
      by (Some Spliced) g zero true h = rw g refl
      by (Some Spliced) g zero false h = absurd cc
      by (Some Spliced) g (suc l) e h = absurd cc
  hole_is (atom a o) l e h = absurd cc
  hole_is (list ts last o) l e h = absurd cc
  hole_is (vector ts o) l e h = absurd cc

  -- a splice that is misplaced
  pub misplaced_is : (t : Tree Identifier) (l : ℕ) (e : Bool) → step_by (mark_in mark t) l e ≡ step.Misplaced → row_as mark l e (tree t us) tail ≡ Err BadQuasi
  misplaced_is t l e h = by (mark_in mark t) refl l e h
    where
      by : (m : Option Mark) → mark_in mark t ≡ m → (l : ℕ) (e : Bool) → step_by m l e ≡ step.Misplaced → row_as mark l e (tree t us) tail ≡ Err BadQuasi
      by None g l e h = absurd cc
      by (Some Nested) g l e h = absurd cc
      by (Some Unquoted) g zero e h = absurd cc
      by (Some Unquoted) g (suc l) e h = absurd cc
      by (Some Spliced) g zero true h = absurd cc
      by (Some Spliced) g zero false h = rw g refl
      by (Some Spliced) g (suc l) e h = absurd cc

-- ---- up to a place of a list

pub record RowUpTo (work : Work) (old now : Found) (mark : Identifier → Option Mark) (ts : Trees Identifier) (tail : Tail Identifier) (level : ℕ) (element : Bool) (k inner : ℕ) (first : Bool) : Type 0 where
  pub holes : Trace
  pub adds : Traces work old now holes
  pub whole : after holes (row_holes (row_as mark inner first (behind k ts) tail)) ≡ row_holes (row_as mark level element ts tail)

module _ (work : Work) (old now : Found) (mark : Identifier → Option Mark) (ts : Trees Identifier) (tail : Tail Identifier) (level : ℕ) (element : Bool) (k inner : ℕ) (first : Bool)
    (p : RowUpTo work old now mark ts tail level element k inner first) (t : Tree Identifier) (split : behind k ts ≡ tree t (behind (suc k) ts)) where
  whole_row : after p.holes (row_holes (row_as mark inner first (tree t (behind (suc k) ts)) tail)) ≡ row_holes (row_as mark level element ts tail)
  whole_row = sym (ap (λ (x : Trees Identifier). after p.holes (row_holes (row_as mark inner first x tail))) split) ∙ p.whole

  abbrev pub rest : ℕ → Result (RowPieces Identifier) (Fault Identifier)
  rest l = row_as mark l false (behind (suc k) ts) tail

  pub row_into : (then : Found) → step_by (mark_in mark t) inner first ≡ step.Into → (q : Pieces Identifier) → datum_as mark inner true t ≡ Ok q → Traces work now then (piece_trace q) →
      RowUpTo work old then mark ts tail level element (suc k) inner false
  row_into then s q e h =
      let i = into_is mark (behind (suc k) ts) tail t inner first s ∙ ap (λ (x : Result (Pieces Identifier) (Fault Identifier)). x >> λ p. joined p (rest inner)) e in
      record {
        holes = both p.holes (piece_trace q);
        adds = adds_both work old now then p.holes (piece_trace q) p.adds h;
        whole = after_after p.holes (piece_trace q) (row_holes (rest inner)) ∙ ap (after p.holes) (sym (ap row_holes i ∙ joined_holes q (rest inner))) ∙ whole_row;
      }

  pub row_level : (then : Found) (m : ℕ) → step_by (mark_in mark t) inner first ≡ step.Level m → Traces work now then ([], true ∷ []) → RowUpTo work old then mark ts tail level element (suc k) m false
  row_level then m s h =
      record {
        holes = both p.holes ([], true ∷ []);
        adds = adds_both work old now then p.holes ([], true ∷ []) p.adds h;
        whole = after_after p.holes ([], true ∷ []) (row_holes (rest m)) ∙ ap (after p.holes) (sym (level_is mark (behind (suc k) ts) tail t inner m first s)) ∙ whole_row;
      }

  -- the row as a whole by what a part of it gives
  pub row_refuses : (e : CoreFault) → Refuses work e (row_as mark inner first (tree t (behind (suc k) ts)) tail) → Refuses work e (row_as mark level element ts tail)
  row_refuses e h =
      row_refused work e (row_as mark level element ts tail) (subst (Refuses work e) whole_row (refuses_after work e p.holes _ (holes_refused work e _ h)))

  pub row_into_refuses : (e : CoreFault) → step_by (mark_in mark t) inner first ≡ step.Into → Refuses work e (datum_as mark inner true t) → Refuses work e (row_as mark level element ts tail)
  row_into_refuses e s h =
      row_refuses e (subst (Refuses work e) (sym (into_is mark (behind (suc k) ts) tail t inner first s)) (refuses_then work e (datum_as mark inner true t) (λ p. joined p (rest inner)) h))

  pub row_done : (then : Found) (q : RowPieces Identifier) → row_as mark inner first (tree t (behind (suc k) ts)) tail ≡ Ok q → Traces work now then (row_trace q) →
      (r : RowPieces Identifier) × (row_as mark level element ts tail ≡ Ok r) × Traces work old then (row_trace r)
  row_done then q e h =
      let g = row_had (row_as mark level element ts tail) (both p.holes (row_trace q)) (sym (sym (ap (λ (x : Result (RowPieces Identifier) (Fault Identifier)). after p.holes (row_holes x)) e) ∙ whole_row)) in
      (g.0, g.1, subst (Traces work old then) (sym g.2) (adds_both work old now then p.holes (row_trace q) p.adds h))

  -- the row as a whole by what the rest of it gives
  pub row_ends : (then : Found) (z : Result (RowPieces Identifier) (Fault Identifier)) (r : Result (Unit {0}) CoreFault) → row_as mark inner first (tree t (behind (suc k) ts)) tail ≡ z → AddsRow work now then z r →
      AddsRow work old then (row_as mark level element ts tail) r
  row_ends then z (Ok x) e h = row_done then h.0 (e ∙ h.1) h.2
  row_ends then z (Err f) e h = row_refuses f (subst (Refuses work f) (sym e) h)

-- the same by other words
pub row_at : (work : Work) (old now then : Found) (mark : Identifier → Option Mark) (ts : Trees Identifier) (tail : Tail Identifier) (level : ℕ) (element : Bool) (k j inner next : ℕ) (first : Bool) → j ≡ k → next ≡ inner → then ≡ now →
    RowUpTo work old now mark ts tail level element k inner first → RowUpTo work old then mark ts tail level element j next first
row_at work old now then mark ts tail level element k j inner next first a b e h =
    subst (λ (x : ℕ). RowUpTo work old then mark ts tail level element x next first) (sym a)
    (subst (λ (x : ℕ). RowUpTo work old then mark ts tail level element k x first) (sym b) (subst (λ (x : Found). RowUpTo work old x mark ts tail level element k inner first) (sym e) h))

-- ---- the whole list

pub row_start : (work : Work) (old : Found) (mark : Identifier → Option Mark) (ts : Trees Identifier) (tail : Tail Identifier) (level : ℕ) (element : Bool) → RowUpTo work old old mark ts tail level element 0 level element
row_start work old mark ts tail level element =
    record { holes = ([], []); adds = adds_none work old; whole = after_none (row_holes (row_as mark level element ts tail)) }

module _ (work : Work) (old now : Found) (mark : Identifier → Option Mark) (ts : Trees Identifier) (level : ℕ) (element : Bool) (k inner : ℕ) (first : Bool) where
  pub row_proper : RowUpTo work old now mark ts proper level element k inner first → behind k ts ≡ no_trees →
      (r : RowPieces Identifier) × (row_as mark level element ts proper ≡ Ok r) × Traces work old now (row_trace r)
  row_proper p e =
      let whole = ap (λ (s : Result (RowPieces Identifier) (Fault Identifier)). after p.holes (row_holes s)) (sym (row_end mark inner first proper)) ∙ sym (ap (λ (x : Trees Identifier). after p.holes (row_holes (row_as mark inner first x proper))) e) ∙ p.whole in
      let g = row_had (row_as mark level element ts proper) p.holes (sym whole ∙ ap Ok (after_end p.holes)) in
      (g.0, g.1, subst (Traces work old now) (sym g.2) p.adds)

  abbrev pub tail_holes : (s : Result (Pieces Identifier) (Fault Identifier)) → Result (RowPieces Identifier) (Fault Identifier)
  tail_holes s = s >> λ q. Ok (row_pieces no_trees (dotted q.datum) q.holes)

  pub row_dotted : (t : Tree Identifier) (then : Found) → RowUpTo work old now mark ts (dotted t) level element k inner first → behind k ts ≡ no_trees → (q : Pieces Identifier) → datum_as mark inner false t ≡ Ok q → Traces work now then (piece_trace q) →
      (r : RowPieces Identifier) × (row_as mark level element ts (dotted t) ≡ Ok r) × Traces work old then (row_trace r)
  row_dotted t then p e q s h =
      let whole = ap (λ (s : Result (RowPieces Identifier) (Fault Identifier)). after p.holes (row_holes s)) (sym (row_end mark inner first (dotted t))) ∙ sym (ap (λ (x : Trees Identifier). after p.holes (row_holes (row_as mark inner first x (dotted t)))) e) ∙ p.whole in
      let last = ap (λ (x : Result (Pieces Identifier) (Fault Identifier)). after p.holes (row_holes (tail_holes x))) s in
      let g = row_had (row_as mark level element ts (dotted t)) (both p.holes (piece_trace q)) (sym whole ∙ last) in
      (g.0, g.1, subst (Traces work old then) (sym g.2) (adds_both work old now then p.holes (piece_trace q) p.adds h))

  pub row_dotted_refuses : (t : Tree Identifier) (f : CoreFault) → RowUpTo work old now mark ts (dotted t) level element k inner first → behind k ts ≡ no_trees → Refuses work f (datum_as mark inner false t) →
      Refuses work f (row_as mark level element ts (dotted t))
  row_dotted_refuses t f p e h =
      let whole = ap (λ (s : Result (RowPieces Identifier) (Fault Identifier)). after p.holes (row_holes s)) (sym (row_end mark inner first (dotted t))) ∙ sym (ap (λ (x : Trees Identifier). after p.holes (row_holes (row_as mark inner first x (dotted t)))) e) ∙ p.whole in
      row_refused work f (row_as mark level element ts (dotted t))
      (subst (Refuses work f) whole (refuses_after work f p.holes _ (holes_refused work f _ (refuses_then work f (datum_as mark inner false t) (λ q. Ok (row_pieces no_trees (dotted q.datum) q.holes)) h))))

  -- a row to its end, by what its tail is
  pub row_none : (tail : Tail Identifier) → RowUpTo work old now mark ts tail level element k inner first → tail ≡ proper → behind k ts ≡ no_trees →
      (r : RowPieces Identifier) × (row_as mark level element ts tail ≡ Ok r) × Traces work old now (row_trace r)
  row_none proper p g e = row_proper p e
  row_none (dotted t) p g e = absurd cc

  dotted_ends : (t : Tree Identifier) (then : Found) → RowUpTo work old now mark ts (dotted t) level element k inner first → behind k ts ≡ no_trees → (r : Result (Unit {0}) CoreFault) → AddsPieces work now then (datum_as mark inner false t) r →
      AddsRow work old then (row_as mark level element ts (dotted t)) r
  dotted_ends t then p e (Ok x) h = row_dotted t then p e h.0 h.1 h.2
  dotted_ends t then p e (Err f) h = row_dotted_refuses t f p e h

  pub row_some : (tail : Tail Identifier) (t : Tree Identifier) (then : Found) → tail ≡ dotted t → RowUpTo work old now mark ts tail level element k inner first → behind k ts ≡ no_trees → (r : Result (Unit {0}) CoreFault) →
      AddsPieces work now then (datum_as mark inner false t) r → AddsRow work old then (row_as mark level element ts tail) r
  row_some tail t then g p e r h =
      subst (λ (x : Tail Identifier). AddsRow work old then (row_as mark level element ts x) r) (sym g)
      (dotted_ends t then (subst (λ (x : Tail Identifier). RowUpTo work old now mark ts x level element k inner first) g p) e r h)

-- ---- the parts of a vector

pub record PartsUpTo (work : Work) (old now : Found) (mark : Identifier → Option Mark) (ts : Trees Identifier) (level k : ℕ) : Type 0 where
  pub holes : Trace
  pub adds : Traces work old now holes
  pub whole : after holes (row_holes (elements_at mark level (behind k ts))) ≡ row_holes (elements_at mark level ts)

pub parts_start : (work : Work) (old : Found) (mark : Identifier → Option Mark) (ts : Trees Identifier) (level : ℕ) → PartsUpTo work old old mark ts level 0
parts_start work old mark ts level = record { holes = ([], []); adds = adds_none work old; whole = after_none (row_holes (elements_at mark level ts)) }

module _ (work : Work) (old now : Found) (mark : Identifier → Option Mark) (ts : Trees Identifier) (level k : ℕ) (p : PartsUpTo work old now mark ts level k) where
  pub parts_more : (then : Found) (t : Tree Identifier) → behind k ts ≡ tree t (behind (suc k) ts) → (q : Pieces Identifier) → datum_as mark level true t ≡ Ok q → Traces work now then (piece_trace q) → PartsUpTo work old then mark ts level (suc k)
  parts_more then t split q e h =
      let us = behind (suc k) ts in
      let i = ap (λ (x : Trees Identifier). elements_at mark level x) split ∙ ap (λ (x : Result (Pieces Identifier) (Fault Identifier)). x >> λ p. joined p (elements_at mark level us)) e in
      record {
        holes = both p.holes (piece_trace q);
        adds = adds_both work old now then p.holes (piece_trace q) p.adds h;
        whole = after_after p.holes (piece_trace q) (row_holes (elements_at mark level us)) ∙ ap (after p.holes) (sym (ap row_holes i ∙ joined_holes q (elements_at mark level us))) ∙ p.whole;
      }

  pub parts_refuse : (f : CoreFault) (t : Tree Identifier) → behind k ts ≡ tree t (behind (suc k) ts) → Refuses work f (datum_as mark level true t) → Refuses work f (elements_at mark level ts)
  parts_refuse f t split h =
      let us = behind (suc k) ts in
      let whole = sym (ap (λ (x : Trees Identifier). after p.holes (row_holes (elements_at mark level x))) split) ∙ p.whole in
      row_refused work f (elements_at mark level ts)
      (subst (Refuses work f) whole (refuses_after work f p.holes _ (holes_refused work f _ (refuses_then work f (datum_as mark level true t) (λ p. joined p (elements_at mark level us)) h))))

  pub parts_all : behind k ts ≡ no_trees → (r : RowPieces Identifier) × (elements_at mark level ts ≡ Ok r) × Traces work old now (row_trace r)
  parts_all e =
      let whole = sym (ap (λ (x : Trees Identifier). after p.holes (row_holes (elements_at mark level x))) e) ∙ p.whole in
      let g = row_had (elements_at mark level ts) p.holes (sym whole ∙ ap Ok (after_end p.holes)) in
      (g.0, g.1, subst (Traces work old now) (sym g.2) p.adds)

-- the parts of a vector have no tail
pub parts_proper : (mark : Identifier → Option Mark) (ts : Trees Identifier) (level : ℕ) (r : RowPieces Identifier) → elements_at mark level ts ≡ Ok r → r.tail ≡ proper
parts_proper mark no_trees level r e = cc
parts_proper mark (tree t ts) level r e = by (datum_as mark level true t) (elements_at mark level ts) (parts_proper mark ts level) e
  where
    by : (a : Result (Pieces Identifier) (Fault Identifier)) (b : Result (RowPieces Identifier) (Fault Identifier)) → ((q : RowPieces Identifier) → b ≡ Ok q → q.tail ≡ proper) → (a >> λ p. joined p b) ≡ Ok r → r.tail ≡ proper
    by (Ok p) (Ok q) f e = let h = f q refl in let g : before p q ≡ r = cc in ap (λ (x : RowPieces Identifier). x.tail) (sym g) ∙ h
    by (Ok p) (Err f) g e = absurd cc
    by (Err f) b g e = absurd cc

pub parts_nodes : (r : RowPieces Identifier) → r.tail ≡ proper → nodes_among r.parts ++ nodes_behind r.tail ≡ nodes_among r.parts
parts_nodes r e = ap (λ (x : Tail (Option Identifier)). nodes_among r.parts ++ nodes_behind x) e ∙ append-nil (nodes_among r.parts)
