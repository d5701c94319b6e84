-- The definition's order of diagnostics is a total one, and what stands in a document is in a map's.
use Rattle.std.proofs.Common.{◌≡◌, ◌==◌, nat_lt, ℕ, Bool, true, false, cond, not, ◌&&◌, ◌||◌, List, [], ◌∷◌, ◌++◌, map, filter, Ordering, Less, Equal, Greater, is_lt, is_le, nat_cmp, refl, sym, ap, ◌∙◌, subst, eqb-true, eq-eqb}
use Rattle.std.specs.Ordering.{match_ordering, ordering_reverse, ordering_then}
use Rattle.std.specs.Cmp.{IsTotalOrder, tied_itself}
use Rattle.std.specs.Cmp.Lexicographic.{slice_cmp}
use Rattle.std.specs.FinMap.{nat_cmp-IsAntisymmetric, slice_cmp-IsAntisymmetric}
use Rattle.std.specs.BTreeMap.{insert_entry}
use Rattle.std.proofs.lemmas.Cmp.{on_total, then_total, nat_cmp_total, nat_list_cmp_total}
use Rattle.scheme_model.specs.Entries.{is_below}
use Rattle.scheme_model.specs.Diagnostics.{Diagnostic, is_before, put_in, sorted}
use Rattle.read_documents.specs.Findings.{in_document, kept}
use Rattle.read_documents.proofs.PutLaws.{keep, over, in_order, Rise, in_order_push, rise_in_order, filter_over, filter_in_order}

-- by start, code and text
abbrev pub key_cmp : ℕ × ℕ × List ℕ → ℕ × ℕ × List ℕ → Ordering
key_cmp a b = ordering_then (nat_cmp a.0 b.0) (ordering_then (nat_cmp a.1 b.1) (slice_cmp nat_cmp a.2 b.2))

abbrev pub cmp : Diagnostic → Diagnostic → Ordering
cmp a b = ordering_then (nat_cmp a.document b.document) (key_cmp (kept a).0 (kept b).0)

pub cmp_total : IsTotalOrder cmp
cmp_total =
    then_total (on_total (λ (d : Diagnostic). d.document) nat_cmp_total)
    (then_total (on_total (λ (d : Diagnostic). d.start) nat_cmp_total)
    (then_total (on_total (λ (d : Diagnostic). d.code) nat_cmp_total) (on_total (λ (d : Diagnostic). d.text) nat_list_cmp_total)))

-- ---- the definition's order is this one

below : (s t : List ℕ) (r : Ordering) → slice_cmp nat_cmp s t ≡ r → is_lt (slice_cmp nat_cmp s t) ≡ is_below s t
below s t Less e = simp e
below s t Equal e = simp e
below s t Greater e = simp e

step : (s t b : Bool) (r : Ordering) → is_lt r ≡ b → is_lt (ordering_then (cond s Less (cond t Equal Greater)) r) ≡ (s || (t && b))
step true t b r e = refl
step false true b r e = e
step false false b r e = refl

pub before : (a b : Diagnostic) → is_lt (cmp a b) ≡ is_before a b
before a b =
    step (nat_lt a.document b.document) (a.document == b.document) _ _
    (step (nat_lt a.start b.start) (a.start == b.start) _ _ (step (nat_lt a.code b.code) (a.code == b.code) _ _ (below a.text b.text (slice_cmp nat_cmp a.text b.text) refl)))

three : {A : Type 0} (r : Ordering) (x y z w : A) → z ≡ w → cond (is_lt r) x (cond (not (is_lt r) && not (is_lt (ordering_reverse r))) y z) ≡ match_ordering r x y w
three Less x y z w e = refl
three Equal x y z w e = refl
three Greater x y z w e = e

put_is : (d : Diagnostic) (es : List Diagnostic) → put_in d es ≡ keep cmp d es
put_is d [] = refl
put_is d (e ∷ es) =
    let a : is_before d e ≡ is_lt (cmp d e) = sym (before d e) in
    let b : is_before e d ≡ is_lt (ordering_reverse (cmp d e)) = sym (before e d) ∙ ap is_lt (cmp_total.antisymm e d) in
    (λ i. cond (a i) (d ∷ e ∷ es) (cond (not (a i) && not (b i)) (e ∷ es) (e ∷ put_in d es))) ∙ three (cmp d e) (d ∷ e ∷ es) (e ∷ es) (e ∷ put_in d es) (e ∷ keep cmp d es) (ap (λ ys. e ∷ ys) (put_is d es))

pub sorted_is : (ds : List Diagnostic) → sorted ds ≡ in_order cmp ds
sorted_is [] = refl
sorted_is (d ∷ ds) = put_is d (sorted ds) ∙ ap (keep cmp d) (sorted_is ds)

pub sorted_push : (ds : List Diagnostic) (d : Diagnostic) → sorted (ds ++ d ∷ []) ≡ over cmp d (sorted ds)
sorted_push ds d = sorted_is (ds ++ d ∷ []) ∙ in_order_push cmp_total ds d ∙ ap (over cmp d) (sym (sorted_is ds))

sorted_rise : (ds : List Diagnostic) → Rise cmp (sorted ds)
sorted_rise ds = subst (Rise cmp) (sym (sorted_is ds)) (rise_in_order cmp_total ds)

-- a comparison step by step: whether one isn't behind another
abbrev pub steps : Diagnostic → Diagnostic → Ordering
steps a b = ordering_then (ordering_then (ordering_then (nat_cmp a.document b.document) (nat_cmp a.start b.start)) (nat_cmp a.code b.code)) (slice_cmp nat_cmp a.text b.text)

left : (r s t u : Ordering) → ordering_then (ordering_then (ordering_then r s) t) u ≡ ordering_then r (ordering_then s (ordering_then t u))
left Less s t u = refl
left Equal Less t u = refl
left Equal Equal t u = refl
left Equal Greater t u = refl
left Greater s t u = refl

upto : (r : Ordering) → is_le r ≡ not (is_lt (ordering_reverse r))
upto Less = refl
upto Equal = refl
upto Greater = refl

pub not_behind : (a b : Diagnostic) → is_le (steps a b) ≡ not (is_before b a)
not_behind a b =
    ap is_le (left (nat_cmp a.document b.document) (nat_cmp a.start b.start) (nat_cmp a.code b.code) (slice_cmp nat_cmp a.text b.text))
    ∙ upto (cmp a b) ∙ ap (λ r. not (is_lt r)) (sym (cmp_total.antisymm b a)) ∙ ap not (before b a)

-- ---- those that pass a test of what equal ones share

pub filter_push : (p : Diagnostic → Bool) → ((a b : Diagnostic) → cmp a b ≡ Equal → p a ≡ p b) → (ds : List Diagnostic) (d : Diagnostic) →
    filter p (sorted (ds ++ d ∷ [])) ≡ cond (p d) (over cmp d (filter p (sorted ds))) (filter p (sorted ds))
filter_push p alike ds d = ap (filter p) (sorted_push ds d) ∙ filter_over cmp_total p alike d (sorted ds) (sorted_rise ds)

first_equal : (r s : Ordering) → ordering_then r s ≡ Equal → r ≡ Equal
first_equal Less s e = e
first_equal Equal s e = refl
first_equal Greater s e = e

then_equal : (r s : Ordering) → ordering_then r s ≡ Equal → s ≡ Equal
then_equal Less s e = absurd cc
then_equal Equal s e = e
then_equal Greater s e = absurd cc

same_document : (a b : Diagnostic) → cmp a b ≡ Equal → a.document ≡ b.document
same_document a b e = nat_cmp-IsAntisymmetric a.document b.document (first_equal _ _ e)

same_key : (a b : ℕ × ℕ × List ℕ) → key_cmp a b ≡ Equal → a ≡ b
same_key a b e =
    let x : a.0 ≡ b.0 = nat_cmp-IsAntisymmetric a.0 b.0 (first_equal _ _ e) in
    let f : ordering_then (nat_cmp a.1 b.1) (slice_cmp nat_cmp a.2 b.2) ≡ Equal = then_equal (nat_cmp a.0 b.0) _ e in
    let y : a.1 ≡ b.1 = nat_cmp-IsAntisymmetric a.1 b.1 (first_equal _ _ f) in
    let z : a.2 ≡ b.2 = slice_cmp-IsAntisymmetric nat_cmp-IsAntisymmetric a.2 b.2 (then_equal (nat_cmp a.1 b.1) _ f) in
    λ i. (x i, y i, z i)

pub same_code : (a b : Diagnostic) → cmp a b ≡ Equal → a.code ≡ b.code
same_code a b e = ap (λ (k : ℕ × ℕ × List ℕ). k.1) (same_key (kept a).0 (kept b).0 (then_equal (nat_cmp a.document b.document) _ e))

-- ---- a document

abbrev AllIn : ℕ → List Diagnostic → Type 0
AllIn n [] = Unit {0}
AllIn n (d ∷ ds) = (d.document ≡ n) × AllIn n ds

all_in : (n : ℕ) (ds : List Diagnostic) → AllIn n (in_document n ds)
all_in n [] = tt
all_in n (d ∷ ds) = go (all_in n ds) (d.document == n) refl
  where
    go : AllIn n (in_document n ds) → (b : Bool) → (d.document == n) ≡ b → AllIn n (cond b (d ∷ in_document n ds) (in_document n ds))
    go rest true e = (eqb-true d.document n e, rest)
    go rest false e = rest

here : (n : ℕ) (a b : Diagnostic) → a.document ≡ n → b.document ≡ n → cmp a b ≡ key_cmp (kept a).0 (kept b).0
here n a b p q = ap (λ r. ordering_then r (key_cmp (kept a).0 (kept b).0)) ((λ i. nat_cmp (p i) (q i)) ∙ equal n)
  where
    equal : (n : ℕ) → nat_cmp n n ≡ Equal
    equal n = tied_itself nat_cmp_total n

kept_over : (n : ℕ) (d : Diagnostic) (es : List Diagnostic) → d.document ≡ n → AllIn n es → map kept (over cmp d es) ≡ insert_entry key_cmp (map kept es) (kept d).0 d.end
kept_over n d [] p h = refl
kept_over n d (e ∷ es) p h = ap (λ r. map kept (match_ordering r (d ∷ e ∷ es) (d ∷ es) (e ∷ over cmp d es))) (here n d e p h.0) ∙ go (kept_over n d es p h.1) (key_cmp (kept d).0 (kept e).0) refl
  where
    go : map kept (over cmp d es) ≡ insert_entry key_cmp (map kept es) (kept d).0 d.end → (r : Ordering) → key_cmp (kept d).0 (kept e).0 ≡ r →
        map kept (match_ordering r (d ∷ e ∷ es) (d ∷ es) (e ∷ over cmp d es)) ≡ match_ordering r (kept d ∷ kept e ∷ map kept es) (((kept e).0, d.end) ∷ map kept es) (kept e ∷ insert_entry key_cmp (map kept es) (kept d).0 d.end)
    go rest Less q = refl
    go rest Equal q = ap (λ (k : ℕ × ℕ × List ℕ). (k, d.end) ∷ map kept es) (same_key (kept d).0 (kept e).0 q)
    go rest Greater q = ap (λ ys. kept e ∷ ys) rest

by_document : (n : ℕ) (a b : Diagnostic) → cmp a b ≡ Equal → (a.document == n) ≡ (b.document == n)
by_document n a b e = ap (λ m. m == n) (same_document a b e)

-- one more diagnostic of a document
pub kept_here : (n : ℕ) (ds : List Diagnostic) (d : Diagnostic) → d.document ≡ n → map kept (in_document n (sorted (ds ++ d ∷ []))) ≡ insert_entry key_cmp (map kept (in_document n (sorted ds))) (kept d).0 d.end
kept_here n ds d p =
    ap (map kept) (filter_push (λ x. x.document == n) (by_document n) ds d ∙ ap (λ b. cond b (over cmp d (in_document n (sorted ds))) (in_document n (sorted ds))) (eq-eqb d.document n p))
    ∙ kept_over n d (in_document n (sorted ds)) p (all_in n (sorted ds))

-- and of another one
pub kept_there : (n : ℕ) (ds : List Diagnostic) (d : Diagnostic) → (d.document == n) ≡ false → map kept (in_document n (sorted (ds ++ d ∷ []))) ≡ map kept (in_document n (sorted ds))
kept_there n ds d p =
    ap (map kept) (filter_push (λ x. x.document == n) (by_document n) ds d ∙ ap (λ b. cond b (over cmp d (in_document n (sorted ds))) (in_document n (sorted ds))) p)

-- a document's part in order is its part of the order
pub in_document_sorted : (n : ℕ) (ds : List Diagnostic) → in_document n (sorted ds) ≡ sorted (in_document n ds)
in_document_sorted n ds = ap (in_document n) (sorted_is ds) ∙ filter_in_order cmp_total (λ x. x.document == n) (by_document n) ds ∙ sym (sorted_is (in_document n ds))
