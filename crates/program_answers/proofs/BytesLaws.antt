-- The orders of bytes, of lit bytes and of drawn pairs, in the definition and in the code.
use Rattle.std.proofs.Common.{◌≡◌, ℕ, List, Bool, true, false, refl, sym, ap, ◌∙◌, arith}
use Rattle.std.specs.Prelude.{◌==◌, nat_lt, ◌||◌, ◌&&◌, not}
use Rattle.std.specs.Cmp.{IsTotalOrder, nat_cmp_total, on_total, then_total}
use Rattle.std.specs.Cmp.Lexicographic.{slice_cmp}
use Rattle.std.specs.Ordering.{nat_cmp, ordering_reverse, ordering_then, is_eq, is_lt, eq_by_cmp}
use Rattle.std.specs.declared.cmp.Ordering.{Ordering}
use Rattle.std.specs.declared.cmp.Ordering.TheVariants.{Less, Equal, Greater}
use Rattle.std.proofs.lemmas.Bool.Decides.{nat_tests}
use Rattle.std.proofs.lemmas.Cmp.{nat_list_cmp_total}
use Rattle.std.proofs.lemmas.Map.Text.{is_eq-slice_cmp}
use Rattle.scheme_model.specs.Diagnostics.{Bytes}
use Rattle.scheme_model.specs.Entries.{is_below}
use Rattle.syntax_tree.proofs.InternLaws.{bytes_told}
use Rattle.program_leaves.proofs.KeyLaws.{both_equal, left, numbers_equal, one_number, right}
use Rattle.scheme_model.specs.Answers.{before_or, bytes_before, drawn_before, lit_before}
use Rattle.program_answers.specs.BytesKept.{bytes_seen, drawn_seen, lit_seen}
use Rattle.program_answers.specs.declared.bytes.Bytes as code_bytes
use Rattle.program_answers.specs.declared.bytes.Drawn as code_drawn
use Rattle.program_answers.specs.declared.bytes.Lit as code_lit
use Rattle.program_answers.proofs.OrderedLaws.{IsOrder}

-- ---- one order behind another

or_then : (p q r : Bool) (c d : Ordering) → p ≡ is_lt c → q ≡ is_lt (ordering_reverse c) → r ≡ is_lt d → (p || (not q && r)) ≡ is_lt (ordering_then c d)
or_then true q r Less d e f g = refl
or_then false q r Less d e f g = absurd cc
or_then true q r Equal d e f g = absurd cc
or_then false true r Equal d e f g = absurd cc
or_then false false r Equal d e f g = g
or_then true q r Greater d e f g = absurd cc
or_then false true r Greater d e f g = refl
or_then false false r Greater d e f g = absurd cc

first_equal : (c d : Ordering) → ordering_then c d ≡ Equal → c ≡ Equal
first_equal Less d h = absurd cc
first_equal Equal d h = refl
first_equal Greater d h = absurd cc

second_equal : (c d : Ordering) → ordering_then c d ≡ Equal → d ≡ Equal
second_equal Less d h = absurd cc
second_equal Equal d h = h
second_equal Greater d h = absurd cc

abbrev pub pair_cmp : {A B : Type 0} → (A → A → Ordering) → (B → B → Ordering) → A × B → A × B → Ordering
pair_cmp c d x y = ordering_then (c x.0 y.0) (d x.1 y.1)

abbrev pub pair_before : {A B : Type 0} → (A → A → Bool) → (B → B → Bool) → A × B → A × B → Bool
pair_before f g x y = before_or f x.0 y.0 (g x.1 y.1)

pub pair_order : {A B : Type 0} (c : A → A → Ordering) (f : A → A → Bool) (d : B → B → Ordering) (g : B → B → Bool) → IsOrder c f → IsOrder d g → IsOrder (pair_cmp c d) (pair_before f g)
pair_order {A = A} {B = B} c f d g o p = record {
  total = then_total (on_total (λ (x : A × B). x.0) o.total) (on_total (λ (x : A × B). x.1) p.total);
  one = λ x y e. let a = o.one x.0 y.0 (first_equal (c x.0 y.0) (d x.1 y.1) e) in let b = p.one x.1 y.1 (second_equal (c x.0 y.0) (d x.1 y.1) e) in λ j. (a j, b j);
  is = λ x y. or_then (f x.0 y.0) (f y.0 x.0) (g x.1 y.1) (c x.0 y.0) (d x.1 y.1) (o.is x.0 y.0) (o.is y.0 x.0 ∙ ap is_lt (o.total.antisymm y.0 x.0)) (p.is x.1 y.1);
}

-- ---- numbers

numbers_one : (a b : ℕ) → nat_cmp a b ≡ Equal → a ≡ b
numbers_one a b e = one_number a b (sym (numbers_equal a b) ∙ ap is_eq e)

pub number_order : IsOrder nat_cmp nat_lt
number_order = record { total = nat_cmp_total; one = numbers_one; is = λ a b. grind (arith, nat_tests) }

-- ---- bytes

abbrev pub span_cmp : Bytes → Bytes → Ordering
span_cmp a b = ordering_then (nat_cmp a.span.start b.span.start) (nat_cmp a.span.end b.span.end)

abbrev pub bytes_cmp : Bytes → Bytes → Ordering
bytes_cmp a b = ordering_then (nat_cmp a.document b.document) (span_cmp a b)

pub bytes_order : IsOrder bytes_cmp bytes_before
bytes_order = record {
  total = then_total (on_total (λ (b : Bytes). b.document) nat_cmp_total) (then_total (on_total (λ (b : Bytes). b.span.start) nat_cmp_total) (on_total (λ (b : Bytes). b.span.end) nat_cmp_total));
  one = λ a b e.
      let rest = second_equal (nat_cmp a.document b.document) (span_cmp a b) e in
      let d = numbers_one a.document b.document (first_equal (nat_cmp a.document b.document) (span_cmp a b) e) in
      let s = numbers_one a.span.start b.span.start (first_equal (nat_cmp a.span.start b.span.start) (nat_cmp a.span.end b.span.end) rest) in
      let t = numbers_one a.span.end b.span.end (second_equal (nat_cmp a.span.start b.span.start) (nat_cmp a.span.end b.span.end) rest) in
      λ j. record { document = d j; span = record { start = s j; end = t j } };
  is = λ a b. three.is (a.document, (a.span.start, a.span.end)) (b.document, (b.span.start, b.span.end));
}
  where
    three : IsOrder (pair_cmp nat_cmp (pair_cmp nat_cmp nat_cmp)) (pair_before nat_lt (pair_before nat_lt nat_lt))
    three = pair_order nat_cmp nat_lt (pair_cmp nat_cmp nat_cmp) (pair_before nat_lt nat_lt) number_order (pair_order nat_cmp nat_lt nat_cmp nat_lt number_order number_order)

pub lit_order : IsOrder (pair_cmp bytes_cmp nat_cmp) lit_before
lit_order = pair_order bytes_cmp bytes_before nat_cmp nat_lt bytes_order number_order

pub drawn_order : IsOrder (pair_cmp bytes_cmp bytes_cmp) drawn_before
drawn_order = pair_order bytes_cmp bytes_before bytes_cmp bytes_before bytes_order bytes_order

-- ---- the code's

abbrev pub same_bytes : code_bytes.Bytes → code_bytes.Bytes → Bool
same_bytes a b = a.document == b.document && (a.start == b.start && a.end == b.end)

seen_equal : (a b : code_bytes.Bytes) → is_eq (bytes_cmp (bytes_seen a) (bytes_seen b)) ≡ same_bytes a b
seen_equal a b =
    both_equal (nat_cmp a.document b.document) (ordering_then (nat_cmp a.start b.start) (nat_cmp a.end b.end))
    ∙ (λ j. numbers_equal a.document b.document j && (both_equal (nat_cmp a.start b.start) (nat_cmp a.end b.end) ∙ (λ i. numbers_equal a.start b.start i && numbers_equal a.end b.end i)) j)

pub bytes_total : IsTotalOrder (λ (a b : code_bytes.Bytes). bytes_cmp (bytes_seen a) (bytes_seen b))
bytes_total = on_total bytes_seen bytes_order.total

pub bytes_ties : (a b : code_bytes.Bytes) → same_bytes a b ≡ eq_by_cmp (λ (x y : code_bytes.Bytes). bytes_cmp (bytes_seen x) (bytes_seen y)) a b
bytes_ties a b = sym (seen_equal a b)

pub one_bytes : (a b : code_bytes.Bytes) → same_bytes a b ≡ true → a ≡ b
one_bytes a b h =
    let d = one_number a.document b.document (left (a.document == b.document) (a.start == b.start && a.end == b.end) h) in
    let r = right (a.document == b.document) (a.start == b.start && a.end == b.end) h in
    let s = one_number a.start b.start (left (a.start == b.start) (a.end == b.end) r) in
    let t = one_number a.end b.end (right (a.start == b.start) (a.end == b.end) r) in
    λ j. record { document = d j; start = s j; end = t j }

abbrev pub same_lit : code_lit.Lit → code_lit.Lit → Bool
same_lit a b = same_bytes a.bytes b.bytes && a.kind == b.kind

pub lit_total : IsTotalOrder (λ (a b : code_lit.Lit). pair_cmp bytes_cmp nat_cmp (lit_seen a) (lit_seen b))
lit_total = on_total lit_seen lit_order.total

pub lit_ties : (a b : code_lit.Lit) → same_lit a b ≡ eq_by_cmp (λ (x y : code_lit.Lit). pair_cmp bytes_cmp nat_cmp (lit_seen x) (lit_seen y)) a b
lit_ties a b = sym (both_equal (bytes_cmp (bytes_seen a.bytes) (bytes_seen b.bytes)) (nat_cmp a.kind b.kind) ∙ (λ j. seen_equal a.bytes b.bytes j && numbers_equal a.kind b.kind j))

pub one_lit : (a b : code_lit.Lit) → same_lit a b ≡ true → a ≡ b
one_lit a b h =
    let e = one_bytes a.bytes b.bytes (left (same_bytes a.bytes b.bytes) (a.kind == b.kind) h) in
    let k = one_number a.kind b.kind (right (same_bytes a.bytes b.bytes) (a.kind == b.kind) h) in
    λ j. record { bytes = e j; kind = k j }

abbrev pub same_drawn : code_drawn.Drawn → code_drawn.Drawn → Bool
same_drawn a b = same_bytes a.from b.from && same_bytes a.to b.to

pub drawn_total : IsTotalOrder (λ (a b : code_drawn.Drawn). pair_cmp bytes_cmp bytes_cmp (drawn_seen a) (drawn_seen b))
drawn_total = on_total drawn_seen drawn_order.total

pub drawn_ties : (a b : code_drawn.Drawn) → same_drawn a b ≡ eq_by_cmp (λ (x y : code_drawn.Drawn). pair_cmp bytes_cmp bytes_cmp (drawn_seen x) (drawn_seen y)) a b
drawn_ties a b = sym (both_equal (bytes_cmp (bytes_seen a.from) (bytes_seen b.from)) (bytes_cmp (bytes_seen a.to) (bytes_seen b.to)) ∙ (λ j. seen_equal a.from b.from j && seen_equal a.to b.to j))

pub one_drawn : (a b : code_drawn.Drawn) → same_drawn a b ≡ true → a ≡ b
one_drawn a b h =
    let e = one_bytes a.from b.from (left (same_bytes a.from b.from) (same_bytes a.to b.to) h) in
    let k = one_bytes a.to b.to (right (same_bytes a.from b.from) (same_bytes a.to b.to) h) in
    λ j. record { from = e j; to = k j }

-- ---- texts

below : (s t : List ℕ) (r : Ordering) → slice_cmp nat_cmp s t ≡ r → is_below s t ≡ is_lt (slice_cmp nat_cmp s t)
below s t Less e = simp e
below s t Equal e = simp e
below s t Greater e = simp e

pub text_order : IsOrder (slice_cmp nat_cmp) is_below
text_order = record {
  total = nat_list_cmp_total;
  one = λ s t e. bytes_told s t (sym (is_eq-slice_cmp s t) ∙ ap is_eq e);
  is = λ s t. below s t (slice_cmp nat_cmp s t) refl;
}
