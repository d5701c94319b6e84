-- Marks in the order of the text, and what a search by halves finds among them.
use Rattle.std.proofs.Common.{◌≡◌, ℕ, ◌-◌, ◌<◌, ◌≤◌, ◌⊎◌, inl, inr, true, false, List, [], ◌∷◌, ◌++◌, length, get_or, length-append, refl, sym, ◌∙◌, subst, arith}
use Rattle.std.proofs.lemmas.Bool.{false≢true, cases_eq, cases_lt}
use Rattle.std.proofs.lemmas.Bool.Decides.{nat_tests}
use Rattle.std.proofs.lemmas.List.{get_or_append_left, get_or_default, get_or_push}
use Rattle.std.proofs.lemmas.List.Elements.{All-push}
use Rattle.std.specs.List.{All}
use Rattle.std.specs.List.Sorted.{IsPartitionedBy, IsPartitionPoint}
use Rattle.ls_base.specs.declared.encoding.Encoding.{Encoding}
use Rattle.ls_base.specs.declared.encoding.Encoding.TheVariants.{Utf8}
use Rattle.text_positions.specs.declared.marks.Mark.{Mark}
use Rattle.text_positions.specs.Marks.{units_before, is_reached, IsPast, StandsBefore, InOrder}

-- ---- the order, mark by mark

before_itself : (m : Mark) → StandsBefore m m
before_itself m = inr (refl, λ e. omega arith)

pub InOrder-nil : InOrder []
InOrder-nil i j d le h = absurd (omega arith)

InOrder-push : (marks : List Mark) (next : Mark) → InOrder marks → All (λ m. StandsBefore m next) marks → InOrder (marks ++ next ∷ [])
InOrder-push marks next order all i j d le h = elim (cases_eq j (length marks)) [
  | inl last ↦ subst (StandsBefore (get_or (marks ++ next ∷ []) i d)) (sym (get_or_push marks next d j (sym last))) (elim (cases_eq i (length marks)) [
    | inl same ↦ subst (λ m. StandsBefore m next) (sym (get_or_push marks next d i (sym same))) (before_itself next)
    | inr other ↦ let within : i < length marks = omega (arith, other) in subst (λ m. StandsBefore m next) (sym (get_or_append_left marks (next ∷ []) d i within)) (all i d within)
  ])
  | inr other ↦
      let within : j < length marks = omega (arith, other, h, length-append marks (next ∷ [])) in
      subst (StandsBefore (get_or (marks ++ next ∷ []) i d)) (sym (get_or_append_left marks (next ∷ []) d j within))
      (subst (λ m. StandsBefore m (get_or marks j d)) (sym (get_or_append_left marks (next ∷ []) d i (omega arith))) (order i j d le within))
]

before_past : (c : ℕ) (here next : Mark) → IsPast c here next → (m : Mark) → StandsBefore m here → StandsBefore m next
before_past c here next p m (inl h) = inl (omega (arith, p.line))
before_past c here next p m (inr h) = inr (h.0 ∙ sym p.line, λ e. omega (arith, h.1 e, p.units e))

-- the marks are in order, and stand before here
pub record Ordered (marks : List Mark) (here : Mark) : Type 0 where
  pub order : InOrder marks
  pub all : All (λ m. StandsBefore m here) marks

pub ordered_nil : (marks : List Mark) (here : Mark) → marks ≡ [] → Ordered marks here
ordered_nil marks here e = subst (λ (marks : List Mark). Ordered marks here) (sym e) (record { order = λ i j d le h. absurd (omega arith); all = λ k d h. absurd (omega arith) })

-- one character on
pub ordered_past : (marks new : List Mark) (here next : Mark) (c : ℕ) → IsPast c here next → (new ≡ marks) ⊎ (new ≡ marks ++ next ∷ []) → Ordered marks here → Ordered new next
ordered_past marks new here next c p (inl same) o = subst (λ (marks : List Mark). Ordered marks next) (sym same) (record {
  order = o.order;
  all = λ k d h. before_past c here next p (get_or marks k d) (o.all k d h);
})
ordered_past marks new here next c p (inr pushed) o =
    let all : All (λ m. StandsBefore m next) marks = λ k d h. before_past c here next p (get_or marks k d) (o.all k d h) in
    subst (λ (marks : List Mark). Ordered marks next) (sym pushed) (record {
      order = InOrder-push marks next o.order all;
      all = All-push (λ m. StandsBefore m next) marks next all (before_itself next);
    })

before_later : (m here next : Mark) → here.start < next.start → StandsBefore m here → StandsBefore m next
before_later m here next h (inl b) = inl (omega arith)
before_later m here next h (inr b) = inl (omega (arith, b.0))

-- in a later line
pub ordered_later : (marks : List Mark) (here next : Mark) → here.start < next.start → Ordered marks here → Ordered marks next
ordered_later marks here next h o = record {
  order = o.order;
  all = λ k d within. before_later (get_or marks k d) here next h (o.all k d within);
}

-- ---- the search

reached_back : (start units : ℕ) (e : Encoding) (m n : Mark) → StandsBefore m n → is_reached start units e n ≡ true → is_reached start units e m ≡ true
reached_back start units e m n (inl b) r = grind (arith, nat_tests)
reached_back start units e m n (inr b) r =
    let few : units_before e m ≤ units_before e n = b.1 e in
    grind (arith, nat_tests)

-- what is reached stands in front
pub reached_parted : (start units : ℕ) (e : Encoding) (marks : List Mark) → InOrder marks → IsPartitionedBy (is_reached start units e) marks
reached_parted start units e marks order i j d le h r = reached_back start units e (get_or marks i d) (get_or marks j d) (order i j d le h) r

reached_in_line : (start units : ℕ) (e : Encoding) (m : Mark) → is_reached start units e m ≡ true → m.start ≡ start → units_before e m ≤ units
reached_in_line start units e m r s = grind (arith, nat_tests)

reached_line : (start units : ℕ) (e : Encoding) (m : Mark) → is_reached start units e m ≡ true → m.start ≤ start
reached_line start units e m r = grind (arith, nat_tests)

in_line_reached : (start units : ℕ) (e : Encoding) (m : Mark) → m.start ≡ start → units_before e m ≤ units → is_reached start units e m ≡ true
in_line_reached start units e m s le = grind (arith, nat_tests)

no_earlier : (m n : Mark) → StandsBefore m n → m.start ≤ n.start
no_earlier m n (inl b) = omega arith
no_earlier m n (inr b) = omega (arith, b.0)

no_further : (m n : Mark) → m.start ≡ n.start → StandsBefore m n → m.utf8 ≤ n.utf8
no_further m n s (inl b) = absurd (omega (arith, s))
no_further m n s (inr b) = b.1 Utf8

-- the search ended at i
module _ (start units : ℕ) (e : Encoding) (marks : List Mark) (i : ℕ) (order : InOrder marks) (bound : i ≤ length marks) (parted : IsPartitionPoint (λ m. is_reached start units e m ≡ true) (λ m. is_reached start units e m ≡ false) marks i) where
  in_front : (k : ℕ) (d : Mark) → k < length marks → (get_or marks k d).start ≡ start → units_before e (get_or marks k d) ≤ units → k < i
  in_front k d h s le = elim (cases_lt k i) [
    | inr behind ↦ absurd (false≢true (sym (parted.1 k d behind h) ∙ in_line_reached start units e (get_or marks k d) s le))
    | inl front ↦ front
  ]

  -- the last mark that is reached has few units before it, where it is in the line, and no other of those is behind it
  pub found_within : (d : Mark) → 0 < i → (get_or marks (i - 1) d).start ≡ start → units_before e (get_or marks (i - 1) d) ≤ units
  found_within d some s = reached_in_line start units e (get_or marks (i - 1) d) (parted.0 (i - 1) d (omega arith) (omega arith)) s

  before_found : (k : ℕ) (d d' : Mark) → k < i → StandsBefore (get_or marks k d) (get_or marks (i - 1) d')
  before_found k d d' front = subst (StandsBefore (get_or marks k d)) (get_or_default marks (i - 1) d d' (omega arith)) (order k (i - 1) d (omega arith) (omega arith))

  pub found_last : (d : Mark) → 0 < i → (get_or marks (i - 1) d).start ≡ start → All (λ n. n.start ≡ start → units_before e n ≤ units → n.utf8 ≤ (get_or marks (i - 1) d).utf8) marks
  found_last d' some s' k d h s le = no_further (get_or marks k d) (get_or marks (i - 1) d') (s ∙ sym s') (before_found k d d' (in_front k d h s le))

  -- or there is none in the line
  pub found_none : (d : Mark) (l : ℕ) → (0 < i → ¬ ((get_or marks (i - 1) d).start ≡ start)) → All (λ n. n.start ≡ start → units_before e n ≤ units → n.utf8 ≤ l) marks
  found_none d' l other k d h s le =
      let front : k < i = in_front k d h s le in
      let begun : (get_or marks k d).start ≤ (get_or marks (i - 1) d').start = no_earlier _ _ (before_found k d d' front) in
      let reached : (get_or marks (i - 1) d').start ≤ start = reached_line start units e _ (parted.0 (i - 1) d' (omega arith) (omega arith)) in
      absurd (other (omega arith) (omega (arith, begun, reached, s)))
