-- Each unit has a result: while one hasn't, one is ready, since no unit that isn't broken imports itself.
use Rattle.std.proofs.Common.{◌≡◌, ◌⊎◌, inl, inr, ⊎_elim, ℕ, zero, suc, ◌+◌, ◌≤◌, ◌<◌, List, [], ◌∷◌, map, length, Bool, true, false, not, Option, Some, None, Result, Ok, Err, refl, sym, ap, ◌∙◌, subst, arith, if◌then◌else◌}
use Rattle.std.specs.Prelude.{◌==◌, ◌&&◌, ◌||◌, nat_le}
use Rattle.std.proofs.lemmas.Bool.Decides.{nat_tests}
use Rattle.scheme_model.specs.Order.{is_some}
use Rattle.scheme_model.specs.Requirements.{LibraryName, Known}
use Rattle.scheme_model.specs.UnitExpansion.{Formed}
use Rattle.scheme_model.specs.Substitution.{Table}
use Rattle.scheme_model.specs.Entries.{Entry, library_in}
use Rattle.scheme_model.specs.Declarations.{UnitForm}
use Rattle.scheme_model.specs.Includes.{Document, max_units}
use Rattle.scheme_model.specs.IncludedUnits.{EarlyFault, Placed}
use Rattle.scheme_model.specs.Program.{known_in, units_of, ImportSpec, is_named, imported_as, unit_named, imported_units, Prepared, prepared, prepare, imports_at, is_in, imports_of_all, joined, reached, on_circle, is_repeated, WholeFault, TooMany, DefinedTwice, ImportCycle, declared_fault, fault_before, SetResult, UnitResult, Progress, result_at, unit_result, by_fault, all_done, is_ready, first_ready, worked, work, progress_before, in_order, program_of}
use Rattle.program_laws.specs.Circles.{IsClosed}
use Rattle.program_laws.specs.Turns.{Each}
use Rattle.program_laws.proofs.Circles.{Is, never, or_true, or_left, or_right, same_number, joined_old, of_joined, imported_of, missing, missing_most, less, reached_closed}

-- ---- units by their numbers

abbrev unit_at : List Prepared → ℕ → Option Prepared
unit_at [] n = None
unit_at (p ∷ ps) n = if p.number == n then Some p else unit_at ps n

-- the numbers are the places, from one on
abbrev Ordered : ℕ → List Prepared → Type 0
Ordered k [] = Unit {0}
Ordered k (p ∷ ps) = (p.number ≡ k) × Ordered (suc k) ps

abbrev or_first : {X : Type 0} → X → Option X → X
or_first x None = x
or_first x (Some z) = z

some_same : {X : Type 0} (x y : X) → Some x ≡ Some y → x ≡ y
some_same x y e = ap (or_first x) e

none_some : {X Y : Type 0} (x : X) → None ≡ Some x → Y
none_some x e = never (ap is_some e)

imports_of : (ps : List Prepared) (n : ℕ) (p : Prepared) → unit_at ps n ≡ Some p → imports_at ps n ≡ p.imports
imports_of [] n p e = none_some p e
imports_of (q ∷ ps) n p e = at (q.number == n) (λ (h : unit_at ps n ≡ Some p). imports_of ps n p h) e
  where
    at : (b : Bool) → (unit_at ps n ≡ Some p → imports_at ps n ≡ p.imports) → (if b then Some q else unit_at ps n) ≡ Some p → (if b then q.imports else imports_at ps n) ≡ p.imports
    at true rest e = ap (λ (x : Prepared). x.imports) (some_same q p e)
    at false rest e = rest e

number_of : (ps : List Prepared) (n : ℕ) (p : Prepared) → unit_at ps n ≡ Some p → p.number ≡ n
number_of [] n p e = none_some p e
number_of (q ∷ ps) n p e = at (q.number == n) refl (λ (h : unit_at ps n ≡ Some p). number_of ps n p h) e
  where
    at : (b : Bool) → (q.number == n) ≡ b → (unit_at ps n ≡ Some p → p.number ≡ n) → (if b then Some q else unit_at ps n) ≡ Some p → p.number ≡ n
    at true same rest e = ap (λ (x : Prepared). x.number) (sym (some_same q p e)) ∙ same_number q.number n same
    at false same rest e = rest e

-- the places are those from the first one on
there : (k : ℕ) (ps : List Prepared) (n : ℕ) → Ordered k ps → k ≤ n → n < k + length ps → record { unit : Prepared; is : unit_at ps n ≡ Some unit }
there k [] n o le lt = elim (absurd le lt) [ ]
  where
    absurd : k ≤ n → n < k + 0 → ⊥
    absurd le lt = omega arith
there k (p ∷ ps) n o le lt = at (p.number == n) refl (λ (h : suc k ≤ n). there (suc k) ps n o.1 h (omega arith))
  where
    at : (b : Bool) → (p.number == n) ≡ b → (suc k ≤ n → record { unit : Prepared; is : unit_at ps n ≡ Some unit }) → record { unit : Prepared; is : (if b then Some p else unit_at ps n) ≡ Some unit }
    at true same rest = record { unit = p; is = refl }
    at false same rest = let m = o.0 in let differ = (λ (e : p.number ≡ n). never (sym same ∙ is_same e)) in rest (above m differ)
      where
        is_same : p.number ≡ n → (p.number == n) ≡ true
        is_same e = grind (arith, nat_tests)

        above : p.number ≡ k → (p.number ≡ n → ⊥) → suc k ≤ n
        above m differ = omega arith

prepared_ordered : (all : List Placed) (k : ℕ) (us : List Placed) → Ordered k (prepare all k us)
prepared_ordered all k [] = tt
prepared_ordered all k (u ∷ us) = (refl, prepared_ordered all (suc k) us)

prepared_length : (all : List Placed) (k : ℕ) (us : List Placed) → length (prepare all k us) ≡ length us
prepared_length all k [] = refl
prepared_length all k (u ∷ us) = ap suc (prepared_length all (suc k) us)

-- ---- imports are units

named_below : (m : LibraryName) (k : ℕ) (us : List Placed) (n : ℕ) → unit_named m k us ≡ Some n → n < k + length us
named_below m k [] n e = none_some n e
named_below m k (u ∷ us) n e = at (is_named m (imported_as k u.source)) (λ (h : unit_named m (suc k) us ≡ Some n). named_below m (suc k) us n h) e
  where
    at : (b : Bool) → (unit_named m (suc k) us ≡ Some n → n < suc k + length us) → (if b then Some k else unit_named m (suc k) us) ≡ Some n → n < k + suc (length us)
    at true rest e = let s = some_same k n e in omega (arith, s)
    at false rest e = let s = rest e in omega (arith, s)

abbrev Below : ℕ → List ℕ → Type 0
Below k ns = Each (λ (n : ℕ). n < k) ns

module _ (all : List Placed) where
  imported_below_by : (s : ImportSpec) (ss : List ImportSpec) (m : LibraryName) (o : Option ℕ) → library_in s.set ≡ Some m → unit_named m 0 all ≡ o → Below (length all) (imported_units all ss) → Below (length all) (imported_units all (s ∷ ss))
  imported_below_by s ss m None e f h = rw (e, f) h
  imported_below_by s ss m (Some n) e f h = rw (e, f) (let lt = named_below m 0 all n f in omega (arith, lt), h)

  imported_below_at : (s : ImportSpec) (ss : List ImportSpec) (o : Option LibraryName) → library_in s.set ≡ o → Below (length all) (imported_units all ss) → Below (length all) (imported_units all (s ∷ ss))
  imported_below_at s ss None e h = rw e h
  imported_below_at s ss (Some m) e h = imported_below_by s ss m (unit_named m 0 all) e refl h

  imported_below : (ss : List ImportSpec) → Below (length all) (imported_units all ss)
  imported_below [] = tt
  imported_below (s ∷ ss) = imported_below_at s ss (library_in s.set) refl (imported_below ss)

  abbrev Imports : Prepared → Type 0
  Imports p = Below (length all) p.imports

  prepared_below : (k : ℕ) (us : List Placed) → Each Imports (prepare all k us)
  prepared_below k [] = tt
  prepared_below k (u ∷ us) = (imported_below (prepared all k u).specs, prepared_below (suc k) us)

below_is : (k n : ℕ) (ns : List ℕ) → Below k ns → Is (is_in n ns) → n < k
below_is k n [] h e = never e
below_is k n (m ∷ ns) h e =
    let first = h.0 in
    ⊎_elim (λ (a : Is (n == m)). let s = same_number n m a in omega (arith, s, first)) (λ (a : Is (is_in n ns)). below_is k n ns h.1 a) (or_true (n == m) (is_in n ns) e)

found_each : (P : Prepared → Type 0) (ps : List Prepared) (n : ℕ) (p : Prepared) → Each P ps → unit_at ps n ≡ Some p → P p
found_each P [] n p h e = none_some p e
found_each P (q ∷ ps) n p h e = at (q.number == n) (λ (x : unit_at ps n ≡ Some p). found_each P ps n p h.1 x) e
  where
    at : (b : Bool) → (unit_at ps n ≡ Some p → P p) → (if b then Some q else unit_at ps n) ≡ Some p → P p
    at true rest e = subst P (some_same q p e) h.0
    at false rest e = rest e

-- ---- results

-- each result is of the unit with its number
abbrev AreOf : List Prepared → List UnitResult → Type 0
AreOf ps rs = (n : ℕ) (r : UnitResult) → result_at rs n ≡ Some r → unit_at ps n ≡ Some r.unit

abbrev undone_at : List UnitResult → ℕ → Bool
undone_at rs n = not (is_some (result_at rs n))

abbrev count_if : Bool → ℕ → ℕ
count_if true n = suc n
count_if false n = n

-- how many have no result
abbrev undone : List UnitResult → List Prepared → ℕ
undone rs [] = 0
undone rs (p ∷ ps) = count_if (undone_at rs p.number) (undone rs ps)

undone_most : (rs : List UnitResult) (ps : List Prepared) → undone rs ps ≤ length ps
undone_most rs [] = omega arith
undone_most rs (p ∷ ps) = at (undone_at rs p.number) (undone_most rs ps)
  where
    at : (b : Bool) → undone rs ps ≤ length ps → count_if b (undone rs ps) ≤ suc (length ps)
    at true le = omega arith
    at false le = omega arith

-- one result more
module _ (r : UnitResult) where
  at_most : (b : Bool) (o : Option UnitResult) (x y : ℕ) → x ≤ y → count_if (not (is_some (if b then Some r else o))) x ≤ count_if (not (is_some o)) y
  at_most true None x y le = omega arith
  at_most true (Some s) x y le = le
  at_most false None x y le = omega arith
  at_most false (Some s) x y le = le

  at_less : (b : Bool) (o : Option UnitResult) (x y : ℕ) → x < y → count_if (not (is_some (if b then Some r else o))) x < count_if (not (is_some o)) y
  at_less true None x y lt = omega arith
  at_less true (Some s) x y lt = lt
  at_less false None x y lt = omega arith
  at_less false (Some s) x y lt = lt

  less_here : (b : Bool) (o : Option UnitResult) (x y : ℕ) → Is b → Is (not (is_some o)) → x ≤ y → count_if (not (is_some (if b then Some r else o))) x < count_if (not (is_some o)) y
  less_here true None x y h k le = omega arith
  less_here true (Some s) x y h k le = never k
  less_here false o x y h k le = never h

  no_more : (rs : List UnitResult) (ps : List Prepared) → undone (r ∷ rs) ps ≤ undone rs ps
  no_more rs [] = omega arith
  no_more rs (p ∷ ps) = at_most (r.unit.number == p.number) (result_at rs p.number) (undone (r ∷ rs) ps) (undone rs ps) (no_more rs ps)

  one_less : (rs : List UnitResult) (ps : List Prepared) (n : ℕ) (p : Prepared) → unit_at ps n ≡ Some p → r.unit.number ≡ n → Is (undone_at rs n) → undone (r ∷ rs) ps < undone rs ps
  one_less rs [] n p e same h = none_some p e
  one_less rs (q ∷ ps) n p e same h = at (q.number == n) refl (λ (x : unit_at ps n ≡ Some p). one_less rs ps n p x same h) e
    where
      at : (b : Bool) → (q.number == n) ≡ b → (unit_at ps n ≡ Some p → undone (r ∷ rs) ps < undone rs ps) → (if b then Some q else unit_at ps n) ≡ Some p → undone (r ∷ rs) (q ∷ ps) < undone rs (q ∷ ps)
      at true f rest e =
          let number : q.number ≡ n = same_number q.number n f in
          let both : Is (r.unit.number == q.number) = grind (arith, nat_tests) in
          less_here (r.unit.number == q.number) (result_at rs q.number) (undone (r ∷ rs) ps) (undone rs ps) both (subst (λ (m : ℕ). Is (undone_at rs m)) (sym number) h) (no_more rs ps)
      at false f rest e = at_less (r.unit.number == q.number) (result_at rs q.number) (undone (r ∷ rs) ps) (undone rs ps) (rest e)

are_of_more : (ps : List Prepared) (r : UnitResult) (rs : List UnitResult) → unit_at ps r.unit.number ≡ Some r.unit → AreOf ps rs → AreOf ps (r ∷ rs)
are_of_more ps r rs e h n s f = at (r.unit.number == n) refl f
  where
    at : (b : Bool) → (r.unit.number == n) ≡ b → (if b then Some r else result_at rs n) ≡ Some s → unit_at ps n ≡ Some s.unit
    at true same f = let number = same_number r.unit.number n same in subst (λ (m : ℕ). unit_at ps m ≡ Some s.unit) number (subst (λ (x : UnitResult). unit_at ps r.unit.number ≡ Some x.unit) (some_same r s f) e)
    at false same f = h n s f

-- ---- which is ready

and_left : (a b : Bool) → Is (a && b) → Is a
and_left true b h = refl
and_left false b h = never h

record ReadyUnit (ready : Prepared → Bool) (k : ℕ) (ps : List Prepared) (p : Prepared) : Type 0 where
  pub is : unit_at ps p.number ≡ Some p
  pub ready_now : Is (ready p)
  pub above : k ≤ p.number

ready_unit : (ready : Prepared → Bool) (k : ℕ) (ps : List Prepared) (p : Prepared) → Ordered k ps → first_ready ready ps ≡ Some p → ReadyUnit ready k ps p
ready_unit ready k [] p o e = none_some p e
ready_unit ready k (q ∷ ps) p o e = at (ready q) refl (λ (x : first_ready ready ps ≡ Some p). ready_unit ready (suc k) ps p o.1 x) e
  where
    here : q ≡ p → Is (ready q) → ReadyUnit ready k (q ∷ ps) p
    here same f = subst (λ (x : Prepared). ReadyUnit ready k (q ∷ ps) x) same (record { is = ap (λ (b : Bool). if b then Some q else unit_at ps q.number) itself; ready_now = f; above = let m = o.0 in omega (arith, m) })
      where
        itself : (q.number == q.number) ≡ true
        itself = grind (arith, nat_tests)

    apart : (b : Bool) → (q.number == p.number) ≡ b → suc k ≤ p.number → b ≡ false
    apart true f above = let m = o.0 in let s = same_number q.number p.number f in elim (absurd m s above) [ ]
      where
        absurd : q.number ≡ k → q.number ≡ p.number → suc k ≤ p.number → ⊥
        absurd m s above = omega arith
    apart false f above = refl

    later : ReadyUnit ready (suc k) ps p → ReadyUnit ready k (q ∷ ps) p
    later x = let above = x.above in record { is = ap (λ (b : Bool). if b then Some q else unit_at ps p.number) (apart (q.number == p.number) refl x.above) ∙ x.is; ready_now = x.ready_now; above = omega (arith, above) }

    at : (b : Bool) → ready q ≡ b → (first_ready ready ps ≡ Some p → ReadyUnit ready (suc k) ps p) → (if b then Some q else first_ready ready ps) ≡ Some p → ReadyUnit ready k (q ∷ ps) p
    at true f rest e = here (some_same q p e) f
    at false f rest e = later (rest e)

none_ready : (ready : Prepared → Bool) (ps : List Prepared) (n : ℕ) (p : Prepared) → first_ready ready ps ≡ None → unit_at ps n ≡ Some p → ready p ≡ false
none_ready ready [] n p none e = none_some p e
none_ready ready (q ∷ ps) n p none e = at (ready q) refl (q.number == n) (λ (x : first_ready ready ps ≡ None) (y : unit_at ps n ≡ Some p). none_ready ready ps n p x y) none e
  where
    at : (b : Bool) → ready q ≡ b → (c : Bool) → (first_ready ready ps ≡ None → unit_at ps n ≡ Some p → ready p ≡ false) → (if b then Some q else first_ready ready ps) ≡ None → (if c then Some q else unit_at ps n) ≡ Some p → ready p ≡ false
    at true f c rest none e = none_some q (sym none)
    at false f true rest none e = subst (λ (x : Prepared). ready x ≡ false) (some_same q p e) f
    at false f false rest none e = rest none e

circle_by : (n : ℕ) (a : Bool) (forms : Result (List UnitForm) EarlyFault) (b c : Bool) → is_some (if a then Some TooMany else declared_fault n forms (if b then Some DefinedTwice else if c then Some ImportCycle else None)) ≡ false → c ≡ false
circle_by n true forms b c e = never (sym e)
circle_by n false (Ok fs) true c e = never (sym e)
circle_by n false (Ok fs) false true e = never (sym e)
circle_by n false (Ok fs) false false e = refl
circle_by n false (Err d) b c e = never (sym e)

record NotReady (a b : Bool) : Type 0 where
  pub left : a ≡ false
  pub right : b ≡ false

not_ready : (a b c : Bool) → Is a → (a && (b || c)) ≡ false → NotReady b c
not_ready true true c h e = never (sym e)
not_ready true false c h e = record { left = refl; right = e }
not_ready false b c h e = never h

-- one of these has no result
record Waits (rs : List UnitResult) (ns : List ℕ) : Type 0 where
  pub number : ℕ
  pub among : Is (is_in number ns)
  pub is_undone : Is (undone_at rs number)

waits : (rs : List UnitResult) (ns : List ℕ) → all_done rs ns ≡ false → Waits rs ns
waits rs [] e = never (sym e)
waits rs (n ∷ ns) e = at (is_some (result_at rs n)) refl (λ (x : all_done rs ns ≡ false). waits rs ns x) e
  where
    itself : (n == n) ≡ true
    itself = grind (arith, nat_tests)

    at : (b : Bool) → is_some (result_at rs n) ≡ b → (all_done rs ns ≡ false → Waits rs ns) → (b && all_done rs ns) ≡ false → Waits rs (n ∷ ns)
    at true f rest e = let w = rest e in record { number = w.number; among = or_right (w.number == n) (is_in w.number ns) w.among; is_undone = w.is_undone }
    at false f rest e = record { number = n; among = or_left (n == n) (is_in n ns) itself; is_undone = ap not f }

-- ---- a walk along imports ends

module _ (ps : List Prepared) where
  reached_inside : (steps : ℕ) (ns ms : List ℕ) → IsClosed ps ms → ((n : ℕ) → Is (is_in n ns) → Is (is_in n ms)) → (n : ℕ) → Is (is_in n (reached ps steps ns)) → Is (is_in n ms)
  reached_inside zero ns ms closed inside n h = inside n h
  reached_inside (suc steps) ns ms closed inside n h =
      reached_inside steps (joined ns (imports_of_all ps ns)) ms closed
      (λ i x. ⊎_elim (λ (a : Is (is_in i ns)). inside i a) (λ (a : Is (is_in i (imports_of_all ps ns))). imported_of ps i ms ns closed inside a) (of_joined i ns (imports_of_all ps ns) x)) n h

  reached_old : (steps : ℕ) (ns : List ℕ) (n : ℕ) → Is (is_in n ns) → Is (is_in n (reached ps steps ns))
  reached_old zero ns n h = h
  reached_old (suc steps) ns n h = reached_old steps (joined ns (imports_of_all ps ns)) n (joined_old n ns (imports_of_all ps ns) h)

  abbrev reach : Prepared → List ℕ
  reach p = reached ps (length ps) p.imports

module _ (all : List Placed) (ps : List Prepared) (ordered : Ordered 0 ps) (imports : Each (λ (p : Prepared). Below (length ps) p.imports) ps) where
  module _ (rs : List UnitResult) (none : first_ready (is_ready all ps rs) ps ≡ None) where
    -- a unit without a result imports another
    record Next (p : Prepared) : Type 0 where
      pub number : ℕ
      pub unit : Prepared
      pub is : unit_at ps number ≡ Some unit
      pub among : Is (is_in number p.imports)
      pub is_undone : Is (undone_at rs number)

    record Stuck (p : Prepared) : Type 0 where
      pub apart : is_in p.number (reach ps p) ≡ false
      pub next : Next p

    stuck : (n : ℕ) (p : Prepared) → unit_at ps n ≡ Some p → Is (undone_at rs n) → Stuck p
    stuck n p e h =
        let number = number_of ps n p e in
        let x = not_ready (undone_at rs p.number) (is_some (fault_before all ps p)) (all_done rs p.imports) (subst (λ (m : ℕ). Is (undone_at rs m)) (sym number) h) (none_ready (is_ready all ps rs) ps n p none e) in
        let w = waits rs p.imports x.right in
        let q = there 0 ps w.number ordered (omega arith) (let lt = below_is (length ps) w.number p.imports (found_each (λ (p : Prepared). Below (length ps) p.imports) ps n p imports e) w.among in omega (arith, lt)) in
        record {
          apart = circle_by p.number (nat_le max_units p.number) p.placed.source.forms (is_repeated all p) (on_circle ps p) x.left;
          next = record { number = w.number; unit = q.unit; is = q.is; among = w.among; is_undone = w.is_undone };
        }

    goes_on : (p : Prepared) (x : Next p) → missing ps (reach ps p) < missing ps (reach ps x.unit)
    goes_on p x =
        let y = stuck x.number x.unit x.is x.is_undone in
        let number = number_of ps x.number x.unit x.is in
        let its = imports_of ps x.number x.unit x.is in
        let closed = reached_closed ps p.imports in
        let found = reached_old ps (length ps) p.imports x.number x.among in
        let brought : (i : ℕ) → Is (is_in i x.unit.imports) → Is (is_in i (imports_at ps x.number)) = λ i h. subst (λ (ns : List ℕ). Is (is_in i ns)) (sym its) h in
        less ps (reach ps x.unit) (reach ps p) x.number y.next.number
        (reached_inside ps (length ps) x.unit.imports (reach ps p) closed (λ i h. closed x.number i found (brought i h)))
        (subst (λ (m : ℕ). is_in m (reach ps x.unit) ≡ false) number y.apart) found (brought y.next.number y.next.among)

    never_stuck : (k n : ℕ) (p : Prepared) → unit_at ps n ≡ Some p → Is (undone_at rs n) → length ps < k + missing ps (reach ps p) → ⊥
    never_stuck zero n p e h lt = let most = missing_most ps (reach ps p) in omega (arith, lt, most)
    never_stuck (suc k) n p e h lt =
        let x = (stuck n p e h).next in
        let far = goes_on p x in
        never_stuck k x.number x.unit x.is x.is_undone (omega (arith, lt, far))

    done_at : (n : ℕ) → n < length ps → undone_at rs n ≡ false
    done_at n lt = at (undone_at rs n) refl
      where
        at : (b : Bool) → undone_at rs n ≡ b → b ≡ false
        at true e = let q = there 0 ps n ordered (omega arith) (omega (arith, lt)) in elim (never_stuck (suc (length ps)) n q.unit q.is e (omega arith)) [ ]
        at false e = refl

  -- ---- the walk

  abbrev AllDone : List UnitResult → Type 0
  AllDone rs = (n : ℕ) → n < length ps → undone_at rs n ≡ false

  undone_none : (rs : List UnitResult) (k : ℕ) (qs : List Prepared) → Ordered k qs → k + length qs ≤ length ps → AllDone rs → undone rs qs ≡ 0
  undone_none rs k [] o le h = refl
  undone_none rs k (q ∷ qs) o le h =
      let m = o.0 in
      let rest = undone_none rs (suc k) qs o.1 (omega arith) h in
      ap (λ (b : Bool). count_if b (undone rs qs)) (h q.number (omega (arith, m, le))) ∙ rest

  all_done_by : (rs : List UnitResult) (k : ℕ) (qs : List Prepared) → Ordered k qs → undone rs qs ≡ 0 → (n : ℕ) → k ≤ n → n < k + length qs → undone_at rs n ≡ false
  all_done_by rs k [] o e n le lt = elim (absurd le lt) [ ]
    where
      absurd : k ≤ n → n < k + 0 → ⊥
      absurd le lt = omega arith
  all_done_by rs k (q ∷ qs) o e n le lt = at (undone_at rs q.number) refl (λ (x : undone rs qs ≡ 0) (l : suc k ≤ n). all_done_by rs (suc k) qs o.1 x n l (omega arith)) e
    where
      split : (a b : ℕ) → a ≤ b → (suc a ≤ b) ⊎ (a ≡ b)
      split zero zero le = inr refl
      split zero (suc b) le = inl (omega arith)
      split (suc a) zero le = elim (none le) [ ]
        where
          none : suc a ≤ 0 → ⊥
          none le = omega arith
      split (suc a) (suc b) le = more (split a b (omega arith))
        where
          more : (suc a ≤ b) ⊎ (a ≡ b) → (suc (suc a) ≤ suc b) ⊎ (suc a ≡ suc b)
          more (inl h) = inl (omega arith)
          more (inr h) = inr (ap suc h)

      at : (b : Bool) → undone_at rs q.number ≡ b → (undone rs qs ≡ 0 → suc k ≤ n → undone_at rs n ≡ false) → count_if b (undone rs qs) ≡ 0 → undone_at rs n ≡ false
      at true f rest e = elim (some e) [ ]
        where
          some : suc (undone rs qs) ≡ 0 → ⊥
          some e = omega arith
      at false f rest e = ⊎_elim (λ (l : suc k ≤ n). rest e l) (λ (s : k ≡ n). subst (λ (m : ℕ). undone_at rs m ≡ false) (o.0 ∙ s) f) (split k n le)

  -- all have results, each of its own unit
  record Whole (rs : List UnitResult) : Type 0 where
    pub of : AreOf ps rs
    pub none : undone rs ps ≡ 0

  unit_of : (p : Prepared) (imports : List Entry × List SetResult) (table : Table) (o : Option (List Formed)) → (unit_result p imports table o).unit ≡ p
  unit_of p imports table None = refl
  unit_of p imports table (Some fs) = refl

  module _ (known : Known) where
    -- a unit was worked on: it has a result now
    record Worked (p : Prepared) (g h : Progress) : Type 0 where
      pub result : UnitResult
      pub of : result.unit ≡ p
      pub results : h.results ≡ result ∷ g.results

    worked_by : (p : Prepared) (fault : Option WholeFault) (g : Progress) → Worked p g (by_fault all ps known p fault g)
    worked_by p (Some fault) g = record { result = _; of = refl; results = refl }
    worked_by p None g = record { result = _; of = unit_of p _ _ _; results = refl }

    walk : (n : ℕ) (g : Progress) → AreOf ps g.results → undone g.results ps ≤ n → Whole (work all ps known n g).results
    walk zero g of le = record { of = of; none = omega arith }
    walk (suc n) g of le = at (first_ready (is_ready all ps g.results) ps) refl (λ (h : Progress) (x : AreOf ps h.results) (y : undone h.results ps ≤ n). walk n h x y)
      where
        next : (p : Prepared) → first_ready (is_ready all ps g.results) ps ≡ Some p → (h : Progress) → Worked p g h → record { of : AreOf ps h.results; less : undone h.results ps ≤ n }
        next p e h w =
            let r = ready_unit (is_ready all ps g.results) 0 ps p ordered e in
            let own : unit_at ps w.result.unit.number ≡ Some w.result.unit = subst (λ (q : Prepared). unit_at ps q.number ≡ Some q) (sym w.of) r.is in
            let lt : undone (w.result ∷ g.results) ps < undone g.results ps = one_less w.result g.results ps p.number p r.is (ap (λ (q : Prepared). q.number) w.of) (and_left (undone_at g.results p.number) (is_some (fault_before all ps p) || all_done g.results p.imports) r.ready_now) in
            record {
              of = subst (λ (rs : List UnitResult). AreOf ps rs) (sym w.results) (are_of_more ps w.result g.results own of);
              less = subst (λ (rs : List UnitResult). undone rs ps ≤ n) (sym w.results) (omega (arith, lt, le));
            }

        at : (o : Option Prepared) → first_ready (is_ready all ps g.results) ps ≡ o → ((h : Progress) → AreOf ps h.results → undone h.results ps ≤ n → Whole (work all ps known n h).results) → Whole (work all ps known n (worked all ps known o g)).results
        at None e rest = rest g of (let z = undone_none g.results 0 ps ordered (omega arith) (done_at g.results e) in omega (arith, z))
        at (Some p) e rest = let h = by_fault all ps known p (fault_before all ps p) g in let x = next p e h (worked_by p (fault_before all ps p) g) in rest h x.of x.less

  -- ---- in order

  behind : (q : Prepared) (qs : List Prepared) (k n : ℕ) → q.number ≡ k → suc k ≤ n → unit_at (q ∷ qs) n ≡ unit_at qs n
  behind q qs k n m le = at (q.number == n) refl
    where
      at : (b : Bool) → (q.number == n) ≡ b → (if b then Some q else unit_at qs n) ≡ unit_at qs n
      at true e = let s = same_number q.number n e in elim (absurd s) [ ]
        where
          absurd : q.number ≡ n → ⊥
          absurd s = omega arith
      at false e = refl

  in_order_by : (rs : List UnitResult) (k : ℕ) (q : Prepared) (qs : List Prepared) (o : Option UnitResult) → result_at rs k ≡ o → AreOf ps rs → undone_at rs k ≡ false → unit_at ps k ≡ Some q → map (λ r. r.unit) (in_order rs (suc k) (length qs)) ≡ qs → map (λ r. r.unit) (in_order rs k (suc (length qs))) ≡ q ∷ qs
  in_order_by rs k q qs None e of h is rest = never (sym (sym (ap (λ (o : Option UnitResult). not (is_some o)) e) ∙ h))
  in_order_by rs k q qs (Some r) e of h is rest = rw e (let same = some_same r.unit q (sym (of k r e) ∙ is) in λ j. same j ∷ rest j)

  units_in_order : (rs : List UnitResult) (k : ℕ) (qs : List Prepared) → Whole rs → Ordered k qs → k + length qs ≤ length ps → ((n : ℕ) → k ≤ n → unit_at qs n ≡ unit_at ps n) → map (λ r. r.unit) (in_order rs k (length qs)) ≡ qs
  units_in_order rs k [] w o le same = refl
  units_in_order rs k (q ∷ qs) w o le same =
      let m = o.0 in
      let first : unit_at (q ∷ qs) k ≡ Some q = ap (λ (b : Bool). if b then Some q else unit_at qs k) (is_first m) in
      in_order_by rs k q qs (result_at rs k) refl w.of (all_done_by rs 0 ps ordered w.none k (omega arith) (omega arith)) (sym (same k (omega arith)) ∙ first)
      (units_in_order rs (suc k) qs w o.1 (omega arith) (λ n l. sym (behind q qs k n m l) ∙ same n (omega arith)))
    where
      is_first : q.number ≡ k → (q.number == k) ≡ true
      is_first m = grind (arith, nat_tests)

pub results_in_order : (ds : List Document) → map (λ (r : UnitResult). r.unit) (program_of ds).units ≡ prepare (units_of ds) 0 (units_of ds)
results_in_order ds =
    let all : List Placed = units_of ds in
    let ps : List Prepared = prepare all 0 all in
    let ordered : Ordered 0 ps = prepared_ordered all 0 all in
    let many : length ps ≡ length all = prepared_length all 0 all in
    let imports : Each (λ (p : Prepared). Below (length ps) p.imports) ps = subst (λ (k : ℕ). Each (λ (p : Prepared). Below k p.imports) ps) (sym many) (prepared_below all 0 all) in
    let rs : List UnitResult = (work all ps (known_in ds) (length ps) progress_before).results in
    units_in_order all ps ordered imports rs 0 ps (walk all ps ordered imports (known_in ds) (length ps) progress_before (λ n r e. none_some r e) (undone_most [] ps)) ordered (omega arith) (λ n l. refl)
