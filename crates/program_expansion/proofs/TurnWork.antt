-- Work in turns: after some turns the units at these places are expanded, and no others; and those behind come last.
use Rattle.std.proofs.Common.{◌≡◌, ℕ, zero, suc, ◌+◌, ◌<◌, ◌≤◌, Bool, true, false, ◌⊎◌, inl, inr, List, [], ◌∷◌, ◌++◌, append-nil, append_assoc, length, slice_get, Option, Some, None, refl, sym, ap, ◌∙◌, subst, arith}
use Rattle.std.specs.Prelude.{◌-◌, ◌||◌, ◌&&◌, ◌==◌, not, reverse}
use Rattle.std.specs.List.{fold}
use Rattle.std.proofs.lemmas.Bool.{cases_lt}
use Rattle.std.proofs.lemmas.Bool.Decides.{nat_tests}
use Rattle.std.proofs.lemmas.List.{reverse-append}
use Rattle.scheme_model.specs.Order.{is_some}
use Rattle.scheme_model.specs.IncludedUnits.{Placed}
use Rattle.scheme_model.specs.Program.{Prepared, prepare, UnitResult, is_in, fault_before, all_done, is_ready, first_ready}
use Rattle.import_sets.specs.InTurn.{is_open, in_turn, and_then}
use Rattle.import_sets.proofs.ReachLaws.{or_left, or_right, in_push}
use Rattle.import_sets.proofs.TurnLaws.{ready_at, ready_none}
use Rattle.document_units.specs.Turned.{waiting}
use Rattle.program_expansion.proofs.TurnSteps.{numbers, done_there, IsTurn, turn_next}

apart : (k n : ℕ) → k ≤ n → (i : ℕ) × (k + i ≡ n)
apart k n le = (n - k, omega arith)

reverse_more : (x : ℕ) (xs : List ℕ) → reverse (x ∷ xs) ≡ reverse xs ++ x ∷ []
reverse_more x xs = reverse-append (x ∷ []) xs

-- what is worked on, with its results, and how one unit more changes it
pub record IsWork {S : Type 0} (all : List Placed) (results : S → List UnitResult) (step : Option Prepared → S → S) (work : ℕ → S → S) : Type 0 where
  pub nothing : (s : S) → work 0 s ≡ s
  pub next : (n : ℕ) (s : S) → work (suc n) s ≡ work n (step (first_ready (is_ready all (prepare all 0 all) (results s)) (prepare all 0 all)) s)
  pub none : (s : S) → step None s ≡ s
  pub more : (p : Prepared) (s : S) → numbers (results (step (Some p) s)) ≡ p.number ∷ numbers (results s)

-- the work after some turns
pub record AfterTurns {S : Type 0} (results : S → List UnitResult) (by : S → ℕ → S) (work : ℕ → S → S) (s : S) (x : List ℕ) : Type 0 where
  pub same : work (length x) s ≡ fold by s x
  pub done : reverse (numbers (results (fold by s x))) ≡ reverse (numbers (results s)) ++ x

module _ {S : Type 0} (all : List Placed) (numbered : (n : ℕ) (p : Prepared) → slice_get (prepare all 0 all) n ≡ Some p → p.number ≡ n) (results : S → List UnitResult) (step : Option Prepared → S → S) (work : ℕ → S → S) (is : IsWork all results step work) where
  abbrev ps : List Prepared
  ps = prepare all 0 all

  abbrev by : S → ℕ → S
  by s n = step (slice_get ps n) s

  abbrev done : S → List ℕ
  done s = reverse (numbers (results s))

  done_more : (p : Prepared) (s : S) → done (step (Some p) s) ≡ done s ++ p.number ∷ []
  done_more p s = ap (λ (l : List ℕ). reverse l) (is.more p s) ∙ reverse_more p.number (numbers (results s))

  pub by_turns : (x y : List ℕ) (t : ℕ) (s : S) → in_turn (waiting all) t (done s) ≡ x ++ y → AfterTurns results by work s x
  by_turns [] y t s h = record { same = is.nothing s; done = sym (append-nil (done s)) }
  by_turns (n ∷ x) y zero s h = absurd cc
  by_turns (n ∷ x) y (suc t) s h = go (by_turns x y t) (first_ready (is_open (done s)) (waiting all)) refl h
    where
      go : ((s : S) → in_turn (waiting all) t (done s) ≡ x ++ y → AfterTurns results by work s x) → (o : Option Prepared) → first_ready (is_open (done s)) (waiting all) ≡ o →
          and_then o (λ p. p.number ∷ in_turn (waiting all) t (done s ++ p.number ∷ [])) ≡ n ∷ x ++ y → AfterTurns results by work s (n ∷ x)
      go more None e i = absurd cc
      go more (Some q) e i =
          let same : q.number ≡ n = cc in
          let behind : in_turn (waiting all) t (done s ++ q.number ∷ []) ≡ x ++ y = cc in
          let turn = turn_next all numbered (results s) q e in
          let here : slice_get ps n ≡ Some turn.0 = ap (slice_get ps) (sym same) ∙ turn.1.place in
          let stepped : step (Some turn.0) s ≡ by s n = ap (λ (o : Option Prepared). step o s) (sym here) in
          let grown : done (by s n) ≡ done s ++ n ∷ [] = ap done (sym stepped) ∙ done_more turn.0 s ∙ ap (λ m. done s ++ m ∷ []) (turn.1.number ∙ same) in
          let r = more (by s n) (ap (in_turn (waiting all) t) (grown ∙ ap (λ m. done s ++ m ∷ []) (sym same)) ∙ behind) in
          record {
            same = is.next (length x) s ∙ ap (λ (o : Option Prepared). work (length x) (step o s)) turn.1.first ∙ ap (work (length x)) stepped ∙ r.same;
            done = r.done ∙ ap (λ (l : List ℕ). l ++ x) grown ∙ append_assoc (done s) (n ∷ []) x;
          }

  -- the unit whose turn it is is ready
  pub turn_there : (x y : List ℕ) (n : ℕ) (t : ℕ) (s : S) → in_turn (waiting all) t (done s) ≡ x ++ n ∷ y → (p : Prepared) × IsTurn all (results (fold by s x)) n p
  turn_there [] y n zero s h = absurd cc
  turn_there [] y n (suc t) s h = go (first_ready (is_open (done s)) (waiting all)) refl h
    where
      go : (o : Option Prepared) → first_ready (is_open (done s)) (waiting all) ≡ o → and_then o (λ p. p.number ∷ in_turn (waiting all) t (done s ++ p.number ∷ [])) ≡ n ∷ y → (p : Prepared) × IsTurn all (results s) n p
      go None e i = absurd cc
      go (Some q) e i = let same : q.number ≡ n = cc in subst (λ m. (p : Prepared) × IsTurn all (results s) m p) same (turn_next all numbered (results s) q e)
  turn_there (m ∷ x) y n zero s h = absurd cc
  turn_there (m ∷ x) y n (suc t) s h = go (turn_there x y n t) (first_ready (is_open (done s)) (waiting all)) refl h
    where
      go : ((s : S) → in_turn (waiting all) t (done s) ≡ x ++ n ∷ y → (p : Prepared) × IsTurn all (results (fold by s x)) n p) → (o : Option Prepared) → first_ready (is_open (done s)) (waiting all) ≡ o →
          and_then o (λ p. p.number ∷ in_turn (waiting all) t (done s ++ p.number ∷ [])) ≡ m ∷ x ++ n ∷ y → (p : Prepared) × IsTurn all (results (fold by (by s m) x)) n p
      go more None e i = absurd cc
      go more (Some q) e i =
          let same : q.number ≡ m = cc in
          let behind : in_turn (waiting all) t (done s ++ q.number ∷ []) ≡ x ++ n ∷ y = cc in
          let turn = turn_next all numbered (results s) q e in
          let here : slice_get ps m ≡ Some turn.0 = ap (slice_get ps) (sym same) ∙ turn.1.place in
          let stepped : step (Some turn.0) s ≡ by s m = ap (λ (o : Option Prepared). step o s) (sym here) in
          let grown : done (by s m) ≡ done s ++ q.number ∷ [] = ap done (sym stepped) ∙ done_more turn.0 s ∙ ap (λ m. done s ++ m ∷ []) turn.1.number in
          more (by s m) (ap (in_turn (waiting all) t) grown ∙ behind)

  -- ---- the units behind

  pub works_on : (a b : ℕ) (s : S) → work (a + b) s ≡ work b (work a s)
  works_on zero b s = ap (λ n. work n s) (none_more b) ∙ ap (work b) (sym (is.nothing s))
    where
      none_more : (b : ℕ) → 0 + b ≡ b
      none_more b = omega arith
  works_on (suc a) b s =
      ap (λ n. work n s) (one_more a b) ∙ is.next (a + b) s ∙ works_on a b (step (first_ready (is_ready all ps (results s)) ps) s)
      ∙ ap (work b) (sym (is.next a s))
    where
      one_more : (a b : ℕ) → suc a + b ≡ suc (a + b)
      one_more a b = omega arith

  closed : (s : S) (p : Prepared) → is_in p.number (done s) ≡ true → is_ready all ps (results s) p ≡ false
  closed s p h = ap (λ b. not b && (is_some (fault_before all ps p) || all_done (results s) p.imports)) (done_there (results s) p.number ∙ h)

  opened : (s : S) (p : Prepared) → is_in p.number (done s) ≡ false → is_some (fault_before all ps p) ≡ true → is_ready all ps (results s) p ≡ true
  opened s p h broken = (λ j. not ((done_there (results s) p.number ∙ h) j) && (broken j || all_done (results s) p.imports))

  -- where all are done, nothing changes
  all_stay : (t : ℕ) (s : S) → ((n : ℕ) (p : Prepared) → slice_get ps n ≡ Some p → is_in n (done s) ≡ true) → work t s ≡ s
  all_stay zero s h = is.nothing s
  all_stay (suc t) s h =
      is.next t s
      ∙ ap (λ (o : Option Prepared). work t (step o s)) (ready_none (is_ready all ps (results s)) ps (λ n p at. closed s p (ap (λ m. is_in m (done s)) (numbered n p at) ∙ h n p at)))
      ∙ ap (work t) (is.none s) ∙ all_stay t s h

  -- those behind are broken, and come one after another
  pub rest_last : (xs : List Prepared) (k t : ℕ) (s : S) → ((i : ℕ) → slice_get ps (k + i) ≡ slice_get xs i) → ((n : ℕ) → n < k → is_in n (done s) ≡ true) → ((n : ℕ) → k ≤ n → is_in n (done s) ≡ false) →
      ((n : ℕ) (p : Prepared) → k ≤ n → slice_get ps n ≡ Some p → is_some (fault_before all ps p) ≡ true) → length xs ≤ t → work t s ≡ fold (λ s p. step (Some p) s) s xs
  rest_last [] k t s stand before behind broken le = all_stay t s (λ n p at. go n p at (cases_lt n k))
    where
      go : (n : ℕ) (p : Prepared) → slice_get ps n ≡ Some p → (n < k) ⊎ (k ≤ n) → is_in n (done s) ≡ true
      go n p at (inl lt) = before n lt
      go n p at (inr ge) = let i : (i : ℕ) × (k + i ≡ n) = apart k n ge in let e : None ≡ Some p = sym (stand i.0) ∙ ap (slice_get ps) i.1 ∙ at in absurd cc
  rest_last (p ∷ xs) k zero s stand before behind broken le = absurd (omega arith)
  rest_last (p ∷ xs) k (suc t) s stand before behind broken le =
      is.next t s ∙ ap (λ (o : Option Prepared). work t (step o s)) first
      ∙ rest_last xs (suc k) t (step (Some p) s) (λ i. ap (slice_get ps) (one_more k i) ∙ stand (suc i)) before_next behind_next (λ n q ge at. broken n q (omega arith) at) (omega arith)
    where
      one_more : (k i : ℕ) → suc k + i ≡ k + suc i
      one_more k i = omega arith

      here : slice_get ps k ≡ Some p
      here = ap (slice_get ps) (none_more k) ∙ stand 0
        where
          none_more : (k : ℕ) → k ≡ k + 0
          none_more k = omega arith

      same : p.number ≡ k
      same = numbered k p here

      first : first_ready (is_ready all ps (results s)) ps ≡ Some p
      first =
          ready_at (is_ready all ps (results s)) ps k p here (opened s p (ap (λ n. is_in n (done s)) same ∙ behind k (omega arith)) (broken k p (omega arith) here))
          (λ m q lt at. closed s q (ap (λ n. is_in n (done s)) (numbered m q at) ∙ before m lt))

      grown : done (step (Some p) s) ≡ done s ++ k ∷ []
      grown = done_more p s ∙ ap (λ n. done s ++ n ∷ []) same

      before_next : (n : ℕ) → n < suc k → is_in n (done (step (Some p) s)) ≡ true
      before_next n lt = ap (is_in n) grown ∙ in_push n (done s) k ∙ go (n == k) refl
        where
          low : (n == k) ≡ false → n < k
          low e = grind (arith, nat_tests)

          go : (b : Bool) → (n == k) ≡ b → (is_in n (done s) || (n == k)) ≡ true
          go true e = or_right (is_in n (done s)) (n == k) e
          go false e = or_left (is_in n (done s)) (n == k) (before n (low e))

      behind_next : (n : ℕ) → suc k ≤ n → is_in n (done (step (Some p) s)) ≡ false
      behind_next n ge = ap (is_in n) grown ∙ in_push n (done s) k ∙ (λ j. behind n (omega arith) j || apart_from j)
        where
          apart_from : (n == k) ≡ false
          apart_from = grind (arith, nat_tests)
