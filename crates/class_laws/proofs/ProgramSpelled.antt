-- Places spell what the units of a program import and export, since each unit is worked on behind those that it imports.
use Rattle.std.proofs.Common.{◌≡◌, inl, inr, ℕ, zero, suc, ◌+◌, ◌≤◌, ◌<◌, List, [], ◌∷◌, length, Bool, true, false, not, cond, Option, Some, None, refl, sym, ap, ◌∙◌, subst, arith}
use Rattle.std.specs.Prelude.{◌==◌, ◌||◌}
use Rattle.std.proofs.lemmas.Bool.{and_parts}
use Rattle.std.proofs.lemmas.Bool.Decides.{nat_tests}
use Rattle.std.proofs.lemmas.Option.{same_Some}
use Rattle.scheme_model.specs.declared.Occ.{Occ}
use Rattle.scheme_model.specs.Order.{is_some}
use Rattle.scheme_model.specs.Requirements.{Known}
use Rattle.scheme_model.specs.Entries.{Entry}
use Rattle.scheme_model.specs.Substitution.{Table, Defined}
use Rattle.scheme_model.specs.UnitExpansion.{Formed}
use Rattle.scheme_model.specs.ScopedExpansion.{ScopedState}
use Rattle.scheme_model.specs.Includes.{Document}
use Rattle.scheme_model.specs.IncludedUnits.{Placed}
use Rattle.scheme_model.specs.Program.{known_in, units_of, Prepared, prepare, WholeFault, UnitResult, Program, result_at, fault_before, is_ready, first_ready, all_done, in_order, program_of}
use Rattle.scheme_model.specs.ScopedProgram.{ScopedProgress, scoped_start_after, scoped_unit_over, scoped_by_fault, scoped_worked, scoped_work, scoped_before, scoped_program_of}
use Rattle.model_laws.proofs.FramePrograms.{program_law}
use Rattle.program_leaves.specs.Members.{IsIn}
use Rattle.program_leaves.proofs.MemberLaws.{in_right}
use Rattle.unit_scopes.specs.Others.{InFront}
use Rattle.expansion_laws.proofs.SearchedPrograms.{unit_law}
use Rattle.rename_laws.proofs.OwnDefinitions.{IsOfUnit, searched_goes}
use Rattle.class_laws.proofs.EntryOrigins.{EntriesHave, entries_more}
use Rattle.class_laws.proofs.Places.{IsPlace, Settled, found_number, found_among, broken_settled, expanded_settled}
use Rattle.class_laws.proofs.LinkOrigins.{IsSpelled}

none_some : {A P : Type 0} (x : A) → None ≡ Some x → P
none_some x h = absurd cc

equal : (a b : ℕ) → (a == b) ≡ true → a ≡ b
equal a b h = grind (arith, nat_tests)

not_true : (b : Bool) → not b ≡ true → b ≡ false
not_true false h = refl
not_true true h = cc

-- ---- the unit at work

record IsNext (ready : Prepared → Bool) (ps : List Prepared) (p : Prepared) : Type 0 where
  pub now : ready p ≡ true
  pub among : IsIn p ps

ready_is : (ready : Prepared → Bool) (ps : List Prepared) (p : Prepared) → first_ready ready ps ≡ Some p → IsNext ready ps p
ready_is ready [] p e = none_some p e
ready_is ready (q ∷ ps) p e = go (ready_is ready ps p) (ready q) refl e
  where
    go : (first_ready ready ps ≡ Some p → IsNext ready ps p) → (b : Bool) → ready q ≡ b → cond b (Some q) (first_ready ready ps) ≡ Some p → IsNext ready (q ∷ ps) p
    go more true h k = let same = same_Some q p k in record { now = ap ready (sym same) ∙ h; among = inl same }
    go more false h k = let n = more k in record { now = n.now; among = inr n.among }

numbered : (all : List Placed) (k : ℕ) (us : List Placed) (p : Prepared) → IsIn p (prepare all k us) → p.number < k + length (prepare all k us)
numbered all k [] p h = absurd h
numbered all k (u ∷ us) p (inl e) = let n : k ≡ p.number = ap (λ (q : Prepared). q.number) e in omega (arith, n)
numbered all k (u ∷ us) p (inr h) = let n = numbered all (suc k) us p h in omega (arith, n)

in_front : {X : Type 0} (P : X → Type 0) (old new : List X) → InFront P old new → (x : X) → IsIn x old → IsIn x new
in_front P old new f x i = subst (IsIn x) (sym f.whole) (in_right x f.front old i)

module _ (all : List Placed) (ps : List Prepared) (known : Known) (few : (p : Prepared) → IsIn p ps → p.number < length ps) where
  abbrev turn : ScopedProgress → ScopedProgress
  turn g = scoped_worked all ps known (first_ready (is_ready all ps g.results) ps) g

  abbrev after : ℕ → ScopedProgress
  after n = scoped_work all ps known n scoped_before

  turn_last : (n : ℕ) (g : ScopedProgress) → scoped_work all ps known (suc n) g ≡ turn (scoped_work all ps known n g)
  turn_last zero g = refl
  turn_last (suc n) g = turn_last n (turn g)

  abbrev Stands : ScopedProgress → Type 0
  Stands g = Settled (length ps) g.results g.table

  module _ (n : ℕ) (p : Prepared) (next : IsNext (is_ready all ps (after n).results) ps p) where
    abbrev g : ScopedProgress
    g = after n

    fresh : is_some (result_at g.results p.number) ≡ false
    fresh = not_true (is_some (result_at g.results p.number)) (and_parts (not (is_some (result_at g.results p.number))) (is_some (fault_before all ps p) || all_done g.results p.imports) next.now).0

    abbrev gone : Option (List Formed) × ScopedState
    gone = scoped_unit_over known p (scoped_start_after all p g)

    -- it only adds definitions
    more : (d : Defined) → IsIn d g.table → IsIn d gone.1.table
    more =
        in_front (IsOfUnit p.number) g.table gone.1.table
        (subst (λ (q : Option (List Formed) × ScopedState). InFront (IsOfUnit p.number) g.table q.1.table) (unit_law all ps known n p next.now) (searched_goes known p (scoped_start_after all p g)).table)

    by : (f : Option WholeFault) → Stands g → Stands (scoped_by_fault all known p f g)
    by (Some f) h = broken_settled (length ps) all g.results g.table g.table p fresh (few p next.among) h f
    by None h = expanded_settled (length ps) all g.results g.table gone.1.table p fresh (few p next.among) h more gone.0

  turn_stands : (n : ℕ) → Stands (after n) → Stands (turn (after n))
  turn_stands n h = go (first_ready (is_ready all ps (after n).results) ps) (λ p e. ready_is (is_ready all ps (after n).results) ps p e)
    where
      go : (o : Option Prepared) → ((p : Prepared) → o ≡ Some p → IsNext (is_ready all ps (after n).results) ps p) → Stands (scoped_worked all ps known o (after n))
      go None is = h
      go (Some p) is = by n p (is p refl) (fault_before all ps p) h

  all_stand : (n : ℕ) → Stands (after n)
  all_stand zero = record { few = λ m r e. none_some r e; entries = λ m r e. none_some r e; exports = λ m r e. none_some r e }
  all_stand (suc n) = subst Stands (sym (turn_last n scoped_before)) (turn_stands n (all_stand n))

-- ---- in order

skipped : (rs : List UnitResult) (first k : ℕ) → result_at rs first ≡ None → in_order rs first (suc k) ≡ in_order rs (suc first) k
skipped rs first k q = rw q refl

put_first : (rs : List UnitResult) (first k : ℕ) (x : UnitResult) → result_at rs first ≡ Some x → in_order rs first (suc k) ≡ x ∷ in_order rs (suc first) k
put_first rs first k x q = rw q refl

-- each that is there is found in order
ordered_at : (rs : List UnitResult) (first k n : ℕ) (r : UnitResult) → result_at rs n ≡ Some r → first ≤ n → n < first + k → result_at (in_order rs first k) n ≡ Some r
ordered_at rs first zero n r e l m = absurd (omega (arith, l, m))
ordered_at rs first (suc k) n r e l m = go (λ apart. ordered_at rs (suc first) k n r e (above l apart) (omega (arith, m))) (result_at rs first) refl
  where
    above : first ≤ n → (first ≡ n → ⊥) → suc first ≤ n
    above l apart = omega (arith, l, apart)

    itself : (a : ℕ) → (a == a) ≡ true
    itself a = grind (arith, nat_tests)

    apart : (x : UnitResult) → result_at rs first ≡ Some x → (x.unit.number == n) ≡ false → first ≡ n → ⊥
    apart x q t s = let u : true ≡ false = sym (itself n) ∙ ap (λ a. a == n) (sym (found_number rs first x q ∙ s)) ∙ t in cc

    here : ((first ≡ n → ⊥) → result_at (in_order rs (suc first) k) n ≡ Some r) → (x : UnitResult) → result_at rs first ≡ Some x → (b : Bool) → (x.unit.number == n) ≡ b →
        cond b (Some x) (result_at (in_order rs (suc first) k) n) ≡ Some r
    here further x q true t = sym q ∙ ap (result_at rs) (sym (found_number rs first x q) ∙ equal x.unit.number n t) ∙ e
    here further x q false t = further (apart x q t)

    go : ((first ≡ n → ⊥) → result_at (in_order rs (suc first) k) n ≡ Some r) → (o : Option UnitResult) → result_at rs first ≡ o → result_at (in_order rs first (suc k)) n ≡ Some r
    go further None q = ap (λ (l : List UnitResult). result_at l n) (skipped rs first k q) ∙ further (λ s. none_some r (sym q ∙ ap (result_at rs) s ∙ e))
    go further (Some x) q = ap (λ (l : List UnitResult). result_at l n) (put_first rs first k x q) ∙ here further x q (x.unit.number == n) refl

-- and no other
ordered_from : (rs : List UnitResult) (first k : ℕ) (r : UnitResult) → IsIn r (in_order rs first k) → (n : ℕ) × (result_at rs n ≡ Some r)
ordered_from rs first zero r h = absurd h
ordered_from rs first (suc k) r h = go (ordered_from rs (suc first) k r) (result_at rs first) refl
  where
    here : (IsIn r (in_order rs (suc first) k) → (n : ℕ) × (result_at rs n ≡ Some r)) → (x : UnitResult) → result_at rs first ≡ Some x → IsIn r (x ∷ in_order rs (suc first) k) → (n : ℕ) × (result_at rs n ≡ Some r)
    here more x q (inl e) = (first, q ∙ ap (λ (y : UnitResult). Some y) e)
    here more x q (inr i) = more i

    go : (IsIn r (in_order rs (suc first) k) → (n : ℕ) × (result_at rs n ≡ Some r)) → (o : Option UnitResult) → result_at rs first ≡ o → (n : ℕ) × (result_at rs n ≡ Some r)
    go more None q = more (subst (IsIn r) (skipped rs first k q) h)
    go more (Some x) q = here more x q (subst (IsIn r) (put_first rs first k x q) h)

module _ (many : ℕ) (rs : List UnitResult) (table : Table) (h : Settled many rs table) where
  abbrev units : List UnitResult
  units = in_order rs 0 many

  there : (n : ℕ) (r : UnitResult) → result_at rs n ≡ Some r → result_at units n ≡ Some r
  there n r e = let l = h.few n r e in ordered_at rs 0 many n r e (omega arith) (omega (arith, l))

  back : (n : ℕ) (r : UnitResult) → result_at units n ≡ Some r → result_at rs n ≡ Some r
  back n r e =
      let f = ordered_from rs 0 many r (found_among units n r e) in
      ap (result_at rs) (sym (found_number units n r e) ∙ found_number rs f.0 r f.1) ∙ f.1

  place_there : (q : Occ) → IsPlace rs table q → IsPlace units table q
  place_there q k = record { unit = k.unit; found = there k.unit.unit.number k.unit k.found; whole = k.whole; given = k.given }

  entries_there : (es : List Entry) → EntriesHave (IsPlace rs table) es → EntriesHave (IsPlace units table) es
  entries_there es k = entries_more (IsPlace rs table) (IsPlace units table) place_there es k

  in_order_spelled : (p : Program) → p.units ≡ units → p.table ≡ table → IsSpelled p
  in_order_spelled p u t = record {
    found = λ r i. subst (λ (us : List UnitResult). IsIn r us → result_at us r.unit.number ≡ Some r) (sym u) (found_by r) i;
    entries = subst (λ (us : List UnitResult). (n : ℕ) (r : UnitResult) → result_at us n ≡ Some r → EntriesHave (IsPlace us p.table) r.entries) (sym u) (subst (λ (ds : Table). (n : ℕ) (r : UnitResult) → result_at units n ≡ Some r → EntriesHave (IsPlace units ds) r.entries) (sym t) (λ n r e. entries_there r.entries (h.entries n r (back n r e))));
    exports = subst (λ (us : List UnitResult). (n : ℕ) (r : UnitResult) → result_at us n ≡ Some r → EntriesHave (IsPlace us p.table) r.exports) (sym u) (subst (λ (ds : Table). (n : ℕ) (r : UnitResult) → result_at units n ≡ Some r → EntriesHave (IsPlace units ds) r.exports) (sym t) (λ n r e. entries_there r.exports (h.exports n r (back n r e))));
  }
    where
      found_by : (r : UnitResult) → IsIn r units → result_at units r.unit.number ≡ Some r
      found_by r i = let f = ordered_from rs 0 many r i in ap (result_at units) (found_number rs f.0 r f.1) ∙ there f.0 r f.1

scoped_spelled : (ds : List Document) → IsSpelled (scoped_program_of ds)
scoped_spelled ds =
    let all = units_of ds in
    let ps = prepare all 0 all in
    let g = scoped_work all ps (known_in ds) (length ps) scoped_before in
    in_order_spelled (length ps) g.results g.table (all_stand all ps (known_in ds) (λ p i. let n = numbered all 0 all p i in omega (arith, n)) (length ps)) (scoped_program_of ds) refl refl

pub program_spelled : (ds : List Document) → IsSpelled (program_of ds)
program_spelled ds = subst IsSpelled (program_law ds) (scoped_spelled ds)
