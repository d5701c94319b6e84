-- Along a program what a unit is to others stays once it was worked on, and a unit that wasn't has nothing.
use Rattle.std.proofs.Common.{◌≡◌, ℕ, zero, suc, List, [], ◌∷◌, map, Bool, true, false, cond, eqb, Option, Some, None, refl, sym, ap, ◌∙◌, subst, eq-eqb}
use Rattle.std.specs.Prelude.{◌&&◌, nat_le}
use Rattle.std.proofs.lemmas.Bool.{eqb-true, false_from_ne_true, both_ways}
use Rattle.scheme_model.specs.Ident.{Ident, Written, Written as WrittenIdent, same_ident}
use Rattle.scheme_model.specs.Meaning.{Meaning, Local, Global, Standard, Free, same_meaning}
use Rattle.scheme_model.specs.Requirements.{Known}
use Rattle.scheme_model.specs.RulesShape.{option_map}
use Rattle.scheme_model.specs.Order.{is_some}
use Rattle.scheme_model.specs.Prelude.{PreludeMacro, prelude}
use Rattle.scheme_model.specs.UnitExpansion.{Formed}
use Rattle.scheme_model.specs.Substitution.{Table, Defined, Entries, defined_in, definition_count}
use Rattle.scheme_model.specs.ScopedExpansion.{ScopedState, macro_at}
use Rattle.scheme_model.specs.Questions.{bare_macro}
use Rattle.scheme_model.specs.Entries.{Entry, entry_at}
use Rattle.scheme_model.specs.IncludedUnits.{Placed}
use Rattle.scheme_model.specs.Program.{Prepared, WholeFault, TooMany, DefinedTwice, ImportCycle, declared_fault, is_repeated, on_circle, fault_before, SetResult, UnitResult, result_at, unit_entries, entry_meaning, with_entries, enough_turns, broken_result, unit_result, is_ready, first_ready, forms_at_work, is_standard, prelude_unit, prelude_definitions}
use Rattle.scheme_model.specs.ScopedProgram.{ScopedProgress, forms_over, scoped_start_of, scoped_start_after, scoped_unit_over, scoped_by_fault, scoped_worked, scoped_work, scoped_before, scoped_prelude_macro}
use Rattle.kept_forms.proofs.Programs.{OrReady, first_is, new_unit}
use Rattle.mentioned_units.specs.Mentioned.{Mask}
use Rattle.mentioned_units.specs.Unchanged.{defined_as, macro_of, in_state, in_progress, IsUnchanged, Unchanged, HasNothing}
use Rattle.mentioned_units.proofs.OtherUnits.{unit_later}

-- ---- one unit

other_number : (z u : ℕ) → (z ≡ u → ⊥) → eqb z u ≡ false
other_number z u ne = false_from_ne_true (eqb z u) (λ e. ne (eqb-true z u e))

-- what is of no unit at work stays too
pub record Stays (u : ℕ) (g h : ScopedProgress) : Type 0 where
  pub units : (z : ℕ) → (z ≡ u → ⊥) → IsUnchanged z (in_progress g) (in_progress h)
  pub standard : (x : List ℕ) → macro_of h.macros (Standard x) ≡ macro_of g.macros (Standard x)
  pub free : (x : List ℕ) → macro_of h.macros (Free x) ≡ macro_of g.macros (Free x)
  pub count : (z : ℕ) → (z ≡ u → ⊥) → definition_count h.table z ≡ definition_count g.table z

-- imports of another unit
with_other : (n u : ℕ) (es : List Entry) (before : Entries) (x : List ℕ) → (u ≡ n → ⊥) → with_entries n es before u x ≡ before u x
with_other n u es before x ne = ap (λ b. cond b (entry_meaning (entry_at es x)) (before u x)) (other_number u n ne)

module _ (all : List Placed) (known : Known) (p : Prepared) (g : ScopedProgress) where
  abbrev s : ScopedState
  s = scoped_start_of p g (with_entries p.number (unit_entries all g.results p).0 g.entry)

  expanded_stays : Stays p.number g (scoped_by_fault all known p None g)
  expanded_stays =
      let k = unit_later known enough_turns (forms_over (Written p.number) p.number 0 (forms_at_work p)) s in
      record {
        units = λ z ne. record {
          defined = λ i. ap (option_map (λ (d : Defined). d.keyword)) (k.2 z ne i);
          imports = λ x. with_other p.number z (unit_entries all g.results p).0 g.entry x ne;
          macros = λ i. ap (option_map bare_macro) (k.3 (Global z i) ne);
        };
        standard = λ x. ap (option_map bare_macro) (k.3 (Standard x) tt);
        free = λ x. ap (option_map bare_macro) (k.3 (Free x) tt);
        count = λ z ne. k.4 z ne;
      }

unchanged_itself : (u : ℕ) (g : ScopedProgress) → IsUnchanged u (in_progress g) (in_progress g)
unchanged_itself u g = record { defined = λ i. refl; imports = λ x. refl; macros = λ i. refl }

unchanged_then : (u : ℕ) (g h k : ScopedProgress) → IsUnchanged u (in_progress g) (in_progress h) → IsUnchanged u (in_progress h) (in_progress k) → IsUnchanged u (in_progress g) (in_progress k)
unchanged_then u g h k a b = record { defined = λ i. b.defined i ∙ a.defined i; imports = λ x. b.imports x ∙ a.imports x; macros = λ i. b.macros i ∙ a.macros i }

-- ---- results

abbrev is_done : ScopedProgress → ℕ → Bool
is_done g u = is_some (result_at g.results u)

result_number : (p : Prepared) (imports : List Entry × List SetResult) (table : Table) (forms : Option (List Formed)) → (unit_result p imports table forms).unit.number ≡ p.number
result_number p imports table None = refl
result_number p imports table (Some forms) = refl

with_result : (r : UnitResult) (rs : List UnitResult) (u : ℕ) → is_some (result_at rs u) ≡ true → is_some (result_at (r ∷ rs) u) ≡ true
with_result r rs u h = go (eqb r.unit.number u)
  where
    go : (b : Bool) → is_some (cond b (Some r) (result_at rs u)) ≡ true
    go true = refl
    go false = h

of_result : (r : UnitResult) (rs : List UnitResult) (u : ℕ) → r.unit.number ≡ u → is_some (result_at (r ∷ rs) u) ≡ true
of_result r rs u e = ap (λ b. is_some (cond b (Some r) (result_at rs u))) (eq-eqb r.unit.number u e)

-- ---- one unit after another

module _ (all : List Placed) (ps : List Prepared) (known : Known) where
  abbrev Ready : ScopedProgress → Option Prepared → Type 0
  Ready g o = OrReady all ps known (is_ready all ps g.results) o

  abbrev next : ScopedProgress → Option Prepared
  next g = first_ready (is_ready all ps g.results) ps

  abbrev worked : ScopedProgress → ScopedProgress
  worked g = scoped_worked all ps known (next g) g

  ready : (g : ScopedProgress) → Ready g (next g)
  ready g = first_is all ps known (is_ready all ps g.results) ps

  -- a unit that is expanded isn't the prelude's
  pub few : (p : Prepared) → fault_before all ps p ≡ None → p.number ≡ prelude_unit → ⊥
  few p e d = go (nat_le 128 p.number) refl e
    where
      go : (b : Bool) → nat_le 128 p.number ≡ b → cond b (Some TooMany) (declared_fault p.number p.placed.source.forms (cond (is_repeated all p) (Some DefinedTwice) (cond (on_circle ps p) (Some ImportCycle) None))) ≡ None → ⊥
      go true f e = let z : Some TooMany ≡ None = e in absurd cc
      go false f e = let z : true ≡ false = sym (ap (nat_le 128) d) ∙ f in absurd cc

  -- u isn't the unit that is expanded
  abbrev IsNot : ℕ → ScopedProgress → Type 0
  IsNot u g = (p : Prepared) → is_ready all ps g.results p ≡ true → fault_before all ps p ≡ None → u ≡ p.number → ⊥

  by_fault_stay : (u : ℕ) (g : ScopedProgress) (p : Prepared) → (fault_before all ps p ≡ None → u ≡ p.number → ⊥) → (f : Option WholeFault) → fault_before all ps p ≡ f → IsUnchanged u (in_progress g) (in_progress (scoped_by_fault all known p f g))
  by_fault_stay u g p ne (Some f) e = unchanged_itself u g
  by_fault_stay u g p ne None e = (expanded_stays all known p g).units u (ne e)

  one_stays : (u : ℕ) (g : ScopedProgress) → IsNot u g → (o : Option Prepared) → Ready g o → IsUnchanged u (in_progress g) (in_progress (scoped_worked all ps known o g))
  one_stays u g ne None r = unchanged_itself u g
  one_stays u g ne (Some p) r = by_fault_stay u g p (ne p r) (fault_before all ps p) refl

  by_fault_count : (u : ℕ) (g : ScopedProgress) (p : Prepared) → (fault_before all ps p ≡ None → u ≡ p.number → ⊥) → (f : Option WholeFault) → fault_before all ps p ≡ f → definition_count (scoped_by_fault all known p f g).table u ≡ definition_count g.table u
  by_fault_count u g p ne (Some f) e = refl
  by_fault_count u g p ne None e = (expanded_stays all known p g).count u (ne e)

  one_counts : (u : ℕ) (g : ScopedProgress) → IsNot u g → (o : Option Prepared) → Ready g o → definition_count (scoped_worked all ps known o g).table u ≡ definition_count g.table u
  one_counts u g ne None r = refl
  one_counts u g ne (Some p) r = by_fault_count u g p (ne p r) (fault_before all ps p) refl

  -- macros of no unit
  abbrev OfNone : Meaning → Type 0
  OfNone (Local v) = ⊥
  OfNone (Global z i) = ⊥
  OfNone (Standard x) = Unit {0}
  OfNone (Free x) = Unit {0}

  expanded_macro : (m : Meaning) → OfNone m → (g : ScopedProgress) (p : Prepared) → macro_of (scoped_by_fault all known p None g).macros m ≡ macro_of g.macros m
  expanded_macro (Local v) h g p = absurd h
  expanded_macro (Global z i) h g p = absurd h
  expanded_macro (Standard x) h g p = (expanded_stays all known p g).standard x
  expanded_macro (Free x) h g p = (expanded_stays all known p g).free x

  by_fault_macro : (m : Meaning) → OfNone m → (g : ScopedProgress) (p : Prepared) (f : Option WholeFault) → macro_of (scoped_by_fault all known p f g).macros m ≡ macro_of g.macros m
  by_fault_macro m h g p (Some f) = refl
  by_fault_macro m h g p None = expanded_macro m h g p

  one_macro : (m : Meaning) → OfNone m → (g : ScopedProgress) (o : Option Prepared) → macro_of (scoped_worked all ps known o g).macros m ≡ macro_of g.macros m
  one_macro m h g None = refl
  one_macro m h g (Some p) = by_fault_macro m h g p (fault_before all ps p)

  by_fault_done : (u : ℕ) (g : ScopedProgress) (p : Prepared) (f : Option WholeFault) → is_done g u ≡ true → is_done (scoped_by_fault all known p f g) u ≡ true
  by_fault_done u g p (Some f) h = with_result (broken_result p f) g.results u h
  by_fault_done u g p None h =
      let q = scoped_unit_over known p (s all known p g) in with_result (unit_result p (unit_entries all g.results p) q.1.table q.0) g.results u h

  one_done : (u : ℕ) (g : ScopedProgress) (o : Option Prepared) → is_done g u ≡ true → is_done (scoped_worked all ps known o g) u ≡ true
  one_done u g None h = h
  one_done u g (Some p) h = by_fault_done u g p (fault_before all ps p) h

  by_fault_now : (g : ScopedProgress) (p : Prepared) (f : Option WholeFault) → is_done (scoped_by_fault all known p f g) p.number ≡ true
  by_fault_now g p (Some f) = of_result (broken_result p f) g.results p.number refl
  by_fault_now g p None =
      let q = scoped_unit_over known p (s all known p g) in
      of_result (unit_result p (unit_entries all g.results p) q.1.table q.0) g.results p.number (result_number p (unit_entries all g.results p) q.1.table q.0)

  -- ---- after so many

  work_done : (n : ℕ) (g : ScopedProgress) (u : ℕ) → is_done g u ≡ true → is_done (scoped_work all ps known n g) u ≡ true
  work_done zero g u h = h
  work_done (suc n) g u h = work_done n (worked g) u (one_done u g (next g) h)

  done_is_not : (u : ℕ) (g : ScopedProgress) → is_done g u ≡ true → IsNot u g
  done_is_not u g h p r e d = both_ways (is_done g p.number) (new_unit all ps known g p r) (ap (is_done g) (sym d) ∙ h)

  pub work_stays : (n : ℕ) (g : ScopedProgress) (u : ℕ) → is_done g u ≡ true → IsUnchanged u (in_progress g) (in_progress (scoped_work all ps known n g))
  work_stays zero g u h = unchanged_itself u g
  work_stays (suc n) g u h =
      unchanged_then u g (worked g) (scoped_work all ps known n (worked g)) (one_stays u g (done_is_not u g h) (next g) (ready g)) (work_stays n (worked g) u (one_done u g (next g) h))

  pub prelude_stays : (n : ℕ) (g : ScopedProgress) → IsUnchanged prelude_unit (in_progress g) (in_progress (scoped_work all ps known n g))
  prelude_stays zero g = unchanged_itself prelude_unit g
  prelude_stays (suc n) g =
      unchanged_then prelude_unit g (worked g) (scoped_work all ps known n (worked g)) (one_stays prelude_unit g (λ p r e d. few p e (sym d)) (next g) (ready g)) (prelude_stays n (worked g))

  pub macros_stay : (m : Meaning) → OfNone m → (n : ℕ) (g : ScopedProgress) → macro_of (scoped_work all ps known n g).macros m ≡ macro_of g.macros m
  macros_stay m h zero g = refl
  macros_stay m h (suc n) g = macros_stay m h n (worked g) ∙ one_macro m h g (next g)

  -- what isn't done at the end wasn't the unit at work
  or_at_work : (u : ℕ) (g : ScopedProgress) (o : Option Prepared) → is_done (scoped_worked all ps known o g) u ≡ false → (p : Prepared) → o ≡ Some p → u ≡ p.number → ⊥
  or_at_work u g o h p e d =
      both_ways (is_done (scoped_worked all ps known o g) u) h (ap (λ z. is_done (scoped_worked all ps known z g) u) e ∙ ap (is_done (scoped_worked all ps known (Some p) g)) d ∙ by_fault_now g p (fault_before all ps p))

  before_false : (n : ℕ) (g : ScopedProgress) (u : ℕ) → is_done (scoped_work all ps known n g) u ≡ false → is_done g u ≡ false
  before_false n g u h = false_from_ne_true (is_done g u) (λ e. both_ways (is_done (scoped_work all ps known n g) u) h (work_done n g u e))

  nothing_after : (u : ℕ) (g : ScopedProgress) → HasNothing u (in_progress g) → (o : Option Prepared) → is_done (scoped_worked all ps known o g) u ≡ false → HasNothing u (in_progress (scoped_worked all ps known o g))
  nothing_after u g h None d = h
  nothing_after u g h (Some p) d =
      let ne = or_at_work u g (Some p) d p refl in
      let k = by_fault_stay u g p (λ e. ne) (fault_before all ps p) refl in
      record { defined = λ i. k.defined i ∙ h.defined i; macros = λ i. k.macros i ∙ h.macros i; count = by_fault_count u g p (λ e. ne) (fault_before all ps p) refl ∙ h.count }

  work_nothing : (n : ℕ) (g : ScopedProgress) (u : ℕ) → HasNothing u (in_progress g) → is_done (scoped_work all ps known n g) u ≡ false → HasNothing u (in_progress (scoped_work all ps known n g))
  work_nothing zero g u h d = h
  work_nothing (suc n) g u h d = work_nothing n (worked g) u (nothing_after u g h (next g) (before_false n (worked g) u d)) d

-- ---- before the first unit

abbrev Elsewhere : ℕ → Table → Type 0
Elsewhere u t = ((i : Ident) → defined_in t u i ≡ None) × (definition_count t u ≡ 0)

prelude_table : (u : ℕ) → (u ≡ prelude_unit → ⊥) → (ms : List PreludeMacro) → Elsewhere u (prelude_definitions ms)
prelude_table u ne [] = (λ i. refl, refl)
prelude_table u ne (m ∷ ms) = go (is_standard m.name) (prelude_table u ne ms)
  where
    one : Defined
    one = record { unit = prelude_unit; form = 0; ident = WrittenIdent prelude_unit m.name; keyword = true; occ = None }

    other : eqb 128 u ≡ false
    other = false_from_ne_true (eqb 128 u) (λ e. ne (sym (eqb-true 128 u e)))

    go : (b : Bool) → Elsewhere u (prelude_definitions ms) → Elsewhere u (cond b (prelude_definitions ms) (one ∷ prelude_definitions ms))
    go true h = h
    go false h = (λ i. ap (λ b. cond (b && same_ident (WrittenIdent prelude_unit m.name) i) (Some one) (defined_in (prelude_definitions ms) u i)) other ∙ h.0 i, ap (λ b. cond b (suc (definition_count (prelude_definitions ms) u)) (definition_count (prelude_definitions ms) u)) other ∙ h.1)

prelude_macros : (u : ℕ) → (u ≡ prelude_unit → ⊥) → (i : Ident) (ms : List PreludeMacro) → macro_at (map scoped_prelude_macro ms) (Global u i) ≡ None
prelude_macros u ne i [] = refl
prelude_macros u ne i (m ∷ ms) = ap (λ b. cond b (Some (record { env = []; rules = (scoped_prelude_macro m).rules })) (macro_at (map scoped_prelude_macro ms) (Global u i))) (go (is_standard m.name)) ∙ prelude_macros u ne i ms
  where
    go : (b : Bool) → same_meaning (cond b (Standard m.name) (Global prelude_unit (WrittenIdent prelude_unit m.name))) (Global u i) ≡ false
    go true = refl
    go false = ap (λ b. b && same_ident (WrittenIdent prelude_unit m.name) i) (false_from_ne_true (eqb 128 u) (λ e. ne (sym (eqb-true 128 u e))))

before_nothing : (u : ℕ) → (u ≡ prelude_unit → ⊥) → HasNothing u (in_progress scoped_before)
before_nothing u ne =
    let t = prelude_table u ne prelude in
    record { defined = λ i. ap (option_map (λ (d : Defined). d.keyword)) (t.0 i); macros = λ i. ap (option_map bare_macro) (prelude_macros u ne i prelude); count = t.1 }

pub units_nothing : (all : List Placed) (ps : List Prepared) (known : Known) (n u : ℕ) → is_done (scoped_work all ps known n scoped_before) u ≡ false → (u ≡ prelude_unit → ⊥) → HasNothing u (in_progress (scoped_work all ps known n scoped_before))
units_nothing all ps known n u h ne = work_nothing all ps known n scoped_before u (before_nothing u ne) h

-- ---- where a unit begins in two programs

pub starts : (mask : Mask) (all there : List Placed) (units others : List Prepared) (known knows : Known) (n m : ℕ) (p q : Prepared) →
    let g = scoped_work all units known n scoped_before in let h = scoped_work there others knows m scoped_before in let s = scoped_start_after all p g in let t = scoped_start_after there q h in
    is_ready all units g.results p ≡ true → is_ready there others h.results q ≡ true → fault_before all units p ≡ None →
    t.unit ≡ s.unit → t.program ≡ s.program → ((x : List ℕ) → t.entry t.unit x ≡ s.entry s.unit x) →
    ((u : ℕ) → mask.units u ≡ true → (u ≡ s.unit → ⊥) → IsUnchanged u (in_progress g) (in_progress h)) → Unchanged mask s t
starts mask all there units others known knows n m p q r r2 fault number program imports same = record {
  unit = number;
  program = program;
  units = λ u k. go u k (eqb u p.number) refl;
  standard = λ x. macros_stay there others knows (Standard x) tt m scoped_before ∙ sym (macros_stay all units known (Standard x) tt n scoped_before);
  free = λ x. macros_stay there others knows (Free x) tt m scoped_before ∙ sym (macros_stay all units known (Free x) tt n scoped_before);
  count = none_there.count ∙ sym none_here.count;
}
  where
    g : ScopedProgress
    g = scoped_work all units known n scoped_before

    h : ScopedProgress
    h = scoped_work there others knows m scoped_before

    s : ScopedState
    s = scoped_start_after all p g

    t : ScopedState
    t = scoped_start_after there q h

    ne : p.number ≡ prelude_unit → ⊥
    ne = few all units known p fault

    none_here : HasNothing p.number (in_progress g)
    none_here = units_nothing all units known n p.number (new_unit all units known g p r) ne

    none_there : HasNothing q.number (in_progress h)
    none_there = units_nothing there others knows m q.number (new_unit there others knows h q r2) (λ e. ne (sym number ∙ e))

    own : IsUnchanged p.number (in_state s) (in_state t)
    own = record {
      defined = λ i. ap (λ z. defined_as h.table z i) (sym number) ∙ none_there.defined i ∙ sym (none_here.defined i);
      imports = λ x. ap (λ z. t.entry z x) (sym number) ∙ imports x;
      macros = λ i. ap (λ z. macro_of h.macros (Global z i)) (sym number) ∙ none_there.macros i ∙ sym (none_here.macros i);
    }

    other : (u : ℕ) → IsUnchanged u (in_progress g) (in_progress h) → (u ≡ p.number → ⊥) → IsUnchanged u (in_state s) (in_state t)
    other u k apart = record {
      defined = k.defined;
      imports = λ x.
          with_other q.number u (unit_entries there h.results q).0 h.entry x (λ e. apart (e ∙ number)) ∙ (k.imports x ∙ sym (with_other p.number u (unit_entries all g.results p).0 g.entry x apart));
      macros = k.macros;
    }

    go : (u : ℕ) → mask.units u ≡ true → (b : Bool) → eqb u p.number ≡ b → IsUnchanged u (in_state s) (in_state t)
    go u k true e = subst (λ (z : ℕ). IsUnchanged z (in_state s) (in_state t)) (sym (eqb-true u p.number e)) own
    go u k false e =
        let apart : u ≡ p.number → ⊥ = λ d. both_ways (eqb u p.number) e (eq-eqb u p.number d) in
        other u (same u k apart) apart
