-- One turn more: what units came to so far stays so, and what the next one came to is added.
use Rattle.std.proofs.Common.{◌≡◌, ℕ, zero, suc, ◌⊎◌, inl, inr, List, [], ◌∷◌, ◌++◌, append-nil, append_assoc, Bool, true, false, cond, slice_get, slice_set, replicate, Option, Some, None, refl, sym, ap, ◌∙◌, subst, arith}
use Rattle.std.specs.Prelude.{◌==◌, ◌&&◌, ◌||◌, not, reverse}
use Rattle.std.proofs.lemmas.Bool.{and_parts}
use Rattle.std.proofs.lemmas.Bool.Decides.{nat_tests}
use Rattle.std.proofs.lemmas.Option.{same_Some}
use Rattle.scheme_model.specs.Ident.{Ident}
use Rattle.scheme_model.specs.Order.{is_some}
use Rattle.scheme_model.specs.Requirements.{Known}
use Rattle.scheme_model.specs.Entries.{Entry}
use Rattle.scheme_model.specs.Substitution.{Defined, Table, defined_in}
use Rattle.scheme_model.specs.UnitExpansion.{Formed}
use Rattle.scheme_model.specs.IncludedUnits.{Placed}
use Rattle.scheme_model.specs.Program.{Prepared, prepared, prepare, ExportSpec, WholeFault, SetResult, UnitResult, Program, result_at, imported_units, all_done, broken_result, unit_result, fault_before}
use Rattle.scheme_model.specs.Live.{NameUse}
use Rattle.scheme_model.specs.ProgramArrows.{unit_names}
use Rattle.scheme_model.specs.ScopedProgram.{ScopedProgress, scoped_by_fault}
use Rattle.syntax_tree.specs.declared.trees.Work.{Work}
use Rattle.syntax_tree.proofs.Places.{none_some}
use Rattle.core_tree.specs.Units.{AreDefinitions, definitions_from, defined_by, AreNames, externals}
use Rattle.unit_scopes.specs.Others.{InFront}
use Rattle.program_expansion.specs.UnitResults.{CameTo, ComesTo, IsCome, HaveCome, so_far}
use Rattle.document_units.specs.Turned.{turns, scoped_at}
use Rattle.unit_imports.specs.declared.expanded.Expanded.{Expanded}
use Rattle.read_documents.proofs.ChangedLaws.{set_cases}
use Rattle.program_expansion.proofs.NamesStay.{KeepResults, others_in, unit_names_same, externals_same}
use Rattle.program_expansion.proofs.TurnCited.{TurnOf, turn_of}
use Rattle.program_expansion.proofs.UnitGoes.{IsOfUnit, others_define}

-- ---- one result more

pub test : (a b : ℕ) (t : Bool) → (a == b) ≡ t → (a ≡ b) ⊎ ((a == b) ≡ false)
test a b true h = inl (grind (arith, nat_tests))
test a b false h = inr h

same_test : (a b : ℕ) → a ≡ b → (a == b) ≡ true
same_test a b h = grind (arith, nat_tests)

true_false : {P : Type 0} (b : Bool) → b ≡ true → b ≡ false → P
true_false b h k = clash (sym h ∙ k)
  where
    clash : {Q : Type 0} → true ≡ false → Q
    clash e = absurd cc

module _ (rs : List UnitResult) (r : UnitResult) (new : is_some (result_at rs r.unit.number) ≡ false) where
  pub other_result : (m : ℕ) → (r.unit.number == m) ≡ false → result_at (r ∷ rs) m ≡ result_at rs m
  other_result m e = ap (λ (b : Bool). cond b (Some r) (result_at rs m)) e

  pub own_result : (m : ℕ) → r.unit.number ≡ m → result_at (r ∷ rs) m ≡ Some r
  own_result m e = ap (λ (b : Bool). cond b (Some r) (result_at rs m)) (same_test r.unit.number m e)

  pub keeps_more : KeepResults rs (r ∷ rs)
  keeps_more m h = go (test r.unit.number m (r.unit.number == m) refl)
    where
      go : (r.unit.number ≡ m) ⊎ ((r.unit.number == m) ≡ false) → result_at (r ∷ rs) m ≡ result_at rs m
      go (inl e) = true_false (is_some (result_at rs m)) h (ap (λ k. is_some (result_at rs k)) (sym e) ∙ new)
      go (inr e) = other_result m e

  pub done_more : (ns : List ℕ) → all_done rs ns ≡ true → all_done (r ∷ rs) ns ≡ true
  done_more [] h = refl
  done_more (n ∷ ns) h =
      let p = and_parts (is_some (result_at rs n)) (all_done rs ns) h in
      ap (λ (o : Option UnitResult). is_some o && all_done (r ∷ rs) ns) (keeps_more n p.0) ∙ (ap (λ (b : Bool). b && all_done (r ∷ rs) ns) p.0 ∙ done_more ns p.1)

-- ---- what is done

-- the unit of a place has this result; where it isn't broken, all that it imports was done
pub record IsDone (all : List Placed) (rs : List UnitResult) (m : ℕ) (r : UnitResult) : Type 0 where
  pub unit : Placed
  pub there : slice_get all m ≡ Some unit
  pub is : r.unit ≡ prepared all m unit
  pub ready : r.fault ≡ None → all_done rs r.unit.imports ≡ true

abbrev pub AreDone : List Placed → List UnitResult → Type 0
AreDone all rs = (m : ℕ) (r : UnitResult) → result_at rs m ≡ Some r → IsDone all rs m r

-- the next result
pub record Adds (all : List Placed) (rs ts : List UnitResult) (n : ℕ) (u : Placed) : Type 0 where
  pub result : UnitResult
  pub whole : ts ≡ result ∷ rs
  pub is : result.unit ≡ prepared all n u
  pub ready : result.fault ≡ None → all_done rs result.unit.imports ≡ true

unit_of : (p : Prepared) (imports : List Entry × List SetResult) (table : Table) (forms : Option (List Formed)) → (unit_result p imports table forms).unit ≡ p
unit_of p imports table None = refl
unit_of p imports table (Some fs) = refl

module _ (all : List Placed) (known : Known) (x : List ℕ) (n : ℕ) (turn : TurnOf all known x n) where
  abbrev g : ScopedProgress
  g = scoped_at all known x

  abbrev p : Prepared
  p = prepared all n turn.unit

  -- a unit that isn't broken before is ready only once all that it imports is done
  pub imports_done : fault_before all (prepare all 0 all) p ≡ None → all_done g.results p.imports ≡ true
  imports_done e =
      let parts = and_parts (not (is_some (result_at g.results n))) (is_some (fault_before all (prepare all 0 all) p) || all_done g.results p.imports) turn.ready in
      ap (λ (o : Option WholeFault). is_some o || all_done g.results p.imports) (sym e) ∙ parts.1

  by : (f : Option WholeFault) → fault_before all (prepare all 0 all) p ≡ f → Adds all g.results (scoped_by_fault all known p f g).results n turn.unit
  by (Some f) e = record { result = broken_result p f; whole = refl; is = refl; ready = λ none. absurd cc }
  by None e = record { result = _; whole = refl; is = unit_of p _ _ _; ready = λ none. subst (λ (q : Prepared). all_done g.results q.imports ≡ true) (sym (unit_of p _ _ _)) (imports_done e) }

  pub adds : Adds all g.results (scoped_at all known (x ++ n ∷ [])).results n turn.unit
  adds = subst (λ (k : ScopedProgress). Adds all g.results k.results n turn.unit) (sym turn.next) (by (fault_before all (prepare all 0 all) p) refl)

module _ (all : List Placed) (rs : List UnitResult) (n : ℕ) (u : Placed) (there : slice_get all n ≡ Some u) (r : UnitResult) (is : r.unit ≡ prepared all n u) (new : is_some (result_at rs n) ≡ false)
    (ready : r.fault ≡ None → all_done rs r.unit.imports ≡ true) (done : AreDone all rs) where
  own : r.unit.number ≡ n
  own = ap (λ (p : Prepared). p.number) is

  fresh : is_some (result_at rs r.unit.number) ≡ false
  fresh = ap (λ k. is_some (result_at rs k)) own ∙ new

  pub more_done : AreDone all (r ∷ rs)
  more_done m s at = go (test r.unit.number m (r.unit.number == m) refl)
    where
      go : (r.unit.number ≡ m) ⊎ ((r.unit.number == m) ≡ false) → IsDone all (r ∷ rs) m s
      go (inl e) =
          let same : r ≡ s = same_Some r s (sym (own_result rs r fresh m e) ∙ at) in
          let here : n ≡ m = sym own ∙ e in
          record {
            unit = u;
            there = ap (slice_get all) (sym here) ∙ there;
            is = ap (λ (q : UnitResult). q.unit) (sym same) ∙ (is ∙ ap (λ k. prepared all k u) here);
            ready = λ none. subst (λ (q : UnitResult). all_done (r ∷ rs) q.unit.imports ≡ true) same (done_more rs r fresh r.unit.imports (ready (ap (λ (q : UnitResult). q.fault) same ∙ none)));
          }
      go (inr e) =
          let d = done m s (sym (other_result rs r fresh m e) ∙ at) in
          record { unit = d.unit; there = d.there; is = d.is; ready = λ none. done_more rs r fresh s.unit.imports (d.ready none) }

  -- ---- what came of the units

  module _ (work : Work) (old : Program) (now : Program) (units : old.units ≡ rs) (next : now.units ≡ r ∷ rs) (front : InFront (IsOfUnit n) old.table now.table) where
    keep : KeepResults old.units now.units
    keep = subst (λ (ts : List UnitResult). KeepResults ts now.units) (sym units) (subst (λ (ts : List UnitResult). KeepResults rs ts) (sym next) (keeps_more rs r fresh))

    pub came_other : (m : ℕ) (s : UnitResult) (c : Expanded) → IsDone all rs m s → (m ≡ n → ⊥) → CameTo all old work c s → CameTo all now work c s
    came_other m s c d apart h =
        let at : s.unit.number ≡ m = ap (λ (p : Prepared). p.number) d.is in
        let away : s.unit.number ≡ n → ⊥ = λ same. apart (sym at ∙ same) in
        let imports : all_done old.units (imported_units all s.unit.specs) ≡ true =
        subst (λ (ts : List UnitResult). all_done ts (imported_units all s.unit.specs) ≡ true) (sym units)
        (subst (λ (p : Prepared). all_done rs p.imports ≡ true → all_done rs (imported_units all p.specs) ≡ true) (sym d.is) (λ h. h) (d.ready h.whole)) in
        let defines = λ (i : Ident). others_in n s.unit.number away old.table now.table front i in
        record {
          whole = h.whole;
          entries = h.entries;
          forms = h.forms;
          count = h.count;
          seconds = h.seconds;
          definitions = subst (λ (ds : List Defined). AreDefinitions work.symbols (reverse (definitions_from 0 c.forms)) ds) (sym (others_define n s.unit.number away old.table now.table front)) h.definitions;
          names =
              subst (λ (xs : List ExportSpec). AreNames work.symbols s.unit.number c.names (unit_names all now s) xs) (sym (externals_same all old now s keep imports defines))
              (subst (λ (ms : List NameUse). AreNames work.symbols s.unit.number c.names ms (externals old.table s)) (sym (unit_names_same all old now s keep imports defines)) h.names);
          exports = h.exports;
        }

    pub comes_other : (m : ℕ) (s : UnitResult) (o : Option Expanded) → IsDone all rs m s → (m ≡ n → ⊥) → ComesTo all old work o s → ComesTo all now work o s
    comes_other m s None d apart h = h
    comes_other m s (Some c) d apart h = came_other m s c d apart h

  -- the unit itself, whose own result is among them now
  module _ (work : Work) (old : Program) (now : Program) (units : old.units ≡ rs) (next : now.units ≡ r ∷ rs) (same : now.table ≡ old.table) where
    keep_own : KeepResults old.units now.units
    keep_own = subst (λ (ts : List UnitResult). KeepResults ts now.units) (sym units) (subst (λ (ts : List UnitResult). KeepResults rs ts) (sym next) (keeps_more rs r fresh))

    came_own : (c : Expanded) → CameTo all old work c r → CameTo all now work c r
    came_own c h =
        let imports : all_done old.units (imported_units all r.unit.specs) ≡ true =
        subst (λ (ts : List UnitResult). all_done ts (imported_units all r.unit.specs) ≡ true) (sym units)
        (subst (λ (p : Prepared). all_done rs p.imports ≡ true → all_done rs (imported_units all p.specs) ≡ true) (sym is) (λ h. h) (ready h.whole)) in
        let defines = λ (i : Ident). ap (λ (t : Table). defined_in t r.unit.number i) same in
        record {
          whole = h.whole;
          entries = h.entries;
          forms = h.forms;
          count = h.count;
          seconds = h.seconds;
          definitions = subst (λ (t : Table). AreDefinitions work.symbols (reverse (definitions_from 0 c.forms)) (defined_by r.unit.number t)) (sym same) h.definitions;
          names =
              subst (λ (xs : List ExportSpec). AreNames work.symbols r.unit.number c.names (unit_names all now r) xs) (sym (externals_same all old now r keep_own imports defines))
              (subst (λ (ms : List NameUse). AreNames work.symbols r.unit.number c.names ms (externals old.table r)) (sym (unit_names_same all old now r keep_own imports defines)) h.names);
          exports = h.exports;
        }

    pub comes_own : (o : Option Expanded) → ComesTo all old work o r → ComesTo all now work o r
    comes_own None h = h
    comes_own (Some c) h = came_own c h

  -- all of them
  module _ (work : Work) (g k : ScopedProgress) (results : g.results ≡ rs) (next : k.results ≡ r ∷ rs) (front : InFront (IsOfUnit n) g.table k.table) (es : List (Option Expanded)) (come : HaveCome all g work es) where
    come_at : (m : ℕ) (o : Option Expanded) → (m ≡ n → ⊥) → (q : Option UnitResult) → result_at rs m ≡ q → IsCome all (so_far g) work o q → IsCome all (so_far k) work o q
    come_at m o apart None at h = h
    come_at m o apart (Some s) at h = comes_other work (so_far g) (so_far k) results next front m s o (done m s at) apart h

    others_come : (m : ℕ) (o : Option Expanded) → (m ≡ n → ⊥) → slice_get es m ≡ Some o → IsCome all (so_far k) work o (result_at k.results m)
    others_come m o apart at =
        let before : IsCome all (so_far g) work o (result_at rs m) = subst (λ (ts : List UnitResult). IsCome all (so_far g) work o (result_at ts m)) results (come m o at) in
        let same : result_at k.results m ≡ result_at rs m = ap (λ (ts : List UnitResult). result_at ts m) next ∙ other_result rs r fresh m (not_own m apart) in
        subst (λ (q : Option UnitResult). IsCome all (so_far k) work o q) (sym same) (come_at m o apart (result_at rs m) refl before)
      where
        not_own : (m : ℕ) → (m ≡ n → ⊥) → (r.unit.number == m) ≡ false
        not_own m apart = go (test r.unit.number m (r.unit.number == m) refl)
          where
            go : (r.unit.number ≡ m) ⊎ ((r.unit.number == m) ≡ false) → (r.unit.number == m) ≡ false
            go (inl e) = absurd (apart (sym e ∙ own))
            go (inr e) = e

    own_at : (o : Option Expanded) → ComesTo all (so_far k) work o r → (m : ℕ) → m ≡ n → IsCome all (so_far k) work o (result_at k.results m)
    own_at o here m e =
        subst (λ (q : Option UnitResult). IsCome all (so_far k) work o q) (sym (ap (λ (ts : List UnitResult). result_at ts m) next ∙ own_result rs r fresh m (own ∙ sym e))) here

    -- the unit's own is put at its place
    pub come_set : (o : Option Expanded) → ComesTo all (so_far k) work o r → HaveCome all k work (slice_set es n o)
    come_set o here m q at = go (set_cases es n o m q at)
      where
        go : ((m ≡ n) × (q ≡ o)) ⊎ ((m ≡ n → ⊥) × (slice_get es m ≡ Some q)) → IsCome all (so_far k) work q (result_at k.results m)
        go (inl e) = subst (λ (v : Option Expanded). IsCome all (so_far k) work v (result_at k.results m)) (sym e.1) (own_at o here m e.0)
        go (inr e) = others_come m q e.0 e.1

    -- nothing came of it
    pub come_none : ComesTo all (so_far k) work None r → HaveCome all k work es
    come_none broken m q at = go (test r.unit.number m (r.unit.number == m) refl)
      where
        nothing : r.unit.number ≡ m → IsCome all (so_far g) work q (result_at rs m) → q ≡ None
        nothing e h = at_none (result_at rs m) (ap (λ j. is_some (result_at rs j)) (sym e) ∙ fresh) h
          where
            at_none : (s : Option UnitResult) → is_some s ≡ false → IsCome all (so_far g) work q s → q ≡ None
            at_none None f h = h
            at_none (Some s) f h = absurd cc

        go : (r.unit.number ≡ m) ⊎ ((r.unit.number == m) ≡ false) → IsCome all (so_far k) work q (result_at k.results m)
        go (inl e) =
            subst (λ (v : Option Expanded). IsCome all (so_far k) work v (result_at k.results m)) (sym (nothing e (subst (λ (ts : List UnitResult). IsCome all (so_far g) work q (result_at ts m)) results (come m q at))))
            (own_at None broken m (sym e ∙ own))
        go (inr e) = others_come m q (λ same. true_false (r.unit.number == m) (same_test r.unit.number m (own ∙ sym same)) e) at

-- ---- all that is done

module _ (all : List Placed) (known : Known) where
  abbrev Done : List ℕ → Type 0
  Done x = AreDone all (scoped_at all known x).results

  done_next : (x y : List ℕ) (n : ℕ) → turns all ≡ x ++ n ∷ y → Done x → Done (x ++ n ∷ [])
  done_next x y n h d =
      let turn = turn_of all known x y n h in
      let a = adds all known x n turn in
      subst (λ (ts : List UnitResult). AreDone all ts) (sym a.whole) (more_done all (scoped_at all known x).results n turn.unit turn.there a.result a.is turn.fresh a.ready d)

  done_from : (a b y : List ℕ) → turns all ≡ a ++ (b ++ y) → Done a → Done (a ++ b)
  done_from a [] y h d = subst Done (sym (append-nil a)) d
  done_from a (n ∷ b) y h d =
      let next = done_next a (b ++ y) n h d in
      subst Done (append_assoc a (n ∷ []) b) (done_from (a ++ n ∷ []) b y (h ∙ sym (append_assoc a (n ∷ []) (b ++ y))) next)

  -- after some turns each result is that of its unit
  pub done_at : (x y : List ℕ) → turns all ≡ x ++ y → Done x
  done_at x y h = done_from [] x y h (λ m r at. none_some r at)

-- nothing came yet
pub none_come : (all : List Placed) (g : ScopedProgress) → g.results ≡ [] → (work : Work) (count : ℕ) → HaveCome all g work (replicate count None)
none_come all g none work count n o at = subst (λ (ts : List UnitResult). IsCome all (so_far g) work o (result_at ts n)) (sym none) (nothing_at count n o at)
  where
    nothing_at : (count n : ℕ) (o : Option Expanded) → slice_get (replicate count None) n ≡ Some o → o ≡ None
    nothing_at zero n o at = none_some o at
    nothing_at (suc count) zero o at = sym (same_Some None o at)
    nothing_at (suc count) (suc n) o at = nothing_at count n o at
