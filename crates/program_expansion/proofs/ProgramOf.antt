-- The program of all units, each at its place.
use Rattle.std.proofs.Common.{◌≡◌, ℕ, zero, suc, ◌⊎◌, inl, inr, ◌+◌, ◌<◌, ◌≤◌, List, [], ◌∷◌, append-nil, Bool, true, false, cond, length, take, filter, slice_get, Option, Some, None, refl, sym, ap, ◌∙◌, subst, arith}
use Rattle.std.specs.Prelude.{◌==◌, reverse, not}
use Rattle.std.proofs.lemmas.Bool.Decides.{nat_tests}
use Rattle.std.proofs.lemmas.Bool.{cases_lt}
use Rattle.std.proofs.lemmas.Option.{same_Some, slice_get_within}
use Rattle.scheme_model.specs.Ident.{Ident}
use Rattle.scheme_model.specs.Order.{is_some}
use Rattle.scheme_model.specs.Requirements.{Known, LibraryName}
use Rattle.scheme_model.specs.Substitution.{Defined, Table, defined_in}
use Rattle.scheme_model.specs.IncludedUnits.{Placed}
use Rattle.scheme_model.specs.Program.{Prepared, prepared, prepare, ExportSpec, WholeFault, TooMany, UnitResult, Program, result_at, imported_units, all_done, is_in, broken_result}
use Rattle.scheme_model.specs.Live.{NameUse}
use Rattle.scheme_model.specs.ProgramArrows.{is_whole, program_table, unit_names}
use Rattle.scheme_model.specs.ScopedProgram.{ScopedProgress, scoped_work, scoped_before, scoped_program_with}
use Rattle.syntax_tree.specs.declared.trees.Work.{Work}
use Rattle.core_tree.specs.Units.{AreDefinitions, definitions_from, defined_by, AreNames, externals, UnitStands, UnitsStand}
use Rattle.core_tree.specs.declared.units.Unit as code
use Rattle.program_expansion.specs.UnitResults.{CameTo, ComesTo, IsCome, HaveCome, so_far}
use Rattle.document_units.specs.Turned.{turns, waiting, scoped_at}
use Rattle.unit_imports.specs.declared.expanded.Expanded.{Expanded}
use Rattle.document_units.proofs.CircleNames.{prepared_at}
use Rattle.program_expansion.proofs.NamesStay.{KeepResults, unit_names_same, externals_same}
use Rattle.program_expansion.proofs.TurnCited.{turn_done}
use Rattle.document_units.proofs.TurnGraph.{turn_below, waiting_length}
use Rattle.program_expansion.proofs.TurnedLaws.{scoped_by_turns}
use Rattle.program_expansion.proofs.TurnResults.{scoped_result, scoped_left, scoped_units}
use Rattle.program_expansion.proofs.UpTo.{test, IsDone, AreDone, done_at}

-- ---- results by their numbers

same_test : (a b : ℕ) → a ≡ b → (a == b) ≡ true
same_test a b h = grind (arith, nat_tests)

not_test : (a b : ℕ) → (a ≡ b → ⊥) → (a == b) ≡ false
not_test a b h = go (test a b (a == b) refl)
  where
    go : (a ≡ b) ⊎ ((a == b) ≡ false) → (a == b) ≡ false
    go (inl e) = absurd (h e)
    go (inr e) = e

numbered_at : (xs : List UnitResult) (k i : ℕ) → ((j : ℕ) (r : UnitResult) → slice_get xs j ≡ Some r → r.unit.number ≡ k + j) → result_at xs (k + i) ≡ slice_get xs i
numbered_at [] k i h = nothing i
  where
    nothing : (i : ℕ) → None ≡ slice_get {X = UnitResult} [] i
    nothing zero = refl
    nothing (suc i) = refl
numbered_at (x ∷ xs) k zero h = ap (λ (b : Bool). cond b (Some x) (result_at xs (k + 0))) (same_test x.unit.number (k + 0) (h 0 x refl))
numbered_at (x ∷ xs) k (suc i) h =
    ap (λ (b : Bool). cond b (Some x) (result_at xs (k + suc i))) (not_test x.unit.number (k + suc i) (λ e. let own = h 0 x refl in absurd (omega arith)))
    ∙ (ap (result_at xs) (one_more k i) ∙ numbered_at xs (suc k) i (λ j r at. h (suc j) r at ∙ one_more k j))
  where
    one_more : (k i : ℕ) → k + suc i ≡ suc k + i
    one_more k i = omega arith

found_number : (rs : List UnitResult) (m : ℕ) (r : UnitResult) → result_at rs m ≡ Some r → r.unit.number ≡ m
found_number [] m r h = absurd cc
found_number (x ∷ rs) m r h = go (λ k. found_number rs m r k) (x.unit.number == m) refl h
  where
    equal : (a b : ℕ) → (a == b) ≡ true → a ≡ b
    equal a b h = grind (arith, nat_tests)

    go : (result_at rs m ≡ Some r → r.unit.number ≡ m) → (b : Bool) → (x.unit.number == m) ≡ b → cond b (Some x) (result_at rs m) ≡ Some r → r.unit.number ≡ m
    go rest true e k = ap (λ (q : UnitResult). q.unit.number) (sym (same_Some x r k)) ∙ equal x.unit.number m e
    go rest false e k = rest k

some_there : (o : Option UnitResult) → is_some o ≡ true → (r : UnitResult) × (o ≡ Some r)
some_there None h = absurd cc
some_there (Some r) h = (r, refl)

-- ---- tables without what broken units define

abbrev of_unit : ℕ → List Defined → List Defined
of_unit n t = filter (λ (d : Defined). d.unit == n) t

abbrev of_those : (ℕ → Bool) → List Defined → List Defined
of_those f t = filter (λ (d : Defined). f d.unit) t

opposite : {P : Type 0} (b : Bool) → b ≡ true → b ≡ false → P
opposite b h k = clash (sym h ∙ k)
  where
    clash : {Q : Type 0} → true ≡ false → Q
    clash q = absurd cc

whole_define : (f : ℕ → Bool) (n : ℕ) (t : List Defined) → f n ≡ true → of_unit n (of_those f t) ≡ of_unit n t
whole_define f n [] h = refl
whole_define f n (d ∷ t) h = go (whole_define f n t h) (f d.unit) refl (test d.unit n (d.unit == n) refl)
  where
    go : of_unit n (of_those f t) ≡ of_unit n t → (b : Bool) → f d.unit ≡ b → (d.unit ≡ n) ⊎ ((d.unit == n) ≡ false) → of_unit n (cond b (d ∷ of_those f t) (of_those f t)) ≡ cond (d.unit == n) (d ∷ of_unit n t) (of_unit n t)
    go rest true e k = ap (λ (ds : List Defined). cond (d.unit == n) (d ∷ ds) ds) rest
    go rest false e (inl k) = opposite (f d.unit) (ap f k ∙ h) e
    go rest false e (inr k) = rest ∙ sym (ap (λ (b : Bool). cond b (d ∷ of_unit n t) (of_unit n t)) k)

broken_define : (f : ℕ → Bool) (n : ℕ) (t : List Defined) → f n ≡ false → of_unit n (of_those f t) ≡ []
broken_define f n [] h = refl
broken_define f n (d ∷ t) h = go (broken_define f n t h) (f d.unit) refl (test d.unit n (d.unit == n) refl)
  where
    go : of_unit n (of_those f t) ≡ [] → (b : Bool) → f d.unit ≡ b → (d.unit ≡ n) ⊎ ((d.unit == n) ≡ false) → of_unit n (cond b (d ∷ of_those f t) (of_those f t)) ≡ []
    go rest false e k = rest
    go rest true e (inl k) = opposite (f d.unit) e (ap f k ∙ h)
    go rest true e (inr k) = ap (λ (b : Bool). cond b (d ∷ of_unit n (of_those f t)) (of_unit n (of_those f t))) k ∙ rest

-- ---- the whole program

module _ (us : List Placed) (known : Known) where
  abbrev ps : List Prepared
  ps = prepare us 0 us

  abbrev last : ScopedProgress
  last = scoped_work us ps known (length ps) scoped_before

  abbrev turned : ScopedProgress
  turned = scoped_at us known (turns us)

  abbrev whole : Program
  whole = scoped_program_with us ps known

  number_of : (j : ℕ) (r : UnitResult) → slice_get whole.units j ≡ Some r → r.unit.number ≡ 0 + j
  number_of j r at =
      let units = scoped_units us known in
      let within = slice_get_within whole.units j r at in
      let lt : j < length ps = let e = units.0 in omega arith in
      found_number last.results j r (sym (units.1 j lt) ∙ at) ∙ from_none j
    where
      from_none : (j : ℕ) → j ≡ 0 + j
      from_none j = omega arith

  from_zero : (i : ℕ) → 0 + i ≡ i
  from_zero i = omega arith

  pub program_at : (i : ℕ) → result_at whole.units i ≡ slice_get whole.units i
  program_at i = ap (result_at whole.units) (sym (from_zero i)) ∙ numbered_at whole.units 0 i number_of

  pub low : (m : ℕ) → is_some (result_at turned.results m) ≡ true → (m < 128) × (m < length ps)
  low m h =
      let there : is_in m (turns us) ≡ true = sym (turn_done us known (turns us) [] (sym (append-nil (turns us))) m) ∙ h in
      let below = turn_below us m there in
      let few = waiting_few m (waiting_length us) below in few
    where
      taken : (k : ℕ) (xs : List Prepared) (m : ℕ) → m < length (take k xs) → (m < k) × (m < length xs)
      taken zero xs m lt = absurd (omega arith)
      taken (suc k) [] m lt = absurd (omega arith)
      taken (suc k) (x ∷ xs) zero lt = (omega arith, omega arith)
      taken (suc k) (x ∷ xs) (suc m) lt = let r = taken k xs m (omega arith) in (let a = r.0 in omega arith, let a = r.1 in omega arith)

      waiting_few : (m : ℕ) → length (waiting us) ≡ length (take 128 ps) → m < length (waiting us) → (m < 128) × (m < length ps)
      waiting_few m e lt = taken 128 ps m (omega arith)

  -- what was expanded in turn is so in the program
  pub keeps_turned : KeepResults turned.results whole.units
  keeps_turned m h =
      let l = low m h in
      program_at m ∙ ((scoped_units us known).1 m l.1 ∙ scoped_result us known m l.0)

  pub table_is : whole.table ≡ turned.table
  table_is = ap (λ (g : ScopedProgress). g.table) (scoped_by_turns us known)

  -- what a unit came to in its turn is what the program has of it
  pub came_last : (work : Work) (n : ℕ) (c : Expanded) (r : UnitResult) → IsDone us turned.results n r → CameTo us (so_far turned) work c r → CameTo us whole work c r
  came_last work n c r d h =
      let imports : all_done turned.results (imported_units us r.unit.specs) ≡ true =
      subst (λ (p : Prepared). all_done turned.results p.imports ≡ true → all_done turned.results (imported_units us p.specs) ≡ true) (sym d.is) (λ h. h) (d.ready h.whole) in
      let defines = λ (i : Ident). ap (λ (t : Table). defined_in t r.unit.number i) table_is in
      record {
        whole = h.whole;
        entries = h.entries;
        forms = h.forms;
        count = h.count;
        seconds = h.seconds;
        definitions = subst (λ (t : Table). AreDefinitions work.symbols (reverse (definitions_from 0 c.forms)) (defined_by r.unit.number t)) (sym table_is) h.definitions;
        names = subst (λ (xs : List ExportSpec). AreNames work.symbols r.unit.number c.names (unit_names us whole r) xs) (sym (externals_same us (so_far turned) whole r keeps_turned imports defines))
            (subst (λ (ms : List NameUse). AreNames work.symbols r.unit.number c.names ms (externals turned.table r)) (sym (unit_names_same us (so_far turned) whole r keeps_turned imports defines)) h.names);
        exports = h.exports;
      }

  -- each unit of the program, by what came of it
  pub comes_last : (work : Work) (es : List (Option Expanded)) → HaveCome us turned work es → (n : ℕ) (o : Option Expanded) (r : UnitResult) → slice_get es n ≡ Some o → slice_get whole.units n ≡ Some r → ComesTo us whole work o r
  comes_last work es come n o r at unit = go (result_at turned.results n) refl (come n o at)
    where
      done : AreDone us turned.results
      done = done_at us known (turns us) [] (sym (append-nil (turns us)))

      here : result_at whole.units n ≡ Some r
      here = program_at n ∙ unit

      lasts : (o : Option Expanded) (s : UnitResult) → IsDone us turned.results n s → ComesTo us (so_far turned) work o s → ComesTo us whole work o s
      lasts None s d h = h
      lasts (Some c) s d h = came_last work n c s d h

      lt : n < length ps
      lt = let within = slice_get_within whole.units n r unit in let e = (scoped_units us known).0 in omega arith

      get : (xs : List Prepared) (n : ℕ) → n < length xs → (p : Prepared) × (slice_get xs n ≡ Some p)
      get [] n lt = absurd (omega arith)
      get (x ∷ xs) zero lt = (x, refl)
      get (x ∷ xs) (suc n) lt = get xs n (omega arith)

      -- one that has no turn is too many
      left : result_at turned.results n ≡ None → r ≡ broken_result r.unit TooMany
      left none = by (cases_lt n 128)
        where
          by : (n < 128) ⊎ (128 ≤ n) → r ≡ broken_result r.unit TooMany
          by (inl few) = clash (sym none ∙ (sym (scoped_result us known n few) ∙ (sym ((scoped_units us known).1 n lt) ∙ unit)))
            where
              clash : {P : Type 0} → None ≡ Some r → P
              clash e = absurd cc
          by (inr many) =
              let p = get ps n lt in
              let is : r ≡ broken_result p.0 TooMany = same_Some r (broken_result p.0 TooMany) (sym unit ∙ ((scoped_units us known).1 n lt ∙ scoped_left us known n p.0 many p.1)) in
              is ∙ ap (λ (q : Prepared). broken_result q TooMany) (sym (ap (λ (s : UnitResult). s.unit) is))

      go : (q : Option UnitResult) → result_at turned.results n ≡ q → IsCome us (so_far turned) work o q → ComesTo us whole work o r
      go None e h = subst (λ (v : Option Expanded). ComesTo us whole work v r) (sym h) (TooMany, left e)
      go (Some s) e h =
          let same : s ≡ r = same_Some s r (sym (keeps_turned n (ap (λ (v : Option UnitResult). is_some v) e) ∙ e) ∙ here) in
          subst (λ (q : UnitResult). ComesTo us whole work o q) same (lasts o s (done n s e) h)

  -- each is of the unit at its place
  pub unit_prepared : (n : ℕ) (r : UnitResult) → slice_get whole.units n ≡ Some r → (u : Placed) × ((slice_get us n ≡ Some u) × (r.unit ≡ prepared us n u))
  unit_prepared n r at = by (cases_lt n 128)
    where
      lt : n < length ps
      lt = let within = slice_get_within whole.units n r at in let e = (scoped_units us known).0 in omega arith

      found : result_at last.results n ≡ Some r
      found = sym ((scoped_units us known).1 n lt) ∙ at

      get : (xs : List Prepared) (n : ℕ) → n < length xs → (p : Prepared) × (slice_get xs n ≡ Some p)
      get [] n lt = absurd (omega arith)
      get (x ∷ xs) zero lt = (x, refl)
      get (x ∷ xs) (suc n) lt = get xs n (omega arith)

      by : (n < 128) ⊎ (128 ≤ n) → (u : Placed) × ((slice_get us n ≡ Some u) × (r.unit ≡ prepared us n u))
      by (inl few) = let d = done_at us known (turns us) [] (sym (append-nil (turns us))) n r (sym (scoped_result us known n few) ∙ found) in (d.unit, (d.there, d.is))
      by (inr many) =
          let p = get ps n lt in
          let is : r ≡ broken_result p.0 TooMany = same_Some r (broken_result p.0 TooMany) (sym found ∙ scoped_left us known n p.0 many p.1) in
          let u = prepared_at us us 0 n p.0 p.1 in
          (u.0, (u.1.0, ap (λ (s : UnitResult). s.unit) is ∙ (sym u.1.1 ∙ ap (λ k. prepared us k u.0) (from_zero n))))

  -- what whole units define is in the program's table, and what broken ones do isn't
  pub defined_whole : (n : ℕ) (r : UnitResult) → slice_get whole.units n ≡ Some r → r.fault ≡ None → defined_by n (program_table whole) ≡ defined_by n whole.table
  defined_whole n r at h = whole_define (λ m. is_whole (result_at whole.units m)) n whole.table (ap (λ (v : Option UnitResult). is_whole v) (program_at n ∙ at) ∙ ap (λ (f : Option WholeFault). not (is_some f)) h)

  pub defined_broken : (n : ℕ) (r : UnitResult) (f : WholeFault) → slice_get whole.units n ≡ Some r → r.fault ≡ Some f → defined_by n (program_table whole) ≡ []
  defined_broken n r f at h = broken_define (λ m. is_whole (result_at whole.units m)) n whole.table (ap (λ (v : Option UnitResult). is_whole v) (program_at n ∙ at) ∙ ap (λ (f : Option WholeFault). not (is_some f)) h)

-- ---- units one by one

pub units_stand : (work : Work) (text : LibraryName → List ℕ) (uris : List (List ℕ)) (us : List Placed) (p : Program) (place : ℕ) (cs : List code.Unit) (rs : List UnitResult) → length cs ≡ length rs →
    ((n : ℕ) (c : code.Unit) (r : UnitResult) → slice_get cs n ≡ Some c → slice_get rs n ≡ Some r → UnitStands work text uris us p (place + n) c r) → UnitsStand work text uris us p place cs rs
units_stand work text uris us p place [] [] long h = tt
units_stand work text uris us p place [] (r ∷ rs) long h = absurd (omega arith)
units_stand work text uris us p place (c ∷ cs) [] long h = absurd (omega arith)
units_stand work text uris us p place (c ∷ cs) (r ∷ rs) long h = (
  subst (λ (k : ℕ). UnitStands work text uris us p k c r) (none_more place) (h 0 c r refl refl),
  units_stand work text uris us p (suc place) cs rs (omega arith) (λ n d s at there. subst (λ (k : ℕ). UnitStands work text uris us p k d s) (one_more place n) (h (suc n) d s at there)),
)
  where
    none_more : (k : ℕ) → k + 0 ≡ k
    none_more k = omega arith

    one_more : (k n : ℕ) → k + suc n ≡ suc k + n
    one_more k n = omega arith
