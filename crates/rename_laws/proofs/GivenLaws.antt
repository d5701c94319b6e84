-- Each export of a unit is given by an export declaration of its name.
use Rattle.std.proofs.Common.{◌≡◌, ℕ, zero, suc, List, [], ◌∷◌, length, Bool, true, false, cond, Option, Some, None, refl, sym, ap, ◌∙◌, subst, arith}
use Rattle.std.specs.Prelude.{◌==◌, ◌||◌, not, if◌then◌else◌}
use Rattle.std.proofs.lemmas.Bool.{and_parts}
use Rattle.std.proofs.lemmas.Bool.Decides.{nat_tests}
use Rattle.std.proofs.lemmas.Option.{same_Some}
use Rattle.scheme_model.specs.Ident.{Ident, Written}
use Rattle.scheme_model.specs.Order.{is_some}
use Rattle.scheme_model.specs.Requirements.{Known}
use Rattle.scheme_model.specs.Entries.{Entry, entry_at}
use Rattle.scheme_model.specs.Substitution.{Table, defined_in}
use Rattle.scheme_model.specs.UnitExpansion.{Formed}
use Rattle.scheme_model.specs.ScopedExpansion.{ScopedState}
use Rattle.scheme_model.specs.Includes.{Document}
use Rattle.scheme_model.specs.IncludedUnits.{Placed}
use Rattle.scheme_model.specs.Program.{known_in, units_of, Prepared, prepare, WholeFault, SetResult, ExportSpec, UnitResult, result_at, own_entry, names_of_unit, SameExport, has_name, exported, Exported, export_one, export_all, broken_result, unit_result, unit_entries, fault_before, is_ready, first_ready, all_done, in_order, program_of}
use Rattle.scheme_model.specs.ScopedProgram.{ScopedProgress, scoped_start_after, scoped_unit_over, scoped_by_fault, scoped_worked, scoped_work, scoped_before, scoped_program_of}
use Rattle.model_laws.proofs.FramePrograms.{program_law}
use Rattle.core_tree.specs.Names.{AllMatch}
use Rattle.core_tree.specs.Units.{externals, given_exports, unless_broken}
use Rattle.unit_scopes.specs.Others.{InFront}
use Rattle.expansion_laws.proofs.OtherForms.{none_in_front}
use Rattle.expansion_laws.proofs.SearchedPrograms.{unit_law}
use Rattle.program_differences.specs.Exported.{IsGiven, ExportsAreGiven}
use Rattle.rename_laws.proofs.OwnDefinitions.{IsOfUnit, searched_goes, others_in}

-- ---- the exports of one unit

given_none : (find : List ℕ → Option Entry) (seen : List (List ℕ)) (x : ExportSpec) (xs : List ExportSpec) → find x.inner.name ≡ None → given_exports find seen (x ∷ xs) ≡ given_exports find (x.outer.name ∷ seen) xs
given_none find seen x xs q = rw q refl

given_again : (find : List ℕ → Option Entry) (seen : List (List ℕ)) (x : ExportSpec) (xs : List ExportSpec) (e : Entry) → find x.inner.name ≡ Some e → has_name seen x.outer.name ≡ true →
    given_exports find seen (x ∷ xs) ≡ given_exports find (x.outer.name ∷ seen) xs
given_again find seen x xs e q p = rw (q, p) refl

given_new : (find : List ℕ → Option Entry) (seen : List (List ℕ)) (x : ExportSpec) (xs : List ExportSpec) (e : Entry) → find x.inner.name ≡ Some e → has_name seen x.outer.name ≡ false →
    given_exports find seen (x ∷ xs) ≡ x ∷ given_exports find (x.outer.name ∷ seen) xs
given_new find seen x xs e q p = rw (q, p) refl

abbrev gives : (List ℕ → Option Entry) → List (List ℕ) → List ExportSpec → List Entry
gives find seen xs = (export_all find seen xs).entries

abbrev chosen : ExportSpec → Entry → Exported → Bool → Exported
chosen x e rest again = if again then record { entries = rest.entries; faults = SameExport x ∷ rest.faults } else record { entries = exported x e ∷ rest.entries; faults = rest.faults }

abbrev behind : (List ℕ → Option Entry) → List (List ℕ) → ExportSpec → List ExportSpec → Exported
behind find seen x xs = export_all find (x.outer.name ∷ seen) xs

gives_none : (find : List ℕ → Option Entry) (seen : List (List ℕ)) (x : ExportSpec) (xs : List ExportSpec) → find x.inner.name ≡ None → gives find seen (x ∷ xs) ≡ gives find (x.outer.name ∷ seen) xs
gives_none find seen x xs q = ap (λ (o : Option Entry). (export_one seen x o (behind find seen x xs)).entries) q

gives_one : (find : List ℕ → Option Entry) (seen : List (List ℕ)) (x : ExportSpec) (xs : List ExportSpec) (e : Entry) (b : Bool) → find x.inner.name ≡ Some e → has_name seen x.outer.name ≡ b →
    gives find seen (x ∷ xs) ≡ (chosen x e (behind find seen x xs) b).entries
gives_one find seen x xs e b q p =
    ap (λ (o : Option Entry). (export_one seen x o (behind find seen x xs)).entries) q ∙ ap (λ (again : Bool). (chosen x e (behind find seen x xs) again).entries) p

all_given : (find : List ℕ → Option Entry) (seen : List (List ℕ)) (xs : List ExportSpec) → AllMatch IsGiven (gives find seen xs) (given_exports find seen xs)
all_given find seen [] = tt
all_given find seen (x ∷ xs) = go (all_given find (x.outer.name ∷ seen) xs) (find x.inner.name) refl (has_name seen x.outer.name) refl
  where
    joined : (es fs : List Entry) (ys zs : List ExportSpec) → es ≡ fs → ys ≡ zs → AllMatch IsGiven fs zs → AllMatch IsGiven es ys
    joined es fs ys zs p q h = subst (λ (es : List Entry). AllMatch IsGiven es ys) (sym p) (subst (λ (ys : List ExportSpec). AllMatch IsGiven fs ys) (sym q) h)

    go : AllMatch IsGiven (gives find (x.outer.name ∷ seen) xs) (given_exports find (x.outer.name ∷ seen) xs) → (o : Option Entry) → find x.inner.name ≡ o → (b : Bool) → has_name seen x.outer.name ≡ b → AllMatch IsGiven (gives find seen (x ∷ xs)) (given_exports find seen (x ∷ xs))
    go more None q b p = joined _ _ _ _ (gives_none find seen x xs q) (given_none find seen x xs q) more
    go more (Some e) q true p = joined _ _ _ _ (gives_one find seen x xs e true q p) (given_again find seen x xs e q p) more
    go more (Some e) q false p = joined _ _ _ _ (gives_one find seen x xs e false q p) (given_new find seen x xs e q p) (refl, more)

-- by a table
abbrev GivenBy : Table → UnitResult → Type 0
GivenBy table r = AllMatch IsGiven r.exports (externals table r)

result_given : (p : Prepared) (imports : List Entry × List SetResult) (table : Table) (forms : Option (List Formed)) → GivenBy table (unit_result p imports table forms)
result_given p imports table None = tt
result_given p imports table (Some forms) = all_given (names_of_unit table p.number imports.0) [] p.exports

-- a table that has the same definitions of the unit
given_still : (r : UnitResult) (old new : Table) → ((i : Ident) → defined_in new r.unit.number i ≡ defined_in old r.unit.number i) → GivenBy old r → GivenBy new r
given_still r old new same h = subst (λ (find : List ℕ → Option Entry). AllMatch IsGiven r.exports (unless_broken r.fault (given_exports find [] r.unit.exports))) (sym finds) h
  where
    finds : names_of_unit new r.unit.number r.entries ≡ names_of_unit old r.unit.number r.entries
    finds = λ k s. own_entry r.unit.number s (same (Written r.unit.number s) k) (entry_at r.entries s)

-- ---- results by their numbers

equal : (a b : ℕ) → (a == b) ≡ true → a ≡ b
equal a b h = grind (arith, nat_tests)

none_some : {A P : Type 0} (x : A) → None ≡ Some x → P
none_some x h = absurd cc

found_number : (rs : List UnitResult) (m : ℕ) (r : UnitResult) → result_at rs m ≡ Some r → r.unit.number ≡ m
found_number [] m r h = none_some r h
found_number (x ∷ rs) m r h = go (λ k. found_number rs m r k) (x.unit.number == m) refl h
  where
    go : (result_at rs m ≡ Some r → r.unit.number ≡ m) → (b : Bool) → (x.unit.number == m) ≡ b → cond b (Some x) (result_at rs m) ≡ Some r → r.unit.number ≡ m
    go rest true e k = ap (λ (q : UnitResult). q.unit.number) (sym (same_Some x r k)) ∙ equal x.unit.number m e
    go rest false e k = rest k

-- all that came by then
abbrev AllGiven : List UnitResult → Table → Type 0
AllGiven rs table = (m : ℕ) (r : UnitResult) → result_at rs m ≡ Some r → GivenBy table r

-- a result more, of a unit that had none
more_given : (rs : List UnitResult) (old new : Table) (r : UnitResult) → is_some (result_at rs r.unit.number) ≡ false → InFront (IsOfUnit r.unit.number) old new → GivenBy new r → AllGiven rs old → AllGiven (r ∷ rs) new
more_given rs old new r fresh front here h m s at = go (r.unit.number == m) refl at
  where
    some_none : {P : Type 0} (o : Option UnitResult) → is_some o ≡ false → o ≡ Some s → P
    some_none None f e = absurd cc
    some_none (Some x) f e = absurd cc

    apart : s.unit.number ≡ r.unit.number → result_at rs m ≡ Some s → ⊥
    apart same k = some_none (result_at rs m) (ap (λ n. is_some (result_at rs n)) (sym (found_number rs m s k) ∙ same) ∙ fresh) k

    go : (b : Bool) → (r.unit.number == m) ≡ b → cond b (Some r) (result_at rs m) ≡ Some s → GivenBy new s
    go true e k = subst (GivenBy new) (same_Some r s k) here
    go false e k = given_still s old new (others_in r.unit.number s.unit.number (λ same. apart same k) old new front) (h m s k)

-- ---- one unit after another

ready_is : (ready : Prepared → Bool) (ps : List Prepared) (p : Prepared) → first_ready ready ps ≡ Some p → ready p ≡ true
ready_is ready [] p e = none_some p e
ready_is ready (q ∷ ps) p e = go (ready_is ready ps p) (ready q) refl e
  where
    go : (first_ready ready ps ≡ Some p → ready p ≡ true) → (b : Bool) → ready q ≡ b → cond b (Some q) (first_ready ready ps) ≡ Some p → ready p ≡ true
    go more true h k = ap ready (sym (same_Some q p k)) ∙ h
    go more false h k = more k

not_true : (b : Bool) → not b ≡ true → b ≡ false
not_true false h = refl
not_true true h = cc

module _ (all : List Placed) (ps : List Prepared) (known : Known) where
  abbrev turn : ScopedProgress → ScopedProgress
  turn g = scoped_worked all ps known (first_ready (is_ready all ps g.results) ps) g

  abbrev after : ℕ → ScopedProgress
  after n = scoped_work all ps known n scoped_before

  turn_last : (n : ℕ) (g : ScopedProgress) → scoped_work all ps known (suc n) g ≡ turn (scoped_work all ps known n g)
  turn_last zero g = refl
  turn_last (suc n) g = turn_last n (turn g)

  abbrev Given : ScopedProgress → Type 0
  Given g = AllGiven g.results g.table

  module _ (n : ℕ) (p : Prepared) (ready : is_ready all ps (after n).results p ≡ true) where
    abbrev g : ScopedProgress
    g = after n

    fresh : is_some (result_at g.results p.number) ≡ false
    fresh = not_true (is_some (result_at g.results p.number)) (and_parts (not (is_some (result_at g.results p.number))) (is_some (fault_before all ps p) || all_done g.results p.imports) ready).0

    abbrev imports : List Entry × List SetResult
    imports = unit_entries all g.results p

    abbrev gone : Option (List Formed) × ScopedState
    gone = scoped_unit_over known p (scoped_start_after all p g)

    front : InFront (IsOfUnit p.number) g.table gone.1.table
    front = subst (λ (q : Option (List Formed) × ScopedState). InFront (IsOfUnit p.number) g.table q.1.table) (unit_law all ps known n p ready) (searched_goes known p (scoped_start_after all p g)).table

    of : (table : Table) (forms : Option (List Formed)) → (unit_result p imports table forms).unit ≡ p
    of table None = refl
    of table (Some forms) = refl

    abbrev r : UnitResult
    r = unit_result p imports gone.1.table gone.0

    own : r.unit.number ≡ p.number
    own = ap (λ (q : Prepared). q.number) (of gone.1.table gone.0)

    by : (f : Option WholeFault) → Given g → Given (scoped_by_fault all known p f g)
    by (Some f) h = more_given g.results g.table g.table (broken_result p f) fresh (none_in_front (IsOfUnit p.number) g.table) tt h
    by None h =
        more_given g.results g.table gone.1.table r (ap (λ m. is_some (result_at g.results m)) own ∙ fresh) (subst (λ m. InFront (IsOfUnit m) g.table gone.1.table) (sym own) front)
        (result_given p imports gone.1.table gone.0) h

  turn_given : (n : ℕ) → Given (after n) → Given (turn (after n))
  turn_given n h = go (first_ready (is_ready all ps (after n).results) ps) (λ p e. ready_is (is_ready all ps (after n).results) ps p e)
    where
      go : (o : Option Prepared) → ((p : Prepared) → o ≡ Some p → is_ready all ps (after n).results p ≡ true) → Given (scoped_worked all ps known o (after n))
      go None is = h
      go (Some p) is = by n p (is p refl) (fault_before all ps p) h

  all_at : (n : ℕ) → Given (after n)
  all_at zero = λ m s e. none_some s e
  all_at (suc n) = subst Given (sym (turn_last n scoped_before)) (turn_given n (all_at n))

-- ---- in order

in_order_of : (rs : List UnitResult) (first k n : ℕ) (r : UnitResult) → result_at (in_order rs first k) n ≡ Some r → (j : ℕ) × (result_at rs j ≡ Some r)
in_order_of rs first zero n r e = none_some r e
in_order_of rs first (suc k) n r e = go (result_at rs first) refl (λ h. in_order_of rs (suc first) k n r h)
  where
    skipped : result_at rs first ≡ None → in_order rs first (suc k) ≡ in_order rs (suc first) k
    skipped q = rw q refl

    there : (x : UnitResult) → result_at rs first ≡ Some x → in_order rs first (suc k) ≡ x ∷ in_order rs (suc first) k
    there x q = rw q refl

    here : (x : UnitResult) → result_at rs first ≡ Some x → (result_at (in_order rs (suc first) k) n ≡ Some r → (j : ℕ) × (result_at rs j ≡ Some r)) → (b : Bool) → cond b (Some x) (result_at (in_order rs (suc first) k) n) ≡ Some r →
        (j : ℕ) × (result_at rs j ≡ Some r)
    here x q more true h = (first, q ∙ h)
    here x q more false h = more h

    go : (o : Option UnitResult) → result_at rs first ≡ o → (result_at (in_order rs (suc first) k) n ≡ Some r → (j : ℕ) × (result_at rs j ≡ Some r)) → (j : ℕ) × (result_at rs j ≡ Some r)
    go None q more = more (ap (λ (l : List UnitResult). result_at l n) (sym (skipped q)) ∙ e)
    go (Some x) q more = here x q more (x.unit.number == n) (ap (λ (l : List UnitResult). result_at l n) (sym (there x q)) ∙ e)

scoped_given : (ds : List Document) → ExportsAreGiven (scoped_program_of ds)
scoped_given ds n r e =
    let all = units_of ds in
    let ps = prepare all 0 all in
    let g = scoped_work all ps (known_in ds) (length ps) scoped_before in
    let found = in_order_of g.results 0 (length ps) n r e in
    all_at all ps (known_in ds) (length ps) found.0 r found.1

pub exports_are_given : (ds : List Document) → ExportsAreGiven (program_of ds)
exports_are_given ds = subst ExportsAreGiven (program_law ds) (scoped_given ds)
