-- Units are judged as the definition of a program breaks them.
use Rattle.std.proofs.Common.{◌≡◌, ℕ, zero, suc, ◌+◌, ◌<◌, ◌≤◌, Bool, true, false, cond, ◌⊎◌, inl, inr, List, [], ◌∷◌, length, take, slice_get, Option, Some, None, Result, Ok, Err, refl, sym, ap, ◌∙◌, subst, arith, ltb}
use Rattle.std.specs.Prelude.{◌||◌, ◌&&◌, ◌==◌, nat_le, IfOk, OnOk}
use Rattle.std.specs.Option as std
use Rattle.std.specs.Option.{option_map}
use Rattle.std.proofs.lemmas.Bool.{ltb-true, and_parts, cases_lt}
use Rattle.std.proofs.lemmas.Bool.Decides.{nat_tests}
use Rattle.std.proofs.lemmas.Option.{same_Some, slice_get_within}
use Rattle.scheme_model.specs.Declarations.{UnitForm}
use Rattle.scheme_model.specs.Requirements.{LibraryName}
use Rattle.scheme_model.specs.Program as model
use Rattle.scheme_model.specs.IncludedUnits.{EarlyFault, Placed}
use Rattle.scheme_model.specs.Program.{Prepared, prepared, prepare, is_in, imports_at, reached, on_circle, name_if, unit_named, imported_units, is_repeated, early_fault, declared_fault, fault_before, specs_from, forms_or_none}
use Rattle.core_tree.specs.Units.{imports_of}
use Rattle.import_sets.proofs.ReachLaws.{IsWithin, same_test, reached_closed, reached_start, reached_within}
use Rattle.base_library.specs.Texts.{SpellsStandard}
use Rattle.unit_sources.specs.declared.units.UnitSource as code
use Rattle.unit_sources.specs.Sources.{IsUnit, AreUnitsFrom, AreUnits}
use Rattle.unit_sources.specs.Named.{place_named}
use Rattle.unit_sources.specs.Orders.{with_imports, AreInTurn}
use Rattle.unit_sources.specs.Repeated.{repeated_places, has_standard_name}
use Rattle.unit_sources.proofs.NamedLaws.{place_same}
use Rattle.unit_sources.proofs.RepeatedLaws.{repeated_are}
use Rattle.unit_sources.proofs.GraphLaws.{imports_same}
use Rattle.read_documents.specs.declared.heads.Head.{Head}
use Rattle.read_documents.specs.declared.heads.WholeFault.{WholeFault}
use Rattle.read_documents.specs.declared.heads.WholeFault.TheVariants as fault
use Rattle.read_documents.specs.Broken.{told, or_fault, broken_if, Breaks, has_standard, BreaksStandard, IsListed, AreListed, IsJudged, AreJudged, importing, FindsImports, without_if, Forgets}
use Rattle.document_units.specs.Turned.{turns}
use Rattle.document_units.proofs.StandardNamed.{standard_same}
use Rattle.document_units.proofs.Handed.{handed, code_given, units_given, turns_handed}
use Rattle.document_units.proofs.NamedUnits.{named_of_taken, imported_same, prepared_same, taken_same}
use Rattle.document_units.proofs.TurnGraph.{AreFrom, prepared_from, all_numbered, row_low, all_within, taken_has, as_many}

-- ---- the first units, by themselves

prepared_there : (us vs : List Placed) (k i : ℕ) (v : Placed) → slice_get vs i ≡ Some v → slice_get (prepare us k vs) i ≡ Some (prepared us (k + i) v)
prepared_there us [] k i v h = absurd cc
prepared_there us (w ∷ vs) k zero v h = ap Some (ap (prepared us k) (same_Some w v h) ∙ ap (λ n. prepared us n v) (none_more k))
  where
    none_more : (k : ℕ) → k ≡ k + 0
    none_more k = omega arith
prepared_there us (w ∷ vs) k (suc i) v h = prepared_there us vs (suc k) i v h ∙ ap (λ n. Some (prepared us n v)) (one_more k i)
  where
    one_more : (k i : ℕ) → suc k + i ≡ k + suc i
    one_more k i = omega arith

pub taken_at : {A : Type 0} (m : ℕ) (xs : List A) (n : ℕ) → n < m → slice_get (take m xs) n ≡ slice_get xs n
taken_at zero xs n lt = absurd (omega arith)
taken_at (suc m) [] n lt = refl
taken_at (suc m) (x ∷ xs) zero lt = refl
taken_at (suc m) (x ∷ xs) (suc n) lt = taken_at m xs n (omega arith)

taken_fewer : (c : ℕ) (ps : List Prepared) (n m : ℕ) → is_in m (imports_at (take c ps) n) ≡ true → is_in m (imports_at ps n) ≡ true
taken_fewer zero ps n m h = absurd cc
taken_fewer (suc c) [] n m h = absurd cc
taken_fewer (suc c) (x ∷ ps) n m h = go (taken_fewer c ps n m) (x.number == n) h
  where
    go : (is_in m (imports_at (take c ps) n) ≡ true → is_in m (imports_at ps n) ≡ true) → (b : Bool) → is_in m (cond b x.imports (imports_at (take c ps) n)) ≡ true → is_in m (cond b x.imports (imports_at ps n)) ≡ true
    go more true i = i
    go more false i = more i

next_from : (k : ℕ) (x : Prepared) (xs : List Prepared) → AreFrom k (x ∷ xs) → AreFrom (suc k) xs
next_from k x xs h i p at = h (suc i) p at ∙ more k i
  where
    more : (k i : ℕ) → k + suc i ≡ suc k + i
    more k i = omega arith

none_before : (k : ℕ) (ps : List Prepared) → AreFrom k ps → (n : ℕ) → n < k → imports_at ps n ≡ []
none_before k [] from n lt = refl
none_before k (x ∷ ps) from n lt = ap (λ (b : Bool). cond b x.imports (imports_at ps n)) (apart x.number (from 0 x refl)) ∙ none_before (suc k) ps (next_from k x ps from) n (omega arith)
  where
    apart : (m : ℕ) → m ≡ k + 0 → (m == n) ≡ false
    apart m e = grind (arith, nat_tests)

taken_imports : (c k : ℕ) (ps : List Prepared) → AreFrom k ps → (n : ℕ) → n < k + c → imports_at (take c ps) n ≡ imports_at ps n
taken_imports zero k ps from n lt = sym (none_before k ps from n (omega arith))
taken_imports (suc c) k [] from n lt = refl
taken_imports (suc c) k (x ∷ ps) from n lt = ap (cond (x.number == n) x.imports) (taken_imports c (suc k) ps (next_from k x ps from) n (omega arith))

-- a unit is on a circle where it is on one of those that aren't too many
module _ (all : List Placed) where
  abbrev ps : List Prepared
  ps = prepare all 0 all

  abbrev ts : List Prepared
  ts = take 128 ps

  ts_within : IsWithin ts
  ts_within n m h = let low = row_low all n m (taken_fewer 128 ps n m h) in let e = as_many all all 0 in taken_has 128 ps m (let lt = low.0 in omega arith) low.1

  abbrev both : List ℕ → ℕ → Bool
  both ns m = ltb m 128 && is_in m (reached ts (length ts) ns)

  both_true : (ns : List ℕ) (m : ℕ) → m < 128 → is_in m (reached ts (length ts) ns) ≡ true → both ns m ≡ true
  both_true ns m lt h = (λ j. low j && h j)
    where
      low : ltb m 128 ≡ true
      low = grind (arith, nat_tests)

  both_closed : (ns : List ℕ) (n m : ℕ) → both ns n ≡ true → is_in m (imports_at ps n) ≡ true → both ns m ≡ true
  both_closed ns n m h i =
      let parts = and_parts (ltb n 128) (is_in n (reached ts (length ts) ns)) h in
      let lt : n < 128 = ltb-true n 128 parts.0 in
      both_true ns m (row_low all n m i).1 (reached_closed ts ts_within ns n m parts.1 (ap (is_in m) (taken_imports 128 0 ps (prepared_from all all 0) n (omega arith)) ∙ i))

  circle_taken : (n : ℕ) (p : Prepared) → p.imports ≡ imports_at ps n → on_circle ts p ≡ on_circle ps p
  circle_taken n p own =
      same_test (on_circle ts p) (on_circle ps p)
      (reached_within ts (λ m. is_in m (reached ps (length ps) p.imports)) (λ k m i j. reached_closed ps (all_within all) p.imports k m i (taken_fewer 128 ps k m j)) (length ts) p.imports (reached_start ps (length ps) p.imports) p.number)
      (λ h.
      (and_parts (ltb p.number 128) (is_in p.number (reached ts (length ts) p.imports))
      (reached_within ps (both p.imports) (both_closed p.imports) (length ps) p.imports
      (λ m i. both_true p.imports m (row_low all n m (ap (is_in m) (sym own) ∙ i)).1 (reached_start ts (length ts) p.imports m i)) p.number h)).1)

-- ---- what breaks a unit

repeated_same : (us vs : List Placed) → ((l : LibraryName) → unit_named l 0 us ≡ unit_named l 0 vs) → (p : Prepared) (o : Option LibraryName) → name_if p.number p.placed.source ≡ o → is_repeated us p ≡ is_repeated vs p
repeated_same us vs same p None e = rw e refl
repeated_same us vs same p (Some l) e = go (unit_named l 0 vs) (same l) refl
  where
    go : (o : Option ℕ) → unit_named l 0 us ≡ unit_named l 0 vs → unit_named l 0 vs ≡ o → is_repeated us p ≡ is_repeated vs p
    go None i j = rw (e, i, j) refl
    go (Some m) i j = rw (e, i, j) refl

-- three faults one after another, of which the first stays
abbrev one_more : Bool → WholeFault → Option WholeFault → Option WholeFault
one_more b f o = cond b (or_fault o f) o

stays : (f g : WholeFault) (b : Bool) → one_more b g (Some f) ≡ Some f
stays f g true = refl
stays f g false = refl

abbrev alone : ℕ → Bool → Result (List UnitForm) EarlyFault → Option model.WholeFault
alone n many r = cond many (Some model.TooMany) (declared_fault n r None)

abbrev before : ℕ → Bool → Result (List UnitForm) EarlyFault → (repeated circle : Bool) → Option model.WholeFault
before n many r repeated circle = cond many (Some model.TooMany) (declared_fault n r (cond repeated (Some model.DefinedTwice) (cond circle (Some model.ImportCycle) None)))

abbrev after : (repeated standard circle : Bool) → Option WholeFault → Option WholeFault
after a b c o = one_more c fault.ImportCycle (one_more b fault.DefinedTwice (one_more a fault.DefinedTwice o))

after_stays : (a b c : Bool) (f : WholeFault) → after a b c (Some f) ≡ Some f
after_stays a b c f =
    ap (λ (o : Option WholeFault). one_more c fault.ImportCycle (one_more b fault.DefinedTwice o)) (stays f fault.DefinedTwice a)
    ∙ ap (one_more c fault.ImportCycle) (stays f fault.DefinedTwice b) ∙ stays f fault.ImportCycle c

faults : (n : ℕ) (many : Bool) (r : Result (List UnitForm) EarlyFault) (twice circle a b c : Bool) → (alone n many r ≡ None → (twice ≡ (b || a)) × (circle ≡ c)) → after a b c (option_map told (alone n many r)) ≡ option_map told (before n many r twice circle)
faults n true r twice circle a b c same = after_stays a b c fault.TooMany
faults n false (Err d) twice circle a b c same = after_stays a b c (told (early_fault n d))
faults n false (Ok fs) twice circle a b c same = go a b c ∙ sym (λ j. option_map told (cond ((same refl).0 j) (Some model.DefinedTwice) (cond ((same refl).1 j) (Some model.ImportCycle) None)))
  where
    go : (a b c : Bool) → after a b c None ≡ option_map told (cond (b || a) (Some model.DefinedTwice) (cond c (Some model.ImportCycle) None))
    go true true true = refl
    go true true false = refl
    go true false true = refl
    go true false false = refl
    go false true true = refl
    go false true false = refl
    go false false true = refl
    go false false false = refl

broken_fault : (b : Bool) (f : WholeFault) (h : Head) → (broken_if b f h).fault ≡ one_more b f h.fault
broken_fault true f h = refl
broken_fault false f h = refl

broken_name : (b : Bool) (f : WholeFault) (h : Head) → (broken_if b f h).name ≡ h.name
broken_name true f h = refl
broken_name false f h = refl

broken_imports : (b : Bool) (f : WholeFault) (h : Head) → (broken_if b f h).imports ≡ h.imports
broken_imports true f h = refl
broken_imports false f h = refl

not_many : (n : ℕ) (r : Result (List UnitForm) EarlyFault) → alone n (nat_le 128 n) r ≡ None → n < 128
not_many n r h = go (nat_le 128 n) refl h
  where
    low : nat_le 128 n ≡ false → n < 128
    low e = grind (arith, nat_tests)

    go : (b : Bool) → nat_le 128 n ≡ b → alone n b r ≡ None → n < 128
    go true e i = absurd cc
    go false e i = low e

-- ---- what a unit imports

unit_at : (spelled : LibraryName → List ℕ) (k : ℕ) (cs : List code.UnitSource) (us : List Placed) → AreUnitsFrom spelled k cs us → (i : ℕ) (u : Placed) → slice_get us i ≡ Some u →
    (c : code.UnitSource) × ((slice_get cs i ≡ Some c) × IsUnit spelled (k + i) c u.source)
unit_at spelled k [] [] h i u at = absurd cc
unit_at spelled k [] (v ∷ us) h i u at = absurd h
unit_at spelled k (c ∷ cs) [] h i u at = absurd h
unit_at spelled k (c ∷ cs) (v ∷ us) h zero u at = (c, (refl, subst (λ n. IsUnit spelled n c u.source) (none_more k) (subst (λ (w : Placed). IsUnit spelled k c w.source) (same_Some v u at) h.0)))
  where
    none_more : (k : ℕ) → k ≡ k + 0
    none_more k = omega arith
unit_at spelled k (c ∷ cs) (v ∷ us) h (suc i) u at =
    let r = unit_at spelled (suc k) cs us h.1 i u at in (r.0, (r.1.0, subst (λ n. IsUnit spelled n r.0 u.source) (more k i) r.1.1))
  where
    more : (k i : ℕ) → suc k + i ≡ k + suc i
    more k i = omega arith

few_units : (spelled : LibraryName → List ℕ) (k : ℕ) (cs : List code.UnitSource) (us : List Placed) → AreUnitsFrom spelled k cs us → (i : ℕ) → length us ≤ i → slice_get cs i ≡ None
few_units spelled k [] [] h i le = nowhere i
  where
    nowhere : (i : ℕ) → slice_get {X = code.UnitSource} [] i ≡ None
    nowhere zero = refl
    nowhere (suc i) = refl
few_units spelled k [] (v ∷ us) h i le = absurd h
few_units spelled k (c ∷ cs) [] h i le = absurd h
few_units spelled k (c ∷ cs) (v ∷ us) h zero le = absurd (omega arith)
few_units spelled k (c ∷ cs) (v ∷ us) h (suc i) le = few_units spelled (suc k) cs us h.1 i (omega arith)

few_taken : {A : Type 0} (n : ℕ) (xs : List A) → length (take n xs) ≤ n
few_taken zero xs = omega arith
few_taken (suc n) [] = omega arith
few_taken (suc n) (x ∷ xs) = let le = few_taken n xs in omega arith

-- a name's text has the place of the unit that the name means
pub unit_found : (spelled : LibraryName → List ℕ) → SpellsStandard spelled → (all : List Placed) (cs : List code.UnitSource) → AreUnits spelled cs (take 128 all) → (find : List ℕ → Option ℕ) → ((s : List ℕ) → find s ≡ place_named s 0 cs) →
    (l : LibraryName) → find (spelled l) ≡ unit_named l 0 all
unit_found spelled is all cs are find named l = named (spelled l) ∙ place_same spelled is.tells l 0 cs (take 128 all) are ∙ named_of_taken l all

-- ---- the heads

module _ (spelled : LibraryName → List ℕ) (is : SpellsStandard spelled) (all : List Placed) (cs : List code.UnitSource) (are : AreUnits spelled cs (take 128 all)) (find : List ℕ → Option ℕ) (named : (s : List ℕ) → find s ≡ place_named s 0 cs)
    (repeated circles : List ℕ) (twice : repeated ≡ repeated_places (take 128 all))
    (circular : (n : ℕ) (p : Prepared) → slice_get (with_imports (take 128 all)) n ≡ Some p → is_in n circles ≡ on_circle (with_imports (take 128 all)) p) where
  finds : (l : LibraryName) → find (spelled l) ≡ unit_named l 0 (take 128 all)
  finds l = named (spelled l) ∙ place_same spelled is.tells l 0 cs (take 128 all) are

  same_named : (l : LibraryName) → unit_named l 0 (take 128 all) ≡ unit_named l 0 all
  same_named l = named_of_taken l all

  abbrev judged_head : ℕ → Head → Head
  judged_head n h = importing find (slice_get cs n) (broken_if (is_in n circles) fault.ImportCycle (broken_if (has_standard (broken_if (is_in n repeated) fault.DefinedTwice h).name) fault.DefinedTwice (broken_if (is_in n repeated) fault.DefinedTwice h)))

  kept_name : (o : Option code.UnitSource) (h : Head) → (importing find o h).name ≡ h.name
  kept_name None h = refl
  kept_name (Some c) h = refl

  kept_fault : (o : Option code.UnitSource) (h : Head) → (importing find o h).fault ≡ h.fault
  kept_fault None h = refl
  kept_fault (Some c) h = refl

  twice_same : (n : ℕ) (u : Placed) → slice_get all n ≡ Some u → n < 128 → is_repeated all (prepared all n u) ≡ (has_standard_name (name_if n u.source) || is_in n repeated)
  twice_same n u at low =
      sym (repeated_same (take 128 all) all same_named (prepared all n u) (name_if n u.source) refl)
      ∙ ap (is_repeated (take 128 all)) (sym (prepared_same (take 128 all) all same_named n u))
      ∙ repeated_are (take 128 all) n u (taken_at 128 all n low ∙ at) ∙ ap (λ (l : List ℕ). has_standard_name (name_if n u.source) || is_in n l) (sym twice)

  circle_same : (n : ℕ) (u : Placed) → slice_get all n ≡ Some u → n < 128 → on_circle (prepare all 0 all) (prepared all n u) ≡ is_in n circles
  circle_same n u at low =
      sym (circle_taken all n (prepared all n u) (own.1))
      ∙ (λ j. on_circle (sym (taken_same all) j) (sym (prepared_same (take 128 all) all same_named n u) j))
      ∙ sym (circular n (prepared (take 128 all) n u) (prepared_there (take 128 all) (take 128 all) 0 n u (taken_at 128 all n low ∙ at) ∙ ap (λ m. Some (prepared (take 128 all) m u)) (none_more n)))
    where
      none_more : (n : ℕ) → 0 + n ≡ n
      none_more n = omega arith

      own : ((prepared all n u).number ≡ n) × ((prepared all n u).imports ≡ imports_at (prepare all 0 all) n)
      own = all_numbered all n (prepared all n u) (prepared_there all all 0 n u at ∙ ap (λ m. Some (prepared all m u)) (none_more n))

  judged_fault : (n : ℕ) (u : Placed) (h : Head) → slice_get all n ≡ Some u → IsListed spelled n u h → (judged_head n h).fault ≡ option_map told (fault_before all (prepare all 0 all) (prepared all n u))
  judged_fault n u h at listed =
      kept_fault (slice_get cs n) _ ∙ broken_fault (is_in n circles) fault.ImportCycle _
      ∙ ap (one_more (is_in n circles) fault.ImportCycle) (broken_fault (has_standard (broken_if (is_in n repeated) fault.DefinedTwice h).name) fault.DefinedTwice (broken_if (is_in n repeated) fault.DefinedTwice h))
      ∙ (λ j.
      one_more (is_in n circles) fault.ImportCycle
      (one_more (has_standard (broken_name (is_in n repeated) fault.DefinedTwice h j)) fault.DefinedTwice (broken_fault (is_in n repeated) fault.DefinedTwice h j)))
      ∙ ap (after (is_in n repeated) (has_standard h.name) (is_in n circles)) listed.fault
      ∙ faults n (nat_le 128 n) u.source.forms (is_repeated all (prepared all n u)) (on_circle (prepare all 0 all) (prepared all n u)) (is_in n repeated) (has_standard h.name) (is_in n circles) same
    where
      same : alone n (nat_le 128 n) u.source.forms ≡ None → (is_repeated all (prepared all n u) ≡ (has_standard h.name || is_in n repeated)) × (on_circle (prepare all 0 all) (prepared all n u) ≡ is_in n circles)
      same none =
          let low = not_many n u.source.forms none in (
            twice_same n u at low ∙ ap (λ b. b || is_in n repeated) (sym (ap has_standard (listed.name none) ∙ standard_same spelled is (name_if n u.source))),
            circle_same n u at low,
          )

  judged_imports : (n : ℕ) (u : Placed) (h : Head) → slice_get all n ≡ Some u → h.imports ≡ [] → (importing find (slice_get cs n) h).imports ≡ imports_of (prepared all n u)
  judged_imports n u h at none = go (cases_lt n 128)
    where
      none_more : (n : ℕ) → 0 + n ≡ n
      none_more n = omega arith

      few : n < 128 → nat_le 128 n ≡ false
      few low = grind (arith, nat_tests)

      many : 128 ≤ n → nat_le 128 n ≡ true
      many le = grind (arith, nat_tests)

      go : (n < 128) ⊎ (128 ≤ n) → (importing find (slice_get cs n) h).imports ≡ imports_of (prepared all n u)
      go (inl low) =
          let c = unit_at spelled 0 cs (take 128 all) are n u (taken_at 128 all n low ∙ at) in
          let unit : IsUnit spelled n c.0 u.source = subst (λ m. IsUnit spelled m c.0 u.source) (none_more n) c.1.1 in
          ap (λ (o : Option code.UnitSource). (importing find o h).imports) c.1.0
          ∙ imports_same spelled find (take 128 all) finds c.0.imports (specs_from n 0 (forms_or_none u.source.forms)) unit.imports
          ∙ imported_same (take 128 all) all same_named (specs_from n 0 (forms_or_none u.source.forms))
          ∙ sym (ap (λ (b : Bool). cond b [] (prepared all n u).imports) (few low))
      go (inr le) =
          ap (λ (o : Option code.UnitSource). (importing find o h).imports) (few_units spelled 0 cs (take 128 all) are n (let f = few_taken 128 all in omega arith)) ∙ none
          ∙ sym (ap (λ (b : Bool). cond b [] (prepared all n u).imports) (many le))

  judged_one : (n : ℕ) (u : Placed) (h : Head) → slice_get all n ≡ Some u → IsListed spelled n u h → IsJudged all n u h (judged_head n h)
  judged_one n u h at listed = record {
    name =
        kept_name (slice_get cs n) _ ∙ broken_name (is_in n circles) fault.ImportCycle _
        ∙ broken_name (has_standard (broken_if (is_in n repeated) fault.DefinedTwice h).name) fault.DefinedTwice (broken_if (is_in n repeated) fault.DefinedTwice h) ∙ broken_name (is_in n repeated) fault.DefinedTwice h;
    fault = judged_fault n u h at listed;
    imports =
        judged_imports n u _ at
        (broken_imports (is_in n circles) fault.ImportCycle _
        ∙ broken_imports (has_standard (broken_if (is_in n repeated) fault.DefinedTwice h).name) fault.DefinedTwice (broken_if (is_in n repeated) fault.DefinedTwice h) ∙ broken_imports (is_in n repeated) fault.DefinedTwice h ∙ listed.imports);
  }

  pub judged : (a b c d e : List Head) → AreListed spelled all a → Breaks fault.DefinedTwice repeated a b → BreaksStandard b c → Breaks fault.ImportCycle circles c d → FindsImports find cs d e → AreJudged all a e
  judged a b c d e listed one two three four = record {
    size = four.size ∙ three.size ∙ two.size ∙ one.size;
    each = λ n g at.
        let r4 = four.each n g at in
        let r3 = three.each n r4.0 r4.1.0 in
        let r2 = two.each n r3.0 r3.1.0 in
        let r1 = one.each n r2.0 r2.1.0 in
        let whole : g ≡ judged_head n r1.0 =
        r4.1.1 ∙ ap (importing find (slice_get cs n)) (r3.1.1 ∙ ap (broken_if (is_in n circles) fault.ImportCycle) (r2.1.1 ∙ ap (λ (h : Head). broken_if (has_standard h.name) fault.DefinedTwice h) r1.1.1)) in
        (r1.0, (r1.1.0, λ u here. subst (IsJudged all n u r1.0) (sym whole) (judged_one n u r1.0 here (listed.each n u r1.0 here r1.1.0))));
  }

-- ---- the sources that are put in order

given_told : (o : Option model.WholeFault) (g : Head) (c : code.UnitSource) → g.fault ≡ option_map told o → without_if (Some g) c ≡ code_given o c
given_told None g c e = ap (λ (f : Option WholeFault). cond (std.is_some f) (record c { imports = [] }) c) e
given_told (Some f) g c e = ap (λ (f : Option WholeFault). cond (std.is_some f) (record c { imports = [] }) c) e

get : {A : Type 0} (xs : List A) (n : ℕ) → n < length xs → (x : A) × (slice_get xs n ≡ Some x)
get [] n lt = absurd (omega arith)
get (x ∷ xs) zero lt = (x, refl)
get (x ∷ xs) (suc n) lt = get xs n (omega arith)

taken_length : {A : Type 0} (m : ℕ) (xs ys : List A) → length xs ≡ length ys → length (take m xs) ≡ length (take m ys)
taken_length zero xs ys e = refl
taken_length (suc m) [] [] e = refl
taken_length (suc m) [] (y ∷ ys) e = absurd (omega arith)
taken_length (suc m) (x ∷ xs) [] e = absurd (omega arith)
taken_length (suc m) (x ∷ xs) (y ∷ ys) e = ap suc (taken_length m xs ys (omega arith))

pub units_handed : (spelled : LibraryName → List ℕ) (all : List Placed) (a e : List Head) (old new : List code.UnitSource) → AreUnits spelled (take 128 old) (take 128 all) → AreJudged all a e → length old ≡ length a → Forgets e old new →
    AreUnits spelled (take 128 new) (handed all)
units_handed spelled all a e old new are judged same forgets =
    units_given spelled all 0 (take 128 old) (take 128 new) (take 128 all) (taken_length 128 new old forgets.size) one are
  where
    none_more : (i : ℕ) → 0 + i ≡ i
    none_more i = omega arith

    one : (i : ℕ) (d : code.UnitSource) → slice_get (take 128 new) i ≡ Some d → (c : code.UnitSource) (u : Placed) → slice_get (take 128 old) i ≡ Some c → slice_get (take 128 all) i ≡ Some u →
        d ≡ code_given (fault_before all (prepare all 0 all) (prepared all (0 + i) u)) c
    one i d at c u there here =
        let few = few_taken 128 new in
        let within = slice_get_within (take 128 new) i d at in
        let low : i < 128 = omega arith in
        let now : slice_get new i ≡ Some d = sym (taken_at 128 new i low) ∙ at in
        let unit : slice_get all i ≡ Some u = sym (taken_at 128 all i low) ∙ here in
        let r = forgets.each i d now in
        let was : r.0 ≡ c = same_Some r.0 c (sym r.1.0 ∙ sym (taken_at 128 old i low) ∙ there) in
        let inside = slice_get_within new i d now in
        let count = forgets.size in
        let size = judged.size in
        let g = get e i (omega arith) in
        let j = judged.each i g.0 g.1 in
        r.1.1 ∙ ap (λ (o : Option Head). without_if o r.0) g.1 ∙ given_told (fault_before all (prepare all 0 all) (prepared all i u)) g.0 r.0 (j.1.1 u unit).fault
        ∙ ap (code_given (fault_before all (prepare all 0 all) (prepared all i u))) was ∙ ap (λ n. code_given (fault_before all (prepare all 0 all) (prepared all n u)) c) (sym (none_more i))

pub on_ok : {A E : Type 0} (r : Result A E) (P : Type 0) → P → OnOk r P
on_ok (Ok a) P h = h
on_ok (Err e) P h = tt

pub in_turns : {E : Type 0} (all : List Placed) (r : Result (List ℕ) E) → IfOk r (AreInTurn (handed all)) → IfOk r (λ places. places ≡ turns all)
in_turns all (Ok places) h = h.turns ∙ turns_handed all
in_turns all (Err e) h = tt
