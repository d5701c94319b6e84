-- The units of programs are told apart: of those that aren't broken no two are of one document, kind and name, and units behind the most
-- are broken.
use Rattle.std.proofs.Common.{◌≡◌, inl, inr, ℕ, zero, suc, ◌+◌, ◌≤◌, ◌<◌, List, [], ◌∷◌, ◌++◌, map, filter, length, Bool, true, false, cond, Option, Some, None, Result, Ok, Err, refl, sym, ap, ◌∙◌, subst, arith, le-leb}
use Rattle.std.specs.Prelude.{not, ◌==◌, nat_le, nat_lt, if◌then◌else◌}
use Rattle.std.proofs.lemmas.Bool.{eqb-true}
use Rattle.std.proofs.lemmas.Bool.Decides.{nat_tests}
use Rattle.std.proofs.lemmas.Option.{same_Some}
use Rattle.std.proofs.lemmas.List.{length-map}
use Rattle.scheme_model.specs.Data.{Datum, Data, none, part, tail, Place, place_of}
use Rattle.scheme_model.specs.Requirements.{LibraryName, Known}
use Rattle.scheme_model.specs.Order.{is_some}
use Rattle.scheme_model.specs.Substitution.{Table}
use Rattle.scheme_model.specs.StandardLibraries.{standard}
use Rattle.scheme_model.specs.UnitExpansion.{Formed}
use Rattle.scheme_model.specs.Entries.{Entry}
use Rattle.scheme_model.specs.Declarations.{UnitForm, UnitKind, IsLibrary, IsProgram, IsPart, behind_head, library_name_in, library_name, is_library}
use Rattle.scheme_model.specs.Includes.{Document, data_of, Naming, naming, is_on_circle, is_part, program_data, max_units}
use Rattle.scheme_model.specs.Included.{Homed, Listing, Lists, BadAfter, TooLong, Texts, forms_of, declarations, all_texts}
use Rattle.scheme_model.specs.IncludedUnits.{EarlyFault, OnCircle, BadAt, UnitSource, Placed, source_by, unless_circular, own, if_named, library_listing, library_of, libraries_in, importing, part_of, program_in, units_in, units_from, max_tokens, sources_within}
use Rattle.scheme_model.specs.Program.{units_of, known_in, Prepared, prepared, prepare, name_if, unit_named, is_repeated, on_circle, WholeFault, TooMany, DefinedTwice, ImportCycle, declared_fault, fault_before, SetResult, UnitResult, result_at, unit_result, is_ready, first_ready}
use Rattle.scheme_model.specs.ScopedProgram.{ScopedProgress, scoped_by_fault, scoped_worked, scoped_work, scoped_before}
use Rattle.carried_forms.specs.Paired.{UnitText, is_same_unit, IsAlone, AreTold, AreWithin}
use Rattle.carried_forms.specs.Worked.{OpenDocument, IsElsewhere, AreOpenOnce, read_documents, uri_at, is_of_library, is_broken, unit_text, unit_texts}
use Rattle.carried_forms.specs.Carried.{IsIn}
use Rattle.carried_forms.proofs.UnitLaws.{SameKey, key_told}

no : {X : Type 0} → false ≡ true → X
no e = absurd cc

-- ---- units by their numbers

abbrev Ordered : ℕ → List Prepared → Type 0
Ordered k [] = Unit {0}
Ordered k (p ∷ ps) = (p.number ≡ k) × Ordered (suc k) ps

in_order_of : (all : List Placed) (k : ℕ) (us : List Placed) → Ordered k (prepare all k us)
in_order_of all k [] = tt
in_order_of all k (u ∷ us) = (refl, in_order_of all (suc k) us)

least_of : (k : ℕ) (ps : List Prepared) → Ordered k ps → (p : Prepared) → IsIn p ps → k ≤ p.number
least_of k [] o p h = absurd h
least_of k (q ∷ ps) o p (inl e) = let m = o.0 in let n = ap (λ (x : Prepared). x.number) e in omega (arith, m, n)
least_of k (q ∷ ps) o p (inr h) = let l = least_of (suc k) ps o.1 p h in omega (arith, l)

by_number : (k : ℕ) (ps : List Prepared) → Ordered k ps → (p q : Prepared) → IsIn p ps → IsIn q ps → p.number ≡ q.number → p ≡ q
by_number k [] o p q h j e = absurd h
by_number k (x ∷ ps) o p q (inl a) (inl b) e = a ∙ sym b
by_number k (x ∷ ps) o p q (inl a) (inr j) e = let m = o.0 in let n = ap (λ (y : Prepared). y.number) a in let l = least_of (suc k) ps o.1 q j in absurd (omega (arith, m, n, l, e))
by_number k (x ∷ ps) o p q (inr h) (inl b) e = let m = o.0 in let n = ap (λ (y : Prepared). y.number) b in let l = least_of (suc k) ps o.1 p h in absurd (omega (arith, m, n, l, e))
by_number k (x ∷ ps) o p q (inr h) (inr j) e = by_number (suc k) ps o.1 p q h j e

abbrev OrIn : Option Prepared → List Prepared → Type 0
OrIn None ps = Unit {0}
OrIn (Some p) ps = IsIn p ps

wider : (o : Option Prepared) (q : Prepared) (ps : List Prepared) → OrIn o ps → OrIn o (q ∷ ps)
wider None q ps h = tt
wider (Some p) q ps h = inr h

first_in : (f : Prepared → Bool) (ps : List Prepared) → OrIn (first_ready f ps) ps
first_in f [] = tt
first_in f (q ∷ ps) = go (f q) (wider (first_ready f ps) q ps (first_in f ps))
  where
    go : (t : Bool) → OrIn (first_ready f ps) (q ∷ ps) → OrIn (cond t (Some q) (first_ready f ps)) (q ∷ ps)
    go true h = inl refl
    go false h = h

-- ---- results: a unit that isn't broken had no fault before

module _ (all : List Placed) (ps : List Prepared) (known : Known) where
  abbrev Told : UnitResult → Type 0
  Told r = IsIn r.unit ps × (is_some r.fault ≡ false → fault_before all ps r.unit ≡ None)

  abbrev AllTold : List UnitResult → Type 0
  AllTold [] = Unit {0}
  AllTold (r ∷ rs) = Told r × AllTold rs

  result_told : (p : Prepared) → IsIn p ps → fault_before all ps p ≡ None → (i : List Entry × List SetResult) (t : Table) (fs : Option (List Formed)) → Told (unit_result p i t fs)
  result_told p h e i t None = (h, λ k. e)
  result_told p h e i t (Some fs) = (h, λ k. e)

  by_fault : (p : Prepared) → IsIn p ps → (g : ScopedProgress) → AllTold g.results → (f : Option WholeFault) → fault_before all ps p ≡ f → AllTold (scoped_by_fault all known p f g).results
  by_fault p h g k (Some f) e = ((h, λ n. no (sym n)), k)
  by_fault p h g k None e = (result_told p h e _ _ _, k)

  next_told : (o : Option Prepared) → OrIn o ps → (g : ScopedProgress) → AllTold g.results → AllTold (scoped_worked all ps known o g).results
  next_told None h g k = k
  next_told (Some p) h g k = by_fault p h g k (fault_before all ps p) refl

  work_told : (n : ℕ) (g : ScopedProgress) → AllTold g.results → AllTold (scoped_work all ps known n g).results
  work_told zero g k = k
  work_told (suc n) g k =
      let o = first_ready (is_ready all ps g.results) ps in
      work_told n (scoped_worked all ps known o g) (next_told o (first_in (is_ready all ps g.results) ps) g k)

  abbrev Clear : ℕ → Type 0
  Clear n = (p : Prepared) × IsIn p ps × (p.number ≡ n) × (fault_before all ps p ≡ None)

  unbroken : (rs : List UnitResult) → AllTold rs → (n : ℕ) → is_broken (result_at rs n) ≡ false → Clear n
  unbroken [] h n e = no (sym e)
  unbroken (r ∷ rs) h n e = go (r.unit.number == n) refl (unbroken rs h.1 n) e
    where
      go : (t : Bool) → (r.unit.number == n) ≡ t → (is_broken (result_at rs n) ≡ false → Clear n) → is_broken (cond t (Some r) (result_at rs n)) ≡ false → Clear n
      go true i rest k = (r.unit, h.0.0, eqb-true r.unit.number n i, h.0.1 k)
      go false i rest k = rest k

-- ---- units that had no fault before

unless_many : (b : Bool) (x : Option WholeFault) → cond b (Some TooMany) x ≡ None → (b ≡ false) × (x ≡ None)
unless_many true x e = no (sym (ap is_some e))
unless_many false x e = (refl, e)

unless_bad : (u : ℕ) (r : Result (List UnitForm) EarlyFault) (x : Option WholeFault) → declared_fault u r x ≡ None → ((f : EarlyFault) → r ≡ Err f → ⊥) × (x ≡ None)
unless_bad u (Ok fs) x e = (λ f k. absurd cc, e)
unless_bad u (Err f) x e = no (sym (ap is_some e))

unless_twice : (b : Bool) (x : Option WholeFault) → cond b (Some DefinedTwice) x ≡ None → b ≡ false
unless_twice true x e = no (sym (ap is_some e))
unless_twice false x e = refl

record Clean (all : List Placed) (p : Prepared) : Type 0 where
  few : nat_le max_units p.number ≡ false
  declared : (f : EarlyFault) → p.placed.source.forms ≡ Err f → ⊥
  once : is_repeated all p ≡ false

clean_of : (all : List Placed) (ps : List Prepared) (p : Prepared) → fault_before all ps p ≡ None → Clean all p
clean_of all ps p e =
    let rest = cond (is_repeated all p) (Some DefinedTwice) (cond (on_circle ps p) (Some ImportCycle) None) in
    let a = unless_many (nat_le max_units p.number) (declared_fault p.number p.placed.source.forms rest) e in
    let b = unless_bad p.number p.placed.source.forms rest a.1 in
    record { few = a.0; declared = b.0; once = unless_twice (is_repeated all p) (cond (on_circle ps p) (Some ImportCycle) None) b.1 }

-- ---- names

first_of_name : (all : List Placed) (p : Prepared) (m : LibraryName) → name_if p.number p.placed.source ≡ Some m → is_repeated all p ≡ false → unit_named m 0 all ≡ Some p.number
first_of_name all p m e h = go (is_some (standard m)) refl (unit_named m 0 all) refl
  where
    by : (n : ℕ) (t : Bool) → (n == p.number) ≡ t → not t ≡ false → n ≡ p.number
    by n true i k = eqb-true n p.number i
    by n false i k = no (sym k)

    go : (b : Bool) → is_some (standard m) ≡ b → (o : Option ℕ) → unit_named m 0 all ≡ o → unit_named m 0 all ≡ Some p.number
    go true s o q = let t : is_repeated all p ≡ true = rw (e, s) refl in no (sym h ∙ t)
    go false s None q = let t : is_repeated all p ≡ true = rw (e, s, q) refl in no (sym h ∙ t)
    go false s (Some n) q = let t : is_repeated all p ≡ not (n == p.number) = rw (e, s, q) refl in q ∙ ap (λ (x : ℕ). Some x) (by n (n == p.number) refl (sym t ∙ h))

below_most : (n : ℕ) → nat_le max_units n ≡ false → nat_lt n max_units ≡ true
below_most n e = grind (arith, nat_tests)

named_if : (p : Prepared) (m : LibraryName) → nat_le max_units p.number ≡ false → ((f : EarlyFault) → p.placed.source.forms ≡ Err f → ⊥) → p.placed.source.name ≡ Some m → name_if p.number p.placed.source ≡ Some m
named_if p m few declared e = go p.placed.source.forms refl
  where
    go : (r : Result (List UnitForm) EarlyFault) → p.placed.source.forms ≡ r → name_if p.number p.placed.source ≡ Some m
    go (Ok fs) f = let l = below_most p.number few in rw (l, f, e) refl
    go (Err d) f = absurd (declared d f)

-- ---- the units of documents

abbrev EachOf : {X : Type 0} → (X → Type 0) → List X → Type 0
EachOf P [] = Unit {0}
EachOf P (x ∷ xs) = P x × EachOf P xs

each_joined : {X : Type 0} (P : X → Type 0) (xs ys : List X) → EachOf P xs → EachOf P ys → EachOf P (xs ++ ys)
each_joined P [] ys h k = k
each_joined P (x ∷ xs) ys h k = (h.0, each_joined P xs ys h.1 k)

each_on : {X : Type 0} (P Q : X → Type 0) → ((x : X) → P x → Q x) → (xs : List X) → EachOf P xs → EachOf Q xs
each_on P Q f [] h = tt
each_on P Q f (x ∷ xs) h = (f x h.0, each_on P Q f xs h.1)

each_mapped : {X Y : Type 0} (P : Y → Type 0) (f : X → Y) (xs : List X) → EachOf (λ x. P (f x)) xs → EachOf P (map f xs)
each_mapped P f [] h = tt
each_mapped P f (x ∷ xs) h = (h.0, each_mapped P f xs h.1)

-- a library without a name has no forms
abbrev IsNamed : UnitSource → Type 0
IsNamed u = u.kind ≡ IsLibrary → u.name ≡ None → (f : EarlyFault) × (u.forms ≡ Err f)

abbrev IsOfLibrary : UnitSource → Type 0
IsOfLibrary u = is_of_library u.kind ≡ true

-- programs of two documents, or not both programs
abbrev Differ : Placed → Placed → Type 0
Differ u v = is_of_library u.source.kind ≡ false → is_of_library v.source.kind ≡ false → u.document ≡ v.document → ⊥

abbrev AllDiffer : List Placed → Type 0
AllDiffer [] = Unit {0}
AllDiffer (u ∷ us) = EachOf (Differ u) us × AllDiffer us

source_kind : (k : UnitKind) (m : Option LibraryName) (at : Place) (l : Listing) → (source_by k m at l).kind ≡ k
source_kind k m at (Lists n fs ls) = refl
source_kind k m at (BadAfter n h) = refl
source_kind k m at TooLong = refl

source_name : (k : UnitKind) (m : Option LibraryName) (at : Place) (l : Listing) → (source_by k m at l).name ≡ m
source_name k m at (Lists n fs ls) = refl
source_name k m at (BadAfter n h) = refl
source_name k m at TooLong = refl

circular_kind : (c : Bool) (u : UnitSource) → (unless_circular c u).kind ≡ u.kind
circular_kind true u = refl
circular_kind false u = refl

circular_named : (c : Bool) (u : UnitSource) → IsNamed u → IsNamed (unless_circular c u)
circular_named true u h = λ k e. (OnCircle, refl)
circular_named false u h = h

abbrev placed_at : ℕ → UnitSource → Placed
placed_at n u = record { document = n; source = u }

every : {X : Type 0} (P : X → Type 0) → ((x : X) → P x) → (xs : List X) → EachOf P xs
every P f [] = tt
every P f (x ∷ xs) = (f x, every P f xs)

module _ (t : Texts) (known : Known) where
  library_named : (document : ℕ) (d : Datum) → IsNamed (library_of t known document d)
  library_named document d = go (behind_head d)
    where
      go : (ds : Data) → IsNamed (source_by IsLibrary (library_name_in ds) (place_of d) (library_listing t known (own document d) ds))
      go none = λ k e. (BadAt (own document d), refl)
      go (tail x) = λ k e. (BadAt (own document d), refl)
      go (part n ds) = λ k e.
          let l = declarations t known (own document d) d ds in
          let m = library_name_in (part n ds) in
          let nameless = sym (source_name IsLibrary m (place_of d) (if_named (own document d) m l)) ∙ e in
          (BadAt (own document d), ap (λ (o : Option LibraryName). (source_by IsLibrary m (place_of d) (if_named (own document d) o l)).forms) nameless)

  libraries_named : (document : ℕ) (ds : List Datum) → EachOf (λ (u : UnitSource). IsNamed u × IsOfLibrary u) (libraries_in t known document ds)
  libraries_named document [] = tt
  libraries_named document (d ∷ ds) = go (is_library d) (libraries_named document ds)
    where
      go : (b : Bool) → EachOf (λ (u : UnitSource). IsNamed u × IsOfLibrary u) (libraries_in t known document ds)
          → EachOf (λ (u : UnitSource). IsNamed u × IsOfLibrary u) (cond b (library_of t known document d ∷ libraries_in t known document ds) (libraries_in t known document ds))
      go true h = ((library_named document d, ap is_of_library (source_kind IsLibrary (library_name d) (place_of d) (library_listing t known (own document d) (behind_head d)))), h)
      go false h = h

  program_named : (document : ℕ) (b : Bool) (ds : List Datum) → EachOf IsNamed (program_in t document b ds)
  program_named document b [] = tt
  program_named document true (d ∷ ds) = (λ k e. absurd cc, tt)
  program_named document false (d ∷ ds) =
      (λ k e. let differ = sym (source_kind IsProgram None (place_of d) (importing (forms_of t (map (own document) (d ∷ ds))))) ∙ k in absurd cc, tt)

  units_named : (all : Naming) (document : ℕ) (ds : List Datum) → EachOf IsNamed (units_in t known all document ds)
  units_named all document ds =
      let c = is_on_circle all document in
      let us = libraries_in t known document ds in
      let ps = program_in t document (is_part all document) (program_data ds) in
      each_mapped IsNamed (unless_circular c) (us ++ ps)
      (each_on IsNamed (λ u. IsNamed (unless_circular c u)) (λ u h. circular_named c u h) (us ++ ps)
      (each_joined IsNamed us ps (each_on (λ (u : UnitSource). IsNamed u × IsOfLibrary u) IsNamed (λ u h. h.0) us (libraries_named document ds)) (program_named document (is_part all document) (program_data ds))))

  -- a document's libraries differ from all
  libraries_differ : (c : Bool) (n : ℕ) (us ws : List UnitSource) (vs : List Placed) → EachOf (λ (u : UnitSource). IsNamed u × IsOfLibrary u) us
      → AllDiffer (map (placed_at n) (map (unless_circular c) ws) ++ vs) → AllDiffer (map (placed_at n) (map (unless_circular c) (us ++ ws)) ++ vs)
  libraries_differ c n [] ws vs h k = k
  libraries_differ c n (u ∷ us) ws vs h k =
      let library = ap is_of_library (circular_kind c u) ∙ h.0.1 in
      (every (Differ (placed_at n (unless_circular c u))) (λ w i j e. no (sym i ∙ library)) (map (placed_at n) (map (unless_circular c) (us ++ ws)) ++ vs), libraries_differ c n us ws vs h.1 k)

  abbrev program_of : (b : Bool) (document : ℕ) → Datum → List Datum → UnitSource
  program_of b document d ds = if b then part_of (place_of d) (d ∷ ds) else source_by IsProgram None (place_of d) (importing (forms_of t (map (own document) (d ∷ ds))))

  -- its program differs from the units of later documents
  program_differs : (c b : Bool) (n : ℕ) (ds : List Datum) (vs : List Placed) → AllDiffer vs → EachOf (λ (v : Placed). suc n ≤ v.document) vs
      → AllDiffer (map (placed_at n) (map (unless_circular c) (program_in t n b ds)) ++ vs)
  program_differs c b n [] vs k l = k
  program_differs c b n (d ∷ ds) vs k l = (each_on (λ (v : Placed). suc n ≤ v.document) (Differ (placed_at n (unless_circular c (program_of b n d ds)))) (λ v m i j e. omega (arith, m, e)) vs l, k)

  module _ (all : Naming) where
    later_documents : (n : ℕ) (ds : List Document) → EachOf (λ (v : Placed). n ≤ v.document) (units_from t known all n ds)
    later_documents n [] = tt
    later_documents n (d ∷ ds) =
        let us = units_in t known all n (data_of d) in
        each_joined (λ (v : Placed). n ≤ v.document) (map (placed_at n) us) (units_from t known all (suc n) ds)
        (each_mapped (λ (v : Placed). n ≤ v.document) (placed_at n) us (every (λ u. n ≤ n) (λ u. omega arith) us))
        (each_on (λ (v : Placed). suc n ≤ v.document) (λ (v : Placed). n ≤ v.document) (λ v l. omega (arith, l)) (units_from t known all (suc n) ds) (later_documents (suc n) ds))

    documents_below : (n m : ℕ) (ds : List Document) → n + length ds ≤ m → EachOf (λ (v : Placed). v.document < m) (units_from t known all n ds)
    documents_below n m [] l = tt
    documents_below n m (d ∷ ds) l =
        let us = units_in t known all n (data_of d) in
        each_joined (λ (v : Placed). v.document < m) (map (placed_at n) us) (units_from t known all (suc n) ds)
        (each_mapped (λ (v : Placed). v.document < m) (placed_at n) us (every (λ u. n < m) (λ u. omega (arith, l)) us))
        (documents_below (suc n) m ds (omega (arith, l)))

    all_named : (n : ℕ) (ds : List Document) → EachOf (λ (v : Placed). IsNamed v.source) (units_from t known all n ds)
    all_named n [] = tt
    all_named n (d ∷ ds) =
        let us = units_in t known all n (data_of d) in
        each_joined (λ (v : Placed). IsNamed v.source) (map (placed_at n) us) (units_from t known all (suc n) ds)
        (each_mapped (λ (v : Placed). IsNamed v.source) (placed_at n) us (units_named all n (data_of d))) (all_named (suc n) ds)

    all_differ : (n : ℕ) (ds : List Document) → AllDiffer (units_from t known all n ds)
    all_differ n [] = tt
    all_differ n (d ∷ ds) =
        let rest = units_from t known all (suc n) ds in
        let c = is_on_circle all n in
        libraries_differ c n (libraries_in t known n (data_of d)) (program_in t n (is_part all n) (program_data (data_of d))) rest (libraries_named n (data_of d))
        (program_differs c (is_part all n) n (program_data (data_of d)) rest (all_differ (suc n) ds) (later_documents (suc n) ds))

-- ---- documents by their uris

found_elsewhere : (uri : List ℕ) (ds : List OpenDocument) → IsElsewhere uri ds → (n : ℕ) → n < length ds → uri ≡ uri_at ds n → ⊥
found_elsewhere uri [] h n l e = omega (arith, l)
found_elsewhere uri (d ∷ ds) h zero l e = h.0 e
found_elsewhere uri (d ∷ ds) h (suc n) l e = found_elsewhere uri ds h.1 n (omega (arith, l)) e

by_uri : (ds : List OpenDocument) → AreOpenOnce ds → (m n : ℕ) → m < length ds → n < length ds → uri_at ds m ≡ uri_at ds n → m ≡ n
by_uri [] h m n k l e = absurd (omega (arith, k))
by_uri (d ∷ ds) h zero zero k l e = refl
by_uri (d ∷ ds) h zero (suc n) k l e = absurd (found_elsewhere d.uri ds h.0 n (omega (arith, l)) e)
by_uri (d ∷ ds) h (suc m) zero k l e = absurd (found_elsewhere d.uri ds h.0 m (omega (arith, k)) (sym e))
by_uri (d ∷ ds) h (suc m) (suc n) k l e = ap suc (by_uri ds h.1 m n (omega (arith, k)) (omega (arith, l)) e)

-- ---- programs

module _ (ds : List OpenDocument) where
  abbrev docs : List Document
  docs = read_documents ds

  abbrev all : List Placed
  all = units_of docs

  abbrev ps : List Prepared
  ps = prepare all 0 all

  abbrev rs : List UnitResult
  rs = (scoped_work all ps (known_in docs) (length ps) scoped_before).results

  -- a unit that isn't broken had no fault before its forms were worked on
  pub no_fault : (p : Prepared) → IsIn p ps → is_broken (result_at rs p.number) ≡ false → fault_before all ps p ≡ None
  no_fault p h e =
      let c = unbroken all ps (known_in docs) rs (work_told all ps (known_in docs) (length ps) scoped_before tt) p.number e in
      subst (λ (x : Prepared). fault_before all ps x ≡ None) (by_number 0 ps (in_order_of all 0 all) c.0 p c.1 h c.2) c.3

-- by which units are said to be broken, where none of the others had a fault before
module _ (ds : List OpenDocument) (once : AreOpenOnce ds) (broken : Prepared → Bool) (clear : (p : Prepared) → IsIn p (ps ds) → broken p ≡ false → fault_before (all ds) (ps ds) p ≡ None) where
  abbrev text : Prepared → UnitText
  text p = record (unit_text ds (rs ds) p) { broken = broken p }

  fine : (p : Prepared) → IsIn p (ps ds) → broken p ≡ false → Clean (all ds) p
  fine p h e = clean_of (all ds) (ps ds) p (clear p h e)

  behind : (p : Prepared) → IsIn p (ps ds) → max_units ≤ p.number → broken p ≡ true
  behind p h l = go (broken p) refl
    where
      go : (t : Bool) → broken p ≡ t → broken p ≡ true
      go true e = e
      go false e = no (sym (fine p h e).few ∙ le-leb max_units p.number l)

  within_from : (k : ℕ) (us : List Placed) → ((p : Prepared) → IsIn p (prepare (all ds) k us) → IsIn p (ps ds)) → AreWithin k (map text (prepare (all ds) k us))
  within_from k [] sub = tt
  within_from k (u ∷ us) sub = (λ l. behind (prepared (all ds) k u) (sub (prepared (all ds) k u) (inl refl)) l, within_from (suc k) us (λ p h. sub p (inr h)))

  abbrev Known_of : Placed → Type 0
  Known_of u = IsNamed u.source × (u.document < length ds)

  clash : (p q : Prepared) → IsIn p (ps ds) → IsIn q (ps ds) → p.number < q.number → Known_of p.placed → Known_of q.placed → Differ p.placed q.placed → SameKey (text p) (text q) → ⊥
  clash p q hp hq l np nq differ k = go p.placed.source.kind refl
    where
      fp : Clean (all ds) p
      fp = fine p hp k.here

      fq : Clean (all ds) q
      fq = fine q hq k.there

      named : p.placed.source.kind ≡ IsLibrary → (o : Option LibraryName) → p.placed.source.name ≡ o → ⊥
      named e None f = let bad = np.0 e f in fp.declared bad.0 bad.1
      named e (Some m) f =
          let first = first_of_name (all ds) p m (named_if p m fp.few fp.declared f) fp.once in
          let second = first_of_name (all ds) q m (named_if q m fq.few fq.declared (sym k.name ∙ f)) fq.once in
          let same = same_Some p.number q.number (sym first ∙ second) in
          omega (arith, same, l)

      programs : is_of_library p.placed.source.kind ≡ false → ⊥
      programs e = differ e (sym k.kind ∙ e) (by_uri ds once p.placed.document q.placed.document np.1 nq.1 k.uri)

      go : (t : UnitKind) → p.placed.source.kind ≡ t → ⊥
      go IsLibrary e = named e p.placed.source.name refl
      go IsProgram e = programs (ap is_of_library e)
      go IsPart e = programs (ap is_of_library e)

  apart_by : (p q : Prepared) → (SameKey (text p) (text q) → ⊥) → is_same_unit (text p) (text q) ≡ false
  apart_by p q f = go (is_same_unit (text p) (text q)) refl
    where
      go : (t : Bool) → is_same_unit (text p) (text q) ≡ t → is_same_unit (text p) (text q) ≡ false
      go true e = absurd (f (key_told (text p) (text q) e))
      go false e = e

  alone_from : (p : Prepared) → IsIn p (ps ds) → Known_of p.placed → (k : ℕ) (us : List Placed) → p.number < k → ((q : Prepared) → IsIn q (prepare (all ds) k us) → IsIn q (ps ds)) → EachOf Known_of us → EachOf (Differ p.placed) us →
      IsAlone (text p) (map text (prepare (all ds) k us))
  alone_from p h np k [] l sub each differ = tt
  alone_from p h np k (u ∷ us) l sub each differ = (
    apart_by p (prepared (all ds) k u) (clash p (prepared (all ds) k u) h (sub (prepared (all ds) k u) (inl refl)) l np each.0 differ.0),
    alone_from p h np (suc k) us (omega (arith, l)) (λ q i. sub q (inr i)) each.1 differ.1,
  )

  told_from : (k : ℕ) (us : List Placed) → ((q : Prepared) → IsIn q (prepare (all ds) k us) → IsIn q (ps ds)) → EachOf Known_of us → AllDiffer us → AreTold (map text (prepare (all ds) k us))
  told_from k [] sub each differ = tt
  told_from k (u ∷ us) sub each differ = (
    alone_from (prepared (all ds) k u) (sub (prepared (all ds) k u) (inl refl)) each.0 (suc k) us (omega arith) (λ q i. sub q (inr i)) each.1 differ.0,
    told_from (suc k) us (λ q i. sub q (inr i)) each.1 differ.1,
  )

  both_known : (us : List Placed) → EachOf (λ (v : Placed). IsNamed v.source) us → EachOf (λ (v : Placed). v.document < length ds) us → EachOf Known_of us
  both_known [] h k = tt
  both_known (u ∷ us) h k = ((h.0, k.0), both_known us h.1 k.1)

  pub texts_within : AreWithin 0 (map text (ps ds))
  texts_within = within_from 0 (all ds) (λ p h. h)

  pub texts_told : AreTold (map text (ps ds))
  texts_told =
      let texts = all_texts (sources_within max_tokens (naming (docs ds)) (known_in (docs ds)) (docs ds)) in
      told_from 0 (all ds) (λ p h. h)
      (both_known (all ds) (all_named texts (known_in (docs ds)) (naming (docs ds)) 0 (docs ds))
      (documents_below texts (known_in (docs ds)) (naming (docs ds)) 0 (length ds) (docs ds) (let l = length-map ds (λ (d : OpenDocument). d.data_in) in omega (arith, l))))
      (all_differ texts (known_in (docs ds)) (naming (docs ds)) 0 (docs ds))

module _ (ds : List OpenDocument) (once : AreOpenOnce ds) where
  abbrev broken_here : Prepared → Bool
  broken_here p = is_broken (result_at (rs ds) p.number)

  pub programs_within : AreWithin 0 (unit_texts ds)
  programs_within = texts_within ds once broken_here (no_fault ds)

  pub programs_told : AreTold (unit_texts ds)
  programs_told = texts_told ds once broken_here (no_fault ds)
