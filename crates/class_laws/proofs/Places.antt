-- The places that spell what units import and export: each is where a unit that isn't broken as a whole defines something, or renames
-- what it imports or exports.
use Rattle.std.proofs.Common.{◌≡◌, inl, inr, ℕ, ◌<◌, List, [], ◌∷◌, Bool, true, false, cond, Option, Some, None, refl, sym, ap, ◌∙◌, subst, arith}
use Rattle.std.specs.Prelude.{◌==◌, ◌&&◌}
use Rattle.std.specs.List.{flat_map}
use Rattle.std.proofs.lemmas.Bool.{eq-eqb}
use Rattle.std.proofs.lemmas.Bool.Decides.{nat_tests}
use Rattle.std.proofs.lemmas.Option.{same_Some}
use Rattle.scheme_model.specs.declared.Occ.{Occ}
use Rattle.scheme_model.specs.Ident.{Ident, Written, same_ident}
use Rattle.scheme_model.specs.ExpansionFaults.{Named}
use Rattle.scheme_model.specs.Order.{is_some}
use Rattle.scheme_model.specs.Entries.{Entry}
use Rattle.scheme_model.specs.Substitution.{Table, Defined, defined_in}
use Rattle.scheme_model.specs.UnitExpansion.{Formed}
use Rattle.scheme_model.specs.IncludedUnits.{Placed}
use Rattle.scheme_model.specs.Program.{Prepared, WholeFault, ImportSpec, ExportSpec, SetResult, UnitResult, result_at, names_of_unit, broken_result, unit_result, unit_entries}
use Rattle.scheme_model.specs.ProgramArrows.{places_at}
use Rattle.scheme_model.specs.Spelling.{second_names, second_places}
use Rattle.model_laws.proofs.FrameAsks.{AllOf}
use Rattle.program_leaves.specs.Members.{IsIn}
use Rattle.program_leaves.proofs.MemberLaws.{in_left, in_right}
use Rattle.class_laws.proofs.EntryOrigins.{OccHas, EntriesHave, SpecHas, OuterHas, DefinedHas, UnitsExport, entries_more, names_have, exports_have, unit_entries_have}

-- ---- lists and tests

none_some : {A P : Type 0} (x : A) → None ≡ Some x → P
none_some x h = absurd cc

equal : (a b : ℕ) → (a == b) ≡ true → a ≡ b
equal a b h = grind (arith, nat_tests)

itself : (a : ℕ) → (a == a) ≡ true
itself a = eq-eqb a a refl

pub all_from : {X : Type 0} (P : X → Type 0) (xs : List X) → ((x : X) → IsIn x xs → P x) → AllOf P xs
all_from P [] h = tt
all_from P (x ∷ xs) h = (h x (inl refl), all_from P xs (λ y i. h y (inr i)))

-- ---- definitions that are found

pub record Found (table : Table) (u : ℕ) (d : Defined) : Type 0 where
  pub among : IsIn d table
  pub unit : d.unit ≡ u

pub defined_found : (table : Table) (u : ℕ) (i : Ident) (d : Defined) → defined_in table u i ≡ Some d → Found table u d
defined_found [] u i d h = none_some d h
defined_found (x ∷ table) u i d h = go (defined_found table u i d) (x.unit == u) refl (same_ident x.ident i) h
  where
    go : (defined_in table u i ≡ Some d → Found table u d) → (a : Bool) → (x.unit == u) ≡ a → (b : Bool) → cond (a && b) (Some x) (defined_in table u i) ≡ Some d → Found (x ∷ table) u d
    go more true e true k = let same = same_Some x d k in record { among = inl same; unit = ap (λ (y : Defined). y.unit) (sym same) ∙ equal x.unit u e }
    go more true e false k = let f = more k in record { among = inr f.among; unit = f.unit }
    go more false e b k = let f = more k in record { among = inr f.among; unit = f.unit }

-- ---- results by their numbers

pub found_number : (rs : List UnitResult) (m : ℕ) (r : UnitResult) → result_at rs m ≡ Some r → r.unit.number ≡ m
found_number [] m r h = none_some r h
found_number (x ∷ rs) m r h = go (λ k. found_number rs m r k) (x.unit.number == m) refl h
  where
    go : (result_at rs m ≡ Some r → r.unit.number ≡ m) → (b : Bool) → (x.unit.number == m) ≡ b → cond b (Some x) (result_at rs m) ≡ Some r → r.unit.number ≡ m
    go rest true e k = ap (λ (q : UnitResult). q.unit.number) (sym (same_Some x r k)) ∙ equal x.unit.number m e
    go rest false e k = rest k

pub found_among : (rs : List UnitResult) (m : ℕ) (r : UnitResult) → result_at rs m ≡ Some r → IsIn r rs
found_among [] m r h = none_some r h
found_among (x ∷ rs) m r h = go (λ k. found_among rs m r k) (x.unit.number == m) h
  where
    go : (result_at rs m ≡ Some r → IsIn r rs) → (b : Bool) → cond b (Some x) (result_at rs m) ≡ Some r → IsIn r (x ∷ rs)
    go rest true k = inl (same_Some x r k)
    go rest false k = inr (rest k)

-- a result more, of a unit that had none
more_found : (rs : List UnitResult) (x : UnitResult) → is_some (result_at rs x.unit.number) ≡ false → (n : ℕ) (r : UnitResult) → result_at rs n ≡ Some r → result_at (x ∷ rs) n ≡ Some r
more_found rs x fresh n r h = go (x.unit.number == n) refl
  where
    clash : x.unit.number ≡ n → true ≡ false
    clash e = sym (ap (λ (o : Option UnitResult). is_some o) h) ∙ ap (λ m. is_some (result_at rs m)) (sym e) ∙ fresh

    go : (b : Bool) → (x.unit.number == n) ≡ b → cond b (Some x) (result_at rs n) ≡ Some r
    go true e = let k = clash (equal x.unit.number n e) in absurd cc
    go false e = h

-- ---- places

-- a unit defines something there, or a pair of its imports or an export of its own has its new name there
pub data IsGivenBy (table : Table) (r : UnitResult) (q : Occ) : Type 0 where
  by_definition : (d : Defined) → IsIn d table → d.unit ≡ r.unit.number → d.occ ≡ Some q → IsGivenBy table r q
  by_second : (s : ImportSpec) → IsIn s r.unit.specs → IsIn q (second_places s.set) → IsGivenBy table r q
  by_outer : (x : ExportSpec) → IsIn x r.unit.exports → x.renamed ≡ true → x.outer.occ ≡ Some q → IsGivenBy table r q

pub record IsPlace (rs : List UnitResult) (table : Table) (q : Occ) : Type 0 where
  pub unit : UnitResult
  pub found : result_at rs unit.unit.number ≡ Some unit
  pub whole : unit.fault ≡ None
  pub given : IsGivenBy table unit q

given_later : (old new : Table) (r : UnitResult) → ((d : Defined) → IsIn d old → IsIn d new) → (q : Occ) → IsGivenBy old r q → IsGivenBy new r q
given_later old new r more q (by_definition d i u o) = by_definition d (more d i) u o
given_later old new r more q (by_second s i k) = by_second s i k
given_later old new r more q (by_outer x i e o) = by_outer x i e o

place_later : (rs : List UnitResult) (old new : Table) (x : UnitResult) → is_some (result_at rs x.unit.number) ≡ false → ((d : Defined) → IsIn d old → IsIn d new) → (q : Occ) → IsPlace rs old q → IsPlace (x ∷ rs) new q
place_later rs old new x fresh more q h = record {
  unit = h.unit;
  found = more_found rs x fresh h.unit.unit.number h.unit h.found;
  whole = h.whole;
  given = given_later old new h.unit more q h.given;
}

occ_has : (P : Occ → Type 0) (o : Option Occ) → ((q : Occ) → o ≡ Some q → P q) → OccHas P o
occ_has P None h = tt
occ_has P (Some q) h = h q refl

-- ---- what a unit needs

module _ (P : Occ → Type 0) where
  seconds_from : (ns : List (Named (List ℕ))) → ((q : Occ) → IsIn q (flat_map (λ (n : Named (List ℕ)). places_at n.occ) ns) → P q) → AllOf (λ (n : Named (List ℕ)). OccHas P n.occ) ns
  seconds_from [] h = tt
  seconds_from (n ∷ ns) h = (
    occ_has P n.occ (λ q e. h q (in_left q (places_at n.occ) (flat_map (λ (n : Named (List ℕ)). places_at n.occ) ns) (subst (λ o. IsIn q (places_at o)) (sym e) (inl refl)))),
    seconds_from ns (λ q i. h q (in_right q (places_at n.occ) (flat_map (λ (n : Named (List ℕ)). places_at n.occ) ns) i)),
  )

  pub spec_from : (s : ImportSpec) → ((q : Occ) → IsIn q (second_places s.set) → P q) → SpecHas P s
  spec_from s h e = seconds_from (second_names s.set) (λ q i. h q (subst (λ b. IsIn q (cond b [] (flat_map (λ (n : Named (List ℕ)). places_at n.occ) (second_names s.set)))) (sym e) i))

  pub defined_from : (table : Table) (u : ℕ) → ((d : Defined) → IsIn d table → d.unit ≡ u → (q : Occ) → d.occ ≡ Some q → P q) → (i : Ident) → DefinedHas P (defined_in table u i)
  defined_from table u h i = go (defined_in table u i) refl
    where
      go : (o : Option Defined) → defined_in table u i ≡ o → DefinedHas P o
      go None e = tt
      go (Some d) e = let f = defined_found table u i d e in occ_has P d.occ (λ q k. h d f.among f.unit q k)

  pub outers_from : (xs : List ExportSpec) → ((x : ExportSpec) → IsIn x xs → x.renamed ≡ true → (q : Occ) → x.outer.occ ≡ Some q → P q) → AllOf (OuterHas P) xs
  outers_from xs h = all_from (OuterHas P) xs (λ x i e. occ_has P x.outer.occ (λ q k. h x i e q k))

-- ---- what holds of all results by then

module _ (many : ℕ) where
  pub record Settled (rs : List UnitResult) (table : Table) : Type 0 where
    pub few : (n : ℕ) (r : UnitResult) → result_at rs n ≡ Some r → n < many
    pub entries : (n : ℕ) (r : UnitResult) → result_at rs n ≡ Some r → EntriesHave (IsPlace rs table) r.entries
    pub exports : UnitsExport (IsPlace rs table) rs

  -- a result more
  one_more : {P : UnitResult → Type 0} (x : UnitResult) (rs : List UnitResult) → P x → ((n : ℕ) (r : UnitResult) → result_at rs n ≡ Some r → P r) → (n : ℕ) (r : UnitResult) → result_at (x ∷ rs) n ≡ Some r → P r
  one_more {P} x rs here rest n r h = go (x.unit.number == n) h
    where
      go : (b : Bool) → cond b (Some x) (result_at rs n) ≡ Some r → P r
      go true k = subst P (same_Some x r k) here
      go false k = rest n r k

  more_settled : (rs : List UnitResult) (old new : Table) (x : UnitResult) → is_some (result_at rs x.unit.number) ≡ false → ((d : Defined) → IsIn d old → IsIn d new) → x.unit.number < many →
      EntriesHave (IsPlace (x ∷ rs) new) x.entries → EntriesHave (IsPlace (x ∷ rs) new) x.exports → Settled rs old → Settled (x ∷ rs) new
  more_settled rs old new x fresh more few here there h = record {
    few = λ n r e. subst (λ m. m < many) (found_number (x ∷ rs) n r e) (one_more {P = λ r. r.unit.number < many} x rs few (λ m s k. subst (λ u. u < many) (sym (found_number rs m s k)) (h.few m s k)) n r e);
    entries = one_more {P = λ r. EntriesHave (IsPlace (x ∷ rs) new) r.entries} x rs here (λ n r e. later r.entries (h.entries n r e));
    exports = one_more {P = λ r. EntriesHave (IsPlace (x ∷ rs) new) r.exports} x rs there (λ n r e. later r.exports (h.exports n r e));
  }
    where
      later : (es : List Entry) → EntriesHave (IsPlace rs old) es → EntriesHave (IsPlace (x ∷ rs) new) es
      later es k = entries_more (IsPlace rs old) (IsPlace (x ∷ rs) new) (place_later rs old new x fresh more) es k

  -- ---- one unit

  module _ (all : List Placed) (rs : List UnitResult) (old table : Table) (p : Prepared) (fresh : is_some (result_at rs p.number) ≡ false) (few : p.number < many) (h : Settled rs old) where
    pub broken_settled : (f : WholeFault) → Settled (broken_result p f ∷ rs) old
    broken_settled f = more_settled rs old old (broken_result p f) fresh (λ d i. i) few tt tt h

    module _ (more : (d : Defined) → IsIn d old → IsIn d table) where
      abbrev imports : List Entry × List SetResult
      imports = unit_entries all rs p

      abbrev result : List Formed → UnitResult
      result forms = unit_result p imports table (Some forms)

      module _ (forms : List Formed) where
        abbrev Place : Occ → Type 0
        Place = IsPlace (result forms ∷ rs) table

        given_here : (q : Occ) → IsGivenBy table (result forms) q → Place q
        given_here q g = record { unit = result forms; found = ap (λ b. cond b (Some (result forms)) (result_at rs p.number)) (itself p.number); whole = refl; given = g }

        entries_here : EntriesHave Place imports.0
        entries_here =
            unit_entries_have Place all rs (λ n r e. entries_more (IsPlace rs old) Place (place_later rs old table (result forms) fresh more) r.exports (h.exports n r e)) p
            (all_from (SpecHas Place) p.specs (λ s i. spec_from Place s (λ q k. given_here q (by_second s i k))))

        exports_here : EntriesHave Place (result forms).exports
        exports_here =
            exports_have Place (names_of_unit table p.number imports.0)
            (names_have Place table p.number imports.0 (λ s. defined_from Place table p.number (λ d i u q o. given_here q (by_definition d i u o)) (Written p.number s)) entries_here) [] p.exports
            (outers_from Place p.exports (λ x i e q o. given_here q (by_outer x i e o)))

      pub expanded_settled : (forms : Option (List Formed)) → Settled (unit_result p imports table forms ∷ rs) table
      expanded_settled None = more_settled rs old table (unit_result p imports table None) fresh more few tt tt h
      expanded_settled (Some forms) = more_settled rs old table (result forms) fresh more few (entries_here forms) (exports_here forms) h
