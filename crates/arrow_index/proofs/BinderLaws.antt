-- What binds in a program, by the leaves and the definitions of the code; the binders of an occurrence.
use Rattle.std.proofs.Common.{◌≡◌, ◌⊎◌, inl, inr, ◌↔◌, ℕ, suc, List, [], ◌∷◌, ◌++◌, map, reverse, filter, Bool, true, false, Some, refl, sym, ap, ◌∙◌, subst, append_assoc, arith, Contains}
use Rattle.std.specs.Prelude.{◌==◌, ◌||◌, ◌&&◌, if◌then◌else◌}
use Rattle.std.specs.List.{flat_map}
use Rattle.std.specs.List.Sorted.{IsStrictlySortedBy}
use Rattle.std.proofs.lemmas.Bool.Decides.{nat_tests}
use Rattle.std.proofs.lemmas.List.{append-nil, map-append}
use Rattle.std.proofs.lemmas.Grind.{flat_map-append}
use Rattle.scheme_model.specs.declared.Occ.{Occ}
use Rattle.scheme_model.specs.Entries.{same_occ}
use Rattle.scheme_model.specs.Live as live
use Rattle.scheme_model.specs.Live.{CoreLeaf, name_places}
use Rattle.scheme_model.specs.Trees.{Tree}
use Rattle.scheme_model.specs.Requirements.{LibraryName}
use Rattle.scheme_model.specs.Substitution.{Table, Defined}
use Rattle.scheme_model.specs.IncludedUnits.{Placed}
use Rattle.scheme_model.specs.Program.{Program, UnitResult, result_at}
use Rattle.scheme_model.specs.ProgramArrows.{Arrow, any, places_at, rule_binders, leaf_binders, table_binders, binders_in, itself_among, binders_at, arrows_of, program_leaves, program_table, is_whole}
use Rattle.syntax_tree.specs.Names.{Names}
use Rattle.syntax_tree.specs.declared.trees.Work.{Work}
use Rattle.core_tree.specs.Units.{AreDefinitions, definitions_from, defined_by, UnitsStand}
use Rattle.core_tree.specs.declared.cores.Binder.{Binder}
use Rattle.core_tree.specs.declared.units.UnitForm.{UnitForm}
use Rattle.core_tree.specs.declared.units.Unit.{Unit as CodeUnit}
use Rattle.program_leaves.specs.declared.pairs.Pair.{Pair}
use Rattle.program_leaves.specs.Members.{IsIn}
use Rattle.program_leaves.specs.Pairs.{as_arrow, AreArrows, AreOccs}
use Rattle.program_leaves.specs.Placed.{occ_cmp}
use Rattle.arrow_index.specs.Binders.{defined_places, form_places, unit_places, binders_with}
use Rattle.program_leaves.proofs.MemberLaws.{in_left, in_right, in_either, in_from, contains_from, in_reverse, in_map, from_map, in_flat_map, from_flat_map}
use Rattle.program_leaves.proofs.ToldLaws.{from_reverse}
use Rattle.program_leaves.proofs.KeyLaws.{one_occ}
use Rattle.program_leaves.proofs.GivenLaws.{bare_form}
use Rattle.program_leaves.proofs.QuotedLaws.{quoted_none}

-- ---- leaves

pub binders-append : (xs ys : List CoreLeaf) → leaf_binders (xs ++ ys) ≡ leaf_binders xs ++ leaf_binders ys
binders-append [] ys = refl
binders-append (live.Binds b ∷ xs) ys = ap (λ (q : List Occ). places_at b.occ ++ q) (binders-append xs ys) ∙ sym (append_assoc (places_at b.occ) (leaf_binders xs) (leaf_binders ys))
binders-append (live.Uses t ∷ xs) ys = binders-append xs ys
binders-append (live.Assigns t ∷ xs) ys = binders-append xs ys
binders-append (live.Quotes o ∷ xs) ys = binders-append xs ys
binders-append (live.Defines m ∷ xs) ys =
    ap (λ (q : List Occ). rule_binders m.rules m.rules.rules ++ q) (binders-append xs ys) ∙ sym (append_assoc (rule_binders m.rules m.rules.rules) (leaf_binders xs) (leaf_binders ys))

pub quoted_binds : {A : Type 0} (f : A → Bool) (t : Tree A) → leaf_binders (name_places f t) ≡ []
quoted_binds f t = quoted_none leaf_binders binders-append refl (λ o. refl) f t

pub none_added : (old : List Occ) (ls : List CoreLeaf) → leaf_binders ls ≡ [] → old ≡ old ++ leaf_binders ls
none_added old ls e = sym (append-nil old) ∙ ap (λ (q : List Occ). old ++ q) (sym e)

-- ---- definitions

defined_row : (names : Names) (bs : List (ℕ × Binder)) (ds : List Defined) → AreDefinitions names bs ds → defined_places (map (λ b. b.1) bs) ≡ table_binders ds
defined_row names [] [] h = refl
defined_row names [] (d ∷ ds) h = absurd h
defined_row names (b ∷ bs) [] h = absurd h
defined_row names (b ∷ bs) (d ∷ ds) h = λ j. places_at (h.0.place j) ++ defined_row names bs ds h.1 j

forms_row : (form : ℕ) (cs : List UnitForm) → defined_places (map (λ (x : ℕ × Binder). x.1) (definitions_from form cs)) ≡ form_places cs
forms_row form [] = refl
forms_row form (c ∷ cs) =
    ap defined_places (map-append (λ (x : ℕ × Binder). x.1) (map (λ b. (form, b)) c.trace.definitions) (definitions_from (suc form) cs))
    ∙ flat_map-append (λ (b : Binder). places_at b.occ) (map (λ (x : ℕ × Binder). x.1) (map (λ b. (form, b)) c.trace.definitions)) (map (λ (x : ℕ × Binder). x.1) (definitions_from (suc form) cs))
    ∙ (λ j. defined_places (bare_form form c.trace.definitions j) ++ forms_row (suc form) cs j)

abbrev pair_places : ℕ × Binder → List Occ
pair_places x = places_at x.1.occ

pairs_row : (xs : List (ℕ × Binder)) → defined_places (map (λ (x : ℕ × Binder). x.1) xs) ≡ flat_map pair_places xs
pairs_row [] = refl
pairs_row (x ∷ xs) = ap (λ (q : List Occ). places_at x.1.occ ++ q) (pairs_row xs)

turned : (o : Occ) (xs : List (ℕ × Binder)) → IsIn o (flat_map pair_places (reverse xs)) → IsIn o (flat_map pair_places xs)
turned o xs h = let a = from_flat_map pair_places o (reverse xs) h in in_flat_map pair_places a.0 o xs (from_reverse a.0 xs a.1) a.2

turned_back : (o : Occ) (xs : List (ℕ × Binder)) → IsIn o (flat_map pair_places xs) → IsIn o (flat_map pair_places (reverse xs))
turned_back o xs h = let a = from_flat_map pair_places o xs h in in_flat_map pair_places a.0 o (reverse xs) (in_reverse a.0 xs a.1) a.2

abbrev unit_of : ℕ → Table → List Occ
unit_of u ds = table_binders (defined_by u ds)

unit_there : (names : Names) (u : ℕ) (ds : Table) (cs : List UnitForm) (o : Occ) → AreDefinitions names (reverse (definitions_from 0 cs)) (defined_by u ds) → IsIn o (unit_of u ds) → IsIn o (form_places cs)
unit_there names u ds cs o h k =
    let xs = definitions_from 0 cs in
    subst (IsIn o) (sym (pairs_row xs) ∙ forms_row 0 cs) (turned o xs (subst (IsIn o) (sym (defined_row names (reverse xs) (defined_by u ds) h) ∙ pairs_row (reverse xs)) k))

unit_back : (names : Names) (u : ℕ) (ds : Table) (cs : List UnitForm) (o : Occ) → AreDefinitions names (reverse (definitions_from 0 cs)) (defined_by u ds) → IsIn o (form_places cs) → IsIn o (unit_of u ds)
unit_back names u ds cs o h k =
    let xs = definitions_from 0 cs in
    subst (IsIn o) (sym (pairs_row (reverse xs)) ∙ defined_row names (reverse xs) (defined_by u ds) h) (turned_back o xs (subst (IsIn o) (sym (forms_row 0 cs) ∙ pairs_row xs) k))

-- what a unit defines is in the table
in_table : (u : ℕ) (ds : Table) (o : Occ) → IsIn o (unit_of u ds) → IsIn o (table_binders ds)
in_table u [] o h = h
in_table u (d ∷ ds) o h = by_unit (in_table u ds o) (d.unit == u) h
  where
    by_unit : (IsIn o (unit_of u ds) → IsIn o (table_binders ds)) → (b : Bool) → IsIn o (table_binders (if b then d ∷ defined_by u ds else defined_by u ds)) → IsIn o (places_at d.occ ++ table_binders ds)
    by_unit f true k = elim (in_either o (places_at d.occ) (unit_of u ds) k) [ inl m ↦ in_left o (places_at d.occ) (table_binders ds) m | inr m ↦ in_right o (places_at d.occ) (table_binders ds) (f m) ]
    by_unit f false k = in_right o (places_at d.occ) (table_binders ds) (f k)

-- each definition of the table is one of a unit that is there and isn't broken as a whole
pub record OfUnit (rs : List UnitResult) (ds : Table) (o : Occ) : Type 0 where
  pub unit : ℕ
  pub there : is_whole (result_at rs unit) ≡ true
  pub holds : IsIn o (unit_of unit ds)

of_unit : (rs : List UnitResult) (ds : Table) (o : Occ) → IsIn o (table_binders (filter (λ (d : Defined). is_whole (result_at rs d.unit)) ds)) → OfUnit rs (filter (λ (d : Defined). is_whole (result_at rs d.unit)) ds) o
of_unit rs [] o h = absurd h
of_unit rs (d ∷ ds) o h = by_whole (of_unit rs ds o) (is_whole (result_at rs d.unit)) refl h
  where
    -- one more in front
    more : (u : ℕ) → IsIn o (unit_of u (filter (λ (x : Defined). is_whole (result_at rs x.unit)) ds)) → IsIn o (unit_of u (d ∷ (filter (λ (x : Defined). is_whole (result_at rs x.unit)) ds)))
    more u k = by_unit (d.unit == u)
      where
        by_unit : (b : Bool) → IsIn o (table_binders (if b then d ∷ defined_by u (filter (λ (x : Defined). is_whole (result_at rs x.unit)) ds) else defined_by u (filter (λ (x : Defined). is_whole (result_at rs x.unit)) ds)))
        by_unit true = in_right o (places_at d.occ) (unit_of u (filter (λ (x : Defined). is_whole (result_at rs x.unit)) ds)) k
        by_unit false = k

    first : IsIn o (places_at d.occ) → IsIn o (unit_of d.unit (d ∷ (filter (λ (x : Defined). is_whole (result_at rs x.unit)) ds)))
    first k =
        let same : (d.unit == d.unit) ≡ true = grind (arith, nat_tests) in
        subst (λ (b : Bool). IsIn o (table_binders (if b then d ∷ defined_by d.unit (filter (λ (x : Defined). is_whole (result_at rs x.unit)) ds) else defined_by d.unit (filter (λ (x : Defined). is_whole (result_at rs x.unit)) ds)))) (sym same) (in_left o (places_at d.occ) (unit_of d.unit (filter (λ (x : Defined). is_whole (result_at rs x.unit)) ds)) k)

    by_whole : (IsIn o (table_binders (filter (λ (x : Defined). is_whole (result_at rs x.unit)) ds)) → OfUnit rs (filter (λ (x : Defined). is_whole (result_at rs x.unit)) ds) o) → (b : Bool) → is_whole (result_at rs d.unit) ≡ b → IsIn o (table_binders (if b then d ∷ (filter (λ (x : Defined). is_whole (result_at rs x.unit)) ds) else (filter (λ (x : Defined). is_whole (result_at rs x.unit)) ds))) → OfUnit rs (if b then d ∷ (filter (λ (x : Defined). is_whole (result_at rs x.unit)) ds) else (filter (λ (x : Defined). is_whole (result_at rs x.unit)) ds)) o
    by_whole f false e k = f k
    by_whole f true e k =
        elim (in_either o (places_at d.occ) (table_binders (filter (λ (x : Defined). is_whole (result_at rs x.unit)) ds)) k) [
          | inl m ↦ record { unit = d.unit; there = e; holds = first m }
          | inr m ↦ (let r = f m in record { unit = r.unit; there = r.there; holds = more r.unit r.holds })
        ]

module _ (work : Work) (text : LibraryName → List ℕ) (uris : List (List ℕ)) (all : List Placed) (p : Program) where
  units_back : (place : ℕ) (cs : List CodeUnit) (rs : List UnitResult) (o : Occ) → UnitsStand work text uris all p place cs rs → IsIn o (unit_places cs) → IsIn o (table_binders (program_table p))
  units_back place [] [] o h k = absurd k
  units_back place [] (r ∷ rs) o h k = absurd h
  units_back place (c ∷ cs) [] o h k = absurd h
  units_back place (c ∷ cs) (r ∷ rs) o h k = by_unit (units_back (suc place) cs rs o h.1) (in_either o (form_places c.forms) (unit_places cs) k)
    where
      by_unit : (IsIn o (unit_places cs) → IsIn o (table_binders (program_table p))) → IsIn o (form_places c.forms) ⊎ IsIn o (unit_places cs) → IsIn o (table_binders (program_table p))
      by_unit f (inl m) = in_table place (program_table p) o (unit_back work.symbols place (program_table p) c.forms o h.0.definitions m)
      by_unit f (inr m) = f m

  unit_at : (place : ℕ) (cs : List CodeUnit) (rs : List UnitResult) (o : Occ) (u : ℕ) → UnitsStand work text uris all p place cs rs → is_whole (result_at rs u) ≡ true → IsIn o (unit_of u (program_table p)) → IsIn o (unit_places cs)
  unit_at place [] [] o u h e k = absurd cc
  unit_at place [] (r ∷ rs) o u h e k = absurd h
  unit_at place (c ∷ cs) [] o u h e k = absurd h
  unit_at place (c ∷ cs) (r ∷ rs) o u h e k = by_place (unit_at (suc place) cs rs o u h.1) (r.unit.number == u) refl
    where
      by_place : (is_whole (result_at rs u) ≡ true → IsIn o (unit_of u (program_table p)) → IsIn o (unit_places cs)) → (b : Bool) → (r.unit.number == u) ≡ b → IsIn o (form_places c.forms ++ unit_places cs)
      by_place f true q =
          let same : r.unit.number ≡ u = grind (arith, nat_tests) in
          let at : u ≡ place = sym same ∙ h.0.number in
          in_left o (form_places c.forms) (unit_places cs) (unit_there work.symbols place (program_table p) c.forms o h.0.definitions (subst (λ (x : ℕ). IsIn o (unit_of x (program_table p))) at k))
      by_place f false q =
          in_right o (form_places c.forms) (unit_places cs) (f (subst (λ (b : Bool). is_whole (if b then Some r else result_at rs u) ≡ true) q e) k)

  units_there : (cs : List CodeUnit) (o : Occ) → UnitsStand work text uris all p 0 cs p.units → IsIn o (table_binders (program_table p)) → IsIn o (unit_places cs)
  units_there cs o h k = let r = of_unit p.units p.table o k in unit_at 0 cs p.units o r.unit h r.there r.holds

  pub binders_law : (cs : List CodeUnit) (places : List Occ) (o : Occ) → UnitsStand work text uris all p 0 cs p.units → places ≡ leaf_binders (program_leaves p.units) ++ unit_places cs → IsIn o places ↔ IsIn o (binders_in p)
  binders_law cs places o h e =
      let ls = leaf_binders (program_leaves p.units) in (
        λ k. elim (in_either o ls (unit_places cs) (subst (IsIn o) e k)) [ inl m ↦ in_left o ls (table_binders (program_table p)) m | inr m ↦ in_right o ls (table_binders (program_table p)) (units_back 0 cs p.units o h m) ],
        λ k. subst (IsIn o) (sym e) (elim (in_either o ls (table_binders (program_table p)) k) [ inl m ↦ in_left o ls (unit_places cs) m | inr m ↦ in_right o ls (unit_places cs) (units_there cs o h m) ]),
      )

-- ---- the binders of an occurrence

pub itself_is : (ps : List Occ) (o : Occ) → itself_among ps o ≡ (if any (λ (p : Occ). same_occ p o) ps then o ∷ [] else [])
itself_is [] o = refl
itself_is (p ∷ ps) o = by_test (itself_is ps o) (same_occ p o)
  where
    by_test : itself_among ps o ≡ (if any (λ (x : Occ). same_occ x o) ps then o ∷ [] else []) → (b : Bool) → (if b then o ∷ [] else itself_among ps o) ≡ (if b || any (λ (x : Occ). same_occ x o) ps then o ∷ [] else [])
    by_test h true = refl
    by_test h false = h

same_itself : (o : Occ) → same_occ o o ≡ true
same_itself o =
    let u : (o.unit == o.unit) ≡ true = grind (arith, nat_tests) in
    let f : (o.form == o.form) ≡ true = grind (arith, nat_tests) in
    let t : (o.token == o.token) ≡ true = grind (arith, nat_tests) in
    λ j. u j && (f j && t j)

-- it is among them just where it is a member
itself_there : (ps : List Occ) (o x : Occ) → IsIn x (itself_among ps o) → IsIn o ps × (o ≡ x)
itself_there [] o x h = absurd h
itself_there (p ∷ ps) o x h = by_test (itself_there ps o x) (same_occ p o) refl h
  where
    by_test : (IsIn x (itself_among ps o) → IsIn o ps × (o ≡ x)) → (b : Bool) → same_occ p o ≡ b → IsIn x (if b then o ∷ [] else itself_among ps o) → IsIn o (p ∷ ps) × (o ≡ x)
    by_test f true e (inl k) = (inl (one_occ p o e), k)
    by_test f true e (inr k) = absurd k
    by_test f false e k = let r = f k in (inr r.0, r.1)

itself_back : (ps : List Occ) (o : Occ) → IsIn o ps → IsIn o (itself_among ps o)
itself_back [] o h = absurd h
itself_back (p ∷ ps) o h = by_test (itself_back ps o) (same_occ p o) refl h
  where
    by_test : (IsIn o ps → IsIn o (itself_among ps o)) → (b : Bool) → same_occ p o ≡ b → (p ≡ o) ⊎ IsIn o ps → IsIn o (if b then o ∷ [] else itself_among ps o)
    by_test f true e k = inl refl
    by_test f false e (inl k) = let same : same_occ p o ≡ true = ap (λ (y : Occ). same_occ y o) k ∙ same_itself o in absurd cc
    by_test f false e (inr k) = f k

pub itself_same : (ps qs : List Occ) (o x : Occ) → (IsIn o ps → IsIn o qs) → IsIn x (itself_among ps o) → IsIn x (itself_among qs o)
itself_same ps qs o x f h = let r = itself_there ps o x h in subst (λ (y : Occ). IsIn y (itself_among qs o)) r.1 (itself_back qs o (f r.0))

-- a test that holds of a member keeps it
pub in_filter : {X : Type 0} (f : X → Bool) (x : X) (xs : List X) → IsIn x xs → f x ≡ true → IsIn x (filter f xs)
in_filter f x [] h e = absurd h
in_filter f x (y ∷ ys) h e = by_test (in_filter f x ys) (f y) refl h
  where
    by_test : (IsIn x ys → f x ≡ true → IsIn x (filter f ys)) → (b : Bool) → f y ≡ b → (y ≡ x) ⊎ IsIn x ys → IsIn x (if b then y ∷ filter f ys else filter f ys)
    by_test g true q (inl k) = inl k
    by_test g true q (inr k) = inr (g k e)
    by_test g false q (inl k) = let same : f y ≡ true = ap f k ∙ e in absurd cc
    by_test g false q (inr k) = g k e

pub from_filter : {X : Type 0} (f : X → Bool) (x : X) (xs : List X) → IsIn x (filter f xs) → IsIn x xs × (f x ≡ true)
from_filter f x [] h = absurd h
from_filter f x (y ∷ ys) h = by_test (from_filter f x ys) (f y) refl h
  where
    by_test : (IsIn x (filter f ys) → IsIn x ys × (f x ≡ true)) → (b : Bool) → f y ≡ b → IsIn x (if b then y ∷ filter f ys else filter f ys) → IsIn x (y ∷ ys) × (f x ≡ true)
    by_test g true q (inl k) = (inl k, ap f (sym k) ∙ q)
    by_test g true q (inr k) = let r = g k in (inr r.0, r.1)
    by_test g false q k = let r = g k in (inr r.0, r.1)

abbrev pointed : Occ → List Arrow → List Occ
pointed o arrows = map (λ (a : Arrow). a.binder) (filter (λ (a : Arrow). same_occ a.target o) arrows)

if_in : {X : Type 0} (b : Bool) (x y : X) → IsIn x (if b then y ∷ [] else []) → (b ≡ true) × (y ≡ x)
if_in true x y (inl e) = (refl, e)
if_in true x y (inr e) = absurd e
if_in false x y h = absurd h

pub if_there : {X : Type 0} (b : Bool) (x : X) → b ≡ true → IsIn x (if b then x ∷ [] else [])
if_there true x e = inl refl
if_there false x e = absurd cc

pub if_from : {X : Type 0} (b : Bool) (x y : X) → IsIn x (if b then y ∷ [] else []) → (b ≡ true) × (y ≡ x)
if_from b x y h = if_in b x y h

-- with pairs of these arrows
pub pointing_there : (ps : List Pair) (arrows : List Arrow) (o x : Occ) → AreArrows ps arrows → IsIn x (flat_map (binders_with o) ps) → IsIn x (pointed o arrows)
pointing_there ps arrows o x h k =
    let a = from_flat_map (binders_with o) x ps k in
    let e = if_in (same_occ a.0.target o) x a.0.binder a.2 in
    let arrow : IsIn (as_arrow a.0) arrows = in_from (as_arrow a.0) arrows ((h.same a.0).0 (contains_from a.0 ps a.1)) in
    subst (λ (y : Occ). IsIn y (pointed o arrows)) e.1 (in_map (λ (b : Arrow). b.binder) (as_arrow a.0) (filter (λ (b : Arrow). same_occ b.target o) arrows) (in_filter (λ (b : Arrow). same_occ b.target o) (as_arrow a.0) arrows arrow e.0))

pub pointing_back : (ps : List Pair) (arrows : List Arrow) (o x : Occ) → AreArrows ps arrows → IsIn x (pointed o arrows) → IsIn x (flat_map (binders_with o) ps)
pointing_back ps arrows o x h k =
    let m = from_map (λ (b : Arrow). b.binder) x (filter (λ (b : Arrow). same_occ b.target o) arrows) k in
    let f = from_filter (λ (b : Arrow). same_occ b.target o) m.0 arrows m.1 in
    let pair : Pair = record { binder = m.0.binder; target = m.0.target } in
    let held : IsIn pair ps = in_from pair ps ((h.same pair).1 (contains_from m.0 arrows f.0)) in
    in_flat_map (binders_with o) pair x ps held (subst (λ (y : Occ). IsIn y (if same_occ m.0.target o then m.0.binder ∷ [] else [])) m.2 (if_there (same_occ m.0.target o) m.0.binder f.1))

pub occurrence_law : (all : List Placed) (p : Program) (ps : List Pair) (places found sorted : List Occ) (o : Occ) → AreArrows ps (arrows_of all p) → ((x : Occ) → IsIn x places ↔ IsIn x (binders_in p)) →
    found ≡ flat_map (binders_with o) ps ++ itself_among places o → IsStrictlySortedBy occ_cmp sorted × ((x : Occ) → Contains sorted x ↔ Contains found x) → AreOccs sorted (binders_at (binders_in p) (arrows_of all p) o)
occurrence_law all p ps places found sorted o h are e s =
    let ones = flat_map (binders_with o) ps in
    let mine = itself_among places o in
    let theirs = itself_among (binders_in p) o in
    let arrows = arrows_of all p in
    record {
      sorted = s.0;
      same = λ x. (
        λ k. contains_from x (theirs ++ pointed o arrows) (elim (in_either x ones mine (subst (IsIn x) e (in_from x found ((s.1 x).0 k)))) [
          | inl m ↦ in_right x theirs (pointed o arrows) (pointing_there ps arrows o x h m)
          | inr m ↦ in_left x theirs (pointed o arrows) (itself_same places (binders_in p) o x (are o).0 m)
        ]),
        λ k. (s.1 x).1 (contains_from x found (subst (IsIn x) (sym e) (elim (in_either x theirs (pointed o arrows) (in_from x (theirs ++ pointed o arrows) k)) [
          | inl m ↦ in_right x ones mine (itself_same (binders_in p) places o x (are o).1 m)
          | inr m ↦ in_left x ones mine (pointing_back ps arrows o x h m)
        ]))),
      );
    }
