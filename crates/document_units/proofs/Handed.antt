-- The units as they are put in order: those that aren't too many, and the broken ones without their imports.
use Rattle.std.proofs.Common.{◌≡◌, ℕ, zero, suc, ◌+◌, Bool, true, false, cond, List, [], ◌∷◌, ◌++◌, length, map, take, slice_get, Option, Some, None, Result, Ok, Err, refl, sym, ap, ◌∙◌, subst, arith}
use Rattle.std.specs.Prelude.{◌&&◌, codes, not}
use Rattle.std.specs.Str.{bytes_eq}
use Rattle.std.specs.Option.{option_map}
use Rattle.std.proofs.lemmas.Bool.{and_parts}
use Rattle.scheme_model.specs.Requirements.{LibraryName}
use Rattle.scheme_model.specs.Data.{Datum, atom, list, vector, bytes, none, part, tail}
use Rattle.scheme_model.specs.Declarations.{UnitForm, plain_form, is_headed, symbol_in}
use Rattle.scheme_model.specs.IncludedUnits.{EarlyFault, UnitSource, Placed}
use Rattle.scheme_model.specs.Program.{Prepared, prepared, prepare, is_in, imported_units, name_if, unless_standard, imported_as, is_named, unit_named, WholeFault, fault_before, specs_in, specs_from, exports_in, exports_from, forms_or_none, first_ready}
use Rattle.syntax_tree.proofs.InternLaws.{bytes_told}
use Rattle.import_sets.specs.InTurn.{all_in, is_open, and_then, in_turn}
use Rattle.unit_sources.specs.declared.units.UnitSource as code
use Rattle.unit_sources.specs.Sources.{IsUnit, AreImports, AreExports, AreUnitsFrom}
use Rattle.unit_sources.specs.Orders.{with_imports}
use Rattle.document_units.specs.Turned.{waits_if, waits, turns}
use Rattle.document_units.proofs.NamedUnits.{named_of_taken, imported_same, prepare_taken}

-- ---- a unit without its imports

abbrev plain : UnitForm → UnitForm
plain f = cond (f.declared && is_headed (codes "import") f.datum) (plain_form f.datum) f

abbrev plain_forms : Result (List UnitForm) EarlyFault → Result (List UnitForm) EarlyFault
plain_forms (Ok fs) = Ok (map plain fs)
plain_forms (Err d) = Err d

abbrev without_imports : UnitSource → UnitSource
without_imports u = record u { forms = plain_forms u.forms }

abbrev pub given_if : Option WholeFault → Placed → Placed
given_if None u = u
given_if (Some f) u = record u { source = without_imports u.source }

abbrev pub handed_from : List Placed → ℕ → List Placed → List Placed
handed_from all n [] = []
handed_from all n (u ∷ us) = given_if (fault_before all (prepare all 0 all) (prepared all n u)) u ∷ handed_from all (suc n) us

abbrev pub handed : List Placed → List Placed
handed all = handed_from all 0 (take 128 all)

no_specs : (n form : ℕ) (f : UnitForm) → specs_in n form (plain f) ≡ []
no_specs n form f = go (f.declared && is_headed (codes "import") f.datum) refl
  where
    go : (b : Bool) → (f.declared && is_headed (codes "import") f.datum) ≡ b → specs_in n form (cond b (plain_form f.datum) f) ≡ []
    go true e = refl
    go false e = rw e refl

none_specs : (n form : ℕ) (fs : List UnitForm) → specs_from n form (map plain fs) ≡ []
none_specs n form [] = refl
none_specs n form (f ∷ fs) = λ j. no_specs n form f j ++ none_specs n (suc form) fs j

abbrev by : Option (List ℕ) → List ℕ → Bool
by None r = false
by (Some t) r = bytes_eq r t

-- an import is no export
headed_by : (s : List ℕ) (d : Datum) → is_headed s d ≡ true → (t : List ℕ) × ((bytes_eq s t ≡ true) × ((r : List ℕ) → is_headed r d ≡ bytes_eq r t))
headed_by s (atom p k) h = absurd cc
headed_by s (vector p ds) h = absurd cc
headed_by s (bytes p ds) h = absurd cc
headed_by s (list p none) h = absurd cc
headed_by s (list p (tail d)) h = absurd cc
headed_by s (list p (part d ds)) h = go (symbol_in d) refl
  where
    headed_of : (o : Option (List ℕ)) → symbol_in d ≡ o → (r : List ℕ) → is_headed r (list p (part d ds)) ≡ by o r
    headed_of None e r = rw e refl
    headed_of (Some t) e r = rw e refl

    go : (o : Option (List ℕ)) → symbol_in d ≡ o → (t : List ℕ) × ((bytes_eq s t ≡ true) × ((r : List ℕ) → is_headed r (list p (part d ds)) ≡ bytes_eq r t))
    go None e = let no : false ≡ true = sym (headed_of None e s) ∙ h in absurd cc
    go (Some t) e = (t, (sym (headed_of (Some t) e s) ∙ h, headed_of (Some t) e))

no_export : (d : Datum) → is_headed (codes "import") d ≡ true → is_headed (codes "export") d ≡ false
no_export d h =
    let r = headed_by (codes "import") d h in
    r.1.1 (codes "export") ∙ ap (bytes_eq (codes "export")) (sym (bytes_told (codes "import") r.0 r.1.0))

same_exports : (n form : ℕ) (f : UnitForm) → exports_in n form (plain f) ≡ exports_in n form f
same_exports n form f = go (f.declared && is_headed (codes "import") f.datum) refl
  where
    go : (b : Bool) → (f.declared && is_headed (codes "import") f.datum) ≡ b → exports_in n form (cond b (plain_form f.datum) f) ≡ exports_in n form f
    go true e = let both = and_parts f.declared (is_headed (codes "import") f.datum) e in let no = no_export f.datum both.1 in rw (both.0, no) refl
    go false e = refl

all_exports : (n form : ℕ) (fs : List UnitForm) → exports_from n form (map plain fs) ≡ exports_from n form fs
all_exports n form [] = refl
all_exports n form (f ∷ fs) = λ j. same_exports n form f j ++ all_exports n (suc form) fs j

same_name : (n : ℕ) (u : UnitSource) → name_if n (without_imports u) ≡ name_if n u
same_name n u = go u.forms
  where
    go : (r : Result (List UnitForm) EarlyFault) → name_if n (record u { forms = plain_forms r }) ≡ name_if n (record u { forms = r })
    go (Ok fs) = refl
    go (Err d) = refl

imports_none : (n : ℕ) (r : Result (List UnitForm) EarlyFault) → specs_from n 0 (forms_or_none (plain_forms r)) ≡ []
imports_none n (Ok fs) = none_specs n 0 fs
imports_none n (Err d) = refl

exports_same : (n : ℕ) (r : Result (List UnitForm) EarlyFault) → exports_from n 0 (forms_or_none (plain_forms r)) ≡ exports_from n 0 (forms_or_none r)
exports_same n (Ok fs) = all_exports n 0 fs
exports_same n (Err d) = refl

imported_alike : (n : ℕ) (u : UnitSource) → imported_as n (without_imports u) ≡ imported_as n u
imported_alike n u = ap unless_standard (same_name n u)

-- the code's unit without its import sets is the unit without its imports
pub unit_without : (spelled : LibraryName → List ℕ) (n : ℕ) (c : code.UnitSource) (u : UnitSource) → IsUnit spelled n c u → IsUnit spelled n (record c { imports = [] }) (without_imports u)
unit_without spelled n c u is = record {
  name = is.name ∙ ap (option_map spelled) (sym (imported_alike n u));
  imports = subst (AreImports spelled []) (sym (imports_none n u.forms)) tt;
  exports = subst (AreExports c.exports) (sym (exports_same n u.forms)) is.exports;
}

-- ---- where names mean the same units

name_given : (n : ℕ) (o : Option WholeFault) (u : Placed) → imported_as n (given_if o u).source ≡ imported_as n u.source
name_given n None u = refl
name_given n (Some f) u = imported_alike n u.source

given_named : (all : List Placed) (l : LibraryName) (k : ℕ) (us : List Placed) → unit_named l k (handed_from all k us) ≡ unit_named l k us
given_named all l k [] = refl
given_named all l k (u ∷ us) =
    λ j. cond (is_named l (name_given k (fault_before all (prepare all 0 all) (prepared all k u)) u j)) (Some k) (given_named all l (suc k) us j)

handed_named : (all : List Placed) (l : LibraryName) → unit_named l 0 (handed all) ≡ unit_named l 0 all
handed_named all l = given_named all l 0 (take 128 all) ∙ named_of_taken l all

-- ---- turns

-- units with the same numbers that import the same
abbrev AreAlike : List Prepared → List Prepared → Type 0
AreAlike [] [] = Unit {0}
AreAlike [] (q ∷ qs) = ⊥
AreAlike (p ∷ ps) [] = ⊥
AreAlike (p ∷ ps) (q ∷ qs) = (p.number ≡ q.number) × (p.imports ≡ q.imports) × AreAlike ps qs

abbrev HaveSame : Option Prepared → Option Prepared → Type 0
HaveSame None None = Unit {0}
HaveSame None (Some q) = ⊥
HaveSame (Some p) None = ⊥
HaveSame (Some p) (Some q) = p.number ≡ q.number

first_alike : (done : List ℕ) (ps qs : List Prepared) → AreAlike ps qs → HaveSame (first_ready (is_open done) ps) (first_ready (is_open done) qs)
first_alike done [] [] h = tt
first_alike done [] (q ∷ qs) h = absurd h
first_alike done (p ∷ ps) [] h = absurd h
first_alike done (p ∷ ps) (q ∷ qs) h = go (is_open done p) (is_open done q) open_same (first_alike done ps qs h.2)
  where
    open_same : is_open done p ≡ is_open done q
    open_same = (λ j. not (is_in (h.0 j) done) && all_in done (h.1 j))

    go : (a b : Bool) → a ≡ b → HaveSame (first_ready (is_open done) ps) (first_ready (is_open done) qs) → HaveSame (cond a (Some p) (first_ready (is_open done) ps)) (cond b (Some q) (first_ready (is_open done) qs))
    go true true e more = h.0
    go true false e more = absurd cc
    go false true e more = absurd cc
    go false false e more = more

turns_alike : (ps qs : List Prepared) → AreAlike ps qs → (t : ℕ) (done : List ℕ) → in_turn ps t done ≡ in_turn qs t done
turns_alike ps qs h zero done = refl
turns_alike ps qs h (suc t) done = go (λ next. turns_alike ps qs h t next) (first_ready (is_open done) ps) (first_ready (is_open done) qs) (first_alike done ps qs h)
  where
    go : ((next : List ℕ) → in_turn ps t next ≡ in_turn qs t next) → (a b : Option Prepared) → HaveSame a b → and_then a (λ p. p.number ∷ in_turn ps t (done ++ p.number ∷ [])) ≡ and_then b (λ p. p.number ∷ in_turn qs t (done ++ p.number ∷ []))
    go more None None e = refl
    go more None (Some q) e = absurd e
    go more (Some p) None e = absurd e
    go more (Some p) (Some q) e = (λ j. e j ∷ in_turn ps t (done ++ e j ∷ [])) ∙ ap (λ (l : List ℕ). q.number ∷ l) (more (done ++ q.number ∷ []))

imports_given : (all : List Placed) (n : ℕ) (o : Option WholeFault) (u : Placed) → (prepared (handed all) n (given_if o u)).imports ≡ (waits_if o (prepared all n u)).imports
imports_given all n None u = imported_same (handed all) all (handed_named all) (specs_from n 0 (forms_or_none u.source.forms))
imports_given all n (Some f) u = ap (imported_units (handed all)) (imports_none n u.source.forms)

number_waits : (o : Option WholeFault) (p : Prepared) → p.number ≡ (waits_if o p).number
number_waits None p = refl
number_waits (Some f) p = refl

all_alike : (all us : List Placed) (k : ℕ) → AreAlike (prepare (handed all) k (handed_from all k us)) (map (waits all) (prepare all k us))
all_alike all [] k = tt
all_alike all (u ∷ us) k =
    let o = fault_before all (prepare all 0 all) (prepared all k u) in (number_waits o (prepared all k u), imports_given all k o u, all_alike all us (suc k))

handed_length : (all us : List Placed) (k : ℕ) → length (handed_from all k us) ≡ length (map (waits all) (prepare all k us))
handed_length all [] k = refl
handed_length all (u ∷ us) k = ap suc (handed_length all us (suc k))

-- put in order, they are in their turns
pub turns_handed : (all : List Placed) → in_turn (with_imports (handed all)) (length (handed all)) [] ≡ turns all
turns_handed all =
    turns_alike (with_imports (handed all)) (map (waits all) (prepare all 0 (take 128 all))) (all_alike all (take 128 all) 0) (length (handed all)) []
    ∙ ap (λ n. in_turn (map (waits all) (prepare all 0 (take 128 all))) n []) (handed_length all (take 128 all) 0)
    ∙ ap (λ (ps : List Prepared). in_turn (map (waits all) ps) (length (map (waits all) ps)) []) (prepare_taken all all 128 0)

-- ---- the code's units

pub as_many_units : (spelled : LibraryName → List ℕ) (k : ℕ) (cs : List code.UnitSource) (us : List Placed) → AreUnitsFrom spelled k cs us → length cs ≡ length us
as_many_units spelled k [] [] h = refl
as_many_units spelled k [] (u ∷ us) h = absurd h
as_many_units spelled k (c ∷ cs) [] h = absurd h
as_many_units spelled k (c ∷ cs) (u ∷ us) h = ap suc (as_many_units spelled (suc k) cs us h.1)

abbrev pub code_given : Option WholeFault → code.UnitSource → code.UnitSource
code_given None c = c
code_given (Some f) c = record c { imports = [] }

unit_given : (spelled : LibraryName → List ℕ) (n : ℕ) (o : Option WholeFault) (c : code.UnitSource) (u : Placed) → IsUnit spelled n c u.source → IsUnit spelled n (code_given o c) (given_if o u).source
unit_given spelled n None c u is = is
unit_given spelled n (Some f) c u is = unit_without spelled n c u.source is

-- where each unit of the code has lost its import sets that is broken, they are the units that are put in order
pub units_given : (spelled : LibraryName → List ℕ) (all : List Placed) (k : ℕ) (cs ds : List code.UnitSource) (us : List Placed) → length ds ≡ length cs →
    ((i : ℕ) (d : code.UnitSource) → slice_get ds i ≡ Some d → (c : code.UnitSource) (u : Placed) → slice_get cs i ≡ Some c → slice_get us i ≡ Some u → d ≡ code_given (fault_before all (prepare all 0 all) (prepared all (k + i) u)) c) →
    AreUnitsFrom spelled k cs us → AreUnitsFrom spelled k ds (handed_from all k us)
units_given spelled all k [] [] [] size each h = tt
units_given spelled all k [] (d ∷ ds) us size each h = absurd (omega arith)
units_given spelled all k [] [] (u ∷ us) size each h = absurd h
units_given spelled all k (c ∷ cs) ds [] size each h = absurd h
units_given spelled all k (c ∷ cs) [] (u ∷ us) size each h = absurd (omega arith)
units_given spelled all k (c ∷ cs) (d ∷ ds) (u ∷ us) size each h = (
  subst (λ (e : code.UnitSource). IsUnit spelled k e (given_if (fault k) u).source) (sym own) (unit_given spelled k (fault k) c u h.0),
  units_given spelled all (suc k) cs ds us (omega arith) (λ i e at b v there here. each (suc i) e at b v there here ∙ ap (λ n. code_given (fault_before all (prepare all 0 all) (prepared all n v)) b) (more i)) h.1,
)
  where
    more : (i : ℕ) → k + suc i ≡ suc k + i
    more i = omega arith

    none_more : k + 0 ≡ k
    none_more = omega arith

    fault : ℕ → Option WholeFault
    fault n = fault_before all (prepare all 0 all) (prepared all n u)

    own : d ≡ code_given (fault k) c
    own = each 0 d refl c u refl refl ∙ ap (λ n. code_given (fault n) c) none_more
