-- What the units of a program import, and what a macro is kept for, stands where each of them begins.
use Rattle.std.proofs.Common.{◌≡◌, ℕ, zero, suc, List, [], ◌∷◌, map, Bool, true, false, cond, eqb, Option, Some, None, refl, sym, ap, ◌∙◌, subst}
use Rattle.std.specs.Prelude.{◌&&◌}
use Rattle.std.specs.Str.{bytes_eq}
use Rattle.std.proofs.lemmas.Bool.{and_parts}
use Rattle.scheme_model.specs.Ident.{Ident, Written, same_ident}
use Rattle.scheme_model.specs.Meaning.{Meaning, Local, Global, Standard, Free, same_meaning}
use Rattle.scheme_model.specs.Requirements.{Known}
use Rattle.scheme_model.specs.Order.{is_some}
use Rattle.scheme_model.specs.Substitution.{Table, Entries, Defined, defined_in}
use Rattle.scheme_model.specs.ScopedExpansion.{ScopedMacro, macro_at}
use Rattle.scheme_model.specs.Prelude.{PreludeMacro, prelude}
use Rattle.scheme_model.specs.UnitExpansion.{Formed}
use Rattle.scheme_model.specs.Entries.{Entry, entry_at}
use Rattle.scheme_model.specs.IncludedUnits.{Placed}
use Rattle.scheme_model.specs.Program.{ExportSpec, Prepared, SetResult, UnitResult, WholeFault, fault_before, unit_entries, with_entries, own_entry, names_of_unit, Exported, has_name, exported, SameExport, export_one, export_all, unit_result, is_ready, first_ready, is_standard, prelude_unit, prelude_entry, prelude_definitions, enough_turns, forms_at_work}
use Rattle.scheme_model.specs.ScopedProgram.{ScopedProgress, forms_over, scoped_start_after, scoped_unit_over, scoped_by_fault, scoped_worked, scoped_work, scoped_prelude_macro, scoped_before}
use Rattle.scheme_model.proofs.IdentLaws.{ident_told}
use Rattle.model_laws.proofs.EntryLaws.{GivenSo, Fit, Fits, Exports, with_entries_fit, unit_entries_fit}
use Rattle.question_laws.specs.Noted.{is_defined_in, AllStand, IsClosed}
use Rattle.question_laws.proofs.Roots.{StandsThere, same_one}
use Rattle.question_laws.proofs.ClosedSteps.{defined_more, defined_first, unit_later}

-- ---- what a table has

some_told : (d e : Defined) → Some d ≡ Some e → d ≡ e
some_told d e p = ap (or_this d) p
  where
    or_this : Defined → Option Defined → Defined
    or_this x None = x
    or_this x (Some y) = y

found_is : (ds : Table) (u : ℕ) (i : Ident) (d : Defined) → defined_in ds u i ≡ Some d → same_ident d.ident i ≡ true
found_is [] u i d e = let q : is_some {A = Defined} None ≡ true = ap is_some e in let z : false ≡ true = q in absurd cc
found_is (c ∷ ds) u i d e = go (eqb c.unit u && same_ident c.ident i) refl (λ f. found_is ds u i d f) e
  where
    go : (b : Bool) → (eqb c.unit u && same_ident c.ident i) ≡ b → (defined_in ds u i ≡ Some d → same_ident d.ident i ≡ true) → cond b (Some c) (defined_in ds u i) ≡ Some d → same_ident d.ident i ≡ true
    go true f k e = ap (λ (x : Defined). same_ident x.ident i) (sym (some_told c d e)) ∙ (and_parts (eqb c.unit u) (same_ident c.ident i) f).1
    go false f k e = k e

found_stands : (ds : Table) (u : ℕ) (i : Ident) (d : Defined) → defined_in ds u i ≡ Some d → is_defined_in ds u d.ident ≡ true
found_stands ds u i d e = ap (λ j. is_defined_in ds u j) (ident_told d.ident i (found_is ds u i d e)) ∙ ap is_some e

-- ---- exports

module _ (table : Table) where
  -- what stands there
  abbrev P : Meaning → Type 0
  P m = StandsThere table m

  abbrev OrFit : Option Entry → Type 0
  OrFit None = Unit {0}
  OrFit (Some e) = Fit P e

  at_stands : (es : List Entry) → Fits P es → (s : List ℕ) → OrFit (entry_at es s)
  at_stands [] h s = tt
  at_stands (e ∷ es) h s = go (bytes_eq e.name s) (at_stands es h.1 s)
    where
      go : (t : Bool) → OrFit (entry_at es s) → OrFit (cond t (Some e) (entry_at es s))
      go true q = h.0
      go false q = q

  own_stands : (u : ℕ) (s : List ℕ) (d : Option Defined) → defined_in table u (Written u s) ≡ d → (o : Option Entry) → OrFit o → OrFit (own_entry u s d o)
  own_stands u s None e o h = h
  own_stands u s (Some d) e o h = found_stands table u (Written u s) d e

  one_stands : (seen : List (List ℕ)) (x : ExportSpec) (o : Option Entry) (rest : Exported) → OrFit o → Fits P rest.entries → Fits P (export_one seen x o rest).entries
  one_stands seen x None rest h k = k
  one_stands seen x (Some e) rest h k = go (has_name seen x.outer.name)
    where
      go : (t : Bool) → Fits P (cond {A = Exported} t (record { entries = rest.entries; faults = SameExport x ∷ rest.faults }) (record { entries = exported x e ∷ rest.entries; faults = rest.faults })).entries
      go true = k
      go false = (h, k)

  exports_stand : (find : List ℕ → Option Entry) → ((s : List ℕ) → OrFit (find s)) → (seen : List (List ℕ)) (xs : List ExportSpec) → Fits P (export_all find seen xs).entries
  exports_stand find h seen [] = tt
  exports_stand find h seen (x ∷ xs) = one_stands seen x (find x.inner.name) (export_all find (x.outer.name ∷ seen) xs) (h x.inner.name) (exports_stand find h (x.outer.name ∷ seen) xs)

  unit_exports_stand : (u : ℕ) (es : List Entry) → Fits P es → (xs : List ExportSpec) → Fits P (export_all (names_of_unit table u es) [] xs).entries
  unit_exports_stand u es h xs = exports_stand (names_of_unit table u es) (λ s. own_stands u s (defined_in table u (Written u s)) refl (entry_at es s) (at_stands es h s)) [] xs

  result_stands : (p : Prepared) (imports : List Entry × List SetResult) → Fits P imports.0 → (fs : Option (List Formed)) → Fits P (unit_result p imports table fs).exports
  result_stands p imports h None = tt
  result_stands p imports h (Some fs) = unit_exports_stand p.number imports.0 h p.exports

  -- ---- imports

  given_stands : (o : Option Meaning) → ((v : ℕ) (i : Ident) → o ≡ Some (Global v i) → is_defined_in table v i ≡ true) → GivenSo P o
  given_stands None h = tt
  given_stands (Some (Local v)) h = tt
  given_stands (Some (Global v i)) h = h v i refl
  given_stands (Some (Standard x)) h = tt
  given_stands (Some (Free x)) h = tt

  entries_stand : (n : ℕ) (es : List Entry) (before : Entries) (macros : List ScopedMacro) → Fits P es → AllStand table before macros → AllStand table (with_entries n es before) macros
  entries_stand n es before macros h a = record {
    imports = λ u x v i e. subst (GivenSo P) e (with_entries_fit P n es before h (λ u s. given_stands (before u s) (λ v i f. a.imports u s v i f)) u x);
    kept = a.kept;
  }

-- as a table grows
module _ (old new : Table) (more : (u : ℕ) (i : Ident) → is_defined_in old u i ≡ true → is_defined_in new u i ≡ true) where
  there_still : (m : Meaning) → StandsThere old m → StandsThere new m
  there_still (Local v) h = tt
  there_still (Global u i) h = more u i h
  there_still (Standard x) h = tt
  there_still (Free x) h = tt

  fits_still : (es : List Entry) → Fits (λ m. StandsThere old m) es → Fits (λ m. StandsThere new m) es
  fits_still [] h = tt
  fits_still (e ∷ es) h = (there_still e.meaning h.0, fits_still es h.1)

  exports_still : (rs : List UnitResult) → Exports (λ m. StandsThere old m) rs → Exports (λ m. StandsThere new m) rs
  exports_still [] h = tt
  exports_still (r ∷ rs) h = (fits_still r.exports h.0, exports_still rs h.1)

-- ---- one unit after another

pub record Stand (g : ScopedProgress) : Type 0 where
  pub all : AllStand g.table g.entry g.macros
  pub exports : Exports (λ m. StandsThere g.table m) g.results

module _ (all : List Placed) (ps : List Prepared) (known : Known) where
  imports_stand : (g : ScopedProgress) → Stand g → (p : Prepared) → Fits (λ m. StandsThere g.table m) (unit_entries all g.results p).0
  imports_stand g h p = unit_entries_fit (λ m. StandsThere g.table m) (λ s. tt) all g.results h.exports p

  pub start_closed : (g : ScopedProgress) → Stand g → (p : Prepared) → IsClosed (scoped_start_after all p g)
  start_closed g h p = entries_stand g.table p.number (unit_entries all g.results p).0 g.entry g.macros (imports_stand g h p) h.all

  fault_stand : (g : ScopedProgress) → Stand g → (p : Prepared) (f : Option WholeFault) → Stand (scoped_by_fault all known p f g)
  fault_stand g h p (Some f) = record { all = h.all; exports = (tt, h.exports) }
  fault_stand g h p None =
      let imports = unit_entries all g.results p in
      let s = scoped_start_after all p g in
      let q = scoped_unit_over known p s in
      let a = unit_later known enough_turns (forms_over (Written p.number) p.number 0 (forms_at_work p)) s in
      let fits = fits_still g.table q.1.table a.1 imports.0 (imports_stand g h p) in
      record {
        all = subst (λ (e : Entries). AllStand q.1.table e q.1.macros) a.2 (a.0 (start_closed g h p));
        exports = (result_stands q.1.table p imports fits q.0, exports_still g.table q.1.table a.1 g.results h.exports);
      }

  worked_stand : (g : ScopedProgress) → Stand g → (o : Option Prepared) → Stand (scoped_worked all ps known o g)
  worked_stand g h None = h
  worked_stand g h (Some p) = fault_stand g h p (fault_before all ps p)

  work_stand : (n : ℕ) (g : ScopedProgress) → Stand g → Stand (scoped_work all ps known n g)
  work_stand zero g h = h
  work_stand (suc n) g h = let o = first_ready (is_ready all ps g.results) ps in work_stand n (scoped_worked all ps known o g) (worked_stand g h o)

-- ---- the prelude

prelude_imports : (u : ℕ) (x : List ℕ) (v : ℕ) (i : Ident) → prelude_entry u x ≡ Some (Global v i) → ⊥
prelude_imports u x v i e = go (eqb u prelude_unit && is_standard x) e
  where
    is_global : Option Meaning → Bool
    is_global None = false
    is_global (Some (Local z)) = false
    is_global (Some (Global z j)) = true
    is_global (Some (Standard y)) = false
    is_global (Some (Free y)) = false

    go : (b : Bool) → cond b (Some (Standard x)) None ≡ Some (Global v i) → ⊥
    go true e = let q : false ≡ true = ap is_global e in absurd cc
    go false e = let q : false ≡ true = ap is_global e in absurd cc

prelude_kept : (ms : List PreludeMacro) (v : ℕ) (i : Ident) → is_some (macro_at (map scoped_prelude_macro ms) (Global v i)) ≡ true → is_defined_in (prelude_definitions ms) v i ≡ true
prelude_kept [] v i e = let q : false ≡ true = e in absurd cc
prelude_kept (m ∷ ms) v i e = go (is_standard m.name) (λ f. prelude_kept ms v i f) e
  where
    d : Defined
    d = record { unit = prelude_unit; form = 0; ident = Written prelude_unit m.name; keyword = true; occ = None }

    own : (b : Bool) → same_meaning (Global prelude_unit (Written prelude_unit m.name)) (Global v i) ≡ b → (is_some (macro_at (map scoped_prelude_macro ms) (Global v i)) ≡ true → is_defined_in (prelude_definitions ms) v i ≡ true)
        → is_some (cond b (Some (record { env = (scoped_prelude_macro m).frames; rules = (scoped_prelude_macro m).rules })) (macro_at (map scoped_prelude_macro ms) (Global v i))) ≡ true → is_defined_in (d ∷ prelude_definitions ms) v i ≡ true
    own true f k e = let p = same_one prelude_unit v (Written prelude_unit m.name) i f in defined_first d (prelude_definitions ms) v i p.0 p.1
    own false f k e = defined_more d (prelude_definitions ms) v i (k e)

    go : (b : Bool) → (is_some (macro_at (map scoped_prelude_macro ms) (Global v i)) ≡ true → is_defined_in (prelude_definitions ms) v i ≡ true)
        → is_some (cond (same_meaning (cond b (Standard m.name) (Global prelude_unit (Written prelude_unit m.name))) (Global v i)) (Some (record { env = (scoped_prelude_macro m).frames; rules = (scoped_prelude_macro m).rules })) (macro_at (map scoped_prelude_macro ms) (Global v i))) ≡ true
        → is_defined_in (cond b (prelude_definitions ms) (d ∷ prelude_definitions ms)) v i ≡ true
    go true k e = k e
    go false k e = own (same_meaning (Global prelude_unit (Written prelude_unit m.name)) (Global v i)) refl k e

before_stand : Stand scoped_before
before_stand = record {
  all = record { imports = λ u x v i e. absurd (prelude_imports u x v i e); kept = λ v i e. prelude_kept prelude v i e };
  exports = tt;
}

pub programs_closed : (all : List Placed) (ps : List Prepared) (known : Known) (n : ℕ) (p : Prepared) → IsClosed (scoped_start_after all p (scoped_work all ps known n scoped_before))
programs_closed all ps known n p = start_closed all ps known (scoped_work all ps known n scoped_before) (work_stand all ps known n scoped_before before_stand) p
