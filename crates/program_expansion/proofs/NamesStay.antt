-- What a unit defines, and what it names in its imports and exports, stays so while other units are expanded.
use Rattle.std.proofs.Common.{◌≡◌, ℕ, List, [], ◌∷◌, ◌++◌, Bool, true, cond, Option, Some, None, refl, sym, ap, ◌∙◌}
use Rattle.std.proofs.lemmas.Bool.{and_parts, ne_eqb}
use Rattle.std.specs.Prelude.{◌&&◌}
use Rattle.scheme_model.specs.Ident.{Ident, Written, same_ident}
use Rattle.scheme_model.specs.Order.{is_some}
use Rattle.scheme_model.specs.Requirements.{LibraryName}
use Rattle.scheme_model.specs.Entries.{Entry, entry_at, library_in}
use Rattle.scheme_model.specs.StandardLibraries.{standard}
use Rattle.scheme_model.specs.Substitution.{Defined, Table, defined_in}
use Rattle.scheme_model.specs.Live.{NameUse, all_export_uses}
use Rattle.scheme_model.specs.IncludedUnits.{Placed}
use Rattle.scheme_model.specs.Program.{ImportSpec, UnitResult, Program, result_at, unit_named, imported_units, exports_if, unit_exports, library_exports, all_done, own_entry, names_of_unit, is_some_fault}
use Rattle.scheme_model.specs.ProgramArrows.{uses_given, uses_in_set, import_uses, unit_names}
use Rattle.core_tree.specs.Units.{externals, given_exports, unless_broken}
use Rattle.unit_scopes.specs.Others.{Each, InFront}
use Rattle.document_units.proofs.NamedUnits.{place_for, before, unit_before}
use Rattle.program_expansion.proofs.UnitGoes.{IsOfUnit}

-- ---- definitions

front_in : (unit u : ℕ) → (u ≡ unit → ⊥) → (i : Ident) (front old : List Defined) → Each (IsOfUnit unit) front → defined_in (front ++ old) u i ≡ defined_in old u i
front_in unit u apart i [] old h = refl
front_in unit u apart i (d ∷ front) old h =
    ap (λ (b : Bool). cond (b && same_ident d.ident i) (Some d) (defined_in (front ++ old) u i)) (ne_eqb d.unit u (λ same. apart (sym same ∙ h.0))) ∙ front_in unit u apart i front old h.1

pub others_in : (unit u : ℕ) → (u ≡ unit → ⊥) → (old new : Table) → InFront (IsOfUnit unit) old new → (i : Ident) → defined_in new u i ≡ defined_in old u i
others_in unit u apart old new h i = ap (λ (t : Table). defined_in t u i) h.whole ∙ front_in unit u apart i h.front old h.each

names_same : (u : ℕ) (es : List Entry) (old new : Table) → ((i : Ident) → defined_in new u i ≡ defined_in old u i) → names_of_unit new u es ≡ names_of_unit old u es
names_same u es old new h = λ k s. own_entry u s (h (Written u s) k) (entry_at es s)

-- ---- imports

-- results that were there are as they were
abbrev pub KeepResults : (rs ts : List UnitResult) → Type 0
KeepResults rs ts = (m : ℕ) → is_some (result_at rs m) ≡ true → result_at ts m ≡ result_at rs m

module _ (all : List Placed) (rs ts : List UnitResult) (keep : KeepResults rs ts) where
  abbrev IfDone : Option ℕ → Type 0
  IfDone None = Unit {0}
  IfDone (Some m) = is_some (result_at rs m) ≡ true

  exports_same : (o : Option ℕ) → IfDone o → unit_exports ts o ≡ unit_exports rs o
  exports_same None d = refl
  exports_same (Some m) d = ap exports_if (keep m d)

  library_same : (n : LibraryName) (o : Option (List (List ℕ))) → IfDone (unit_named n 0 all) → library_exports all ts n o ≡ library_exports all rs n o
  library_same n None d = exports_same (unit_named n 0 all) d
  library_same n (Some names) d = refl

  uses_same : (s : ImportSpec) (o : Option LibraryName) → IfDone (place_for all o) → uses_in_set all ts s.set o ≡ uses_in_set all rs s.set o
  uses_same s None d = refl
  uses_same s (Some n) d = ap (λ (es : Option (List Entry)). uses_given es s.set) (library_same n (standard n) d)

  parted : (o : Option ℕ) (rest : List ℕ) → all_done rs (before o rest) ≡ true → IfDone o × (all_done rs rest ≡ true)
  parted None rest h = (tt, h)
  parted (Some m) rest h = and_parts (is_some (result_at rs m)) (all_done rs rest) h

  pub imports_same : (ss : List ImportSpec) → all_done rs (imported_units all ss) ≡ true → import_uses all ts ss ≡ import_uses all rs ss
  imports_same [] d = refl
  imports_same (s ∷ ss) d =
      let p = parted (place_for all (library_in s.set)) (imported_units all ss) (sym (ap (all_done rs) (unit_before all s ss (library_in s.set) refl)) ∙ d) in
      ap (λ (us : List NameUse). us ++ import_uses all ts ss) (uses_same s (library_in s.set) p.0) ∙ ap (λ (us : List NameUse). uses_in_set all rs s.set (library_in s.set) ++ us) (imports_same ss p.1)

-- ---- a unit's names

module _ (all : List Placed) (p q : Program) (r : UnitResult) (keep : KeepResults p.units q.units) (done : all_done p.units (imported_units all r.unit.specs) ≡ true)
    (defines : (i : Ident) → defined_in q.table r.unit.number i ≡ defined_in p.table r.unit.number i) where
  finds : names_of_unit q.table r.unit.number r.entries ≡ names_of_unit p.table r.unit.number r.entries
  finds = names_same r.unit.number r.entries p.table q.table defines

  pub unit_names_same : unit_names all q r ≡ unit_names all p r
  unit_names_same =
      ap (λ (us : List NameUse). cond (is_some_fault r.fault) [] (us ++ all_export_uses (names_of_unit q.table r.unit.number r.entries) r.unit.exports)) (imports_same all p.units q.units keep r.unit.specs done)
      ∙ ap (λ (find : List ℕ → Option Entry). cond (is_some_fault r.fault) [] (import_uses all p.units r.unit.specs ++ all_export_uses find r.unit.exports)) finds

  pub externals_same : externals q.table r ≡ externals p.table r
  externals_same = ap (λ (find : List ℕ → Option Entry). unless_broken r.fault (given_exports find [] r.unit.exports)) finds
