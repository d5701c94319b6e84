-- What holds of what names mean, where units define and libraries export them, holds of what units import. So no name that a unit
-- imports means a local.
use Rattle.std.proofs.Common.{◌≡◌, ℕ, List, [], ◌∷◌, map, filter, Bool, true, false, not, cond, Option, Some, None, Result, Ok, Err, refl}
use Rattle.std.specs.Str.{bytes_eq}
use Rattle.std.specs.Prelude.{◌==◌}
use Rattle.scheme_model.specs.Meaning.{Meaning, Local, Global, Standard, Free, same_meaning}
use Rattle.scheme_model.specs.ExpansionFaults.{Named}
use Rattle.scheme_model.specs.Requirements.{LibraryName}
use Rattle.scheme_model.specs.Order.{is_some}
use Rattle.scheme_model.specs.Substitution.{Table, Entries, Defined, defined_in}
use Rattle.scheme_model.specs.Ident.{Ident, Written}
use Rattle.scheme_model.specs.StandardLibraries.{standard}
use Rattle.scheme_model.specs.Entries.{Entry, entry_at, ImportSet, Library, Only, Except, Prefix, Rename, Bad, library_in, ImportFault, BadSet, ◌>>=◌, all_there, is_listed, prefixed, renamed, under_pairs, or_itself, rename_all, Joined, added, clashing, join_entry, gather, unless_clash, has_bad, given_by, entries_of}
use Rattle.scheme_model.specs.IncludedUnits.{Placed}
use Rattle.scheme_model.specs.Program.{ImportSpec, ExportSpec, unit_named, Prepared, UnitResult, SameExport, result_at, standard_entry, exports_if, unit_exports, library_exports, after_set, with_exports, of_library, import_all, base_entries, imports_nothing, unit_entries, entry_meaning, with_entries, own_entry, names_of_unit, exported, Exported, has_name, export_one, export_all}
use Rattle.model_laws.proofs.FrameAsks.{AllOf}
use Rattle.model_laws.proofs.FrameHeld.{all_append}

-- no local is meant
abbrev pub NoLocal : Meaning → Type 0
NoLocal (Local v) = ⊥
NoLocal (Global u i) = Unit {0}
NoLocal (Standard s) = Unit {0}
NoLocal (Free s) = Unit {0}

module _ (P : Meaning → Type 0) where
  abbrev pub GivenSo : Option Meaning → Type 0
  GivenSo None = Unit {0}
  GivenSo (Some m) = P m

  abbrev pub Fit : Entry → Type 0
  Fit e = P e.meaning

  abbrev pub Fits : List Entry → Type 0
  Fits es = AllOf Fit es

  abbrev Given : Result (List Entry) ImportFault → Type 0
  Given (Ok es) = Fits es
  Given (Err e) = Unit {0}

  abbrev FitOr : Option Entry → Type 0
  FitOr None = Unit {0}
  FitOr (Some e) = Fit e

  abbrev FitsOr : Option (List Entry) → Type 0
  FitsOr None = Unit {0}
  FitsOr (Some es) = Fits es

  -- ---- one entry

  at_fits : (es : List Entry) → Fits es → (s : List ℕ) → FitOr (entry_at es s)
  at_fits [] h s = tt
  at_fits (e ∷ es) h s = go (bytes_eq e.name s) (at_fits es h.1 s)
    where
      go : (t : Bool) → FitOr (entry_at es s) → FitOr (cond t (Some e) (entry_at es s))
      go true q = h.0
      go false q = q

  meaning_fits : (o : Option Entry) → FitOr o → GivenSo (entry_meaning o)
  meaning_fits None h = tt
  meaning_fits (Some e) h = h

  -- ---- import sets

  bind_given : (r : Result (List Entry) ImportFault) (k : List Entry → Result (List Entry) ImportFault) → Given r → ((es : List Entry) → Fits es → Given (k es)) → Given (r >>= k)
  bind_given (Ok es) k h f = f es h
  bind_given (Err e) k h f = tt

  there_given : (ns : List (Named (List ℕ))) (es : List Entry) → Fits es → Given (all_there ns es)
  there_given [] es h = h
  there_given (n ∷ ns) es h = go (entry_at es n.name) refl (there_given ns es h)
    where
      go : (o : Option Entry) → entry_at es n.name ≡ o → Given (all_there ns es) → Given (all_there (n ∷ ns) es)
      go None e q = rw e tt
      go (Some x) e q = rw e q

  filter_fits : (f : Entry → Bool) (es : List Entry) → Fits es → Fits (filter f es)
  filter_fits f [] h = tt
  filter_fits f (e ∷ es) h = go (f e) refl (filter_fits f es h.1)
    where
      go : (t : Bool) → f e ≡ t → Fits (filter f es) → Fits (filter f (e ∷ es))
      go true q r = rw q (h.0, r)
      go false q r = rw q r

  prefix_fits : (p : List ℕ) (es : List Entry) → Fits es → Fits (map (prefixed p) es)
  prefix_fits p [] h = tt
  prefix_fits p (e ∷ es) h = (h.0, prefix_fits p es h.1)

  pairs_fit : (ps : List (Named (List ℕ) × Named (List ℕ))) (e : Entry) → Fit e → Fits (under_pairs ps e)
  pairs_fit [] e h = tt
  pairs_fit (p ∷ ps) e h = go (bytes_eq p.0.name e.name) (pairs_fit ps e h)
    where
      go : (t : Bool) → Fits (under_pairs ps e) → Fits (cond t (renamed e p.1 ∷ under_pairs ps e) (under_pairs ps e))
      go true q = (h, q)
      go false q = q

  itself_fits : (e : Entry) (es : List Entry) → Fit e → Fits es → Fits (or_itself e es)
  itself_fits e [] h q = (h, tt)
  itself_fits e (d ∷ ds) h q = q

  rename_fits : (ps : List (Named (List ℕ) × Named (List ℕ))) (es : List Entry) → Fits es → Fits (rename_all ps es)
  rename_fits ps [] h = tt
  rename_fits ps (e ∷ es) h = all_append Fit (or_itself e (under_pairs ps e)) (rename_all ps es) (itself_fits e (under_pairs ps e) h.0 (pairs_fit ps e h.0)) (rename_fits ps es h.1)

  abbrev JoinedFits : Joined → Type 0
  JoinedFits (added es) = Fits es
  JoinedFits clashing = Unit {0}

  join_fits : (ds : List Entry) (e : Entry) → Fits ds → Fit e → JoinedFits (join_entry ds e)
  join_fits [] e h k = (k, tt)
  join_fits (d ∷ ds) e h k = go (bytes_eq d.name e.name) refl (same_meaning d.meaning e.meaning) refl (join_entry ds e) refl (join_fits ds e h.1 k)
    where
      go : (a : Bool) → bytes_eq d.name e.name ≡ a → (b : Bool) → same_meaning d.meaning e.meaning ≡ b → (w : Joined) → join_entry ds e ≡ w → JoinedFits w → JoinedFits (join_entry (d ∷ ds) e)
      go true p true q w r i = rw (p, q) (h.0, h.1)
      go true p false q w r i = rw (p, q) tt
      go false p b q (added cs) r i = rw (p, r) (h.0, i)
      go false p b q clashing r i = rw (p, r) tt

  gather_fits : (es rest : List Entry) (clashes : List (List ℕ)) → Fits es → Fits rest → Fits (gather es rest clashes).0
  gather_fits es [] clashes h k = h
  gather_fits es (e ∷ rest) clashes h k = go (join_entry es e) refl (join_fits es e h k.0) (λ ds q. gather_fits ds rest clashes q k.1) (gather_fits es rest (e.name ∷ clashes) h k.1)
    where
      go : (w : Joined) → join_entry es e ≡ w → JoinedFits w → ((ds : List Entry) → Fits ds → Fits (gather ds rest clashes).0) → Fits (gather es rest (e.name ∷ clashes)).0 → Fits (gather es (e ∷ rest) clashes).0
      go (added ds) p i f g = rw p (f ds i)
      go clashing p i f g = rw p g

  clash_given : (p : List Entry × List (List ℕ)) → Fits p.0 → Given (unless_clash p)
  clash_given (es, []) h = h
  clash_given (es, s ∷ ss) h = tt

  given_fits : (set : ImportSet) (exports : List Entry) → Fits exports → Given (given_by set exports)
  given_fits (Library n) exports h = h
  given_fits (Only s ns) exports h = bind_given (given_by s exports >>= all_there ns) _ (bind_given (given_by s exports) (all_there ns) (given_fits s exports h) (λ es q. there_given ns es q)) (λ es q. filter_fits (λ e. is_listed ns e.name) es q)
  given_fits (Except s ns) exports h = bind_given (given_by s exports >>= all_there ns) _ (bind_given (given_by s exports) (all_there ns) (given_fits s exports h) (λ es q. there_given ns es q)) (λ es q. filter_fits (λ e. not (is_listed ns e.name)) es q)
  given_fits (Prefix s p) exports h = bind_given (given_by s exports) _ (given_fits s exports h) (λ es q. prefix_fits p es q)
  given_fits (Rename s ps) exports h =
      bind_given (given_by s exports >>= all_there (map (λ p. p.0) ps)) _ (bind_given (given_by s exports) (all_there (map (λ p. p.0) ps)) (given_fits s exports h) (λ es q. there_given (map (λ p. p.0) ps) es q))
      (λ es q. clash_given (gather [] (rename_all ps es) []) (gather_fits [] (rename_all ps es) [] tt (rename_fits ps es q)))
  given_fits Bad exports h = tt

  entries_given : (set : ImportSet) (exports : List Entry) → Fits exports → Given (entries_of set exports)
  entries_given set exports h = go (has_bad set)
    where
      go : (t : Bool) → Given (cond t (Err BadSet) (given_by set exports))
      go true = tt
      go false = given_fits set exports h

  -- each unit exports such entries
  abbrev pub Exports : List UnitResult → Type 0
  Exports rs = AllOf (λ (r : UnitResult). Fits r.exports) rs

  exports_or : (rs : List UnitResult) → Exports rs → (n : ℕ) → FitsOr (exports_if (result_at rs n))
  exports_or [] h n = tt
  exports_or (r ∷ rs) h n = go (r.unit.number == n) (exports_or rs h.1 n)
    where
      whole : (t : Bool) → FitsOr (cond t None (Some r.exports))
      whole true = tt
      whole false = h.0

      go : (t : Bool) → FitsOr (exports_if (result_at rs n)) → FitsOr (exports_if (cond t (Some r) (result_at rs n)))
      go true q = whole (is_some r.fault)
      go false q = q

  pub with_entries_fit : (n : ℕ) (es : List Entry) (before : Entries) → Fits es → ((u : ℕ) (s : List ℕ) → GivenSo (before u s)) → (u : ℕ) (s : List ℕ) → GivenSo (with_entries n es before u s)
  with_entries_fit n es before h k u s = go (u == n)
    where
      go : (t : Bool) → GivenSo (cond t (entry_meaning (entry_at es s)) (before u s))
      go true = meaning_fits (entry_at es s) (at_fits es h s)
      go false = k u s

  -- ---- what a unit exports

  own_fits : (u : ℕ) → ((i : Ident) → P (Global u i)) → (s : List ℕ) (d : Option Defined) (o : Option Entry) → FitOr o → FitOr (own_entry u s d o)
  own_fits u own s None o h = h
  own_fits u own s (Some d) o h = own d.ident

  one_fits : (seen : List (List ℕ)) (x : ExportSpec) (o : Option Entry) (rest : Exported) → FitOr o → Fits rest.entries → Fits (export_one seen x o rest).entries
  one_fits seen x None rest h k = k
  one_fits seen x (Some e) rest h k = go (has_name seen x.outer.name)
    where
      go : (t : Bool) → Fits (cond {A = Exported} t (record { entries = rest.entries; faults = SameExport x ∷ rest.faults }) (record { entries = exported x e ∷ rest.entries; faults = rest.faults })).entries
      go true = k
      go false = (h, k)

  all_fit : (find : List ℕ → Option Entry) → ((s : List ℕ) → FitOr (find s)) → (seen : List (List ℕ)) (xs : List ExportSpec) → Fits (export_all find seen xs).entries
  all_fit find h seen [] = tt
  all_fit find h seen (x ∷ xs) = one_fits seen x (find x.inner.name) (export_all find (x.outer.name ∷ seen) xs) (h x.inner.name) (all_fit find h (x.outer.name ∷ seen) xs)

  pub exports_all_fit : (table : Table) (u : ℕ) → ((i : Ident) → P (Global u i)) → (es : List Entry) → Fits es → (xs : List ExportSpec) → Fits (export_all (names_of_unit table u es) [] xs).entries
  exports_all_fit table u own es h xs = all_fit (names_of_unit table u es) (λ s. own_fits u own s (defined_in table u (Written u s)) (entry_at es s) (at_fits es h s)) [] xs

  -- ---- what a unit imports

  module _ (names : (s : List ℕ) → P (Standard s)) where
    standards_fit : (ns : List (List ℕ)) → Fits (map standard_entry ns)
    standards_fit [] = tt
    standards_fit (n ∷ ns) = (names n, standards_fit ns)

    module _ (all : List Placed) (rs : List UnitResult) (h : Exports rs) where
      unit_or : (o : Option ℕ) → FitsOr (unit_exports rs o)
      unit_or None = tt
      unit_or (Some n) = exports_or rs h n

      library_or : (n : LibraryName) (o : Option (List (List ℕ))) → FitsOr (library_exports all rs n o)
      library_or n (Some names) = standards_fit names
      library_or n None = unit_or (unit_named n 0 all)

      set_fits : (es : List Entry) (r : Result (List Entry) ImportFault) → Fits es → Given r → Fits (after_set es r).0
      set_fits es (Err f) k q = k
      set_fits es (Ok ds) k q = gather_fits es ds [] k q

      exports_fit : (es : List Entry) (set : ImportSet) (o : Option (List Entry)) → Fits es → FitsOr o → Fits (with_exports es set o).0
      exports_fit es set None k q = k
      exports_fit es set (Some exports) k q = set_fits es (entries_of set exports) k (entries_given set exports q)

      library_fits : (es : List Entry) (set : ImportSet) (o : Option LibraryName) → Fits es → Fits (of_library all rs es set o).0
      library_fits es set None k = k
      library_fits es set (Some n) k = exports_fit es set (library_exports all rs n (standard n)) k (library_or n (standard n))

      imports_fit : (es : List Entry) (ss : List ImportSpec) → Fits es → Fits (import_all all rs es ss).0
      imports_fit es [] k = k
      imports_fit es (s ∷ ss) k = imports_fit (of_library all rs es s.set (library_in s.set)).0 ss (library_fits es s.set (library_in s.set) k)

      pub unit_entries_fit : (p : Prepared) → Fits (unit_entries all rs p).0
      unit_entries_fit p = go (imports_nothing p)
        where
          go : (t : Bool) → Fits (cond t (base_entries, []) (import_all all rs [] p.specs)).0
          go true = standards_fit _
          go false = imports_fit [] p.specs tt

abbrev pub GivenNoLocal : Option Meaning → Type 0
GivenNoLocal o = GivenSo NoLocal o
