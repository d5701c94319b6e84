-- What holds of the places that spell entries holds of those that import sets give and units export, if it holds of new names too.
use Rattle.std.proofs.Common.{◌≡◌, ℕ, List, [], ◌∷◌, ◌++◌, map, filter, Bool, true, false, not, cond, Option, Some, None, Result, Ok, Err, refl}
use Rattle.std.specs.Str.{bytes_eq}
use Rattle.scheme_model.specs.declared.Occ.{Occ}
use Rattle.scheme_model.specs.Ident.{Written}
use Rattle.scheme_model.specs.Meaning.{same_meaning}
use Rattle.scheme_model.specs.ExpansionFaults.{Named}
use Rattle.scheme_model.specs.Requirements.{LibraryName}
use Rattle.scheme_model.specs.Order.{is_some}
use Rattle.scheme_model.specs.Substitution.{Table, Defined, defined_in}
use Rattle.scheme_model.specs.StandardLibraries.{standard}
use Rattle.scheme_model.specs.Entries.{Source, At, StandardName, Origin, Entry, has_origin, origins_of_both, entry_at, ImportSet, Library, Only, Except, Prefix, Rename, Bad, library_in, ImportFault, BadSet, ◌>>=◌, all_there, is_listed, prefixed, place_origin, renamed, under_pairs, or_itself, rename_all, Joined, added, clashing, join_entry, gather, unless_clash, has_bad, given_by, entries_of}
use Rattle.scheme_model.specs.IncludedUnits.{Placed}
use Rattle.scheme_model.specs.Program.{ImportSpec, ExportSpec, unit_named, Prepared, UnitResult, SameExport, result_at, standard_entry, exports_if, unit_exports, library_exports, after_set, with_exports, of_library, import_all, base_entries, imports_nothing, unit_entries, own_entry, names_of_unit, exported, Exported, has_name, export_one, export_all}
use Rattle.scheme_model.specs.Live.{NameUse, entry_use, listed_uses, second_use, pair_uses, if_given, set_uses, meaning_or, origins_or, export_uses, all_export_uses}
use Rattle.scheme_model.specs.ProgramArrows.{uses_given, uses_in_set, import_uses}
use Rattle.scheme_model.specs.Spelling.{entry_origins, second_names}
use Rattle.model_laws.proofs.FrameAsks.{AllOf, all_of_more}
use Rattle.model_laws.proofs.FrameHeld.{all_append}

all_left : {X : Type 0} (P : X → Type 0) (xs ys : List X) → AllOf P (xs ++ ys) → AllOf P xs
all_left P [] ys h = tt
all_left P (x ∷ xs) ys h = (h.0, all_left P xs ys h.1)

all_right : {X : Type 0} (P : X → Type 0) (xs ys : List X) → AllOf P (xs ++ ys) → AllOf P ys
all_right P [] ys h = h
all_right P (x ∷ xs) ys h = all_right P xs ys h.1

-- a set that names a library has no bad one inside
pub not_bad : (set : ImportSet) (n : LibraryName) → library_in set ≡ Some n → has_bad set ≡ false
not_bad (Library m) n e = refl
not_bad (Only s ns) n e = not_bad s n e
not_bad (Except s ns) n e = not_bad s n e
not_bad (Prefix s p) n e = not_bad s n e
not_bad (Rename s ps) n e = not_bad s n e
not_bad Bad n e = absurd cc

-- the use of an external name
abbrev pub outer_use : (List ℕ → Option Entry) → ExportSpec → NameUse
outer_use find x = record { meaning = meaning_or (find x.inner.name) x.inner.name; symbol = x.outer.name; occ = x.outer.occ; origins = place_origin x.outer.occ }

module _ (P : Occ → Type 0) where
  abbrev pub SourceHas : Source → Type 0
  SourceHas (At o) = P o
  SourceHas (StandardName s) = Unit {0}

  abbrev pub OriginHas : Origin → Type 0
  OriginHas g = SourceHas g.source

  abbrev pub OccHas : Option Occ → Type 0
  OccHas None = Unit {0}
  OccHas (Some o) = P o

  abbrev pub EntryHas : Entry → Type 0
  EntryHas e = AllOf OriginHas e.origins

  abbrev pub EntriesHave : List Entry → Type 0
  EntriesHave es = AllOf EntryHas es

  abbrev Given : Result (List Entry) ImportFault → Type 0
  Given (Ok es) = EntriesHave es
  Given (Err e) = Unit {0}

  abbrev pub EntryOr : Option Entry → Type 0
  EntryOr None = Unit {0}
  EntryOr (Some e) = EntryHas e

  abbrev EntriesOr : Option (List Entry) → Type 0
  EntriesOr None = Unit {0}
  EntriesOr (Some es) = EntriesHave es

  -- of the second identifiers of a set's pairs
  abbrev NamedHas : Named (List ℕ) → Type 0
  NamedHas n = OccHas n.occ

  abbrev pub SecondsHave : ImportSet → Type 0
  SecondsHave set = AllOf NamedHas (second_names set)

  -- ---- one entry

  pub place_has : (o : Option Occ) → OccHas o → AllOf OriginHas (place_origin o)
  place_has None h = tt
  place_has (Some o) h = (h, tt)

  pub at_has : (es : List Entry) → EntriesHave es → (s : List ℕ) → EntryOr (entry_at es s)
  at_has [] h s = tt
  at_has (e ∷ es) h s = go (bytes_eq e.name s) (at_has es h.1 s)
    where
      go : (t : Bool) → EntryOr (entry_at es s) → EntryOr (cond t (Some e) (entry_at es s))
      go true q = h.0
      go false q = q

  pub origins_have : (o : Option Entry) → EntryOr o → AllOf OriginHas (entry_origins o)
  origins_have None h = tt
  origins_have (Some e) h = h

  both_have : (os ps : List Origin) → AllOf OriginHas os → AllOf OriginHas ps → AllOf OriginHas (origins_of_both os ps)
  both_have os [] h k = h
  both_have os (p ∷ ps) h k = both_have (cond (has_origin os p) os (os ++ p ∷ [])) ps (go (has_origin os p)) k.1
    where
      go : (t : Bool) → AllOf OriginHas (cond t os (os ++ p ∷ []))
      go true = h
      go false = all_append OriginHas os (p ∷ []) h (k.0, tt)

  -- ---- import sets

  bind_given : (r : Result (List Entry) ImportFault) (k : List Entry → Result (List Entry) ImportFault) → Given r → ((es : List Entry) → EntriesHave es → Given (k es)) → Given (r >>= k)
  bind_given (Ok es) k h f = f es h
  bind_given (Err e) k h f = tt

  there_given : (ns : List (Named (List ℕ))) (es : List Entry) → EntriesHave es → Given (all_there ns es)
  there_given [] es h = h
  there_given (n ∷ ns) es h = go (entry_at es n.name) refl (there_given ns es h)
    where
      go : (o : Option Entry) → entry_at es n.name ≡ o → Given (all_there ns es) → Given (all_there (n ∷ ns) es)
      go None e q = rw e tt
      go (Some x) e q = rw e q

  filter_have : (f : Entry → Bool) (es : List Entry) → EntriesHave es → EntriesHave (filter f es)
  filter_have f [] h = tt
  filter_have f (e ∷ es) h = go (f e) refl (filter_have f es h.1)
    where
      go : (t : Bool) → f e ≡ t → EntriesHave (filter f es) → EntriesHave (filter f (e ∷ es))
      go true q r = rw q (h.0, r)
      go false q r = rw q r

  prefix_origins : (p : List ℕ) (os : List Origin) → AllOf OriginHas os → AllOf OriginHas (map (λ (o : Origin). record { source = o.source; prefix = p ++ o.prefix }) os)
  prefix_origins p [] h = tt
  prefix_origins p (o ∷ os) h = (h.0, prefix_origins p os h.1)

  prefix_have : (p : List ℕ) (es : List Entry) → EntriesHave es → EntriesHave (map (prefixed p) es)
  prefix_have p [] h = tt
  prefix_have p (e ∷ es) h = (prefix_origins p e.origins h.0, prefix_have p es h.1)

  abbrev PairHas : Named (List ℕ) × Named (List ℕ) → Type 0
  PairHas p = NamedHas p.1

  pairs_from : (ps : List (Named (List ℕ) × Named (List ℕ))) → AllOf NamedHas (map (λ (p : Named (List ℕ) × Named (List ℕ)). p.1) ps) → AllOf PairHas ps
  pairs_from [] h = tt
  pairs_from (p ∷ ps) h = (h.0, pairs_from ps h.1)

  pairs_have : (ps : List (Named (List ℕ) × Named (List ℕ))) (e : Entry) → AllOf PairHas ps → EntriesHave (under_pairs ps e)
  pairs_have [] e h = tt
  pairs_have (p ∷ ps) e h = go (bytes_eq p.0.name e.name) (pairs_have ps e h.1)
    where
      go : (t : Bool) → EntriesHave (under_pairs ps e) → EntriesHave (cond t (renamed e p.1 ∷ under_pairs ps e) (under_pairs ps e))
      go true q = (place_has p.1.occ h.0, q)
      go false q = q

  itself_has : (e : Entry) (es : List Entry) → EntryHas e → EntriesHave es → EntriesHave (or_itself e es)
  itself_has e [] h q = (h, tt)
  itself_has e (d ∷ ds) h q = q

  rename_have : (ps : List (Named (List ℕ) × Named (List ℕ))) (es : List Entry) → AllOf PairHas ps → EntriesHave es → EntriesHave (rename_all ps es)
  rename_have ps [] k h = tt
  rename_have ps (e ∷ es) k h = all_append EntryHas (or_itself e (under_pairs ps e)) (rename_all ps es) (itself_has e (under_pairs ps e) h.0 (pairs_have ps e k)) (rename_have ps es k h.1)

  abbrev JoinedHas : Joined → Type 0
  JoinedHas (added es) = EntriesHave es
  JoinedHas clashing = Unit {0}

  join_has : (ds : List Entry) (e : Entry) → EntriesHave ds → EntryHas e → JoinedHas (join_entry ds e)
  join_has [] e h k = (k, tt)
  join_has (d ∷ ds) e h k = go (bytes_eq d.name e.name) refl (same_meaning d.meaning e.meaning) refl (join_entry ds e) refl (join_has ds e h.1 k)
    where
      go : (a : Bool) → bytes_eq d.name e.name ≡ a → (b : Bool) → same_meaning d.meaning e.meaning ≡ b → (w : Joined) → join_entry ds e ≡ w → JoinedHas w → JoinedHas (join_entry (d ∷ ds) e)
      go true p true q w r i = rw (p, q) (both_have d.origins e.origins h.0 k, h.1)
      go true p false q w r i = rw (p, q) tt
      go false p b q (added cs) r i = rw (p, r) (h.0, i)
      go false p b q clashing r i = rw (p, r) tt

  gather_have : (es rest : List Entry) (clashes : List (List ℕ)) → EntriesHave es → EntriesHave rest → EntriesHave (gather es rest clashes).0
  gather_have es [] clashes h k = h
  gather_have es (e ∷ rest) clashes h k = go (join_entry es e) refl (join_has es e h k.0) (λ ds q. gather_have ds rest clashes q k.1) (gather_have es rest (e.name ∷ clashes) h k.1)
    where
      go : (w : Joined) → join_entry es e ≡ w → JoinedHas w → ((ds : List Entry) → EntriesHave ds → EntriesHave (gather ds rest clashes).0) → EntriesHave (gather es rest (e.name ∷ clashes)).0 → EntriesHave (gather es (e ∷ rest) clashes).0
      go (added ds) p i f g = rw p (f ds i)
      go clashing p i f g = rw p g

  clash_given : (p : List Entry × List (List ℕ)) → EntriesHave p.0 → Given (unless_clash p)
  clash_given (es, []) h = h
  clash_given (es, s ∷ ss) h = tt

  pub given_have : (set : ImportSet) (exports : List Entry) → SecondsHave set → EntriesHave exports → Given (given_by set exports)
  given_have (Library n) exports k h = h
  given_have (Only s ns) exports k h = bind_given (given_by s exports >>= all_there ns) _ (bind_given (given_by s exports) (all_there ns) (given_have s exports k h) (λ es q. there_given ns es q)) (λ es q. filter_have (λ e. is_listed ns e.name) es q)
  given_have (Except s ns) exports k h = bind_given (given_by s exports >>= all_there ns) _ (bind_given (given_by s exports) (all_there ns) (given_have s exports k h) (λ es q. there_given ns es q)) (λ es q. filter_have (λ e. not (is_listed ns e.name)) es q)
  given_have (Prefix s p) exports k h = bind_given (given_by s exports) _ (given_have s exports k h) (λ es q. prefix_have p es q)
  given_have (Rename s ps) exports k h =
      bind_given (given_by s exports >>= all_there (map (λ p. p.0) ps)) _
      (bind_given (given_by s exports) (all_there (map (λ p. p.0) ps)) (given_have s exports (all_left NamedHas (second_names s) (map (λ p. p.1) ps) k) h) (λ es q. there_given (map (λ p. p.0) ps) es q))
      (λ es q. clash_given (gather [] (rename_all ps es) []) (gather_have [] (rename_all ps es) [] tt (rename_have ps es (pairs_from ps (all_right NamedHas (second_names s) (map (λ p. p.1) ps) k)) q)))
  given_have Bad exports k h = tt

  -- what a set that has a shape needs
  abbrev pub SetHas : ImportSet → Type 0
  SetHas set = has_bad set ≡ false → SecondsHave set

  abbrev pub SpecHas : ImportSpec → Type 0
  SpecHas s = SetHas s.set

  entries_given : (set : ImportSet) (exports : List Entry) → SetHas set → EntriesHave exports → Given (entries_of set exports)
  entries_given set exports k h = go (has_bad set) refl
    where
      go : (t : Bool) → has_bad set ≡ t → Given (cond t (Err BadSet) (given_by set exports))
      go true e = tt
      go false e = given_have set exports (k e) h

  -- ---- names in a set

  abbrev pub UseHas : NameUse → Type 0
  UseHas n = AllOf OriginHas n.origins

  entry_use_has : (o : Option Entry) (n : Named (List ℕ)) → EntryOr o → AllOf UseHas (entry_use o n)
  entry_use_has None n h = tt
  entry_use_has (Some e) n h = (h, tt)

  second_use_has : (o : Option Entry) (n : Named (List ℕ)) → NamedHas n → AllOf UseHas (second_use o n)
  second_use_has None n h = tt
  second_use_has (Some e) n h = (place_has n.occ h, tt)

  listed_have : (es : List Entry) → EntriesHave es → (ns : List (Named (List ℕ))) → AllOf UseHas (listed_uses es ns)
  listed_have es h [] = tt
  listed_have es h (n ∷ ns) = all_append UseHas (entry_use (entry_at es n.name) n) (listed_uses es ns) (entry_use_has (entry_at es n.name) n (at_has es h n.name)) (listed_have es h ns)

  pair_uses_have : (es : List Entry) → EntriesHave es → (ps : List (Named (List ℕ) × Named (List ℕ))) → AllOf PairHas ps → AllOf UseHas (pair_uses es ps)
  pair_uses_have es h [] k = tt
  pair_uses_have es h (p ∷ ps) k =
      all_append UseHas (entry_use (entry_at es p.0.name) p.0 ++ second_use (entry_at es p.0.name) p.1) (pair_uses es ps)
      (all_append UseHas (entry_use (entry_at es p.0.name) p.0) (second_use (entry_at es p.0.name) p.1) (entry_use_has (entry_at es p.0.name) p.0 (at_has es h p.0.name)) (second_use_has (entry_at es p.0.name) p.1 k.0))
      (pair_uses_have es h ps k.1)

  if_given_has : (r : Result (List Entry) ImportFault) (f : List Entry → List NameUse) → Given r → ((es : List Entry) → EntriesHave es → AllOf UseHas (f es)) → AllOf UseHas (if_given r f)
  if_given_has (Ok es) f h g = g es h
  if_given_has (Err e) f h g = tt

  pub set_uses_have : (set : ImportSet) (exports : List Entry) → SecondsHave set → EntriesHave exports → AllOf UseHas (set_uses exports set)
  set_uses_have (Library n) exports k h = tt
  set_uses_have (Only s ns) exports k h =
      all_append UseHas (set_uses exports s) (if_given (given_by s exports) (λ es. listed_uses es ns)) (set_uses_have s exports k h) (if_given_has (given_by s exports) (λ es. listed_uses es ns) (given_have s exports k h) (λ es q. listed_have es q ns))
  set_uses_have (Except s ns) exports k h =
      all_append UseHas (set_uses exports s) (if_given (given_by s exports) (λ es. listed_uses es ns)) (set_uses_have s exports k h) (if_given_has (given_by s exports) (λ es. listed_uses es ns) (given_have s exports k h) (λ es q. listed_have es q ns))
  set_uses_have (Prefix s p) exports k h = set_uses_have s exports k h
  set_uses_have (Rename s ps) exports k h =
      let inner = all_left NamedHas (second_names s) (map (λ p. p.1) ps) k in
      all_append UseHas (set_uses exports s) (if_given (given_by s exports) (λ es. pair_uses es ps)) (set_uses_have s exports inner h)
      (if_given_has (given_by s exports) (λ es. pair_uses es ps) (given_have s exports inner h) (λ es q. pair_uses_have es q ps (pairs_from ps (all_right NamedHas (second_names s) (map (λ p. p.1) ps) k))))
  set_uses_have Bad exports k h = tt

  -- ---- what a unit exports

  abbrev pub DefinedHas : Option Defined → Type 0
  DefinedHas None = Unit {0}
  DefinedHas (Some d) = OccHas d.occ

  -- an external name of its own
  abbrev pub OuterHas : ExportSpec → Type 0
  OuterHas x = x.renamed ≡ true → OccHas x.outer.occ

  own_has : (u : ℕ) (s : List ℕ) (d : Option Defined) (o : Option Entry) → DefinedHas d → EntryOr o → EntryOr (own_entry u s d o)
  own_has u s None o k h = h
  own_has u s (Some d) o k h = place_has d.occ k

  pub names_have : (table : Table) (u : ℕ) (es : List Entry) → ((s : List ℕ) → DefinedHas (defined_in table u (Written u s))) → EntriesHave es → (s : List ℕ) → EntryOr (names_of_unit table u es s)
  names_have table u es own h s = own_has u s (defined_in table u (Written u s)) (entry_at es s) (own s) (at_has es h s)

  exported_has : (x : ExportSpec) (e : Entry) → OuterHas x → EntryHas e → EntryHas (exported x e)
  exported_has x e k h = go x.renamed refl
    where
      go : (t : Bool) → x.renamed ≡ t → AllOf OriginHas (cond t (place_origin x.outer.occ) e.origins)
      go true q = place_has x.outer.occ (k q)
      go false q = h

  one_has : (seen : List (List ℕ)) (x : ExportSpec) (o : Option Entry) (rest : Exported) → OuterHas x → EntryOr o → EntriesHave rest.entries → EntriesHave (export_one seen x o rest).entries
  one_has seen x None rest i h k = k
  one_has seen x (Some e) rest i h k = go (has_name seen x.outer.name)
    where
      go : (t : Bool) → EntriesHave (cond {A = Exported} t (record { entries = rest.entries; faults = SameExport x ∷ rest.faults }) (record { entries = exported x e ∷ rest.entries; faults = rest.faults })).entries
      go true = k
      go false = (exported_has x e i h, k)

  pub exports_have : (find : List ℕ → Option Entry) → ((s : List ℕ) → EntryOr (find s)) → (seen : List (List ℕ)) (xs : List ExportSpec) → AllOf OuterHas xs → EntriesHave (export_all find seen xs).entries
  exports_have find h seen [] i = tt
  exports_have find h seen (x ∷ xs) i = one_has seen x (find x.inner.name) (export_all find (x.outer.name ∷ seen) xs) i.0 (h x.inner.name) (exports_have find h (x.outer.name ∷ seen) xs i.1)

  inner_has : (o : Option Entry) → EntryOr o → AllOf OriginHas (origins_or o)
  inner_has None h = tt
  inner_has (Some e) h = h

  export_use_has : (find : List ℕ → Option Entry) → ((s : List ℕ) → EntryOr (find s)) → (x : ExportSpec) → OuterHas x → AllOf UseHas (export_uses find x)
  export_use_has find h x i = (inner_has (find x.inner.name) (h x.inner.name), go x.renamed refl)
    where
      go : (t : Bool) → x.renamed ≡ t → AllOf UseHas (cond t (outer_use find x ∷ []) [])
      go true q = (place_has x.outer.occ (i q), tt)
      go false q = tt

  pub export_uses_have : (find : List ℕ → Option Entry) → ((s : List ℕ) → EntryOr (find s)) → (xs : List ExportSpec) → AllOf OuterHas xs → AllOf UseHas (all_export_uses find xs)
  export_uses_have find h [] i = tt
  export_uses_have find h (x ∷ xs) i = all_append UseHas (export_uses find x) (all_export_uses find xs) (export_use_has find h x i.0) (export_uses_have find h xs i.1)

  -- ---- what a unit imports

  standards_have : (ns : List (List ℕ)) → EntriesHave (map standard_entry ns)
  standards_have [] = tt
  standards_have (n ∷ ns) = ((tt, tt), standards_have ns)

  -- each unit exports such entries
  abbrev pub UnitsExport : List UnitResult → Type 0
  UnitsExport rs = (n : ℕ) (r : UnitResult) → result_at rs n ≡ Some r → EntriesHave r.exports

  module _ (all : List Placed) (rs : List UnitResult) (h : UnitsExport rs) where
    exports_or : (n : ℕ) (o : Option UnitResult) → result_at rs n ≡ o → EntriesOr (exports_if o)
    exports_or n None e = tt
    exports_or n (Some r) e = go (is_some r.fault)
      where
        go : (t : Bool) → EntriesOr (cond t None (Some r.exports))
        go true = tt
        go false = h n r e

    unit_or : (o : Option ℕ) → EntriesOr (unit_exports rs o)
    unit_or None = tt
    unit_or (Some n) = exports_or n (result_at rs n) refl

    library_or : (n : LibraryName) (o : Option (List (List ℕ))) → EntriesOr (library_exports all rs n o)
    library_or n (Some names) = standards_have names
    library_or n None = unit_or (unit_named n 0 all)

    set_has : (es : List Entry) (r : Result (List Entry) ImportFault) → EntriesHave es → Given r → EntriesHave (after_set es r).0
    set_has es (Err f) k q = k
    set_has es (Ok ds) k q = gather_have es ds [] k q

    with_has : (es : List Entry) (set : ImportSet) (o : Option (List Entry)) → SetHas set → EntriesHave es → EntriesOr o → EntriesHave (with_exports es set o).0
    with_has es set None i k q = k
    with_has es set (Some exports) i k q = set_has es (entries_of set exports) k (entries_given set exports i q)

    library_has : (es : List Entry) (set : ImportSet) (o : Option LibraryName) → SetHas set → EntriesHave es → EntriesHave (of_library all rs es set o).0
    library_has es set None i k = k
    library_has es set (Some n) i k = with_has es set (library_exports all rs n (standard n)) i k (library_or n (standard n))

    imports_have : (es : List Entry) (ss : List ImportSpec) → AllOf SpecHas ss → EntriesHave es → EntriesHave (import_all all rs es ss).0
    imports_have es [] i k = k
    imports_have es (s ∷ ss) i k = imports_have (of_library all rs es s.set (library_in s.set)).0 ss i.1 (library_has es s.set (library_in s.set) i.0 k)

    pub unit_entries_have : (p : Prepared) → AllOf SpecHas p.specs → EntriesHave (unit_entries all rs p).0
    unit_entries_have p i = go (imports_nothing p)
      where
        go : (t : Bool) → EntriesHave (cond t (base_entries, []) (import_all all rs [] p.specs)).0
        go true = standards_have _
        go false = imports_have [] p.specs i tt

    given_use_has : (set : ImportSet) (o : Option (List Entry)) → SecondsHave set → EntriesOr o → AllOf UseHas (uses_given o set)
    given_use_has set None i q = tt
    given_use_has set (Some exports) i q = set_uses_have set exports i q

    in_set_have : (set : ImportSet) (o : Option LibraryName) → library_in set ≡ o → SetHas set → AllOf UseHas (uses_in_set all rs set o)
    in_set_have set None e i = tt
    in_set_have set (Some n) e i = given_use_has set (library_exports all rs n (standard n)) (i (not_bad set n e)) (library_or n (standard n))

    pub import_uses_have : (ss : List ImportSpec) → AllOf SpecHas ss → AllOf UseHas (import_uses all rs ss)
    import_uses_have [] i = tt
    import_uses_have (s ∷ ss) i = all_append UseHas (uses_in_set all rs s.set (library_in s.set)) (import_uses all rs ss) (in_set_have s.set (library_in s.set) refl i.0) (import_uses_have ss i.1)

-- ---- what holds of more places

module _ (P Q : Occ → Type 0) (more : (q : Occ) → P q → Q q) where
  source_more : (s : Source) → SourceHas P s → SourceHas Q s
  source_more (At o) h = more o h
  source_more (StandardName s) h = tt

  pub entries_more : (es : List Entry) → EntriesHave P es → EntriesHave Q es
  entries_more es h = all_of_more (EntryHas P) (EntryHas Q) (λ e k. all_of_more (OriginHas P) (OriginHas Q) (λ g i. source_more g.source i) e.origins k) es h
