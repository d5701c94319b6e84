-- Units as they are listed: what is read of each, one more at a time, and all of them.
use Rattle.std.proofs.Common.{◌≡◌, ℕ, zero, suc, ◌+◌, ◌<◌, ◌⊎◌, inl, inr, Bool, true, false, cond, List, [], ◌∷◌, ◌++◌, map, take, length, slice_get, Option, Some, None, Result, Ok, Err, refl, sym, ap, ◌∙◌, subst, append_assoc, append-nil, arith}
use Rattle.std.specs.Prelude.{nat_lt, nat_le}
use Rattle.std.specs.Option.{option_map}
use Rattle.std.proofs.lemmas.Bool.Decides.{nat_tests}
use Rattle.std.proofs.lemmas.List.{map-append, length_push}
use Rattle.std.proofs.lemmas.Option.{slice_get_within}
use Rattle.ls_base.specs.declared.places.Span.{Span}
use Rattle.scheme_model.specs.Data.{Place, Datum, place_of}
use Rattle.scheme_model.specs.Declarations.{UnitForm, unit_or, UnitKind}
use Rattle.scheme_model.specs.Included.{LostString, Listing, Lists, BadAfter, TooLong}
use Rattle.scheme_model.specs.Includes.{Document, max_units}
use Rattle.scheme_model.specs.IncludedUnits as source
use Rattle.scheme_model.specs.IncludedUnits.{EarlyFault, BadAt, TooManyTokens, source_by, Placed}
use Rattle.scheme_model.specs.Program as model
use Rattle.scheme_model.specs.Program.{prepared, ImportSpec, name_if, imported_as, unless_standard, early_fault, declared_fault, forms_or_none, specs_from, exports_from, units_of}
use Rattle.scheme_model.specs.Requirements.{LibraryName}
use Rattle.scheme_tokens.specs.LibraryNames.{library_text}
use Rattle.syntax_tree.specs.declared.units.UnitKind as code_kind
use Rattle.syntax_tree.specs.declared.units.UnitKind.TheVariants as kinds
use Rattle.syntax_tree.proofs.Places.{push_cases, get_within}
use Rattle.core_tree.specs.Names.{AllMatch}
use Rattle.core_tree.specs.Units.{kind_as, ranges_from}
use Rattle.datum_reader.proofs.DatumLaws.{place-datum}
use Rattle.unit_sources.specs.Sources.{AreImports, AreExports, IsUnit, AreUnitsFrom}
use Rattle.unit_sources.specs.UnitsRead.{kind_of, forms_of, AreLost, AreSpecs, IsSource, IsUnitRead}
use Rattle.unit_sources.specs.declared.fault.LibraryFault.{LibraryFault}
use Rattle.unit_sources.specs.declared.fault.LibraryFault.TheVariants as library
use Rattle.unit_sources.specs.declared.units.ExportSpec as code_export
use Rattle.unit_sources.specs.declared.units.ImportSpec as code_import
use Rattle.unit_sources.specs.declared.units.UnitForm as code_form
use Rattle.unit_sources.specs.declared.units.LostString as code_lost
use Rattle.unit_sources.specs.declared.units.UnitSource.{UnitSource}
use Rattle.unit_sources.proofs.KnownTexts.{IfProper}
use Rattle.unit_sources.proofs.SpelledSources.{imports_spelled, unit_spelled}
use Rattle.read_documents.specs.Broken.{told, has_standard}
use Rattle.read_documents.specs.UnitSources.{IsSourceOf, HaveOneIfSame, IsSpec}
use Rattle.scheme_model.specs.Sites.{names_in_forms}
use Rattle.read_documents.specs.DataRead.{data_at}
use Rattle.document_units.specs.Listing.{Begins, IsWholeOf}
use Rattle.document_units.specs.UnitsListed.{WritesProper, IsReadAt, IsReadFor, IsBlank, without_standard, IsOne, AreSoFar, placed_in, AddsRead, AreUnitsListed}
use Rattle.read_documents.specs.WereRead.{FormsRead}
use Rattle.read_documents.specs.declared.heads.WholeFault.{WholeFault}
use Rattle.read_documents.specs.declared.heads.WholeFault.TheVariants as fault
use Rattle.read_documents.specs.declared.heads.Head.{Head}
use Rattle.document_units.specs.declared.listing.Units.{Units}
use Rattle.document_units.proofs.ExportsRead.{exports_read}
use Rattle.read_documents.proofs.OneIfSame.{all_from}
use Rattle.document_units.proofs.RenamedLaws.{AreDeclaredRead}
use Rattle.document_units.proofs.StandardNamed.{standard_told, as_imported}

abbrev Flat : Type 0
Flat = Result (List UnitForm) EarlyFault

-- ---- names that units are known by

usable_name : (u : source.UnitSource) (fs : List UnitForm) → u.forms ≡ Ok fs → name_if 0 u ≡ u.name
usable_name u fs e = subst (λ (f : Flat). name_if 0 (record u { forms = f }) ≡ u.name) (sym e) refl

no_name_if : (u : source.UnitSource) (e : EarlyFault) → u.forms ≡ Err e → name_if 0 u ≡ None
no_name_if u e is = subst (λ (f : Flat). name_if 0 (record u { forms = f }) ≡ None) (sym is) refl

foremost_name : (n : ℕ) (u : source.UnitSource) → n < max_units → name_if n u ≡ name_if 0 u
foremost_name n u lt = let t : nat_lt n max_units ≡ true = grind (arith, nat_tests) in ap (λ (b : Bool). cond b (name_if 0 u) None) t

-- ---- a source that was read

kinds_same : (k : code_kind.UnitKind) → kind_as k ≡ kind_of k
kinds_same kinds.Library = refl
kinds_same kinds.Program = refl
kinds_same kinds.Part = refl

declared_read : (fs : List UnitForm) → FormsRead fs → AreDeclaredRead fs
declared_read [] h = tt
declared_read (f ∷ fs) h = ((λ _. h.0.0, h.0.1), declared_read fs h.1)

specs_match : (spelled : LibraryName → List ℕ) (cs : List code_import.ImportSpec) (ss : List ImportSpec) → AreSpecs cs ss → AreImports spelled cs ss → AllMatch (IsSpec spelled) cs ss
specs_match spelled [] [] h k = tt
specs_match spelled [] (s ∷ ss) h k = absurd h
specs_match spelled (c ∷ cs) [] h k = absurd h
specs_match spelled (c ∷ cs) (s ∷ ss) h k = (record { unit = h.0.unit; set = k.0; whole = h.0.span; library = h.0.library }, specs_match spelled cs ss h.1 k.1)

imports_back : (spelled : LibraryName → List ℕ) (cs : List code_import.ImportSpec) (ss : List ImportSpec) → AllMatch (IsSpec spelled) cs ss → AreImports spelled cs ss
imports_back spelled [] [] h = tt
imports_back spelled [] (s ∷ ss) h = absurd h
imports_back spelled (c ∷ cs) [] h = absurd h
imports_back spelled (c ∷ cs) (s ∷ ss) h = (h.0.set, imports_back spelled cs ss h.1)

-- a place doesn't tell in which list a unit stands
module _ (spelled : LibraryName → List ℕ) (n : ℕ) (c : UnitSource) where
  pub source_in : (us vs : List Placed) (p q : Placed) → p.source ≡ q.source → IsSourceOf spelled (prepared us n p) None c → IsSourceOf spelled (prepared vs n q) None c
  source_in us vs p q e h = record {
    kind = h.kind ∙ ap (λ (u : source.UnitSource). u.kind) e;
    forms = sym (ap (λ (u : source.UnitSource). forms_or_none u.forms) e) ∙ h.forms;
    imports = λ whole. subst (λ (u : source.UnitSource). AllMatch (IsSpec spelled) c.imports (specs_from n 0 (forms_or_none u.forms))) e (h.imports refl);
    exports = subst (λ (u : source.UnitSource). AreExports c.exports (exports_from n 0 (forms_or_none u.forms))) e h.exports;
    single = subst (λ (u : source.UnitSource). HaveOneIfSame (exports_from n 0 (forms_or_none u.forms))) e h.single;
    lost = subst (λ (u : source.UnitSource). AreLost c.lost u.lost) e h.lost;
  }

-- the numbers of the first tokens of forms
firsts_seen : (fs : List code_form.UnitForm) → map (λ (f : code_form.UnitForm). f.datum.first) fs ≡ map (λ (f : UnitForm). (place_of f.datum).first) (forms_of fs)
firsts_seen [] = refl
firsts_seen (f ∷ fs) = λ j. (sym (ap (λ (p : Place). p.first) (place-datum f.datum)) j ∷ firsts_seen fs j)

homes_seen : (n : ℕ) (fs : List code_form.UnitForm) → map (λ (f : code_form.UnitForm). unit_or n f.home) fs ≡ map (λ (f : UnitForm). unit_or n f.home) (forms_of fs)
homes_seen n [] = refl
homes_seen n (f ∷ fs) = ap (λ (us : List ℕ). unit_or n f.home ∷ us) (homes_seen n fs)

module _ (spelled : LibraryName → List ℕ) (written : WritesProper spelled) (n : ℕ) where
  source_of : (u : source.UnitSource) (c : UnitSource) (d : Datum) → IsSource n c u d → FormsRead (forms_of c.forms) → IsSourceOf spelled (prepared [] n (record { document = 0; source = u })) None c
  source_of u c d h read =
      let forms : forms_or_none u.forms ≡ forms_of c.forms = ap forms_or_none h.forms in
      record {
        kind = kinds_same c.kind ∙ h.kind;
        forms = forms;
        imports = λ whole. subst (λ (fs : List UnitForm). AllMatch (IsSpec spelled) c.imports (specs_from n 0 fs)) (sym forms)
            (specs_match spelled c.imports (specs_from n 0 (forms_of c.forms)) h.imports
            (subst (λ (fs : List UnitForm). AreImports spelled c.imports (specs_from n 0 fs)) forms (imports_spelled spelled written n c u d h)));
        exports = subst (λ (fs : List UnitForm). AreExports c.exports (exports_from n 0 fs)) (sym forms)
            (exports_read c.exports n (forms_of c.forms) (declared_read (forms_of c.forms) read) h.exports);
        single = all_from n 0 (forms_or_none u.forms);
        lost = h.lost;
      }

  -- a unit that was read, which has no name where that is standard
  unit_at : (ds : List Datum) (u : source.UnitSource) (c : UnitSource) (d : Datum) (name : Option (List ℕ)) → FormsRead (forms_of c.forms) → IsSource n c u d → IfProper u.name → name ≡ option_map library_text u.name → Begins ds u c.span →
      IsReadAt spelled ds n u name (without_standard c) None
  unit_at ds u c d name read h proper is begins = go (has_standard c.name) refl
    where
      by_name : (b : Bool) → has_standard c.name ≡ b → cond b None c.name ≡ option_map spelled (imported_as 0 u)
      by_name b e =
          as_imported spelled u.name b (sym (standard_told u.name c.name (λ other k. unit_spelled other k n c u d proper h)) ∙ e) c.name (unit_spelled spelled written n c u d proper h)
          ∙ ap (λ (o : Option LibraryName). option_map spelled (unless_standard o)) (sym (usable_name u (forms_of c.forms) h.forms))

      own : IsSourceOf spelled (prepared [] n (record { document = 0; source = u })) None c
      own = source_of u c d h read

      go : (b : Bool) → has_standard c.name ≡ b → IsReadAt spelled ds n u name (cond b (record c { name = None }) c) None
      go true e = record {
        name = is;
        spells = λ whole. is ∙ (sym h.name ∙ unit_spelled spelled written n c u d proper h);
        bad = ap (λ (f : Flat). option_map told (declared_fault n f None)) (sym h.forms);
        named = by_name true e;
        begins = begins;
        source = record { kind = own.kind; forms = own.forms; imports = own.imports; exports = own.exports; single = own.single; lost = own.lost };
        read = read;
      }
      go false e = record {
        name = is;
        spells = λ whole. is ∙ (sym h.name ∙ unit_spelled spelled written n c u d proper h);
        bad = ap (λ (f : Flat). option_map told (declared_fault n f None)) (sym h.forms);
        named = by_name false e;
        begins = begins;
        source = own;
        read = read;
      }

  -- a unit that has no forms
  blank_at : (ds : List Datum) (u : source.UnitSource) (e : EarlyFault) (c : UnitSource) (name : Option (List ℕ)) → u.forms ≡ Err e → u.lost ≡ [] → kind_as c.kind ≡ u.kind → IsBlank c → name ≡ option_map library_text u.name → Begins ds u c.span →
      IsReadAt spelled ds n u name c (Some (told (early_fault n e)))
  blank_at ds u e c name bad none kind blank is begins =
      let nothing : forms_or_none u.forms ≡ [] = ap forms_or_none bad in
      record {
        name = is;
        spells = λ k. (let z : Some (early_fault n e) ≡ None = sym (ap (λ (f : Flat). declared_fault n f None) bad) ∙ k in absurd cc);
        bad = ap (λ (f : Flat). option_map told (declared_fault n f None)) (sym bad);
        named = blank.name ∙ ap (λ (o : Option LibraryName). option_map spelled (unless_standard o)) (sym (no_name_if u e bad));
        begins = begins;
        source = record {
          kind = kind;
          forms = nothing ∙ ap forms_of (sym blank.forms);
          imports = λ k. subst (λ (cs : List code_import.ImportSpec). AllMatch (IsSpec spelled) cs (specs_from n 0 (forms_or_none u.forms))) (sym blank.imports)
              (subst (λ (fs : List UnitForm). AllMatch (IsSpec spelled) [] (specs_from n 0 fs)) (sym nothing) tt);
          exports = subst (λ (cs : List code_export.ExportSpec). AreExports cs (exports_from n 0 (forms_or_none u.forms))) (sym blank.exports)
              (subst (λ (fs : List UnitForm). AreExports [] (exports_from n 0 fs)) (sym nothing) tt);
          single = all_from n 0 (forms_or_none u.forms);
          lost = subst (λ (cs : List code_lost.LostString). AreLost cs u.lost) (sym blank.lost) (subst (λ (ls : List LostString). AreLost [] ls) (sym none) refl);
        };
        read = subst (λ (fs : List code_form.UnitForm). FormsRead (forms_of fs)) (sym blank.forms) tt;
      }

pub unit_for : (n : ℕ) (ds : List Datum) (u : source.UnitSource) (c : UnitSource) (d : Datum) (name : Option (List ℕ)) → FormsRead (forms_of c.forms) → IsSource n c u d → IfProper u.name → name ≡ option_map library_text u.name → Begins ds u c.span →
    IsReadFor ds n u name (without_standard c) None
unit_for n ds u c d name read h proper is begins spelled written = unit_at spelled written n ds u c d name read h proper is begins

-- one that has no name
pub nameless_for : (n : ℕ) (ds : List Datum) (u : source.UnitSource) (c : UnitSource) (d : Datum) → FormsRead (forms_of c.forms) → IsSource n c u d → u.name ≡ None → Begins ds u c.span → IsReadFor ds n u None c None
nameless_for n ds u c d read h none begins =
    let unnamed : c.name ≡ None = h.name ∙ ap (option_map library_text) none in
    let same : without_standard c ≡ c = ap (λ (o : Option (List ℕ)). cond (has_standard o) (record c { name = None }) c) unnamed in
    subst (λ (x : UnitSource). IsReadFor ds n u None x None) same (unit_for n ds u c d None read h (subst IfProper (sym none) tt) (sym (ap (option_map library_text) none)) begins)

pub blank_for : (n : ℕ) (ds : List Datum) (u : source.UnitSource) (e : EarlyFault) (c : UnitSource) (name : Option (List ℕ)) → u.forms ≡ Err e → u.lost ≡ [] → kind_as c.kind ≡ u.kind → IsBlank c → name ≡ option_map library_text u.name → Begins ds u c.span →
    IsReadFor ds n u name c (Some (told (early_fault n e)))
blank_for n ds u e c name bad none kind blank is begins spelled written = blank_at spelled written n ds u e c name bad none kind blank is begins

-- ---- why a unit has no forms

pub broken_by : (n : ℕ) (d : Datum) (u : source.UnitSource) (f : LibraryFault) (w : WholeFault) → IsUnitRead n d u (Err f) → IsWholeOf f w → (e : EarlyFault) × (u.forms ≡ Err e) × (w ≡ told (early_fault n e))
broken_by n d u library.Memory w h k = absurd k
broken_by n d u (library.BadDeclaration m span) w h k = (BadAt h.0, h.1, k ∙ (λ j. fault.BadDeclaration (h.2 j) (h.3 j)))
broken_by n d u library.TooManyTokens w h k = (TooManyTokens, h, k)
broken_by n d u (library.Cycle names) w h k = absurd k
broken_by n d u library.SameLibrary w h k = absurd k
broken_by n d u (library.NotDefined s) w h k = absurd k
broken_by n d u (library.SameExport s) w h k = absurd k

-- what is listed is a unit's kind, name and start; without forms nothing of it is lost
module _ (kind : UnitKind) (name : Option LibraryName) (start : Place) where
  pub kind_by : (l : Listing) → (source_by kind name start l).kind ≡ kind
  kind_by (Lists n fs ls) = refl
  kind_by (BadAfter n h) = refl
  kind_by TooLong = refl

  pub name_by : (l : Listing) → (source_by kind name start l).name ≡ name
  name_by (Lists n fs ls) = refl
  name_by (BadAfter n h) = refl
  name_by TooLong = refl

  pub start_by : (l : Listing) → (source_by kind name start l).start ≡ start
  start_by (Lists n fs ls) = refl
  start_by (BadAfter n h) = refl
  start_by TooLong = refl

  pub none_lost : (l : Listing) (e : EarlyFault) → (source_by kind name start l).forms ≡ Err e → (source_by kind name start l).lost ≡ []
  none_lost (Lists n fs ls) e h = absurd cc
  none_lost (BadAfter n x) e h = refl
  none_lost TooLong e h = refl

-- ---- one unit more

-- what breaks a unit by itself
abbrev pub fault_with : ℕ → Option WholeFault → Option WholeFault
fault_with n bad = cond (nat_le max_units n) (Some fault.TooMany) bad

module _ (spelled : LibraryName → List ℕ) (n : ℕ) (document : ℕ) (u : source.UnitSource) (name : Option (List ℕ)) (c : UnitSource) (bad : Option WholeFault) (docs : List Document) (is : IsReadAt spelled (data_at docs document) n u name c bad) where
  faults : (b : Bool) → cond b (Some fault.TooMany) bad ≡ option_map told (cond b (Some model.TooMany) (declared_fault n u.forms None))
  faults true = refl
  faults false = is.bad

  names : (f : Flat) → u.forms ≡ f → (b : Bool) → nat_le max_units n ≡ b → cond b (Some model.TooMany) (declared_fault n f None) ≡ None → name ≡ option_map spelled (name_if n u)
  names f e true test whole = absurd cc
  names (Err f) e false test whole = absurd cc
  names (Ok fs) e false test whole =
      let lt : n < max_units = grind (arith, nat_tests) in
      is.spells (ap (λ (f : Flat). declared_fault n f None) e) ∙ ap (option_map spelled) (sym (foremost_name n u lt ∙ usable_name u fs e))

  one_of : (h : Head) → h.document ≡ document → h.kind ≡ c.kind → h.name ≡ name → h.span ≡ c.span → h.firsts.items ≡ map (λ f. f.datum.first) c.forms → h.homes.items ≡ map (λ f. unit_or n f.home) c.forms → h.names.items ≡ names_in_forms n 0 (forms_of c.forms) → h.imports ≡ [] → h.fault ≡ fault_with n bad → h.ranges.items ≡ ranges_from n 0 (forms_of c.forms) → IsOne docs spelled n (placed_in document u) h c
  one_of h doc kind called span firsts homes named imports broken ranges = record {
    told = record {
      document = doc;
      kind = ap kind_as kind ∙ is.source.kind;
      name = called ∙ is.name;
      begins = subst (λ (x : Span). Begins (data_at docs document) u x) (sym span) is.begins;
      firsts = firsts ∙ (firsts_seen c.forms ∙ ap (λ (fs : List UnitForm). map (λ (f : UnitForm). (place_of f.datum).first) fs) (sym is.source.forms));
      homes = homes ∙ (homes_seen n c.forms ∙ ap (λ (fs : List UnitForm). map (λ (f : UnitForm). unit_or n f.home) fs) (sym is.source.forms));
      names = named ∙ ap (λ (fs : List UnitForm). names_in_forms n 0 fs) (sym is.source.forms);
      ranges = ranges ∙ ap (λ (fs : List UnitForm). ranges_from n 0 fs) (sym is.source.forms);
    };
    listed = record {
      fault = broken ∙ faults (nat_le max_units n);
      name = λ whole. called ∙ names u.forms refl (nat_le max_units n) refl whole;
      imports = imports;
    };
    named = is.named;
    source = source_in spelled n c [] [] (record { document = 0; source = u }) (placed_in document u) refl is.source;
    read = is.read;
  }

-- a list with one item more
module _ {A : Type 0} (xs : List A) (x : A) (m n : ℕ) (y : A) (many : length xs ≡ m) where
  is_old : n < m → slice_get (xs ++ x ∷ []) n ≡ Some y → slice_get xs n ≡ Some y
  is_old lt at = go (push_cases xs x n y at)
    where
      go : (slice_get xs n ≡ Some y) ⊎ ((n ≡ length xs) × (y ≡ x)) → slice_get xs n ≡ Some y
      go (inl h) = h
      go (inr h) = let last = h.0 in absurd (omega (arith, last, lt, many))

  is_last : n ≡ m → slice_get (xs ++ x ∷ []) n ≡ Some y → y ≡ x
  is_last e at = go (push_cases xs x n y at)
    where
      go : (slice_get xs n ≡ Some y) ⊎ ((n ≡ length xs) × (y ≡ x)) → y ≡ x
      go (inl h) = let low = slice_get_within xs n y h in absurd (omega (arith, low, e, many))
      go (inr h) = h.1

module _ (docs : List Document) (spelled : LibraryName → List ℕ) (all : List Placed) (old new : Units) (p : Placed) (h : Head) (c : UnitSource) (far : AreSoFar docs spelled all old)
    (heads : new.heads.items ≡ old.heads.items ++ h ∷ []) (sources : new.sources.items ≡ old.sources.items ++ c ∷ []) (one : IsOne docs spelled (length all) p h c) where
  each_more : (n : ℕ) (q : Placed) (g : Head) (d : UnitSource) → slice_get (all ++ p ∷ []) n ≡ Some q → slice_get (old.heads.items ++ h ∷ []) n ≡ Some g → slice_get (old.sources.items ++ c ∷ []) n ≡ Some d → IsOne docs spelled n q g d
  each_more n q g d there head at = go (push_cases all p n q there)
    where
      go : (slice_get all n ≡ Some q) ⊎ ((n ≡ length all) × (q ≡ p)) → IsOne docs spelled n q g d
      go (inl k) =
          let lt : n < length all = slice_get_within all n q k in
          far.each n q g d k (is_old old.heads.items h (length all) n g far.heads lt head) (is_old old.sources.items c (length all) n d far.sources lt at)
      go (inr k) =
          let g_is : g ≡ h = is_last old.heads.items h (length all) n g far.heads k.0 head in
          let d_is : d ≡ c = is_last old.sources.items c (length all) n d far.sources k.0 at in
          subst (λ (m : ℕ). IsOne docs spelled m q g d) (sym k.0)
          (subst (λ (r : Placed). IsOne docs spelled (length all) r g d) (sym k.1)
          (subst (λ (f : Head). IsOne docs spelled (length all) p f d) (sym g_is) (subst (λ (e : UnitSource). IsOne docs spelled (length all) p h e) (sym d_is) one)))

  more_so_far : AreSoFar docs spelled (all ++ p ∷ []) new
  more_so_far = record {
    heads = ap (λ (hs : List Head). length hs) heads ∙ length_push old.heads.items h ∙ ap (λ (n : ℕ). n + 1) far.heads ∙ sym (length_push all p);
    sources = ap (λ (cs : List UnitSource). length cs) sources ∙ length_push old.sources.items c ∙ ap (λ (n : ℕ). n + 1) far.sources ∙ sym (length_push all p);
    each = λ n q g d there head at. each_more n q g d there (sym (ap (λ (hs : List Head). slice_get hs n) heads) ∙ head) (sym (ap (λ (cs : List UnitSource). slice_get cs n) sources) ∙ at);
  }

-- a unit was added with its head
pub unit_added : (docs : List Document) (document : ℕ) (u : source.UnitSource) (old new : Units) (h : Head) (c : UnitSource) (name : Option (List ℕ)) (bad : Option WholeFault) → IsReadFor (data_at docs document) (length old.sources.items) u name c bad →
    h.document ≡ document → h.kind ≡ c.kind → h.name ≡ name → h.span ≡ c.span → h.firsts.items ≡ map (λ f. f.datum.first) c.forms → h.homes.items ≡ map (λ f. unit_or (length old.sources.items) f.home) c.forms →
    h.names.items ≡ names_in_forms (length old.sources.items) 0 (forms_of c.forms) → h.imports ≡ [] → h.fault ≡ fault_with (length old.sources.items) bad → h.ranges.items ≡ ranges_from (length old.sources.items) 0 (forms_of c.forms) →
    new.heads.items ≡ old.heads.items ++ h ∷ [] → new.sources.items ≡ old.sources.items ++ c ∷ [] → AddsRead docs document (u ∷ []) old new
unit_added docs document u old new h c name bad read doc kind called span firsts homes named imports broken ranges heads sources spelled written all far =
    more_so_far docs spelled all old new (placed_in document u) h c far heads sources
    (subst (λ (n : ℕ). IsOne docs spelled n (placed_in document u) h c) far.sources
    (one_of spelled (length old.sources.items) document u name c bad docs (read spelled written) h doc kind called span firsts homes named imports broken ranges))

-- ---- units of a document

pub nothing_added : (docs : List Document) (document : ℕ) (u : Units) → AddsRead docs document [] u u
nothing_added docs document u spelled written all far = subst (λ (ps : List Placed). AreSoFar docs spelled ps u) (sym (append-nil all)) far

pub added_more : (docs : List Document) (document : ℕ) (us vs : List source.UnitSource) (old mid new : Units) → AddsRead docs document us old mid → AddsRead docs document vs mid new → AddsRead docs document (us ++ vs) old new
added_more docs document us vs old mid new first next spelled written all far =
    subst (λ (ps : List Placed). AreSoFar docs spelled ps new) (append_assoc all (map (placed_in document) us) (map (placed_in document) vs) ∙ ap (λ (ps : List Placed). all ++ ps) (sym (map-append (placed_in document) us vs)))
    (next spelled written (all ++ map (placed_in document) us) (first spelled written all far))

-- ---- all units

module _ (docs : List Document) (spelled : LibraryName → List ℕ) (all : List Placed) (u : Units) (far : AreSoFar docs spelled all u) where
  head_at : (n : ℕ) (p : Placed) → slice_get all n ≡ Some p → (h : Head) × (slice_get u.heads.items n ≡ Some h)
  head_at n p there = get_within u.heads.items n (let lt = slice_get_within all n p there in let many = far.heads in omega arith)

  source_at : (n : ℕ) (p : Placed) → slice_get all n ≡ Some p → (c : UnitSource) × (slice_get u.sources.items n ≡ Some c)
  source_at n p there = get_within u.sources.items n (let lt = slice_get_within all n p there in let many = far.sources in omega arith)

  unit_of : (n : ℕ) (p : Placed) (c : UnitSource) → n < max_units → slice_get all n ≡ Some p → slice_get u.sources.items n ≡ Some c → IsUnit spelled n c p.source
  unit_of n p c lt there at =
      let h = head_at n p there in
      let one = far.each n p h.0 c there h.1 at in
      record {
        name = one.named ∙ ap (λ (o : Option LibraryName). option_map spelled (unless_standard o)) (sym (foremost_name n p.source lt));
        imports = imports_back spelled c.imports (specs_from n 0 (forms_or_none p.source.forms)) (one.source.imports refl);
        exports = one.source.exports;
      }

units_up : (spelled : LibraryName → List ℕ) (m n : ℕ) (cs : List UnitSource) (ps : List Placed) → length cs ≡ length ps → ((k : ℕ) (c : UnitSource) (p : Placed) → k < m → slice_get cs k ≡ Some c → slice_get ps k ≡ Some p → IsUnit spelled (n + k) c p.source) →
    AreUnitsFrom spelled n (take m cs) (take m ps)
units_up spelled zero n cs ps many each = tt
units_up spelled (suc m) n [] [] many each = tt
units_up spelled (suc m) n [] (p ∷ ps) many each = absurd (omega arith)
units_up spelled (suc m) n (c ∷ cs) [] many each = absurd (omega arith)
units_up spelled (suc m) n (c ∷ cs) (p ∷ ps) many each = (
  subst (λ (k : ℕ). IsUnit spelled k c p.source) (omega arith) (each 0 c p (omega arith) refl refl),
  units_up spelled m (suc n) cs ps (omega arith)
      (λ k d q lt at there. subst (λ (i : ℕ). IsUnit spelled i d q.source) (moved k) (each (suc k) d q (omega arith) at there)),
)
  where
    moved : (k : ℕ) → n + suc k ≡ suc n + k
    moved k = omega arith

pub all_listed : (spelled : LibraryName → List ℕ) (docs : List Document) (u : Units) → AreSoFar docs spelled (units_of docs) u → AreUnitsListed spelled docs u
all_listed spelled docs u far = record {
  units = units_up spelled max_units 0 u.sources.items (units_of docs) far.sources (λ k c p lt at there. subst (λ (i : ℕ). IsUnit spelled i c p.source) (from_zero k) (unit_of docs spelled (units_of docs) u far k p c lt there at));
  listed = record {
    count = far.heads;
    each = λ n p h there at. (let c = source_at docs spelled (units_of docs) u far n p there in (far.each n p h c.0 there at c.1).listed);
  };
  read = λ n p c there at. (let h = head_at docs spelled (units_of docs) u far n p there in source_in spelled n c [] (units_of docs) p p refl (far.each n p h.0 c there h.1 at).source);
  told = λ n p h there at. (let c = source_at docs spelled (units_of docs) u far n p there in (far.each n p h c.0 there at c.1).told);
  forms = λ n c at. forms_at n c at;
}
  where
    from_zero : (k : ℕ) → k ≡ 0 + k
    from_zero k = omega arith

    forms_at : (n : ℕ) (c : UnitSource) → slice_get u.sources.items n ≡ Some c → FormsRead (forms_of c.forms)
    forms_at n c at =
        let lt = slice_get_within u.sources.items n c at in
        let many = far.sources in
        let p = get_within (units_of docs) n (omega arith) in
        let h = head_at docs spelled (units_of docs) u far n p.0 p.1 in
        (far.each n p.0 h.0 c p.1 h.1 at).read
