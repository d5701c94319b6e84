-- What is read of the libraries and of the program of a document, as units that are listed.
use Rattle.std.proofs.Common.{◌≡◌, ℕ, List, [], ◌∷◌, map, slice_get, Bool, true, false, Option, Some, None, Result, Ok, Err, refl, sym, ap, ◌∙◌, subst}
use Rattle.std.specs.Prelude.{not, ◌&&◌}
use Rattle.std.specs.List.{list_any}
use Rattle.std.specs.Option.{option_map}
use Rattle.ls_base.specs.declared.places.Span.{Span}
use Rattle.scheme_model.specs.Data.{Datum, place_of}
use Rattle.scheme_model.specs.Declarations.{UnitForm, UnitKind, IsLibrary, IsProgram, plain_form, behind_head, library_name}
use Rattle.scheme_model.specs.Included.{Sources, Listing, all_texts, forms_of as listed_forms}
use Rattle.scheme_model.specs.IncludedUnits.{UnitSource, EarlyFault, OnCircle, source_by, unless_circular, own, library_listing, library_of, importing, part_of, program_in}
use Rattle.scheme_model.specs.Includes.{Naming, is_among, is_on_circle, is_part}
use Rattle.scheme_model.specs.Requirements.{LibraryName}
use Rattle.scheme_tokens.specs.LibraryNames.{library_text}
use Rattle.core_tree.specs.Units.{kind_as}
use Rattle.datum_reader.specs.FirstTokens.{first_token}
use Rattle.datum_reader.specs.WellFormed.{WasRead}
use Rattle.unit_sources.specs.UnitsRead.{forms_of, IsSource, IsUnitRead}
use Rattle.unit_sources.specs.declared.fault.LibraryFault.{LibraryFault}
use Rattle.unit_sources.specs.declared.units.UnitSource as code
use Rattle.unit_sources.proofs.KnownTexts.{IfProper, name_proper}
use Rattle.read_documents.specs.DataRead.{AllRead, DocumentsRead, data_at}
use Rattle.document_units.specs.Listing.{Begins, BeginsWith, IsOneOf, IsWholeOf}
use Rattle.document_units.specs.UnitsListed.{IsBlank, IsReadFor, without_standard}
use Rattle.read_documents.specs.WereRead.{FormsRead}
use Rattle.read_documents.specs.declared.heads.WholeFault.{WholeFault}
use Rattle.read_documents.specs.declared.heads.WholeFault.TheVariants as fault
use Rattle.document_units.proofs.ListedUnits.{unit_for, nameless_for, blank_for, broken_by, kind_by, name_by, start_by, none_lost}
use Rattle.document_units.proofs.ReadForms.{library_read, program_read, all_texts_read, source_read, plain_read}

-- ---- units on circles

-- a unit of a document on a circle has its name alone
pub circle_for : (n : ℕ) (ds : List Datum) (u : UnitSource) (c : code.UnitSource) (name : Option (List ℕ)) → kind_as c.kind ≡ u.kind → IsBlank c → name ≡ option_map library_text u.name → Begins ds u c.span →
    IsReadFor ds n (unless_circular true u) name c (Some fault.IncludeCycle)
circle_for n ds u c name kind blank is begins =
    blank_for n ds (unless_circular true u) OnCircle c name refl refl kind blank is (record { datum = begins.datum; there = begins.there; start = begins.start; token = begins.token })

-- ---- libraries and programs that were read

module _ (o : Sources) (documents : DocumentsRead o.documents) (document n : ℕ) where
  abbrev ds : List Datum
  ds = data_at o.documents document

  abbrev library_lists : Datum → Listing
  library_lists d = library_listing (all_texts o) o.known (own document d) (behind_head d)

  abbrev pub library : Datum → UnitSource
  library d = library_of (all_texts o) o.known document d

  -- a unit begins with a datum of the document
  begins_by : (kind : UnitKind) (name : Option LibraryName) (d : Datum) (l : Listing) (span : _) → IsOneOf ds d → span ≡ first_token d → Begins ds (source_by kind name (place_of d) l) span
  begins_by kind name d l span there token = record { datum = d; there = there; start = sym (start_by kind name (place_of d) l); token = token }

  pub library_forms : (d : Datum) (c : code.UnitSource) → WasRead d → IsSource n c (library d) d → FormsRead (forms_of c.forms)
  library_forms d c w h = source_read IsLibrary (library_name d) (place_of d) (library_lists d) (forms_of c.forms) (library_read (all_texts o) (all_texts_read o documents) o.known document d w) h.forms

  named : (d : Datum) (name : Option (List ℕ)) → name ≡ option_map library_text (library_name d) → name ≡ option_map library_text (library d).name
  named d name is = is ∙ ap (option_map library_text) (sym (name_by IsLibrary (library_name d) (place_of d) (library_lists d)))

  pub library_for : (d : Datum) (c : code.UnitSource) (name : Option (List ℕ)) → WasRead d → IsOneOf ds d → IsSource n c (library d) d → name ≡ option_map library_text (library_name d) → IsReadFor ds n (library d) name (without_standard c) None
  library_for d c name w there h is =
      let same = name_by IsLibrary (library_name d) (place_of d) (library_lists d) in
      unit_for n ds (library d) c d name (library_forms d c w h) h (subst IfProper (sym same) (name_proper (behind_head d))) (named d name is)
      (begins_by IsLibrary (library_name d) d (library_lists d) c.span there h.span)

  pub library_blank : (d : Datum) (c : code.UnitSource) (name : Option (List ℕ)) (f : LibraryFault) (w : WholeFault) → IsOneOf ds d → IsUnitRead n d (library d) (Err f) → IsWholeOf f w → kind_as c.kind ≡ IsLibrary → IsBlank c → c.span ≡ first_token d →
      name ≡ option_map library_text (library_name d) → IsReadFor ds n (library d) name c (Some w)
  library_blank d c name f w there h whole kind blank span is =
      let b = broken_by n d (library d) f w h whole in
      subst (λ (x : WholeFault). IsReadFor ds n (library d) name c (Some x)) (sym b.2)
      (blank_for n ds (library d) b.0 c name b.1 (none_lost IsLibrary (library_name d) (place_of d) (library_lists d) b.0 b.1) (kind ∙ sym (kind_by IsLibrary (library_name d) (place_of d) (library_lists d))) blank (named d name is)
      (begins_by IsLibrary (library_name d) d (library_lists d) c.span there span))

  pub library_circle : (d : Datum) (c : code.UnitSource) (name : Option (List ℕ)) → IsOneOf ds d → kind_as c.kind ≡ IsLibrary → IsBlank c → c.span ≡ first_token d → name ≡ option_map library_text (library_name d) →
      IsReadFor ds n (unless_circular true (library d)) name c (Some fault.IncludeCycle)
  library_circle d c name there kind blank span is =
      circle_for n ds (library d) c name (kind ∙ sym (kind_by IsLibrary (library_name d) (place_of d) (library_lists d))) blank (named d name is) (begins_by IsLibrary (library_name d) d (library_lists d) c.span there span)

  -- ---- programs

  abbrev program_lists : List Datum → Listing
  program_lists es = importing (listed_forms (all_texts o) (map (own document) es))

  abbrev pub program : Datum → List Datum → UnitSource
  program d rest = source_by IsProgram None (place_of d) (program_lists (d ∷ rest))

  pub program_forms : (d : Datum) (rest : List Datum) (c : code.UnitSource) → AllRead (d ∷ rest) → IsSource n c (program d rest) d → FormsRead (forms_of c.forms)
  program_forms d rest c w h = source_read IsProgram None (place_of d) (program_lists (d ∷ rest)) (forms_of c.forms) (program_read (all_texts o) (all_texts_read o documents) document (d ∷ rest) w) h.forms

  pub program_for : (d : Datum) (rest : List Datum) (c : code.UnitSource) → AllRead (d ∷ rest) → IsOneOf ds d → IsSource n c (program d rest) d → IsReadFor ds n (program d rest) None c None
  program_for d rest c w there h =
      nameless_for n ds (program d rest) c d (program_forms d rest c w h) h (name_by IsProgram None (place_of d) (program_lists (d ∷ rest))) (begins_by IsProgram None d (program_lists (d ∷ rest)) c.span there h.span)

  pub program_blank : (d : Datum) (rest : List Datum) (c : code.UnitSource) (f : LibraryFault) (w : WholeFault) → IsOneOf ds d → IsUnitRead n d (program d rest) (Err f) → IsWholeOf f w → kind_as c.kind ≡ IsProgram → IsBlank c → c.span ≡ first_token d →
      IsReadFor ds n (program d rest) None c (Some w)
  program_blank d rest c f w there h whole kind blank span =
      let l = program_lists (d ∷ rest) in
      let b = broken_by n d (program d rest) f w h whole in
      subst (λ (x : WholeFault). IsReadFor ds n (program d rest) None c (Some x)) (sym b.2)
      (blank_for n ds (program d rest) b.0 c None b.1 (none_lost IsProgram None (place_of d) l b.0 b.1) (kind ∙ sym (kind_by IsProgram None (place_of d) l)) blank (ap (option_map library_text) (sym (name_by IsProgram None (place_of d) l)))
      (begins_by IsProgram None d l c.span there span))

  pub program_circle : (d : Datum) (rest : List Datum) (c : code.UnitSource) → IsOneOf ds d → kind_as c.kind ≡ IsProgram → IsBlank c → c.span ≡ first_token d → IsReadFor ds n (unless_circular true (program d rest)) None c (Some fault.IncludeCycle)
  program_circle d rest c there kind blank span =
      let l = program_lists (d ∷ rest) in
      circle_for n ds (program d rest) c None (kind ∙ sym (kind_by IsProgram None (place_of d) l)) blank (ap (option_map library_text) (sym (name_by IsProgram None (place_of d) l))) (begins_by IsProgram None d l c.span there span)

  -- a part's program
  pub part_forms : (d : Datum) (rest : List Datum) (c : code.UnitSource) → AllRead (d ∷ rest) → IsSource n c (part_of (place_of d) (d ∷ rest)) d → FormsRead (forms_of c.forms)
  part_forms d rest c w h =
      let forms : ◌≡◌ {A = Result (List UnitForm) EarlyFault} (Ok (map plain_form (d ∷ rest))) (Ok (forms_of c.forms)) = h.forms in
      let same : map plain_form (d ∷ rest) ≡ forms_of c.forms = cc in
      subst FormsRead same (plain_read (d ∷ rest) w)

  pub part_for : (d : Datum) (rest : List Datum) (c : code.UnitSource) → AllRead (d ∷ rest) → IsOneOf ds d → IsSource n c (part_of (place_of d) (d ∷ rest)) d → IsReadFor ds n (part_of (place_of d) (d ∷ rest)) None c None
  part_for d rest c w there h = nameless_for n ds (part_of (place_of d) (d ∷ rest)) c d (part_forms d rest c w h) h refl (record { datum = d; there = there; start = refl; token = h.span })

  -- the program of a document with these data
  pub one_program : (c circular part : Bool) (es : List Datum) (d : Datum) (rest : List Datum) → circular ≡ c → part ≡ false → es ≡ d ∷ rest →
      unless_circular c (program d rest) ∷ [] ≡ map (unless_circular circular) (program_in (all_texts o) document part es)
  one_program c circular part es d rest is apart have = λ j. map (unless_circular (sym is j)) (program_in (all_texts o) document (sym apart j) (sym have j))

  pub one_part : (circular part : Bool) (es : List Datum) (d : Datum) (rest : List Datum) → circular ≡ false → part ≡ true → es ≡ d ∷ rest →
      part_of (place_of d) (d ∷ rest) ∷ [] ≡ map (unless_circular circular) (program_in (all_texts o) document part es)
  one_part circular part es d rest is whole have = λ j. map (unless_circular (sym is j)) (program_in (all_texts o) document (sym whole j) (sym have j))

  pub no_program : (circular part : Bool) (es : List Datum) → es ≡ [] → [] ≡ map (unless_circular circular) (program_in (all_texts o) document part es)
  no_program circular part es none = λ j. map (unless_circular circular) (program_in (all_texts o) document part (sym none j))

-- ---- the first datum of a program

pub none_there : (es : List Datum) → None ≡ slice_get es 0 → es ≡ []
none_there [] h = refl
none_there (e ∷ es) h = absurd cc

pub first_there : (es : List Datum) (d : Datum) → Some d ≡ slice_get es 0 → (rest : List Datum) × (es ≡ d ∷ rest)
first_there [] d h = absurd cc
first_there (e ∷ es) d h = let same : d ≡ e = cc in (es, ap (λ (x : Datum). x ∷ es) (sym same))

-- data whose first begins with these bytes
pub record Begun (span : Span) (es : List Datum) : Type 0 where
  pub first : Datum
  pub rest : List Datum
  pub have : es ≡ first ∷ rest
  pub token : span ≡ first_token first

pub begun : (span : Span) (es : List Datum) → BeginsWith span es → Begun span es
begun span [] h = absurd h
begun span (e ∷ es) h = record { first = e; rest = es; have = refl; token = h }

pub begins_with : (span : Span) (es : List Datum) (d : Datum) (rest : List Datum) → es ≡ d ∷ rest → span ≡ first_token d → BeginsWith span es
begins_with span es d rest have token = subst (BeginsWith span) (sym have) token

-- a document on a circle is no part
pub no_part : (all : Naming) (n : ℕ) (circular part : Bool) → circular ≡ is_on_circle all n → part ≡ is_part all n → circular ≡ true → part ≡ false
no_part all n circular part c p h = p ∙ ap (λ (b : Bool). list_any (λ ns. is_among ns n) all && not b) (sym c ∙ h) ∙ none (list_any (λ ns. is_among ns n) all)
  where
    none : (b : Bool) → (b && false) ≡ false
    none true = refl
    none false = refl
