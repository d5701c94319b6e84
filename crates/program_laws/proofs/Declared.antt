-- The forms of a unit are no larger than the data of the documents.
use Rattle.std.proofs.Common.{◌≡◌, ℕ, zero, suc, ◌+◌, ◌≤◌, List, [], ◌∷◌, ◌++◌, map, filter, length, Bool, true, false, not, Option, Some, None, Result, Ok, Err, refl, sym, ◌∙◌, arith, if◌then◌else◌}
use Rattle.std.specs.Prelude.{◌&&◌, nat_lt, codes}
use Rattle.scheme_model.specs.declared.Occ.{Occ}
use Rattle.scheme_model.specs.Kinds.{Name, Numeral, Quoted, Character, Truth}
use Rattle.scheme_model.specs.Data.{Atom, spelled, implied, Datum, atom, list, vector, bytes, Data, none, part, tail, Place, place_of}
use Rattle.scheme_model.specs.DataTrees.{atom_tree, tree_of, parts_of, end_of}
use Rattle.scheme_model.specs.Measures.{tree_size, trees_size, tail_size}
use Rattle.scheme_model.specs.ExpansionFaults.{Fault}
use Rattle.scheme_model.specs.Requirements.{Known, LibraryName, clause_holds}
use Rattle.scheme_model.specs.Declarations.{with_part, proper_parts, symbol_in, symbol_tree, is_headed, UnitForm, plain_form, all_export_parts, Declared, Exports, Imports, Begins, Chooses, Includes, Undeclared, declared_by, behind_head, library_name_in, library_name, is_library, is_proper, UnitKind, IsLibrary, IsProgram}
use Rattle.scheme_model.specs.Includes.{StringAt, includes, includes_declarations, Document, data_of, document_at, is_among, Naming, is_on_circle, is_part, program_data, program_number}
use Rattle.scheme_model.specs.Included.{Homed, inside, FlatForm, Listing, Lists, BadAfter, TooLong, with_lost, joined, capped, followed, in_a_row, Texts, form_alone, texts_or, form_or_texts, forms_of, bad, Clause, later_clauses, chosen, choice, including, declared_as, if_proper, with_clause, clause_with, declaration, declarations, clauses, clause_of, declarations_of, Given, given_at, lost, given_or_lost, Sources, texts, homed_from, included_data, given_from, given, all_texts}
use Rattle.scheme_model.specs.IncludedUnits.{EarlyFault, UnitSource, unit_form, source_by, unless_circular, own, if_named, library_listing, library_of, libraries_in, with_imports, importing, part_of, program_in, units_in}
use Rattle.program_laws.specs.Turns.{Each, datum_size}
use Rattle.program_laws.proofs.Lists.{each_map, each_both, one_of_two, each_filtered}

-- ---- sizes

abbrev pub nowhere : ℕ → Occ
nowhere n = record { unit = 0; form = 0; token = n }

-- how many nodes data in a row have
abbrev pub row_size : Data → ℕ
row_size ds = trees_size (parts_of (λ s. s) nowhere ds) + tail_size (end_of (λ s. s) nowhere ds)

pub atom_one : {A : Type 0} (w : List ℕ → A) (k : Atom) (o : Occ) → tree_size (atom_tree w k o) ≡ 1
atom_one w (spelled (Name s bars)) o = refl
atom_one w (spelled (Numeral text)) o = refl
atom_one w (spelled (Quoted text)) o = refl
atom_one w (spelled (Character c)) o = refl
atom_one w (spelled (Truth b)) o = refl
atom_one w (implied mark) o = refl

module _ {A : Type 0} (w : List ℕ → A) (at : ℕ → Occ) where
  mutual
    pub as_large : (d : Datum) → tree_size (tree_of w at d) ≡ datum_size d
    as_large (atom p k) = atom_one w k (at p.first) ∙ sym (atom_one (λ s. s) k (nowhere p.first))
    as_large (list p ds) = let e = row_as_large ds in omega (arith, e)
    as_large (vector p ds) = let e = parts_as_large ds in omega (arith, e)
    as_large (bytes p texts) = refl

    row_as_large : (ds : Data) → trees_size (parts_of w at ds) + tail_size (end_of w at ds) ≡ row_size ds
    row_as_large none = refl
    row_as_large (part d ds) = let a = as_large d in let b = row_as_large ds in omega (arith, a, b)
    row_as_large (tail d) = let a = as_large d in omega (arith, a)

    parts_as_large : (ds : Data) → trees_size (parts_of w at ds) ≡ trees_size (parts_of (λ s. s) nowhere ds)
    parts_as_large none = refl
    parts_as_large (part d ds) = let a = as_large d in let b = parts_as_large ds in omega (arith, a, b)
    parts_as_large (tail d) = refl

module _ (n : ℕ) where
  abbrev pub DatumWithin : Datum → Type 0
  DatumWithin d = datum_size d ≤ n

  abbrev HomedWithin : Homed → Type 0
  HomedWithin h = datum_size h.datum ≤ n

  abbrev FlatWithin : FlatForm → Type 0
  FlatWithin f = datum_size f.source.datum ≤ n

  abbrev pub FormWithin : UnitForm → Type 0
  FormWithin f = datum_size f.datum ≤ n

  abbrev pub FormsWithin : Result (List UnitForm) EarlyFault → Type 0
  FormsWithin (Ok fs) = Each FormWithin fs
  FormsWithin (Err e) = Unit {0}

  abbrev pub SourceWithin : UnitSource → Type 0
  SourceWithin u = FormsWithin u.forms

  -- ---- listings

  abbrev Within : Listing → Type 0
  Within (Lists m fs ls) = Each FlatWithin fs
  Within (BadAfter m h) = Unit {0}
  Within TooLong = Unit {0}

  joined_within : (a b : Listing) → Within a → Within b → Within (joined a b)
  joined_within TooLong b h k = tt
  joined_within (BadAfter m d) b h k = tt
  joined_within (Lists m fs ls) TooLong h k = tt
  joined_within (Lists m fs ls) (BadAfter i d) h k = tt
  joined_within (Lists m fs ls) (Lists i gs ks) h k = each_both FlatWithin fs gs h k

  capped_within : (limit : ℕ) (l : Listing) → Within l → Within (capped limit l)
  capped_within limit TooLong h = tt
  capped_within limit (BadAfter m d) h = one_of_two Within (nat_lt limit m) TooLong (BadAfter m d) tt tt
  capped_within limit (Lists m fs ls) h = one_of_two Within (nat_lt limit m) TooLong (Lists m fs ls) tt h

  row_within : {X : Type 0} (limit : ℕ) (P : X → Type 0) (f : X → Listing) → ((x : X) → P x → Within (f x)) → (xs : List X) → Each P xs → Within (in_a_row limit (map f xs))
  row_within limit P f g [] h = tt
  row_within limit P f g (x ∷ xs) h = capped_within limit (joined (f x) (in_a_row limit (map f xs))) (joined_within (f x) (in_a_row limit (map f xs)) (g x h.0) (row_within limit P f g xs h.1))

  abbrev Any : StringAt → Type 0
  Any s = Unit {0}

  any : (ss : List StringAt) → Each Any ss
  any [] = tt
  any (s ∷ ss) = (tt, any ss)

  or_within : (limit : ℕ) (text : StringAt → Listing) → ((s : StringAt) → Within (text s)) → (o : Option (List StringAt)) (other : Listing) → Within other → Within (texts_or limit text o other)
  or_within limit text g None other h = h
  or_within limit text g (Some ss) other h = row_within limit Any text (λ s x. g s) ss (any ss)

  abbrev TextsWithin : Texts → Type 0
  TextsWithin t = ((m : ℕ) (s : StringAt) → Within (t.as_forms m s)) × ((m : ℕ) (s : StringAt) → Within (t.as_declarations m s))

  -- ---- data in a row

  abbrev PartsWithin : Option (List Datum) → Type 0
  PartsWithin None = Unit {0}
  PartsWithin (Some ds) = Each DatumWithin ds

  with_within : (d : Datum) (o : Option (List Datum)) → DatumWithin d → PartsWithin o → PartsWithin (with_part d o)
  with_within d None h k = tt
  with_within d (Some ds) h k = (h, k)

  proper_within : (ds : Data) → row_size ds ≤ n → PartsWithin (proper_parts ds)
  proper_within none le = tt
  proper_within (part d ds) le = with_within d (proper_parts ds) (omega arith) (proper_within ds (omega arith))
  proper_within (tail d) le = tt

  module _ (t : Texts) (given : TextsWithin t) where
    form_within : (h : Homed) → HomedWithin h → Within (form_or_texts t h)
    form_within h le = or_within t.limit (t.as_forms h.document) (given.0 h.document) (includes h.datum) (form_alone false h) (le, tt)

    forms_within : (hs : List Homed) → Each HomedWithin hs → Within (forms_of t hs)
    forms_within hs h = row_within t.limit HomedWithin (form_or_texts t) form_within hs h

    module _ (known : Known) where
      -- ---- declarations

      abbrev ClauseWithin : Clause → Type 0
      ClauseWithin c = Within c.given

      abbrev ChosenWithin : Option Listing → Type 0
      ChosenWithin None = Unit {0}
      ChosenWithin (Some l) = Within l

      abbrev ClausesWithin : Option (List Clause) → Type 0
      ClausesWithin None = Unit {0}
      ClausesWithin (Some cs) = Each ClauseWithin cs

      abbrev OneWithin : Option Clause → Type 0
      OneWithin None = Unit {0}
      OneWithin (Some c) = ClauseWithin c

      chosen_by : (c : Clause) (cs : List Clause) (r : Result Bool (Fault (List ℕ))) (later : Option Listing) → clause_holds (λ s. s) known c.requirement (later_clauses cs) ≡ r → chosen known cs ≡ later → ClauseWithin c → ChosenWithin later
          → ChosenWithin (chosen known (c ∷ cs))
      chosen_by c cs (Err e) later i j h k = rw i tt
      chosen_by c cs (Ok true) None i j h k = rw (i, j) tt
      chosen_by c cs (Ok true) (Some l) i j h k = rw (i, j) h
      chosen_by c cs (Ok false) later i j h k = rw (i, j) k

      chosen_within : (cs : List Clause) → Each ClauseWithin cs → ChosenWithin (chosen known cs)
      chosen_within [] h = tt
      chosen_within (c ∷ cs) h = chosen_by c cs (clause_holds (λ s. s) known c.requirement (later_clauses cs)) (chosen known cs) refl refl h.0 (chosen_within cs h.1)

      choice_by : (h : Homed) (c : Clause) (cs : List Clause) (o : Option Listing) → chosen known (c ∷ cs) ≡ o → ChosenWithin o → Within (choice known h (Some (c ∷ cs)))
      choice_by h c cs None e k = rw e tt
      choice_by h c cs (Some l) e k = rw e k

      choice_within : (h : Homed) (o : Option (List Clause)) → ClausesWithin o → Within (choice known h o)
      choice_within h None k = tt
      choice_within h (Some []) k = tt
      choice_within h (Some (c ∷ cs)) k = choice_by h c cs (chosen known (c ∷ cs)) refl (chosen_within (c ∷ cs) k)

      including_within : (h : Homed) → HomedWithin h → Within (including t h)
      including_within h le =
          let stays = if is_headed (codes "include-ci") h.datum then form_alone true h else bad h in
          or_within t.limit (t.as_forms h.document) (given.0 h.document) (includes h.datum) (texts_or t.limit (t.as_declarations h.document) (includes_declarations h.datum) stays)
          (or_within t.limit (t.as_declarations h.document) (given.1 h.document) (includes_declarations h.datum) stays
          (one_of_two Within (is_headed (codes "include-ci") h.datum) (form_alone true h) (bad h) (le, tt) tt))

      declared_within : (k : Declared) (h : Homed) (ds : List Datum) (cs : Option (List Clause)) → HomedWithin h → Each DatumWithin ds → ClausesWithin cs → Within (declared_as t known k h ds cs)
      declared_within Exports h ds cs le k l = one_of_two Within (all_export_parts ds) (form_alone true h) (bad h) (le, tt) tt
      declared_within Imports h ds cs le k l = (le, tt)
      declared_within Begins h ds cs le k l = forms_within (map (inside h) ds) (each_map DatumWithin HomedWithin (inside h) ds k (λ d x. x))
      declared_within Chooses h ds cs le k l = choice_within h cs l
      declared_within Includes h ds cs le k l = including_within h le
      declared_within Undeclared h ds cs le k l = tt

      proper_declared : (h : Homed) (o : Option (List Datum)) (f : List Datum → Listing) → PartsWithin o → ((ds : List Datum) → Each DatumWithin ds → Within (f ds)) → Within (if_proper h o f)
      proper_declared h None f k g = tt
      proper_declared h (Some ds) f k g = g ds k

      clause_added : (o : Option Clause) (cs : Option (List Clause)) → OneWithin o → ClausesWithin cs → ClausesWithin (with_clause o cs)
      clause_added None cs h k = tt
      clause_added (Some c) None h k = tt
      clause_added (Some c) (Some cs) h k = (h, k)

      clause_given : (o : Option (List Datum)) (d : Datum) (l : Listing) → Within l → OneWithin (clause_with o d l)
      clause_given None d l h = tt
      clause_given (Some ds) d l h = h

      mutual
        declaration_within : (h : Homed) (d : Datum) → DatumWithin d → Within (declaration t known h d)
        declaration_within h (atom p k) le = tt
        declaration_within h (vector p ds) le = tt
        declaration_within h (bytes p bs) le = tt
        declaration_within h (list p none) le = tt
        declaration_within h (list p (tail d)) le = tt
        declaration_within h (list p (part d ds)) le =
            let whole = inside h (list p (part d ds)) in
            proper_declared whole (proper_parts ds) (λ parts. declared_as t known (declared_by (symbol_in d)) whole parts (clauses t known h ds)) (proper_within ds (omega (arith, le)))
            (λ parts k. declared_within (declared_by (symbol_in d)) whole parts (clauses t known h ds) le k (clauses_within h ds (omega (arith, le))))

        declarations_within : (h : Homed) (whole : Datum) (ds : Data) → row_size ds ≤ n → Within (declarations t known h whole ds)
        declarations_within h whole none le = tt
        declarations_within h whole (part d ds) le =
            capped_within t.limit (joined (declaration t known h d) (declarations t known h whole ds))
            (joined_within (declaration t known h d) (declarations t known h whole ds) (declaration_within h d (omega (arith, le))) (declarations_within h whole ds (omega (arith, le))))
        declarations_within h whole (tail d) le = tt

        clauses_within : (h : Homed) (ds : Data) → row_size ds ≤ n → ClausesWithin (clauses t known h ds)
        clauses_within h none le = tt
        clauses_within h (part d ds) le = clause_added (clause_of t known h d) (clauses t known h ds) (clause_within h d (omega (arith, le))) (clauses_within h ds (omega (arith, le)))
        clauses_within h (tail d) le = tt

        clause_within : (h : Homed) (d : Datum) → DatumWithin d → OneWithin (clause_of t known h d)
        clause_within h (atom p k) le = tt
        clause_within h (vector p ds) le = tt
        clause_within h (bytes p bs) le = tt
        clause_within h (list p none) le = tt
        clause_within h (list p (tail d)) le = tt
        clause_within h (list p (part d ds)) le =
            clause_given (proper_parts ds) d (declarations t known h (list p (part d ds)) ds) (declarations_within h (list p (part d ds)) ds (omega (arith, le)))

      homed_declarations : (hs : List Homed) → Each HomedWithin hs → Within (declarations_of t known hs)
      homed_declarations hs h = row_within t.limit HomedWithin (λ (x : Homed). declaration t known x x.datum) (λ x le. declaration_within x x.datum le) hs h

      -- ---- units

      named_within : (h : Homed) (o : Option LibraryName) (l : Listing) → Within l → Within (if_named h o l)
      named_within h None l k = tt
      named_within h (Some m) l k = k

      library_within : (h : Homed) (ds : Data) → row_size ds ≤ n → Within (library_listing t known h ds)
      library_within h none le = tt
      library_within h (tail e) le = tt
      library_within h (part m ds) le = named_within h (library_name_in (part m ds)) (declarations t known h h.datum ds) (declarations_within h h.datum ds (omega (arith, le)))

      behind_within : (d : Datum) → DatumWithin d → row_size (behind_head d) ≤ n
      behind_within (atom p k) le = omega arith
      behind_within (list p none) le = omega arith
      behind_within (list p (tail d)) le = omega arith
      behind_within (list p (part d ds)) le = omega (arith, le)
      behind_within (vector p ds) le = omega arith
      behind_within (bytes p bs) le = omega arith

      source_within : (kind : UnitKind) (name : Option LibraryName) (start : Place) (l : Listing) → Within l → SourceWithin (source_by kind name start l)
      source_within kind name start (Lists m fs ls) h = each_map FlatWithin FormWithin unit_form fs h (λ f x. x)
      source_within kind name start (BadAfter m d) h = tt
      source_within kind name start TooLong h = tt

      libraries_within : (document : ℕ) (ds : List Datum) → Each DatumWithin ds → Each SourceWithin (libraries_in t known document ds)
      libraries_within document [] h = tt
      libraries_within document (d ∷ ds) h =
          one_of_two (Each SourceWithin) (is_library d) (library_of t known document d ∷ libraries_in t known document ds) (libraries_in t known document ds)
          (source_within IsLibrary (library_name d) (place_of d) (library_listing t known (own document d) (behind_head d)) (library_within (own document d) (behind_head d) (behind_within d h.0)), libraries_within document ds h.1) (libraries_within document ds h.1)

      imports_within : (fs : List FlatForm) → Each FlatWithin fs → Each FlatWithin (with_imports fs)
      imports_within [] h = tt
      imports_within (f ∷ fs) h =
          one_of_two (Each FlatWithin) (is_headed (codes "import") f.source.datum && is_proper f.source.datum) (record f { declared = true } ∷ with_imports fs) (f ∷ fs) (h.0, imports_within fs h.1) h

      importing_within : (l : Listing) → Within l → Within (importing l)
      importing_within (Lists m fs ls) h = imports_within fs h
      importing_within (BadAfter m d) h = tt
      importing_within TooLong h = tt

      plain_within : (ds : List Datum) → Each DatumWithin ds → Each FormWithin (map plain_form ds)
      plain_within ds h = each_map DatumWithin FormWithin plain_form ds h (λ d k. k)

      program_within : (document : ℕ) (b : Bool) (ds : List Datum) → Each DatumWithin ds → Each SourceWithin (program_in t document b ds)
      program_within document b [] h = tt
      program_within document true (d ∷ ds) h = (plain_within (d ∷ ds) h, tt)
      program_within document false (d ∷ ds) h =
          let l = forms_of t (map (own document) (d ∷ ds)) in
          (source_within IsProgram None (place_of d) (importing l) (importing_within l (forms_within (map (own document) (d ∷ ds)) (each_map DatumWithin HomedWithin (own document) (d ∷ ds) h (λ x k. k)))), tt)

      circular_within : (b : Bool) (u : UnitSource) → SourceWithin u → SourceWithin (unless_circular b u)
      circular_within true u h = tt
      circular_within false u h = h

      pub units_within : (all : Naming) (document : ℕ) (ds : List Datum) → Each DatumWithin ds → Each SourceWithin (units_in t known all document ds)
      units_within all document ds h =
          let us = libraries_in t known document ds in
          let ps = program_in t document (is_part all document) (program_data ds) in
          each_map SourceWithin SourceWithin (unless_circular (is_on_circle all document)) (us ++ ps)
          (each_both SourceWithin us ps (libraries_within document ds h) (program_within document (is_part all document) (program_data ds) (each_filtered DatumWithin (λ d. not (is_library d)) ds h)))
          (λ u x. circular_within (is_on_circle all document) u x)

  -- ---- what texts give

  abbrev pub DocumentWithin : Document → Type 0
  DocumentWithin d = Each DatumWithin (data_of d)

  document_within : (ds : List Document) (m : ℕ) → Each DocumentWithin ds → DocumentWithin (document_at ds m)
  document_within [] m h = tt
  document_within (d ∷ ds) zero h = h.0
  document_within (d ∷ ds) (suc m) h = document_within ds m h.1

  homed_within : (document unit form : ℕ) (ds : List Datum) → Each DatumWithin ds → Each HomedWithin (homed_from document unit form ds)
  homed_within document unit form [] h = tt
  homed_within document unit form (d ∷ ds) h = (h.0, homed_within document unit (suc form) ds h.1)

  included_within : (ds : List Document) (m : ℕ) → Each DocumentWithin ds → Each HomedWithin (included_data ds m)
  included_within ds m h =
      let all = data_of (document_at ds m) in
      homed_within m (program_number ds m) 0 (program_data all) (each_filtered DatumWithin (λ d. not (is_library d)) all (document_within ds m h))

  abbrev GivenWithin : Given → Type 0
  GivenWithin g = Within g.forms × Within g.declarations

  at_within : (gs : List Given) (m : ℕ) → Each GivenWithin gs → GivenWithin (given_at gs m)
  at_within [] m h = (tt, tt)
  at_within (g ∷ gs) zero h = h.0
  at_within (g ∷ gs) (suc m) h = at_within gs m h.1

  or_lost : (us : List ℕ) (f : ℕ → Listing) (o : Option ℕ) (other : Listing) → ((m : ℕ) → Within (f m)) → Within other → Within (given_or_lost us f o other)
  or_lost us f None other g h = h
  or_lost us f (Some m) other g h = one_of_two Within (is_among us m) (f m) other (g m) h

  module _ (o : Sources) (within : Each DocumentWithin o.documents) where
    texts_within : (gs : List Given) → Each GivenWithin gs → TextsWithin (texts o gs)
    texts_within gs h = (
      λ m s. or_lost o.usable (λ i. (given_at gs i).forms) ((document_at o.documents m).meant s.characters) (lost m s) (λ i. (at_within gs i h).0) tt,
      λ m s. or_lost o.usable (λ i. (given_at gs i).declarations) ((document_at o.documents m).meant s.characters) (lost m s) (λ i. (at_within gs i h).1) tt,
    )

    from_within : (t : Texts) → TextsWithin t → (m : ℕ) (ds : List Document) → Each GivenWithin (given_from o t m ds)
    from_within t g m [] = tt
    from_within t g m (d ∷ ds) =
        let small = included_within o.documents m within in
        ((forms_within t g (included_data o.documents m) small, homed_declarations t g o.known (included_data o.documents m) small), from_within t g (suc m) ds)

    given_within : (depth : ℕ) → Each GivenWithin (given o depth)
    given_within zero = tt
    given_within (suc depth) = from_within (texts o (given o depth)) (texts_within (given o depth) (given_within depth)) 0 o.documents

    pub all_within : TextsWithin (all_texts o)
    all_within = texts_within (given o (length o.documents)) (given_within (length o.documents))
