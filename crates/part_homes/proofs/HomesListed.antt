-- What holds of the homes of all data of texts that can be included holds of the home of each form of a unit.
use Rattle.std.proofs.Common.{◌≡◌, ℕ, zero, suc, ◌+◌, List, [], ◌∷◌, ◌++◌, map, length, Bool, true, false, cond, codes, Option, Some, None, Result, Ok, Err, refl, subst, arith}
use Rattle.std.specs.Prelude.{◌&&◌, nat_lt}
use Rattle.scheme_model.specs.declared.Home.{Home}
use Rattle.scheme_model.specs.Data.{Datum, atom, list, vector, bytes, Data, none, part, tail, Place, place_of}
use Rattle.scheme_model.specs.Declarations.{UnitForm, UnitKind, IsLibrary, IsProgram, plain_form, proper_parts, all_export_parts, Declared, Exports, Imports, Begins, Chooses, Includes, Undeclared, declared_by, symbol_in, behind_head, is_headed, is_proper, is_library, library_name, library_name_in}
use Rattle.scheme_model.specs.ExpansionFaults.{Fault}
use Rattle.scheme_model.specs.Included.{Homed, FlatForm, Listing, Lists, BadAfter, TooLong, Texts, Sources, Clause, Given, inside, joined, capped, followed, in_a_row, texts_or, form_or_texts, form_alone, forms_of, bad, including, choice, chosen, later_clauses, declared_as, if_proper, with_clause, clause_with, declaration, declarations, clauses, clause_of, declarations_of, given_at, given_or_lost, lost, texts, included_data, given_from, given, all_texts}
use Rattle.scheme_model.specs.IncludedUnits.{UnitSource, Placed, own, if_named, library_listing, library_of, libraries_in, with_imports, importing, part_of, program_in, source_by, unless_circular, unit_form, units_in, units_from}
use Rattle.scheme_model.specs.Includes.{StringAt, Document, Naming, data_of, includes, includes_declarations, document_at, is_among, is_on_circle, is_part, program_data}
use Rattle.scheme_model.specs.Requirements.{LibraryName, Known, clause_holds}
use Rattle.form_laws.specs.Begins.{Each}

each_joined : {X : Type 0} (P : X → Type 0) (xs ys : List X) → Each P xs → Each P ys → Each P (xs ++ ys)
each_joined P [] ys h k = k
each_joined P (x ∷ xs) ys h k = (h.0, each_joined P xs ys h.1 k)

one_or : {X : Type 0} (P : X → Type 0) (b : Bool) (x y : X) → P x → P y → P (cond b x y)
one_or P true x y h k = h
one_or P false x y h k = k

module _ (Q : Home → Type 0) where
  abbrev pub IfHome : Option Home → Type 0
  IfHome None = Unit {0}
  IfHome (Some h) = Q h

  abbrev pub Fits : Homed → Type 0
  Fits x = IfHome x.home

  abbrev pub FlatFits : FlatForm → Type 0
  FlatFits f = Fits f.source

  abbrev pub Gives : Listing → Type 0
  Gives (Lists n fs ls) = Each FlatFits fs
  Gives (BadAfter n h) = Unit {0}
  Gives TooLong = Unit {0}

  abbrev pub FormFits : UnitForm → Type 0
  FormFits f = IfHome f.home

  abbrev pub SourceFits : UnitSource → Type 0
  SourceFits u = (fs : List UnitForm) → u.forms ≡ Ok fs → Each FormFits fs

  -- ---- listings in a row

  joined_gives : (a b : Listing) → Gives a → Gives b → Gives (joined a b)
  joined_gives TooLong b h k = tt
  joined_gives (BadAfter n d) b h k = tt
  joined_gives (Lists n fs ls) TooLong h k = tt
  joined_gives (Lists n fs ls) (BadAfter m d) h k = tt
  joined_gives (Lists n fs ls) (Lists m gs ks) h k = each_joined FlatFits fs gs h k

  capped_gives : (limit : ℕ) (l : Listing) → Gives l → Gives (capped limit l)
  capped_gives limit TooLong h = tt
  capped_gives limit (BadAfter n d) h = one_or Gives (nat_lt limit n) TooLong (BadAfter n d) tt h
  capped_gives limit (Lists n fs ls) h = one_or Gives (nat_lt limit n) TooLong (Lists n fs ls) tt h

  followed_gives : (limit : ℕ) (a b : Listing) → Gives a → Gives b → Gives (followed limit a b)
  followed_gives limit a b h k = capped_gives limit (joined a b) (joined_gives a b h k)

  strings_give : (limit : ℕ) (f : StringAt → Listing) (ss : List StringAt) → ((s : StringAt) → Gives (f s)) → Gives (in_a_row limit (map f ss))
  strings_give limit f [] h = tt
  strings_give limit f (s ∷ ss) h = followed_gives limit (f s) (in_a_row limit (map f ss)) (h s) (strings_give limit f ss h)

  or_strings : (limit : ℕ) (f : StringAt → Listing) (o : Option (List StringAt)) (other : Listing) → ((s : StringAt) → Gives (f s)) → Gives other → Gives (texts_or limit f o other)
  or_strings limit f None other h k = k
  or_strings limit f (Some ss) other h k = strings_give limit f ss h

  pub record TextsGive (t : Texts) : Type 0 where
    pub forms : (n : ℕ) (s : StringAt) → Gives (t.as_forms n s)
    pub declarations : (n : ℕ) (s : StringAt) → Gives (t.as_declarations n s)

  -- ---- clauses

  abbrev IfGives : Option Listing → Type 0
  IfGives None = Unit {0}
  IfGives (Some l) = Gives l

  abbrev ClausesGive : Option (List Clause) → Type 0
  ClausesGive None = Unit {0}
  ClausesGive (Some cs) = Each (λ (c : Clause). Gives c.given) cs

  abbrev ClauseGives : Option Clause → Type 0
  ClauseGives None = Unit {0}
  ClauseGives (Some c) = Gives c.given

  clauses_with : (c : Option Clause) (cs : Option (List Clause)) → ClauseGives c → ClausesGive cs → ClausesGive (with_clause c cs)
  clauses_with None cs h k = tt
  clauses_with (Some c) None h k = tt
  clauses_with (Some c) (Some cs) h k = (h, k)

  headed_gives : (o : Option (List Datum)) (d : Datum) (l : Listing) → Gives l → ClauseGives (clause_with o d l)
  headed_gives None d l h = tt
  headed_gives (Some ds) d l h = h

  chosen_gives : (known : Known) (cs : List Clause) → Each (λ (c : Clause). Gives c.given) cs → IfGives (chosen known cs)
  chosen_gives known [] h = tt
  chosen_gives known (c ∷ cs) h = go (clause_holds (λ s. s) known c.requirement (later_clauses cs)) refl (chosen known cs) refl (chosen_gives known cs h.1)
    where
      go : (r : Result Bool (Fault (List ℕ))) → clause_holds (λ s. s) known c.requirement (later_clauses cs) ≡ r → (later : Option Listing) → chosen known cs ≡ later → IfGives later → IfGives (chosen known (c ∷ cs))
      go (Err e) q later p k = rw q tt
      go (Ok true) q None p k = rw (q, p) tt
      go (Ok true) q (Some l) p k = rw (q, p) h.0
      go (Ok false) q later p k = rw (q, p) k

  choice_gives : (known : Known) (x : Homed) (o : Option (List Clause)) → ClausesGive o → Gives (choice known x o)
  choice_gives known x None h = tt
  choice_gives known x (Some []) h = tt
  choice_gives known x (Some (c ∷ cs)) h = go (chosen known (c ∷ cs)) refl (chosen_gives known (c ∷ cs) h)
    where
      go : (r : Option Listing) → chosen known (c ∷ cs) ≡ r → IfGives r → Gives (choice known x (Some (c ∷ cs)))
      go None q k = rw q tt
      go (Some l) q k = rw q k

  -- ---- data

  module _ (t : Texts) (give : TextsGive t) where
    form_or : (h : Homed) → Fits h → Gives (form_or_texts t h)
    form_or h q = or_strings t.limit (t.as_forms h.document) (includes h.datum) (form_alone false h) (give.forms h.document) (q, tt)

    pub forms_give : (hs : List Homed) → Each Fits hs → Gives (forms_of t hs)
    forms_give [] h = tt
    forms_give (x ∷ hs) h = followed_gives t.limit (form_or_texts t x) (in_a_row t.limit (map (form_or_texts t) hs)) (form_or x h.0) (forms_give hs h.1)

    all_inside : (h : Homed) → Fits h → (ds : List Datum) → Each Fits (map (inside h) ds)
    all_inside h q [] = tt
    all_inside h q (d ∷ ds) = (q, all_inside h q ds)

    alone_if : (b : Bool) (h : Homed) → Fits h → Gives (cond b (form_alone true h) (bad h))
    alone_if b h q = one_or Gives b (form_alone true h) (bad h) (q, tt) tt

    including_gives : (h : Homed) → Fits h → Gives (including t h)
    including_gives h q =
        or_strings t.limit (t.as_forms h.document) (includes h.datum) _ (give.forms h.document)
        (or_strings t.limit (t.as_declarations h.document) (includes_declarations h.datum) _ (give.declarations h.document) (alone_if (is_headed (codes "include-ci") h.datum) h q))

    module _ (known : Known) where
      declared_gives : (k : Declared) (h : Homed) (ds : List Datum) (cs : Option (List Clause)) → Fits h → ClausesGive cs → Gives (declared_as t known k h ds cs)
      declared_gives Exports h ds cs q k = alone_if (all_export_parts ds) h q
      declared_gives Imports h ds cs q k = (q, tt)
      declared_gives Begins h ds cs q k = forms_give (map (inside h) ds) (all_inside h q ds)
      declared_gives Chooses h ds cs q k = choice_gives known h cs k
      declared_gives Includes h ds cs q k = including_gives h q
      declared_gives Undeclared h ds cs q k = tt

      by_parts : (k : Declared) (h : Homed) (o : Option (List Datum)) (cs : Option (List Clause)) → Fits h → ClausesGive cs → Gives (if_proper h o (λ ps. declared_as t known k h ps cs))
      by_parts k h None cs q read = tt
      by_parts k h (Some ps) cs q read = declared_gives k h ps cs q read

      mutual
        declaration_gives : (h : Homed) → Fits h → (d : Datum) → Gives (declaration t known h d)
        declaration_gives h q (atom p kind) = tt
        declaration_gives h q (vector p ds) = tt
        declaration_gives h q (bytes p bs) = tt
        declaration_gives h q (list p none) = tt
        declaration_gives h q (list p (tail d)) = tt
        declaration_gives h q (list p (part d ds)) = by_parts (declared_by (symbol_in d)) (inside h (list p (part d ds))) (proper_parts ds) (clauses t known h ds) q (clauses_give h q ds)

        declarations_give : (h : Homed) → Fits h → (whole : Datum) (ds : Data) → Gives (declarations t known h whole ds)
        declarations_give h q whole none = tt
        declarations_give h q whole (tail d) = tt
        declarations_give h q whole (part d ds) = followed_gives t.limit (declaration t known h d) (declarations t known h whole ds) (declaration_gives h q d) (declarations_give h q whole ds)

        clauses_give : (h : Homed) → Fits h → (ds : Data) → ClausesGive (clauses t known h ds)
        clauses_give h q none = tt
        clauses_give h q (tail d) = tt
        clauses_give h q (part d ds) = clauses_with (clause_of t known h d) (clauses t known h ds) (clause_gives h q d) (clauses_give h q ds)

        clause_gives : (h : Homed) → Fits h → (d : Datum) → ClauseGives (clause_of t known h d)
        clause_gives h q (atom p kind) = tt
        clause_gives h q (vector p ds) = tt
        clause_gives h q (bytes p bs) = tt
        clause_gives h q (list p none) = tt
        clause_gives h q (list p (tail d)) = tt
        clause_gives h q (list p (part d ds)) = headed_gives (proper_parts ds) d (declarations t known h (list p (part d ds)) ds) (declarations_give h q (list p (part d ds)) ds)

      row_gives : (hs : List Homed) → Each Fits hs → Gives (declarations_of t known hs)
      row_gives [] h = tt
      row_gives (x ∷ hs) h =
          followed_gives t.limit (declaration t known x x.datum) (in_a_row t.limit (map (λ (y : Homed). declaration t known y y.datum) hs)) (declaration_gives x h.0 x.datum) (row_gives hs h.1)

      -- ---- units

      flat_fit : (fs : List FlatForm) → Each FlatFits fs → Each FormFits (map unit_form fs)
      flat_fit [] h = tt
      flat_fit (f ∷ fs) h = (h.0, flat_fit fs h.1)

      source_fits : (kind : UnitKind) (name : Option LibraryName) (start : Place) (l : Listing) → Gives l → SourceFits (source_by kind name start l)
      source_fits kind name start (Lists n fs ls) h gs e = let same : map unit_form fs ≡ gs = cc in subst (Each FormFits) same (flat_fit fs h)
      source_fits kind name start (BadAfter n x) h gs e = absurd cc
      source_fits kind name start TooLong h gs e = absurd cc

      named_gives : (h : Homed) (n : Option LibraryName) (l : Listing) → Gives l → Gives (if_named h n l)
      named_gives h None l k = tt
      named_gives h (Some n) l k = k

      listing_gives : (h : Homed) → Fits h → (ds : Data) → Gives (library_listing t known h ds)
      listing_gives h q none = tt
      listing_gives h q (tail d) = tt
      listing_gives h q (part n ds) = named_gives h (library_name_in (part n ds)) (declarations t known h h.datum ds) (declarations_give h q h.datum ds)

      imports_fit : (fs : List FlatForm) → Each FlatFits fs → Each FlatFits (with_imports fs)
      imports_fit [] h = tt
      imports_fit (f ∷ fs) h = one_or (Each FlatFits) (is_headed (codes "import") f.source.datum && is_proper f.source.datum) (record f { declared = true } ∷ with_imports fs) (f ∷ fs) (h.0, imports_fit fs h.1) h

      importing_gives : (l : Listing) → Gives l → Gives (importing l)
      importing_gives (Lists n fs ls) h = imports_fit fs h
      importing_gives (BadAfter n x) h = tt
      importing_gives TooLong h = tt

      own_fit : (n : ℕ) (ds : List Datum) → Each Fits (map (own n) ds)
      own_fit n [] = tt
      own_fit n (d ∷ ds) = (tt, own_fit n ds)

      plain_fit : (ds : List Datum) → Each FormFits (map plain_form ds)
      plain_fit [] = tt
      plain_fit (d ∷ ds) = (tt, plain_fit ds)

      libraries_fit : (n : ℕ) (ds : List Datum) → Each SourceFits (libraries_in t known n ds)
      libraries_fit n [] = tt
      libraries_fit n (d ∷ ds) =
          one_or (Each SourceFits) (is_library d) (library_of t known n d ∷ libraries_in t known n ds) (libraries_in t known n ds)
          (source_fits IsLibrary (library_name d) (place_of d) (library_listing t known (own n d) (behind_head d)) (listing_gives (own n d) tt (behind_head d)), libraries_fit n ds) (libraries_fit n ds)

      part_fits : (start : Place) (ds : List Datum) → SourceFits (part_of start ds)
      part_fits start ds gs e = let same : map plain_form ds ≡ gs = cc in subst (Each FormFits) same (plain_fit ds)

      program_fits : (n : ℕ) (b : Bool) (ds : List Datum) → Each SourceFits (program_in t n b ds)
      program_fits n b [] = tt
      program_fits n b (d ∷ ds) = (
        one_or SourceFits b (part_of (place_of d) (d ∷ ds)) (source_by IsProgram None (place_of d) (importing (forms_of t (map (own n) (d ∷ ds))))) (part_fits (place_of d) (d ∷ ds))
            (source_fits IsProgram None (place_of d) (importing (forms_of t (map (own n) (d ∷ ds)))) (importing_gives (forms_of t (map (own n) (d ∷ ds))) (forms_give (map (own n) (d ∷ ds)) (own_fit n (d ∷ ds))))),
        tt,
      )

      unless_fits : (c : Bool) (u : UnitSource) → SourceFits u → SourceFits (unless_circular c u)
      unless_fits true u h gs e = absurd cc
      unless_fits false u h gs e = h gs e

      all_fit : (c : Bool) (us : List UnitSource) → Each SourceFits us → Each SourceFits (map (unless_circular c) us)
      all_fit c [] h = tt
      all_fit c (u ∷ us) h = (unless_fits c u h.0, all_fit c us h.1)

      abbrev pub PlacedFits : Placed → Type 0
      PlacedFits u = SourceFits u.source

      placed_fit : (n : ℕ) (us : List UnitSource) → Each SourceFits us → Each PlacedFits (map (λ (u : UnitSource). record { document = n; source = u }) us)
      placed_fit n [] h = tt
      placed_fit n (u ∷ us) h = (h.0, placed_fit n us h.1)

      pub units_fit : (all : Naming) (n : ℕ) (ds : List Document) → Each PlacedFits (units_from t known all n ds)
      units_fit all n [] = tt
      units_fit all n (d ∷ ds) =
          let us = units_in t known all n (data_of d) in
          each_joined PlacedFits (map (λ (u : UnitSource). record { document = n; source = u }) us) (units_from t known all (suc n) ds)
          (placed_fit n us (all_fit (is_on_circle all n) _ (each_joined SourceFits (libraries_in t known n (data_of d)) (program_in t n (is_part all n) (program_data (data_of d))) (libraries_fit n (data_of d)) (program_fits n (is_part all n) (program_data (data_of d))))))
          (units_fit all (suc n) ds)

  -- ---- the texts of documents

  abbrev GivenFits : Given → Type 0
  GivenFits g = Gives g.forms × Gives g.declarations

  or_lost : (us : List ℕ) (f : ℕ → Listing) (o : Option ℕ) (other : Listing) → ((m : ℕ) → is_among us m ≡ true → Gives (f m)) → Gives other → Gives (given_or_lost us f o other)
  or_lost us f None other h k = k
  or_lost us f (Some m) other h k = go (is_among us m) (h m)
    where
      go : (b : Bool) → (b ≡ true → Gives (f m)) → Gives (cond b (f m) other)
      go true h = h refl
      go false h = k

  module _ (o : Sources) (included : (n : ℕ) → is_among o.usable n ≡ true → Each Fits (included_data o.documents n)) where
    abbrev AllGive : List Given → Type 0
    AllGive gs = (n : ℕ) → is_among o.usable n ≡ true → GivenFits (given_at gs n)

    texts_give : (gs : List Given) → AllGive gs → TextsGive (texts o gs)
    texts_give gs h = record {
      forms = λ n s. or_lost o.usable (λ m. (given_at gs m).forms) ((document_at o.documents n).meant s.characters) (lost n s) (λ m u. (h m u).0) tt;
      declarations = λ n s. or_lost o.usable (λ m. (given_at gs m).declarations) ((document_at o.documents n).meant s.characters) (lost n s) (λ m u. (h m u).1) tt;
    }

    from_gives : (t : Texts) → TextsGive t → (n : ℕ) (ds : List Document) (k : ℕ) → is_among o.usable (n + k) ≡ true → GivenFits (given_at (given_from o t n ds) k)
    from_gives t give n [] k u = (tt, tt)
    from_gives t give n (d ∷ ds) zero u =
        let v = subst (λ m. is_among o.usable m ≡ true) (let e : n + 0 ≡ n = omega arith in e) u in
        (forms_give t give (included_data o.documents n) (included n v), row_gives t give o.known (included_data o.documents n) (included n v))
    from_gives t give n (d ∷ ds) (suc k) u = from_gives t give (suc n) ds k (subst (λ m. is_among o.usable m ≡ true) (let e : n + suc k ≡ suc n + k = omega arith in e) u)

    given_gives : (depth : ℕ) → AllGive (given o depth)
    given_gives zero n u = (tt, tt)
    given_gives (suc depth) n u = from_gives (texts o (given o depth)) (texts_give (given o depth) (given_gives depth)) 0 o.documents n (subst (λ m. is_among o.usable m ≡ true) (let e : n ≡ 0 + n = omega arith in e) u)

    pub all_texts_give : TextsGive (all_texts o)
    all_texts_give = texts_give (given o (length o.documents)) (given_gives (length o.documents))
