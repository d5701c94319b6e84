-- Strings of units that mean no text stand in one of the documents.
use Rattle.std.proofs.Common.{◌≡◌, ℕ, zero, suc, ◌+◌, ◌<◌, List, [], ◌∷◌, ◌++◌, map, Bool, true, false, cond, length, slice_get, Option, Some, None, Result, Ok, Err, refl, sym, ap, ◌∙◌, subst, arith}
use Rattle.std.specs.Prelude.{◌&&◌, nat_lt, filter, not, codes}
use Rattle.std.specs.List.{list_any}
use Rattle.scheme_model.specs.Data.{Datum, atom, list, vector, bytes, Data, none, part, tail, Place, place_of}
use Rattle.scheme_model.specs.Trees.{Tree}
use Rattle.scheme_model.specs.ExpansionFaults.{Fault}
use Rattle.scheme_model.specs.Requirements.{LibraryName, Known, clause_holds}
use Rattle.scheme_model.specs.Declarations.{UnitKind, Declared, Exports, Imports, Begins, Chooses, Includes as IncludesText, Undeclared, IsProgram, IsLibrary, behind_head, library_name, library_name_in, is_library, is_headed, is_proper, declared_by, symbol_in, symbol_tree, proper_parts, all_export_parts}
use Rattle.scheme_model.specs.Includes.{StringAt, Document, document_at, data_of, Naming, naming, is_among, is_on_circle, is_part, program_data, program_number, includes, includes_declarations}
use Rattle.scheme_model.specs.Included.{Homed, inside, FlatForm, LostString, Listing, Lists, BadAfter, TooLong, nothing, is_same_string, with_one, with_lost, joined, capped, followed, in_a_row, Texts, texts_or, form_alone, form_or_texts, forms_of, bad, Clause, chosen, choice, including, declared_as, if_proper, with_clause, clause_with, clause_of, clauses, declaration, declarations, declarations_of, later_clauses, Given, given_at, given_or_lost, lost, Sources, texts, homed_from, included_data, given_from, given, all_texts}
use Rattle.scheme_model.specs.IncludedUnits.{UnitSource, Placed, source_by, unless_circular, own, if_named, library_listing, library_of, libraries_in, with_imports, importing, part_of, program_in, units_in, units_from, units_with, sources_within, max_tokens}
use Rattle.scheme_model.specs.Program.{known_in, units_of}

-- ---- listings

-- these strings stand in so many documents
abbrev AllIn : (count : ℕ) → List LostString → Type 0
AllIn count [] = Unit {0}
AllIn count (l ∷ ls) = (l.document < count) × AllIn count ls

abbrev ListsIn : (count : ℕ) → Listing → Type 0
ListsIn count (Lists n fs ls) = AllIn count ls
ListsIn count (BadAfter n h) = Unit {0}
ListsIn count TooLong = Unit {0}

abbrev AllListIn : (count : ℕ) → List Listing → Type 0
AllListIn count [] = Unit {0}
AllListIn count (l ∷ ls) = ListsIn count l × AllListIn count ls

module _ (count : ℕ) where
  one_in : (l : LostString) (ks : List LostString) → l.document < count → AllIn count ks → AllIn count (with_one l ks)
  one_in l ks here rest = go (list_any (is_same_string l) ks)
    where
      go : (b : Bool) → AllIn count (cond b ks (l ∷ ks))
      go true = rest
      go false = (here, rest)

  both_in : (ls ks : List LostString) → AllIn count ls → AllIn count ks → AllIn count (with_lost ls ks)
  both_in [] ks a b = b
  both_in (l ∷ ls) ks a b = one_in l (with_lost ls ks) a.0 (both_in ls ks a.1 b)

  joined_in : (a b : Listing) → ListsIn count a → ListsIn count b → ListsIn count (joined a b)
  joined_in TooLong b h k = tt
  joined_in (BadAfter n d) b h k = tt
  joined_in (Lists n fs ls) TooLong h k = tt
  joined_in (Lists n fs ls) (BadAfter m d) h k = tt
  joined_in (Lists n fs ls) (Lists m gs ks) h k = both_in ls ks h k

  capped_in : (limit : ℕ) (a : Listing) → ListsIn count a → ListsIn count (capped limit a)
  capped_in limit TooLong h = tt
  capped_in limit (BadAfter n d) h = go (nat_lt limit n)
    where
      go : (b : Bool) → ListsIn count (cond b TooLong (BadAfter n d))
      go true = tt
      go false = tt
  capped_in limit (Lists n fs ls) h = go (nat_lt limit n)
    where
      go : (b : Bool) → ListsIn count (cond b TooLong (Lists n fs ls))
      go true = tt
      go false = h

  followed_in : (limit : ℕ) (a b : Listing) → ListsIn count a → ListsIn count b → ListsIn count (followed limit a b)
  followed_in limit a b h k = capped_in limit (joined a b) (joined_in a b h k)

  row_in : (limit : ℕ) (ls : List Listing) → AllListIn count ls → ListsIn count (in_a_row limit ls)
  row_in limit [] h = tt
  row_in limit (l ∷ ls) h = followed_in limit l (in_a_row limit ls) h.0 (row_in limit ls h.1)

  -- what a function gives for each
  mapped_in : {X : Type 0} (f : X → Listing) → ((x : X) → ListsIn count (f x)) → (xs : List X) → AllListIn count (map f xs)
  mapped_in f h [] = tt
  mapped_in f h (x ∷ xs) = (h x, mapped_in f h xs)

-- data that stand in so many documents
abbrev AreIn : (count : ℕ) → List Homed → Type 0
AreIn count [] = Unit {0}
AreIn count (h ∷ hs) = (h.document < count) × AreIn count hs

-- what texts give by strings of so many documents
record GivesIn (count : ℕ) (t : Texts) : Type 0 where
  forms : (n : ℕ) (s : StringAt) → n < count → ListsIn count (t.as_forms n s)
  declarations : (n : ℕ) (s : StringAt) → n < count → ListsIn count (t.as_declarations n s)

module _ (count : ℕ) (t : Texts) (gives : GivesIn count t) where
  texts_in : (f : StringAt → Listing) → ((s : StringAt) → ListsIn count (f s)) → (o : Option (List StringAt)) (other : Listing) → ListsIn count other → ListsIn count (texts_or t.limit f o other)
  texts_in f h None other k = k
  texts_in f h (Some ss) other k = row_in count t.limit (map f ss) (mapped_in count f h ss)

  form_in : (h : Homed) → h.document < count → ListsIn count (form_or_texts t h)
  form_in h lt = texts_in (t.as_forms h.document) (λ s. gives.forms h.document s lt) (includes h.datum) (form_alone false h) tt

  all_forms_in : (hs : List Homed) → AreIn count hs → AllListIn count (map (form_or_texts t) hs)
  all_forms_in [] k = tt
  all_forms_in (h ∷ hs) k = (form_in h k.0, all_forms_in hs k.1)

  forms_in : (hs : List Homed) → AreIn count hs → ListsIn count (forms_of t hs)
  forms_in hs k = row_in count t.limit (map (form_or_texts t) hs) (all_forms_in hs k)

  insides_in : (h : Homed) → h.document < count → (ds : List Datum) → AreIn count (map (inside h) ds)
  insides_in h lt [] = tt
  insides_in h lt (d ∷ ds) = (lt, insides_in h lt ds)

  -- ---- declarations

  abbrev ClausesIn : List Clause → Type 0
  ClausesIn [] = Unit {0}
  ClausesIn (c ∷ cs) = ListsIn count c.given × ClausesIn cs

  abbrev ClausesIf : Option (List Clause) → Type 0
  ClausesIf None = Unit {0}
  ClausesIf (Some cs) = ClausesIn cs

  abbrev ClauseIf : Option Clause → Type 0
  ClauseIf None = Unit {0}
  ClauseIf (Some c) = ListsIn count c.given

  abbrev ListsIf : Option Listing → Type 0
  ListsIf None = Unit {0}
  ListsIf (Some l) = ListsIn count l

  chosen_in : (known : Known) (cs : List Clause) → ClausesIn cs → ListsIf (chosen known cs)
  chosen_in known [] h = tt
  chosen_in known (c ∷ cs) h = go (clause_holds (λ s. s) known c.requirement (later_clauses cs)) refl (chosen known cs) refl (chosen_in known cs h.1)
    where
      go : (r : Result Bool (Fault (List ℕ))) → clause_holds (λ s. s) known c.requirement (later_clauses cs) ≡ r → (later : Option Listing) → chosen known cs ≡ later → ListsIf later → ListsIf (chosen known (c ∷ cs))
      go (Err e) is later rest k = rw is tt
      go (Ok true) is None rest k = rw (is, rest) tt
      go (Ok true) is (Some later) rest k = rw (is, rest) h.0
      go (Ok false) is later rest k = rw (is, rest) k

  choice_in : (known : Known) (h : Homed) (o : Option (List Clause)) → ClausesIf o → ListsIn count (choice known h o)
  choice_in known h None k = tt
  choice_in known h (Some []) k = tt
  choice_in known h (Some (c ∷ cs)) k = go (chosen known (c ∷ cs)) refl (chosen_in known (c ∷ cs) k)
    where
      go : (o : Option Listing) → chosen known (c ∷ cs) ≡ o → ListsIf o → ListsIn count (choice known h (Some (c ∷ cs)))
      go None is j = rw is tt
      go (Some l) is j = rw is j

  including_in : (h : Homed) → h.document < count → ListsIn count (including t h)
  including_in h lt =
      texts_in (t.as_forms h.document) (λ s. gives.forms h.document s lt) (includes h.datum) _
      (texts_in (t.as_declarations h.document) (λ s. gives.declarations h.document s lt) (includes_declarations h.datum) _ (go (is_headed (codes "include-ci") h.datum)))
    where
      go : (b : Bool) → ListsIn count (cond b (form_alone true h) (bad h))
      go true = tt
      go false = tt

  declared_in : (known : Known) (k : Declared) (h : Homed) (ds : List Datum) (cs : Option (List Clause)) → h.document < count → ClausesIf cs → ListsIn count (declared_as t known k h ds cs)
  declared_in known Exports h ds cs lt j = go (all_export_parts ds)
    where
      go : (b : Bool) → ListsIn count (cond b (form_alone true h) (bad h))
      go true = tt
      go false = tt
  declared_in known Imports h ds cs lt j = tt
  declared_in known Begins h ds cs lt j = forms_in (map (inside h) ds) (insides_in h lt ds)
  declared_in known Chooses h ds cs lt j = choice_in known h cs j
  declared_in known IncludesText h ds cs lt j = including_in h lt
  declared_in known Undeclared h ds cs lt j = tt

  proper_in : (h : Homed) (o : Option (List Datum)) (f : List Datum → Listing) → ((ds : List Datum) → ListsIn count (f ds)) → ListsIn count (if_proper h o f)
  proper_in h None f k = tt
  proper_in h (Some ds) f k = k ds

  with_clause_in : (o : Option Clause) (cs : Option (List Clause)) → ClauseIf o → ClausesIf cs → ClausesIf (with_clause o cs)
  with_clause_in None cs h k = tt
  with_clause_in (Some c) None h k = tt
  with_clause_in (Some c) (Some cs) h k = (h, k)

  clause_with_in : (o : Option (List Datum)) (d : Datum) (l : Listing) → ListsIn count l → ClauseIf (clause_with o d l)
  clause_with_in None d l h = tt
  clause_with_in (Some ds) d l h = h

  module _ (known : Known) (h : Homed) (lt : h.document < count) where
    mutual
      declaration_in : (d : Datum) → ListsIn count (declaration t known h d)
      declaration_in (atom p a) = tt
      declaration_in (vector p ds) = tt
      declaration_in (bytes p bs) = tt
      declaration_in (list p none) = tt
      declaration_in (list p (tail d)) = tt
      declaration_in (list p (part d ds)) =
          proper_in (inside h (list p (part d ds))) (proper_parts ds) _ (λ parts. declared_in known (declared_by (symbol_in d)) (inside h (list p (part d ds))) parts (clauses t known h ds) lt (clauses_in ds))

      declarations_in : (whole : Datum) (ds : Data) → ListsIn count (declarations t known h whole ds)
      declarations_in whole none = tt
      declarations_in whole (part d ds) = followed_in count t.limit (declaration t known h d) (declarations t known h whole ds) (declaration_in d) (declarations_in whole ds)
      declarations_in whole (tail d) = tt

      clauses_in : (ds : Data) → ClausesIf (clauses t known h ds)
      clauses_in none = tt
      clauses_in (part d ds) = with_clause_in (clause_of t known h d) (clauses t known h ds) (clause_in d) (clauses_in ds)
      clauses_in (tail d) = tt

      clause_in : (d : Datum) → ClauseIf (clause_of t known h d)
      clause_in (atom p a) = tt
      clause_in (vector p ds) = tt
      clause_in (bytes p bs) = tt
      clause_in (list p none) = tt
      clause_in (list p (tail d)) = tt
      clause_in (list p (part d ds)) = clause_with_in (proper_parts ds) d (declarations t known h (list p (part d ds)) ds) (declarations_in (list p (part d ds)) ds)

  all_declarations_in : (known : Known) (hs : List Homed) → AreIn count hs → ListsIn count (declarations_of t known hs)
  all_declarations_in known hs k = row_in count t.limit (map (λ (h : Homed). declaration t known h h.datum) hs) (go hs k)
    where
      go : (hs : List Homed) → AreIn count hs → AllListIn count (map (λ (h : Homed). declaration t known h h.datum) hs)
      go [] k = tt
      go (h ∷ hs) k = (declaration_in known h k.0 h.datum, go hs k.1)

-- ---- documents

abbrev GivenIn : (count : ℕ) → List Given → Type 0
GivenIn count [] = Unit {0}
GivenIn count (g ∷ gs) = (ListsIn count g.forms × ListsIn count g.declarations) × GivenIn count gs

given_at_in : (count : ℕ) (gs : List Given) (m : ℕ) → GivenIn count gs → ListsIn count (given_at gs m).forms × ListsIn count (given_at gs m).declarations
given_at_in count [] m h = (tt, tt)
given_at_in count (g ∷ gs) zero h = h.0
given_at_in count (g ∷ gs) (suc m) h = given_at_in count gs m h.1

or_lost_in : (count : ℕ) (us : List ℕ) (f : ℕ → Listing) → ((m : ℕ) → ListsIn count (f m)) → (o : Option ℕ) (other : Listing) → ListsIn count other → ListsIn count (given_or_lost us f o other)
or_lost_in count us f h None other k = k
or_lost_in count us f h (Some m) other k = go (is_among us m)
  where
    go : (b : Bool) → ListsIn count (cond b (f m) other)
    go true = h m
    go false = k

gives_in : (count : ℕ) (o : Sources) (gs : List Given) → GivenIn count gs → GivesIn count (texts o gs)
gives_in count o gs h = record {
  forms = λ n s lt. or_lost_in count o.usable (λ m. (given_at gs m).forms) (λ m. (given_at_in count gs m h).0) ((document_at o.documents n).meant s.characters) (lost n s) (lt, tt);
  declarations = λ n s lt. or_lost_in count o.usable (λ m. (given_at gs m).declarations) (λ m. (given_at_in count gs m h).1) ((document_at o.documents n).meant s.characters) (lost n s) (lt, tt);
}

homed_in : (count n unit form : ℕ) (ds : List Datum) → n < count → AreIn count (homed_from n unit form ds)
homed_in count n unit form [] lt = tt
homed_in count n unit form (d ∷ ds) lt = (lt, homed_in count n unit (suc form) ds lt)

module _ (o : Sources) where
  abbrev many : ℕ
  many = length o.documents

  given_from_in : (t : Texts) → GivesIn many t → (n : ℕ) (ds : List Document) → n + length ds ≡ many → GivenIn many (given_from o t n ds)
  given_from_in t gives n [] e = tt
  given_from_in t gives n (d ∷ ds) e =
      let lt : n < many = omega arith in
      let here = homed_in many n (program_number o.documents n) 0 (program_data (data_of (document_at o.documents n))) lt in (
        (forms_in many t gives (included_data o.documents n) here, all_declarations_in many t gives o.known (included_data o.documents n) here),
        given_from_in t gives (suc n) ds (omega arith),
      )

  given_in : (depth : ℕ) → GivenIn many (given o depth)
  given_in zero = tt
  given_in (suc depth) = given_from_in (texts o (given o depth)) (gives_in many o (given o depth) (given_in depth)) 0 o.documents (none_before (length o.documents))
    where
      none_before : (k : ℕ) → 0 + k ≡ k
      none_before k = omega arith

  all_in : GivesIn many (all_texts o)
  all_in = gives_in many o (given o (length o.documents)) (given_in (length o.documents))

-- ---- units

abbrev SourceIn : (count : ℕ) → UnitSource → Type 0
SourceIn count u = AllIn count u.lost

abbrev SourcesIn : (count : ℕ) → List UnitSource → Type 0
SourcesIn count [] = Unit {0}
SourcesIn count (u ∷ us) = SourceIn count u × SourcesIn count us

source_in : (count : ℕ) (kind : UnitKind) (name : Option LibraryName) (start : Place) (l : Listing) → ListsIn count l → SourceIn count (source_by kind name start l)
source_in count kind name start (Lists n fs ls) h = h
source_in count kind name start (BadAfter n d) h = tt
source_in count kind name start TooLong h = tt

importing_in : (count : ℕ) (l : Listing) → ListsIn count l → ListsIn count (importing l)
importing_in count (Lists n fs ls) h = h
importing_in count (BadAfter n d) h = tt
importing_in count TooLong h = tt

sources_joined : (count : ℕ) (us vs : List UnitSource) → SourcesIn count us → SourcesIn count vs → SourcesIn count (us ++ vs)
sources_joined count [] vs h k = k
sources_joined count (u ∷ us) vs h k = (h.0, sources_joined count us vs h.1 k)

circular_in : (count : ℕ) (b : Bool) (us : List UnitSource) → SourcesIn count us → SourcesIn count (map (unless_circular b) us)
circular_in count b [] h = tt
circular_in count true (u ∷ us) h = (tt, circular_in count true us h.1)
circular_in count false (u ∷ us) h = (h.0, circular_in count false us h.1)

owns_in : (count document : ℕ) (ds : List Datum) → document < count → AreIn count (map (own document) ds)
owns_in count document [] lt = tt
owns_in count document (d ∷ ds) lt = (lt, owns_in count document ds lt)

module _ (count : ℕ) (t : Texts) (gives : GivesIn count t) (known : Known) (document : ℕ) (lt : document < count) where
  named_in : (h : Homed) (o : Option LibraryName) (l : Listing) → ListsIn count l → ListsIn count (if_named h o l)
  named_in h None l k = tt
  named_in h (Some n) l k = k

  listing_in : (h : Homed) (ds : Data) → h.document < count → ListsIn count (library_listing t known h ds)
  listing_in h none k = tt
  listing_in h (tail d) k = tt
  listing_in h (part n ds) k = named_in h (library_name_in (part n ds)) (declarations t known h h.datum ds) (declarations_in count t gives known h k h.datum ds)

  libraries_in_all : (ds : List Datum) → SourcesIn count (libraries_in t known document ds)
  libraries_in_all [] = tt
  libraries_in_all (d ∷ ds) = go (libraries_in_all ds) (is_library d)
    where
      go : SourcesIn count (libraries_in t known document ds) → (b : Bool) → SourcesIn count (cond b (library_of t known document d ∷ libraries_in t known document ds) (libraries_in t known document ds))
      go rest true = (source_in count IsLibrary (library_name d) (place_of d) (library_listing t known (own document d) (behind_head d)) (listing_in (own document d) (behind_head d) lt), rest)
      go rest false = rest

  program_in_all : (is : Bool) (ds : List Datum) → SourcesIn count (program_in t document is ds)
  program_in_all is [] = tt
  program_in_all true (d ∷ ds) = (tt, tt)
  program_in_all false (d ∷ ds) =
      (source_in count IsProgram None (place_of d) (importing (forms_of t (map (own document) (d ∷ ds)))) (importing_in count (forms_of t (map (own document) (d ∷ ds))) (forms_in count t gives (map (own document) (d ∷ ds)) (owns_in count document (d ∷ ds) lt))), tt)

  document_in : (all : Naming) (ds : List Datum) → SourcesIn count (units_in t known all document ds)
  document_in all ds =
      circular_in count (is_on_circle all document) (libraries_in t known document ds ++ program_in t document (is_part all document) (program_data ds))
      (sources_joined count (libraries_in t known document ds) (program_in t document (is_part all document) (program_data ds)) (libraries_in_all ds) (program_in_all (is_part all document) (program_data ds)))

abbrev PlacedIn : (count : ℕ) → List Placed → Type 0
PlacedIn count [] = Unit {0}
PlacedIn count (u ∷ us) = AllIn count u.source.lost × PlacedIn count us

placed_joined : (count : ℕ) (n : ℕ) (us : List UnitSource) (vs : List Placed) → SourcesIn count us → PlacedIn count vs → PlacedIn count (map (λ u. record { document = n; source = u }) us ++ vs)
placed_joined count n [] vs h k = k
placed_joined count n (u ∷ us) vs h k = (h.0, placed_joined count n us vs h.1 k)

placed_from : (count : ℕ) (t : Texts) → GivesIn count t → (known : Known) (all : Naming) (n : ℕ) (ds : List Document) → n + length ds ≡ count → PlacedIn count (units_from t known all n ds)
placed_from count t gives known all n [] e = tt
placed_from count t gives known all n (d ∷ ds) e =
    placed_joined count n (units_in t known all n (data_of d)) (units_from t known all (suc n) ds) (document_in count t gives known n (omega arith) all (data_of d)) (placed_from count t gives known all (suc n) ds (omega arith))

lost_at : (count : ℕ) (ls : List LostString) → AllIn count ls → (n : ℕ) (l : LostString) → slice_get ls n ≡ Some l → l.document < count
lost_at count [] h n l at = absurd cc
lost_at count (k ∷ ls) h zero l at = let same : k ≡ l = cc in subst (λ (x : LostString). x.document < count) same h.0
lost_at count (k ∷ ls) h (suc n) l at = lost_at count ls h.1 n l at

unit_at : (count : ℕ) (us : List Placed) → PlacedIn count us → (n : ℕ) (u : Placed) → slice_get us n ≡ Some u → AllIn count u.source.lost
unit_at count [] h n u at = absurd cc
unit_at count (v ∷ us) h zero u at = let same : v ≡ u = cc in subst (λ (x : Placed). AllIn count x.source.lost) same h.0
unit_at count (v ∷ us) h (suc n) u at = unit_at count us h.1 n u at

pub units_lost : (ds : List Document) (n : ℕ) (u : Placed) → slice_get (units_of ds) n ≡ Some u → (m : ℕ) (l : LostString) → slice_get u.source.lost m ≡ Some l → l.document < length ds
units_lost ds n u at =
    let o = sources_within max_tokens (naming ds) (known_in ds) ds in
    lost_at (length ds) u.source.lost (unit_at (length ds) (units_of ds) (placed_from (length ds) (all_texts o) (all_in o) (known_in ds) (naming ds) 0 ds (none_before (length ds))) n u at)
  where
    none_before : (k : ℕ) → 0 + k ≡ k
    none_before k = omega arith
