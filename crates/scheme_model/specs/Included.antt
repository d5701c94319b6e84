-- What texts give where they are included (R7RS 4.1.7, 5.6.1): an included text stands in the place of the list that includes it. Lists
-- that include are replaced in three places: among the data of a program or of a text that is included so, among those of a library's
-- `begin`, and as a declaration.
use Rattle.std.specs.Prelude.{ℕ, zero, suc, ◌+◌, ◌-◌, ◌==◌, nat_lt, List, [], ◌∷◌, ◌++◌, map, length, Bool, true, false, ◌&&◌, Option, Some, None, Result, Ok, Err, codes, if◌then◌else◌}
use Rattle.std.specs.List.{list_any}
use Rattle.scheme_model.specs.declared.Home.{Home}
use Rattle.scheme_model.specs.Data.{Datum, atom, list, vector, bytes, Data, none, part, tail, place_of}
use Rattle.scheme_model.specs.Trees.{Tree, Trees, no_trees, tree}
use Rattle.scheme_model.specs.ExpansionFaults.{Fault}
use Rattle.scheme_model.specs.Requirements.{Known, clause_holds}
use Rattle.scheme_model.specs.Declarations.{Declared, Exports, Imports, Begins, Chooses, Includes as IncludesText, Undeclared, declared_by, symbol_in, symbol_tree, proper_parts, is_headed, all_export_parts}
use Rattle.scheme_model.specs.Includes.{StringAt, includes, includes_declarations, Document, data_of, document_at, is_among, program_data, program_number}

-- ---- forms with their homes

-- a datum that is gone through, the document in whose text it stands, and its home where that text is included: the unit of its
-- document's program, and the datum there that it is or stands in, by its number among the data of that program and by its first token
pub record Homed : Type 0 where
  pub document : ℕ
  pub home : Option Home
  pub datum : Datum

abbrev pub inside : Homed → Datum → Homed
inside h d = record h { datum = d }

-- a form, and whether it is a declaration
pub record FlatForm : Type 0 where
  pub source : Homed
  pub declared : Bool

-- how many tokens a datum has
abbrev pub token_count : Datum → ℕ
token_count d = suc (place_of d).last - (place_of d).first

-- a string that means no text that can be included, and the document in which it is written
pub record LostString : Type 0 where
  pub document : ℕ
  pub string : StringAt

-- ---- what is given in a row

-- forms with the number of their tokens, and the strings that gave nothing; or why they end: a bad declaration behind so many tokens, or
-- too many tokens
pub data Listing : Type 0 where
  Lists : (tokens : ℕ) → List FlatForm → List LostString → Listing
  BadAfter : (tokens : ℕ) → Homed → Listing
  TooLong : Listing

abbrev pub nothing : Listing
nothing = Lists 0 [] []

abbrev pub is_same_string : LostString → LostString → Bool
is_same_string a b = (a.document == b.document) && (a.string.place.start == b.string.place.start)

-- one before others, unless it is among them
abbrev pub with_one : LostString → List LostString → List LostString
with_one l ks = if list_any (is_same_string l) ks then ks else l ∷ ks

-- those of both, each once
abbrev pub with_lost : List LostString → List LostString → List LostString
with_lost [] ks = ks
with_lost (l ∷ ls) ks = with_one l (with_lost ls ks)

-- one behind the other: the first end counts
abbrev pub joined : Listing → Listing → Listing
joined TooLong b = TooLong
joined (BadAfter n d) b = BadAfter n d
joined (Lists n fs ls) TooLong = TooLong
joined (Lists n fs ls) (BadAfter m d) = BadAfter (n + m) d
joined (Lists n fs ls) (Lists m gs ks) = Lists (n + m) (fs ++ gs) (with_lost ls ks)

-- more tokens than the limit are too many
abbrev pub capped : (limit : ℕ) → Listing → Listing
capped limit TooLong = TooLong
capped limit (BadAfter n d) = if nat_lt limit n then TooLong else BadAfter n d
capped limit (Lists n fs ls) = if nat_lt limit n then TooLong else Lists n fs ls

abbrev pub followed : (limit : ℕ) → Listing → Listing → Listing
followed limit a b = capped limit (joined a b)

abbrev pub in_a_row : (limit : ℕ) → List Listing → Listing
in_a_row limit [] = nothing
in_a_row limit (l ∷ ls) = followed limit l (in_a_row limit ls)

-- ---- what strings give

-- what texts give by the strings that a document includes them by, as forms and as declarations
pub record Texts : Type 0 where
  pub limit : ℕ
  pub as_forms : (document : ℕ) → StringAt → Listing
  pub as_declarations : (document : ℕ) → StringAt → Listing

abbrev pub form_alone : Bool → Homed → Listing
form_alone declared h = Lists (token_count h.datum) (record { source = h; declared = declared } ∷ []) []

abbrev pub texts_or : (limit : ℕ) → (StringAt → Listing) → Option (List StringAt) → Listing → Listing
texts_or limit text None other = other
texts_or limit text (Some ss) other = in_a_row limit (map text ss)

-- a form, or the forms of the texts that it includes
abbrev pub form_or_texts : Texts → Homed → Listing
form_or_texts t h = texts_or t.limit (t.as_forms h.document) (includes h.datum) (form_alone false h)

-- the forms of data
abbrev pub forms_of : Texts → List Homed → Listing
forms_of t hs = in_a_row t.limit (map (form_or_texts t) hs)

abbrev pub bad : Homed → Listing
bad h = BadAfter 0 h

-- ---- declarations

-- a clause of `cond-expand`: its requirement, and what its declarations give
pub record Clause : Type 0 where
  pub requirement : Tree (List ℕ)
  pub given : Listing

abbrev pub later_clauses : List Clause → Trees (List ℕ)
later_clauses [] = no_trees
later_clauses (c ∷ cs) = tree c.requirement no_trees

-- what the first clause gives that holds; nothing where a requirement has no shape
abbrev pub chosen : Known → List Clause → Option Listing
chosen known [] = Some nothing
chosen known (c ∷ cs) = by_holding (clause_holds (λ s. s) known c.requirement (later_clauses cs)) c.given (chosen known cs)
  where
    by_holding : Result Bool (Fault (List ℕ)) → Listing → Option Listing → Option Listing
    by_holding (Err e) given later = None
    by_holding (Ok true) given None = None
    by_holding (Ok true) given (Some later) = Some given
    by_holding (Ok false) given later = later

-- a `cond-expand` has at least one clause
abbrev pub choice : Known → Homed → Option (List Clause) → Listing
choice known h None = bad h
choice known h (Some []) = bad h
choice known h (Some (c ∷ cs)) = or_bad (chosen known (c ∷ cs))
  where
    or_bad : Option Listing → Listing
    or_bad None = bad h
    or_bad (Some l) = l

-- a declaration that includes; `(include-ci "name" ...)` stays as it is
abbrev pub including : Texts → Homed → Listing
including t h =
    texts_or t.limit (t.as_forms h.document) (includes h.datum)
    (texts_or t.limit (t.as_declarations h.document) (includes_declarations h.datum)
    (if is_headed (codes "include-ci") h.datum then form_alone true h else bad h))

-- a proper list whose parts behind the head are these, and whose clauses, were it a choice, are those
abbrev pub declared_as : Texts → Known → Declared → Homed → List Datum → Option (List Clause) → Listing
declared_as t known Exports h ds cs = if all_export_parts ds then form_alone true h else bad h
declared_as t known Imports h ds cs = form_alone true h
declared_as t known Begins h ds cs = forms_of t (map (inside h) ds)
declared_as t known Chooses h ds cs = choice known h cs
declared_as t known IncludesText h ds cs = including t h
declared_as t known Undeclared h ds cs = bad h

abbrev pub if_proper : Homed → Option (List Datum) → (List Datum → Listing) → Listing
if_proper h None f = bad h
if_proper h (Some ds) f = f ds

abbrev pub with_clause : Option Clause → Option (List Clause) → Option (List Clause)
with_clause None cs = None
with_clause (Some c) None = None
with_clause (Some c) (Some cs) = Some (c ∷ cs)

abbrev pub clause_with : Option (List Datum) → Datum → Listing → Option Clause
clause_with None d given = None
clause_with (Some ds) d given = Some (record { requirement = symbol_tree d; given = given })

abbrev mutual
  -- a datum in the text of another
  pub declaration : Texts → Known → Homed → Datum → Listing
  declaration t known h (atom p a) = bad (inside h (atom p a))
  declaration t known h (vector p ds) = bad (inside h (vector p ds))
  declaration t known h (bytes p bs) = bad (inside h (bytes p bs))
  declaration t known h (list p none) = bad (inside h (list p none))
  declaration t known h (list p (tail d)) = bad (inside h (list p (tail d)))
  declaration t known h (list p (part d ds)) =
      if_proper (inside h (list p (part d ds))) (proper_parts ds) (λ parts. declared_as t known (declared_by (symbol_in d)) (inside h (list p (part d ds))) parts (clauses t known h ds))

  -- declarations in a row; where a tail ends them the whole is bad
  pub declarations : Texts → Known → Homed → (whole : Datum) → Data → Listing
  declarations t known h whole none = nothing
  declarations t known h whole (part d ds) = followed t.limit (declaration t known h d) (declarations t known h whole ds)
  declarations t known h whole (tail d) = bad (inside h whole)

  pub clauses : Texts → Known → Homed → Data → Option (List Clause)
  clauses t known h none = Some []
  clauses t known h (part d ds) = with_clause (clause_of t known h d) (clauses t known h ds)
  clauses t known h (tail d) = None

  pub clause_of : Texts → Known → Homed → Datum → Option Clause
  clause_of t known h (atom p a) = None
  clause_of t known h (vector p ds) = None
  clause_of t known h (bytes p bs) = None
  clause_of t known h (list p none) = None
  clause_of t known h (list p (tail d)) = None
  clause_of t known h (list p (part d ds)) = clause_with (proper_parts ds) d (declarations t known h (list p (part d ds)) ds)

abbrev pub declarations_of : Texts → Known → List Homed → Listing
declarations_of t known hs = in_a_row t.limit (map (λ (h : Homed). declaration t known h h.datum) hs)

-- ---- what documents give

-- what a document gives, included in either way
pub record Given : Type 0 where
  pub forms : Listing
  pub declarations : Listing

abbrev pub given_at : List Given → ℕ → Given
given_at [] n = record { forms = nothing; declarations = nothing }
given_at (g ∷ gs) zero = g
given_at (g ∷ gs) (suc n) = given_at gs n

abbrev pub lost : ℕ → StringAt → Listing
lost n s = Lists 0 [] (record { document = n; string = s } ∷ [])

-- what the text gives that a string means, where it can be included
abbrev pub given_or_lost : (usable : List ℕ) → (ℕ → Listing) → Option ℕ → Listing → Listing
given_or_lost us given None other = other
given_or_lost us given (Some m) other = if is_among us m then given m else other

-- the documents, which of them can be included, and which libraries are known
pub record Sources : Type 0 where
  pub documents : List Document
  pub usable : List ℕ
  pub known : Known
  pub limit : ℕ

abbrev pub texts : Sources → List Given → Texts
texts o gs = record {
  limit = o.limit;
  as_forms = λ n s. given_or_lost o.usable (λ m. (given_at gs m).forms) ((document_at o.documents n).meant s.characters) (lost n s);
  as_declarations = λ n s. given_or_lost o.usable (λ m. (given_at gs m).declarations) ((document_at o.documents n).meant s.characters) (lost n s);
}

-- data that are included, numbered from one on
abbrev pub homed_from : (document unit form : ℕ) → List Datum → List Homed
homed_from document unit form [] = []
homed_from document unit form (d ∷ ds) =
    record { document = document; home = Some (record { unit = unit; form = form; first = (place_of d).first }); datum = d } ∷ homed_from document unit (suc form) ds

-- the data of a document that is included
abbrev pub included_data : List Document → ℕ → List Homed
included_data ds n = homed_from n (program_number ds n) 0 (program_data (data_of (document_at ds n)))

abbrev pub given_from : Sources → Texts → (document : ℕ) → List Document → List Given
given_from o t n [] = []
given_from o t n (d ∷ ds) =
    record { forms = forms_of t (included_data o.documents n); declarations = declarations_of t o.known (included_data o.documents n) } ∷ given_from o t (suc n) ds

-- what each document gives whose includes are nested no deeper than so many times
abbrev pub given : Sources → (depth : ℕ) → List Given
given o zero = []
given o (suc depth) = given_from o (texts o (given o depth)) 0 o.documents

-- parts include one another no deeper than there are documents
abbrev pub all_texts : Sources → Texts
all_texts o = texts o (given o (length o.documents))
