-- What is answered about a program (LSP 3.17, "Language Features"): where a name is bound and used, and what arrows a document has.
use Rattle.std.specs.Prelude.{ℕ, ◌==◌, nat_lt, List, [], ◌∷◌, ◌++◌, map, filter, length, Bool, not, ◌&&◌, ◌||◌, Option, Some, None, if◌then◌else◌}
use Rattle.std.specs.List.{flat_map}
use Rattle.scheme_model.specs.declared.Occ.{Occ}
use Rattle.scheme_model.specs.IncludedUnits.{Placed}
use Rattle.scheme_model.specs.Program.{Program}
use Rattle.scheme_model.specs.ProgramArrows.{Arrow, arrows_of, binders_in, binders_at, uses_at}
use Rattle.scheme_model.specs.Spelling.{Link, links_of, class_of, is_member, standard_origins, is_joined}
use Rattle.scheme_model.specs.Diagnostics.{Span, Bytes, bytes_of}
use Rattle.scheme_model.specs.Session.{Query, Definition, References, Highlights, Prepare, Arrows}
use Rattle.scheme_model.specs.Accesses.{written_in, read_in}
use Rattle.scheme_model.specs.Sites.{name_at}

-- an answer, whose places are bytes of documents: nothing; places; uses of one document, each with its kind; a name that can be
-- renamed; or arrows from binders to uses
pub data Answer : Type 0 where
  Nothing : Answer
  Places : List Bytes → Answer
  Lit : List (Bytes × ℕ) → Answer
  Prepared : Bytes → Answer
  Drawn : List (Bytes × Bytes) → Answer

-- ---- in order, each once

abbrev pub put_by : {A : Type 0} → (A → A → Bool) → A → List A → List A
put_by before x [] = x ∷ []
put_by before x (y ∷ ys) = if before x y then x ∷ y ∷ ys else if before y x then y ∷ put_by before x ys else y ∷ ys

abbrev pub ordered_by : {A : Type 0} → (A → A → Bool) → List A → List A
ordered_by before [] = []
ordered_by before (x ∷ xs) = put_by before x (ordered_by before xs)

-- the one or, where neither stands first, by what else there is
abbrev pub before_or : {A : Type 0} → (A → A → Bool) → A → A → Bool → Bool
before_or before a b rest = before a b || (not (before b a) && rest)

-- by document, start and end
abbrev pub bytes_before : Bytes → Bytes → Bool
bytes_before a b = before_or nat_lt a.document b.document (before_or nat_lt a.span.start b.span.start (nat_lt a.span.end b.span.end))

abbrev pub lit_before : Bytes × ℕ → Bytes × ℕ → Bool
lit_before a b = before_or bytes_before a.0 b.0 (nat_lt a.1 b.1)

abbrev pub drawn_before : Bytes × Bytes → Bytes × Bytes → Bool
drawn_before a b = before_or bytes_before a.0 b.0 (bytes_before a.1 b.1)

-- ---- a program

-- what answers take of a program: where its occurrences stand, what binds in it, its arrows and links, and where it writes and reads
pub record Facts : Type 0 where
  pub bytes : Occ → Bytes
  pub binders : List Occ
  pub arrows : List Arrow
  pub links : List Link
  pub written : List Occ
  pub read : List Occ

abbrev pub facts_of : List (List Span) → List Placed → Program → Facts
facts_of spans all p = record {
  bytes = bytes_of spans p.units;
  binders = binders_in p;
  arrows = arrows_of all p;
  links = links_of all p;
  written = written_in p;
  read = read_in p;
}

-- ---- answers about an occurrence

abbrev pub binders_for : Facts → Occ → List Occ
binders_for f o = binders_at f.binders f.arrows o

-- its references are the uses of its binders
abbrev pub uses_for : Facts → Occ → List Occ
uses_for f o = flat_map (uses_at f.arrows) (binders_for f o)

abbrev pub places_for : Facts → List Occ → List Bytes
places_for f os = ordered_by bytes_before (map f.bytes os)

-- 3 where it is written, 2 where it is read, and else 1
abbrev pub kind_of : Facts → Occ → ℕ
kind_of f o = if is_member f.written o then 3 else if is_member f.read o then 2 else 1

abbrev pub is_in : ℕ → Bytes → Bool
is_in document b = b.document == document

abbrev pub lit_in : Facts → (document : ℕ) → List Occ → List (Bytes × ℕ)
lit_in f document os = ordered_by lit_before (map (λ o. (f.bytes o, kind_of f o)) (filter (λ o. is_in document (f.bytes o)) os))

abbrev pub drawn_in : Facts → (document : ℕ) → List (Bytes × Bytes)
drawn_in f document =
    ordered_by drawn_before (filter (λ d. is_in document d.0 || is_in document d.1) (map (λ (a : Arrow). (f.bytes a.binder, f.bytes a.target)) f.arrows))

-- its characters come from a place of a text, and not from a standard name
abbrev pub is_bound : Facts → Occ → Bool
is_bound f o = is_joined f.links o && (length (standard_origins f.links (class_of f.links o)) == 0)

-- what is asked of no occurrence
abbrev pub no_answer : Query → Answer
no_answer Definition = Places []
no_answer (References declaration) = Places []
no_answer Highlights = Lit []
no_answer Prepare = Nothing
no_answer Arrows = Drawn []

abbrev pub answer_about : Facts → (document : ℕ) → Occ → Query → Answer
answer_about f document o Definition = Places (places_for f (binders_for f o))
answer_about f document o (References declaration) = Places (places_for f ((if declaration then binders_for f o else []) ++ uses_for f o))
answer_about f document o Highlights = Lit (lit_in f document (binders_for f o ++ uses_for f o))
answer_about f document o Prepare = if is_bound f o then Prepared (f.bytes o) else Nothing
answer_about f document o Arrows = Drawn (drawn_in f document)

-- the arrows of a document have an end there, wherever one asks
abbrev pub answer_at : Facts → (document : ℕ) → Option Occ → Query → Answer
answer_at f document o Arrows = Drawn (drawn_in f document)
answer_at f document None query = no_answer query
answer_at f document (Some o) query = answer_about f document o query

-- the answer to a query at an offset of a document
abbrev pub answer_in : List (List Span) → List Placed → Program → (document offset : ℕ) → Query → Answer
answer_in spans all p document offset query = answer_at (facts_of spans all p) document (name_at spans p.units document offset) query
