-- The new names of the members of a class: each keeps its prefix, and what stands behind it is new.
use Rattle.std.specs.Prelude.{ℕ, ◌+◌, ◌==◌, nat_lt, List, [], ◌∷◌, ◌++◌, filter, map, length, Bool, ◌&&◌, ◌||◌, Option, Some, None, if◌then◌else◌}
use Rattle.scheme_model.specs.declared.Occ.{Occ}
use Rattle.scheme_model.specs.Declarations.{UnitForm}
use Rattle.scheme_model.specs.Diagnostics.{Span, first_token}
use Rattle.scheme_model.specs.Entries.{is_below, same_occ}
use Rattle.scheme_model.specs.Program.{UnitResult}
use Rattle.scheme_model.specs.Sites.{names_in_forms, or_else}
use Rattle.scheme_model.specs.Spelling.{Link, class_of, prefixes_of}
use Rattle.text_edits.specs.Edits.{Edit}
use Rattle.text_edits.specs.NewNames.{edits_of}

-- ---- stems

-- what is left of a name behind a prefix, where it begins with it
abbrev pub behind : (prefix name : List ℕ) → Option (List ℕ)
behind [] name = Some name
behind (p ∷ ps) [] = None
behind (p ∷ ps) (c ∷ cs) = if p == c then behind ps cs else None

abbrev pub some_text : Option (List ℕ) → Option (List ℕ)
some_text None = None
some_text (Some []) = None
some_text (Some (c ∷ cs)) = Some (c ∷ cs)

-- the new stem: a new name without the prefix of the identifier that is renamed, where something is left
abbrev pub stem_of : (prefix name : List ℕ) → Option (List ℕ)
stem_of prefix name = some_text (behind prefix name)

-- of two prefixes the longer, and of those of one length the one behind the other in byte order
abbrev pub is_shorter : (s t : List ℕ) → Bool
is_shorter s t = nat_lt (length s) (length t) || (length s == length t && is_below s t)

abbrev pub longest : List ℕ → List (List ℕ) → List ℕ
longest s [] = s
longest s (t ∷ ts) = longest (if is_shorter s t then t else s) ts

-- the prefix of an identifier that is renamed: the longest that it has
abbrev pub prefix_of : List Link → Occ → List ℕ
prefix_of ls o = longest [] (prefixes_of ls o [])

-- ---- members

-- an occurrence and its new name
pub record Member : Type 0 where
  pub occ : Occ
  pub name : List ℕ

-- the new name of an occurrence, where it is a member
abbrev pub name_of : List Member → Occ → Option (List ℕ)
name_of [] o = None
name_of (m ∷ ms) o = if same_occ m.occ o then Some m.name else name_of ms o

abbrev pub first_prefix : List (List ℕ) → List ℕ
first_prefix [] = []
first_prefix (p ∷ ps) = p

-- a member of a class keeps its prefix, the first where it has some
abbrev pub member_of : List Link → (stem : List ℕ) → Occ → Member
member_of ls stem o = record { occ = o; name = first_prefix (prefixes_of ls o []) ++ stem }

-- whether a link leads to it, by which it has a prefix
abbrev pub is_part : List Link → Occ → Bool
is_part ls o = nat_lt 0 (length (prefixes_of ls o []))

-- the class of an occurrence with the new names of its members, each of which has a prefix
abbrev pub members_of : List Link → (stem : List ℕ) → Occ → List Member
members_of ls stem o = map (member_of ls stem) (filter (is_part ls) (class_of ls o))

-- ---- the identifiers of a document

-- an occurrence, and the number of its token in the document
pub record Identifier : Type 0 where
  pub occ : Occ
  pub token : ℕ

abbrev pub identifier_in : List UnitForm → Occ → Identifier
identifier_in forms o = record { occ = o; token = first_token forms o.form + o.token }

-- the identifiers of the units of a document
abbrev pub identifiers_of : (document : ℕ) → List UnitResult → List Identifier
identifiers_of document [] = []
identifiers_of document (r ∷ rs) =
    (if r.unit.placed.document == document then map (identifier_in r.unit.forms) (names_in_forms r.unit.number 0 r.unit.forms) else [])
    ++ identifiers_of document rs

-- the new name of the token with a number: that of an identifier which it is
abbrev pub name_at : (name : Occ → Option (List ℕ)) → List Identifier → (number : ℕ) → Option (List ℕ)
name_at name [] number = None
name_at name (i ∷ is) number = or_else (if i.token == number then name i.occ else None) (name_at name is number)

-- the edits of a document by which the class of an occurrence gets a new stem
abbrev pub class_edits : List Link → List UnitResult → (stem : List ℕ) → Occ → (document : ℕ) → (text : List ℕ) → List Span → List Edit
class_edits ls us stem o document text spans = edits_of (name_at (name_of (members_of ls stem o)) (identifiers_of document us)) text spans
