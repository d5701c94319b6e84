-- The class of the identifier at a position of a document, and its standard name.
use Rattle.std.specs.Prelude.{◌≡◌, ℕ, List, [], ◌∷◌, map, length, true, false, Option, Some, None}
use Rattle.std.specs.Cmp.Lexicographic.{slice_cmp}
use Rattle.std.specs.List.{All, Contains}
use Rattle.std.specs.Ordering.{nat_cmp, ordering_then, is_lt}
use Rattle.std.specs.declared.cmp.Ordering.{Ordering}
use Rattle.scheme_model.specs.declared.Occ.{Occ}
use Rattle.scheme_model.specs.Answers.{Facts, ordered_by}
use Rattle.scheme_model.specs.Entries.{is_below}
use Rattle.scheme_model.specs.Spelling.{class_of, prefixes_of, standard_origins, is_joined}
use Rattle.document_store.specs.Texts.{Document}
use Rattle.arrow_index.specs.Classes.{AreParts}
use Rattle.arrow_index.specs.declared.classes.ClassPart as bare
use Rattle.program_answers.specs.ToldAnswers.{has_bars}
use Rattle.program_answers.specs.declared.classes.Class.{Class}
use Rattle.program_answers.specs.declared.classes.ClassPart.{ClassPart}

-- by length, and those of one length in byte order
abbrev pub prefix_cmp : List ℕ → List ℕ → Ordering
prefix_cmp s t = ordering_then (nat_cmp (length s) (length t)) (slice_cmp nat_cmp s t)

-- the longest of some texts, of those of one length the last in byte order; and none of none
abbrev pub IsLongest : List (List ℕ) → List ℕ → Type 0
IsLongest [] s = s ≡ []
IsLongest (t ∷ ts) s = Contains (t ∷ ts) s × ((u : List ℕ) → Contains (t ∷ ts) u → is_lt (prefix_cmp s u) ≡ false)

abbrev pub bare_part : ClassPart → bare.ClassPart
bare_part p = record { occ = p.occ; prefix = p.prefix }

-- the standard name of a class that is first in byte order; none where it has none
abbrev pub head_of : {A : Type 0} → List A → Option A
head_of [] = None
head_of (x ∷ xs) = Some x

abbrev pub standard_for : Facts → Option Occ → Option (List ℕ)
standard_for f None = None
standard_for f (Some o) = head_of (ordered_by is_below (standard_origins f.links (class_of f.links o)))

-- the class of an occurrence: each prefix of each member, with whether this stands between bars; the longest prefix of its own; and the
-- first standard name
pub record IsClassOf (ds : List (List ℕ × Document)) (f : Facts) (o : Occ) (c : Class) : Type 0 where
  pub at : c.at ≡ o
  pub joined : is_joined f.links o ≡ true
  pub parts : AreParts (map bare_part c.parts) f.links o
  pub bars : All (λ (p : ClassPart). p.bars ≡ has_bars ds (f.bytes p.occ)) c.parts
  pub prefix : IsLongest (prefixes_of f.links o []) c.prefix
  pub standard : c.standard ≡ standard_for f (Some o)

-- none exactly where no occurrence stands there, or no link joins it
abbrev pub IsClassAt : List (List ℕ × Document) → Facts → Option Occ → Option Class → Type 0
IsClassAt ds f None None = Unit {0}
IsClassAt ds f None (Some c) = ⊥
IsClassAt ds f (Some o) None = is_joined f.links o ≡ false
IsClassAt ds f (Some o) (Some c) = IsClassOf ds f o c
