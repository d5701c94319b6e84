-- Classes of occurrences: which sets are closed under links, what links join, and what the parts of a class are.
use Rattle.std.specs.Prelude.{◌≡◌, ◌↔◌, ◌+◌, ℕ, List, [], ◌∷◌, length, Bool, ◌||◌, ◌&&◌, not, if◌then◌else◌}
use Rattle.std.specs.List.{Contains, list_any, flat_map}
use Rattle.std.specs.List.Sorted.{IsStrictlySortedBy}
use Rattle.std.specs.Ordering.{nat_cmp, ordering_then}
use Rattle.std.specs.Cmp.Lexicographic.{slice_cmp}
use Rattle.std.specs.BTreeSet.{BTreeSet, contains, btree_set_len}
use Rattle.std.specs.declared.cmp.Ordering.{Ordering}
use Rattle.scheme_model.specs.declared.Occ.{Occ}
use Rattle.scheme_model.specs.Entries.{Source, At, StandardName, same_occ}
use Rattle.scheme_model.specs.ProgramArrows.{Arrow}
use Rattle.scheme_model.specs.Spelling.{Link, is_member, class_of, prefixes_of, standard_origins}
use Rattle.program_leaves.specs.Members.{IsIn}
use Rattle.program_leaves.specs.Placed.{occ_cmp}
use Rattle.arrow_index.specs.Links.{as_link}
use Rattle.arrow_index.specs.declared.links.Link as code_link
use Rattle.arrow_index.specs.declared.links.LinkOrigin.{LinkOrigin}
use Rattle.arrow_index.specs.declared.links.LinkOrigin.TheVariants as origins
use Rattle.arrow_index.specs.declared.classes.ClassPart.{ClassPart}

-- ---- sets that are closed under links; a set is told by a test

-- it has both ends of a link or none; a standard name joins nothing
abbrev pub HasBothOrNone : (Occ → Bool) → Source → Occ → Type 0
HasBothOrNone f (At o) t = f o ≡ f t
HasBothOrNone f (StandardName s) t = Unit {0}

abbrev pub IsClosed : List Link → (Occ → Bool) → Type 0
IsClosed ls f = (l : Link) → IsIn l ls → HasBothOrNone f l.origin l.target

-- ---- what links join

-- from each end of a link to the other
abbrev pub ways_across : Source → Occ → List Arrow
ways_across (At o) t = record { binder = o; target = t } ∷ record { binder = t; target = o } ∷ []
ways_across (StandardName s) t = []

abbrev pub ways_over : Link → List Arrow
ways_over l = ways_across l.origin l.target

abbrev pub ways_of : List Link → List Arrow
ways_of ls = flat_map ways_over ls

-- ---- sets of the code that change

-- a set has these occurrences more
abbrev pub Gains : (old new : BTreeSet Occ) → (Occ → Bool) → Type 0
Gains old new more = (o : Occ) → contains occ_cmp new o ≡ (contains occ_cmp old o || more o)

-- these are taken out, and those of them that were there are left to be gone on from
pub record Reaches (old : BTreeSet Occ) (was : List Occ) (new : BTreeSet Occ) (left : List Occ) (these : Occ → Bool) : Type 0 where
  pub taken : (o : Occ) → contains occ_cmp new o ≡ (contains occ_cmp old o && not (these o))
  pub put : (o : Occ) → is_member left o ≡ (is_member was o || (contains occ_cmp old o && these o))
  pub work : btree_set_len new + length left ≡ btree_set_len old + length was

-- ---- the parts of a class

-- links of the code that say what these say
abbrev pub AreSaid : List code_link.Link → List Link → Type 0
AreSaid ls all = (l : code_link.Link) → Contains ls l ↔ Contains all (as_link l)

-- what a link gives, unless its target is outside
abbrev pub parts_from : (Occ → Bool) → code_link.Link → List ClassPart
parts_from outside l = if outside l.target then [] else record { occ = l.target; prefix = l.prefix } ∷ []

abbrev pub part_cmp : ClassPart → ClassPart → Ordering
part_cmp a b = ordering_then (occ_cmp a.occ b.occ) (slice_cmp nat_cmp a.prefix b.prefix)

-- sorted strictly by occurrence and prefix: each prefix of each member
pub record AreParts (parts : List ClassPart) (all : List Link) (o : Occ) : Type 0 where
  pub sorted : IsStrictlySortedBy part_cmp parts
  pub same : (p : ClassPart) → Contains parts p ↔ (Contains (class_of all o) p.occ × Contains (prefixes_of all p.occ []) p.prefix)

-- ---- the standard names of a class

abbrev pub has_part : List ClassPart → Occ → Bool
has_part ps o = list_any (λ (p : ClassPart). same_occ p.occ o) ps

abbrev pub name_from : LinkOrigin → Bool → List (List ℕ)
name_from (origins.Place o) member = []
name_from (origins.Standard s) member = if member then s ∷ [] else []

-- what a link to a member gives
abbrev pub names_from : (Occ → Bool) → code_link.Link → List (List ℕ)
names_from member l = name_from l.origin (member l.target)

-- sorted strictly, and exactly the standard names among the origins of members
pub record AreStandard (names : List (List ℕ)) (all : List Link) (o : Occ) : Type 0 where
  pub sorted : IsStrictlySortedBy (slice_cmp nat_cmp) names
  pub same : (s : List ℕ) → Contains names s ↔ Contains (standard_origins all (class_of all o)) s
