-- What links of the code say, and when they are those of a program.
use Rattle.std.specs.Prelude.{◌↔◌, List}
use Rattle.std.specs.List.{Contains}
use Rattle.std.specs.List.Sorted.{IsStrictlySortedBy}
use Rattle.std.specs.Ordering.{nat_cmp, ordering_then}
use Rattle.std.specs.Cmp.Lexicographic.{slice_cmp}
use Rattle.std.specs.declared.cmp.Ordering.{Ordering}
use Rattle.std.specs.declared.cmp.Ordering.TheVariants.{Less, Greater}
use Rattle.scheme_model.specs.Entries.{Source, At, StandardName}
use Rattle.scheme_model.specs.Spelling.{Link}
use Rattle.program_leaves.specs.Placed.{occ_cmp}
use Rattle.arrow_index.specs.declared.links.Link as code_link
use Rattle.arrow_index.specs.declared.links.LinkOrigin.{LinkOrigin}
use Rattle.arrow_index.specs.declared.links.LinkOrigin.TheVariants as origins

abbrev pub source_of : LinkOrigin → Source
source_of (origins.Place o) = At o
source_of (origins.Standard s) = StandardName s

abbrev pub as_link : code_link.Link → Link
as_link l = record { origin = source_of l.origin; target = l.target; prefix = l.prefix }

-- places come before standard names
abbrev pub origin_cmp : LinkOrigin → LinkOrigin → Ordering
origin_cmp (origins.Place o) (origins.Place p) = occ_cmp o p
origin_cmp (origins.Place o) (origins.Standard t) = Less
origin_cmp (origins.Standard s) (origins.Place p) = Greater
origin_cmp (origins.Standard s) (origins.Standard t) = slice_cmp nat_cmp s t

abbrev pub link_cmp : code_link.Link → code_link.Link → Ordering
link_cmp a b = ordering_then (origin_cmp a.origin b.origin) (ordering_then (occ_cmp a.target b.target) (slice_cmp nat_cmp a.prefix b.prefix))

-- sorted strictly by origin, target and prefix, and exactly these
pub record AreLinks (ls : List code_link.Link) (links : List Link) : Type 0 where
  pub sorted : IsStrictlySortedBy link_cmp ls
  pub same : (l : code_link.Link) → Contains ls l ↔ Contains links (as_link l)
