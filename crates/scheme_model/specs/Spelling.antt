-- What spells an identifier: its links to the occurrences that its characters come from, and the classes of occurrences that
-- such links join. Occurrences of a class are renamed together, each behind its prefix.
use Rattle.std.specs.Prelude.{ℕ, zero, suc, List, [], ◌∷◌, ◌++◌, map, length, Bool, true, false, not, ◌&&◌, ◌||◌, Option, Some, None, if◌then◌else◌}
use Rattle.std.specs.List.{list_any, flat_map}
use Rattle.std.specs.Str.{bytes_eq}
use Rattle.scheme_model.specs.declared.Occ.{Occ}
use Rattle.scheme_model.specs.Ident.{Ident, Written, Inserted}
use Rattle.scheme_model.specs.ExpansionFaults.{Named}
use Rattle.scheme_model.specs.Meaning.{Meaning, Local, Global, Standard, Free}
use Rattle.scheme_model.specs.Cores.{Target, RuleLeaf}
use Rattle.scheme_model.specs.Substitution.{Table, Defined, defined_in}
use Rattle.scheme_model.specs.Entries.{Source, At, StandardName, Origin, Entry, entry_at, same_occ, place_origin, ImportSet, Library, Only, Except, Prefix, Rename, Bad, has_bad}
use Rattle.scheme_model.specs.IncludedUnits.{Placed}
use Rattle.scheme_model.specs.Program.{UnitResult, Program, result_at, is_some_fault}
use Rattle.scheme_model.specs.Live.{CoreLeaf, Binds, Uses, Assigns, Quotes, Defines, NameUse}
use Rattle.scheme_model.specs.ProgramArrows.{Arrow, local_at, core_targets, is_live_at, rule_arrows, program_leaves, program_keywords, program_names, program_table, binders_in, places_at}

-- an occurrence takes its characters, behind a prefix, from an occurrence or from a standard name
pub record Link : Type 0 where
  pub origin : Source
  pub target : Occ
  pub prefix : List ℕ

-- ---- origins of identifiers

abbrev pub entries_at : Option UnitResult → List Entry
entries_at None = []
entries_at (Some r) = r.entries

abbrev pub entry_origins : Option Entry → List Origin
entry_origins None = []
entry_origins (Some e) = e.origins

abbrev pub imported_origins : List UnitResult → ℕ → List ℕ → List Origin
imported_origins rs u s = entry_origins (entry_at (entries_at (result_at rs u)) s)

abbrev pub defined_or : Option Defined → List Origin → List Origin
defined_or None other = other
defined_or (Some d) other = place_origin d.occ

-- by the definition that an identifier has, or the entry that gives it a meaning; the prelude's unit has no entries
abbrev pub ident_origins : Table → List UnitResult → Ident → List Origin
ident_origins table rs (Written u s) = defined_or (defined_in table u (Written u s)) (imported_origins rs u s)
ident_origins table rs (Inserted i k) = defined_or (defined_in table k.unit (Inserted i k)) (ident_origins table rs i)

-- a local has its binder's occurrence
abbrev pub target_origins : List CoreLeaf → Table → List UnitResult → Target → List Origin
target_origins leaves table rs t = by_meaning leaves table rs t.meaning t.ident
  where
    by_meaning : List CoreLeaf → Table → List UnitResult → Meaning → Ident → List Origin
    by_meaning leaves table rs (Local v) i = place_origin (local_at leaves v)
    by_meaning leaves table rs (Global u j) i = ident_origins table rs i
    by_meaning leaves table rs (Standard s) i = ident_origins table rs i
    by_meaning leaves table rs (Free s) i = ident_origins table rs i

-- ---- links

abbrev pub links_at : Option Occ → List Origin → List Link
links_at None os = []
links_at (Some o) [] = []
links_at (Some o) (g ∷ gs) = record { origin = g.source; target = o; prefix = g.prefix } ∷ links_at (Some o) gs

abbrev pub link_to_itself : Option Occ → List Link
link_to_itself None = []
link_to_itself (Some o) = record { origin = At o; target = o; prefix = [] } ∷ []

abbrev pub target_links : List CoreLeaf → Table → List UnitResult → List Target → List Link
target_links leaves table rs [] = []
target_links leaves table rs (t ∷ ts) = links_at t.occ (target_origins leaves table rs t) ++ target_links leaves table rs ts

-- the second name of a pair is its own origin already
abbrev pub name_links : List NameUse → List Link
name_links [] = []
name_links (n ∷ ns) = links_at n.occ n.origins ++ name_links ns

abbrev pub arrow_links : List Arrow → List Link
arrow_links [] = []
arrow_links (a ∷ more) = record { origin = At a.binder; target = a.target; prefix = [] } ∷ arrow_links more

abbrev pub links_to_themselves : List Occ → List Link
links_to_themselves [] = []
links_to_themselves (o ∷ os) = record { origin = At o; target = o; prefix = [] } ∷ links_to_themselves os

abbrev pub leaf_targets : (Option Occ → Bool) → List RuleLeaf → List Target
leaf_targets live [] = []
leaf_targets live (l ∷ ls) = if l.literal || not (live l.target.occ) then l.target ∷ leaf_targets live ls else leaf_targets live ls

-- uses of pattern variables, and leaves of rules
abbrev pub macro_links : (Option Occ → Bool) → List CoreLeaf → Table → List UnitResult → List CoreLeaf → List Link
macro_links live leaves table rs [] = []
macro_links live leaves table rs (Binds b ∷ ls) = macro_links live leaves table rs ls
macro_links live leaves table rs (Uses t ∷ ls) = macro_links live leaves table rs ls
macro_links live leaves table rs (Assigns t ∷ ls) = macro_links live leaves table rs ls
macro_links live leaves table rs (Quotes o ∷ ls) = macro_links live leaves table rs ls
macro_links live leaves table rs (Defines m ∷ ls) =
    arrow_links (rule_arrows m.rules m.rules.rules) ++ target_links leaves table rs (leaf_targets live m.leaves) ++ macro_links live leaves table rs ls

-- with what is linked to itself
abbrev pub links_with : List CoreLeaf → List Target → List NameUse → Table → List UnitResult → List Occ → List Link
links_with leaves keywords names table rs themselves =
    target_links leaves table rs (core_targets leaves ++ keywords) ++ name_links names ++ links_to_themselves themselves ++
    macro_links (is_live_at leaves keywords names) leaves table rs leaves

-- ---- second identifiers of imports' rename pairs

-- those of a set
abbrev pub second_names : ImportSet → List (Named (List ℕ))
second_names (Library n) = []
second_names (Only s ns) = second_names s
second_names (Except s ns) = second_names s
second_names (Prefix s p) = second_names s
second_names (Rename s ps) = second_names s ++ map (λ p. p.1) ps
second_names Bad = []

-- a set that has a shape, whatever its library gives
abbrev pub second_places : ImportSet → List Occ
second_places s = if has_bad s then [] else flat_map (λ n. places_at n.occ) (second_names s)

-- of the units that aren't broken as a whole
abbrev pub second_places_in : List UnitResult → List Occ
second_places_in [] = []
second_places_in (r ∷ rs) = (if is_some_fault r.fault then [] else flat_map (λ s. second_places s.set) r.unit.specs) ++ second_places_in rs

-- the links of a program
abbrev pub links_of : List Placed → Program → List Link
links_of all p =
    links_with (program_leaves p.units) (program_keywords p.units) (program_names all p p.units) (program_table p) p.units (binders_in p ++ second_places_in p.units)

-- ---- what links join

abbrev pub is_place : Source → Occ → Bool
is_place (At p) o = same_occ p o
is_place (StandardName s) o = false

-- it is an end of a link
abbrev pub is_end : Occ → Link → Bool
is_end o l = same_occ l.target o || is_place l.origin o

abbrev pub is_joined : List Link → Occ → Bool
is_joined ls o = list_any (is_end o) ls

-- ---- classes

abbrev pub is_member : List Occ → Occ → Bool
is_member [] o = false
is_member (p ∷ ps) o = same_occ p o || is_member ps o

abbrev pub with_member : Occ → List Occ → List Occ
with_member o ms = if is_member ms o then ms else o ∷ ms

-- a link with an end in the class brings its other end in
abbrev pub across : Source → Occ → List Occ → List Occ
across (At o) t ms = if is_member ms o then with_member t ms else if is_member ms t then with_member o ms else ms
across (StandardName s) t ms = ms

abbrev pub joined : List Link → List Occ → List Occ
joined [] ms = ms
joined (l ∷ ls) ms = joined ls (across l.origin l.target ms)

abbrev pub closed : List Link → ℕ → List Occ → List Occ
closed ls zero ms = ms
closed ls (suc n) ms = closed ls n (joined ls ms)

-- the least set that holds an occurrence and is closed under links both ways
abbrev pub class_of : List Link → Occ → List Occ
class_of ls o = closed ls (length ls) (o ∷ [])

-- the prefixes of an occurrence
abbrev pub has_prefix : List (List ℕ) → List ℕ → Bool
has_prefix [] s = false
has_prefix (t ∷ ts) s = bytes_eq t s || has_prefix ts s

abbrev pub prefixes_of : List Link → Occ → List (List ℕ) → List (List ℕ)
prefixes_of [] o seen = seen
prefixes_of (l ∷ ls) o seen = if same_occ l.target o && not (has_prefix seen l.prefix) then prefixes_of ls o (seen ++ l.prefix ∷ []) else prefixes_of ls o seen

-- the standard names among the origins of a class
abbrev pub standard_origins : List Link → List Occ → List (List ℕ)
standard_origins [] ms = []
standard_origins (l ∷ ls) ms = of_source l.origin (is_member ms l.target) (standard_origins ls ms)
  where
    of_source : Source → Bool → List (List ℕ) → List (List ℕ)
    of_source (At o) member rest = rest
    of_source (StandardName s) true rest = s ∷ rest
    of_source (StandardName s) false rest = rest
