-- Import sets, and the names that they give (R7RS 5.2, 5.6). A name has a meaning and a set of origins: an occurrence or a
-- standard name that spells it, behind a prefix.
use Rattle.std.specs.Prelude.{ℕ, List, [], ◌∷◌, ◌++◌, map, filter, Bool, true, false, not, ◌&&◌, ◌||◌, ◌==◌, Option, Some, None, Result, Ok, Err, codes, if◌then◌else◌}
use Rattle.std.specs.Str.{bytes_eq}
use Rattle.std.specs.Ordering.{nat_cmp}
use Rattle.std.specs.Cmp.Lexicographic.{slice_cmp}
use Rattle.std.specs.declared.cmp.Ordering.{Ordering}
use Rattle.std.specs.declared.cmp.Ordering.TheVariants.{Less, Equal, Greater}
use Rattle.scheme_model.specs.declared.Occ.{Occ}
use Rattle.scheme_model.specs.Trees.{Tree, name, atom, list, vector, Trees, no_trees, tree, Tail}
use Rattle.scheme_model.specs.ExpansionFaults.{Named, Fault, ◌>>◌}
use Rattle.scheme_model.specs.Meaning.{Meaning, same_meaning}
use Rattle.scheme_model.specs.Shapes.{name_of, names_of, first_of, one_of, proper_of, list_of}
use Rattle.scheme_model.specs.Requirements.{LibraryName, library_name_of}

-- ---- entries

pub data Source : Type 0 where
  At : Occ → Source
  StandardName : List ℕ → Source

pub record Origin : Type 0 where
  pub source : Source
  pub prefix : List ℕ

pub record Entry : Type 0 where
  pub name : List ℕ
  pub meaning : Meaning
  pub origins : List Origin

abbrev pub same_occ : Occ → Occ → Bool
same_occ a b = a.unit == b.unit && (a.form == b.form && a.token == b.token)

abbrev pub same_source : Source → Source → Bool
same_source (At a) (At b) = same_occ a b
same_source (At a) (StandardName s) = false
same_source (StandardName s) (At b) = false
same_source (StandardName s) (StandardName t) = bytes_eq s t

abbrev pub same_origin : Origin → Origin → Bool
same_origin a b = same_source a.source b.source && bytes_eq a.prefix b.prefix

abbrev pub has_origin : List Origin → Origin → Bool
has_origin [] o = false
has_origin (p ∷ ps) o = same_origin p o || has_origin ps o

-- the origins of both, each once
abbrev pub origins_of_both : List Origin → List Origin → List Origin
origins_of_both os [] = os
origins_of_both os (p ∷ ps) = origins_of_both (if has_origin os p then os else os ++ p ∷ []) ps

abbrev pub entry_at : List Entry → List ℕ → Option Entry
entry_at [] s = None
entry_at (e ∷ es) s = if bytes_eq e.name s then Some e else entry_at es s

-- ---- import sets

-- the text of a prefix, a library, and what modifiers do; the symbols are read by their characters
pub data ImportSet : Type 0 where
  Library : LibraryName → ImportSet
  Only : ImportSet → List (Named (List ℕ)) → ImportSet
  Except : ImportSet → List (Named (List ℕ)) → ImportSet
  Prefix : ImportSet → List ℕ → ImportSet
  Rename : ImportSet → List (Named (List ℕ) × Named (List ℕ)) → ImportSet
  Bad : ImportSet

-- the words that make a list with a list as its second part a modifier
pub data Modifier : Type 0 where
  IsOnly : Modifier
  IsExcept : Modifier
  IsPrefix : Modifier
  IsRename : Modifier

abbrev pub modifier_named : List ℕ → Option Modifier
modifier_named s =
    if bytes_eq s (codes "only") then Some IsOnly
    else if bytes_eq s (codes "except") then Some IsExcept
    else if bytes_eq s (codes "prefix") then Some IsPrefix
    else if bytes_eq s (codes "rename") then Some IsRename
    else None

abbrev pub pair_of : Tree (List ℕ) → Result (Named (List ℕ) × Named (List ℕ)) (Fault (List ℕ))
pair_of t = list_of t >> λ p. first_of p.0 >> λ q. name_of q.0 >> λ a. one_of q.1 p.1 >> name_of >> λ b. Ok (a, b)

abbrev pub pairs_of : Trees (List ℕ) → Result (List (Named (List ℕ) × Named (List ℕ))) (Fault (List ℕ))
pairs_of no_trees = Ok []
pairs_of (tree t ts) = pair_of t >> λ p. pairs_of ts >> λ ps. Ok (p ∷ ps)

abbrev pub or_bad : {B : Type 0} → Result B (Fault (List ℕ)) → (B → ImportSet) → ImportSet
or_bad (Ok b) f = f b
or_bad (Err e) f = Bad

-- a modifier of an inner set, by what follows that
abbrev pub modified_set : Modifier → ImportSet → Trees (List ℕ) → Tail (List ℕ) → ImportSet
modified_set IsOnly set ts tail = or_bad (proper_of ts tail >> names_of) (Only set)
modified_set IsExcept set ts tail = or_bad (proper_of ts tail >> names_of) (Except set)
modified_set IsPrefix set ts tail = or_bad (one_of ts tail >> name_of) (λ n. Prefix set n.name)
modified_set IsRename set ts tail = or_bad (proper_of ts tail >> pairs_of) (Rename set)

abbrev pub library_set : Tree (List ℕ) → ImportSet
library_set t = or_bad (library_name_of (λ s. s) t) Library

abbrev pub by_modifier : Option Modifier → ImportSet → Trees (List ℕ) → Tail (List ℕ) → ImportSet → ImportSet
by_modifier None inner ts tail library = library
by_modifier (Some m) inner ts tail library = modified_set m inner ts tail

abbrev pub set_of : Tree (List ℕ) → ImportSet
set_of (name i o) = Bad
set_of (atom a o) = Bad
set_of (vector ts o) = Bad
set_of (list no_trees tail o) = Bad
set_of (list (tree t no_trees) tail o) = library_set (list (tree t no_trees) tail o)
set_of (list (tree (atom a p) (tree u us)) tail o) = library_set (list (tree (atom a p) (tree u us)) tail o)
set_of (list (tree (list vs end p) (tree u us)) tail o) = library_set (list (tree (list vs end p) (tree u us)) tail o)
set_of (list (tree (vector vs p) (tree u us)) tail o) = library_set (list (tree (vector vs p) (tree u us)) tail o)
set_of (list (tree (name i p) (tree (name j q) us)) tail o) = library_set (list (tree (name i p) (tree (name j q) us)) tail o)
set_of (list (tree (name i p) (tree (atom a q) us)) tail o) = library_set (list (tree (name i p) (tree (atom a q) us)) tail o)
set_of (list (tree (name i p) (tree (vector vs q) us)) tail o) = library_set (list (tree (name i p) (tree (vector vs q) us)) tail o)
set_of (list (tree (name i p) (tree (list vs end q) us)) tail o) =
    by_modifier (modifier_named i) (set_of (list vs end q)) us tail (library_set (list (tree (name i p) (tree (list vs end q) us)) tail o))

-- the library that a set names, unless the set is bad
abbrev pub library_in : ImportSet → Option LibraryName
library_in (Library n) = Some n
library_in (Only s ns) = library_in s
library_in (Except s ns) = library_in s
library_in (Prefix s p) = library_in s
library_in (Rename s ps) = library_in s
library_in Bad = None

-- ---- what a set gives

pub data ImportFault : Type 0 where
  NotThere : Named (List ℕ) → ImportFault
  Clash : List ℕ → ImportFault
  BadSet : ImportFault

infixl 10 ◌>>=◌
abbrev pub ◌>>=◌ : {A B : Type 0} → Result A ImportFault → (A → Result B ImportFault) → Result B ImportFault
(Ok a) >>= f = f a
(Err e) >>= f = Err e

abbrev pub is_below : List ℕ → List ℕ → Bool
is_below s t = is_less (slice_cmp nat_cmp s t)
  where
    is_less : Ordering → Bool
    is_less Less = true
    is_less Equal = false
    is_less Greater = false

-- all names are there; the first in written order that isn't is the fault
abbrev pub all_there : List (Named (List ℕ)) → List Entry → Result (List Entry) ImportFault
all_there [] es = Ok es
all_there (n ∷ ns) es = found (entry_at es n.name) n (all_there ns es)
  where
    found : Option Entry → Named (List ℕ) → Result (List Entry) ImportFault → Result (List Entry) ImportFault
    found None n rest = Err (NotThere n)
    found (Some e) n rest = rest

abbrev pub is_listed : List (Named (List ℕ)) → List ℕ → Bool
is_listed [] s = false
is_listed (n ∷ ns) s = bytes_eq n.name s || is_listed ns s

abbrev pub prefixed : List ℕ → Entry → Entry
prefixed p e = record { name = p ++ e.name; meaning = e.meaning; origins = map (λ o. record { source = o.source; prefix = p ++ o.prefix }) e.origins }

-- an entry under a new name, whose second identifier is its origin
abbrev pub place_origin : Option Occ → List Origin
place_origin None = []
place_origin (Some o) = record { source = At o; prefix = [] } ∷ []

abbrev pub renamed : Entry → Named (List ℕ) → Entry
renamed e n = record { name = n.name; meaning = e.meaning; origins = place_origin n.occ }

-- a name under the second identifiers of its pairs
abbrev pub under_pairs : List (Named (List ℕ) × Named (List ℕ)) → Entry → List Entry
under_pairs [] e = []
under_pairs (p ∷ ps) e = if bytes_eq p.0.name e.name then renamed e p.1 ∷ under_pairs ps e else under_pairs ps e

abbrev pub or_itself : Entry → List Entry → List Entry
or_itself e [] = e ∷ []
or_itself e (d ∷ ds) = d ∷ ds

abbrev pub rename_all : List (Named (List ℕ) × Named (List ℕ)) → List Entry → List Entry
rename_all ps [] = []
rename_all ps (e ∷ es) = or_itself e (under_pairs ps e) ++ rename_all ps es

-- entries in which a name may stand twice, put together: with one meaning its origins are joined, with two it clashes
pub data Joined : Type 0 where
  added : List Entry → Joined
  clashing : Joined

abbrev pub join_entry : List Entry → Entry → Joined
join_entry [] e = added (e ∷ [])
join_entry (d ∷ ds) e =
    if bytes_eq d.name e.name then (if same_meaning d.meaning e.meaning then added (record { name = d.name; meaning = d.meaning; origins = origins_of_both d.origins e.origins } ∷ ds) else clashing)
    else behind d (join_entry ds e)
  where
    behind : Entry → Joined → Joined
    behind d (added es) = added (d ∷ es)
    behind d clashing = clashing

-- the entries with each name once, and the names that clash
abbrev pub gather : List Entry → List Entry → List (List ℕ) → List Entry × List (List ℕ)
gather es [] clashes = (es, clashes)
gather es (e ∷ rest) clashes = next (join_entry es e) (λ ds. gather ds rest clashes) (λ u. gather es rest (e.name ∷ clashes))
  where
    next : Joined → (List Entry → List Entry × List (List ℕ)) → (Unit {0} → List Entry × List (List ℕ)) → List Entry × List (List ℕ)
    next (added ds) f g = f ds
    next clashing f g = g tt

abbrev pub least : List ℕ → List (List ℕ) → List ℕ
least s [] = s
least s (t ∷ ts) = least (if is_below t s then t else s) ts

-- the first in byte order of the names that clash is the fault
abbrev pub unless_clash : List Entry × List (List ℕ) → Result (List Entry) ImportFault
unless_clash (es, []) = Ok es
unless_clash (es, s ∷ ss) = Err (Clash (least s ss))

abbrev pub gathered : List Entry → Result (List Entry) ImportFault
gathered es = unless_clash (gather [] es [])

abbrev pub has_bad : ImportSet → Bool
has_bad (Library n) = false
has_bad (Only s ns) = has_bad s
has_bad (Except s ns) = has_bad s
has_bad (Prefix s p) = has_bad s
has_bad (Rename s ps) = has_bad s
has_bad Bad = true

-- from the innermost set outwards
abbrev pub given_by : ImportSet → List Entry → Result (List Entry) ImportFault
given_by (Library n) exports = Ok exports
given_by (Only s ns) exports = given_by s exports >>= all_there ns >>= λ es. Ok (filter (λ e. is_listed ns e.name) es)
given_by (Except s ns) exports = given_by s exports >>= all_there ns >>= λ es. Ok (filter (λ e. not (is_listed ns e.name)) es)
given_by (Prefix s p) exports = given_by s exports >>= λ es. Ok (map (prefixed p) es)
given_by (Rename s ps) exports = given_by s exports >>= all_there (map (λ p. p.0) ps) >>= λ es. gathered (rename_all ps es)
given_by Bad exports = Err BadSet

-- the entries of a set whose library exports these, or the first fault
abbrev pub entries_of : ImportSet → List Entry → Result (List Entry) ImportFault
entries_of set exports = if has_bad set then Err BadSet else given_by set exports
