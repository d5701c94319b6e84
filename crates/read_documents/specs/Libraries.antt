-- Libraries by their names, and the entries that they give (R7RS 5.2, 5.6.1).
use Rattle.std.specs.Prelude.{◌≡◌, ℕ, ◌<◌, List, [], ◌∷◌, Option, Some, None, String}
use Rattle.std.specs.declared.alloc.Global.{Global}
use Rattle.std.specs.BTreeMap.{BTreeMap, get_by_text}
use Rattle.import_sets.specs.declared.set.ImportSet.{ImportSet, Library, Only', Except', Prefix', Rename', Bad}
use Rattle.unit_sources.specs.Named.{with_place}

-- ---- names

-- the library that a set is of, unless it has no shape
abbrev pub library_of : ImportSet → Option (List ℕ)
library_of (Library t) = Some t
library_of (Only' p c ns) = library_of c
library_of (Except' p c ns) = library_of c
library_of (Prefix' p c t) = library_of c
library_of (Rename' p c ps) = library_of c
library_of Bad = None

-- the places of names that have one
abbrev pub places_by : (List ℕ → Option ℕ) → List (List ℕ) → List ℕ
places_by find [] = []
places_by find (s ∷ ss) = with_place (find s) (places_by find ss)

-- names have places below a number
abbrev pub FindsBelow : ℕ → BTreeMap (String Global) ℕ → Type 0
FindsBelow count firsts = (s : List ℕ) (n : ℕ) → get_by_text firsts s ≡ Some n → n < count
