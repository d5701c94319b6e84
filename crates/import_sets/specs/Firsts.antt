-- The first place of each name.
use Rattle.std.specs.Prelude.{ℕ, suc, List, [], ◌∷◌, Bool, Option, Some, None, if◌then◌else◌}
use Rattle.std.specs.Str.{bytes_eq}
use Rattle.std.specs.HashMap.{HashMap, get_by}
use denote.Ref.{Bor}
use Rattle.syntax_tree.specs.declared.units.Entry.{Entry}
use Rattle.import_sets.specs.declared.set.ImportSet.{ImportSet, Library, Only', Except', Prefix', Rename', Bad}

abbrev pub first_of : {A : Type 0} → Option A → Option A → Option A
first_of None o = o
first_of (Some a) o = Some a

abbrev pub place_if : Bool → ℕ → Option ℕ
place_if b n = if b then Some n else None

-- the place of the first that passes a test, from a place on
abbrev pub first_place : {A : Type 0} → (A → Bool) → ℕ → List A → Option ℕ
first_place test n [] = None
first_place test n (x ∷ xs) = if test x then Some n else first_place test (suc n) xs

-- the place of the first entry with a name, from a place on
abbrev pub place_of : List ℕ → ℕ → List Entry → Option ℕ
place_of s n es = first_place (λ (e : Entry). bytes_eq e.name s) n es

-- the place that a map by names has under one
abbrev pub place_under : {S : Type 0} → HashMap (Bor (List ℕ)) ℕ S → List ℕ → Option ℕ
place_under places s = get_by (λ name. bytes_eq s name.now) places

-- the place of the library that a set names
abbrev pub place_in : (List ℕ → Option ℕ) → ImportSet → Option ℕ
place_in find (Library t) = find t
place_in find (Only' p c ns) = place_in find c
place_in find (Except' p c ns) = place_in find c
place_in find (Prefix' p c t) = place_in find c
place_in find (Rename' p c ps) = place_in find c
place_in find Bad = None
