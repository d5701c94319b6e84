-- Which libraries there are, by the texts of their names.
use Rattle.std.proofs.Common.{◌≡◌, ℕ, Bool, true, false, cond, List, [], ◌∷◌, ◌++◌, map, Option, Some, None, Result, Ok, Err, IfOk, refl, sym, ap, ◌∙◌}
use Rattle.std.specs.Prelude.{◌||◌}
use Rattle.std.specs.Str.{bytes_eq}
use Rattle.scheme_model.specs.Data.{Datum, Data, none, part, tail}
use Rattle.scheme_model.specs.Declarations.{symbol_tree, name_or, behind_head, is_library, library_name, library_name_in, library_names}
use Rattle.scheme_model.specs.Includes.{Document, data_of}
use Rattle.scheme_model.specs.ExpansionFaults.{Fault}
use Rattle.scheme_model.specs.Order.{is_some}
use Rattle.scheme_model.specs.Program.{all_names, is_listed, known_in, has_name}
use Rattle.scheme_model.specs.Requirements.{LibraryName, same_library, library_name_of}
use Rattle.scheme_model.specs.StandardLibraries.{StandardLibrary, standard_libraries, names_in}
use Rattle.scheme_tokens.specs.LibraryNames.{library_text, IsProper}
use Rattle.scheme_tokens.proofs.EveryName.{text_of, text_tells, text_of-proper}
use Rattle.scheme_tokens.proofs.NameTrees.{datum_name_proper}
use Rattle.scheme_tokens.proofs.StandardProper.{AreAllProper, standard_proper}
use Rattle.unit_sources.proofs.NamedLaws.{texts_same}

-- ---- the names are proper

abbrev AllProper : List LibraryName → Type 0
AllProper [] = Unit {0}
AllProper (n ∷ ns) = IsProper n × AllProper ns

abbrev pub IfProper : Option LibraryName → Type 0
IfProper None = Unit {0}
IfProper (Some n) = IsProper n

or_proper : (r : Result LibraryName (Fault (List ℕ))) → IfOk r IsProper → IfProper (name_or r)
or_proper (Ok n) h = h
or_proper (Err e) h = tt

pub name_proper : (ds : Data) → IfProper (library_name_in ds)
name_proper none = tt
name_proper (tail e) = tt
name_proper (part n ds) = or_proper (library_name_of (λ s. s) (symbol_tree n)) (datum_name_proper n)

one_more : (d : Datum) (ds : List Datum) (b : Bool) → is_library d ≡ b → (o : Option LibraryName) → library_name d ≡ o → IfProper o → AllProper (library_names ds) → AllProper (library_names (d ∷ ds))
one_more d ds true e None f h k = rw (e, f) k
one_more d ds true e (Some n) f h k = rw (e, f) (h, k)
one_more d ds false e o f h k = rw e k

names_proper : (ds : List Datum) → AllProper (library_names ds)
names_proper [] = tt
names_proper (d ∷ ds) = one_more d ds (is_library d) refl (library_name d) refl (name_proper (behind_head d)) (names_proper ds)

both_proper : (ms ns : List LibraryName) → AllProper ms → AllProper ns → AllProper (ms ++ ns)
both_proper [] ns h k = k
both_proper (m ∷ ms) ns h k = (h.0, both_proper ms ns h.1 k)

all_proper : (ds : List Document) → AllProper (all_names ds)
all_proper [] = tt
all_proper (d ∷ ds) = both_proper (library_names (data_of d)) (all_names ds) (names_proper (data_of d)) (all_proper ds)

-- ---- names by their texts

one_same : (m n : LibraryName) → IsProper m → IsProper n → same_library m n ≡ bytes_eq (library_text m) (library_text n)
one_same m n h k = sym (texts_same text_of text_tells m n) ∙ (λ j. bytes_eq (text_of-proper m h j) (text_of-proper n k j))

listed_same : (ms : List LibraryName) (n : LibraryName) → AllProper ms → IsProper n → is_listed ms n ≡ has_name (map library_text ms) (library_text n)
listed_same [] n h k = refl
listed_same (m ∷ ms) n h k = λ j. one_same m n h.0 k j || listed_same ms n h.1 k j

some_or : (b : Bool) (x : List (List ℕ)) (r : Option (List (List ℕ))) → is_some (cond b (Some x) r) ≡ (b || is_some r)
some_or true x r = refl
some_or false x r = refl

abbrev texts : List StandardLibrary → List (List ℕ)
texts ls = map (λ (l : StandardLibrary). library_text l.name) ls

standard_same : (ls : List StandardLibrary) (n : LibraryName) → AreAllProper ls → IsProper n → is_some (names_in ls n) ≡ has_name (texts ls) (library_text n)
standard_same [] n h k = refl
standard_same (l ∷ ls) n h k = some_or (same_library l.name n) l.names (names_in ls n) ∙ (λ j. one_same l.name n h.0 k j || standard_same ls n h.1 k j)

has_either : (xs ys : List (List ℕ)) (s : List ℕ) → has_name (xs ++ ys) s ≡ (has_name xs s || has_name ys s)
has_either [] ys s = refl
has_either (x ∷ xs) ys s = ap (λ (b : Bool). bytes_eq x s || b) (has_either xs ys s) ∙ regroup (bytes_eq x s) (has_name xs s) (has_name ys s)
  where
    regroup : (a b c : Bool) → (a || (b || c)) ≡ ((a || b) || c)
    regroup true b c = refl
    regroup false b c = refl

pub known_told : (ds : List Document) (n : LibraryName) → IsProper n → known_in ds n ≡ has_name (map (λ (l : StandardLibrary). library_text l.name) standard_libraries ++ map library_text (all_names ds)) (library_text n)
known_told ds n h =
    (λ j. standard_same standard_libraries n standard_proper h j || listed_same (all_names ds) n (all_proper ds) h j)
    ∙ sym (has_either (texts standard_libraries) (map library_text (all_names ds)) (library_text n))
