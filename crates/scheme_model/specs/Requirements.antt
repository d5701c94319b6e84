-- The clauses of `cond-expand` (R7RS 4.2.1). Its words are read by their symbols; the one feature is `r7rs`.
use Rattle.std.specs.Prelude.{ℕ, List, [], ◌∷◌, ◌++◌, Bool, true, false, ◌&&◌, ◌||◌, not, Option, Some, None, Result, Ok, Err, codes, if◌then◌else◌}
use Rattle.std.specs.List.{list_all}
use Rattle.std.specs.Char.{is_ascii_digit}
use Rattle.std.specs.Str.{bytes_eq}
use Rattle.scheme_model.specs.Trees.{Atom, Numeral, Quoted, Character, Boolean, Bytes, Tree, name, atom, list, vector, Trees, no_trees, tree, Tail, proper, dotted}
use Rattle.scheme_model.specs.ExpansionFaults.{Fault, BadForm, ◌>>◌}
use Rattle.scheme_model.specs.Shapes.{first_of, some_of, one_of, list_of}

-- a part of a library's name: an identifier's symbol, or decimal digits
pub data LibraryPart : Type 0 where
  Symbol : List ℕ → LibraryPart
  Digits : List ℕ → LibraryPart

abbrev pub LibraryName : Type 0
LibraryName = List LibraryPart

abbrev pub same_part : LibraryPart → LibraryPart → Bool
same_part (Symbol s) (Symbol t) = bytes_eq s t
same_part (Symbol s) (Digits t) = false
same_part (Digits s) (Symbol t) = false
same_part (Digits s) (Digits t) = bytes_eq s t

abbrev pub same_library : LibraryName → LibraryName → Bool
same_library [] [] = true
same_library [] (q ∷ qs) = false
same_library (p ∷ ps) [] = false
same_library (p ∷ ps) (q ∷ qs) = same_part p q && same_library ps qs

-- which libraries there are
abbrev pub Known : Type 0
Known = LibraryName → Bool

abbrev pub part_in : {A : Type 0} → Atom → Result LibraryPart (Fault A)
part_in (Numeral s) = if list_all is_ascii_digit s then Ok (Digits s) else Err BadForm
part_in (Quoted s) = Err BadForm
part_in (Character c) = Err BadForm
part_in (Boolean b) = Err BadForm
part_in (Bytes s) = Err BadForm

abbrev pub part_of : {A : Type 0} → (A → List ℕ) → Tree A → Result LibraryPart (Fault A)
part_of strip (name i o) = Ok (Symbol (strip i))
part_of strip (atom a o) = part_in a
part_of strip (list ts tail o) = Err BadForm
part_of strip (vector ts o) = Err BadForm

abbrev pub parts_of : {A : Type 0} → (A → List ℕ) → Trees A → Result LibraryName (Fault A)
parts_of strip no_trees = Ok []
parts_of strip (tree t ts) = part_of strip t >> λ p. parts_of strip ts >> λ ps. Ok (p ∷ ps)

-- a library's name: a proper list with one part at least
abbrev pub library_name_of : {A : Type 0} → (A → List ℕ) → Tree A → Result LibraryName (Fault A)
library_name_of strip t = list_of t >> λ p. some_of p.0 p.1 >> parts_of strip

-- whether a requirement holds
abbrev mutual
  pub holds : {A : Type 0} → (A → List ℕ) → Known → Tree A → Result Bool (Fault A)
  holds strip known (name i o) = Ok (bytes_eq (strip i) (codes "r7rs"))
  holds strip known (atom a o) = Err BadForm
  holds strip known (vector ts o) = Err BadForm
  holds strip known (list no_trees tail o) = Err BadForm
  holds strip known (list (tree (atom a p) ts) tail o) = Err BadForm
  holds strip known (list (tree (list us end p) ts) tail o) = Err BadForm
  holds strip known (list (tree (vector us p) ts) tail o) = Err BadForm
  holds strip known (list (tree (name i p) ts) (dotted u) o) = Err BadForm
  holds strip known (list (tree (name i p) ts) proper o) =
      if bytes_eq (strip i) (codes "and") then all_hold strip known ts
      else if bytes_eq (strip i) (codes "or") then some_holds strip known ts
      else if bytes_eq (strip i) (codes "not") then none_holds strip known ts
      else if bytes_eq (strip i) (codes "library") then (one_of ts proper >> library_name_of strip >> λ n. Ok (known n))
      else Err BadForm

  pub all_hold : {A : Type 0} → (A → List ℕ) → Known → Trees A → Result Bool (Fault A)
  all_hold strip known no_trees = Ok true
  all_hold strip known (tree t ts) = holds strip known t >> λ a. all_hold strip known ts >> λ b. Ok (a && b)

  pub some_holds : {A : Type 0} → (A → List ℕ) → Known → Trees A → Result Bool (Fault A)
  some_holds strip known no_trees = Ok false
  some_holds strip known (tree t ts) = holds strip known t >> λ a. some_holds strip known ts >> λ b. Ok (a || b)

  -- of one part
  pub none_holds : {A : Type 0} → (A → List ℕ) → Known → Trees A → Result Bool (Fault A)
  none_holds strip known no_trees = Err BadForm
  none_holds strip known (tree t no_trees) = holds strip known t >> λ a. Ok (not a)
  none_holds strip known (tree t (tree u us)) = Err BadForm

-- `else`, which is the last clause's alone
abbrev pub is_else : {A : Type 0} → (A → List ℕ) → Tree A → Bool
is_else strip (name i o) = bytes_eq (strip i) (codes "else")
is_else strip (atom a o) = false
is_else strip (list ts tail o) = false
is_else strip (vector ts o) = false

-- whether a clause holds that is the last or isn't
abbrev pub clause_holds : {A : Type 0} → (A → List ℕ) → Known → Tree A → Trees A → Result Bool (Fault A)
clause_holds strip known t no_trees = if is_else strip t then Ok true else holds strip known t
clause_holds strip known t (tree u us) = if is_else strip t then Err BadForm else holds strip known t

abbrev pub or_chosen : {A : Type 0} → Bool → Trees A → Option (Trees A) → Option (Trees A)
or_chosen true forms later = Some forms
or_chosen false forms later = later

abbrev pub choices : {A : Type 0} → (A → List ℕ) → Known → Trees A → Result (Option (Trees A)) (Fault A)
choices strip known no_trees = Ok None
choices strip known (tree t ts) =
    list_of t >> λ p. some_of p.0 p.1 >> first_of >> λ q. clause_holds strip known q.0 ts >> λ b. choices strip known ts >> λ later. Ok (or_chosen b q.1 later)

-- `(cond-expand clause ...)` of one clause or more: the forms of the first clause that holds
abbrev pub chosen_of : {A : Type 0} → (A → List ℕ) → Known → Trees A → Tail A → Result (Option (Trees A)) (Fault A)
chosen_of strip known ts tail = some_of ts tail >> choices strip known

-- ---- which libraries are asked for

abbrev pub name_asked : {A : Type 0} → Result LibraryName (Fault A) → List LibraryName
name_asked (Ok n) = n ∷ []
name_asked (Err e) = []

-- those of a requirement
abbrev mutual
  pub libraries_of : {A : Type 0} → (A → List ℕ) → Tree A → List LibraryName
  libraries_of strip (name i o) = []
  libraries_of strip (atom a o) = []
  libraries_of strip (vector ts o) = []
  libraries_of strip (list no_trees tail o) = []
  libraries_of strip (list (tree (atom a p) ts) tail o) = []
  libraries_of strip (list (tree (list us end p) ts) tail o) = []
  libraries_of strip (list (tree (vector us p) ts) tail o) = []
  libraries_of strip (list (tree (name i p) ts) (dotted u) o) = []
  libraries_of strip (list (tree (name i p) ts) proper o) =
      if bytes_eq (strip i) (codes "and") then libraries_among strip ts
      else if bytes_eq (strip i) (codes "or") then libraries_among strip ts
      else if bytes_eq (strip i) (codes "not") then libraries_among strip ts
      else if bytes_eq (strip i) (codes "library") then name_asked (one_of ts proper >> library_name_of strip)
      else []

  pub libraries_among : {A : Type 0} → (A → List ℕ) → Trees A → List LibraryName
  libraries_among strip no_trees = []
  libraries_among strip (tree t ts) = libraries_of strip t ++ libraries_among strip ts

-- those of the requirement of a clause
abbrev pub clause_libraries : {A : Type 0} → (A → List ℕ) → Result (Tree A × Trees A) (Fault A) → List LibraryName
clause_libraries strip (Ok q) = if is_else strip q.0 then [] else libraries_of strip q.0
clause_libraries strip (Err e) = []

abbrev pub all_libraries : {A : Type 0} → (A → List ℕ) → Trees A → List LibraryName
all_libraries strip no_trees = []
all_libraries strip (tree t ts) = clause_libraries strip (list_of t >> λ p. some_of p.0 p.1 >> first_of) ++ all_libraries strip ts

-- those of `(cond-expand clause ...)`
abbrev pub libraries_in : {A : Type 0} → (A → List ℕ) → Trees A → Tail A → List LibraryName
libraries_in strip ts tail = all_libraries strip ts
