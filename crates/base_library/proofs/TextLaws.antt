-- The standard library that a text names.
use Rattle.std.proofs.Common.{◌≡◌, ℕ, Bool, true, false, cond, List, [], ◌∷◌, Some, None, refl, sym, ap, ◌∙◌}
use Rattle.std.specs.Prelude.{◌&&◌}
use Rattle.std.specs.Str.{bytes_eq}
use Rattle.scheme_model.specs.Requirements.{LibraryName, LibraryPart, Symbol, Digits, same_part, same_library}
use Rattle.scheme_model.specs.StandardLibraries.{StandardLibrary, standard_libraries, names_in, standard}
use Rattle.syntax_tree.proofs.InternLaws.{bytes_told, bytes_itself}
use Rattle.syntax_tree.proofs.TestLaws.{and_true}
use Rattle.base_library.specs.Texts.{name_text, names_by, names_of, SpellsAll, SpellsStandard}

-- ---- a text that isn't a library's

abbrev pub IsNone : List StandardLibrary → List ℕ → Type 0
IsNone [] text = Unit {0}
IsNone (l ∷ ls) text = (text ≡ name_text l.name → ⊥) × IsNone ls text

differs : (s t : List ℕ) (b : Bool) → bytes_eq s t ≡ b → (t ≡ s → ⊥) → bytes_eq s t ≡ false
differs s t true h apart = absurd (apart (sym (bytes_told s t h)))
differs s t false h apart = h

pub no_names : (ls : List StandardLibrary) (text : List ℕ) → IsNone ls text → None ≡ names_by ls text
no_names [] text h = refl
no_names (l ∷ ls) text h =
    let not = differs (name_text l.name) text (bytes_eq (name_text l.name) text) refl h.0 in
    no_names ls text h.1 ∙ ap (λ (b : Bool). cond b (Some l.names) (names_by ls text)) (sym not)

-- ---- libraries by their names

part_told : (p q : LibraryPart) → same_part p q ≡ true → p ≡ q
part_told (Symbol s) (Symbol t) h = ap Symbol (bytes_told s t h)
part_told (Symbol s) (Digits t) h = absurd cc
part_told (Digits s) (Symbol t) h = absurd cc
part_told (Digits s) (Digits t) h = ap Digits (bytes_told s t h)

part_itself : (p : LibraryPart) → same_part p p ≡ true
part_itself (Symbol s) = bytes_itself s
part_itself (Digits s) = bytes_itself s

library_told : (m n : LibraryName) → same_library m n ≡ true → m ≡ n
library_told [] [] h = refl
library_told [] (q ∷ qs) h = absurd cc
library_told (p ∷ ps) [] h = absurd cc
library_told (p ∷ ps) (q ∷ qs) h =
    let both = and_true (same_part p q) (same_library ps qs) h in
    (λ j. part_told p q both.0 j ∷ library_told ps qs both.1 j)

library_itself : (n : LibraryName) → same_library n n ≡ true
library_itself [] = refl
library_itself (p ∷ ps) = (λ j. part_itself p j && library_itself ps j)

-- two tests that imply one another
same_test : (a b : Bool) → (a ≡ true → b ≡ true) → (b ≡ true → a ≡ true) → a ≡ b
same_test true true f g = refl
same_test true false f g = sym (f refl)
same_test false true f g = g refl
same_test false false f g = refl

texts_same : (spelled : LibraryName → List ℕ) → ((m n : LibraryName) → spelled m ≡ spelled n → m ≡ n) → (m n : LibraryName) → spelled m ≡ name_text m → bytes_eq (name_text m) (spelled n) ≡ same_library m n
texts_same spelled tells m n is =
    same_test (bytes_eq (name_text m) (spelled n)) (same_library m n)
    (λ h. ap (same_library m) (sym (tells m n (is ∙ bytes_told (name_text m) (spelled n) h))) ∙ library_itself m)
    (λ h. ap (bytes_eq (name_text m)) (ap spelled (sym (library_told m n h)) ∙ is) ∙ bytes_itself (name_text m))

names_same : (spelled : LibraryName → List ℕ) → ((m n : LibraryName) → spelled m ≡ spelled n → m ≡ n) → (ls : List StandardLibrary) → SpellsAll spelled ls → (n : LibraryName) → names_by ls (spelled n) ≡ names_in ls n
names_same spelled tells [] h n = refl
names_same spelled tells (l ∷ ls) h n = λ j. cond (texts_same spelled tells l.name n h.0 j) (Some l.names) (names_same spelled tells ls h.1 n j)

pub by_name : (spelled : LibraryName → List ℕ) → SpellsStandard spelled → (text : List ℕ) (n : LibraryName) → text ≡ spelled n → names_of text ≡ standard n
by_name spelled h text n is = ap names_of is ∙ names_same spelled h.tells standard_libraries h.standard n
