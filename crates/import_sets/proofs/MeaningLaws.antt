-- Meanings of the code are the same where those that they stand for are.
use Rattle.std.proofs.Common.{◌≡◌, ℕ, Bool, true, false, refl, sym, ap, ◌∙◌, arith, slice_get, Some}
use Rattle.std.specs.Prelude.{◌&&◌, ◌==◌, List}
use Rattle.std.specs.Str.{bytes_eq}
use Rattle.std.proofs.lemmas.Bool.Decides.{nat_tests}
use Rattle.std.proofs.lemmas.Option.{slice_get_within}
use Rattle.scheme_model.specs.Identifiers.{Number, same_number}
use Rattle.scheme_model.specs.Ident.{Ident, same_ident}
use Rattle.scheme_model.specs.Meaning.{Meaning, Local, Global, Standard, Free, same_meaning}
use Rattle.syntax_tree.specs.Names.{Names, AreToldApart}
use Rattle.syntax_tree.specs.Meant.{IsGivenMeaning}
use Rattle.syntax_tree.specs.declared.meaning.Meaning as code_meaning
use Rattle.syntax_tree.specs.declared.meaning.Meaning.TheVariants as code
use Rattle.syntax_tree.proofs.InternLaws.{bytes_told, bytes_itself, ident_told, ident_itself}
use Rattle.syntax_tree.proofs.TestLaws.{and_true}
use Rattle.import_sets.specs.Sets.{TellsApart}
use Rattle.import_sets.specs.Given as given

pub bool_same : (a b : Bool) → (a ≡ true → b ≡ true) → (b ≡ true → a ≡ true) → a ≡ b
bool_same true b f g = sym (f refl)
bool_same false true f g = g refl
bool_same false false f g = refl

numbers_told : (a b : ℕ) → (a == b) ≡ true → a ≡ b
numbers_told a b h = grind (arith, nat_tests)

-- two numbers are the same where what stands at them is
module _ {A : Type 0} (same : A → A → Bool) (told : (x y : A) → same x y ≡ true → x ≡ y) (itself : (x : A) → same x x ≡ true) where
  places_same : (xs : List A) → AreToldApart xs → (i j : ℕ) (x y : A) → slice_get xs i ≡ Some x → slice_get xs j ≡ Some y → (i == j) ≡ same x y
  places_same xs apart i j x y p q =
      bool_same (i == j) (same x y)
      (λ h. let e : i ≡ j = numbers_told i j h in
      let at : slice_get xs i ≡ Some y = ap (slice_get xs) e ∙ q in
      let one : x ≡ y = cc in
      ap (same x) (sym one) ∙ itself x)
      (λ h. let one : x ≡ y = told x y h in
      let e : i ≡ j = apart i j (slice_get_within xs i x p) (p ∙ ap Some one ∙ sym q) in
      grind (arith, nat_tests, e))

abbrev unit_of : Meaning → ℕ
unit_of (Local v) = v.unit
unit_of (Global u i) = 0
unit_of (Standard s) = 0
unit_of (Free s) = 0

-- a name that a unit gives isn't local
no_local : {A : Type 0} (names : Names) (v : ℕ) (m : Meaning) → IsGivenMeaning names (code.Local v) m → A
no_local names v m h =
    absurd (apart (ap unit_of (sym (h 0 0) ∙ h 1 0)))
  where
    apart : ◌≡◌ {A = ℕ} 0 1 → ⊥
    apart e = omega arith

same_global : (names : Names) → TellsApart names → (u i : ℕ) (z : ℕ) (x : Ident) → (u ≡ z) × (slice_get names.idents i ≡ Some x) → (b : code_meaning.Meaning) (n : Meaning) → IsGivenMeaning names b n → given.same_meaning (code.Global u i) b ≡ same_meaning (Global z x) n
same_global names apart u i z x h (code.Local v) n k = no_local names v n k
same_global names apart u i z x h (code.Global v j) (Local w) k = absurd (k 0 0)
same_global names apart u i z x h (code.Global v j) (Global w y) k = (λ l. (h.0 l == (k 0 0).0 l) && places_same same_ident ident_told ident_itself names.idents apart.idents i j x y h.1 (k 0 0).1 l)
same_global names apart u i z x h (code.Global v j) (Standard r) k = absurd (k 0 0)
same_global names apart u i z x h (code.Global v j) (Free r) k = absurd (k 0 0)
same_global names apart u i z x h (code.Standard t) (Local w) k = absurd (k 0 0)
same_global names apart u i z x h (code.Standard t) (Global w y) k = absurd (k 0 0)
same_global names apart u i z x h (code.Standard t) (Standard r) k = refl
same_global names apart u i z x h (code.Standard t) (Free r) k = absurd (k 0 0)
same_global names apart u i z x h (code.Free t) (Local w) k = absurd (k 0 0)
same_global names apart u i z x h (code.Free t) (Global w y) k = absurd (k 0 0)
same_global names apart u i z x h (code.Free t) (Standard r) k = absurd (k 0 0)
same_global names apart u i z x h (code.Free t) (Free r) k = refl

same_standard : (names : Names) → TellsApart names → (s : ℕ) (q : List ℕ) → slice_get names.symbols s ≡ Some q → (b : code_meaning.Meaning) (n : Meaning) → IsGivenMeaning names b n → given.same_meaning (code.Standard s) b ≡ same_meaning (Standard q) n
same_standard names apart s q h (code.Local v) n k = no_local names v n k
same_standard names apart s q h (code.Global v j) (Local w) k = absurd (k 0 0)
same_standard names apart s q h (code.Global v j) (Global w y) k = refl
same_standard names apart s q h (code.Global v j) (Standard r) k = absurd (k 0 0)
same_standard names apart s q h (code.Global v j) (Free r) k = absurd (k 0 0)
same_standard names apart s q h (code.Standard t) (Local w) k = absurd (k 0 0)
same_standard names apart s q h (code.Standard t) (Global w y) k = absurd (k 0 0)
same_standard names apart s q h (code.Standard t) (Standard r) k = places_same bytes_eq bytes_told bytes_itself names.symbols apart.symbols s t q r h (k 0 0)
same_standard names apart s q h (code.Standard t) (Free r) k = absurd (k 0 0)
same_standard names apart s q h (code.Free t) (Local w) k = absurd (k 0 0)
same_standard names apart s q h (code.Free t) (Global w y) k = absurd (k 0 0)
same_standard names apart s q h (code.Free t) (Standard r) k = absurd (k 0 0)
same_standard names apart s q h (code.Free t) (Free r) k = refl

same_free : (names : Names) → TellsApart names → (s : ℕ) (q : List ℕ) → slice_get names.symbols s ≡ Some q → (b : code_meaning.Meaning) (n : Meaning) → IsGivenMeaning names b n → given.same_meaning (code.Free s) b ≡ same_meaning (Free q) n
same_free names apart s q h (code.Local v) n k = no_local names v n k
same_free names apart s q h (code.Global v j) (Local w) k = absurd (k 0 0)
same_free names apart s q h (code.Global v j) (Global w y) k = refl
same_free names apart s q h (code.Global v j) (Standard r) k = absurd (k 0 0)
same_free names apart s q h (code.Global v j) (Free r) k = absurd (k 0 0)
same_free names apart s q h (code.Standard t) (Local w) k = absurd (k 0 0)
same_free names apart s q h (code.Standard t) (Global w y) k = absurd (k 0 0)
same_free names apart s q h (code.Standard t) (Standard r) k = refl
same_free names apart s q h (code.Standard t) (Free r) k = absurd (k 0 0)
same_free names apart s q h (code.Free t) (Local w) k = absurd (k 0 0)
same_free names apart s q h (code.Free t) (Global w y) k = absurd (k 0 0)
same_free names apart s q h (code.Free t) (Standard r) k = absurd (k 0 0)
same_free names apart s q h (code.Free t) (Free r) k = places_same bytes_eq bytes_told bytes_itself names.symbols apart.symbols s t q r h (k 0 0)

pub meanings_same : (names : Names) → TellsApart names → (a b : code_meaning.Meaning) (m n : Meaning) → IsGivenMeaning names a m → IsGivenMeaning names b n → given.same_meaning a b ≡ same_meaning m n
meanings_same names apart (code.Local v) b m n h k = no_local names v m h
meanings_same names apart (code.Global u i) b (Local w) n h k = absurd (h 0 0)
meanings_same names apart (code.Global u i) b (Global z x) n h k = same_global names apart u i z x (h 0 0) b n k
meanings_same names apart (code.Global u i) b (Standard q) n h k = absurd (h 0 0)
meanings_same names apart (code.Global u i) b (Free q) n h k = absurd (h 0 0)
meanings_same names apart (code.Standard s) b (Local w) n h k = absurd (h 0 0)
meanings_same names apart (code.Standard s) b (Global z x) n h k = absurd (h 0 0)
meanings_same names apart (code.Standard s) b (Standard q) n h k = same_standard names apart s q (h 0 0) b n k
meanings_same names apart (code.Standard s) b (Free q) n h k = absurd (h 0 0)
meanings_same names apart (code.Free s) b (Local w) n h k = absurd (h 0 0)
meanings_same names apart (code.Free s) b (Global z x) n h k = absurd (h 0 0)
meanings_same names apart (code.Free s) b (Standard q) n h k = absurd (h 0 0)
meanings_same names apart (code.Free s) b (Free q) n h k = same_free names apart s q (h 0 0) b n k

number_told : (k l : Number) → same_number k l ≡ true → k ≡ l
number_told k l h =
    let unit : k.unit ≡ l.unit = grind (arith, nat_tests) in
    let form : k.form ≡ l.form = grind (arith, nat_tests) in
    let count : k.count ≡ l.count = grind (arith, nat_tests) in
    λ j. record { unit = unit j; form = form j; count = count j }

pub meaning_told : (m n : Meaning) → same_meaning m n ≡ true → m ≡ n
meaning_told (Local v) (Local w) h = ap Local (number_told v w h)
meaning_told (Local v) (Global w j) h = absurd cc
meaning_told (Local v) (Standard t) h = absurd cc
meaning_told (Local v) (Free t) h = absurd cc
meaning_told (Global u i) (Local w) h = absurd cc
meaning_told (Global u i) (Global w j) h = (λ l. Global (numbers_told u w (and_true (u == w) (same_ident i j) h).0 l) (ident_told i j (and_true (u == w) (same_ident i j) h).1 l))
meaning_told (Global u i) (Standard t) h = absurd cc
meaning_told (Global u i) (Free t) h = absurd cc
meaning_told (Standard s) (Local w) h = absurd cc
meaning_told (Standard s) (Global v j) h = absurd cc
meaning_told (Standard s) (Standard t) h = ap Standard (bytes_told s t h)
meaning_told (Standard s) (Free t) h = absurd cc
meaning_told (Free s) (Local w) h = absurd cc
meaning_told (Free s) (Global v j) h = absurd cc
meaning_told (Free s) (Standard t) h = absurd cc
meaning_told (Free s) (Free t) h = ap Free (bytes_told s t h)
