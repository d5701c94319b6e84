-- What contracts see of the tables of symbols and identifiers. A number is a place in one of these lists.
use Rattle.std.specs.Prelude.{◌≡◌, ℕ, ◌<◌, Bool, List, [], ◌∷◌, ◌++◌, length, slice_get, Some, if◌then◌else◌, refl}
use Rattle.std.specs.List.{list_any}
use Rattle.std.specs.Str.{bytes_eq}
use Rattle.std.proofs.Common.{ap}
use Rattle.std.specs.Coded.{Coded, code_by, coded×, coded_ℕ, coded_list}
use Rattle.scheme_model.specs.Ident.{Ident as Identifier, Written, Inserted, same_ident, symbol_of}

-- the symbols, each as its characters in UTF-8, and the identifiers
pub record Names : Type 0 where
  pub symbols : List (List ℕ)
  pub idents : List Identifier

-- different places hold different things
abbrev pub AreToldApart : {A : Type 0} → List A → Type 0
AreToldApart xs = (i j : ℕ) → i < length xs → slice_get xs i ≡ slice_get xs j → i ≡ j

-- a list with a thing at its end, where it isn't in the list yet
abbrev pub with_new : {A : Type 0} → (A → A → Bool) → List A → A → List A
with_new same xs x = if list_any (same x) xs then xs else (xs ++ x ∷ [])

abbrev pub with_symbol : List (List ℕ) → List ℕ → List (List ℕ)
with_symbol symbols s = with_new bytes_eq symbols s

abbrev pub with_ident : List Identifier → Identifier → List Identifier
with_ident idents i = with_new same_ident idents i

-- each symbol and each identifier keeps its number
pub record KeepsNames (old new : Names) : Type 0 where
  pub symbols : (n : ℕ) (s : List ℕ) → slice_get old.symbols n ≡ Some s → slice_get new.symbols n ≡ Some s
  pub idents : (n : ℕ) (i : Identifier) → slice_get old.idents n ≡ Some i → slice_get new.idents n ≡ Some i

-- of so many identifiers, the first ones, each has its symbol among the first symbols, so many
abbrev pub StandBeside : Names → (symbols idents : ℕ) → Type 0
StandBeside names symbols idents = (n : ℕ) (i : Identifier) → n < idents → slice_get names.idents n ≡ Some i → (k : ℕ) × (k < symbols) × (slice_get names.symbols k ≡ Some (symbol_of i))

-- an identifier is stored as its numbers of uses, the last use first, with its unit and its symbol
abbrev uses : Identifier → List (ℕ × (ℕ × ℕ))
uses (Written u s) = []
uses (Inserted i k) = (k.unit, (k.form, k.count)) ∷ uses i

abbrev written : Identifier → ℕ × List ℕ
written (Written u s) = (u, s)
written (Inserted i k) = written i

abbrev inserted : List (ℕ × (ℕ × ℕ)) → ℕ × List ℕ → Identifier
inserted [] w = Written w.0 w.1
inserted (k ∷ ks) w = Inserted (inserted ks w) (record { unit = k.0; form = k.1.0; count = k.1.1 })

pub inserted-uses : (i : Identifier) → inserted (uses i) (written i) ≡ i
inserted-uses (Written u s) = refl
inserted-uses (Inserted i k) = ap (λ (j : Identifier). Inserted j k) (inserted-uses i)

abbrev pub identifier_code : Coded Identifier
identifier_code =
    code_by (List (ℕ × (ℕ × ℕ)) × (ℕ × List ℕ)) (coded× (coded_list (coded× coded_ℕ (coded× coded_ℕ coded_ℕ))) (coded× coded_ℕ (coded_list coded_ℕ))) (λ i. (uses i, written i)) (λ p. inserted p.0 p.1) inserted-uses

abbrev pub names_code : Coded Names
names_code =
    code_by (List (List ℕ) × List Identifier) (coded× (coded_list (coded_list coded_ℕ)) (coded_list identifier_code)) (λ n. (n.symbols, n.idents)) (λ p. record { symbols = p.0; idents = p.1 }) (λ _. refl)
