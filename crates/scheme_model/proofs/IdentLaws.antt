-- Identifiers and names: which are one, and what they came from.
use Rattle.std.proofs.Common.{◌≡◌, ℕ, Bool, true, false, List, refl, sym, ap, subst, arith, eq-eqb}
use Rattle.std.specs.Prelude.{◌&&◌}
use Rattle.std.specs.Str.{bytes_eq}
use Rattle.std.proofs.lemmas.Slice.Eq.{bytes_eq-Decides}
use Rattle.std.proofs.lemmas.Bool.Decides.{nat_tests}
use Rattle.scheme_model.specs.Identifiers.{Number, same_number, Name, Written as WrittenName, Inserted as InsertedName, Inner, Var, same_name, strip}
use Rattle.scheme_model.specs.Ident.{Ident, Written, Inserted, same_ident, erase, root, symbol_of}

both : (a b : Bool) → (a && b) ≡ true → (a ≡ true) × (b ≡ true)
both true true h = (refl, refl)
both true false h = absurd cc
both false b h = absurd cc

bytes_told : (s t : List ℕ) → bytes_eq s t ≡ true → s ≡ t
bytes_told s t = (bytes_eq-Decides s t).0

bytes_itself : (s : List ℕ) → bytes_eq s s ≡ true
bytes_itself s = (bytes_eq-Decides s s).1 refl

pub number_told : (k l : Number) → same_number k l ≡ true → k ≡ l
number_told k l h =
    let unit : k.unit ≡ l.unit = grind (arith, nat_tests) in
    let form : k.form ≡ l.form = grind (arith, nat_tests) in
    let count : k.count ≡ l.count = grind (arith, nat_tests) in
    λ j. record { unit = unit j; form = form j; count = count j }

pub number_itself : (k : Number) → same_number k k ≡ true
number_itself k = rw (eq-eqb k.unit k.unit refl, eq-eqb k.form k.form refl, eq-eqb k.count k.count refl) refl

pub ident_told : (i j : Ident) → same_ident i j ≡ true → i ≡ j
ident_told (Written u s) (Written v t) h =
    let symbol = bytes_told s t (grind (arith, nat_tests)) in
    let unit : u ≡ v = grind (arith, nat_tests) in
    λ k. Written (unit k) (symbol k)
ident_told (Written u s) (Inserted j l) h = absurd cc
ident_told (Inserted i k) (Written v t) h = absurd cc
ident_told (Inserted i k) (Inserted j l) h =
    let p = both (same_number k l) (same_ident i j) h in
    let inner = ident_told i j p.1 in
    let number = number_told k l p.0 in
    λ m. Inserted (inner m) (number m)

pub ident_itself : (i : Ident) → same_ident i i ≡ true
ident_itself (Written u s) = rw (eq-eqb u u refl, bytes_itself s) refl
ident_itself (Inserted i k) = rw (number_itself k, ident_itself i) refl

pub name_told : (i j : Name) → same_name i j ≡ true → i ≡ j
name_told (WrittenName u s) (WrittenName v t) h =
    let symbol = bytes_told s t (grind (arith, nat_tests)) in
    let unit : u ≡ v = grind (arith, nat_tests) in
    λ k. WrittenName (unit k) (symbol k)
name_told (WrittenName u s) (InsertedName j l) h = absurd cc
name_told (WrittenName u s) (Inner b j) h = absurd cc
name_told (WrittenName u s) (Var v j) h = absurd cc
name_told (InsertedName i k) (WrittenName v t) h = absurd cc
name_told (InsertedName i k) (InsertedName j l) h =
    let p = both (same_number k l) (same_name i j) h in
    let inner = name_told i j p.1 in
    let number = number_told k l p.0 in
    λ m. InsertedName (inner m) (number m)
name_told (InsertedName i k) (Inner b j) h = absurd cc
name_told (InsertedName i k) (Var v j) h = absurd cc
name_told (Inner a i) (WrittenName v t) h = absurd cc
name_told (Inner a i) (InsertedName j l) h = absurd cc
name_told (Inner a i) (Inner b j) h =
    let p = both (same_number a b) (same_name i j) h in
    let inner = name_told i j p.1 in
    let number = number_told a b p.0 in
    λ m. Inner (number m) (inner m)
name_told (Inner a i) (Var v j) h = absurd cc
name_told (Var u i) (WrittenName v t) h = absurd cc
name_told (Var u i) (InsertedName j l) h = absurd cc
name_told (Var u i) (Inner b j) h = absurd cc
name_told (Var u i) (Var v j) h =
    let p = both (same_number u v) (same_name i j) h in
    let inner = name_told i j p.1 in
    let number = number_told u v p.0 in
    λ m. Var (number m) (inner m)

pub name_itself : (i : Name) → same_name i i ≡ true
name_itself (WrittenName u s) = rw (eq-eqb u u refl, bytes_itself s) refl
name_itself (InsertedName i k) = rw (number_itself k, name_itself i) refl
name_itself (Inner b i) = rw (number_itself b, name_itself i) refl
name_itself (Var v i) = rw (number_itself v, name_itself i) refl

-- two truth values are one where each gives the other
pub bool_same : (a b : Bool) → (a ≡ true → b ≡ true) → (b ≡ true → a ≡ true) → a ≡ b
bool_same true b f g = sym (f refl)
bool_same false true f g = g refl
bool_same false false f g = refl

pub strip_erased : (i : Name) → symbol_of (erase i) ≡ strip i
strip_erased (WrittenName u s) = refl
strip_erased (InsertedName i k) = strip_erased i
strip_erased (Inner b i) = strip_erased i
strip_erased (Var v i) = strip_erased i

pub erase_root : (i : Ident) → erase (root i) ≡ i
erase_root (Written u s) = refl
erase_root (Inserted i k) = ap (λ (j : Ident). Inserted j k) (erase_root i)

pub same_turned : (i j : Ident) → same_ident i j ≡ same_ident j i
same_turned i j =
    bool_same (same_ident i j) (same_ident j i)
    (λ h. subst (λ (x : Ident). same_ident x i ≡ true) (ident_told i j h) (ident_itself i))
    (λ h. subst (λ (x : Ident). same_ident x j ≡ true) (ident_told j i h) (ident_itself j))
