-- Lists whose items are matched, place by place.
use Rattle.std.proofs.Common.{◌≡◌, ℕ, zero, suc, List, [], ◌∷◌, ◌++◌, length, slice_get, Some, refl, ap, subst}
use Rattle.std.proofs.lemmas.Option.{same_Some}
use Rattle.syntax_tree.proofs.Places.{none_some}
use Rattle.core_tree.specs.Names.{AllMatch}

-- what is matched at a place
pub matched_at : {X Y : Type 0} (P : X → Y → Type 0) (xs : List X) (ys : List Y) (n : ℕ) (x : X) → AllMatch P xs ys → slice_get xs n ≡ Some x → (y : Y) × (slice_get ys n ≡ Some y) × P x y
matched_at P [] ys n x h at = none_some x at
matched_at P (a ∷ xs) [] n x h at = absurd h
matched_at {X} P (a ∷ xs) (b ∷ ys) zero x h at = (b, refl, subst (λ (z : X). P z b) (same_Some a x at) h.0)
matched_at P (a ∷ xs) (b ∷ ys) (suc n) x h at = matched_at P xs ys n x h.1 at

pub matched_back : {X Y : Type 0} (P : X → Y → Type 0) (xs : List X) (ys : List Y) (n : ℕ) (y : Y) → AllMatch P xs ys → slice_get ys n ≡ Some y → (x : X) × (slice_get xs n ≡ Some x) × P x y
matched_back P xs [] n y h at = none_some y at
matched_back P [] (b ∷ ys) n y h at = absurd h
matched_back P (a ∷ xs) (b ∷ ys) zero y h at = (a, refl, subst (P a) (same_Some b y at) h.0)
matched_back P (a ∷ xs) (b ∷ ys) (suc n) y h at = matched_back P xs ys n y h.1 at

pub all_append : {X Y : Type 0} (P : X → Y → Type 0) (xs : List X) (ys : List Y) (vs : List X) (ws : List Y) → AllMatch P xs ys → AllMatch P vs ws → AllMatch P (xs ++ vs) (ys ++ ws)
all_append P [] [] vs ws h more = more
all_append P [] (y ∷ ys) vs ws h more = absurd h
all_append P (x ∷ xs) [] vs ws h more = absurd h
all_append P (x ∷ xs) (y ∷ ys) vs ws h more = (h.0, all_append P xs ys vs ws h.1 more)

pub as_many : {X Y : Type 0} (P : X → Y → Type 0) (xs : List X) (ys : List Y) → AllMatch P xs ys → length xs ≡ length ys
as_many P [] [] h = refl
as_many P [] (y ∷ ys) h = absurd h
as_many P (x ∷ xs) [] h = absurd h
as_many P (x ∷ xs) (y ∷ ys) h = ap suc (as_many P xs ys h.1)
