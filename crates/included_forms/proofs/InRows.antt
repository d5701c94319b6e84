-- Listings in a row: what stands first counts, and a row may stand in the place of what it gives.
use Rattle.std.proofs.Common.{◌≡◌, ℕ, List, [], ◌∷◌, ◌++◌, false, refl, sym, ap, arith}
use Rattle.std.specs.Prelude.{nat_lt, if◌then◌else◌}
use Rattle.scheme_model.specs.Included.{Homed, Listing, BadAfter, TooLong, capped, followed, in_a_row, bad}
use Rattle.scheme_model.proofs.IncludeLaws.{rows_joined}

-- what is behind counts by what it gives
pub same_behind : (limit : ℕ) (xs ys zs : List Listing) → in_a_row limit ys ≡ in_a_row limit zs → in_a_row limit (xs ++ ys) ≡ in_a_row limit (xs ++ zs)
same_behind limit [] ys zs e = e
same_behind limit (x ∷ xs) ys zs e = ap (followed limit x) (same_behind limit xs ys zs e)

-- a row in the place of what it gives
pub row_in_place : (limit : ℕ) (xs ms ys : List Listing) → in_a_row limit (xs ++ in_a_row limit ms ∷ ys) ≡ in_a_row limit (xs ++ (ms ++ ys))
row_in_place limit xs ms ys = same_behind limit xs (in_a_row limit ms ∷ ys) (ms ++ ys) (sym (rows_joined limit ms ys))

-- nothing counts behind a bad declaration
pub bad_ends : (limit : ℕ) (xs : List Listing) (h : Homed) (ys : List Listing) → in_a_row limit (xs ++ bad h ∷ ys) ≡ in_a_row limit (xs ++ bad h ∷ [])
bad_ends limit xs h ys = same_behind limit xs (bad h ∷ ys) (bad h ∷ []) refl

bad_within : (limit : ℕ) (h : Homed) → capped limit (bad h) ≡ bad h
bad_within limit h = let e : nat_lt limit 0 ≡ false = grind arith in ap (λ b. if b then TooLong else BadAfter 0 h) e

pub bad_alone : (limit : ℕ) (h : Homed) → in_a_row limit (bad h ∷ []) ≡ bad h
bad_alone limit h = bad_within limit h
