-- A standard name means no unit, whatever units there are.
use Rattle.std.proofs.Common.{◌≡◌, ℕ, suc, Bool, true, false, cond, List, [], ◌∷◌, Option, Some, None, refl, ap, ◌∙◌}
use Rattle.scheme_model.specs.Requirements.{LibraryName, same_library}
use Rattle.scheme_model.specs.Order.{is_some}
use Rattle.scheme_model.specs.StandardLibraries.{standard}
use Rattle.scheme_model.specs.IncludedUnits.{Placed}
use Rattle.scheme_model.specs.Program.{name_if, unless_standard, is_named, unit_named}
use Rattle.unit_sources.proofs.NamedLaws.{library_told}

not_same : (m n : LibraryName) → is_some (standard m) ≡ false → is_some (standard n) ≡ true → same_library m n ≡ false
not_same m n h k = go (same_library m n) refl
  where
    go : (b : Bool) → same_library m n ≡ b → same_library m n ≡ false
    go true e = let same = library_told m n e in absurd cc
    go false e = e

not_named : (n : LibraryName) → is_some (standard n) ≡ true → (o : Option LibraryName) → is_named n (unless_standard o) ≡ false
not_named n k None = refl
not_named n k (Some m) = go (is_some (standard m)) refl
  where
    go : (b : Bool) → is_some (standard m) ≡ b → is_named n (cond b None (Some m)) ≡ false
    go true e = refl
    go false e = not_same m n e k

pub no_unit : (n : LibraryName) → is_some (standard n) ≡ true → (us : List Placed) (place : ℕ) → unit_named n place us ≡ None
no_unit n k [] place = refl
no_unit n k (u ∷ us) place = ap (λ (b : Bool). cond b (Some place) (unit_named n (suc place) us)) (not_named n k (name_if place u.source)) ∙ no_unit n k us (suc place)
