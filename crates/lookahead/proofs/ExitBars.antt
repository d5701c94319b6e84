-- Up to an `exit`, what stands behind it doesn't matter.
use Rattle.std.proofs.Common.{◌≡◌, ℕ, zero, suc, ◌+◌, ◌-◌, ◌%◌, List, [], ◌∷◌, ◌++◌, length, take, map, Bool, Some, None, refl, sym, ap, ◌∙◌, subst, arith}
use Rattle.std.specs.Prelude.{◌||◌, if◌then◌else◌}
use Rattle.std.proofs.lemmas.List.{length-map}
use Rattle.lsp_messages.specs.declared.message.Id.{Id}
use Rattle.lookahead.specs.Roles.{role_of}
use Rattle.lookahead.specs.Cancelled.{is_cancelled, cancelled_by, cancelled_from, cancelled_in, same_id}
use Rattle.lookahead.specs.declared.role.Role.{Role}
use Rattle.lookahead.specs.declared.role.Role.TheVariants.{Request, Cancellation, Exit, Other}

barred : (id : Id) (before after others : List Role) (n : ℕ) → is_cancelled id (take n (before ++ Exit ∷ after)) ≡ is_cancelled id (take n (before ++ Exit ∷ others))
barred id [] after others zero = refl
barred id [] after others (suc n) = refl
barred id (b ∷ before) after others zero = refl
barred id (Request other ∷ before) after others (suc n) = barred id before after others n
barred id (Cancellation other ∷ before) after others (suc n) = ap (λ (b : Bool). same_id id other || b) (barred id before after others n)
barred id (Exit ∷ before) after others (suc n) = refl
barred id (Other ∷ before) after others (suc n) = barred id before after others n

of_role : (role : Role) (before after others : List Role) (n : ℕ) → cancelled_by role (take n (before ++ Exit ∷ after)) ≡ cancelled_by role (take n (before ++ Exit ∷ others))
of_role (Request id) before after others n = ap (λ (b : Bool). if b then Some id else None) (barred id before after others n)
of_role (Cancellation id) before after others n = refl
of_role Exit before after others n = refl
of_role Other before after others n = refl

from_place : (before after others : List Role) (place : ℕ) → take (suc (length before)) (cancelled_from place (before ++ Exit ∷ after)) ≡ take (suc (length before)) (cancelled_from place (before ++ Exit ∷ others))
from_place [] after others place = refl
from_place (role ∷ before) after others place = λ j. of_role role before after others (63 - place % 64) j ∷ from_place before after others (suc place) j

mapped : (before : List (List ℕ)) (exit : List ℕ) (after : List (List ℕ)) → role_of exit ≡ Exit → map role_of (before ++ exit ∷ after) ≡ map role_of before ++ Exit ∷ map role_of after
mapped [] exit after h = λ j. h j ∷ map role_of after
mapped (b ∷ before) exit after h = ap (λ (rs : List Role). role_of b ∷ rs) (mapped before exit after h)

pub exit_bars : (before : List (List ℕ)) (exit : List ℕ) (after others : List (List ℕ)) → role_of exit ≡ Exit
    → take (length before + 1) (cancelled_in (before ++ exit ∷ after)) ≡ take (length before + 1) (cancelled_in (before ++ exit ∷ others))
exit_bars before exit after others h =
    let n = length before + 1 in
    let count : suc (length (map role_of before)) ≡ n = let l = length-map before role_of in omega arith in
    let same = subst (λ (k : ℕ). take k (cancelled_from 0 (map role_of before ++ Exit ∷ map role_of after)) ≡ take k (cancelled_from 0 (map role_of before ++ Exit ∷ map role_of others)))
    count (from_place (map role_of before) (map role_of after) (map role_of others) 0) in
    ap (λ (rs : List Role). take n (cancelled_from 0 rs)) (mapped before exit after h) ∙ same ∙ sym (ap (λ (rs : List Role). take n (cancelled_from 0 rs)) (mapped before exit others h))

pub alone_by : (role : Role) → cancelled_by role [] ≡ None
alone_by (Request id) = refl
alone_by (Cancellation id) = refl
alone_by Exit = refl
alone_by Other = refl
