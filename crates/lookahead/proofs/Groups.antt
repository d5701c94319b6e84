-- Bodies that are looked at in groups.
use Rattle.std.proofs.Common.{◌≡◌, ◌⊎◌, inl, inr, ℕ, suc, ◌+◌, ◌-◌, ◌%◌, ◌≤◌, List, [], ◌∷◌, ◌++◌, length, take, map, Option, Some, None, refl, sym, ap, ◌∙◌, subst, append-nil, arith}
use Rattle.std.specs.Prelude.{zip}
use Rattle.std.proofs.Math.Nat.{mod-eq_of_lt, suc-mod}
use Rattle.std.proofs.lemmas.List.{length-map, map-append, take-append-le, take_all}
use Rattle.lsp_messages.specs.declared.message.Id.{Id}
use Rattle.lookahead.specs.Cancelled.{cancelled_by, cancelled_from}
use Rattle.lookahead.specs.Looked.{Gives, Looked, left_in, looked}
use Rattle.lookahead.specs.Roles.{role_of}
use Rattle.lookahead.specs.Windows.{Leaves}
use Rattle.lookahead.specs.declared.looking.Looking.TheVariants.{Ahead}
use Rattle.lookahead.specs.declared.role.Role.{Role}
use Rattle.lookahead.specs.declared.window.Next.{Next}

-- ---- within a group

-- those behind a body all belong to its group
all_behind : (place : ℕ) (later : List Role) → place + suc (length later) ≤ 64 → take (63 - place % 64) later ≡ later
all_behind place later few =
    let small : place % 64 ≡ place = mod-eq_of_lt {n = place} {m = 64} (omega arith) in
    take_all (63 - place % 64) later (omega arith)

-- where they stand in it doesn't matter
any_place : (roles : List Role) (place other : ℕ) → place + length roles ≤ 64 → other + length roles ≤ 64 → cancelled_from place roles ≡ cancelled_from other roles
any_place [] place other few as_few = refl
any_place (role ∷ later) place other few as_few =
    let same : take (63 - place % 64) later ≡ take (63 - other % 64) later = all_behind place later few ∙ sym (all_behind other later as_few) in
    λ j. cancelled_by role (same j) ∷ any_place later (suc place) (suc other) (omega arith) (omega arith) j

-- the first of a group
looked_first : (body : List ℕ) (later : List (List ℕ)) → length (body ∷ later) ≤ 64 → looked Ahead (body ∷ later) ≡ (body, cancelled_by (role_of body) (map role_of later)) ∷ looked Ahead later
looked_first body later few =
    let count = length-map later role_of in
    let all : take 63 (map role_of later) ≡ map role_of later = take_all 63 (map role_of later) (omega arith) in
    let rest = any_place (map role_of later) 1 0 (omega arith) (omega arith) in
    λ j. (body, cancelled_by (role_of body) (all j)) ∷ zip later (rest j)

pub gives_first : (held left rest : List (List ℕ)) (next : Option Next) → length held ≤ 64 → (held ≡ [] → rest ≡ []) → Leaves held next left → Gives (left_in (Some held) rest) next (left_in (Some left) rest)
gives_first [] left rest None few none leaves =
    let over = none refl in
    subst (λ (r : List (List ℕ)). Gives (looked Ahead r) None (looked Ahead left ++ looked Ahead r)) (sym over) (ap (λ (l : List (List ℕ)). looked Ahead l ++ []) leaves)
gives_first [] left rest (Some next) few none leaves = absurd leaves
gives_first (body ∷ later) left rest None few none leaves = absurd leaves
gives_first (body ∷ later) left rest (Some next) few none leaves =
    subst (λ (all : List Looked). Gives (all ++ looked Ahead rest) (Some next) (looked Ahead left ++ looked Ahead rest)) (sym (looked_first body later few))
    (λ j. (leaves.0 j, leaves.1 j), ap (λ (l : List (List ℕ)). looked Ahead l ++ looked Ahead rest) leaves.2)

-- ---- group by group

-- groups are cut alike from each group's start on
each_group : (roles : List Role) (place other : ℕ) → place % 64 ≡ other % 64 → cancelled_from place roles ≡ cancelled_from other roles
each_group [] place other same = refl
each_group (role ∷ later) place other same =
    let next : suc place % 64 ≡ suc other % 64 = suc-mod place 64 ∙ ap (λ (n : ℕ). suc n % 64) same ∙ sym (suc-mod other 64) in
    λ j. cancelled_by role (take (63 - same j) later) ∷ each_group later (suc place) (suc other) next j

-- those behind a body that fills its group with others
behind_full : (place : ℕ) (held rest : List (List ℕ)) → place + suc (length held) ≡ 64 → take (63 - place % 64) (map role_of (held ++ rest)) ≡ take (63 - place % 64) (map role_of held)
behind_full place held rest full =
    let small : place % 64 ≡ place = mod-eq_of_lt {n = place} {m = 64} (omega arith) in
    let count = length-map held role_of in
    ap (λ (rs : List Role). take (63 - place % 64) rs) (map-append role_of held rest) ∙ take-append-le (63 - place % 64) (map role_of held) (map role_of rest) (omega arith)

full_group : (held rest : List (List ℕ)) (place : ℕ) → place + length held ≡ 64 →
    zip (held ++ rest) (cancelled_from place (map role_of (held ++ rest))) ≡ zip held (cancelled_from place (map role_of held)) ++ zip rest (cancelled_from 0 (map role_of rest))
full_group [] rest place full = ap (λ (ids : List (Option Id)). zip rest ids) (each_group (map role_of rest) place 0 (ap (λ (n : ℕ). n % 64) (let e : place ≡ 64 = omega arith in e)))
full_group (body ∷ held) rest place full =
    λ j. (body, cancelled_by (role_of body) (behind_full place held rest (omega arith) j)) ∷ full_group held rest (suc place) (omega arith) j

-- bodies that fill a group, or are all that there is
pub one_group : (held rest : List (List ℕ)) → (length held ≡ 64) ⊎ (rest ≡ []) → looked Ahead (held ++ rest) ≡ looked Ahead held ++ looked Ahead rest
one_group held rest (inl full) = full_group held rest 0 (omega arith)
one_group held rest (inr over) =
    subst (λ (r : List (List ℕ)). looked Ahead (held ++ r) ≡ looked Ahead held ++ looked Ahead r) (sym over)
    (ap (looked Ahead) (append-nil held) ∙ sym (append-nil (looked Ahead held)))

-- a window that held nothing, once it is filled
pub refilled : (before held rest all : List (List ℕ)) → length before ≡ 0 → held ++ rest ≡ all → (length held ≡ 64) ⊎ (rest ≡ []) → left_in (Some held) rest ≡ left_in (Some before) all
refilled [] held rest all none same ends = sym (one_group held rest ends) ∙ ap (looked Ahead) same
refilled (body ∷ before) held rest all none same ends = absurd (omega arith)
