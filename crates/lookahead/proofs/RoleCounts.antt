-- How many cancellations stand among bodies, when one comes behind them and when the first goes.
use Rattle.std.proofs.Common.{◌≡◌, ◌⊎◌, inl, inr, ℕ, ◌+◌, ◌^◌, ◌<◌, ◌≤◌, List, [], ◌∷◌, ◌++◌, length, Bool, true, false, Some, None, refl, sym, ap, ◌∙◌, subst, zero-add, add-zero, arith}
use Rattle.std.specs.Prelude.{◌||◌, nat_lt, if◌then◌else◌}
use Rattle.std.proofs.lemmas.Bool.Decides.{nat_tests}
use Rattle.lsp_messages.specs.declared.message.Id.{Id}
use Rattle.lsp_messages.specs.declared.message.Id.TheVariants.{Number, Name}
use Rattle.lookahead.specs.Cancelled.{cancelled_by, is_cancelled, same_id}
use Rattle.lookahead.specs.Counts.{IsOf, cancellations_of, count_of, has_exit}
use Rattle.lookahead.specs.declared.cancellations.Cancellations.{Cancellations}
use Rattle.lookahead.specs.declared.role.Role.{Role}
use Rattle.lookahead.specs.declared.role.Role.TheVariants.{Request, Cancellation, Exit, Other}

-- ---- whether there is one

counted_first : (b : Bool) (n : ℕ) (c : Bool) → nat_lt 0 n ≡ c → nat_lt 0 ((if b then 1 else 0) + n) ≡ (b || c)
counted_first true n c h = grind (arith, nat_tests)
counted_first false n c h = ap (λ k. nat_lt 0 k) (zero-add n) ∙ h

pub cancelled_where_counted : (id : Id) (roles : List Role) → nat_lt 0 (cancellations_of id roles) ≡ is_cancelled id roles
cancelled_where_counted id [] = refl
cancelled_where_counted id (Request other ∷ later) = cancelled_where_counted id later
cancelled_where_counted id (Cancellation other ∷ later) = counted_first (same_id id other) (cancellations_of id later) (is_cancelled id later) (cancelled_where_counted id later)
cancelled_where_counted id (Exit ∷ later) = refl
cancelled_where_counted id (Other ∷ later) = cancelled_where_counted id later

one_or_none : (b : Bool) (n m : ℕ) → n ≤ m → (if b then 1 else 0) + n ≤ m + 1
one_or_none true n m h = omega arith
one_or_none false n m h = omega arith

-- no more than there are bodies
pub few_counted : (id : Id) (roles : List Role) → cancellations_of id roles ≤ length roles
few_counted id [] = omega arith
few_counted id (Request other ∷ later) = let h = few_counted id later in omega arith
few_counted id (Cancellation other ∷ later) = let h = one_or_none (same_id id other) (cancellations_of id later) (length later) (few_counted id later) in omega arith
few_counted id (Exit ∷ later) = omega arith
few_counted id (Other ∷ later) = let h = few_counted id later in omega arith

-- ---- one more body

-- behind an `exit` nothing is counted
behind_exit : (id : Id) (roles : List Role) (role : Role) → has_exit roles ≡ true → cancellations_of id (roles ++ role ∷ []) ≡ cancellations_of id roles
behind_exit id [] role h = absurd cc
behind_exit id (Request other ∷ later) role h = behind_exit id later role h
behind_exit id (Cancellation other ∷ later) role h = ap (λ n. (if same_id id other then 1 else 0) + n) (behind_exit id later role h)
behind_exit id (Exit ∷ later) role h = refl
behind_exit id (Other ∷ later) role h = behind_exit id later role h

exit_stays : (roles : List Role) (role : Role) → has_exit roles ≡ true → has_exit (roles ++ role ∷ []) ≡ true
exit_stays [] role h = absurd cc
exit_stays (Request other ∷ later) role h = exit_stays later role h
exit_stays (Cancellation other ∷ later) role h = exit_stays later role h
exit_stays (Exit ∷ later) role h = refl
exit_stays (Other ∷ later) role h = exit_stays later role h

before_exit : (id : Id) (roles : List Role) (role : Role) → has_exit roles ≡ false → cancellations_of id (roles ++ role ∷ []) ≡ cancellations_of id roles + cancellations_of id (role ∷ [])
before_exit id [] role h = sym (zero-add (cancellations_of id (role ∷ [])))
before_exit id (Request other ∷ later) role h = before_exit id later role h
before_exit id (Cancellation other ∷ later) role h = let e = before_exit id later role h in omega arith
before_exit id (Exit ∷ later) role h = absurd cc
before_exit id (Other ∷ later) role h = before_exit id later role h

exit_last : (roles : List Role) (role : Role) → has_exit roles ≡ false → has_exit (roles ++ role ∷ []) ≡ has_exit (role ∷ [])
exit_last [] role h = refl
exit_last (Request other ∷ later) role h = exit_last later role h
exit_last (Cancellation other ∷ later) role h = exit_last later role h
exit_last (Exit ∷ later) role h = absurd cc
exit_last (Other ∷ later) role h = exit_last later role h

-- an `exit` is among them already
pub taken_behind_exit : (roles : List Role) (role : Role) (all : Cancellations) → all.closed ≡ true → IsOf roles all → IsOf (roles ++ role ∷ []) all
taken_behind_exit roles role all closed of =
    let h : has_exit roles ≡ true = sym of.exits ∙ closed in
    record { counted = λ id. of.counted id ∙ sym (behind_exit id roles role h); exits = closed ∙ sym (exit_stays roles role h) }

-- a body comes behind the others that counts so much, and closes them or not
pub taken_behind : (roles : List Role) (role : Role) (old new : Cancellations) → old.closed ≡ false → new.closed ≡ has_exit (role ∷ [])
    → ((id : Id) → count_of new id ≡ count_of old id + cancellations_of id (role ∷ [])) → IsOf roles old → IsOf (roles ++ role ∷ []) new
taken_behind roles role old new unclosed closes counts of =
    let h : has_exit roles ≡ false = sym of.exits ∙ unclosed in
    record {
      counted = λ id. counts id ∙ ap (λ n. n + cancellations_of id (role ∷ [])) (of.counted id) ∙ sym (before_exit id roles role h);
      exits = closes ∙ sym (exit_last roles role h);
    }

-- a cancellation
one_alone : (b : Bool) (n : ℕ) → n + (if b then 1 else 0) ≡ n + ((if b then 1 else 0) + 0)
one_alone true n = omega arith
one_alone false n = omega arith

pub taken_cancellation : (roles : List Role) (role : Role) (other : Id) (old new : Cancellations) → role ≡ Cancellation other → old.closed ≡ false → new.closed ≡ old.closed
    → ((id : Id) → count_of new id ≡ count_of old id + (if same_id id other then 1 else 0)) → IsOf roles old → IsOf (roles ++ role ∷ []) new
taken_cancellation roles role other old new is unclosed closes counts of =
    subst (λ (r : Role). IsOf (roles ++ r ∷ []) new) (sym is)
    (taken_behind roles (Cancellation other) old new unclosed (closes ∙ unclosed) (λ id. counts id ∙ one_alone (same_id id other) (count_of old id)) of)

-- an `exit`
same_maps : (all : Cancellations) (closed : Bool) (id : Id) → count_of (record { numbers = all.numbers; names = all.names; closed = closed }) id ≡ count_of all id
same_maps all closed (Number n) = refl
same_maps all closed (Name s) = refl

pub taken_exit : (roles : List Role) (role : Role) (old : Cancellations) → role ≡ Exit → old.closed ≡ false → IsOf roles old
    → IsOf (roles ++ role ∷ []) (record { numbers = old.numbers; names = old.names; closed = true })
taken_exit roles role old is unclosed of =
    let new : Cancellations = record { numbers = old.numbers; names = old.names; closed = true } in
    subst (λ (r : Role). IsOf (roles ++ r ∷ []) new) (sym is)
    (taken_behind roles Exit old new unclosed refl (λ id. same_maps old true id ∙ sym (add-zero (count_of old id))) of)

-- anything else
abbrev pub Uncounted : Role → Type 0
Uncounted (Request id) = Unit {0}
Uncounted (Cancellation id) = ⊥
Uncounted Exit = ⊥
Uncounted Other = Unit {0}

pub uncounted_either : (role : Role) → ((id : Id) × (role ≡ Request id)) ⊎ (role ≡ Other) → Uncounted role
uncounted_either role h = elim h [ inl p ↦ subst Uncounted (sym p.1) tt | inr e ↦ subst Uncounted (sym e) tt ]

pub taken_uncounted : (roles : List Role) (role : Role) (all : Cancellations) → Uncounted role → all.closed ≡ false → IsOf roles all → IsOf (roles ++ role ∷ []) all
taken_uncounted roles (Request other) all u unclosed of = taken_behind roles (Request other) all all unclosed unclosed (λ id. sym (add-zero (count_of all id))) of
taken_uncounted roles (Cancellation other) all u unclosed of = absurd u
taken_uncounted roles Exit all u unclosed of = absurd u
taken_uncounted roles Other all u unclosed of = taken_behind roles Other all all unclosed unclosed (λ id. sym (add-zero (count_of all id))) of

-- there is room for one more
pub room : (roles : List Role) (all : Cancellations) (id : Id) → IsOf roles all → length roles ≤ 64 → count_of all id + 1 < 2 ^ 32
room roles all id of few =
    let most = few_counted id roles in
    let same = of.counted id in
    omega arith

-- ---- whether one names an id

pub found : (role : Role) (id : Id) (all : Cancellations) (roles : List Role) (b : Bool) → role ≡ Request id → b ≡ nat_lt 0 (count_of all id) → IsOf roles all
    → (if b then Some id else None) ≡ cancelled_by role roles
found role id all roles b is has of =
    let e : b ≡ is_cancelled id roles = has ∙ ap (λ n. nat_lt 0 n) (of.counted id) ∙ cancelled_where_counted id roles in
    ap (λ (x : Bool). if x then Some id else None) e ∙ ap (λ (r : Role). cancelled_by r roles) (sym is)
