-- Counts by names, when one of them changes.
use Rattle.std.proofs.Common.{◌≡◌, ℕ, ◌+◌, ◌-◌, List, Bool, sym, ap, ◌∙◌, subst, arith}
use Rattle.std.specs.Prelude.{if◌then◌else◌}
use Rattle.std.specs.Ordering.{nat_cmp, eq_by_cmp}
use Rattle.std.specs.Str.{bytes_eq}
use Rattle.std.specs.Cmp.Lexicographic.{slice_cmp}
use Rattle.std.specs.BTreeMap.{BTreeMap}
use Rattle.std.proofs.lemmas.Cmp.{eq_by_cmp_equiv, nat_list_cmp_total}
use Rattle.std.proofs.lemmas.Map.Text.{is_eq-slice_cmp}
use Rattle.lsp_messages.specs.declared.message.Id.{Id}
use Rattle.lsp_messages.specs.declared.message.Id.TheVariants.{Number, Name}
use Rattle.lookahead.specs.Cancelled.{same_id}
use Rattle.lookahead.specs.Counts.{count_at, count_of}
use Rattle.lookahead.specs.declared.cancellations.Cancellations.{Cancellations}

one_name : (s t : List ℕ) → eq_by_cmp (slice_cmp nat_cmp) s t ≡ bytes_eq t s
one_name s t = let laws = eq_by_cmp_equiv nat_list_cmp_total in laws.symm s t ∙ is_eq-slice_cmp t s

raised_at : (old : Cancellations) (names : BTreeMap (List ℕ) ℕ) (name : List ℕ)
    → ((s : List ℕ) → count_at (slice_cmp nat_cmp) names s ≡ count_at (slice_cmp nat_cmp) old.names s + (if eq_by_cmp (slice_cmp nat_cmp) name s then 1 else 0))
    → (q : Id) → count_of (record { numbers = old.numbers; names = names; closed = old.closed }) q ≡ count_of old q + (if same_id q (Name name) then 1 else 0)
raised_at old names name more (Number n) = omega arith
raised_at old names name more (Name s) = more s ∙ ap (λ (b : Bool). count_at (slice_cmp nat_cmp) old.names s + (if b then 1 else 0)) (one_name name s)

pub raised_name : (old : Cancellations) (names : BTreeMap (List ℕ) ℕ) (name : List ℕ) (id : Id) → id ≡ Name name
    → ((s : List ℕ) → count_at (slice_cmp nat_cmp) names s ≡ count_at (slice_cmp nat_cmp) old.names s + (if eq_by_cmp (slice_cmp nat_cmp) name s then 1 else 0))
    → (q : Id) → count_of (record { numbers = old.numbers; names = names; closed = old.closed }) q ≡ count_of old q + (if same_id q id then 1 else 0)
raised_name old names name id is more =
    subst (λ (i : Id). (q : Id) → count_of (record { numbers = old.numbers; names = names; closed = old.closed }) q ≡ count_of old q + (if same_id q i then 1 else 0)) (sym is) (raised_at old names name more)

lowered_at : (old : Cancellations) (names : BTreeMap (List ℕ) ℕ) (name : List ℕ)
    → ((s : List ℕ) → count_at (slice_cmp nat_cmp) names s ≡ count_at (slice_cmp nat_cmp) old.names s - (if eq_by_cmp (slice_cmp nat_cmp) name s then 1 else 0))
    → (q : Id) → count_of (record { numbers = old.numbers; names = names; closed = old.closed }) q ≡ count_of old q - (if same_id q (Name name) then 1 else 0)
lowered_at old names name less (Number n) = omega arith
lowered_at old names name less (Name s) = less s ∙ ap (λ (b : Bool). count_at (slice_cmp nat_cmp) old.names s - (if b then 1 else 0)) (one_name name s)

pub lowered_name : (old : Cancellations) (names : BTreeMap (List ℕ) ℕ) (name : List ℕ) (id : Id) → id ≡ Name name
    → ((s : List ℕ) → count_at (slice_cmp nat_cmp) names s ≡ count_at (slice_cmp nat_cmp) old.names s - (if eq_by_cmp (slice_cmp nat_cmp) name s then 1 else 0))
    → (q : Id) → count_of (record { numbers = old.numbers; names = names; closed = old.closed }) q ≡ count_of old q - (if same_id q id then 1 else 0)
lowered_name old names name id is less =
    subst (λ (i : Id). (q : Id) → count_of (record { numbers = old.numbers; names = names; closed = old.closed }) q ≡ count_of old q - (if same_id q i then 1 else 0)) (sym is) (lowered_at old names name less)
