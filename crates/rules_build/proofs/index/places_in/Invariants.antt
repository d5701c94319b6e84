use Rattle.std.proofs.Common.{◌≡◌, ◌||◌, ℕ}
use Rattle.std.specs.Prelude.{nat_eq}
use Rattle.std.specs.List.{list_any}
use Rattle.std.specs.BTreeSet.{contains}
use Rattle.std.specs.Ordering.{nat_cmp}
use Rattle.rules_build.specs.Values.{places_at}
use Rattle.rules_build.proofs.index.places_in.Given as goal

abbrev pub invariant-loop-name : goal.invariant-loop-name
invariant-loop-name l =
    (q : ℕ) → (contains nat_cmp l.places q || list_any (λ (n : ℕ). list_any (nat_eq q) (places_at l.all n)) l.name-iterator) ≡ list_any (λ (n : ℕ). list_any (nat_eq q) (places_at l.all n)) l.names.keys
