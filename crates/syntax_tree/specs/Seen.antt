-- A finite map, of which something is seen at each key.
use Rattle.std.specs.Prelude.{ℕ, map}
use Rattle.std.specs.Ordering.{nat_cmp}
use Rattle.std.specs.FinMap as finite

-- the map with the same keys that has at each of them what is seen of the value there
unfoldable pub seen : {X Y : Type 0} → (ℕ → X → Y) → finite.FinMap nat_cmp X → finite.FinMap nat_cmp Y
seen f m = finite.from_sorted (map (λ e. (e.0, f e.0 e.1)) (finite.entries m))
