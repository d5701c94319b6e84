-- How the nodes of a region hang together in the slots of the code: each names the one that was put before it.
use Rattle.std.specs.Prelude.{◌≡◌, ℕ, suc, ◌^◌, ◌<◌, ◌≤◌, List, [], ◌∷◌, length, Option, Some, None, is_some, count_by, sum_by}
use Rattle.std.specs.Option.{option_map_or}
use Rattle.std.specs.Ordering.{nat_cmp}
use Rattle.std.specs.FinMap as map
use Rattle.node_pool.specs.SlotLists.{at}
use Rattle.node_pool.specs.NodePool.{Lived, Nodes}
use Rattle.node_pool.specs.declared.pool.Chain.{Chain}
use Rattle.node_pool.specs.declared.pool.Held.{Held}

-- what slots hold, with the number of each slot
abbrev pub entries_from : {A B : Type 0} → (A → B) → ℕ → List (Option A) → List (ℕ × B)
entries_from f i [] = []
entries_from f i (None ∷ slots) = entries_from f (suc i) slots
entries_from f i (Some x ∷ slots) = (i, f x) ∷ entries_from f (suc i) slots

-- the same as a map
abbrev pub map_of : {A B : Type 0} → (A → B) → List (Option A) → map.FinMap nat_cmp B
map_of f slots = map.from_entries (entries_from f 0 slots)

-- how many nodes the chain of a slot has
abbrev pub chain_count : Option Chain → ℕ
chain_count o = option_map_or (λ (c : Chain). c.count) o 0

module _ {N : Type 0} where
  abbrev pub lived_as : Held N → Lived N
  lived_as h = record { node = h.node; region = h.region; rank = h.rank }

  abbrev pub nodes_of : List (Option (Held N)) → Nodes N
  nodes_of ns = map_of lived_as ns

  -- the slot has the node with this rank in this region
  abbrev pub IsAt : List (Option (Held N)) → ℕ → ℕ → ℕ → Type 0
  IsAt ns n region rank = (h : Held N) × (at ns n ≡ Some h) × (h.region ≡ region) × (h.rank ≡ rank)

  -- each node has a rank in an open region, below the region's count, and no other node has it; a region names its last node, and
  -- each node the one before it
  pub record AreChained (ns : List (Option (Held N))) (rs : List (Option Chain)) : Type 0 where
    pub few : length ns ≤ 2 ^ 31
    pub total : sum_by chain_count rs ≡ count_by is_some ns
    pub homes : (n : ℕ) (h : Held N) → at ns n ≡ Some h → (c : Chain) × (at rs h.region ≡ Some c) × (h.rank < c.count)
    pub apart : (m n : ℕ) (g h : Held N) → at ns m ≡ Some g → at ns n ≡ Some h → g.region ≡ h.region → g.rank ≡ h.rank → m ≡ n
    pub lasts : (r k : ℕ) (c : Chain) → at rs r ≡ Some c → c.count ≡ suc k → IsAt ns c.last r k
    pub befores : (n k : ℕ) (h : Held N) → at ns n ≡ Some h → h.rank ≡ suc k → IsAt ns h.before h.region k

abbrev pub regions_of : List (Option Chain) → map.FinMap nat_cmp ℕ
regions_of rs = map_of (λ (c : Chain). c.count) rs
