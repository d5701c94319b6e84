-- What contracts say of a pool.
use Rattle.std.specs.Prelude.{◌≡◌, ◌⊎◌, ℕ, ◌<◌, ◌≤◌, Option, Some, IsSome, unwrap_or}
use Rattle.std.specs.Option.{option_map}
use Rattle.std.specs.FinMap as map
use Rattle.node_pool.specs.NodePool.{Lived, Nodes, NodePool}
use Rattle.node_pool.specs.declared.pool.Region.{Region}
use Rattle.node_pool.specs.declared.pool.Mark.{Mark}
use Rattle.node_pool.specs.declared.pool.NodeId.{NodeId}

module _ {N : Type 0} where
  -- how many nodes live
  abbrev pub live_count : NodePool N → ℕ
  live_count pool = map.len pool.nodes

  -- the node that lives under an id
  abbrev pub node_at : NodePool N → NodeId → Option N
  node_at pool id = option_map (λ (l : Lived N). l.node) (map.get pool.nodes id.number)

  abbrev pub IsLive : NodePool N → NodeId → Type 0
  IsLive pool id = IsSome (map.get pool.nodes id.number)

  -- this pool opened the region, no other did, and it wasn't released
  abbrev pub IsOpened : NodePool N → Region → Type 0
  IsOpened pool region = (pool.identity ≡ Some region.pool.value.name) × IsSome (map.get pool.regions region.number)

  -- how many nodes live in the region
  abbrev pub count_in : NodePool N → Region → ℕ
  count_in pool region = unwrap_or (map.get pool.regions region.number) 0

  -- a node as it is put into the region: behind those that live there
  abbrev pub lived_in : NodePool N → Region → N → Lived N
  lived_in pool region node = record { node = node; region = region.number; rank = count_in pool region }

  -- the region has the nodes that the mark counted
  abbrev pub Reaches : NodePool N → Region → Mark → Type 0
  Reaches pool region mark = mark.count ≤ count_in pool region

  -- what lived lives on, what was open is open, and marks are reached
  pub record Keeps (old new : NodePool N) : Type 0 where
    pub nodes : (id : ℕ) (l : Lived N) → map.get old.nodes id ≡ Some l → map.get new.nodes id ≡ Some l
    pub regions : (region : Region) → IsOpened old region → IsOpened new region
    pub marks : (region : Region) (mark : Mark) → Reaches old region mark → Reaches new region mark

  -- ---- what lies in a region

  -- the nodes of a region have the ranks below this number, each of them once
  pub record HasRanks (nodes : Nodes N) (region count : ℕ) : Type 0 where
    pub below : (id : ℕ) (l : Lived N) → map.get nodes id ≡ Some l → l.region ≡ region → l.rank < count
    pub taken : (rank : ℕ) → rank < count → (id : ℕ) × (l : Lived N) × (map.get nodes id ≡ Some l) × (l.region ≡ region) × (l.rank ≡ rank)
    pub once : (a b : ℕ) (k l : Lived N) → map.get nodes a ≡ Some k → map.get nodes b ≡ Some l → k.region ≡ region → l.region ≡ region → k.rank ≡ l.rank → a ≡ b

  -- each node that lived lives on, and each other one that lives lies in the region
  pub record OnlyAdds (old new : Nodes N) (region : ℕ) : Type 0 where
    pub kept : (id : ℕ) (l : Lived N) → map.get old id ≡ Some l → map.get new id ≡ Some l
    pub added : (id : ℕ) (l : Lived N) → map.get new id ≡ Some l → (map.get old id ≡ Some l) ⊎ (l.region ≡ region)
