-- Regions of nodes, which are let go together, and which of them outlive others.
use Rattle.std.specs.Prelude.{◌≡◌, ◌≢◌, ℕ, ◌<◌, ◌≤◌, List, [], ◌∷◌, ◌++◌, Option, Some, IsSome, unwrap_or, Contains}
use Rattle.std.specs.List.{AllByRecursion}
use Rattle.std.specs.Ordering.{nat_cmp}
use Rattle.std.specs.FinMap as map
use Rattle.node_pool.specs.declared.pool.Region as pool
use Rattle.syntax_tree.specs.Nodes.{Shape, Lived, Nodes, parts_of, region_at}

-- for each region that is open the regions that were said to outlive it
abbrev pub Regions : Type 0
Regions = map.FinMap nat_cmp (List ℕ)

-- the nodes that live; what tells these nodes from those of other tables, once a region was opened; the open regions, and how many
-- nodes each has; and how many nodes can be added without memory
pub record Forest : Type 0 where
  pub nodes : Nodes
  pub identity : Option ℕ
  pub regions : Regions
  pub counts : map.FinMap nat_cmp ℕ
  pub spare : ℕ

-- these nodes' table opened the region, no other did, and it wasn't let go
abbrev pub IsOpenIn : Forest → pool.Region → Type 0
IsOpenIn f region = (f.identity ≡ Some region.pool.value.name) × IsSome (map.get f.regions region.number)

-- how many nodes live in a region
abbrev pub count_at : Forest → ℕ → ℕ
count_at f r = unwrap_or (map.get f.counts r) 0

-- a region outlives itself, and each region that one which it outlives was said to outlive
pub data Outlives (regions : Regions) (a : ℕ) : ℕ → Type 0 where
  itself : Outlives regions a a
  behind : (b c : ℕ) (outer : List ℕ) → Outlives regions a b → map.get regions c ≡ Some outer → Contains outer b → Outlives regions a c

-- besides, the first region outlives the second
abbrev pub with_outer : Regions → ℕ → ℕ → Regions
with_outer regions outer inner = map.insert regions inner (unwrap_or (map.get regions inner) [] ++ outer ∷ [])

-- nodes of the region may name the node of a number: it lives in this region or in one that outlives it
abbrev pub MayName : Nodes → Regions → ℕ → ℕ → Type 0
MayName nodes regions r n = (a : ℕ) × (region_at nodes n ≡ Some a) × Outlives regions a r

-- they may name all parts of a node
abbrev pub MayNameParts : Nodes → Regions → ℕ → Shape → Type 0
MayNameParts nodes regions r s = AllByRecursion (MayName nodes regions r) (parts_of s)

-- each node that lives names only such nodes
abbrev pub IsClosed : Nodes → Regions → Type 0
IsClosed nodes regions = (n : ℕ) (l : Lived) → map.get nodes n ≡ Some l → MayNameParts nodes regions l.region l.node

-- a region may be let go: no node lives in another region that it outlives
abbrev pub CanRelease : Forest → ℕ → Type 0
CanRelease f r = (n a : ℕ) → region_at f.nodes n ≡ Some a → Outlives f.regions r a → a ≡ r

-- no part of a node lies in the region
abbrev pub NamesNone : Nodes → ℕ → Shape → Type 0
NamesNone nodes r s = AllByRecursion (λ n. region_at nodes n ≢ Some r) (parts_of s)

-- ---- regions that end, or go back

-- the region outlives no other one
abbrev pub OutlivesNone : Regions → ℕ → Type 0
OutlivesNone regions r = (q : ℕ) → Outlives regions r q → q ≡ r

-- the node goes where the region goes back to this many
abbrev pub Goes : Nodes → ℕ → ℕ → ℕ → Type 0
Goes nodes r count n = (l : Lived) × (map.get nodes n ≡ Some l) × (l.region ≡ r) × (count ≤ l.rank)

-- the region may go back to this many: no node of another region names one that goes
abbrev pub CanGoBack : Nodes → ℕ → ℕ → Type 0
CanGoBack nodes r count = (n : ℕ) (l : Lived) → map.get nodes n ≡ Some l → l.region ≢ r → AllByRecursion (λ m. ¬ Goes nodes r count m) (parts_of l.node)

-- a part of a node that lies in the same region was put before it
abbrev pub ArePartsFirst : Nodes → Type 0
ArePartsFirst nodes = (n : ℕ) (l : Lived) → map.get nodes n ≡ Some l → AllByRecursion (λ m. (k : Lived) → map.get nodes m ≡ Some k → k.region ≡ l.region → k.rank < l.rank) (parts_of l.node)
