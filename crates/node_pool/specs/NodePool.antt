-- A pool of nodes: which nodes live, under which ids and in which regions. A region ends with all its nodes, and can go back to a mark, with those that were put since.
use Rattle.std.specs.Prelude.{◌≡◌, ℕ, ◌==◌, nat_lt, not, ◌||◌, Bool, false, Option, Some, None, refl}
use Rattle.std.specs.Coded.{Coded, code_by, coded×, coded_ℕ, coded_option}
use Rattle.std.specs.Ordering.{nat_cmp}
use Rattle.std.specs.FinMap as map

-- a node that lives, its region, and its rank there: how many nodes the region had when it was put
pub record Lived (N : Type 0) : Type 0 where
  pub node : N
  pub region : ℕ
  pub rank : ℕ

-- a map from the ids of the nodes that live
abbrev pub Nodes : Type 0 → Type 0
Nodes N = map.FinMap nat_cmp (Lived N)

-- the nodes; how many of them each region has that is open; what tells this pool from others, once a region was opened; and how
-- many puts take no memory
pub record NodePool (N : Type 0) : Type 0 where
  pub nodes : Nodes N
  pub regions : map.FinMap nat_cmp ℕ
  pub identity : Option ℕ
  pub spare : ℕ

module _ {N : Type 0} where
  -- a node is put under an id at which none lived, and the others stay
  pub record IsPut (old new : Nodes N) (id : ℕ) (l : Lived N) : Type 0 where
    pub free : map.get old id ≡ None
    pub put : new ≡ map.insert old id l

  -- where a region goes back to this many nodes, those of other regions stay, and those of lower ranks
  abbrev pub stays : ℕ → ℕ → Option (Lived N) → Bool
  stays region count None = false
  stays region count (Some l) = not (l.region == region) || nat_lt l.rank count

  -- the nodes that live when a region went back to this many
  abbrev pub back_to : Nodes N → ℕ → ℕ → Nodes N
  back_to nodes region count = map.retain_keys nodes (λ id. stays region count (map.get nodes id))

abbrev pub lived_code : {N : Type 0} → Coded N → Coded (Lived N)
lived_code {N} code =
    code_by (N × (ℕ × ℕ)) (coded× code (coded× coded_ℕ coded_ℕ)) (λ l. (l.node, (l.region, l.rank))) (λ p. record { node = p.0; region = p.1.0; rank = p.1.1 }) (λ _. refl)

abbrev pub pool_code : {N : Type 0} → Coded N → Coded (NodePool N)
pool_code {N} code =
    code_by (Nodes N × (map.FinMap nat_cmp ℕ × (Option ℕ × ℕ))) (coded× (map.code coded_ℕ (lived_code code)) (coded× (map.code coded_ℕ coded_ℕ) (coded× (coded_option coded_ℕ) coded_ℕ)))
    (λ p. (p.nodes, (p.regions, (p.identity, p.spare)))) (λ q. record { nodes = q.0; regions = q.1.0; identity = q.1.1.0; spare = q.1.1.1 }) (λ _. refl)
