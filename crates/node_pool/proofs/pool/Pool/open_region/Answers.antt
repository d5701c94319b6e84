use Rattle.std.proofs.Common.{◌≡◌, ℕ, Option, Some, sum_by, is_some, count_by, refl, sym, ap, subst, ◌∙◌, arith, rules}
use Rattle.std.specs.Prelude.{IsSome, unwrap_or}
use Rattle.std.specs.Option.{option_map}
use Rattle.std.specs.FinMap as map
use Rattle.node_pool.specs.NodePool.{NodePool}
use Rattle.node_pool.specs.Chains.{chain_count, nodes_of, regions_of}
use Rattle.node_pool.proofs.KeepLaws.{opened_on, reached_on}
use Rattle.node_pool.specs.declared.pool.Chain.{Chain}
use Rattle.node_pool.proofs.MapLaws.{fills, get_map, inserted}
use Rattle.node_pool.proofs.ChainLaws.{sum_filled, opened_chained}
use Rattle.node_pool.proofs.PoolLaws.{region_count}
use Rattle.node_pool.proofs.pool.Pool.open_region.Goals as goal

abbrev new_one : Chain
new_one = record { count = 0; last = 0 }

pub invariant_of-self-2 : goal.invariant_of-self-2
invariant_of-self-2 g c =
    let ns = c.self.inside.nodes.slots in
    let rs = c.self.inside.regions.slots in
    let qs = c.insert.new.self.slots in
    let n = c.in_ok-number.number in
    let f = fills rs qs n new_one c.in_ok-number.ensures.filled in
    let total : sum_by chain_count qs ≡ count_by is_some ns = let e = sum_filled rs qs n new_one c.in_ok-number.ensures.filled in omega (arith, e, c.self.invariant.total) in
    opened_chained ns rs qs n c.self.invariant new_one f.free f.changes refl total

pub returns-clause-opened : goal.returns-clause-opened
returns-clause-opened g c =
    let rs = c.self.inside.regions.slots in
    let qs = c.insert.new.self.slots in
    let n = c.in_ok-number.number in
    let f = fills rs qs n new_one c.in_ok-number.ensures.filled in
    (search rules, subst (λ o. IsSome o) (sym (region_count qs n new_one f.changes.here)) refl)

pub returns-clause-fresh : goal.returns-clause-fresh
returns-clause-fresh g c =
    let rs = c.self.inside.regions.slots in
    let n = c.in_ok-number.number in
    let f = fills rs c.insert.new.self.slots n new_one c.in_ok-number.ensures.filled in
    ap (λ p. map.get p.regions n) (sym c.self.view_is) ∙ get_map (λ (x : Chain). x.count) rs n ∙ ap (option_map (λ (x : Chain). x.count)) f.free

pub returns-clause-regions : goal.returns-clause-regions
returns-clause-regions g c =
    let rs = c.self.inside.regions.slots in
    let n = c.in_ok-number.number in
    let f = fills rs c.insert.new.self.slots n new_one c.in_ok-number.ensures.filled in
    inserted (λ (x : Chain). x.count) rs c.insert.new.self.slots n new_one f.changes ∙ ap (λ p. map.insert p.regions n 0) c.self.view_is

pub returns-clause-keeps : goal.returns-clause-keeps
returns-clause-keeps g c =
    let old = c.args.self.now in
    let name = c.in_ok-identity.identity.value.name in
    let new : NodePool _ = record { nodes = nodes_of c.self.inside.nodes.slots; regions = regions_of c.insert.new.self.slots; identity = Some name; spare = c.self.inside.nodes.spare } in
    let same : (n : ℕ) → old.identity ≡ Some n → ◌≡◌ {A = Option ℕ} (Some name) (Some n) = λ n e. search rules in
    record {
      nodes = λ id l at. ap (λ p. map.get p.nodes id) c.self.view_is ∙ at;
      regions = λ region h. opened_on old new c.in_ok-number.number 0 same (returns-clause-regions g c) region h;
      marks = λ region mark h. reached_on old new c.in_ok-number.number 0 (returns-clause-regions g c) (omega (arith, ap (λ o. unwrap_or o 0) (returns-clause-fresh g c))) region mark h;
    }
