use Rattle.std.proofs.Common.{◌≡◌, ◌+◌, ◌^◌, ◌<◌, ℕ, is_some, count_by, refl, sym, ap, subst, ◌∙◌, arith, rules}
use Rattle.std.specs.Prelude.{IsSome, unwrap_or}
use Rattle.std.specs.Option.{option_map}
use Rattle.std.specs.FinMap as map
use Rattle.node_pool.specs.NodePool.{NodePool, IsPut}
use Rattle.node_pool.specs.Chains.{lived_as, nodes_of, regions_of}
use Rattle.node_pool.specs.declared.pool.Chain.{Chain}
use Rattle.node_pool.specs.declared.pool.Held.{Held}
use Rattle.node_pool.proofs.MapLaws.{len_map, count_within}
use Rattle.node_pool.proofs.ShorterLaws.{got_here}
use Rattle.node_pool.proofs.KeepLaws.{put_on, opened_on, reached_on}
use Rattle.node_pool.proofs.PoolLaws.{is_open, region_count, ArePut, are_put}
use Rattle.node_pool.proofs.pool.Pool.put.Goals as goal

pub returns-then-live-eq-MAX_LIVE-clause-full : goal.returns-then-live-eq-MAX_LIVE-clause-full
returns-then-live-eq-MAX_LIVE-clause-full g c =
    let n = len_map lived_as c.self.inside.nodes.slots in
    let live = ap (λ p. map.len p.nodes) c.self.view_is in
    (λ e. omega (arith, n, live, c.live.ensures, c.if-live-eq-MAX_LIVE.true), λ e. refl)

pub get-chain-requires : goal.get-chain-requires
get-chain-requires g c = is_open c.self.inside.regions.slots c.args.region.now.number (subst (λ p. IsSome (map.get p.regions c.args.region.now.number)) (sym c.self.view_is) c.requires.1)

pub returns-in_err-number-clause-full : goal.returns-in_err-number-clause-full
returns-in_err-number-clause-full g c =
    let n = len_map lived_as c.self.inside.nodes.slots in
    let live = ap (λ p. map.len p.nodes) c.self.view_is in
    let below = count_within c.self.inside.nodes.slots in
    first_of (search (rules, n, live, below), grind (arith, rules, n, live, below))

pub invariant_of-self-2 : goal.invariant_of-self-2
invariant_of-self-2 g c =
    let ns = c.self.inside.nodes.slots in
    let ms = c.insert.new.self.slots in
    let rs = c.self.inside.regions.slots in
    let qs = c.set.new.self.slots in
    let n = c.in_ok-number.number in
    let r = c.args.region.now.number in
    let chain = c.get-chain.result.now in
    let h : Held _ = record { node = c.args.node; region = r; rank = chain.count; before = chain.last } in
    let d : Chain = record { count = chain.count + 1; last = n } in
    let room : count_by is_some ns < 2 ^ 31 = omega (arith, c.live.ensures, c.if-live-eq-MAX_LIVE.false, count_within ns, c.self.invariant.few) in
    let p : ArePut ns ms rs qs n r h d.count = are_put ns ms rs qs n r chain d h c.self.invariant c.in_ok-number.ensures.filled c.get-chain.ensures c.set.ensures.slots room refl refl refl refl refl in
    p.chained

pub returns-clause-put : goal.returns-clause-put
returns-clause-put g c =
    let ns = c.self.inside.nodes.slots in
    let ms = c.insert.new.self.slots in
    let rs = c.self.inside.regions.slots in
    let qs = c.set.new.self.slots in
    let n = c.in_ok-number.number in
    let r = c.args.region.now.number in
    let chain = c.get-chain.result.now in
    let h : Held _ = record { node = c.args.node; region = r; rank = chain.count; before = chain.last } in
    let d : Chain = record { count = chain.count + 1; last = n } in
    let room : count_by is_some ns < 2 ^ 31 = omega (arith, c.live.ensures, c.if-live-eq-MAX_LIVE.false, count_within ns, c.self.invariant.few) in
    let p : ArePut ns ms rs qs n r h d.count = are_put ns ms rs qs n r chain d h c.self.invariant c.in_ok-number.ensures.filled c.get-chain.ensures c.set.ensures.slots room refl refl refl refl refl in
    let count : chain.count ≡ unwrap_or (map.get c.args.self.now.regions r) 0 = sym (ap (λ o. unwrap_or o 0) (ap (λ x. map.get x.regions r) (sym c.self.view_is) ∙ region_count rs r chain c.get-chain.ensures)) in
    let at_end : IsPut (nodes_of ns) (nodes_of ms) n (record { node = c.args.node; region = r; rank = unwrap_or (map.get c.args.self.now.regions r) 0 }) =
    subst (λ (k : ℕ). IsPut (nodes_of ns) (nodes_of ms) n (record { node = c.args.node; region = r; rank = k })) count p.put in
    subst (λ x. IsPut x.nodes (nodes_of ms) n (record { node = c.args.node; region = r; rank = unwrap_or (map.get c.args.self.now.regions r) 0 })) c.self.view_is at_end

pub returns-clause-region : goal.returns-clause-region
returns-clause-region g c =
    let ns = c.self.inside.nodes.slots in
    let ms = c.insert.new.self.slots in
    let rs = c.self.inside.regions.slots in
    let qs = c.set.new.self.slots in
    let n = c.in_ok-number.number in
    let r = c.args.region.now.number in
    let chain = c.get-chain.result.now in
    let h : Held _ = record { node = c.args.node; region = r; rank = chain.count; before = chain.last } in
    let d : Chain = record { count = chain.count + 1; last = n } in
    let room : count_by is_some ns < 2 ^ 31 = omega (arith, c.live.ensures, c.if-live-eq-MAX_LIVE.false, count_within ns, c.self.invariant.few) in
    let p : ArePut ns ms rs qs n r h d.count = are_put ns ms rs qs n r chain d h c.self.invariant c.in_ok-number.ensures.filled c.get-chain.ensures c.set.ensures.slots room refl refl refl refl refl in
    let count : chain.count ≡ unwrap_or (map.get c.args.self.now.regions r) 0 = sym (ap (λ o. unwrap_or o 0) (ap (λ x. map.get x.regions r) (sym c.self.view_is) ∙ region_count rs r chain c.get-chain.ensures)) in
    p.region ∙ ap (λ x. map.insert x.regions r (chain.count + 1)) c.self.view_is ∙ ap (λ (k : ℕ). map.insert c.args.self.now.regions r (k + 1)) count

pub returns-clause-lives : goal.returns-clause-lives
returns-clause-lives g c =
    let put = returns-clause-put g c in
    ap (λ x. option_map (λ l. l.node) (map.get x c.in_ok-number.number)) put.put ∙ ap (option_map (λ l. l.node)) (got_here c.args.self.now.nodes c.in_ok-number.number _)

pub returns-clause-keeps : goal.returns-clause-keeps
returns-clause-keeps g c =
    let old = c.args.self.now in
    let new : NodePool _ = record { nodes = nodes_of c.insert.new.self.slots; regions = regions_of c.set.new.self.slots; identity = option_map (λ rc. rc.value.name) c.self.inside.identity; spare = c.insert.new.self.spare } in
    record {
      nodes = λ id l at. put_on old.nodes new.nodes c.in_ok-number.number _ (returns-clause-put g c) id l at;
      regions = λ region h. opened_on old new c.args.region.now.number _ (λ name e. ap (λ p. p.identity) c.self.view_is ∙ e) (returns-clause-region g c) region h;
      marks = λ region mark h. reached_on old new c.args.region.now.number _ (returns-clause-region g c) (omega arith) region mark h;
    }

pub returns-clause-one_more : goal.returns-clause-one_more
returns-clause-one_more g c =
    let ns = c.self.inside.nodes.slots in
    let ms = c.insert.new.self.slots in
    let rs = c.self.inside.regions.slots in
    let qs = c.set.new.self.slots in
    let n = c.in_ok-number.number in
    let r = c.args.region.now.number in
    let chain = c.get-chain.result.now in
    let h : Held _ = record { node = c.args.node; region = r; rank = chain.count; before = chain.last } in
    let d : Chain = record { count = chain.count + 1; last = n } in
    let room : count_by is_some ns < 2 ^ 31 = omega (arith, c.live.ensures, c.if-live-eq-MAX_LIVE.false, count_within ns, c.self.invariant.few) in
    let p : ArePut ns ms rs qs n r h d.count = are_put ns ms rs qs n r chain d h c.self.invariant c.in_ok-number.ensures.filled c.get-chain.ensures c.set.ensures.slots room refl refl refl refl refl in
    p.one_more ∙ ap (λ x. map.len x.nodes + 1) c.self.view_is

pub returns-clause-room : goal.returns-clause-room
returns-clause-room g c =
    let ns = c.self.inside.nodes.slots in
    let ms = c.insert.new.self.slots in
    let rs = c.self.inside.regions.slots in
    let qs = c.set.new.self.slots in
    let n = c.in_ok-number.number in
    let r = c.args.region.now.number in
    let chain = c.get-chain.result.now in
    let h : Held _ = record { node = c.args.node; region = r; rank = chain.count; before = chain.last } in
    let d : Chain = record { count = chain.count + 1; last = n } in
    let room : count_by is_some ns < 2 ^ 31 = omega (arith, c.live.ensures, c.if-live-eq-MAX_LIVE.false, count_within ns, c.self.invariant.few) in
    let p : ArePut ns ms rs qs n r h d.count = are_put ns ms rs qs n r chain d h c.self.invariant c.in_ok-number.ensures.filled c.get-chain.ensures c.set.ensures.slots room refl refl refl refl refl in
    omega (arith, p.one_more, len_map lived_as ns, room)

pub returns-clause-full : goal.returns-clause-full
returns-clause-full g c =
    let n = len_map lived_as c.self.inside.nodes.slots in
    let live = ap (λ p. map.len p.nodes) c.self.view_is in
    (λ e. absurd cc, λ e. absurd (omega (arith, n, live, e, c.live.ensures, c.if-live-eq-MAX_LIVE.false)))
