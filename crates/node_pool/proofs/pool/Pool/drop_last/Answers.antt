use Rattle.std.proofs.Common.{◌≡◌, ◌+◌, suc, set, Some, None, is_some, count_by, refl, sym, ap, subst, ◌∙◌, arith}
use Rattle.std.specs.Prelude.{IsSome}
use Rattle.std.specs.FinMap as map
use Rattle.node_pool.specs.NodePool.{back_to}
use Rattle.node_pool.specs.Chains.{lived_as, regions_of}
use Rattle.node_pool.specs.declared.pool.Chain.{Chain}
use Rattle.node_pool.proofs.MapLaws.{Changes, set_changes, is_within, count_less, len_map, inserted}
use Rattle.node_pool.proofs.PoolLaws.{is_open, counted_as, last_held, last_is, goes_back, gone_last}
use Rattle.node_pool.proofs.pool.Pool.drop_last.Goals as goal

pub get-chain-requires : goal.get-chain-requires
get-chain-requires g c =
    let some : IsSome (map.get c.args.self.now.regions c.args.region) = subst (λ o. IsSome o) (sym c.requires.1) refl in
    is_open c.self.inside.regions.slots c.args.region (subst (λ p. IsSome (map.get p.regions c.args.region)) (sym c.self.view_is) some)

pub remove-held-requires : goal.remove-held-requires
remove-held-requires g c =
    let ns = c.self.inside.nodes.slots in
    let rs = c.self.inside.regions.slots in
    let r = c.args.region in
    let k = c.requires.0 in
    let chain = c.get-chain.result.now in
    let counted = counted_as rs r (k + 1) chain c.get-chain.ensures (ap (λ p. map.get p.regions r) c.self.view_is ∙ c.requires.1) in
    let size : chain.count ≡ suc k = omega (arith, counted) in
    last_held ns ns rs c.self.invariant chain.last r k chain c.get-chain.ensures size refl

pub invariant_of-self : goal.invariant_of-self
invariant_of-self g c =
    let ns = c.self.inside.nodes.slots in
    let rs = c.self.inside.regions.slots in
    let r = c.args.region in
    let k = c.requires.0 in
    let chain = c.get-chain.result.now in
    let held = c.remove-held.result in
    let counted = counted_as rs r (k + 1) chain c.get-chain.ensures (ap (λ p. map.get p.regions r) c.self.view_is ∙ c.requires.1) in
    let size : chain.count ≡ suc k = omega (arith, counted) in
    let d : Chain = record { count = held.rank; last = held.before } in
    gone_last ns c.remove-held.new.self.slots rs c.self.invariant chain.last r k chain c.get-chain.ensures size refl held d c.set.new.self.slots c.remove-held.ensures.value c.remove-held.ensures.slots c.set.ensures.slots refl refl

pub returns-clause-nodes : goal.returns-clause-nodes
returns-clause-nodes g c k got =
    let ns = c.self.inside.nodes.slots in
    let ms = c.remove-held.new.self.slots in
    let rs = c.self.inside.regions.slots in
    let r = c.args.region in
    let chain = c.get-chain.result.now in
    let n = chain.last in
    let counted = counted_as rs r (k + 1) chain c.get-chain.ensures (ap (λ p. map.get p.regions r) c.self.view_is ∙ got) in
    let size : chain.count ≡ suc k = omega (arith, counted) in
    let vacated : Changes ns ms n None = subst (λ l. Changes ns l n None) (sym c.remove-held.ensures.slots) (set_changes ns n None (is_within ns n c.remove-held.result c.remove-held.ensures.value)) in
    goes_back ns ms rs c.self.invariant n r k chain c.get-chain.ensures size refl vacated ∙ ap (λ p. back_to p.nodes r k) c.self.view_is

pub returns-clause-regions : goal.returns-clause-regions
returns-clause-regions g c k got =
    let ns = c.self.inside.nodes.slots in
    let rs = c.self.inside.regions.slots in
    let qs = c.set.new.self.slots in
    let r = c.args.region in
    let chain = c.get-chain.result.now in
    let held = c.remove-held.result in
    let counted = counted_as rs r (k + 1) chain c.get-chain.ensures (ap (λ p. map.get p.regions r) c.self.view_is ∙ got) in
    let size : chain.count ≡ suc k = omega (arith, counted) in
    let d : Chain = record { count = held.rank; last = held.before } in
    let changed : Changes rs qs r (Some d) = subst (λ l. Changes rs l r (Some d)) (sym c.set.ensures.slots) (set_changes rs r (Some d) (is_within rs r chain c.get-chain.ensures)) in
    let rank = (last_is ns ns rs c.self.invariant chain.last r k chain c.get-chain.ensures size refl held c.remove-held.ensures.value).1 in
    inserted (λ (x : Chain). x.count) rs qs r d changed ∙ ap (map.insert (regions_of rs) r) rank ∙ ap (λ p. map.insert p.regions r k) c.self.view_is

pub returns-clause-one_less : goal.returns-clause-one_less
returns-clause-one_less g c =
    let ns = c.self.inside.nodes.slots in
    let ms = c.remove-held.new.self.slots in
    let n = c.get-chain.result.now.last in
    let now = len_map lived_as ms in
    let was = len_map lived_as ns in
    let fewer = count_less ns n c.remove-held.result c.remove-held.ensures.value in
    let same : count_by is_some ms ≡ count_by is_some (set ns n None) = ap (λ l. count_by is_some l) c.remove-held.ensures.slots in
    let live = ap (λ p. map.len p.nodes) c.self.view_is in
    omega (arith, now, was, fewer, same, live)

pub returns-clause-room : goal.returns-clause-room
returns-clause-room g c =
    let ns = c.self.inside.nodes.slots in
    let ms = c.remove-held.new.self.slots in
    let n = c.get-chain.result.now.last in
    let now = len_map lived_as ms in
    let was = len_map lived_as ns in
    let fewer = count_less ns n c.remove-held.result c.remove-held.ensures.value in
    let same : count_by is_some ms ≡ count_by is_some (set ns n None) = ap (λ l. count_by is_some l) c.remove-held.ensures.slots in
    let live = ap (λ p. map.len p.nodes) c.self.view_is in
    let spare = ap (λ p. p.spare) c.self.view_is in
    omega (arith, now, was, fewer, same, live, spare, c.remove-held.ensures.spare)
