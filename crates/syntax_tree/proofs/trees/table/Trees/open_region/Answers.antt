use Rattle.std.proofs.Common.{◌≡◌, ◌≢◌, ℕ, [], refl, sym, ap, subst, ◌∙◌}
use Rattle.std.specs.Prelude.{IsSome, is_some}
use Rattle.std.specs.FinMap as map
use Rattle.syntax_tree.specs.Regions.{Forest, Regions}
use Rattle.syntax_tree.specs.Kept.{KeptNodes, outers_at, regions_of, IsTable}
use Rattle.syntax_tree.proofs.SeenLaws.{got_here}
use Rattle.syntax_tree.proofs.OuterLaws.{region_opened, none_open}
use Rattle.syntax_tree.proofs.RegionLaws.{outers_opened}
use Rattle.syntax_tree.proofs.AddedLaws.{table_over}
use Rattle.syntax_tree.proofs.trees.table.Trees.open_region.Goals as goal

pub invariant_of-self-2 : goal.invariant_of-self-2
invariant_of-self-2 c =
    let vs = c.self.inside.outers.items in
    let ws = c.forget.new.outers.items in
    let counts = c.self.inside.pool.regions in
    let r = c.in-Ok.in_pool.number in
    let number : c.number.result ≡ r = c.number.ensures in
    let here : outers_at ws r ≡ [] = ap (outers_at ws) (sym number) ∙ c.forget.ensures.here in
    let others : (q : ℕ) → q ≢ r → outers_at ws q ≡ outers_at vs q = λ q ne. c.forget.ensures.others q (λ e. ne (e ∙ number)) in
    let opened = ap (regions_of ws) c.in-Ok.ensures.regions ∙ region_opened vs ws counts r 0 here others in
    subst (λ (ns : KeptNodes). IsTable ns (regions_of ws c.open_region.new.self.regions)) (sym c.in-Ok.ensures.nodes)
    (subst (λ (rs : Regions). IsTable c.self.inside.pool.nodes rs) (sym opened)
    (table_over c.self.inside.pool.nodes (regions_of vs counts) (map.insert (regions_of vs counts) r []) c.self.invariant (outers_opened (regions_of vs counts) r (none_open vs counts r c.in-Ok.ensures.fresh))))

pub returns-clause-regions : goal.returns-clause-regions
returns-clause-regions c =
    let vs = c.self.inside.outers.items in
    let ws = c.forget.new.outers.items in
    let counts = c.self.inside.pool.regions in
    let r = c.in-Ok.in_pool.number in
    let number : c.number.result ≡ r = c.number.ensures in
    let here : outers_at ws r ≡ [] = ap (outers_at ws) (sym number) ∙ c.forget.ensures.here in
    let others : (q : ℕ) → q ≢ r → outers_at ws q ≡ outers_at vs q = λ q ne. c.forget.ensures.others q (λ e. ne (e ∙ number)) in
    ap (regions_of ws) c.in-Ok.ensures.regions ∙ region_opened vs ws counts r 0 here others ∙ ap (λ (f : Forest). map.insert f.regions r []) c.self.view_is

pub returns-clause-opened : goal.returns-clause-opened
returns-clause-opened c =
    let r = c.in-Ok.in_pool.number in
    (c.in-Ok.ensures.opened.0, subst (λ (rs : Regions). IsSome (map.get rs r)) (sym (returns-clause-regions c)) (ap (λ o. is_some o) (got_here c.args.self.now.regions r [] r refl)))

pub returns-clause-fresh : goal.returns-clause-fresh
returns-clause-fresh c =
    let r = c.in-Ok.in_pool.number in
    ap (λ (f : Forest). map.get f.regions r) (sym c.self.view_is) ∙ none_open c.self.inside.outers.items c.self.inside.pool.regions r c.in-Ok.ensures.fresh
