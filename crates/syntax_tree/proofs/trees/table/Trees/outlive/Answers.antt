use Rattle.std.proofs.Common.{◌≡◌, ◌≢◌, ℕ, [], ◌∷◌, ◌++◌, sym, ap, subst, ◌∙◌}
use Rattle.std.specs.Prelude.{IsSome, slice_set}
use Rattle.std.specs.FinMap as map
use Rattle.syntax_tree.specs.Regions.{Forest, Regions, with_outer}
use Rattle.syntax_tree.specs.Kept.{outers_at, regions_of, IsTable}
use Rattle.syntax_tree.proofs.OuterLaws.{is_open, outers_set, outers_else, outers_read, more_outers}
use Rattle.syntax_tree.proofs.RegionLaws.{outers_more}
use Rattle.syntax_tree.proofs.AddedLaws.{table_over}
use Rattle.syntax_tree.proofs.trees.table.Trees.outlive.Goals as goal

pub invariant_of-self-2 : goal.invariant_of-self-2
invariant_of-self-2 c =
    let ns = c.self.inside.pool.nodes in
    let us = c.self.inside.outers.items in
    let vs = c.widen.new.outers.items in
    let counts = c.self.inside.pool.regions in
    let n = c.number-number.result in
    let x = c.number.result in
    let w = c.push.new.self in
    let within = c.in_ok-widen.ensures.within in
    let open_there = is_open us counts c.args.inner.now.in_pool.number (subst (λ (f : Forest). IsSome (map.get f.regions c.args.inner.now.in_pool.number)) (sym c.self.view_is) c.requires) in
    let is : IsSome (map.get counts n) = subst (λ (k : ℕ). IsSome (map.get counts k)) (sym c.number-number.ensures) open_there in
    let here : outers_at (slice_set vs n w) n ≡ outers_at us n ++ x ∷ [] =
    outers_set vs n w within ∙ c.in_ok-push.ensures.items ∙ ap (λ l. l ++ x ∷ []) (sym (outers_read vs n c.index_mut.result.now within c.index_mut.ensures.value) ∙ c.widen.ensures.same n) in
    let others : (q : ℕ) → q ≢ n → outers_at (slice_set vs n w) q ≡ outers_at us q = λ q ne. outers_else vs n w q ne ∙ c.widen.ensures.same q in
    subst (λ (rs : Regions). IsTable ns rs) (sym (more_outers us (slice_set vs n w) counts n x is here others))
    (table_over ns (regions_of us counts) (with_outer (regions_of us counts) x n) c.self.invariant (outers_more (regions_of us counts) n x))

pub returns-clause-regions : goal.returns-clause-regions
returns-clause-regions c =
    let us = c.self.inside.outers.items in
    let vs = c.widen.new.outers.items in
    let counts = c.self.inside.pool.regions in
    let n = c.number-number.result in
    let x = c.number.result in
    let w = c.push.new.self in
    let within = c.in_ok-widen.ensures.within in
    let open_there = is_open us counts c.args.inner.now.in_pool.number (subst (λ (f : Forest). IsSome (map.get f.regions c.args.inner.now.in_pool.number)) (sym c.self.view_is) c.requires) in
    let is : IsSome (map.get counts n) = subst (λ (k : ℕ). IsSome (map.get counts k)) (sym c.number-number.ensures) open_there in
    let here : outers_at (slice_set vs n w) n ≡ outers_at us n ++ x ∷ [] =
    outers_set vs n w within ∙ c.in_ok-push.ensures.items ∙ ap (λ l. l ++ x ∷ []) (sym (outers_read vs n c.index_mut.result.now within c.index_mut.ensures.value) ∙ c.widen.ensures.same n) in
    let others : (q : ℕ) → q ≢ n → outers_at (slice_set vs n w) q ≡ outers_at us q = λ q ne. outers_else vs n w q ne ∙ c.widen.ensures.same q in
    more_outers us (slice_set vs n w) counts n x is here others
    ∙ ap (λ (f : Forest). with_outer f.regions x n) c.self.view_is
    ∙ (λ j. with_outer c.args.self.now.regions (c.number.ensures j) (c.number-number.ensures j))
