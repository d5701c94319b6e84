use Rattle.std.proofs.Common.{rules}
use Rattle.std.specs.BTreeMap.{is_at}
use Rattle.std.specs.Ordering.{nat_cmp}
use Rattle.std.proofs.lemmas.Map.Made.{map_same_pairs, lookup-map_values}
use Rattle.unit_scopes.specs.Within.{macro_within}
use Rattle.unit_scopes.proofs.macros.Macros.forget_locals.Goals as goal

pub returns-clause-standards : goal.returns-clause-standards
returns-clause-standards c = λ f s.
    let e = map_same_pairs _ (macro_within c.args.last) _ (λ k v b w f' t. search rules) _ _ c.retain.ensures.filtered in rw e (lookup-map_values (macro_within c.args.last) (is_at (nat_cmp s)) c.args.self.now.standards.entries)
