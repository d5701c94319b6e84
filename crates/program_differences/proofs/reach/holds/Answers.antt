use Rattle.std.proofs.Common.{◌≡◌, ◌<◌, ◌≤◌, length, get_or, sym, ap, ◌∙◌, arith, rules}
use Rattle.std.proofs.lemmas.List.Sorted.{IsPartitionPoint-from_clause}
use Rattle.program_differences.proofs.HeldLaws.{is_early, early_first, none_held, first_held, past, within}
use Rattle.program_differences.proofs.reach.holds.Goals as goal

pub returns-in-None : goal.returns-in-None
returns-in-None c = λ sorted.
    let point = IsPartitionPoint-from_clause (is_early c.args.range c.args.occs.now sorted) _ _ c.partition_point-at.ensures.partitioned (early_first c.args.range c.args.occs.now sorted) (λ a r q k. search rules) in
    sym (none_held c.args.range c.args.occs.now sorted c.partition_point-at.result point (past c.partition_point-at.result (length c.args.occs.now) c.in-None.ensures.lookup.0))

pub returns-in-Some : goal.returns-in-Some
returns-in-Some c = λ sorted.
    let point = IsPartitionPoint-from_clause (is_early c.args.range c.args.occs.now sorted) _ _ c.partition_point-at.ensures.partitioned (early_first c.args.range c.args.occs.now sorted) (λ a r q k. search rules) in
    c.is_in_range.ensures ∙ first_held c.args.range c.args.occs.now sorted c.partition_point-at.result point c.in-Some.occ.now (within c.partition_point-at.result (length c.args.occs.now) c.in-Some.ensures.lookup.0)
    (first_of (cc, search rules))
