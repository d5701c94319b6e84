use Rattle.std.proofs.Common.{◌≡◌, sym, ◌∙◌, arith}
use Rattle.std.specs.BTreeSet.{btree_set_len}
use Rattle.std.proofs.lemmas.Bool.Decides.{nat_tests}
use Rattle.import_sets.specs.Graphs.{is_open}
use Rattle.import_sets.proofs.WaitLaws.{kept_start, kept_next, found_here, none_here, none_left}
use Rattle.import_sets.proofs.turns.next_open.Goals as goal

pub loop-place-init : goal.loop-place-init
loop-place-init c = kept_start (is_open c.args.graph.now c.args.done.now) c.args.waiting.now

pub is_open-requires-clause-place : goal.is_open-requires-clause-place
is_open-requires-clause-place c = c.requires.units c.in-Some.place (c.loop-place.invariant.were_there c.in-Some.place c.in-Some.ensures.member)

pub returns-then-is_open-clause-found : goal.returns-then-is_open-clause-found
returns-then-is_open-clause-found c =
    found_here (is_open c.args.graph.now c.args.done.now) c.args.waiting.now c.loop-place.waiting c.pop_first.new.self c.in-Some.place c.loop-place.invariant c.in-Some.ensures.updates.0 c.in-Some.ensures.member
    (λ q h. c.in-Some.ensures.least q h) (sym c.is_open.ensures ∙ c.if-is_open.true)

pub loop-place-preserved : goal.loop-place-preserved
loop-place-preserved c =
    kept_next (is_open c.args.graph.now c.args.done.now) c.args.waiting.now c.loop-place.waiting c.pop_first.new.self c.in-Some.place c.loop-place.invariant c.in-Some.ensures.updates.0 (sym c.is_open.ensures ∙ c.if-is_open.false)

pub returns-clause-none : goal.returns-clause-none
returns-clause-none c =
    let none : btree_set_len c.loop-place.waiting ≡ 0 = grind (arith, nat_tests, c.in_default.ensures.variant) in
    none_here (is_open c.args.graph.now c.args.done.now) c.args.waiting.now c.loop-place.waiting c.loop-place.invariant (none_left c.loop-place.waiting none)
