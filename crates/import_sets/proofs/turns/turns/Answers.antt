use Rattle.std.proofs.Common.{◌+◌, Bool, ℕ, List, true, length, slice_set, refl, ap, sym, subst, arith}
use Rattle.import_sets.specs.Graphs.{is_open, AreImporters}
use Rattle.import_sets.specs.Waiting.{Finds, Misses}
use Rattle.import_sets.proofs.StepLaws.{AreTurns, turns_end, turns_all, turns_more, turns_first}
use Rattle.import_sets.proofs.turns.turns.Goals as goal

pub loop-turn-init : goal.loop-turn-init
loop-turn-init c =
    turns_first c.args.graph.now c.in_ok-done.done.items c.in_ok-waiting.waiting c.new-order.result (length c.args.graph.now) (length c.args.graph.now) refl refl c.in_ok-done.ensures c.new-order.ensures c.in_ok-waiting.ensures

pub next_open-requires-clause-units : goal.next_open-requires-clause-units
next_open-requires-clause-units c = c.loop-turn.invariant.units

pub returns-in_default : goal.returns-in_default
returns-in_default c = λ ps is numbered.
    turns_end c.args.graph.now c.loop-turn.done.items c.loop-turn.waiting c.loop-turn.order c.loop-turn.turn c.loop-turn.invariant
    (subst (λ (ms : List Bool). Misses (is_open c.args.graph.now ms) c.loop-turn.waiting) c.as_slice.ensures.value c.in_default.ensures.none) ps is numbered

pub mark_done-requires : goal.mark_done-requires
mark_done-requires c =
    let lt = c.loop-turn.invariant.units c.in-Some.place c.in-Some.ensures.found.member in let size = c.loop-turn.invariant.size in let items = c.loop-turn.done.ok.0 in omega arith

pub look_again-requires : goal.look_again-requires
look_again-requires c =
    let lt = c.loop-turn.invariant.units c.in-Some.place c.in-Some.ensures.found.member in
    let size = c.in_ok-importers.ensures.size in
    let rows = ap length c.as_slice-rows.ensures.value in
    omega arith

pub overflow_cast-place : goal.overflow_cast-place
overflow_cast-place c = let lt = c.loop-turn.invariant.units c.in-Some.place c.in-Some.ensures.found.member in let few = c.requires.few in omega arith

pub loop-turn-preserved : goal.loop-turn-preserved
loop-turn-preserved c =
    let g = c.args.graph.now in
    let ms = c.loop-turn.done.items in
    let p = c.in-Some.place in
    let i = c.loop-turn.turn in
    let next = c.look_again.new.waiting in
    let more =
    turns_more g c.as_slice-rows.result.now ms c.loop-turn.waiting c.next_open.new.waiting next c.loop-turn.order i p (subst (AreImporters g) (sym c.as_slice-rows.ensures.value) c.in_ok-importers.ensures) (omega arith)
    c.loop-turn.invariant (subst (λ (ms : List Bool). Finds (is_open g ms) c.loop-turn.waiting c.next_open.new.waiting p) c.as_slice.ensures.value c.in-Some.ensures.found) c.in_ok-look_again.ensures in
    subst (λ (ms : List Bool). AreTurns g ms next c.push.new.self (i + 1)) (sym c.mark_done.ensures)
    (subst (λ (o : List ℕ). AreTurns g (slice_set ms p true) next o (i + 1)) (sym c.in_ok-push.ensures.ok) more)

pub returns : goal.returns
returns c = λ ps is numbered.
    turns_all c.args.graph.now c.loop-turn.done.items c.loop-turn.waiting c.loop-turn.order c.loop-turn.turn (omega arith) c.loop-turn.invariant ps is numbered
