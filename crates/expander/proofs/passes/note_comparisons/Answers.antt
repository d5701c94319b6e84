use Rattle.std.proofs.Common.{◌≡◌, ℕ, ◌-◌, ◌++◌, length, drop, false, subst, arith}
use Rattle.unit_scopes.specs.Kept.{NotesFor}
use Rattle.unit_scopes.specs.declared.uses.Comparison.{Comparison}
use Rattle.expander.proofs.PassLaws.{within_here, noted_more, none_noted}
use Rattle.expander.proofs.passes.note_comparisons.Goals as goal

abbrev no_comparison : Comparison
no_comparison = record { pair = record { literal = 0; ident = 0 }; held = false }

pub loop-left-init : goal.loop-left-init
loop-left-init c = record {
  within = omega arith;
  noted = λ ls qs ns are h. none_noted c.args.work.now ls c.args.literal_scope c.args.scope c.args.comparisons.now qs are ns (length c.args.comparisons.now) c.args.asked.now (omega arith) h;
}

pub push-requires : goal.push-requires
push-requires c =
    let h = c.requires in
    let within = c.loop-left.invariant.within in
    let some = c.loop-left-test.true in
    within_here c.args.work.now h.0 c.args.literal_scope c.args.scope c.args.comparisons.now h.1 h.2 (c.loop-left.left - 1) no_comparison (omega (arith, within, some))

pub loop-left-preserved : goal.loop-left-preserved
loop-left-preserved c =
    let within = c.loop-left.invariant.within in
    let some = c.loop-left-test.true in
    let left = c.loop-left.left in
    record {
      within = omega (arith, within);
      noted = λ ls qs ns are h.
          let before = c.loop-left.invariant.noted ls qs ns are h in
          noted_more c.args.work.now ls c.args.literal_scope c.args.scope c.args.comparisons.now qs are ns (left - 1) left no_comparison c.loop-left.asked c.push.new.self (omega (arith, some)) within
          c.in_ok-push.ensures.notes (c.in_ok-push.ensures.stands before.asks) before;
    }

pub returns : goal.returns
returns c = λ ls qs ns are h.
    let none = c.loop-left-test.false in
    let is : c.loop-left.left ≡ 0 = omega (arith, none) in
    subst (λ (k : ℕ). NotesFor c.args.work.now ls c.loop-left.asked (drop k qs ++ ns)) is (c.loop-left.invariant.noted ls qs ns are h)
