use Rattle.std.proofs.Common.{◌≡◌, ◌∙◌, arith, refl, subst, take}
use Rattle.std.proofs.KnownBytes.{Appends-nil, Appends-trans}
use Rattle.std.proofs.lemmas.List.{take_all}
use Rattle.std.specs.Io.KnownBytes.{Appends}
use Rattle.ls_outside.specs.Calls.{AllTake}
use Rattle.ls_outside.proofs.CallLaws.{take_none, take_one, take_then}
use Rattle.command_output.proofs.Fronts.{front_more}
use Rattle.command_output.proofs.printing.print_all.Goals as goal

pub loop-at-init : goal.loop-at-init
loop-at-init g c = record { within = omega arith; printed = Appends-nil _; no_fault = refl; calls = take_none _ }

pub loop-at-preserved : goal.loop-at-preserved
loop-at-preserved g c =
    let i = c.loop-at.invariant in
    record {
      within = omega (arith, c.in-Some.ensures.within.1);
      printed = rw (← front_more c.args.bytes.now c.loop-at.at c.in-Some.count) (Appends-trans _ _ _ _ _ i.printed c.in-Some.ensures.takes);
      no_fault = c.in-Some.ensures.counts ∙ i.no_fault;
      calls = rw (← front_more c.args.bytes.now c.loop-at.at c.in-Some.count) (take_then _ _ _ _ _ i.calls (take_one _ _ _ c.in-Some.count c.in-Some.ensures.notes c.in-Some.ensures.within.0 c.in-Some.ensures.within.1));
    }

pub returns : goal.returns
returns g c =
    let i = c.loop-at.invariant in
    let all : take c.loop-at.at c.args.bytes.now ≡ c.args.bytes.now = take_all _ _ (omega (arith, c.loop-at-test.false)) in
    record { printed = subst (Appends _ _) all i.printed; no_fault = i.no_fault; calls = subst (AllTake _ _) all i.calls }
