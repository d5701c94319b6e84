use Rattle.std.proofs.Common.{◌≤◌, length, take, false, refl, sym, subst, arith}
use Rattle.scheme_model.specs.Requirements.{Known}
use Rattle.scheme_model.specs.Order.{meet_all}
use Rattle.unit_scopes.specs.Kept.{WaitsFor}
use Rattle.unit_scopes.proofs.MatchLists.{match_at, as_long}
use Rattle.unit_scopes.proofs.UsesMet.{item_waits}
use Rattle.noted_steps.specs.Noting.{Noting, noting}
use Rattle.noted_steps.specs.Standing.{Stands}
use Rattle.noted_steps.proofs.UsesMet.{one_more_met, all_met, waits_on, meets_again}
use Rattle.noted_steps.proofs.uses.meet_all.Goals as goal

pub meet-requires-clause-look : goal.meet-requires-clause-look
meet-requires-clause-look c =
    let l = c.requires.look in
    let known : Known = λ n. false in
    record {
      layout = l.layout;
      state = meet_all (noting known) l.frames (take c.loop-used.used-index c.requires.waits.0) l.state;
      frames = l.frames;
      stands = c.loop-used.invariant.met known l.layout l.state l.frames c.requires.waits.0 l.stands l.at c.requires.waits.1;
      at = l.at;
    }

pub meet-requires-clause-waits : goal.meet-requires-clause-waits
meet-requires-clause-waits c =
    let u = c.args.units.now in
    let h = match_at (WaitsFor c.args.work.now u.unit u.form.number) c.args.uses.now c.requires.waits.0 c.loop-used.used-index c.used-item.result c.requires.waits.1 c.loop-used-test.true in
    (h.0, waits_on c.args.work.now u c.loop-used.units c.used-item.result h.0 c.loop-used.invariant.rest (item_waits c.args.work.now u.unit u.form.number c.args.uses.now c.loop-used.used-index c.used-item.result h.0 c.used-item.is h.2))

pub loop-used-preserved : goal.loop-used-preserved
loop-used-preserved c = record {
  met = λ known ls s fs us stands at waits.
      let work = c.args.work.now in
      let u = c.args.units.now in
      let k = c.loop-used.used-index in
      let h = match_at (WaitsFor work u.unit u.form.number) c.args.uses.now us k c.used-item.result waits c.loop-used-test.true in
      subst (λ (t : Noting). Stands work c.meet.new.units ls t) (sym (one_more_met known fs k us s h.0 h.1))
      (c.in_ok-meet.ensures.met known ls (meet_all (noting known) fs (take k us) s) fs h.0 (c.loop-used.invariant.met known ls s fs us stands at waits) at (waits_on work u c.loop-used.units c.used-item.result h.0 c.loop-used.invariant.rest (item_waits work u.unit u.form.number c.args.uses.now k c.used-item.result h.0 c.used-item.is h.2)));
  rest = meets_again c.args.units.now c.loop-used.units c.meet.new.units c.loop-used.invariant.rest c.in_ok-meet.ensures.rest;
}

pub loop-used-init : goal.loop-used-init
loop-used-init c = record { met = λ known ls s fs us stands at waits. stands; rest = refl }

pub returns-clause-met : goal.returns-clause-met
returns-clause-met c = λ known ls s fs us stands at waits.
    let work = c.args.work.now in
    let u = c.args.units.now in
    let past : length c.args.uses.now ≤ c.loop-used.used-index = c.loop-used-test.false in
    let long = as_long (WaitsFor work u.unit u.form.number) c.args.uses.now us waits in
    subst (λ (t : Noting). Stands work c.loop-used.units ls t) (all_met known fs c.loop-used.used-index us s (omega (arith, past, long))) (c.loop-used.invariant.met known ls s fs us stands at waits)

pub returns-clause-rest : goal.returns-clause-rest
returns-clause-rest c = c.loop-used.invariant.rest
