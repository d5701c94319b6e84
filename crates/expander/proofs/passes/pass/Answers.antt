use Rattle.std.proofs.Common.{◌≡◌, ℕ, suc, ◌+◌, ◌*◌, ◌^◌, ◌≤◌, List, [], ◌∷◌, length, refl, sym, ap, subst, arith}
use Rattle.scheme_model.specs.Measures.{tree_size}
use Rattle.syntax_tree.proofs.StandingLaws.{stands_once}
use Rattle.feature_requirements.specs.Judged.{Knows}
use Rattle.unit_scopes.specs.Kept.{left_with}
use Rattle.expander.specs.Passed.{CanPass}
use Rattle.expander.proofs.AfterLaws.{all_known, opened_on}
use Rattle.expander.proofs.PassLoop.{next_form, behind_it, pending_behind, one_more_passed, next_fails, can_pass_next, passing_ends, passing_err, passing_begins}
use Rattle.expander.proofs.passes.pass.Goals as goal

nothing_in : {X : Type 0} (xs : List X) → length xs ≡ 0 → xs ≡ []
nothing_in [] h = refl
nothing_in (x ∷ xs) h = absurd (omega (arith, h))

pub forms-init : goal.forms-init
forms-init c = λ known ls s fs p turns knows stands placed pending notes less.
    passing_begins known c.args.work.now c.args.region.now c.args.units.now ls c.args.spot fs s p turns c.args.pending.now c.args.asked.now stands placed pending notes less

pub pass_form-requires : goal.pass_form-requires
pass_form-requires c =
    let u = c.args.units.now in
    let region = c.args.region.now in
    let can = c.requires.can in
    let k = all_known u.libraries in
    let turns = suc (left_with can.left.todo u.form.budget.uses) in
    let h = c.forms.invariant k.0 can.layout can.state can.frames can.left turns k.1 can.stands can.placed can.pending can.notes (omega arith) in
    let next = next_form c.forms.work region c.forms.units.unit c.forms.units.form.number c.forms.pending h.left c.in-Some.form c.pop.new.self.items c.in-Some.ensures.items h.pending in
    record {
      opened = opened_on c.args.work.now c.forms.work region h.stays.work c.requires.opened;
      form = ((next.head.tree, next.first.1.0), next.first.1.1);
      can = λ m stand.
          subst (λ (n : ℕ). CanPass c.forms.work region c.forms.units c.args.spot n (record c.forms.pending { todo = c.pop.new.self }) c.forms.asked)
          (ap tree_size (stands_once c.forms.work.trees.nodes c.forms.work.symbols next.head.tree m c.in-Some.form.tree.number next.first.1.0 stand))
          (can_pass_next k.0 c.args.work.now region u can.layout c.args.spot can.frames can.state can.left turns c.forms.work c.forms.units c.forms.pending (record c.forms.pending { todo = c.pop.new.self }) c.forms.asked c.forms._turn h c.in-Some.form next (refl, refl) can.room);
    }

pub forms-preserved : goal.forms-preserved
forms-preserved c = λ known ls s fs p turns knows stands placed pending notes less.
    let u = c.args.units.now in
    let region = c.args.region.now in
    let h = c.forms.invariant known ls s fs p turns knows stands placed pending notes less in
    let next = next_form c.forms.work region c.forms.units.unit c.forms.units.form.number c.forms.pending h.left c.in-Some.form c.pop.new.self.items c.in-Some.ensures.items h.pending in
    let rest = pending_behind c.forms.work region c.forms.units.unit c.forms.units.form.number c.forms.pending (record c.forms.pending { todo = c.pop.new.self }) h.left c.in-Some.form next (refl, refl) h.pending in
    let goes = c.in_ok-pass_form.ensures known ls h.state fs next.head (behind_it h.left next.rest) (subst (λ l. Knows l known) (sym h.stays.same.libraries) knows) h.stays.stands h.placed next.first rest h.notes in
    one_more_passed known c.args.work.now region u ls c.args.spot fs s p turns c.forms.work c.forms.units c.forms.pending (record c.forms.pending { todo = c.pop.new.self }) c.forms.asked c.forms._turn h c.in-Some.form next c.pass_form.new.work c.pass_form.new.units c.pass_form.new.pending c.pass_form.new.asked goes

pub returns-in_default : goal.returns-in_default
returns-in_default c = λ known ls s fs p turns knows stands placed pending notes less.
    let h = c.forms.invariant known ls s fs p turns knows stands placed pending notes less in
    passing_ends known c.args.work.now c.args.region.now c.args.units.now ls c.args.spot fs s p turns c.forms.work c.forms.units c.forms.pending c.forms.asked c.forms._turn (record c.forms.pending { todo = c.pop.new.self }) h
    (nothing_in c.forms.pending.todo.items (let z = c.in_default.ensures.cases.0 in let items = c.forms.pending.todo.ok.0 in omega arith)) (refl, refl)

pub returns-in_err-pass_form : goal.returns-in_err-pass_form
returns-in_err-pass_form c = λ known ls s fs p turns knows stands placed pending notes less.
    let u = c.args.units.now in
    let region = c.args.region.now in
    let h = c.forms.invariant known ls s fs p turns knows stands placed pending notes less in
    let next = next_form c.forms.work region c.forms.units.unit c.forms.units.form.number c.forms.pending h.left c.in-Some.form c.pop.new.self.items c.in-Some.ensures.items h.pending in
    let rest = pending_behind c.forms.work region c.forms.units.unit c.forms.units.form.number c.forms.pending (record c.forms.pending { todo = c.pop.new.self }) h.left c.in-Some.form next (refl, refl) h.pending in
    let e = c.in_err-pass_form.field-0.0 in
    let goes = c.in_err-pass_form.ensures known ls h.state fs next.head (behind_it h.left next.rest) (subst (λ l. Knows l known) (sym h.stays.same.libraries) knows) h.stays.stands h.placed next.first rest h.notes in
    passing_err known c.args.work.now region u ls c.args.spot fs s p turns c.pass_form.new.work c.pass_form.new.units c.pass_form.new.asked (left_with p.todo u.form.budget.uses) c.pass_form.new.pending c.from_residual.result e c.from_residual.ensures.1
    (next_fails known c.args.work.now region u ls c.args.spot fs s p turns c.forms.work c.forms.units c.forms.pending (record c.forms.pending { todo = c.pop.new.self }) c.forms.asked c.forms._turn h c.in-Some.form next c.pass_form.new.work c.pass_form.new.units c.pass_form.new.pending c.pass_form.new.asked (left_with p.todo u.form.budget.uses) c.pass_form.new.pending e goes)

-- so many turns are never taken
no_turns : {P : Type 0} (locals left all nodes turn : ℕ) → left + turn ≤ all → locals + all + 0 ≤ 2 ^ 44 * (nodes + 1) → nodes ≤ 200000 → 18446744073709551615 ≤ turn → P
no_turns locals left all nodes turn less room few taken = absurd (omega (arith, less, room, few, taken))

pub returns : goal.returns
returns c = λ known ls s fs p turns knows stands placed pending notes less.
    let u = c.args.units.now in
    let can = c.requires.can in
    let k = all_known u.libraries in
    let all = left_with can.left.todo u.form.budget.uses in
    let h = c.forms.invariant k.0 can.layout can.state can.frames can.left (suc all) k.1 can.stands can.placed can.pending can.notes (omega arith) in
    no_turns u.form.budget.locals (left_with h.left.todo c.forms.units.form.budget.uses) all u.form.budget.nodes c.forms._turn h.less can.room can.stands.form.few_nodes c.forms-test.false
