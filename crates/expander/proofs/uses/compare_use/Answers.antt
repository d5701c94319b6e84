use Rattle.std.proofs.Common.{List, true, sym, subst}
use Rattle.core_tree.specs.Names.{AllMatch}
use Rattle.unit_scopes.specs.declared.uses.Comparison.{Comparison}
use Rattle.expander.specs.Ready.{rules_asked}
use Rattle.expander.proofs.UseNotes.{noted_again, can_use_noted, compared_for}
use Rattle.expander.proofs.uses.compare_use.Goals as goal
use Rattle.noted_steps.specs.Noting.{state_of, noting}
use Rattle.noted_steps.specs.Standing.{ComparedFor}
use Rattle.noted_steps.specs.Used.{pairs_of}
use Rattle.noted_steps.proofs.NoteLaws.{plainly, plain_noted}

pub compare-requires : goal.compare-requires
compare-requires c = can_use_noted c.args.work.now c.args.units.now c.note_use.new.units c.args.at c.note_use.ensures.rest c.requires

pub note_comparisons-requires-clause-literals : goal.note_comparisons-requires-clause-literals
note_comparisons-requires-clause-literals c =
    let w = c.args.work.now in
    let u = c.args.units.now in
    let l = c.requires in
    let e = plain_noted w u c.note_use.new.units l.layout (state_of l.state) c.note_use.ensures.rest (plainly w u l.layout l.state l.stands) in
    let q = c.in_ok-scope.ensures (λ n. true) l.layout (state_of l.state) l.frames l.keyword l.transformer l.parts l.tail e l.there l.used in
    record { layout = l.layout; state = state_of l.state; frames = l.transformer.env; stands = e; at = q.0 }

pub note_comparisons-requires-clause-look : goal.note_comparisons-requires-clause-look
note_comparisons-requires-clause-look c =
    let w = c.args.work.now in
    let u = c.args.units.now in
    let l = c.requires in
    record { layout = l.layout; state = state_of l.state; frames = l.frames; stands = plain_noted w u c.note_use.new.units l.layout (state_of l.state) c.note_use.ensures.rest (plainly w u l.layout l.state l.stands); at = l.there }

pub note_comparisons-requires-clause-compared : goal.note_comparisons-requires-clause-compared
note_comparisons-requires-clause-compared c =
    let w = c.args.work.now in
    let u = c.args.units.now in
    let l = c.requires in
    let e = plain_noted w u c.note_use.new.units l.layout (state_of l.state) c.note_use.ensures.rest (plainly w u l.layout l.state l.stands) in
    let q = c.in_ok-scope.ensures (λ n. true) l.layout (state_of l.state) l.frames l.keyword l.transformer l.parts l.tail e l.there l.used in (
      l.state,
      l.transformer.env,
      l.frames,
      pairs_of (noting (λ n. true)) l.transformer l.parts l.tail l.state,
      subst (λ (xs : List Comparison). AllMatch (ComparedFor w l.state l.transformer.env l.frames) xs (pairs_of (noting (λ n. true)) l.transformer l.parts l.tail l.state)) (sym c.deref.ensures.value)
          (compared_for w l.layout c.in_ok-scope.scope c.args.at.scope l.state (λ n. true) l.frames l.transformer l.parts l.tail c.in_ok-scope.comparisons.items q.1),
    )

pub returns-clause-compared : goal.returns-clause-compared
returns-clause-compared c = λ known ls s fs keyword m ts tail e at for.
    let w = c.args.work.now in
    let u1 = c.note_use.new.units in
    let t = rules_asked known keyword s in
    let e1 = c.note_use.ensures.noted known w ls s keyword.meaning e for.target.meaning in
    let q = c.in_ok-scope.ensures known ls (state_of s) fs keyword m ts tail (plainly w u1 ls t e1) at for in
    let are = subst (λ (xs : List Comparison). AllMatch (ComparedFor w t m.env fs) xs (pairs_of (noting known) m ts tail t)) (sym c.deref.ensures.value)
    (compared_for w ls c.in_ok-scope.scope c.args.at.scope t known fs m ts tail c.in_ok-scope.comparisons.items q.1) in
    (q.0, q.1, c.note_comparisons.ensures.noted known ls t m.env fs (pairs_of (noting known) m ts tail t) e1 q.0 at are)

pub returns-clause-rest : goal.returns-clause-rest
returns-clause-rest c = noted_again c.args.units.now c.note_use.new.units c.note_comparisons.new.units c.note_use.ensures.rest c.note_comparisons.ensures.rest
