use Rattle.std.proofs.Common.{◌^◌, [], length, false, true, None, Result, sym, ap, ◌∙◌, subst}
use Rattle.std.specs.Prelude.{OnOk}
use Rattle.scheme_model.specs.Cores.{Part}
use Rattle.scheme_model.specs.Ident.{Ident as Identifier}
use Rattle.scheme_model.specs.Order.{Item}
use Rattle.scheme_model.specs.Expression.{expand, item_part}
use Rattle.scheme_model.specs.Program.{enough_turns}
use Rattle.scheme_model.specs.Steps.{Broken}
use Rattle.scheme_model.specs.UnitExpansion.{max_depth}
use Rattle.scheme_model.specs.ScopedExpansion.{ScopedState}
use Rattle.core_tree.specs.Cores.{PartStands}
use Rattle.feature_requirements.specs.declared.fault.ExpandFault.TheVariants as fault
use Rattle.unit_scopes.specs.Kept.{NotesFor}
use Rattle.unit_scopes.specs.Outcomes.{Ends, HasRoom, Spends}
use Rattle.unit_scopes.specs.Searched.{searched}
use Rattle.unit_scopes.specs.Units.{ItemFor}
use Rattle.unit_scopes.specs.declared.scope.UnitScope.{UnitScope}
use Rattle.unit_scopes.proofs.CallLaws.{all_known, ends_adds, ends_counts, ends_full}
use Rattle.noted_steps.proofs.Lifts.{plain_ends, unnoted}
use Rattle.noted_steps.proofs.PlainSides.{item_same, item_exact}
use Rattle.expander.specs.UnitNotes.{HasNoted, expand_noting, part_begun}
use Rattle.expander.proofs.AskedRuns.{noted_knows}
use Rattle.expander.proofs.PartLaws.{notes_counted, plain_part, ends_from, ends_gone, ended_ends, noted_ends, not_ended, ends_handed_on}
use Rattle.expander.proofs.unit.expand_apart.Goals as goal

pub expand_at_root-part-requires-clause-item : goal.expand_at_root-part-requires-clause-item
expand_at_root-part-requires-clause-item c =
    subst (λ (x : UnitScope). (i : Item Identifier) × ItemFor c.args.work.now c.args.region.now x.unit x.form.number c.args.item.now i) (sym c.resume_notes.ensures.rest) c.requires.item

pub expand_at_root-part-requires-clause-can : goal.expand_at_root-part-requires-clause-can
expand_at_root-part-requires-clause-can c =
    let w = c.args.work.now in let can = c.requires.can in
    record {
      layout = can.layout;
      state = plain_part c.args.units.now.form.trace.notes.begun can.state;
      notes = can.notes;
      stands = c.resume_notes.ensures.begun w can.layout can.state false 0 (λ n. None) [] can.stands (λ h. absurd cc) (λ h. absurd cc) (λ h. absurd cc);
      asked = subst (λ (x : UnitScope). NotesFor w can.layout x.asked can.notes) (sym c.resume_notes.ensures.rest) can.asked;
    }

pub expand_at_root-part-requires-clause-space : goal.expand_at_root-part-requires-clause-space
expand_at_root-part-requires-clause-space c = subst (HasRoom (2 ^ 43)) (sym c.resume_notes.ensures.rest) c.requires.space

pub returns-in_err-end_notes-clause-part : goal.returns-in_err-end_notes-clause-part
returns-in_err-end_notes-clause-part c = λ known ls s i knows stands item.
    let u = c.args.units.now in let u1 = c.resume_notes.new.units in let v = c.expand_at_root-part.new.units in let w = c.args.work.now in let new = c.expand_at_root-part.new.work in let region = c.args.region.now in let same = c.resume_notes.ensures.rest in
    let begun = c.resume_notes.ensures.begun w ls s false 0 (λ n. None) [] stands (λ h. absurd cc) (λ h. absurd cc) (λ h. absurd cc) in
    let item1 = subst (λ (x : UnitScope). ItemFor w region x.unit x.form.number c.args.item.now i) (sym same) item in
    let h = c.expand_at_root-part.ensures.part known ls (plain_part u.form.trace.notes.begun s) i (noted_knows u u1 known same knows) begun item1 in
    ends_handed_on (λ layout. PartStands new v.unit v.form.number) w new region u v ls c.from_residual.result fault.Memory (item_part (expand (searched known) enough_turns) (searched known) max_depth [] i s) c.from_residual.ensures.1
    (ends_gone w new region u u1 v same (λ layout. PartStands new v.unit v.form.number) ls c.expand_at_root-part.result (expand_noting known i (plain_part u.form.trace.notes.begun s)) h)

pub returns-clause-part : goal.returns-clause-part
returns-clause-part c = λ known ls s i knows stands item.
    let u = c.args.units.now in let u1 = c.resume_notes.new.units in let v = c.expand_at_root-part.new.units in let w = c.args.work.now in let new = c.expand_at_root-part.new.work in let region = c.args.region.now in let same = c.resume_notes.ensures.rest in
    let begun = c.resume_notes.ensures.begun w ls s false 0 (λ n. None) [] stands (λ h. absurd cc) (λ h. absurd cc) (λ h. absurd cc) in
    let item1 = subst (λ (x : UnitScope). ItemFor w region x.unit x.form.number c.args.item.now i) (sym same) item in
    let h = c.expand_at_root-part.ensures.part known ls (plain_part u.form.trace.notes.begun s) i (noted_knows u u1 known same knows) begun item1 in
    let p = expand_noting known i (plain_part u.form.trace.notes.begun s) in
    subst (λ (q : Result Part Broken × ScopedState). Ends (λ layout. PartStands new v.unit v.form.number) w new region u v ls c.expand_at_root-part.result q) (sym (item_same known enough_turns i (plain_part u.form.trace.notes.begun s)))
    (ends_from w new region u u1 v same (λ layout. PartStands new v.unit v.form.number) ls c.expand_at_root-part.result (unnoted p) (plain_ends (λ layout. PartStands new v.unit v.form.number) w new region u1 v ls c.expand_at_root-part.result p h))

pub returns-in_err-end_notes-clause-noted : goal.returns-in_err-end_notes-clause-noted
returns-in_err-end_notes-clause-noted c = λ known ls s notes i editions ms knows stands asked item can.
    not_ended c.from_residual.result (HasNoted c.expand_at_root-part.new.work c.expand_at_root-part.new.units.macros c.expand_at_root-part.new.units.form.trace (expand_noting known i (part_begun c.args.units.now.form.trace.notes.begun notes editions ms s)).1) c.from_residual.ensures.1

pub returns-clause-noted : goal.returns-clause-noted
returns-clause-noted c = λ known ls s notes i editions ms knows stands asked item can.
    let u = c.args.units.now in let u1 = c.resume_notes.new.units in let v = c.expand_at_root-part.new.units in let w = c.args.work.now in let new = c.expand_at_root-part.new.work in let region = c.args.region.now in let same = c.resume_notes.ensures.rest in
    let start = part_begun u.form.trace.notes.begun notes editions ms s in
    let begun = c.resume_notes.ensures.begun w ls s true (length notes) editions ms stands (λ h. can.tells) (λ h. notes_counted w ls u.asked notes asked) (λ h. can.notes) in
    let item1 = subst (λ (x : UnitScope). ItemFor w region x.unit x.form.number c.args.item.now i) (sym same) item in
    let p = expand_noting known i start in
    let h = c.expand_at_root-part.ensures.part known ls start i (noted_knows u u1 known same knows) begun item1 in
    ended_ends w new region u1 v ls (HasNoted new v.macros v.form.trace p.1) (λ layout. PartStands new v.unit v.form.number) c.expand_at_root-part.result p h
    (λ layout st.
    let exact = item_exact known enough_turns i start in
    noted_ends new v layout p.1 st exact (c.in_ok-end_notes.ensures.notes new layout p.1 st exact) (c.in_ok-end_notes.ensures.order new layout p.1 st exact))

pub returns-in_err-end_notes-clause-asked : goal.returns-in_err-end_notes-clause-asked
returns-in_err-end_notes-clause-asked c = c.expand_at_root-part.ensures.asked ∙ ap (λ (x : UnitScope). x.asked) c.resume_notes.ensures.rest

pub returns-clause-asked : goal.returns-clause-asked
returns-clause-asked c = c.expand_at_root-part.ensures.asked ∙ ap (λ (x : UnitScope). x.asked) c.resume_notes.ensures.rest

pub returns-clause-locals : goal.returns-clause-locals
returns-clause-locals c =
    let v = c.expand_at_root-part.new.units in
    subst (λ (x : UnitScope). OnOk c.expand_at_root-part.result (Spends 0 x v)) c.resume_notes.ensures.rest c.expand_at_root-part.ensures.locals

pub returns-in_err-end_notes-clause-work : goal.returns-in_err-end_notes-clause-work
returns-in_err-end_notes-clause-work c =
    let u = c.args.units.now in let can = c.requires.can in let k = all_known u.libraries in let i = c.requires.item in
    let new = c.expand_at_root-part.new.work in let v = c.expand_at_root-part.new.units in
    ends_adds c.args.work.now new c.args.region.now u v (λ layout. PartStands new v.unit v.form.number) can.layout c.from_residual.result
    (item_part (expand (searched k.0) enough_turns) (searched k.0) max_depth [] i.0 can.state) (returns-in_err-end_notes-clause-part c k.0 can.layout can.state i.0 k.1 can.stands i.1)

pub returns-clause-work : goal.returns-clause-work
returns-clause-work c =
    let u = c.args.units.now in let can = c.requires.can in let k = all_known u.libraries in let i = c.requires.item in
    let new = c.expand_at_root-part.new.work in let v = c.expand_at_root-part.new.units in
    ends_adds c.args.work.now new c.args.region.now u v (λ layout. PartStands new v.unit v.form.number) can.layout c.expand_at_root-part.result
    (item_part (expand (searched k.0) enough_turns) (searched k.0) max_depth [] i.0 can.state) (returns-clause-part c k.0 can.layout can.state i.0 k.1 can.stands i.1)

pub returns-clause-counts : goal.returns-clause-counts
returns-clause-counts c =
    let u = c.args.units.now in let can = c.requires.can in let k = all_known u.libraries in let i = c.requires.item in
    let new = c.expand_at_root-part.new.work in let v = c.expand_at_root-part.new.units in
    ends_counts c.args.work.now new c.args.region.now u v (λ layout. PartStands new v.unit v.form.number) can.layout c.expand_at_root-part.result
    (item_part (expand (searched k.0) enough_turns) (searched k.0) max_depth [] i.0 can.state) (returns-clause-part c k.0 can.layout can.state i.0 k.1 can.stands i.1)

pub returns-clause-full : goal.returns-clause-full
returns-clause-full c =
    let u = c.args.units.now in let can = c.requires.can in let k = all_known u.libraries in let i = c.requires.item in
    let new = c.expand_at_root-part.new.work in let v = c.expand_at_root-part.new.units in
    ends_full c.args.work.now new c.args.region.now u v (λ layout. PartStands new v.unit v.form.number) can.layout c.expand_at_root-part.result
    (item_part (expand (searched k.0) enough_turns) (searched k.0) max_depth [] i.0 can.state) (returns-clause-part c k.0 can.layout can.state i.0 k.1 can.stands i.1)
