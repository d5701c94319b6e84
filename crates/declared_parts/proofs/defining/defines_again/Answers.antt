use Rattle.std.proofs.Common.{◌≡◌, ℕ, ◌+◌, List, [], ◌++◌, Option, None, slice_get, sym, ap, ◌∙◌, subst}
use Rattle.scheme_model.specs.Ident.{Ident as Identifier}
use Rattle.scheme_model.specs.ExpansionFaults.{Named}
use Rattle.scheme_model.specs.RulesShape.{Rules}
use Rattle.scheme_model.specs.Order.{Note, is_some}
use Rattle.scheme_model.specs.ScopedExpansion.{Frames, FramedIdent, ScopedState}
use Rattle.unit_scopes.specs.declared.asked.Asked.{Asked}
use Rattle.scheme_model.specs.Questions.{Moment, Question}
use Rattle.syntax_tree.specs.declared.trees.Work.{Work}
use Rattle.std.specs.Prelude.{if◌then◌else◌}
use Rattle.form_notes.specs.Standing.{outcome_as, made_by}
use Rattle.form_notes.specs.declared.notes.Definition.{Definition}
use Rattle.form_notes.specs.declared.notes.Outcome as code_outcome
use Rattle.unit_scopes.specs.Defining.{outcome_here}
use Rattle.unit_scopes.specs.declared.scope.UnitScope.{UnitScope}
use Rattle.declared_parts.specs.Again.{own_notes, CanDeclare}
use Rattle.declared_parts.specs.Going.{note_of, settled, Tells, CanEnd, GoesOn, IsNext, OwnSoFar}
use Rattle.declared_parts.specs.declared.again.Going.{Going}
use Rattle.declared_parts.specs.declared.parts.DeclaredPart.{DeclaredPart}
use Rattle.declared_parts.proofs.EndGoing.{true_false}
use Rattle.declared_parts.proofs.GoNext.{of}
use Rattle.declared_parts.proofs.Stepping.{can_set, asked_there, can_end, with_own, next_is, stands_gone, fails_gone, other_gone}
use Rattle.declared_parts.proofs.defining.defines_again.Goals as goal

pub own_until-requires : goal.own_until-requires
own_until-requires c =
    let q = c.requires in let can = q.2 in
    record {
      can = (can.layout, own_notes can.again, can_set c.args.work.now q.0 q.1 c.args.part.now can c.args.units.now c.args.going.now q.3 q.4 c.args.definition c.args.answer q.6.0 q.6.1);
      few = asked_there c.args.work.now q.0 q.1 c.args.part.now can c.args.units.now c.args.going.now q.3 q.4 c.args.definition c.args.answer q.6.0 q.6.1;
    }

pub ends_here-ends-requires : goal.ends_here-ends-requires
ends_here-ends-requires c =
    let q = c.requires in let can = q.2 in
    let work = c.args.work.now in let part = c.args.part.now in let u = c.args.units.now in let g = c.args.going.now in let d = c.args.definition in let o = c.args.answer in
    let own = c.in_ok-own_until.ensures.own can.layout (own_notes can.again) (can_set work q.0 q.1 part can u g q.3 q.4 d o q.6.0 q.6.1) in
    let f = of work q.0 q.1 part can u g q.3 q.4 d o q.6.0 q.6.1 in
    (can.layout, settled can.again.now q.4.moment, f.name, f.notes, can.again.now.notes, can_end work q.0 q.1 part can u g q.3 q.4 d o c.own_until.new.going.own own q.6.0 q.6.1)

-- how it ends, by any question that the note tells
ended : (work : Work) (old : UnitScope) (n : ℕ) (part : DeclaredPart) (can : CanDeclare work old n part) (u : UnitScope) (g : Going) (made : ℕ) (h : GoesOn work old n part can u g made) (d : Definition) (own : Asked) → OwnSoFar work can.layout (own_notes can.again) own d.asked →
    (ends : code_outcome.Outcome) → ((ls : List Frames) (s : ScopedState) (x : Named Identifier) (r : Option (Rules Identifier)) (ns ms : List (Note FramedIdent)) → CanEnd work u d own ls s x ns ms → is_some r ≡ d.keyword → outcome_as ends ≡ outcome_here None x r [] (ns ++ ms) s) →
    (o : code_outcome.Outcome) (q : Moment × Question) (t : Tells work old n part can (note_of d o made) q) → let f = of work old n part can u g made h d o q t in outcome_as ends ≡ outcome_here None f.name f.rules [] (f.notes ++ can.again.now.notes) (settled can.again.now h.moment)
ended work old n part can u g made h d own so ends told o q t =
    let f = of work old n part can u g made h d o q t in
    told can.layout (settled can.again.now h.moment) f.name f.rules f.notes can.again.now.notes (can_end work old n part can u g made h d o own so q t) (sym f.is.keyword)

-- what is known of its own notes then
abbrev own_then : (work : Work) (old : UnitScope) (n : ℕ) (part : DeclaredPart) (can : CanDeclare work old n part) (u : UnitScope) (g g2 : Going) (made : ℕ) (h : GoesOn work old n part can u g made) (d : Definition) (o : code_outcome.Outcome) →
    g2 ≡ record g { own = g2.own; asked = d.asked } → OwnSoFar work can.layout (own_notes can.again) g2.own d.asked → GoesOn work old n part can u g2 made
own_then work old n part can u g g2 made h d o rest own =
    with_own work old n part can u g made h d o g2 (λ j. (rest j).made) (λ j. (rest j).macros) (subst (OwnSoFar work can.layout (own_notes can.again) g2.own) (sym (λ j. (rest j).asked)) own)

pub make_again-requires : goal.make_again-requires
make_again-requires c =
    let q = c.requires in let old = q.0 in let n = q.1 in let can = q.2 in let made = q.3 in let h = q.4 in
    let work = c.args.work.now in let part = c.args.part.now in let u = c.args.units.now in let g = c.args.going.now in let d = c.args.definition in let o = c.args.answer in let left = q.5.0 in
    let g2 = c.own_until.new.going in
    let own = c.in_ok-own_until.ensures.own can.layout (own_notes can.again) (can_set work old n part can u g made h d o q.6.0 q.6.1) in
    let rest = c.in_ok-own_until.ensures.rest in
    let ends = c.ends_here-ends.result in
    let same = c.is_same.ensures.same c.if-not-is_same.false in
    let goes = own_then work old n part can u g g2 made h d o rest own in
    let next = next_is work old n part can u g made h d left ends (ended work old n part can u g made h d g2.own own ends c.ends_here-ends.ensures) o c.in-Stands.is same q.6.0 q.6.1 q.5.1 in
    (old, n, can, made, goes, subst (λ (k : ℕ). IsNext work can.again can.editions h.moment d (slice_get part.macros k)) (sym (λ j. (rest j).macros)) next)

pub returns-then-not-is_same : goal.returns-then-not-is_same
returns-then-not-is_same c = λ old n can left made q h kept t.
    let work = c.args.work.now in let part = c.args.part.now in let u = c.args.units.now in let g = c.args.going.now in let d = c.args.definition in let o = c.args.answer in
    let g2 = c.own_until.new.going in
    let own = c.in_ok-own_until.ensures.own can.layout (own_notes can.again) (can_set work old n part can u g made h d o q t) in
    let rest = c.in_ok-own_until.ensures.rest in
    let ends = c.ends_here-ends.result in
    let apart : ends ≡ o → ⊥ = λ e. true_false (sym (c.is_same.ensures.other e) ∙ c.if-not-is_same.true) in
    other_gone work old n part can u g made h d left ends (ended work old n part can u g made h d g2.own own ends c.ends_here-ends.ensures) o apart g2 (own_then work old n part can u g g2 made h d o rest own)

pub returns-in_ok-make_again-in-Stands : goal.returns-in_ok-make_again-in-Stands
returns-in_ok-make_again-in-Stands c = λ old n can left made q h kept t.
    let work = c.args.work.now in let part = c.args.part.now in let u = c.args.units.now in let g = c.args.going.now in let d = c.args.definition in let o = c.args.answer in
    let g2 = c.own_until.new.going in let g3 = c.make_again.new.going in let v = c.make_again.new.units in
    let own = c.in_ok-own_until.ensures.own can.layout (own_notes can.again) (can_set work old n part can u g made h d o q t) in
    let rest = c.in_ok-own_until.ensures.rest in
    let ends = c.ends_here-ends.result in
    let same = c.is_same.ensures.same c.if-not-is_same.false in
    let goes = own_then work old n part can u g g2 made h d o rest own in
    let so = ended work old n part can u g made h d g2.own own ends c.ends_here-ends.ensures in
    let next = next_is work old n part can u g made h d left ends so o c.in-Stands.is same q t kept in
    let there = subst (λ (k : ℕ). IsNext work can.again can.editions h.moment d (slice_get part.macros k)) (sym (λ j. (rest j).macros)) next in
    let e = c.in_ok-make_again-in-Stands.ensures in
    let macros = e.macros ∙ ap (λ (k : ℕ). if d.keyword then k + 1 else k) (λ j. (rest j).macros) in
    stands_gone work old n part can u g made h d left ends so o c.in-Stands.is same v g3 (e.next old n can made goes there) macros kept

pub returns-in-Redefines : goal.returns-in-Redefines
returns-in-Redefines c = λ old n can left made q h kept t.
    let work = c.args.work.now in let part = c.args.part.now in let u = c.args.units.now in let g = c.args.going.now in let d = c.args.definition in let o = c.args.answer in
    let g2 = c.own_until.new.going in
    let own = c.in_ok-own_until.ensures.own can.layout (own_notes can.again) (can_set work old n part can u g made h d o q t) in
    let rest = c.in_ok-own_until.ensures.rest in
    let ends = c.ends_here-ends.result in
    fails_gone work old n part can u g made h d left ends (ended work old n part can u g made h d g2.own own ends c.ends_here-ends.ensures) o (ap made_by c.in-Redefines.is) (c.is_same.ensures.same c.if-not-is_same.false) g2
    (own_then work old n part can u g g2 made h d o rest own) (λ j. (rest j).macros) kept

pub returns-in-StoodBefore : goal.returns-in-StoodBefore
returns-in-StoodBefore c = λ old n can left made q h kept t.
    let work = c.args.work.now in let part = c.args.part.now in let u = c.args.units.now in let g = c.args.going.now in let d = c.args.definition in let o = c.args.answer in
    let g2 = c.own_until.new.going in
    let own = c.in_ok-own_until.ensures.own can.layout (own_notes can.again) (can_set work old n part can u g made h d o q t) in
    let rest = c.in_ok-own_until.ensures.rest in
    let ends = c.ends_here-ends.result in
    fails_gone work old n part can u g made h d left ends (ended work old n part can u g made h d g2.own own ends c.ends_here-ends.ensures) o (ap made_by c.in-StoodBefore.is) (c.is_same.ensures.same c.if-not-is_same.false) g2
    (own_then work old n part can u g g2 made h d o rest own) (λ j. (rest j).macros) kept
