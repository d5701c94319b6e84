use Rattle.std.proofs.Common.{◌≡◌, ◌+◌, ◌++◌, List, false, Some, Ok, Err, refl, ap, ◌∙◌, subst, arith}
use Rattle.scheme_model.specs.Ident.{Ident as Identifier}
use Rattle.scheme_model.specs.Requirements.{Known}
use Rattle.scheme_model.specs.RulesShape.{Rules}
use Rattle.scheme_model.specs.Trees.{Tree}
use Rattle.scheme_model.specs.Order.{Going, Note, Pass, Pending, rules_parts_of, rules_note, run_syntax}
use Rattle.scheme_model.specs.ScopedExpansion.{Frames, FramedIdent}
use Rattle.syntax_tree.specs.declared.trees.Work.{Work}
use Rattle.form_parts.specs.declared.items.Pending as code_pending
use Rattle.unit_scopes.specs.Kept.{NotesFor}
use Rattle.unit_scopes.specs.Searched.{searched}
use Rattle.unit_scopes.specs.State.{IsMacro}
use Rattle.unit_scopes.specs.declared.asked.Asked.{Asked}
use Rattle.unit_scopes.specs.declared.macros.Macro.{Macro}
use Rattle.unit_scopes.specs.declared.scope.UnitScope.{UnitScope}
use Rattle.expander.proofs.DefinitionSteps.{goes_handed, goes_without}
use Rattle.expander.proofs.LooseLaws.{loose, stand_on, place_on}
use Rattle.expander.proofs.MacroSteps.{with_note, counted_place, counted_stands, tested_state, test_fails, placed_after, read_fails, define_fails, macro_goes}
use Rattle.expander.proofs.RulesNotes.{note_is, read_noted}
use Rattle.expander.proofs.defining.define_syntax.Goals as goal
use Rattle.noted_steps.specs.Noting.{Noting, state_of, noting}
use Rattle.noted_steps.specs.Standing.{Stands}
use Rattle.noted_steps.specs.Stepped.{spent}
use Rattle.noted_steps.proofs.NoteLaws.{plainly, plain_noted}

nothing_known : Known
nothing_known = λ l. false

-- the note of the head of rules, told by an expansion that notes
note_there : (work : Work) (u : UnitScope) (known : Known) (ls : List Frames) (s : Noting) (fs : Frames) (t : Tree Identifier) (p : Pending Identifier FramedIdent) (a : Asked) → Stands work u ls s → NotesFor work ls a (rules_note (searched known) fs (state_of s) (rules_parts_of t) ++ p.notes) →
    NotesFor work ls a (rules_note (noting known) fs s (rules_parts_of t) ++ p.notes)
note_there work u known ls s fs t p a e h = subst (λ (ns : List (Note FramedIdent)). NotesFor work ls a (ns ++ p.notes)) (note_is known fs s (rules_parts_of t)) h

pub note_rules-requires : goal.note_rules-requires
note_rules-requires c =
    let can = c.requires.can in
    record { look = record { layout = can.layout; state = state_of can.state; frames = can.frames; stands = plainly c.args.work.now c.args.units.now can.layout can.state can.stands; at = can.placed.at }; rules = c.requires.rules }

pub test_rules-requires : goal.test_rules-requires
test_rules-requires c =
    let can = c.requires.can in
    record { look = record { layout = can.layout; state = state_of can.state; frames = can.frames; stands = plainly c.args.work.now c.args.units.now can.layout can.state can.stands; at = can.placed.at }; rules = c.requires.rules }

pub read_macro-requires : goal.read_macro-requires
read_macro-requires c =
    let work = c.args.work.now in
    let u = c.args.units.now in
    let can = c.requires.can in
    let stands = plain_noted work u c.test_rules.new.units can.layout (state_of can.state) c.test_rules.ensures.rest (plainly work u can.layout can.state can.stands) in
    record { look = record { layout = can.layout; state = state_of can.state; frames = can.frames; stands = stands; at = can.placed.at }; rules = c.requires.rules }

pub define-requires : goal.define-requires
define-requires c =
    let work = c.args.work.now in
    let u = c.args.units.now in
    let u1 = c.test_rules.new.units in
    let rest = c.test_rules.ensures.rest in
    let w = c.read_macro.new.self in
    let can = c.requires.can in
    let s1 = loose (state_of can.state) in
    let t = c.requires.rules.0 in
    let counts = c.in_ok-defined.ensures.nodes in
    let locals : w.form.budget.locals ≡ u.form.budget.locals = (λ j. (counts.2 j).form.budget.locals) ∙ ap (λ (x : UnitScope). x.form.budget.locals) rest in
    let nodes : w.form.budget.nodes ≡ u1.form.budget.nodes + counts.0 = λ j. (counts.2 j).form.budget.nodes in
    let before : u1.form.budget.nodes ≡ u.form.budget.nodes = ap (λ (x : UnitScope). x.form.budget.nodes) rest in
    let room = c.requires.room in
    record {
      can = record {
        layout = can.layout;
        state = spent counts.0 s1;
        frames = can.frames;
        found = rules_note (searched nothing_known) can.frames (state_of can.state) (rules_parts_of t) ++ can.found;
        stands = counted_stands work u1 w can.layout s1 counts (stand_on work u u1 rest can.layout can.state can.stands);
        placed = counted_place work u1 w can.layout c.args.spot can.frames s1 (spent counts.0 s1) counts refl (place_on work u u1 rest can.layout can.state s1 c.args.spot can.frames refl can.placed);
        notes = c.in_ok-note_rules.ensures.notes nothing_known can.layout (state_of can.state) can.frames t can.found (plainly work u can.layout can.state can.stands) can.placed.at c.requires.rules.1 can.notes;
      };
      name = c.requires.name;
      room = omega (arith, locals, nodes, before, room);
    }

abbrev Step : Type 0
Step = Going Identifier FramedIdent Noting → Pass Identifier FramedIdent × Noting

pub returns-in_err-note_rules : goal.returns-in_err-note_rules
returns-in_err-note_rules c = λ known region ls s fs n t p given knows stands placed is st pending notes one.
    let u = c.args.units.now in
    let step : Step = λ go. run_syntax (noting known) go c.args.here fs p (n, t) s in
    goes_without c.args.work.now region u u ls c.args.spot fs p.todo given c.args.pending.now c.note_rules.new.asked c.from_residual.result step c.from_residual.ensures.1 stands.form.few_nodes

pub returns-in_err-test_rules : goal.returns-in_err-test_rules
returns-in_err-test_rules c = λ known region ls s fs n t p given knows stands placed is st pending notes one.
    let work = c.args.work.now in
    let u = c.args.units.now in
    let u1 = c.test_rules.new.units in
    let rest = c.test_rules.ensures.rest in
    let a = c.note_rules.new.asked in
    let old = c.args.pending.now in
    let here = c.args.here in
    let step : Step = λ go. run_syntax (noting known) go here fs p (n, t) s in
    let seen = note_there work u known ls s fs t p a stands (c.in_ok-note_rules.ensures.notes known ls (state_of s) fs t p.notes (plainly work u ls s stands) placed.at st notes) in
    let e = c.in_err-test_rules.field-0.0 in
    let tests = c.in_err-test_rules.ensures.tested known region ls s fs t stands placed.at st in
    goes_handed work region u u1 ls c.args.spot fs p.todo given old a c.from_residual-in_err-test_rules.result e step c.from_residual-in_err-test_rules.ensures.1
    (test_fails work region u ls c.args.spot fs s known here n t p old a given stands placed seen u1 rest e tests)

pub returns-in_err-defined : goal.returns-in_err-defined
returns-in_err-defined c = λ known region ls s fs n t p given knows stands placed is st pending notes one.
    let work = c.args.work.now in
    let u = c.args.units.now in
    let u1 = c.test_rules.new.units in
    let rest = c.test_rules.ensures.rest in
    let a = c.note_rules.new.asked in
    let old = c.args.pending.now in
    let here = c.args.here in
    let step : Step = λ go. run_syntax (noting known) go here fs p (n, t) s in
    let seen = note_there work u known ls s fs t p a stands (c.in_ok-note_rules.ensures.notes known ls (state_of s) fs t p.notes (plainly work u ls s stands) placed.at st notes) in
    let w = c.read_macro.new.self in
    let y = c.in_ok-test_rules.ensures.tested known region ls s fs t stands placed.at st in
    let counts = c.in_err-defined.ensures.nodes in
    let t1 = tested_state work region u ls c.args.spot fs s known here n t p old a given stands placed seen u1 rest y w counts in
    let e = c.in_err-defined.field-0.0 in
    let read = read_noted (λ (k : Macro) (rules : Rules Identifier). IsMacro work ls k (record { env = fs; rules = rules })) known here t y.0 work region u1 w ls t1 (Err e) y.1.stands counts
    (c.in_err-defined.ensures.read known region ls (state_of t1) fs t y.0 (plainly work u1 ls t1 y.1.stands) placed.at st y.3) in
    goes_handed work region u w ls c.args.spot fs p.todo given old a c.from_residual-in_err-defined.result e step c.from_residual-in_err-defined.ensures.1
    (read_fails work region u ls c.args.spot fs s known here n t p old a given stands placed seen u1 rest y w counts e read)

pub returns-in_err-define : goal.returns-in_err-define
returns-in_err-define c = λ known region ls s fs n t p given knows stands placed is st pending notes one.
    let work = c.args.work.now in
    let u = c.args.units.now in
    let u1 = c.test_rules.new.units in
    let rest = c.test_rules.ensures.rest in
    let a = c.note_rules.new.asked in
    let old = c.args.pending.now in
    let here = c.args.here in
    let step : Step = λ go. run_syntax (noting known) go here fs p (n, t) s in
    let seen = note_there work u known ls s fs t p a stands (c.in_ok-note_rules.ensures.notes known ls (state_of s) fs t p.notes (plainly work u ls s stands) placed.at st notes) in
    let w = c.read_macro.new.self in
    let y = c.in_ok-test_rules.ensures.tested known region ls s fs t stands placed.at st in
    let counts = c.in_ok-defined.ensures.nodes in
    let t1 = tested_state work region u ls c.args.spot fs s known here n t p old a given stands placed seen u1 rest y w counts in
    let v = c.define.new.units in
    let read = read_noted (λ (k : Macro) (rules : Rules Identifier). IsMacro work ls k (record { env = fs; rules = rules })) known here t y.0 work region u1 w ls t1 (Ok c.in_ok-defined.defined) y.1.stands counts
    (c.in_ok-defined.ensures.read known region ls (state_of t1) fs t y.0 (plainly work u1 ls t1 y.1.stands) placed.at st y.3) in
    let there = placed_after work region u ls c.args.spot fs s known here n t p old a given stands placed seen u1 rest y w counts in
    let q = with_note work region u ls c.args.spot fs s known here n t p old a given stands placed seen in
    let e = c.in_err-define.field-0.0 in
    let ends = c.in_err-define.ensures.defined known ls _ fs n (Some read.0) q read.1.stands there is read.3 seen in
    goes_handed work region u v ls c.args.spot fs p.todo given old a c.from_residual-in_err-define.result e step c.from_residual-in_err-define.ensures.1
    (define_fails work region u ls c.args.spot fs s known here n t p old a given stands placed seen u1 rest y w counts c.in_ok-defined.defined read v e ends)

pub returns-in_err-push : goal.returns-in_err-push
returns-in_err-push c = λ known region ls s fs n t p given knows stands placed is st pending notes one.
    let u = c.args.units.now in
    let step : Step = λ go. run_syntax (noting known) go c.args.here fs p (n, t) s in
    goes_without c.args.work.now region u c.define.new.units ls c.args.spot fs p.todo given (record c.args.pending.now { aside = c.push.new.self }) c.note_rules.new.asked c.from_residual-in_err-push.result step c.from_residual-in_err-push.ensures.1 stands.form.few_nodes

pub returns : goal.returns
returns c = λ known region ls s fs n t p given knows stands placed is st pending notes one.
    let work = c.args.work.now in
    let u = c.args.units.now in
    let u1 = c.test_rules.new.units in
    let rest = c.test_rules.ensures.rest in
    let a = c.note_rules.new.asked in
    let old = c.args.pending.now in
    let here = c.args.here in
    let step : Step = λ go. run_syntax (noting known) go here fs p (n, t) s in
    let seen = note_there work u known ls s fs t p a stands (c.in_ok-note_rules.ensures.notes known ls (state_of s) fs t p.notes (plainly work u ls s stands) placed.at st notes) in
    let w = c.read_macro.new.self in
    let y = c.in_ok-test_rules.ensures.tested known region ls s fs t stands placed.at st in
    let counts = c.in_ok-defined.ensures.nodes in
    let t1 = tested_state work region u ls c.args.spot fs s known here n t p old a given stands placed seen u1 rest y w counts in
    let v = c.define.new.units in
    let new : code_pending.Pending = (record c.args.pending.now { aside = c.push.new.self }) in
    let read = read_noted (λ (k : Macro) (rules : Rules Identifier). IsMacro work ls k (record { env = fs; rules = rules })) known here t y.0 work region u1 w ls t1 (Ok c.in_ok-defined.defined) y.1.stands counts
    (c.in_ok-defined.ensures.read known region ls (state_of t1) fs t y.0 (plainly work u1 ls t1 y.1.stands) placed.at st y.3) in
    let there = placed_after work region u ls c.args.spot fs s known here n t p old a given stands placed seen u1 rest y w counts in
    let q = with_note work region u ls c.args.spot fs s known here n t p old a given stands placed seen in
    let ends = c.in_ok-define.ensures.defined known ls _ fs n (Some read.0) q read.1.stands there is read.3 seen in
    let after = plainly work w ls _ read.1.stands in
    let binder = c.next_binder-binder.ensures known work ls _ fs n after there is in
    let means = c.next_meaning-meaning.ensures.meaning work ls _ fs n.name after there is.0 in
    macro_goes work region u ls c.args.spot fs s known here n t p old a given stands placed seen u1 rest y w counts c.in_ok-defined.defined read v new c.next_binder-binder.result c.next_meaning-meaning.result ends c.in_ok-define.ensures.counts pending binder means (refl, refl) c.in_ok-push.ensures.items one
