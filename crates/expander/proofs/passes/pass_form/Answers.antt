use Rattle.std.proofs.Common.{◌≡◌, [], ◌∷◌, true, Some, Ok, refl, sym, ap, ◌∙◌, subst}
use Rattle.std.proofs.lemmas.Option.{slice_get_within}
use Rattle.scheme_model.specs.Trees.{name}
use Rattle.scheme_model.specs.Measures.{tree_size}
use Rattle.scheme_model.specs.ExpansionFaults.{Named}
use Rattle.scheme_model.specs.Ident.{Ident as Identifier}
use Rattle.scheme_model.specs.Meaning.{Head, is_keyword, head_as}
use Rattle.scheme_model.specs.Cores.{Target}
use Rattle.scheme_model.specs.Order.{Going, Pass, LookedUp, Note, Headed, here_at, is_some, target_of, noted, run_core, run_form, run_use}
use Rattle.scheme_model.specs.ScopedExpansion.{Frames, FramedIdent, macro_at}
use Rattle.feature_requirements.specs.Judged.{Knows}
use Rattle.unit_scopes.specs.Kept.{PendingFor}
use Rattle.unit_scopes.specs.declared.scope.UnitScope.{UnitScope}
use Rattle.expander.specs.Ready.{rules_asked}
use Rattle.expander.proofs.DefinitionSteps.{goes_without}
use Rattle.expander.proofs.FitLaws.{some_node}
use Rattle.expander.proofs.PassForms.{core_head, auxiliary_head, no_keyword, by_core, by_auxiliary, by_none, by_macro, noted_pending, can_pass_noted, can_pass_on, sets_aside, can_look, use_for, can_use}
use Rattle.expander.proofs.PassLaws.{goes_so, goes_after, spot_same}
use Rattle.expander.proofs.PassSteps.{no_head}
use Rattle.expander.proofs.ReadLaws.{head_named, head_is_macro, target_at}
use Rattle.expander.proofs.passes.pass_form.Goals as goal
use Rattle.noted_steps.specs.Noting.{means_here, Noting, state_of, noting}
use Rattle.noted_steps.proofs.NoteLaws.{plainly, plain_look, plain_noted}
use Rattle.noted_steps.proofs.OutcomeLaws.{noted_stays}

abbrev Step : Type 0
Step = Going Identifier FramedIdent Noting → Pass Identifier FramedIdent × Noting

abbrev head_in : Noting → Frames → Identifier → Head
head_in s fs i = head_as (λ x. is_some (macro_at s.macros x)) (means_here s fs i)

abbrev note_in : Noting → Frames → Identifier → Note FramedIdent
note_in s fs i = LookedUp (record { frames = fs; ident = i }) true (is_keyword (head_in s fs i))

pub target-keyword-requires : goal.target-keyword-requires
target-keyword-requires c =
    let work = c.args.work.now in
    let f = c.requires.form.0 in
    let can = c.requires.can f.0 f.1 in
    let n = head_named work f.0 c.in-Some.name (c.in-Some.ensures f.0 f.1) in
    record {
      look = plain_look work c.args.units.now c.args.spot.scope (can_look work c.args.region.now c.args.units.now c.args.spot (tree_size f.0) c.args.pending.now c.args.asked.now can);
      ident = slice_get_within work.symbols.idents c.in-Some.name.ident n.ident n.named.0;
    }

pub head_by-head-requires : goal.head_by-head-requires
head_by-head-requires c =
    let work = c.args.work.now in
    let f = c.requires.form.0 in
    let can = c.requires.can f.0 f.1 in
    let n = head_named work f.0 c.in-Some.name (c.in-Some.ensures f.0 f.1) in
    let e = plainly work c.args.units.now can.layout can.state can.stands in
    (can.layout, (state_of can.state, e, (means_here can.state can.frames n.ident, (c.target-keyword.ensures can.layout (state_of can.state) can.frames (record { name = n.ident; occ = n.place }) e can.placed.at n.named).meaning)))

pub note-requires : goal.note-requires
note-requires c =
    let work = c.args.work.now in
    let f = c.requires.form.0 in
    let can = c.requires.can f.0 f.1 in
    let n = head_named work f.0 c.in-Some.name (c.in-Some.ensures f.0 f.1) in
    let e = plainly work c.args.units.now can.layout can.state can.stands in
    slice_get_within work.symbols.idents c.target-keyword.result.ident n.ident (c.target-keyword.ensures can.layout (state_of can.state) can.frames (record { name = n.ident; occ = n.place }) e can.placed.at n.named).ident

pub note_head-requires : goal.note_head-requires
note_head-requires c =
    let f = c.requires.form.0 in
    let n = head_named c.args.work.now f.0 c.in-Some.name (c.in-Some.ensures f.0 f.1) in
    (record { name = n.ident; occ = n.place }, n.named)

pub pass_core-requires : goal.pass_core-requires
unfolding can_pass_on
pass_core-requires c =
    let work = c.args.work.now in
    let u = c.args.units.now in
    let u1 = c.note.new.units in
    let region = c.args.region.now in
    let f = c.requires.form.0 in
    let can = c.requires.can f.0 f.1 in
    let n = head_named work f.0 c.in-Some.name (c.in-Some.ensures f.0 f.1) in
    let named : Named Identifier = record { name = n.ident; occ = n.place } in
    let e = plainly work u can.layout can.state can.stands in
    let target = c.target-keyword.ensures can.layout (state_of can.state) can.frames named e can.placed.at n.named in
    let k = core_head c.in-Core.core (head_in can.state can.frames n.ident) (c.in-Core.ensures can.layout (state_of can.state) (means_here can.state can.frames n.ident) e target.meaning) in
    let t : Target = record { meaning = means_here can.state can.frames n.ident; ident = n.ident; occ = n.place } in
    let e1 = plain_noted work u u1 can.layout (state_of can.state) c.note.ensures.rest e in
    record {
      core = (k.0, k.2);
      keyword = (t, target_at work.symbols u1.unit u1.form.number can.state.unit can.state.form c.target-keyword.result t e1.unit e1.form.number target);
      form = f;
      can = (
        region,
        λ m stand.
            let again = c.requires.can m stand in
            let now = can_pass_on work region u u1 c.args.spot (tree_size m) c.args.pending.now c.args.asked.now c.note.ensures.rest again in
            let x = head_named work m c.in-Some.name (c.in-Some.ensures m stand) in
            let named : Named Identifier = record { name = x.ident; occ = x.place } in
            let e = plainly work u again.layout again.state again.stands in
            can_pass_noted work region u1 c.args.spot (tree_size m) c.args.pending.now c.args.asked.now c.note_head.new.asked now (note_in again.state again.frames x.ident)
            (c.in_ok-note_head.ensures again.layout (state_of again.state) again.frames named (head_in again.state again.frames x.ident) again.left.notes (plainly work u1 now.layout now.state now.stands) now.placed x.named
            (c.head_by-head.ensures again.layout (state_of again.state) (means_here again.state again.frames x.ident) e (c.target-keyword.ensures again.layout (state_of again.state) again.frames named e again.placed.at x.named).meaning) again.notes),
      );
    }

pub pass_use-requires : goal.pass_use-requires
unfolding can_pass_on
pass_use-requires c =
    let work = c.args.work.now in
    let u = c.args.units.now in
    let u1 = c.note.new.units in
    let region = c.args.region.now in
    let f = c.requires.form.0 in
    let can = c.requires.can f.0 f.1 in
    let n = head_named work f.0 c.in-Some.name (c.in-Some.ensures f.0 f.1) in
    let named : Named Identifier = record { name = n.ident; occ = n.place } in
    let e = plainly work u can.layout can.state can.stands in
    let target = c.target-keyword.ensures can.layout (state_of can.state) can.frames named e can.placed.at n.named in
    let m = head_is_macro (λ l. true) (state_of can.state) can.frames n.ident (c.in-Macro.ensures can.layout (state_of can.state) (means_here can.state can.frames n.ident) e target.meaning) in
    let now = can_pass_on work region u u1 c.args.spot (tree_size f.0) c.args.pending.now c.args.asked.now c.note.ensures.rest can in
    record {
      opened = c.requires.opened;
      usable = can_use work region u1 c.args.spot (tree_size f.0) c.args.pending.now c.args.asked.now now (record { scope = c.args.spot.scope; here = c.here_at-here.result; keyword = c.target-keyword.result; form = c.args.form.tree })
          (target_of (noting (λ l. true)) can.frames can.state n.ident n.place) m.0 n.parts n.tail refl
          (use_for (λ l. true) work can.state can.frames c.args.spot.scope c.here_at-here.result c.args.form.tree f.0 c.in-Some.name c.target-keyword.result n m.0 target m.2 f.1);
      named = c.requires.form.1;
    }

pub returns-in_default : goal.returns-in_default
returns-in_default c = λ known ls s fs m p knows stands placed on pending notes.
    let work = c.args.work.now in
    let region = c.args.region.now in
    sets_aside work region c.args.units.now ls c.args.spot fs s p [] c.args.pending.now (record c.args.pending.now { aside = c.push.new.self }) c.args.asked.now m c.args.form (λ go. run_form (noting known) go fs (here_at (λ i. i) m.tree m.here) m m.tree p s)
    (λ go. no_head known go (here_at (λ i. i) m.tree m.here) fs m p work m.tree s (c.in_default.ensures m.tree on.1.0)) stands placed on pending notes (refl, refl) c.in_ok-push.ensures.items

pub returns-in_err-note_head : goal.returns-in_err-note_head
returns-in_err-note_head c = λ known ls s fs m p knows stands placed on pending notes.
    let step : Step = λ go. run_form (noting known) go fs (here_at (λ i. i) m.tree m.here) m m.tree p s in
    goes_without c.args.work.now c.args.region.now c.args.units.now c.note.new.units ls c.args.spot fs p.todo (tree_size m.tree) c.args.pending.now c.note_head.new.asked c.from_residual-in_err-note_head.result step c.from_residual-in_err-note_head.ensures.1 stands.form.few_nodes

pub returns-in-Core : goal.returns-in-Core
returns-in-Core c = λ known ls s fs m p knows stands placed on pending notes.
    let work = c.args.work.now in
    let u = c.args.units.now in
    let u1 = c.note.new.units in
    let rest = c.note.ensures.rest in
    let region = c.args.region.now in
    let spot = c.args.spot in
    let n = head_named work m.tree c.in-Some.name (c.in-Some.ensures m.tree on.1.0) in
    let named : Named Identifier = record { name = n.ident; occ = n.place } in
    let e = plainly work u ls s stands in
    let target = c.target-keyword.ensures ls (state_of s) fs named e placed.at n.named in
    let k = core_head c.in-Core.core (head_in s fs n.ident) (c.in-Core.ensures ls (state_of s) (means_here s fs n.ident) e target.meaning) in
    let here = c.here_at-here.result in
    let is_here : here ≡ here_at (λ i. i) m.tree m.here = c.here_at-here.ensures m.tree on.1.0 ∙ ap (here_at (λ i. i) m.tree) on.0 in
    let q = noted (note_in s fs n.ident ∷ []) p in
    let t = target_of (noting known) fs s n.ident n.place in
    let asked = (noting known).ask (Headed fs n.ident ∷ []) s in
    let now = c.note.ensures.noted known ls s fs named stands target in
    let there = spot_same work u u1 ls s asked spot fs (ap (λ (x : UnitScope). x.env) rest) (ap (λ (x : UnitScope). x.root) rest) refl placed in
    let found = c.in_ok-note_head.ensures ls (state_of s) fs named (head_in s fs n.ident) p.notes (plain_noted work u u1 ls (state_of s) rest e) there n.named (c.head_by-head.ensures ls (state_of s) (means_here s fs n.ident) e target.meaning) notes in
    let step : Step = λ go. run_core (noting known) go here fs k.0 t m n.parts n.tail q asked in
    goes_so region ls spot fs p.todo (tree_size m.tree) c.pass_core.new.pending c.pass_core.new.asked work work u c.pass_core.new.units c.pass_core.result
    (λ go. run_form (noting known) go fs (here_at (λ i. i) m.tree m.here) m m.tree p s) step (by_core known work fs s m p c.in-Some.name here is_here n k.0 k.1)
    (goes_after region ls spot fs p.todo (tree_size m.tree) c.pass_core.new.pending c.pass_core.new.asked work work work u u1 c.pass_core.new.units asked c.pass_core.result step (noted_stays work region u u1 ls s asked stands rest now)
    (ap (λ (x : UnitScope). x.form.budget.uses) rest) (ap (λ (x : UnitScope). x.form.budget.locals) rest)
    (c.pass_core.ensures known region ls asked fs k.0 t m (name n.ident n.place) n.parts n.tail n.around q (subst (λ (x : UnitScope). Knows x.libraries known) (sym rest) knows) now there k.2 target on n.is
    (noted_pending work region u1.unit u1.form.number c.args.pending.now p (note_in s fs n.ident ∷ []) (subst (λ (x : UnitScope). PendingFor work region x.unit x.form.number c.args.pending.now p) (sym rest) pending)) found))

pub returns-in-Macro : goal.returns-in-Macro
returns-in-Macro c = λ known ls s fs m p knows stands placed on pending notes.
    let work = c.args.work.now in
    let u = c.args.units.now in
    let u1 = c.note.new.units in
    let rest = c.note.ensures.rest in
    let region = c.args.region.now in
    let spot = c.args.spot in
    let n = head_named work m.tree c.in-Some.name (c.in-Some.ensures m.tree on.1.0) in
    let named : Named Identifier = record { name = n.ident; occ = n.place } in
    let e = plainly work u ls s stands in
    let target = c.target-keyword.ensures ls (state_of s) fs named e placed.at n.named in
    let k = head_is_macro known (state_of s) fs n.ident (c.in-Macro.ensures ls (state_of s) (means_here s fs n.ident) e target.meaning) in
    let here = c.here_at-here.result in
    let is_here : here ≡ here_at (λ i. i) m.tree m.here = c.here_at-here.ensures m.tree on.1.0 ∙ ap (here_at (λ i. i) m.tree) on.0 in
    let q = noted (note_in s fs n.ident ∷ []) p in
    let t = target_of (noting known) fs s n.ident n.place in
    let asked = (noting known).ask (Headed fs n.ident ∷ []) s in
    let now = c.note.ensures.noted known ls s fs named stands target in
    let there = spot_same work u u1 ls s asked spot fs (ap (λ (x : UnitScope). x.env) rest) (ap (λ (x : UnitScope). x.root) rest) refl placed in
    let found = c.in_ok-note_head.ensures ls (state_of s) fs named (head_in s fs n.ident) p.notes (plain_noted work u u1 ls (state_of s) rest e) there n.named (c.head_by-head.ensures ls (state_of s) (means_here s fs n.ident) e target.meaning) notes in
    let step : Step = λ go. run_use (noting known) go here fs t (Some k.0) m n.parts n.tail q (rules_asked known t asked) in
    goes_so region ls spot fs p.todo (tree_size m.tree) c.pass_use.new.pending c.pass_use.new.asked work c.pass_use.new.work u c.pass_use.new.units c.pass_use.result
    (λ go. run_form (noting known) go fs (here_at (λ i. i) m.tree m.here) m m.tree p s) step (by_macro known work fs s m p c.in-Some.name here is_here n (means_here s fs n.ident) k.0 k.1 k.2)
    (goes_after region ls spot fs p.todo (tree_size m.tree) c.pass_use.new.pending c.pass_use.new.asked work work c.pass_use.new.work u u1 c.pass_use.new.units asked c.pass_use.result step (noted_stays work region u u1 ls s asked stands rest now)
    (ap (λ (x : UnitScope). x.form.budget.uses) rest) (ap (λ (x : UnitScope). x.form.budget.locals) rest)
    (c.pass_use.ensures known ls asked spot fs t k.0 m n.parts n.tail q (tree_size m.tree) (subst (λ (x : UnitScope). Knows x.libraries known) (sym rest) knows) now there there.at
    (use_for known work s fs spot.scope here c.args.form.tree m.tree c.in-Some.name c.target-keyword.result n k.0 target k.2 on.1.0)
    (noted_pending work region u1.unit u1.form.number c.args.pending.now p (note_in s fs n.ident ∷ []) (subst (λ (x : UnitScope). PendingFor work region x.unit x.form.number c.args.pending.now p) (sym rest) pending)) found (some_node m.tree)))

pub returns-in_ok-push-in-Auxiliary : goal.returns-in_ok-push-in-Auxiliary
returns-in_ok-push-in-Auxiliary c = λ known ls s fs m p knows stands placed on pending notes.
    let work = c.args.work.now in
    let u = c.args.units.now in
    let u1 = c.note.new.units in
    let rest = c.note.ensures.rest in
    let region = c.args.region.now in
    let spot = c.args.spot in
    let n = head_named work m.tree c.in-Some.name (c.in-Some.ensures m.tree on.1.0) in
    let named : Named Identifier = record { name = n.ident; occ = n.place } in
    let here = c.here_at-here.result in
    let is_here : here ≡ here_at (λ i. i) m.tree m.here = c.here_at-here.ensures m.tree on.1.0 ∙ ap (here_at (λ i. i) m.tree) on.0 in
    let e = plainly work u ls s stands in
    let target = c.target-keyword.ensures ls (state_of s) fs named e placed.at n.named in
    let is = c.head_by-head.ensures ls (state_of s) (means_here s fs n.ident) e target.meaning in
    let asked = (noting known).ask (Headed fs n.ident ∷ []) s in
    let now = c.note.ensures.noted known ls s fs named stands target in
    let there = spot_same work u u1 ls s asked spot fs (ap (λ (x : UnitScope). x.env) rest) (ap (λ (x : UnitScope). x.root) rest) refl placed in
    let found = c.in_ok-note_head.ensures ls (state_of s) fs named (head_in s fs n.ident) p.notes (plain_noted work u u1 ls (state_of s) rest e) there n.named is notes in
    let a = auxiliary_head c.in-Auxiliary.field-0 (head_in s fs n.ident) (c.in-Auxiliary.ensures ls (state_of s) (means_here s fs n.ident) e target.meaning) in
    let step : Step = λ go. run_form (noting known) go fs (here_at (λ i. i) m.tree m.here) m m.tree p s in
    let todo = record c.args.pending.now { aside = c.push-in-Auxiliary.new.self } in
    goes_after region ls spot fs p.todo (tree_size m.tree) todo c.note_head.new.asked work work work u u1 u1 asked (Ok tt) step (noted_stays work region u u1 ls s asked stands rest now)
    (ap (λ (x : UnitScope). x.form.budget.uses) rest) (ap (λ (x : UnitScope). x.form.budget.locals) rest)
    (sets_aside work region u1 ls spot fs asked p (note_in s fs n.ident ∷ []) c.args.pending.now todo c.note_head.new.asked m c.args.form step (by_auxiliary known work fs s m p c.in-Some.name here is_here n a.0 a.1) now there on
    (subst (λ (x : UnitScope). PendingFor work region x.unit x.form.number c.args.pending.now p) (sym rest) pending) found (refl, refl) c.in_ok-push-in-Auxiliary.ensures.items)

pub returns-in_ok-push-in-Other : goal.returns-in_ok-push-in-Other
returns-in_ok-push-in-Other c = λ known ls s fs m p knows stands placed on pending notes.
    let work = c.args.work.now in
    let u = c.args.units.now in
    let u1 = c.note.new.units in
    let rest = c.note.ensures.rest in
    let region = c.args.region.now in
    let spot = c.args.spot in
    let n = head_named work m.tree c.in-Some.name (c.in-Some.ensures m.tree on.1.0) in
    let named : Named Identifier = record { name = n.ident; occ = n.place } in
    let here = c.here_at-here.result in
    let is_here : here ≡ here_at (λ i. i) m.tree m.here = c.here_at-here.ensures m.tree on.1.0 ∙ ap (here_at (λ i. i) m.tree) on.0 in
    let e = plainly work u ls s stands in
    let target = c.target-keyword.ensures ls (state_of s) fs named e placed.at n.named in
    let is = c.head_by-head.ensures ls (state_of s) (means_here s fs n.ident) e target.meaning in
    let asked = (noting known).ask (Headed fs n.ident ∷ []) s in
    let now = c.note.ensures.noted known ls s fs named stands target in
    let there = spot_same work u u1 ls s asked spot fs (ap (λ (x : UnitScope). x.env) rest) (ap (λ (x : UnitScope). x.root) rest) refl placed in
    let found = c.in_ok-note_head.ensures ls (state_of s) fs named (head_in s fs n.ident) p.notes (plain_noted work u u1 ls (state_of s) rest e) there n.named is notes in
    let a = no_keyword (head_in s fs n.ident) (c.in-Other.ensures ls (state_of s) (means_here s fs n.ident) e target.meaning) in
    let step : Step = λ go. run_form (noting known) go fs (here_at (λ i. i) m.tree m.here) m m.tree p s in
    let todo = record c.args.pending.now { aside = c.push-in-Other.new.self } in
    goes_after region ls spot fs p.todo (tree_size m.tree) todo c.note_head.new.asked work work work u u1 u1 asked (Ok tt) step (noted_stays work region u u1 ls s asked stands rest now)
    (ap (λ (x : UnitScope). x.form.budget.uses) rest) (ap (λ (x : UnitScope). x.form.budget.locals) rest)
    (sets_aside work region u1 ls spot fs asked p (note_in s fs n.ident ∷ []) c.args.pending.now todo c.note_head.new.asked m c.args.form step (by_none known work fs s m p c.in-Some.name here is_here n a) now there on
    (subst (λ (x : UnitScope). PendingFor work region x.unit x.form.number c.args.pending.now p) (sym rest) pending) found (refl, refl) c.in_ok-push-in-Other.ensures.items)
