-- A core form that is gone through: the keyword is met, the form is read, and its shape is done or its fault ends the pass.
use Rattle.std.proofs.Common.{◌≡◌, ℕ, List, true, false, Option, Result, Ok, Err, sym, ap, ◌∙◌, subst}
use Rattle.scheme_model.specs.Trees.{Tree, list, Trees, tree, Tail}
use Rattle.scheme_model.specs.ExpansionFaults.{Fault}
use Rattle.scheme_model.specs.Ident.{Ident as Identifier}
use Rattle.scheme_model.specs.Keywords.{CoreKeyword}
use Rattle.scheme_model.specs.Quasiquote.{Mark}
use Rattle.scheme_model.specs.Requirements.{Known}
use Rattle.scheme_model.specs.Cores.{Target}
use Rattle.scheme_model.specs.Order.{Here, Form, Pending, Pass, Going, read_then, run_core}
use Rattle.scheme_model.specs.ScopedExpansion.{Frames, FramedIdent, ScopedState}
use Rattle.syntax_tree.specs.declared.trees.Work.{Work}
use Rattle.syntax_tree.specs.declared.trees.table.Region.{Region}
use Rattle.core_forms.specs.Ends.{Refuses}
use Rattle.core_forms.specs.Forms.{Shape, shape_in}
use Rattle.core_forms.specs.declared.fault.CoreFault.{CoreFault}
use Rattle.core_tree.specs.Names.{IsTarget}
use Rattle.core_tree.specs.declared.cores.Target as code_target
use Rattle.unit_scopes.specs.Kept.{NotesFor}
use Rattle.expander.specs.Passed.{GoesOn, pass_step}
use Rattle.form_parts.specs.FormsSeen.{takes_effect}
use Rattle.unit_scopes.specs.Stepped.{with_keyword}
use Rattle.unit_scopes.specs.Told.{core_fault, told, Tells}
use Rattle.unit_scopes.specs.declared.asked.Asked.{Asked}
use Rattle.feature_requirements.specs.declared.fault.ExpandFault.{ExpandFault}
use Rattle.form_parts.specs.declared.items.Pending as code_pending
use Rattle.form_parts.specs.declared.items.Spot.{Spot}
use Rattle.unit_scopes.specs.declared.scope.UnitScope.{UnitScope}
use Rattle.expander.proofs.PassForms.{keyword_stays}
use Rattle.expander.proofs.PassLaws.{spot_same, goes_so, goes_after, goes_misread}
use Rattle.expander.proofs.PassSteps.{core_is}
use Rattle.unit_scopes.proofs.ToldLaws.{misread_is}
use Rattle.expander.proofs.LooseLaws.{form_state}
use Rattle.noted_steps.specs.Asked.{form_asked}
use Rattle.noted_steps.specs.Noting.{Noting, noting}
use Rattle.noted_steps.specs.Standing.{Stands, with_notes}
use Rattle.noted_steps.specs.Outcomes.{Stays}
use Rattle.noted_steps.proofs.OutcomeLaws.{stays_on, noted_stays}
use Rattle.noted_steps.specs.Stepped.{met}
use Rattle.noted_steps.specs.Kept.{SpotFor}

module _ (known : Known) (work : Work) (region : Region) (u met_at w : UnitScope) (ls : List Frames) (spot : Spot) (fs : Frames) (s : Noting) (p : Pending Identifier FramedIdent) (c : CoreKeyword) (x : code_target.Target) (k : Target) (m : Form Identifier) (here : Here)
    (head : Tree Identifier) (ts : Trees Identifier) (tail : Tail Identifier) (o : Here) (given : ℕ) (todo : code_pending.Pending) (asked : Asked) (mark : Identifier → Option Mark) (effect : takes_effect c ≡ true) (is : m.tree ≡ list (tree head ts) tail o)
    (meets : met_at ≡ with_keyword u x) (notes_more : w ≡ with_notes met_at w.form.trace.notes) (target : IsTarget work.symbols s.unit s.form x k) (stands : Stands work u ls s) (now : Stands work w ls (form_asked known fs c ts tail (met k s))) where
  abbrev core : Going Identifier FramedIdent Noting → Pass Identifier FramedIdent × Noting
  core go = run_core (noting known) go here fs c k m ts tail p s

  -- the keyword is met, and the form's questions are asked
  abbrev pub asked_state : Noting
  asked_state = form_asked known fs c ts tail (met k s)

  abbrev read_by : Result Shape (Fault Identifier) → Going Identifier FramedIdent Noting → Pass Identifier FramedIdent × Noting
  read_by r go = read_then (noting known) here p r (λ q. pass_step (noting known) go here fs m p q) asked_state

  read : (go : Going Identifier FramedIdent Noting) → core go ≡ read_by (shape_in c false mark m.tree) go
  read go = core_is known go here fs m p c k ts tail mark s effect ∙ ap (λ (t : Tree Identifier). read_by (shape_in c false mark t) go) (sym is)

  met_stands : Stays work work region u met_at ls (met k s)
  met_stands = subst (λ (y : UnitScope). Stays work work region u y ls (met k s)) (sym meets) (keyword_stays work region u ls s x k target stands)

  pub asked_stays : Stays work work region u w ls asked_state
  asked_stays = stays_on work work work region u met_at w ls (met k s) asked_state met_stands (noted_stays work region met_at w ls (met k s) asked_state met_stands.stands notes_more now)

  pub asked_placed : SpotFor work u ls s spot fs → SpotFor work w ls asked_state spot fs
  asked_placed placed =
      spot_same work u w ls s asked_state spot fs (ap (λ (y : UnitScope). y.env) notes_more ∙ ap (λ (y : UnitScope). y.env) meets) (ap (λ (y : UnitScope). y.root) notes_more ∙ ap (λ (y : UnitScope). y.root) meets)
      (ap (λ (y : ScopedState). y.definitions) (form_state known fs c ts tail (met k s))) placed

  met_so : (v : UnitScope) (result : Result (Unit {0}) ExpandFault) → GoesOn work work region w v ls spot fs p.todo given todo asked result (read_by (shape_in c false mark m.tree)) → GoesOn work work region u v ls spot fs p.todo given todo asked result core
  met_so v result h =
      goes_so region ls spot fs p.todo given todo asked work work u v result core (read_by (shape_in c false mark m.tree)) read
      (goes_after region ls spot fs p.todo given todo asked work work work u w v asked_state result (read_by (shape_in c false mark m.tree)) asked_stays
      (ap (λ (y : UnitScope). y.form.budget.uses) notes_more ∙ ap (λ (y : UnitScope). y.form.budget.uses) meets) (ap (λ (y : UnitScope). y.form.budget.locals) notes_more ∙ ap (λ (y : UnitScope). y.form.budget.locals) meets) h)

  pub core_goes : (q : Shape) (v : UnitScope) (result : Result (Unit {0}) ExpandFault) → shape_in c false mark m.tree ≡ Ok q → GoesOn work work region w v ls spot fs p.todo given todo asked result (λ go. pass_step (noting known) go here fs m p q asked_state) →
      GoesOn work work region u v ls spot fs p.todo given todo asked result (λ go. run_core (noting known) go here fs c k m ts tail p s)
  core_goes q v result shape h = met_so v result (goes_so region ls spot fs p.todo given todo asked work work w v result (read_by (shape_in c false mark m.tree)) (λ go. pass_step (noting known) go here fs m p q asked_state) (λ go. ap (λ (r : Result Shape (Fault Identifier)). read_by r go) shape) h)

  pub core_misread : (f : CoreFault) (e : ExpandFault) → e ≡ told here (core_fault f) → Refuses work f (shape_in c false mark m.tree) → SpotFor work u ls s spot fs → NotesFor work ls asked p.notes →
      GoesOn work work region u w ls spot fs p.todo given todo asked (Err e) (λ go. run_core (noting known) go here fs c k m ts tail p s)
  core_misread f e tells refuses placed notes =
      met_so w (Err e)
      (goes_misread region ls spot fs p.todo given todo asked known work w asked_state here e (shape_in c false mark m.tree) p (λ go q. pass_step (noting known) go here fs m p q) now.form.few_nodes
      now (asked_placed placed) notes
      (subst (λ (y : ExpandFault). Tells work.symbols here y (shape_in c false mark m.tree)) (sym tells) (misread_is work here f (shape_in c false mark m.tree) refuses)))
