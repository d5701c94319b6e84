-- What is counted and what is met: the state stands with it, and so do its notes.
use Rattle.std.proofs.Common.{◌≡◌, ℕ, ◌+◌, ◌≤◌, List, true, refl, sym, ap, ◌∙◌, subst}
use Rattle.scheme_model.specs.Order.{is_some}
use Rattle.scheme_model.specs.Substitution.{defined_in}
use Rattle.syntax_tree.specs.Names.{KeepsNames}
use Rattle.question_laws.specs.Noted.{is_defined_in}
use Rattle.scheme_model.specs.Cores.{Target, MacroUse}
use Rattle.scheme_model.specs.Order.{max_nodes}
use Rattle.scheme_model.specs.ScopedExpansion.{Frames, ScopedState}
use Rattle.syntax_tree.specs.declared.trees.Work.{Work}
use Rattle.core_tree.specs.Names.{IsTarget, IsUse}
use Rattle.core_tree.specs.declared.cores.Target as code_target
use Rattle.core_tree.specs.declared.traces.MacroUse as code_use
use Rattle.form_notes.specs.Standing.{NotingStands}
use Rattle.form_notes.specs.declared.noting.Noting as code_noting
use Rattle.unit_scopes.specs.Binds.{with_locals}
use Rattle.unit_scopes.specs.Counts.{with_nodes}
use Rattle.unit_scopes.specs.State.{most_locals}
use Rattle.unit_scopes.specs.State as plain
use Rattle.unit_scopes.specs.Stepped.{with_keyword, with_met}
use Rattle.unit_scopes.specs.declared.scope.UnitScope.{UnitScope}
use Rattle.unit_scopes.proofs.CountingStands as counting
use Rattle.unit_scopes.proofs.OutcomeLaws.{names_itself}
use Rattle.noted_steps.specs.Noting.{Noting, state_of, with_state}
use Rattle.noted_steps.specs.Standing.{Stands, StartsAt}
use Rattle.noted_steps.specs.Stepped.{spent, taken, met, met_use}
use Rattle.noted_steps.proofs.NoteLaws.{plainly}
use Rattle.noted_steps.proofs.EditionLaws.{editions_on}

-- what a step leaves: the notes and the macros of the code; in the state the macros, and the definitions of units
pub record Beside (u v : UnitScope) (s : Noting) (t : ScopedState) : Type 0 where
  pub notes : v.form.trace.notes ≡ u.form.trace.notes
  pub macros : v.macros ≡ u.macros
  pub table : t.table ≡ s.table
  pub rules : t.macros ≡ s.macros

-- where the state stands after such a step, so do its notes
pub noting_after : (old new : Work) (u v : UnitScope) (ls ms : List Frames) (n : Noting) (t : ScopedState) → KeepsNames old.symbols new.symbols → Stands old u ls n → plain.Stands new v ms t → (n.exact ≡ true → NotingStands new.symbols u.form.trace.notes n.since n.noted) → Beside u v n t →
    t.unit ≡ n.unit → t.form ≡ n.form → Stands new v ms (with_state n t)
noting_after old new u v ls ms n t keeps e p notes b unit form = record {
  unit = p.unit;
  program = p.program;
  env = p.env;
  macros = p.macros;
  root = p.root;
  own = p.own;
  begun = p.begun;
  form = p.form;
  defined = p.defined;
  known = p.known;
  count = p.count;
  made = λ i has.
      let was = e.made i (ap (λ (x : ℕ). is_defined_in n.since.own x i) (sym unit) ∙ has) in
      let table = b.table in
      (λ j. is_some (defined_in (table j) (unit j) i)) ∙ was;
  since_unit = e.since_unit ∙ sym unit;
  since_form = e.since_form ∙ sym form;
  editions = editions_on old new keeps u v ls ms n t e p b.macros b.rules unit;
  notes = λ exact. subst (λ (x : code_noting.Noting). NotingStands new.symbols x n.since n.noted) (sym b.notes) (notes exact);
  start = λ exact. subst (λ (x : code_noting.Noting). StartsAt x n.before n.anew) (sym b.notes) (e.start exact);
}

-- in the same work
pub stands_after : (work : Work) (u v : UnitScope) (ls ms : List Frames) (s : Noting) (t : ScopedState) → Stands work u ls s → plain.Stands work v ms t → Beside u v s t → t.unit ≡ s.unit → t.form ≡ s.form → Stands work v ms (with_state s t)
stands_after work u v ls ms s t e p b unit form = noting_after work work u v ls ms s t (names_itself work.symbols) e p e.notes b unit form

module _ (work : Work) (u : UnitScope) (ls : List Frames) (s : Noting) (e : Stands work u ls s) where
  after : (v : UnitScope) (t : ScopedState) → plain.Stands work v ls t → Beside u v s t → t.unit ≡ s.unit → t.form ≡ s.form → Stands work v ls (with_state s t)
  after v t p b unit form = stands_after work u v ls ls s t e p b unit form

  counted_nodes : (n : ℕ) → u.form.budget.nodes + n ≤ max_nodes → Stands work (with_nodes u n) ls (spent n s)
  counted_nodes n within = after (with_nodes u n) (state_of (spent n s)) (counting.nodes_stand work u ls (state_of s) n within (plainly work u ls s e)) (record { notes = refl; macros = refl; table = refl; rules = refl }) refl refl

  counted_locals : (n : ℕ) → u.form.budget.locals + n ≤ most_locals u.form.budget.nodes → Stands work (with_locals u (u.form.budget.locals + n)) ls (taken n s)
  counted_locals n within = after (with_locals u (u.form.budget.locals + n)) (state_of (taken n s)) (counting.locals_stand work u ls (state_of s) n within (plainly work u ls s e)) (record { notes = refl; macros = refl; table = refl; rules = refl }) refl refl

  met_keyword : (x : code_target.Target) (t : Target) → IsTarget work.symbols s.unit s.form x t → Stands work (with_keyword u x) ls (met t s)
  met_keyword x t for = after (with_keyword u x) (state_of (met t s)) (counting.keyword_stands work u ls (state_of s) x t for (plainly work u ls s e)) (record { notes = refl; macros = refl; table = refl; rules = refl }) refl refl

  met_uses : (x : code_use.MacroUse) (t : MacroUse) → IsUse work.symbols s.unit s.form x t → Stands work (with_met u x) ls (met_use t s)
  met_uses x t for = after (with_met u x) (state_of (met_use t s)) (counting.use_stands work u ls (state_of s) x t for (plainly work u ls s e)) (record { notes = refl; macros = refl; table = refl; rules = refl }) refl refl

pub nodes_stand : (work : Work) (u : UnitScope) (ls : List Frames) (s : Noting) (n : ℕ) → u.form.budget.nodes + n ≤ max_nodes → Stands work u ls s → Stands work (with_nodes u n) ls (spent n s)
nodes_stand work u ls s n within e = counted_nodes work u ls s e n within

pub locals_stand : (work : Work) (u : UnitScope) (ls : List Frames) (s : Noting) (n : ℕ) → u.form.budget.locals + n ≤ most_locals u.form.budget.nodes → Stands work u ls s → Stands work (with_locals u (u.form.budget.locals + n)) ls (taken n s)
locals_stand work u ls s n within e = counted_locals work u ls s e n within

pub keyword_stands : (work : Work) (u : UnitScope) (ls : List Frames) (s : Noting) (x : code_target.Target) (t : Target) → IsTarget work.symbols s.unit s.form x t → Stands work u ls s → Stands work (with_keyword u x) ls (met t s)
keyword_stands work u ls s x t for e = met_keyword work u ls s e x t for

pub use_stands : (work : Work) (u : UnitScope) (ls : List Frames) (s : Noting) (x : code_use.MacroUse) (t : MacroUse) → IsUse work.symbols s.unit s.form x t → Stands work u ls s → Stands work (with_met u x) ls (met_use t s)
use_stands work u ls s x t for e = met_uses work u ls s e x t for
