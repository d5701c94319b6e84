-- A macro use that is gone through: its comparisons are noted, and the tree that it gives comes next.
use Rattle.std.proofs.Common.{◌≡◌, ℕ, ◌+◌, ◌*◌, ◌-◌, ◌<◌, ◌≤◌, List, [], ◌∷◌, ◌++◌, reverse, Some, Result, Ok, Err, refl, sym, ap, ◌∙◌, subst, arith}
use Rattle.std.proofs.lemmas.List.{reverse-append}
use Rattle.scheme_model.specs.Trees.{Trees, Tail}
use Rattle.scheme_model.specs.Measures.{tree_size}
use Rattle.scheme_model.specs.Ident.{Ident as Identifier}
use Rattle.scheme_model.specs.Requirements.{Known}
use Rattle.scheme_model.specs.Cores.{Target}
use Rattle.scheme_model.specs.Steps.{Broken}
use Rattle.scheme_model.specs.Order.{Here, Form, Note, LookedUp, Compared, Instance, Pending, Pass, Going, Transformer, first, waiting, noted, comparisons, use_of, run_use}
use Rattle.scheme_model.specs.ScopedExpansion.{Frames, FramedIdent}
use Rattle.syntax_tree.specs.Names.{KeepsNames, AreToldApart}
use Rattle.syntax_tree.specs.declared.trees.Work.{Work}
use Rattle.syntax_tree.specs.declared.trees.table.Region.{Region}
use Rattle.core_tree.specs.Names.{AllMatch}
use Rattle.unit_scopes.specs.Kept.{FormFor, KeptFor, WaitsFor, PendingFor, PlaceFor, NoteFor, NotesFor, forms_size}
use Rattle.unit_scopes.specs.Outcomes.{Grows}
use Rattle.unit_scopes.specs.Used.{InstanceFor}
use Rattle.expander.specs.Passed.{GoesOn}
use Rattle.unit_scopes.specs.declared.asked.Asked.{Asked}
use Rattle.unit_scopes.specs.declared.asked.Asking.{Asking}
use Rattle.unit_scopes.specs.declared.asked.Note as code_note
use Rattle.unit_scopes.specs.declared.asked.Note.TheVariants as notes
use Rattle.feature_requirements.specs.declared.fault.ExpandFault.{ExpandFault}
use Rattle.feature_requirements.specs.declared.fault.ExpandFault.TheVariants as fault
use Rattle.form_parts.specs.declared.items.Form as code_form
use Rattle.form_parts.specs.declared.items.Kept as code_kept
use Rattle.form_parts.specs.declared.items.Pending as code_pending
use Rattle.form_parts.specs.declared.items.Spot.{Spot}
use Rattle.form_parts.specs.declared.items.WaitingUse as code_waiting
use Rattle.unit_scopes.specs.declared.uses.Instance as code_instance
use Rattle.unit_scopes.specs.declared.scope.UnitScope.{UnitScope}
use Rattle.unit_scopes.proofs.AskLaws.{asked_grows}
use Rattle.unit_scopes.proofs.CoreStandLaws.{every_on, form_on, kept_on, waits_on}
use Rattle.unit_scopes.proofs.CountingStands.{all_last}
use Rattle.expander.proofs.DefinitionSteps.{caught_fails, caught_goes}
use Rattle.expander.proofs.PassLaws.{spot_on}
use Rattle.expander.proofs.UseSteps.{use_leaves}
use Rattle.noted_steps.specs.Noting.{Noting, noting}
use Rattle.noted_steps.specs.Standing.{Stands}
use Rattle.noted_steps.specs.Outcomes.{Stays, EndsHere}
use Rattle.noted_steps.specs.Kept.{SpotFor}
use Rattle.noted_steps.specs.Used.{compared_first}

-- ---- over a work that has grown

module _ (old new : Work) (ls : List Frames) (keeps : KeepsNames old.symbols new.symbols) (apart : AreToldApart new.symbols.idents) where
  place_on : (a : Asking) (p : FramedIdent) → PlaceFor old ls a p → PlaceFor new ls a p
  place_on a p h = (h.0, keeps.idents a.ident p.ident h.1)

  note_on : (x : code_note.Note) (n : Note FramedIdent) → NoteFor old ls x n → NoteFor new ls x n
  note_on (notes.LookedUp a h k) (LookedUp p head keyword) is = (place_on a p is.0, is.1, is.2)
  note_on (notes.LookedUp a h k) (Compared p q held) is = absurd is
  note_on (notes.Compared l a h) (LookedUp p head keyword) is = absurd is
  note_on (notes.Compared l a h) (Compared p q held) is = (place_on l p is.0, place_on a q is.1, is.2)

  pub notes_on : (asked : Asked) (ns : List (Note FramedIdent)) → NotesFor old ls asked ns → NotesFor new ls asked ns
  notes_on asked ns h = record {
    notes = every_on (NoteFor old ls) (NoteFor new ls) note_on asked.notes.items (reverse ns) h.notes;
    asks = asked_grows old.symbols new.symbols keeps apart asked h.asks;
  }

pub pending_on : (old new : Work) (region : Region) (unit form later_unit later_form : ℕ) (q : code_pending.Pending) (p : Pending Identifier FramedIdent) → Grows old new region → later_unit ≡ unit → later_form ≡ form → PendingFor old region unit form q p →
    PendingFor new region later_unit later_form q p
pending_on old new region unit form later_unit later_form q p g u f h =
    subst (λ (n : ℕ). PendingFor new region n later_form q p) (sym u) (subst (λ (n : ℕ). PendingFor new region unit n q p) (sym f) (record {
      todo = every_on (FormFor old region) (FormFor new region) (form_on old new g.trees g.names unit form region) (reverse q.todo.items) p.todo h.todo;
      aside = every_on (KeptFor old region unit form) (KeptFor new region unit form) (kept_on old new g.trees g.names unit form region) q.aside.items p.aside h.aside;
      uses = every_on (WaitsFor old unit form) (WaitsFor new unit form) (waits_on old new g.trees g.names unit form) q.uses.items p.uses h.uses;
    }))

-- ---- what is left

use_less : (size rest used later given : ℕ) → size ≤ 4194304 → later ≡ used + 1 → later ≤ 10000 → (size + rest) + 4194305 * (10000 - later) < (rest + 4194305 * (10000 - used)) + given
use_less size rest used later given small is most = omega (arith, small, is, most)

use_locals : (locals after size rest used later given : ℕ) → after ≡ locals → size ≤ 4194304 → later ≡ used + 1 → later ≤ 10000 → after + ((size + rest) + 4194305 * (10000 - later)) ≤ locals + (rest + 4194305 * (10000 - used)) + given
use_locals locals after size rest used later given same small is most = let less = use_less size rest used later given small is most in omega (arith, same, less)

-- ---- the use

module _ (known : Known) (old new : Work) (region : Region) (u v : UnitScope) (ls : List Frames) (s : Noting) (spot : Spot) (fs : Frames) (here : Here) (keyword : Target) (m : Transformer Frames Identifier) (form : Form Identifier) (ts : Trees Identifier) (tail : Tail Identifier)
    (p : Pending Identifier FramedIdent) (given : ℕ) (before after : code_pending.Pending) (asked : Asked) (stands : Stands old u ls (compared_first (noting known) fs m ts tail s)) (placed : SpotFor old u ls s spot fs) (pending : PendingFor old region u.unit u.form.number before p)
    (found : NotesFor old ls asked (comparisons (noting known) fs m ts tail s ++ p.notes)) (apart : AreToldApart new.symbols.idents) (scopes : v.env.scopes ≡ u.env.scopes) where
  abbrev noted_all : Pending Identifier FramedIdent
  noted_all = noted (comparisons (noting known) fs m ts tail s) p

  abbrev used : Result (Instance Identifier) Broken × Noting
  used = use_of (noting known) here fs keyword m ts tail s

  abbrev next : Going Identifier FramedIdent Noting → Instance Identifier → Noting → Pass Identifier FramedIdent × Noting
  next go i = go (first (record { here = here; tree = i.tree } ∷ []) (waiting i.met noted_all))

  abbrev Gives : code_instance.Instance → Instance Identifier → Type 0
  Gives = InstanceFor new region v.unit v.form.number

  spot_after : Stays old new region u v ls used.1 → SpotFor new v ls used.1 spot fs
  spot_after h = spot_on old new u v ls (compared_first (noting known) fs m ts tail s) used.1 spot fs h.work.names apart stands scopes h.same.root (use_leaves known here fs keyword m ts tail s).definitions placed

  pub use_goes : (x : code_instance.Instance) → EndsHere Gives old new region u v ls (Ok x) used → v.form.budget.uses ≡ u.form.budget.uses + 1 → v.form.budget.locals ≡ u.form.budget.locals →
      after.todo.items ≡ before.todo.items ++ record { here = here; tree = x.tree } ∷ [] → after.aside.items ≡ before.aside.items → after.uses.items ≡ before.uses.items ++ x.met ∷ [] →
      GoesOn old new region u v ls spot fs p.todo given after asked (Ok tt) (λ go. run_use (noting known) go here fs keyword (Some m) form ts tail p s)
  use_goes x ends counted locals todo aside uses =
      let i = ends.0 in
      let stays = ends.1 in
      let f : code_form.Form = record { here = here; tree = x.tree } in
      let grown = pending_on old new region u.unit u.form.number v.unit v.form.number before p stays.work stays.same.unit stays.same.number pending in
      let small = (use_leaves known here fs keyword m ts tail s).small i ends.2 in
      let few = stays.stands.form.few_uses in (
        first (record { here = here; tree = i.tree } ∷ []) (waiting i.met noted_all),
        used.1,
        record {
          stays = stays;
          placed = spot_after stays;
          pending = record {
            todo = subst (λ (xs : List code_form.Form). AllMatch (FormFor new region) xs (record { here = here; tree = i.tree } ∷ p.todo)) (sym (ap reverse todo ∙ reverse-append before.todo.items (f ∷ []))) ((refl, ends.3.0), grown.todo);
            aside = subst (λ (xs : List code_kept.Kept). AllMatch (KeptFor new region v.unit v.form.number) xs p.aside) (sym aside) grown.aside;
            uses = subst (λ (xs : List code_waiting.WaitingUse). AllMatch (WaitsFor new v.unit v.form.number) xs (p.uses ++ i.met ∷ [])) (sym uses) (all_last (WaitsFor new v.unit v.form.number) before.uses.items p.uses x.met i.met grown.uses ends.3.1);
          };
          notes = notes_on old new ls stays.work.names apart asked (comparisons (noting known) fs m ts tail s ++ p.notes) found;
          less = use_less (tree_size i.tree) (forms_size p.todo) u.form.budget.uses v.form.budget.uses given small counted few;
          locals = use_locals u.form.budget.locals v.form.budget.locals (tree_size i.tree) (forms_size p.todo) u.form.budget.uses v.form.budget.uses given locals small counted few;
        },
        λ go. caught_goes noted_all.notes used i ends.2 (next go),
      )

  pub use_fails : (e : ExpandFault) → EndsHere Gives old new region u v ls (Err e) used → GoesOn old new region u v ls spot fs p.todo given after asked (Err e) (λ go. run_use (noting known) go here fs keyword (Some m) form ts tail p s)
  use_fails (fault.At e) ends = (
    noted_all.notes,
    ends.1.0,
    used.1,
    record {
      stays = ends.0;
      placed = spot_after ends.0;
      notes = notes_on old new ls ends.0.work.names apart asked (comparisons (noting known) fs m ts tail s ++ p.notes) found;
    },
    ends.1.2,
    λ go. caught_fails noted_all.notes used ends.1.0 ends.1.1 (next go),
  )
  use_fails fault.Full ends = ends
  use_fails fault.Memory ends = ends
