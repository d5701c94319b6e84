-- A part of a form that notes what it asks: what it comes to is what it comes to without notes, and where it ends its notes stand.
use Rattle.std.proofs.Common.{◌≡◌, ℕ, List, [], ◌∷◌, length, reverse, true, false, None, Result, Ok, Err, refl, sym, ap, ◌∙◌, subst}
use Rattle.std.specs.Result.{IsErrAnd}
use Rattle.std.proofs.lemmas.List.{length-reverse}
use Rattle.scheme_model.specs.Ident.{Ident as Identifier}
use Rattle.scheme_model.specs.Requirements.{Known}
use Rattle.scheme_model.specs.Steps.{Broken}
use Rattle.scheme_model.specs.Order.{Note, Pass, WaitingUse, meet_all, meet_waiting}
use Rattle.scheme_model.specs.ScopedExpansion.{Frames, FramedIdent, ScopedState}
use Rattle.syntax_tree.specs.declared.trees.Work.{Work}
use Rattle.syntax_tree.specs.declared.trees.table.Region.{Region}
use Rattle.core_tree.specs.declared.traces.Trace.{Trace}
use Rattle.core_tree.proofs.Matched.{as_many}
use Rattle.feature_requirements.specs.declared.fault.ExpandFault.{ExpandFault}
use Rattle.feature_requirements.specs.declared.fault.ExpandFault.TheVariants as fault
use Rattle.form_notes.specs.Noted.{Noted, beginning}
use Rattle.form_notes.specs.Standing.{HaveNotes, InOrder}
use Rattle.form_parts.specs.declared.items.Left as code_left
use Rattle.unit_scopes.specs.Kept.{NoteFor, NotesFor}
use Rattle.unit_scopes.specs.Outcomes as plain
use Rattle.unit_scopes.specs.Outcomes.{Leaves, MayFill}
use Rattle.unit_scopes.specs.Searched.{searched}
use Rattle.unit_scopes.specs.Units.{Sets, form_at}
use Rattle.unit_scopes.specs.declared.asked.Asked.{Asked}
use Rattle.unit_scopes.specs.declared.scope.Budget.{Budget}
use Rattle.unit_scopes.specs.declared.scope.FormAtWork.{FormAtWork}
use Rattle.unit_scopes.specs.declared.scope.UnitScope.{UnitScope}
use Rattle.unit_scopes.proofs.OutcomeLaws.{numbers_from}
use Rattle.noted_steps.specs.Noting.{Noting, state_of, going, noting}
use Rattle.noted_steps.specs.Outcomes.{Ends}
use Rattle.noted_steps.specs.Standing.{Stands, with_notes}
use Rattle.noted_steps.proofs.Lifts.{plain_stays}
use Rattle.noted_steps.proofs.UsesMet.{MeetsAlone, left_behind}
use Rattle.expander.specs.UnitNotes.{CanNote, Editions, HasNoted, OnEnded, SetsNoting}

-- a part of which the notes aren't told
abbrev pub plain_part : (uses : ℕ) → ScopedState → Noting
plain_part uses s = going false 0 (beginning s.unit s.form uses (λ n. None)) [] s

-- ---- what is left, from where the part began

module _ (old new : Work) (region : Region) (u u1 v : UnitScope) (same : u1 ≡ with_notes u u1.form.trace.notes) where
  pub stays_from : (ls : List Frames) (t : ScopedState) → plain.Stays old new region u1 v ls t → plain.Stays old new region u v ls t
  stays_from ls t h =
      let g = subst (λ (x : UnitScope). plain.Stays old new region x v ls t) same h in
      record {
        stands = g.stands;
        work = g.work;
        counted = g.counted;
        same = record { unit = g.same.unit; number = g.same.number; root = g.same.root; libraries = g.same.libraries; roots = g.same.roots; uses = g.same.uses; nodes = g.same.nodes; numbers = numbers_from u (with_notes u u1.form.trace.notes) v refl refl refl g.same.numbers };
      }

  pub leaves_from : Leaves old new region u1 → Leaves old new region u
  leaves_from h = let g = subst (Leaves old new region) same h in record { work = g.work; few = g.few }

  pub sets_from : (ls : List Frames) (r : Result code_left.Left ExpandFault) (p : Pass Identifier FramedIdent × Noting) → SetsNoting old new region u1 v ls r p → Sets old new region u v ls r (p.0, state_of p.1)
  sets_from ls (Ok x) p h = (h.0, h.1, stays_from ls (state_of p.1) (plain_stays old new region u1 v ls p.1 h.2), h.3, h.4)
  sets_from ls (Err (fault.At e)) p h = (h.0, h.1, stays_from ls (state_of p.1) (plain_stays old new region u1 v ls p.1 h.2), h.3, h.4)
  sets_from ls (Err fault.Full) p h = (leaves_from h.0, subst (MayFill old) same h.1)
  sets_from ls (Err fault.Memory) p h = leaves_from h

  -- where the notes were lost
  pub sets_gone : (ls : List Frames) (r : Result code_left.Left ExpandFault) (p : Pass Identifier FramedIdent × Noting) → SetsNoting old new region u1 v ls r p → Leaves old new region u
  sets_gone ls (Ok x) p h = leaves_from (left_behind old new region u1 v ls p.1 h.2)
  sets_gone ls (Err (fault.At e)) p h = leaves_from (left_behind old new region u1 v ls p.1 h.2)
  sets_gone ls (Err fault.Full) p h = leaves_from h.0
  sets_gone ls (Err fault.Memory) p h = leaves_from h

  unfoldable moves_from : (ls : List Frames) (t : ScopedState) → plain.Moves old new region u1 v ls t → plain.Moves old new region u v ls t
  moves_from ls t m = record { layout = m.layout; kept = m.kept; stays = stays_from m.layout t m.stays }

  module _ {X Y : Type 0} (P : List Frames → X → Y → Type 0) (ls : List Frames) where
    pub ends_from : (r : Result X ExpandFault) (p : Result Y Broken × ScopedState) → plain.Ends P old new region u1 v ls r p → plain.Ends P old new region u v ls r p
    unfolding moves_from
    ends_from (Ok x) p h = (h.0, moves_from ls p.1 h.1, h.2, h.3)
    ends_from (Err (fault.At e)) p h = (moves_from ls p.1 h.0, h.1)
    ends_from (Err fault.Full) p h = (leaves_from h.0, subst (MayFill old) same h.1)
    ends_from (Err fault.Memory) p h = leaves_from h

    pub ends_gone : (r : Result X ExpandFault) (p : Result Y Broken × Noting) → Ends P old new region u1 v ls r p → Leaves old new region u
    ends_gone (Ok x) p h = leaves_from (left_behind old new region u1 v h.1.layout p.1 h.1.stays)
    ends_gone (Err (fault.At e)) p h = leaves_from (left_behind old new region u1 v h.0.layout p.1 h.0.stays)
    ends_gone (Err fault.Full) p h = leaves_from h.0
    ends_gone (Err fault.Memory) p h = leaves_from h

-- ---- notes of the unit

-- as many as they stand for
pub notes_counted : (work : Work) (ls : List Frames) (asked : Asked) (ns : List (Note FramedIdent)) → NotesFor work ls asked ns → length asked.notes.items ≡ length ns
notes_counted work ls asked ns h = as_many (NoteFor work ls) asked.notes.items (reverse ns) h.notes ∙ length-reverse ns

-- ---- what holds where it has ended

module _ (old new : Work) (region : Region) (u v : UnitScope) (ls : List Frames) (holds : Type 0) where
  pub ended_sets : (r : Result code_left.Left ExpandFault) (p : Pass Identifier FramedIdent × Noting) → SetsNoting old new region u v ls r p → (Stands new v ls p.1 → holds) → OnEnded r holds
  ended_sets (Ok x) p h so = so h.2.stands
  ended_sets (Err (fault.At e)) p h so = so h.2.stands
  ended_sets (Err fault.Full) p h so = tt
  ended_sets (Err fault.Memory) p h so = tt

  pub ended_ends : {X Y : Type 0} (P : List Frames → X → Y → Type 0) (r : Result X ExpandFault) (p : Result Y Broken × Noting) → Ends P old new region u v ls r p → ((layout : List Frames) → Stands new v layout p.1 → holds) → OnEnded r holds
  ended_ends P (Ok x) p h so = so h.1.layout h.1.stays.stands
  ended_ends P (Err (fault.At e)) p h so = so h.0.layout h.0.stays.stands
  ended_ends P (Err fault.Full) p h so = tt
  ended_ends P (Err fault.Memory) p h so = tt

-- notes were lost: the call hasn't ended with its form
pub not_ended : {X : Type 0} (r : Result X ExpandFault) (holds : Type 0) → IsErrAnd r (λ f. f ≡ fault.Memory) → OnEnded r holds
not_ended (Ok x) holds is = absurd is
not_ended {X} (Err e) holds is = subst (λ (f : ExpandFault). OnEnded {X = X} (Err f) holds) (sym is) tt

-- a fault is handed on
pub sets_handed_on : (old new : Work) (region : Region) (u v : UnitScope) (ls : List Frames) (r : Result code_left.Left ExpandFault) (e : ExpandFault) (p : Pass Identifier FramedIdent × ScopedState) → IsErrAnd r (λ f. f ≡ e) → Sets old new region u v ls (Err e) p → Sets old new region u v ls r p
sets_handed_on old new region u v ls (Ok x) e p same h = absurd same
sets_handed_on old new region u v ls (Err f) e p same h = subst (λ (g : ExpandFault). Sets old new region u v ls (Err g) p) (sym same) h

pub ends_handed_on : {X Y : Type 0} (P : List Frames → X → Y → Type 0) (old new : Work) (region : Region) (u v : UnitScope) (ls : List Frames) (r : Result X ExpandFault) (e : ExpandFault) (p : Result Y Broken × ScopedState) → IsErrAnd r (λ f. f ≡ e) → plain.Ends P old new region u v ls (Err e) p → plain.Ends P old new region u v ls r p
ends_handed_on P old new region u v ls (Ok x) e p same h = absurd same
ends_handed_on P old new region u v ls (Err f) e p same h = subst (λ (g : ExpandFault). plain.Ends P old new region u v ls (Err g) p) (sym same) h

-- ---- the form to which work goes

pub note_turned : (work : Work) (u u1 : UnitScope) (number : ℕ) (budget : Budget) (trace : Trace) (uses : ℕ) (editions : Editions) (ms : List Noted) (s : ScopedState) → u1 ≡ record u { form = form_at number budget trace } → CanNote work u trace uses editions ms s → CanNote work u1 u1.form.trace uses editions ms s
note_turned work u u1 number budget trace uses editions ms s turn h = subst (λ (x : UnitScope). CanNote work x x.form.trace uses editions ms s) (sym turn) (record { tells = h.tells; notes = h.notes })

-- the notes where a part has ended that noted all
pub noted_ends : (work : Work) (v : UnitScope) (ls : List Frames) (s : Noting) → Stands work v ls s → s.exact ≡ true → HaveNotes work.symbols s.since v.form.trace.notes.notes s.noted →
    InOrder v.form.trace.notes.first v.form.trace.notes.notes (length s.since.own) → HasNoted work v.macros v.form.trace s
noted_ends work v ls s e exact notes order = record { notes = notes; begun = (e.notes exact).since.uses; order = order; start = e.start exact; editions = e.editions exact }

-- ---- uses that are met

pub uses_plain : (known : Known) (fs : Frames) (us : List (WaitingUse Identifier)) (s : Noting) → state_of (meet_all (noting known) fs us s) ≡ meet_all (searched known) fs us (state_of s)
uses_plain known fs [] s = refl
uses_plain known fs (u ∷ us) s = uses_plain known fs us (meet_waiting (noting known) fs u s)

pub uses_exact : (known : Known) (fs : Frames) (us : List (WaitingUse Identifier)) (s : Noting) → (meet_all (noting known) fs us s).exact ≡ s.exact
uses_exact known fs [] s = refl
uses_exact known fs (u ∷ us) s = uses_exact known fs us (meet_waiting (noting known) fs u s)

-- notes begin again, and then uses are met
pub meets_behind : (u1 u2 v : UnitScope) → u2 ≡ with_notes u1 u2.form.trace.notes → MeetsAlone u2 v → MeetsAlone u1 v
meets_behind u1 u2 v a b = b ∙ ap (λ (x : UnitScope). with_notes (record x { form = record x.form { trace = record x.form.trace { uses = v.form.trace.uses } } }) v.form.trace.notes) a

-- the form at work alone was changed
pub form_alone : (u u1 v : UnitScope) (number : ℕ) (budget : Budget) (trace : Trace) (f : FormAtWork) → u1 ≡ record u { form = form_at number budget trace } → MeetsAlone u1 v → record v { form = f } ≡ record u { form = f }
form_alone u u1 v number budget trace f turn same = ap (λ (x : UnitScope). record x { form = f }) same ∙ ap (λ (x : UnitScope). record x { form = f }) turn
