-- A unit of a program of which some forms are kept comes to the same where its definitions go through the notes that speak of their identifiers
-- alone.
use Rattle.std.proofs.Common.{◌≡◌, ℕ, List, map, true, refl, sym, subst}
use Rattle.scheme_model.specs.Ident.{Written}
use Rattle.scheme_model.specs.Requirements.{Known}
use Rattle.scheme_model.specs.ScopedExpansion.{ScopedState}
use Rattle.scheme_model.specs.Questions.{Around}
use Rattle.scheme_model.specs.IncludedUnits.{Placed}
use Rattle.scheme_model.specs.Program.{Prepared, is_ready, unit_entries, with_entries, enough_turns, forms_at_work}
use Rattle.scheme_model.specs.ScopedProgram.{ScopedProgress, forms_over, scoped_start_after, scoped_work, scoped_before}
use Rattle.model_laws.proofs.EntryLaws.{GivenSo}
use Rattle.kept_forms.specs.KeptForms.{FormOrKept, LeftOrKept, form_of, numbers_of}
use Rattle.kept_forms.proofs.Programs.{between_at, placed_at, new_unit}
use Rattle.expansion_laws.proofs.BoundedNotes.{Foreign}
use Rattle.expansion_laws.proofs.SearchedPrograms.{bounded}
use Rattle.question_laws.specs.Noted.{IsClosed}
use Rattle.forgotten_locals.specs.Outside.{IsOutside}
use Rattle.forgotten_locals.specs.Ways.{forgetting, unit_by, AtTurns, IsKept, IsRestKept, AllKept, CanBegin, RestCanBegin}
use Rattle.forgotten_locals.specs.Programs.{IsProgressOutside}
use Rattle.forgotten_locals.proofs.Units.{forgetting_begins}
use Rattle.forgotten_locals.proofs.StaysOutside.{start_is_outside, turns_outside}
use Rattle.note_laws.specs.Told.{ImportsOthers}
use Rattle.note_laws.proofs.SearchedTurns.{Imports}
use Rattle.kept_turns.specs.Ready.{AllReady}
use Rattle.kept_turns.proofs.EachTurn.{turns_with}
use Rattle.kept_turns.proofs.ClosedTurns.{unit_ready}
use Rattle.searched_turns.specs.GoingOn.{going_on}
use Rattle.searched_turns.proofs.SameTurns.{SameFirst, SameSecond, unit_same, turns_same}
use Rattle.searched_turns.proofs.KeptSearched.{First, Second, others_told, turns_follow}

module _ (all : List Placed) (ps : List Prepared) (known : Known) (n : ℕ) (h : ScopedProgress) (p : Prepared) (xs : List FormOrKept) where
  abbrev g : ScopedProgress
  g = scoped_work all ps known n scoped_before

  abbrev s : ScopedState
  s = scoped_start_after all p h

  module _ (o : IsProgressOutside g h) (ready : is_ready all ps g.results p ≡ true) (forms : map form_of xs ≡ forms_over (Written p.number) p.number 0 (forms_at_work p)) (k : AllKept (forgetting enough_turns) enough_turns known xs s) where
    start_imports : Imports p.number s
    start_imports =
        let b = bounded all ps known n p ready in
        let r = sym o.results in let e = sym o.entry in
        record { unit = refl; entries = λ v x. subst (GivenSo (Foreign p.number)) (λ j. with_entries p.number (unit_entries all (r j) p).0 (e j) v x) (b.entries v x) }

    abbrev A : Around → FormOrKept → Type 0
    A = First p.number enough_turns known

    abbrev B : Around → LeftOrKept → Type 0
    B = Second p.number enough_turns known (numbers_of xs)

    follows : AtTurns A B (forgetting enough_turns) known xs s
    follows =
        let new = new_unit all ps known g p ready in
        let begins = forgetting_begins all ps known g (between_at all ps known n) (placed_at all ps known n) p new xs forms h o k in
        turns_follow p.number enough_turns known xs s start_imports begins (turns_outside known enough_turns xs s (start_is_outside all p g h o))

    abbrev SameA : Around → FormOrKept → Type 0
    SameA = SameFirst (forgetting enough_turns) (going_on enough_turns) known

    abbrev SameB : Around → LeftOrKept → Type 0
    SameB = SameSecond (forgetting enough_turns) (going_on enough_turns) known (numbers_of xs)

    same : AtTurns SameA SameB (forgetting enough_turns) known xs s
    same = turns_with (forgetting enough_turns) known A A SameA B B SameB (λ v x a b. a.0) (λ v r a b. a.0) xs s follows follows

    pub unit_searched : unit_by (going_on enough_turns) known xs s ≡ unit_by (forgetting enough_turns) known xs s
    unit_searched = unit_same (forgetting enough_turns) (going_on enough_turns) known xs s same

    turns_searched : (P : Around → FormOrKept → Type 0) (Q : Around → LeftOrKept → Type 0) → AtTurns P Q (forgetting enough_turns) known xs s → AtTurns P Q (going_on enough_turns) known xs s
    turns_searched P Q = (turns_same (forgetting enough_turns) (going_on enough_turns) known xs s same P Q).1

    pub kept_searched : AllKept (going_on enough_turns) enough_turns known xs s
    kept_searched = (k.0, turns_searched (IsKept enough_turns) (IsRestKept enough_turns) k.1)

    pub ready_searched : AllReady (going_on enough_turns) known xs s
    ready_searched =
        let r = unit_ready all ps known n h p xs o ready forms k in
        record {
          begins = turns_searched CanBegin RestCanBegin r.begins;
          outside = turns_searched (λ v x. IsOutside v.state) (λ v r. IsOutside v.state) r.outside;
          closed = turns_searched (λ v x. IsClosed v.state) (λ v r. IsClosed v.state) r.closed;
        }

    abbrev Others : Around → FormOrKept → Type 0
    Others v x = ImportsOthers v.state

    abbrev Others2 : Around → LeftOrKept → Type 0
    Others2 v r = ImportsOthers v.state

    pub turns_import : AtTurns Others Others2 (forgetting enough_turns) known xs s
    turns_import = turns_with (forgetting enough_turns) known A A Others B B Others2 (λ v x a b. others_told p.number v.state a.1) (λ v r a b. others_told p.number v.state a.1) xs s follows follows
