-- A part of a form begins: nothing is its own yet, and its notes go on behind those that there are.
use Rattle.std.proofs.Common.{◌≡◌, ℕ, ◌<◌, List, [], ◌∷◌, length, Bool, true, false, Option, refl, zero, arith}
use Rattle.std.specs.List.{Contains}
use Rattle.scheme_model.specs.Ident.{Ident as Identifier}
use Rattle.scheme_model.specs.Meaning.{Meaning, Local, Global, Standard, Free}
use Rattle.scheme_model.specs.Order.{Transformer}
use Rattle.scheme_model.specs.ScopedExpansion.{Frames, ScopedState}
use Rattle.syntax_tree.specs.Names.{Names}
use Rattle.syntax_tree.specs.declared.trees.Work.{Work}
use Rattle.form_notes.specs.Noted.{Noted, Since, beginning, is_local, is_own}
use Rattle.form_notes.specs.Standing.{HaveNotes, NotingStands}
use Rattle.form_notes.specs.declared.notes.Note as code_note
use Rattle.form_notes.specs.declared.noting.Noting as code_noting
use Rattle.unit_scopes.specs.Editions.{EditionsTell}
use Rattle.unit_scopes.specs.State as plain
use Rattle.unit_scopes.specs.declared.scope.UnitScope.{UnitScope}
use Rattle.noted_steps.specs.Noting.{going, is_nothing}
use Rattle.noted_steps.specs.Standing.{Stands, StartsAt, with_notes}
use Rattle.noted_steps.proofs.NoteLaws.{plain_notes}

-- where nothing is told to be noted, there are no notes
pub nothing_noted : (names : Names) (r : Since) (xs : List code_note.Note) (ms : List Noted) → HaveNotes names r xs ms → is_nothing ms ≡ true → length xs ≡ 0
nothing_noted names r [] ms h none = refl
nothing_noted names r (x ∷ xs) [] h none =
    let first : Contains (x ∷ xs) x = (zero, omega arith, refl) in
    let p = h.alone x first in
    let l : p.1.0 < 0 = p.1.1 in
    absurd (omega (arith, l))
nothing_noted names r (x ∷ xs) (m ∷ ms) h none = absurd cc

-- locals are the form's own
not_local : (r : Since) (m : Meaning) → is_own r m ≡ false → is_local m ≡ false
not_local r (Local v) h = absurd cc
not_local r (Global u i) h = refl
not_local r (Standard x) h = refl
not_local r (Free x) h = refl

pub part_begins : (work : Work) (u : UnitScope) (ls : List Frames) (s : ScopedState) (x : code_noting.Noting) (exact : Bool) (before uses : ℕ) (editions : ℕ → Option (Transformer Frames Identifier)) (ms : List Noted) → let r = beginning s.unit s.form uses editions in
    plain.Stands work u ls s → (exact ≡ true → EditionsTell work.symbols u.macros s editions) → (exact ≡ true → NotingStands work.symbols x r ms) → (exact ≡ true → StartsAt x before (is_nothing ms)) →
    Stands work (with_notes u x) ls (going exact before r ms s)
part_begins work u ls s x exact before uses editions ms e tells notes start =
    let p = plain_notes work u ls s x e in
    record {
      unit = p.unit;
      program = p.program;
      env = p.env;
      macros = p.macros;
      root = p.root;
      own = p.own;
      begun = p.begun;
      form = p.form;
      defined = p.defined;
      known = p.known;
      count = p.count;
      made = λ i h. absurd cc;
      since_unit = refl;
      since_form = refl;
      editions = λ told. let d = tells told in record { none = d.none; tells = λ form c m is other. d.tells form c m is (not_local (beginning s.unit s.form uses editions) m other) };
      notes = notes;
      start = start;
    }
