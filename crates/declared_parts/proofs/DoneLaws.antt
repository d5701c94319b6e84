-- What a form that is declared again leaves in its unit, or one that isn't.
use Rattle.std.proofs.Common.{ℕ, ◌<◌, List, ◌++◌, length, reverse, sym, ap, ◌∙◌, subst}
use Rattle.std.proofs.lemmas.List.{reverse-reverse}
use Rattle.std.specs.FinMap as map_of
use Rattle.scheme_model.specs.Order.{Note}
use Rattle.scheme_model.specs.ScopedExpansion.{Frames, FramedIdent, ScopedState}
use Rattle.syntax_tree.specs.declared.trees.Work.{Work}
use Rattle.scope_env.specs.Environment.{Environment}
use Rattle.unit_scopes.specs.Kept.{NotesFor}
use Rattle.unit_scopes.specs.Outcomes.{KeepsNumbers}
use Rattle.unit_scopes.specs.State.{Rests}
use Rattle.unit_scopes.specs.declared.asked.Asked.{Asked}
use Rattle.unit_scopes.specs.declared.scope.UnitScope.{UnitScope}
use Rattle.declared_parts.specs.Again.{moment_of, own_notes, state_after, notes_after, CanDeclare, StandsAfter}
use Rattle.declared_parts.specs.Going.{GoesOn}
use Rattle.declared_parts.specs.Undone.{IsBack}
use Rattle.declared_parts.specs.declared.again.Going.{Going}
use Rattle.declared_parts.specs.declared.parts.DeclaredPart.{DeclaredPart}
use Rattle.declared_parts.proofs.EndGoing.{whole}
use Rattle.declared_parts.proofs.NumbersKept.{back_numbers, defined_numbers}
use Rattle.declared_parts.proofs.StartGoing.{own_after, rests_there, tells_there}
use Rattle.declared_parts.proofs.UndoneLaws.{stands_back, editions_back}

abbrev with_asked : UnitScope → Asked → UnitScope
with_asked u a = record u { asked = a }

rests_asked : (work : Work) (u : UnitScope) (a : Asked) (ls : List Frames) (s : ScopedState) → Rests work u ls s → Rests work (with_asked u a) ls s
rests_asked work u a ls s h = record { unit = h.unit; program = h.program; env = h.env; macros = h.macros; root = h.root; own = h.own; begun = h.begun; defined = h.defined; known = h.known; count = h.count }

numbers_asked : (u v : UnitScope) (a : Asked) → KeepsNumbers u v → KeepsNumbers u (with_asked v a)
numbers_asked u v a h = record { defined = h.defined; numbers = h.numbers }

module _ (work : Work) (old : UnitScope) (number : ℕ) (part : DeclaredPart) (can : CanDeclare work old number part) where
  -- all its definitions are made, and its notes are added
  pub declared_so : (u : UnitScope) (g : Going) → GoesOn work old number part can u g (length (moment_of can.again).table) → (a : Asked) →
      ((ns : List (Note FramedIdent)) → NotesFor work can.layout u.asked ns → NotesFor work can.layout a (reverse (reverse (own_notes can.again)) ++ ns)) →
      StandsAfter work old (with_asked u a) can.layout can.editions (state_after can.again) (notes_after can.again)
  declared_so u g h a more =
      let same = whole work old number part can u g h in
      let notes = subst (λ (b : Asked). NotesFor work can.layout b can.again.now.notes) (sym h.rest.asked) can.stands.notes in
      record {
        stands = record {
          rests = rests_asked work u a can.layout (state_after can.again) (rests_there work old number part can u g (length (moment_of can.again).table) h (moment_of can.again) same.0 same.1);
          notes = subst (λ (l : List (Note FramedIdent)). NotesFor work can.layout a (l ++ can.again.now.notes)) (reverse-reverse (own_notes can.again)) (more can.again.now.notes notes);
        };
        own = own_after work old number part can u g (length (moment_of can.again).table) h;
        tells = tells_there work old number part can u g (length (moment_of can.again).table) h (moment_of can.again) same.0 same.1;
        libraries = h.rest.libraries;
        roots = h.roots;
        numbers = numbers_asked old u a (defined_numbers old u (reverse g.made.items) h.back);
      }

  -- they are taken back
  pub refused_so : (v : UnitScope) → IsBack old v → StandsAfter work old v can.layout can.editions can.again.now.state can.again.now.notes
  refused_so v h = record {
    stands = stands_back work old v h can.layout can.again.now.state can.again.now.notes can.stands;
    own = λ n lt.
        let own = can.own n (subst (λ (e : Environment). n < length e.scopes) h.env lt) in
        (own.0, ap (λ (e : Environment). map_of.get e.roots own.0) h.env ∙ own.1);
    tells = editions_back work old v h can.layout can.again.now.state work.symbols can.editions can.tells;
    libraries = h.rest.libraries;
    roots = ap (λ (e : Environment). e.roots) h.env;
    numbers = back_numbers old v h;
  }
