use Rattle.std.proofs.Common.{◌≡◌, List, take, reverse, false}
use Rattle.scheme_model.specs.Meaning.{Meaning}
use Rattle.scheme_model.specs.Order.{Note}
use Rattle.scheme_model.specs.Substitution.{any}
use Rattle.scheme_model.specs.CountedExpansion.{refused_here}
use Rattle.scheme_model.specs.ScopedExpansion.{Frames, FramedIdent, ScopedState}
use Rattle.unit_scopes.specs.Kept.{NotesFor}
use Rattle.unit_scopes.specs.Defining.{ComesTo}
use Rattle.unit_scopes.proofs.SearchedNotes.{told_at}
use Rattle.unit_scopes.proofs.scope.UnitScope.is_refused.Given as goal

abbrev pub invariant-loop-number : goal.invariant-loop-number
invariant-loop-number l =
    (ls : List Frames) (t : ScopedState) (m : Meaning) (ns : List (Note FramedIdent)) → ComesTo l.work l.self ls t l.coming m → NotesFor l.work ls l.asked ns →
    any (told_at (refused_here t m l.coming.is_macro) (reverse ns)) (take l.number-index l.numbers) ≡ false
