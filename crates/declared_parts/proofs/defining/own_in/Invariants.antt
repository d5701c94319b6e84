use Rattle.std.proofs.Common.{List, [], ◌++◌, reverse, take}
use Rattle.scheme_model.specs.Order.{Note}
use Rattle.scheme_model.specs.ScopedExpansion.{Frames, FramedIdent}
use Rattle.core_tree.specs.Names.{AllMatch}
use Rattle.unit_scopes.specs.Asks.{AskedStands}
use Rattle.unit_scopes.specs.Kept.{NoteFor, NotesFor}
use Rattle.unit_scopes.specs.Outcomes.{At}
use Rattle.declared_parts.specs.Parts.{OwnNoteFor}
use Rattle.declared_parts.proofs.defining.own_in.Given as goal

abbrev pub invariant-loop-note : goal.invariant-loop-note
invariant-loop-note l =
    (ls : List Frames) (ms ns : List (Note FramedIdent)) → At ls l.root [] → AllMatch (OwnNoteFor l.work.symbols) l.notes ms → NotesFor l.work ls l.fn.asked ns →
    AllMatch (NoteFor l.work ls) l.asked.notes.items (reverse ns ++ take l.note-index ms) × AskedStands l.work.symbols l.asked
