-- Notes stand for the same where the work has grown, and one more is the newest.
use Rattle.std.proofs.Common.{◌≡◌, ℕ, List, [], ◌∷◌, ◌++◌, reverse, sym, subst}
use Rattle.std.proofs.lemmas.Grind.{reverse_onto}
use Rattle.scheme_model.specs.Order.{Note, LookedUp, Compared}
use Rattle.scheme_model.specs.ScopedExpansion.{Frames, FramedIdent}
use Rattle.syntax_tree.specs.Names.{AreToldApart, KeepsNames}
use Rattle.syntax_tree.specs.declared.trees.Work.{Work}
use Rattle.core_tree.specs.Names.{AllMatch}
use Rattle.unit_scopes.specs.Asks.{AskedStands}
use Rattle.unit_scopes.specs.Kept.{PlaceFor, NoteFor, NotesFor}
use Rattle.unit_scopes.specs.Outcomes.{At}
use Rattle.unit_scopes.specs.declared.asked.Asked.{Asked}
use Rattle.unit_scopes.specs.declared.asked.Asking.{Asking}
use Rattle.unit_scopes.specs.declared.asked.Note as code
use Rattle.unit_scopes.specs.declared.asked.Note.TheVariants as notes
use Rattle.unit_scopes.proofs.AskLaws.{asked_grows}
use Rattle.unit_scopes.proofs.CountingStands.{all_last}

module _ (old new : Work) (ls layout : List Frames) (names : KeepsNames old.symbols new.symbols) (kept : (n : ℕ) (fs : Frames) → At ls n fs → At layout n fs) where
  place_on : (a : Asking) (p : FramedIdent) → PlaceFor old ls a p → PlaceFor new layout a p
  place_on a p h = (kept a.scope p.frames h.0, names.idents a.ident p.ident h.1)

  pub note_on : (c : code.Note) (q : Note FramedIdent) → NoteFor old ls c q → NoteFor new layout c q
  note_on (notes.LookedUp a h k) (LookedUp p head keyword) is = (place_on a p is.0, is.1, is.2)
  note_on (notes.LookedUp a h k) (Compared p q held) is = is
  note_on (notes.Compared l a h) (LookedUp p head keyword) is = is
  note_on (notes.Compared l a h) (Compared p q held) is = (place_on l p is.0, place_on a q is.1, is.2)

  each_on : (cs : List code.Note) (qs : List (Note FramedIdent)) → AllMatch (NoteFor old ls) cs qs → AllMatch (NoteFor new layout) cs qs
  each_on [] [] h = h
  each_on [] (q ∷ qs) h = h
  each_on (c ∷ cs) [] h = h
  each_on (c ∷ cs) (q ∷ qs) h = (note_on c q h.0, each_on cs qs h.1)

  -- the work has grown, and scopes may have been opened
  pub notes_on : (asked : Asked) (qs : List (Note FramedIdent)) → AreToldApart new.symbols.idents → NotesFor old ls asked qs → NotesFor new layout asked qs
  notes_on asked qs apart h = record { notes = each_on asked.notes.items (reverse qs) h.notes; asks = asked_grows old.symbols new.symbols names apart asked h.asks }

-- one more was looked up or compared
pub note_more : (work : Work) (ls : List Frames) (old new : Asked) (c : code.Note) (q : Note FramedIdent) (qs : List (Note FramedIdent)) → new.notes.items ≡ old.notes.items ++ c ∷ [] → AskedStands work.symbols new → NoteFor work ls c q →
    NotesFor work ls old qs → NotesFor work ls new (q ∷ qs)
note_more work ls old new c q qs more asks is h = record {
  notes =
      subst (λ (cs : List code.Note). AllMatch (NoteFor work ls) cs (reverse (q ∷ qs))) (sym more)
      (subst (λ (rs : List (Note FramedIdent)). AllMatch (NoteFor work ls) (old.notes.items ++ c ∷ []) rs) (sym (reverse_onto qs q [])) (all_last (NoteFor work ls) old.notes.items (reverse qs) c q h.notes is));
  asks = asks;
}
