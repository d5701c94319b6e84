-- What a note asked, and whether a definition that is about to be made would have it told otherwise.
use Rattle.std.proofs.Common.{◌≡◌, ℕ, ◌<◌, List, length, Bool, ◌∙◌, subst}
use Rattle.std.specs.Prelude.{◌&&◌, ◌||◌}
use Rattle.std.proofs.lemmas.Option.{slice_get_within}
use Rattle.scheme_model.specs.Meaning.{same_meaning}
use Rattle.scheme_model.specs.Meaning as model
use Rattle.scheme_model.specs.Order.{Note, LookedUp, Compared}
use Rattle.scheme_model.specs.Substitution.{differ}
use Rattle.scheme_model.specs.CountedExpansion.{means_here, refused_here}
use Rattle.scheme_model.specs.ScopedExpansion.{Frames, FramedIdent, ScopedState}
use Rattle.syntax_tree.specs.Names.{AreToldApart}
use Rattle.syntax_tree.specs.Meant.{IsMeaning}
use Rattle.syntax_tree.specs.declared.meaning.Meaning.{Meaning}
use Rattle.syntax_tree.specs.declared.trees.Work.{Work}
use Rattle.scope_env.specs.Environment.{bound_in}
use Rattle.scope_env.proofs.Places.{length-changed_at}
use Rattle.unit_scopes.specs.Used.{meanings_equal}
use Rattle.unit_scopes.specs.Kept.{PlaceFor, NoteFor}
use Rattle.unit_scopes.specs.Defining.{ComesTo}
use Rattle.unit_scopes.specs.declared.asked.Asking.{Asking}
use Rattle.unit_scopes.specs.declared.asked.Note as code
use Rattle.unit_scopes.specs.declared.asked.Note.TheVariants as notes
use Rattle.unit_scopes.specs.declared.definitions.Coming.{Coming}
use Rattle.unit_scopes.specs.declared.scope.UnitScope.{UnitScope}
use Rattle.unit_scopes.proofs.MeantSame.{meant_same}

module _ (work : Work) (u : UnitScope) (ls : List Frames) (t : ScopedState) (c : Coming) (m : model.Meaning) (comes : ComesTo work u ls t c m) where
  pub scope_there : (a : Asking) (p : FramedIdent) → PlaceFor work ls a p → a.scope < length u.env.scopes
  scope_there a p h =
      subst (λ (n : ℕ). a.scope < n) (comes.env.count ∙ length-changed_at (bound_in c.bound.ident c.bound.meaning) u.env.scopes c.bound.scope)
      (slice_get_within ls a.scope p.frames h.0)

  pub ident_there : (a : Asking) (p : FramedIdent) → PlaceFor work ls a p → a.ident < length work.symbols.idents
  ident_there a p h = slice_get_within work.symbols.idents a.ident p.ident h.1

-- ---- what was asked

module _ (work : Work) (ls : List Frames) where
  looked_up : (a : Asking) (h k : Bool) (q : Note FramedIdent) → NoteFor work ls (notes.LookedUp a h k) q → (p : FramedIdent) × PlaceFor work ls a p
  looked_up a h k (LookedUp p head keyword) is = (p, is.0)
  looked_up a h k (Compared p q held) is = absurd is

  pub looked_up_at : (note : code.Note) (a : Asking) (h k : Bool) (q : Note FramedIdent) → note ≡ notes.LookedUp a h k → NoteFor work ls note q → (p : FramedIdent) × PlaceFor work ls a p
  looked_up_at note a h k q same is = looked_up a h k q (subst (λ (n : code.Note). NoteFor work ls n q) same is)

  compared : (l a : Asking) (h : Bool) (q : Note FramedIdent) → NoteFor work ls (notes.Compared l a h) q → ((p : FramedIdent) × PlaceFor work ls l p) × ((p : FramedIdent) × PlaceFor work ls a p)
  compared l a h (LookedUp p head keyword) is = absurd is
  compared l a h (Compared p q held) is = ((p, is.0), (q, is.1))

  pub compared_at : (note : code.Note) (l a : Asking) (h : Bool) (q : Note FramedIdent) → note ≡ notes.Compared l a h → NoteFor work ls note q → ((p : FramedIdent) × PlaceFor work ls l p) × ((p : FramedIdent) × PlaceFor work ls a p)
  compared_at note l a h q same is = compared l a h q (subst (λ (n : code.Note). NoteFor work ls n q) same is)

-- ---- what it would be told

module _ (work : Work) (u : UnitScope) (ls : List Frames) (t : ScopedState) (c : Coming) (m : model.Meaning) (apart : AreToldApart work.symbols.idents) (told : AreToldApart work.symbols.symbols) (comes : ComesTo work u ls t c m) where
  -- what the code found that an identifier will mean
  abbrev pub WillMean : Asking → Meaning → Type 0
  WillMean a now = (p : FramedIdent) → PlaceFor work ls a p → IsMeaning work.symbols t.unit t.form now (means_here t p.frames p.ident)

  asks_it : (a : Asking) (now : Meaning) (p : FramedIdent) → WillMean a now → PlaceFor work ls a p → meanings_equal now c.bound.meaning ≡ same_meaning (means_here t p.frames p.ident) m
  asks_it a now p means at = meant_same work.symbols apart told t.unit t.form now (means_here t p.frames p.ident) (means p at) c.bound.meaning m comes.meaning

  taken : (a : Asking) (h k : Bool) (now : Meaning) (q : Note FramedIdent) → WillMean a now → NoteFor work ls (notes.LookedUp a h k) q → (meanings_equal now c.bound.meaning && (k || (h && c.is_macro))) ≡ refused_here t m c.is_macro q
  taken a h k now (LookedUp p head keyword) means is =
      let asks = asks_it a now p means is.0 in
      λ j. asks j && (is.2 j || (is.1 j && c.is_macro))
  taken a h k now (Compared p q held) means is = absurd is

  pub look_up_changed : (note : code.Note) (a : Asking) (h k : Bool) (now : Meaning) (q : Note FramedIdent) → note ≡ notes.LookedUp a h k → WillMean a now → NoteFor work ls note q →
      (meanings_equal now c.bound.meaning && (k || (h && c.is_macro))) ≡ refused_here t m c.is_macro q
  look_up_changed note a h k now q same means is = taken a h k now q means (subst (λ (n : code.Note). NoteFor work ls n q) same is)

  turned : (l a : Asking) (h : Bool) (first second : Meaning) (q : Note FramedIdent) → WillMean l first → WillMean a second → NoteFor work ls (notes.Compared l a h) q →
      ((meanings_equal first c.bound.meaning || meanings_equal second c.bound.meaning) && differ h (meanings_equal first second)) ≡ refused_here t m c.is_macro q
  turned l a h first second (LookedUp p head keyword) one two is = absurd is
  turned l a h first second (Compared p q held) one two is =
      let x = asks_it l first p one is.0 in
      let y = asks_it a second q two is.1 in
      let same = meant_same work.symbols apart told t.unit t.form first (means_here t p.frames p.ident) (one p is.0) second (means_here t q.frames q.ident) (two q is.1) in
      λ j. (x j || y j) && differ (is.2 j) (same j)

  pub comparison_changed : (note : code.Note) (l a : Asking) (h : Bool) (first second : Meaning) (q : Note FramedIdent) → note ≡ notes.Compared l a h → WillMean l first → WillMean a second → NoteFor work ls note q →
      ((meanings_equal first c.bound.meaning || meanings_equal second c.bound.meaning) && differ h (meanings_equal first second)) ≡ refused_here t m c.is_macro q
  comparison_changed note l a h first second q same one two is = turned l a h first second q one two (subst (λ (n : code.Note). NoteFor work ls n q) same is)
