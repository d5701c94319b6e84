-- A definition ends as it does by the form's own answers and the root's: the notes that speak of its identifier refuse it where all do.
use Rattle.std.proofs.Common.{◌≡◌, suc, List, [], ◌∷◌, ◌++◌, map, Bool, Option, Some, None, refl, sym, ap, ◌∙◌, arith}
use Rattle.std.specs.Prelude.{◌&&◌, ◌||◌}
use Rattle.scheme_model.specs.Identifiers.{Number}
use Rattle.scheme_model.specs.Ident.{Ident}
use Rattle.scheme_model.specs.ExpansionFaults.{Named}
use Rattle.scheme_model.specs.Meaning.{Meaning, Local, Global, Free, same_meaning}
use Rattle.scheme_model.specs.RulesShape.{Rules}
use Rattle.scheme_model.specs.Order.{Note, LookedUp, Compared, is_some}
use Rattle.scheme_model.specs.Substitution.{any, differ, is_refused}
use Rattle.scheme_model.specs.Scopes.{local_or}
use Rattle.scheme_model.specs.ScopedExpansion.{Frames, FramedIdent, ScopedState, find, means_at, is_defined, meaning_next, definition_added, refused_now}
use Rattle.scheme_model.specs.CountedExpansion.{means_here, refused_here}
use Rattle.scheme_model.specs.OwnAnswers.{own_local, root_means, own_means}
use Rattle.scheme_model.specs.Questions.{Moment, Around, at_moment, own_at, number_in, found, outcome_by, outcome, bare}
use Rattle.scheme_model.specs.FormsAlike.{bare_note, Leaves}
use Rattle.unit_scopes.specs.Searched.{speaks_of}
use Rattle.model_laws.proofs.FrameAsks.{AllOf, BindersCounted}
use Rattle.model_laws.proofs.FrameHeld.{NoteAll, notes_more}
use Rattle.form_laws.specs.Begins.{Begins}
use Rattle.form_laws.proofs.AskingSides.{nothing_behind, earlier}
use Rattle.form_laws.proofs.Bare.{SameFrames, bare_twice, own_bare, any_bare}
use Rattle.form_laws.proofs.Leaving.{added, defined_is, unit_is, next_locals}
use Rattle.form_laws.proofs.OwnSide.{local_asked, both_asked}
use Rattle.form_laws.proofs.FormLaws.{no_locals}
use Rattle.expansion_laws.proofs.BoundedNotes.{any_spoken}
use Rattle.forgotten_locals.specs.Outside.{IsOutside}
use Rattle.note_laws.specs.Told.{ImportsOthers}
use Rattle.note_laws.proofs.MeansHere.{Here, Good, here_more, means_now, here_told, definitions_are, root_free}
use Rattle.note_laws.proofs.GoodMoments.{found_good, era, binders_in, bounded}

module _ (w : Around) (out : IsOutside w.state) (begins : Begins w.state) (others : ImportsOthers w.state) (n : Moment) (good : Good w n) (s : ScopedState) (left : Leaves w n s) where
  module _ (x : Named Ident) (r : Option (Rules Ident)) (e f : Frames) (d : SameFrames e f) (he : Here w n.locals e) where
    -- once it is defined
    module _ (b : Option Number) where
      abbrev then_ : Moment
      then_ = found w b x r e n

      abbrev after : ScopedState
      after = definition_added b x r f s

      abbrev leaves : Leaves w then_ after
      leaves = added w n s left e f d b x r

      abbrev stays : Good w then_
      stays = found_good w n good b x r e he

      abbrev NoteHere : Note FramedIdent → Type 0
      NoteHere note = NoteAll (λ (l : FramedIdent). Here w n.locals l.frames) note

      here_then : (fs : Frames) → Here w n.locals fs → Here w then_.locals fs
      here_then fs h = go b
        where
          go : (c : Option Number) → Here w (found w c x r e n).locals fs
          go None = h
          go (Some k) = here_more w n.locals (suc n.locals) (omega arith) fs h

      told : (l : FramedIdent) → Here w n.locals l.frames → means_here after l.frames l.ident ≡ means_at after l.frames l.ident
      told l h = here_told w out begins (no_locals w begins) then_ stays after leaves l.frames (here_then l.frames h) l.ident

      abbrev by_count : Note FramedIdent → Bool
      by_count note = refused_here after (meaning_next s b x.name) (is_some r) note

      abbrev by_number : Note FramedIdent → Bool
      by_number note = refused_now after (meaning_next s b x.name) (is_some r) note

      note_told : (note : Note FramedIdent) → NoteHere note → by_count note ≡ by_number note
      note_told (LookedUp l head keyword) h = ap (λ m. same_meaning m (meaning_next s b x.name) && (keyword || (head && is_some r))) (told l h)
      note_told (Compared l j held) h = let p = told l h.0 in let q = told j h.1 in λ i. (same_meaning (p i) (meaning_next s b x.name) || same_meaning (q i) (meaning_next s b x.name)) && differ held (same_meaning (p i) (q i))

      all_told : (ms : List (Note FramedIdent)) → AllOf NoteHere ms → any (λ note. speaks_of x.name note && by_count note) ms ≡ any (λ note. speaks_of x.name note && by_number note) ms
      all_told [] h = refl
      all_told (m ∷ ms) h = let p = note_told m h.0 in let q = all_told ms h.1 in λ j. (speaks_of x.name m && p j) || q j

      pub all_spoken : (ms : List (Note FramedIdent)) → AllOf NoteHere ms → any (λ note. speaks_of x.name note && by_count note) ms ≡ any by_number ms
      all_spoken ms h =
          all_told ms h
          ∙ any_spoken (era w) s (bounded w out begins others n good s left) x r f b ms
          (notes_more (λ (l : FramedIdent). Here w n.locals l.frames) (λ (l : FramedIdent). BindersCounted (era w) s.locals l.frames) (λ l q. binders_in w out begins others n good s left l.frames q) ms h)

      -- by the form's own answers and the root's
      abbrev pub own : FramedIdent → Meaning
      own q = own_means (own_at then_) (at_moment w then_) q.frames q.ident

      pub all_own : (ms : List (Note FramedIdent)) → any by_number ms ≡ any (is_refused (is_some r) (λ q. same_meaning (own q) (meaning_next s b x.name)) own) (map bare_note ms)
      all_own ms =
          any_bare (is_some r) (meaning_next s b x.name) (λ (q : FramedIdent). means_at after q.frames q.ident) own
          (λ q. means_now w out begins (no_locals w begins) then_ stays after leaves (bare q.frames) q.frames (sym (bare_twice q.frames)) q.ident) ms

      -- or by its own alone, where a local is asked
      abbrev pub free : FramedIdent → Meaning
      free q = local_or (own_local (own_at then_) q.frames q.ident) (Free [])

      note_free : (k : Number) (note : Note FramedIdent) → is_refused (is_some r) (λ q. same_meaning (own q) (Local k)) own note ≡ is_refused (is_some r) (λ q. same_meaning (free q) (Local k)) free note
      note_free k (LookedUp l head keyword) =
          ap (λ t. t && (keyword || (head && is_some r))) (local_asked (own_local (own_at then_) l.frames l.ident) (root_means (at_moment w then_) l.ident) (root_free w out begins (no_locals w begins) then_ stays after leaves l.ident) k)
      note_free k (Compared l j held) =
          both_asked (own_local (own_at then_) l.frames l.ident) (own_local (own_at then_) j.frames j.ident) (root_means (at_moment w then_) l.ident) (root_means (at_moment w then_) j.ident)
          (root_free w out begins (no_locals w begins) then_ stays after leaves l.ident) (root_free w out begins (no_locals w begins) then_ stays after leaves j.ident) k held

      pub all_free : (k : Number) (ms : List (Note FramedIdent)) → any (is_refused (is_some r) (λ q. same_meaning (own q) (Local k)) own) ms ≡ any (is_refused (is_some r) (λ q. same_meaning (free q) (Local k)) free) ms
      all_free k [] = refl
      all_free k (m ∷ ms) = let p = note_free k m in let q = all_free k ms in λ j. p j || q j

    -- how it ends
    pub outcome_is : (b : Option Number) (ns ms : List (Note FramedIdent)) → AllOf (NoteAll (λ (l : FramedIdent). Here w n.locals l.frames)) ms → map bare_note ms ≡ map bare_note (ns ++ earlier w b)
        → outcome_by (any (λ note. speaks_of x.name note && refused_here (definition_added b x r f s) (meaning_next s b x.name) (is_some r) note) ms) (is_defined s b x.name) ≡ outcome w n b e x r ns
    outcome_is None ns ms h c =
        let y = unit_is w n s left x.name in
        let one = all_spoken None ms h ∙ all_own None ms in
        let two = any_bare (is_some r) (Global w.state.unit x.name) (own None) (own None) (λ q. ap (λ l. local_or l (root_means (at_moment w (then_ None)) q.ident)) (own_bare (own_at (then_ None)) q.frames q.ident)) (ns ++ w.notes) in
        let a = one ∙ ((λ j. any (is_refused (is_some r) (λ q. same_meaning (own None q) (y j)) (own None)) (c j)) ∙ sym two) in
        let z = defined_is w n s left x.name in
        λ j. outcome_by (a j) (z j)
    outcome_is (Some k) ns ms h c =
        let y = ap Local (next_locals w n s left) in
        let c2 = c ∙ ap (map bare_note) (nothing_behind ns) in
        let one = all_spoken (Some k) ms h ∙ all_own (Some k) ms in
        let two = any_bare (is_some r) (Local (number_in w n.locals)) (free (Some k)) (free (Some k)) (λ q. ap (λ l. local_or l (Free [])) (own_bare (own_at (then_ (Some k))) q.frames q.ident)) ns in
        let a = one ∙ ((λ j. any (is_refused (is_some r) (λ q. same_meaning (own (Some k) q) (y j)) (own (Some k))) (c2 j)) ∙ (all_free (Some k) (number_in w n.locals) (map bare_note ns) ∙ sym two)) in
        let z = ap (λ ds. is_some (find ds k x.name)) (definitions_are w out begins (no_locals w begins) n good s left) in
        λ j. outcome_by (a j) (z j)
