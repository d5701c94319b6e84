-- Where an expansion that notes goes with one that asks, both define alike, and the definition is noted.
use Rattle.std.proofs.Common.{◌≡◌, ℕ, zero, suc, ◌+◌, ◌-◌, ◌≤◌, List, [], ◌∷◌, ◌++◌, map, Option, Some, None, Result, Ok, Err, refl, sym, ap, ◌∙◌, subst, length, arith}
use Rattle.std.specs.Prelude.{take}
use Rattle.scheme_model.specs.Identifiers.{Number}
use Rattle.scheme_model.specs.Ident.{Ident}
use Rattle.scheme_model.specs.ExpansionFaults.{Named, Fault, KeywordRedefined, Duplicate}
use Rattle.scheme_model.specs.RulesShape.{Rules}
use Rattle.scheme_model.specs.Cores.{Bound}
use Rattle.scheme_model.specs.Order.{Note, Pending, Renamed, Transformer, is_some}
use Rattle.scheme_model.specs.Substitution.{unchanged}
use Rattle.scheme_model.specs.ScopedExpansion.{Frames, FramedIdent, body_around}
use Rattle.scheme_model.specs.Questions.{Moment, Around, Outcome, Stands, Redefines, StoodBefore, found, unit_outcome, outcome, Question, Defines, Ends, in_unit, dated, Asking, ended, beside}
use Rattle.scheme_model.specs.FormsAlike.{bare_note}
use Rattle.model_laws.proofs.FrameAsks.{AllOf}
use Rattle.model_laws.proofs.FrameHeld.{NoteAll, notes_more}
use Rattle.form_laws.specs.Begins.{Begins}
use Rattle.form_laws.proofs.Sides.{Results, PendingLike, RenamedLike}
use Rattle.form_laws.proofs.AskingSides.{earlier}
use Rattle.form_laws.proofs.Bare.{SameFrames, body_same}
use Rattle.form_laws.proofs.Leaving.{added}
use Rattle.form_notes.specs.Noted.{Since, defining}
use Rattle.noted_steps.specs.Noting.{Noting, state_of, with_state, own_notes, define_by, noting}
use Rattle.noted_steps.specs.Noting as notes
use Rattle.forgotten_locals.specs.Outside.{IsOutside}
use Rattle.note_laws.specs.Told.{bare_noted, ImportsOthers}
use Rattle.note_laws.proofs.ToldNotes.{all_told}
use Rattle.note_laws.proofs.MeansHere.{Here, Good, here_more}
use Rattle.note_laws.proofs.GoodMoments.{found_good}
use Rattle.note_laws.proofs.NotedOutcomes.{outcome_is}
use Rattle.note_laws.proofs.NotedAsked.{Part, Near}

-- ---- the form's own notes are those in front

length_mapped : {X Y : Type 0} (f : X → Y) (xs : List X) → length (map f xs) ≡ length xs
length_mapped f [] = refl
length_mapped f (x ∷ xs) = ap suc (length_mapped f xs)

length_both : {X : Type 0} (xs ys : List X) → length (xs ++ ys) ≡ length xs + length ys
length_both [] ys = omega arith
length_both (x ∷ xs) ys = let e = length_both xs ys in omega (arith, e)

take_mapped : {X Y : Type 0} (f : X → Y) (n : ℕ) (xs : List X) → map f (take n xs) ≡ take n (map f xs)
take_mapped f zero xs = refl
take_mapped f (suc n) [] = refl
take_mapped f (suc n) (x ∷ xs) = ap (λ ys. f x ∷ ys) (take_mapped f n xs)

take_front : {X Y : Type 0} (f : X → Y) (xs ys : List X) → take (length xs) (map f (xs ++ ys)) ≡ map f xs
take_front f [] ys = refl
take_front f (x ∷ xs) ys = ap (λ zs. f x ∷ zs) (take_front f xs ys)

own_are : {X Y : Type 0} (f : X → Y) (ns ws ms : List X) (before : ℕ) → before ≡ length ws → map f ms ≡ map f (ns ++ ws) → map f (take (length ms - before) ms) ≡ map f ns
own_are f ns ws ms before b e =
    let l : length ms ≡ length ns + length ws = sym (length_mapped f ms) ∙ (ap length e ∙ (length_mapped f (ns ++ ws) ∙ length_both ns ws)) in
    let k : length ms - before ≡ length ns = omega (arith, l, b) in
    take_mapped f (length ms - before) ms ∙ ((λ j. take (k j) (e j)) ∙ take_front f ns ws)

module _ (w : Around) (e0 : ℕ → Option (Transformer Frames Ident)) (out : IsOutside w.state) (begins : Begins w.state) (others : ImportsOthers w.state) (part : Part w e0) where
  abbrev pub Same : Bound → Bound → Type 0
  Same x y = y ≡ x

  abbrev pub NotesLike : Moment → Frames → List (Note FramedIdent) → List (Note FramedIdent) → Type 0
  NotesLike n e ns ms = (map bare_note ms ≡ map bare_note (ns ++ earlier w (body_around e))) × AllOf (NoteAll (λ (l : FramedIdent). Here w n.locals l.frames)) ms

  -- ---- moments after

  abbrev pub Ready : Moment → Type 0
  Ready n = Good w n × part.holds n

  abbrev pub After : Moment → Moment → Type 0
  After n m = (n.locals ≤ m.locals) × (Ready n → Ready m)

  pub notes_after : (n m : Moment) → n.locals ≤ m.locals → (e : Frames) (ns ms : List (Note FramedIdent)) → NotesLike n e ns ms → NotesLike m e ns ms
  notes_after n m a e ns ms h = (h.0, notes_more (λ (l : FramedIdent). Here w n.locals l.frames) (λ (l : FramedIdent). Here w m.locals l.frames) (λ l q. here_more w n.locals m.locals a l.frames q) ms h.1)

  module _ (n : Moment) (x : Named Ident) (r : Option (Rules Ident)) (e : Frames) where
    same_locals : n.locals ≤ n.locals
    same_locals = omega arith

    suc_locals : n.locals ≤ suc n.locals
    suc_locals = omega arith

    more_locals : (b : Option Number) → n.locals ≤ (found w b x r e n).locals
    more_locals None = same_locals
    more_locals (Some b) = suc_locals

    module _ (def : part.defines e) (he : Here w n.locals e) where
      ready_found : Ready n → Ready (found w (body_around e) x r e n)
      ready_found h = (found_good w n h.0 (body_around e) x r e he, part.makes n e def x r h.1)

      pub after_ended : (p : Pending Ident FramedIdent) (o : Outcome) → After n (ended o w (body_around e) x r e p n).1
      after_ended p Redefines = (same_locals, λ h. h)
      after_ended p StoodBefore = (same_locals, λ h. h)
      after_ended p Stands = (more_locals (body_around e), ready_found)

    module _ (p q : Pending Ident FramedIdent) (l : PendingLike Same (NotesLike n e) p q) where
      abbrev Turned : Moment → Renamed Ident FramedIdent → Renamed Ident FramedIdent → Type 0
      Turned m = RenamedLike Same (NotesLike m e)

      pending_after : (m : Moment) → n.locals ≤ m.locals → PendingLike Same (NotesLike m e) p q
      pending_after m a = record { todo = l.todo; aside = l.aside; uses = l.uses; notes = notes_after n m a e p.notes q.notes l.notes }

      pub made_some : (b : Option Number) (o : Outcome) → (y : Result (Renamed Ident FramedIdent) (Fault Ident)) × Results (Turned (ended o w b x r e p n).1) (ended o w b x r e p n).0 y
      made_some b Redefines = (Err (KeywordRedefined x), refl)
      made_some b StoodBefore = (Err (Duplicate x), refl)
      made_some b Stands = (Ok (unchanged q), (pending_after (found w b x r e n) (more_locals b), refl))

      -- ---- both define

      module _ (asked : List (Moment × Question)) (t : Noting) (z : Near w e0 out begins part (record { moment = n; asked = asked }) t) (f : Frames) (d : SameFrames e f) (he : Here w n.locals e) where
        abbrev asked_by : Option Number → List (Moment × Question)
        asked_by b = dated n (in_unit b (Defines e x r p.notes)) ++ asked

        -- the first after a definition that ends so
        abbrev first : Option Number → Outcome → Result (Renamed Ident FramedIdent) (Fault Ident) × Asking
        first b o = beside (asked_by b) (ended o w b x r e p n)

        abbrev second : Option Number → Outcome → Result (Renamed Ident FramedIdent) (Fault Ident) × Noting
        second b o = define_by o b x r f q (notes.ended b x r f q.notes o t)

        abbrev Go : Option Number → Outcome → Type 0
        Go b o = Results (Turned (first b o).1.moment) (first b o).0 (second b o).0 × Near w e0 out begins part (first b o).1 (second b o).1

        module _ (o : Outcome) (is : unit_outcome w n e x r p.notes ≡ o) (own : map bare_note (own_notes t q.notes) ≡ map bare_note p.notes) where
          -- it is noted
          definition_noted : map bare_noted (notes.ended None x r f q.notes o t).noted ≡ all_told w e0 (asked_by None)
          definition_noted =
              let a = z.since in let c = z.noted in
              λ j. record { behind = length (a j).own; question = Defines (d j) x r (own j); answer = Ends (sym is j) } ∷ c j

          noted_near : Near w e0 out begins part (record { moment = n; asked = asked_by None }) (notes.ended None x r f q.notes o t)
          noted_near = record { leaves = z.leaves; since = z.since; before = z.before; noted = definition_noted; ruled = (tt, z.ruled); good = z.good; holds = z.holds }

        unit_go : (o : Outcome) → unit_outcome w n e x r p.notes ≡ o → map bare_note (own_notes t q.notes) ≡ map bare_note p.notes → part.holds (found w None x r e n) → Go None o
        unit_go Redefines is own h = (refl, noted_near Redefines is own)
        unit_go StoodBefore is own h = (refl, noted_near StoodBefore is own)
        unit_go Stands is own h = (
          (pending_after (found w None x r e n) (more_locals None), refl),
          record {
            leaves = added w n (state_of t) z.leaves e f d None x r;
            since = ap (λ (c : Since). defining c x (is_some r)) z.since;
            before = z.before;
            noted = definition_noted Stands is own;
            ruled = (tt, z.ruled);
            good = found_good w n z.good None x r e he;
            holds = h;
          },
        )

        body_go : (b : Number) (o : Outcome) → part.holds (found w (Some b) x r e n) → Go (Some b) o
        body_go b Redefines h = (refl, z)
        body_go b StoodBefore h = (refl, z)
        body_go b Stands h = (
          (pending_after (found w (Some b) x r e n) (more_locals (Some b)), refl),
          record {
            leaves = added w n (state_of t) z.leaves e f d (Some b) x r;
            since = z.since;
            before = z.before;
            noted = z.noted;
            ruled = z.ruled;
            good = found_good w n z.good (Some b) x r e he;
            holds = h;
          },
        )

        go : (b : Option Number) → (b ≡ None → part.unit) → map bare_note q.notes ≡ map bare_note (p.notes ++ earlier w b) → part.holds (found w b x r e n) → Go b (outcome w n b e x r p.notes)
        go None v c h = unit_go (outcome w n None e x r p.notes) refl (own_are bare_note p.notes w.notes q.notes t.before (z.before (v refl)) c) h
        go (Some b) v c h = body_go b (outcome w n (Some b) e x r p.notes) h

        pub define_near : part.defines e → let y = (noting w.known).define x r f q t in let b = body_around e in Results (Turned (first b (outcome w n b e x r p.notes)).1.moment) (first b (outcome w n b e x r p.notes)).0 y.0 × Near w e0 out begins part (first b (outcome w n b e x r p.notes)).1 y.1
        define_near def =
            let b = body_around e in let o = outcome w n b e x r p.notes in
            let c = body_same e f d in
            let y : (noting w.known).define x r f q t ≡ second b o =
            (λ j. second (c j) (notes.outcome (c j) x r f q t)) ∙ ap (second b) (outcome_is w out begins others n z.good (state_of t) z.leaves x r e f d he b p.notes q.notes l.notes.1 l.notes.0) in
            subst (λ (v : Result (Renamed Ident FramedIdent) (Fault Ident) × Noting). Results (Turned (first b o).1.moment) (first b o).0 v.0 × Near w e0 out begins part (first b o).1 v.1) (sym y) (go b (part.in_unit e def) l.notes.0 (part.makes n e def x r z.holds))
