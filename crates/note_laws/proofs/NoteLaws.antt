-- What an expansion notes of a form's first part, and of its second, is what is to be noted of the form's questions.
use Rattle.std.proofs.Common.{◌≡◌, ℕ, List, [], ◌∷◌, ◌++◌, map, length, true, false, Option, Some, None, Ok, refl, sym, ap, ◌∙◌, subst, arith}
use Rattle.scheme_model.specs.Identifiers.{Number}
use Rattle.scheme_model.specs.Ident.{Ident}
use Rattle.scheme_model.specs.Trees.{Tree}
use Rattle.scheme_model.specs.ExpansionFaults.{Named}
use Rattle.scheme_model.specs.Meaning.{Meaning, Local, Global, Standard, Free}
use Rattle.scheme_model.specs.RulesShape.{Rules}
use Rattle.scheme_model.specs.Order.{Left, Note, LookedUp, Compared, Transformer, is_some, run}
use Rattle.scheme_model.specs.Expression.{meaning_of, expand}
use Rattle.scheme_model.specs.UnitExpansion.{max_depth, one_form}
use Rattle.scheme_model.specs.ScopedExpansion.{Frames, FramedIdent, macro_at, body_around}
use Rattle.scheme_model.specs.OwnAnswers.{own_macro}
use Rattle.scheme_model.specs.Questions.{Moment, Around, at_moment, own_at, found, asking}
use Rattle.scheme_model.specs.FormsAlike.{start, Leaves, finish_by, no_questions, set_aside_asking, questions_of_pass, questions_of_left}
use Rattle.model_laws.proofs.FrameAsks.{AllOf}
use Rattle.model_laws.proofs.FrameHeld.{NoteAll}
use Rattle.model_laws.proofs.EntryLaws.{NoLocal}
use Rattle.form_laws.specs.Begins.{Each, Begins, NoteStands}
use Rattle.form_laws.proofs.Sides.{ItemLike}
use Rattle.form_laws.proofs.SideRuns.{both_itself, item_itself, run_runs}
use Rattle.form_laws.proofs.SideExpressions.{expand_goes, left_parts}
use Rattle.form_laws.proofs.Leaving.{leaves_start}
use Rattle.form_laws.proofs.FormLaws.{no_locals}
use Rattle.form_notes.specs.Noted.{is_own}
use Rattle.question_laws.specs.Noted.{is_defined_in, all_noted, IsClosed}
use Rattle.question_laws.proofs.OwnRuns.{pass_known, left_known}
use Rattle.forgotten_locals.specs.Outside.{IsOutside}
use Rattle.noted_steps.specs.Noting.{noting, begun}
use Rattle.note_laws.specs.Told.{bare_noted, told, since_of, goes_noting, ImportsOthers}
use Rattle.note_laws.proofs.ToldNotes.{since_at, all_noted_told}
use Rattle.note_laws.proofs.MeansHere.{Here, Good}
use Rattle.note_laws.proofs.NotedAsked.{Part, Near}
use Rattle.note_laws.proofs.NotedDefined.{Same}
use Rattle.note_laws.proofs.NotedSides.{fits, sides}

module _ (w : Around) (e0 : ℕ → Option (Transformer Frames Ident)) where
  -- in the first part the rules of macros that are there are asked
  there_own : (n : Moment) (m : Meaning) → NoLocal m → is_some (own_macro (own_at n) (at_moment w n) m) ≡ true → is_some (macro_at (n.macros ++ w.state.macros) m) ≡ true
  there_own n (Local v) l h = absurd l
  there_own n (Global u i) l h = h
  there_own n (Standard x) l h = h
  there_own n (Free x) l h = h

  abbrev first : Part w e0
  first = record {
    holds = λ n. Unit {0};
    defines = λ fs. Unit {0};
    ruled = λ n m. is_some (own_macro (own_at n) (at_moment w n) m) ≡ true;
    unit = Unit {0};
    in_unit = λ fs d e. tt;
    still = λ n m e h. tt;
    makes = λ n fs d x r h. tt;
    inside = λ b fs. tt;
    there = λ n m h. h;
    own = λ n m h l r o. there_own n m l r;
  }

  -- in the second nothing is defined in the unit
  abbrev InBody : Frames → Type 0
  InBody fs = (b : Number) × (body_around fs ≡ Some b)

  made_in_body : (n : Moment) (b : Option Number) → ((c : Number) × (b ≡ Some c)) → (fs : Frames) (x : Named Ident) (r : Option (Rules Ident)) → n.table ≡ [] → (found w b x r fs n).table ≡ []
  made_in_body n None d fs x r h = let q : false ≡ true = ap is_some d.1 in absurd cc
  made_in_body n (Some b) d fs x r h = h

  never_own : (n : Moment) (m : Meaning) → n.table ≡ [] → NoLocal m → is_own (since_at w e0 n) m ≡ true → is_some (macro_at (n.macros ++ w.state.macros) m) ≡ true
  never_own n (Local v) h l o = absurd l
  never_own n (Global u i) h l o = let q : false ≡ true = sym (ap (λ ds. is_defined_in ds u i) h) ∙ o in absurd cc
  never_own n (Standard x) h l o = let q : false ≡ true = o in absurd cc
  never_own n (Free x) h l o = let q : false ≡ true = o in absurd cc

  never_unit : (b : Option Number) → ((c : Number) × (b ≡ Some c)) → b ≡ None → ⊥
  never_unit b d e = let q : true ≡ false = sym (ap is_some d.1) ∙ ap is_some e in absurd cc

  abbrev second : Part w e0
  second = record {
    holds = λ n. n.table ≡ [];
    defines = InBody;
    ruled = λ n m. Unit {0};
    unit = ⊥;
    in_unit = λ fs d e. never_unit (body_around fs) d e;
    still = λ n m e h. e ∙ h;
    makes = λ n fs d x r h. made_in_body n (body_around fs) d fs x r h;
    inside = λ b fs. (b, refl);
    there = λ n m h. tt;
    own = λ n m h l r o. never_own n m h l o;
  }

  module _ (out : IsOutside w.state) (begins : Begins w.state) (closed : IsClosed w.state) (others : ImportsOthers w.state) where
    starts : Good w (start w.state)
    starts = record { uses = omega arith; places = tt; macros = tt; binders = tt }

    begin_near : (part : Part w e0) → part.holds (start w.state) → (before : ℕ) → (part.unit → before ≡ length w.notes) → Near w e0 out begins part (no_questions w) (begun before (since_of w e0) w.state)
    begin_near part h before b = record { leaves = leaves_start w (start w.state) refl; since = refl; before = b; noted = refl; ruled = tt; good = starts; holds = h }

    -- ---- the first part

    notes_here : (ns : List (Note FramedIdent)) → Each (NoteStands w.state) ns → AllOf (NoteAll (λ (l : FramedIdent). Here w (start w.state).locals l.frames)) ns
    notes_here [] h = tt
    notes_here (n ∷ ns) h = (go n h.0, notes_here ns h.1)
      where
        place : (l : FramedIdent) → l.frames ≡ [] → Here w (start w.state).locals l.frames
        place l e = subst (Here w (start w.state).locals) (sym e) tt

        go : (n : Note FramedIdent) → NoteStands w.state n → NoteAll (λ (l : FramedIdent). Here w (start w.state).locals l.frames) n
        go (LookedUp l head keyword) q = place l q.0
        go (Compared l j held) q = (place l q.0.0, place j q.1.0)

    goes_near : (turns : ℕ) (t : Tree Ident) → Each (NoteStands w.state) w.notes
        → Near w e0 out begins first (set_aside_asking w turns t).1 (run (noting w.known) turns [] (one_form t w.notes) (begun (length w.notes) (since_of w e0) w.state)).1
    goes_near turns t ns =
        let k = sides w e0 out begins others first in
        let law = run_runs (asking w) (noting w.known) (fits w e0 out begins others first) k [] [] tt turns (one_form t []) (one_form t w.notes) (no_questions w) (refl, ((starts, tt), tt))
        (record { todo = refl; aside = tt; uses = refl; notes = (refl, notes_here w.notes ns) }) in
        (law.same (begun (length w.notes) (since_of w e0) w.state) (begin_near first tt (length w.notes) (λ u. refl)) tt).1

    pub pass_noted : (turns : ℕ) (t : Tree Ident) → Each (NoteStands w.state) w.notes
        → map bare_noted (run (noting w.known) turns [] (one_form t w.notes) (begun (length w.notes) (since_of w e0) w.state)).1.noted ≡ map (told w) (all_noted w (questions_of_pass w turns t))
    pass_noted turns t ns =
        let x = goes_near turns t ns in
        let made = pass_known w (no_locals w begins) turns t in
        x.noted ∙ all_noted_told w e0 begins (no_locals w begins) closed (questions_of_pass w turns t) (questions_of_pass w turns t) made.1 x.ruled

    pub pass_leaves : (turns : ℕ) (t : Tree Ident) → Each (NoteStands w.state) w.notes → Leaves w (set_aside_asking w turns t).1.moment (goes_noting w turns t e0).0
    pass_leaves turns t ns = (goes_near turns t ns).leaves

    -- ---- the second part

    pub left_noted : (turns before : ℕ) (l : Left Ident) → map bare_noted (finish_by (noting w.known) turns [] (Ok l) (begun before (since_of w e0) w.state)).1.noted ≡ map (told w) (all_noted w (questions_of_left w turns (Ok l)))
    left_noted turns before l =
        let k = sides w e0 out begins others second in
        let law = left_parts (asking w) (noting w.known) (fits w e0 out begins others second) k (λ s m. tt) (expand (asking w) turns) (expand (noting w.known) turns)
        (expand_goes (asking w) (noting w.known) (fits w e0 out begins others second) k (λ s m. tt) turns) (Same w e0 out begins others second) (λ x y d i. ap (λ b. meaning_of b i) d) max_depth [] [] l l
        (refl, both_itself (ItemLike (Same w e0 out begins others second)) (item_itself (Same w e0 out begins others second) (λ b. refl)) l.items) (no_questions w) (refl, ((starts, refl), tt)) in
        let x = (law.same (begun before (since_of w e0) w.state) (begin_near second refl before (λ u. absurd u)) tt).1 in
        let made = left_known w (no_locals w begins) turns l in
        x.noted ∙ all_noted_told w e0 begins (no_locals w begins) closed (questions_of_left w turns (Ok l)) (questions_of_left w turns (Ok l)) made.1 x.ruled
