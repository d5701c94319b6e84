-- The next definition of a form that is declared again: what a note of it tells, and that all goes on behind it.
use Rattle.std.proofs.Common.{◌≡◌, ℕ, zero, suc, ◌+◌, List, [], ◌∷◌, ◌++◌, slice_get, drop, true, cond, Option, Some, None, refl, sym, ap, ◌∙◌, subst, arith}
use Rattle.scheme_model.specs.Meaning.{Global}
use Rattle.scheme_model.specs.Order.{Note, is_some}
use Rattle.scheme_model.specs.ScopedExpansion.{Frames, FramedIdent, is_defined, macro_added}
use Rattle.scheme_model.specs.Questions.{Moment, Around, found, Outcome, Stands, unit_outcome, Question, answer, Ends}
use Rattle.form_laws.specs.Begins.{Each}
use Rattle.forgotten_locals.specs.Outside.{macros_outside}
use Rattle.syntax_tree.specs.declared.trees.Work.{Work}
use Rattle.core_tree.specs.Names.{AllMatch}
use Rattle.form_notes.specs.Noted.{Since}
use Rattle.form_notes.specs.Standing.{outcome_as}
use Rattle.form_notes.specs.declared.notes.Definition.{Definition}
use Rattle.form_notes.specs.declared.notes.Note as code_note
use Rattle.form_notes.specs.declared.notes.Outcome as code_outcome
use Rattle.form_notes.specs.declared.notes.Outcome.TheVariants as outcomes
use Rattle.unit_scopes.specs.Defining.{outcome_here}
use Rattle.unit_scopes.specs.declared.scope.UnitScope.{UnitScope}
use Rattle.note_laws.specs.Told.{since_of}
use Rattle.note_laws.specs.Moments.{IsBefore}
use Rattle.note_laws.specs.Tested.{is_definition}
use Rattle.declared_again.specs.Endings.{IsEarlier, NoteAtRoot}
use Rattle.declared_parts.specs.Again.{moment_of, own_notes, noted_of, SameLater, CanDeclare}
use Rattle.declared_parts.specs.Going.{Tells, note_of, settled, GoesOn, HasMacro, IsNext, KeptFrom}
use Rattle.declared_parts.specs.Parts.{IsKeptMacro, keyword_made, keyword_notes}
use Rattle.declared_parts.specs.declared.again.Going.{Going}
use Rattle.declared_parts.specs.declared.parts.DeclaredPart.{DeclaredPart}
use Rattle.declared_parts.specs.declared.parts.KeptMacro.{KeptMacro}
use Rattle.declared_parts.proofs.EachLaws.{each_contained, each_both, each_behind}
use Rattle.declared_parts.proofs.FormFacts.{befores, definitions, as_many}
use Rattle.declared_parts.proofs.NextMoments.{IfDefinition, IsDefinitionIn, found_macros}
use Rattle.declared_parts.proofs.OwnLaws.{own_root, unit_root}
use Rattle.declared_parts.proofs.SameEnds.{IsOf, ended, told_definition, ends_here}
use Rattle.unit_scopes.proofs.MadeLaws.{stands_so}

-- ---- macros that are left

abbrev head_in : {X : Type 0} → List X → Option X
head_in [] = None
head_in (x ∷ xs) = Some x

abbrev tail_in : {X : Type 0} → List X → List X
tail_in [] = []
tail_in (x ∷ xs) = xs

drop_first : {X : Type 0} (xs : List X) (n : ℕ) (x : X) (ys : List X) → drop n xs ≡ x ∷ ys → (slice_get xs n ≡ Some x) × (drop (suc n) xs ≡ ys)
drop_first [] zero x ys e = absurd cc
drop_first [] (suc n) x ys e = absurd cc
drop_first (z ∷ xs) zero x ys e = (ap head_in e, ap tail_in e)
drop_first (z ∷ xs) (suc n) x ys e = drop_first xs n x ys e

first_matched : {X Y : Type 0} (P : X → Y → Type 0) (xs : List X) (y : Y) (ys : List Y) → AllMatch P xs (y ∷ ys) → (x : X) × (l : List X) × (xs ≡ x ∷ l) × P x y × AllMatch P l ys
first_matched P [] y ys h = absurd h
first_matched P (x ∷ l) y ys h = (x, l, refl, h.0, h.1)

module _ (work : Work) (old : UnitScope) (number : ℕ) (part : DeclaredPart) (can : CanDeclare work old number part) where
  abbrev w : Around
  w = can.again.before

  abbrev v : Around
  v = can.again.now

  abbrev r : Since
  r = since_of w can.editions

  abbrev Kept : KeptMacro → code_note.Note → Type 0
  Kept = IsKeptMacro work r can.kept.noted

  keywords_if : (x : code_note.Note) (xs : List code_note.Note) (o : Option ℕ) → keyword_made x.question ≡ o → keyword_notes (x ∷ xs) ≡ cond (is_some o) (x ∷ keyword_notes xs) (keyword_notes xs)
  keywords_if x xs o e = ap (λ (p : Option ℕ). cond (is_some p) (x ∷ keyword_notes xs) (keyword_notes xs)) e

  -- a note that isn't of a keyword takes none
  pub kept_past : (x : code_note.Note) (xs : List code_note.Note) (n : ℕ) → keyword_made x.question ≡ None → KeptFrom work old number part can n (x ∷ xs) → KeptFrom work old number part can n xs
  kept_past x xs n none h = subst (AllMatch Kept (drop n part.macros)) (keywords_if x xs None none) h

  -- one of a keyword takes the next
  pub kept_next : (x : code_note.Note) (xs : List code_note.Note) (n i : ℕ) → keyword_made x.question ≡ Some i → KeptFrom work old number part can n (x ∷ xs) →
      (k : KeptMacro) × (slice_get part.macros n ≡ Some k) × Kept k x × KeptFrom work old number part can (n + 1) xs
  kept_next x xs n i some h =
      let g = first_matched Kept (drop n part.macros) x (keyword_notes xs) (subst (AllMatch Kept (drop n part.macros)) (keywords_if x xs (Some i) some) h) in
      let d = drop_first part.macros n g.0 g.1 g.2 in
      let next : suc n ≡ n + 1 = omega arith in
      (g.0, d.0, g.3, subst (λ (m : ℕ). KeptFrom work old number part can m xs) next (subst (λ (l : List KeptMacro). AllMatch Kept l (keyword_notes xs)) (sym d.1) g.4))

  -- ---- what a note of a definition tells

  module _ (u : UnitScope) (g : Going) (made : ℕ) (h : GoesOn work old number part can u g made) (d : Definition) where
    abbrev pub of : (o : code_outcome.Outcome) (q : Moment × Question) → Tells work old number part can (note_of d o made) q → IsOf work.symbols d w q (outcome_as o)
    of o q t = told_definition work.symbols r d o w q.0 q.1 t.1.1

    -- as many were made by then
    pub then_made : (o : code_outcome.Outcome) (q : Moment × Question) → Tells work old number part can (note_of d o made) q → (q.0.table ≡ h.moment.table) × (macros_outside q.0.macros ≡ macros_outside h.moment.macros)
    then_made o q t =
        as_many (moment_of can.again) q.0 h.moment (each_contained (λ (p : Moment × Question). IsBefore p.0 (moment_of can.again)) (noted_of can.again) (befores can.again can.comes) q t.0) h.before (sym t.1.0 ∙ sym h.count)

    abbrev Ending : (q : Moment × Question) (o : Outcome) → IsOf work.symbols d w q o → Type 0
    Ending q o f = IsDefinitionIn w (moment_of can.again) (own_notes can.again) q.0 f.frames f.name f.rules f.notes

    pub ending : (o : code_outcome.Outcome) (q : Moment × Question) (t : Tells work old number part can (note_of d o made) q) → Ending q (outcome_as o) (of o q t)
    ending o q t =
        let f = of o q t in
        subst (λ (p : Question). IfDefinition w (moment_of can.again) (own_notes can.again) (q.0, p)) f.question (each_contained (IfDefinition w (moment_of can.again) (own_notes can.again)) (noted_of can.again) (definitions can.again can.comes) q t.0)

    notes_at_root : (ns : List (Note FramedIdent)) → IsEarlier ns (own_notes can.again) → Each NoteAtRoot (ns ++ v.notes)
    notes_at_root ns early =
        let all = own_root work.symbols part.asked (own_notes can.again) can.kept.part.asked in
        each_both NoteAtRoot ns v.notes (each_behind NoteAtRoot early.0 ns (subst (Each NoteAtRoot) early.1 all)) (unit_root v.notes can.comes.notes)

    -- how it ends here is how it ends by the question
    pub same_end : (o : code_outcome.Outcome) (q : Moment × Question) (t : Tells work old number part can (note_of d o made) q) →
        let f = of o q t in outcome_here None f.name f.rules [] (f.notes ++ v.notes) (settled v h.moment) ≡ unit_outcome v q.0 f.frames f.name f.rules f.notes
    same_end o q t =
        let f = of o q t in let e = ending o q t in let m = then_made o q t in
        ends_here v can.comes.imports can.comes.entries q.0 h.moment e.root m.0 m.1 f.name f.rules f.notes (notes_at_root f.notes e.notes)
        ∙ ap (λ (fs : Frames). unit_outcome v q.0 fs f.name f.rules f.notes) (sym e.frames)

    -- so it has its answer exactly where it ends here as it did
    pub ends_same : (o : code_outcome.Outcome) (q : Moment × Question) (t : Tells work old number part can (note_of d o made) q) →
        let f = of o q t in outcome_here None f.name f.rules [] (f.notes ++ v.notes) (settled v h.moment) ≡ outcome_as o → SameLater w v q
    ends_same o q t e = λ so.
        let f = of o q t in
        let there : unit_outcome v q.0 f.frames f.name f.rules f.notes ≡ unit_outcome w q.0 f.frames f.name f.rules f.notes = sym (same_end o q t) ∙ (e ∙ sym f.ends) in
        (λ j. answer v q.0 (f.question j)) ∙ (ap Ends there ∙ sym (λ j. answer w q.0 (f.question j)))

    pub same_ends : (o : code_outcome.Outcome) (q : Moment × Question) (t : Tells work old number part can (note_of d o made) q) → SameLater w v q →
        let f = of o q t in outcome_here None f.name f.rules [] (f.notes ++ v.notes) (settled v h.moment) ≡ outcome_as o
    same_ends o q t same =
        let f = of o q t in
        let now = same (λ s. ap is_definition f.question) in
        let there : Ends (unit_outcome v q.0 f.frames f.name f.rules f.notes) ≡ Ends (unit_outcome w q.0 f.frames f.name f.rules f.notes) = sym (λ j. answer v q.0 (f.question j)) ∙ (now ∙ (λ j. answer w q.0 (f.question j))) in
        same_end o q t ∙ (ap ended there ∙ f.ends)

    -- ---- it is the next one

    pub is_next : (q : Moment × Question) (t : Tells work old number part can (note_of d outcomes.Stands made) q) → let f = of outcomes.Stands q t in outcome_here None f.name f.rules [] (f.notes ++ v.notes) (settled v h.moment) ≡ Stands →
        HasMacro work can.editions (slice_get part.macros g.macros) d.keyword f.rules → ((k : KeptMacro) → slice_get part.macros g.macros ≡ Some k → d.keyword ≡ true → k.ident ≡ d.ident) →
        IsNext work can.again can.editions h.moment d (slice_get part.macros g.macros)
    is_next q t stands macro named =
        let f = of outcomes.Stands q t in let e = ending outcomes.Stands q t in let m = then_made outcomes.Stands q t in
        let unit = can.comes.same.form.unit in let form = can.comes.same.form.form in
        record {
          name = f.name;
          rules = f.rules;
          is = (f.is.name, f.is.place);
          keyword = f.is.keyword;
          macro = macro;
          named = named;
          new = (stands_so _ (is_defined (settled v h.moment) None f.name.name) stands).1;
          after = found w None f.name f.rules f.frames q.0;
          before = e.next f.ends;
          table = λ j. record { unit = sym unit j; form = sym form j; ident = f.name.name; keyword = is_some f.rules; occ = f.name.occ } ∷ m.0 j;
          macros = found_macros w f.name f.rules f.frames q.0 (macros_outside h.moment.macros) m.1 ∙ (λ j. macro_added (Global (sym unit j) f.name.name) (e.frames j) f.rules (macros_outside h.moment.macros));
        }
