-- All notes of a form tell what they told, and all its definitions are made again; or one doesn't.
use Rattle.std.proofs.Common.{drop, take, get_or, Ok}
use Rattle.std.proofs.Common.{◌≡◌, inl, inr, ℕ, zero, suc, ◌+◌, ◌<◌, ◌≤◌, List, [], ◌∷◌, ◌++◌, map, length, true, false, None, Contains, length-append, refl, sym, ap, ◌∙◌, subst, arith}
use Rattle.std.specs.List.{All}
use Rattle.std.proofs.lemmas.List.{at_drop_more, drop_all, take_all}
use Rattle.std.proofs.lemmas.List.Elements.{All-more, All-contains, Contains-get_or}
use Rattle.scheme_model.specs.Questions.{Moment, Around, found, Outcome, Stands, Question, LooksUp, UsesRules, Compares, IsAssigned, Requires, Defines, answer, unit_outcome}
use Rattle.scheme_model.specs.Substitution.{Table}
use Rattle.scheme_model.specs.ScopedExpansion.{ScopedMacro}
use Rattle.forgotten_locals.specs.Outside.{macros_outside}
use Rattle.syntax_tree.specs.Names.{Names}
use Rattle.syntax_tree.specs.declared.trees.Work.{Work}
use Rattle.core_tree.specs.Names.{AllMatch}
use Rattle.form_notes.specs.Noted.{Since}
use Rattle.form_notes.specs.Standing.{IsNote, IsQuestion, IsAsked, HaveNotes, RisesTo, stood}
use Rattle.form_notes.specs.declared.notes.Note as code_note
use Rattle.form_notes.specs.declared.notes.Outcome as code_outcome
use Rattle.form_notes.specs.declared.notes.Outcome.TheVariants as outcomes
use Rattle.form_notes.specs.declared.notes.Question as code_question
use Rattle.form_notes.specs.declared.notes.Question.TheVariants as code
use Rattle.unit_scopes.specs.declared.scope.UnitScope.{UnitScope}
use Rattle.note_laws.specs.Moments.{IsBefore, IsEnd}
use Rattle.note_laws.specs.Told.{bare_question, told, since_of}
use Rattle.note_laws.proofs.BareNotes.{notes_bare}
use Rattle.declared_parts.specs.Again.{moment_of, own_notes, noted_of, AreSameLater, SameLater, CanDeclare}
use Rattle.declared_parts.specs.Going.{Tells, TellsSame, TellsOther, GoesOn, KeptFrom, HasGoneBy, HasGone}
use Rattle.declared_parts.specs.Parts.{IsKeptMacro}
use Rattle.declared_parts.specs.declared.again.Going.{Going}
use Rattle.declared_parts.specs.declared.parts.DeclaredPart.{DeclaredPart}
use Rattle.declared_parts.proofs.EachLaws.{each_contained, contained_each, contained_map, map_contained}
use Rattle.declared_parts.proofs.FormFacts.{definitions, last, as_many}
use Rattle.declared_parts.proofs.LaterNotes.{none_is_told}
use Rattle.declared_parts.proofs.NextMoments.{IfDefinition, HasLast, IsLast}
use Rattle.declared_parts.proofs.NumbersKept.{all_editions}
use Rattle.declared_parts.proofs.SameEnds.{told_definition, same_code}

-- ---- definitions that are made along the notes

rises : (xs : List code_note.Note) (a b : ℕ) → RisesTo xs a b → a ≤ b
rises [] a b h = subst (λ n. a ≤ n) h (omega arith)
rises (x ∷ xs) a b h = let rest = rises xs (a + stood x.question) b h.1 in omega (arith, rest)

-- how many are made behind a note that a definition stands
abbrev StoodBy : code_question.Question → ℕ → Type 0
StoodBy (code.Lookup i m k) n = ⊥
StoodBy (code.Literal l i b) n = ⊥
StoodBy (code.Rules m e) n = ⊥
StoodBy (code.Assigned i b) n = ⊥
StoodBy (code.Library l b) n = ⊥
StoodBy (code.Definition d outcomes.Stands) n = Unit {0}
StoodBy (code.Definition d outcomes.Redefines) n = ⊥
StoodBy (code.Definition d outcomes.StoodBefore) n = ⊥

here_past : (q : code_question.Question) (a behind b : ℕ) → StoodBy q behind → IsAsked q a behind → a + stood q ≤ b → suc behind ≤ b
here_past (code.Lookup i m k) a n b h e le = absurd h
here_past (code.Literal l i t) a n b h e le = absurd h
here_past (code.Rules m t) a n b h e le = absurd h
here_past (code.Assigned i t) a n b h e le = absurd h
here_past (code.Library l t) a n b h e le = absurd h
here_past (code.Definition d outcomes.Stands) a n b h e le = omega (arith, e, le)
here_past (code.Definition d outcomes.Redefines) a n b h e le = absurd h
here_past (code.Definition d outcomes.StoodBefore) a n b h e le = absurd h

rises_past : (xs : List code_note.Note) (a b : ℕ) → RisesTo xs a b → (x : code_note.Note) → Contains xs x → StoodBy x.question x.behind → suc x.behind ≤ b
rises_past [] a b h x c s = let l : c.0 < 0 = c.1 in absurd (omega (arith, l))
rises_past (y ∷ ys) a b h x (zero, l, p) s =
    subst (λ (z : code_note.Note). suc z.behind ≤ b) p (here_past y.question a y.behind b (subst (λ (z : code_note.Note). StoodBy z.question z.behind) (sym p) s) h.0 (rises ys (a + stood y.question) b h.1))
rises_past (y ∷ ys) a b h x (suc k, l, p) s = let j : suc k < suc (length ys) = l in rises_past ys (a + stood y.question) b h.1 x (k, omega (arith, j), p) s

end_few : {X : Type 0} (xs ys : List X) → IsEnd xs ys → length xs ≤ length ys
end_few {X} xs ys h = subst (λ (l : List X). length xs ≤ length l) (sym h.1) (front h.0)
  where
    front : (zs : List X) → length xs ≤ length (zs ++ xs)
    front zs = let long = length-append zs xs in omega (arith, long)

abbrev outcome_in : Around → Moment → Question → Outcome
outcome_in w n (LooksUp i) = Stands
outcome_in w n (UsesRules m) = Stands
outcome_in w n (Compares l i) = Stands
outcome_in w n (IsAssigned i) = Stands
outcome_in w n (Requires l) = Stands
outcome_in w n (Defines fs x r ns) = unit_outcome w n fs x r ns

pub true_false : true ≡ false → ⊥
true_false h = cc

end_whole : {X : Type 0} (xs ys : List X) → IsEnd xs ys → length xs ≡ length ys → ys ≡ xs
end_whole {X} xs ys h e = by h.0 h.1
  where
    by : (zs : List X) → ys ≡ zs ++ xs → ys ≡ xs
    by [] is = is
    by (z ∷ zs) is = let long = length-append zs xs in let all : length ys ≡ suc (length (zs ++ xs)) = ap (λ (l : List X). length l) is in absurd (omega (arith, long, all, e))

end_none : {X : Type 0} (xs ys : List X) → IsEnd xs ys → ys ≡ [] → ys ≡ xs
end_none {X} xs ys h none = by h.0 h.1
  where
    by : (zs : List X) → ys ≡ zs ++ xs → ys ≡ xs
    by [] is = is
    by (z ∷ zs) is = let never : z ∷ (zs ++ xs) ≡ [] = sym is ∙ none in absurd cc

-- ---- notes and questions

module _ (work : Work) (old : UnitScope) (number : ℕ) (part : DeclaredPart) (can : CanDeclare work old number part) where
  abbrev w : Around
  w = can.again.before

  abbrev r : Since
  r = since_of w can.editions

  have : HaveNotes work.symbols r part.notes (map (told w) (noted_of can.again))
  have = subst (HaveNotes work.symbols r part.notes) can.kept.told ((notes_bare work.symbols r part.notes can.kept.noted).0 can.kept.part.notes)

  -- each note tells a question, and each question is told
  pub some_told : (x : code_note.Note) → Contains part.notes x → (q : Moment × Question) × Tells work old number part can x q
  some_told x there =
      let m = have.alone x there in
      let q = map_contained (told w) (noted_of can.again) m.0 m.1 in
      (q.0, (q.1, subst (IsNote work.symbols r x) (sym q.2) m.2))

  some_note : (q : Moment × Question) → Contains (noted_of can.again) q → (x : code_note.Note) × Contains part.notes x × Tells work old number part can x q
  some_note q there = let x = have.all (told w q) (contained_map (told w) (noted_of can.again) q there) in (x.0, x.1, (there, x.2))

  pub all_same : ((x : code_note.Note) → Contains part.notes x → TellsSame work old number part can x) → AreSameLater can.again
  all_same all = contained_each (SameLater w can.again.now) (noted_of can.again) (λ q there. let x = some_note q there in all x.0 x.1 q x.2)

  pub one_other : (x : code_note.Note) → Contains part.notes x → TellsOther work old number part can x → AreSameLater can.again → ⊥
  one_other x there other all = let q = some_told x there in other q.0 q.1 (each_contained (SameLater w can.again.now) (noted_of can.again) all q.0 q.1.0)

  -- ---- all are made

  last_long : (ts : Table) (ks : List ScopedMacro) (n : Moment) (q : Question) → IsLast w ts ks (n, q) → suc (length n.table) ≡ length ts
  last_long ts ks n (LooksUp i) h = absurd h
  last_long ts ks n (UsesRules k) h = absurd h
  last_long ts ks n (Compares l i) h = absurd h
  last_long ts ks n (IsAssigned i) h = absurd h
  last_long ts ks n (Requires l) h = absurd h
  last_long ts ks n (Defines fs x rs ns) h = h.1

  stood_so : (names : Names) (x : code_question.Question) (behind : ℕ) (n : Moment) (q : Question) (ts : Table) (ks : List ScopedMacro) → IsLast w ts ks (n, q) → IsQuestion names r x (bare_question q) (answer w n q) → StoodBy x behind
  stood_so names x behind n (LooksUp i) ts ks h e = absurd h
  stood_so names x behind n (UsesRules k) ts ks h e = absurd h
  stood_so names x behind n (Compares l i) ts ks h e = absurd h
  stood_so names x behind n (IsAssigned i) ts ks h e = absurd h
  stood_so names x behind n (Requires l) ts ks h e = absurd h
  stood_so names (code.Lookup i m k) behind n (Defines fs y rs ns) ts ks h e = absurd (true_false (none_is_told names r (code.Lookup i m k) w (n, Defines fs y rs ns) refl e))
  stood_so names (code.Literal l i b) behind n (Defines fs y rs ns) ts ks h e = absurd (true_false (none_is_told names r (code.Literal l i b) w (n, Defines fs y rs ns) refl e))
  stood_so names (code.Rules m t) behind n (Defines fs y rs ns) ts ks h e = absurd (true_false (none_is_told names r (code.Rules m t) w (n, Defines fs y rs ns) refl e))
  stood_so names (code.Assigned i b) behind n (Defines fs y rs ns) ts ks h e = absurd (true_false (none_is_told names r (code.Assigned i b) w (n, Defines fs y rs ns) refl e))
  stood_so names (code.Library l b) behind n (Defines fs y rs ns) ts ks h e = absurd (true_false (none_is_told names r (code.Library l b) w (n, Defines fs y rs ns) refl e))
  stood_so names (code.Definition d o) behind n (Defines fs y rs ns) ts ks h e =
      let f = told_definition names r d o w n (Defines fs y rs ns) e in
      let stands : o ≡ outcomes.Stands = same_code o outcomes.Stands (sym f.ends ∙ (sym (ap (outcome_in w n) f.question) ∙ h.0)) in
      subst (λ (p : code_outcome.Outcome). StoodBy (code.Definition d p) behind) (sym stands) tt

  -- a form has made as many as its notes tell
  pub as_many_made : (u : UnitScope) (g : Going) (made : ℕ) → GoesOn work old number part can u g made → made ≡ can.kept.part.made → made ≡ length (moment_of can.again).table
  as_many_made u g made h end =
      let few = end_few h.moment.table (moment_of can.again).table h.before.table in
      let count = h.count in
      by few count (last can.again can.comes)
    where
      by : length h.moment.table ≤ length (moment_of can.again).table → length h.moment.table ≡ made → HasLast w (noted_of can.again) (moment_of can.again).table (macros_outside (moment_of can.again).macros) → made ≡ length (moment_of can.again).table
      by few count (inl none) = let empty = none.0 in omega (arith, few, count, empty)
      by few count (inr q) =
          let x = some_note q.0 q.1 in
          let past = rises_past part.notes 0 can.kept.part.made can.kept.part.order x.0 x.1 (stood_so work.symbols x.0.question x.0.behind q.0.0 q.0.1 (moment_of can.again).table (macros_outside (moment_of can.again).macros) q.2 x.2.1.1) in
          let behind : x.0.behind ≡ length q.0.0.table = x.2.1.0 in
          let long = last_long (moment_of can.again).table (macros_outside (moment_of can.again).macros) q.0.0 q.0.1 q.2 in
          omega (arith, few, count, past, behind, long, end)

  -- then it is at the form's last moment, but for what is local
  is_whole : (m : Moment) → IsBefore m (moment_of can.again) → length m.table ≡ length (moment_of can.again).table → HasLast w (noted_of can.again) (moment_of can.again).table (macros_outside (moment_of can.again).macros) →
      ((moment_of can.again).table ≡ m.table) × (macros_outside (moment_of can.again).macros ≡ macros_outside m.macros)
  is_whole m before count (inl none) =
      (end_whole m.table (moment_of can.again).table before.table count, end_none (macros_outside m.macros) (macros_outside (moment_of can.again).macros) before.macros none.1)
  is_whole m before count (inr q) = by q.0.1 q.2 (each_contained (IfDefinition w (moment_of can.again) (own_notes can.again)) (noted_of can.again) (definitions can.again can.comes) q.0 q.1)
    where
      by : (p : Question) → IsLast w (moment_of can.again).table (macros_outside (moment_of can.again).macros) (q.0.0, p) → IfDefinition w (moment_of can.again) (own_notes can.again) (q.0.0, p) →
          ((moment_of can.again).table ≡ m.table) × (macros_outside (moment_of can.again).macros ≡ macros_outside m.macros)
      by (LooksUp i) l d = absurd l
      by (UsesRules k) l d = absurd l
      by (Compares a i) l d = absurd l
      by (IsAssigned i) l d = absurd l
      by (Requires a) l d = absurd l
      by (Defines fs x rs ns) l d =
          let n = found w None x rs fs q.0.0 in
          let same = as_many (moment_of can.again) n m (d.next l.0) before (l.1 ∙ sym count) in
          (end_whole m.table (moment_of can.again).table before.table count, sym l.2 ∙ same.1)

  pub whole : (u : UnitScope) (g : Going) (h : GoesOn work old number part can u g (length (moment_of can.again).table)) → ((moment_of can.again).table ≡ h.moment.table) × (macros_outside (moment_of can.again).macros ≡ macros_outside h.moment.macros)
  whole u g h = is_whole h.moment h.before h.count (last can.again can.comes)

-- ---- note by note

-- so many notes have told what they told
pub record SoFar (work : Work) (old : UnitScope) (number : ℕ) (part : DeclaredPart) (can : CanDeclare work old number part) (u : UnitScope) (g : Going) (k : ℕ) : Type 0 where
  pub made : ℕ
  pub goes : GoesOn work old number part can u g made
  pub rises : RisesTo (drop k part.notes) made can.kept.part.made
  pub kept : KeptFrom work old number part can g.macros (drop k part.notes)
  pub same : All (TellsSame work old number part can) (take k part.notes)

module _ (work : Work) (old : UnitScope) (number : ℕ) (part : DeclaredPart) (can : CanDeclare work old number part) where
  -- none
  pub first_so_far : (u : UnitScope) (g : Going) → GoesOn work old number part can u g 0 → g.macros ≡ 0 → SoFar work old number part can u g 0
  first_so_far u g h none = record {
    made = 0;
    goes = h;
    rises = can.kept.part.order;
    kept = subst (λ (n : ℕ). KeptFrom work old number part can n part.notes) (sym none) can.kept.part.macros;
    same = λ k d lt. absurd (omega (arith, lt));
  }

  -- the next one
  module _ (k : ℕ) (x : code_note.Note) (at : k < length part.notes) (is : x ≡ get_or part.notes k x) where
    there : Contains part.notes x
    there = subst (Contains part.notes) (sym is) (Contains-get_or part.notes k x at)

    rest : drop k part.notes ≡ x ∷ drop (k + 1) part.notes
    rest = at_drop_more (λ (l : List code_note.Note). l) part.notes k x at ∙ ap (λ (y : code_note.Note). y ∷ drop (k + 1) part.notes) (sym is)

    module _ (u : UnitScope) (g : Going) (s : SoFar work old number part can u g k) where
      rises_here : RisesTo (x ∷ drop (k + 1) part.notes) s.made can.kept.part.made
      rises_here = subst (λ (l : List code_note.Note). RisesTo l s.made can.kept.part.made) rest s.rises

      pub asked_here : IsAsked x.question s.made x.behind
      asked_here = rises_here.0

      pub kept_here : KeptFrom work old number part can g.macros (x ∷ drop (k + 1) part.notes)
      kept_here = subst (KeptFrom work old number part can g.macros) rest s.kept

      pub told_here : (q : Moment × Question) × Tells work old number part can x q
      told_here = some_told work old number part can x there

      pub next_so_far : (v : UnitScope) (e : Going) → HasGoneBy work old number part can x (drop (k + 1) part.notes) s.made v e (Ok true) → SoFar work old number part can v e (k + 1)
      next_so_far v e h = record {
        made = s.made + stood x.question;
        goes = h.1;
        rises = rises_here.1;
        kept = h.2;
        same = All-more (TellsSame work old number part can) part.notes k x at s.same (subst (TellsSame work old number part can) is h.0);
      }

      pub ends_so_far : (v : UnitScope) (e : Going) → HasGoneBy work old number part can x (drop (k + 1) part.notes) s.made v e (Ok false) → HasGone work old number part can v e (Ok false)
      ends_so_far v e h = (one_other work old number part can x there h.0, (s.made, h.1))

  all_matched : {X Y : Type 0} (P : X → Y → Type 0) (xs : List X) → AllMatch P xs [] → xs ≡ []
  all_matched P [] h = refl
  all_matched P (x ∷ xs) h = absurd h

  -- all
  pub all_so_far : (k : ℕ) (u : UnitScope) (g : Going) → length part.notes ≤ k → SoFar work old number part can u g k → HasGone work old number part can u g (Ok true)
  all_so_far k u g end s =
      let none : drop k part.notes ≡ [] = drop_all k part.notes end in
      let made : s.made ≡ can.kept.part.made = subst (λ (l : List code_note.Note). RisesTo l s.made can.kept.part.made) none s.rises in
      let whole : take k part.notes ≡ part.notes = take_all k part.notes end in (
        all_same work old number part can (λ x c. All-contains (TellsSame work old number part can) part.notes x (subst (All (TellsSame work old number part can)) whole s.same) c),
        subst (GoesOn work old number part can u g) (as_many_made work old number part can u g s.made s.goes made) s.goes,
        all_editions part u g.macros s.goes.given (all_matched (IsKeptMacro work (since_of can.again.before can.editions) can.kept.noted) (drop g.macros part.macros) (subst (KeptFrom work old number part can g.macros) none s.kept)),
      )
