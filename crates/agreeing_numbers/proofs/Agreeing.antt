-- Two renumberings that make the same of what is around a form make the same of what it asks and of the answers.
use Rattle.std.proofs.Common.{◌≡◌, ℕ, List, [], ◌∷◌, ◌++◌, map, Bool, true, false, cond, Option, Some, None, Result, refl, sym, ap, ◌∙◌, subst, eq-eqb}
use Rattle.std.specs.Prelude.{◌&&◌, ◌==◌}
use Rattle.std.proofs.lemmas.Bool.{eqb-true}
use Rattle.scheme_model.specs.Identifiers.{Number}
use Rattle.scheme_model.specs.Ident.{Ident}
use Rattle.scheme_model.specs.Trees.{Tree}
use Rattle.scheme_model.specs.Meaning.{Meaning}
use Rattle.scheme_model.specs.RulesShape.{option_map}
use Rattle.scheme_model.specs.Cores.{Parts}
use Rattle.scheme_model.specs.Steps.{Broken}
use Rattle.scheme_model.specs.Order.{Left, Pass, Note, LookedUp, Compared}
use Rattle.scheme_model.specs.Substitution.{Table, Entries, definition_count}
use Rattle.scheme_model.specs.ScopedExpansion.{Frame, Bind, Enter, Frames, FramedIdent, ScopedMacro}
use Rattle.scheme_model.specs.Questions.{Moment, Around, Question, Asking, answer, bare}
use Rattle.scheme_model.specs.FormsAlike.{start, bare_ident, bare_note, bare_kept, set_aside_asking, finish_asking}
use Rattle.scheme_model.proofs.RenamingLaws.{map-append}
use Rattle.renumbering_laws.specs.Moving.{move_tree}
use Rattle.renumbering_laws.specs.Renumbering.{Renumbering, IsOneToOne, number, ident, meaning, change, left_as, parts_as, result_as}
use Rattle.renumbering_laws.specs.States.{defined_as, TablesMove, CountsOn}
use Rattle.renumbering_laws.specs.Asked.{new_frame, new_frames, new_framed, new_note, new_kept, new_moment, new_answer, new_asked, new_asking, new_pass, TurnsMove}
use Rattle.renumbering_laws.specs.NewSurroundings.{HasOldNumbers, around_new}
use Rattle.renumbering_laws.proofs.NewAnswers.{MacrosKept, own_table, own_macros, answer_moved}
use Rattle.renumbering_laws.proofs.AskingSide.{set_aside_asks, finish_asks}
use Rattle.renumbering_laws.proofs.NewSurroundings.{old_numbers_apart, turns_move}
use Rattle.carried_forms.specs.Alike.{same_answer}
use Rattle.carried_forms.specs.Carried.{has_same_answer, have_same_answers}

clash : {P : Type 0} → true ≡ false → P
clash h = absurd cc

-- what a form set aside and came to, with its questions
abbrev pub aside_as : Renumbering → Pass Ident FramedIdent × Asking → Pass Ident FramedIdent × Asking
aside_as r p = (new_pass r p.0, new_asking r p.1)

abbrev pub rest_as : Renumbering → Result Parts Broken × Asking → Result Parts Broken × Asking
rest_as r p = (result_as r (parts_as r) p.0, new_asking r p.1)

-- ---- lists

abbrev head_or : {X : Type 0} → X → List X → X
head_or d [] = d
head_or d (x ∷ xs) = x

abbrev tail_or : {X : Type 0} → List X → List X
tail_or [] = []
tail_or (x ∷ xs) = xs

module _ {X Y : Type 0} (f g : X → Y) where
  pub same_head : (x : X) (xs : List X) → map f (x ∷ xs) ≡ map g (x ∷ xs) → f x ≡ g x
  same_head x xs e = ap (head_or (f x)) e

  pub same_tail : (x : X) (xs : List X) → map f (x ∷ xs) ≡ map g (x ∷ xs) → map f xs ≡ map g xs
  same_tail x xs e = ap tail_or e

  pub same_both : (xs ys : List X) → map f xs ≡ map g xs → map f ys ≡ map g ys → map f (xs ++ ys) ≡ map g (xs ++ ys)
  same_both xs ys a b = map-append f xs ys ∙ ((λ j. a j ++ b j) ∙ sym (map-append g xs ys))

  pub same_front : (xs ys : List X) → map f (xs ++ ys) ≡ map g (xs ++ ys) → map f xs ≡ map g xs
  same_front [] ys e = refl
  same_front (x ∷ xs) ys e = let a = same_head x (xs ++ ys) e in let b = same_front xs ys (same_tail x (xs ++ ys) e) in λ j. a j ∷ b j

-- ---- the times at which bodies were entered have no part in it

abbrev body_or : Number → Frame → Number
body_or d (Bind x v) = d
body_or d (Enter b u) = b

abbrev first_of : FramedIdent → Note FramedIdent → FramedIdent
first_of d (LookedUp l h k) = l
first_of d (Compared l m h) = l

abbrev second_of : FramedIdent → Note FramedIdent → FramedIdent
second_of d (LookedUp l h k) = d
second_of d (Compared l m h) = m

bare_new : (r : Renumbering) (fs : Frames) → new_frames r (bare fs) ≡ bare (new_frames r fs)
bare_new r [] = refl
bare_new r (Bind x v ∷ fs) = ap (λ gs. Bind (ident r x) (number r v) ∷ gs) (bare_new r fs)
bare_new r (Enter b u ∷ fs) = ap (λ gs. Enter (number r b) (λ f. 0) ∷ gs) (bare_new r fs)

module _ (r q : Renumbering) where
  frames_bare : (fs : Frames) → new_frames r fs ≡ new_frames q fs → new_frames r (bare fs) ≡ new_frames q (bare fs)
  frames_bare fs e = bare_new r fs ∙ (ap bare e ∙ sym (bare_new q fs))

  frames_back : (fs : Frames) → new_frames r (bare fs) ≡ new_frames q (bare fs) → new_frames r fs ≡ new_frames q fs
  frames_back [] e = refl
  frames_back (Bind x v ∷ fs) e =
      let a = same_head (new_frame r) (new_frame q) (Bind x v) (bare fs) e in
      let b = frames_back fs (same_tail (new_frame r) (new_frame q) (Bind x v) (bare fs) e) in λ j. a j ∷ b j
  frames_back (Enter k u ∷ fs) e =
      let a : number r k ≡ number q k = ap (body_or k) (same_head (new_frame r) (new_frame q) (Enter k (λ f. 0)) (bare fs) e) in
      let b = frames_back fs (same_tail (new_frame r) (new_frame q) (Enter k (λ f. 0)) (bare fs) e) in λ j. Enter (a j) u ∷ b j

  kept_bare : (k : ScopedMacro) → new_kept r k ≡ new_kept q k → new_kept r (bare_kept k) ≡ new_kept q (bare_kept k)
  kept_bare k e =
      let a = frames_bare k.frames (ap (λ (z : ScopedMacro). z.frames) e) in
      let m : meaning r k.meaning ≡ meaning q k.meaning = ap (λ (z : ScopedMacro). z.meaning) e in
      let s = ap (λ (z : ScopedMacro). z.rules) e in λ j. record { meaning = m j; frames = a j; rules = s j }

  kept_back : (k : ScopedMacro) → new_kept r (bare_kept k) ≡ new_kept q (bare_kept k) → new_kept r k ≡ new_kept q k
  kept_back k e =
      let a = frames_back k.frames (ap (λ (z : ScopedMacro). z.frames) e) in
      let m : meaning r k.meaning ≡ meaning q k.meaning = ap (λ (z : ScopedMacro). z.meaning) e in
      let s = ap (λ (z : ScopedMacro). z.rules) e in λ j. record { meaning = m j; frames = a j; rules = s j }

  pub macros_bare : (ks : List ScopedMacro) → map (new_kept r) ks ≡ map (new_kept q) ks → map (new_kept r) (map bare_kept ks) ≡ map (new_kept q) (map bare_kept ks)
  macros_bare [] e = refl
  macros_bare (k ∷ ks) e =
      let a = kept_bare k (same_head (new_kept r) (new_kept q) k ks e) in let b = macros_bare ks (same_tail (new_kept r) (new_kept q) k ks e) in λ j. a j ∷ b j

  pub macros_back : (ks : List ScopedMacro) → map (new_kept r) (map bare_kept ks) ≡ map (new_kept q) (map bare_kept ks) → map (new_kept r) ks ≡ map (new_kept q) ks
  macros_back [] e = refl
  macros_back (k ∷ ks) e =
      let a = kept_back k (same_head (new_kept r) (new_kept q) (bare_kept k) (map bare_kept ks) e) in
      let b = macros_back ks (same_tail (new_kept r) (new_kept q) (bare_kept k) (map bare_kept ks) e) in λ j. a j ∷ b j

  framed_bare : (l : FramedIdent) → new_framed r l ≡ new_framed q l → new_framed r (bare_ident l) ≡ new_framed q (bare_ident l)
  framed_bare l e = let a = frames_bare l.frames (ap (λ (z : FramedIdent). z.frames) e) in let i = ap (λ (z : FramedIdent). z.ident) e in λ j. record { frames = a j; ident = i j }

  framed_back : (l : FramedIdent) → new_framed r (bare_ident l) ≡ new_framed q (bare_ident l) → new_framed r l ≡ new_framed q l
  framed_back l e = let a = frames_back l.frames (ap (λ (z : FramedIdent). z.frames) e) in let i = ap (λ (z : FramedIdent). z.ident) e in λ j. record { frames = a j; ident = i j }

  note_bare : (n : Note FramedIdent) → new_note r n ≡ new_note q n → new_note r (bare_note n) ≡ new_note q (bare_note n)
  note_bare (LookedUp l h k) e = let a = framed_bare l (ap (first_of l) e) in λ j. LookedUp (a j) h k
  note_bare (Compared l m h) e = let a = framed_bare l (ap (first_of l) e) in let b = framed_bare m (ap (second_of l) e) in λ j. Compared (a j) (b j) h

  note_back : (n : Note FramedIdent) → new_note r (bare_note n) ≡ new_note q (bare_note n) → new_note r n ≡ new_note q n
  note_back (LookedUp l h k) e = let a = framed_back l (ap (first_of l) e) in λ j. LookedUp (a j) h k
  note_back (Compared l m h) e = let a = framed_back l (ap (first_of l) e) in let b = framed_back m (ap (second_of l) e) in λ j. Compared (a j) (b j) h

  pub notes_bare : (ns : List (Note FramedIdent)) → map (new_note r) ns ≡ map (new_note q) ns → map (new_note r) (map bare_note ns) ≡ map (new_note q) (map bare_note ns)
  notes_bare [] e = refl
  notes_bare (n ∷ ns) e =
      let a = note_bare n (same_head (new_note r) (new_note q) n ns e) in let b = notes_bare ns (same_tail (new_note r) (new_note q) n ns e) in λ j. a j ∷ b j

  pub notes_back : (ns : List (Note FramedIdent)) → map (new_note r) (map bare_note ns) ≡ map (new_note q) (map bare_note ns) → map (new_note r) ns ≡ map (new_note q) ns
  notes_back [] e = refl
  notes_back (n ∷ ns) e =
      let a = note_back n (same_head (new_note r) (new_note q) (bare_note n) (map bare_note ns) e) in
      let b = notes_back ns (same_tail (new_note r) (new_note q) (bare_note n) (map bare_note ns) e) in λ j. a j ∷ b j

  -- ---- what is around a form

  abbrev pub Imported : ℕ → Option Meaning → Type 0
  Imported u None = Unit {0}
  Imported u (Some m) = (r.unit u ≡ q.unit u) × (meaning r m ≡ meaning q m)

  -- what units define and import, and their macros
  pub record Agrees (t : Table) (ks : List ScopedMacro) (e : Entries) : Type 0 where
    pub table : map (defined_as r) t ≡ map (defined_as q) t
    pub macros : map (new_kept r) ks ≡ map (new_kept q) ks
    pub entry : (u : ℕ) (x : List ℕ) → Imported u (e u x)

  pub record AroundAgrees (w : Around) : Type 0 where
    pub unit : r.unit w.state.unit ≡ q.unit w.state.unit
    pub form : r.form w.state.unit w.state.form ≡ q.form w.state.unit w.state.form
    pub state : Agrees w.state.table w.state.macros w.state.entry
    pub notes : map (new_note r) w.notes ≡ map (new_note q) w.notes
    pub counts : new_moment r (start w.state) ≡ new_moment q (start w.state)

  module _ (b : HasOldNumbers r) (c : HasOldNumbers q) (w : Around) (a : AroundAgrees w) where
    abbrev one : IsOneToOne r
    one = old_numbers_apart r b

    abbrev other : IsOneToOne q
    other = old_numbers_apart q c

    abbrev e : Entries
    e = w.state.entry

    abbrev checked : List ℕ → ℕ → Option ℕ → Option Meaning
    checked x v None = None
    checked x v (Some u) = cond (r.unit u == v) (option_map (meaning r) (e u x)) None

    -- where both lead
    abbrev there : Around
    there = record { state = record (around_new r b w).state { entry = λ v x. checked x v (b.unit_back v) }; known = w.known; notes = map (new_note r) w.notes }

    entry_one : (u : ℕ) (x : List ℕ) → checked x (r.unit u) (b.unit_back (r.unit u)) ≡ option_map (meaning r) (e u x)
    entry_one u x = ap (checked x (r.unit u)) (b.unit_here u) ∙ ap (λ t. cond t (option_map (meaning r) (e u x)) None) (eq-eqb (r.unit u) (r.unit u) refl)

    pub by_one : TurnsMove r w there
    by_one =
        let t = turns_move r b w in
        record {
          around = record {
            unit = t.around.unit;
            form = t.around.form;
            program = t.around.program;
            table = t.around.table;
            entry = entry_one;
            macros = t.around.macros;
            known = t.around.known;
            notes = t.around.notes;
          };
          begun = t.begun;
          counts = t.counts;
        }

    is_none : (y u : ℕ) (x : List ℕ) → r.unit y ≡ q.unit u → e u x ≡ None → (z : Option Meaning) → e y x ≡ z → Imported y z → option_map (meaning r) z ≡ None
    is_none y u x h none None d i = refl
    is_none y u x h none (Some m) d i =
        let k : (y == u) ≡ true = sym (other.units y u) ∙ eq-eqb (q.unit y) (q.unit u) (sym i.0 ∙ h) in
        let z : Some m ≡ None = sym d ∙ (ap (λ v. e v x) (eqb-true y u k) ∙ none) in absurd cc

    none_there : (u : ℕ) (x : List ℕ) → e u x ≡ None → (z : Option ℕ) → checked x (q.unit u) z ≡ None
    none_there u x none None = refl
    none_there u x none (Some y) = go (r.unit y == q.unit u) refl
      where
        go : (t : Bool) → (r.unit y == q.unit u) ≡ t → cond t (option_map (meaning r) (e y x)) None ≡ None
        go false h = refl
        go true h = is_none y u x (eqb-true (r.unit y) (q.unit u) h) none (e y x) refl (a.state.entry y x)

    entry_other : (u : ℕ) (x : List ℕ) (z : Option Meaning) → e u x ≡ z → Imported u z → checked x (q.unit u) (b.unit_back (q.unit u)) ≡ option_map (meaning q) z
    entry_other u x None d i = none_there u x d (b.unit_back (q.unit u))
    entry_other u x (Some m) d i = ap (λ v. checked x v (b.unit_back v)) (sym i.0) ∙ (entry_one u x ∙ (ap (option_map (meaning r)) d ∙ ap Some i.1))

    pub by_other : TurnsMove q w there
    by_other =
        let t = turns_move q c w in
        record {
          around = record {
            unit = a.unit;
            form = a.form;
            program = refl;
            table = subst (λ (z : Table). TablesMove q w.state.table z) (sym a.state.table) (own_table q other w.state.table);
            entry = λ u x. entry_other u x (e u x) refl (a.state.entry u x);
            macros = subst (λ (z : List ScopedMacro). MacrosKept q w.state.macros z) (sym a.state.macros) (own_macros q other w.state.macros);
            known = refl;
            notes = a.notes;
          };
          begun = (turns_move r b w).begun ∙ a.counts;
          counts = subst (λ (n : ℕ). CountsOn q w.state.unit (definition_count w.state.table w.state.unit) n) (let x = sym a.state.table in let y = sym a.unit in λ j. definition_count (x j) (y j)) t.counts;
        }

    -- ---- what it asks

    pub pass_same : (turns : ℕ) (t : Tree Ident) → move_tree (change r) t ≡ move_tree (change q) t → aside_as r (set_aside_asking w turns t) ≡ aside_as q (set_aside_asking w turns t)
    pass_same turns t h = sym (set_aside_asks r one w there by_one turns t) ∙ (ap (set_aside_asking there turns) h ∙ set_aside_asks q other w there by_other turns t)

    pub left_same : (turns : ℕ) (l : Result (Left Ident) Broken) → result_as r (left_as r (ident r)) l ≡ result_as q (left_as q (ident q)) l → rest_as r (finish_asking w turns l) ≡ rest_as q (finish_asking w turns l)
    left_same turns l h = sym (finish_asks r one w there by_one turns l) ∙ (ap (finish_asking there turns) h ∙ finish_asks q other w there by_other turns l)

    pub answers_same : (n : Moment) (x : Question) → new_asked r (n, x) ≡ new_asked q (n, x) → new_answer r (answer w n x) ≡ new_answer q (answer w n x)
    answers_same n x h =
        sym (answer_moved r one w there by_one.around n x) ∙ (ap (λ (y : Moment × Question). answer there y.0 y.1) h ∙ answer_moved q other w there by_other.around n x)

    one_alike : (v : Around) (x : Moment × Question) → new_asked r x ≡ new_asked q x → has_same_answer r w v x ≡ has_same_answer q w v x
    one_alike v x h =
        let s = answers_same x.0 x.1 h in
        (λ j. same_answer (s j) (answer v (h j).0 (h j).1))

    pub alike_same : (v : Around) (xs : List (Moment × Question)) → map (new_asked r) xs ≡ map (new_asked q) xs → have_same_answers r w v xs ≡ have_same_answers q w v xs
    alike_same v [] h = refl
    alike_same v (x ∷ xs) h =
        let k = one_alike v x (same_head (new_asked r) (new_asked q) x xs h) in let m = alike_same v xs (same_tail (new_asked r) (new_asked q) x xs h) in λ j. k j && m j
