-- What is to be noted of questions is the same under other numbers.
use Rattle.std.proofs.Common.{◌≡◌, ℕ, List, [], ◌∷◌, ◌++◌, map, length, Bool, true, false, cond, suc, Ok, refl, sym, ap, ◌∙◌}
use Rattle.std.specs.Prelude.{◌==◌, nat_lt, not, ◌&&◌, ◌||◌}
use Rattle.scheme_model.specs.Identifiers.{Number}
use Rattle.scheme_model.specs.Ident.{Ident, Written, Inserted}
use Rattle.scheme_model.specs.Trees.{Tree}
use Rattle.scheme_model.specs.Order.{Left, Note, LookedUp, Compared, is_some}
use Rattle.scheme_model.specs.Substitution.{Table, defined_in}
use Rattle.scheme_model.specs.ScopedExpansion.{Frames, Bind, Enter, FramedIdent, ScopedState, macro_at}
use Rattle.scheme_model.specs.Questions.{Moment, Around, Question, LooksUp, UsesRules, Compares, IsAssigned, Requires, Defines, bare}
use Rattle.scheme_model.specs.FormsAlike.{start, bare_ident, bare_note, questions_of_pass, questions_of_left}
use Rattle.form_laws.proofs.Bare.{some_mapped}
use Rattle.scheme_model.specs.RulesShape.{option_map}
use Rattle.renumbering_laws.specs.Moving.{move_named, move_rules, move_tree}
use Rattle.renumbering_laws.specs.Renumbering.{Renumbering, IsOneToOne, number, ident, meaning, change, left_as}
use Rattle.renumbering_laws.specs.States.{defined_as}
use Rattle.renumbering_laws.specs.Asked.{new_frames, new_framed, new_note, new_macro, new_question, new_answer, new_asked, TurnsMove}
use Rattle.renumbering_laws.proofs.OneToOne.{behind_units}
use Rattle.renumbering_laws.proofs.NewAnswers.{own_table, own_macros, answer_moved}
use Rattle.renumbering_laws.proofs.AskingSide.{set_aside_asks, finish_asks}
use Rattle.question_laws.specs.Noted as questions
use Rattle.question_laws.specs.Noted.{is_to_come, before_uses, is_defined_in, defines_within, answers_alone, compares_alone, noted, all_noted}
use Rattle.form_notes.specs.Noted.{Noted}
use Rattle.note_laws.specs.Told.{bare_question, bare_noted, told}
use Rattle.moved_numbers.specs.Notes.{noted_as}

-- ---- lists

map_behind : {X Y : Type 0} (f : X → Y) (xs ys : List X) → map f (xs ++ ys) ≡ map f xs ++ map f ys
map_behind f [] ys = refl
map_behind f (x ∷ xs) ys = ap (λ zs. f x ∷ zs) (map_behind f xs ys)

length_mapped : {X Y : Type 0} (f : X → Y) (xs : List X) → length (map f xs) ≡ length xs
length_mapped f [] = refl
length_mapped f (x ∷ xs) = ap suc (length_mapped f xs)

-- two ways around a list
map_around : {X Y Z W : Type 0} (f : X → Y) (g : Y → W) (h : X → Z) (k : Z → W) → ((x : X) → g (f x) ≡ k (h x)) → (xs : List X) → map g (map f xs) ≡ map k (map h xs)
map_around f g h k e [] = refl
map_around f g h k e (x ∷ xs) = let a = e x in let b = map_around f g h k e xs in λ j. a j ∷ b j

-- ---- without times

module _ (r : Renumbering) where
  bare_frames_moved : (fs : Frames) → bare (new_frames r fs) ≡ new_frames r (bare fs)
  bare_frames_moved [] = refl
  bare_frames_moved (Bind x v ∷ fs) = ap (λ (gs : Frames). Bind (ident r x) (number r v) ∷ gs) (bare_frames_moved fs)
  bare_frames_moved (Enter b u ∷ fs) = ap (λ (gs : Frames). Enter (number r b) (λ f. 0) ∷ gs) (bare_frames_moved fs)

  bare_ident_moved : (l : FramedIdent) → bare_ident (new_framed r l) ≡ new_framed r (bare_ident l)
  bare_ident_moved l = let e = bare_frames_moved l.frames in λ j. record { frames = e j; ident = ident r l.ident }

  bare_note_moved : (n : Note FramedIdent) → bare_note (new_note r n) ≡ new_note r (bare_note n)
  bare_note_moved (LookedUp l head keyword) = ap (λ (z : FramedIdent). LookedUp z head keyword) (bare_ident_moved l)
  bare_note_moved (Compared l k held) = let a = bare_ident_moved l in let b = bare_ident_moved k in λ j. Compared (a j) (b j) held

  bare_question_moved : (q : Question) → bare_question (new_question r q) ≡ new_question r (bare_question q)
  bare_question_moved (LooksUp i) = refl
  bare_question_moved (UsesRules m) = refl
  bare_question_moved (Compares l i) = refl
  bare_question_moved (IsAssigned i) = refl
  bare_question_moved (Requires l) = refl
  bare_question_moved (Defines fs x rs ns) =
      let a = bare_frames_moved fs in
      let b = map_around (new_note r) bare_note bare_note (new_note r) bare_note_moved ns in
      λ j. Defines (a j) (move_named (change r) x) (option_map (move_rules (change r)) rs) (b j)

  bare_noted_moved : (m : Noted) → bare_noted (noted_as r m) ≡ noted_as r (bare_noted m)
  bare_noted_moved m = let e = bare_question_moved m.question in λ j. record { behind = m.behind; question = e j; answer = new_answer r m.answer }

-- ---- what is noted

module _ (r : Renumbering) (o : IsOneToOne r) (w v : Around) (t : TurnsMove r w v) where
  abbrev s : ScopedState
  s = w.state

  abbrev z : ScopedState
  z = v.state

  to_come : (k : Number) → is_to_come z (number r k) ≡ is_to_come s k
  to_come k =
      let a = t.around.unit in let b = t.around.form in let d = ap (λ (m : Moment). m.uses) t.begun in
      let c = not (nat_lt k.count (s.uses s.form)) in
      (λ j. (r.unit k.unit == a j) && ((r.form k.unit k.form == b j) && not (nat_lt k.count (d j))))
      ∙ (ap (λ x. x && ((r.form k.unit k.form == r.form s.unit s.form) && c)) (o.units k.unit s.unit) ∙ behind_units r o k.unit s.unit k.form s.form (k.unit == s.unit) refl c)

  before_moved : (i : Ident) → before_uses z (ident r i) ≡ ident r (before_uses s i)
  before_moved (Written u x) = refl
  before_moved (Inserted i k) = ap (λ b. cond b (before_uses z (ident r i)) (Inserted (ident r i) (number r k))) (to_come k) ∙ go (is_to_come s k) (before_moved i)
    where
      go : (b : Bool) → before_uses z (ident r i) ≡ ident r (before_uses s i) → cond b (before_uses z (ident r i)) (Inserted (ident r i) (number r k)) ≡ ident r (cond b (before_uses s i) (Inserted i k))
      go true e = e
      go false e = refl

  module _ (own : Table) where
    abbrev there : Table
    there = map (defined_as r) own

    defined_moved : (u : ℕ) (i : Ident) → is_defined_in there (r.unit u) (ident r i) ≡ is_defined_in own u i
    defined_moved u i = ap is_some (own_table r o own u i) ∙ some_mapped (defined_as r) (defined_in own u i)

    within_moved : (i : Ident) → defines_within there (ident r i) ≡ defines_within own i
    within_moved (Written u x) = defined_moved u (Written u x)
    within_moved (Inserted i k) = let a = defined_moved k.unit (Inserted i k) in let b = within_moved i in λ j. a j || b j

    alone_moved : (i : Ident) → answers_alone z there (ident r i) ≡ answers_alone s own i
    alone_moved (Written u x) = defined_moved u (Written u x)
    alone_moved (Inserted i k) = let a = defined_moved k.unit (Inserted i k) in let b = to_come k in let c = alone_moved i in λ j. a j || (b j && c j)

    compared_moved : (l i : Ident) → compares_alone z there (ident r l) (ident r i) ≡ compares_alone s own l i
    compared_moved l i =
        let a = alone_moved l in let b = alone_moved i in let c = within_moved l in let d = within_moved i in
        λ j. (a j && (b j || not (d j))) || (b j && not (c j))

  as_moved : (alone part : Bool) (now : Moment × Question) (before there : Question) → there ≡ new_question r before → questions.noted_as v alone part (new_asked r now) there ≡ map (new_asked r) (questions.noted_as w alone part now before)
  as_moved true part now before there e = refl
  as_moved false true now before there e = refl
  as_moved false false now before there e = let a = t.begun in λ j. (a j, e j) ∷ []

  one_moved : (q : Moment × Question) → noted v (new_asked r q) ≡ map (new_asked r) (noted w q)
  one_moved (n, LooksUp i) =
      let a = alone_moved n.table i in let b = within_moved n.table i in
      (λ j. questions.noted_as v (a j) (b j) (new_asked r (n, LooksUp i)) (LooksUp (before_uses z (ident r i))))
      ∙ as_moved (answers_alone s n.table i) (defines_within n.table i) (n, LooksUp i) (LooksUp (before_uses s i)) (LooksUp (before_uses z (ident r i))) (ap LooksUp (before_moved i))
  one_moved (n, UsesRules m) = ap (λ b. cond b [] ((start z, UsesRules (meaning r m)) ∷ [])) (ap is_some (own_macros r o n.macros m) ∙ some_mapped (new_macro r) (macro_at n.macros m)) ∙ go (is_some (macro_at n.macros m))
    where
      go : (b : Bool) → cond b [] ((start z, UsesRules (meaning r m)) ∷ []) ≡ map (new_asked r) (cond b [] ((start s, UsesRules m) ∷ []))
      go true = refl
      go false = let a = t.begun in λ j. (a j, UsesRules (meaning r m)) ∷ []
  one_moved (n, Compares l i) =
      let a = compared_moved n.table l i in let b = within_moved n.table l in let c = within_moved n.table i in let d = before_moved l in let e = before_moved i in
      (λ j. questions.noted_as v (a j) (b j || c j) (new_asked r (n, Compares l i)) (Compares (before_uses z (ident r l)) (before_uses z (ident r i))))
      ∙ as_moved (compares_alone s n.table l i) (defines_within n.table l || defines_within n.table i) (n, Compares l i) (Compares (before_uses s l) (before_uses s i)) (Compares (before_uses z (ident r l)) (before_uses z (ident r i))) (λ j. Compares (d j) (e j))
  one_moved (n, IsAssigned i) =
      let a = t.around.unit in
      ap (λ b. cond b [] ((start z, IsAssigned (ident r i)) ∷ [])) ((λ j. is_defined_in (map (defined_as r) n.table) (a j) (ident r i)) ∙ defined_moved n.table s.unit i) ∙ go (is_defined_in n.table s.unit i)
    where
      go : (b : Bool) → cond b [] ((start z, IsAssigned (ident r i)) ∷ []) ≡ map (new_asked r) (cond b [] ((start s, IsAssigned i) ∷ []))
      go true = refl
      go false = let a = t.begun in λ j. (a j, IsAssigned (ident r i)) ∷ []
  one_moved (n, Requires l) = let a = t.begun in λ j. (a j, Requires l) ∷ []
  one_moved (n, Defines fs x rs ns) = refl

  pub all_moved : (qs : List (Moment × Question)) → all_noted v (map (new_asked r) qs) ≡ map (new_asked r) (all_noted w qs)
  all_moved [] = refl
  all_moved (q ∷ qs) = let a = one_moved q in let b = all_moved qs in (λ j. a j ++ b j) ∙ sym (map_behind (new_asked r) (noted w q) (all_noted w qs))

  pub told_moved : (q : Moment × Question) → told v (new_asked r q) ≡ noted_as r (told w q)
  told_moved q =
      let a = length_mapped (defined_as r) q.0.table in let b = bare_question_moved r q.1 in let c = answer_moved r o w v t.around q.0 q.1 in
      λ j. record { behind = a j; question = b j; answer = c j }

  -- ---- the notes of a form

  notes_moved : (ms : List Noted) (qs : List (Moment × Question)) → map bare_noted ms ≡ map (told w) (all_noted w qs) → map bare_noted (map (noted_as r) ms) ≡ map (told v) (all_noted v (map (new_asked r) qs))
  notes_moved ms qs e =
      map_around (noted_as r) bare_noted bare_noted (noted_as r) (bare_noted_moved r) ms
      ∙ (ap (map (noted_as r)) e
      ∙ (sym (map_around (new_asked r) (told v) (told w) (noted_as r) told_moved (all_noted w qs))
      ∙ ap (map (told v)) (sym (all_moved qs))))

  pub pass_moved : (turns : ℕ) (x : Tree Ident) (ms : List Noted) → map bare_noted ms ≡ map (told w) (all_noted w (questions_of_pass w turns x)) → map bare_noted (map (noted_as r) ms) ≡ map (told v) (all_noted v (questions_of_pass v turns (move_tree (change r) x)))
  pass_moved turns x ms e = notes_moved ms (questions_of_pass w turns x) e ∙ ap (λ qs. map (told v) (all_noted v qs)) (sym (ap (λ p. p.1.asked) (set_aside_asks r o w v t turns x)))

  pub left_moved : (turns : ℕ) (l : Left Ident) (ms : List Noted) → map bare_noted ms ≡ map (told w) (all_noted w (questions_of_left w turns (Ok l))) → map bare_noted (map (noted_as r) ms) ≡ map (told v) (all_noted v (questions_of_left v turns (Ok (left_as r (ident r) l))))
  left_moved turns l ms e = notes_moved ms (questions_of_left w turns (Ok l)) e ∙ ap (λ qs. map (told v) (all_noted v qs)) (sym (ap (λ p. p.1.asked) (finish_asks r o w v t turns (Ok l))))
