-- A form whose questions have the same answers in two surroundings comes to the same in both, but for the numbers of the unit's
-- definitions.
use Rattle.std.proofs.Common.{◌≡◌, ℕ, ◌+◌, ◌-◌, List, [], ◌∷◌, map, Result, Ok, Err, refl, sym, ap, ◌∙◌, subst, arith}
use Rattle.scheme_model.specs.Ident.{Ident}
use Rattle.scheme_model.specs.Trees.{Tree}
use Rattle.scheme_model.specs.Cores.{Bound, LocalNumber, Definition, Binder, Binders, RecordType, Parts, no_parts, part, Part, Expression as expression_part, Define as define_part, Values as values_part, Fields as fields_part, Syntax as syntax_part}
use Rattle.scheme_model.specs.Steps.{Broken}
use Rattle.scheme_model.specs.Order.{Item, Expression, Value, Function, Assigned, AssignedFunction, ValuesOf, Record, Macro, Left, Pass, run}
use Rattle.scheme_model.specs.Expression.{meaning_of, expand}
use Rattle.scheme_model.specs.UnitExpansion.{max_depth, one_form}
use Rattle.scheme_model.specs.Substitution.{definition_count}
use Rattle.scheme_model.specs.ScopedExpansion.{FramedIdent, ScopedState}
use Rattle.scheme_model.specs.Questions.{Moment, Around, Question, SameAnswer, Asking, asking}
use Rattle.scheme_model.specs.FormsAlike.{bound_moved, binder_with, binders_with, record_with, item_with, left_with, part_with, parts_with, or_fault, moved_by, set_aside, finish_by, finish, start, no_questions, set_aside_asking, finish_asking, questions_of_pass, questions_of_left, bare_note, Leaves, IsSetAside, IsFinished, SameAside, SameFinish}
use Rattle.model_laws.proofs.FrameAsks.{AllOf}
use Rattle.form_laws.specs.Begins.{Each, Begins, FormBegins, LeftBegins, SameForm}
use Rattle.form_laws.proofs.Sides.{Both, Results, BinderLike, BindersLike, RecordLike, ItemLike, PartLike, PartsLike, LeftLike}
use Rattle.form_laws.proofs.SideRuns.{both_itself, item_itself, run_runs}
use Rattle.form_laws.proofs.SideExpressions.{items_equal, parts_equal, expand_goes, left_parts}
use Rattle.form_laws.proofs.Answering.{answering}
use Rattle.form_laws.proofs.Leaving.{leaves_start}
use Rattle.form_laws.proofs.AskingSides.{NoLocals, fits, sides}
use Rattle.form_laws.proofs.OwnStates.{entry_given}
use Rattle.form_laws.proofs.OwnSide.{run_own, finish_own}

pub each_all : {X : Type 0} (P : X → Type 0) (xs : List X) → Each P xs → AllOf P xs
each_all P [] h = tt
each_all P (x ∷ xs) h = (h.0, each_all P xs h.1)

-- ---- with other numbers

module _ (R : Bound → Bound → Type 0) (f : Bound → Bound) (same : (x y : Bound) → R x y → y ≡ f x) where
  binder_same : (b c : Binder) → BinderLike R b c → c ≡ binder_with f b
  binder_same b c h = let p = same b.bound c.bound h.0 in let q = h.1 in let r = h.2 in λ j. record { bound = p j; ident = q j; occ = r j }

  names_same : (bs cs : List Binder) → Both (BinderLike R) bs cs → cs ≡ map (binder_with f) bs
  names_same [] [] h = refl
  names_same [] (c ∷ cs) h = absurd h
  names_same (b ∷ bs) [] h = absurd h
  names_same (b ∷ bs) (c ∷ cs) h = let p = binder_same b c h.0 in let q = names_same bs cs h.1 in λ j. p j ∷ q j

  binders_same : (bs cs : Binders) → BindersLike R bs cs → cs ≡ binders_with f bs
  binders_same bs cs h = let p = names_same bs.names cs.names h.0 in let r = h.1 in λ j. record { names = p j; rest = r j }

  record_same : (r q : RecordType) → RecordLike R r q → q ≡ record_with f r
  record_same r q h = let a = names_same r.binders q.binders h.0 in let b = h.1 in let c = h.2 in let d = h.3 in λ j. record { binders = a j; fields = b j; modified = c j; used = d j }

  item_same : {A : Type 0} (i j : Item A) → ItemLike R i j → j ≡ item_with f i
  item_same (Expression x) j h = h
  item_same (Value b x) j h = h.2 ∙ ap (λ d. Value d x) (binder_same b h.0 h.1)
  item_same (Function b here c) j h = h.2 ∙ ap (λ d. Function d here c) (binder_same b h.0 h.1)
  item_same (Assigned n x) j h = h
  item_same (AssignedFunction n here c) j h = h
  item_same (ValuesOf bs x) j h = h.2 ∙ ap (λ d. ValuesOf d x) (binders_same bs h.0 h.1)
  item_same (Record r) j h = h.2 ∙ ap Record (record_same r h.0 h.1)
  item_same (Macro b here) j h = h.2 ∙ ap (λ d. Macro d here) (binder_same b h.0 h.1)

  pub items_same : {A : Type 0} (is js : List (Item A)) → Both (ItemLike R) is js → js ≡ map (item_with f) is
  items_same [] [] h = refl
  items_same [] (j ∷ js) h = absurd h
  items_same (i ∷ is) [] h = absurd h
  items_same (i ∷ is) (j ∷ js) h = let p = item_same i j h.0 in let q = items_same is js h.1 in λ z. p z ∷ q z

  part_same : (p q : Part) → PartLike R p q → q ≡ part_with f p
  part_same (expression_part c) q h = h
  part_same (define_part b c) q h = h.2 ∙ ap (λ d. define_part d c) (binder_same b h.0 h.1)
  part_same (values_part bs c) q h = h.2 ∙ ap (λ d. values_part d c) (binders_same bs h.0 h.1)
  part_same (fields_part r) q h = h.2 ∙ ap fields_part (record_same r h.0 h.1)
  part_same (syntax_part m) q h = h.2 ∙ (let a = binder_same m.binder h.0.binder h.1.0 in let b = h.1.1 in let c = h.1.2 in λ z. syntax_part (record { binder = a z; rules = b z; leaves = c z }))

  pub parts_same : (ps qs : Parts) → PartsLike R ps qs → qs ≡ parts_with f ps
  parts_same no_parts qs h = h
  parts_same (part p ps) qs h = h.4 ∙ (let a = part_same p h.0 h.2 in let b = parts_same ps h.1 h.3 in λ z. part (a z) (b z))

  pub left_same : {A : Type 0} (l m : Left A) → LeftLike R l m → m ≡ left_with f l
  left_same l m h = let a = h.0 in let b = items_same l.items m.items h.1 in λ j. record { uses = a j; items = b j }

pub or_same : {X Y : Type 0} (G : X → Y → Type 0) (f : X → Y) → ((x : X) (y : Y) → G x y → y ≡ f x) → (r : Result X Broken) (q : Result Y Broken) → Results G r q → q ≡ or_fault f r
or_same G f e (Ok x) (Ok y) h = ap (λ z. Ok z) (e x y h)
or_same G f e (Ok x) (Err y) h = absurd h
or_same G f e (Err x) (Ok y) h = absurd h
or_same G f e (Err x) (Err y) h = ap (λ z. Err z) h

-- ---- what was set aside, with definitions of other numbers

module _ (f : Bound → Bound) where
  abbrev pub Moved : Bound → Bound → Type 0
  Moved x y = y ≡ f x

  pub items_moved : (is : List (Item Ident)) → Both (ItemLike Moved) is (map (item_with f) is)
  items_moved [] = tt
  items_moved (i ∷ is) = (item_moved i, items_moved is)
    where
      names_moved : (bs : List Binder) → Both (BinderLike Moved) bs (map (binder_with f) bs)
      names_moved [] = tt
      names_moved (b ∷ bs) = ((refl, refl, refl), names_moved bs)

      item_moved : (i : Item Ident) → ItemLike Moved i (item_with f i)
      item_moved (Expression x) = refl
      item_moved (Value b x) = (binder_with f b, (refl, refl, refl), refl)
      item_moved (Function b here c) = (binder_with f b, (refl, refl, refl), refl)
      item_moved (Assigned n x) = refl
      item_moved (AssignedFunction n here c) = refl
      item_moved (ValuesOf bs x) = (binders_with f bs, (names_moved bs.names, refl), refl)
      item_moved (Record r) = (record_with f r, (names_moved r.binders, refl, refl, refl), refl)
      item_moved (Macro b here) = (binder_with f b, (refl, refl, refl), refl)

pub moved_meant : (m n : ℕ) (x : Bound) (i : Ident) → meaning_of (bound_moved m n x) i ≡ meaning_of x i
moved_meant m n (LocalNumber k) i = refl
moved_meant m n (Definition u c) i = refl

moved_itself : (n : ℕ) (x : Bound) → bound_moved n n x ≡ x
moved_itself n (LocalNumber k) = refl
moved_itself n (Definition u c) = let e : c + n - n ≡ c = omega arith in ap (Definition u) e

-- ---- there

pub no_locals : (w : Around) → Begins w.state → NoLocals w
no_locals w h = λ u x. entry_given (w.state.entry u x) (h.entries u x)

-- one question by one
abbrev Answers : Around → Around → List (Moment × Question) → Type 0
Answers w v qs = AllOf (SameAnswer w v) qs

module _ (w v : Around) (same : SameForm w v) (en : NoLocals w) (em : NoLocals v) (turns : ℕ) where
  abbrev by_questions : Tree Ident → Pass Ident FramedIdent × Asking
  by_questions t = set_aside_asking w turns t

  abbrev finish_by_questions : Left Ident → Result Parts Broken × Asking
  finish_by_questions l = finish_asking w turns (Ok l)

  -- g tells what is left there
  set_there : (g : Result (Left Ident) Broken → Result (Left Ident) Broken) → ((r q : Result (Left Ident) Broken) → Results (LeftLike (λ x y. y ≡ moved_by w v x)) r q → q ≡ g r)
      → (t : Tree Ident) → FormBegins v t → Answers w v (by_questions t).1.asked → IsSetAside v (by_questions t) (g (by_questions t).0.left) (set_aside v turns t)
  set_there g told t k a =
      let law = run_runs (asking w) (answering v.state v.known) fits (sides w v same.unit same.form en em) [] [] tt turns (one_form t []) (one_form t v.notes) (no_questions w) refl (record { todo = refl; aside = tt; uses = refl; notes = refl }) in
      let x = law.same v.state (leaves_start v (start w.state) same.counts) a in
      let there : Pass Ident FramedIdent × ScopedState = run (answering v.state v.known) turns [] (one_form t v.notes) v.state in
      let e : set_aside v turns t ≡ there = run_own v.known v.state k.state turns t k.stands v.notes k.notes in
      record {
        rest = ap (λ (z : Pass Ident FramedIdent × ScopedState). z.0.left) e ∙ told (by_questions t).0.left there.0.left x.0.left;
        notes = ap (λ (z : Pass Ident FramedIdent × ScopedState). map bare_note z.0.notes) e ∙ x.0.notes;
        state = subst (λ (z : Pass Ident FramedIdent × ScopedState). Leaves v (by_questions t).1.moment z.1) (sym e) x.1;
      }

  -- f of the binders of what was set aside is there, and g tells the parts
  finish_there : (f : Bound → Bound) → ((x : Bound) (i : Ident) → meaning_of (f x) i ≡ meaning_of x i) → (g : Result Parts Broken → Result Parts Broken) → ((r q : Result Parts Broken) → Results (PartsLike (Moved f)) r q → q ≡ g r)
      → (l m : Left Ident) → LeftLike (Moved f) l m → LeftBegins v m → Answers w v (finish_by_questions l).1.asked → IsFinished v (finish_by_questions l) (g (finish_by_questions l).0) (finish v turns (Ok m))
  finish_there f meant g told l m d k a =
      let answers = answering v.state v.known in
      let s = sides w v same.unit same.form en em in
      let law = left_parts (asking w) answers fits s (λ s m. tt) (expand (asking w) turns) (expand answers turns) (expand_goes (asking w) answers fits s (λ s m. tt) turns) (Moved f) (λ x y d i. ap (λ z. meaning_of z i) d ∙ meant x i) max_depth [] [] l m d (no_questions w) refl in
      let x = law.same v.state (leaves_start v (start w.state) same.counts) a in
      let there : Result Parts Broken × ScopedState = finish_by answers turns [] (Ok m) v.state in
      let e : finish v turns (Ok m) ≡ there = finish_own v.known v.state k.state turns m k.uses k.items k.macros in
      record {
        result = ap (λ (z : Result Parts Broken × ScopedState). z.0) e ∙ told (finish_by_questions l).0 there.0 x.0;
        state = subst (λ (z : Result Parts Broken × ScopedState). Leaves v (finish_by_questions l).1.moment z.1) (sym e) x.1;
      }

-- ---- in its own surroundings

or_equal : {X : Type 0} (G : X → X → Type 0) → ((x y : X) → G x y → y ≡ x) → (r q : Result X Broken) → Results G r q → q ≡ r
or_equal G e (Ok x) (Ok y) h = ap (λ z. Ok z) (e x y h)
or_equal G e (Ok x) (Err y) h = absurd h
or_equal G e (Err x) (Ok y) h = absurd h
or_equal G e (Err x) (Err y) h = ap (λ z. Err z) h

module _ (w : Around) where
  same_itself : SameForm w w
  same_itself = record { unit = refl; form = refl; counts = refl }

  answers_itself : (qs : List (Moment × Question)) → Answers w w qs
  answers_itself [] = tt
  answers_itself (q ∷ qs) = (refl, answers_itself qs)

  left_equal : (l m : Left Ident) → LeftLike (λ x y. y ≡ moved_by w w x) l m → m ≡ l
  left_equal l m h =
      let a = h.0 in let b = items_equal (λ x y. y ≡ moved_by w w x) (λ x y e. e ∙ moved_itself (definition_count w.state.table w.state.unit) x) l.items m.items h.1 in
      λ j. record { uses = a j; items = b j }

  -- the form with its questions is the form
  pub set_itself : (turns : ℕ) (t : Tree Ident) → FormBegins w t → IsSetAside w (set_aside_asking w turns t) (set_aside_asking w turns t).0.left (set_aside w turns t)
  set_itself turns t h =
      let en = no_locals w h.state in
      set_there w w same_itself en en turns (λ r. r) (or_equal (LeftLike (λ x y. y ≡ moved_by w w x)) left_equal) t h (answers_itself (set_aside_asking w turns t).1.asked)

  pub finish_itself : (turns : ℕ) (l : Left Ident) → LeftBegins w l → IsFinished w (finish_asking w turns (Ok l)) (finish_asking w turns (Ok l)).0 (finish w turns (Ok l))
  finish_itself turns l h =
      let en = no_locals w h.state in
      finish_there w w same_itself en en turns (λ x. x) (λ x i. refl) (λ r. r) (or_equal (PartsLike (λ x y. y ≡ x)) (parts_equal (λ x y. y ≡ x) (λ x y e. e))) l l
      (refl, both_itself (ItemLike (λ x y. y ≡ x)) (item_itself (λ x y. y ≡ x) (λ x. refl)) l.items) h (answers_itself (finish_asking w turns (Ok l)).1.asked)

-- ---- in both

module _ (w v : Around) (same : SameForm w v) (turns : ℕ) where
  pub set_law : (t : Tree Ident) → FormBegins w t → FormBegins v t → Each (SameAnswer w v) (questions_of_pass w turns t)
      → IsSetAside v (set_aside_asking w turns t) (or_fault (left_with (moved_by w v)) (set_aside_asking w turns t).0.left) (set_aside v turns t)
  set_law t h k a =
      set_there w v same (no_locals w h.state) (no_locals v k.state) turns (or_fault (left_with (moved_by w v)))
      (or_same (LeftLike (λ x y. y ≡ moved_by w v x)) (left_with (moved_by w v)) (left_same (λ x y. y ≡ moved_by w v x) (moved_by w v) (λ x y e. e))) t k (each_all (SameAnswer w v) (questions_of_pass w turns t) a)

  pub set_same : (t : Tree Ident) → FormBegins w t → FormBegins v t → Each (SameAnswer w v) (questions_of_pass w turns t) → SameAside w v (set_aside w turns t) (set_aside v turns t)
  set_same t h k a =
      let x = set_law t h k a in let y = set_itself w turns t h in let q = set_aside_asking w turns t in
      record {
        rest = x.rest ∙ sym (ap (or_fault (left_with (moved_by w v))) y.rest);
        notes = (q.0.notes, y.notes, x.notes);
        states = record { moment = q.1.moment; here = y.state; there = x.state };
      }

  pub finish_law : (from to : ℕ) (l : Left Ident) → LeftBegins w l → LeftBegins v (left_with (bound_moved from to) l) → Each (SameAnswer w v) (questions_of_left w turns (Ok l))
      → IsFinished v (finish_asking w turns (Ok l)) (or_fault (parts_with (bound_moved from to)) (finish_asking w turns (Ok l)).0) (finish v turns (Ok (left_with (bound_moved from to) l)))
  finish_law from to l h k a =
      let f = bound_moved from to in
      finish_there w v same (no_locals w h.state) (no_locals v k.state) turns f (moved_meant from to) (or_fault (parts_with f)) (or_same (PartsLike (Moved f)) (parts_with f) (parts_same (Moved f) f (λ x y e. e))) l (left_with f l) (refl, items_moved f l.items) k
      (each_all (SameAnswer w v) (questions_of_left w turns (Ok l)) a)

  pub finish_same : (from to : ℕ) (l : Left Ident) → LeftBegins w l → LeftBegins v (left_with (bound_moved from to) l) → Each (SameAnswer w v) (questions_of_left w turns (Ok l))
      → SameFinish w v (bound_moved from to) (finish w turns (Ok l)) (finish v turns (Ok (left_with (bound_moved from to) l)))
  finish_same from to l h k a =
      let x = finish_law from to l h k a in let y = finish_itself w turns l h in let q = finish_asking w turns (Ok l) in
      record {
        result = x.result ∙ sym (ap (or_fault (parts_with (bound_moved from to))) y.result);
        states = record { moment = q.1.moment; here = y.state; there = x.state };
      }
