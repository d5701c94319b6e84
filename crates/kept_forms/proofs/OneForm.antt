-- One form of a unit in surroundings that differ in times alone: gone through, and expanded, it comes to what is put into its place.
use Rattle.std.proofs.Common.{◌≡◌, ℕ, zero, suc, ◌+◌, ◌-◌, List, [], ◌∷◌, map, Option, Some, None, Result, Ok, Err, refl, sym, ap, ◌∙◌, subst, arith}
use Rattle.scheme_model.specs.Ident.{Ident}
use Rattle.scheme_model.specs.Trees.{Tree}
use Rattle.scheme_model.specs.Cores.{Bound, LocalNumber, Definition, Binder, Parts, Part, part}
use Rattle.scheme_model.specs.Steps.{Broken, Step, ◌>>=◌, done}
use Rattle.scheme_model.specs.Order.{Item, Expression, Value, Function, Assigned, AssignedFunction, ValuesOf, Record, Macro, Left, Pass, meet_all}
use Rattle.scheme_model.specs.Expression.{meaning_of, expand, item_part, parts}
use Rattle.scheme_model.specs.UnitExpansion.{max_depth, form_parts}
use Rattle.scheme_model.specs.Substitution.{definition_count}
use Rattle.scheme_model.specs.ScopedExpansion.{FramedIdent, ScopedState}
use Rattle.scheme_model.specs.CountedExpansion.{counted}
use Rattle.scheme_model.specs.Questions.{Around, SameAnswer, Asking, asking, Moment}
use Rattle.scheme_model.specs.FormsAlike.{bound_moved, binder_with, item_with, left_with, or_fault, set_aside, no_questions, set_aside_asking, questions_of_pass, questions_of_left, again, bare_note, bare_state, start}
use Rattle.model_laws.proofs.FrameAsks.{AllOf}
use Rattle.model_laws.proofs.UnitEnds.{Both, both_go, both_at}
use Rattle.form_laws.specs.Begins.{Each, ItemWith, IsRooted, MacroInUnit, Begins, FormBegins, LeftBegins, RestBegins, SameForm}
use Rattle.form_laws.proofs.Sides.{ItemLike}
use Rattle.form_laws.proofs.SideRuns.{both_itself, item_itself}
use Rattle.form_laws.proofs.SideExpressions.{expand_goes, parts_go}
use Rattle.form_laws.proofs.Answering.{first_of, answering}
use Rattle.form_laws.proofs.AskingSides.{NoLocals, fits, sides}
use Rattle.form_laws.proofs.OwnStates.{entry_given}
use Rattle.form_laws.proofs.FormLaws.{set_itself, set_law, finish_law}
use Rattle.kept_forms.specs.KeptForms.{KeptForm, KeptParts, put_aside, goes_through, kept_moved, put_parts, comes_to}
use Rattle.kept_forms.specs.Carried.{kept_aside, kept_parts, PassStays, RestStays, PassKept, RestKept, no_counts}
use Rattle.kept_forms.proofs.Bares.{bare_around, notes_joined, form_begins_too, rest_begins_too, definitions_too, again_too, answers_too, form_too, answers_itself}
use Rattle.kept_forms.proofs.Numbers.{LeftIs, left_same}
use Rattle.kept_forms.proofs.Fronts.{EndedLike, GivesLike, across, Fronts, items_like}

-- ---- moved by nothing

pub moved_none : (c : ℕ) (x : Bound) → bound_moved c c x ≡ x
moved_none c (LocalNumber k) = refl
moved_none c (Definition u n) = let e : n + c - c ≡ n = omega arith in ap (Definition u) e

module _ (f : Bound → Bound) (none : (x : Bound) → f x ≡ x) where
  pub binder_still : (b : Binder) → binder_with f b ≡ b
  binder_still b = let a = none b.bound in λ j. record { bound = a j; ident = b.ident; occ = b.occ }

  pub names_still : (bs : List Binder) → map (binder_with f) bs ≡ bs
  names_still [] = refl
  names_still (b ∷ bs) = let a = binder_still b in let c = names_still bs in λ j. a j ∷ c j

  item_still : (i : Item Ident) → item_with f i ≡ i
  item_still (Expression x) = refl
  item_still (Value b x) = ap (λ c. Value c x) (binder_still b)
  item_still (Function b here c) = ap (λ d. Function d here c) (binder_still b)
  item_still (Assigned n x) = refl
  item_still (AssignedFunction n here c) = refl
  item_still (ValuesOf bs x) = ap (λ ns. ValuesOf (record { names = ns; rest = bs.rest }) x) (names_still bs.names)
  item_still (Record r) = ap (λ ns. Record (record r { binders = ns })) (names_still r.binders)
  item_still (Macro b here) = ap (λ c. Macro c here) (binder_still b)

  items_still : (is : List (Item Ident)) → map (item_with f) is ≡ is
  items_still [] = refl
  items_still (i ∷ is) = let a = item_still i in let b = items_still is in λ j. a j ∷ b j

  pub left_still : (l : Left Ident) → left_with f l ≡ l
  left_still l = ap (λ is. record { uses = l.uses; items = is }) (items_still l.items)

  pub rest_still : (r : Result (Left Ident) Broken) → or_fault (left_with f) r ≡ r
  rest_still (Ok l) = ap (λ z. Ok z) (left_still l)
  rest_still (Err e) = refl

-- ---- gone through

pub record PassLike (q m : Pass Ident FramedIdent × ScopedState) : Type 0 where
  pub left : q.0.left ≡ m.0.left
  pub notes : map bare_note q.0.notes ≡ map bare_note m.0.notes
  pub state : bare_state q.1 ≡ bare_state m.1

itself_form : (w : Around) → SameForm w w
itself_form w = record { unit = refl; form = refl; counts = refl }

module _ (w v : Around) (same : bare_around v ≡ bare_around w) (turns : ℕ) where
  kept_like : (old : Around) (t : Tree Ident) → SameForm old w → PassStays old w turns t → FormBegins v t → PassLike (set_aside v turns t) (put_aside w (kept_aside old turns t))
  kept_like old t form k h =
      let p = set_aside_asking old turns t in
      let x = set_law old v (form_too w v same old form) turns t k.begun h (answers_too w v same old (questions_of_pass old turns t) k.answers) in
      record {
        left = x.rest ∙ ap (λ c. or_fault (left_with (bound_moved (definition_count old.state.table old.state.unit) c)) p.0.left) (definitions_too w v same);
        notes = x.notes ∙ notes_joined p.0.notes v.notes w.notes (ap (λ (z : Around). z.notes) same);
        state = x.state ∙ again_too w v same p.1.moment;
      }

  -- it has counted nothing yet
  pub pass_like : (t : Tree Ident) (o : Option KeptForm) → start w.state ≡ no_counts → FormBegins v t → PassKept w turns t o → PassLike (set_aside v turns t) (goes_through w turns t o)
  pass_like t None new h k =
      let b = form_begins_too w v same t h in
      let x = kept_like w t (itself_form w) (record { unit = refl; form = refl; new = new; begun = b; answers = answers_itself w w refl (questions_of_pass w turns t) }) h in
      let y = set_itself w turns t b in
      let c = definition_count w.state.table w.state.unit in
      record { left = x.left ∙ rest_still (bound_moved c c) (moved_none c) (set_aside_asking w turns t).0.left ∙ sym y.rest; notes = x.notes ∙ sym y.notes; state = x.state ∙ sym y.state }
  pass_like t (Some c) new h k = let form : SameForm k.0 w = record { unit = k.1.unit; form = k.1.form; counts = new ∙ sym k.1.new } in subst (λ z. PassLike (set_aside v turns t) (put_aside w z)) (sym k.2) (kept_like k.0 t form k.1 h)

-- ---- the first items

each_all : {X : Type 0} (P : X → Type 0) (xs : List X) → Each P xs → AllOf P xs
each_all P [] h = tt
each_all P (x ∷ xs) h = (h.0, each_all P xs h.1)

all_each : {X : Type 0} (P : X → Type 0) (xs : List X) → AllOf P xs → Each P xs
all_each P [] h = tt
all_each P (x ∷ xs) h = (h.0, all_each P xs h.1)

each_first : {X : Type 0} (P : X → Type 0) (n : ℕ) (xs : List X) → Each P xs → Each P (first_of n xs)
each_first P zero xs h = tt
each_first P (suc n) [] h = tt
each_first P (suc n) (x ∷ xs) h = (h.0, each_first P n xs h.1)

first_mapped : {X Y : Type 0} (g : X → Y) (n : ℕ) (xs : List X) → first_of n (map g xs) ≡ map g (first_of n xs)
first_mapped g zero xs = refl
first_mapped g (suc n) [] = refl
first_mapped g (suc n) (x ∷ xs) = ap (λ zs. g x ∷ zs) (first_mapped g n xs)

abbrev front : ℕ → Left Ident → Left Ident
front n l = record { uses = l.uses; items = first_of n l.items }

front_begins : (v : Around) (n : ℕ) (l : Left Ident) → LeftBegins v l → LeftBegins v (front n l)
front_begins v n l h = record { state = h.state; uses = h.uses; items = each_first (ItemWith (IsRooted v.state)) n l.items h.items; macros = each_first MacroInUnit n l.items h.macros }

moved_front_begins : (v : Around) (f : Bound → Bound) (n : ℕ) (l : Left Ident) → LeftBegins v (left_with f l) → LeftBegins v (left_with f (front n l))
moved_front_begins v f n l h = subst (λ is. LeftBegins v (record { uses = l.uses; items = is })) (first_mapped (item_with f) n l.items) (front_begins v n (left_with f l) h)

no_locals : (w : Around) → Begins w.state → NoLocals w
no_locals w h = λ u x. entry_given (w.state.entry u x) (h.entries u x)

done_state : (p : Part) (x : Result Parts Broken × Asking) → (x >>= λ ps. done (part p ps)).1 ≡ x.1
done_state p (Ok ps, a) = refl
done_state p (Err e, a) = refl

-- what they ask was asked by all
module _ (w v : Around) (same : SameForm w v) (h : Begins w.state) (k : Begins v.state) (turns : ℕ) where
  abbrev fa : Item Ident → Step Asking Part
  fa = item_part (expand (asking w) turns) (asking w) max_depth []

  abbrev Answered : Asking → Type 0
  Answered s = AllOf (SameAnswer w v) s.asked

  asked_before : (is : List (Item Ident)) (s : Asking) → Answered (parts fa is s).1 → Answered s
  asked_before is s a =
      let there = answering v.state v.known in
      let ss = sides w v same.unit same.form (no_locals w h) (no_locals v k) in
      (parts_go (asking w) there fits ss (λ s m. tt) (expand (asking w) turns) (expand there turns) (expand_goes (asking w) there fits ss (λ s m. tt) turns) (λ (x y : Bound). y ≡ x) (λ x y d i. ap (λ z. meaning_of z i) d) max_depth [] [] is is
      (both_itself (ItemLike (λ (x y : Bound). y ≡ x)) (item_itself (λ (x y : Bound). y ≡ x) (λ x. refl)) is) s refl).back a

  front_answers : (is : List (Item Ident)) (n : ℕ) (s : Asking) → Answered (parts fa is s).1 → Answered (parts fa (first_of n is) s).1
  front_answers is zero s a = asked_before is s a
  front_answers [] (suc n) s a = a
  front_answers (i ∷ is) (suc n) s a = go (λ u z. front_answers is n u z) (fa i s) a
    where
      go : ((u : Asking) → Answered (parts fa is u).1 → Answered (parts fa (first_of n is) u).1) → (q : Result Part Broken × Asking) → Answered (q >>= λ p. λ t. parts fa is t >>= λ ps. done (part p ps)).1 → Answered (q >>= λ p. λ t. parts fa (first_of n is) t >>= λ ps. done (part p ps)).1
      go law (Ok p, u) z = subst Answered (sym (done_state p (parts fa (first_of n is) u))) (law u (subst Answered (done_state p (parts fa is u)) z))
      go law (Err e, u) z = z

-- ---- what it set aside, expanded

rest_from : (old w v : Around) (same : bare_around v ≡ bare_around w) (turns : ℕ) (fs : List ℕ) (from to : ℕ) (l : Left Ident) → SameForm old w → RestStays old w turns l → LeftBegins v (left_with (bound_moved from to) l) → let f = bound_moved from to in
    Both EndedLike GivesLike (form_parts (counted v.known) (expand (counted v.known) turns) [] fs (Ok (left_with f l)) v.state) (put_parts w fs (Ok (left_with f l)) (kept_moved f (kept_parts old turns from l)))
rest_from old w v same turns fs from to l there k h =
    let f = bound_moved from to in
    let form = form_too w v same old there in
    let s = meet_all (asking old) [] l.uses (no_questions old) in
    let t = meet_all (counted v.known) [] l.uses v.state in
    let one = item_part (expand (asking old) turns) (asking old) max_depth [] in
    let two = item_part (expand (counted v.known) turns) (counted v.known) max_depth [] in
    let answers = each_all (SameAnswer old v) (questions_of_left old turns (Ok l)) (answers_too w v same old (questions_of_left old turns (Ok l)) k.answers) in
    let fronts : Fronts f v w same fs one two l.items s t = λ n.
    (let x = finish_law old v form turns from to (front n l) (front_begins old n l k.begun) (moved_front_begins v f n l h)
    (all_each (SameAnswer old v) (questions_of_left old turns (Ok (front n l))) (front_answers old v form k.begun.state h.state turns l.items n s answers)) in (x.result, x.state)) in
    items_like f v w same fs one two l.items s t (again w s.moment) fronts ((fronts 0).1 ∙ again_too w v same s.moment)

-- its turn comes where it has counted as much as where the rest was kept
abbrev pub BegunAt : Moment → Option KeptParts → Type 0
BegunAt m None = Unit {0}
BegunAt m (Some k) = m ≡ k.begun

pub rest_like : (w v : Around) (same : bare_around v ≡ bare_around w) (turns : ℕ) (fs : List ℕ) (r : Result (Left Ident) Broken) (o : Option KeptParts) → LeftIs r o → BegunAt (start w.state) o → RestBegins v r → RestKept w turns o
    → Both EndedLike GivesLike (form_parts (counted v.known) (expand (counted v.known) turns) [] fs r v.state) (comes_to w turns fs r o)
rest_like w v same turns fs (Err e) None d n h k = both_go (Err e) (Err e) v.state w.state refl refl (ap (λ (z : Around). z.state) same, refl)
rest_like w v same turns fs (Err e) (Some c) d n h k = both_go (Err e) (Err e) v.state w.state refl refl (ap (λ (z : Around). z.state) same, refl)
rest_like w v same turns fs (Ok m) None d n h k =
    let b : LeftBegins w m = rest_begins_too w v same (Ok m) h in
    let e = left_still (bound_moved 0 0) (moved_none 0) m in
    let stays : RestStays w w turns m = record { unit = refl; form = refl; begun = b; answers = answers_itself w w refl (questions_of_left w turns (Ok m)) } in
    let x = rest_from w w v same turns fs 0 0 m (itself_form w) stays (subst (LeftBegins v) (sym e) h) in
    let y = rest_from w w w refl turns fs 0 0 m (itself_form w) stays (subst (LeftBegins w) (sym e) b) in
    subst (λ (l : Left Ident). Both EndedLike GivesLike (form_parts (counted v.known) (expand (counted v.known) turns) [] fs (Ok l) v.state) (form_parts (counted w.known) (expand (counted w.known) turns) [] fs (Ok l) w.state)) e (across x y)
rest_like w v same turns fs (Ok m) (Some c) d n h k =
    let b = k.5 in
    let a : m ≡ left_with (bound_moved k.2 k.3) k.1 = left_same c.left m (Ok m) d refl ∙ ap (λ (z : KeptParts). z.left) b in
    let form : SameForm k.0 w = record { unit = k.4.unit; form = k.4.form; counts = n ∙ ap (λ (z : KeptParts). z.begun) b } in
    both_at (ap (λ (l : Left Ident). form_parts (counted v.known) (expand (counted v.known) turns) [] fs (Ok l) v.state) a) (λ j. put_parts w fs (Ok (a j)) (b j))
    (rest_from k.0 w v same turns fs k.2 k.3 k.1 form k.4 (subst (LeftBegins v) a h))
