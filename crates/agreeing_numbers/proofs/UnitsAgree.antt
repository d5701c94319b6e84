-- So they do at each turn of each form of a unit, and of what the unit leaves.
use Rattle.std.proofs.Common.{◌≡◌, ℕ, List, [], ◌∷◌, ◌++◌, map, Bool, true, false, cond, Option, Some, None, Result, Ok, Err, refl, sym, ap, ◌∙◌, subst}
use Rattle.std.specs.Prelude.{nat_lt, ◌&&◌}
use Rattle.scheme_model.specs.Ident.{Ident}
use Rattle.scheme_model.specs.Trees.{Tree}
use Rattle.scheme_model.specs.Requirements.{Known}
use Rattle.scheme_model.specs.Cores.{Parts, Part, part}
use Rattle.scheme_model.specs.Steps.{Broken, Step, ◌>>=◌, done}
use Rattle.scheme_model.specs.Order.{Item, Left, Note, Pass, meet_all}
use Rattle.scheme_model.specs.Expression.{expand, item_part, parts}
use Rattle.scheme_model.specs.Program.{enough_turns}
use Rattle.scheme_model.specs.UnitExpansion.{Formed, LeftOf, max_depth, max_total, nodes_in, ◌then◌, going, before_parts, with_part, items_parts, form_parts, passes, finished, unit}
use Rattle.scheme_model.specs.ScopedExpansion.{FramedIdent, ScopedState}
use Rattle.scheme_model.specs.CountedExpansion.{counted}
use Rattle.scheme_model.specs.Questions.{Around}
use Rattle.scheme_model.specs.FormsAlike.{start, set_aside, set_aside_asking, finish, finish_asking}
use Rattle.form_laws.specs.Begins.{Each, IsRooted, ItemWith, MacroInUnit, FormBegins, LeftBegins, RestBegins}
use Rattle.kept_forms.specs.Carried.{no_counts}
use Rattle.kept_forms.specs.KeptForms.{counts_at}
use Rattle.renumbering_laws.specs.Moving.{move_tree}
use Rattle.renumbering_laws.specs.Renumbering.{Renumbering, ident, change, item_as, left_as, result_as}
use Rattle.renumbering_laws.specs.Asked.{new_note, new_moment}
use Rattle.renumbering_laws.specs.NewSurroundings.{HasOldNumbers}
use Rattle.carried_forms.specs.Worked.{GoneForm, around_form, gone_through, gone_on, WorkedForm, worked_forms}
use Rattle.carried_forms.specs.Carried.{asks_alike}
use Rattle.carried_laws.specs.AtWork.{IsAtWork}
use Rattle.carried_laws.proofs.Alone.{WentTo, form_went}
use Rattle.agreeing_numbers.proofs.Agreeing.{same_front, Agrees, AroundAgrees, pass_same, left_same, alike_same}
use Rattle.agreeing_numbers.proofs.FormsAgree.{AsideAgrees, aside_agrees, rest_agrees}

-- ---- where work on a unit ends in a form, it stands where the form's first items lead

pub record Front {X : Type 0} (is : List X) : Type 0 where
  pub front : List X
  pub rest : List X
  pub split : is ≡ front ++ rest

module _ (known : Known) (f : Item Ident → Step ScopedState Part) where
  abbrev LeadsTo : List (Item Ident) → ScopedState → ScopedState → Type 0
  LeadsTo is s t = (x : Front is) × (t ≡ (parts f x.front s).1)

  ends_behind : (p : Part) (m : Option (Result Parts Broken) × ScopedState) → (m then λ r. going (with_part p r)).1 ≡ m.1
  ends_behind p (None, s) = refl
  ends_behind p (Some r, s) = refl

  goes_behind : (p : Part) (x : Result Parts Broken × ScopedState) → (x >>= λ ps. done (part p ps)).1 ≡ x.1
  goes_behind p (Ok ps, s) = refl
  goes_behind p (Err e, s) = refl

  items_lead : (fs : List ℕ) (is : List (Item Ident)) (s : ScopedState) → LeadsTo is s (items_parts (counted known) fs f is s).1
  items_lead fs [] s = (record { front = []; rest = []; split = refl }, refl)
  items_lead fs (i ∷ is) s = go (nat_lt max_total (nodes_in (counted known) fs (f i s).1)) (f i s) refl (λ u. items_lead fs is u)
    where
      one : (x : Result Part Broken × ScopedState) → x.1 ≡ (x >>= λ p. λ t. parts f [] t >>= λ ps. done (part p ps)).1
      one (Ok p, u) = refl
      one (Err e, u) = refl

      go : (b : Bool) (x : Result Part Broken × ScopedState) → f i s ≡ x → ((u : ScopedState) → LeadsTo is u (items_parts (counted known) fs f is u).1)
          → LeadsTo (i ∷ is) s (cond {A = Option (Result Part Broken) × ScopedState} b (None, x.1) (Some x.0, x.1) then before_parts (items_parts (counted known) fs f is)).1
      go true x e law = (record { front = i ∷ []; rest = is; split = refl }, one x ∙ ap (λ (y : Result Part Broken × ScopedState). (y >>= λ p. λ t. parts f [] t >>= λ ps. done (part p ps)).1) (sym e))
      go false (Err d, u) e law = (record { front = i ∷ []; rest = is; split = refl }, ap (λ (y : Result Part Broken × ScopedState). (y >>= λ p. λ t. parts f [] t >>= λ ps. done (part p ps)).1) (sym e))
      go false (Ok p, u) e law =
          let h = law u in (
            record { front = i ∷ h.0.front; rest = h.0.rest; split = ap (λ js. i ∷ js) h.0.split },
            ends_behind p (items_parts (counted known) fs f is u) ∙ (h.1 ∙ (sym (goes_behind p (parts f h.0.front u))
                ∙ ap (λ (y : Result Part Broken × ScopedState). (y >>= λ p. λ t. parts f h.0.front t >>= λ ps. done (part p ps)).1) (sym e))),
          )

each_front : {X : Type 0} (P : X → Type 0) (xs ys : List X) → Each P (xs ++ ys) → Each P xs
each_front P [] ys h = tt
each_front P (x ∷ xs) ys h = (h.0, each_front P xs ys h.1)

left_or : Left Ident → Result (Left Ident) Broken → Left Ident
left_or d (Ok l) = l
left_or d (Err e) = d

-- they make the same of a form's number in its unit, and of its tree
abbrev pub TreeAgrees : Renumbering → Renumbering → (unit : ℕ) → ℕ × Tree Ident → Type 0
TreeAgrees r q u t = (r.form u t.0 ≡ q.form u t.0) × (move_tree (change r) t.1 ≡ move_tree (change q) t.1)

-- and of all that is around it at its turns, of its tree, and of what it set aside
pub record FormAgrees (r q : Renumbering) (f : WorkedForm) : Type 0 where
  pub around : AroundAgrees r q f.around
  pub later : AroundAgrees r q f.later
  pub tree : move_tree (change r) f.tree ≡ move_tree (change q) f.tree
  pub left : result_as r (left_as r (ident r)) f.left ≡ result_as q (left_as q (ident q)) f.left

-- so it asks alike by both, or by neither
pub asks_same : (r q : Renumbering) → HasOldNumbers r → HasOldNumbers q → (f : WorkedForm) → FormAgrees r q f → (g : WorkedForm) → asks_alike r f g ≡ asks_alike q f g
asks_same r q b c f a g =
    let pass = ap (λ z. z.1.asked) (pass_same r q b c f.around a.around enough_turns f.tree a.tree) in
    let rest = ap (λ z. z.1.asked) (left_same r q b c f.later a.later enough_turns f.left a.left) in
    let i = alike_same r q b c f.around a.around g.around (set_aside_asking f.around enough_turns f.tree).1.asked pass in
    let k = alike_same r q b c f.later a.later g.later (finish_asking f.later enough_turns f.left).1.asked rest in λ j. i j && k j

module _ (r q : Renumbering) (b : HasOldNumbers r) (c : HasOldNumbers q) where
  abbrev Same_left : Result (Left Ident) Broken → Type 0
  Same_left l = result_as r (left_as r (ident r)) l ≡ result_as q (left_as q (ident q)) l

  abbrev Same_notes : List (Note FramedIdent) → Type 0
  Same_notes ns = map (new_note r) ns ≡ map (new_note q) ns

  abbrev Stands : ScopedState → Type 0
  Stands s = Agrees r q s.table s.macros s.entry

  module _ (w : Around) (a : AroundAgrees r q w) where
    -- whether work ends there or not
    form_ends : (fs : List ℕ) (l : Result (Left Ident) Broken) → RestBegins w l → Same_left l → let s = (form_parts (counted w.known) (expand (counted w.known) enough_turns) [] fs l w.state).1 in Stands s × (s.unit ≡ w.state.unit)
    unfolding left_or
    form_ends fs (Err e) begins same = (a.state, refl)
    form_ends fs (Ok l) begins same =
        let f = item_part (expand (counted w.known) enough_turns) (counted w.known) max_depth [] in
        let u = meet_all (counted w.known) [] l.uses w.state in
        let h = items_lead w.known f fs l.items u in
        let m : Left Ident = record { uses = l.uses; items = h.0.front } in
        let begun : LeftBegins w m = record {
          state = begins.state;
          uses = begins.uses;
          items = each_front (ItemWith (IsRooted w.state)) h.0.front h.0.rest (subst (λ (is : List (Item Ident)). Each (ItemWith (IsRooted w.state)) is) h.0.split begins.items);
          macros = each_front MacroInUnit h.0.front h.0.rest (subst (λ (is : List (Item Ident)). Each MacroInUnit is) h.0.split begins.macros);
        } in
        let both : left_as r (ident r) l ≡ left_as q (ident q) l = ap (left_or (left_as r (ident r) l)) same in
        let uses = ap (λ (x : Left Ident). x.uses) both in
        let all = subst (λ (is : List (Item Ident)). map (item_as r (ident r)) is ≡ map (item_as q (ident q)) is) h.0.split (ap (λ (x : Left Ident). x.items) both) in
        let items = same_front (item_as r (ident r)) (item_as q (ident q)) h.0.front h.0.rest all in
        let k = rest_agrees r q b c w a (Ok m) begun (λ j. Ok (record { uses = uses j; items = items j })) in
        subst (λ (s : ScopedState). Stands s × (s.unit ≡ w.state.unit)) (sym h.1) k

  -- ---- forms gone through

  -- where it began, and what it left
  record GoneAgrees (u : ℕ) (g : GoneForm) : Type 0 where
    form : r.form u g.form ≡ q.form u g.form
    around : AroundAgrees r q g.around
    tree : move_tree (change r) g.tree ≡ move_tree (change q) g.tree
    left : Same_left g.left
    counts : let m = counts_at g.form (set_aside g.around enough_turns g.tree).1 in new_moment r m ≡ new_moment q m

  abbrev BeginsNew : GoneForm → Type 0
  BeginsNew g = (start g.around.state ≡ no_counts) × FormBegins g.around g.tree

  module _ (known : Known) (u : ℕ) (unit_same : r.unit u ≡ q.unit u) where
    abbrev At : ScopedState → Type 0
    At s = (s.unit ≡ u) × Stands s

    around_agrees : (s : ScopedState) (ns : List (Note FramedIdent)) (f : ℕ) → At s → Same_notes ns → r.form u f ≡ q.form u f → let m = start (around_form known ns s f).state in new_moment r m ≡ new_moment q m → AroundAgrees r q (around_form known ns s f)
    around_agrees s ns f at notes form counts = record {
      unit = subst (λ n. r.unit n ≡ q.unit n) (sym at.0) unit_same;
      form = subst (λ n. r.form n f ≡ q.form n f) (sym at.0) form;
      state = at.1;
      notes = notes;
      counts = counts;
    }

    record AllGone (gs : List GoneForm) (s : ScopedState) : Type 0 where
      each : Each (GoneAgrees u) gs
      at : At s

    abbrev left_of : GoneForm → LeftOf Ident
    left_of g = (g.form, g.left)

    -- the forms gone through are those that work goes through, unless it ends
    abbrev Passed : Option (List (LeftOf Ident)) × ScopedState → List GoneForm × ScopedState → Type 0
    Passed (None, t) x = At t
    Passed (Some ls, t) x = (ls ≡ map left_of x.0) × (t ≡ x.1)

    first_agrees : (t : ℕ × Tree Ident) (ns : List (Note FramedIdent)) (s : ScopedState) → At s → Same_notes ns → TreeAgrees r q u t → let w = around_form known ns s t.0 in (start w.state ≡ no_counts) × FormBegins w t.1 →
        AroundAgrees r q w × AsideAgrees r q w t.1
    first_agrees t ns s at notes tree begins =
        let w = around_form known ns s t.0 in
        let a = around_agrees s ns t.0 at notes tree.0 (ap (new_moment r) begins.0 ∙ sym (ap (new_moment q) begins.0)) in
        (a, aside_agrees r q b c w a t.1 begins.1 tree.1)

    gone : (ts : List (ℕ × Tree Ident)) (ns : List (Note FramedIdent)) (s : ScopedState) → At s → Same_notes ns → Each (TreeAgrees r q u) ts → let x = gone_through known ts ns s in Each BeginsNew x.0 → AllGone x.0 x.1
    gone [] ns s at notes trees begins = record { each = tt; at = at }
    gone (t ∷ ts) ns s at notes trees begins =
        let w = around_form known ns s t.0 in
        let z = set_aside w enough_turns t.1 in
        let k = first_agrees t ns s at notes trees.0 begins.0 in
        let more = gone ts z.0.notes z.1 (k.1.unit ∙ at.0, k.1.state) k.1.notes trees.1 begins.1 in
        record {
          each = (record { form = trees.0.0; around = k.0; tree = trees.0.1; left = k.1.left; counts = k.1.counts }, more.each);
          at = more.at;
        }

    passed : (fs : List ℕ) (ts : List (ℕ × Tree Ident)) (ns : List (Note FramedIdent)) (s : ScopedState) → At s → Same_notes ns → Each (TreeAgrees r q u) ts → let x = gone_through known ts ns s in Each BeginsNew x.0 →
        Passed (passes (counted known) enough_turns [] fs ts ns s) x
    passed fs [] ns s at notes trees begins = (refl, refl)
    passed fs (t ∷ ts) ns s at notes trees begins = go (nat_lt max_total (nodes_in (counted known) fs z.1)) (k.1.unit ∙ at.0, k.1.state) (passed fs ts z.0.notes z.1 (k.1.unit ∙ at.0, k.1.state) k.1.notes trees.1 begins.1)
      where
        z : Pass Ident FramedIdent × ScopedState
        z = set_aside (around_form known ns s t.0) enough_turns t.1

        k : AroundAgrees r q (around_form known ns s t.0) × AsideAgrees r q (around_form known ns s t.0) t.1
        k = first_agrees t ns s at notes trees.0 begins.0

        behind : (m : Option (List (LeftOf Ident)) × ScopedState) → Passed m (gone_through known ts z.0.notes z.1) → Passed (m then λ rest. going ((t.0, z.0.left) ∷ rest)) (gone_through known (t ∷ ts) ns s)
        behind (None, v) h = h
        behind (Some ls, v) h = (ap (λ l. (t.0, z.0.left) ∷ l) h.0, h.1)

        go : (d : Bool) → At z.1 → Passed (passes (counted known) enough_turns [] fs ts z.0.notes z.1) (gone_through known ts z.0.notes z.1)
            → Passed (cond {A = Option (Pass Ident FramedIdent) × ScopedState} d (None, z.1) (Some z.0, z.1) then λ p t1. passes (counted known) enough_turns [] fs ts p.notes t1 then λ rest. going ((t.0, p.left) ∷ rest)) (gone_through known (t ∷ ts) ns s)
        go true h x = h
        go false h x = behind (passes (counted known) enough_turns [] fs ts z.0.notes z.1) x

    -- ---- what they set aside is expanded

    later_agrees : (g : GoneForm) (s : ScopedState) → At s → GoneAgrees u g → start (around_form known [] s g.form).state ≡ counts_at g.form (set_aside g.around enough_turns g.tree).1 → AroundAgrees r q (around_form known [] s g.form)
    later_agrees g s at a counts = around_agrees s [] g.form at refl a.form (ap (new_moment r) counts ∙ (a.counts ∙ sym (ap (new_moment q) counts)))

    finish_agrees : (g : GoneForm) (s : ScopedState) → (at : At s) → GoneAgrees u g → IsAtWork u (record { form = g.form; tree = g.tree; around = g.around; left = g.left; later = around_form known [] s g.form }) →
        At (finish (around_form known [] s g.form) enough_turns g.left).1
    finish_agrees g s at a h =
        let w = around_form known [] s g.form in
        let z = rest_agrees r q b c w (later_agrees g s at a h.counts) g.left h.rest a.left in (z.1 ∙ at.0, z.0)

    on : (gs : List GoneForm) (s : ScopedState) → At s → Each (GoneAgrees u) gs → Each (IsAtWork u) (gone_on known gs s) → Each (FormAgrees r q) (gone_on known gs s)
    on [] s at agrees work = tt
    on (x ∷ gs) s at agrees work =
        let a = agrees.0 in
        let h = work.0 in
        (record { around = a.around; later = later_agrees x s at a h.counts; tree = a.tree; left = a.left }, on gs (finish (around_form known [] s x.form) enough_turns x.left).1 (finish_agrees x s at a h) agrees.1 work.1)

    ended : (fs : List ℕ) (gs : List GoneForm) (s : ScopedState) → At s → Each (GoneAgrees u) gs → Each (IsAtWork u) (gone_on known gs s) → At (finished (counted known) (expand (counted known) enough_turns) [] fs (map left_of gs) s).1
    ended fs [] s at agrees work = at
    ended fs (x ∷ gs) s at agrees work =
        behind (form_parts (counted known) (expand (counted known) enough_turns) [] fs x.left w.state) (ends.1 ∙ at.0, ends.0) (form_went known enough_turns fs x.left w.state)
        (ended fs gs (finish w enough_turns x.left).1 (finish_agrees x s at agrees.0 work.0) agrees.1 work.1)
      where
        w : Around
        w = around_form known [] s x.form

        ends : let t = (form_parts (counted known) (expand (counted known) enough_turns) [] fs x.left w.state).1 in Stands t × (t.unit ≡ s.unit)
        ends = form_ends w (later_agrees x s at agrees.0 work.0.counts) fs x.left work.0.rest agrees.0.left

        last : (m : Option (List Formed) × ScopedState) (f : Formed) → At m.1 → At (m then λ rest. going (f ∷ rest)).1
        last (None, t) f h = h
        last (Some xs, t) f h = h

        behind : (m : Option (Result Parts Broken) × ScopedState) → At m.1 → WentTo m (finish w enough_turns x.left).1 → At (finished (counted known) (expand (counted known) enough_turns) [] fs (map left_of gs) (finish w enough_turns x.left).1).1
            → At (m then λ ps t. finished (counted known) (expand (counted known) enough_turns) [] fs (map left_of gs) t then λ rest. going (record { form = x.form; result = ps; counted = (counted known).counted t } ∷ rest)).1
        behind (None, t) h went more = h
        behind (Some ps, t) h went more =
            last (finished (counted known) (expand (counted known) enough_turns) [] fs (map left_of gs) t) (record { form = x.form; result = ps; counted = (counted known).counted t })
            (subst (λ (v : ScopedState). At (finished (counted known) (expand (counted known) enough_turns) [] fs (map left_of gs) v).1) (sym went) more)

    -- ---- the unit

    begins_new : (gs : List GoneForm) (s : ScopedState) → Each (IsAtWork u) (gone_on known gs s) → Each BeginsNew gs
    begins_new [] s h = tt
    begins_new (x ∷ gs) s h = ((h.0.new, h.0.begun), begins_new gs (finish (around_form known [] s x.form) enough_turns x.left).1 h.1)

    module _ (ts : List (ℕ × Tree Ident)) (s : ScopedState) (at : At s) (trees : Each (TreeAgrees r q u) ts) (work : Each (IsAtWork u) (worked_forms known ts s)) where
      abbrev x : List GoneForm × ScopedState
      x = gone_through known ts [] s

      all : AllGone x.0 x.1
      all = gone ts [] s at refl trees (begins_new x.0 x.1 work)

      pub forms_ask : Each (FormAgrees r q) (worked_forms known ts s)
      forms_ask = on x.0 x.1 all.at all.each work

      pub unit_leaves : At (unit (counted known) enough_turns [] ts s).1
      unit_leaves = go (passes (counted known) enough_turns [] fs ts [] s) (passed fs ts [] s at refl trees (begins_new x.0 x.1 work))
        where
          fs : List ℕ
          fs = map (λ t. t.0) ts

          go : (m : Option (List (LeftOf Ident)) × ScopedState) → Passed m x → At (m then finished (counted known) (expand (counted known) enough_turns) [] fs).1
          go (None, t) h = h
          go (Some ls, t) h =
              subst (λ (k : List (LeftOf Ident)). At (finished (counted known) (expand (counted known) enough_turns) [] fs k t).1) (sym h.0)
              (subst (λ (v : ScopedState). At (finished (counted known) (expand (counted known) enough_turns) [] fs (map left_of x.0) v).1) (sym h.1) (ended fs x.0 x.1 all.at all.each work))
