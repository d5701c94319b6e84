-- Forms that are gone through one after another: what was come to so far, and how the pass ends.
use Rattle.std.proofs.Common.{◌≡◌, ℕ, zero, suc, ◌+◌, ◌*◌, ◌-◌, ◌^◌, ◌<◌, ◌≤◌, List, [], ◌∷◌, ◌++◌, reverse, Result, Ok, Err, refl, sym, ap, ◌∙◌, subst, arith}
use Rattle.std.proofs.lemmas.List.{reverse-append}
use Rattle.std.specs.Result.{IsErrAnd}
use Rattle.scheme_model.specs.Measures.{tree_size}
use Rattle.scheme_model.specs.Ident.{Ident as Identifier}
use Rattle.scheme_model.specs.Requirements.{Known}
use Rattle.scheme_model.specs.Order.{Form, Left, Pending, Pass, Going, here_at, run, run_next, run_form}
use Rattle.scheme_model.specs.ScopedExpansion.{Frames, FramedIdent}
use Rattle.syntax_tree.specs.declared.trees.Work.{Work}
use Rattle.syntax_tree.specs.declared.trees.table.Region.{Region}
use Rattle.core_tree.specs.Names.{AllMatch}
use Rattle.unit_scopes.specs.State.{most_locals}
use Rattle.unit_scopes.specs.Kept.{FormFor, KeptFor, WaitsFor, PendingFor, NotesFor, forms_size, left_with}
use Rattle.expander.specs.Passed.{CanPass, GoesOn, Passes}
use Rattle.unit_scopes.specs.declared.asked.Asked.{Asked}
use Rattle.feature_requirements.specs.declared.fault.ExpandFault.{ExpandFault}
use Rattle.feature_requirements.specs.declared.fault.ExpandFault.TheVariants as fault
use Rattle.form_parts.specs.declared.items.Form as code_form
use Rattle.form_parts.specs.declared.items.Kept as code_kept
use Rattle.form_parts.specs.declared.items.Pending as code_pending
use Rattle.form_parts.specs.declared.items.Spot.{Spot}
use Rattle.form_parts.specs.declared.items.WaitingUse as code_waiting
use Rattle.unit_scopes.specs.declared.scope.UnitScope.{UnitScope}
use Rattle.expander.proofs.FitLaws.{some_node}
use Rattle.noted_steps.specs.Noting.{Noting, noting}
use Rattle.noted_steps.specs.Standing.{Stands}
use Rattle.noted_steps.specs.Outcomes.{Stays}
use Rattle.noted_steps.proofs.OutcomeLaws.{stays_itself, stays_on, moves_here, leaves_on, fills_on}
use Rattle.noted_steps.specs.Kept.{SpotFor}

-- ---- what is left falls

turned : (a b k : ℕ) → (b + k) + a ≡ (a + b) + k
turned a b k = omega arith

falls : (q r t l turn most : ℕ) → r + t ≡ l → q < r + t → l + turn ≤ most → q + (turn + 1) ≤ most
falls q r t l turn most split less within = omega (arith, split, less, within)

takes : (w q v r t l u most : ℕ) → r + t ≡ l → w + q ≤ v + r + t → v + l ≤ u + most → w + q ≤ u + most
takes w q v r t l u most split more within = omega (arith, split, more, within)

enough_behind : (q r t l more k : ℕ) → r + t ≡ l → q < r + t → l ≤ more → more ≡ suc k → q ≤ k
enough_behind q r t l more k split less within is = omega (arith, split, less, within, is)

has_room : (v r t l u most before after : ℕ) → r + t ≡ l → v + l ≤ u + most → u + most + 0 ≤ 2 ^ 44 * (before + 1) → before ≤ after → v + r + t ≤ 2 ^ 44 * (after + 1)
has_room v r t l u most before after split within room more = omega (arith, split, within, room, more)

only_locals : (v l most : ℕ) → v + l ≤ most → v ≤ most
only_locals v l most within = omega (arith, within)

none_turn : {P : Type 0} (r t l more : ℕ) → r + t ≡ l → 1 ≤ t → l ≤ more → more ≡ 0 → P
none_turn r t l more split one within is = absurd (omega (arith, split, one, within, is))

-- ---- the next form

pub record Split {X Y : Type 0} (P : X → Y → Type 0) (x : X) (xs : List X) (ys : List Y) : Type 0 where
  pub head : Y
  pub rest : List Y
  pub is : ys ≡ head ∷ rest
  pub first : P x head
  pub others : AllMatch P xs rest

split_first : {X Y : Type 0} (P : X → Y → Type 0) (x : X) (xs : List X) (ys : List Y) → AllMatch P (x ∷ xs) ys → Split P x xs ys
split_first P x xs [] h = absurd h
split_first P x xs (y ∷ ys) h = record { head = y; rest = ys; is = refl; first = h.0; others = h.1 }

none_left : {X Y : Type 0} (P : X → Y → Type 0) (ys : List Y) → AllMatch P [] ys → ys ≡ []
none_left P [] h = refl
none_left P (y ∷ ys) h = absurd h

-- the code's list has the next form last
pub next_form : (work : Work) (region : Region) (unit form : ℕ) (old : code_pending.Pending) (p : Pending Identifier FramedIdent) (f : code_form.Form) (xs : List code_form.Form) → old.todo.items ≡ xs ++ f ∷ [] → PendingFor work region unit form old p →
    Split (FormFor work region) f (reverse xs) p.todo
next_form work region unit form old p f xs is h =
    split_first (FormFor work region) f (reverse xs) p.todo (subst (λ (l : List code_form.Form). AllMatch (FormFor work region) l p.todo) (ap reverse is ∙ reverse-append xs (f ∷ [])) h.todo)

-- what was set aside stays, and so do the uses that wait
abbrev pub SameBeside : code_pending.Pending → code_pending.Pending → Type 0
SameBeside old new = (new.aside.items ≡ old.aside.items) × (new.uses.items ≡ old.uses.items)

abbrev pub behind_it : Pending Identifier FramedIdent → List (Form Identifier) → Pending Identifier FramedIdent
behind_it p rest = record p { todo = rest }

pub pending_behind : (work : Work) (region : Region) (unit form : ℕ) (old new : code_pending.Pending) (p : Pending Identifier FramedIdent) (f : code_form.Form) (next : Split (FormFor work region) f (reverse new.todo.items) p.todo) → SameBeside old new → PendingFor work region unit form old p →
    PendingFor work region unit form new (behind_it p next.rest)
pending_behind work region unit form old new p f next aside h = record {
  todo = next.others;
  aside = subst (λ (xs : List code_kept.Kept). AllMatch (KeptFor work region unit form) xs p.aside) (sym aside.0) h.aside;
  uses = subst (λ (xs : List code_waiting.WaitingUse). AllMatch (WaitsFor work unit form) xs p.uses) (sym aside.1) h.uses;
}

-- ---- so far

module _ (known : Known) (old : Work) (region : Region) (u : UnitScope) (ls : List Frames) (spot : Spot) (fs : Frames) (s : Noting) (p : Pending Identifier FramedIdent) (turns : ℕ) where
  abbrev whole : Pass Identifier FramedIdent × Noting
  whole = run (noting known) turns fs p s

  pub record PassedSoFar (new : Work) (v : UnitScope) (todo : code_pending.Pending) (asked : Asked) (turn : ℕ) : Type 0 where
    pub left : Pending Identifier FramedIdent
    pub state : Noting
    pub stays : Stays old new region u v ls state
    pub placed : SpotFor new v ls state spot fs
    pub pending : PendingFor new region v.unit v.form.number todo left
    pub notes : NotesFor new ls asked left.notes
    pub less : left_with left.todo v.form.budget.uses + turn ≤ left_with p.todo u.form.budget.uses
    pub locals : v.form.budget.locals + left_with left.todo v.form.budget.uses ≤ u.form.budget.locals + left_with p.todo u.form.budget.uses
    pub more : ℕ
    pub enough : left_with left.todo v.form.budget.uses ≤ more
    pub same : run (noting known) turns fs p s ≡ run (noting known) (suc more) fs left state

  module _ (new : Work) (v : UnitScope) (todo rest : code_pending.Pending) (asked : Asked) (turn : ℕ) (h : PassedSoFar new v todo asked turn) (f : code_form.Form) (next : Split (FormFor new region) f (reverse rest.todo.items) h.left.todo) where
    abbrev behind : Pending Identifier FramedIdent
    behind = behind_it h.left next.rest

    abbrev step : Going Identifier FramedIdent Noting → Pass Identifier FramedIdent × Noting
    step go = run_form (noting known) go fs (here_at (λ i. i) next.head.tree next.head.here) next.head next.head.tree behind h.state

    taken : left_with next.rest v.form.budget.uses + tree_size next.head.tree ≡ left_with h.left.todo v.form.budget.uses
    taken = turned (tree_size next.head.tree) (forms_size next.rest) (4194305 * (10000 - v.form.budget.uses)) ∙ sym (ap (λ (l : List (Form Identifier)). left_with l v.form.budget.uses) next.is)

    some_more : (n : ℕ) → h.more ≡ n → (k : ℕ) × (h.more ≡ suc k)
    some_more zero is = none_turn (left_with next.rest v.form.budget.uses) (tree_size next.head.tree) (left_with h.left.todo v.form.budget.uses) h.more taken (some_node next.head.tree) h.enough is
    some_more (suc k) is = (k, is)

    goes_to : (k : ℕ) → h.more ≡ suc k → whole ≡ step (run (noting known) (suc k) fs)
    goes_to k is =
        h.same
        ∙ (ap (λ (n : ℕ). run (noting known) (suc n) fs h.left h.state) is
        ∙ ap (λ (l : List (Form Identifier)). run_next (noting known) (run (noting known) (suc k) fs) fs l h.left h.state) next.is)

    pub one_more_passed : (after : Work) (w : UnitScope) (todo2 : code_pending.Pending) (asked2 : Asked) →
        GoesOn new after region v w ls spot fs next.rest (tree_size next.head.tree) todo2 asked2 (Ok tt) step → PassedSoFar after w todo2 asked2 (turn + 1)
    one_more_passed after w todo2 asked2 g =
        let m = some_more h.more refl in
        let r = g.2 in
        let a = left_with g.0.todo w.form.budget.uses in
        let b = left_with next.rest v.form.budget.uses in
        let c = tree_size next.head.tree in
        let d = left_with h.left.todo v.form.budget.uses in
        let all = left_with p.todo u.form.budget.uses in
        record {
          left = g.0;
          state = g.1;
          stays = stays_on old new after region u v w ls h.state g.1 h.stays r.stays;
          placed = r.placed;
          pending = r.pending;
          notes = r.notes;
          less = falls a b c d turn all taken r.less h.less;
          locals = takes w.form.budget.locals a v.form.budget.locals b c d u.form.budget.locals all taken r.locals h.locals;
          more = m.0;
          enough = enough_behind a b c d h.more m.0 taken r.less h.enough m.1;
          same = goes_to m.0 m.1 ∙ g.3 (run (noting known) (suc m.0) fs);
        }

    pub next_fails : (after : Work) (w : UnitScope) (todo2 : code_pending.Pending) (asked2 : Asked) (most : ℕ) (last : code_pending.Pending) (e : ExpandFault) →
        GoesOn new after region v w ls spot fs next.rest (tree_size next.head.tree) todo2 asked2 (Err e) step → Passes old after region u w ls spot fs most last asked2 (Err e) whole
    next_fails after w todo2 asked2 most last (fault.At e) g =
        let m = some_more h.more refl in
        let end = goes_to m.0 m.1 ∙ g.5 (run (noting known) (suc m.0) fs) in
        subst (λ (x : Pass Identifier FramedIdent × Noting). Passes old after region u w ls spot fs most last asked2 (Err (fault.At e)) x) (sym end)
        (g.1, refl, record { stays = stays_on old new after region u v w ls h.state g.2 h.stays g.3.stays; placed = g.3.placed; notes = g.3.notes }, g.4)
    next_fails after w todo2 asked2 most last fault.Full g =
        let m = moves_here old new region u v ls h.state h.stays in
        (leaves_on old new after region u v ls h.state m g.0, fills_on old new region u v ls h.state m g.1)
    next_fails after w todo2 asked2 most last fault.Memory g = leaves_on old new after region u v ls h.state (moves_here old new region u v ls h.state h.stays) g

    -- what the next form demands
    pub can_pass_next : SameBeside todo rest → u.form.budget.locals + left_with p.todo u.form.budget.uses + 0 ≤ most_locals u.form.budget.nodes → CanPass new region v spot (tree_size next.head.tree) rest asked
    can_pass_next aside room =
        record {
          layout = ls;
          state = h.state;
          frames = fs;
          left = behind;
          stands = h.stays.stands;
          placed = h.placed;
          pending = pending_behind new region v.unit v.form.number todo rest h.left f next aside h.pending;
          notes = h.notes;
          room = has_room v.form.budget.locals (left_with next.rest v.form.budget.uses) (tree_size next.head.tree) (left_with h.left.todo v.form.budget.uses) u.form.budget.locals (left_with p.todo u.form.budget.uses) u.form.budget.nodes v.form.budget.nodes
              taken h.locals room h.stays.same.nodes;
        }

  pub passing_ends : (new : Work) (v : UnitScope) (todo : code_pending.Pending) (asked : Asked) (turn : ℕ) (last : code_pending.Pending) → PassedSoFar new v todo asked turn → todo.todo.items ≡ [] → SameBeside todo last →
      Passes old new region u v ls spot fs (left_with p.todo u.form.budget.uses) last asked (Ok tt) whole
  passing_ends new v todo asked turn last h none is =
      let nothing = none_left (FormFor new region) h.left.todo (subst (λ (l : List code_form.Form). AllMatch (FormFor new region) (reverse l) h.left.todo) none h.pending.todo) in
      let l : Left Identifier = record { uses = h.left.uses; items = h.left.aside } in
      let end : whole ≡ (record { notes = h.left.notes; left = Ok l }, h.state) = h.same ∙ ap (λ (l : List (Form Identifier)). run_next (noting known) (run (noting known) h.more fs) fs l h.left h.state) nothing in
      subst (λ (x : Pass Identifier FramedIdent × Noting). Passes old new region u v ls spot fs (left_with p.todo u.form.budget.uses) last asked (Ok tt) x) (sym end) (
        l,
        refl,
        record { stays = h.stays; placed = h.placed; notes = h.notes },
        record {
          aside = subst (λ (l : List code_kept.Kept). AllMatch (KeptFor new region v.unit v.form.number) l h.left.aside) (sym is.0) h.pending.aside;
          uses = subst (λ (l : List code_waiting.WaitingUse). AllMatch (WaitsFor new v.unit v.form.number) l h.left.uses) (sym is.1) h.pending.uses;
        },
        only_locals v.form.budget.locals (left_with h.left.todo v.form.budget.uses) (u.form.budget.locals + left_with p.todo u.form.budget.uses) h.locals,
      )

  pub passing_err : (new : Work) (v : UnitScope) (asked : Asked) (most : ℕ) (last : code_pending.Pending) (result : Result (Unit {0}) ExpandFault) (e : ExpandFault) → IsErrAnd result (λ x. x ≡ e) → Passes old new region u v ls spot fs most last asked (Err e) whole →
      Passes old new region u v ls spot fs most last asked result whole
  passing_err new v asked most last (Ok done) e is h = absurd is
  passing_err new v asked most last (Err x) e is h = subst (λ (y : ExpandFault). Passes old new region u v ls spot fs most last asked (Err y) whole) (sym is) h

pub passing_begins : (known : Known) (work : Work) (region : Region) (u : UnitScope) (ls : List Frames) (spot : Spot) (fs : Frames) (s : Noting) (p : Pending Identifier FramedIdent) (turns : ℕ) (todo : code_pending.Pending) (asked : Asked) →
    Stands work u ls s → SpotFor work u ls s spot fs → PendingFor work region u.unit u.form.number todo p → NotesFor work ls asked p.notes → left_with p.todo u.form.budget.uses < turns → PassedSoFar known work region u ls spot fs s p turns work u todo asked 0
passing_begins known work region u ls spot fs s p zero todo asked e placed pending notes less = absurd (omega (arith, less))
passing_begins known work region u ls spot fs s p (suc more) todo asked e placed pending notes less = record {
  left = p;
  state = s;
  stays = stays_itself work region u ls s e;
  placed = placed;
  pending = pending;
  notes = notes;
  less = same_and_none (left_with p.todo u.form.budget.uses);
  locals = no_more (u.form.budget.locals + left_with p.todo u.form.budget.uses);
  more = more;
  enough = below (left_with p.todo u.form.budget.uses) more less;
  same = refl;
}
  where
    same_and_none : (n : ℕ) → n + 0 ≤ n
    same_and_none n = omega arith

    no_more : (n : ℕ) → n ≤ n
    no_more n = omega arith

    below : (n m : ℕ) → n < suc m → n ≤ m
    below n m h = omega (arith, h)
