-- A form that is gone through, by its head: what the definition does with it, and what the code demands for that.
use Rattle.std.proofs.Common.{◌≡◌, ℕ, ◌+◌, ◌<◌, ◌≤◌, List, [], ◌∷◌, ◌++◌, true, false, Option, Some, None, Result, Ok, Err, refl, sym, ap, ◌∙◌, subst, arith}
use Rattle.scheme_model.specs.Trees.{Tree, name, atom, list, vector, Trees, no_trees, tree, Tail}
use Rattle.scheme_model.specs.Measures.{tree_size, trees_size, tail_size}
use Rattle.scheme_model.specs.Quasiquote.{Mark}
use Rattle.scheme_model.specs.ExpansionFaults.{Fault, BadForm}
use Rattle.scheme_model.specs.Ident.{Ident as Identifier}
use Rattle.scheme_model.specs.Keywords.{CoreKeyword, Auxiliary}
use Rattle.scheme_model.specs.Meaning.{Meaning, Head, IsCore, IsAuxiliary, IsMacro, IsNone, is_keyword}
use Rattle.scheme_model.specs.Requirements.{Known}
use Rattle.scheme_model.specs.Cores.{Target}
use Rattle.scheme_model.specs.Order.{Here, Form, Expression, Note, LookedUp, Headed, RulesOf, Pending, Pass, Going, Transformer, put, noted, read_then, head_of, target_of, here_at, run_core, run_use, run_head, run_form}
use Rattle.scheme_model.specs.ScopedExpansion.{Frames, FramedIdent, macro_at}
use Rattle.core_forms.specs.Ends.{keyword_as}
use Rattle.core_forms.specs.Forms.{Shape, shape_in}
use Rattle.core_forms.specs.Parts.{IsNameIfAny}
use Rattle.core_forms.specs.declared.shape.CoreKeyword as code_keyword
use Rattle.core_forms.specs.declared.shape.NamePart.{NamePart}
use Rattle.syntax_tree.specs.Names.{Names}
use Rattle.syntax_tree.specs.Works.{StandsFor}
use Rattle.syntax_tree.specs.declared.trees.nodes.Tree as number
use Rattle.syntax_tree.specs.declared.trees.Work.{Work}
use Rattle.syntax_tree.specs.declared.trees.table.Region.{Region}
use Rattle.core_tree.specs.Names.{IsTarget}
use Rattle.core_tree.specs.Traces.{IsFault}
use Rattle.core_tree.specs.declared.cores.Target as code_target
use Rattle.form_parts.specs.Heads.{IsHead}
use Rattle.unit_scopes.specs.State.{most_locals}
use Rattle.unit_scopes.specs.Stepped.{with_keyword}
use Rattle.feature_requirements.specs.Judged.{IsBadForm}
use Rattle.unit_scopes.specs.Kept.{FormFor, PendingFor, NotesFor, left_with}
use Rattle.unit_scopes.specs.Outcomes.{At}
use Rattle.expander.specs.Passed.{CanPass, GoesOn, IsPassed, ShapeFits, shape_weight}
use Rattle.form_parts.specs.FormsSeen.{head_name_of, takes_effect}
use Rattle.unit_scopes.specs.declared.asked.Asked.{Asked}
use Rattle.feature_requirements.specs.declared.fault.ExpandFault.{ExpandFault}
use Rattle.feature_requirements.specs.declared.fault.ExpandFault.TheVariants as fault
use Rattle.form_parts.specs.declared.heads.Auxiliary as code_auxiliary
use Rattle.form_parts.specs.declared.heads.Head.TheVariants as heads
use Rattle.form_parts.specs.declared.items.Form as code_form
use Rattle.form_parts.specs.declared.items.Kept.TheVariants as kept
use Rattle.form_parts.specs.declared.items.Pending as code_pending
use Rattle.form_parts.specs.declared.items.Spot.{Spot}
use Rattle.unit_scopes.specs.declared.scope.UnitScope.{UnitScope}
use Rattle.unit_scopes.specs.declared.uses.Use as code_use
use Rattle.expander.proofs.DefinitionSteps.{StaysBeside, aside_now}
use Rattle.expander.proofs.FitLaws.{some_node, shape_fits}
use Rattle.unit_scopes.proofs.NodeLaws.{plain_is}
use Rattle.unit_scopes.proofs.OutcomeLaws.{grows_itself, leaves_itself, numbers_stay}
use Rattle.expander.proofs.PassLaws.{spot_same, goes_misread, goes_so}
use Rattle.expander.proofs.ReadLaws.{HeadNamed, head_named, target_at}
use Rattle.expander.proofs.WeightLaws.{weight_less, shape_passes}
use Rattle.noted_steps.specs.Noting.{means_here, Noting, state_of, noting}
use Rattle.expander.proofs.LooseLaws.{loose, stand_on, place_on}
use Rattle.noted_steps.specs.Standing.{Stands, with_notes}
use Rattle.noted_steps.specs.Stepped.{met}
use Rattle.noted_steps.specs.Outcomes.{Stays}
use Rattle.noted_steps.proofs.CountingStands.{keyword_stands}
use Rattle.noted_steps.specs.Kept.{SpotFor, UseFor}
use Rattle.noted_steps.specs.Kept.{CanGo, CanLook, CanUse}

-- ---- heads

pub core_head : (k : code_keyword.CoreKeyword) (h : Head) → IsHead (heads.Core k) h → (c : CoreKeyword) × (h ≡ IsCore c) × (keyword_as k ≡ Some c)
core_head k (IsCore c) is = (c, refl, is)
core_head k (IsAuxiliary a) is = absurd is
core_head k (IsMacro m) is = absurd is
core_head k IsNone is = absurd is

pub auxiliary_head : (a : code_auxiliary.Auxiliary) (h : Head) → IsHead (heads.Auxiliary a) h → (b : Auxiliary) × (h ≡ IsAuxiliary b)
auxiliary_head a (IsCore c) is = absurd is
auxiliary_head a (IsAuxiliary b) is = (b, refl)
auxiliary_head a (IsMacro m) is = absurd is
auxiliary_head a IsNone is = absurd is

pub no_keyword : (h : Head) → IsHead heads.Other h → h ≡ IsNone
no_keyword (IsCore c) is = absurd is
no_keyword (IsAuxiliary b) is = absurd is
no_keyword (IsMacro m) is = absurd is
no_keyword IsNone is = refl

-- ---- what the definition does

module _ (known : Known) (work : Work) (fs : Frames) (s : Noting) (m : Form Identifier) (p : Pending Identifier FramedIdent) (x : NamePart) (here : Here) (is_here : here ≡ here_at (λ i. i) m.tree m.here) (n : HeadNamed work m.tree x) where
  abbrev pub looked_up : Note FramedIdent
  looked_up = LookedUp (record { frames = fs; ident = n.ident }) true (is_keyword (head_of (noting known) fs s n.ident))

  abbrev pub keyword : Target
  keyword = target_of (noting known) fs s n.ident n.place

  -- the head is asked
  abbrev pub headed_state : Noting
  headed_state = (noting known).ask (Headed fs n.ident ∷ []) s

  abbrev by_head : Going Identifier FramedIdent Noting → Head → Pass Identifier FramedIdent × Noting
  by_head go h = run_head (noting known) go here fs h keyword m n.parts n.tail (noted (looked_up ∷ []) p) headed_state

  headed : (go : Going Identifier FramedIdent Noting) → run_form (noting known) go fs (here_at (λ i. i) m.tree m.here) m m.tree p s ≡ by_head go (head_of (noting known) fs s n.ident)
  headed go = ap (λ (h : Here). run_form (noting known) go fs h m m.tree p s) (sym is_here) ∙ ap (λ (t : Tree Identifier). run_form (noting known) go fs here m t p s) n.is

  pub by_core : (c : CoreKeyword) → head_of (noting known) fs s n.ident ≡ IsCore c → (go : Going Identifier FramedIdent Noting) →
      run_form (noting known) go fs (here_at (λ i. i) m.tree m.here) m m.tree p s ≡ run_core (noting known) go here fs c keyword m n.parts n.tail (noted (looked_up ∷ []) p) headed_state
  by_core c is go = headed go ∙ ap (by_head go) is

  pub by_auxiliary : (a : Auxiliary) → head_of (noting known) fs s n.ident ≡ IsAuxiliary a → (go : Going Identifier FramedIdent Noting) →
      run_form (noting known) go fs (here_at (λ i. i) m.tree m.here) m m.tree p s ≡ go (put (Expression m) (noted (looked_up ∷ []) p)) headed_state
  by_auxiliary a is go = headed go ∙ ap (by_head go) is

  pub by_none : head_of (noting known) fs s n.ident ≡ IsNone → (go : Going Identifier FramedIdent Noting) →
      run_form (noting known) go fs (here_at (λ i. i) m.tree m.here) m m.tree p s ≡ go (put (Expression m) (noted (looked_up ∷ []) p)) headed_state
  by_none is go = headed go ∙ ap (by_head go) is

  pub by_macro : (d : Meaning) (t : Transformer Frames Identifier) → head_of (noting known) fs s n.ident ≡ IsMacro d → macro_at s.macros d ≡ Some t → (go : Going Identifier FramedIdent Noting) →
      run_form (noting known) go fs (here_at (λ i. i) m.tree m.here) m m.tree p s ≡ run_use (noting known) go here fs keyword (Some t) m n.parts n.tail (noted (looked_up ∷ []) p) ((noting known).ask (RulesOf d ∷ []) headed_state)
  by_macro d t is there go =
      headed go
      ∙ (ap (by_head go) is
      ∙ ap (λ (o : Option (Transformer Frames Identifier)). run_use (noting known) go here fs keyword o m n.parts n.tail (noted (looked_up ∷ []) p) ((noting known).ask (RulesOf d ∷ []) headed_state)) there)

-- ---- what is left, with one note more

pub noted_pending : (work : Work) (region : Region) (unit form : ℕ) (todo : code_pending.Pending) (p : Pending Identifier FramedIdent) (ns : List (Note FramedIdent)) → PendingFor work region unit form todo p → PendingFor work region unit form todo (noted ns p)
noted_pending work region unit form todo p ns h = record { todo = h.todo; aside = h.aside; uses = h.uses }

pub can_pass_noted : (work : Work) (region : Region) (u : UnitScope) (spot : Spot) (given : ℕ) (todo : code_pending.Pending) (old new : Asked) (can : CanPass work region u spot given todo old) (q : Note FramedIdent) →
    NotesFor work can.layout new (q ∷ can.left.notes) → CanPass work region u spot given todo new
can_pass_noted work region u spot given todo old new can q notes = record {
  layout = can.layout;
  state = can.state;
  frames = can.frames;
  left = noted (q ∷ []) can.left;
  stands = can.stands;
  placed = can.placed;
  pending = noted_pending work region u.unit u.form.number todo can.left (q ∷ []) can.pending;
  notes = notes;
  room = can.room;
}

-- the same where notes alone were changed
unfoldable pub can_pass_on : (work : Work) (region : Region) (u v : UnitScope) (spot : Spot) (given : ℕ) (todo : code_pending.Pending) (asked : Asked) → v ≡ with_notes u v.form.trace.notes → CanPass work region u spot given todo asked → CanPass work region v spot given todo asked
can_pass_on work region u v spot given todo asked same can = record {
  layout = can.layout;
  state = loose (state_of can.state);
  frames = can.frames;
  left = can.left;
  stands = stand_on work u v same can.layout can.state can.stands;
  placed = place_on work u v same can.layout can.state (loose (state_of can.state)) spot can.frames refl can.placed;
  pending = subst (λ (x : UnitScope). PendingFor work region x.unit x.form.number todo can.left) (sym same) can.pending;
  notes = can.notes;
  room = subst (λ (x : UnitScope). x.form.budget.locals + left_with can.left.todo x.form.budget.uses + given ≤ most_locals x.form.budget.nodes) (sym same) can.room;
}

-- ---- a core form that is read

module _ (c : CoreKeyword) (mark : Identifier → Option Mark) (m : Shape) (effect : takes_effect c ≡ true) where
  pub in_weight : (t : Tree Identifier) → shape_in c false mark t ≡ Ok m → shape_weight m < tree_size t
  in_weight (name i o) h = absurd cc
  in_weight (atom a o) h = absurd cc
  in_weight (vector ts o) h = absurd cc
  in_weight (list no_trees tail o) h = absurd cc
  in_weight (list (tree head ts) tail o) h = weight_less c mark head ts tail m effect h

  pub in_passes : (t : Tree Identifier) → shape_in c false mark t ≡ Ok m → IsPassed m
  in_passes (name i o) h = absurd cc
  in_passes (atom a o) h = absurd cc
  in_passes (vector ts o) h = absurd cc
  in_passes (list no_trees tail o) h = absurd cc
  in_passes (list (tree head ts) tail o) h = shape_passes c mark ts tail m effect h

  pub in_fits : (t : Tree Identifier) → tree_size t ≤ 4194304 → shape_in c false mark t ≡ Ok m → ShapeFits m
  in_fits (name i o) few h = absurd cc
  in_fits (atom a o) few h = absurd cc
  in_fits (vector ts o) few h = absurd cc
  in_fits (list no_trees tail o) few h = absurd cc
  in_fits (list (tree head ts) tail o) few h = shape_fits c false mark ts tail m (parts_few (tree_size head) (trees_size ts) (tail_size tail) few) h
    where
      parts_few : (a b d : ℕ) → 1 + (a + b + d) ≤ 4194304 → b ≤ 4194304
      parts_few a b d few = omega (arith, few)

-- the keyword is met, and less is given
pub can_pass_met : (work : Work) (region : Region) (u : UnitScope) (spot : Spot) (given less : ℕ) (todo : code_pending.Pending) (asked : Asked) (x : code_target.Target) (k : Target) → CanPass work region u spot given todo asked → IsTarget work.symbols u.unit u.form.number x k → less ≤ given →
    CanPass work region (with_keyword u x) spot less todo asked
can_pass_met work region u spot given less todo asked x k can is le =
    let e = can.stands in
    record {
      layout = can.layout;
      state = met k can.state;
      frames = can.frames;
      left = can.left;
      stands = keyword_stands work u can.layout can.state x k (target_at work.symbols can.state.unit can.state.form u.unit u.form.number x k (sym e.unit) (sym e.form.number) is) e;
      placed = spot_same work u (with_keyword u x) can.layout can.state (met k can.state) spot can.frames refl refl refl can.placed;
      pending = record { todo = can.pending.todo; aside = can.pending.aside; uses = can.pending.uses };
      notes = can.notes;
      room = less_room (u.form.budget.locals + left_with can.left.todo u.form.budget.uses) given less (most_locals u.form.budget.nodes) can.room le;
    }
  where
    less_room : (a given less most : ℕ) → a + given ≤ most → less ≤ given → a + less ≤ most
    less_room a given less most room le = omega (arith, room, le)

-- the keyword is met, and nothing else changes
pub keyword_stays : (work : Work) (region : Region) (u : UnitScope) (ls : List Frames) (s : Noting) (x : code_target.Target) (k : Target) → IsTarget work.symbols s.unit s.form x k → Stands work u ls s → Stays work work region u (with_keyword u x) ls (met k s)
keyword_stays work region u ls s x k is e = record {
  stands = keyword_stands work u ls s x k is e;
  work = grows_itself work region;
  counted = omega arith;
  same = record { unit = refl; number = refl; root = refl; libraries = refl; roots = refl; uses = omega arith; nodes = omega arith; numbers = numbers_stay u (with_keyword u x) refl refl };
}

-- what definitions demand
pub can_go : (work : Work) (region : Region) (u : UnitScope) (spot : Spot) (given : ℕ) (todo : code_pending.Pending) (asked : Asked) → CanPass work region u spot given todo asked → CanGo work u spot asked
can_go work region u spot given todo asked can = record { layout = can.layout; state = can.state; frames = can.frames; found = can.left.notes; stands = can.stands; placed = can.placed; notes = can.notes }

pub room_for : (work : Work) (region : Region) (u : UnitScope) (spot : Spot) (given n : ℕ) (todo : code_pending.Pending) (asked : Asked) → CanPass work region u spot given todo asked → n ≤ given → u.form.budget.locals + n ≤ most_locals u.form.budget.nodes
room_for work region u spot given n todo asked can le = by u.form.budget.locals (left_with can.left.todo u.form.budget.uses) (most_locals u.form.budget.nodes) can.room
  where
    by : (l a most : ℕ) → l + a + given ≤ most → l + n ≤ most
    by l a most room = omega (arith, room, le)

-- ---- `cond-expand`

abbrev Tells_fault : Names → Here → ExpandFault → Type 0
Tells_fault names at (fault.At x) = IsFault names x (record { fault = BadForm; here = at })
Tells_fault names at fault.Full = ⊥
Tells_fault names at fault.Memory = ⊥

-- no clause has a shape, or none could be judged
pub goes_bad : (region : Region) (ls : List Frames) (spot : Spot) (fs : Frames) (before : List (Form Identifier)) (given : ℕ) (todo : code_pending.Pending) (asked : Asked) (known : Known) (work : Work) (u : UnitScope) (s : Noting) (here : Here) (e : ExpandFault)
    (r : Result (Option (Trees Identifier)) (Fault Identifier)) (p : Pending Identifier FramedIdent) (next : Going Identifier FramedIdent Noting → Option (Trees Identifier) → Noting → Pass Identifier FramedIdent × Noting) →
    Stands work u ls s → SpotFor work u ls s spot fs → NotesFor work ls asked p.notes → IsBadForm here e r → GoesOn work work region u u ls spot fs before given todo asked (Err e) (λ go. read_then (noting known) here p r (next go) s)
goes_bad region ls spot fs before given todo asked known work u s here (fault.At e) r p next stands placed notes h =
    goes_misread region ls spot fs before given todo asked known work u s here (fault.At e) r p next stands.form.few_nodes stands placed notes
    (BadForm, h.0, subst (λ (x : ExpandFault). Tells_fault work.symbols here x) (sym h.1) (plain_is work.symbols here BadForm refl refl))
goes_bad region ls spot fs before given todo asked known work u s here fault.Full r p next stands placed notes h = absurd h
goes_bad region ls spot fs before given todo asked known work u s here fault.Memory r p next stands placed notes h = leaves_itself work region u stands.form.few_nodes

-- what the chosen forms come to
pub read_is : (known : Known) (here : Here) (p : Pending Identifier FramedIdent) (r : Result (Option (Trees Identifier)) (Fault Identifier)) (o : Option (Trees Identifier)) (next : Option (Trees Identifier) → Noting → Pass Identifier FramedIdent × Noting) (s : Noting) → r ≡ Ok o →
    read_then (noting known) here p r next s ≡ next o s
read_is known here p r o next s is = ap (λ (x : Result (Option (Trees Identifier)) (Fault Identifier)). read_then (noting known) here p x next s) is

-- ---- a form that is set aside

pub sets_aside : (work : Work) (region : Region) (u : UnitScope) (ls : List Frames) (spot : Spot) (fs : Frames) (s : Noting) (p : Pending Identifier FramedIdent) (ns : List (Note FramedIdent)) (old new : code_pending.Pending) (asked : Asked) (m : Form Identifier) (x : code_form.Form)
    (f : Going Identifier FramedIdent Noting → Pass Identifier FramedIdent × Noting) → ((go : Going Identifier FramedIdent Noting) → f go ≡ go (put (Expression m) (noted ns p)) s) → Stands work u ls s → SpotFor work u ls s spot fs → FormFor work region x m →
    PendingFor work region u.unit u.form.number old p → NotesFor work ls asked (ns ++ p.notes) → StaysBeside old new → new.aside.items ≡ old.aside.items ++ kept.Expression x ∷ [] →
    GoesOn work work region u u ls spot fs p.todo (tree_size m.tree) new asked (Ok tt) f
sets_aside work region u ls spot fs s p ns old new asked m x f same stands placed on pending notes todo aside =
    goes_so region ls spot fs p.todo (tree_size m.tree) new asked work work u u (Ok tt) f (λ go. go (put (Expression m) (noted ns p)) s) same
    (aside_now work region u u ls spot fs s (noted ns p) old new asked (tree_size m.tree) (Expression m) (kept.Expression x) (noted_pending work region u.unit u.form.number old p ns pending) notes (x, refl, on) todo aside stands placed refl (some_node m.tree))

-- ---- what calls demand

pub form_named : (work : Work) (t : Tree Identifier) (o : Option NamePart) (x : NamePart) → o ≡ Some x → IsNameIfAny work o (head_name_of t) → HeadNamed work t x
form_named work t o x is h = head_named work t x (subst (λ (q : Option NamePart). IsNameIfAny work q (head_name_of t)) is h)

pub form_nameless : (work : Work) (t : Tree Identifier) (o : Option NamePart) → o ≡ None → IsNameIfAny work o (head_name_of t) → IsNameIfAny work None (head_name_of t)
form_nameless work t o is h = subst (λ (q : Option NamePart). IsNameIfAny work q (head_name_of t)) is h

pub can_look : (work : Work) (region : Region) (u : UnitScope) (spot : Spot) (given : ℕ) (todo : code_pending.Pending) (asked : Asked) → CanPass work region u spot given todo asked → CanLook work u spot.scope
can_look work region u spot given todo asked can = record { layout = can.layout; state = can.state; frames = can.frames; stands = can.stands; at = can.placed.at }

-- the use of a macro at the head of a form
pub use_for : (known : Known) (work : Work) (s : Noting) (fs : Frames) (scope : ℕ) (here : Here) (form : number.Tree) (t : Tree Identifier) (x : NamePart) (k : code_target.Target) (n : HeadNamed work t x) (m : Transformer Frames Identifier) →
    IsTarget work.symbols s.unit s.form k (target_of (noting known) fs s n.ident n.place) → macro_at s.macros (means_here s fs n.ident) ≡ Some m → StandsFor work form t →
    UseFor work s (record { scope = scope; here = here; keyword = k; form = form }) (target_of (noting known) fs s n.ident n.place) m n.parts n.tail
use_for known work s fs scope here form t x k n m target macro stand = record {
  target = target;
  macro = macro;
  head = name n.ident n.place;
  place = n.around;
  form = subst (λ (u : Tree Identifier). StandsFor work form u) n.is stand;
}

pub can_use : (work : Work) (region : Region) (u : UnitScope) (spot : Spot) (given : ℕ) (todo : code_pending.Pending) (asked : Asked) (can : CanPass work region u spot given todo asked) (at : code_use.Use) (k : Target) (m : Transformer Frames Identifier) (ts : Trees Identifier) (tail : Tail Identifier) →
    at.scope ≡ spot.scope → UseFor work can.state at k m ts tail → CanUse work u at
can_use work region u spot given todo asked can at k m ts tail is used = record {
  layout = can.layout;
  state = can.state;
  frames = can.frames;
  stands = can.stands;
  there = subst (λ (n : ℕ). At can.layout n can.frames) (sym is) can.placed.at;
  keyword = k;
  transformer = m;
  parts = ts;
  tail = tail;
  used = used;
}
