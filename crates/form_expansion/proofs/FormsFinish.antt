-- What a form set aside is expanded, once its macro uses are met: item by item, until all is or work on the unit ends.
use Rattle.std.proofs.Common.{◌≡◌, ℕ, zero, suc, ◌+◌, ◌≤◌, List, [], ◌∷◌, ◌++◌, map, take, drop, reverse, length, slice_get, true, false, Option, Some, None, Result, Ok, Err, refl, sym, ap, ◌∙◌, subst, arith, true≢false}
use Rattle.std.specs.Prelude.{nat_lt}
use Rattle.std.specs.Option.{is_some}
use Rattle.std.proofs.lemmas.Bool.{le-ltb}
use Rattle.std.proofs.lemmas.List.{map-append, reverse-reverse}
use Rattle.std.proofs.lemmas.Option.{same_Some}
use Rattle.scheme_model.specs.Ident.{Ident as Identifier}
use Rattle.scheme_model.specs.Order.{Item, Left, Note}
use Rattle.scheme_model.specs.Cores.{Part, Parts, no_parts, part}
use Rattle.scheme_model.specs.Steps.{Broken, Step as ModelStep}
use Rattle.scheme_model.specs.Expression.{expand, item_part}
use Rattle.scheme_model.specs.Program.{enough_turns}
use Rattle.scheme_model.specs.UnitExpansion.{max_depth, max_total, nodes_in, with_part, items_parts}
use Rattle.scheme_model.specs.Requirements.{Known}
use Rattle.scheme_model.specs.ScopedExpansion.{Frames, FramedIdent, ScopedMacro, ScopedState}
use Rattle.syntax_tree.specs.Names.{KeepsNames}
use Rattle.syntax_tree.specs.Works.{KeepsTrees, live_count}
use Rattle.syntax_tree.specs.declared.trees.Work.{Work}
use Rattle.syntax_tree.specs.declared.trees.table.Region.{Region}
use Rattle.syntax_tree.proofs.Places.{none_some}
use Rattle.core_tree.specs.Names.{AllMatch, IsTarget, IsUse}
use Rattle.core_tree.specs.Cores.{PartStands, PartsStand}
use Rattle.core_tree.specs.Levels.{PartBinds, PartsBind}
use Rattle.core_tree.specs.declared.cores.Binder as code_binder
use Rattle.core_tree.specs.declared.cores.CorePart as code_part
use Rattle.core_tree.specs.declared.traces.FormFault.{FormFault}
use Rattle.core_tree.specs.declared.traces.Trace.{Trace}
use Rattle.core_tree.specs.declared.units.ExpandedItem.{ExpandedItem}
use Rattle.core_tree.specs.declared.units.UnitForm as code_form
use Rattle.form_laws.specs.Begins.{Each}
use Rattle.form_notes.specs.Noted.{Noted}
use Rattle.form_notes.specs.declared.noting.Noting as code_noting
use Rattle.forgotten_locals.specs.Outside.{macros_outside, outside, forgotten}
use Rattle.root_laws.specs.AtRoot.{AllAtRoot}
use Rattle.root_laws.proofs.OutsideItems.{met_macros, item_outside}
use Rattle.root_laws.proofs.RootStates.{nothing_local, outside_root}
use Rattle.unit_scopes.specs.Editions.{EditionsTell}
use Rattle.unit_scopes.specs.Forgotten.{AreAtRoot}
use Rattle.unit_scopes.specs.Searched.{searched}
use Rattle.unit_scopes.specs.State.{IsNumbered, numbered_in}
use Rattle.unit_scopes.specs.Stepped.{turned}
use Rattle.expansion_laws.specs.Tops.{OfOk, ItemBinds, ItemsBind}
use Rattle.unit_scopes.specs.Units.{UnitStands, CountsFor, ItemFor, Expands, uses_met, expanded}
use Rattle.feature_requirements.specs.declared.fault.ExpandFault.TheVariants as fault
use Rattle.form_parts.specs.declared.items.Item as code_item
use Rattle.unit_scopes.specs.declared.macros.Macros.{Macros}
use Rattle.unit_scopes.specs.declared.scope.Budget.{Budget}
use Rattle.unit_scopes.specs.declared.scope.UnitScope.{UnitScope}
use Rattle.unit_scopes.proofs.CoreStandLaws.{parts_stand_on, kept_on}
use Rattle.unit_scopes.proofs.OutcomeLaws.{grows_itself}
use Rattle.expansion_laws.proofs.ItemTables.{expanded_table, met_table}
use Rattle.expansion_laws.proofs.OtherForms.{expanded_stays, met_stays}
use Rattle.expansion_laws.proofs.TopForms.{expanded_binds}
use Rattle.noted_steps.specs.Noting.{Noting, state_of}
use Rattle.expander.specs.UnitNotes.{CanNote, Editions, HasNoted, expand_noting, met_noting, part_begun}
use Rattle.form_expansion.specs.Forms.{StandsOutside, Passing, IsSetAside, IsDeclared, KeepsOthers, HaveCounted, expanding, FinishesTo, FinishesForm, EndsForm, NotedInside, NotedOutside, left_noting}
use Rattle.form_expansion.specs.declared.forms.Bench.{Bench}
use Rattle.form_expansion.specs.declared.forms.Declared as code
use Rattle.form_expansion.proofs.BenchLaws.{Forgets, stands_outside}
use Rattle.form_expansion.proofs.FormAtWork.{item_form, met_form, same_turned, unit_turned}
use Rattle.form_expansion.proofs.FormNotes.{NotesSo, begins, uses_so, can_note, item_so, item_breaks, tell_before, told_then}
use Rattle.form_expansion.proofs.FormSteps.{others_kept, declared_outside}
use Rattle.form_expansion.proofs.Live.{live_on}
use Rattle.core_tree.proofs.Matched.{matched_at}
use Rattle.form_expansion.proofs.UnitForms.{same_counted, step_counted}
use Rattle.form_expansion.proofs.UnitWalk.{before, before_twice, with_parts, item_over, item_fault, item_on}

-- ---- lists

pub top_at : (is : List (Item Identifier)) (n : ℕ) (i : Item Identifier) → ItemsBind false is → slice_get is n ≡ Some i → ItemBinds false i
top_at [] n i h at = none_some i at
top_at (j ∷ is) zero i h at = subst (λ (k : Item Identifier). ItemBinds false k) (same_Some j i at) h.0
top_at (j ∷ is) (suc n) i h at = top_at is n i h.1 at

abbrev pub as_parts : List Part → Parts
as_parts [] = no_parts
as_parts (p ∷ ps) = part p (as_parts ps)

all_parts : (ps : List Part) → with_parts ps (Ok no_parts) ≡ Ok (as_parts ps)
all_parts [] = refl
all_parts (p ∷ ps) = ap (with_part p) (all_parts ps)

no_parts_given : (ps : List Part) (b : Broken) → with_parts ps (Err b) ≡ Err b
no_parts_given [] b = refl
no_parts_given (p ∷ ps) b = ap (with_part p) (no_parts_given ps b)

before_none : {S : Type 0} (q : Option (Result Parts Broken) × S) → before [] q ≡ q
before_none (None, t) = refl
before_none (Some r, t) = refl

part_more : (work : Work) (unit form : ℕ) (xs : List code_part.CorePart) (ms : List Part) (x : code_part.CorePart) (m : Part) → PartsStand work unit form xs (as_parts ms) → PartStands work unit form x m →
    PartsStand work unit form (xs ++ x ∷ []) (as_parts (ms ++ m ∷ []))
part_more work unit form [] [] x m h is = (is, tt)
part_more work unit form [] (a ∷ ms) x m h is = absurd h
part_more work unit form (y ∷ xs) [] x m h is = absurd h
part_more work unit form (y ∷ xs) (a ∷ ms) x m h is = (h.0, part_more work unit form xs ms x m h.1 is)

tops_more : (ms : List Part) (m : Part) → PartsBind false (as_parts ms) → PartBinds false m → PartsBind false (as_parts (ms ++ m ∷ []))
tops_more [] m h is = (is, tt)
tops_more (a ∷ ms) m h is = (h.0, tops_more ms m h.1 is)

pub dropped_at : {X : Type 0} (xs : List X) (k : ℕ) (x : X) → slice_get xs k ≡ Some x → drop k xs ≡ x ∷ drop (suc k) xs
dropped_at [] k x at = none_some x at
dropped_at (y ∷ xs) zero x at = ap (λ (z : _). z ∷ xs) (same_Some y x at)
dropped_at (y ∷ xs) (suc k) x at = dropped_at xs k x at

pub dropped_behind : {X : Type 0} (xs : List X) (k : ℕ) → length xs ≤ k → drop k xs ≡ []
dropped_behind [] zero le = refl
dropped_behind [] (suc k) le = refl
dropped_behind (x ∷ xs) zero le = absurd (omega (arith, le))
dropped_behind (x ∷ xs) (suc k) le = dropped_behind xs k (omega (arith, le))

pub matched_length : {X Y : Type 0} (P : X → Y → Type 0) (xs : List X) (ys : List Y) → AllMatch P xs ys → length ys ≡ length xs
matched_length P [] [] h = refl
matched_length P [] (y ∷ ys) h = absurd h
matched_length P (x ∷ xs) [] h = absurd h
matched_length P (x ∷ xs) (y ∷ ys) h = let e = matched_length P xs ys h.1 in omega (arith, e)

-- what matches as much as nothing does is nothing
pub none_more : {X Y : Type 0} (P : X → Y → Type 0) (xs zs : List X) (ys : List Y) → zs ≡ [] → AllMatch P zs ys → AllMatch P xs ys → xs ≡ []
none_more {X} {Y} P xs zs ys none h k = by xs ys (subst (λ (qs : List X). AllMatch P qs ys) none h) k
  where
    by : (qs : List X) (rs : List Y) → AllMatch P [] rs → AllMatch P qs rs → qs ≡ []
    by [] rs h k = refl
    by (q ∷ qs) [] h k = absurd k
    by (q ∷ qs) (r ∷ rs) h k = absurd h

pub none_reversed : {X : Type 0} (xs : List X) → reverse xs ≡ [] → xs ≡ []
none_reversed {X} xs h = sym (reverse-reverse xs) ∙ ap (λ (ys : List X). reverse ys) h

pub none_of : {X : Type 0} (o : Option X) → is_some o ≡ false → o ≡ None
none_of None h = refl
none_of (Some x) h = absurd cc

-- ---- the states of a form

declared_turned : (work : Work) (region : Region) (unit m n : ℕ) (s : ScopedState) (d : code.Declared) (r : Passing) → IsDeclared work region unit m s d r → IsDeclared work region unit m (turned n s) d r
declared_turned work region unit m n s d r h = record { counts = h.counts; set_aside = h.set_aside; tops = h.tops; space = h.space }

turned_counted : (known : Known) (form : ℕ) (s : ScopedState) (fs : List ℕ) → nodes_in (searched known) fs (turned form s) ≡ nodes_in (searched known) fs s
turned_counted known form s fs = same_counted (searched known) s (turned form s) (λ m. refl) fs

not_over : {P : Type 0} (total : ℕ) → total ≤ max_total → nat_lt max_total total ≡ true → P
not_over total few many = absurd (true≢false (sym many ∙ le-ltb 500000 total few))

-- a form that has a fault isn't one that set something aside
pub no_fault : {P : Type 0} (work : Work) (region : Region) (unit form : ℕ) (s : ScopedState) (d : code.Declared) (b : Broken) → IsDeclared work region unit form s d (Err b) → d.so_far.fault ≡ None → P
no_fault work region unit form s d b h none = absurd (subst (λ (f : Option FormFault). IsSetAside work region unit form d f (Err b)) none h.set_aside)

pub set_aside_of : (work : Work) (region : Region) (unit form : ℕ) (s : ScopedState) (d : code.Declared) (l : Left Identifier) → IsDeclared work region unit form s d (Ok l) → d.so_far.fault ≡ None → IsSetAside work region unit form d None (Ok l)
set_aside_of work region unit form s d l h none = subst (λ (f : Option FormFault). IsSetAside work region unit form d f (Ok l)) none h.set_aside

-- nor one that set something aside one that has a fault
pub never_left : {P : Type 0} (work : Work) (region : Region) (unit form : ℕ) (s : ScopedState) (d : code.Declared) (l : Left Identifier) → IsDeclared work region unit form s d (Ok l) → is_some d.so_far.fault ≡ true → P
never_left {P} work region unit form s d l h some = by d.so_far.fault h.set_aside some
  where
    by : (f : Option FormFault) → IsSetAside work region unit form d f (Ok l) → is_some f ≡ true → P
    by None is none = absurd cc
    by (Some e) is none = absurd is

-- what is left of a form without a fault
pub left_of : (work : Work) (region : Region) (unit form : ℕ) (s : ScopedState) (d : code.Declared) (r : Passing) → IsDeclared work region unit form s d r → d.so_far.fault ≡ None → (l : Left Identifier) × IsDeclared work region unit form s d (Ok l)
left_of work region unit form s d (Ok l) h none = (l, h)
left_of work region unit form s d (Err b) h none = no_fault work region unit form s d b h none

-- what is still to come of a form
abbrev pub to_come : Known → List ℕ → List (Item Identifier) → ScopedState → Option (Result Parts Broken) × ScopedState
to_come known fs is t = items_parts (searched known) fs (item_part (expand (searched known) enough_turns) (searched known) max_depth []) is t

-- forms have counted so many nodes once these parts came of a form: work on the unit ended there, or the rest of the form is to come
pub record GoneSo (known : Known) (fs : List ℕ) (form : ℕ) (l : Left Identifier) (s : ScopedState) (total : ℕ) (done : List Part) (rest : List (Item Identifier)) (t : ScopedState) : Type 0 where
  pub counted : nodes_in (searched known) fs t ≡ total
  pub over : nat_lt max_total total ≡ true → expanding known fs form (Ok l) s ≡ (None, t)
  pub on : nat_lt max_total total ≡ false → expanding known fs form (Ok l) s ≡ before done (to_come known fs rest t)

-- what a form set aside is being expanded: what came of so much of it, and the state by now
pub record Finishing (old new : Bench) (known : Known) (unit form : ℕ) (l : Left Identifier) (s : ScopedState) (notes : List (Note FramedIdent)) (first : Trace) (k start total : ℕ) (budget : Budget) (trace : Trace) (items : List ExpandedItem) : Type 0 where
  pub layout : List Frames
  pub state : ScopedState
  pub stands : UnitStands new.work new.scope layout state notes
  pub at_root : AreAtRoot notes
  pub counts : CountsFor new.work state form budget trace
  pub own : s.unit ≡ unit
  pub number : state.unit ≡ unit
  pub at_work : state.form ≡ form
  pub kept : KeepsOthers old new unit form s state
  pub uses : (m : ℕ) → (m ≡ form → ⊥) → state.uses m ≡ s.uses m
  pub table : state.table ≡ s.table
  pub macros : macros_outside state.macros ≡ macros_outside s.macros
  pub parts : List Part
  pub stand : PartsStand new.work unit form (map (λ (i : ExpandedItem). i.part) items) (as_parts parts)
  pub tops : PartsBind false (as_parts parts)
  pub goes : (fs : List ℕ) → HaveCounted known fs form s start → GoneSo known fs form l s total parts (drop k l.items) state
  pub noted : (editions : Editions) (ms : List Noted) → CanNote old.work old.scope first (s.uses form) editions ms (turned form s) → NotesSo new.work new.scope.macros known l k state trace (begins form notes editions ms s)

-- ---- its uses are met

-- with these scopes in place of its own
abbrev pub with_scope : Bench → UnitScope → Bench
with_scope b u = record b { scope = u }

module _ (b : Bench) (u : UnitScope) (known : Known) (unit form : ℕ) (ls : List Frames) (s : ScopedState) (notes : List (Note FramedIdent)) (d : code.Declared) (l : Left Identifier) (own : s.unit ≡ unit) (h : IsDeclared b.work b.region unit form s d (Ok l)) (trace : Trace)
    (stands : UnitStands b.work u ls (uses_met known form l.uses s) notes) (at_root : AreAtRoot notes) (counts : CountsFor b.work (uses_met known form l.uses s) form d.so_far.budget trace)
    (noted : (editions : Editions) (ms : List Noted) → CanNote b.work b.scope d.so_far.trace (s.uses form) editions ms (turned form s) → HasNoted b.work u.macros trace (met_noting known l.uses (begins form notes editions ms s))) where
  abbrev met : ScopedState
  met = uses_met known form l.uses s

  -- nodes stay what they were
  met_counts : (fs : List ℕ) (total : ℕ) → HaveCounted known fs form s total → nodes_in (searched known) fs met ≡ total
  met_counts fs total c =
      let stay = met_stays form known l.uses s in
      let now : nodes_in (searched known) fs met + s.nodes form ≡ nodes_in (searched known) fs s + met.nodes form = step_counted (searched known) form s met (λ m apart. (stay.counts m apart).nodes) 0 fs c.rise c.among in
      let was : nodes_in (searched known) fs s ≡ total = c.counted in
      let first : d.so_far.budget.nodes ≡ s.nodes form = h.counts.nodes in
      let last : d.so_far.budget.nodes ≡ met.nodes form = counts.nodes in
      omega (arith, was, now, first, last)

  pub nothing_finished : (total : ℕ) → total ≤ max_total → Finishing b (with_scope b u) known unit form l s notes d.so_far.trace 0 total total d.so_far.budget trace []
  nothing_finished total few =
      let stay = met_stays form known l.uses s in
      let g = grows_itself b.work b.region in
      record {
        layout = ls;
        state = met;
        stands = stands;
        at_root = at_root;
        counts = counts;
        own = own;
        number = stay.unit ∙ own;
        at_work = met_form form known l.uses s;
        kept = others_kept b (with_scope b u) g.trees g.names refl unit form s met stay;
        uses = λ m apart. (stay.counts m apart).uses;
        table = met_table known form l.uses s;
        macros = ap macros_outside (met_macros known form l.uses s);
        parts = [];
        stand = tt;
        tops = tt;
        goes = λ fs c. record {
          counted = met_counts fs total c;
          over = λ many. not_over total few many;
          on = λ still. sym (before_none (to_come known fs l.items met));
        };
        noted = λ editions ms can. uses_so known form l notes editions ms s b.work u.macros trace (noted editions ms can);
      }

-- ---- a form that was broken before

pub broken_before : (b : Bench) (known : Known) (unit form : ℕ) (ls : List Frames) (s : ScopedState) (notes : List (Note FramedIdent)) (d : code.Declared) (r : Passing) (total : ℕ) (e : FormFault) (k : code_form.UnitForm) → StandsOutside b ls s notes → s.unit ≡ unit →
    IsDeclared b.work b.region unit form s d r → total ≤ max_total → d.so_far.fault ≡ Some e → k.fault ≡ Some e → k.trace.definitions ≡ d.so_far.trace.definitions → (steps : ℕ) → FinishesForm b b known unit form r s total total steps steps d.so_far.budget k
broken_before b known unit form ls s notes d (Ok l) total e k stands own h few was fault told steps = absurd (subst (λ (f : Option FormFault). IsSetAside b.work b.region unit form d f (Ok l)) was h.set_aside)
broken_before b known unit form ls s notes d (Err x) total e k stands own h few was fault told steps =
    record {
      finishes = record {
        state = turned form s;
        number = own;
        kept = λ m c q apart is. declared_turned b.work b.region unit m form s c q is;
        uses = λ m apart. refl;
        table = refl;
        macros = refl;
        result = Err x;
        met = (searched known).counted (turned form s);
        result_is = (e, fault, subst (λ (f : Option FormFault). IsSetAside b.work b.region unit form d f (Err x)) was h.set_aside);
        definitions =
            subst (λ (bs : List code_binder.Binder). AllMatch (IsNumbered b.work.symbols form) (reverse bs) (numbered_in unit form s.table)) (sym told)
            (subst (λ (u : ℕ). AllMatch (IsNumbered b.work.symbols form) (reverse d.so_far.trace.definitions) (numbered_in u form s.table)) own h.counts.definitions);
      };
      layout = ls;
      notes = notes;
      stands = unit_turned b.work b.scope ls s form notes stands.stands;
      at_root = stands.notes;
      goes = λ fs c. record { counted = turned_counted known form s fs ∙ c.counted; over = λ many. not_over total few many; whole = λ still. (Err x, refl, refl) };
      counted = refl;
      steps = refl;
      spent = record { uses = h.counts.uses; nodes = h.counts.nodes; locals = h.counts.locals };
    }

pub broken_first : (b : Bench) (known : Known) (unit form : ℕ) (ls : List Frames) (s : ScopedState) (notes : List (Note FramedIdent)) (d : code.Declared) (r : Passing) (total : ℕ) (k : code_form.UnitForm) → StandsOutside b ls s notes → s.unit ≡ unit →
    IsDeclared b.work b.region unit form s d r → total ≤ max_total → is_some d.so_far.fault ≡ true → k.fault ≡ d.so_far.fault → k.trace.definitions ≡ d.so_far.trace.definitions → (steps : ℕ) → FinishesForm b b known unit form r s total total steps steps d.so_far.budget k
broken_first b known unit form ls s notes d r total k stands own h few is fault told steps = by d.so_far.fault refl is
  where
    by : (f : Option FormFault) → d.so_far.fault ≡ f → is_some f ≡ true → FinishesForm b b known unit form r s total total steps steps d.so_far.budget k
    by None was is = absurd cc
    by (Some e) was is = broken_before b known unit form ls s notes d r total e k stands own h few was (fault ∙ was) told steps

-- ---- one item more

-- an item that was set aside, in a work that has grown
pub item_there : (old b : Bench) (unit form : ℕ) (s : ScopedState) (d : code.Declared) (l : Left Identifier) → IsDeclared old.work old.region unit form s d (Ok l) → d.so_far.fault ≡ None → KeepsTrees old.work b.work → KeepsNames old.work.symbols b.work.symbols → b.region ≡ old.region →
    (n : ℕ) (x : code_item.Item) → slice_get d.left.items n ≡ Some x → (i : Item Identifier) × (slice_get l.items n ≡ Some i) × ItemFor b.work b.region unit form x i × ItemBinds false i
item_there old b unit form s d l h none trees names same n x at =
    let m = matched_at (ItemFor old.work old.region unit form) d.left.items l.items n x (set_aside_of old.work old.region unit form s d l h none).1 at in
    (m.0, m.1, subst (λ (g : Region). ItemFor b.work g unit form x m.0) (sym same) (kept_on old.work b.work trees names unit form old.region x.kept m.0 m.2), top_at l.items n m.0 h.tops m.1)

module _ (known : Known) (old b c : Bench) (unit form : ℕ) (l : Left Identifier) (s : ScopedState) (notes : List (Note FramedIdent)) (first : Trace) (k start total : ℕ) (before_it after : Budget) (trace next : Trace) (items : List ExpandedItem)
    (h : Finishing old b known unit form l s notes first k start total before_it trace items) where
  -- the item, as the scopes' unit has it
  pub item_here : (x : code_item.Item) (i : Item Identifier) → ItemFor b.work b.region unit form x i → ItemFor b.work b.region b.scope.unit form x i
  item_here x i is = subst (λ (u : ℕ). ItemFor b.work b.region u form x i) (sym (h.stands.rests.unit ∙ h.number)) is

  module _ (i : Item Identifier) (trees : KeepsTrees b.work c.work) where
    -- the form has counted no less
    pub counts_more : (e : FormFault) → Expands b.work c.work b.region b.scope c.scope before_it after h.layout form next notes (Err (fault.At e)) (expanded known form i h.state) → before_it.nodes ≤ after.nodes
    counts_more e x =
        let counted : live_count c.work + before_it.nodes ≤ live_count b.work + after.nodes = x.2.counted in
        let live : live_count b.work ≤ live_count c.work = live_on b.work c.work trees in
        omega (arith, counted, live)

    module _ (names : KeepsNames b.work.symbols c.work.symbols) (same : c.region ≡ b.region) (at : drop k l.items ≡ i ∷ drop (suc k) l.items) (few : nat_lt max_total total ≡ false) where
      abbrev step : Result Part Broken × ScopedState
      step = expanded known form i h.state

      abbrev rest : List (Item Identifier)
      rest = drop (suc k) l.items

      abbrev one : Item Identifier → ModelStep ScopedState Part
      one = item_part (expand (searched known) enough_turns) (searched known) max_depth []

      step_is : (r : Result Part Broken) → step.0 ≡ r → one i h.state ≡ (r, step.1)
      step_is r so = ap (one i) (sym (same_turned h.state form h.at_work)) ∙ ap (λ (x : Result Part Broken). (x, step.1)) so

      step_unit : step.1.unit ≡ unit
      step_unit = (expanded_stays form known i h.state).unit ∙ h.number

      step_kept : KeepsOthers old c unit form s step.1
      step_kept m d r apart is = others_kept b c trees names same unit form h.state step.1 (expanded_stays form known i h.state) m d r apart (h.kept m d r apart is)

      step_uses : (m : ℕ) → (m ≡ form → ⊥) → step.1.uses m ≡ s.uses m
      step_uses m apart = ((expanded_stays form known i h.state).counts m apart).uses ∙ h.uses m apart

      step_table : step.1.table ≡ s.table
      step_table = expanded_table known form i h.state ∙ h.table

      step_macros : macros_outside step.1.macros ≡ macros_outside s.macros
      step_macros = item_outside known form i h.state ∙ h.macros

      -- the unit has counted so many nodes with it
      module _ (more : ℕ) (nodes : more + before_it.nodes ≡ total + after.nodes) (counts : CountsFor c.work step.1 form after next) (fs : List ℕ) (have : HaveCounted known fs form s start) where
        step_counts : nodes_in (searched known) fs step.1 ≡ more
        step_counts =
            let was : nodes_in (searched known) fs h.state ≡ total = (h.goes fs have).counted in
            let stay = expanded_stays form known i h.state in
            let now : nodes_in (searched known) fs step.1 + h.state.nodes form ≡ nodes_in (searched known) fs h.state + step.1.nodes form = step_counted (searched known) form h.state step.1 (λ m apart. (stay.counts m apart).nodes) 0 fs have.rise have.among in
            let first : before_it.nodes ≡ h.state.nodes form = h.counts.nodes in
            let last : after.nodes ≡ step.1.nodes form = counts.nodes in
            omega (arith, was, now, first, last, nodes)

        so_far : expanding known fs form (Ok l) s ≡ before h.parts (to_come known fs (i ∷ rest) h.state)
        so_far = (h.goes fs have).on few ∙ ap (λ (is : List (Item Identifier)). before h.parts (to_come known fs is h.state)) at

        -- work on the unit ended
        step_over : (r : Result Part Broken) → step.0 ≡ r → nat_lt max_total more ≡ true → expanding known fs form (Ok l) s ≡ (None, step.1)
        step_over r so many =
            let state : (one i h.state).1 ≡ step.1 = ap (λ (q : Result Part Broken × ScopedState). q.1) (step_is r so) in
            so_far
            ∙ (ap (before h.parts) (item_over (searched known) fs one i rest h.state (ap (λ (t : ScopedState). nat_lt max_total (nodes_in (searched known) fs t)) state ∙ (ap (nat_lt max_total) step_counts ∙ many)))
            ∙ ap (λ (t : ScopedState). (None, t)) state)

        -- it goes on
        step_on : (p : Part) → step.0 ≡ Ok p → nat_lt max_total more ≡ false → expanding known fs form (Ok l) s ≡ before (h.parts ++ p ∷ []) (to_come known fs rest step.1)
        step_on p so still =
            so_far
            ∙ (ap (before h.parts) (item_on (searched known) fs one i rest h.state p step.1 (step_is (Ok p) so) (ap (nat_lt max_total) step_counts ∙ still))
            ∙ before_twice h.parts (p ∷ []) (to_come known fs rest step.1))

        -- the form is broken
        step_fault : (e : Broken) → step.0 ≡ Err e → nat_lt max_total more ≡ false → expanding known fs form (Ok l) s ≡ (Some (Err e), step.1)
        step_fault e so still =
            so_far
            ∙ (ap (before h.parts) (item_fault (searched known) fs one i rest h.state e step.1 (step_is (Err e) so) (ap (nat_lt max_total) step_counts ∙ still))
            ∙ ap (λ (r : Result Parts Broken). (Some r, step.1)) (no_parts_given h.parts e))

      -- what is noted with it
      abbrev Notes : Type 0
      Notes = (editions : Editions) (ms : List Noted) → CanNote b.work b.scope trace trace.notes.begun editions ms (turned form h.state) → HasNoted c.work c.scope.macros next (expand_noting known i (part_begun trace.notes.begun notes editions ms (turned form h.state))).1

      same_unit : h.state.unit ≡ s.unit
      same_unit = h.number ∙ sym h.own

      pub item_finished : (x : ExpandedItem) → ItemBinds false i → Expands b.work c.work b.region b.scope c.scope before_it after h.layout form next notes (Ok x) step → Notes →
          Finishing old c known unit form l s notes first (suc k) start (total + x.count) after next (items ++ x ∷ [])
      item_finished x top e noted =
          let goes = e.2 in
          let own : c.scope.unit ≡ unit = goes.stands.rests.unit ∙ step_unit in
          let stands : PartStands c.work unit form x.part e.0 = subst (λ (u : ℕ). PartStands c.work u form x.part e.0) own e.3 in
          let binds : PartBinds false e.0 = subst (λ (r : Result Part Broken). OfOk (PartBinds false) r) e.1 (expanded_binds known form i h.state top) in
          let nodes : total + x.count + before_it.nodes ≡ total + after.nodes = let q = e.4 in omega (arith, q) in
          record {
            layout = goes.layout;
            state = step.1;
            stands = goes.stands;
            at_root = h.at_root;
            counts = goes.counts;
            own = h.own;
            number = step_unit;
            at_work = item_form form known i h.state;
            kept = step_kept;
            uses = step_uses;
            table = step_table;
            macros = step_macros;
            parts = h.parts ++ e.0 ∷ [];
            stand =
                subst (λ (xs : List code_part.CorePart). PartsStand c.work unit form xs (as_parts (h.parts ++ e.0 ∷ []))) (sym (map-append (λ (y : ExpandedItem). y.part) items (x ∷ [])))
                (part_more c.work unit form (map (λ (y : ExpandedItem). y.part) items) h.parts x.part e.0 (parts_stand_on b.work c.work trees names unit form (map (λ (y : ExpandedItem). y.part) items) (as_parts h.parts) h.stand) stands);
            tops = tops_more h.parts e.0 h.tops binds;
            goes = λ fs have. record {
              counted = step_counts (total + x.count) nodes goes.counts fs have;
              over = λ many. step_over (total + x.count) nodes goes.counts fs have (Ok e.0) e.1 many;
              on = λ still. step_on (total + x.count) nodes goes.counts fs have e.0 e.1 still;
            };
            noted = λ editions ms can.
                let w = h.noted editions ms can in
                item_so known form l notes editions ms s b.work b.scope.macros k h.state trace w same_unit h.at_work i at c.work c.scope.macros next
                (noted editions w.now.noted (can_note known form l notes editions ms s b.work b.scope.macros k h.state trace w same_unit h.at_work b.scope refl)) e.0 e.1;
          }

      -- it is broken, so nothing behind it is expanded
      pub broken_now : (e : FormFault) (q : code_form.UnitForm) (more : ℕ) → more + before_it.nodes ≡ total + after.nodes → q.fault ≡ Some e → q.trace.definitions ≡ next.definitions →
          Expands b.work c.work b.region b.scope c.scope before_it after h.layout form next notes (Err (fault.At e)) step → (from to : ℕ) → to + s.uses form ≡ from + after.uses → FinishesForm old c known unit form (Ok l) s start more from to after q
      broken_now e q more nodes told defines x from to steps =
          let goes = x.2 in
          record {
            finishes = record {
              state = step.1;
              number = step_unit;
              kept = step_kept;
              uses = step_uses;
              table = step_table;
              macros = step_macros;
              result = Err x.0;
              met = (searched known).counted step.1;
              result_is = (e, told, x.3);
              definitions =
                  subst (λ (bs : List code_binder.Binder). AllMatch (IsNumbered c.work.symbols form) (reverse bs) (numbered_in unit form step.1.table)) (sym defines)
                  (subst (λ (u : ℕ). AllMatch (IsNumbered c.work.symbols form) (reverse next.definitions) (numbered_in u form step.1.table)) step_unit goes.counts.definitions);
            };
            layout = goes.layout;
            notes = notes;
            stands = goes.stands;
            at_root = h.at_root;
            goes = λ fs have. record {
              counted = step_counts more nodes goes.counts fs have;
              over = λ many. step_over more nodes goes.counts fs have (Err x.0) x.1 many;
              whole = λ still. (Err x.0, step_fault more nodes goes.counts fs have x.0 x.1 still, refl);
            };
            counted = refl;
            steps = steps ∙ ap (λ n. from + n) goes.counts.uses;
            spent = record { uses = goes.counts.uses; nodes = goes.counts.nodes; locals = goes.counts.locals };
          }

      pub broken_notes : (e : FormFault) (q : code_form.UnitForm) → q.trace.notes ≡ next.notes → Expands b.work c.work b.region b.scope c.scope before_it after h.layout form next notes (Err (fault.At e)) step → Notes →
          (editions : Editions) (ms : List Noted) → CanNote old.work old.scope first (s.uses form) editions ms (turned form s) → NotedInside c.work c.scope.macros q.trace (left_noting known l (begins form notes editions ms s))
      broken_notes e q told x noted editions ms can =
          let w = h.noted editions ms can in
          item_breaks known form l notes editions ms s b.work b.scope.macros k h.state trace w same_unit h.at_work i at c.work c.scope.macros next
          (noted editions w.now.noted (can_note known form l notes editions ms s b.work b.scope.macros k h.state trace w same_unit h.at_work b.scope refl)) x.0 x.1 q.trace (ap (λ (n : code_noting.Noting). n.notes) told)

      -- editions tell the same of macros
      pub broken_tells : Notes → (editions : Editions) (ms : List Noted) → CanNote old.work old.scope first (s.uses form) editions ms (turned form s) → EditionsTell c.work.symbols c.scope.macros s editions
      broken_tells noted editions ms can =
          let w = h.noted editions ms can in
          tell_before c.work.symbols c.scope.macros step.1 s editions (step_unit ∙ sym h.own) step_macros
          (told_then known form l notes editions ms s b.work b.scope.macros k h.state trace w same_unit h.at_work i at c.work c.scope.macros next
          (noted editions w.now.noted (can_note known form l notes editions ms s b.work b.scope.macros k h.state trace w same_unit h.at_work b.scope refl)))

-- ---- a form that was expanded

module _ (old b : Bench) (known : Known) (unit form : ℕ) (l : Left Identifier) (s : ScopedState) (notes : List (Note FramedIdent)) (first : Trace) (k start total : ℕ) (budget : Budget) (trace : Trace) (items : List ExpandedItem)
    (h : Finishing old b known unit form l s notes first k start total budget trace items) where
  -- as much as is
  finished_so : FinishesTo old b unit form s (record { items = items; trace = trace; fault = None })
  finished_so =
      let t = h.state in
      record {
        state = t;
        number = h.number;
        kept = h.kept;
        uses = h.uses;
        table = h.table;
        macros = h.macros;
        result = Ok (as_parts h.parts);
        met = (searched known).counted (turned form t);
        result_is = record {
          whole = refl;
          parts = h.stand;
          levels = h.tops;
          keywords = subst (λ (u : ℕ). AllMatch (IsTarget b.work.symbols u form) trace.keywords (reverse (t.keywords form))) h.number h.counts.keywords;
          uses = subst (λ (u : ℕ). AllMatch (IsUse b.work.symbols u form) trace.uses (reverse (t.met form))) h.number h.counts.met;
        };
        definitions = subst (λ (u : ℕ). AllMatch (IsNumbered b.work.symbols form) (reverse trace.definitions) (numbered_in u form t.table)) h.number h.counts.definitions;
      }

  -- nothing is left, or work on the unit ended
  pub form_finished : (nat_lt max_total total ≡ false → drop k l.items ≡ []) → (from to : ℕ) → to + s.uses form ≡ from + budget.uses → FinishesForm old b known unit form (Ok l) s start total from to budget (record { items = items; trace = trace; fault = None })
  unfolding finished_so
  form_finished all from to steps = record {
    finishes = finished_so;
    layout = h.layout;
    notes = notes;
    stands = h.stands;
    at_root = h.at_root;
    goes = λ fs have.
        let g = h.goes fs have in record {
          counted = g.counted;
          over = g.over;
          whole = λ still. (
            Ok (as_parts h.parts),
            g.on still ∙ (ap (λ (is : List (Item Identifier)). before h.parts (to_come known fs is h.state)) (all still) ∙ ap (λ (r : Result Parts Broken). (Some r, h.state)) (all_parts h.parts)),
            refl,
          );
        };
    counted = ap (λ (t : ScopedState). (searched known).counted t) (same_turned h.state form h.at_work);
    steps = steps ∙ ap (λ n. from + n) h.counts.uses;
    spent = record { uses = h.counts.uses; nodes = h.counts.nodes; locals = h.counts.locals };
  }

-- ---- what is local to it is forgotten

module _ (old b : Bench) (u : UnitScope) (forgets : Forgets b u) (known : Known) (unit form : ℕ) (r : Passing) (s : ScopedState) (macros : AllAtRoot s) (before_it after from to : ℕ) (budget : Budget) (c : code_form.UnitForm) (h : FinishesForm old b known unit form r s before_it after from to budget c) where
  abbrev then_ : ScopedState
  then_ = h.finishes.state

  outside_to : FinishesTo old (record b { scope = u }) unit form s c
  outside_to =
      let f = h.finishes in record {
        state = outside then_;
        number = f.number;
        kept = λ m d q apart is. declared_outside b.work b.region unit then_ m d q (f.kept m d q apart is);
        uses = f.uses;
        table = f.table;
        macros = ap (λ (t : ScopedState). t.macros) (nothing_local then_) ∙ f.macros;
        result = f.result;
        met = f.met;
        result_is = f.result_is;
        definitions = f.definitions;
      }

  pub ends_outside : EndsForm old (record b { scope = u }) known unit form r s before_it after from to budget c
  unfolding outside_to
  ends_outside = record {
    finishes = outside_to;
    layout = take (b.scope.root + 1) h.layout;
    notes = h.notes;
    stands =
        stands_outside b u forgets h.layout then_ h.notes h.stands
        (subst (λ (ks : List ScopedMacro). Each (λ (k : ScopedMacro). k.frames ≡ []) ks) (sym h.finishes.macros) (outside_root s macros)) h.at_root;
    goes = λ fs have.
        let g = h.goes fs have in record {
          counted = same_counted (searched known) then_ (outside then_) (λ m. refl) fs ∙ g.counted;
          over = λ many. ap (λ (q : Option (Result Parts Broken) × ScopedState). forgotten q) (g.over many);
          whole = λ still. let w = g.whole still in (w.0, ap (λ (q : Option (Result Parts Broken) × ScopedState). forgotten q) w.1, w.2);
        };
    counted = h.counted;
    steps = h.steps;
    spent = let x = h.spent in record { uses = x.uses; nodes = x.nodes; locals = x.locals };
  }

-- and so its notes stand
pub noted_outside : (work : Work) (old new : Macros) (trace : Trace) (t : Noting) → NotedInside work old trace t → EditionsTell work.symbols new (outside (state_of t)) t.since.editions → NotedOutside work new trace t
noted_outside work old new trace t h editions = record { notes = h.notes; editions = editions }
