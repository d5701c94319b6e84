-- The loop over what a form set aside: its uses are met, and item after item is expanded.
use Rattle.std.proofs.Common.{◌≡◌, ℕ, zero, suc, ◌+◌, ◌≤◌, ◌<◌, List, [], ◌∷◌, ◌++◌, drop, reverse, length, get_or, slice_get, false, Some, None, Result, Ok, Err, refl, sym, ap, ◌∙◌, subst, arith}
use Rattle.std.specs.Prelude.{nat_lt}
use Rattle.scheme_model.specs.Ident.{Ident as Identifier}
use Rattle.scheme_model.specs.Order.{Item, Left, Note, WaitingUse}
use Rattle.scheme_model.specs.UnitExpansion.{max_total}
use Rattle.scheme_model.specs.Requirements.{Known}
use Rattle.scheme_model.specs.ScopedExpansion.{Frames, FramedIdent, ScopedState}
use Rattle.syntax_tree.specs.Names.{KeepsNames}
use Rattle.syntax_tree.specs.Works.{IsOpened, KeepsTrees, SameRegions, AddsIn}
use Rattle.core_tree.specs.Names.{AllMatch, IsTarget, IsUse}
use Rattle.core_tree.specs.declared.cores.Binder as code_binder
use Rattle.core_tree.specs.declared.traces.FormFault.{FormFault}
use Rattle.core_tree.specs.declared.traces.Trace.{Trace}
use Rattle.core_tree.specs.declared.units.ExpandedItem.{ExpandedItem}
use Rattle.core_tree.specs.declared.units.UnitForm as code_form
use Rattle.feature_requirements.specs.Judged.{Knows}
use Rattle.form_notes.specs.Noted.{Noted}
use Rattle.unit_scopes.specs.Editions.{EditionsTell}
use Rattle.unit_scopes.specs.State.{IsNumbered, numbered_in}
use Rattle.unit_scopes.specs.Stepped.{turned}
use Rattle.expansion_laws.specs.Tops.{ItemBinds}
use Rattle.unit_scopes.specs.Kept.{WaitsFor}
use Rattle.unit_scopes.specs.Units.{UnitStands, CountsFor, ItemFor, CanDeclare, Expands, uses_met, expanded}
use Rattle.feature_requirements.specs.declared.fault.ExpandFault.{ExpandFault}
use Rattle.feature_requirements.specs.declared.fault.ExpandFault.TheVariants as fault
use Rattle.form_parts.specs.declared.items.Item as code_item
use Rattle.form_parts.specs.declared.items.WaitingUse as code_waiting
use Rattle.unit_scopes.specs.declared.scope.Budget.{Budget}
use Rattle.unit_scopes.specs.declared.scope.UnitScope.{UnitScope}
use Rattle.unit_scopes.proofs.OutcomeLaws.{grows_itself}
use Rattle.expansion_laws.proofs.OtherForms.{expanded_stays}
use Rattle.expander.specs.UnitNotes.{CanNote, Editions, HasNoted, OnEnded, expand_noting, met_noting, part_begun}
use Rattle.form_expansion.specs.Forms.{StandsOutside, Passing, IsUntouched, IsDeclared, FinishesForm, EndsForm, CanFinish, MayNote, Stays, NotedInside, known_by, left_noting}
use Rattle.form_expansion.specs.declared.forms.Bench.{Bench}
use Rattle.form_expansion.specs.declared.forms.Declared as code
use Rattle.form_expansion.proofs.BenchLaws.{same_root, stays_by, stays_on}
use Rattle.form_expansion.proofs.FormNotes.{begins, notes_end, tell_before, tell_turned, told_now}
use Rattle.form_expansion.proofs.FormsFinish.{Finishing, broken_notes, broken_now, broken_tells, counts_more, dropped_at, dropped_behind, form_finished, item_finished, item_here, item_there, left_of, matched_length, no_fault, none_more, none_reversed, nothing_finished, set_aside_of, with_scope}

-- ---- the loop over a form's items

-- nothing was met
pub record IsBlankTrace (t : Trace) : Type 0 where
  pub definitions : t.definitions ≡ []
  pub keywords : t.keywords ≡ []
  pub uses : t.uses ≡ []

item_at : {X : Type 0} (xs : List X) (k : ℕ) (d : X) → k < length xs → slice_get xs k ≡ Some (get_or xs k d)
item_at [] k d low = absurd (omega (arith, low))
item_at (x ∷ xs) zero d low = refl
item_at (x ∷ xs) (suc k) d low = item_at xs k d (omega (arith, low))

-- what came of the form so far, from each state that it may have begun in
abbrev pub Continues : (old b : Bench) (unit form : ℕ) → code.Declared → (k start total : ℕ) → Budget → Trace → List ExpandedItem → Type 0
Continues old b unit form d k start total budget trace items = (known : Known) (ls : List Frames) (s : ScopedState) (notes : List (Note FramedIdent)) (l : Left Identifier) → Knows old.scope.libraries known → StandsOutside old ls s notes → s.unit ≡ unit →
    IsDeclared old.work old.region unit form s d (Ok l) → Finishing old b known unit form l s notes d.so_far.trace k start total budget trace items

-- what comes of the form, from each state that it may begin in
abbrev pub Finished : (old b : Bench) (unit form : ℕ) → code.Declared → (start total : ℕ) → (from to : ℕ) → Budget → code_form.UnitForm → Type 0
Finished old b unit form d start total from to budget k = (known : Known) (ls : List Frames) (s : ScopedState) (notes : List (Note FramedIdent)) (r : Passing) → Knows old.scope.libraries known → StandsOutside old ls s notes → s.unit ≡ unit →
    IsDeclared old.work old.region unit form s d r → FinishesForm old b known unit form r s start total from to budget k

-- and where what is local to it is forgotten then
abbrev pub Ended : (old b : Bench) (unit form : ℕ) → code.Declared → (start total : ℕ) → (from to : ℕ) → Budget → code_form.UnitForm → Type 0
Ended old b unit form d start total from to budget k = (known : Known) (ls : List Frames) (s : ScopedState) (notes : List (Note FramedIdent)) (r : Passing) → Knows old.scope.libraries known → StandsOutside old ls s notes → s.unit ≡ unit →
    IsDeclared old.work old.region unit form s d r → EndsForm old b known unit form r s start total from to budget k

-- what was noted with it
abbrev pub NotesRest : (old b : Bench) (unit form : ℕ) → code.Declared → code_form.UnitForm → Type 0
NotesRest old b unit form d k = (known : Known) (ls : List Frames) (s : ScopedState) (notes : List (Note FramedIdent)) (l : Left Identifier) (editions : Editions) (ms : List Noted) → Knows old.scope.libraries known → StandsOutside old ls s notes → s.unit ≡ unit →
    IsDeclared old.work old.region unit form s d (Ok l) → CanNote old.work old.scope d.so_far.trace (s.uses form) editions ms (turned form s) → NotedInside b.work b.scope.macros k.trace (left_noting known l (begins form notes editions ms s))

-- editions tell the same of macros
abbrev pub TellsStill : (old b : Bench) (unit form : ℕ) → code.Declared → Type 0
TellsStill old b unit form d = (ls : List Frames) (s : ScopedState) (notes : List (Note FramedIdent)) (r : Passing) (editions : Editions) (ms : List Noted) → StandsOutside old ls s notes → s.unit ≡ unit → IsDeclared old.work old.region unit form s d r →
    MayNote old form s d.so_far.trace editions ms r → EditionsTell b.work.symbols b.scope.macros s editions

can_note_left : (b : Bench) (form : ℕ) (s : ScopedState) (trace : Trace) (editions : Editions) (ms : List Noted) (l : Left Identifier) → MayNote b form s trace editions ms (Ok l) → CanNote b.work b.scope trace (s.uses form) editions ms (turned form s)
can_note_left b form s trace editions ms l may = record { tells = tell_turned b.work.symbols b.scope.macros s form editions may.tells; notes = may.notes }

-- the call that meets the form's uses
abbrev pub Meets : (b : Bench) (u : UnitScope) (form : ℕ) (budget : Budget) (trace next : Trace) → List code_waiting.WaitingUse → Type 0
Meets b u form budget trace next xs = (known : Known) (ls : List Frames) (s : ScopedState) (notes : List (Note FramedIdent)) (us : List (WaitingUse Identifier)) → UnitStands b.work b.scope ls s notes → CountsFor b.work s form budget trace → AllMatch (WaitsFor b.work b.scope.unit form) xs us →
    UnitStands b.work u ls (uses_met known form us s) notes × CountsFor b.work (uses_met known form us s) form budget next

-- and what it notes
abbrev pub MeetsNoting : (b : Bench) (u : UnitScope) (form : ℕ) (budget : Budget) (trace next : Trace) → List code_waiting.WaitingUse → Type 0
MeetsNoting b u form budget trace next xs = (known : Known) (ls : List Frames) (s : ScopedState) (notes : List (Note FramedIdent)) (us : List (WaitingUse Identifier)) (editions : Editions) (ms : List Noted) → UnitStands b.work b.scope ls s notes →
    CountsFor b.work s form budget trace → AllMatch (WaitsFor b.work b.scope.unit form) xs us → CanNote b.work b.scope trace (s.uses form) editions ms (turned form s) → HasNoted b.work u.macros next (met_noting known us (begins form notes editions ms s))

-- the call that expands the item
abbrev pub Step : (b c : Bench) (form : ℕ) (before after : Budget) (trace next : Trace) → code_item.Item → Result ExpandedItem ExpandFault → Type 0
Step b c form before_it after trace next x result = (known : Known) (ls : List Frames) (s : ScopedState) (notes : List (Note FramedIdent)) (i : Item Identifier) → Knows b.scope.libraries known →
    UnitStands b.work b.scope ls s notes → CountsFor b.work s form before_it trace → ItemFor b.work b.region b.scope.unit form x i →
    Expands b.work c.work b.region b.scope c.scope before_it after ls form next notes result (expanded known form i s)

-- and what it notes
abbrev pub StepNoting : (b c : Bench) (form : ℕ) (before after : Budget) (trace next : Trace) → code_item.Item → Result ExpandedItem ExpandFault → Type 0
StepNoting b c form before_it after trace next x result = (known : Known) (ls : List Frames) (s : ScopedState) (notes : List (Note FramedIdent)) (i : Item Identifier) (editions : Editions) (ms : List Noted) → Knows b.scope.libraries known →
    UnitStands b.work b.scope ls s notes → CountsFor b.work s form before_it trace → ItemFor b.work b.region b.scope.unit form x i → CanNote b.work b.scope trace trace.notes.begun editions ms (turned form s) →
    OnEnded result (HasNoted c.work c.scope.macros next (expand_noting known i (part_begun trace.notes.begun notes editions ms (turned form s))).1)

module _ (b : Bench) (unit form : ℕ) (d : code.Declared) (none : d.so_far.fault ≡ None) where
  waits_here : (ls : List Frames) (s : ScopedState) (notes : List (Note FramedIdent)) (l : Left Identifier) → UnitStands b.work b.scope ls s notes → s.unit ≡ unit → IsDeclared b.work b.region unit form s d (Ok l) → AllMatch (WaitsFor b.work b.scope.unit form) d.left.uses.items l.uses
  waits_here ls s notes l stands own h =
      subst (λ (u : ℕ). AllMatch (WaitsFor b.work u form) d.left.uses.items l.uses) (sym (stands.rests.unit ∙ own)) (set_aside_of b.work b.region unit form s d l h none).0

  -- what the call demands
  pub can_meet : CanFinish b unit form d → CanDeclare b.work b.scope form d.so_far.budget d.so_far.trace
  can_meet can = record { layout = can.layout; state = can.state; notes = can.notes; stands = can.stands.stands; counts = can.form_is.counts }

  pub uses_wait : CanFinish b unit form d → (us : List (WaitingUse Identifier)) × AllMatch (WaitsFor b.work b.scope.unit form) d.left.uses.items us
  uses_wait can = let l = left_of b.work b.region unit form can.state d can.result can.form_is none in (l.0.uses, waits_here can.layout can.state can.notes l.0 can.stands.stands can.number l.1)

  module _ (u : UnitScope) (next : Trace) (call : Meets b u form d.so_far.budget d.so_far.trace next d.left.uses.items) where
    -- its uses are met, and no item is expanded
    pub uses_continue : MeetsNoting b u form d.so_far.budget d.so_far.trace next d.left.uses.items → (total : ℕ) → total ≤ max_total → Continues b (with_scope b u) unit form d 0 total total d.so_far.budget next []
    uses_continue noted total few known ls s notes l knows stands own h =
        let waits = waits_here ls s notes l stands.stands own h in
        let m = call known ls s notes l.uses stands.stands h.counts waits in
        nothing_finished b u known unit form ls s notes d l own h next m.0 stands.notes m.1 (λ editions ms can. noted known ls s notes l.uses editions ms stands.stands h.counts waits can) total few

    -- a form that isn't expanded has met nothing by now either
    pub still_blank : IsUntouched d → CanFinish b unit form d → IsBlankTrace next
    still_blank un can =
        let s = can.state in
        let names = b.work.symbols in
        let was = can.form_is.counts in
        let now = (call (known_by b.scope.libraries) can.layout s can.notes [] can.stands.stands was (subst (λ (xs : List code_waiting.WaitingUse). AllMatch (WaitsFor b.work b.scope.unit form) xs []) (sym un.waiting) tt)).1 in
        record {
          definitions =
              none_reversed next.definitions
              (none_more (IsNumbered names form) (reverse next.definitions) (reverse d.so_far.trace.definitions) (numbered_in s.unit form s.table) (ap (λ (bs : List code_binder.Binder). reverse bs) un.definitions) was.definitions now.definitions);
          keywords = none_more (IsTarget names s.unit form) next.keywords d.so_far.trace.keywords (reverse (s.keywords form)) un.keywords was.keywords now.keywords;
          uses = none_more (IsUse names s.unit form) next.uses d.so_far.trace.uses (reverse (s.met form)) un.met was.met now.met;
        }

pub uses_stay : (b : Bench) (u : UnitScope) → IsOpened b.work b.region → u ≡ record b.scope { form = u.form } → Stays b (with_scope b u)
uses_stay b u opened is =
    let g = grows_itself b.work b.region in
    stays_by b (with_scope b u) opened refl g.trees g.names g.added g.regions (ap (λ (v : UnitScope). v.env.roots) is) (ap (λ (v : UnitScope). v.root) is) (ap (λ (v : UnitScope). v.libraries) is)

module _ (old b : Bench) (unit form : ℕ) (d : code.Declared) (none : d.so_far.fault ≡ None) (stay : Stays old b) (k start total : ℕ) (before_it : Budget) (trace : Trace) (items : List ExpandedItem) (so : Continues old b unit form d k start total before_it trace items)
    (xs : List code_item.Item) (whole : xs ≡ d.left.items) (x : code_item.Item) (low : k < length xs) (is : x ≡ get_or xs k x) where
  x_at : slice_get d.left.items k ≡ Some x
  x_at = subst (λ (ys : List code_item.Item). slice_get ys k ≡ Some x) whole (item_at xs k x low ∙ ap (λ (y : code_item.Item). Some y) (sym is))

  -- the item that it stands for
  record Here (set : List (Item Identifier)) : Type 0 where
    item : Item Identifier
    there : drop k set ≡ item ∷ drop (suc k) set
    stands : ItemFor b.work b.region b.scope.unit form x item
    binds : ItemBinds false item

  item_is : (known : Known) (s : ScopedState) (notes : List (Note FramedIdent)) (l : Left Identifier) → IsDeclared old.work old.region unit form s d (Ok l) → Finishing old b known unit form l s notes d.so_far.trace k start total before_it trace items → Here l.items
  item_is known s notes l h f =
      let i = item_there old b unit form s d l h none stay.trees stay.names stay.region k x x_at in
      record { item = i.0; there = dropped_at l.items k i.0 i.1; stands = item_here known old b b unit form l s notes d.so_far.trace k start total before_it before_it trace trace items f x i.0 i.2; binds = i.3 }

  abbrev all_known : Known
  all_known = known_by old.scope.libraries

  all_there : Knows old.scope.libraries all_known
  all_there n _ = refl

  module _ (c : Bench) (after : Budget) (next : Trace) (trees : KeepsTrees b.work c.work) (names : KeepsNames b.work.symbols c.work.symbols) (added : AddsIn b.work c.work b.region) (regions : SameRegions b.work c.work) (same : c.region ≡ b.region) where
    pub ok_finishes : (y : ExpandedItem) → nat_lt max_total total ≡ false → Step b c form before_it after trace next x (Ok y) → StepNoting b c form before_it after trace next x (Ok y) → Continues old c unit form d (suc k) start (total + y.count) after next (items ++ y ∷ [])
    ok_finishes y few call noted known ls s notes l knows stands own h =
        let f = so known ls s notes l knows stands own h in
        let i = item_is known s notes l h f in
        item_finished known old b c unit form l s notes d.so_far.trace k start total before_it after trace next items f i.item trees names same i.there few y i.binds
        (call known f.layout f.state notes i.item (stay.libraries known knows) f.stands f.counts i.stands)
        (λ editions ms can. noted known f.layout f.state notes i.item editions ms (stay.libraries known knows) f.stands f.counts i.stands can)

    pub at_finishes : (e : FormFault) (more : ℕ) → more + before_it.nodes ≡ total + after.nodes → nat_lt max_total total ≡ false → Step b c form before_it after trace next x (Err (fault.At e)) →
        (q : code_form.UnitForm) → q.fault ≡ Some e → q.trace.definitions ≡ next.definitions → (from to : ℕ) → to + d.so_far.budget.uses ≡ from + after.uses → Finished old c unit form d start more from to after q
    at_finishes e more nodes few call q told defines from to steps known ls s notes (Err z) knows stands own h = no_fault old.work old.region unit form s d z h none
    at_finishes e more nodes few call q told defines from to steps known ls s notes (Ok l) knows stands own h =
        let f = so known ls s notes l knows stands own h in
        let i = item_is known s notes l h f in
        broken_now known old b c unit form l s notes d.so_far.trace k start total before_it after trace next items f i.item trees names same i.there few e q more nodes told defines
        (call known f.layout f.state notes i.item (stay.libraries known knows) f.stands f.counts i.stands) from to (ap (λ n. to + n) (sym h.counts.uses) ∙ steps)

    pub at_notes : (e : FormFault) → nat_lt max_total total ≡ false → Step b c form before_it after trace next x (Err (fault.At e)) → StepNoting b c form before_it after trace next x (Err (fault.At e)) →
        (q : code_form.UnitForm) → q.trace.notes ≡ next.notes → NotesRest old c unit form d q
    at_notes e few call noted q told known ls s notes l editions ms knows stands own h can =
        let f = so known ls s notes l knows stands own h in
        let i = item_is known s notes l h f in
        broken_notes known old b c unit form l s notes d.so_far.trace k start total before_it after trace next items f i.item trees names same i.there few e q told
        (call known f.layout f.state notes i.item (stay.libraries known knows) f.stands f.counts i.stands)
        (λ editions ms can. noted known f.layout f.state notes i.item editions ms (stay.libraries known knows) f.stands f.counts i.stands can) editions ms can

    pub at_tells : nat_lt max_total total ≡ false → (e : FormFault) → StepNoting b c form before_it after trace next x (Err (fault.At e)) → TellsStill old c unit form d
    at_tells few e noted ls s notes (Err z) editions ms stands own h may = no_fault old.work old.region unit form s d z h none
    at_tells few e noted ls s notes (Ok l) editions ms stands own h may =
        let f = so all_known ls s notes l all_there stands own h in
        let i = item_is all_known s notes l h f in
        broken_tells all_known old b c unit form l s notes d.so_far.trace k start total before_it after trace next items f i.item trees names same i.there few
        (λ editions ms can. noted all_known f.layout f.state notes i.item editions ms (stay.libraries all_known all_there) f.stands f.counts i.stands can) editions ms (can_note_left old form s d.so_far.trace editions ms l may)

    -- what the call leaves, by the state that there is
    module _ (can : CanFinish old unit form d) where
      abbrev left : (l : Left Identifier) × IsDeclared old.work old.region unit form can.state d (Ok l)
      left = left_of old.work old.region unit form can.state d can.result can.form_is none

      step_root : (f : Finishing old b all_known unit form left.0 can.state can.notes d.so_far.trace k start total before_it trace items) (i : Item Identifier) (ms : List Frames) → UnitStands c.work c.scope ms (expanded all_known form i f.state).1 can.notes → c.scope.env.roots ≡ b.scope.env.roots →
          c.scope.root ≡ b.scope.root
      step_root f i ms after roots = same_root b.work c.work b.scope c.scope f.layout ms f.state (expanded all_known form i f.state).1 can.notes can.notes f.stands after (expanded_stays form all_known i f.state).unit roots

      pub ok_stays : (y : ExpandedItem) → Step b c form before_it after trace next x (Ok y) → Stays old c
      ok_stays y call =
          let f = so all_known can.layout can.state can.notes left.0 all_there can.stands can.number left.1 in
          let i = item_is all_known can.state can.notes left.0 left.1 f in
          let goes = (call all_known f.layout f.state can.notes i.item (stay.libraries all_known all_there) f.stands f.counts i.stands).2 in
          stays_on old b c stay (stays_by b c stay.opened same trees names added regions goes.units (step_root f i.item goes.layout goes.stands goes.units) goes.libraries)

      pub at_stays : (e : FormFault) → Step b c form before_it after trace next x (Err (fault.At e)) → Stays old c × (before_it.nodes ≤ after.nodes)
      at_stays e call =
          let f = so all_known can.layout can.state can.notes left.0 all_there can.stands can.number left.1 in
          let i = item_is all_known can.state can.notes left.0 left.1 f in
          let gone = call all_known f.layout f.state can.notes i.item (stay.libraries all_known all_there) f.stands f.counts i.stands in (
            stays_on old b c stay (stays_by b c stay.opened same trees names added regions gone.2.units (step_root f i.item gone.2.layout gone.2.stands gone.2.units) gone.2.libraries),
            counts_more all_known old b c unit form left.0 can.state can.notes d.so_far.trace k start total before_it after trace next items f i.item trees e gone,
          )

  pub item_ready : CanFinish old unit form d → (i : Item Identifier) × ItemFor b.work b.region b.scope.unit form x i
  item_ready can =
      let l = left_of old.work old.region unit form can.state d can.result can.form_is none in
      let i = item_is all_known can.state can.notes l.0 l.1 (so all_known can.layout can.state can.notes l.0 all_there can.stands can.number l.1) in (i.item, i.stands)

-- ---- all items of a form, or as many as are expanded before work on the unit ends

module _ (old b : Bench) (unit form : ℕ) (d : code.Declared) (none : d.so_far.fault ≡ None) (k start total : ℕ) (budget : Budget) (trace : Trace) (items : List ExpandedItem) (so : Continues old b unit form d k start total budget trace items) where
  pub finishes_by : (nat_lt max_total total ≡ false → length d.left.items ≤ k) → (from to : ℕ) → to + d.so_far.budget.uses ≡ from + budget.uses → Finished old b unit form d start total from to budget (record { items = items; trace = trace; fault = None })
  finishes_by all from to steps known ls s notes (Err e) knows stands own h = no_fault old.work old.region unit form s d e h none
  finishes_by all from to steps known ls s notes (Ok l) knows stands own h =
      form_finished old b known unit form l s notes d.so_far.trace k start total budget trace items (so known ls s notes l knows stands own h)
      (λ few.
      let long = matched_length (ItemFor old.work old.region unit form) d.left.items l.items (set_aside_of old.work old.region unit form s d l h none).1 in
      let there = all few in
      dropped_behind l.items k (omega (arith, there, long)))
      from to (ap (λ n. to + n) (sym h.counts.uses) ∙ steps)

  pub notes_by : length d.left.items ≤ k → NotesRest old b unit form d (record { items = items; trace = trace; fault = None })
  notes_by all known ls s notes l editions ms knows stands own h can =
      let f = so known ls s notes l knows stands own h in
      let long = matched_length (ItemFor old.work old.region unit form) d.left.items l.items (set_aside_of old.work old.region unit form s d l h none).1 in
      notes_end known form l notes editions ms s b.work b.scope.macros k f.state trace (f.noted editions ms can) (dropped_behind l.items k (omega (arith, all, long)))

  pub tells_by : TellsStill old b unit form d
  tells_by ls s notes (Err e) editions ms stands own h may = no_fault old.work old.region unit form s d e h none
  tells_by ls s notes (Ok l) editions ms stands own h may =
      let known = known_by old.scope.libraries in
      let f = so known ls s notes l (λ n _. refl) stands own h in
      tell_before b.work.symbols b.scope.macros f.state s editions (f.number ∙ sym own) f.macros
      (told_now known form l notes editions ms s b.work b.scope.macros k f.state trace (f.noted editions ms (can_note_left old form s d.so_far.trace editions ms l may)))

  -- what a loop over the items knows of the scopes
  pub can_go_on : CanFinish old unit form d → CanDeclare b.work b.scope form budget trace
  can_go_on can =
      let l = left_of old.work old.region unit form can.state d can.result can.form_is none in
      let h = so (known_by old.scope.libraries) can.layout can.state can.notes l.0 (λ n _. refl) can.stands can.number l.1 in
      record { layout = h.layout; state = h.state; notes = can.notes; stands = h.stands; counts = h.counts }

-- a form that set nothing aside has no item
pub none_there : {P : Type 0} (xs ys : List code_item.Item) → xs ≡ ys → ys ≡ [] → (k : ℕ) → k < length xs → P
none_there xs ys same none k low = absurd (let long : length xs ≡ 0 = ap (λ (zs : List code_item.Item). length zs) (same ∙ none) in omega (arith, low, long))
