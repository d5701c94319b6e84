-- How steps of forms that are gone through follow one another: what was left, where forms are gone through, and spliced forms.
use Rattle.std.proofs.Common.{◌≡◌, ℕ, zero, suc, drop, get_or, ◌+◌, ◌*◌, ◌-◌, ◌<◌, ◌≤◌, List, [], ◌∷◌, ◌++◌, length, map, reverse, slice_get, Bool, true, false, Some, Result, Ok, Err, refl, sym, ap, ◌∙◌, subst, arith}
use Rattle.std.proofs.lemmas.List.{reverse-append}
use Rattle.std.proofs.lemmas.Option.{slice_get_within}
use Rattle.std.proofs.lemmas.Grind.{reverse_onto}
use Rattle.std.specs.Option.{option_and_then}
use Rattle.std.specs.FinMap.{get}
use Rattle.std.specs.Result.{IsErrAnd}
use Rattle.scheme_model.specs.Trees.{Trees, no_trees, tree}
use Rattle.scheme_model.specs.Measures.{trees_size}
use Rattle.scheme_model.specs.ExpansionFaults.{NodeBudget, Fault}
use Rattle.scheme_model.specs.Ident.{Ident as Identifier}
use Rattle.scheme_model.specs.Requirements.{Known}
use Rattle.scheme_model.specs.Steps.{Broken, done}
use Rattle.scheme_model.specs.Order.{Here, Form, Note, LookedUp, Compared, Pending, Pass, Going, first, forms_at, caught, read_then, splice}
use Rattle.scheme_model.specs.ScopedExpansion.{Frames, FramedIdent}
use Rattle.syntax_tree.specs.Names.{KeepsNames, AreToldApart}
use Rattle.syntax_tree.specs.Looks.{PartsStand, AllNamed}
use Rattle.syntax_tree.specs.declared.trees.Work.{Work}
use Rattle.syntax_tree.specs.declared.trees.nodes.Tree as number
use Rattle.syntax_tree.specs.declared.trees.table.Region.{Region}
use Rattle.scope_env.specs.Environment.{Scope}
use Rattle.scope_env.specs.Standing.{bound_by}
use Rattle.core_tree.specs.Names.{AllMatch}
use Rattle.unit_scopes.specs.Asks.{AreWithin, AskedStands}
use Rattle.unit_scopes.specs.Chains.{body_chain}
use Rattle.unit_scopes.specs.Counts.{with_nodes, Counts}
use Rattle.form_parts.specs.FormsSeen.{form_at}
use Rattle.unit_scopes.specs.Told.{Tells}
use Rattle.unit_scopes.specs.Kept.{FormFor, KeptFor, PendingFor, NoteFor, NotesFor, IsIn, forms_size, left_with, WaitsFor}
use Rattle.expander.specs.Passed.{GoesOn}
use Rattle.unit_scopes.specs.Used.{ComparisonFor, note_of}
use Rattle.unit_scopes.specs.declared.asked.Asked.{Asked}
use Rattle.unit_scopes.specs.declared.asked.Note as code_note
use Rattle.feature_requirements.specs.declared.fault.ExpandFault.{ExpandFault}
use Rattle.feature_requirements.specs.declared.fault.ExpandFault.TheVariants as fault
use Rattle.form_parts.specs.declared.items.Form as code_form
use Rattle.form_parts.specs.declared.items.Kept as code_kept
use Rattle.form_parts.specs.declared.items.Pending as code_pending
use Rattle.form_parts.specs.declared.items.Spot.{Spot}
use Rattle.form_parts.specs.declared.items.WaitingUse as code_waiting
use Rattle.unit_scopes.specs.declared.scope.UnitScope.{UnitScope}
use Rattle.unit_scopes.specs.declared.uses.Comparison.{Comparison}
use Rattle.unit_scopes.proofs.BodyScopes.{binds_on}
use Rattle.unit_scopes.proofs.CountingStands.{all_last}
use Rattle.unit_scopes.proofs.DefineLaws.{is_in_on}
use Rattle.unit_scopes.proofs.NodeLaws.{plain_is}
use Rattle.expander.proofs.FormRows.{todo_stands}
use Rattle.expander.proofs.PassSteps.{fault_same}
use Rattle.noted_steps.specs.Noting.{Noting, state_of, noting}
use Rattle.noted_steps.proofs.NoteLaws.{plainly}
use Rattle.noted_steps.specs.Standing.{Stands}
use Rattle.noted_steps.specs.Stepped.{spent}
use Rattle.noted_steps.specs.Outcomes.{Stays}
use Rattle.noted_steps.proofs.NodeLaws.{spends, counting_goes, counting_fails}
use Rattle.noted_steps.proofs.OutcomeLaws.{stays_itself, stays_on, moves_here, leaves_on, fills_on}
use Rattle.noted_steps.specs.Kept.{SpotFor}

-- ---- where forms are gone through

pub spot_same : (work : Work) (u v : UnitScope) (ls : List Frames) (s t : Noting) (spot : Spot) (fs : Frames) → v.env ≡ u.env → v.root ≡ u.root → t.definitions ≡ s.definitions → SpotFor work u ls s spot fs → SpotFor work v ls t spot fs
spot_same work u v ls s t spot fs env root same h = record { at = h.at; inside = is_in_on work ls spot.scope fs u v (state_of s) (state_of t) spot.in_body env root same h.inside }

-- over names that have grown
pub spot_on : (old new : Work) (u v : UnitScope) (ls : List Frames) (s t : Noting) (spot : Spot) (fs : Frames) → KeepsNames old.symbols new.symbols → AreToldApart new.symbols.idents → Stands old u ls s →
    v.env.scopes ≡ u.env.scopes → v.root ≡ u.root → t.definitions ≡ s.definitions → SpotFor old u ls s spot fs → SpotFor new v ls t spot fs
spot_on old new u v ls s t spot fs keeps apart e scopes root same h = record { at = h.at; inside = by spot.in_body h.inside }
  where
    by : (b : Bool) → IsIn old u ls (state_of s) spot.scope fs b → IsIn new v ls (state_of t) spot.scope fs b
    by true i = record {
      body = i.body;
      outer = i.outer;
      opened = i.opened;
      frames = i.frames;
      binds = λ n.
          ap (λ (xs : List Scope). option_and_then (λ (x : Scope). get x.bound n) (slice_get xs spot.scope)) scopes
          ∙ (binds_on old new u ls (state_of s) spot.scope i.body i.opened.uses i.outer keeps apart (h.at ∙ ap Some i.frames) (plainly old u ls s e) i.binds n
          ∙ ap (λ ds. bound_by new.symbols (body_chain ds i.body) n) (sym same));
    }
    by false i = (i.0 ∙ sym root, i.1)

-- ---- notes

-- one note more
pub one_noted : (work : Work) (ls : List Frames) (old new : Asked) (note : code_note.Note) (q : Note FramedIdent) (ns : List (Note FramedIdent)) → new.notes.items ≡ old.notes.items ++ note ∷ [] → AskedStands work.symbols new → NoteFor work ls note q →
    NotesFor work ls old ns → NotesFor work ls new (q ∷ ns)
one_noted work ls old new note q ns items stands is h = record {
  notes = subst (λ (xs : List code_note.Note). AllMatch (NoteFor work ls) xs (reverse (q ∷ ns))) (sym items)
      (subst (AllMatch (NoteFor work ls) (old.notes.items ++ note ∷ [])) (sym (reverse_onto ns q [])) (all_last (NoteFor work ls) old.notes.items (reverse ns) note q h.notes is));
  asks = stands;
}

-- ---- steps that follow one another

module _ (region : Region) (ls : List Frames) (spot : Spot) (fs : Frames) (before : List (Form Identifier)) (given : ℕ) (todo : code_pending.Pending) (asked : Asked) where
  -- a step that is another, whatever goes on behind it
  pub goes_so : (old new : Work) (u v : UnitScope) (result : Result (Unit {0}) ExpandFault) (f g : Going Identifier FramedIdent Noting → Pass Identifier FramedIdent × Noting) → ((go : Going Identifier FramedIdent Noting) → f go ≡ g go) →
      GoesOn old new region u v ls spot fs before given todo asked result g → GoesOn old new region u v ls spot fs before given todo asked result f
  goes_so old new u v result f g same h = subst (λ (x : Going Identifier FramedIdent Noting → Pass Identifier FramedIdent × Noting). GoesOn old new region u v ls spot fs before given todo asked result x) (λ i go. sym (same go) i) h

  -- behind what counts no use and takes no local
  pub goes_after : (a b c : Work) (u w v : UnitScope) (s : Noting) (result : Result (Unit {0}) ExpandFault) (f : Going Identifier FramedIdent Noting → Pass Identifier FramedIdent × Noting) → Stays a b region u w ls s →
      w.form.budget.uses ≡ u.form.budget.uses → w.form.budget.locals ≡ u.form.budget.locals → GoesOn b c region w v ls spot fs before given todo asked result f → GoesOn a c region u v ls spot fs before given todo asked result f
  goes_after a b c u w v s (Ok done) f m uses locals h =
      let r = h.2 in (
        h.0,
        h.1,
        record {
          stays = stays_on a b c region u w v ls s h.1 m r.stays;
          placed = r.placed;
          pending = r.pending;
          notes = r.notes;
          less = subst (λ (n : ℕ). left_with h.0.todo v.form.budget.uses < left_with before n + given) uses r.less;
          locals = subst (λ (n : ℕ). v.form.budget.locals + left_with h.0.todo v.form.budget.uses ≤ n + left_with before u.form.budget.uses + given) locals
              (subst (λ (n : ℕ). v.form.budget.locals + left_with h.0.todo v.form.budget.uses ≤ w.form.budget.locals + left_with before n + given) uses r.locals);
        },
        h.3,
      )
  goes_after a b c u w v s (Err (fault.At e)) f m uses locals h =
      (h.0, h.1, h.2, record { stays = stays_on a b c region u w v ls s h.2 m h.3.stays; placed = h.3.placed; notes = h.3.notes }, h.4, h.5)
  goes_after a b c u w v s (Err fault.Full) f m uses locals h =
      (leaves_on a b c region u w ls s (moves_here a b region u w ls s m) h.0, fills_on a b region u w ls s (moves_here a b region u w ls s m) h.1)
  goes_after a b c u w v s (Err fault.Memory) f m uses locals h = leaves_on a b c region u w ls s (moves_here a b region u w ls s m) h

  -- a fault that is handed on
  pub goes_err : (old new : Work) (u v : UnitScope) (result : Result (Unit {0}) ExpandFault) (e : ExpandFault) (f : Going Identifier FramedIdent Noting → Pass Identifier FramedIdent × Noting) → IsErrAnd result (λ x. x ≡ e) →
      GoesOn old new region u v ls spot fs before given todo asked (Err e) f → GoesOn old new region u v ls spot fs before given todo asked result f
  goes_err old new u v (Ok done) e f is h = absurd is
  goes_err old new u v (Err x) e f is h = subst (λ (y : ExpandFault). GoesOn old new region u v ls spot fs before given todo asked (Err y) f) (sym is) h

  -- a shape that was misread
  abbrev broken_pass : List (Note FramedIdent) → Here → Noting → Fault Identifier → Pass Identifier FramedIdent × Noting
  broken_pass ns at t x = (record { notes = ns; left = Err (record { fault = x; here = at }) }, t)

  pub goes_misread : {B : Type 0} (known : Known) (work : Work) (u : UnitScope) (s : Noting) (here : Here) (e : ExpandFault) (r : Result B (Fault Identifier)) (p : Pending Identifier FramedIdent)
      (next : Going Identifier FramedIdent Noting → B → Noting → Pass Identifier FramedIdent × Noting) → u.form.budget.nodes ≤ 200000 → Stands work u ls s → SpotFor work u ls s spot fs → NotesFor work ls asked p.notes →
      Tells work.symbols here e r → GoesOn work work region u u ls spot fs before given todo asked (Err e) (λ go. read_then (noting known) here p r (next go) s)
  goes_misread {B} known work u s here (fault.At e) r p next few stands placed notes h =
      let b : Broken = record { fault = h.0; here = here } in (
        p.notes,
        b,
        s,
        record { stays = stays_itself work region u ls s stands; placed = placed; notes = notes },
        h.2,
        λ go. ap (λ (x : Result B (Fault Identifier)). read_then (noting known) here p x (next go) s) h.1 ∙ ap (broken_pass p.notes here s) (fault_same h.0),
      )
  goes_misread known work u s here fault.Full r p next few stands placed notes h = absurd h
  goes_misread known work u s here fault.Memory r p next few stands placed notes h = record { work = (stays_itself work region u ls s stands).work; few = omega (arith, few) }

-- ---- forms put first

forms_added : (here : Here) (ts : Trees Identifier) (fs : List (Form Identifier)) → forms_size (forms_at here ts ++ fs) ≡ trees_size ts + forms_size fs
forms_added here no_trees fs = omega arith
forms_added here (tree t ts) fs = let h = forms_added here ts fs in omega (arith, h)

all_both : {X Y : Type 0} (P : X → Y → Type 0) (xs zs : List X) (ys ws : List Y) → AllMatch P xs ys → AllMatch P zs ws → AllMatch P (xs ++ zs) (ys ++ ws)
all_both P [] zs [] ws h g = g
all_both P [] zs (y ∷ ys) ws h g = absurd h
all_both P (x ∷ xs) zs [] ws h g = absurd h
all_both P (x ∷ xs) zs (y ∷ ys) ws h g = (h.0, all_both P xs zs ys ws h.1 g)

-- the code's list has the last form first
todo_first : (work : Work) (region : Region) (here : Here) (ns : List number.Tree) (ts : Trees Identifier) (old new : List code_form.Form) (fs : List (Form Identifier)) → PartsStand work ns ts → AllNamed work region ns → new ≡ old ++ map (form_at here) (reverse ns) →
    AllMatch (FormFor work region) (reverse old) fs → AllMatch (FormFor work region) (reverse new) (forms_at here ts ++ fs)
todo_first work region here ns ts old new fs h named is rest =
    let added = map (form_at here) (reverse ns) in
    subst (λ (xs : List code_form.Form). AllMatch (FormFor work region) xs (forms_at here ts ++ fs)) (sym (ap reverse is ∙ reverse-append old added))
    (all_both (FormFor work region) (reverse added) (reverse old) (forms_at here ts) fs (todo_stands work region here ns ts added refl h named) rest)

-- ---- spliced forms

less_spliced : (a b c k given : ℕ) → a ≡ b + c → b < given → a + k < c + k + given
less_spliced a b c k given is less = omega (arith, is, less)

locals_spliced : (l a b c k given : ℕ) → a ≡ b + c → b < given → l + (a + k) ≤ l + (c + k) + given
locals_spliced l a b c k given is less = omega (arith, is, less)

module _ (known : Known) (work : Work) (region : Region) (u v : UnitScope) (ls : List Frames) (s : Noting) (spot : Spot) (fs : Frames) (asked : Asked) (here : Here) (ns : List number.Tree) (ts : Trees Identifier) (p : Pending Identifier FramedIdent) (given : ℕ) (old new : code_pending.Pending)
    (e : Stands work u ls s) (placed : SpotFor work u ls s spot fs) (notes : NotesFor work ls asked p.notes) where
  pub splice_goes : PartsStand work ns ts → AllNamed work region ns → PendingFor work region u.unit u.form.number old p → trees_size ts < given → Counts u v here 1 (Ok tt) → new.todo.items ≡ old.todo.items ++ map (form_at here) (reverse ns) →
      (new.aside.items ≡ old.aside.items) × (new.uses.items ≡ old.uses.items) → GoesOn work work region u v ls spot fs p.todo given new asked (Ok tt) (λ go. splice (noting known) go here p ts s)
  splice_goes stand named pending less counts todo aside =
      subst (λ (w : UnitScope). GoesOn work work region u w ls spot fs p.todo given new asked (Ok tt) (λ go. splice (noting known) go here p ts s)) (sym counts.1)
      (let w = with_nodes u 1 in
      let q = first (forms_at here ts) p in
      let t = spent 1 s in
      let size = forms_added here ts p.todo in (
        q,
        t,
        record {
          stays = spends work region u ls s 1 counts.0 e;
          placed = spot_same work u w ls s t spot fs refl refl refl placed;
          pending = record {
            todo = todo_first work region here ns ts old.todo.items new.todo.items p.todo stand named todo pending.todo;
            aside = subst (λ (xs : List code_kept.Kept). AllMatch (KeptFor work region u.unit u.form.number) xs p.aside) (sym aside.0) pending.aside;
            uses = subst (λ (xs : List code_waiting.WaitingUse). AllMatch (WaitsFor work u.unit u.form.number) xs p.uses) (sym aside.1) pending.uses;
          };
          notes = notes;
          less = less_spliced (forms_size (forms_at here ts ++ p.todo)) (trees_size ts) (forms_size p.todo) (4194305 * (10000 - u.form.budget.uses)) given size less;
          locals = locals_spliced u.form.budget.locals (forms_size (forms_at here ts ++ p.todo)) (trees_size ts) (forms_size p.todo) (4194305 * (10000 - u.form.budget.uses)) given size less;
        },
        λ go. ap (λ (x : Result (Unit {0}) Broken × Noting). caught p.notes x (λ done. go q)) (counting_goes known work region u ls s here 1 e counts.0),
      ))

  pub splice_fails : (x : ExpandFault) → Counts u v here 1 (Err x) → GoesOn work work region u v ls spot fs p.todo given new asked (Err x) (λ go. splice (noting known) go here p ts s)
  splice_fails x counts =
      let q = first (forms_at here ts) p in
      let b : Broken = record { fault = NodeBudget; here = here } in
      subst (λ (w : UnitScope). GoesOn work work region u w ls spot fs p.todo given new asked (Err x) (λ go. splice (noting known) go here p ts s)) (sym counts.1)
      (subst (λ (y : ExpandFault). GoesOn work work region u u ls spot fs p.todo given new asked (Err y) (λ go. splice (noting known) go here p ts s)) (sym counts.2) (
        p.notes,
        b,
        s,
        record { stays = stays_itself work region u ls s e; placed = placed; notes = notes },
        plain_is work.symbols here NodeBudget refl refl,
        λ go. ap (λ (x : Result (Unit {0}) Broken × Noting). caught p.notes x (λ done. go q)) (counting_fails known work region u ls s here 1 e counts.0),
      ))

-- ---- comparisons that are noted

pub record Pair {X Y : Type 0} (P : X → Y → Type 0) (ys : List Y) (k : ℕ) (x : X) : Type 0 where
  pub other : Y
  pub held : P x other
  pub split : drop k ys ≡ other ∷ drop (k + 1) ys

pub pair_there : {X Y : Type 0} (P : X → Y → Type 0) (xs : List X) (ys : List Y) (k : ℕ) (d : X) → AllMatch P xs ys → k < length xs → Pair P ys k (get_or xs k d)
pair_there P [] ys k d h l = absurd (omega (arith, l))
pair_there P (x ∷ xs) [] k d h l = absurd h
pair_there P (x ∷ xs) (y ∷ ys) zero d h l = record { other = y; held = h.0; split = refl }
pair_there P (x ∷ xs) (y ∷ ys) (suc k) d h l =
    let q = pair_there P xs ys k d h.1 (omega (arith, l)) in
    let more : suc (k + 1) ≡ suc k + 1 = omega arith in
    record { other = q.other; held = q.held; split = q.split ∙ ap (λ (i : ℕ). q.other ∷ drop i (y ∷ ys)) more }

pub pairs_past : {X Y : Type 0} (P : X → Y → Type 0) (xs : List X) (ys : List Y) (k : ℕ) → AllMatch P xs ys → length xs ≤ k → drop k ys ≡ []
pairs_past P [] [] zero h l = refl
pairs_past P [] [] (suc k) h l = refl
pairs_past P [] (y ∷ ys) k h l = absurd h
pairs_past P (x ∷ xs) [] k h l = absurd h
pairs_past P (x ∷ xs) (y ∷ ys) zero h l = absurd (omega (arith, l))
pairs_past P (x ∷ xs) (y ∷ ys) (suc k) h l = pairs_past P xs ys k h.1 (omega (arith, l))

module _ (work : Work) (ls : List Frames) (literal_scope scope : ℕ) where
  comparison_within : (c : Comparison) (n : Note FramedIdent) → ComparisonFor work ls literal_scope scope c n → AreWithin work.symbols (c.pair.literal ∷ c.pair.ident ∷ [])
  comparison_within c (LookedUp p head keyword) h = absurd h
  comparison_within c (Compared p q held) h =
      (slice_get_within work.symbols.idents c.pair.literal p.ident h.0.1, (slice_get_within work.symbols.idents c.pair.ident q.ident h.1.1, tt))

  module _ (cs : List Comparison) (qs : List (Note FramedIdent)) (are : AllMatch (ComparisonFor work ls literal_scope scope) cs qs) where
    pub within_here : (k : ℕ) (d : Comparison) → k < length cs → AreWithin work.symbols ((get_or cs k d).pair.literal ∷ (get_or cs k d).pair.ident ∷ [])
    within_here k d l = let q = pair_there (ComparisonFor work ls literal_scope scope) cs qs k d are l in comparison_within (get_or cs k d) q.other q.held

    pub noted_more : (ns : List (Note FramedIdent)) (k left : ℕ) (d : Comparison) (old new : Asked) → left ≡ k + 1 → left ≤ length cs → new.notes.items ≡ old.notes.items ++ note_of literal_scope scope (get_or cs k d) ∷ [] → AskedStands work.symbols new →
        NotesFor work ls old (drop left qs ++ ns) → NotesFor work ls new (drop k qs ++ ns)
    noted_more ns k left d old new next within items stands h =
        let q = pair_there (ComparisonFor work ls literal_scope scope) cs qs k d are (omega (arith, next, within)) in
        let split : drop k qs ≡ q.other ∷ drop left qs = q.split ∙ ap (λ (i : ℕ). q.other ∷ drop i qs) (sym next) in
        subst (λ (l : List (Note FramedIdent)). NotesFor work ls new (l ++ ns)) (sym split)
        (one_noted work ls old new (note_of literal_scope scope (get_or cs k d)) q.other (drop left qs ++ ns) items stands q.held h)

    pub none_noted : (ns : List (Note FramedIdent)) (k : ℕ) (asked : Asked) → length cs ≤ k → NotesFor work ls asked ns → NotesFor work ls asked (drop k qs ++ ns)
    none_noted ns k asked past h = subst (λ (l : List (Note FramedIdent)). NotesFor work ls asked (l ++ ns)) (sym (pairs_past (ComparisonFor work ls literal_scope scope) cs qs k are past)) h
