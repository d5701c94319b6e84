-- A body that is entered and gone through: its scope, and what was set aside.
use Rattle.std.proofs.Common.{◌≡◌, ℕ, ◌+◌, ◌*◌, ◌-◌, ◌^◌, ◌<◌, ◌≤◌, List, [], ◌∷◌, ◌++◌, length, map, reverse, true, Result, Ok, Err, refl, sym, ap, subst, arith}
use Rattle.scheme_model.specs.Trees.{Trees, no_trees, tree}
use Rattle.scheme_model.specs.Measures.{tree_size, trees_size}
use Rattle.scheme_model.specs.Ident.{Ident as Identifier}
use Rattle.scheme_model.specs.Requirements.{Known}
use Rattle.scheme_model.specs.Steps.{Broken, Step, ◌>>=◌, done}
use Rattle.scheme_model.specs.Order.{Here, Item, WaitingUse, Left, Pending, Pass, meet_all, forms_at, run}
use Rattle.scheme_model.specs.Expression.{left_of}
use Rattle.scheme_model.specs.ScopedExpansion.{Frames, FramedIdent}
use Rattle.syntax_tree.specs.Looks.{PartsStand, AllNamed}
use Rattle.syntax_tree.specs.declared.trees.Work.{Work}
use Rattle.syntax_tree.specs.declared.trees.nodes.Tree as number
use Rattle.syntax_tree.specs.declared.trees.table.Region.{Region}
use Rattle.syntax_tree.proofs.Places.{get_front, get_next}
use Rattle.scope_env.specs.Environment.{IsSound, with_child}
use Rattle.core_tree.specs.Names.{AllMatch}
use Rattle.unit_scopes.specs.Asks.{AskedStands}
use Rattle.expander.specs.Bodies.{BodyFor, body_pass}
use Rattle.feature_requirements.specs.Judged.{Knows}
use Rattle.unit_scopes.specs.State.{most_locals}
use Rattle.form_parts.specs.FormsSeen.{form_at}
use Rattle.unit_scopes.specs.Kept.{KeptFor, WaitsFor, PendingFor, NoteFor, NotesFor, forms_size, left_with}
use Rattle.unit_scopes.specs.Outcomes.{At, Leaves}
use Rattle.expander.specs.Passed.{CanPass, Passes}
use Rattle.unit_scopes.specs.declared.asked.Asked.{Asked}
use Rattle.unit_scopes.specs.declared.asked.Note as code_note
use Rattle.feature_requirements.specs.declared.fault.ExpandFault.{ExpandFault}
use Rattle.feature_requirements.specs.declared.fault.ExpandFault.TheVariants as fault
use Rattle.form_parts.specs.declared.items.Kept as code_kept
use Rattle.form_parts.specs.declared.items.Pending as code_pending
use Rattle.form_parts.specs.declared.items.Spot.{Spot}
use Rattle.form_parts.specs.declared.items.WaitingUse as code_waiting
use Rattle.unit_scopes.specs.declared.scope.UnitScope.{UnitScope}
use Rattle.noted_steps.proofs.BodiesStand.{body_stands, new_binds}
use Rattle.unit_scopes.proofs.BodiesStand.{body_opens}
use Rattle.noted_steps.proofs.NoteLaws.{plainly}
use Rattle.noted_steps.proofs.UsesMet.{MeetsAlone, met_stays, left_behind}
use Rattle.expander.proofs.FormRows.{todo_stands}
use Rattle.unit_scopes.proofs.OutcomeLaws.{grows_itself, numbers_stay}
use Rattle.noted_steps.specs.Noting.{Noting, state_of, next_number, noting}
use Rattle.noted_steps.specs.Standing.{Stands}
use Rattle.noted_steps.specs.Stepped.{entered, entered_frames}
use Rattle.noted_steps.specs.Outcomes.{Stays, Moves, Ends}
use Rattle.noted_steps.proofs.OutcomeLaws.{stays_on, leaves_on, fills_on}
use Rattle.noted_steps.specs.Kept.{SpotFor}
use Rattle.noted_steps.specs.Kept.{CanLook}

forms_of_size : (here : Here) (ts : Trees Identifier) → forms_size (forms_at here ts) ≡ trees_size ts
forms_of_size here no_trees = refl
forms_of_size here (tree t ts) = ap (λ (n : ℕ). tree_size t + n) (forms_of_size here ts)

-- what is gone through in a body comes to its end within so many turns, and takes so few locals
few_left : (n uses size : ℕ) → n ≡ size → size ≤ 4194304 → n + 4194305 * (10000 - uses) < 2 ^ 38
few_left n uses size is small = omega (arith, is, small)

below_turns : (n turns : ℕ) → n < 2 ^ 38 → 2 ^ 39 ≤ turns → n < turns
below_turns n turns few enough = omega (arith, few, enough)

room_inside : (locals n most : ℕ) → n < 2 ^ 38 → locals + 2 ^ 42 ≤ most → locals + n + 0 ≤ most
room_inside locals n most few room = omega (arith, few, room)

few_locals : (v w u n : ℕ) → v ≤ w + n → w ≡ u → n < 2 ^ 38 → v ≤ u + 2 ^ 38
few_locals v w u n h same few = omega (arith, h, same, few)

module _ (work : Work) (region : Region) (u w : UnitScope) (scope inner : ℕ) (here : Here) (ns : List number.Tree) (ts : Trees Identifier) (todo : code_pending.Pending) (asked : Asked)
    (child : w ≡ record u { env = with_child u.env scope }) (newest : inner ≡ length u.env.scopes) (sound : IsSound u.env) (none : asked.notes.items ≡ []) (asks : AskedStands work.symbols asked)
    (forms : todo.todo.items ≡ map (form_at here) (reverse ns)) (aside : (todo.aside.items ≡ []) × (todo.uses.items ≡ [])) (stand : PartsStand work ns ts) (named : AllNamed work region ns) (small : trees_size ts ≤ 4194304) where
  abbrev spot : Spot
  spot = record { scope = inner; in_body = true }

  abbrev start : Pending Identifier FramedIdent
  start = record { todo = forms_at here ts; aside = []; uses = []; notes = [] }

  module _ (ls : List Frames) (s : Noting) (fs : Frames) (at : At ls scope fs) (e : Stands work u ls s) where
    abbrev inside : List Frames
    inside = ls ++ entered_frames s fs ∷ []

    abbrev opened : UnitScope
    opened = record u { env = with_child u.env scope }

    body_stays : Stays work work region u opened inside (entered s)
    body_stays = record {
      stands = body_stands work u ls s scope fs sound at e;
      work = grows_itself work region;
      counted = omega arith;
      same = record { unit = refl; number = refl; root = refl; libraries = refl; roots = refl; uses = omega arith; nodes = omega arith; numbers = numbers_stay u opened refl refl };
    }

    inside_stands : Stands work w inside (entered s)
    inside_stands = subst (λ (x : UnitScope). Stands work x inside (entered s)) (sym child) body_stays.stands

    spot_here : SpotFor work opened inside (entered s) (record { scope = length u.env.scopes; in_body = true }) (entered_frames s fs)
    unfolding body_opens
    spot_here = record {
      at = subst (λ (n : ℕ). At inside n (entered_frames s fs)) e.env.count (get_next ls [] (entered_frames s fs));
      inside = record {
        body = next_number s s.bodies;
        outer = fs;
        opened = body_opens work u ls (state_of s) scope fs at (plainly work u ls s e);
        frames = refl;
        binds = new_binds work u ls s scope e;
      };
    }

    spot_inside : SpotFor work w inside (entered s) spot (entered_frames s fs)
    spot_inside =
        subst (λ (n : ℕ). SpotFor work w inside (entered s) (record { scope = n; in_body = true }) (entered_frames s fs)) (sym newest)
        (subst (λ (x : UnitScope). SpotFor work x inside (entered s) (record { scope = length u.env.scopes; in_body = true }) (entered_frames s fs)) (sym child) spot_here)

    pending_inside : PendingFor work region w.unit w.form.number todo start
    pending_inside = record {
      todo = todo_stands work region here ns ts todo.todo.items forms stand named;
      aside = subst (λ (xs : List code_kept.Kept). AllMatch (KeptFor work region w.unit w.form.number) xs []) (sym aside.0) tt;
      uses = subst (λ (xs : List code_waiting.WaitingUse). AllMatch (WaitsFor work w.unit w.form.number) xs []) (sym aside.1) tt;
    }

    notes_inside : NotesFor work inside asked []
    notes_inside = record { notes = subst (λ (xs : List code_note.Note). AllMatch (NoteFor work inside) xs []) (sym none) tt; asks = asks }

    left_inside : left_with start.todo w.form.budget.uses < 2 ^ 38
    left_inside = few_left (forms_size (forms_at here ts)) w.form.budget.uses (trees_size ts) (forms_of_size here ts) small

    turns_inside : (turns : ℕ) → 2 ^ 39 ≤ turns → left_with start.todo w.form.budget.uses < turns
    turns_inside turns enough = below_turns (left_with start.todo w.form.budget.uses) turns left_inside enough

    pub can_pass_inside : u.form.budget.locals + 2 ^ 42 ≤ most_locals u.form.budget.nodes → CanPass work region w spot 0 todo asked
    can_pass_inside room = record {
      layout = inside;
      state = entered s;
      frames = entered_frames s fs;
      left = start;
      stands = inside_stands;
      placed = spot_inside;
      pending = pending_inside;
      notes = notes_inside;
      room = subst (λ (x : UnitScope). x.form.budget.locals + left_with start.todo x.form.budget.uses + 0 ≤ most_locals x.form.budget.nodes) (sym child)
          (room_inside u.form.budget.locals (left_with start.todo u.form.budget.uses) (most_locals u.form.budget.nodes) (few_left (forms_size (forms_at here ts)) u.form.budget.uses (trees_size ts) (forms_of_size here ts) small) room);
    }

    moves_inside : (new : Work) (v : UnitScope) (t : Noting) → Stays work new region w v inside t → Moves work new region u v ls t
    moves_inside new v t h = record {
      layout = inside;
      kept = λ n gs there. get_front ls (entered_frames s fs ∷ []) n gs there;
      stays = stays_on work work new region u opened v inside (entered s) t body_stays (subst (λ (x : UnitScope). Stays work new region x v inside t) child h);
    }

    moves_in : Moves work work region u opened ls (entered s)
    moves_in = record { layout = inside; kept = λ n gs there. get_front ls (entered_frames s fs ∷ []) n gs there; stays = body_stays }

    module _ (known : Known) (turns : ℕ) (new : Work) (v : UnitScope) where
      abbrev went : Pass Identifier FramedIdent × Noting
      went = run (noting known) turns (entered_frames s fs) start (entered s)

      abbrev Went : (last : code_pending.Pending) (asked2 : Asked) → Result (Unit {0}) ExpandFault → Type 0
      Went last asked2 result = Passes work new region w v inside spot (entered_frames s fs) (left_with start.todo w.form.budget.uses) last asked2 result went

      -- what the pass says of these forms
      pub pass_inside : (last : code_pending.Pending) (asked2 : Asked) (result : Result (Unit {0}) ExpandFault) → Knows u.libraries known → 2 ^ 39 ≤ turns →
          ((known : Known) (ls : List Frames) (s : Noting) (fs : Frames) (p : Pending Identifier FramedIdent) (turns : ℕ) → Knows u.libraries known → Stands work w ls s → SpotFor work w ls s spot fs → PendingFor work region w.unit w.form.number todo p →
          NotesFor work ls asked p.notes → left_with p.todo w.form.budget.uses < turns → Passes work new region w v ls spot fs (left_with p.todo w.form.budget.uses) last asked2 result (run (noting known) turns fs p s)) →
          Went last asked2 result
      pass_inside last asked2 result knows enough passes = passes known inside (entered s) (entered_frames s fs) start turns knows inside_stands spot_inside pending_inside notes_inside (turns_inside turns enough)

      abbrev meeting : Left Identifier → Step Noting (Frames × List (Item Identifier))
      meeting l t = done (entered_frames s fs, l.items) (meet_all (noting known) (entered_frames s fs) l.uses t)

      -- its macro uses can be met
      pub can_meet : (last : code_pending.Pending) (asked2 : Asked) → Went last asked2 (Ok tt) → CanLook new v inner
      can_meet last asked2 h = record { layout = inside; state = went.1; frames = entered_frames s fs; stands = h.2.stays.stands; at = h.2.placed.at }

      pub body_ends : (last : code_pending.Pending) (asked2 : Asked) (h : Went last asked2 (Ok tt)) (x : UnitScope) → MeetsAlone v x → ((known : Known) (ls : List Frames) (s : Noting) (fs : Frames) (us : List (WaitingUse Identifier)) → Stands new v ls s → At ls inner fs →
          AllMatch (WaitsFor new v.unit v.form.number) last.uses.items us → Stands new x ls (meet_all (noting known) fs us s)) →
          Ends (BodyFor new region x.unit x.form.number) work new region u x ls (Ok (inner, last.aside)) (body_pass turns here ts known fs s)
      unfolding moves_inside
      body_ends last asked2 h x same meets =
          let t = meet_all (noting known) (entered_frames s fs) h.0.uses went.1 in
          let met = meets known inside went.1 (entered_frames s fs) h.0.uses h.2.stays.stands h.2.placed.at h.3.uses in
          let end : (left_of went >>= meeting) ≡ (Ok (entered_frames s fs, h.0.items), t) = ap (λ (r : Result (Left Identifier) Broken). (r, went.1) >>= meeting) h.1 in
          let stays = met_stays work new region w v x inside went.1 t h.2.stays met same in
          subst (λ (q : Result (Frames × List (Item Identifier)) Broken × Noting). Ends (BodyFor new region x.unit x.form.number) work new region u x ls (Ok (inner, last.aside)) q) (sym end)
          ((entered_frames s fs, h.0.items), moves_inside new x t stays, refl, (spot_inside.at, subst (λ (y : UnitScope). AllMatch (KeptFor new region y.unit y.form.number) last.aside.items h.0.items) (sym same) h.3.aside))

      -- no memory for the uses
      pub body_lost : (last : code_pending.Pending) (asked2 : Asked) → Went last asked2 (Ok tt) → Leaves work new region u
      body_lost last asked2 h = let m = moves_inside new v went.1 h.2.stays in left_behind work new region u v m.layout went.1 m.stays

      pub body_fails : {X : Type 0} (last : code_pending.Pending) (asked2 : Asked) (Q : List Frames → X → Frames × List (Item Identifier) → Type 0) (x : ExpandFault) → Went last asked2 (Err x) → Ends Q work new region u v ls (Err x) (body_pass turns here ts known fs s)
      body_fails {X} last asked2 Q (fault.At x) h =
          let end : (left_of went >>= meeting) ≡ (Err h.0, went.1) = ap (λ (r : Result (Left Identifier) Broken). (r, went.1) >>= meeting) h.1 in
          subst (λ (q : Result (Frames × List (Item Identifier)) Broken × Noting). Ends Q work new region u v ls (Err (fault.At x)) q) (sym end)
          (moves_inside new v went.1 h.2.stays, (h.0, refl, h.3))
      body_fails last asked2 Q fault.Full h =
          let g = subst (λ (x : UnitScope). Passes work new region x v inside spot (entered_frames s fs) (left_with start.todo w.form.budget.uses) last asked2 (Err fault.Full) went) child h in
          (leaves_on work work new region u opened ls (entered s) moves_in g.0, fills_on work work region u opened ls (entered s) moves_in g.1)
      body_fails last asked2 Q fault.Memory h =
          leaves_on work work new region u opened ls (entered s) moves_in (subst (λ (x : UnitScope). Passes work new region x v inside spot (entered_frames s fs) (left_with start.todo w.form.budget.uses) last asked2 (Err fault.Memory) went) child h)

      pub body_locals : (last : code_pending.Pending) (asked2 : Asked) → Went last asked2 (Ok tt) → v.form.budget.locals ≤ u.form.budget.locals + 2 ^ 38
      body_locals last asked2 h = few_locals v.form.budget.locals w.form.budget.locals u.form.budget.locals (left_with start.todo w.form.budget.uses) h.4 (λ j. (child j).form.budget.locals) left_inside
