-- The definition of a macro: its rules are looked up, counted and read, and then its name is defined (R7RS 5.4).
use Rattle.std.proofs.Common.{◌≡◌, ℕ, ◌≤◌, List, [], ◌∷◌, ◌++◌, Option, Some, None, Result, Ok, Err, refl, sym, ap, ◌∙◌, subst, arith}
use Rattle.scheme_model.specs.Ident.{Ident as Identifier}
use Rattle.scheme_model.specs.Identifiers.{Number}
use Rattle.scheme_model.specs.ExpansionFaults.{Named}
use Rattle.scheme_model.specs.Requirements.{Known}
use Rattle.scheme_model.specs.RulesShape.{Rules}
use Rattle.scheme_model.specs.Trees.{Tree}
use Rattle.scheme_model.specs.Cores.{Binder}
use Rattle.scheme_model.specs.Steps.{Broken, Step, ◌>>=◌, done}
use Rattle.scheme_model.specs.Expression.{meaning_of}
use Rattle.scheme_model.specs.Order.{Here, Going, Pass, Pending, Renamed, Macro, RulesParts, caught, put, noted, told, binder_at, rules_parts_of, rules_parts, rules_note, rules_at, run_syntax}
use Rattle.scheme_model.specs.Substitution.{unchanged}
use Rattle.scheme_model.specs.ScopedExpansion.{Frames, FramedIdent, ScopedState, body_around, meaning_next}
use Rattle.scheme_model.specs.ScopedExpansion.{bound_next as scoped_next}
use Rattle.syntax_tree.specs.Meant.{IsMeaning}
use Rattle.syntax_tree.specs.declared.meaning.Meaning as code_meaning
use Rattle.syntax_tree.specs.declared.trees.Work.{Work}
use Rattle.syntax_tree.specs.declared.trees.table.Region.{Region}
use Rattle.core_tree.specs.Names.{IsBinder}
use Rattle.core_tree.specs.Traces.{IsFault}
use Rattle.core_tree.specs.declared.cores.Binder as code_binder
use Rattle.core_tree.specs.declared.traces.FormFault.{FormFault}
use Rattle.unit_scopes.specs.Counts.{CountsSome}
use Rattle.unit_scopes.specs.State.{IsMacro}
use Rattle.unit_scopes.specs.Kept.{PendingFor, NotesFor}
use Rattle.unit_scopes.specs.Defining.{Takes}
use Rattle.unit_scopes.specs.Outcomes.{SameForm}
use Rattle.expander.specs.Passed.{GoesOn}
use Rattle.unit_scopes.specs.declared.asked.Asked.{Asked}
use Rattle.feature_requirements.specs.declared.fault.ExpandFault.{ExpandFault}
use Rattle.feature_requirements.specs.declared.fault.ExpandFault.TheVariants as fault
use Rattle.form_parts.specs.declared.items.Kept.TheVariants as kept
use Rattle.form_parts.specs.declared.items.Pending as code_pending
use Rattle.form_parts.specs.declared.items.Spot.{Spot}
use Rattle.unit_scopes.specs.declared.macros.Macro as code_macro
use Rattle.unit_scopes.specs.declared.scope.UnitScope.{UnitScope}
use Rattle.unit_scopes.proofs.DefineLaws.{is_in_on}
use Rattle.unit_scopes.proofs.OutcomeLaws.{same_on}
use Rattle.expander.proofs.DefinitionSteps.{StaysBeside, goes_failing, aside_goes, in_fails, in_after_same, rules_define_none, binder_here}
use Rattle.expander.proofs.LooseLaws.{place_on}
use Rattle.expander.proofs.RulesNotes.{parts_define_none}
use Rattle.noted_steps.specs.Noting.{Noting, state_of, bound_next, noting}
use Rattle.noted_steps.specs.Standing.{Stands, with_notes}
use Rattle.noted_steps.specs.Stepped.{spent}
use Rattle.noted_steps.specs.Outcomes.{Stays, EndsHere}
use Rattle.noted_steps.proofs.CountingStands.{nodes_stand}
use Rattle.noted_steps.proofs.OutcomeLaws.{bound_goes, bound_fails, stays_on, moves_here, leaves_on, fills_on}
use Rattle.noted_steps.specs.Kept.{SpotFor, EndsIn}

-- what was bound means itself
bound_means : (s : ScopedState) (o : Option Number) (i : Identifier) → meaning_next s o i ≡ meaning_of (scoped_next s o) i
bound_means s None i = refl
bound_means s (Some b) i = refl

pub macro_meaning : (work : Work) (u : UnitScope) (ls : List Frames) (s : Noting) (fs : Frames) (c : code_meaning.Meaning) (i : Identifier) → Stands work u ls s → IsMeaning work.symbols s.unit s.form c (meaning_next (state_of s) (body_around fs) i) →
    IsMeaning work.symbols u.unit u.form.number c (meaning_of (bound_next s (body_around fs)) i)
macro_meaning work u ls s fs c i e is =
    subst (λ (f : ℕ). IsMeaning work.symbols u.unit f c (meaning_of (bound_next s (body_around fs)) i)) (sym e.form.number)
    (subst (λ (w : ℕ). IsMeaning work.symbols w s.form c (meaning_of (bound_next s (body_around fs)) i)) (sym e.unit)
    (subst (IsMeaning work.symbols s.unit s.form c) (bound_means (state_of s) (body_around fs) i) is))

-- where nodes are counted alone, forms are gone through as before
pub counted_place : (work : Work) (u w : UnitScope) (ls : List Frames) (spot : Spot) (fs : Frames) (s t : Noting) → CountsSome u w → t.definitions ≡ s.definitions → SpotFor work u ls s spot fs → SpotFor work w ls t spot fs
counted_place work u w ls spot fs s t counts same placed =
    record { at = placed.at; inside = is_in_on work ls spot.scope fs u w (state_of s) (state_of t) spot.in_body (λ j. (counts.2 j).env) (λ j. (counts.2 j).root) same placed.inside }

pub counted_stands : (work : Work) (u w : UnitScope) (ls : List Frames) (s : Noting) (c : CountsSome u w) → Stands work u ls s → Stands work w ls (spent c.0 s)
counted_stands work u w ls s c e = subst (λ (v : UnitScope). Stands work v ls (spent c.0 s)) (sym c.2) (nodes_stand work u ls s c.0 c.1 e)

module _ (work : Work) (region : Region) (u : UnitScope) (ls : List Frames) (spot : Spot) (fs : Frames) (s : Noting) (known : Known) (here : Here) (n : Named Identifier) (t : Tree Identifier) (p : Pending Identifier FramedIdent) (old : code_pending.Pending) (asked : Asked) (given : ℕ)
    (e : Stands work u ls s) (placed : SpotFor work u ls s spot fs) (notes : NotesFor work ls asked (noted (rules_note (noting known) fs s (rules_parts_of t)) p).notes) where
  abbrev pub with_note : Pending Identifier FramedIdent
  with_note = noted (rules_note (noting known) fs s (rules_parts_of t)) p

  abbrev then_defined : Rules Identifier → Step Noting (Binder × Pending Identifier FramedIdent)
  then_defined rules w = told here ((noting known).define n (Some rules) fs with_note w) >>= λ made. done (binder_at (noting known) fs w n, made.pending)

  abbrev then_read : RulesParts Identifier → Step Noting (Binder × Pending Identifier FramedIdent)
  then_read r w = rules_at (noting known) here t r w >>= then_defined

  abbrev Whole : Type 0
  Whole = Result (Binder × Pending Identifier FramedIdent) Broken × Noting

  abbrev whole : Whole
  whole = rules_parts (noting known) here fs (rules_parts_of t) s >>= then_read

  abbrev set_aside : Going Identifier FramedIdent Noting → Binder × Pending Identifier FramedIdent → Noting → Pass Identifier FramedIdent × Noting
  set_aside go r = go (put (Macro r.0 here) r.1)

  by_whole : (v : UnitScope) (result : Result (Unit {0}) ExpandFault) (new : code_pending.Pending) (x : Whole) → whole ≡ x → GoesOn work work region u v ls spot fs p.todo given new asked result (λ go. caught with_note.notes x (set_aside go)) →
      GoesOn work work region u v ls spot fs p.todo given new asked result (λ go. run_syntax (noting known) go here fs p (n, t) s)
  by_whole v result new x same h = subst (λ (y : Whole). GoesOn work work region u v ls spot fs p.todo given new asked result (λ go. caught with_note.notes y (set_aside go))) (sym same) h

  -- a fault, where only nodes were counted
  broken : (v : UnitScope) (f : FormFault) (b : Broken) (w : Noting) → whole ≡ (Err b, w) → Stays work work region u v ls w → SpotFor work v ls w spot fs → IsFault work.symbols f b →
      GoesOn work work region u v ls spot fs p.todo given old asked (Err (fault.At f)) (λ go. run_syntax (noting known) go here fs p (n, t) s)
  broken v f b w same stays there is =
      by_whole v (Err (fault.At f)) old (Err b, w) same (with_note.notes, b, w, record { stays = stays; placed = there; notes = notes }, is, λ go. refl)

  -- the head of the rules
  abbrev tested : Result (RulesParts Identifier) Broken × Noting
  tested = rules_parts (noting known) here fs (rules_parts_of t) s

  abbrev pub Test : Unit {0} → RulesParts Identifier → Type 0
  Test x y = rules_parts_of t ≡ Some y

  module _ (u1 : UnitScope) (rest : u1 ≡ with_notes u u1.form.trace.notes) where
    tested_placed : SpotFor work u1 ls tested.1 spot fs
    tested_placed = place_on work u u1 rest ls s tested.1 spot fs (parts_define_none known here fs (rules_parts_of t) s) placed

    pub test_fails : (f : ExpandFault) → EndsHere Test work work region u u1 ls (Err f) tested → GoesOn work work region u u1 ls spot fs p.todo given old asked (Err f) (λ go. run_syntax (noting known) go here fs p (n, t) s)
    test_fails (fault.At f) h = broken u1 f h.1.0 tested.1 (bound_fails tested then_read h.1.0 h.1.1) h.0 tested_placed h.1.2
    test_fails fault.Full h = h
    test_fails fault.Memory h = h

    module _ (passed : EndsHere Test work work region u u1 ls (Ok tt) tested) (w : UnitScope) (counts : CountsSome u1 w) where
      abbrev pub tested_state : Noting
      tested_state = tested.1

      abbrev reading : Result (Rules Identifier) Broken × Noting
      reading = rules_at (noting known) here t passed.0 tested.1

      passes : whole ≡ (reading >>= then_defined)
      passes = bound_goes tested then_read passed.0 passed.2

      -- there was a list of rules
      pub rules_are : rules_parts_of t ≡ Some passed.0
      rules_are = passed.3

      pub placed_after : SpotFor work w ls reading.1 spot fs
      placed_after = counted_place work u1 w ls spot fs tested.1 reading.1 counts (rules_define_none known here t passed.0 tested.1) tested_placed

      abbrev MacroIs : code_macro.Macro → Rules Identifier → Type 0
      MacroIs k rs = IsMacro work ls k (record { env = fs; rules = rs })

      pub read_fails : (f : ExpandFault) → EndsHere MacroIs work work region u1 w ls (Err f) reading → GoesOn work work region u w ls spot fs p.todo given old asked (Err f) (λ go. run_syntax (noting known) go here fs p (n, t) s)
      read_fails (fault.At f) h = broken w f h.1.0 reading.1 (passes ∙ bound_fails reading then_defined h.1.0 h.1.1) (stays_on work work work region u u1 w ls tested.1 reading.1 passed.1 h.0) placed_after h.1.2
      read_fails fault.Full h =
          let m = moves_here work work region u u1 ls tested.1 passed.1 in
          (leaves_on work work work region u u1 ls tested.1 m h.0, fills_on work work region u u1 ls tested.1 m h.1)
      read_fails fault.Memory h = leaves_on work work work region u u1 ls tested.1 (moves_here work work region u u1 ls tested.1 passed.1) h

      module _ (k : code_macro.Macro) (h : EndsHere MacroIs work work region u1 w ls (Ok k) reading) where
        abbrev defining : Result (Renamed Identifier FramedIdent) Broken × Noting
        defining = told here ((noting known).define n (Some h.0) fs with_note reading.1)

        abbrev is_so : Unit {0} → Renamed Identifier FramedIdent → Type 0
        is_so d made = made ≡ unchanged with_note

        abbrev beside : Renamed Identifier FramedIdent → Step Noting (Binder × Pending Identifier FramedIdent)
        beside made = done (binder_at (noting known) fs reading.1 n, made.pending)

        read : whole ≡ (defining >>= beside)
        read = passes ∙ bound_goes reading then_defined h.0 h.2

        same_read : SameForm u w
        same_read = same_on u u1 w passed.1.same h.1.same

        pub define_fails : (v : UnitScope) (f : ExpandFault) → EndsIn is_so work w v ls spot fs (Err f) defining → GoesOn work work region u v ls spot fs p.todo given old asked (Err f) (λ go. run_syntax (noting known) go here fs p (n, t) s)
        define_fails v f ends =
            let any = λ (d : Unit {0}) (x : Binder × Pending Identifier FramedIdent). Unit {0} in
            by_whole v (Err f) old (defining >>= beside) read
            (goes_failing work region u v ls spot fs p.todo given old asked with_note.notes any f (defining >>= beside) set_aside e.form.few_nodes
            (in_fails is_so any work u v ls spot fs f defining beside (in_after_same is_so work u w v ls spot fs (Err f) defining same_read ends)) notes)

        pub macro_goes : (v : UnitScope) (new : code_pending.Pending) (b : code_binder.Binder) (c : code_meaning.Meaning) → EndsIn is_so work w v ls spot fs (Ok tt) defining → Takes 1 w v → PendingFor work region u.unit u.form.number old p →
            IsBinder work.symbols reading.1.unit reading.1.form b (binder_at (noting known) fs reading.1 n) → IsMeaning work.symbols reading.1.unit reading.1.form c (meaning_next (state_of reading.1) (body_around fs) n.name) →
            StaysBeside old new → new.aside.items ≡ old.aside.items ++ kept.Macro b c ∷ [] → 1 ≤ given → GoesOn work work region u v ls spot fs p.todo given new asked (Ok tt) (λ go. run_syntax (noting known) go here fs p (n, t) s)
        macro_goes v new b c ends takes pending binder means todo aside one =
            let first = in_after_same is_so work u w v ls spot fs (Ok tt) defining same_read ends in
            let m = binder_at (noting known) fs reading.1 n in
            let x : Whole = (Ok (m, first.0.pending), defining.1) in
            let counted : w.form.budget.locals ≡ u1.form.budget.locals = λ j. (counts.2 j).form.budget.locals in
            let noted_locals : u1.form.budget.locals ≡ u.form.budget.locals = ap (λ (y : UnitScope). y.form.budget.locals) rest in
            let uses : w.form.budget.uses ≡ u.form.budget.uses = (λ j. (counts.2 j).form.budget.uses) ∙ ap (λ (y : UnitScope). y.form.budget.uses) rest in
            let locals = takes.locals in
            let number : w.form.number ≡ u.form.number = same_read.number in
            let is = binder_here work w ls reading.1 b m h.1.stands binder in
            let meant = macro_meaning work w ls reading.1 fs c n.name h.1.stands means in
            let kept_binder = subst (λ (f : ℕ). IsBinder work.symbols u.unit f b m) number (subst (λ (x : ℕ). IsBinder work.symbols x w.form.number b m) same_read.unit is) in
            let kept_meaning = subst (λ (f : ℕ). IsMeaning work.symbols u.unit f c (meaning_of m.bound m.ident)) number (subst (λ (x : ℕ). IsMeaning work.symbols x w.form.number c (meaning_of m.bound m.ident)) same_read.unit meant) in
            by_whole v (Ok tt) new x (read ∙ bound_goes defining beside first.0 first.2)
            (aside_goes work region u v ls spot fs s with_note old new asked given (Macro m here) (kept.Macro b c) (record { todo = pending.todo; aside = pending.aside; uses = pending.uses }) notes
            (b, c, refl, kept_binder, kept_meaning) todo aside 1 (m, first.0.pending) x set_aside first.1 refl (takes.uses ∙ uses) (omega (arith, counted, noted_locals, locals)) (omega arith) one
            (λ go. ap (λ (made : Renamed Identifier FramedIdent). go (put (Macro m here) made.pending) defining.1) first.3))
