-- Local macros by the calls that the code makes for them: their names are bound, the heads of their rules are tested, they are kept,
-- and their body is expanded.
use Rattle.std.proofs.Common.{◌≡◌, ℕ, suc, ◌+◌, ◌≤◌, List, [], ◌∷◌, ◌++◌, length, map, Bool, true, false, Result, Ok, Err, Vec, refl, sym, ap, ◌∙◌, subst, arith}
use Rattle.std.specs.Global.{Box}
use Rattle.std.specs.declared.alloc.Global.{Global}
use Rattle.scheme_model.specs.Identifiers.{Number}
use Rattle.scheme_model.specs.Trees.{Trees}
use Rattle.scheme_model.specs.Ident.{Ident as Identifier}
use Rattle.scheme_model.specs.ExpansionFaults.{Named}
use Rattle.scheme_model.specs.Requirements.{Known}
use Rattle.scheme_model.specs.Shapes.{LocalMacros}
use Rattle.scheme_model.specs.Cores.{Core, LetSyntax}
use Rattle.scheme_model.specs.Steps.{Broken, Step, ◌>>=◌, done}
use Rattle.scheme_model.specs.Order.{RulesParts}
use Rattle.scheme_model.specs.Expression.{body, expand, node, heads, keep_all, local_defs, locals_asked, local_macros, numbers}
use Rattle.scheme_model.specs.ScopedExpansion.{Frames}
use Rattle.syntax_tree.specs.Names.{AreToldApart}
use Rattle.syntax_tree.specs.declared.trees.Work.{Work}
use Rattle.syntax_tree.specs.declared.trees.table.Region.{Region}
use Rattle.syntax_tree.proofs.Places.{get_front}
use Rattle.scope_env.specs.Environment.{IsSound}
use Rattle.core_forms.specs.Parts.{AllMatch as AllParts, AreMacros, IsName}
use Rattle.core_forms.specs.declared.shape.LocalMacro.{LocalMacro}
use Rattle.core_forms.specs.declared.shape.NamePart.{NamePart}
use Rattle.core_tree.specs.Names.{AllMatch, IsBinder, IsMacro as IsMacroDef}
use Rattle.core_tree.specs.Cores.{CoreStands}
use Rattle.core_tree.specs.declared.cores.Binder as code_binder
use Rattle.core_tree.specs.declared.cores.Core as code_core
use Rattle.core_tree.specs.declared.cores.Core.TheVariants as cores
use Rattle.core_tree.specs.declared.cores.MacroDef as code_macro
use Rattle.unit_scopes.specs.Binds.{Binds, local_binders}
use Rattle.expander.specs.Bodies.{AreLocalMacros, CanKeep, HaveHeads, HaveNumbers, RulesAre}
use Rattle.expander.specs.Expanded.{MacrosAtWork, macros_step}
use Rattle.feature_requirements.specs.Judged.{Knows}
use Rattle.unit_scopes.specs.Outcomes.{At, SameForm}
use Rattle.expander.specs.Ready.{BeginsBelow}
use Rattle.unit_scopes.specs.State.{most_locals}
use Rattle.unit_scopes.specs.Stepped.{after, bound_frames, bound_binders}
use Rattle.expander.specs.declared.expressions.At as code_at
use Rattle.feature_requirements.specs.declared.fault.ExpandFault.{ExpandFault}
use Rattle.unit_scopes.specs.declared.scope.UnitScope.{UnitScope}
use Rattle.expander.proofs.AfterLaws.{all_known, begins_look}
use Rattle.expander.proofs.BelowLaws.{below_knows, node_below, node_unbegun}
use Rattle.unit_scopes.proofs.BindersStand.{numbers_are}
use Rattle.noted_steps.proofs.BindersStand.{BindersStand}
use Rattle.expander.proofs.BodyRuns.{binds_stand, binds_inner, names_count}
use Rattle.expander.proofs.CoreLaws.{binds_moves, macros_are}
use Rattle.unit_scopes.proofs.CoreStandLaws.{every_on, macro_def_on}
use Rattle.expander.proofs.KeepLaws.{heads_tell, heads_state}
use Rattle.expander.proofs.AskedRuns.{noted_knows, stays_then}
use Rattle.expander.proofs.LoopLaws.{knows_on}
use Rattle.expander.proofs.RowLaws.{ends_mapped}
use Rattle.expander.proofs.ShapeParts.{macros_named, names_of_macros}
use Rattle.noted_steps.specs.Noting.{Noting, state_of, next_number, noting}
use Rattle.noted_steps.specs.Outcomes.{Stays, Moves, Ends, EndsHere, Runs}
use Rattle.noted_steps.specs.Standing.{Stands, with_notes}
use Rattle.noted_steps.specs.Stepped.{spent, taken}
use Rattle.noted_steps.proofs.CountingStands.{nodes_stand}
use Rattle.noted_steps.proofs.NodeLaws.{here_then}
use Rattle.noted_steps.proofs.OutcomeLaws.{here_ends, ends_after, ends_fails, bound_goes, noted_stays}
use Rattle.noted_steps.specs.Kept.{CanLook}

-- ---- numbers and names of the binders

numbers_match : (t : Noting) (bs : List code_binder.Binder) (vs : List Number) → AllMatch (λ (b : code_binder.Binder) (v : Number). v ≡ record { unit = t.unit; form = t.form; count = b.number }) bs vs → HaveNumbers t bs vs
numbers_match t [] [] h = tt
numbers_match t [] (v ∷ vs) h = absurd h
numbers_match t (b ∷ bs) [] h = absurd h
numbers_match t (b ∷ bs) (v ∷ vs) h = (h.0, numbers_match t bs vs h.1)

pub have_numbers : (t : Noting) (n : ℕ) (xs : List NamePart) (ns : List (Named Identifier)) (bs : List code_binder.Binder) (v : Number) → length xs ≡ length ns → bs ≡ local_binders n xs → v ≡ record { unit = t.unit; form = t.form; count = n } → HaveNumbers t bs (numbers v ns)
have_numbers t n xs ns bs v count is number =
    subst (λ (ys : List code_binder.Binder). HaveNumbers t ys (numbers v ns)) (sym is)
    (subst (λ (w : Number). HaveNumbers t (local_binders n xs) (numbers w ns)) (sym number)
    (numbers_match t (local_binders n xs) (numbers (record { unit = t.unit; form = t.form; count = n }) ns) (numbers_are t.unit t.form n ns xs count)))

next_is : (v : Number) → after v ≡ record { unit = v.unit; form = v.form; count = suc v.count }
next_is v = let e : v.count + 1 ≡ suc v.count = omega arith in λ j. record { unit = v.unit; form = v.form; count = e j }

pub local_binders_are : (work : Work) (t : Noting) (bs : List code_binder.Binder) (v : Number) (ns : List (Named Identifier)) → AllMatch (IsBinder work.symbols t.unit t.form) bs (bound_binders v ns) → AreLocalMacros work t bs (numbers v ns) ns
local_binders_are work t [] v [] h = tt
local_binders_are work t [] v (n ∷ ns) h = absurd h
local_binders_are work t (b ∷ bs) v [] h = absurd h
local_binders_are work t (b ∷ bs) v (n ∷ ns) h =
    (h.0, local_binders_are work t bs (record { unit = v.unit; form = v.form; count = suc v.count }) ns (subst (λ (w : Number). AllMatch (IsBinder work.symbols t.unit t.form) bs (bound_binders w ns)) (next_is v) h.1))

-- a node that has begun
spends_stand : (work : Work) (region : Region) (u w : UnitScope) (ls : List Frames) (s : Noting) (at below : code_at.At) (n : ℕ) → Stands work u ls s → BeginsBelow u w at n (Ok below) → Stands work w ls (spent n s)
spends_stand work region u w ls s at below n e h = subst (λ (x : UnitScope). Stands work x ls (spent n s)) (sym h.2.2) (nodes_stand work u ls s n h.2.1 e)

-- ---- local macros

-- the scope in which the rules are read
abbrev pub RulesAt : Bool → (rules_at inner scope : ℕ) → Type 0
RulesAt true rules_at inner scope = rules_at ≡ inner
RulesAt false rules_at inner scope = rules_at ≡ scope

-- and its frames
abbrev pub rules_frames : Bool → Frames → Frames → Frames
rules_frames true gs fs = gs
rules_frames false gs fs = fs

module _ (work : Work) (region : Region) (u w1 : UnitScope) (at : code_at.At) (again : Bool) (m : LocalMacros Identifier) (macros : List LocalMacro) (xs : List NamePart) (inner rules_at : ℕ) (bs : List code_binder.Binder)
    (apart : AreToldApart work.symbols.idents) (sound : IsSound u.env) (names : AllParts (IsName work) xs m.names) (room : u.form.budget.locals + length xs ≤ most_locals u.form.budget.nodes) (h : Binds u w1 at.scope xs inner bs)
    (place : RulesAt again rules_at inner at.scope) (are : AreMacros work macros m.names m.rules) where
  module _ (ls : List Frames) (s : Noting) (fs : Frames) (e : Stands work u ls s) (there : At ls at.scope fs) where
    abbrev first : Number
    first = next_number s s.locals

    abbrev pub inner_frames : Frames
    inner_frames = bound_frames first m.names fs

    abbrev pub bound_layout : List Frames
    bound_layout = ls ++ inner_frames ∷ []

    abbrev pub bound_state : Noting
    bound_state = taken (length m.names) s

    abbrev pub frames_of_rules : Frames
    frames_of_rules = rules_frames again inner_frames fs

    stand : BindersStand work w1 ls s fs m.names inner bs
    stand = binds_stand work region u w1 at.scope xs m.names inner bs apart sound names room h ls s fs e there

    pub rules_there : At bound_layout rules_at frames_of_rules
    rules_there = by again place
      where
        by : (b : Bool) → RulesAt b rules_at inner at.scope → At bound_layout rules_at (rules_frames b inner_frames fs)
        by true is = subst (λ (n : ℕ). At bound_layout n inner_frames) (sym is) (binds_inner work region u w1 at.scope xs m.names inner bs apart sound names room h ls s fs e there)
        by false is = subst (λ (n : ℕ). At bound_layout n fs) (sym is) (get_front ls (inner_frames ∷ []) at.scope fs there)

    pub bound_stands : Stands work w1 bound_layout bound_state
    bound_stands = stand.stands

    abbrev pub macro_numbers : List Number
    macro_numbers = numbers first m.names

    abbrev pub known_step : Known → ℕ → Result Core Broken × Noting
    known_step known turns = macros_step again (expand (noting known) turns) (noting known) at.depth at.here fs m s

    abbrev pub bound_step : Known → ℕ → Result Core Broken × Noting
    bound_step known turns = local_macros (expand (noting known) turns) (noting known) at.depth at.here macro_numbers m.names frames_of_rules m.rules inner_frames m.body bound_state

    unfoldable bound_moves : Moves work work region u w1 ls bound_state
    bound_moves = binds_moves work region u w1 ls s at.scope fs xs m.names inner bs stand h

    -- the names are bound first
    pub from_bound : {V : Type 0} (Q : List Frames → V → Core → Type 0) (known : Known) (turns : ℕ) (new : Work) (v : UnitScope) (result : Result V ExpandFault) → Ends Q work new region w1 v bound_layout result (bound_step known turns) → Ends Q work new region u v ls result (known_step known turns)
    unfolding bound_moves binds_moves
    from_bound Q known turns new v result ends =
        subst (λ (p : Result Core Broken × Noting). Ends Q work new region u v ls result p) (sym (macros_are again known (expand (noting known) turns) at.depth at.here fs m s frames_of_rules (λ is. ap (λ (b : Bool). rules_frames b inner_frames fs) is) (λ is. ap (λ (b : Bool). rules_frames b inner_frames fs) is)))
        (ends_after Q work work new region u w1 v ls bound_state result (bound_step known turns) bound_moves ends)

    -- ---- the heads are tested

    abbrev Passed : Unit {0} → List (RulesParts Identifier) → Type 0
    Passed passed parts = Unit {0}

    abbrev heads_at : Known → Result (List (RulesParts Identifier)) Broken × Noting
    heads_at known = heads (noting known) at.here frames_of_rules m.rules bound_state

    abbrev pub tested_state : Known → Noting
    tested_state known = (heads_at known).1

    abbrev pub HeadsEnd : Known → UnitScope → Result (Unit {0}) ExpandFault → Type 0
    HeadsEnd known wt result = EndsHere Passed work work region w1 wt bound_layout result (heads_at known)

    abbrev node_step : Known → ℕ → List (RulesParts Identifier) → Noting → Result Core Broken × Noting
    node_step known turns rs t =
        node (noting known) at.here 1 at.depth (λ below t1. keep_all (noting known) at.here frames_of_rules macro_numbers m.rules rs t1 >>= λ kept t2.
        expand (noting known) turns below at.here inner_frames (body m.body) ((noting known).ask (locals_asked (noting known) t2 macro_numbers m.names) t2) >>= λ c. done (LetSyntax (local_defs (noting known) t2 macro_numbers m.names) c)) t

    pub heads_go : {V : Type 0} (Q : List Frames → V → Core → Type 0) (known : Known) (turns : ℕ) (wt : UnitScope) (passed : Unit {0}) (q : HeadsEnd known wt (Ok passed)) (new : Work) (v : UnitScope) (result : Result V ExpandFault) →
        Ends Q work new region wt v bound_layout result (node_step known turns q.0 (tested_state known)) → Ends Q work new region w1 v bound_layout result (bound_step known turns)
    heads_go Q known turns wt passed q new v result ends =
        subst (λ (p : Result Core Broken × Noting). Ends Q work new region w1 v bound_layout result p) (sym (bound_goes (heads_at known) (node_step known turns) q.0 q.2))
        (stays_then Q work work new region w1 wt v bound_layout (tested_state known) result (node_step known turns q.0 (tested_state known)) q.1 ends)

    pub heads_fail : {V : Type 0} (Q : List Frames → V → Core → Type 0) (known : Known) (turns : ℕ) (wt : UnitScope) (x : ExpandFault) → HeadsEnd known wt (Err x) → Ends Q work work region w1 wt bound_layout (Err x) (bound_step known turns)
    heads_fail Q known turns wt x q =
        ends_fails (λ (layout : List Frames). Passed) Q work work region w1 wt bound_layout x (heads_at known) (node_step known turns) (here_ends Passed work work region w1 wt bound_layout (Err x) (heads_at known) q)

    -- nothing but notes was changed
    heads_same : (known : Known) → state_of (tested_state known) ≡ state_of bound_state
    heads_same known = heads_state known at.here frames_of_rules m.rules bound_state

    -- ---- the node begins, the macros are kept, and the body is expanded

    module _ (known : Known) (turns : ℕ) (knows : Knows u.libraries known) (wt : UnitScope) (passed : Unit {0}) (q : HeadsEnd known wt (Ok passed)) (w2 : UnitScope) where
      abbrev rs : List (RulesParts Identifier)
      rs = q.0

      pub unbegun : {V : Type 0} (Q : List Frames → V → Core → Type 0) (x : ExpandFault) → BeginsBelow wt w2 at 1 (Err x) → Ends Q work work region wt w2 bound_layout (Err x) (node_step known turns rs (tested_state known))
      unbegun Q x b =
          node_unbegun Q known work region wt w2 bound_layout (tested_state known) at 1 x
          (λ below t1. keep_all (noting known) at.here frames_of_rules macro_numbers m.rules rs t1 >>= λ kept t2.
          expand (noting known) turns below at.here inner_frames (body m.body) ((noting known).ask (locals_asked (noting known) t2 macro_numbers m.names) t2) >>= λ c. done (LetSyntax (local_defs (noting known) t2 macro_numbers m.names) c)) q.1.stands b

      module _ (below : code_at.At) (b : BeginsBelow wt w2 at 1 (Ok below)) where
        abbrev begun : Noting
        begun = spent 1 (tested_state known)

        abbrev keeps : Result (Unit {0}) Broken × Noting
        keeps = keep_all (noting known) at.here frames_of_rules macro_numbers m.rules rs begun

        abbrev kept_state : Noting
        kept_state = keeps.1

        abbrev then_body : Unit {0} → Step Noting Core
        then_body kept t2 = expand (noting known) turns below.depth below.here inner_frames (body m.body) ((noting known).ask (locals_asked (noting known) t2 macro_numbers m.names) t2) >>= λ c. done (LetSyntax (local_defs (noting known) t2 macro_numbers m.names) c)

        abbrev Kept : UnitScope → Result (Unit {0}) ExpandFault → Type 0
        Kept w3 result = EndsHere (λ (kept : Unit {0}) (also : Unit {0}). Unit {0}) work work region w2 w3 bound_layout result keeps

        pub from_begun : {V : Type 0} (Q : List Frames → V → Core → Type 0) (new : Work) (v : UnitScope) (result : Result V ExpandFault) → (Stands work w2 bound_layout begun → Ends Q work new region w2 v bound_layout result (keeps >>= then_body)) →
            Ends Q work new region wt v bound_layout result (node_step known turns rs (tested_state known))
        from_begun Q new v result next =
            node_below known work new region wt w2 v bound_layout (tested_state known) at below 1 q.1.stands b Q
            (λ d o t1. keep_all (noting known) at.here frames_of_rules macro_numbers m.rules rs t1 >>= λ kept t2. expand (noting known) turns d o inner_frames (body m.body) ((noting known).ask (locals_asked (noting known) t2 macro_numbers m.names) t2) >>= λ c. done (LetSyntax (local_defs (noting known) t2 macro_numbers m.names) c)) result next

        pub kept_numbers : HaveNumbers begun bs macro_numbers
        kept_numbers =
            let same = sym (heads_same known) in
            have_numbers begun u.form.budget.locals xs m.names bs first (names_count (IsName work) xs m.names names) h.bound (λ j. record { unit = (same j).unit; form = (same j).form; count = sym e.form.locals j })

        pub rules_are : RulesAre m.rules rs
        rules_are = heads_tell known at.here frames_of_rules m.rules bound_state rs q.2

        pub kept_fails : {V : Type 0} (Q : List Frames → V → Core → Type 0) (w3 : UnitScope) (x : ExpandFault) → Kept w3 (Err x) → Ends Q work work region w2 w3 bound_layout (Err x) (keeps >>= then_body)
        kept_fails Q w3 x kept =
            ends_fails (λ (layout : List Frames) (kept : Unit {0}) (also : Unit {0}). Unit {0}) Q work work region w2 w3 bound_layout x keeps then_body
            (here_ends (λ (kept : Unit {0}) (also : Unit {0}). Unit {0}) work work region w2 w3 bound_layout (Err x) keeps kept)

        module _ (w3 : UnitScope) (done_so : Unit {0}) (kept : Kept w3 (Ok done_so)) where
          pub kept_stays : Stays work work region w2 w3 bound_layout kept_state
          kept_stays = kept.1

          pub kept_knows : Knows w3.libraries known
          kept_knows =
              knows_on known w2 w3 kept.1.same (below_knows wt w2 at below 1 b known (knows_on known w1 wt q.1.same (subst (λ (x : UnitScope). Knows x.libraries known) (sym h.after) knows)))

          pub kept_inner : At bound_layout inner inner_frames
          kept_inner = binds_inner work region u w1 at.scope xs m.names inner bs apart sound names room h ls s fs e there

          pub after_kept : {V : Type 0} (Q : List Frames → V → Core → Type 0) (new : Work) (v : UnitScope) (result : Result V ExpandFault) → Ends Q work new region w3 v bound_layout result (then_body tt kept_state) → Ends Q work new region w2 v bound_layout result (keeps >>= then_body)
          after_kept Q new v result next =
              here_then (λ (kept : Unit {0}) (also : Unit {0}). Unit {0}) Q work work new region w2 w3 v bound_layout done_so result keeps then_body kept (λ y stays held. next)

          -- the state stands for a unit and a form that stay the same
          pub kept_unit : kept_state.unit ≡ s.unit
          kept_unit = sym kept.1.stands.unit ∙ (kept.1.same.unit ∙ (ap (λ (x : UnitScope). x.unit) b.2.2 ∙ (q.1.same.unit ∙ (ap (λ (x : UnitScope). x.unit) h.after ∙ e.unit))))

          pub kept_form : kept_state.form ≡ s.form
          kept_form = sym kept.1.stands.form.number ∙ (kept.1.same.number ∙ (ap (λ (x : UnitScope). x.form.number) b.2.2 ∙ (q.1.same.number ∙ (ap (λ (x : UnitScope). x.form.number) h.after ∙ e.form.number))))

          pub kept_binders : AreLocalMacros work kept_state bs macro_numbers m.names
          kept_binders =
              local_binders_are work kept_state bs first m.names
              (subst (λ (n : ℕ). AllMatch (IsBinder work.symbols n kept_state.form) bs (bound_binders first m.names)) (sym kept_unit)
              (subst (λ (n : ℕ). AllMatch (IsBinder work.symbols s.unit n) bs (bound_binders first m.names)) (sym kept_form) stand.binders))

          pub can_keep : CanKeep work w3 bs
          can_keep = record { layout = bound_layout; state = kept_state; numbers = macro_numbers; names = m.names; stands = kept.1.stands; are = kept_binders }

          pub inner_look : CanLook work w3 inner
          inner_look = record { layout = bound_layout; state = kept_state; frames = inner_frames; stands = kept.1.stands; at = kept_inner }

          -- what the macros ask is noted
          abbrev pub body_state : Noting
          body_state = (noting known).ask (locals_asked (noting known) kept_state macro_numbers m.names) kept_state

          module _ (w4 : UnitScope) (same : w4 ≡ with_notes w3 w4.form.trace.notes) (asked : Stands work w4 bound_layout body_state) (new : Work) (v : UnitScope) where
            abbrev BodyRuns : Result code_core.Core ExpandFault → Type 0
            BodyRuns result = Runs (λ (layout : List Frames). CoreStands new v.unit v.form.number) work new region w4 v inner result (λ known fs. expand (noting known) turns below.depth below.here fs (body m.body))

            body_ends : (result : Result code_core.Core ExpandFault) → BodyRuns result → Ends (λ (layout : List Frames). CoreStands new v.unit v.form.number) work new region w3 v bound_layout result (expand (noting known) turns below.depth below.here inner_frames (body m.body) body_state)
            body_ends result runs =
                stays_then (λ (layout : List Frames). CoreStands new v.unit v.form.number) work work new region w3 w4 v bound_layout body_state result (expand (noting known) turns below.depth below.here inner_frames (body m.body) body_state)
                (noted_stays work region w3 w4 bound_layout kept_state body_state kept.1.stands same asked) (runs known bound_layout body_state inner_frames (noted_knows w3 w4 known same kept_knows) asked kept_inner)

            pub body_fails : {V : Type 0} (Q : List Frames → V → Core → Type 0) (x : ExpandFault) → BodyRuns (Err x) → Ends Q work new region w3 v bound_layout (Err x) (then_body tt kept_state)
            body_fails Q x runs =
                ends_fails (λ (layout : List Frames). CoreStands new v.unit v.form.number) Q work new region w3 v bound_layout x (expand (noting known) turns below.depth below.here inner_frames (body m.body) body_state)
                (λ c. done (LetSyntax (local_defs (noting known) kept_state macro_numbers m.names) c)) (body_ends (Err x) runs)

            pub body_goes : (defs : Vec code_macro.MacroDef Global) (y : Box code_core.Core) → AllMatch (IsMacroDef work kept_state.unit kept_state.form) defs.items (local_defs (noting known) kept_state macro_numbers m.names) → BodyRuns (Ok y.value) →
                Ends (λ (layout : List Frames). CoreStands new v.unit v.form.number) work new region w3 v bound_layout (Ok (cores.LetSyntax defs y)) (then_body tt kept_state)
            body_goes defs y told runs =
                let ends = body_ends (Ok y.value) runs in
                let grows = ends.1.stays.work in
                let unit : v.unit ≡ kept_state.unit = ends.1.stays.same.unit ∙ kept.1.stands.unit in
                let form : v.form.number ≡ kept_state.form = ends.1.stays.same.number ∙ kept.1.stands.form.number in
                let ds = local_defs (noting known) kept_state macro_numbers m.names in
                let on = every_on (IsMacroDef work kept_state.unit kept_state.form) (IsMacroDef new kept_state.unit kept_state.form) (macro_def_on work new grows.trees grows.names kept_state.unit kept_state.form) defs.items ds told in
                let now = subst (λ (n : ℕ). AllMatch (IsMacroDef new n v.form.number) defs.items ds) (sym unit) (subst (λ (n : ℕ). AllMatch (IsMacroDef new kept_state.unit n) defs.items ds) (sym form) on) in
                ends_mapped (λ (layout : List Frames). CoreStands new v.unit v.form.number) (λ (layout : List Frames). CoreStands new v.unit v.form.number) work new region w3 v bound_layout y.value (cores.LetSyntax defs y)
                (expand (noting known) turns below.depth below.here inner_frames (body m.body) body_state) (λ c. LetSyntax ds c) (λ layout c held. (defs, y, refl, now, held)) ends

  -- ---- the calls, from whatever state the scopes of the code stand for

  abbrev pub TestsRun : UnitScope → Result (Unit {0}) ExpandFault → Type 0
  TestsRun wt result = (known : Known) (region : Region) (ls : List Frames) (s : Noting) (fs : Frames) (ns : List (Named Identifier)) (ts : Trees Identifier) → Stands work w1 ls s → At ls rules_at fs → AreMacros work macros ns ts →
      EndsHere (λ (passed : Unit {0}) (parts : List (RulesParts Identifier)). Unit {0}) work work region w1 wt ls result (heads (noting known) at.here fs ts s)

  abbrev pub KeepsRun : UnitScope → UnitScope → Result (Unit {0}) ExpandFault → Type 0
  KeepsRun w2 w3 result = (known : Known) (region : Region) (ls : List Frames) (s : Noting) (fs : Frames) (ns : List (Named Identifier)) (ts : Trees Identifier) (vs : List Number) (rs : List (RulesParts Identifier)) → Stands work w2 ls s → At ls rules_at fs →
      AreMacros work macros ns ts → HaveNumbers s bs vs → RulesAre ts rs → EndsHere (λ (kept : Unit {0}) (also : Unit {0}). Unit {0}) work work region w2 w3 ls result (keep_all (noting known) at.here fs vs ts rs s)

  abbrev pub DefsRun : UnitScope → Vec code_macro.MacroDef Global → Type 0
  DefsRun w3 defs = (known : Known) (ls : List Frames) (s : Noting) (vs : List Number) (ns : List (Named Identifier)) → Stands work w3 ls s → AreLocalMacros work s bs vs ns → AllMatch (IsMacroDef work s.unit s.form) defs.items (local_defs (noting known) s vs ns)

  abbrev pub NotesRun : UnitScope → UnitScope → Type 0
  NotesRun w3 w4 = (known : Known) (ls : List Frames) (s : Noting) (vs : List Number) (ns : List (Named Identifier)) → Stands work w3 ls s → AreLocalMacros work s bs vs ns → Stands work w4 ls ((noting known).ask (locals_asked (noting known) s vs ns) s)

  abbrev local_step_of : ℕ → Known → Frames → Step Noting Core
  local_step_of turns known fs = macros_step again (expand (noting known) turns) (noting known) at.depth at.here fs m

  pub rules_look : CanLook work u at.scope → CanLook work w1 rules_at
  rules_look l = record {
    layout = bound_layout l.layout l.state l.frames l.stands l.at;
    state = bound_state l.layout l.state l.frames l.stands l.at;
    frames = frames_of_rules l.layout l.state l.frames l.stands l.at;
    stands = bound_stands l.layout l.state l.frames l.stands l.at;
    at = rules_there l.layout l.state l.frames l.stands l.at;
  }

  pub local_untested : {V : Type 0} (Q : List Frames → V → Core → Type 0) (turns : ℕ) (wt : UnitScope) (x : ExpandFault) → TestsRun wt (Err x) → Runs Q work work region u wt at.scope (Err x) (local_step_of turns)
  local_untested Q turns wt x tests = λ known ls s fs knows e there.
      from_bound ls s fs e there Q known turns work wt (Err x)
      (heads_fail ls s fs e there Q known turns wt x (tests known region (bound_layout ls s fs e there) (bound_state ls s fs e there) (frames_of_rules ls s fs e there) m.names m.rules (bound_stands ls s fs e there) (rules_there ls s fs e there) are))

  module _ (wt : UnitScope) (passed : Unit {0}) (tests : TestsRun wt (Ok passed)) where
    tested_at : (known : Known) (ls : List Frames) (s : Noting) (fs : Frames) (e : Stands work u ls s) (there : At ls at.scope fs) → HeadsEnd ls s fs e there known wt (Ok passed)
    tested_at known ls s fs e there = tests known region (bound_layout ls s fs e there) (bound_state ls s fs e there) (frames_of_rules ls s fs e there) m.names m.rules (bound_stands ls s fs e there) (rules_there ls s fs e there) are

    from_tested : {V : Type 0} (Q : List Frames → V → Core → Type 0) (known : Known) (turns : ℕ) (new : Work) (v : UnitScope) (result : Result V ExpandFault) (ls : List Frames) (s : Noting) (fs : Frames) (e : Stands work u ls s) (there : At ls at.scope fs) →
        Ends Q work new region wt v (bound_layout ls s fs e there) result (node_step ls s fs e there known turns (tested_at known ls s fs e there).0 (tested_state ls s fs e there known)) → Ends Q work new region u v ls result (local_step_of turns known fs s)
    from_tested Q known turns new v result ls s fs e there ends =
        from_bound ls s fs e there Q known turns new v result (heads_go ls s fs e there Q known turns wt passed (tested_at known ls s fs e there) new v result ends)

    pub tested_look : CanLook work u at.scope → CanLook work wt rules_at
    tested_look l =
        let k = all_known u.libraries in
        let q = tested_at k.0 l.layout l.state l.frames l.stands l.at in
        record {
          layout = bound_layout l.layout l.state l.frames l.stands l.at;
          state = tested_state l.layout l.state l.frames l.stands l.at k.0;
          frames = frames_of_rules l.layout l.state l.frames l.stands l.at;
          stands = q.1.stands;
          at = rules_there l.layout l.state l.frames l.stands l.at;
        }

    pub local_heads : CanLook work u at.scope → HaveHeads work macros
    local_heads l =
        let k = all_known u.libraries in
        let q = tested_at k.0 l.layout l.state l.frames l.stands l.at in
        (m.names, m.rules, q.0, are, heads_tell k.0 at.here (frames_of_rules l.layout l.state l.frames l.stands l.at) m.rules (bound_state l.layout l.state l.frames l.stands l.at) q.0 q.2)

    module _ (w2 : UnitScope) where
      pub local_unbegun : {V : Type 0} (Q : List Frames → V → Core → Type 0) (turns : ℕ) (x : ExpandFault) → BeginsBelow wt w2 at 1 (Err x) → Runs Q work work region u w2 at.scope (Err x) (local_step_of turns)
      local_unbegun Q turns x b = λ known ls s fs knows e there.
          from_tested Q known turns work w2 (Err x) ls s fs e there (unbegun ls s fs e there known turns knows wt passed (tested_at known ls s fs e there) w2 Q x b)

      module _ (below : code_at.At) (b : BeginsBelow wt w2 at 1 (Ok below)) where
        pub begun_rules_look : CanLook work u at.scope → CanLook work w2 rules_at
        begun_rules_look l = begins_look work wt w2 rules_at at.here 1 at.depth below.depth (tested_look l) b.2

        keeps_at : (w3 : UnitScope) (result : Result (Unit {0}) ExpandFault) → KeepsRun w2 w3 result → (known : Known) (turns : ℕ) (knows : Knows u.libraries known) (ls : List Frames) (s : Noting) (fs : Frames) (e : Stands work u ls s) (there : At ls at.scope fs) →
            Stands work w2 (bound_layout ls s fs e there) (begun ls s fs e there known turns knows wt passed (tested_at known ls s fs e there) w2 below b) → Kept ls s fs e there known turns knows wt passed (tested_at known ls s fs e there) w2 below b w3 result
        keeps_at w3 result keeps known turns knows ls s fs e there now =
            let q = tested_at known ls s fs e there in
            keeps known region (bound_layout ls s fs e there) (begun ls s fs e there known turns knows wt passed q w2 below b) (frames_of_rules ls s fs e there) m.names m.rules (macro_numbers ls s fs e there) q.0 now (rules_there ls s fs e there) are
            (kept_numbers ls s fs e there known turns knows wt passed q w2 below b) (rules_are ls s fs e there known turns knows wt passed q w2 below b)

        pub local_unkept : {V : Type 0} (Q : List Frames → V → Core → Type 0) (turns : ℕ) (w3 : UnitScope) (x : ExpandFault) → KeepsRun w2 w3 (Err x) → Runs Q work work region u w3 at.scope (Err x) (local_step_of turns)
        local_unkept Q turns w3 x keeps = λ known ls s fs knows e there.
            let q = tested_at known ls s fs e there in
            from_tested Q known turns work w3 (Err x) ls s fs e there
            (from_begun ls s fs e there known turns knows wt passed q w2 below b Q work w3 (Err x)
            (λ now. kept_fails ls s fs e there known turns knows wt passed q w2 below b Q w3 x (keeps_at w3 (Err x) keeps known turns knows ls s fs e there now)))

        module _ (w3 : UnitScope) (done_so : Unit {0}) (keeps : KeepsRun w2 w3 (Ok done_so)) where
          -- what there is once the macros were kept
          pub record IsKept : Type 0 where
            pub keep : CanKeep work w3 bs
            pub look : CanLook work w3 inner
            pub same : SameForm w2 w3

          pub kept_there : CanLook work u at.scope → IsKept
          kept_there l =
              let k = all_known u.libraries in
              let q = tested_at k.0 l.layout l.state l.frames l.stands l.at in
              let now = spends_stand work region wt w2 (bound_layout l.layout l.state l.frames l.stands l.at) (tested_state l.layout l.state l.frames l.stands l.at k.0) at below 1 q.1.stands b in
              let kept = keeps_at w3 (Ok done_so) keeps k.0 0 k.1 l.layout l.state l.frames l.stands l.at now in
              record {
                keep = can_keep l.layout l.state l.frames l.stands l.at k.0 0 k.1 wt passed q w2 below b w3 done_so kept;
                look = inner_look l.layout l.state l.frames l.stands l.at k.0 0 k.1 wt passed q w2 below b w3 done_so kept;
                same = kept.1.same;
              }

          module _ (w4 : UnitScope) (same : w4 ≡ with_notes w3 w4.form.trace.notes) (notes : NotesRun w3 w4) (new : Work) (v : UnitScope) (turns : ℕ) where
            abbrev pub LocalBody : Result code_core.Core ExpandFault → Type 0
            LocalBody result = Runs (λ (layout : List Frames). CoreStands new v.unit v.form.number) work new region w4 v inner result (λ known fs. expand (noting known) turns below.depth below.here fs (body m.body))

            pub local_body_fails : {V : Type 0} (Q : List Frames → V → Core → Type 0) (x : ExpandFault) → LocalBody (Err x) → Runs Q work new region u v at.scope (Err x) (local_step_of turns)
            local_body_fails Q x runs = λ known ls s fs knows e there.
                let q = tested_at known ls s fs e there in
                from_tested Q known turns new v (Err x) ls s fs e there
                (from_begun ls s fs e there known turns knows wt passed q w2 below b Q new v (Err x)
                (λ now.
                let kept = keeps_at w3 (Ok done_so) keeps known turns knows ls s fs e there now in
                let binders = kept_binders ls s fs e there known turns knows wt passed q w2 below b w3 done_so kept in
                let asked = notes known (bound_layout ls s fs e there) (kept_state ls s fs e there known turns knows wt passed q w2 below b) (macro_numbers ls s fs e there) m.names kept.1.stands binders in
                after_kept ls s fs e there known turns knows wt passed q w2 below b w3 done_so kept Q new v (Err x) (body_fails ls s fs e there known turns knows wt passed q w2 below b w3 done_so kept w4 same asked new v Q x runs)))

            pub local_body_goes : (defs : Vec code_macro.MacroDef Global) (y : Box code_core.Core) → DefsRun w3 defs → LocalBody (Ok y.value) →
                Runs (λ (layout : List Frames). CoreStands new v.unit v.form.number) work new region u v at.scope (Ok (cores.LetSyntax defs y)) (local_step_of turns)
            local_body_goes defs y told runs = λ known ls s fs knows e there.
                let Q : List Frames → code_core.Core → Core → Type 0 = λ layout. CoreStands new v.unit v.form.number in
                let q = tested_at known ls s fs e there in
                from_tested Q known turns new v (Ok (cores.LetSyntax defs y)) ls s fs e there
                (from_begun ls s fs e there known turns knows wt passed q w2 below b Q new v (Ok (cores.LetSyntax defs y))
                (λ now.
                let kept = keeps_at w3 (Ok done_so) keeps known turns knows ls s fs e there now in
                let state = kept_state ls s fs e there known turns knows wt passed q w2 below b in
                let binders = kept_binders ls s fs e there known turns knows wt passed q w2 below b w3 done_so kept in
                let asked = notes known (bound_layout ls s fs e there) state (macro_numbers ls s fs e there) m.names kept.1.stands binders in
                after_kept ls s fs e there known turns knows wt passed q w2 below b w3 done_so kept Q new v (Ok (cores.LetSyntax defs y))
                (body_goes ls s fs e there known turns knows wt passed q w2 below b w3 done_so kept w4 same asked new v defs y
                (told known (bound_layout ls s fs e there) state (macro_numbers ls s fs e there) m.names kept.1.stands binders) runs)))

-- ---- how many there are

pub macros_few : (work : Work) (macros : List LocalMacro) (xs : List NamePart) → MacrosAtWork work macros → xs ≡ map (λ (m : LocalMacro). m.name) macros → length xs ≤ 4194304
macros_few work macros xs h is =
    let names = subst (λ (l : List NamePart). AllParts (IsName work) l h.0) (sym is) (macros_named work macros h.0 h.1 h.2) in
    omega (arith, names_count (IsName work) xs h.0 names, h.3)

local_count : (n : ℕ) (xs : List NamePart) → length (local_binders n xs) ≡ length xs
local_count n [] = refl
local_count n (x ∷ xs) = ap suc (local_count (n + 1) xs)

pub binders_count : (work : Work) (macros : List LocalMacro) (xs : List NamePart) (bs : List code_binder.Binder) (n : ℕ) → MacrosAtWork work macros → xs ≡ map (λ (m : LocalMacro). m.name) macros → bs ≡ local_binders n xs → (ys : List code_binder.Binder) → ys ≡ bs → length ys ≡ length macros
binders_count work macros xs bs n h is bound ys same =
    let names = subst (λ (l : List NamePart). AllParts (IsName work) l h.0) (sym is) (macros_named work macros h.0 h.1 h.2) in
    ap length same ∙ (ap length bound ∙ (local_count n xs ∙ (names_count (IsName work) xs h.0 names ∙ sym (names_of_macros work macros h.0 h.1 h.2))))
