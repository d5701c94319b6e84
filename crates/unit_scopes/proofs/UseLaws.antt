-- A macro use, step by step: what each comes to in the definition, and that the state stands.
use Rattle.std.proofs.Common.{◌≡◌, ℕ, ◌+◌, ◌-◌, ◌<◌, ◌≤◌, List, [], ◌∷◌, map, slice_get, true, false, cond, Option, Some, None, Result, Ok, Err, Bor, inl, inr, refl, sym, ap, ◌∙◌, subst, arith}
use Rattle.std.specs.Prelude.{nat_lt, Vec, IfSome}
use Rattle.std.specs.declared.alloc.Global.{Global}
use Rattle.std.proofs.lemmas.Bool.Decides.{nat_tests}
use Rattle.std.specs.Option.{option_copied}
use Rattle.std.proofs.lemmas.Option.{same_Some}
use Rattle.scheme_model.specs.declared.Occ.{Occ}
use Rattle.scheme_model.specs.Identifiers.{Number}
use Rattle.scheme_model.specs.Ident.{Ident as Identifier}
use Rattle.scheme_model.specs.Trees.{Tree, name, Trees, Tail}
use Rattle.scheme_model.specs.ExpansionFaults.{Named, named, Fault, NoRule, UseBudget, EllipsisLength, NodeBudget, DepthBudget}
use Rattle.scheme_model.specs.Requirements.{Known}
use Rattle.scheme_model.specs.RulesShape.{Rules, role_of, dots_of}
use Rattle.scheme_model.specs.Matching.{Chosen, matcher, first_match, compared}
use Rattle.scheme_model.specs.Building.{Built}
use Rattle.scheme_model.specs.Meaning.{same_meaning}
use Rattle.scheme_model.specs.Cores.{Target}
use Rattle.scheme_model.specs.Steps.{Broken, ◌>>=◌, done}
use Rattle.scheme_model.specs.Order.{WaitingUse, Instance, Transformer, given, has_use, comparisons, use_of}
use Rattle.scheme_model.specs.Order as order
use Rattle.scheme_model.specs.CountedExpansion.{means_here}
use Rattle.scheme_model.specs.ScopedExpansion.{Frames, ScopedState, next_number, macro_at}
use Rattle.scheme_model.proofs.Distinct.{ok_same}
use Rattle.syntax_tree.specs.Names.{AreToldApart}
use Rattle.syntax_tree.specs.Macros.{identifiers, RulesFor, MatchedFor, AreLeaves}
use Rattle.syntax_tree.specs.Meant.{IsMeaning}
use Rattle.syntax_tree.specs.Works.{StandsFor, CanName, KeepsTrees, live_count}
use Rattle.syntax_tree.specs.declared.rules.IdPair.{IdPair}
use Rattle.syntax_tree.specs.declared.rules.Matched.{Matched}
use Rattle.syntax_tree.specs.declared.trees.Work.{Work}
use Rattle.syntax_tree.specs.declared.trees.nodes.Tree as number
use Rattle.syntax_tree.specs.declared.trees.table.Region.{Region}
use Rattle.syntax_tree.proofs.Places.{none_some}
use Rattle.rules_match.specs.Matches.{means_same}
use Rattle.rules_build.specs.Builds.{instance, Builds, CountsNodes}
use Rattle.rules_build.specs.declared.fault.BuildFault.{BuildFault}
use Rattle.rules_build.specs.declared.fault.BuildFault.TheVariants as builds
use Rattle.core_forms.specs.declared.shape.NamePart.{NamePart}
use Rattle.core_forms.specs.Parts.{IsName}
use Rattle.core_tree.specs.Names.{AllMatch, IsTarget}
use Rattle.core_tree.specs.Traces.{IsFault}
use Rattle.core_tree.specs.declared.cores.Target as code_target
use Rattle.unit_scopes.specs.Counts.{named_fault, with_nodes}
use Rattle.feature_requirements.specs.Faults.{plain_fault}
use Rattle.unit_scopes.specs.Macros.{macro_in}
use Rattle.unit_scopes.specs.Searched.{searched}
use Rattle.unit_scopes.specs.State.{IsMacro, IsMacroIfAny, Stands}
use Rattle.unit_scopes.specs.Stepped.{spent, used, with_use_begun}
use Rattle.unit_scopes.specs.Used.{UseFor, CanUse, HasMatch, AreHeld, match_of_use, FindsUse, use_number, build_fault, comparison_of, FailsToBuild, InstanceFor, Instances}
use Rattle.unit_scopes.specs.Outcomes.{At, Grows, Leaves, Stays, MayFill, EndsHere}
use Rattle.feature_requirements.specs.declared.fault.ExpandFault.{ExpandFault}
use Rattle.feature_requirements.specs.declared.fault.ExpandFault.TheVariants as fault
use Rattle.unit_scopes.specs.declared.macros.Macro.{Macro}
use Rattle.unit_scopes.specs.declared.scope.UnitScope.{UnitScope}
use Rattle.unit_scopes.specs.declared.uses.Instance as code_instance
use Rattle.unit_scopes.specs.declared.uses.Use as code
use Rattle.unit_scopes.proofs.CountingStands.{nodes_stand}
use Rattle.unit_scopes.proofs.GrowthStands.{growth_stands, target_on}
use Rattle.scheme_model.proofs.MatchedLaws.{Agree, first_match_same}
use Rattle.unit_scopes.proofs.OutcomeLaws.{grows_itself, numbers_stay, stays_itself}
use Rattle.unit_scopes.proofs.UsesStand.{use_begins}

-- ---- the macro that the keyword means

macro_by : (work : Work) (ls : List Frames) (o : Option Macro) (p : Option (Transformer Frames Identifier)) (m : Transformer Frames Identifier) → p ≡ Some m → IsMacroIfAny work ls o p → (k : Macro) × (o ≡ Some k) × IsMacro work ls k m
macro_by work ls None None m is h = none_some m is
macro_by work ls None (Some t) m is h = absurd h
macro_by work ls (Some k) None m is h = absurd h
macro_by work ls (Some k) (Some t) m is h = (k, refl, subst (λ (x : Transformer Frames Identifier). IsMacro work ls k x) (same_Some t m is) h)

pub macro_there : (work : Work) (u : UnitScope) (ls : List Frames) (s : ScopedState) (at : code.Use) (keyword : Target) (m : Transformer Frames Identifier) (ts : Trees Identifier) (tail : Tail Identifier) → Stands work u ls s → UseFor work s at keyword m ts tail →
    (k : Macro) × (macro_in u.macros u.form.number at.keyword.meaning ≡ Some k) × IsMacro work ls k m
macro_there work u ls s at keyword m ts tail e for =
    macro_by work ls (macro_in u.macros u.form.number at.keyword.meaning) (macro_at s.macros keyword.meaning) m for.macro
    (e.macros.there u.form.number at.keyword.meaning keyword.meaning (subst (λ (n : ℕ). IsMeaning work.symbols s.unit n at.keyword.meaning keyword.meaning) (sym e.form.number) for.target.meaning))

-- the macro that was found is this one
pub macro_is : (work : Work) (ls : List Frames) (o : Option Macro) (k : Macro) (m : Transformer Frames Identifier) → o ≡ Some k → (l : Macro) × (o ≡ Some l) × IsMacro work ls l m → IsMacro work ls k m
macro_is work ls o k m is h = subst (λ (x : Macro). IsMacro work ls x m) (same_Some h.0 k (sym h.1 ∙ is)) h.2

-- ---- the rule that matches

agrees : (work : Work) (s : ScopedState) (gs fs : Frames) (same : List IdPair) (qs : List (Identifier × Identifier)) → AreHeld work s gs fs same qs →
    Agree Identifier Identifier (means_same work same) (λ l j. same_meaning (means_here s gs l) (means_here s fs j)) qs
agrees work s gs fs same [] h = tt
agrees work s gs fs same (q ∷ qs) h = (h.0, agrees work s gs fs same qs h.1)

pub matches_same : (work : Work) (s : ScopedState) (fs : Frames) (m : Transformer Frames Identifier) (same : List IdPair) (ts : Trees Identifier) (tail : Tail Identifier) →
    AreHeld work s m.env fs same (compared (role_of identifiers m.rules) (dots_of identifiers m.rules) m.rules.rules ts tail) →
    first_match (matcher identifiers m.rules (means_same work same)) m.rules.rules ts tail ≡ match_of_use s fs m ts tail
matches_same work s fs m same ts tail held =
    first_match_same Identifier Identifier (role_of identifiers m.rules) (dots_of identifiers m.rules) (means_same work same) (λ l j. same_meaning (means_here s m.env l) (means_here s fs j)) m.rules.rules ts tail
    (agrees work s m.env fs same (compared (role_of identifiers m.rules) (dots_of identifiers m.rules) m.rules.rules ts tail) held)

pub found_is : (work : Work) (r : Rules Identifier) (o p : Option (Chosen Identifier Identifier)) (matched : Matched) → o ≡ p → (c : Chosen Identifier Identifier) × (o ≡ Some c) × MatchedFor work matched r c → FindsUse work r p (Some matched)
found_is work r o p matched e h = subst (λ (x : Option (Chosen Identifier Identifier)). FindsUse work r x (Some matched)) (sym h.1 ∙ e) h.2

pub nothing_is : (work : Work) (r : Rules Identifier) (o p : Option (Chosen Identifier Identifier)) → o ≡ p → o ≡ None → FindsUse work r p None
nothing_is work r o p e h = subst (λ (x : Option (Chosen Identifier Identifier)). FindsUse work r x None) (sym h ∙ e) tt

pub chosen_by : (work : Work) (r : Rules Identifier) (p : Option (Chosen Identifier Identifier)) (matched : Matched) → FindsUse work r p (Some matched) → (c : Chosen Identifier Identifier) × (p ≡ Some c) × MatchedFor work matched r c
chosen_by work r None matched h = absurd h
chosen_by work r (Some c) matched h = (c, refl, h)

pub none_by : (work : Work) (r : Rules Identifier) (p : Option (Chosen Identifier Identifier)) → FindsUse work r p None → p ≡ None
none_by work r None h = refl
none_by work r (Some c) h = absurd h

pub nothing_found : (work : Work) (r : Rules Identifier) (p : Option (Chosen Identifier Identifier)) (o : Option Matched) → ((x : Matched) → o ≡ Some x → ⊥) → FindsUse work r p o → p ≡ None
nothing_found work r p None none h = none_by work r p h
nothing_found work r p (Some x) none h = absurd (none x refl)

pub chosen_in : (work : Work) (r : Rules Identifier) (p : Option (Chosen Identifier Identifier)) (o : Option Matched) (matched : Matched) → o ≡ Some matched → FindsUse work r p o → (c : Chosen Identifier Identifier) × (p ≡ Some c) × MatchedFor work matched r c
chosen_in work r p o matched is h = chosen_by work r p matched (subst (λ (x : Option Matched). FindsUse work r p x) is h)

pub has_match : (work : Work) (region : Region) (u : UnitScope) (at : code.Use) (o : Option Matched) (matched : Matched) → o ≡ Some matched → IfSome o (λ x. HasMatch work region u at x) → HasMatch work region u at matched
has_match work region u at o matched is h = subst (λ (x : Option Matched). IfSome x (λ y. HasMatch work region u at y)) is h

-- the same once the use was begun
pub has_match_then : (work : Work) (region : Region) (u v : UnitScope) (at : code.Use) (matched : Matched) (scope : ℕ) → v ≡ with_use_begun u scope → HasMatch work region u at matched → HasMatch work region v at matched
has_match_then work region u v at matched scope is h =
    subst (λ (w : UnitScope). HasMatch work region w at matched) (sym is) (record { used = h.used; macro = h.macro; of_rules = h.of_rules; named = h.named })

-- ---- the leaves that met literals still stand in a work that grew

pub leaves_on : (a b : Work) (ns : List number.Tree) (is : List (Named Identifier)) → KeepsTrees a b → AreLeaves a ns is → AreLeaves b ns is
leaves_on a b [] [] keeps h = tt
leaves_on a b [] (i ∷ is) keeps h = absurd h
leaves_on a b (n ∷ ns) [] keeps h = absurd h
leaves_on a b (n ∷ ns) (i ∷ is) keeps h = (keeps.trees n (name i.name i.occ) h.0, leaves_on a b ns is keeps h.1)

-- ---- an instance

-- nodes that were left are left again, and those that were taken are counted
pub left_again : (u : UnitScope) (left : ℕ) → u.form.budget.nodes ≤ 200000 → left ≡ 200000 - u.form.budget.nodes → record u { form = record u.form { budget = record u.form.budget { nodes = 200000 - left } } } ≡ u
left_again u left few e =
    let n : 200000 - left ≡ u.form.budget.nodes = omega (arith, e) in
    λ j. record u { form = record u.form { budget = record u.form.budget { nodes = n j } } }

pub left_less : (u : UnitScope) (left count : ℕ) → u.form.budget.nodes ≤ 200000 → left + count ≡ 200000 - u.form.budget.nodes → record u { form = record u.form { budget = record u.form.budget { nodes = 200000 - left } } } ≡ with_nodes u count
left_less u left count few e =
    let n : 200000 - left ≡ u.form.budget.nodes + count = omega (arith, e) in
    λ j. record u { form = record u.form { budget = record u.form.budget { nodes = n j } } }

pub instance_fails : (old new : Work) (region : Region) (u v : UnitScope) (here : Option Occ) (s : Result (Built (Tree Identifier)) (Fault Identifier)) (left : ℕ) (e : BuildFault) → u.form.budget.nodes ≤ 200000 →
    v ≡ record u { form = record u.form { budget = record u.form.budget { nodes = 200000 - left } } } → Builds new (200000 - u.form.budget.nodes) left s (Err e) → CountsNodes old new (200000 - u.form.budget.nodes) s (Err e) →
    (e ≡ builds.Full → MayFill old u) → Instances old new region u v here s (Err (build_fault here e))
instance_fails old new region u v here s left builds.EllipsisLength few is b n full = (is ∙ left_again u left few b.1, n, inl (b.0, refl))
instance_fails old new region u v here s left builds.NodeBudget few is b n full = (is ∙ left_again u left few b.1, n, inr (inl (b.0, refl)))
instance_fails old new region u v here s left builds.DepthBudget few is b n full = (is ∙ left_again u left few b.1, n, inr (inr (b.0, refl)))
instance_fails old new region u v here s left builds.Full few is b n full = (full refl, n)
instance_fails old new region u v here s left builds.Memory few is b n full = n

-- ---- the steps of the definition

module _ (known : Known) (here : Option Occ) (fs : Frames) (keyword : Target) (m : Transformer Frames Identifier) (ts : Trees Identifier) (tail : Tail Identifier) (s : ScopedState) where
  abbrev Ends : Type 0
  Ends = Result (Instance Identifier) Broken × ScopedState

  abbrev step : Ends
  step = use_of (searched known) here fs keyword m ts tail s

  abbrev begun : ScopedState
  begun = used m.env s

  abbrev k : Number
  k = next_number s s.uses

  abbrev matched_step : Option (Chosen Identifier Identifier) → Ends
  matched_step o = order.used (searched known) here keyword m k o begun

  abbrev over : Ends
  over = (Err (record { fault = UseBudget; here = here }), s)

  use_over : s.uses s.form ≡ 10000 → step ≡ over
  use_over full =
      let out : nat_lt (s.uses s.form) 10000 ≡ false = grind (arith, nat_tests) in
      ap (λ b. cond b (matched_step (match_of_use s fs m ts tail)) over) out

  use_within : s.uses s.form < 10000 → step ≡ matched_step (match_of_use s fs m ts tail)
  use_within room =
      let lt : nat_lt (s.uses s.form) 10000 ≡ true = grind (arith, nat_tests) in
      ap (λ b. cond b (matched_step (match_of_use s fs m ts tail)) over) lt

  unmatched : s.uses s.form < 10000 → match_of_use s fs m ts tail ≡ None → step ≡ (Err (record { fault = NoRule (named keyword.ident keyword.occ); here = here }), begun)
  unmatched room none = use_within room ∙ ap matched_step none

  -- what the rule that matched gives
  abbrev built : Chosen Identifier Identifier → Result (Built (Tree Identifier)) (Fault Identifier)
  built c = instance m.rules k c (200000 - s.nodes s.form)

  abbrev waits_now : Chosen Identifier Identifier → WaitingUse Identifier
  waits_now c = record { keyword = keyword; literals = c.match.met }

  abbrev built_step : Chosen Identifier Identifier → Result (Built (Tree Identifier)) (Fault Identifier) → Ends
  built_step c r = given (λ (i : Identifier). i) here r begun >>= λ b t. done (record { tree = b.value; met = waits_now c }) (spent b.count t)

  matched_as : (c : Chosen Identifier Identifier) → s.uses s.form < 10000 → match_of_use s fs m ts tail ≡ Some c → step ≡ built_step c (built c)
  matched_as c room found = use_within room ∙ ap matched_step found

  -- ---- the code's step

  module _ (work : Work) (region : Region) (u : UnitScope) (ls : List Frames) (e : Stands work u ls s) (P : code_instance.Instance → Instance Identifier → Type 0) where
    pub over_ends : u.form.budget.uses ≡ 10000 → EndsHere P work work region u u ls (Err (plain_fault here 44)) step
    over_ends full =
        subst (λ (q : Ends). EndsHere P work work region u u ls (Err (plain_fault here 44)) q) (sym (use_over (sym e.form.uses ∙ full)))
        (stays_itself work region u ls s e, (record { fault = UseBudget; here = here }, refl, record { code = refl; name = tt; place = refl; here = refl; text = refl }))

    module _ (scope : ℕ) (there : At ls scope m.env) (few : u.form.budget.uses < 10000) where
      room : s.uses s.form < 10000
      room = omega (arith, e.form.uses)

      pub begun_stands : Stands work (with_use_begun u scope) ls begun
      begun_stands = use_begins work u ls s scope m.env there (omega (arith, few)) e

      begun_stays : Stays work work region u (with_use_begun u scope) ls begun
      begun_stays = record { stands = begun_stands; work = grows_itself work region; counted = omega arith; same = record { unit = refl; number = refl; root = refl; libraries = refl; roots = refl; uses = omega arith; nodes = omega arith; numbers = numbers_stay u (with_use_begun u scope) refl refl } }

      pub unmatched_ends : (x : code_target.Target) (n : NamePart) → IsTarget work.symbols s.unit s.form x keyword → n.ident ≡ x.ident → n.occ ≡ x.occ → match_of_use s fs m ts tail ≡ None →
          EndsHere P work work region u (with_use_begun u scope) ls (Err (named_fault here 26 n)) step
      unmatched_ends x n is ident occ none =
          subst (λ (q : Ends). EndsHere P work work region u (with_use_begun u scope) ls (Err (named_fault here 26 n)) q) (sym (unmatched room none)) (
            begun_stays,
            (
              record { fault = NoRule (named keyword.ident keyword.occ); here = here },
              refl,
              record {
                code = refl;
                name = subst (λ (y : ℕ). slice_get work.symbols.idents y ≡ Some keyword.ident) (sym ident) is.ident;
                place = occ ∙ is.place;
                here = refl;
                text = refl;
              },
            ),
          )

      -- ---- the instance fails

      broken_as : (c : Chosen Identifier Identifier) (r : Result (Built (Tree Identifier)) (Fault Identifier)) (b : Broken) (which : ℕ) → match_of_use s fs m ts tail ≡ Some c → built c ≡ r → built_step c r ≡ (Err b, begun) →
          IsFault work.symbols (record { code = which; name = None; occ = None; here = here; text = None }) b → EndsHere P work work region u (with_use_begun u scope) ls (Err (plain_fault here which)) step
      broken_as c r b which found is so broken =
          subst (λ (q : Ends). EndsHere P work work region u (with_use_begun u scope) ls (Err (plain_fault here which)) q) (sym (matched_as c room found ∙ ap (built_step c) is ∙ so))
          (begun_stays, (b, refl, broken))

      broken_by : (c : Chosen Identifier Identifier) (x : ExpandFault) → match_of_use s fs m ts tail ≡ Some c → FailsToBuild here x (built c) → EndsHere P work work region u (with_use_begun u scope) ls (Err x) step
      broken_by c x found (inl h) =
          subst (λ (y : ExpandFault). EndsHere P work work region u (with_use_begun u scope) ls (Err y) step) (sym h.1)
          (broken_as c (Err EllipsisLength) (record { fault = EllipsisLength; here = here }) 27 found h.0 refl (record { code = refl; name = tt; place = refl; here = refl; text = refl }))
      broken_by c x found (inr (inl h)) =
          subst (λ (y : ExpandFault). EndsHere P work work region u (with_use_begun u scope) ls (Err y) step) (sym h.1)
          (broken_as c (Err NodeBudget) (record { fault = NodeBudget; here = here }) 45 found h.0 refl (record { code = refl; name = tt; place = refl; here = refl; text = refl }))
      broken_by c x found (inr (inr h)) =
          subst (λ (y : ExpandFault). EndsHere P work work region u (with_use_begun u scope) ls (Err y) step) (sym h.1)
          (broken_as c (Err DepthBudget) (record { fault = DepthBudget; here = here }) 46 found h.0 refl (record { code = refl; name = tt; place = refl; here = refl; text = refl }))

      -- the number and the nodes of the code are those of the state
      pub built_same : (c : Chosen Identifier Identifier) (l : Number) → l ≡ use_number u → instance m.rules l c (200000 - u.form.budget.nodes) ≡ built c
      built_same c l is =
          let number : use_number u ≡ k = λ j. record { unit = e.unit j; form = e.form.number j; count = e.form.uses j } in
          λ j. instance m.rules ((is ∙ number) j) c (200000 - e.form.nodes j)

      pub as_built : (new : Work) (w v : UnitScope) (c : Chosen Identifier Identifier) (l : Number) (r : Result number.Tree ExpandFault) → w ≡ with_use_begun u scope → l ≡ use_number u →
          Instances work new region w v here (instance m.rules l c (200000 - w.form.budget.nodes)) r → Instances work new region (with_use_begun u scope) v here (built c) r
      as_built new w v c l r is number h =
          subst (λ (q : Result (Built (Tree Identifier)) (Fault Identifier)). Instances work new region (with_use_begun u scope) v here q r) (built_same c l number)
          (subst (λ (x : UnitScope). Instances work new region x v here (instance m.rules l c (200000 - x.form.budget.nodes)) r) is h)

      -- the instance wasn't built
      pub failed_ends : (new : Work) (v : UnitScope) (c : Chosen Identifier Identifier) (x : ExpandFault) → match_of_use s fs m ts tail ≡ Some c → Grows work new region → Instances work new region (with_use_begun u scope) v here (built c) (Err x) → EndsHere P work new region u v ls (Err x) step
      failed_ends new v c (fault.At f) found grows h =
          subst (λ (w : UnitScope). EndsHere P work new region u w ls (Err (fault.At f)) step) (sym h.0)
          (subst (λ (w : Work). EndsHere P work w region u (with_use_begun u scope) ls (Err (fault.At f)) step) (sym h.1) (broken_by c (fault.At f) found h.2))
      failed_ends new v c fault.Full found grows h = (record { work = grows; few = omega (arith, h.1, e.form.few_nodes) }, h.0)
      failed_ends new v c fault.Memory found grows h = record { work = grows; few = omega (arith, h, e.form.few_nodes) }

      -- ---- the instance stands

      module _ (new : Work) (grows : Grows work new region) (apart : AreToldApart new.symbols.idents) (told : AreToldApart new.symbols.symbols) (b : Built (Tree Identifier)) (within : u.form.budget.nodes + b.count ≤ 200000) where
        abbrev grown : UnitScope
        grown = with_nodes (with_use_begun u scope) b.count

        pub grown_stands : Stands new grown ls (spent b.count begun)
        grown_stands = nodes_stand new (with_use_begun u scope) ls begun b.count within (growth_stands work new grows.trees grows.names apart told (with_use_begun u scope) ls begun begun_stands)

        pub use_ends : (c : Chosen Identifier Identifier) (n : number.Tree) (x : code_target.Target) (names : Vec NamePart Global) → match_of_use s fs m ts tail ≡ Some c → built c ≡ Ok b → StandsFor new n b.value → CanName new region n → live_count new ≤ live_count work + b.count →
            IsTarget work.symbols s.unit s.form x keyword → AllMatch (IsName new) names.items c.match.met →
            EndsHere (InstanceFor new region u.unit u.form.number) work new region u grown ls (Ok (record { tree = n; met = record { keyword = x; literals = names } })) step
        use_ends c n x names found is stands can few target literals =
            let now = target_on work new grows.trees grows.names apart told s.unit s.form x keyword target in
            subst (λ (q : Ends). EndsHere (InstanceFor new region u.unit u.form.number) work new region u grown ls (Ok (record { tree = n; met = record { keyword = x; literals = names } })) q) (sym (matched_as c room found ∙ ap (built_step c) is)) (
              record { tree = b.value; met = waits_now c },
              record {
                stands = grown_stands;
                work = grows;
                counted = omega (arith, few);
                same = record { unit = refl; number = refl; root = refl; libraries = refl; roots = refl; uses = omega arith; nodes = omega arith; numbers = numbers_stay u grown refl refl };
              },
              refl,
              (
                (stands, can),
                record { keyword = subst (λ (v : ℕ). IsTarget new.symbols v u.form.number x keyword) (sym e.unit) (subst (λ (f : ℕ). IsTarget new.symbols s.unit f x keyword) (sym e.form.number) now); literals = literals },
              ),
            )

-- a use that begins is within the budget
pub begins_within : (known : Known) (work : Work) (u : UnitScope) (ls : List Frames) (s : ScopedState) → Stands work u ls s → u.form.budget.uses < 10000 → has_use (searched known) s ≡ true
begins_within known work u ls s e few = let same = e.form.uses in let lt : nat_lt (s.uses s.form) 10000 ≡ true = grind (arith, nat_tests) in lt

-- one that the budget refuses compares nothing
pub none_compared : (known : Known) (work : Work) (u : UnitScope) (ls : List Frames) (s : ScopedState) (fs : Frames) (m : Transformer Frames Identifier) (ts : Trees Identifier) (tail : Tail Identifier) → Stands work u ls s → u.form.budget.uses ≡ 10000 →
    comparisons (searched known) fs m ts tail s ≡ []
none_compared known work u ls s fs m ts tail e full =
    let same = e.form.uses in
    let out : nat_lt (s.uses s.form) 10000 ≡ false = grind (arith, nat_tests) in
    ap (λ b. cond b (map (comparison_of s m.env fs) (compared (role_of identifiers m.rules) (dots_of identifiers m.rules) m.rules.rules ts tail)) []) out

-- any other compares each literal
pub each_compared : (known : Known) (work : Work) (u : UnitScope) (ls : List Frames) (s : ScopedState) (fs : Frames) (m : Transformer Frames Identifier) (ts : Trees Identifier) (tail : Tail Identifier) → Stands work u ls s → u.form.budget.uses < 10000 →
    comparisons (searched known) fs m ts tail s ≡ map (comparison_of s m.env fs) (compared (role_of identifiers m.rules) (dots_of identifiers m.rules) m.rules.rules ts tail)
each_compared known work u ls s fs m ts tail e few =
    ap (λ b. cond b (map (comparison_of s m.env fs) (compared (role_of identifiers m.rules) (dots_of identifiers m.rules) m.rules.rules ts tail)) []) (begins_within known work u ls s e few)

-- ---- what the code knows before it answers

module _ (old new : Work) (region : Region) (u w v : UnitScope) (at : code.Use) (usable : CanUse old u at) (scope : ℕ) (matched : Matched) (l : Number) (n : number.Tree) where
  abbrev Built_for : Type 0
  Built_for =
      (k : Macro) (r : Rules Identifier) (m : Chosen Identifier Identifier) → macro_in w.macros w.form.number at.keyword.meaning ≡ Some k → RulesFor old k.rules r → MatchedFor old matched r m →
      Instances old new region w v at.here (instance r l m (200000 - w.form.budget.nodes)) (Ok n)

  module _ (few : u.form.budget.uses < 10000) (is : w ≡ with_use_begun u scope) (h : HasMatch old region w at matched) (built_for : Built_for) where
    abbrev found : Instances old new region w v at.here (instance h.of_rules.0 l h.of_rules.1 (200000 - w.form.budget.nodes)) (Ok n)
    found = built_for h.used h.of_rules.0 h.of_rules.1 h.macro h.of_rules.2 h.of_rules.3

    -- one use more was counted, and no local
    pub one_more : v.form.budget.uses ≡ u.form.budget.uses + 1
    one_more = ap (λ (x : UnitScope). x.form.budget.uses) found.4 ∙ ap (λ (x : UnitScope). x.form.budget.uses) is

    pub no_locals : v.form.budget.locals ≡ u.form.budget.locals
    no_locals = ap (λ (x : UnitScope). x.form.budget.locals) found.4 ∙ ap (λ (x : UnitScope). x.form.budget.locals) is

    within : u.form.budget.nodes + found.0.count ≤ 200000
    within = subst (λ (x : UnitScope). x.form.budget.nodes + found.0.count ≤ 200000) is found.5

    -- what is left for want of memory
    pub leaves_then : Grows old new region → Leaves old new region u
    leaves_then grows = record { work = grows; few = omega (arith, within, found.6) }

-- ---- what a look-up of a macro gave

pub copied_is : {X : Type 0} (o : Option (Bor X)) (b : Bor X) (k : X) → o ≡ Some b → option_copied o ≡ Some k → k ≡ b.now
copied_is o b k is h = same_Some k b.now (sym h ∙ ap option_copied is)

pub copied_some : {X P : Type 0} (o : Option (Bor X)) (k : X) → option_copied o ≡ Some k → ((b : Bor X) → o ≡ Some b → ⊥) → P
copied_some None k h none = none_some k h
copied_some (Some b) k h none = absurd (none b refl)

-- no more is left than there was
pub left_within : (new : Work) (old left : ℕ) (s : Result (Built (Tree Identifier)) (Fault Identifier)) (r : Result number.Tree BuildFault) → Builds new old left s r → left ≤ old
left_within new old left s (Ok n) h = omega (arith, h.3)
left_within new old left s (Err builds.EllipsisLength) h = omega (arith, h.1)
left_within new old left s (Err builds.NodeBudget) h = omega (arith, h.1)
left_within new old left s (Err builds.DepthBudget) h = omega (arith, h.1)
left_within new old left s (Err builds.Full) h = omega (arith, h)
left_within new old left s (Err builds.Memory) h = omega (arith, h)

pub instance_built : (old new : Work) (region : Region) (u : UnitScope) (here : Option Occ) (s : Result (Built (Tree Identifier)) (Fault Identifier)) (left : ℕ) (n : number.Tree) → u.form.budget.nodes ≤ 200000 →
    Builds new (200000 - u.form.budget.nodes) left s (Ok n) → CountsNodes old new (200000 - u.form.budget.nodes) s (Ok n) → CanName new region n →
    Instances old new region u (record u { form = record u.form { budget = record u.form.budget { nodes = 200000 - left } } }) here s (Ok n)
instance_built old new region u here s left n few b nodes can =
    let same : nodes.0 ≡ b.0 = ok_same (Fault Identifier) nodes.0 b.0 (sym nodes.1 ∙ b.1) in
    (b.0, b.1, b.2, can, left_less u left b.0.count few b.3, omega (arith, few, b.3), subst (λ (x : Built (Tree Identifier)). live_count new ≤ live_count old + x.count) same nodes.2)
