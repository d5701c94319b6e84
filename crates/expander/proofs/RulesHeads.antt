-- The heads of the rules of local macros, tested one after another.
use Rattle.std.proofs.Common.{◌≡◌, ℕ, zero, suc, ◌+◌, ◌<◌, ◌≤◌, List, [], ◌∷◌, ◌++◌, append_assoc, length, get_or, Some, Result, Ok, Err, refl, sym, ap, ◌∙◌, subst, arith}
use Rattle.scheme_model.specs.Trees.{Tree, Trees, no_trees, tree}
use Rattle.scheme_model.specs.Matching.{behind}
use Rattle.scheme_model.specs.ExpansionFaults.{Named}
use Rattle.scheme_model.specs.Ident.{Ident as Identifier}
use Rattle.scheme_model.specs.Requirements.{Known}
use Rattle.scheme_model.specs.Steps.{Broken, Step, ◌>>=◌, done}
use Rattle.scheme_model.specs.Order.{Here, RulesParts, rules_parts, rules_parts_of}
use Rattle.scheme_model.specs.Expression.{heads}
use Rattle.scheme_model.specs.ScopedExpansion.{Frames}
use Rattle.syntax_tree.specs.Works.{StandsFor}
use Rattle.syntax_tree.specs.declared.trees.Work.{Work}
use Rattle.syntax_tree.specs.declared.trees.table.Region.{Region}
use Rattle.core_forms.specs.Parts.{AreMacros}
use Rattle.core_forms.specs.declared.shape.LocalMacro.{LocalMacro}
use Rattle.unit_scopes.specs.declared.scope.UnitScope.{UnitScope}
use Rattle.feature_requirements.specs.declared.fault.ExpandFault.{ExpandFault}
use Rattle.noted_steps.specs.Noting.{Noting, noting}
use Rattle.noted_steps.specs.Outcomes.{Stays, EndsHere}
use Rattle.noted_steps.specs.Standing.{Stands}
use Rattle.noted_steps.proofs.OutcomeLaws.{stays_itself, stays_on, here_after, here_fails, bound_goes}

-- ---- local macros by their places

pub record MacroThere (work : Work) (ms : List LocalMacro) (ns : List (Named Identifier)) (ts : Trees Identifier) (k : ℕ) (x : LocalMacro) : Type 0 where
  pub rules : Tree Identifier
  pub stands : StandsFor work x.rules rules
  pub split : behind k ts ≡ tree rules (behind (k + 1) ts)

pub macro_there : (work : Work) (ms : List LocalMacro) (ns : List (Named Identifier)) (ts : Trees Identifier) (k : ℕ) (d : LocalMacro) → AreMacros work ms ns ts → k < length ms → MacroThere work ms ns ts k (get_or ms k d)
macro_there work [] ns ts k d h l = absurd (omega (arith, l))
macro_there work (m ∷ ms) [] ts k d h l = absurd h
macro_there work (m ∷ ms) (n ∷ ns) no_trees k d h l = absurd h
macro_there work (m ∷ ms) (n ∷ ns) (tree t ts) zero d h l = record { rules = t; stands = h.0.1; split = refl }
macro_there work (m ∷ ms) (n ∷ ns) (tree t ts) (suc k) d h l =
    let q = macro_there work ms ns ts k d h.1 (omega (arith, l)) in
    let more : suc (k + 1) ≡ suc k + 1 = omega arith in
    record { rules = q.rules; stands = q.stands; split = q.split ∙ ap (λ (i : ℕ). tree q.rules (behind i (tree t ts))) more }

pub macros_past : (work : Work) (ms : List LocalMacro) (ns : List (Named Identifier)) (ts : Trees Identifier) (k : ℕ) → AreMacros work ms ns ts → length ms ≤ k → behind k ts ≡ no_trees
macros_past work [] [] no_trees zero h l = refl
macros_past work [] [] no_trees (suc k) h l = refl
macros_past work [] [] (tree t ts) k h l = absurd h
macros_past work [] (n ∷ ns) ts k h l = absurd h
macros_past work (m ∷ ms) [] ts k h l = absurd h
macros_past work (m ∷ ms) (n ∷ ns) no_trees k h l = absurd h
macros_past work (m ∷ ms) (n ∷ ns) (tree t ts) zero h l = absurd (omega (arith, l))
macros_past work (m ∷ ms) (n ∷ ns) (tree t ts) (suc k) h l = macros_past work ms ns ts k h.1 (omega (arith, l))

-- ---- heads one after another, as far as they were tested

module _ (known : Known) (here : Here) (fs : Frames) where
  abbrev Heads : Type 0
  Heads = Result (List (RulesParts Identifier)) Broken × Noting

  abbrev all_heads : Trees Identifier → Noting → Heads
  all_heads ts s = heads (noting known) here fs ts s

  abbrev one_first : RulesParts Identifier → List (RulesParts Identifier) → Step Noting (List (RulesParts Identifier))
  one_first r rs = done (r ∷ rs)

  abbrev behind_those : List (RulesParts Identifier) → List (RulesParts Identifier) → Step Noting (List (RulesParts Identifier))
  behind_those qs rs = done (qs ++ rs)

  abbrev and_then : Trees Identifier → RulesParts Identifier → Step Noting (List (RulesParts Identifier))
  and_then ts r t = all_heads ts t >>= one_first r

  behind_none : (x : Heads) → x ≡ (x >>= behind_those [])
  behind_none (Ok rs, s) = refl
  behind_none (Err e, s) = refl

  behind_one : (qs : List (RulesParts Identifier)) (r : RulesParts Identifier) (x : Heads) → ((x >>= one_first r) >>= behind_those qs) ≡ (x >>= behind_those (qs ++ r ∷ []))
  behind_one qs r (Ok rs, s) = λ j. done (sym (append_assoc qs (r ∷ []) rs) j) s
  behind_one qs r (Err e, s) = refl

  module _ (work : Work) (region : Region) (u : UnitScope) (ls : List Frames) (s : Noting) (ts : Trees Identifier) where
    pub record HeadsSoFar (v : UnitScope) (k : ℕ) : Type 0 where
      pub state : Noting
      pub parts : List (RulesParts Identifier)
      pub stays : Stays work work region u v ls state
      pub rest : all_heads ts s ≡ (all_heads (behind k ts) state >>= behind_those parts)

    pub no_heads : Stands work u ls s → HeadsSoFar u 0
    no_heads e = record { state = s; parts = []; stays = stays_itself work region u ls s e; rest = behind_none (all_heads ts s) }

    abbrev pub Test : Tree Identifier → Unit {0} → RulesParts Identifier → Type 0
    Test t x y = rules_parts_of t ≡ Some y

    abbrev pub TestAll : Unit {0} → List (RulesParts Identifier) → Type 0
    TestAll x y = Unit {0}

    module _ (v w : UnitScope) (k : ℕ) (t : Tree Identifier) (split : behind k ts ≡ tree t (behind (k + 1) ts)) (h : HeadsSoFar v k) where
      abbrev one_head : Result (RulesParts Identifier) Broken × Noting
      one_head = rules_parts (noting known) here fs (rules_parts_of t) h.state

      next_head : all_heads ts s ≡ ((one_head >>= and_then (behind (k + 1) ts)) >>= behind_those h.parts)
      next_head = h.rest ∙ ap (λ (l : Trees Identifier). all_heads l h.state >>= behind_those h.parts) split

      pub one_tested : EndsHere (Test t) work work region v w ls (Ok tt) one_head → HeadsSoFar w (k + 1)
      one_tested ends = record {
        state = one_head.1;
        parts = h.parts ++ ends.0 ∷ [];
        stays = stays_on work work work region u v w ls h.state one_head.1 h.stays ends.1;
        rest = next_head ∙ (ap (λ (x : Heads). x >>= behind_those h.parts) (bound_goes one_head (and_then (behind (k + 1) ts)) ends.0 ends.2) ∙ behind_one h.parts ends.0 (all_heads (behind (k + 1) ts) one_head.1));
      }

      pub head_fails : (e : ExpandFault) → EndsHere (Test t) work work region v w ls (Err e) one_head → EndsHere TestAll work work region u w ls (Err e) (all_heads ts s)
      head_fails e ends =
          let first = one_head >>= and_then (behind (k + 1) ts) in
          subst (λ (x : Heads). EndsHere TestAll work work region u w ls (Err e) x) (sym next_head)
          (here_after TestAll work work work region u v w ls h.state (Err e) (first >>= behind_those h.parts) h.stays
          (here_fails TestAll TestAll work work region v w ls e first (behind_those h.parts) (here_fails (Test t) TestAll work work region v w ls e one_head (and_then (behind (k + 1) ts)) ends)))

    pub all_tested : (v : UnitScope) (k : ℕ) → behind k ts ≡ no_trees → HeadsSoFar v k → EndsHere TestAll work work region u v ls (Ok tt) (all_heads ts s)
    all_tested v k past h =
        let end : all_heads ts s ≡ (Ok (h.parts ++ []), h.state) = h.rest ∙ ap (λ (l : Trees Identifier). all_heads l h.state >>= behind_those h.parts) past in
        subst (λ (x : Heads). EndsHere TestAll work work region u v ls (Ok tt) x) (sym end) (h.parts ++ [], h.stays, refl, tt)
