-- Local macros that are kept under their binders, one after another.
use Rattle.std.proofs.Common.{◌≡◌, ℕ, zero, suc, ◌+◌, ◌<◌, ◌≤◌, List, [], ◌∷◌, length, get_or, drop, Bool, true, false, Option, Some, None, Result, Ok, Err, refl, sym, ap, ◌∙◌, subst, arith}
use Rattle.std.specs.Prelude.{if◌then◌else◌}
use Rattle.scheme_model.specs.Identifiers.{Number}
use Rattle.scheme_model.specs.Trees.{Tree, Trees, no_trees, tree}
use Rattle.scheme_model.specs.Matching.{behind}
use Rattle.scheme_model.specs.ExpansionFaults.{Named, BadForm}
use Rattle.scheme_model.specs.Ident.{Ident as Identifier}
use Rattle.scheme_model.specs.Meaning.{Local}
use Rattle.scheme_model.specs.RulesShape.{Rules}
use Rattle.scheme_model.specs.Requirements.{Known}
use Rattle.scheme_model.specs.Steps.{Broken, ◌>>=◌, done, fails}
use Rattle.scheme_model.specs.Order.{Here, Headed, RulesParts, is_rules, head_of, rules_parts, rules_parts_of, rules_at}
use Rattle.scheme_model.specs.Expression.{heads, keep_all}
use Rattle.scheme_model.specs.ScopedExpansion.{Frames}
use Rattle.syntax_tree.specs.Names.{AreToldApart}
use Rattle.syntax_tree.specs.Works.{StandsFor}
use Rattle.syntax_tree.specs.declared.meaning.Meaning.{Meaning}
use Rattle.syntax_tree.specs.declared.meaning.Meaning.TheVariants as meanings
use Rattle.syntax_tree.specs.declared.trees.Work.{Work}
use Rattle.syntax_tree.specs.declared.trees.table.Region.{Region}
use Rattle.core_forms.specs.Parts.{AreMacros}
use Rattle.core_forms.specs.declared.shape.LocalMacro.{LocalMacro}
use Rattle.core_tree.specs.declared.cores.Binder as code_binder
use Rattle.expander.specs.Bodies.{HaveNumbers, RulesAre}
use Rattle.unit_scopes.specs.Macros.{edition_of, edition_in, Keeps, numbered}
use Rattle.unit_scopes.specs.Outcomes.{IsSettled, KeepsNumbers}
use Rattle.unit_scopes.specs.State.{IsMacro}
use Rattle.unit_scopes.specs.Stepped.{with_macros}
use Rattle.feature_requirements.specs.declared.fault.ExpandFault.{ExpandFault}
use Rattle.unit_scopes.specs.declared.macros.Macro.{Macro}
use Rattle.unit_scopes.specs.declared.macros.Macros.{Macros}
use Rattle.unit_scopes.specs.declared.scope.UnitScope.{UnitScope}
use Rattle.noted_steps.proofs.KeptStands.{kept_stands}
use Rattle.unit_scopes.proofs.OutcomeLaws.{grows_itself}
use Rattle.noted_steps.specs.Noting.{Noting, state_of, noting}
use Rattle.noted_steps.specs.Standing.{Stands}
use Rattle.noted_steps.specs.Stepped.{kept}
use Rattle.noted_steps.specs.Outcomes.{Stays, EndsHere}
use Rattle.noted_steps.proofs.OutcomeLaws.{stays_itself, stays_on, here_after, here_fails, bound_goes}
use Rattle.noted_steps.specs.Kept.{CanLook}

-- a macro that is local to the form changes no other's edition
local_numbers : (w : UnitScope) (ms : Macros) (n : ℕ) (m : Macro) → Keeps w.macros ms w.form.number (meanings.Local n) m → KeepsNumbers w (with_macros w ms)
local_numbers w ms n m keeps = record { defined = λ i there. there; numbers = by }
  where
    by : (form : ℕ) (c : Meaning) → IsSettled w c → edition_in ms form c ≡ edition_in w.macros form c
    by form (meanings.Local i) settled = absurd settled
    by form (meanings.Global u i) settled = ap edition_of (keeps form (meanings.Global u i))
    by form (meanings.Standard x) settled = ap edition_of (keeps form (meanings.Standard x))
    by form (meanings.Free x) settled = refl

-- ---- rules that have a head

abbrev no_list : Here → Result (List (RulesParts Identifier)) Broken
no_list at = Err (record { fault = BadForm; here = at })

module _ (known : Known) (here : Here) (fs : Frames) where
  abbrev Heads : Type 0
  Heads = Result (List (RulesParts Identifier)) Broken × Noting

  abbrev with_head : RulesParts Identifier → Heads → Heads
  with_head r q = q >>= λ rs. done (r ∷ rs)

  abbrev headed : Trees Identifier → RulesParts Identifier → Noting → Heads
  headed ts r t = with_head r (heads (noting known) here fs ts t)

  -- the state with the head asked
  abbrev head_state : RulesParts Identifier → Noting → Noting
  head_state r s = (noting known).ask (Headed fs r.head ∷ []) s

  abbrev by_test : Bool → RulesParts Identifier → Trees Identifier → Noting → Heads
  by_test b r ts t = (if b then done r t else fails here BadForm t) >>= headed ts

  behind_it : (t : Tree Identifier) (ts : Trees Identifier) (r : RulesParts Identifier) (rs : List (RulesParts Identifier)) → rules_parts_of t ≡ Some r → (x : Heads) → ((qs : List (RulesParts Identifier)) → x.0 ≡ Ok qs → RulesAre ts qs) → (with_head r x).0 ≡ Ok rs → RulesAre (tree t ts) rs
  behind_it t ts r rs is (Ok qs, u) later h = let list : r ∷ qs ≡ rs = cc in subst (RulesAre (tree t ts)) list (is, later qs refl)
  behind_it t ts r rs is (Err e, u) later h = absurd cc

  pub heads_tell : (ts : Trees Identifier) (s : Noting) (rs : List (RulesParts Identifier)) → (heads (noting known) here fs ts s).0 ≡ Ok rs → RulesAre ts rs
  heads_tell no_trees s rs h = let list : [] ≡ rs = cc in subst (RulesAre no_trees) list tt
  heads_tell (tree t ts) s rs h = by (λ u. heads_tell ts u) (rules_parts_of t) refl h
    where
      by_head : (u : Noting) → ((qs : List (RulesParts Identifier)) → (heads (noting known) here fs ts u).0 ≡ Ok qs → RulesAre ts qs) → (b : Bool) (r : RulesParts Identifier) → rules_parts_of t ≡ Some r → (by_test b r ts u).0 ≡ Ok rs → RulesAre (tree t ts) rs
      by_head u later true r is g = behind_it t ts r rs is (heads (noting known) here fs ts u) later g
      by_head u later false r is g = let clash : no_list here ≡ Ok rs = g in absurd cc

      by : ((u : Noting) (qs : List (RulesParts Identifier)) → (heads (noting known) here fs ts u).0 ≡ Ok qs → RulesAre ts qs) → (o : Option (RulesParts Identifier)) → rules_parts_of t ≡ o → (rules_parts (noting known) here fs o s >>= headed ts).0 ≡ Ok rs → RulesAre (tree t ts) rs
      by later None is g = let clash : no_list here ≡ Ok rs = g in absurd cc
      by later (Some r) is g = by_head (head_state r s) (later (head_state r s)) (is_rules (head_of (noting known) fs s r.head)) r is g

  put_state : (r : RulesParts Identifier) (x : Heads) → (with_head r x).1 ≡ x.1
  put_state r (Ok rs, t) = refl
  put_state r (Err e, t) = refl

  test_state : (b : Bool) (r : RulesParts Identifier) (ts : Trees Identifier) (u : Noting) → state_of (heads (noting known) here fs ts u).1 ≡ state_of u → state_of (by_test b r ts u).1 ≡ state_of u
  test_state true r ts u later = ap state_of (put_state r (heads (noting known) here fs ts u)) ∙ later
  test_state false r ts u later = refl

  parts_state : (o : Option (RulesParts Identifier)) (ts : Trees Identifier) (s : Noting) → ((u : Noting) → state_of (heads (noting known) here fs ts u).1 ≡ state_of u) → state_of (rules_parts (noting known) here fs o s >>= headed ts).1 ≡ state_of s
  parts_state None ts s later = refl
  parts_state (Some r) ts s later = test_state (is_rules (head_of (noting known) fs s r.head)) r ts (head_state r s) (later (head_state r s))

  -- heads are asked, and nothing else changes
  pub heads_state : (ts : Trees Identifier) (s : Noting) → state_of (heads (noting known) here fs ts s).1 ≡ state_of s
  heads_state no_trees s = refl
  heads_state (tree t ts) s = parts_state (rules_parts_of t) ts s (heads_state ts)

-- ---- the next macro

pub record Next (work : Work) (s : Noting) (bs : List code_binder.Binder) (vs : List Number) (ts : Trees Identifier) (rs : List (RulesParts Identifier)) (k : ℕ) (x : LocalMacro) (b : code_binder.Binder) : Type 0 where
  pub number : Number
  pub rules : Tree Identifier
  pub parts : RulesParts Identifier
  pub is : number ≡ record { unit = s.unit; form = s.form; count = b.number }
  pub stands : StandsFor work x.rules rules
  pub read : rules_parts_of rules ≡ Some parts
  pub numbers_split : drop k vs ≡ number ∷ drop (k + 1) vs
  pub rules_split : behind k ts ≡ tree rules (behind (k + 1) ts)
  pub parts_split : drop k rs ≡ parts ∷ drop (k + 1) rs

pub next_macro : (work : Work) (s : Noting) (ms : List LocalMacro) (ns : List (Named Identifier)) (ts : Trees Identifier) (bs : List code_binder.Binder) (vs : List Number) (rs : List (RulesParts Identifier)) (k : ℕ) (d : LocalMacro) (c : code_binder.Binder) →
    AreMacros work ms ns ts → HaveNumbers s bs vs → RulesAre ts rs → k < length ms → k < length bs → Next work s bs vs ts rs k (get_or ms k d) (get_or bs k c)
next_macro work s [] ns ts bs vs rs k d c h g r l m = absurd (omega (arith, l))
next_macro work s (x ∷ ms) [] ts bs vs rs k d c h g r l m = absurd h
next_macro work s (x ∷ ms) (n ∷ ns) no_trees bs vs rs k d c h g r l m = absurd h
next_macro work s (x ∷ ms) (n ∷ ns) (tree t ts) [] vs rs k d c h g r l m = absurd (omega (arith, m))
next_macro work s (x ∷ ms) (n ∷ ns) (tree t ts) (b ∷ bs) [] rs k d c h g r l m = absurd g
next_macro work s (x ∷ ms) (n ∷ ns) (tree t ts) (b ∷ bs) (v ∷ vs) [] k d c h g r l m = absurd r
next_macro work s (x ∷ ms) (n ∷ ns) (tree t ts) (b ∷ bs) (v ∷ vs) (q ∷ rs) zero d c h g r l m =
    record { number = v; rules = t; parts = q; is = g.0; stands = h.0.1; read = r.0; numbers_split = refl; rules_split = refl; parts_split = refl }
next_macro work s (x ∷ ms) (n ∷ ns) (tree t ts) (b ∷ bs) (v ∷ vs) (q ∷ rs) (suc k) d c h g r l m =
    let p = next_macro work s ms ns ts bs vs rs k d c h.1 g.1 r.1 (omega (arith, l)) (omega (arith, m)) in
    let more : suc (k + 1) ≡ suc k + 1 = omega arith in
    record {
      number = p.number;
      rules = p.rules;
      parts = p.parts;
      is = p.is;
      stands = p.stands;
      read = p.read;
      numbers_split = p.numbers_split ∙ ap (λ (i : ℕ). p.number ∷ drop i (v ∷ vs)) more;
      rules_split = p.rules_split ∙ ap (λ (i : ℕ). tree p.rules (behind i (tree t ts))) more;
      parts_split = p.parts_split ∙ ap (λ (i : ℕ). p.parts ∷ drop i (q ∷ rs)) more;
    }

pub rules_past : (work : Work) (s : Noting) (bs : List code_binder.Binder) (vs : List Number) (k : ℕ) → HaveNumbers s bs vs → length bs ≤ k → drop k vs ≡ []
rules_past work s [] [] zero h l = refl
rules_past work s [] [] (suc k) h l = refl
rules_past work s [] (v ∷ vs) k h l = absurd h
rules_past work s (b ∷ bs) [] k h l = absurd h
rules_past work s (b ∷ bs) (v ∷ vs) zero h l = absurd (omega (arith, l))
rules_past work s (b ∷ bs) (v ∷ vs) (suc k) h l = rules_past work s bs vs k h.1 (omega (arith, l))

-- what a macro's rules demand
pub rules_there : (work : Work) (ms : List LocalMacro) (ns : List (Named Identifier)) (ts : Trees Identifier) (rs : List (RulesParts Identifier)) (k : ℕ) (d : LocalMacro) → AreMacros work ms ns ts → RulesAre ts rs → k < length ms →
    (t : Tree Identifier) × (r : RulesParts Identifier) × StandsFor work (get_or ms k d).rules t × (rules_parts_of t ≡ Some r)
rules_there work [] ns ts rs k d h g l = absurd (omega (arith, l))
rules_there work (x ∷ ms) [] ts rs k d h g l = absurd h
rules_there work (x ∷ ms) (n ∷ ns) no_trees rs k d h g l = absurd h
rules_there work (x ∷ ms) (n ∷ ns) (tree t ts) [] k d h g l = absurd g
rules_there work (x ∷ ms) (n ∷ ns) (tree t ts) (r ∷ rs) zero d h g l = (t, r, h.0.1, g.0)
rules_there work (x ∷ ms) (n ∷ ns) (tree t ts) (r ∷ rs) (suc k) d h g l = rules_there work ms ns ts rs k d h.1 g.1 (omega (arith, l))

-- a scope that can be looked up still can, once a macro was read and kept
pub looks_on : (work : Work) (region : Region) (u w : UnitScope) (scope number edition : ℕ) (look : CanLook work u scope) (m : Macro) (ms : Macros) (x : Result (Rules Identifier) Broken × Noting) → AreToldApart work.symbols.idents → AreToldApart work.symbols.symbols →
    EndsHere (λ (k : Macro) (rs : Rules Identifier). IsMacro work look.layout k (record { env = look.frames; rules = rs })) work work region u w look.layout (Ok m) x → Keeps w.macros ms w.form.number (meanings.Local number) (numbered m edition) → CanLook work (with_macros w ms) scope
looks_on work region u w scope number edition look m ms x apart told ends keeps =
    let t = x.1 in
    record {
      layout = look.layout;
      state = kept (Local (record { unit = t.unit; form = t.form; count = number })) (record { env = look.frames; rules = ends.0 }) t;
      frames = look.frames;
      stands = kept_stands work w look.layout t ms (meanings.Local number) (record { unit = t.unit; form = t.form; count = number }) m (record { env = look.frames; rules = ends.0 }) edition apart told keeps tt refl ends.3 ends.1.stands;
      at = look.at;
    }

-- ---- so far

module _ (known : Known) (here : Here) (fs : Frames) (work : Work) (region : Region) (u : UnitScope) (ls : List Frames) (s : Noting) (vs : List Number) (ts : Trees Identifier) (rs : List (RulesParts Identifier)) where
  pub record KeptSoFar (v : UnitScope) (k : ℕ) : Type 0 where
    pub state : Noting
    pub stays : Stays work work region u v ls state
    pub rest : keep_all (noting known) here fs vs ts rs s ≡ keep_all (noting known) here fs (drop k vs) (behind k ts) (drop k rs) state

  pub none_kept : Stands work u ls s → KeptSoFar u 0
  none_kept e = record { state = s; stays = stays_itself work region u ls s e; rest = refl }

  module _ (before : Stands work u ls s) (v w : UnitScope) (k : ℕ) (h : KeptSoFar v k) (bs : List code_binder.Binder) (x : LocalMacro) (b : code_binder.Binder) (n : Next work s bs vs ts rs k x b) where
    abbrev one : Result (Rules Identifier) Broken × Noting
    one = rules_at (noting known) here n.rules n.parts h.state

    abbrev next_kept : Rules Identifier → Noting → Result (Unit {0}) Broken × Noting
    next_kept rules t = keep_all (noting known) here fs (drop (k + 1) vs) (behind (k + 1) ts) (drop (k + 1) rs) ((noting known).keep n.number rules fs t)

    split : keep_all (noting known) here fs vs ts rs s ≡ (one >>= next_kept)
    split =
        h.rest
        ∙ (ap (λ (l : List Number). keep_all (noting known) here fs l (behind k ts) (drop k rs) h.state) n.numbers_split
        ∙ (ap (λ (l : Trees Identifier). keep_all (noting known) here fs (n.number ∷ drop (k + 1) vs) l (drop k rs) h.state) n.rules_split
        ∙ ap (λ (l : List (RulesParts Identifier)). keep_all (noting known) here fs (n.number ∷ drop (k + 1) vs) (tree n.rules (behind (k + 1) ts)) l h.state) n.parts_split))

    abbrev Made : Macro → Rules Identifier → Type 0
    Made m rules = IsMacro work ls m (record { env = fs; rules = rules })

    -- the binder is of the form at work
    number_there : (t : Noting) → Stays work work region v w ls t → Local n.number ≡ Local (record { unit = t.unit; form = t.form; count = b.number })
    number_there t m =
        let unit : s.unit ≡ t.unit = sym before.unit ∙ (sym h.stays.same.unit ∙ (sym m.same.unit ∙ m.stands.unit)) in
        let form : s.form ≡ t.form = sym before.form.number ∙ (sym h.stays.same.number ∙ (sym m.same.number ∙ m.stands.form.number)) in
        ap Local (n.is ∙ (λ i. record { unit = unit i; form = form i; count = b.number }))

    pub one_kept : (m : Macro) (ms : Macros) (edition : ℕ) → AreToldApart work.symbols.idents → AreToldApart work.symbols.symbols → EndsHere Made work work region v w ls (Ok m) one → Keeps w.macros ms w.form.number (meanings.Local b.number) (numbered m edition) → KeptSoFar (with_macros w ms) (k + 1)
    one_kept m ms edition apart told ends keeps =
        let t = one.1 in
        let after = kept (Local n.number) (record { env = fs; rules = ends.0 }) t in
        record {
          state = after;
          stays = stays_on work work work region u w (with_macros w ms) ls t after (stays_on work work work region u v w ls h.state t h.stays ends.1) (record {
            stands = kept_stands work w ls t ms (meanings.Local b.number) n.number m (record { env = fs; rules = ends.0 }) edition apart told keeps tt (number_there t ends.1) ends.3 ends.1.stands;
            work = grows_itself work region;
            counted = omega arith;
            same = record { unit = refl; number = refl; root = refl; libraries = refl; roots = refl; uses = omega arith; nodes = omega arith; numbers = local_numbers w ms b.number (numbered m edition) keeps };
          });
          rest = split ∙ bound_goes one next_kept ends.0 ends.2;
        }

    pub rules_fail : {X : Type 0} (Q : X → Unit {0} → Type 0) (e : ExpandFault) → EndsHere Made work work region v w ls (Err e) one → EndsHere Q work work region u w ls (Err e) (keep_all (noting known) here fs vs ts rs s)
    rules_fail {X} Q e ends =
        subst (λ (q : Result (Unit {0}) Broken × Noting). EndsHere Q work work region u w ls (Err e) q) (sym split)
        (here_after Q work work work region u v w ls h.state (Err e) (one >>= next_kept) h.stays (here_fails Made Q work work region v w ls e one next_kept ends))

  pub all_kept : (v : UnitScope) (k : ℕ) (bs : List code_binder.Binder) → KeptSoFar v k → HaveNumbers s bs vs → length bs ≤ k → EndsHere (λ (done : Unit {0}) (also : Unit {0}). Unit {0}) work work region u v ls (Ok tt) (keep_all (noting known) here fs vs ts rs s)
  all_kept v k bs h numbers past =
      let end = h.rest ∙ ap (λ (l : List Number). keep_all (noting known) here fs l (behind k ts) (drop k rs) h.state) (rules_past work s bs vs k numbers past) in
      subst (λ (q : Result (Unit {0}) Broken × Noting). EndsHere (λ (done : Unit {0}) (also : Unit {0}). Unit {0}) work work region u v ls (Ok tt) q) (sym end) (tt, h.stays, refl, tt)
