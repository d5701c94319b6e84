-- Macro uses at the head of an expression, one after another.
use Rattle.std.proofs.Common.{◌≡◌, ℕ, zero, suc, ◌+◌, ◌≤◌, List, [], ◌∷◌, Option, Some, None, Result, Ok, Err, refl, sym, ap, ◌∙◌, subst, arith}
use Rattle.std.specs.Result.{IsErrAnd}
use Rattle.scheme_model.specs.declared.Occ.{Occ}
use Rattle.scheme_model.specs.Trees.{Tree, name, Trees, Tail}
use Rattle.scheme_model.specs.Ident.{Ident as Identifier}
use Rattle.scheme_model.specs.ExpansionFaults.{named}
use Rattle.scheme_model.specs.Meaning.{Head}
use Rattle.scheme_model.specs.Requirements.{Known}
use Rattle.scheme_model.specs.Cores.{Core, Target}
use Rattle.scheme_model.specs.Steps.{Broken, ◌>>=◌}
use Rattle.scheme_model.specs.Order.{Transformer, Instance, Headed, target_of, here_at, use_of, meet_waiting}
use Rattle.scheme_model.specs.Expression.{Expander, whole, expand, expression, by_head, macro_use}
use Rattle.scheme_model.specs.ScopedExpansion.{Frames}
use Rattle.syntax_tree.specs.Works.{StandsFor}
use Rattle.syntax_tree.specs.declared.trees.Work.{Work}
use Rattle.syntax_tree.specs.declared.trees.nodes.Tree as number
use Rattle.syntax_tree.specs.declared.trees.table.Region.{Region}
use Rattle.core_forms.specs.declared.shape.CoreKeyword as code_keyword
use Rattle.core_tree.specs.declared.cores.Target as code_target
use Rattle.unit_scopes.specs.Outcomes.{WorksOn, IsEnough}
use Rattle.form_parts.specs.FormsSeen.{head_name_of}
use Rattle.expander.specs.Ready.{use_met, rules_asked, head_asked, IsSettled, IsMacroKeyword, IsCoreKeyword, IsHeadTarget, Settles, come_to}
use Rattle.feature_requirements.specs.declared.fault.ExpandFault.{ExpandFault}
use Rattle.feature_requirements.specs.declared.fault.ExpandFault.TheVariants as fault
use Rattle.unit_scopes.specs.declared.scope.UnitScope.{UnitScope}
use Rattle.expander.proofs.ReadLaws.{nameless_asked}
use Rattle.expander.proofs.UseSteps.{met_then}
use Rattle.noted_steps.specs.Noting.{Noting, state_of, noting}
use Rattle.noted_steps.specs.Standing.{Stands, with_notes}
use Rattle.noted_steps.specs.Outcomes.{Stays, EndsHere}
use Rattle.noted_steps.proofs.OutcomeLaws.{stays_itself, noted_stays, stays_on, leaves_on, fills_on, moves_here, bound_goes, bound_fails}
use Rattle.noted_steps.specs.Kept.{UseFor}

abbrev as_it_is : Identifier → Identifier
as_it_is = λ i. i

-- ---- what was come to so far

pub record SoFar (known : Known) (depth : ℕ) (old new : Work) (region : Region) (u v : UnitScope) (ls : List Frames) (fs : Frames) (form : number.Tree) (here : Option Occ) (p : Result Core Broken × Noting) : Type 0 where
  pub tree : Tree Identifier
  pub state : Noting
  pub stays : Stays old new region u v ls state
  pub works : WorksOn new region form tree
  pub left : ℕ
  pub enough : IsEnough depth v.form.budget.uses (suc left)
  pub same : p ≡ expression (expand (noting known) left) (noting known) depth here fs tree state

some_turns : (depth uses turns : ℕ) → uses ≤ 10000 → IsEnough depth uses turns → (n : ℕ) × (turns ≡ suc n)
some_turns depth uses zero few h = absurd (omega (arith, few, h))
some_turns depth uses (suc n) few h = (n, refl)

more_turns : (depth uses left : ℕ) → uses ≤ 10000 → IsEnough depth uses (suc left) → (n : ℕ) × (left ≡ suc n)
more_turns depth uses zero few h = absurd (omega (arith, few, h))
more_turns depth uses (suc n) few h = (n, refl)

-- one turn is what reads the expression
turned : (known : Known) (depth turns n : ℕ) (at here : Option Occ) (fs : Frames) (t : Tree Identifier) (s : Noting) → turns ≡ suc n → here ≡ here_at as_it_is t at →
    expand (noting known) turns depth at fs (whole t) s ≡ expression (expand (noting known) n) (noting known) depth here fs t s
turned known depth turns n at here fs t s is e =
    ap (λ (k : ℕ). expand (noting known) k depth at fs (whole t) s) is
    ∙ ap (λ (h : Option Occ). expression (expand (noting known) n) (noting known) depth h fs t s) (sym e)

pub so_far_begins : (known : Known) (depth turns : ℕ) (work : Work) (region : Region) (u : UnitScope) (ls : List Frames) (s : Noting) (fs : Frames) (form : number.Tree) (at here : Option Occ) (t : Tree Identifier) → Stands work u ls s → WorksOn work region form t →
    IsEnough depth u.form.budget.uses turns → here ≡ here_at as_it_is t at → SoFar known depth work work region u u ls fs form here (expand (noting known) turns depth at fs (whole t) s)
so_far_begins known depth turns work region u ls s fs form at here t e works enough is =
    let n = some_turns depth u.form.budget.uses turns e.form.few_uses enough in
    record {
      tree = t;
      state = s;
      stays = stays_itself work region u ls s e;
      works = works;
      left = n.0;
      enough = subst (λ (k : ℕ). IsEnough depth u.form.budget.uses k) n.1 enough;
      same = turned known depth turns n.0 at here fs t s n.1 is;
    }

-- ---- what was noted of the head

module _ (known : Known) (depth : ℕ) (old mid : Work) (region : Region) (u w : UnitScope) (ls : List Frames) (fs : Frames) (form : number.Tree) (here : Option Occ) (p : Result Core Broken × Noting) (so : SoFar known depth old mid region u w ls fs form here p) where
  -- the name at the head is asked
  abbrev pub asked_state : Noting
  asked_state = head_asked known fs (head_name_of so.tree) so.state

  pub so_far_noted : (x : UnitScope) → x ≡ with_notes w x.form.trace.notes → Stands mid x ls asked_state → Stays old mid region u x ls asked_state
  so_far_noted x same e = stays_on old mid mid region u w x ls so.state asked_state so.stays (noted_stays mid region w x ls so.state asked_state so.stays.stands same e)

  -- no name is at the head
  pub so_far_nameless : IsHeadTarget mid (state_of so.state) fs (head_name_of so.tree) None → Stays old mid region u w ls asked_state
  so_far_nameless none = let m = so.stays in record { stands = nameless_asked known mid w ls so.state fs (head_name_of so.tree) none m.stands; work = m.work; counted = m.counted; same = m.same }

-- ---- a use at the head

pub record UseAt (known : Known) (work : Work) (s : Noting) (fs : Frames) (t : Tree Identifier) (x : code_target.Target) : Type 0 where
  pub keyword : Target
  pub macro : Transformer Frames Identifier
  pub parts : Trees Identifier
  pub tail : Tail Identifier
  pub goes : (f : Expander Frames Identifier Noting) (depth : ℕ) (here : Option Occ) → expression f (noting known) depth here fs t s ≡ (use_met known here fs keyword macro parts tail (head_asked known fs (head_name_of t) s) >>= λ u. f depth here fs (whole u))
  pub used : (scope : ℕ) (here : Option Occ) (form : number.Tree) → StandsFor work form t → UseFor work (head_asked known fs (head_name_of t) s) (record { scope = scope; here = here; keyword = x; form = form }) keyword macro parts tail

pub use_at : (known : Known) (work : Work) (s : Noting) (fs : Frames) (t : Tree Identifier) (x : code_target.Target) → IsMacroKeyword work known (state_of s) fs t (Some x) → UseAt known work s fs t x
use_at known work s fs t x h =
    let i = h.0 in
    let p = h.1 in
    let ts = h.2 in
    let tail = h.3 in
    let o = h.4 in
    let m = h.5 in
    let is = h.6 in
    let k = target_of (noting known) fs s i p in
    let headed = (noting known).ask (Headed fs i ∷ []) s in
    let ready = rules_asked known k headed in
    record {
      keyword = k;
      macro = m;
      parts = ts;
      tail = tail;
      goes = λ f depth here.
          ap (λ (u : Tree Identifier). expression f (noting known) depth here fs u s) is
          ∙ (ap (λ (d : Head). by_head f (noting known) depth here fs d (named i p) ts tail s) h.8
          ∙ (ap (λ (d : Option (Transformer Frames Identifier)). macro_use f (noting known) depth here fs k d ts tail ready) h.9
          ∙ (met_then (use_of (noting known) here fs k m ts tail ready) (λ (i : Instance Identifier) u. meet_waiting (noting known) fs i.met u) (λ u. f depth here fs (whole u))
          ∙ ap (λ (u : Tree Identifier). use_met known here fs k m ts tail (head_asked known fs (head_name_of u) s) >>= λ v. f depth here fs (whole v)) (sym is))));
      used = λ scope here form stands.
          subst (λ (u : Tree Identifier). UseFor work (head_asked known fs (head_name_of u) s) (record { scope = scope; here = here; keyword = x; form = form }) k m ts tail) (sym is) (record {
            target = h.7;
            macro = h.9;
            head = name i p;
            place = o;
            form = subst (λ (u : Tree Identifier). StandsFor work form u) is stands;
          });
    }

-- its keyword is the name at the head
pub use_head : (known : Known) (work : Work) (s : Noting) (fs : Frames) (t : Tree Identifier) (x : code_target.Target) → IsMacroKeyword work known (state_of s) fs t (Some x) → IsHeadTarget work (state_of s) fs (head_name_of t) (Some x)
use_head known work s fs t x h = subst (λ (u : Tree Identifier). IsHeadTarget work (state_of s) fs (head_name_of u) (Some x)) (sym h.6) h.7

-- so is that of a core form
pub core_head : (known : Known) (work : Work) (s : Noting) (fs : Frames) (t : Tree Identifier) (k : code_keyword.CoreKeyword) (x : code_target.Target) → IsCoreKeyword work known (state_of s) fs t (Some (k, x)) → IsHeadTarget work (state_of s) fs (head_name_of t) (Some x)
core_head known work s fs t k x h = subst (λ (u : Tree Identifier). IsHeadTarget work (state_of s) fs (head_name_of u) (Some x)) (sym h.6) h.9

-- a use was made, once its head was noted
module _ (known : Known) (depth : ℕ) (old mid new : Work) (region : Region) (u w x v : UnitScope) (ls : List Frames) (fs : Frames) (form : number.Tree) (here : Option Occ) (k : code_target.Target) (p : Result Core Broken × Noting)
    (so : SoFar known depth old mid region u w ls fs form here p) (at : UseAt known mid so.state fs so.tree k) (asked : Stays old mid region u x ls (head_asked known fs (head_name_of so.tree) so.state)) where
  abbrev here_asked : Noting
  here_asked = head_asked known fs (head_name_of so.tree) so.state

  abbrev use_here : Result (Tree Identifier) Broken × Noting
  use_here = use_met known here fs at.keyword at.macro at.parts at.tail here_asked

  pub so_far_uses : (next : number.Tree) (later : Option Occ) → x.form.budget.uses ≡ w.form.budget.uses → v.form.budget.uses ≡ x.form.budget.uses + 1 → ((t : Tree Identifier) → StandsFor new next t → later ≡ here_at as_it_is t here) →
      EndsHere (WorksOn new region) mid new region x v ls (Ok next) use_here → SoFar known depth old new region u v ls fs next later p
  so_far_uses next later same counted placed h =
      let f = expand (noting known) so.left in
      let t = h.0 in
      let n = more_turns depth w.form.budget.uses so.left so.stays.stands.form.few_uses so.enough in
      record {
        tree = t;
        state = use_here.1;
        stays = stays_on old mid new region u x v ls here_asked use_here.1 asked h.1;
        works = h.3;
        left = n.0;
        enough = omega (arith, so.enough, counted, same, n.1);
        same = so.same ∙ (at.goes f depth here ∙ (bound_goes use_here (λ y. f depth here fs (whole y)) t h.2 ∙ turned known depth so.left n.0 here later fs t use_here.1 n.1 (placed t h.3.0)));
      }

  -- a use that failed
  pub so_far_fails : (turns : ℕ) (r : Result (number.Tree × Option Occ × Option (code_keyword.CoreKeyword × code_target.Target)) ExpandFault) (e : ExpandFault) → IsErrAnd r (λ f. f ≡ e) → EndsHere (WorksOn new region) mid new region x v ls (Err e) use_here →
      Settles known depth turns old new region u v ls fs (come_to r) p
  so_far_fails turns (Ok y) e is h = absurd is
  so_far_fails turns (Err f) e is h =
      subst (λ (g : ExpandFault). Settles known depth turns old new region u v ls fs (Err g) p) (sym is) (go e h)
    where
      go : (g : ExpandFault) → EndsHere (WorksOn new region) mid new region x v ls (Err g) use_here → Settles known depth turns old new region u v ls fs (Err g) p
      go (fault.At g) h =
          let f = expand (noting known) so.left in
          let all : p ≡ (Err h.1.0, use_here.1) = so.same ∙ (at.goes f depth here ∙ bound_fails use_here (λ y. f depth here fs (whole y)) h.1.0 h.1.1) in
          subst (λ (z : Result Core Broken × Noting). Settles known depth turns old new region u v ls fs (Err (fault.At g)) z) (sym all)
          (stays_on old mid new region u x v ls here_asked use_here.1 asked h.0, (h.1.0, refl, h.1.2))
      go fault.Full h = (leaves_on old mid new region u x ls here_asked (moves_here old mid region u x ls here_asked asked) h.0, fills_on old mid region u x ls here_asked (moves_here old mid region u x ls here_asked asked) h.1)
      go fault.Memory h = leaves_on old mid new region u x ls here_asked (moves_here old mid region u x ls here_asked asked) h

-- no use is left
pub so_far_settles : (known : Known) (depth turns : ℕ) (old new : Work) (region : Region) (u w x : UnitScope) (ls : List Frames) (fs : Frames) (form : number.Tree) (here : Option Occ) (p : Result Core Broken × Noting)
    (so : SoFar known depth old new region u w ls fs form here p) → Stays old new region u x ls (head_asked known fs (head_name_of so.tree) so.state) → x.form.budget.uses ≡ w.form.budget.uses → IsSettled known (state_of so.state) fs so.tree →
    Settles known depth turns old new region u x ls fs (Ok (form, here)) p
so_far_settles known depth turns old new region u w x ls fs form here p so asked same settled =
    (so.tree, so.state, asked, so.works, record { turns_left = so.left; enough = omega (arith, so.enough, same); settled = settled; same = so.same })
