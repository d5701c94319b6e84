-- A macro use that begins: its scope is that of its macro.
use Rattle.std.proofs.Common.{◌≡◌, ℕ, suc, ◌+◌, ◌≤◌, List, [], ◌∷◌, slice_get, Bool, true, false, cond, Some, None, refl, sym, ap, ◌∙◌, subst, arith}
use Rattle.std.specs.FinMap as map
use Rattle.std.specs.FinMap.{get-insert}
use Rattle.std.specs.Ordering.{eq_by_cmp}
use Rattle.std.specs.Cmp.{Equal-is, tied_itself}
use Rattle.std.proofs.lemmas.Option.{same_Some}
use Rattle.scheme_model.specs.Identifiers.{Number, same_number}
use Rattle.scheme_model.specs.Scopes.{Uses}
use Rattle.scheme_model.specs.Substitution.{at_form}
use Rattle.scheme_model.specs.Order.{max_uses}
use Rattle.scheme_model.specs.ScopedExpansion.{Frames, UsePlace, ScopedState, around, next_number}
use Rattle.scheme_model.proofs.IdentLaws.{number_told, number_itself, bool_same}
use Rattle.syntax_tree.specs.Names.{Names}
use Rattle.syntax_tree.specs.declared.trees.Work.{Work}
use Rattle.syntax_tree.proofs.Places.{none_some}
use Rattle.scope_env.specs.Environment.{Environment, number_cmp, with_use}
use Rattle.scope_env.specs.Standing.{EnvFor}
use Rattle.scope_env.specs.Moved.{with_use_under}
use Rattle.scope_env.proofs.Orders.{number_total, number_same}
use Rattle.scope_env.proofs.StandingLaws.{use_env}
use Rattle.unit_scopes.specs.Chains.{chain_in, uses_in, given_in}
use Rattle.unit_scopes.specs.State.{EnvStands, Stands}
use Rattle.unit_scopes.specs.Stepped.{used, with_use_begun}
use Rattle.unit_scopes.specs.declared.scope.UnitScope.{UnitScope}
use Rattle.unit_scopes.proofs.CountingStands.{counted_here}

-- the number of a use is the one that was noted
same_use : (k l : Number) → eq_by_cmp number_cmp l k ≡ same_number k l
same_use k l =
    bool_same (eq_by_cmp number_cmp l k) (same_number k l)
    (λ same. subst (λ (x : Number). same_number k x ≡ true) (sym (number_same l k ((Equal-is (number_cmp l k)).0 same))) (number_itself k))
    (λ same. subst (λ (x : Number). eq_by_cmp number_cmp x k ≡ true) (number_told k l same) ((Equal-is (number_cmp k k)).1 (tied_itself number_total k)))

noted_as : (env : Environment) (k l : Number) (scope : ℕ) → map.get (with_use env k scope).uses l ≡ cond (same_number k l) (Some scope) (map.get env.uses l)
noted_as env k l scope = get-insert number_total env.uses k scope l ∙ ap (λ b. cond b (Some scope) (map.get env.uses l)) (same_use k l)

module _ (names : Names) (env : Environment) (ls : List Frames) (s : ScopedState) (k : Number) (scope : ℕ) (fs : Frames) (at : slice_get ls scope ≡ Some fs) (e : EnvStands names env ls s) where
  abbrev place : UsePlace
  place = record { use_number = k; frames = fs }

  abbrev after : ScopedState
  after = record s { places = place ∷ s.places }

  used_by : (q : Bool) (gs : Frames) → cond q (chain_in s fs) (chain_in s gs) ≡ chain_in s (cond q fs gs)
  used_by true gs = refl
  used_by false gs = refl

  used_so : with_use_under (uses_in s) k (chain_in s fs) ≡ uses_in after
  used_so = λ j l. used_by (same_number k l) (around s.places l) j

  noted_by : (l : Number) (n : ℕ) (q : Bool) → cond q (Some scope) (map.get env.uses l) ≡ Some n → slice_get ls n ≡ Some (cond q fs (around s.places l))
  noted_by l n true is = subst (λ (m : ℕ). slice_get ls m ≡ Some fs) (same_Some scope n is) at
  noted_by l n false is = e.noted l n is

  unnoted_by : (l : Number) (q : Bool) → cond q (Some scope) (map.get env.uses l) ≡ None → cond q fs (around s.places l) ≡ []
  unnoted_by l true none = none_some scope (sym none)
  unnoted_by l false none = e.unnoted l none

  pub used_env : EnvStands names (with_use env k scope) ls after
  used_env = record {
    count = e.count;
    scopes = e.scopes;
    given = subst (λ (us : Uses). EnvFor names (with_use env k scope) (given_in s) us) used_so (use_env names env k scope (chain_in s fs) (given_in s) (uses_in s) (e.scopes scope fs at) e.given);
    noted = λ l n is. noted_by l n (same_number k l) (sym (noted_as env k l scope) ∙ is);
    unnoted = λ l none. unnoted_by l (same_number k l) (sym (noted_as env k l scope) ∙ none);
    inside = e.inside;
    entered = e.entered;
    defined = e.defined;
    named = e.named;
    given_named = e.given_named;
  }

-- the next use of the form begins
pub use_begins : (work : Work) (u : UnitScope) (ls : List Frames) (s : ScopedState) (scope : ℕ) (fs : Frames) → slice_get ls scope ≡ Some fs → u.form.budget.uses + 1 ≤ max_uses → Stands work u ls s →
    Stands work (with_use_begun u scope) ls (used fs s)
use_begins work u ls s scope fs at room e =
    let m = e.macros in
    let f = e.form in
    let k = next_number s s.uses in
    let number : k ≡ record { unit = u.unit; form = u.form.number; count = u.form.budget.uses } = λ j. record { unit = sym e.unit j; form = sym f.number j; count = sym f.uses j } in
    let now : u.form.budget.uses + 1 ≡ at_form s.form suc s.uses s.form = omega (arith, f.uses, counted_here s.form suc s.uses) in
    let v = used_env work.symbols u.env ls s k scope fs at e.env in
    record {
      unit = e.unit;
      program = e.program;
      env = subst (λ (n : Number). EnvStands work.symbols (with_use u.env n scope) ls (used fs s)) number (record {
        count = v.count;
        scopes = v.scopes;
        given = v.given;
        noted = v.noted;
        unnoted = v.unnoted;
        inside = v.inside;
        entered = v.entered;
        defined = v.defined;
        named = v.named;
        given_named = v.given_named;
      });
      macros = record { there = m.there; idents = m.idents; symbols = m.symbols; free = m.free; known_idents = m.known_idents; known_symbols = m.known_symbols };
      root = e.root;
      own = e.own;
      begun = record { frames = e.begun.frames; bodies = e.begun.bodies; macros = e.begun.macros };
      form = record {
        number = f.number;
        locals = f.locals;
        uses = now;
        nodes = f.nodes;
        few_uses = room;
        few_nodes = f.few_nodes;
        few_locals = f.few_locals;
        definitions = f.definitions;
        keywords = f.keywords;
        met = f.met;
      };
      defined = e.defined;
      known = e.known;
      count = e.count;
    }
