-- Work goes to another form: scopes and macros are of all forms, so it is that form's counts that have to stand.
use Rattle.std.proofs.Common.{◌≡◌, ℕ, List, [], reverse, sym, ◌∙◌, subst, arith}
use Rattle.scheme_model.specs.ScopedExpansion.{Frames, ScopedState}
use Rattle.syntax_tree.specs.Names.{Names}
use Rattle.syntax_tree.specs.declared.trees.Work.{Work}
use Rattle.core_tree.specs.Names.{AllMatch, IsTarget, IsUse}
use Rattle.core_tree.specs.declared.cores.Binder as code_binder
use Rattle.unit_scopes.specs.State.{IsNumbered, FormStands, Stands}
use Rattle.unit_scopes.specs.Stepped.{turned, IsFresh}
use Rattle.unit_scopes.specs.declared.scope.FormAtWork.{FormAtWork}
use Rattle.unit_scopes.specs.declared.scope.UnitScope.{UnitScope}

pub turned_stands : (work : Work) (u : UnitScope) (ls : List Frames) (s : ScopedState) (n : ℕ) (f : FormAtWork) → FormStands work.symbols f (turned n s) → Stands work u ls s → Stands work (record u { form = f }) ls (turned n s)
turned_stands work u ls s n f form e =
    let v = e.env in
    let m = e.macros in
    record {
      unit = e.unit;
      program = e.program;
      env = record {
        count = v.count;
        scopes = v.scopes;
        given = v.given;
        noted = v.noted;
        unnoted = v.unnoted;
        inside = v.inside;
        entered = v.entered;
        defined = v.defined;
        named = v.named;
        given_named = v.given_named;
      };
      macros = record { there = m.there; idents = m.idents; symbols = m.symbols; free = m.free; known_idents = m.known_idents; known_symbols = m.known_symbols };
      root = e.root;
      own = e.own;
      begun = record { frames = e.begun.frames; bodies = e.begun.bodies; macros = e.begun.macros };
      form = form;
      defined = e.defined;
      known = e.known;
      count = e.count;
    }

-- a form that has counted, met and defined nothing
pub fresh_stands : (names : Names) (f : FormAtWork) (s : ScopedState) (n : ℕ) → f.number ≡ n → f.budget.locals ≡ 0 → f.budget.uses ≡ 0 → f.budget.nodes ≡ 0 → f.trace.definitions ≡ [] → f.trace.keywords ≡ [] → f.trace.uses ≡ [] → IsFresh s n → FormStands names f (turned n s)
fresh_stands names f s n number locals uses nodes definitions keywords met fresh = record {
  number = number;
  locals = locals ∙ sym fresh.locals;
  uses = uses ∙ sym fresh.uses;
  nodes = nodes ∙ sym fresh.nodes;
  few_uses = omega (arith, uses);
  few_nodes = omega (arith, nodes);
  few_locals = omega (arith, locals, nodes);
  definitions = subst (λ ds. AllMatch (IsNumbered names n) (reverse f.trace.definitions) ds) (sym fresh.definitions) (subst (λ (bs : List code_binder.Binder). AllMatch (IsNumbered names n) (reverse bs) []) (sym definitions) tt);
  keywords = subst (λ ts. AllMatch (IsTarget names s.unit n) f.trace.keywords (reverse ts)) (sym fresh.keywords) (subst (λ ts. AllMatch (IsTarget names s.unit n) ts []) (sym keywords) tt);
  met = subst (λ us. AllMatch (IsUse names s.unit n) f.trace.uses (reverse us)) (sym fresh.met) (subst (λ us. AllMatch (IsUse names s.unit n) us []) (sym met) tt);
}
