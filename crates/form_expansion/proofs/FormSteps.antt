-- What a step of one form leaves of the others, and what the form itself has then.
use Rattle.std.proofs.Common.{◌≡◌, ℕ, ◌+◌, ◌*◌, ◌^◌, ◌≤◌, List, [], ◌∷◌, take, false, Option, Some, None, Ok, Err, refl, sym, ◌∙◌, subst, arith}
use Rattle.scheme_model.specs.Ident.{Ident as Identifier}
use Rattle.scheme_model.specs.Order.{Left, Pass}
use Rattle.scheme_model.specs.ScopedExpansion.{Frames, FramedIdent, ScopedState}
use Rattle.syntax_tree.specs.Names.{KeepsNames}
use Rattle.syntax_tree.specs.Works.{KeepsTrees}
use Rattle.syntax_tree.specs.declared.trees.Work.{Work}
use Rattle.syntax_tree.specs.declared.trees.table.Region.{Region}
use Rattle.core_tree.specs.Names.{AllMatch}
use Rattle.core_tree.specs.declared.traces.FormFault.{FormFault}
use Rattle.core_tree.specs.declared.traces.Trace.{Trace}
use Rattle.forgotten_locals.specs.Outside.{outside, forgotten}
use Rattle.root_laws.specs.AtRoot.{AllAtRoot}
use Rattle.root_laws.proofs.RootStates.{outside_root}
use Rattle.unit_scopes.specs.Forgotten.{AreAtRoot}
use Rattle.unit_scopes.specs.Others.{OthersStay}
use Rattle.unit_scopes.specs.State.{IsNumbered, numbered_in}
use Rattle.unit_scopes.specs.Stepped.{IsFresh}
use Rattle.expansion_laws.specs.Tops.{OfOk, ItemsBind}
use Rattle.unit_scopes.specs.Kept.{WaitsFor}
use Rattle.unit_scopes.specs.Units.{ItemFor, HasSpace, Declares}
use Rattle.feature_requirements.specs.declared.fault.ExpandFault.TheVariants as fault
use Rattle.form_parts.specs.declared.items.Item as code_item
use Rattle.form_parts.specs.declared.items.Left as code_left
use Rattle.form_parts.specs.declared.items.WaitingUse as code_waiting
use Rattle.unit_scopes.specs.declared.scope.Budget.{Budget}
use Rattle.unit_scopes.specs.declared.scope.UnitScope.{UnitScope}
use Rattle.expansion_laws.proofs.OtherForms.{others_itself}
use Rattle.expansion_laws.proofs.OtherCounts.{others_count, order_stays}
use Rattle.unit_scopes.proofs.FreshLaws.{none_count, none_has_space}
use Rattle.expansion_laws.proofs.PartsStay.{fault_on, items_on, uses_on}
use Rattle.form_expansion.specs.Forms.{Passing, IsUntouched, IsSetAside, HasSpaceLeft, IsDeclared, KeepsOthers, LeavesOthers, PassesTo, PassesOutside, declared_as}
use Rattle.form_expansion.specs.declared.forms.Bench.{Bench}
use Rattle.form_expansion.specs.declared.forms.Declared as code
use Rattle.form_expansion.proofs.BenchLaws.{Forgets, stands_outside}

-- ---- a form that isn't expanded

abbrev pub nothing_left : Left Identifier
nothing_left = record { uses = []; items = [] }

pub blank_is : (b : Bench) (unit form : ℕ) (s : ScopedState) (d : code.Declared) → IsUntouched d → IsFresh s form → IsDeclared b.work b.region unit form s d (Ok nothing_left)
blank_is b unit form s d none fresh =
    let space : d.so_far.budget.locals + (2 ^ 43 + 2 ^ 40) ≤ 2 ^ 44 * (d.so_far.budget.nodes + 1) = none_has_space d.so_far.budget none.locals in
    record {
      counts = none_count b.work s form d.so_far.budget d.so_far.trace fresh none.uses none.nodes none.locals none.definitions none.keywords none.met;
      set_aside =
          subst (λ (f : Option FormFault). IsSetAside b.work b.region unit form d f (Ok nothing_left)) (sym none.fault) (
            subst (λ (us : List code_waiting.WaitingUse). AllMatch (WaitsFor b.work unit form) us []) (sym none.waiting) tt,
            subst (λ (xs : List code_item.Item). AllMatch (ItemFor b.work b.region unit form) xs []) (sym none.aside) tt,
          );
      tops = tt;
      space = subst (HasSpaceLeft d.so_far.budget) (sym none.fault) (omega (arith, space));
    }

-- ---- the other forms

no_budget : Budget
no_budget = record { uses = 0; nodes = 0; locals = 0 }

no_trace : Trace → Trace
no_trace trace = record trace { definitions = []; keywords = []; uses = [] }

none_matched : {X Y : Type 0} (P : X → Y → Type 0) (ys : List Y) → AllMatch P [] ys → ys ≡ []
none_matched P [] h = refl
none_matched P (y ∷ ys) h = absurd h

module _ (b c : Bench) (trees : KeepsTrees b.work c.work) (names : KeepsNames b.work.symbols c.work.symbols) (same : c.region ≡ b.region) (unit : ℕ) where
  set_aside_on : (m : ℕ) (d : code.Declared) (f : Option FormFault) (r : Passing) → IsSetAside b.work b.region unit m d f r → IsSetAside c.work c.region unit m d f r
  set_aside_on m d None (Ok l) h = (
    uses_on b.work c.work trees names unit m d.left.uses.items l.uses h.0,
    subst (λ (r : Region). AllMatch (ItemFor c.work r unit m) d.left.items l.items) (sym same) (items_on b.work c.work trees names unit b.region m d.left.items l.items h.1),
  )
  set_aside_on m d None (Err e) h = h
  set_aside_on m d (Some e) (Ok l) h = h
  set_aside_on m d (Some e) (Err x) h = fault_on b.work.symbols c.work.symbols names e x h

  module _ (form : ℕ) (s t : ScopedState) (stay : OthersStay form s t) where
    pub others_kept : KeepsOthers b c unit form s t
    others_kept m d r apart h = record {
      counts = others_count form s t stay b.work c.work m d.so_far.budget d.so_far.trace apart names h.counts;
      set_aside = set_aside_on m d d.so_far.fault r h.set_aside;
      tops = h.tops;
      space = h.space;
    }

    fresh_on : Trace → (m : ℕ) → (m ≡ form → ⊥) → IsFresh s m → IsFresh t m
    unfolding no_budget no_trace
    fresh_on trace m apart fresh =
        let less = stay.counts m apart in
        let k = others_count form s t stay b.work c.work m no_budget (no_trace trace) apart names (none_count b.work s m no_budget (no_trace trace) fresh refl refl refl refl refl refl) in
        record {
          locals = less.locals ∙ fresh.locals;
          uses = less.uses ∙ fresh.uses;
          nodes = less.nodes ∙ fresh.nodes;
          keywords = less.keywords ∙ fresh.keywords;
          met = less.met ∙ fresh.met;
          definitions = none_matched (IsNumbered c.work.symbols m) (numbered_in t.unit m t.table) k.definitions;
        }

    pub others_left : Trace → s.unit ≡ unit → LeavesOthers b c unit form s t
    others_left trace own = record {
      number = stay.unit ∙ own;
      kept = others_kept;
      fresh = fresh_on trace;
      in_order = λ behind high order. order_stays form s t stay 0 behind (omega arith) high order;
    }

-- ---- a form that was gone through

module _ (b c : Bench) (trees : KeepsTrees b.work c.work) (names : KeepsNames b.work.symbols c.work.symbols) (same : c.region ≡ b.region) (form : ℕ) (s : ScopedState) (p : Pass Identifier FramedIdent × ScopedState) (stay : OthersStay form s p.1) (tops : OfOk (λ (l : Left Identifier). ItemsBind false l.items) p.0.left)
    (before after : Budget) (ls : List Frames) (trace : Trace) where
  pub passes_ok : (x : code_left.Left) → HasSpace (2 ^ 43) after → Declares b.work c.work b.region b.scope c.scope before after ls form trace (Ok x) p →
      PassesTo b c s.unit form s p (declared_as (record { budget = after; trace = trace; fault = None }) x)
  passes_ok x space h =
      let goes = h.2 in
      let own : c.scope.unit ≡ s.unit = goes.stands.rests.unit ∙ stay.unit in
      let uses : AllMatch (WaitsFor c.work s.unit form) x.uses.items h.0.uses = subst (λ (u : ℕ). AllMatch (WaitsFor c.work u form) x.uses.items h.0.uses) own h.3.uses in
      let items : AllMatch (ItemFor c.work c.region s.unit form) x.items h.0.items =
      subst (λ (u : ℕ). AllMatch (ItemFor c.work c.region u form) x.items h.0.items) own
      (subst (λ (r : Region). AllMatch (ItemFor c.work r c.scope.unit form) x.items h.0.items) (sym same) h.3.items) in
      record {
        layout = goes.layout;
        stands = goes.stands;
        form_is = record {
          counts = goes.counts;
          set_aside = subst (λ (r : Passing). IsSetAside c.work c.region s.unit form (declared_as (record { budget = after; trace = trace; fault = None }) x) None r) (sym h.1) (uses, items);
          tops = tops;
          space = space;
        };
        others = others_left b c trees names same s.unit form s p.1 stay trace refl;
      }

  pub passes_at : (x : code_left.Left) (e : FormFault) → Declares b.work c.work b.region b.scope c.scope before after ls form trace (Err (fault.At e)) p →
      PassesTo b c s.unit form s p (declared_as (record { budget = after; trace = trace; fault = Some e }) x)
  passes_at x e h =
      let goes = h.2 in
      record {
        layout = goes.layout;
        stands = goes.stands;
        form_is = record {
          counts = goes.counts;
          set_aside = subst (λ (r : Passing). IsSetAside c.work c.region s.unit form (declared_as (record { budget = after; trace = trace; fault = Some e }) x) (Some e) r) (sym h.1) h.3;
          tops = tops;
          space = tt;
        };
        others = others_left b c trees names same s.unit form s p.1 stay trace refl;
      }

-- ---- a form that is gone through once its tree was added

-- the form was gone through from a bench that stood for the same state, with fewer trees and names
pub passes_from : (b m c : Bench) (trees : KeepsTrees b.work m.work) (names : KeepsNames b.work.symbols m.work.symbols) (same : m.region ≡ b.region) (unit form : ℕ) (s : ScopedState) (own : s.unit ≡ unit) (p : Pass Identifier FramedIdent × ScopedState) (d : code.Declared) →
    PassesTo m c s.unit form s p d → PassesTo b c unit form s p d
passes_from b m c trees names same unit form s own p d h =
    let x : PassesTo m c unit form s p d = subst (λ (u : ℕ). PassesTo m c u form s p d) own h in
    record {
      layout = x.layout;
      stands = x.stands;
      form_is = x.form_is;
      others = record {
        number = x.others.number;
        kept = λ k e r apart is. x.others.kept k e r apart (others_kept b m trees names same unit form s s (others_itself form s) k e r apart is);
        fresh = x.others.fresh;
        in_order = x.others.in_order;
      };
    }

-- ---- what is local is forgotten behind it

-- what forms counted, met and defined is no less there
module _ (work : Work) (region : Region) (unit : ℕ) (s : ScopedState) where
  pub declared_outside : (m : ℕ) (d : code.Declared) (r : Passing) → IsDeclared work region unit m s d r → IsDeclared work region unit m (outside s) d r
  declared_outside m d r h =
      let c = h.counts in record {
        counts = record {
          number = c.number;
          locals = c.locals;
          uses = c.uses;
          nodes = c.nodes;
          few_uses = c.few_uses;
          few_nodes = c.few_nodes;
          few_locals = c.few_locals;
          definitions = c.definitions;
          keywords = c.keywords;
          met = c.met;
        };
        set_aside = h.set_aside;
        tops = h.tops;
        space = h.space;
      }

fresh_outside : (s : ScopedState) (m : ℕ) → IsFresh s m → IsFresh (outside s) m
fresh_outside s m h = record { locals = h.locals; uses = h.uses; nodes = h.nodes; keywords = h.keywords; met = h.met; definitions = h.definitions }

pub passes_outside : (b c : Bench) (u : UnitScope) → Forgets c u → (unit form : ℕ) (s : ScopedState) (p : Pass Identifier FramedIdent × ScopedState) (d : code.Declared) → PassesTo b c unit form s p d → AllAtRoot p.1 → AreAtRoot p.0.notes →
    PassesOutside b (record c { scope = u }) unit form s (forgotten p) d
passes_outside b c u f unit form s p d h macros notes = record {
  layout = take (c.scope.root + 1) h.layout;
  stands = stands_outside c u f h.layout p.1 p.0.notes h.stands (outside_root p.1 macros) notes;
  form_is = declared_outside c.work c.region unit p.1 form d p.0.left h.form_is;
  others = record {
    number = h.others.number;
    kept = λ m e r apart is. declared_outside c.work c.region unit p.1 m e r (h.others.kept m e r apart is);
    fresh = λ m apart is. fresh_outside p.1 m (h.others.fresh m apart is);
    in_order = h.others.in_order;
  };
}
