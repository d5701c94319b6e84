-- Where a form begins to be declared again, nothing is made yet; where all its definitions are made, the unit stands for the state behind it.
use Rattle.std.proofs.Common.{◌≡◌, ℕ, ◌+◌, ◌*◌, ◌^◌, ◌<◌, ◌≤◌, List, [], length, reverse, append-nil, refl, sym, ap, ◌∙◌, subst, arith}
use Rattle.std.specs.FinMap as map_of
use Rattle.scheme_model.specs.Order.{Note}
use Rattle.scheme_model.specs.ScopedExpansion.{FramedIdent, ScopedState}
use Rattle.scheme_model.specs.Questions.{Moment, Around}
use Rattle.scheme_model.specs.FormsAlike.{again}
use Rattle.forgotten_locals.specs.Outside.{macros_outside, outside}
use Rattle.syntax_tree.specs.declared.trees.Work.{Work}
use Rattle.scope_env.specs.Environment.{IsSound}
use Rattle.core_tree.specs.Names.{AllMatch, IsTarget, IsUse}
use Rattle.unit_scopes.specs.Editions.{EditionsTell}
use Rattle.unit_scopes.specs.Forgotten.{AllOwn}
use Rattle.unit_scopes.specs.Kept.{NoteFor}
use Rattle.unit_scopes.specs.State.{FormStands, IsNumbered, Rests, Stands, numbered_in}
use Rattle.unit_scopes.specs.Stepped.{IsFresh}
use Rattle.unit_scopes.specs.declared.asked.Note as asked
use Rattle.unit_scopes.specs.declared.scope.Budget.{Budget}
use Rattle.unit_scopes.specs.declared.scope.FormAtWork.{FormAtWork}
use Rattle.unit_scopes.specs.declared.scope.UnitScope.{UnitScope}
use Rattle.declared_parts.specs.Again.{moment_of, own_notes, CanDeclare}
use Rattle.declared_parts.specs.Going.{settled, AreMacrosDefined, notes_first, IsNewForm, IsNothing, GoesOn}
use Rattle.declared_parts.specs.Undone.{IsBack, AreDefined}
use Rattle.declared_parts.specs.declared.again.Going.{Going}
use Rattle.declared_parts.specs.declared.parts.DeclaredPart.{DeclaredPart}
use Rattle.declared_parts.specs.declared.undoing.Made.{Made}
use Rattle.declared_parts.proofs.Settled.{settled_is, settled_told, all_flat, rests_counted, editions_counted, stands_rests}

-- ---- the form

abbrev nothing : Moment
nothing = record { locals = 0; uses = 0; nodes = 0; bodies = 0; keywords = []; met = []; table = []; macros = []; places = []; definitions = [] }

abbrev no_notes : List (Note FramedIdent)
no_notes = []

few_at_first : (b : Budget) → b ≡ record { uses = 0; nodes = 0; locals = 0 } → b.locals ≤ 2 ^ 44 * (b.nodes + 1)
few_at_first b e = subst (λ (l : ℕ). l ≤ 2 ^ 44 * (b.nodes + 1)) (sym (ap (λ (x : Budget). x.locals) e)) (omega arith)

none_match : {X Y : Type 0} (P : X → Y → Type 0) (xs : List X) (ys : List Y) → xs ≡ [] → ys ≡ [] → AllMatch P xs ys
none_match P xs ys x y = subst (λ l. AllMatch P l ys) (sym x) (subst (λ l. AllMatch P [] l) (sym y) tt)

new_form : (work : Work) (s : ScopedState) (number : ℕ) (f : FormAtWork) → number ≡ s.form → IsFresh s s.form → IsNewForm number f → FormStands work.symbols f s
new_form work s number f is fresh h = record {
  number = h.number ∙ is;
  locals = ap (λ (b : Budget). b.locals) h.budget ∙ sym fresh.locals;
  uses = ap (λ (b : Budget). b.uses) h.budget ∙ sym fresh.uses;
  nodes = ap (λ (b : Budget). b.nodes) h.budget ∙ sym fresh.nodes;
  few_uses = subst (λ (n : ℕ). n ≤ 10000) (sym (ap (λ (b : Budget). b.uses) h.budget)) (omega arith);
  few_nodes = subst (λ (n : ℕ). n ≤ 200000) (sym (ap (λ (b : Budget). b.nodes) h.budget)) (omega arith);
  few_locals = few_at_first f.budget h.budget;
  definitions = none_match (IsNumbered work.symbols s.form) (reverse f.trace.definitions) (numbered_in s.unit s.form s.table) (ap reverse h.definitions) fresh.definitions;
  keywords = none_match (IsTarget work.symbols s.unit s.form) f.trace.keywords (reverse (s.keywords s.form)) h.keywords (ap reverse fresh.keywords);
  met = none_match (IsUse work.symbols s.unit s.form) f.trace.uses (reverse (s.met s.form)) h.uses (ap reverse fresh.met);
}

-- ---- it begins

module _ (work : Work) (old : UnitScope) (number : ℕ) (part : DeclaredPart) (can : CanDeclare work old number part) (sound : IsSound old.env) where
  abbrev v : Around
  v = can.again.now

  same : v.state ≡ settled v nothing
  same = sym can.comes.outside

  stands_first : (u : UnitScope) → u ≡ record old { form = u.form } → IsNewForm number u.form → Stands work u can.layout v.state
  stands_first u rest form =
      let r = can.stands.rests in
      subst (λ (x : UnitScope). Stands work x can.layout v.state) (sym rest) (record {
        unit = r.unit;
        program = r.program;
        env = r.env;
        macros = r.macros;
        root = r.root;
        own = r.own;
        begun = r.begun;
        form = new_form work v.state number u.form can.number can.comes.new form;
        defined = r.defined;
        known = r.known;
        count = r.count;
      })

  back_first : (u : UnitScope) → u ≡ record old { form = u.form } → IsBack old u
  back_first u rest =
      subst (IsBack old) (sym rest) (record {
        rest = record { unit = refl; kind = refl; root = refl; libraries = refl; asked = refl };
        env = refl;
        defined = λ n. refl;
        count = refl;
        macros = λ form m. refl;
      })

  none_below : {P : Type 0} (i n : ℕ) → i < n → n ≡ 0 → P
  none_below i n lt none = absurd (omega (arith, lt, none))

  pub begins : (u : UnitScope) (g : Going) → u ≡ record old { form = u.form } → IsNewForm number u.form → IsNothing g → GoesOn work old number part can u g 0
  begins u g rest form none =
      let back = back_first u rest in
      record {
        moment = nothing;
        before = record { table = ((moment_of can.again).table, sym (append-nil (moment_of can.again).table)); macros = (macros_outside (moment_of can.again).macros, sym (append-nil (macros_outside (moment_of can.again).macros))); counts = refl };
        count = refl;
        stands = subst (Stands work u can.layout) same (stands_first u rest form);
        closed = subst AreMacrosDefined same (λ i is. can.comes.closed.kept v.state.unit i is);
        tells = subst (λ (s : ScopedState). EditionsTell work.symbols u.macros s can.editions) same (subst (λ (x : UnitScope). EditionsTell work.symbols x.macros v.state can.editions) (sym rest) can.tells);
        rest = back.rest;
        flat = all_flat work.symbols old can.layout v.state can.own sound can.stands.rests.env;
        roots = ap (λ e. e.roots) back.env;
        scopes = ap (λ e. length e.scopes) back.env;
        own = record {
          few = subst (λ (n : ℕ). n ≤ length (own_notes can.again)) (sym none.asked) (omega arith);
          notes = record {
            notes = subst (λ (n : ℕ). AllMatch (NoteFor work can.layout) g.own.notes.items (reverse (notes_first n (own_notes can.again)))) (sym none.asked) (subst (λ (xs : List asked.Note). AllMatch (NoteFor work can.layout) xs no_notes) (sym none.own) tt);
            asks = none.stands work.symbols;
          };
        };
        back = subst (λ (xs : List Made). AreDefined old u (reverse xs)) (sym none.made) back;
        given = λ i k form lt at. none_below i g.macros lt none.macros;
      }

-- ---- it is done

module _ (work : Work) (old : UnitScope) (number : ℕ) (part : DeclaredPart) (can : CanDeclare work old number part) (u : UnitScope) (g : Going) (made : ℕ) (h : GoesOn work old number part can u g made) where
  abbrev around : Around
  around = can.again.now

  pub own_after : AllOwn u
  own_after n lt =
      let scopes = h.scopes in
      let own = can.own n (subst (λ (len : ℕ). n < len) scopes lt) in
      (own.0, ap (λ roots. map_of.get roots own.0) h.roots ∙ own.1)

  -- at a moment with as many definitions it stands for what isn't local there
  module _ (n : Moment) (table : n.table ≡ h.moment.table) (macros : macros_outside n.macros ≡ macros_outside h.moment.macros) where
    abbrev there : ScopedState
    there = outside (again around n)

    pub rests_there : Rests work u can.layout there
    rests_there =
        let at = subst (Rests work u can.layout) (sym (settled_told around n h.moment table macros)) (stands_rests work u can.layout (settled around h.moment) h.stands) in
        subst (Rests work u can.layout) (sym (settled_is around n)) (rests_counted can.layout h.flat (again around n) (settled around n) refl work u at)

    pub tells_there : EditionsTell work.symbols u.macros there can.editions
    tells_there =
        let at = subst (λ (s : ScopedState). EditionsTell work.symbols u.macros s can.editions) (sym (settled_told around n h.moment table macros)) h.tells in
        subst (λ (s : ScopedState). EditionsTell work.symbols u.macros s can.editions) (sym (settled_is around n)) (editions_counted (again around n) (settled around n) work.symbols u.macros can.editions at)
