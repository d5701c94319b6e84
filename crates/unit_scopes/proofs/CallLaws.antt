-- Work goes to a form and comes back: the state of the unit between two calls, and while a form is at work.
use Rattle.std.proofs.Common.{◌≡◌, ℕ, ◌+◌, ◌≤◌, List, Result, Ok, Err, refl, sym, ap, ◌∙◌, subst, arith}
use Rattle.std.specs.Prelude.{String}
use Rattle.std.specs.BTreeSet.{BTreeSet, contains_text}
use Rattle.std.specs.declared.alloc.Global.{Global}
use Rattle.scheme_model.specs.Ident.{Ident as Identifier}
use Rattle.scheme_model.specs.Requirements.{Known}
use Rattle.scheme_model.specs.Cores.{Part}
use Rattle.scheme_model.specs.Steps.{Broken}
use Rattle.scheme_model.specs.Order.{Note, Pass}
use Rattle.scheme_model.specs.ScopedExpansion.{Frames, FramedIdent, ScopedState}
use Rattle.syntax_tree.specs.Names.{Names, AreToldApart}
use Rattle.syntax_tree.specs.Works.{live_count}
use Rattle.syntax_tree.specs.declared.trees.Work.{Work}
use Rattle.syntax_tree.specs.declared.trees.table.Region.{Region}
use Rattle.core_tree.specs.Cores.{PartStands}
use Rattle.core_tree.specs.declared.cores.CorePart.{CorePart}
use Rattle.core_tree.specs.declared.traces.FormFault.{FormFault}
use Rattle.core_tree.specs.declared.traces.Trace.{Trace}
use Rattle.feature_requirements.specs.Judged.{Knows, library_text}
use Rattle.unit_scopes.specs.Kept.{NotesFor}
use Rattle.unit_scopes.specs.Outcomes.{At, KeepsNumbers, Leaves, SameForm, Stays, Moves, MayFill, Ends}
use Rattle.unit_scopes.specs.State.{FormStands, Rests, Stands}
use Rattle.unit_scopes.specs.Stepped.{turned, with_uses}
use Rattle.unit_scopes.specs.Units.{UnitStands, form_at, CountsFor, LeftFor, CanDeclare, CanSet, Goes, Adds, Counts, Sets, Declares, Expands}
use Rattle.unit_scopes.specs.declared.asked.Asked.{Asked}
use Rattle.feature_requirements.specs.declared.fault.ExpandFault.{ExpandFault}
use Rattle.feature_requirements.specs.declared.fault.ExpandFault.TheVariants as fault
use Rattle.form_parts.specs.declared.items.Left as code_left
use Rattle.unit_scopes.specs.declared.scope.Budget.{Budget}
use Rattle.unit_scopes.specs.declared.scope.FormAtWork.{FormAtWork}
use Rattle.unit_scopes.specs.declared.scope.UnitScope.{UnitScope}
use Rattle.unit_scopes.proofs.NotesStand.{notes_on}
use Rattle.unit_scopes.proofs.OutcomeLaws.{numbers_from}

-- ---- between two calls

-- a form's counts come to what rests
pub with_form : (work : Work) (u : UnitScope) (f : FormAtWork) (ls : List Frames) (s : ScopedState) (n : ℕ) → FormStands work.symbols f (turned n s) → Rests work u ls s → Stands work (record u { form = f }) ls (turned n s)
with_form work u f ls s n form e =
    let v = e.env in
    let m = e.macros in
    record {
      unit = e.unit;
      program = e.program;
      env = record {
        count = v.count;
        scopes = v.scopes;
        given = v.given;
        noted = v.noted;
        unnoted = v.unnoted;
        inside = v.inside;
        entered = v.entered;
        defined = v.defined;
        named = v.named;
        given_named = v.given_named;
      };
      macros = record { there = m.there; idents = m.idents; symbols = m.symbols; free = m.free; known_idents = m.known_idents; known_symbols = m.known_symbols };
      root = e.root;
      own = e.own;
      begun = record { frames = e.begun.frames; bodies = e.begun.bodies; macros = e.begun.macros };
      form = form;
      defined = e.defined;
      known = e.known;
      count = e.count;
    }

-- and go
pub without_form : (work : Work) (u : UnitScope) (f : FormAtWork) (ls : List Frames) (s : ScopedState) → Stands work u ls s → Rests work (record u { form = f }) ls s
without_form work u f ls s e = record {
  unit = e.unit;
  program = e.program;
  env = e.env;
  macros = e.macros;
  root = e.root;
  own = e.own;
  begun = e.begun;
  defined = e.defined;
  known = e.known;
  count = e.count;
}

-- what was looked up is no part of what stands
pub with_asked : (work : Work) (u : UnitScope) (a : Asked) (ls : List Frames) (s : ScopedState) → Stands work u ls s → Stands work (record u { asked = a }) ls s
with_asked work u a ls s e = record {
  unit = e.unit;
  program = e.program;
  env = e.env;
  macros = e.macros;
  root = e.root;
  own = e.own;
  begun = e.begun;
  form = e.form;
  defined = e.defined;
  known = e.known;
  count = e.count;
}

-- nor are the libraries that there are
pub with_libraries : (work : Work) (u : UnitScope) (libraries : BTreeSet (String Global)) (ls : List Frames) (s : ScopedState) (ns : List (Note FramedIdent)) → UnitStands work u ls s ns → UnitStands work (record u { libraries = libraries }) ls s ns
with_libraries work u libraries ls s ns h =
    let e = h.rests in
    record {
      rests = record {
        unit = e.unit;
        program = e.program;
        env = e.env;
        macros = e.macros;
        root = e.root;
        own = e.own;
        begun = e.begun;
        defined = e.defined;
        known = e.known;
        count = e.count;
      };
      notes = h.notes;
    }

-- ---- the form's counts

form_again : (names : Names) (v : FormAtWork) (t : ScopedState) (n : ℕ) → v.number ≡ n → FormStands names v t → FormStands names (form_at n v.budget v.trace) (turned n t)
form_again names v t n number h = subst (λ (m : ℕ). FormStands names (form_at m v.budget v.trace) (turned m t)) number (again (sym h.number))
  where
    again : t.form ≡ v.number → FormStands names (form_at v.number v.budget v.trace) (turned v.number t)
    again is = subst (λ (x : ScopedState). FormStands names (form_at v.number v.budget v.trace) x) (λ k. record t { form = is k }) h

-- ---- before a call

pub can_set : (work : Work) (u u1 : UnitScope) (number : ℕ) (budget : Budget) (trace : Trace) → u1 ≡ record u { form = form_at number budget trace } → CanDeclare work u number budget trace → CanSet work u1
can_set work u u1 number budget trace turn can =
    subst (CanSet work) (sym turn) (record {
      layout = can.layout;
      state = turned number can.state;
      notes = can.notes;
      stands = with_form work u (form_at number budget trace) can.layout can.state number can.counts can.stands.rests;
      asked = can.stands.notes;
    })

pub turned_to : (work : Work) (u u1 : UnitScope) (number : ℕ) (budget : Budget) (trace : Trace) (ls : List Frames) (s : ScopedState) (ns : List (Note FramedIdent)) → u1 ≡ record u { form = form_at number budget trace } → UnitStands work u ls s ns → CountsFor work s number budget trace → Stands work u1 ls (turned number s)
turned_to work u u1 number budget trace ls s ns turn e counts =
    subst (λ (x : UnitScope). Stands work x ls (turned number s)) (sym turn) (with_form work u (form_at number budget trace) ls s number counts e.rests)

-- ---- what calls leave

-- work went to a form and left it
module _ (old new : Work) (region : Region) (u u1 v w : UnitScope) (number : ℕ) (budget after : Budget) (trace traced back : Trace) (turn : u1 ≡ record u { form = form_at number budget trace })
    (rest : w ≡ record v { form = record v.form { trace = back } }) (after_is : after ≡ v.form.budget) (traced_is : traced ≡ v.form.trace) where
  numbered : SameForm u1 v → v.form.number ≡ number
  numbered same = same.number ∙ ap (λ (x : UnitScope). x.form.number) turn

  -- what holds of the unit holds of what is left
  unit_is : w.unit ≡ v.unit
  unit_is = ap (λ (x : UnitScope). x.unit) rest

  numbers_left : SameForm u1 v → KeepsNumbers u (record v { form = record v.form { trace = back } })
  numbers_left same =
      let after : UnitScope = record v { form = record v.form { trace = back } } in
      numbers_from u u1 after (ap (λ (x : UnitScope). x.unit) turn) (ap (λ (x : UnitScope). x.macros) turn) (ap (λ (x : UnitScope). x.defined) turn)
      (record { defined = same.numbers.defined; numbers = same.numbers.numbers })

  goes : (ls layout : List Frames) (ns : List (Note FramedIdent)) (t : ScopedState) → ((n : ℕ) (fs : Frames) → At ls n fs → At layout n fs) → Stays old new region u1 v layout t → NotesFor new layout v.asked ns → Goes old new region u w budget after ls number traced ns t
  goes ls layout ns t kept m notes =
      subst (λ (x : UnitScope). Goes old new region u x budget after ls number traced ns t) (sym rest)
      (subst (λ (b : Budget). Goes old new region u (record v { form = record v.form { trace = back } }) budget b ls number traced ns t) (sym after_is)
      (subst (λ (r : Trace). Goes old new region u (record v { form = record v.form { trace = back } }) budget v.form.budget ls number r ns t) (sym traced_is) (record {
        layout = layout;
        stands = record { rests = without_form new v (record v.form { trace = back }) layout t m.stands; notes = notes };
        kept = kept;
        counts = form_again new.symbols v.form t number (numbered m.same) m.stands.form;
        counted = subst (λ (n : ℕ). live_count new + n ≤ live_count old + v.form.budget.nodes) (ap (λ (x : UnitScope). x.form.budget.nodes) turn) m.counted;
        units = m.same.roots ∙ ap (λ (x : UnitScope). x.env.roots) turn;
        libraries = m.same.libraries ∙ ap (λ (x : UnitScope). x.libraries) turn;
        numbers = numbers_left m.same;
      })))

  -- ---- what is left of a form

  pub declares : (ls : List Frames) (x : code_left.Left) (p : Pass Identifier FramedIdent × ScopedState) → Sets old new region u1 v ls (Ok x) p → Declares old new region u w budget after ls number traced (Ok x) p
  declares ls x p h =
      (h.0, h.1, goes ls ls p.0.notes p.1 (λ n fs at. at) h.2 h.3, subst (λ (n : ℕ). LeftFor new region n number x h.0) (sym unit_is) (subst (λ (n : ℕ). LeftFor new region v.unit n x h.0) (numbered h.2.same) h.4))

  pub declares_fault : (ls : List Frames) (e : FormFault) (p : Pass Identifier FramedIdent × ScopedState) → Sets old new region u1 v ls (Err (fault.At e)) p → Declares old new region u w budget after ls number traced (Err (fault.At e)) p
  declares_fault ls e p h = (h.0, h.1, goes ls ls p.0.notes p.1 (λ n fs at. at) h.2 h.3, h.4)

  -- ---- what an item comes to

  -- what is expanded asks nothing that definitions heed
  module _ (ls : List Frames) (ns : List (Note FramedIdent)) (asked : v.asked ≡ u1.asked) (before : NotesFor old ls u.asked ns) (apart : AreToldApart new.symbols.idents) where
    went : (t : ScopedState) (m : Moves old new region u1 v ls t) → Goes old new region u w budget after ls number traced ns t
    went t m =
        let same : v.asked ≡ u.asked = asked ∙ ap (λ (x : UnitScope). x.asked) turn in
        goes ls m.layout ns t m.kept m.stays (subst (λ (a : Asked). NotesFor new m.layout a ns) (sym same) (notes_on old new ls m.layout m.stays.work.names m.kept u.asked ns apart before))

    pub expands : (x : CorePart) (count : ℕ) (p : Result Part Broken × ScopedState) → count + budget.nodes ≡ after.nodes → Ends (λ layout. PartStands new v.unit v.form.number) old new region u1 v ls (Ok x) p →
        Expands old new region u w budget after ls number traced ns (Ok (record { part = x; count = count })) p
    expands x count p counted h =
        (h.0, h.2, went p.1 h.1, subst (λ (n : ℕ). PartStands new n number x h.0) (sym unit_is) (subst (λ (n : ℕ). PartStands new v.unit n x h.0) (numbered h.1.stays.same) h.3), counted)

    pub expands_fault : (e : FormFault) (p : Result Part Broken × ScopedState) → Ends (λ layout. PartStands new v.unit v.form.number) old new region u1 v ls (Err (fault.At e)) p →
        Expands old new region u w budget after ls number traced ns (Err (fault.At e)) p
    expands_fault e p h = (h.1.0, h.1.1, went p.1 h.0, h.1.2)

-- ---- a call that changes the state of its form alone

-- work went to a form, and left it with uses that were met
pub met_rests : (work : Work) (u u1 v w : UnitScope) (number : ℕ) (budget : Budget) (trace traced back : Trace) (ls : List Frames) (ns : List (Note FramedIdent)) (t : ScopedState) → u1 ≡ record u { form = form_at number budget trace } → v ≡ with_uses u1 v.form.trace.uses →
    w ≡ record v { form = record v.form { trace = back } } → traced ≡ v.form.trace → NotesFor work ls u.asked ns → Stands work v ls t → UnitStands work w ls t ns × CountsFor work t number budget traced
met_rests work u u1 v w number budget trace traced back ls ns t turn same rest traced_is notes e =
    let asked : v.asked ≡ u.asked = ap (λ (x : UnitScope). x.asked) same ∙ ap (λ (x : UnitScope). x.asked) turn in
    let numbered : v.form.number ≡ number = ap (λ (x : UnitScope). x.form.number) same ∙ ap (λ (x : UnitScope). x.form.number) turn in
    let counted : v.form.budget ≡ budget = ap (λ (x : UnitScope). x.form.budget) same ∙ ap (λ (x : UnitScope). x.form.budget) turn in (
      subst (λ (x : UnitScope). UnitStands work x ls t ns) (sym rest)
          (record { rests = without_form work v (record v.form { trace = back }) ls t e; notes = subst (λ (a : Asked). NotesFor work ls a ns) (sym asked) notes }),
      subst (λ (r : Trace). CountsFor work t number budget r) (sym traced_is) (subst (λ (b : Budget). CountsFor work t number b v.form.trace) counted (form_again work.symbols v.form t number numbered e.form)),
    )

-- ---- what holds however a call ends

-- the libraries that there are, as the definition knows them
pub all_known : (libraries : BTreeSet (String Global)) → (known : Known) × Knows libraries known
all_known libraries = (λ n. contains_text libraries (library_text n), λ n written. refl)

module _ (old new : Work) (region : Region) (u v : UnitScope) where
  adds_left : Leaves old new region u → Adds old new region u.form.budget
  adds_left h = record { trees = h.work.trees; names = h.work.names; added = h.work.added; regions = h.work.regions; nodes = h.few }

  adds_stays : (ls : List Frames) (t : ScopedState) → Stays old new region u v ls t → Adds old new region u.form.budget
  adds_stays ls t h =
      let few : v.form.budget.nodes ≤ 200000 = h.stands.form.few_nodes in
      record { trees = h.work.trees; names = h.work.names; added = h.work.added; regions = h.work.regions; nodes = omega (arith, h.counted, few) }

  pub sets_adds : (ls : List Frames) (r : Result code_left.Left ExpandFault) (p : Pass Identifier FramedIdent × ScopedState) → Sets old new region u v ls r p → Adds old new region u.form.budget
  sets_adds ls (Ok x) p h = adds_stays ls p.1 h.2
  sets_adds ls (Err (fault.At e)) p h = adds_stays ls p.1 h.2
  sets_adds ls (Err fault.Full) p h = adds_left h.0
  sets_adds ls (Err fault.Memory) p h = adds_left h

  pub sets_counts : (ls : List Frames) (r : Result code_left.Left ExpandFault) (p : Pass Identifier FramedIdent × ScopedState) → Sets old new region u v ls r p → Counts u v r
  sets_counts ls (Ok x) p h = h.2.same
  sets_counts ls (Err (fault.At e)) p h = h.2.same
  sets_counts ls (Err fault.Full) p h = tt
  sets_counts ls (Err fault.Memory) p h = tt

  pub sets_full : (ls : List Frames) (r : Result code_left.Left ExpandFault) (p : Pass Identifier FramedIdent × ScopedState) → Sets old new region u v ls r p → r ≡ Err fault.Full → MayFill old u
  sets_full ls (Ok x) p h is = absurd cc
  sets_full ls (Err (fault.At e)) p h is = absurd cc
  sets_full ls (Err fault.Full) p h is = h.1
  sets_full ls (Err fault.Memory) p h is = absurd cc

  module _ {X Y : Type 0} (P : List Frames → X → Y → Type 0) (ls : List Frames) where
    pub ends_adds : (r : Result X ExpandFault) (p : Result Y Broken × ScopedState) → Ends P old new region u v ls r p → Adds old new region u.form.budget
    ends_adds (Ok x) p h = adds_stays h.1.layout p.1 h.1.stays
    ends_adds (Err (fault.At e)) p h = adds_stays h.0.layout p.1 h.0.stays
    ends_adds (Err fault.Full) p h = adds_left h.0
    ends_adds (Err fault.Memory) p h = adds_left h

    pub ends_counts : (r : Result X ExpandFault) (p : Result Y Broken × ScopedState) → Ends P old new region u v ls r p → Counts u v r
    ends_counts (Ok x) p h = h.1.stays.same
    ends_counts (Err (fault.At e)) p h = h.0.stays.same
    ends_counts (Err fault.Full) p h = tt
    ends_counts (Err fault.Memory) p h = tt

    pub ends_full : (r : Result X ExpandFault) (p : Result Y Broken × ScopedState) → Ends P old new region u v ls r p → r ≡ Err fault.Full → MayFill old u
    ends_full (Ok x) p h is = absurd cc
    ends_full (Err (fault.At e)) p h is = absurd cc
    ends_full (Err fault.Full) p h is = h.1
    ends_full (Err fault.Memory) p h is = absurd cc
