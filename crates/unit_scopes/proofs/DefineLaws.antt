-- A definition where forms are gone through: what the next one binds and means, what it comes to, and that all stands with it.
use Rattle.std.proofs.Common.{◌≡◌, ℕ, ◌+◌, ◌<◌, ◌≤◌, List, [], ◌∷◌, Bool, true, false, not, Option, Some, None, Result, Ok, Err, refl, sym, ap, ◌∙◌, subst, arith}
use Rattle.std.specs.Prelude.{◌&&◌, nat_eq, if◌then◌else◌}
use Rattle.std.proofs.Common.{eqb-true}
use Rattle.std.specs.Prelude.{is_some as is_kept}
use Rattle.std.specs.BTreeMap.{BTreeMap, get, btree_map_len}
use Rattle.std.specs.Ordering.{nat_cmp, is_eq}
use Rattle.std.proofs.lemmas.Option.{slice_get_within}
use Rattle.scheme_model.specs.Identifiers.{Number}
use Rattle.scheme_model.specs.Ident.{Ident as Identifier}
use Rattle.scheme_model.specs.ExpansionFaults.{Named, KeywordRedefined, Duplicate}
use Rattle.scheme_model.specs.Meaning as model
use Rattle.scheme_model.specs.RulesShape.{Rules}
use Rattle.scheme_model.specs.Steps.{Broken}
use Rattle.scheme_model.specs.Order.{Here, Note, Pending, is_some, told}
use Rattle.std.specs.Option.{option_map}
use Rattle.scheme_model.specs.Substitution.{Defined, defined_in, is_variable, any, unchanged}
use Rattle.scheme_model.specs.CountedExpansion.{refused_here}
use Rattle.scheme_model.specs.ScopedExpansion.{Frames, FramedIdent, BodyDefinition, ScopedState, next_number, body_around, bound_next, definition_added, meaning_next, is_defined, assigned}
use Rattle.scheme_model.proofs.IdentLaws.{bool_same}
use Rattle.syntax_tree.specs.Names.{AreToldApart}
use Rattle.syntax_tree.specs.Macros.{IsIdent}
use Rattle.syntax_tree.specs.Meant.{IsMeaning}
use Rattle.syntax_tree.specs.declared.meaning.Meaning.{Meaning}
use Rattle.syntax_tree.specs.declared.meaning.Meaning.TheVariants.{Local, Global, Standard, Free}
use Rattle.syntax_tree.specs.declared.trees.Work.{Work}
use Rattle.syntax_tree.proofs.Places.{get_within}
use Rattle.scope_env.specs.Environment.{Environment, IsSound, with_bound}
use Rattle.scope_env.specs.Resolved.{bound_at}
use Rattle.scope_env.specs.Standing.{bound_by}
use Rattle.core_forms.specs.Parts.{IsName}
use Rattle.core_forms.specs.declared.shape.NamePart.{NamePart}
use Rattle.core_tree.specs.Names.{IsBound}
use Rattle.unit_scopes.specs.Binds.{with_locals}
use Rattle.unit_scopes.specs.Chains.{body_chain}
use Rattle.unit_scopes.specs.Counts.{named_fault}
use Rattle.unit_scopes.specs.Macros.{macro_in, edition_of, edition_in, same_key, IsBound as IsBound_meaning, Keeps}
use Rattle.unit_scopes.specs.State.{IsMacro, EnvStands, Stands, is_program, most_locals}
use Rattle.unit_scopes.specs.Stepped.{BindsBody, with_told, with_definition, with_macros}
use Rattle.unit_scopes.specs.Searched.{speaks_of, define_searched}
use Rattle.unit_scopes.specs.Kept.{IsInBody, IsIn, SpotFor}
use Rattle.unit_scopes.specs.Outcomes.{At, IsSettled, KeepsNumbers, SameForm}
use Rattle.unit_scopes.specs.Defining.{ComesTo, next_here, Places, IsKept, Takes, EndsIn}
use Rattle.unit_scopes.specs.declared.definitions.Coming.{Coming}
use Rattle.form_parts.specs.declared.items.Spot.{Spot}
use Rattle.unit_scopes.specs.declared.macros.Macro.{Macro}
use Rattle.unit_scopes.specs.declared.macros.Macros.{Macros}
use Rattle.unit_scopes.specs.declared.scope.UnitScope.{UnitScope}
use Rattle.unit_scopes.proofs.BodiesStand.{definition_stands}
use Rattle.unit_scopes.proofs.BodyScopes.{binds_more, body_binds}
use Rattle.unit_scopes.proofs.ComingDefinitions.{coming_in_body, coming_in_unit}
use Rattle.unit_scopes.proofs.OutcomeLaws.{same_itself, numbers_stay}
use Rattle.unit_scopes.proofs.DefinedMacros.{macro_definition_stands, own_variable_stands, own_macro_stands}

-- ---- where forms are gone through

module _ (work : Work) (ls : List Frames) (scope : ℕ) (fs : Frames) where
  pub in_body_here : (u : UnitScope) (s : ScopedState) (b : Bool) → b ≡ true → IsIn work u ls s scope fs b → IsInBody work u ls s scope fs
  in_body_here u s b is h = subst (λ (x : Bool). IsIn work u ls s scope fs x) is h

  pub in_unit_here : (u : UnitScope) (s : ScopedState) (b : Bool) → b ≡ false → IsIn work u ls s scope fs b → (scope ≡ u.root) × (fs ≡ [])
  in_unit_here u s b is h = subst (λ (x : Bool). IsIn work u ls s scope fs x) is h

  -- with the same scopes and definitions
  pub is_in_on : (u v : UnitScope) (s t : ScopedState) (b : Bool) → v.env ≡ u.env → v.root ≡ u.root → t.definitions ≡ s.definitions → IsIn work u ls s scope fs b → IsIn work v ls t scope fs b
  is_in_on u v s t true env root same h = record {
    body = h.body;
    outer = h.outer;
    opened = h.opened;
    frames = h.frames;
    binds = λ n. ap (λ (e : Environment). bound_at e scope n) env ∙ (h.binds n ∙ ap (λ ds. bound_by work.symbols (body_chain ds h.body) n) (sym same));
  }
  is_in_on u v s t false env root same h = (h.0 ∙ sym root, h.1)

-- ---- what the next definition binds and means

module _ (work : Work) (u : UnitScope) (ls : List Frames) (s : ScopedState) (scope : ℕ) (fs : Frames) (e : Stands work u ls s) where
  pub meaning_here : (b : Bool) (ident : ℕ) (i : Identifier) → IsIn work u ls s scope fs b → IsIdent work.symbols ident i → IsMeaning work.symbols s.unit s.form (next_here u b ident) (meaning_next s (body_around fs) i)
  meaning_here true ident i h is =
      subst (λ (o : Option Number). IsMeaning work.symbols s.unit s.form (Local u.form.budget.locals) (meaning_next s o i)) (sym (ap body_around h.frames))
      (λ j. model.Local (record { unit = s.unit; form = s.form; count = sym e.form.locals j }))
  meaning_here false ident i h is =
      subst (λ (o : Option Number). IsMeaning work.symbols s.unit s.form (Global u.unit ident) (meaning_next s o i)) (sym (ap body_around h.1)) (e.unit, is)

  pub bound_in_body : IsInBody work u ls s scope fs → IsBound s.unit s.form u.form.budget.locals (bound_next s (body_around fs))
  bound_in_body h =
      subst (λ (o : Option Number). IsBound s.unit s.form u.form.budget.locals (bound_next s o)) (sym (ap body_around h.frames))
      (λ j. record { unit = s.unit; form = s.form; count = sym e.form.locals j })

  pub bound_in_unit : fs ≡ [] → IsBound s.unit s.form (btree_map_len u.defined) (bound_next s (body_around fs))
  bound_in_unit h =
      subst (λ (o : Option Number). IsBound s.unit s.form (btree_map_len u.defined) (bound_next s o)) (sym (ap body_around h)) (refl, sym e.count)

  module _ (name : NamePart) (n : Named Identifier) (apart : AreToldApart work.symbols.idents) (sound : IsSound u.env) (is : IsName work name n) where
    -- ---- what it comes to

    pub comes_here : (b k : Bool) (r : Option (Rules Identifier)) → IsIn work u ls s scope fs b →
        ComesTo work u ls (definition_added (body_around fs) n r fs s) (record { bound = record { scope = scope; ident = name.ident; meaning = next_here u b name.ident }; is_macro = k }) (meaning_next s (body_around fs) n.name)
    comes_here true k r h =
        let c : Coming = record { bound = record { scope = scope; ident = name.ident; meaning = Local u.form.budget.locals }; is_macro = k } in
        subst (λ (o : Option Number). ComesTo work u ls (definition_added o n r fs s) c (meaning_next s o n.name)) (sym (ap body_around h.frames)) (record {
          env = coming_in_body work u ls s scope h.body h.outer fs name.ident n r apart sound h.opened is.0 e;
          meaning = λ j. model.Local (record { unit = s.unit; form = s.form; count = sym e.form.locals j });
        })
    comes_here false k r h =
        let c : Coming = record { bound = record { scope = scope; ident = name.ident; meaning = Global u.unit name.ident }; is_macro = k } in
        subst (λ (o : Option Number). ComesTo work u ls (definition_added o n r fs s) c (meaning_next s o n.name)) (sym (ap body_around h.1)) (record {
          env = subst (λ (x : ℕ). EnvStands work.symbols (with_bound u.env x name.ident (Global u.unit name.ident)) ls (definition_added None n r fs s)) (sym h.0) (coming_in_unit work u ls s fs name.ident n r apart sound is.0 e);
          meaning = (e.unit, is.0);
        })

    pub comes_so : (b k : Bool) (m : Meaning) (r : Option (Rules Identifier)) → m ≡ next_here u b name.ident → IsIn work u ls s scope fs b →
        ComesTo work u ls (definition_added (body_around fs) n r fs s) (record { bound = record { scope = scope; ident = name.ident; meaning = m }; is_macro = k }) (meaning_next s (body_around fs) n.name)
    comes_so b k m r value h =
        subst (λ (x : Meaning). ComesTo work u ls (definition_added (body_around fs) n r fs s) (record { bound = record { scope = scope; ident = name.ident; meaning = x }; is_macro = k }) (meaning_next s (body_around fs) n.name)) (sym value) (comes_here b k r h)

    module _ (at : At ls scope fs) (room : u.form.budget.locals + 1 ≤ most_locals u.form.budget.nodes) (w : UnitScope) where
      -- ---- it is made

      abbrev in_unit : BTreeMap ℕ Bool → UnitScope
      in_unit defined = record (with_told u name) { env = with_bound u.env scope name.ident (Global u.unit name.ident); defined = defined }

      at_root : (defined : BTreeMap ℕ Bool) → scope ≡ u.root → w ≡ in_unit defined → with_definition (with_told u name) name.ident defined ≡ w
      at_root defined root p = (λ j. record (with_told u name) { env = with_bound u.env (sym root j) name.ident (Global u.unit name.ident); defined = defined }) ∙ sym p

      pub variable_stands : (b : Bool) → IsIn work u ls s scope fs b → Places u w b scope name (next_here u b name.ident) false → Stands work w ls (definition_added (body_around fs) n None fs s)
      variable_stands true h p =
          subst (λ (v : UnitScope). Stands work v ls (definition_added (body_around fs) n None fs s)) (sym p)
          (subst (λ (o : Option Number). Stands work (record (with_locals u (u.form.budget.locals + 1)) { env = with_bound u.env scope name.ident (Local u.form.budget.locals) }) ls (definition_added o n None fs s)) (sym (ap body_around h.frames))
          (definition_stands work u ls s scope h.body h.outer fs name.ident n apart sound h.opened is.0 room e))
      variable_stands false h p =
          subst (λ (v : UnitScope). Stands work v ls (definition_added (body_around fs) n None fs s)) (at_root p.0 h.0 p.1)
          (subst (λ (o : Option Number). Stands work (with_definition (with_told u name) name.ident p.0) ls (definition_added o n None fs s)) (sym (ap body_around h.1))
          (own_variable_stands work u ls s fs name n p.0 apart sound is p.2 p.3 e))

      pub macro_stands : (b : Bool) (ms : Macros) (k : Macro) (r : Rules Identifier) → AreToldApart work.symbols.symbols → IsIn work u ls s scope fs b → Places u w b scope name (next_here u b name.ident) true →
          Keeps w.macros ms w.form.number (next_here u b name.ident) k → IsMacro work ls k (record { env = fs; rules = r }) → Stands work (with_macros w ms) ls (definition_added (body_around fs) n (Some r) fs s)
      macro_stands true ms k r told h p keeps kept =
          let v : UnitScope = record (with_locals u (u.form.budget.locals + 1)) { env = with_bound u.env scope name.ident (Local u.form.budget.locals) } in
          subst (λ (x : UnitScope). Stands work (with_macros x ms) ls (definition_added (body_around fs) n (Some r) fs s)) (sym p)
          (subst (λ (o : Option Number). Stands work (with_macros v ms) ls (definition_added o n (Some r) fs s)) (sym (ap body_around h.frames))
          (macro_definition_stands work u ls s scope h.body h.outer fs name.ident n ms k r apart told sound h.opened is.0 room
          (subst (λ (x : UnitScope). Keeps x.macros ms x.form.number (Local u.form.budget.locals) k) p keeps) kept e))
      macro_stands false ms k r told h p keeps kept =
          subst (λ (x : UnitScope). Stands work (with_macros x ms) ls (definition_added (body_around fs) n (Some r) fs s)) (at_root p.0 h.0 p.1)
          (subst (λ (o : Option Number). Stands work (with_macros (with_definition (with_told u name) name.ident p.0) ms) ls (definition_added o n (Some r) fs s)) (sym (ap body_around h.1))
          (own_macro_stands work u ls s fs name n p.0 ms k r apart told sound is p.2 p.3
          (subst (λ (x : UnitScope). Keeps x.macros ms x.form.number (Global u.unit name.ident) k) p.1 keeps) kept e))

      -- forms are gone through there as before
      pub in_after : (b k : Bool) (r : Option (Rules Identifier)) → IsIn work u ls s scope fs b → Places u w b scope name (next_here u b name.ident) k → IsIn work w ls (definition_added (body_around fs) n r fs s) scope fs b
      in_after true k r h p =
          let d : BodyDefinition = record { body = h.body; ident = n.name; binder = next_number s s.locals } in
          let x = get_within u.env.scopes scope (subst (λ (len : ℕ). scope < len) e.env.count (slice_get_within ls scope fs at)) in
          let more : BindsBody work.symbols (with_bound u.env scope name.ident (Local (s.locals s.form))) scope (record s { definitions = d ∷ s.definitions }) h.body = binds_more work.symbols u.env scope name.ident s d x.0 apart is.0 x.1 h.binds in
          subst (λ (o : Option Number). IsIn work w ls (definition_added o n r fs s) scope fs true) (sym (ap body_around h.frames)) (record {
            body = h.body;
            outer = h.outer;
            opened = h.opened;
            frames = h.frames;
            binds = λ m. (λ j. bound_at (p j).env scope m) ∙ ((λ j. bound_at (with_bound u.env scope name.ident (Local (e.form.locals j))) scope m) ∙ more m);
          })
      in_after false k r h p = (h.0 ∙ (λ j. (sym p.1 j).root), h.1)

-- ---- the operation

-- some note would be told otherwise
abbrev pub changes : Identifier → ScopedState → model.Meaning → Bool → List (Note FramedIdent) → Bool
changes x t m k ns = any (λ note. speaks_of x note && refused_here t m k note) ns

pub refuses : (here : Here) (b : Option Number) (n : Named Identifier) (r : Option (Rules Identifier)) (fs : Frames) (p : Pending Identifier FramedIdent) (s : ScopedState) →
    changes n.name (definition_added b n r fs s) (meaning_next s b n.name) (is_some r) p.notes ≡ true →
    told here (define_searched b n r fs p s) ≡ (Err (record { fault = KeywordRedefined n; here = here }), s)
refuses here b n r fs p s h =
    ap (λ (x : Bool). told here (if x then (Err (KeywordRedefined n), s) else if is_defined s b n.name then (Err (Duplicate n), s) else (Ok (unchanged p), definition_added b n r fs s))) h

pub is_second : (here : Here) (b : Option Number) (n : Named Identifier) (r : Option (Rules Identifier)) (fs : Frames) (p : Pending Identifier FramedIdent) (s : ScopedState) →
    changes n.name (definition_added b n r fs s) (meaning_next s b n.name) (is_some r) p.notes ≡ false → is_defined s b n.name ≡ true →
    told here (define_searched b n r fs p s) ≡ (Err (record { fault = Duplicate n; here = here }), s)
is_second here b n r fs p s h k =
    ap (λ (x : Bool). told here (if x then (Err (KeywordRedefined n), s) else if is_defined s b n.name then (Err (Duplicate n), s) else (Ok (unchanged p), definition_added b n r fs s))) h
    ∙ ap (λ (x : Bool). told here (if x then (Err (Duplicate n), s) else (Ok (unchanged p), definition_added b n r fs s))) k

pub is_made : (here : Here) (b : Option Number) (n : Named Identifier) (r : Option (Rules Identifier)) (fs : Frames) (p : Pending Identifier FramedIdent) (s : ScopedState) →
    changes n.name (definition_added b n r fs s) (meaning_next s b n.name) (is_some r) p.notes ≡ false → is_defined s b n.name ≡ false →
    told here (define_searched b n r fs p s) ≡ (Ok (unchanged p), definition_added b n r fs s)
is_made here b n r fs p s h k =
    ap (λ (x : Bool). told here (if x then (Err (KeywordRedefined n), s) else if is_defined s b n.name then (Err (Duplicate n), s) else (Ok (unchanged p), definition_added b n r fs s))) h
    ∙ ap (λ (x : Bool). told here (if x then (Err (Duplicate n), s) else (Ok (unchanged p), definition_added b n r fs s))) k

-- ---- its faults

module _ {X Y : Type 0} (P : X → Y → Type 0) (work : Work) (u : UnitScope) (ls : List Frames) (s : ScopedState) (spot : Spot) (fs : Frames) (here : Here) (x : NamePart) (n : Named Identifier) (is : IsName work x n) (e : Stands work u ls s) (placed : SpotFor work u ls s spot fs) (q : Result Y Broken × ScopedState) where
  pub refused_ends : q ≡ (Err (record { fault = KeywordRedefined n; here = here }), s) → EndsIn P work u u ls spot fs (Err (named_fault here 41 x)) q
  refused_ends same =
      subst (λ (r : Result Y Broken × ScopedState). EndsIn P work u u ls spot fs (Err (named_fault here 41 x)) r) (sym same)
      (record { stands = e; placed = placed; same = same_itself u }, (record { fault = KeywordRedefined n; here = here }, refl, record { code = refl; name = is.0; place = is.1; here = refl; text = refl }))

  pub second_ends : q ≡ (Err (record { fault = Duplicate n; here = here }), s) → EndsIn P work u u ls spot fs (Err (named_fault here 42 x)) q
  second_ends same =
      subst (λ (r : Result Y Broken × ScopedState). EndsIn P work u u ls spot fs (Err (named_fault here 42 x)) r) (sym same)
      (record { stands = e; placed = placed; same = same_itself u }, (record { fault = Duplicate n; here = here }, refl, record { code = refl; name = is.0; place = is.1; here = refl; text = refl }))

-- ---- what it counts

pub is_bound_here : (u : UnitScope) (b : Bool) (ident : ℕ) → IsBound_meaning (next_here u b ident)
is_bound_here u true ident = tt
is_bound_here u false ident = tt

-- the same form is at work, and has counted nothing but a local
pub record SamePlace (u w : UnitScope) : Type 0 where
  pub same : SameForm u w
  pub takes : Takes 1 u w

same_but : (u w : UnitScope) → KeepsNumbers u w → w.unit ≡ u.unit → w.root ≡ u.root → w.libraries ≡ u.libraries → w.env.roots ≡ u.env.roots → w.form.number ≡ u.form.number → w.form.budget.locals ≤ u.form.budget.locals + 1 → w.form.budget.uses ≡ u.form.budget.uses → w.form.budget.nodes ≡ u.form.budget.nodes → SamePlace u w
same_but u w numbers unit root libraries roots number locals uses nodes = record {
  same = record { unit = unit; number = number; root = root; libraries = libraries; roots = roots; uses = omega (arith, uses); nodes = omega (arith, nodes); numbers = numbers };
  takes = record { locals = locals; uses = uses; nodes = nodes };
}

-- a definition more
some_more : (b k : Bool) (o : Option Bool) → is_kept o ≡ true → is_kept (if b then Some k else o) ≡ true
some_more true k o there = refl
some_more false k o there = there

pub same_placed : (u w : UnitScope) (b k : Bool) (scope : ℕ) (name : NamePart) (m : Meaning) → Places u w b scope name m k → SamePlace u w
same_placed u w true k scope name m p =
    same_but u w (numbers_stay u w (λ j. (p j).macros) (λ j. (p j).defined)) (λ j. (p j).unit) (λ j. (p j).root) (λ j. (p j).libraries) (λ j. (p j).env.roots) (λ j. (p j).form.number)
    (let e : w.form.budget.locals ≡ u.form.budget.locals + 1 = λ j. (p j).form.budget.locals in omega arith) (λ j. (p j).form.budget.uses) (λ j. (p j).form.budget.nodes)
same_placed u w false k scope name m p =
    let q = p.1 in
    let numbers : KeepsNumbers u w = record {
      defined = λ i there. (λ j. is_kept (get nat_cmp (q j).defined i)) ∙ (ap is_kept (p.2 i) ∙ some_more (is_eq (nat_cmp name.ident i)) k (get nat_cmp u.defined i) there);
      numbers = λ form c settled. λ j. edition_in (q j).macros form c;
    } in
    same_but u w numbers (λ j. (q j).unit) (λ j. (q j).root) (λ j. (q j).libraries) (λ j. (q j).env.roots) (λ j. (q j).form.number)
    (let e : w.form.budget.locals ≡ u.form.budget.locals = λ j. (q j).form.budget.locals in omega arith) (λ j. (q j).form.budget.uses) (λ j. (q j).form.budget.nodes)

pub same_kept : (u w : UnitScope) (ms : Macros) → KeepsNumbers u (with_macros w ms) → SamePlace u w → SamePlace u (with_macros w ms)
same_kept u w ms numbers h =
    let a = h.same in
    let b = h.takes in
    same_but u (with_macros w ms) numbers a.unit a.root a.libraries a.roots a.number b.locals b.uses b.nodes

-- ---- it ends well

-- neither its notes nor the macros change
pub placed_notes : (u w : UnitScope) (b k : Bool) (scope : ℕ) (name : NamePart) (m : Meaning) → Places u w b scope name m k → w.form.trace.notes ≡ u.form.trace.notes
placed_notes u w true k scope name m p = λ j. (p j).form.trace.notes
placed_notes u w false k scope name m p = λ j. (p.1 j).form.trace.notes

pub placed_macros : (u w : UnitScope) (b k : Bool) (scope : ℕ) (name : NamePart) (m : Meaning) → Places u w b scope name m k → w.macros ≡ u.macros
placed_macros u w true k scope name m p = λ j. (p j).macros
placed_macros u w false k scope name m p = λ j. (p.1 j).macros

-- no other macro changes
pub kept_beside : (u w : UnitScope) (ms : Macros) (b : Bool) (ident : ℕ) (k : Macro) (f : ℕ) (m : Meaning) → w.form.number ≡ u.form.number → w.macros ≡ u.macros → Keeps w.macros ms w.form.number (next_here u b ident) k →
    same_key u.form.number (next_here u b ident) f m ≡ false → macro_in ms f m ≡ macro_in u.macros f m
kept_beside u w ms b ident k f m number macros keeps apart =
    keeps f m
    ∙ ((λ j. if same_key (number j) (next_here u b ident) f m then Some k else macro_in (macros j) f m)
    ∙ ap (λ (q : Bool). if q then Some k else macro_in u.macros f m) apart)

-- what stood means something else than what is defined
apart_here : (u : UnitScope) (b : Bool) (ident form : ℕ) (c : Meaning) → (b ≡ false → get nat_cmp u.defined ident ≡ None) → IsSettled u c → same_key u.form.number (next_here u b ident) form c ≡ false
apart_here u b ident form (Local n) new settled = absurd settled
apart_here u true ident form (Global x i) new settled = refl
apart_here u true ident form (Standard x) new settled = refl
apart_here u true ident form (Free x) new settled = refl
apart_here u false ident form (Standard x) new settled = refl
apart_here u false ident form (Free x) new settled = refl
apart_here u false ident form (Global x i) new settled = by (nat_eq x u.unit) (nat_eq i ident) refl refl
  where
    no_true : {P : Type 0} → true ≡ false → P
    no_true h = absurd cc

    by : (p q : Bool) → nat_eq x u.unit ≡ p → nat_eq i ident ≡ q → (nat_eq x u.unit && nat_eq i ident) ≡ false
    by true true same_unit same = no_true (sym (settled (eqb-true x u.unit same_unit)) ∙ (ap (λ (n : ℕ). is_kept (get nat_cmp u.defined n)) (eqb-true i ident same) ∙ ap is_kept (new refl)))
    by true false same_unit other = λ j. same_unit j && other j
    by false q other same = ap (λ (r : Bool). r && nat_eq i ident) other

pub numbers_kept : (u w : UnitScope) (ms : Macros) (b : Bool) (ident : ℕ) (k : Macro) → w.form.number ≡ u.form.number → w.macros ≡ u.macros → (b ≡ false → get nat_cmp u.defined ident ≡ None) → Keeps w.macros ms w.form.number (next_here u b ident) k →
    KeepsNumbers u w → KeepsNumbers u (with_macros w ms)
numbers_kept u w ms b ident k number macros new keeps h =
    record { defined = h.defined; numbers = λ form c settled. ap edition_of (kept_beside u w ms b ident k form c number macros keeps (apart_here u b ident form c new settled)) }

-- what is kept is a macro exactly where there are rules
pub kept_tells : (work : Work) (ls : List Frames) (fs : Frames) (k : Option Macro) (r : Option (Rules Identifier)) → IsKept work ls fs k r → is_kept k ≡ is_some r
kept_tells work ls fs None None h = refl
kept_tells work ls fs None (Some r) h = absurd h
kept_tells work ls fs (Some k) None h = absurd h
kept_tells work ls fs (Some k) (Some r) h = refl

-- nothing was defined so before
no_definition : {A : Type 0} (o : Option A) → is_some o ≡ false → o ≡ None
no_definition None h = refl
no_definition (Some a) h = absurd cc

pub undefined_here : (work : Work) (u : UnitScope) (ls : List Frames) (s : ScopedState) (scope : ℕ) (fs : Frames) (b : Bool) (ident : ℕ) (i : Identifier) → Stands work u ls s → IsIn work u ls s scope fs b → IsIdent work.symbols ident i → is_defined s (body_around fs) i ≡ false → b ≡ false → get nat_cmp u.defined ident ≡ None
undefined_here work u ls s scope fs b ident i e h is none outside =
    let root = in_unit_here work ls scope fs u s b outside h in
    let gone : is_some (defined_in s.table s.unit i) ≡ false = ap (λ (o : Option Number). is_defined s o i) (sym (ap body_around root.1)) ∙ none in
    e.defined ident i is ∙ ap (option_map (λ (d : Defined). d.keyword)) (no_definition (defined_in s.table s.unit i) gone)

-- ---- whether there is a definition already

kept_is : {A : Type 0} (o : Option A) → is_kept o ≡ is_some o
kept_is None = refl
kept_is (Some a) = refl

kept_mapped : {A B : Type 0} (f : A → B) (o : Option A) → is_kept (option_map f o) ≡ is_some o
kept_mapped f None = refl
kept_mapped f (Some a) = refl

abbrev keyword_of : Defined → Bool
keyword_of d = d.keyword

abbrev pub is_free : Option Bool → Bool
is_free None = false
is_free (Some k) = not k

variable_by : (o : Option Defined) → is_free (option_map keyword_of o) ≡ is_variable o
variable_by None = refl
variable_by (Some d) = refl

module _ (work : Work) (u : UnitScope) (ls : List Frames) (s : ScopedState) (scope : ℕ) (fs : Frames) (b : Bool) (ident : ℕ) (i : Identifier) (e : Stands work u ls s) (h : IsIn work u ls s scope fs b) (is : IsIdent work.symbols ident i) where
  pub defined_in_body : (r : Bool) → b ≡ true → (r ≡ true → is_kept (bound_at u.env scope ident) ≡ true) → (is_kept (bound_at u.env scope ident) ≡ true → r ≡ true) → r ≡ is_defined s (body_around fs) i
  defined_in_body r inside f g =
      let body = in_body_here work ls scope fs u s b inside h in
      bool_same r (is_kept (bound_at u.env scope ident)) f g
      ∙ (kept_is (bound_at u.env scope ident)
      ∙ (body_binds work.symbols u.env scope ident s body.body i is body.binds
      ∙ ap (λ (o : Option Number). is_defined s o i) (sym (ap body_around body.frames))))

  pub defined_in_unit : (r : Bool) → b ≡ false → r ≡ is_kept (get nat_cmp u.defined ident) → r ≡ is_defined s (body_around fs) i
  defined_in_unit r outside found =
      let root = in_unit_here work ls scope fs u s b outside h in
      found ∙ (ap is_kept (e.defined ident i is)
      ∙ (kept_mapped keyword_of (defined_in s.table s.unit i)
      ∙ ap (λ (o : Option Number). is_defined s o i) (sym (ap body_around root.1))))

  pub assigned_by : (o : Option Bool) → b ≡ false → is_program u.kind ≡ true → o ≡ get nat_cmp u.defined ident → is_free o ≡ assigned s (body_around fs) i
  assigned_by o outside program found =
      let root = in_unit_here work ls scope fs u s b outside h in
      ap is_free (found ∙ e.defined ident i is)
      ∙ (variable_by (defined_in s.table s.unit i)
      ∙ (ap (λ (p : Bool). p && is_variable (defined_in s.table s.unit i)) (sym program ∙ e.program)
      ∙ ap (λ (o : Option Number). assigned s o i) (sym (ap body_around root.1))))
