-- The prelude's unit: it is begun when there is nothing yet, and each macro that is added stands.
use Rattle.std.proofs.Common.{◌≡◌, ℕ, ◌+◌, ◌==◌, ◌&&◌, List, [], ◌∷◌, map, slice_get, Bool, true, false, cond, ◌||◌, Option, Some, None, Result, Ok, Err, OnOk, refl, sym, ap, ◌∙◌, subst}
use Rattle.std.specs.List.{list_any}
use Rattle.std.specs.Str.{bytes_eq}
use Rattle.std.specs.BTreeMap.{get}
use Rattle.std.specs.Option.{option_map, option_and_then}
use Rattle.std.specs.FinMap.{get-empty}
use Rattle.std.specs.Ordering.{nat_cmp}
use Rattle.scheme_model.specs.Identifiers.{Number}
use Rattle.scheme_model.specs.Ident.{Ident as Identifier, Written, Inserted}
use Rattle.scheme_model.specs.ExpansionFaults.{Named}
use Rattle.scheme_model.specs.Meaning as model
use Rattle.scheme_model.specs.Meaning.{of_form}
use Rattle.scheme_model.specs.Order.{Transformer, is_some}
use Rattle.scheme_model.specs.Prelude.{PreludeMacro, prelude}
use Rattle.scheme_model.specs.Program.{Prepared, is_program as is_program_source, prelude_unit, prelude_entry, prelude_definitions, is_standard}
use Rattle.scheme_model.specs.RulesShape.{Rules}
use Rattle.scheme_model.specs.Scopes.{Chain, Uses, Own, found, given_or, defined_or, means}
use Rattle.scheme_model.specs.Substitution.{Defined, Table, Entries, defined_in}
use Rattle.scheme_model.specs.ScopedExpansion.{Frames, ScopedState, ScopedMacro, definition_added}
use Rattle.scheme_model.specs.ScopedProgram.{ScopedProgress, scoped_start_of, scoped_prelude_macro, scoped_before}
use Rattle.syntax_tree.specs.Names.{Names, AreToldApart, KeepsNames}
use Rattle.syntax_tree.specs.Macros.{IsIdent}
use Rattle.syntax_tree.specs.Meant.{IsSymbol, IsMeaning}
use Rattle.syntax_tree.specs.Works.{KeepsTrees}
use Rattle.syntax_tree.specs.declared.meaning.Meaning.{Meaning}
use Rattle.syntax_tree.specs.declared.meaning.Meaning.TheVariants as code
use Rattle.syntax_tree.specs.declared.trees.Work.{Work}
use Rattle.syntax_tree.proofs.Places.{none_some}
use Rattle.scope_env.specs.Environment.{Environment, IsSound, no_scopes, number_cmp}
use Rattle.scope_env.specs.Resolved.{bound_at}
use Rattle.scope_env.specs.Standing.{StandsFor, Gives, EnvFor}
use Rattle.unit_scopes.specs.Chains.{chain_in, uses_in, given_in}
use Rattle.unit_scopes.specs.Kept.{NotesFor}
use Rattle.unit_scopes.specs.Macros.{macro_in, numbered, Keeps}
use Rattle.unit_scopes.specs.Opened.{with_imports, started, nothing_yet, HasUnits}
use Rattle.unit_scopes.specs.Preluded.{standard_names, prelude_with, prelude_state, IsPrelude, Continues, AddsMacro}
use Rattle.unit_scopes.specs.State.{EnvStands, IsMacro, IsMacroIfAny, MacrosStand, Rests}
use Rattle.unit_scopes.specs.Stepped.{kept, with_definition, with_macros}
use Rattle.unit_scopes.specs.Units.{UnitStands}
use Rattle.unit_scopes.specs.declared.asked.Asked.{Asked}
use Rattle.unit_scopes.specs.declared.macros.Macro.{Macro}
use Rattle.unit_scopes.specs.declared.macros.Macros.{Macros}
use Rattle.unit_scopes.specs.declared.scope.UnitScope.{UnitScope}
use Rattle.unit_scopes.proofs.KeptStands.{numbered_stands}
use Rattle.unit_scopes.proofs.GrowthStands.{growth_rests}
use Rattle.unit_scopes.proofs.NotesStand.{notes_on}
use Rattle.unit_scopes.proofs.RestLaws.{kept_rests, own_macro_rests}

-- ---- nothing yet

none_given : (v : ℕ) (i : Identifier) → given_in nothing_yet v i ≡ None
none_given v (Written w x) = by (v == w)
  where
    by : (p : Bool) → cond p (nothing_yet.entry v x) None ≡ None
    by true = refl
    by false = refl
none_given v (Inserted i k) = refl

none_bound : (names : Names) (o : Option Identifier) → None ≡ option_map (λ (v : Number). code.Local v.count) (option_and_then (found []) o)
none_bound names None = refl
none_bound names (Some i) = refl

gives_none : (names : Names) (u : ℕ) (o : Option Identifier) → Gives names None (option_and_then (given_in nothing_yet u) o)
gives_none names u None = tt
gives_none names u (Some i) = subst (Gives names None) (sym (none_given u i)) tt

not_some : {A : Type 0} {P : Type 0} (x : A) (o : Option A) → o ≡ None → o ≡ Some x → P
not_some x o none is = none_some x (sym none ∙ is)

nothing_env : (names : Names) → EnvStands names no_scopes [] nothing_yet
nothing_env names = record {
  count = refl;
  scopes = λ n fs there. none_some fs there;
  given = record {
    own = λ u n. subst (λ (o : Option ℕ). Gives names (option_and_then (λ (r : ℕ). bound_at no_scopes r n) o) (option_and_then (given_in nothing_yet u) (slice_get names.idents n))) (sym (get-empty nat_cmp u)) (gives_none names u (slice_get names.idents n));
    uses = λ k. subst (λ (o : Option ℕ). StandsFor names no_scopes o []) (sym (get-empty number_cmp k)) (λ n. none_bound names (slice_get names.idents n));
  };
  noted = λ k n is. not_some n _ (get-empty number_cmp k) is;
  unnoted = λ k none. refl;
  inside = λ n f fs there. none_some (f ∷ fs) there;
  entered = λ n fs there. none_some fs there;
  defined = tt;
  named = λ n fs there. none_some fs there;
  given_named = λ u i m h. not_some m _ (none_given u i) h;
}

no_macro : (work : Work) (ls : List Frames) (o : Option Macro) → o ≡ None → IsMacroIfAny work ls o None
no_macro work ls None is = tt
no_macro work ls (Some k) is = none_some k (sym is)

not_kept : {P : Type 0} (o : Option Macro) → o ≡ None → is_some o ≡ true → P
not_kept None is h = absurd cc
not_kept (Some k) is h = none_some k (sym is)

nothing_macros : (work : Work) (ms : Macros) → ((f : ℕ) (m : Meaning) → macro_in ms f m ≡ None) → MacrosStand work ms [] nothing_yet
nothing_macros work ms none = record {
  there = λ form c m is. no_macro work [] (macro_in ms form c) (none form c);
  idents = λ u i h. absurd cc;
  symbols = λ x h. absurd cc;
  free = λ x. refl;
  known_idents = λ form u n h. not_kept (macro_in ms form (code.Global u n)) (none form (code.Global u n)) h;
  known_symbols = λ form n h. not_kept (macro_in ms form (code.Standard n)) (none form (code.Standard n)) h;
}

pub nothing_stands : (work : Work) (u : UnitScope) → u.env ≡ no_scopes → ((f : ℕ) (m : Meaning) → macro_in u.macros f m ≡ None) → HasUnits work u [] nothing_yet
nothing_stands work u env none = record {
  env = subst (λ (e : Environment). EnvStands work.symbols e [] nothing_yet) (sym env) (nothing_env work.symbols);
  macros = nothing_macros work u.macros none;
  begun = record { frames = λ n fs there. none_some fs there; bodies = tt; macros = λ v h. absurd cc };
}

-- ---- it is begun

pub entry_is : with_imports prelude_unit standard_names nothing_yet.entry ≡ prelude_entry
entry_is = λ k u x. by (u == prelude_unit) (is_standard x) (model.Standard x) k
  where
    by : (p q : Bool) (m : model.Meaning) → cond p (cond q (Some m) None) None ≡ cond (p && q) (Some m) None
    by true true m = refl
    by true false m = refl
    by false q m = refl

-- ---- what its names mean

abbrev prelude_name : List ℕ → Identifier
prelude_name x = Written prelude_unit x

-- a standard name, where it is one
abbrev pub named_there : Bool → List ℕ → model.Meaning
named_there q x = cond q (model.Standard x) (model.Free x)

pub means_there : (s : ScopedState) (x : List ℕ) → IsPrelude s → defined_in s.table prelude_unit (prelude_name x) ≡ None → means (given_in s) (uses_in s) (chain_in s []) (prelude_name x) ≡ named_there (is_standard x) x
means_there s x is none =
    (λ k. given_or (defined_or (none k) prelude_unit (prelude_name x) (is.entry k prelude_unit x)) (model.Free x)) ∙ by (is_standard x)
  where
    by : (q : Bool) → given_or (cond q (Some (model.Standard x)) None) (model.Free x) ≡ named_there q x
    by true = refl
    by false = refl

module _ (names : Names) (unit form : ℕ) (x : List ℕ) where
  pub standard_there : (q : Bool) (n : ℕ) → IsMeaning names unit form (code.Standard n) (of_form unit form (named_there q x)) → (q ≡ true) × IsSymbol names n x
  standard_there true n h = (refl, h)
  standard_there false n h = absurd h

  pub free_there : (q : Bool) (n : ℕ) → IsMeaning names unit form (code.Free n) (of_form unit form (named_there q x)) → q ≡ false
  free_there true n h = absurd h
  free_there false n h = refl

  pub local_there : {P : Type 0} (q : Bool) (n : ℕ) → IsMeaning names unit form (code.Local n) (of_form unit form (named_there q x)) → P
  local_there true n h = absurd cc
  local_there false n h = absurd cc

  pub global_there : {P : Type 0} (q : Bool) (u n : ℕ) → IsMeaning names unit form (code.Global u n) (of_form unit form (named_there q x)) → P
  global_there true u n h = absurd h
  global_there false u n h = absurd h

-- ---- a macro more

module _ (old new : Work) (trees : KeepsTrees old new) (names : KeepsNames old.symbols new.symbols) (apart : AreToldApart new.symbols.idents) (told : AreToldApart new.symbols.symbols) (u : UnitScope) (s : ScopedState) (is : IsPrelude s)
    (x : List ℕ) (ident : ℕ) (at : IsIdent new.symbols ident (prelude_name x)) (none : defined_in s.table prelude_unit (prelude_name x) ≡ None) (e : Rests old u ([] ∷ []) s) where
  grown : Rests new u ([] ∷ []) s
  grown = growth_rests old new trees names apart told u ([] ∷ []) s e

  pub undefined_there : get nat_cmp u.defined ident ≡ None
  undefined_there = grown.defined ident (prelude_name x) at ∙ (λ j. option_map (λ (d : Defined). d.keyword) (defined_in s.table (is.unit j) (prelude_name x))) ∙ ap (option_map (λ (d : Defined). d.keyword)) none

  pub meant_there : (m : Meaning) → ((given : Own) (uses : Uses) (c : Chain) (unit form : ℕ) (i : Identifier) → IsIdent new.symbols ident i → EnvFor new.symbols u.env given uses → StandsFor new.symbols u.env (Some u.root) c →
      IsMeaning new.symbols unit form m (of_form unit form (means given uses c i))) → IsMeaning new.symbols prelude_unit 0 m (of_form prelude_unit 0 (named_there (is_standard x) x))
  meant_there m resolved = subst (λ (y : model.Meaning). IsMeaning new.symbols prelude_unit 0 m (of_form prelude_unit 0 y)) (means_there s x is none)
      (resolved (given_in s) (uses_in s) (chain_in s []) prelude_unit 0 (prelude_name x) at grown.env.given (grown.env.scopes u.root [] grown.root))

  module _ (r : Rules Identifier) (k : Macro) (macro : IsMacro new ([] ∷ []) k (record { env = []; rules = r })) (notes : NotesFor old ([] ∷ []) u.asked []) where
    noted : NotesFor new ([] ∷ []) u.asked []
    noted = notes_on old new ([] ∷ []) ([] ∷ []) names (λ n fs there. there) u.asked [] apart notes

    -- of a standard name
    standard_rests : (n : ℕ) (ms : Macros) → IsSymbol new.symbols n x → is_standard x ≡ true → Keeps u.macros ms 0 (code.Standard n) (numbered k (u.macros.editions + 1)) → Rests new (with_macros u ms) ([] ∷ []) (prelude_with x r s)
    standard_rests n ms spelt standard keeps =
        let t : Transformer Frames Identifier = record { env = []; rules = r } in
        let path : kept (model.Standard x) t s ≡ prelude_with x r s =
        λ j. record s {
          table = cond (sym standard j) s.table (record { unit = prelude_unit; form = 0; ident = prelude_name x; keyword = true; occ = None } ∷ s.table);
          macros = record { meaning = cond (sym standard j) (model.Standard x) (model.Global prelude_unit (prelude_name x)); frames = []; rules = r } ∷ s.macros;
        } in
        subst (Rests new (with_macros u ms) ([] ∷ [])) path (kept_rests new u ([] ∷ []) s ms 0 (code.Standard n) (model.Standard x) (numbered k (u.macros.editions + 1)) t apart told keeps tt spelt (numbered_stands new ([] ∷ []) k t (u.macros.editions + 1) macro) grown)

    pub standard_added : (n : ℕ) (ms : Macros) → IsSymbol new.symbols n x → is_standard x ≡ true → Keeps u.macros ms 0 (code.Standard n) (numbered k (u.macros.editions + 1)) → UnitStands new (with_macros u ms) ([] ∷ []) (prelude_with x r s) []
    standard_added n ms spelt standard keeps = record { rests = standard_rests n ms spelt standard keeps; notes = noted }

    -- of a name of its own
    own_rests : (v : UnitScope) → IsSound u.env → is_standard x ≡ false → AddsMacro u v ident k → Rests new v ([] ∷ []) (prelude_with x r s)
    own_rests v sound other h =
        let n : Named Identifier = record { name = prelude_name x; occ = None } in
        let path : definition_added None n (Some r) [] s ≡ prelude_with x r s =
        λ j. record s {
          table = cond (sym other j) s.table (record { unit = is.unit j; form = is.form j; ident = prelude_name x; keyword = true; occ = None } ∷ s.table);
          macros = record { meaning = cond (sym other j) (model.Standard x) (model.Global (is.unit j) (prelude_name x)); frames = []; rules = r } ∷ s.macros;
        } in
        subst (λ (w : UnitScope). Rests new w ([] ∷ []) (prelude_with x r s)) (sym h.after)
        (subst (Rests new (with_macros (with_definition u ident h.defined) h.macros) ([] ∷ [])) path (own_macro_rests new u ([] ∷ []) s [] 0 ident n h.defined h.macros (numbered k (u.macros.editions + 1)) r apart told sound at h.put h.more h.keeps (numbered_stands new ([] ∷ []) k (record { env = []; rules = r }) (u.macros.editions + 1) macro) grown))

    pub own_added : (v : UnitScope) → IsSound u.env → is_standard x ≡ false → AddsMacro u v ident k → UnitStands new v ([] ∷ []) (prelude_with x r s) []
    own_added v sound other h = record {
      rests = own_rests v sound other h;
      notes = subst (λ (a : Asked). NotesFor new ([] ∷ []) a []) (sym (ap (λ (w : UnitScope). w.asked) h.after)) noted;
    }

-- what holds unless memory ran out
pub on_ok : {T E P Q : Type 0} (r : Result T E) → (P → Q) → OnOk r P → OnOk r Q
on_ok (Ok x) f h = f h
on_ok (Err e) f h = h

-- ---- all macros

pub prelude_is : (ms : List PreludeMacro) → IsPrelude (prelude_state ms)
prelude_is [] = record { unit = refl; form = refl; entry = refl; places = refl; definitions = refl }
prelude_is (m ∷ ms) =
    let p = prelude_is ms in
    record { unit = p.unit; form = p.form; entry = p.entry; places = p.places; definitions = p.definitions }

table_is : (ms : List PreludeMacro) → (prelude_state ms).table ≡ prelude_definitions ms
table_is [] = refl
table_is (m ∷ ms) =
    let rest = table_is ms in
    λ k. cond (is_standard m.name) (rest k) (record { unit = prelude_unit; form = 0; ident = prelude_name m.name; keyword = true; occ = None } ∷ rest k)

macros_are : (ms : List PreludeMacro) → (prelude_state ms).macros ≡ map scoped_prelude_macro ms
macros_are [] = refl
macros_are (m ∷ ms) = ap (λ (ks : List ScopedMacro). scoped_prelude_macro m ∷ ks) (macros_are ms)

-- what the prelude leaves
abbrev left_by : List PreludeMacro → ScopedProgress
left_by ms = record { table = prelude_definitions ms; macros = map scoped_prelude_macro ms; places = []; definitions = []; entry = prelude_entry; results = [] }

prelude_left : (ms : List PreludeMacro) → Continues (prelude_state ms) (left_by ms)
prelude_left ms = let p = prelude_is ms in record { table = table_is ms; macros = macros_are ms; places = p.places; definitions = p.definitions; entry = p.entry }

pub prelude_continues : Continues (prelude_state prelude) scoped_before
prelude_continues = prelude_left prelude

-- a name that no macro has isn't defined
neither : (a b : Bool) → (a || b) ≡ false → (a ≡ false) × (b ≡ false)
neither true b q = absurd cc
neither false b q = (refl, q)

abbrev own_macro : List ℕ → Defined
own_macro x = record { unit = prelude_unit; form = 0; ident = prelude_name x; keyword = true; occ = None }

not_this : (t : Table) (m x : List ℕ) (q : Bool) → bytes_eq m x ≡ false → defined_in t prelude_unit (prelude_name x) ≡ None → defined_in (cond q t (own_macro m ∷ t)) prelude_unit (prelude_name x) ≡ None
not_this t m x true apart rest = rest
not_this t m x false apart rest = (λ k. cond (apart k) (Some (own_macro m)) (defined_in t prelude_unit (prelude_name x))) ∙ rest

pub not_named : (ms : List PreludeMacro) (x : List ℕ) → list_any (λ (m : PreludeMacro). bytes_eq m.name x) ms ≡ false → defined_in (prelude_state ms).table prelude_unit (prelude_name x) ≡ None
not_named [] x h = refl
not_named (m ∷ ms) x h =
    let p = neither (bytes_eq m.name x) (list_any (λ (n : PreludeMacro). bytes_eq n.name x) ms) h in
    not_this (prelude_state ms).table m.name x (is_standard m.name) p.0 (not_named ms x p.1)

-- ---- the units after it

pub started_so : (p : Prepared) (g : ScopedProgress) (entry : Entries) (s : ScopedState) → Continues s g → started p.number (is_program_source p.placed.source.kind) entry s ≡ scoped_start_of p g entry
started_so p g entry s h = λ k. record (started p.number (is_program_source p.placed.source.kind) entry s) { table = h.table k; macros = h.macros k; places = h.places k; definitions = h.definitions k }
