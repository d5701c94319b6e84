-- Units stand for the same once what is local to their forms is forgotten, without what was local.
use Rattle.std.proofs.Common.{◌≡◌, ◌⊎◌, ℕ, zero, suc, ◌+◌, ◌<◌, ◌≤◌, List, [], ◌∷◌, ◌++◌, map, reverse, length, take, min, slice_get, Bool, true, false, cond, Option, Some, None, inl, inr, refl, sym, ap, ◌∙◌, subst, arith}
use Rattle.std.specs.Option.{option_map, option_and_then}
use Rattle.std.specs.Prelude.{Vec, is_some as kept_some}
use Rattle.std.specs.declared.alloc.Global.{Global}
use Rattle.std.specs.BTreeMap.{BTreeMap, get}
use Rattle.std.specs.Ordering.{nat_cmp, eq_by_cmp}
use Rattle.std.specs.FinMap as map_of
use Rattle.std.specs.FinMap.{get-empty, get-insert, nat_cmp-IsAntisymmetric}
use Rattle.std.specs.Cmp.{nat_cmp_total, Equal-is, tied_itself}
use Rattle.std.proofs.lemmas.Bool.{cases_lt}
use Rattle.std.proofs.lemmas.Grind.{reverse_onto}
use Rattle.std.proofs.lemmas.List.{length-take}
use Rattle.std.proofs.lemmas.Option.{slice_get_within, same_Some}
use Rattle.scheme_model.specs.Identifiers.{Number}
use Rattle.scheme_model.specs.Ident.{Ident as Identifier}
use Rattle.scheme_model.specs.Meaning as model
use Rattle.scheme_model.specs.Order.{Note, LookedUp, Compared, Transformer, is_some}
use Rattle.scheme_model.specs.Questions.{bare_macro}
use Rattle.scheme_model.specs.RulesShape as shapes
use Rattle.scheme_model.specs.Scopes.{Uses, Own, defined_or}
use Rattle.scheme_model.specs.Substitution.{Defined, defined_in, definition_count}
use Rattle.scheme_model.specs.ScopedExpansion.{Frames, FramedIdent, BodyDefinitions, UsePlace, ScopedState, around, macro_at}
use Rattle.syntax_tree.specs.Names.{Names}
use Rattle.syntax_tree.specs.Meant.{IsMeaning}
use Rattle.syntax_tree.specs.declared.meaning.Meaning.{Meaning}
use Rattle.syntax_tree.specs.declared.meaning.Meaning.TheVariants.{Local, Global as GlobalOf, Standard, Free}
use Rattle.syntax_tree.specs.declared.trees.Work.{Work}
use Rattle.syntax_tree.proofs.Places.{none_some}
use Rattle.core_tree.specs.Names.{AllMatch}
use Rattle.scope_env.specs.Environment.{Environment, Scope, IsSound, without_locals, number_cmp}
use Rattle.scope_env.specs.Standing.{EnvFor, StandsFor}
use Rattle.scope_env.specs.Moved.{parent_of, AreNamed, AreGivenNamed}
use Rattle.scope_env.proofs.Forgotten.{scope_forgotten, env_forgotten}
use Rattle.unit_scopes.specs.Asks.{idents_of, asked_by, asked_from, items_of, numbers_in, AreKnown, AreNotesKnown, AskedStands}
use Rattle.unit_scopes.specs.Chains.{chain_in, uses_in, given_in, imported_in}
use Rattle.form_notes.specs.Noted.{is_local}
use Rattle.unit_scopes.specs.Forgotten.{ForgetsLocals, MacrosAtRoot, IsAtRoot, AreAtRoot, AllOwn, OwnFirst, without_local_scopes}
use Rattle.unit_scopes.specs.Kept.{PlaceFor, NoteFor}
use Rattle.unit_scopes.specs.Editions.{EditionsTell}
use Rattle.unit_scopes.specs.Macros.{macro_in, edition_of, edition_in}
use Rattle.unit_scopes.specs.Outcomes.{IsSettled, KeepsNumbers}
use Rattle.unit_scopes.specs.State.{AreBegun, BodiesBegun, AreEntered, AreDefined, EnvStands, IsMacroIfAny, MacrosStand}
use Rattle.unit_scopes.specs.Units.{UnitStands}
use Rattle.unit_scopes.specs.Within.{place_within, note_within, macro_within}
use Rattle.unit_scopes.specs.declared.asked.Asked.{Asked}
use Rattle.unit_scopes.specs.declared.asked.Asking.{Asking}
use Rattle.unit_scopes.specs.declared.asked.Note as code
use Rattle.unit_scopes.specs.declared.asked.Note.TheVariants as notes
use Rattle.unit_scopes.specs.declared.macros.Macro.{Macro}
use Rattle.unit_scopes.specs.declared.macros.Macros.{Macros}
use Rattle.unit_scopes.specs.declared.scope.UnitScope.{UnitScope}

-- ---- the first of a list

first_at : {X : Type 0} (xs : List X) (k n : ℕ) (x : X) → n < k → slice_get xs n ≡ Some x → slice_get (take k xs) n ≡ Some x
first_at [] k n x lt at = none_some x at
first_at (y ∷ xs) zero n x lt at = absurd (omega (arith, lt))
first_at (y ∷ xs) (suc k) zero x lt at = at
first_at (y ∷ xs) (suc k) (suc n) x lt at = first_at xs k n x (omega (arith, lt)) at

first_is : {X : Type 0} (xs : List X) (k n : ℕ) (x : X) → slice_get (take k xs) n ≡ Some x → (n < k) × (slice_get xs n ≡ Some x)
first_is [] zero n x at = none_some x at
first_is [] (suc k) n x at = none_some x at
first_is (y ∷ xs) zero n x at = none_some x at
first_is (y ∷ xs) (suc k) zero x at = (omega arith, at)
first_is (y ∷ xs) (suc k) (suc n) x at = let h = first_is xs k n x at in let lt : n < k = h.0 in (omega (arith, lt), h.1)

cons_none : {X : Type 0} {P : Type 0} (x : X) (xs : List X) → x ∷ xs ≡ [] → P
cons_none x xs h = absurd cc

false_true : false ≡ true → ⊥
false_true h = cc

-- ---- what was asked

root_last : (ns : List (Note FramedIdent)) (m : Note FramedIdent) → AreAtRoot ns → IsAtRoot m → AreAtRoot (ns ++ m ∷ [])
root_last [] m h is = (is, tt)
root_last (n ∷ ns) m h is = (h.0, root_last ns m h.1 is)

root_reverse : (ns : List (Note FramedIdent)) → AreAtRoot ns → AreAtRoot (reverse ns)
root_reverse [] h = tt
root_reverse (n ∷ ns) h = subst AreAtRoot (sym (reverse_onto ns n [])) (root_last (reverse ns) n (root_reverse ns h.1) h.0)

idents_within : (last : ℕ) (c : code.Note) → idents_of (note_within last c) ≡ idents_of c
idents_within last (notes.LookedUp a h k) = refl
idents_within last (notes.Compared l a h) = refl

module _ (names : Names) (last : ℕ) where
  asked_within : (x : Identifier) (k : ℕ) (cs : List code.Note) → asked_from names x k (map (note_within last) cs) ≡ asked_from names x k cs
  asked_within x k [] = refl
  asked_within x k (c ∷ cs) = let here = idents_within last c in let rest = asked_within x (suc k) cs in λ j. asked_by names x k (here j) ++ rest j

  known_within : (cs : List code.Note) → AreNotesKnown names cs → AreNotesKnown names (map (note_within last) cs)
  known_within [] h = tt
  known_within (c ∷ cs) h = (subst (AreKnown names) (sym (idents_within last c)) h.0, known_within cs h.1)

  asks_within : (a b : Asked) → b.notes.items ≡ map (note_within last) a.notes.items → b.asking ≡ a.asking → AskedStands names a → AskedStands names b
  asks_within a b items asking h =
      let numbers : (n : ℕ) → numbers_in b n ≡ numbers_in a n = λ n. ap (λ (m : BTreeMap ℕ (Vec ℕ Global)). items_of (get nat_cmp m n)) asking in
      record {
        numbers = λ n x is. numbers n ∙ (h.numbers n x is ∙ (sym (asked_within x 0 a.notes.items) ∙ ap (asked_from names x 0) (sym items)));
        others = λ n le. numbers n ∙ h.others n le;
        known = subst (AreNotesKnown names) (sym items) (known_within a.notes.items h.known);
      }

-- ---- scopes, of which the first up to the open unit's own are units' own

module _ (work : Work) (ls : List Frames) (root : ℕ) (at : slice_get ls root ≡ Some []) where
  abbrev left : List Frames
  left = take (root + 1) ls

  there_within : (scope : ℕ) → slice_get ls scope ≡ Some [] → slice_get left (min scope root) ≡ Some []
  there_within scope there = elim (cases_lt root scope) [
    | inl newer ↦ let e : min scope root ≡ root = omega (arith, newer) in subst (λ n. slice_get left n ≡ Some []) (sym e) (first_at ls (root + 1) root [] (omega arith) at)
    | inr older ↦ let e : min scope root ≡ scope = omega (arith, older) in subst (λ n. slice_get left n ≡ Some []) (sym e) (first_at ls (root + 1) scope [] (omega (arith, older)) there)
  ]

  framed_within : (scope : ℕ) (fs : Frames) → fs ≡ [] → slice_get ls scope ≡ Some fs → slice_get left (min scope root) ≡ Some fs
  framed_within scope fs none there =
      subst (λ (gs : Frames). slice_get left (min scope root) ≡ Some gs) (sym none) (there_within scope (subst (λ (gs : Frames). slice_get ls scope ≡ Some gs) none there))

  place_left : (a : Asking) (p : FramedIdent) → p.frames ≡ [] → PlaceFor work ls a p → PlaceFor work left (place_within root a) p
  place_left a p none h = (framed_within a.scope p.frames none h.0, h.1)

  note_left : (c : code.Note) (q : Note FramedIdent) → IsAtRoot q → NoteFor work ls c q → NoteFor work left (note_within root c) q
  note_left (notes.LookedUp a h k) (LookedUp p head keyword) none is = (place_left a p none is.0, is.1, is.2)
  note_left (notes.LookedUp a h k) (Compared p q held) none is = is
  note_left (notes.Compared l a h) (LookedUp p head keyword) none is = is
  note_left (notes.Compared l a h) (Compared p q held) none is = (place_left l p none.0 is.0, place_left a q none.1 is.1, is.2)

  notes_left : (cs : List code.Note) (qs : List (Note FramedIdent)) → AreAtRoot qs → AllMatch (NoteFor work ls) cs qs → AllMatch (NoteFor work left) (map (note_within root) cs) qs
  notes_left [] [] none h = h
  notes_left [] (q ∷ qs) none h = h
  notes_left (c ∷ cs) [] none h = h
  notes_left (c ∷ cs) (q ∷ qs) none h = (note_left c q none.0 h.0, notes_left cs qs none.1 h.1)

  macro_left : (o : Option Macro) (p : Option (Transformer Frames Identifier)) → ((k : Transformer Frames Identifier) → p ≡ Some k → k.env ≡ []) → IsMacroIfAny work ls o p → IsMacroIfAny work left (option_map (macro_within root) o) p
  macro_left None None none h = h
  macro_left None (Some m) none h = h
  macro_left (Some k) None none h = h
  macro_left (Some k) (Some m) none h = record { scope = framed_within k.scope m.env (none m refl) h.scope; checked = h.checked; rules = h.rules; leaves = h.leaves }

  no_macro : (o : Option Macro) (p : Option (Transformer Frames Identifier)) → o ≡ None → p ≡ None → IsMacroIfAny work left o p
  no_macro o p code none = subst (λ (x : Option Macro). IsMacroIfAny work left x p) (sym code) (subst (λ (y : Option (Transformer Frames Identifier)). IsMacroIfAny work left None y) (sym none) tt)

  -- ---- macros

  module _ (s t : ScopedState) (forgets : ForgetsLocals s t) (ms ns : Macros) (locals : (f n : ℕ) → macro_in ns f (Local n) ≡ None)
      (globals : (f u i : ℕ) → macro_in ns f (GlobalOf u i) ≡ option_map (macro_within root) (macro_in ms f (GlobalOf u i)))
      (standards : (f x : ℕ) → macro_in ns f (Standard x) ≡ option_map (macro_within root) (macro_in ms f (Standard x))) where
    some_under : (o : Option Macro) → is_some (option_map (macro_within root) o) ≡ is_some o
    some_under None = refl
    some_under (Some k) = refl

    module _ (none : MacrosAtRoot s) (e : MacrosStand work ms ls s) where
      kept : (form : ℕ) (c : Meaning) (m : model.Meaning) → macro_in ns form c ≡ option_map (macro_within root) (macro_in ms form c) → is_local m ≡ false → IsMeaning work.symbols t.unit form c m → IsMacroIfAny work left (macro_in ns form c) (macro_at t.macros m)
      kept form c m within other is =
          subst (λ (o : Option Macro). IsMacroIfAny work left o (macro_at t.macros m)) (sym within)
          (subst (λ (p : Option (Transformer Frames Identifier)). IsMacroIfAny work left (option_map (macro_within root) (macro_in ms form c)) p) (sym (forgets.macros m other))
          (macro_left (macro_in ms form c) (macro_at s.macros m) (λ k there. none m k other there) (e.there form c m (subst (λ (u : ℕ). IsMeaning work.symbols u form c m) forgets.unit is))))

      there_by : (form : ℕ) (c : Meaning) (m : model.Meaning) → IsMeaning work.symbols t.unit form c m → IsMacroIfAny work left (macro_in ns form c) (macro_at t.macros m)
      there_by form (Local n) m is = no_macro (macro_in ns form (Local n)) (macro_at t.macros m) (locals form n) (ap (macro_at t.macros) is ∙ forgets.locals (record { unit = t.unit; form = form; count = n }))
      there_by form (GlobalOf u n) (model.Local v) is = absurd is
      there_by form (GlobalOf u n) (model.Global w i) is = kept form (GlobalOf u n) (model.Global w i) (globals form u n) refl is
      there_by form (GlobalOf u n) (model.Standard x) is = absurd is
      there_by form (GlobalOf u n) (model.Free x) is = absurd is
      there_by form (Standard n) (model.Local v) is = absurd is
      there_by form (Standard n) (model.Global w i) is = absurd is
      there_by form (Standard n) (model.Standard x) is = kept form (Standard n) (model.Standard x) (standards form n) refl is
      there_by form (Standard n) (model.Free x) is = absurd is
      there_by form (Free n) (model.Local v) is = absurd is
      there_by form (Free n) (model.Global w i) is = absurd is
      there_by form (Free n) (model.Standard x) is = absurd is
      there_by form (Free n) (model.Free x) is = kept form (Free n) (model.Free x) refl refl is

      macros_left : MacrosStand work ns left t
      macros_left = record {
        there = there_by;
        idents = λ u i some. e.idents u i (ap is_some (sym (forgets.macros (model.Global u i) refl)) ∙ some);
        symbols = λ x some. e.symbols x (ap is_some (sym (forgets.macros (model.Standard x) refl)) ∙ some);
        free = λ x. forgets.macros (model.Free x) refl ∙ e.free x;
        known_idents = λ form u n some. e.known_idents form u n (sym (some_under (macro_in ms form (GlobalOf u n))) ∙ (ap is_some (sym (globals form u n)) ∙ some));
        known_symbols = λ form n some. e.known_symbols form n (sym (some_under (macro_in ms form (Standard n))) ∙ (ap is_some (sym (standards form n)) ∙ some));
      }

  -- ---- scopes

  module _ (env : Environment) (sound : IsSound env) (older : (n : ℕ) → n ≤ root → (v : ℕ) × (map_of.get env.roots v ≡ Some n)) (newest : (v n : ℕ) → map_of.get env.roots v ≡ Some n → n ≤ root)
      (s t : ScopedState) (forgets : ForgetsLocals s t) (e : EnvStands work.symbols env ls s) where
    outermost : (n : ℕ) → n ≤ root → parent_of env n ≡ None
    outermost n le =
        let v = older n le in
        let o = sound.roots v.0 n v.1 in
        ap (λ (x : Option Scope). option_and_then (λ (y : Scope). y.parent) x) o.there ∙ o.outermost

    none_around : (n : ℕ) (fs : Frames) → n ≤ root → slice_get ls n ≡ Some fs → fs ≡ []
    none_around n [] le there = refl
    none_around n (f ∷ fs) le there = let p = e.inside n f fs there in none_some p.0 (sym (outermost n le) ∙ p.1)

    none_left : (n : ℕ) (fs : Frames) → slice_get left n ≡ Some fs → fs ≡ []
    none_left n fs there = let h = first_is ls (root + 1) n fs there in let lt : n < root + 1 = h.0 in none_around n fs (omega (arith, lt)) h.1

    roots_before : (v n : ℕ) → map_of.get env.roots v ≡ Some n → n < root + 1
    roots_before v n is = let le = newest v n is in omega (arith, le)

    given_same : given_in s ≡ given_in t
    given_same = λ j. λ u i. defined_or (defined_in (sym forgets.table j) u i) u i (imported_in (sym forgets.entry j) u i)

    no_uses : (k : Number) → chain_in t (around t.places k) ≡ []
    no_uses k = ap (λ (ps : List UsePlace). chain_in t (around ps k)) forgets.places

    env_left : EnvStands work.symbols (without_locals env (root + 1)) left t
    env_left = record {
      count = length-take (root + 1) ls ∙ (ap (λ n. min (root + 1) n) e.count ∙ sym (length-take (root + 1) env.scopes));
      scopes = λ n fs there.
          let h = first_is ls (root + 1) n fs there in
          let none = none_left n fs there in
          let stands : StandsFor work.symbols (without_locals env (root + 1)) (Some n) (chain_in s fs) =
          scope_forgotten env (root + 1) sound roots_before work.symbols (chain_in s fs) n h.0 (subst (λ (len : ℕ). n < len) e.count (slice_get_within ls n fs h.1)) (e.scopes n fs h.1) in
          subst (λ (gs : Frames). StandsFor work.symbols (without_locals env (root + 1)) (Some n) (chain_in t gs)) (sym none)
          (subst (λ (gs : Frames). StandsFor work.symbols (without_locals env (root + 1)) (Some n) (chain_in s gs)) none stands);
      given =
          let forgotten : EnvFor work.symbols (without_locals env (root + 1)) (given_in s) (λ k. []) = env_forgotten env (root + 1) sound roots_before work.symbols (given_in s) (uses_in s) e.given in
          subst (λ (own : Own). EnvFor work.symbols (without_locals env (root + 1)) own (uses_in t)) given_same
          (subst (λ (uses : Uses). EnvFor work.symbols (without_locals env (root + 1)) (given_in s) uses) (λ j. λ k. sym (no_uses k) j) forgotten);
      noted = λ k n is. none_some n (sym (get-empty number_cmp k) ∙ is);
      unnoted = λ k none. ap (λ (ps : List UsePlace). around ps k) forgets.places;
      inside = λ n f fs there. cons_none f fs (none_left n (f ∷ fs) there);
      entered = λ n fs there. subst (AreEntered t) (sym (none_left n fs there)) tt;
      defined = subst (λ (ds : BodyDefinitions). AreDefined t ds) (sym forgets.definitions) tt;
      named = λ n fs there. subst (λ (gs : Frames). AreNamed work.symbols (chain_in t gs)) (sym (none_left n fs there)) tt;
      given_named = subst (λ (own : Own). AreGivenNamed work.symbols own) given_same e.given_named;
    }

-- ---- the whole

module _ (work : Work) (u : UnitScope) (ns : Macros) (b : Asked) (sound : IsSound u.env) (own : OwnFirst u) (locals : (f n : ℕ) → macro_in ns f (Local n) ≡ None)
    (globals : (f v i : ℕ) → macro_in ns f (GlobalOf v i) ≡ option_map (macro_within u.root) (macro_in u.macros f (GlobalOf v i)))
    (standards : (f x : ℕ) → macro_in ns f (Standard x) ≡ option_map (macro_within u.root) (macro_in u.macros f (Standard x)))
    (items : b.notes.items ≡ map (note_within u.root) u.asked.notes.items) (asking : b.asking ≡ u.asked.asking) where
  abbrev forgotten : UnitScope
  forgotten = without_local_scopes u ns b

  pub units_forgotten : (ls : List Frames) (s t : ScopedState) (qs : List (Note FramedIdent)) → UnitStands work u ls s qs → ForgetsLocals s t → MacrosAtRoot s → AreAtRoot qs → UnitStands work forgotten (take (u.root + 1) ls) t qs
  units_forgotten ls s t qs h forgets none at =
      let e = h.rests in
      let defined : (i : Identifier) → defined_in t.table t.unit i ≡ defined_in s.table s.unit i = λ i. λ j. defined_in (forgets.table j) (forgets.unit j) i in
      record {
        rests = record {
          unit = e.unit ∙ sym forgets.unit;
          program = e.program ∙ sym forgets.program;
          env = env_left work ls u.root e.root u.env sound own.older own.newest s t forgets e.env;
          macros = macros_left work ls u.root e.root s t forgets u.macros ns locals globals standards none e.macros;
          root = first_at ls (u.root + 1) u.root [] (omega arith) e.root;
          own = e.own;
          begun = record {
            frames = λ n fs there. subst (AreBegun u.env.roots) (sym (none_left work ls u.root e.root u.env sound own.older own.newest s t forgets e.env n fs there)) tt;
            bodies = subst (λ (ds : BodyDefinitions). BodiesBegun u.env.roots ds) (sym forgets.definitions) tt;
            macros = λ v some. absurd (false_true (ap is_some (sym (forgets.locals v)) ∙ some));
          };
          defined = λ n i is. e.defined n i is ∙ ap (option_map (λ (d : Defined). d.keyword)) (sym (defined i));
          known = e.known;
          count = e.count ∙ sym (λ j. definition_count (forgets.table j) (forgets.unit j));
        };
        notes = record {
          notes = subst (λ (cs : List code.Note). AllMatch (NoteFor work (take (u.root + 1) ls)) cs (reverse qs)) (sym items) (notes_left work ls u.root e.root u.asked.notes.items (reverse qs) (root_reverse qs at) h.notes.notes);
          asks = asks_within work.symbols u.root u.asked b items asking h.notes.asks;
        };
      }

module _ (u : UnitScope) (ns : Macros) (b : Asked) (own : OwnFirst u) where
  pub own_forgotten : OwnFirst (without_local_scopes u ns b)
  own_forgotten = record { older = own.older; newest = own.newest }

  pub all_forgotten : AllOwn (without_local_scopes u ns b)
  all_forgotten n within =
      let counted : length (take (u.root + 1) u.env.scopes) ≡ min (u.root + 1) (length u.env.scopes) = length-take (u.root + 1) u.env.scopes in
      own.older n (omega (arith, within, counted))

-- ---- a unit begins

module _ (u : UnitScope) (unit : ℕ) (sound : IsSound u.env) (new : map_of.get u.env.roots unit ≡ None) where
  abbrev next : ℕ
  next = length u.env.scopes

  -- the own scopes of units then
  root_of : (v : ℕ) → ((v ≡ unit) × (map_of.get (map_of.insert u.env.roots unit next) v ≡ Some next)) ⊎ (map_of.get (map_of.insert u.env.roots unit next) v ≡ map_of.get u.env.roots v)
  root_of v = by (eq_by_cmp nat_cmp v unit) refl
    where
      put : map_of.get (map_of.insert u.env.roots unit next) v ≡ cond (eq_by_cmp nat_cmp v unit) (Some next) (map_of.get u.env.roots v)
      put = get-insert nat_cmp_total u.env.roots unit next v

      by : (q : Bool) → eq_by_cmp nat_cmp v unit ≡ q → ((v ≡ unit) × (map_of.get (map_of.insert u.env.roots unit next) v ≡ Some next)) ⊎ (map_of.get (map_of.insert u.env.roots unit next) v ≡ map_of.get u.env.roots v)
      by true same = inl (nat_cmp-IsAntisymmetric v unit ((Equal-is (nat_cmp v unit)).0 same), put ∙ ap (λ q. cond q (Some next) (map_of.get u.env.roots v)) same)
      by false differs = inr (put ∙ ap (λ q. cond q (Some next) (map_of.get u.env.roots v)) differs)

  root_here : map_of.get (map_of.insert u.env.roots unit next) unit ≡ Some next
  root_here =
      get-insert nat_cmp_total u.env.roots unit next unit ∙ ap (λ q. cond q (Some next) (map_of.get u.env.roots unit)) ((Equal-is (nat_cmp unit unit)).1 (tied_itself nat_cmp_total unit))

  pub unit_owns : (w : UnitScope) → w.env.roots ≡ map_of.insert u.env.roots unit next → length w.env.scopes ≡ next + 1 → w.root ≡ next → AllOwn u → OwnFirst w × AllOwn w
  unit_owns w roots scopes root all = (record { older = λ n le. own n (omega (arith, le, root, scopes)); newest = newest }, own)
    where
      at : (v : ℕ) (o : Option ℕ) → map_of.get (map_of.insert u.env.roots unit next) v ≡ o → map_of.get w.env.roots v ≡ o
      at v o is = ap (λ r. map_of.get r v) roots ∙ is

      own : (n : ℕ) → n < length w.env.scopes → (v : ℕ) × (map_of.get w.env.roots v ≡ Some n)
      own n within = elim (cases_lt n next) [
        | inl before ↦ let v = all n before in (v.0, at v.0 (Some n) (elim (root_of v.0) [ inl same ↦ none_some n (sym new ∙ (ap (map_of.get u.env.roots) (sym same.0) ∙ v.1)) | inr other ↦ other ∙ v.1 ]))
        | inr last ↦ let e : next ≡ n = omega (arith, last, within, scopes) in (unit, at unit (Some n) (root_here ∙ ap Some e))
      ]

      newest : (v n : ℕ) → map_of.get w.env.roots v ≡ Some n → n ≤ w.root
      newest v n is =
          let there : map_of.get (map_of.insert u.env.roots unit next) v ≡ Some n = ap (λ r. map_of.get r v) (sym roots) ∙ is in
          elim (root_of v) [
            | inl same ↦ let e : next ≡ n = same_Some next n (sym same.1 ∙ there) in omega (arith, e, root)
            | inr other ↦ let o = sound.roots v n (sym other ∙ there) in let lt : n < next = slice_get_within u.env.scopes n o.scope o.there in omega (arith, lt, root)
          ]

-- ---- the open unit's own scope

pub root_there : (u : UnitScope) → IsSound u.env → OwnFirst u → u.root < length u.env.scopes
root_there u sound own =
    let v = own.older u.root (omega arith) in
    let o = sound.roots v.0 u.root v.1 in
    slice_get_within u.env.scopes u.root o.scope o.there

-- ---- the editions of macros

module _ (last : ℕ) (ms ns : Macros) (globals : (f u i : ℕ) → macro_in ns f (GlobalOf u i) ≡ option_map (macro_within last) (macro_in ms f (GlobalOf u i)))
    (standards : (f x : ℕ) → macro_in ns f (Standard x) ≡ option_map (macro_within last) (macro_in ms f (Standard x))) where
  edition_within : (o : Option Macro) → edition_of (option_map (macro_within last) o) ≡ edition_of o
  edition_within None = refl
  edition_within (Some k) = refl

  global_edition : (form u i : ℕ) → edition_in ns form (GlobalOf u i) ≡ edition_in ms form (GlobalOf u i)
  global_edition form u i = ap edition_of (globals form u i) ∙ edition_within (macro_in ms form (GlobalOf u i))

  standard_edition : (form x : ℕ) → edition_in ns form (Standard x) ≡ edition_in ms form (Standard x)
  standard_edition form x = ap edition_of (standards form x) ∙ edition_within (macro_in ms form (Standard x))

  same_edition : (names : Names) (form : ℕ) (c : Meaning) (unit : ℕ) (m : model.Meaning) → is_local m ≡ false → IsMeaning names unit form c m → edition_in ns form c ≡ edition_in ms form c
  same_edition names form (Local n) unit m lasts is = absurd (false_true (sym lasts ∙ ap is_local is))
  same_edition names form (GlobalOf u n) unit m lasts is = global_edition form u n
  same_edition names form (Standard n) unit m lasts is = standard_edition form n
  same_edition names form (Free n) unit m lasts is = refl

  pub editions_forgotten : (names : Names) (s t : ScopedState) (editions : ℕ → Option (Transformer Frames Identifier)) → ForgetsLocals s t → EditionsTell names ms s editions → EditionsTell names ns t editions
  editions_forgotten names s t editions forgets h = record {
    none = h.none;
    tells = λ form c m is lasts.
        ap editions (same_edition names form c t.unit m lasts is)
        ∙ (h.tells form c m (subst (λ (u : ℕ). IsMeaning names u form c m) forgets.unit is) lasts ∙ ap (shapes.option_map bare_macro) (sym (forgets.macros m lasts)));
  }

-- each macro that isn't local keeps its edition
pub numbers_forgotten : (u v : UnitScope) → v.defined ≡ u.defined → (last : ℕ) → ((f w i : ℕ) → macro_in v.macros f (GlobalOf w i) ≡ option_map (macro_within last) (macro_in u.macros f (GlobalOf w i))) →
    ((f x : ℕ) → macro_in v.macros f (Standard x) ≡ option_map (macro_within last) (macro_in u.macros f (Standard x))) → KeepsNumbers u v
numbers_forgotten u v defined last globals standards = record { defined = λ i there. (λ j. kept_some (get nat_cmp (defined j) i)) ∙ there; numbers = by }
  where
    by : (form : ℕ) (c : Meaning) → IsSettled u c → edition_in v.macros form c ≡ edition_in u.macros form c
    by form (Local n) settled = absurd settled
    by form (GlobalOf w i) settled = global_edition last u.macros v.macros globals standards form w i
    by form (Standard x) settled = standard_edition last u.macros v.macros globals standards form x
    by form (Free x) settled = refl
