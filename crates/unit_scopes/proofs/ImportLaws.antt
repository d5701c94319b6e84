-- The imports of a unit, bound one after another, and the unit once all are bound.
use Rattle.std.proofs.Common.{◌≡◌, ℕ, suc, ◌+◌, ◌<◌, ◌==◌, ◌&&◌, List, [], ◌∷◌, ◌++◌, length, slice_get, Bool, true, false, cond, Option, Some, None, refl, sym, ap, ◌∙◌, subst}
use Rattle.std.specs.Option.{option_map}
use Rattle.std.specs.BTreeMap.{BTreeMap, get, btree_map_len}
use Rattle.std.specs.FinMap as map
use Rattle.std.specs.FinMap.{get-insert}
use Rattle.std.specs.Ordering.{nat_cmp, eq_by_cmp}
use Rattle.std.specs.Cmp.{nat_cmp_total, Equal-is, tied_itself}
use Rattle.std.specs.FinMap.{nat_cmp-IsAntisymmetric}
use Rattle.std.proofs.lemmas.List.{length-append}
use Rattle.scheme_model.specs.Identifiers.{Number}
use Rattle.scheme_model.specs.Ident.{Ident as Identifier, Written, same_ident}
use Rattle.scheme_model.specs.Meaning as model
use Rattle.scheme_model.specs.Order.{Transformer, is_some}
use Rattle.scheme_model.specs.Substitution.{Defined, Table, defined_in, definition_count}
use Rattle.scheme_model.specs.ScopedExpansion.{Frames, ScopedState, macro_at}
use Rattle.scheme_model.proofs.IdentLaws.{ident_itself}
use Rattle.syntax_tree.specs.Names.{Names, AreToldApart, KeepsNames}
use Rattle.syntax_tree.specs.Macros.{IsIdent}
use Rattle.syntax_tree.specs.Meant.{IsMeaning, IsGivenMeaning}
use Rattle.syntax_tree.specs.Works.{KeepsTrees, with_names}
use Rattle.syntax_tree.specs.declared.meaning.Meaning.{Meaning}
use Rattle.syntax_tree.specs.declared.meaning.Meaning.TheVariants.{Local, Global, Standard, Free}
use Rattle.syntax_tree.specs.declared.trees.Work.{Work}
use Rattle.syntax_tree.specs.declared.units.UnitKind.{UnitKind}
use Rattle.syntax_tree.proofs.Places.{none_some, get_next, get_within}
use Rattle.syntax_tree.proofs.WorkLaws.{names_keep}
use Rattle.scope_env.specs.Environment.{Environment, IsSound, new_scope, with_root, with_bound, bound_in}
use Rattle.scope_env.proofs.Places.{length-changed_at}
use Rattle.scope_env.proofs.GrowthLaws.{meaning_grows}
use Rattle.unit_scopes.specs.Asks.{AskedStands}
use Rattle.unit_scopes.specs.Macros.{macro_in}
use Rattle.unit_scopes.specs.Opened.{with_imports, started, ImportsFor, HasUnits, BindsImport}
use Rattle.core_tree.specs.Names.{AllMatch}
use Rattle.unit_scopes.specs.Kept.{NoteFor}
use Rattle.unit_scopes.specs.State.{HasBegun, IsMacroIfAny, MacrosStand, EnvStands, is_program}
use Rattle.unit_scopes.specs.Units.{UnitStands}
use Rattle.unit_scopes.specs.declared.macros.Macro.{Macro}
use Rattle.unit_scopes.specs.declared.macros.Macros.{Macros}
use Rattle.unit_scopes.specs.declared.scope.Imported.{Imported}
use Rattle.unit_scopes.specs.declared.scope.UnitScope.{UnitScope}
use Rattle.unit_scopes.proofs.GrowthStands.{macros_on, env_on}
use Rattle.unit_scopes.proofs.LayoutLaws.{if_any_stays}
use Rattle.unit_scopes.proofs.OpenedStand.{nothing, importing, opened_env_stands, none_defined, import_more, imported_env_stands, has_begun_on, SoFar, so_far_none, so_far_more, so_far_all}

-- ---- the same trees

pub same_trees : (a b : Work) → b.trees ≡ a.trees → KeepsNames a.symbols b.symbols → KeepsTrees a b
same_trees a b trees keeps =
    let path : with_names a b.symbols ≡ b = λ k. record { trees = sym trees k; symbols = b.symbols } in
    subst (KeepsTrees a) path (names_keep a b.symbols keeps)

-- ---- one import after another

-- the environment once so many imports are bound
pub record Imports (start : Names) (names : Names) (env : Environment) (ls : List Frames) (s : ScopedState) (unit : ℕ) (program : Bool) (xs : List Imported) (k : ℕ) (imported : List ℕ → Option model.Meaning) : Type 0 where
  pub so_far : List ℕ → Option model.Meaning
  pub are : SoFar start xs k imported so_far
  pub env_stands : EnvStands names env (ls ++ [] ∷ []) (importing s unit program so_far)

pub record Importing (start now : Work) (u v : UnitScope) (unit : ℕ) (program : Bool) (xs : List Imported) (k : ℕ) : Type 0 where
  pub after : v ≡ record u { env = v.env }
  pub roots : v.env.roots ≡ map.insert u.env.roots unit (length u.env.scopes)
  pub scopes : length v.env.scopes ≡ length u.env.scopes + 1
  pub symbols : now.symbols.symbols ≡ start.symbols.symbols
  pub names : KeepsNames start.symbols now.symbols
  pub trees : now.trees ≡ start.trees
  pub imports : (ls : List Frames) (s : ScopedState) (imported : List ℕ → Option model.Meaning) → HasUnits start u ls s → ImportsFor start.symbols xs imported → Imports start.symbols now.symbols v.env ls s unit program xs k imported

root_at : (roots : map.FinMap nat_cmp ℕ) (unit root : ℕ) → map.get (map.insert roots unit root) unit ≡ Some root
root_at roots unit root = get-insert nat_cmp_total roots unit root unit ∙ ap (λ q. cond q (Some root) (map.get roots unit)) ((Equal-is (nat_cmp unit unit)).1 (tied_itself nat_cmp_total unit))

pub other_root : (roots : map.FinMap nat_cmp ℕ) (unit root v : ℕ) → (v ≡ unit → ⊥) → map.get roots v ≡ None → map.get (map.insert roots unit root) v ≡ None
other_root roots unit root v other none = by (eq_by_cmp nat_cmp v unit) refl
  where
    by : (q : Bool) → eq_by_cmp nat_cmp v unit ≡ q → map.get (map.insert roots unit root) v ≡ None
    by true same = absurd (other (nat_cmp-IsAntisymmetric v unit ((Equal-is (nat_cmp v unit)).0 same)))
    by false differs = get-insert nat_cmp_total roots unit root v ∙ (ap (λ q. cond q (Some root) (map.get roots v)) differs ∙ none)

module _ (start : Work) (u : UnitScope) (unit : ℕ) (program : Bool) (xs : List Imported) (sound : IsSound u.env) (new : map.get u.env.roots unit ≡ None) where
  pub importing_none : (v : UnitScope) → v ≡ record u { env = with_root u.env unit } → Importing start start u v unit program xs 0
  importing_none v is = subst (λ (w : UnitScope). Importing start start u w unit program xs 0) (sym is) (record {
    after = refl;
    roots = refl;
    scopes = length-append u.env.scopes (new_scope None ∷ []);
    symbols = refl;
    names = record { symbols = λ n x h. h; idents = λ n i h. h };
    trees = refl;
    imports = λ ls s imported h is.
        record { so_far = nothing; are = so_far_none start.symbols xs imported; env_stands = opened_env_stands start.symbols u.env sound ls s unit program new h.begun h.env };
  })

  pub importing_more : (now next : Work) (v w : UnitScope) (k : ℕ) (x : Imported) → slice_get xs k ≡ Some x → x.symbol < length start.symbols.symbols → next.symbols.symbols ≡ now.symbols.symbols → KeepsNames now.symbols next.symbols → next.trees ≡ now.trees →
      BindsImport now next v w unit (length u.env.scopes) x → Importing start now u v unit program xs k → Importing start next u w unit program xs (k + 1)
  importing_more now next v w k x there numbered symbols keeps trees b h =
      let root = length u.env.scopes in
      let later : w.env ≡ with_bound v.env root b.ident x.meaning = ap (λ (y : UnitScope). y.env) b.after in
      let y = get_within start.symbols.symbols x.symbol numbered in
      let spelt : IsIdent next.symbols b.ident (Written unit y.0) =
      b.name ∙ (ap (λ (l : List (List ℕ)). option_map (Written unit) (slice_get l x.symbol)) h.symbols ∙ ap (option_map (Written unit)) y.1) in
      record {
        after = b.after ∙ (λ j. record (h.after j) { env = sym later j });
        roots = ap (λ (e : Environment). e.roots) later ∙ h.roots;
        scopes = ap (λ (e : Environment). length e.scopes) later ∙ (length-changed_at (bound_in b.ident x.meaning) v.env.scopes root ∙ h.scopes);
        symbols = symbols ∙ h.symbols;
        names = record { symbols = λ n t p. keeps.symbols n t (h.names.symbols n t p); idents = λ n i p. keeps.idents n i (h.names.idents n i p) };
        trees = trees ∙ h.trees;
        imports = λ ls s imported units is.
            let p = h.imports ls s imported units is in
            let m = is.given k x y.0 there y.1 in
            let grown : EnvStands next.symbols v.env (ls ++ [] ∷ []) (importing s unit program p.so_far) = env_on now next (same_trees now next trees keeps) keeps b.apart b.told v.env (ls ++ [] ∷ []) (importing s unit program p.so_far) p.env_stands in
            let at : map.get v.env.roots unit ≡ Some root = ap (λ r. map.get r unit) h.roots ∙ root_at u.env.roots unit root in
            let none = none_defined start.symbols u.env sound ls s unit program new units.begun units.env in
            let means : IsGivenMeaning next.symbols x.meaning m.0 =
            λ a f. meaning_grows start.symbols next.symbols (record { symbols = λ n t q. keeps.symbols n t (h.names.symbols n t q); idents = λ n i q. keeps.idents n i (h.names.idents n i q) }) b.apart a f x.meaning m.0 (m.2 a f) in
            record {
              so_far = import_more y.0 m.0 p.so_far;
              are = so_far_more start.symbols xs k imported p.so_far x y.0 m.0 there y.1 m.1 p.are;
              env_stands = subst (λ (e : Environment). EnvStands next.symbols e (ls ++ [] ∷ []) (importing s unit program (import_more y.0 m.0 p.so_far))) (sym later)
                  (imported_env_stands s unit program y.0 m.0 p.so_far none next.symbols b.apart v.env b.sound (ls ++ [] ∷ []) root b.ident x.meaning at spelt means grown);
            };
      }

-- ---- the unit

pub none_counted : (t : Table) (unit : ℕ) → ((i : Identifier) → defined_in t unit i ≡ None) → definition_count t unit ≡ 0
none_counted [] unit none = refl
none_counted (d ∷ ds) unit none = by (d.unit == unit) refl (none_counted ds unit)
  where
    by : (q : Bool) → (d.unit == unit) ≡ q → (((i : Identifier) → defined_in ds unit i ≡ None) → definition_count ds unit ≡ 0) → cond q (suc (definition_count ds unit)) (definition_count ds unit) ≡ 0
    by true same rest =
        let at : cond (true && true) (Some d) (defined_in ds unit d.ident) ≡ None = (λ k. cond (sym same k && sym (ident_itself d.ident) k) (Some d) (defined_in ds unit d.ident)) ∙ none d.ident in
        none_some d (sym at)
    by false other rest = rest (λ i. (λ k. cond (sym other k && same_ident d.ident i) (Some d) (defined_in ds unit i)) ∙ none i)

-- what means a local of an earlier unit means nothing here
module _ (work : Work) (ms : Macros) (ls : List Frames) (s : ScopedState) (unit : ℕ) (program : Bool) (imported : List ℕ → Option model.Meaning) (new : (v : Number) → v.unit ≡ unit → is_some (macro_at s.macros (model.Local v)) ≡ true → ⊥)
    (e : MacrosStand work ms ls s) (locals : BTreeMap (ℕ × ℕ) Macro) (empty : (form n : ℕ) → macro_in (record ms { locals = locals }) form (Local n) ≡ None) where
  abbrev cleared : Macros
  cleared = record ms { locals = locals }

  no_local : (o : Option (Transformer Frames Identifier)) (p : Option Macro) → p ≡ None → (is_some o ≡ true → ⊥) → IsMacroIfAny work (ls ++ [] ∷ []) p o
  no_local None None is none = tt
  no_local (Some t) p is none = absurd (none refl)
  no_local None (Some k) is none = none_some k (sym is)

  global_on : (form v n : ℕ) (m : model.Meaning) → IsMeaning work.symbols unit form (Global v n) m → IsMeaning work.symbols s.unit form (Global v n) m
  global_on form v n (model.Local w) h = h
  global_on form v n (model.Global w i) h = h
  global_on form v n (model.Standard x) h = h
  global_on form v n (model.Free x) h = h

  standard_on : (form n : ℕ) (m : model.Meaning) → IsMeaning work.symbols unit form (Standard n) m → IsMeaning work.symbols s.unit form (Standard n) m
  standard_on form n (model.Local w) h = h
  standard_on form n (model.Global w i) h = h
  standard_on form n (model.Standard x) h = h
  standard_on form n (model.Free x) h = h

  free_on : (form n : ℕ) (m : model.Meaning) → IsMeaning work.symbols unit form (Free n) m → IsMeaning work.symbols s.unit form (Free n) m
  free_on form n (model.Local w) h = h
  free_on form n (model.Global w i) h = h
  free_on form n (model.Standard x) h = h
  free_on form n (model.Free x) h = h

  there_by : (form : ℕ) (c : Meaning) (m : model.Meaning) → IsMeaning work.symbols unit form c m → IsMacroIfAny work (ls ++ [] ∷ []) (macro_in cleared form c) (macro_at s.macros m)
  there_by form (Local n) m is =
      let v : Number = record { unit = unit; form = form; count = n } in
      no_local (macro_at s.macros m) (macro_in cleared form (Local n)) (empty form n) (λ h. new v refl (ap (λ x. is_some (macro_at s.macros x)) (sym is) ∙ h))
  there_by form (Global v n) m is = if_any_stays work ls [] (macro_in ms form (Global v n)) (macro_at s.macros m) (e.there form (Global v n) m (global_on form v n m is))
  there_by form (Standard n) m is = if_any_stays work ls [] (macro_in ms form (Standard n)) (macro_at s.macros m) (e.there form (Standard n) m (standard_on form n m is))
  there_by form (Free n) m is = if_any_stays work ls [] (macro_in ms form (Free n)) (macro_at s.macros m) (e.there form (Free n) m (free_on form n m is))

  pub macros_cleared : MacrosStand work cleared (ls ++ [] ∷ []) (importing s unit program imported)
  macros_cleared = record { there = there_by; idents = e.idents; symbols = e.symbols; free = e.free; known_idents = e.known_idents; known_symbols = e.known_symbols }

-- what the code makes of its unit
pub record Started (u v w : UnitScope) (unit root : ℕ) (kind : UnitKind) : Type 0 where
  pub locals : BTreeMap (ℕ × ℕ) Macro
  pub unit_is : w.unit ≡ unit
  pub kind_is : w.kind ≡ kind
  pub root_is : w.root ≡ root
  pub env : w.env ≡ v.env
  pub macros : w.macros ≡ record u.macros { locals = locals }
  pub cleared : (form n : ℕ) → macro_in (record u.macros { locals = locals }) form (Local n) ≡ None
  pub defined : (n : ℕ) → get nat_cmp w.defined n ≡ None
  pub count : btree_map_len w.defined ≡ 0
  pub asked : w.asked.notes.items ≡ []
  pub asks : (names : Names) → AskedStands names w.asked

module _ (start now : Work) (u v w : UnitScope) (unit : ℕ) (kind : UnitKind) (xs : List Imported) (sound : IsSound u.env) (new : map.get u.env.roots unit ≡ None) (apart : AreToldApart now.symbols.idents) (told : AreToldApart now.symbols.symbols)
    (h : Importing start now u v unit (is_program kind) xs (length xs)) (f : Started u v w unit (length u.env.scopes) kind) where
  pub unit_started : (ls : List Frames) (s : ScopedState) (imported : List ℕ → Option model.Meaning) → HasUnits start u ls s → ImportsFor start.symbols xs imported →
      UnitStands now w (ls ++ [] ∷ []) (started unit (is_program kind) (with_imports unit imported s.entry) s) []
  unit_started ls s imported units is =
      let root = length u.env.scopes in
      let p = h.imports ls s imported units is in
      let t = importing s unit (is_program kind) imported in
      let all : p.so_far ≡ imported = so_far_all start.symbols xs imported p.so_far is p.are in
      let roots : w.env.roots ≡ map.insert u.env.roots unit root = ap (λ (e : Environment). e.roots) f.env ∙ h.roots in
      let none = none_defined start.symbols u.env sound ls s unit (is_program kind) new units.begun units.env in
      let old_macros = macros_on start now (same_trees start now h.trees h.names) h.names apart told u.macros ls s units.macros in
      record {
        rests = record {
          unit = f.unit_is;
          program = ap is_program f.kind_is;
          env = subst (λ (e : Environment). EnvStands now.symbols e (ls ++ [] ∷ []) t) (sym f.env) (subst (λ g. EnvStands now.symbols v.env (ls ++ [] ∷ []) (importing s unit (is_program kind) g)) all p.env_stands);
          macros = subst (λ (ms : Macros). MacrosStand now ms (ls ++ [] ∷ []) t) (sym f.macros)
              (macros_cleared now u.macros ls s unit (is_program kind) imported
              (λ n same some. let b = units.begun.macros n some in none_some b.0 (sym new ∙ (ap (map.get u.env.roots) (sym same) ∙ b.1)))
              old_macros f.locals f.cleared);
          root = ap (slice_get (ls ++ [] ∷ [])) (f.root_is ∙ sym units.env.count) ∙ get_next ls [] [];
          own = (λ k. map.get (roots k) (f.unit_is k)) ∙ (root_at u.env.roots unit root ∙ ap Some (sym f.root_is));
          begun = subst (λ r. HasBegun r (ls ++ [] ∷ []) t) (sym roots) (has_begun_on u.env.roots unit root ls s (is_program kind) imported units.begun);
          defined = λ n i there. f.defined n ∙ sym (ap (option_map (λ (d : Defined). d.keyword)) (none i));
          known = λ n k found. none_some k (sym (f.defined n) ∙ found);
          count = f.count ∙ sym (none_counted s.table unit none);
        };
        notes = record { notes = subst (λ ns. AllMatch (NoteFor now (ls ++ [] ∷ [])) ns []) (sym f.asked) tt; asks = f.asks now.symbols };
      }
