-- Definitions that are taken back: the scopes and macros stand for what they stood for.
use Rattle.std.proofs.Common.{◌≡◌, ℕ, ◌+◌, ◌<◌, List, [], ◌∷◌, length, slice_get, Bool, true, false, Option, Some, None, refl, sym, ap, ◌∙◌, subst, arith}
use Rattle.std.specs.FinMap as map_of
use Rattle.std.specs.Prelude.{if◌then◌else◌}
use Rattle.std.specs.BTreeMap.{get, btree_map_len}
use Rattle.std.specs.Ordering.{nat_cmp, is_eq}
use Rattle.std.specs.FinMap.{nat_cmp-IsAntisymmetric}
use Rattle.std.specs.Cmp.{Equal-is, nat_cmp_total, tied_itself}
use Rattle.std.specs.Prelude.{is_some as is_some_here}
use Rattle.syntax_tree.proofs.Places.{get_within}
use Rattle.scope_env.specs.Environment.{bound_in}
use Rattle.scope_env.specs.declared.env.Bound.{Bound}
use Rattle.scope_env.proofs.Added.{added_here}
use Rattle.scope_env.proofs.Places.{length-changed_at}
use Rattle.scope_env.proofs.PutBack.{put_back}
use Rattle.scheme_model.specs.Ident.{Ident as Identifier}
use Rattle.scheme_model.specs.Order.{Note, Transformer, is_some}
use Rattle.scheme_model.specs.ScopedExpansion.{Frames, FramedIdent, ScopedState}
use Rattle.syntax_tree.specs.Names.{Names}
use Rattle.syntax_tree.specs.declared.meaning.Meaning.{Meaning}
use Rattle.syntax_tree.specs.declared.meaning.Meaning.TheVariants as meanings
use Rattle.syntax_tree.specs.declared.trees.Work.{Work}
use Rattle.scope_env.specs.Environment.{Environment, with_before}
use Rattle.scope_env.specs.Resolved.{bound_at}
use Rattle.unit_scopes.specs.Editions.{EditionsTell}
use Rattle.unit_scopes.specs.Kept.{NotesFor}
use Rattle.unit_scopes.specs.Macros.{macro_in, edition_of, same_key}
use Rattle.unit_scopes.specs.State.{IsMacroIfAny, EnvStands, HasBegun, Rests, is_program}
use Rattle.unit_scopes.specs.Units.{UnitStands}
use Rattle.unit_scopes.specs.declared.asked.Asked.{Asked}
use Rattle.unit_scopes.specs.declared.macros.Macro.{Macro}
use Rattle.unit_scopes.specs.declared.scope.UnitScope.{UnitScope}
use Rattle.declared_parts.specs.Undone.{SameRest, IsBack, is_it, Defines, AreDefined}
use Rattle.declared_parts.specs.declared.undoing.Made.{Made}

-- ---- what is back stands for the same

module _ (work : Work) (u v : UnitScope) (h : IsBack u v) (ls : List Frames) (s : ScopedState) where
  macro_back : (o p : Option Macro) (t : Option (Transformer Frames Identifier)) → p ≡ o → IsMacroIfAny work ls o t → IsMacroIfAny work ls p t
  macro_back o p t e m = subst (λ (x : Option Macro). IsMacroIfAny work ls x t) (sym e) m

  pub rests_back : Rests work u ls s → Rests work v ls s
  rests_back e = record {
    unit = h.rest.unit ∙ e.unit;
    program = ap is_program h.rest.kind ∙ e.program;
    env = subst (λ (x : Environment). EnvStands work.symbols x ls s) (sym h.env) e.env;
    macros = record {
      there = λ form c m is. macro_back (macro_in u.macros form c) (macro_in v.macros form c) _ (h.macros form c) (e.macros.there form c m is);
      idents = e.macros.idents;
      symbols = e.macros.symbols;
      free = e.macros.free;
      known_idents = λ form w n is. e.macros.known_idents form w n (ap is_some (sym (h.macros form (meanings.Global w n))) ∙ is);
      known_symbols = λ form n is. e.macros.known_symbols form n (ap is_some (sym (h.macros form (meanings.Standard n))) ∙ is);
    };
    root = subst (λ (r : ℕ). slice_get ls r ≡ Some []) (sym h.rest.root) e.root;
    own = (λ j. map_of.get (h.env j).roots (h.rest.unit j)) ∙ (e.own ∙ ap Some (sym h.rest.root));
    begun = subst (λ (x : Environment). HasBegun x.roots ls s) (sym h.env) e.begun;
    defined = λ n i is. h.defined n ∙ e.defined n i is;
    known = λ n k is. e.known n k (sym (h.defined n) ∙ is);
    count = h.count ∙ e.count;
  }

  pub stands_back : (notes : List (Note FramedIdent)) → UnitStands work u ls s notes → UnitStands work v ls s notes
  stands_back notes e = record { rests = rests_back e.rests; notes = subst (λ (a : Asked). NotesFor work ls a notes) (sym h.rest.asked) e.notes }

  pub editions_back : (names : Names) (editions : ℕ → Option (Transformer Frames Identifier)) → EditionsTell names u.macros s editions → EditionsTell names v.macros s editions
  editions_back names editions e = record { none = e.none; tells = λ form c m is free. ap (λ (o : Option Macro). editions (edition_of o)) (h.macros form c) ∙ e.tells form c m is free }

-- ---- one after another

pub back_itself : (u : UnitScope) → IsBack u u
back_itself u = record { rest = record { unit = refl; kind = refl; root = refl; libraries = refl; asked = refl }; env = refl; defined = λ n. refl; count = refl; macros = λ form m. refl }

pub rest_on : (t u v : UnitScope) → SameRest t u → SameRest u v → SameRest t v
rest_on t u v p q = record { unit = q.unit ∙ p.unit; kind = q.kind ∙ p.kind; root = q.root ∙ p.root; libraries = q.libraries ∙ p.libraries; asked = q.asked ∙ p.asked }

back_on : (t u v : UnitScope) → IsBack t u → IsBack u v → IsBack t v
back_on t u v p q = record { rest = rest_on t u v p.rest q.rest; env = q.env ∙ p.env; defined = λ n. q.defined n ∙ p.defined n; count = q.count ∙ p.count; macros = λ form m. q.macros form m ∙ p.macros form m }

defines_on : (t u v : UnitScope) (x : Made) → Defines t u x → IsBack u v → Defines t v x
defines_on t u v x p q = record {
  rest = rest_on t u v p.rest q.rest;
  there = p.there;
  env = q.env ∙ p.env;
  before = p.before;
  new = p.new;
  defined = λ n. q.defined n ∙ p.defined n;
  count = q.count ∙ p.count;
  none = p.none;
  others = λ form m apart. q.macros form m ∙ p.others form m apart;
  plain = λ none form m. q.macros form m ∙ p.plain none form m;
}

pub defined_on : (t u v : UnitScope) (xs : List Made) → AreDefined t u xs → IsBack u v → AreDefined t v xs
defined_on t u v [] p q = back_on t u v p q
defined_on t u v (x ∷ xs) p q = (p.0, p.1, defines_on p.0 u v x p.2 q)

-- ---- the last one is taken back

none_there : (k b : Bool) (o : Option Bool) (n i : ℕ) → is_eq (nat_cmp i n) ≡ b → (b ≡ true → o ≡ None) → (if b then None else (if b then Some k else o)) ≡ o
none_there k true o n i e h = sym (h refl)
none_there k false o n i e h = refl

module _ (u v w : UnitScope) (x : Made) (h : Defines u v x) where
  -- its identifier is bound again to what it was bound to before
  pub env_taken : with_before v.env v.root x.ident x.before ≡ u.env
  env_taken =
      (λ j. with_before (h.env j) (h.rest.root j) x.ident (h.before j)) ∙ put_back u.env u.root x.ident (meanings.Global u.unit x.ident)

  defined_at : (n : ℕ) (b : Bool) → is_eq (nat_cmp x.ident n) ≡ b → (if b then None else (if b then Some x.keyword else get nat_cmp u.defined n)) ≡ get nat_cmp u.defined n
  defined_at n b e = none_there x.keyword b (get nat_cmp u.defined n) n x.ident e (λ is. ap (get nat_cmp u.defined) (sym (same_key_of n (e ∙ is))) ∙ h.new)
    where
      same_key_of : (n : ℕ) → is_eq (nat_cmp x.ident n) ≡ true → x.ident ≡ n
      same_key_of n is = nat_cmp-IsAntisymmetric x.ident n ((Equal-is (nat_cmp x.ident n)).0 is)

  -- it has no definition
  pub defined_taken : (n : ℕ) (o : Option Bool) → o ≡ (if is_eq (nat_cmp x.ident n) then None else get nat_cmp v.defined n) → o ≡ get nat_cmp u.defined n
  defined_taken n o e =
      let b = is_eq (nat_cmp x.ident n) in
      e ∙ (ap (λ (p : Option Bool). if b then None else p) (h.defined n) ∙ defined_at n b refl)

  macro_at_key : (form : ℕ) (m : Meaning) (b : Bool) → is_it u x.ident form m ≡ b → (if b then None else macro_in v.macros form m) ≡ macro_in u.macros form m
  macro_at_key form m true e = sym (h.none form m e)
  macro_at_key form m false e = h.others form m e

  -- and no macro
  pub macro_taken : (form : ℕ) (m : Meaning) (o : Option Macro) → o ≡ (if same_key form (meanings.Global v.unit x.ident) form m then None else macro_in v.macros form m) → o ≡ macro_in u.macros form m
  macro_taken form m o e =
      e ∙ (ap (λ (k : ℕ). if same_key form (meanings.Global k x.ident) form m then None else macro_in v.macros form m) h.rest.unit
      ∙ macro_at_key form m (is_it u x.ident form m) refl)

-- ---- where it can be taken back

module _ (u v : UnitScope) (x : Made) (h : Defines u v x) where
  pub root_there : v.root < length v.env.scopes
  root_there =
      let same : length v.env.scopes ≡ length u.env.scopes = ap (λ (e : Environment). length e.scopes) h.env ∙ length-changed_at (bound_in x.ident (meanings.Global u.unit x.ident)) u.env.scopes u.root in
      let root = h.rest.root in
      let there = h.there in
      omega arith

  pub bound_there : is_some_here (bound_at v.env v.root x.ident) ≡ true
  bound_there =
      let b : Bound = record { scope = u.root; ident = x.ident; meaning = meanings.Global u.unit x.ident } in
      let s = get_within u.env.scopes u.root h.there in
      let bound = added_here u.env b u.root x.ident s.0 s.1 refl refl in
      ap is_some_here ((λ j. bound_at (h.env j) (h.rest.root j) x.ident) ∙ bound)

-- ---- so it is back

there_is_one : (b : Bool) (k : Bool) (o : Option Bool) → b ≡ true → is_some_here (if b then Some k else o) ≡ true
there_is_one b k o e = ap (λ (c : Bool). is_some_here (if c then Some k else o)) e

one_less : (o : Option Bool) (m n : ℕ) → is_some_here o ≡ true → m + (if is_some_here o then 1 else 0) ≡ n + 1 → m ≡ n
one_less o m n some e = let f : m + 1 ≡ n + 1 = sym (ap (λ (b : Bool). m + (if b then 1 else 0)) some) ∙ e in omega (arith, f)

module _ (u v w : UnitScope) (x : Made) (h : Defines u v x) where
  -- the number of definitions
  count_taken : (o : Option Bool) → o ≡ get nat_cmp v.defined x.ident → btree_map_len w.defined + (if is_some_here o then 1 else 0) ≡ btree_map_len v.defined → btree_map_len w.defined ≡ btree_map_len u.defined
  count_taken o e len =
      let here = ap is_eq (tied_itself nat_cmp_total x.ident) in
      let some : is_some_here o ≡ true = ap is_some_here (e ∙ h.defined x.ident) ∙ there_is_one (is_eq (nat_cmp x.ident x.ident)) x.keyword (get nat_cmp u.defined x.ident) here in
      one_less o (btree_map_len w.defined) (btree_map_len u.defined) some (len ∙ h.count)

  pub all_back : SameRest v w → w.env ≡ with_before v.env v.root x.ident x.before → ((n : ℕ) → get nat_cmp w.defined n ≡ (if is_eq (nat_cmp x.ident n) then None else get nat_cmp v.defined n)) →
      (o : Option Bool) → o ≡ get nat_cmp v.defined x.ident → btree_map_len w.defined + (if is_some_here o then 1 else 0) ≡ btree_map_len v.defined → ((form : ℕ) (m : Meaning) → macro_in w.macros form m ≡ macro_in u.macros form m) → IsBack u w
  all_back rest env defined o e len macros = record {
    rest = rest_on u v w h.rest rest;
    env = env ∙ env_taken u v w x h;
    defined = λ n. defined_taken u v w x h n (get nat_cmp w.defined n) (defined n);
    count = count_taken o e len;
    macros = macros;
  }
