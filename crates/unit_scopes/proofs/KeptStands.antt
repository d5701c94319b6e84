-- Macros that are kept: what means one in the code is what means it in the state.
use Rattle.std.proofs.Common.{◌≡◌, ℕ, ◌<◌, ◌==◌, ◌⊎◌, ◌&&◌, nat_eq, List, length, slice_get, Bool, true, false, cond, Option, Some, refl, sym, ap, ◌∙◌, subst, inl, inr, eq-eqb}
use Rattle.std.specs.Str.{bytes_eq}
use Rattle.std.specs.FinMap as map
use Rattle.std.specs.Ordering.{nat_cmp}
use Rattle.std.proofs.lemmas.Bool.{eqb-true}
use Rattle.std.proofs.lemmas.Option.{slice_get_within, same_Some}
use Rattle.std.proofs.lemmas.Slice.Eq.{bytes_eq-Decides}
use Rattle.scheme_model.specs.Identifiers.{Number, same_number}
use Rattle.scheme_model.specs.Ident.{Ident as Identifier, same_ident}
use Rattle.scheme_model.specs.Meaning.{same_meaning}
use Rattle.scheme_model.specs.Meaning as model
use Rattle.scheme_model.specs.Order.{Transformer, is_some}
use Rattle.scheme_model.specs.ScopedExpansion.{Frames, ScopedState, macro_at}
use Rattle.scheme_model.proofs.IdentLaws.{ident_told, bool_same, number_told}
use Rattle.syntax_tree.specs.Names.{Names, AreToldApart}
use Rattle.syntax_tree.specs.Macros.{IsIdent}
use Rattle.syntax_tree.specs.Meant.{IsSymbol, IsMeaning}
use Rattle.syntax_tree.specs.declared.meaning.Meaning.{Meaning}
use Rattle.syntax_tree.specs.declared.meaning.Meaning.TheVariants.{Local, Global, Standard, Free}
use Rattle.syntax_tree.specs.declared.trees.Work.{Work}
use Rattle.syntax_tree.proofs.RoleLaws.{same_by_number}
use Rattle.scope_env.specs.Moved.{IsNamed}
use Rattle.unit_scopes.specs.Macros.{macro_in, same_key, IsBound, Keeps, numbered}
use Rattle.unit_scopes.specs.State.{IsMacro, IsMacroIfAny, MacrosStand, IsBegun, Stands}
use Rattle.unit_scopes.specs.Stepped.{kept, with_macros}
use Rattle.unit_scopes.specs.declared.macros.Macro.{Macro}
use Rattle.unit_scopes.specs.declared.macros.Macros.{Macros}
use Rattle.unit_scopes.specs.declared.scope.UnitScope.{UnitScope}

-- ---- one key, one meaning

both : (a b : Bool) → (a && b) ≡ true → (a ≡ true) × (b ≡ true)
both true true h = (refl, refl)
both true false h = absurd cc
both false b h = absurd cc

false_true : {P : Type 0} (b : Bool) → b ≡ false → b ≡ true → P
false_true b f t = let clash : true ≡ false = sym t ∙ f in absurd cc

pub same_either : (a b : ℕ) → nat_eq a b ≡ nat_eq b a
same_either a b = bool_same (nat_eq a b) (nat_eq b a) (λ h. eq-eqb b a (sym (eqb-true a b h))) (λ h. eq-eqb a b (sym (eqb-true b a h)))

local_keys : (unit f g n k : ℕ) → (nat_eq g f && nat_eq k n) ≡ same_number (record { unit = unit; form = f; count = n }) (record { unit = unit; form = g; count = k })
local_keys unit f g n k =
    let same = eq-eqb unit unit refl in
    λ j. sym same j && (same_either g f j && same_either k n j)

module _ (names : Names) (apart : AreToldApart names.idents) (told : AreToldApart names.symbols) (unit f g : ℕ) where
  pub symbol_keys : (n k : ℕ) (x y : List ℕ) → IsSymbol names n x → IsSymbol names k y → nat_eq k n ≡ bytes_eq x y
  symbol_keys n k x y p q =
      bool_same (nat_eq k n) (bytes_eq x y)
      (λ h. let same = eqb-true k n h in (bytes_eq-Decides x y).1 (same_Some x y (sym p ∙ (ap (slice_get names.symbols) (sym same) ∙ q))))
      (λ h. eq-eqb k n (told k n (slice_get_within names.symbols k y q) (q ∙ (ap Some (sym ((bytes_eq-Decides x y).0 h)) ∙ sym p))))

  -- a macro that is kept as this means this, and nothing else does
  by_local : (n : ℕ) (d : Meaning) (m : model.Meaning) → IsMeaning names unit g d m → same_key f (Local n) g d ≡ same_meaning (model.Local (record { unit = unit; form = f; count = n })) m
  by_local n (Local k) m h = local_keys unit f g n k ∙ ap (same_meaning (model.Local (record { unit = unit; form = f; count = n }))) (sym h)
  by_local n (Global v k) (model.Local w) h = absurd h
  by_local n (Global v k) (model.Global w i) h = refl
  by_local n (Global v k) (model.Standard x) h = absurd h
  by_local n (Global v k) (model.Free x) h = absurd h
  by_local n (Standard k) (model.Local w) h = absurd h
  by_local n (Standard k) (model.Global w i) h = absurd h
  by_local n (Standard k) (model.Standard x) h = refl
  by_local n (Standard k) (model.Free x) h = absurd h
  by_local n (Free k) (model.Local w) h = absurd h
  by_local n (Free k) (model.Global w i) h = absurd h
  by_local n (Free k) (model.Standard x) h = absurd h
  by_local n (Free k) (model.Free x) h = refl

  by_global : (u n : ℕ) (w : ℕ) (i : Identifier) → u ≡ w → IsIdent names n i → (d : Meaning) (m : model.Meaning) → IsMeaning names unit g d m → same_key f (Global u n) g d ≡ same_meaning (model.Global w i) m
  by_global u n w i same is (Local k) m h = ap (same_meaning (model.Global w i)) (sym h)
  by_global u n w i same is (Global v k) (model.Local y) h = absurd h
  by_global u n w i same is (Global v k) (model.Global y j) h =
      let units : nat_eq v u ≡ (w == y) = same_either v u ∙ (λ t. nat_eq (same t) (h.0 t)) in
      let idents = same_by_number names apart n k i j is h.1 in
      λ t. units t && sym idents t
  by_global u n w i same is (Global v k) (model.Standard x) h = absurd h
  by_global u n w i same is (Global v k) (model.Free x) h = absurd h
  by_global u n w i same is (Standard k) (model.Local y) h = absurd h
  by_global u n w i same is (Standard k) (model.Global y j) h = absurd h
  by_global u n w i same is (Standard k) (model.Standard x) h = refl
  by_global u n w i same is (Standard k) (model.Free x) h = absurd h
  by_global u n w i same is (Free k) (model.Local y) h = absurd h
  by_global u n w i same is (Free k) (model.Global y j) h = absurd h
  by_global u n w i same is (Free k) (model.Standard x) h = absurd h
  by_global u n w i same is (Free k) (model.Free x) h = refl

  by_standard : (n : ℕ) (x : List ℕ) → IsSymbol names n x → (d : Meaning) (m : model.Meaning) → IsMeaning names unit g d m → same_key f (Standard n) g d ≡ same_meaning (model.Standard x) m
  by_standard n x is (Local k) m h = ap (same_meaning (model.Standard x)) (sym h)
  by_standard n x is (Global v k) (model.Local y) h = absurd h
  by_standard n x is (Global v k) (model.Global y j) h = refl
  by_standard n x is (Global v k) (model.Standard y) h = absurd h
  by_standard n x is (Global v k) (model.Free y) h = absurd h
  by_standard n x is (Standard k) (model.Local y) h = absurd h
  by_standard n x is (Standard k) (model.Global y j) h = absurd h
  by_standard n x is (Standard k) (model.Standard y) h = symbol_keys n k x y is h
  by_standard n x is (Standard k) (model.Free y) h = absurd h
  by_standard n x is (Free k) (model.Local y) h = absurd h
  by_standard n x is (Free k) (model.Global y j) h = absurd h
  by_standard n x is (Free k) (model.Standard y) h = absurd h
  by_standard n x is (Free k) (model.Free y) h = refl

  pub by_key : (c : Meaning) (l : model.Meaning) → IsBound c → IsMeaning names unit f c l → (d : Meaning) (m : model.Meaning) → IsMeaning names unit g d m → same_key f c g d ≡ same_meaning l m
  by_key (Local n) l b is d m h = by_local n d m h ∙ ap (λ (x : model.Meaning). same_meaning x m) (sym is)
  by_key (Global u n) (model.Local w) b is d m h = absurd is
  by_key (Global u n) (model.Global w i) b is d m h = by_global u n w i is.0 is.1 d m h
  by_key (Global u n) (model.Standard x) b is d m h = absurd is
  by_key (Global u n) (model.Free x) b is d m h = absurd is
  by_key (Standard n) (model.Local w) b is d m h = absurd is
  by_key (Standard n) (model.Global w i) b is d m h = absurd is
  by_key (Standard n) (model.Standard x) b is d m h = by_standard n x is d m h
  by_key (Standard n) (model.Free x) b is d m h = absurd is
  by_key (Free n) l b is d m h = absurd b

-- ---- what means a macro has a number

module _ (names : Names) (unit f : ℕ) where
  ident_of : (c : Meaning) (l : model.Meaning) → IsMeaning names unit f c l → (v : ℕ) (i : Identifier) → same_meaning l (model.Global v i) ≡ true → IsNamed names i
  ident_of (Local n) l is v i h = false_true (same_meaning l (model.Global v i)) (ap (λ (x : model.Meaning). same_meaning x (model.Global v i)) is) h
  ident_of (Global u n) (model.Local w) is v i h = absurd is
  ident_of (Global u n) (model.Global w j) is v i h = subst (IsNamed names) (ident_told j i (both (w == v) (same_ident j i) h).1) (n, is.1)
  ident_of (Global u n) (model.Standard x) is v i h = absurd is
  ident_of (Global u n) (model.Free x) is v i h = absurd is
  ident_of (Standard n) (model.Local w) is v i h = absurd is
  ident_of (Standard n) (model.Global w j) is v i h = absurd is
  ident_of (Standard n) (model.Standard x) is v i h = absurd cc
  ident_of (Standard n) (model.Free x) is v i h = absurd is
  ident_of (Free n) (model.Local w) is v i h = absurd is
  ident_of (Free n) (model.Global w j) is v i h = absurd is
  ident_of (Free n) (model.Standard x) is v i h = absurd is
  ident_of (Free n) (model.Free x) is v i h = absurd cc

  symbol_of : (c : Meaning) (l : model.Meaning) → IsMeaning names unit f c l → (x : List ℕ) → same_meaning l (model.Standard x) ≡ true → (n : ℕ) × IsSymbol names n x
  symbol_of (Local n) l is x h = false_true (same_meaning l (model.Standard x)) (ap (λ (y : model.Meaning). same_meaning y (model.Standard x)) is) h
  symbol_of (Global u n) (model.Local w) is x h = absurd is
  symbol_of (Global u n) (model.Global w j) is x h = absurd cc
  symbol_of (Global u n) (model.Standard y) is x h = absurd is
  symbol_of (Global u n) (model.Free y) is x h = absurd is
  symbol_of (Standard n) (model.Local w) is x h = absurd is
  symbol_of (Standard n) (model.Global w j) is x h = absurd is
  symbol_of (Standard n) (model.Standard y) is x h = subst (λ (z : List ℕ). (k : ℕ) × IsSymbol names k z) ((bytes_eq-Decides y x).0 h) (n, is)
  symbol_of (Standard n) (model.Free y) is x h = absurd is
  symbol_of (Free n) (model.Local w) is x h = absurd is
  symbol_of (Free n) (model.Global w j) is x h = absurd is
  symbol_of (Free n) (model.Standard y) is x h = absurd is
  symbol_of (Free n) (model.Free y) is x h = absurd cc

  ident_within : (c : Meaning) (l : model.Meaning) → IsMeaning names unit f c l → (g v n : ℕ) → same_key f c g (Global v n) ≡ true → n < length names.idents
  ident_within (Local k) l is g v n h = absurd cc
  ident_within (Global u k) (model.Local w) is g v n h = absurd is
  ident_within (Global u k) (model.Global w i) is g v n h = subst (λ (x : ℕ). x < length names.idents) (sym (eqb-true n k (both (nat_eq v u) (nat_eq n k) h).1)) (slice_get_within names.idents k i is.1)
  ident_within (Global u k) (model.Standard x) is g v n h = absurd is
  ident_within (Global u k) (model.Free x) is g v n h = absurd is
  ident_within (Standard k) l is g v n h = absurd cc
  ident_within (Free k) l is g v n h = absurd cc

  symbol_within : (c : Meaning) (l : model.Meaning) → IsMeaning names unit f c l → (g n : ℕ) → same_key f c g (Standard n) ≡ true → n < length names.symbols
  symbol_within (Local k) l is g n h = absurd cc
  symbol_within (Global u k) l is g n h = absurd cc
  symbol_within (Standard k) (model.Local w) is g n h = absurd is
  symbol_within (Standard k) (model.Global w i) is g n h = absurd is
  symbol_within (Standard k) (model.Standard x) is g n h = subst (λ (y : ℕ). y < length names.symbols) (sym (eqb-true n k h)) (slice_get_within names.symbols k x is)
  symbol_within (Standard k) (model.Free x) is g n h = absurd is
  symbol_within (Free k) l is g n h = absurd cc

  not_free : (c : Meaning) (l : model.Meaning) → IsBound c → IsMeaning names unit f c l → (x : List ℕ) → same_meaning l (model.Free x) ≡ false
  not_free (Local k) l b is x = ap (λ (y : model.Meaning). same_meaning y (model.Free x)) is
  not_free (Global u k) (model.Local w) b is x = refl
  not_free (Global u k) (model.Global w i) b is x = refl
  not_free (Global u k) (model.Standard y) b is x = refl
  not_free (Global u k) (model.Free y) b is x = absurd is
  not_free (Standard k) (model.Local w) b is x = refl
  not_free (Standard k) (model.Global w i) b is x = refl
  not_free (Standard k) (model.Standard y) b is x = refl
  not_free (Standard k) (model.Free y) b is x = absurd is
  not_free (Free k) l b is x = absurd b

-- ---- one macro more

some_of : {X : Type 0} (q : Bool) (x : X) (o : Option X) → is_some (cond q (Some x) o) ≡ true → (q ≡ true) ⊎ (is_some o ≡ true)
some_of true x o h = inl refl
some_of false x o h = inr h

chosen : (work : Work) (ls : List Frames) (k : Macro) (t : Transformer Frames Identifier) (q : Bool) (o : Option Macro) (p : Option (Transformer Frames Identifier)) → IsMacro work ls k t → IsMacroIfAny work ls o p → IsMacroIfAny work ls (cond q (Some k) o) (cond q (Some t) p)
chosen work ls k t true o p is h = is
chosen work ls k t false o p is h = h

-- macros stand for a state of this unit with these macros
module _ (work : Work) (apart : AreToldApart work.symbols.idents) (told : AreToldApart work.symbols.symbols) (ls : List Frames) (s : ScopedState) (old new : Macros) (f : ℕ) (c : Meaning) (l : model.Meaning) (k : Macro) (t : Transformer Frames Identifier)
    (keeps : Keeps old new f c k) (bound : IsBound c) (means : IsMeaning work.symbols s.unit f c l) (is : IsMacro work ls k t) (e : MacrosStand work old ls s) where
  pub kept_macros : MacrosStand work new ls (kept l t s)
  kept_macros = record {
    there = λ g d m h.
        subst (λ (o : Option Macro). IsMacroIfAny work ls o (macro_at (kept l t s).macros m)) (sym (keeps g d))
        (subst (λ (q : Bool). IsMacroIfAny work ls (cond (same_key f c g d) (Some k) (macro_in old g d)) (cond q (Some t) (macro_at s.macros m))) (by_key work.symbols apart told s.unit f g c l bound means d m h)
        (chosen work ls k t (same_key f c g d) (macro_in old g d) (macro_at s.macros m) is (e.there g d m h)));
    idents = λ v i h. elim (some_of (same_meaning l (model.Global v i)) t (macro_at s.macros (model.Global v i)) h) [
      | inl now ↦ ident_of work.symbols s.unit f c l means v i now
      | inr before ↦ e.idents v i before
    ];
    symbols = λ x h. elim (some_of (same_meaning l (model.Standard x)) t (macro_at s.macros (model.Standard x)) h) [
      | inl now ↦ symbol_of work.symbols s.unit f c l means x now
      | inr before ↦ e.symbols x before
    ];
    free = λ x. ap (λ b. cond b (Some t) (macro_at s.macros (model.Free x))) (not_free work.symbols s.unit f c l bound means x) ∙ e.free x;
    known_idents = λ g v n h. elim (some_of (same_key f c g (Global v n)) k (macro_in old g (Global v n)) (ap is_some (sym (keeps g (Global v n))) ∙ h)) [
      | inl now ↦ ident_within work.symbols s.unit f c l means g v n now
      | inr before ↦ e.known_idents g v n before
    ];
    known_symbols = λ g n h. elim (some_of (same_key f c g (Standard n)) k (macro_in old g (Standard n)) (ap is_some (sym (keeps g (Standard n))) ∙ h)) [
      | inl now ↦ symbol_within work.symbols s.unit f c l means g n now
      | inr before ↦ e.known_symbols g n before
    ];
  }

-- what was kept means a local of the unit at work, or no local
pub is_begun : (names : Names) (unit form : ℕ) (roots : map.FinMap nat_cmp ℕ) (c : Meaning) (l : model.Meaning) (w : Number) → (r : ℕ) × (map.get roots unit ≡ Some r) → IsMeaning names unit form c l → IsBound c → same_meaning l (model.Local w) ≡ true → IsBegun roots w
is_begun names unit form roots (Local n) l w root means bound same =
    let v : Number = record { unit = unit; form = form; count = n } in
    let told : same_number v w ≡ true = sym (ap (λ (m : model.Meaning). same_meaning m (model.Local w)) means) ∙ same in
    (root.0, ap (map.get roots) (sym (ap (λ (k : Number). k.unit) (number_told v w told))) ∙ root.1)
is_begun names unit form roots (Global u n) (model.Local v) w root means bound same = absurd means
is_begun names unit form roots (Global u n) (model.Global v i) w root means bound same = absurd cc
is_begun names unit form roots (Global u n) (model.Standard x) w root means bound same = absurd means
is_begun names unit form roots (Global u n) (model.Free x) w root means bound same = absurd means
is_begun names unit form roots (Standard n) (model.Local v) w root means bound same = absurd means
is_begun names unit form roots (Standard n) (model.Global v i) w root means bound same = absurd means
is_begun names unit form roots (Standard n) (model.Standard x) w root means bound same = absurd cc
is_begun names unit form roots (Standard n) (model.Free x) w root means bound same = absurd means
is_begun names unit form roots (Free n) l w root means bound same = absurd bound

pub begun_by : (roots : map.FinMap nat_cmp ℕ) (w : Number) (t : Transformer Frames Identifier) (o : Option (Transformer Frames Identifier)) (q : Bool) → (q ≡ true → IsBegun roots w) → (is_some o ≡ true → IsBegun roots w) → is_some (cond q (Some t) o) ≡ true → IsBegun roots w
begun_by roots w t o true now before h = now refl
begun_by roots w t o false now before h = before h

-- its edition is no part of what a macro stands for
pub numbered_stands : (work : Work) (ls : List Frames) (k : Macro) (t : Transformer Frames Identifier) (n : ℕ) → IsMacro work ls k t → IsMacro work ls (numbered k n) t
numbered_stands work ls k t n h = record { scope = h.scope; checked = h.checked; rules = h.rules; leaves = h.leaves }

-- a macro more, by what means it in the form at work
pub kept_stands : (work : Work) (u : UnitScope) (ls : List Frames) (s : ScopedState) (ms : Macros) (c : Meaning) (l : model.Meaning) (k : Macro) (t : Transformer Frames Identifier) →
    AreToldApart work.symbols.idents → AreToldApart work.symbols.symbols → Keeps u.macros ms u.form.number c k → IsBound c → IsMeaning work.symbols s.unit s.form c l → IsMacro work ls k t →
    Stands work u ls s → Stands work (with_macros u ms) ls (kept l t s)
kept_stands work u ls s ms c l k t apart told keeps bound means is e =
    let v = e.env in
    let f = e.form in
    record {
      unit = e.unit;
      program = e.program;
      env = record {
        count = v.count;
        scopes = v.scopes;
        given = v.given;
        noted = v.noted;
        unnoted = v.unnoted;
        inside = v.inside;
        entered = v.entered;
        defined = v.defined;
        named = v.named;
        given_named = v.given_named;
      };
      macros = kept_macros work apart told ls s u.macros ms s.form c l k t (subst (λ (n : ℕ). Keeps u.macros ms n c k) e.form.number keeps) bound means is e.macros;
      root = e.root;
      own = e.own;
      begun = record {
        frames = e.begun.frames;
        bodies = e.begun.bodies;
        macros = λ w h. begun_by u.env.roots w t (macro_at s.macros (model.Local w)) (same_meaning l (model.Local w))
            (is_begun work.symbols s.unit s.form u.env.roots c l w (u.root, ap (map.get u.env.roots) (sym e.unit) ∙ e.own) means bound) (e.begun.macros w) h;
      };
      form = record {
        number = f.number;
        locals = f.locals;
        uses = f.uses;
        nodes = f.nodes;
        few_uses = f.few_uses;
        few_nodes = f.few_nodes;
        few_locals = f.few_locals;
        definitions = f.definitions;
        keywords = f.keywords;
        met = f.met;
      };
      defined = e.defined;
      known = e.known;
      count = e.count;
    }
