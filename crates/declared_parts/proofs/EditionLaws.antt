-- A macro of the open unit has another edition: it is the same macro.
use Rattle.std.proofs.Common.{◌≡◌, ◌⊎◌, ℕ, List, [], Bool, true, false, Option, Some, None, nat_eq, refl, sym, ap, ◌∙◌, subst, inl, inr, eqb-true, eq-eqb}
use Rattle.std.specs.Prelude.{◌&&◌, if◌then◌else◌}
use Rattle.std.proofs.lemmas.Bool.{and_parts}
use Rattle.scheme_model.specs.Ident.{Ident as Identifier}
use Rattle.scheme_model.specs.Meaning.{Global}
use Rattle.scheme_model.specs.Order.{Note, Transformer, is_some}
use Rattle.scheme_model.specs.Questions.{bare_macro}
use Rattle.scheme_model.specs.RulesShape.{Rules, option_map}
use Rattle.scheme_model.specs.ScopedExpansion.{Frames, FramedIdent, ScopedState, macro_at}
use Rattle.syntax_tree.specs.Names.{Names}
use Rattle.syntax_tree.specs.declared.meaning.Meaning as code_meaning
use Rattle.syntax_tree.specs.declared.meaning.Meaning.TheVariants as meanings
use Rattle.syntax_tree.specs.declared.trees.Work.{Work}
use Rattle.unit_scopes.specs.Editions.{EditionsTell}
use Rattle.unit_scopes.specs.Macros.{macro_in, edition_of, edition_in, numbered, same_key}
use Rattle.unit_scopes.specs.State.{IsMacroIfAny, MacrosStand}
use Rattle.unit_scopes.specs.Units.{UnitStands}
use Rattle.unit_scopes.specs.declared.macros.Macro.{Macro}
use Rattle.unit_scopes.specs.declared.macros.Macros.{Macros}
use Rattle.unit_scopes.specs.declared.scope.UnitScope.{UnitScope}
use Rattle.declared_parts.specs.Editions.{HasMacro}
use Rattle.declared_parts.specs.declared.parts.KeptMacro.{KeptMacro}

numbered_too : (work : Work) (ls : List Frames) (k : Macro) (n : ℕ) (p : Option (Transformer Frames Identifier)) → IsMacroIfAny work ls (Some k) p → IsMacroIfAny work ls (Some (numbered k n)) p
numbered_too work ls k n None h = absurd h
numbered_too work ls k n (Some t) h = record { scope = h.scope; checked = h.checked; rules = h.rules; leaves = h.leaves }

-- the macro, taken out and kept with an edition
module _ (old new : Macros) (form unit n : ℕ) (own : Macro) (edition : ℕ) (there : macro_in old form (meanings.Global unit n) ≡ Some own)
    (now : (f : ℕ) (m : code_meaning.Meaning) → macro_in new f m ≡ (if same_key form (meanings.Global unit n) f m then Some (numbered own edition) else macro_in old f m)) where
  either : (f : ℕ) (m : code_meaning.Meaning) → (macro_in new f m ≡ macro_in old f m) ⊎ ((macro_in old f m ≡ Some own) × (macro_in new f m ≡ Some (numbered own edition)))
  either f (meanings.Local i) = inl (now f (meanings.Local i))
  either f (meanings.Standard s) = inl (now f (meanings.Standard s))
  either f (meanings.Free s) = inl (now f (meanings.Free s))
  either f (meanings.Global v j) = go (nat_eq v unit && nat_eq j n) refl
    where
      go : (b : Bool) → (nat_eq v unit && nat_eq j n) ≡ b → (macro_in new f (meanings.Global v j) ≡ macro_in old f (meanings.Global v j)) ⊎ ((macro_in old f (meanings.Global v j) ≡ Some own) × (macro_in new f (meanings.Global v j) ≡ Some (numbered own edition)))
      go false e = inl (now f (meanings.Global v j) ∙ ap (λ (b : Bool). if b then Some (numbered own edition) else macro_in old f (meanings.Global v j)) e)
      go true e =
          let p = and_parts (nat_eq v unit) (nat_eq j n) e in
          let a = eqb-true v unit p.0 in
          let b = eqb-true j n p.1 in
          inr ((λ k. macro_in old f (meanings.Global (a k) (b k))) ∙ there, now f (meanings.Global v j) ∙ ap (λ (c : Bool). if c then Some (numbered own edition) else macro_in old f (meanings.Global v j)) e)

  module _ (work : Work) (ls : List Frames) (s : ScopedState) where
    pub macros_stand : MacrosStand work old ls s → MacrosStand work new ls s
    macros_stand h = record {
      there = λ f c m is.
          elim (either f c) [
            | inl same ↦ subst (λ (o : Option Macro). IsMacroIfAny work ls o (macro_at s.macros m)) (sym same) (h.there f c m is)
            | inr is_own ↦ subst (λ (o : Option Macro). IsMacroIfAny work ls o (macro_at s.macros m)) (sym is_own.1) (numbered_too work ls own edition (macro_at s.macros m) (subst (λ (o : Option Macro). IsMacroIfAny work ls o (macro_at s.macros m)) is_own.0 (h.there f c m is)))
          ];
      idents = h.idents;
      symbols = h.symbols;
      free = h.free;
      known_idents = λ f u i some.
          elim (either f (meanings.Global u i)) [
            | inl same ↦ h.known_idents f u i (ap is_some (sym same) ∙ some)
            | inr is_own ↦ h.known_idents f u i (ap is_some is_own.0)
          ];
      known_symbols = λ f i some. h.known_symbols f i (ap is_some (sym (now f (meanings.Standard i))) ∙ some);
    }

  -- an edition that tells the same rules
  pub editions_tell : (names : Names) (s : ScopedState) (e : ℕ → Option (Transformer Frames Identifier)) → e edition ≡ e own.edition → EditionsTell names old s e → EditionsTell names new s e
  editions_tell names s e same h = record {
    none = h.none;
    tells = λ f c m is outside.
        elim (either f c) [
          | inl as_before ↦ ap (λ (o : Option Macro). e (edition_of o)) as_before ∙ h.tells f c m is outside
          | inr is_own ↦ ap (λ (o : Option Macro). e (edition_of o)) is_own.1 ∙ (same ∙ (sym (ap (λ (o : Option Macro). e (edition_of o)) is_own.0) ∙ h.tells f c m is outside))
        ];
  }

  pub edition_now : (f : ℕ) → edition_in new f (meanings.Global unit n) ≡ edition
  edition_now f =
      elim (either f (meanings.Global unit n)) [
        | inl same ↦ ap edition_of (now f (meanings.Global unit n) ∙ ap (λ (c : Bool). if c then Some (numbered own edition) else macro_in old f (meanings.Global unit n)) (λ j. eq-eqb unit unit refl j && eq-eqb n n refl j))
        | inr is_own ↦ ap edition_of is_own.1
      ]

-- the unit with such macros stands as before
pub unit_stands : (work : Work) (u : UnitScope) (ms : Macros) (ls : List Frames) (s : ScopedState) (notes : List (Note FramedIdent)) → MacrosStand work ms ls s → UnitStands work u ls s notes → UnitStands work (record u { macros = ms }) ls s notes
unit_stands work u ms ls s notes h e = let r = e.rests in record {
  rests = record {
    unit = r.unit;
    program = r.program;
    env = r.env;
    macros = h;
    root = r.root;
    own = r.own;
    begun = r.begun;
    defined = r.defined;
    known = r.known;
    count = r.count;
  };
  notes = e.notes;
}

-- the macro that the unit has of its identifier
pub own_there : (work : Work) (u : UnitScope) (ls : List Frames) (s : ScopedState) (notes : List (Note FramedIdent)) (k : KeptMacro) (r : Rules Identifier) (f : ℕ) → HasMacro work u ls s notes k r → (o : Macro) × (macro_in u.macros f (meanings.Global u.unit k.ident) ≡ Some o)
own_there work u ls s notes k r f h =
    let c = meanings.Global u.unit k.ident in
    let t : Transformer Frames Identifier = record { env = []; rules = r } in
    there_is (macro_in u.macros f c) t (subst (IsMacroIfAny work ls (macro_in u.macros f c)) h.there (h.stands.rests.macros.there f c (Global s.unit h.name) (h.stands.rests.unit, h.ident)))
  where
    there_is : (o : Option Macro) (t : Transformer Frames Identifier) → IsMacroIfAny work ls o (Some t) → (k : Macro) × (o ≡ Some k)
    there_is None t i = absurd i
    there_is (Some k) t i = (k, refl)

-- its edition tells its rules
pub own_told : (work : Work) (u : UnitScope) (ls : List Frames) (s : ScopedState) (notes : List (Note FramedIdent)) (k : KeptMacro) (r : Rules Identifier) (f : ℕ) (o : Macro) (e : ℕ → Option (Transformer Frames Identifier)) → HasMacro work u ls s notes k r → macro_in u.macros f (meanings.Global u.unit k.ident) ≡ Some o →
    EditionsTell work.symbols u.macros s e → e o.edition ≡ Some (record { env = []; rules = r })
own_told work u ls s notes k r f o e h is tells =
    sym (ap (λ (x : Option Macro). e (edition_of x)) is) ∙ (tells.tells f (meanings.Global u.unit k.ident) (Global s.unit h.name) (h.stands.rests.unit, h.ident) refl ∙ ap (option_map bare_macro) h.there)

-- ---- taken out, and kept

if_twice : (b : Bool) (k : Macro) (o : Option Macro) → (if b then Some k else if b then None else o) ≡ (if b then Some k else o)
if_twice true k o = refl
if_twice false k o = refl

pub kept_now : (old mid new : Macros) (form unit n : ℕ) (k : Macro) → ((f : ℕ) (m : code_meaning.Meaning) → macro_in mid f m ≡ (if same_key f (meanings.Global unit n) f m then None else macro_in old f m)) →
    ((f : ℕ) (m : code_meaning.Meaning) → macro_in new f m ≡ (if same_key form (meanings.Global unit n) f m then Some k else macro_in mid f m)) →
    (f : ℕ) (m : code_meaning.Meaning) → macro_in new f m ≡ (if same_key form (meanings.Global unit n) f m then Some k else macro_in old f m)
kept_now old mid new form unit n k gone kept f (meanings.Local i) = kept f (meanings.Local i) ∙ gone f (meanings.Local i)
kept_now old mid new form unit n k gone kept f (meanings.Standard s) = kept f (meanings.Standard s) ∙ gone f (meanings.Standard s)
kept_now old mid new form unit n k gone kept f (meanings.Free s) = kept f (meanings.Free s) ∙ gone f (meanings.Free s)
kept_now old mid new form unit n k gone kept f (meanings.Global v j) =
    let b = nat_eq v unit && nat_eq j n in
    kept f (meanings.Global v j) ∙ (ap (λ (o : Option Macro). if b then Some k else o) (gone f (meanings.Global v j)) ∙ if_twice b k (macro_in old f (meanings.Global v j)))
