-- Between two calls, when no form is at work: a macro is kept, and the unit defines an identifier.
use Rattle.std.proofs.Common.{◌≡◌, ℕ, suc, ◌+◌, ◌&&◌, List, Bool, true, cond, nat_eq, Option, Some, None, refl, sym, ap, ◌∙◌, subst, arith, eq-eqb}
use Rattle.std.specs.Option.{option_map}
use Rattle.std.specs.BTreeMap.{BTreeMap, get, btree_map_len}
use Rattle.std.specs.FinMap as map
use Rattle.std.specs.Ordering.{nat_cmp, is_eq}
use Rattle.scheme_model.specs.declared.Occ.{Occ}
use Rattle.scheme_model.specs.Ident.{Ident as Identifier, same_ident}
use Rattle.scheme_model.specs.ExpansionFaults.{Named}
use Rattle.scheme_model.specs.Meaning.{same_meaning}
use Rattle.scheme_model.specs.Meaning as model
use Rattle.scheme_model.specs.Order.{Transformer}
use Rattle.scheme_model.specs.RulesShape.{Rules}
use Rattle.scheme_model.specs.Substitution.{Defined, defined_in, definition_count}
use Rattle.scheme_model.specs.ScopedExpansion.{Frames, ScopedState, macro_at, definition_added}
use Rattle.syntax_tree.specs.Names.{AreToldApart}
use Rattle.syntax_tree.specs.Macros.{IsIdent}
use Rattle.syntax_tree.specs.Meant.{IsMeaning}
use Rattle.syntax_tree.specs.declared.meaning.Meaning.{Meaning}
use Rattle.syntax_tree.specs.declared.meaning.Meaning.TheVariants.{Global}
use Rattle.syntax_tree.specs.declared.trees.Work.{Work}
use Rattle.syntax_tree.proofs.RoleLaws.{same_by_number}
use Rattle.scope_env.specs.Environment.{IsSound, with_bound}
use Rattle.unit_scopes.specs.Macros.{IsBound, Keeps}
use Rattle.unit_scopes.specs.State.{IsMacro, EnvStands, Rests}
use Rattle.unit_scopes.specs.Stepped.{kept, with_definition, with_macros, defined_here}
use Rattle.unit_scopes.specs.declared.macros.Macro.{Macro}
use Rattle.unit_scopes.specs.declared.macros.Macros.{Macros}
use Rattle.unit_scopes.specs.declared.scope.UnitScope.{UnitScope}
use Rattle.unit_scopes.proofs.KeptStands.{kept_macros, is_begun, begun_by}
use Rattle.unit_scopes.proofs.UnitsStand.{own_env, at_key, keyword_by, known_by}

-- a macro more, by what means it in a form
pub kept_rests : (work : Work) (u : UnitScope) (ls : List Frames) (s : ScopedState) (ms : Macros) (form : ℕ) (c : Meaning) (l : model.Meaning) (k : Macro) (t : Transformer Frames Identifier) →
    AreToldApart work.symbols.idents → AreToldApart work.symbols.symbols → Keeps u.macros ms form c k → IsBound c → IsMeaning work.symbols s.unit form c l → IsMacro work ls k t →
    Rests work u ls s → Rests work (with_macros u ms) ls (kept l t s)
kept_rests work u ls s ms form c l k t apart told keeps bound means is e =
    let v = e.env in
    record {
      unit = e.unit;
      program = e.program;
      env = record {
        count = v.count;
        scopes = v.scopes;
        given = v.given;
        noted = v.noted;
        unnoted = v.unnoted;
        inside = v.inside;
        entered = v.entered;
        defined = v.defined;
        named = v.named;
        given_named = v.given_named;
      };
      macros = kept_macros work apart told ls s u.macros ms form c l k t keeps bound means is e.macros;
      root = e.root;
      own = e.own;
      begun = record {
        frames = e.begun.frames;
        bodies = e.begun.bodies;
        macros = λ w h. begun_by u.env.roots w t (macro_at s.macros (model.Local w)) (same_meaning l (model.Local w))
            (is_begun work.symbols s.unit form u.env.roots c l w (u.root, ap (map.get u.env.roots) (sym e.unit) ∙ e.own) means bound) (e.begun.macros w) h;
      };
      defined = e.defined;
      known = e.known;
      count = e.count;
    }

-- the unit's own scope binds an identifier, and its table has it
pub own_rests : (work : Work) (u : UnitScope) (ls : List Frames) (s : ScopedState) (ident : ℕ) (i : Identifier) (occ : Option Occ) (keyword : Bool) (defined : BTreeMap ℕ Bool) →
    AreToldApart work.symbols.idents → IsSound u.env → IsIdent work.symbols ident i → ((n : ℕ) → get nat_cmp defined n ≡ cond (is_eq (nat_cmp ident n)) (Some keyword) (get nat_cmp u.defined n)) → btree_map_len defined ≡ btree_map_len u.defined + 1 →
    Rests work u ls s → Rests work (with_definition u ident defined) ls (defined_here i occ keyword s)
own_rests work u ls s ident i occ keyword defined apart sound is put more e =
    let d : Defined = record { unit = s.unit; form = s.form; ident = i; keyword = keyword; occ = occ } in
    let m = e.macros in
    let at : map.get u.env.roots s.unit ≡ Some u.root = ap (map.get u.env.roots) (sym e.unit) ∙ e.own in
    let itself = eq-eqb s.unit s.unit refl in
    let found : (n : ℕ) → get nat_cmp defined n ≡ cond (nat_eq n ident) (Some keyword) (get nat_cmp u.defined n) = λ n. put n ∙ ap (λ b. cond b (Some keyword) (get nat_cmp u.defined n)) (at_key ident n) in
    record {
      unit = e.unit;
      program = e.program;
      env = subst (λ (w : ℕ). EnvStands work.symbols (with_bound u.env u.root ident (Global w ident)) ls (defined_here i occ keyword s)) (sym e.unit) (own_env s d refl work.symbols apart u.env sound ls u.root ident at is e.env);
      macros = record { there = m.there; idents = m.idents; symbols = m.symbols; free = m.free; known_idents = m.known_idents; known_symbols = m.known_symbols };
      root = e.root;
      own = e.own;
      begun = record { frames = e.begun.frames; bodies = e.begun.bodies; macros = e.begun.macros };
      defined = λ n j there.
          found n
          ∙ ((λ k. cond (sym (same_by_number work.symbols apart ident n i j is there) k) (Some keyword) (e.defined n j there k))
          ∙ (sym (keyword_by d (same_ident i j) (defined_in s.table s.unit j))
          ∙ (λ k. option_map (λ (x : Defined). x.keyword) (cond (sym itself k && same_ident i j) (Some d) (defined_in s.table s.unit j)))));
      known = λ n k h. known_by work.symbols ident n i k keyword (get nat_cmp u.defined n) (nat_eq n ident) refl is (e.known n k) (sym (found n) ∙ h);
      count = let one : btree_map_len defined ≡ suc (definition_count s.table s.unit) = omega (arith, more, e.count) in one ∙ ap (λ b. cond b (suc (definition_count s.table s.unit)) (definition_count s.table s.unit)) (sym itself);
    }

-- the same of a macro, which is kept as what its name means
pub own_macro_rests : (work : Work) (u : UnitScope) (ls : List Frames) (s : ScopedState) (fs : Frames) (form ident : ℕ) (n : Named Identifier) (defined : BTreeMap ℕ Bool) (ms : Macros) (k : Macro) (r : Rules Identifier) →
    AreToldApart work.symbols.idents → AreToldApart work.symbols.symbols → IsSound u.env → IsIdent work.symbols ident n.name →
    ((m : ℕ) → get nat_cmp defined m ≡ cond (is_eq (nat_cmp ident m)) (Some true) (get nat_cmp u.defined m)) → btree_map_len defined ≡ btree_map_len u.defined + 1 →
    Keeps u.macros ms form (Global u.unit ident) k → IsMacro work ls k (record { env = fs; rules = r }) → Rests work u ls s →
    Rests work (with_macros (with_definition u ident defined) ms) ls (definition_added None n (Some r) fs s)
own_macro_rests work u ls s fs form ident n defined ms k r apart told sound is put more keeps kept e =
    kept_rests work (with_definition u ident defined) ls (defined_here n.name n.occ true s) ms form (Global u.unit ident) (model.Global s.unit n.name) k (record { env = fs; rules = r }) apart told keeps tt (e.unit, is) kept
    (own_rests work u ls s ident n.name n.occ true defined apart sound is put more e)
