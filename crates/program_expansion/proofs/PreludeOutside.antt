-- In the prelude nothing is local, and its macros stand outside of all frames.
use Rattle.std.proofs.Common.{◌≡◌, ℕ, ◌<◌, List, [], ◌∷◌, map, length, Bool, true, false, cond, Some, refl, sym, ap, ◌∙◌, subst, arith}
use Rattle.std.specs.FinMap as finite
use Rattle.std.proofs.lemmas.Option.{slice_get_within}
use Rattle.scheme_model.specs.Prelude.{PreludeMacro, prelude}
use Rattle.scheme_model.specs.Program.{is_standard, prelude_meaning, prelude_unit}
use Rattle.scheme_model.specs.Ident.{Written}
use Rattle.scheme_model.specs.Meaning.{Meaning, Global, Standard}
use Rattle.scheme_model.specs.RulesShape.{rules_parts}
use Rattle.scheme_model.specs.Trees.{proper}
use Rattle.scheme_model.specs.Order.{Note}
use Rattle.scheme_model.specs.ScopedExpansion.{FramedIdent, ScopedMacro, ScopedState}
use Rattle.scheme_model.specs.ScopedProgram.{prelude_rules, scoped_before}
use Rattle.scheme_model.specs.FormsAlike.{bare_kept}
use Rattle.form_laws.specs.Begins.{Each}
use Rattle.forgotten_locals.specs.Outside.{is_outside, macros_outside, IsOutside}
use Rattle.forgotten_locals.specs.Programs.{IsProgressOutside}
use Rattle.syntax_tree.specs.declared.trees.Work.{Work}
use Rattle.unit_scopes.specs.Forgotten.{AllOwn}
use Rattle.unit_scopes.specs.Preluded.{prelude_state}
use Rattle.unit_scopes.specs.Units.{UnitStands}
use Rattle.unit_scopes.specs.declared.scope.UnitScope.{UnitScope}
use Rattle.unit_scopes.proofs.PreludeLaws.{prelude_continues}
use Rattle.form_expansion.specs.Forms.{StandsOutside}
use Rattle.form_expansion.specs.declared.forms.Bench.{Bench}
use Rattle.program_expansion.specs.UnitResults.{GoesOn}

-- ---- its macros

is_free : (b : Bool) (x y : Meaning) → is_outside x ≡ true → is_outside y ≡ true → is_outside (cond b x y) ≡ true
is_free true x y h k = h
is_free false x y h k = k

abbrev macro_of : PreludeMacro → ScopedMacro
macro_of m = record { meaning = prelude_meaning m.name; frames = []; rules = prelude_rules (rules_parts m.parts proper) }

abbrev macros_of : List PreludeMacro → List ScopedMacro
macros_of ms = (prelude_state ms).macros

none_local : (ms : List PreludeMacro) → macros_outside (macros_of ms) ≡ macros_of ms
none_local [] = refl
none_local (m ∷ ms) =
    ap (λ (b : Bool). cond b (macro_of m ∷ macros_outside (macros_of ms)) (macros_outside (macros_of ms))) (is_free (is_standard m.name) (Standard m.name) (Global prelude_unit (Written prelude_unit m.name)) refl refl)
    ∙ ap (λ (ks : List ScopedMacro). macro_of m ∷ ks) (none_local ms)

all_at_root : (ms : List PreludeMacro) → Each (λ (k : ScopedMacro). k.frames ≡ []) (macros_of ms)
all_at_root [] = tt
all_at_root (m ∷ ms) = (refl, all_at_root ms)

pub prelude_outside : IsOutside (prelude_state prelude)
prelude_outside =
    let s = prelude_state prelude in
    let m = none_local prelude in let p = sym prelude_continues.places in let d = sym prelude_continues.definitions in
    λ j. record s { macros = m j; places = p j; definitions = d j }

pub before_outside : IsProgressOutside scoped_before scoped_before
before_outside =
    let m : macros_outside scoped_before.macros ≡ scoped_before.macros = subst (λ (ks : List ScopedMacro). macros_outside ks ≡ ks) prelude_continues.macros (none_local prelude) in
    record { table = refl; macros = ap (λ (ks : List ScopedMacro). map bare_kept ks) (sym m); places = refl; definitions = refl; entry = refl; results = refl }

-- ---- its scope

-- where there is one scope, it is the open unit's own
one_own : (w : Work) (u : UnitScope) (s : ScopedState) (notes : List (Note FramedIdent)) → UnitStands w u ([] ∷ []) s notes → AllOwn u
one_own w u s notes h n low =
    let e = h.rests in
    let many : 1 ≡ length u.env.scopes = e.env.count in
    let here : u.root < 1 = slice_get_within ([] ∷ []) u.root [] e.root in
    let same : u.root ≡ n = omega (arith, low, many, here) in
    (u.unit, subst (λ (k : ℕ). finite.get u.env.roots u.unit ≡ Some k) same e.own)

pub prelude_stands : (b : Bench) → UnitStands b.work b.scope ([] ∷ []) (prelude_state prelude) [] → StandsOutside b ([] ∷ []) (prelude_state prelude) []
prelude_stands b h = record { stands = h; outside = prelude_outside; macros = all_at_root prelude; notes = tt; own = one_own b.work b.scope (prelude_state prelude) [] h }

pub prelude_goes : (b : Bench) → UnitStands b.work b.scope ([] ∷ []) (prelude_state prelude) [] → GoesOn b scoped_before
prelude_goes b h = record { outside = scoped_before; is = before_outside; layout = [] ∷ []; state = prelude_state prelude; notes = []; stands = prelude_stands b h; continues = prelude_continues }
