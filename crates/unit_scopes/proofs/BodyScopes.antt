-- What the scope of a body binds itself: what the body has defined.
use Rattle.std.proofs.Common.{◌≡◌, ℕ, List, [], ◌∷◌, ◌++◌, nat_eq, ◌&&◌, length, slice_get, Bool, true, false, cond, Option, Some, None, refl, sym, ap, ◌∙◌, subst}
use Rattle.std.specs.Option.{option_map, option_and_then}
use Rattle.std.specs.FinMap as map
use Rattle.std.specs.FinMap.{get-empty, get-insert}
use Rattle.std.specs.Ordering.{nat_cmp, eq_by_cmp}
use Rattle.std.specs.Cmp.{nat_cmp_total}
use Rattle.std.proofs.lemmas.Bool.{eqb-true, false_from_ne_true}
use Rattle.scheme_model.specs.Identifiers.{Number, same_number}
use Rattle.scheme_model.specs.Ident.{Ident as Identifier, same_ident}
use Rattle.scheme_model.specs.Scopes.{Chain, found}
use Rattle.scheme_model.specs.Order.{is_some}
use Rattle.scheme_model.specs.ScopedExpansion.{BodyDefinition, BodyDefinitions, Enter, Frames, ScopedState, find, next_number, is_defined}
use Rattle.scheme_model.proofs.IdentLaws.{ident_told, number_itself}
use Rattle.syntax_tree.specs.Names.{Names, AreToldApart, KeepsNames}
use Rattle.syntax_tree.specs.Macros.{IsIdent}
use Rattle.syntax_tree.specs.declared.meaning.Meaning.{Meaning}
use Rattle.syntax_tree.specs.declared.meaning.Meaning.TheVariants.{Local}
use Rattle.syntax_tree.specs.declared.trees.Work.{Work}
use Rattle.syntax_tree.proofs.Places.{none_some, get_next}
use Rattle.syntax_tree.proofs.RoleLaws.{same_by_number}
use Rattle.scope_env.specs.Environment.{Environment, Scope, new_scope, with_child, with_bound, bound_in}
use Rattle.scope_env.specs.Resolved.{bound_at}
use Rattle.scope_env.specs.Standing.{bound_by}
use Rattle.scope_env.specs.Moved.{IsNamed, AreNamed}
use Rattle.scope_env.proofs.Places.{changed_here}
use Rattle.unit_scopes.specs.Chains.{body_chain, chain_of}
use Rattle.unit_scopes.specs.State.{Stands}
use Rattle.unit_scopes.specs.Stepped.{BindsBody}
use Rattle.unit_scopes.specs.declared.scope.UnitScope.{UnitScope}
use Rattle.unit_scopes.proofs.BodiesStand.{none_defined}
use Rattle.unit_scopes.proofs.KeptStands.{same_either}
use Rattle.unit_scopes.proofs.UnitsStand.{at_key}
use Rattle.unit_scopes.proofs.GrowthStands.{not_elsewhere}

abbrev local_of : Number → Meaning
local_of v = Local v.count

-- ---- a body that is entered has defined nothing

nothing : (o : Option Identifier) → None ≡ option_map local_of (option_and_then (found []) o)
nothing None = refl
nothing (Some i) = refl

pub new_binds : (work : Work) (u : UnitScope) (ls : List Frames) (s : ScopedState) (parent : ℕ) → Stands work u ls s → BindsBody work.symbols (with_child u.env parent) (length u.env.scopes) s (next_number s s.bodies)
new_binds work u ls s parent e n =
    ap (λ (o : Option Scope). option_and_then (λ (x : Scope). map.get x.bound n) o) (get_next u.env.scopes [] (new_scope (Some parent)))
    ∙ (get-empty nat_cmp n
    ∙ (nothing (slice_get work.symbols.idents n)
    ∙ ap (λ c. bound_by work.symbols c n) (sym (none_defined s s.definitions e.env.defined))))

-- ---- one definition more

bound_here : (env : Environment) (scope ident : ℕ) (m : Meaning) (n : ℕ) (o : Option Scope) → slice_get env.scopes scope ≡ o → (x : Scope) → o ≡ Some x → bound_at (with_bound env scope ident m) scope n ≡ cond (eq_by_cmp nat_cmp n ident) (Some m) (bound_at env scope n)
bound_here env scope ident m n o at x there =
    let is : slice_get env.scopes scope ≡ Some x = at ∙ there in
    ap (λ (y : Option Scope). option_and_then (λ (z : Scope). map.get z.bound n) y) (changed_here (bound_in ident m) env.scopes scope ∙ ap (option_map (bound_in ident m)) is)
    ∙ (get-insert nat_cmp_total x.bound ident m n
    ∙ ap (λ (y : Option Scope). cond (eq_by_cmp nat_cmp n ident) (Some m) (option_and_then (λ (z : Scope). map.get z.bound n) y)) (sym is))

mapped : (b : Bool) (v : Number) (o : Option Number) → cond b (Some (local_of v)) (option_map local_of o) ≡ option_map local_of (cond b (Some v) o)
mapped true v o = refl
mapped false v o = refl

module _ (names : Names) (apart : AreToldApart names.idents) (ident : ℕ) (i : Identifier) (v : Number) (is : IsIdent names ident i) (c : Chain) where
  one_more : (n : ℕ) (o : Option Identifier) → slice_get names.idents n ≡ o →
      cond (nat_eq n ident) (Some (local_of v)) (option_map local_of (option_and_then (found c) o)) ≡ option_map local_of (option_and_then (found (record { ident = i; binder = v } ∷ c)) o)
  one_more n None none =
      ap (λ (b : Bool). cond b (Some (local_of v)) None)
      (false_from_ne_true (nat_eq n ident) (λ h. none_some i (sym none ∙ (ap (slice_get names.idents) (eqb-true n ident h) ∙ is))))
  one_more n (Some j) there =
      ap (λ (b : Bool). cond b (Some (local_of v)) (option_map local_of (found c j))) (sym (same_by_number names apart ident n i j is there)) ∙ mapped (same_ident i j) v (found c j)

pub binds_more : (names : Names) (env : Environment) (scope ident : ℕ) (s : ScopedState) (d : BodyDefinition) (x : Scope) → AreToldApart names.idents → IsIdent names ident d.ident → slice_get env.scopes scope ≡ Some x →
    BindsBody names env scope s d.body → BindsBody names (with_bound env scope ident (Local d.binder.count)) scope (record s { definitions = d ∷ s.definitions }) d.body
binds_more names env scope ident s d x apart is there binds n =
    bound_here env scope ident (Local d.binder.count) n (slice_get env.scopes scope) refl x there
    ∙ (ap (λ (b : Bool). cond b (Some (local_of d.binder)) (bound_at env scope n)) (at_key n ident ∙ same_either ident n)
    ∙ (ap (λ (o : Option Meaning). cond (nat_eq n ident) (Some (local_of d.binder)) o) (binds n)
    ∙ (one_more names apart ident d.ident d.binder is (body_chain s.definitions d.body) n (slice_get names.idents n) refl
    ∙ ap (λ (b : Bool). bound_by names (cond b (record { ident = d.ident; binder = d.binder } ∷ body_chain s.definitions d.body) (body_chain s.definitions d.body)) n) (sym (number_itself d.body)))))

-- ---- names are added

found_named : (names : Names) (c : Chain) (i : Identifier) (v : Number) → AreNamed names c → found c i ≡ Some v → IsNamed names i
found_named names [] i v named is = none_some v is
found_named names (b ∷ bs) i v named is = by (same_ident b.ident i) refl is (found_named names bs i v named.1)
  where
    by : (t : Bool) → same_ident b.ident i ≡ t → cond t (Some b.binder) (found bs i) ≡ Some v → (found bs i ≡ Some v → IsNamed names i) → IsNamed names i
    by true same at rest = subst (λ (x : Identifier). IsNamed names x) (ident_told b.ident i same) named.0
    by false same at rest = rest at

module _ (old new : Names) (keeps : KeepsNames old new) (apart : AreToldApart new.idents) (c : Chain) (named : AreNamed old c) where
  not_new : (n : ℕ) (j : Identifier) (o : Option Number) → found c j ≡ o → slice_get old.idents n ≡ None → slice_get new.idents n ≡ Some j → None ≡ option_map local_of o
  not_new n j None is none there = refl
  not_new n j (Some v) is none there = let m = found_named old c j v named is in not_elsewhere old.idents new.idents keeps.idents apart n m.0 j none there m.1

  same_bound : (n : ℕ) (o p : Option Identifier) → slice_get old.idents n ≡ o → slice_get new.idents n ≡ p → option_map local_of (option_and_then (found c) o) ≡ option_map local_of (option_and_then (found c) p)
  same_bound n (Some i) p at there = ap (λ (q : Option Identifier). option_map local_of (option_and_then (found c) q)) (sym (keeps.idents n i at) ∙ there)
  same_bound n None None at there = refl
  same_bound n None (Some j) at there = not_new n j (found c j) refl at there

named_front : (names : Names) (c d : Chain) → AreNamed names (c ++ d) → AreNamed names c
named_front names [] d h = tt
named_front names (b ∷ bs) d h = (h.0, named_front names bs d h.1)

pub binds_on : (old new : Work) (u : UnitScope) (ls : List Frames) (s : ScopedState) (scope : ℕ) (b : Number) (w : ℕ → ℕ) (fs : Frames) → KeepsNames old.symbols new.symbols → AreToldApart new.symbols.idents →
    slice_get ls scope ≡ Some (Enter b w ∷ fs) → Stands old u ls s → BindsBody old.symbols u.env scope s b → BindsBody new.symbols u.env scope s b
binds_on old new u ls s scope b w fs keeps apart at e binds n =
    let c = body_chain s.definitions b in
    binds n ∙ same_bound old.symbols new.symbols keeps apart c (named_front old.symbols c (chain_of s.definitions fs) (e.env.named scope (Enter b w ∷ fs) at)) n (slice_get old.symbols.idents n) (slice_get new.symbols.idents n) refl refl

-- ---- whether the body has defined an identifier

found_or : (r : Bool) (v : Number) (ds : BodyDefinitions) (o : Option Number) (p : Option (Number × BodyDefinitions)) → is_some o ≡ is_some p → is_some (cond r (Some v) o) ≡ is_some (cond r (Some (v, ds)) p)
found_or true v ds o p h = refl
found_or false v ds o p h = h

same_found : (ds : BodyDefinitions) (b : Number) (i : Identifier) → is_some (found (body_chain ds b) i) ≡ is_some (find ds b i)
same_found [] b i = refl
same_found (d ∷ ds) b i = by (same_number d.body b) (same_found ds b i)
  where
    by : (q : Bool) → is_some (found (body_chain ds b) i) ≡ is_some (find ds b i) →
        is_some (found (cond q (record { ident = d.ident; binder = d.binder } ∷ body_chain ds b) (body_chain ds b)) i) ≡ is_some (cond (q && same_ident d.ident i) (Some (d.binder, ds)) (find ds b i))
    by true rest = found_or (same_ident d.ident i) d.binder ds (found (body_chain ds b) i) (find ds b i) rest
    by false rest = rest

mapped_some : (o : Option Number) → is_some (option_map local_of o) ≡ is_some o
mapped_some None = refl
mapped_some (Some v) = refl

pub body_binds : (names : Names) (env : Environment) (scope n : ℕ) (s : ScopedState) (b : Number) (i : Identifier) → IsIdent names n i → BindsBody names env scope s b → is_some (bound_at env scope n) ≡ is_defined s (Some b) i
body_binds names env scope n s b i is binds =
    ap is_some (binds n)
    ∙ (ap (λ (o : Option Identifier). is_some (option_map local_of (option_and_then (found (body_chain s.definitions b)) o))) is
    ∙ (mapped_some (found (body_chain s.definitions b) i) ∙ same_found s.definitions b i))
