-- The binders of frames give the meanings that frames give.
use Rattle.std.proofs.Common.{◌≡◌, eq-eqb, [], ◌∷◌, ◌++◌, Bool, ◌&&◌, true, false, cond, Some, None, refl, ap, ◌∙◌}
use Rattle.scheme_model.specs.Identifiers.{Number, same_number}
use Rattle.scheme_model.specs.Ident.{Ident, Written, Inserted, same_ident}
use Rattle.scheme_model.specs.Meaning.{Meaning, Local, Free}
use Rattle.scheme_model.specs.Scopes.{Chain, found, local_or, given_or, defined_or, own_of, beyond, means}
use Rattle.scheme_model.specs.Substitution.{defined_in}
use Rattle.scheme_model.specs.ScopedExpansion.{Frames, Bind, Enter, BodyDefinitions, ScopedState, around, find, defined_as, means_inside, means_outside, means_at}
use Rattle.unit_scopes.specs.Chains.{body_chain, chain_of, chain_in, uses_in, given_in}

-- what a body defines comes before what is around it
body_means : (ds : BodyDefinitions) (b : Number) (cs : Chain) (i : Ident) (outer : Meaning) → local_or (found (body_chain ds b ++ cs) i) outer ≡ defined_as (find ds b i) (local_or (found cs i) outer)
body_means [] b cs i outer = refl
body_means (d ∷ ds) b cs i outer = by (same_number d.body b) (body_means ds b cs i outer)
  where
    here : (q : Bool) → local_or (found (body_chain ds b ++ cs) i) outer ≡ defined_as (find ds b i) (local_or (found cs i) outer) →
        local_or (cond q (Some d.binder) (found (body_chain ds b ++ cs) i)) outer ≡ defined_as (cond q (Some (d.binder, ds)) (find ds b i)) (local_or (found cs i) outer)
    here true rest = refl
    here false rest = rest

    by : (p : Bool) → local_or (found (body_chain ds b ++ cs) i) outer ≡ defined_as (find ds b i) (local_or (found cs i) outer) →
        local_or (found (cond p (record { ident = d.ident; binder = d.binder } ∷ body_chain ds b) (body_chain ds b) ++ cs) i) outer ≡ defined_as (cond (p && same_ident d.ident i) (Some (d.binder, ds)) (find ds b i)) (local_or (found cs i) outer)
    by true rest = here (same_ident d.ident i) rest
    by false rest = rest

inside : (ds : BodyDefinitions) (fs : Frames) (i : Ident) (outer : Meaning) → local_or (found (chain_of ds fs) i) outer ≡ means_inside ds fs i outer
inside ds [] i outer = refl
inside ds (Bind x v ∷ fs) i outer = by (same_ident x i) (inside ds fs i outer)
  where
    by : (p : Bool) → local_or (found (chain_of ds fs) i) outer ≡ means_inside ds fs i outer → local_or (cond p (Some v) (found (chain_of ds fs) i)) outer ≡ cond p (Local v) (means_inside ds fs i outer)
    by true rest = refl
    by false rest = rest
inside ds (Enter b u ∷ fs) i outer = body_means ds b (chain_of ds fs) i outer ∙ ap (defined_as (find ds b i)) (inside ds fs i outer)

outside : (s : ScopedState) (i : Ident) → beyond (given_in s) (uses_in s) i ≡ means_outside s.table s.entry s.places s.definitions i
outside s (Written u x) = let own = eq-eqb u u refl in λ k. given_or (defined_or (defined_in s.table u (Written u x)) u (Written u x) (cond (own k) (s.entry u x) None)) (Free x)
outside s (Inserted i k) =
    let fs = around s.places k in
    ap (given_or (own_of s.table s.entry k.unit (Inserted i k)))
    (ap (local_or (found (chain_in s fs) i)) (outside s i) ∙ inside s.definitions fs i (means_outside s.table s.entry s.places s.definitions i))

pub chain_means : (s : ScopedState) (fs : Frames) (i : Ident) → means (given_in s) (uses_in s) (chain_in s fs) i ≡ means_at s fs i
chain_means s fs i =
    ap (local_or (found (chain_in s fs) i)) (outside s i)
    ∙ inside s.definitions fs i (means_outside s.table s.entry s.places s.definitions i)
