-- What forms set aside stands, one form more at a time, and through steps of other forms.
use Rattle.std.proofs.Common.{◌≡◌, ℕ, suc, ◌+◌, ◌≤◌, ◌<◌, List, [], ◌∷◌, ◌++◌, length, subst, inl, inr, arith}
use Rattle.scheme_model.specs.ScopedExpansion.{ScopedState}
use Rattle.kept_forms.specs.KeptForms.{LeftOrKept}
use Rattle.syntax_tree.specs.declared.trees.Work.{Work}
use Rattle.syntax_tree.specs.declared.trees.table.Region.{Region}
use Rattle.form_expansion.specs.Forms.{Passing, IsUntouched, IsDeclared, AreDeclared}
use Rattle.form_expansion.specs.declared.forms.Bench.{Bench}
use Rattle.form_expansion.specs.declared.forms.Declared as code

-- a step keeps what was gone through of forms between two
pub declared_on : (b c : Bench) (unit from behind : ℕ) (s t : ScopedState) → ((m : ℕ) (d : code.Declared) (r : Passing) → from ≤ m → m < behind → IsDeclared b.work b.region unit m s d r → IsDeclared c.work c.region unit m t d r) →
    (form : ℕ) (ds : List code.Declared) (rs : List LeftOrKept) → from ≤ form → form + length ds ≤ behind → AreDeclared b.work b.region unit form s ds rs → AreDeclared c.work c.region unit form t ds rs
declared_on b c unit from behind s t on form [] [] le high h = tt
declared_on b c unit from behind s t on form [] (r ∷ rs) le high h = h
declared_on b c unit from behind s t on form (d ∷ ds) [] le high h = (h.0, declared_on b c unit from behind s t on (suc form) ds [] (omega (arith, le)) (omega (arith, high)) h.1)
declared_on b c unit from behind s t on form (d ∷ ds) (r ∷ rs) le high h = elim h [
  | inl none ↦ inl (none.0, none.1, declared_on b c unit from behind s t on (suc form) ds (r ∷ rs) (omega (arith, le)) (omega (arith, high)) none.2)
  | inr done ↦ inr (done.0, on form d r.left le (omega (arith, high)) done.1, declared_on b c unit from behind s t on (suc form) ds rs (omega (arith, le)) (omega (arith, high)) done.2)
]

module _ (work : Work) (region : Region) (unit : ℕ) (s : ScopedState) where
  -- a form more that isn't expanded
  pub declared_blank : (form : ℕ) (ds : List code.Declared) (rs : List LeftOrKept) (d : code.Declared) → AreDeclared work region unit form s ds rs → IsUntouched d → AreDeclared work region unit form s (ds ++ d ∷ []) rs
  declared_blank form [] [] d h none = (none, tt)
  declared_blank form [] (r ∷ rs) d h none = absurd h
  declared_blank form (e ∷ ds) [] d h none = (h.0, declared_blank (suc form) ds [] d h.1 none)
  declared_blank form (e ∷ ds) (r ∷ rs) d h none = elim h [
    | inl un ↦ inl (un.0, un.1, declared_blank (suc form) ds (r ∷ rs) d un.2 none)
    | inr made ↦ inr (made.0, made.1, declared_blank (suc form) ds rs d made.2 none)
  ]

  -- one that is
  pub declared_more : (form : ℕ) (ds : List code.Declared) (rs : List LeftOrKept) (d : code.Declared) (r : LeftOrKept) → r.form ≡ form + length ds → AreDeclared work region unit form s ds rs → IsDeclared work region unit r.form s d r.left →
      AreDeclared work region unit form s (ds ++ d ∷ []) (rs ++ r ∷ [])
  declared_more form [] [] d r at h is = let here : r.form ≡ form = omega (arith, at) in inr (here, subst (λ (n : ℕ). IsDeclared work region unit n s d r.left) here is, tt)
  declared_more form [] (q ∷ rs) d r at h is = absurd h
  declared_more form (e ∷ ds) [] d r at h is = inl (h.0, omega (arith, at), declared_more (suc form) ds [] d r (omega (arith, at)) h.1 is)
  declared_more form (e ∷ ds) (q ∷ rs) d r at h is = elim h [
    | inl un ↦ inl (un.0, un.1, declared_more (suc form) ds (q ∷ rs) d r (omega (arith, at)) un.2 is)
    | inr made ↦ inr (made.0, made.1, declared_more (suc form) ds rs d r (omega (arith, at)) made.2 is)
  ]
