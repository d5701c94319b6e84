-- Homes of included forms that go on.
use Rattle.std.specs.Prelude.{◌≡◌, ℕ, zero, suc, List, [], ◌∷◌, true, ◌||◌}
use Rattle.scheme_model.specs.Order.{is_some}
use Rattle.scheme_model.specs.Declarations.{UnitForm, home_of}
use Rattle.scheme_model.specs.Program.{Prepared}
use Rattle.renumbering_laws.specs.Renumbering.{Renumbering}
use Rattle.carried_forms.specs.Paired.{UnitPair}
use Rattle.carried_forms.specs.Carried.{IsIn}

-- what stands at a place of a list
abbrev pub At : {X : Type 0} → List X → ℕ → X → Type 0
At [] n x = ⊥
At (y ∷ ys) zero x = y ≡ x
At (y ∷ ys) (suc n) x = At ys n x

abbrev pub IsForm : List Prepared → (unit form : ℕ) → UnitForm → Type 0
IsForm ps u n f = (p : Prepared) × At ps u p × At p.forms n f

-- where a form that goes on is included, the text that it is in has its unit's number and its own number there, both as these numbers tell them
abbrev pub HomesGoOn : Renumbering → (before after : List Prepared) → List UnitPair → Type 0
HomesGoOn r ps qs pairs =
    (p : UnitPair) → IsIn p pairs → (n : ℕ × ℕ) → IsIn n p.forms → (f g : UnitForm) → IsForm ps p.before n.0 f → IsForm qs p.after n.1 g → (is_some f.home || is_some g.home) ≡ true →
    let h = home_of p.before n.0 f in let i = home_of p.after n.1 g in (r.unit h.unit ≡ i.unit) × (r.form h.unit h.form ≡ i.form)
