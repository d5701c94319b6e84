-- Where work on a unit doesn't end in a form, the form goes to where it goes alone; and where no form's nodes are counted, work doesn't end.
use Rattle.std.proofs.Common.{◌≡◌, ℕ, List, [], ◌∷◌, Bool, true, false, cond, Option, Some, None, Result, Ok, Err, refl}
use Rattle.std.specs.Prelude.{nat_lt}
use Rattle.scheme_model.specs.Ident.{Ident}
use Rattle.scheme_model.specs.Requirements.{Known}
use Rattle.scheme_model.specs.Cores.{Parts, Part, part}
use Rattle.scheme_model.specs.Steps.{Broken, Step, ◌>>=◌, done}
use Rattle.scheme_model.specs.Order.{Item, Left, meet_all}
use Rattle.scheme_model.specs.Expression.{expand, item_part, parts}
use Rattle.scheme_model.specs.UnitExpansion.{max_depth, max_total, nodes_in, ◌then◌, going, before_parts, with_part, items_parts, form_parts}
use Rattle.scheme_model.specs.ScopedExpansion.{ScopedState}
use Rattle.scheme_model.specs.CountedExpansion.{counted}
use Rattle.scheme_model.specs.FormsAlike.{finish_by}

-- it went there, or ended
abbrev pub WentTo : {X : Type 0} → Option X × ScopedState → ScopedState → Type 0
WentTo (None, s) t = Unit {0}
WentTo (Some x, s) t = s ≡ t

abbrev pub WentOn : {X : Type 0} → Option X × ScopedState → Type 0
WentOn (None, s) = ⊥
WentOn (Some x, s) = Unit {0}

module _ (known : Known) (f : Item Ident → Step ScopedState Part) where
  behind : (p : Part) (m : Option (Result Parts Broken) × ScopedState) (x : Result Parts Broken × ScopedState) → WentTo m x.1 → WentTo (m then λ r. going (with_part p r)) (x >>= λ ps. done (part p ps)).1
  behind p (None, s) x h = tt
  behind p (Some r, s) (Ok ps, u) h = h
  behind p (Some r, s) (Err e, u) h = h

  items_went : (fs : List ℕ) (is : List (Item Ident)) (s : ScopedState) → WentTo (items_parts (counted known) fs f is s) (parts f is s).1
  items_went fs [] s = refl
  items_went fs (i ∷ is) s = go (nat_lt max_total (nodes_in (counted known) fs (f i s).1)) (f i s) (λ u. items_went fs is u)
    where
      go : (b : Bool) (q : Result Part Broken × ScopedState) → ((u : ScopedState) → WentTo (items_parts (counted known) fs f is u) (parts f is u).1)
          → WentTo (cond {A = Option (Result Part Broken) × ScopedState} b (None, q.1) (Some q.0, q.1) then before_parts (items_parts (counted known) fs f is)) (q >>= λ p. λ t. parts f is t >>= λ ps. done (part p ps)).1
      go true q law = tt
      go false (Ok p, u) law = behind p (items_parts (counted known) fs f is u) (parts f is u) (law u)
      go false (Err e, u) law = refl

  still_on : (p : Part) (m : Option (Result Parts Broken) × ScopedState) → WentOn m → WentOn (m then λ r. going (with_part p r))
  still_on p (None, s) h = h
  still_on p (Some r, s) h = tt

  items_on : (is : List (Item Ident)) (s : ScopedState) → WentOn (items_parts (counted known) [] f is s)
  items_on [] s = tt
  items_on (i ∷ is) s = go (f i s) (λ u. items_on is u)
    where
      go : (q : Result Part Broken × ScopedState) → ((u : ScopedState) → WentOn (items_parts (counted known) [] f is u)) → WentOn (before_parts (items_parts (counted known) [] f is) q.0 q.1)
      go (Ok p, u) law = still_on p (items_parts (counted known) [] f is u) (law u)
      go (Err e, u) law = tt

module _ (known : Known) (turns : ℕ) where
  pub form_went : (fs : List ℕ) (r : Result (Left Ident) Broken) (s : ScopedState) → WentTo (form_parts (counted known) (expand (counted known) turns) [] fs r s) (finish_by (counted known) turns [] r s).1
  form_went fs (Ok l) s = items_went known (item_part (expand (counted known) turns) (counted known) max_depth []) fs l.items (meet_all (counted known) [] l.uses s)
  form_went fs (Err e) s = refl

  pub form_on : (r : Result (Left Ident) Broken) (s : ScopedState) → WentOn (form_parts (counted known) (expand (counted known) turns) [] [] r s)
  form_on (Ok l) s = items_on known (item_part (expand (counted known) turns) (counted known) max_depth []) l.items (meet_all (counted known) [] l.uses s)
  form_on (Err e) s = tt
