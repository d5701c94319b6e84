-- Work on a unit one form at a time, where what is local is forgotten behind each: it ended there, or goes on with those behind it (R7RS 5.1, 5.3).
use Rattle.std.proofs.Common.{◌≡◌, ℕ, Bool, true, false, cond, List, [], ◌∷◌, ◌++◌, map, Option, Some, None, Result, refl, sym, ap, ◌∙◌, inl, inr}
use Rattle.std.specs.Prelude.{nat_lt}
use Rattle.std.proofs.lemmas.Option.{same_Some}
use Rattle.scheme_model.specs.Ident.{Ident as Identifier}
use Rattle.scheme_model.specs.Trees.{Tree}
use Rattle.scheme_model.specs.Cores.{Parts}
use Rattle.scheme_model.specs.Steps.{Broken}
use Rattle.scheme_model.specs.Order.{Note, Pass}
use Rattle.scheme_model.specs.Program.{enough_turns}
use Rattle.scheme_model.specs.Requirements.{Known}
use Rattle.scheme_model.specs.UnitExpansion.{Formed, ◌then◌, going, max_total, nodes_in, unless_over}
use Rattle.scheme_model.specs.ScopedExpansion.{FramedIdent, ScopedState}
use Rattle.scheme_model.specs.CountedExpansion.{counted}
use Rattle.kept_forms.specs.KeptForms.{FormOrKept, LeftOrKept, around_form, counts_at}
use Rattle.forgotten_locals.specs.Outside.{forgotten}
use Rattle.forgotten_locals.specs.Ways.{Way, left_of, firsts_by, seconds_by}
use Rattle.note_laws.specs.Searching.{searching, none_kept}
use Rattle.unit_scopes.specs.Units.{declared}
use Rattle.form_expansion.specs.Ends.{IsAmong}
use Rattle.form_expansion.specs.Forms.{expanding, numbers_left}
use Rattle.form_expansion.proofs.UnitWalk.{behind}

abbrev pub way : Way
way = searching enough_turns

none_isnt : {X : Type 0} (x : X) → ◌≡◌ {A = Option X} None (Some x) → ⊥
none_isnt x h = let z : None ≡ Some x = h in absurd cc

-- a number between others
pub among_left : (front rest : List LeftOrKept) (r : LeftOrKept) → IsAmong r.form (numbers_left (front ++ r ∷ rest))
among_left [] rest r = inl refl
among_left (q ∷ front) rest r = inr (among_left front rest r)

module _ (known : Known) (fs : List ℕ) where
  over : {X : Type 0} (q : X × ScopedState) → nat_lt max_total (nodes_in (counted known) fs q.1) ≡ true → unless_over (counted known) fs q ≡ (None, q.1)
  over q h = ap (λ (b : Bool). cond b (None, q.1) (Some q.0, q.1)) h

  on : {X : Type 0} (q : X × ScopedState) → nat_lt max_total (nodes_in (counted known) fs q.1) ≡ false → unless_over (counted known) fs q ≡ (Some q.0, q.1)
  on q h = ap (λ (b : Bool). cond b (None, q.1) (Some q.0, q.1)) h

  -- ---- a form is gone through

  module _ (t : ℕ × Tree Identifier) (ts : List (ℕ × Tree Identifier)) (notes : List (Note FramedIdent)) (s : ScopedState) where
    abbrev pub gone : Pass Identifier FramedIdent × ScopedState
    gone = forgotten (declared known t.0 t.1 notes s)

    -- what is left of it
    abbrev pub left : LeftOrKept
    left = record { form = t.0; counts = counts_at t.0 gone.1; left = gone.0.left; kept = None }

    abbrev x : FormOrKept
    x = record { form = t.0; tree = t.1; kept = None }

    abbrev then_others : Option (Pass Identifier FramedIdent) × ScopedState → Option (List LeftOrKept) × ScopedState
    then_others w = w then λ q t1. firsts_by way known fs (none_kept ts) q.notes t1 then λ rest. going (left_of x (around_form known t.0 notes s) q t1 ∷ rest)

    pub pass_over : nat_lt max_total (nodes_in (counted known) fs gone.1) ≡ true → firsts_by way known fs (none_kept (t ∷ ts)) notes s ≡ (None, gone.1)
    pass_over h = ap then_others (over gone h)

    pub pass_on : nat_lt max_total (nodes_in (counted known) fs gone.1) ≡ false → firsts_by way known fs (none_kept (t ∷ ts)) notes s ≡ behind (left ∷ []) (firsts_by way known fs (none_kept ts) gone.0.notes gone.1)
    pass_on h = ap then_others (on gone h) ∙ go (firsts_by way known fs (none_kept ts) gone.0.notes gone.1)
      where
        go : (q : Option (List LeftOrKept) × ScopedState) → (q then λ rest. going (left ∷ rest)) ≡ behind (left ∷ []) q
        go (None, u) = refl
        go (Some rs, u) = refl

  -- what is left of forms has their numbers
  pub passed_numbers : (ts : List (ℕ × Tree Identifier)) (notes : List (Note FramedIdent)) (s t : ScopedState) (rs : List LeftOrKept) → firsts_by way known fs (none_kept ts) notes s ≡ (Some rs, t) → numbers_left rs ≡ map (λ (u : ℕ × Tree Identifier). u.0) ts
  passed_numbers [] notes s t rs h = ap numbers_left (sym (same_Some {A = List LeftOrKept} [] rs (ap (λ (q : Option (List LeftOrKept) × ScopedState). q.0) h)))
  passed_numbers (u ∷ ts) notes s t rs h =
      let q = gone u ts notes s in go (nat_lt max_total (nodes_in (counted known) fs q.1)) refl (λ v rest j. passed_numbers ts q.0.notes q.1 v rest j)
    where
      p : Pass Identifier FramedIdent × ScopedState
      p = gone u ts notes s

      l : LeftOrKept
      l = left u ts notes s

      go : (b : Bool) → nat_lt max_total (nodes_in (counted known) fs p.1) ≡ b → ((v : ScopedState) (rest : List LeftOrKept) → firsts_by way known fs (none_kept ts) p.0.notes p.1 ≡ (Some rest, v) → numbers_left rest ≡ map (λ (w : ℕ × Tree Identifier). w.0) ts) →
          numbers_left rs ≡ u.0 ∷ map (λ (v : ℕ × Tree Identifier). v.0) ts
      go true many again = absurd (none_isnt {X = List LeftOrKept} rs (ap (λ (q : Option (List LeftOrKept) × ScopedState). q.0) (sym (pass_over u ts notes s many) ∙ h)))
      go false few again = more (firsts_by way known fs (none_kept ts) p.0.notes p.1) refl
        where
          more : (q : Option (List LeftOrKept) × ScopedState) → firsts_by way known fs (none_kept ts) p.0.notes p.1 ≡ q → numbers_left rs ≡ u.0 ∷ map (λ (v : ℕ × Tree Identifier). v.0) ts
          more (None, v) j = absurd (none_isnt {X = List LeftOrKept} rs (ap (λ (q : Option (List LeftOrKept) × ScopedState). q.0) (sym (pass_on u ts notes s few ∙ ap (behind (l ∷ [])) j) ∙ h)))
          more (Some rest, v) j =
              let z : ◌≡◌ {A = Option (List LeftOrKept) × ScopedState} (Some (l ∷ rest), v) (Some rs, t) = sym (pass_on u ts notes s few ∙ ap (behind (l ∷ [])) j) ∙ h in
              let same : l ∷ rest ≡ rs = same_Some {A = List LeftOrKept} (l ∷ rest) rs (ap (λ (q : Option (List LeftOrKept) × ScopedState). q.0) z) in
              sym (ap numbers_left same) ∙ ap (λ (ns : List ℕ). u.0 ∷ ns) (again v rest j)

  -- ---- what a form set aside is expanded

  module _ (r : LeftOrKept) (rs : List LeftOrKept) (s : ScopedState) where
    abbrev then_finished : Option (Result Parts Broken) × ScopedState → Option (List Formed) × ScopedState
    then_finished w = w then λ parts t. seconds_by way known fs rs t then λ rest. going (record { form = r.form; result = parts; counted = (counted known).counted t } ∷ rest)

    pub finish_over : (t : ScopedState) → forgotten (expanding known fs r.form r.left s) ≡ (None, t) → seconds_by way known fs (r ∷ rs) s ≡ (None, t)
    finish_over t h = ap then_finished h

    pub finish_on : (parts : Result Parts Broken) (t : ScopedState) → forgotten (expanding known fs r.form r.left s) ≡ (Some parts, t) →
        seconds_by way known fs (r ∷ rs) s ≡ behind (record { form = r.form; result = parts; counted = (counted known).counted t } ∷ []) (seconds_by way known fs rs t)
    finish_on parts t h = ap then_finished h ∙ go (seconds_by way known fs rs t)
      where
        go : (q : Option (List Formed) × ScopedState) → (q then λ rest. going (record { form = r.form; result = parts; counted = (counted known).counted t } ∷ rest)) ≡ behind (record { form = r.form; result = parts; counted = (counted known).counted t } ∷ []) q
        go (None, u) = refl
        go (Some rest, u) = refl
