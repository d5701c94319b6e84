-- Marks by number, one after another.
use Rattle.std.proofs.Common.{◌≡◌, ℕ, List, [], ◌∷◌, ◌++◌, Bool, true, false, cond, Option, Some, None, refl, sym, ap, ◌∙◌, arith}
use Rattle.std.proofs.lemmas.Bool.{eqb-true}
use Rattle.std.proofs.lemmas.Bool.Decides.{nat_tests}
use Rattle.std.specs.Prelude.{nat_eq, is_some, if◌then◌else◌}
use Rattle.std.specs.Ordering.{nat_cmp, is_eq}
use Rattle.core_forms.specs.declared.shape.QuasiMark.{QuasiMark}
use Rattle.core_forms.specs.declared.shape.CoreKeyword as code
use Rattle.core_forms.specs.Marks.{keyword_by_number}

-- a keyword, or else that of one more
abbrev pub or_one_more : Option code.CoreKeyword → QuasiMark → ℕ → Option code.CoreKeyword
or_one_more (Some d) v n = Some d
or_one_more None v n = if nat_eq n v.ident then Some v.keyword else None

pub mark_more : (vs : List QuasiMark) (v : QuasiMark) (n : ℕ) → keyword_by_number (vs ++ v ∷ []) n ≡ or_one_more (keyword_by_number vs n) v n
mark_more [] v n = refl
mark_more (u ∷ us) v n =
    elim (nat_eq n u.ident) as (λ b. (if b then Some u.keyword else keyword_by_number (us ++ v ∷ []) n) ≡ or_one_more (if b then Some u.keyword else keyword_by_number us n) v n) [
      | true ↦ refl
      | false ↦ mark_more us v n
    ]

-- numbers compare as equal where they are one
pub eq_cmp : (k n : ℕ) → is_eq (nat_cmp k n) ≡ nat_eq n k
eq_cmp k n = grind (arith, nat_tests)

pub none_is : {A : Type 0} (o : Option A) → is_some o ≡ false → o ≡ None
none_is None h = refl
none_is (Some a) h = absurd cc

pub some_is : {A : Type 0} (o : Option A) → is_some o ≡ true → (a : A) × (o ≡ Some a)
some_is None h = absurd cc
some_is (Some a) h = (a, refl)

-- a mark that wasn't there, with its keyword
pub mark_added : (vs : List QuasiMark) (v : QuasiMark) (n : ℕ) (before now : Option code.CoreKeyword) → before ≡ keyword_by_number vs n → keyword_by_number vs v.ident ≡ None → now ≡ cond (is_eq (nat_cmp v.ident n)) (Some v.keyword) before →
    now ≡ keyword_by_number (vs ++ v ∷ []) n
mark_added vs v n before now e new h =
    h ∙ ap (λ (b : Bool). cond b (Some v.keyword) before) (eq_cmp v.ident n) ∙ step (nat_eq n v.ident) refl ∙ ap (λ (o : Option code.CoreKeyword). or_one_more o v n) e ∙ sym (mark_more vs v n)
  where
    here : (o : Option code.CoreKeyword) → nat_eq n v.ident ≡ true → o ≡ None → Some v.keyword ≡ or_one_more o v n
    here o t g = sym (ap (λ (x : Option code.CoreKeyword). or_one_more x v n) g ∙ ap (λ (b : Bool). cond b (Some v.keyword) None) t)

    other : (o : Option code.CoreKeyword) → nat_eq n v.ident ≡ false → o ≡ or_one_more o v n
    other None t = sym (ap (λ (b : Bool). cond b (Some v.keyword) None) t)
    other (Some d) t = refl

    step : (b : Bool) → nat_eq n v.ident ≡ b → cond b (Some v.keyword) before ≡ or_one_more before v n
    step true t = here before t (e ∙ ap (keyword_by_number vs) (eqb-true n v.ident t) ∙ new)
    step false t = other before t

-- and one that was there
pub mark_kept : (vs : List QuasiMark) (v : QuasiMark) (n : ℕ) (d : code.CoreKeyword) → keyword_by_number vs v.ident ≡ Some d → keyword_by_number vs n ≡ keyword_by_number (vs ++ v ∷ []) n
mark_kept vs v n d there = step (keyword_by_number vs n) refl ∙ sym (mark_more vs v n)
  where
    none : (b : Bool) → nat_eq n v.ident ≡ b → keyword_by_number vs n ≡ None → None ≡ cond b (Some v.keyword) None
    none true t g = let same = ap (keyword_by_number vs) (eqb-true n v.ident t) in absurd cc
    none false t g = refl

    step : (o : Option code.CoreKeyword) → keyword_by_number vs n ≡ o → o ≡ or_one_more o v n
    step None g = none (nat_eq n v.ident) refl g
    step (Some x) g = refl
