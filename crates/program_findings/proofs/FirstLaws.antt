-- The first Error among findings, one after another.
use Rattle.std.proofs.Common.{◌≡◌, ℕ, Bool, true, false, cond, not, List, [], ◌∷◌, ◌++◌, append-nil, filter, Option, Some, None, Ordering, Less, Equal, Greater, is_lt, Bor, refl, sym, ap, ◌∙◌, subst}
use Rattle.std.specs.Ordering.{match_ordering, ordering_reverse}
use Rattle.scheme_model.specs.Diagnostics.{Diagnostic, sorted, is_before}
use Rattle.read_documents.specs.declared.findings.At.{At}
use Rattle.read_documents.specs.declared.findings.Finding.{Finding}
use Rattle.read_documents.specs.Findings.{diagnostic, told_at, all_told, is_error, error_place, first_of, first_error_in, IsFirst, stands_first}
use Rattle.read_documents.proofs.PutLaws.{over}
use Rattle.read_documents.proofs.SortedLaws.{cmp, cmp_total, before, filter_push, same_code}
use Rattle.read_documents.proofs.KeptLaws.{told_push}

abbrev First : Type 0
First = Option (At × Bor Finding)

abbrev pub errs : List Diagnostic → List Diagnostic
errs ds = filter (λ d. is_error d.code) (sorted ds)

errs_push : (ds : List Diagnostic) (d : Diagnostic) → errs (ds ++ d ∷ []) ≡ cond (is_error d.code) (over cmp d (errs ds)) (errs ds)
errs_push ds d = filter_push (λ x. is_error x.code) (λ a b e. ap is_error (same_code a b e)) ds d

abbrev pub errors_to : List Finding → List Diagnostic
errors_to fs = errs (all_told fs)

-- ---- a finding that is no Error, or has no place

skip_told : (ds : List Diagnostic) (at : Option At) (code : ℕ) (text : List ℕ) → (b : Bool) → is_error code ≡ b → cond b at None ≡ None → errs (ds ++ told_at at code text) ≡ errs ds
skip_told ds None code text b e n = ap errs (append-nil ds)
skip_told ds (Some at) code text true e n = absurd cc
skip_told ds (Some at) code text false e n = errs_push ds (diagnostic at code text) ∙ ap (λ b. cond b (over cmp (diagnostic at code text) (errs ds)) (errs ds)) e

pub skipped : (fs : List Finding) (f : Finding) (first : First) → None ≡ error_place f → IsFirst first (errors_to fs) → IsFirst first (errors_to (fs ++ f ∷ []))
skipped fs f first e h = subst (IsFirst first) (sym (ap errs (told_push fs f) ∙ skip_told (all_told fs) f.at f.code f.message (is_error f.code) refl (sym e))) h

-- ---- an Error with a place

is_one : (b : Bool) (at : Option At) (a : At) → Some a ≡ cond b at None → (b ≡ true) × (at ≡ Some a)
is_one true at a e = (refl, sym e)
is_one false at a e = absurd cc

error_told : (fs : List Finding) (f : Finding) (at : At) → Some at ≡ error_place f → errors_to (fs ++ f ∷ []) ≡ over cmp (diagnostic at f.code f.message) (errors_to fs)
error_told fs f at e =
    let one = is_one (is_error f.code) f.at at e in
    let d = diagnostic at f.code f.message in
    ap errs (told_push fs f ∙ ap (λ a. all_told fs ++ told_at a f.code f.message) one.1) ∙ errs_push (all_told fs) d ∙ ap (λ b. cond b (over cmp d (errs (all_told fs))) (errs (all_told fs))) one.0

-- one that stands first is the first now
took : (at : At) (b : Bor Finding) (first : First) (ds : List Diagnostic) → true ≡ stands_first (diagnostic at b.now.code b.now.message) first → IsFirst first ds →
    IsFirst (Some (at, b)) (over cmp (diagnostic at b.now.code b.now.message) ds)
took at b None [] e h = refl
took at b None (x ∷ ds) e h = absurd h
took at b (Some f) [] e h = absurd h
took at b (Some f) (x ∷ ds) e h = go (cmp d x) refl
  where
    d : Diagnostic
    d = diagnostic at b.now.code b.now.message

    go : (r : Ordering) → cmp d x ≡ r → IsFirst (Some (at, b)) (match_ordering r (d ∷ x ∷ ds) (d ∷ ds) (x ∷ over cmp d ds))
    go Less q = refl
    go Equal q = refl
    go Greater q =
        let behind : true ≡ is_before x d = sym (ap is_lt (cmp_total.antisymm x d ∙ ap ordering_reverse q)) ∙ before x d in
        let front : true ≡ not (is_before x d) = e ∙ ap (λ y. not (is_before y d)) h in
        absurd cc

-- and behind one that does it stays
stayed : (d : Diagnostic) (first : First) (ds : List Diagnostic) → false ≡ stands_first d first → IsFirst first ds → IsFirst first (over cmp d ds)
stayed d None ds e h = absurd cc
stayed d (Some f) [] e h = absurd h
stayed d (Some f) (x ∷ ds) e h = go (cmp d x) refl
  where
    behind : (b : Bool) → false ≡ not b → b ≡ true
    behind true k = refl
    behind false k = cc

    is : is_lt (ordering_reverse (cmp d x)) ≡ true
    is = ap is_lt (sym (cmp_total.antisymm x d)) ∙ before x d ∙ behind (is_before x d) (e ∙ ap (λ y. not (is_before y d)) h)

    go : (r : Ordering) → cmp d x ≡ r → IsFirst (Some f) (match_ordering r (d ∷ x ∷ ds) (d ∷ ds) (x ∷ over cmp d ds))
    go Less q = let k = ap (λ o. is_lt (ordering_reverse o)) (sym q) ∙ is in absurd cc
    go Equal q = let k = ap (λ o. is_lt (ordering_reverse o)) (sym q) ∙ is in absurd cc
    go Greater q = h

pub taken : (fs : List Finding) (b : Bor Finding) (at : At) (first : First) → Some at ≡ error_place b.now → true ≡ stands_first (diagnostic at b.now.code b.now.message) first → IsFirst first (errors_to fs) →
    IsFirst (Some (at, b)) (errors_to (fs ++ b.now ∷ []))
taken fs b at first e k h = subst (IsFirst (Some (at, b))) (sym (error_told fs b.now at e)) (took at b first (errors_to fs) k h)

pub left_so : (fs : List Finding) (f : Finding) (at : At) (first : First) → Some at ≡ error_place f → false ≡ stands_first (diagnostic at f.code f.message) first → IsFirst first (errors_to fs) → IsFirst first (errors_to (fs ++ f ∷ []))
left_so fs f at first e k h = subst (IsFirst first) (sym (error_told fs f at e)) (stayed (diagnostic at f.code f.message) first (errors_to fs) k h)

-- ---- a turn of the loop

module _ (xs ys : List Finding) (f : Finding) (more : xs ++ f ∷ [] ≡ ys) (first now : First) (is : IsFirst first (errors_to xs)) where
  pub turn_skips : None ≡ error_place f → now ≡ first → IsFirst now (errors_to ys)
  turn_skips e n = subst (λ zs. IsFirst now (errors_to zs)) more (subst (λ x. IsFirst x (errors_to (xs ++ f ∷ []))) (sym n) (skipped xs f first e is))

  pub turn_leaves : (at : At) → Some at ≡ error_place f → false ≡ stands_first (diagnostic at f.code f.message) first → now ≡ first → IsFirst now (errors_to ys)
  turn_leaves at e k n = subst (λ zs. IsFirst now (errors_to zs)) more (subst (λ x. IsFirst x (errors_to (xs ++ f ∷ []))) (sym n) (left_so xs f at first e k is))

  pub turn_takes : (b : Bor Finding) (at : At) → now ≡ Some (at, b) → b.now ≡ f → Some at ≡ error_place f → true ≡ stands_first (diagnostic at f.code f.message) first → IsFirst now (errors_to ys)
  turn_takes b at n same e k =
      subst (λ zs. IsFirst now (errors_to zs)) more
      (subst (λ x. IsFirst x (errors_to (xs ++ f ∷ []))) (sym n)
      (subst (λ (g : Finding). IsFirst (Some (at, b)) (errors_to (xs ++ g ∷ []))) same
      (taken xs b at first (e ∙ ap error_place (sym same)) (k ∙ ap (λ (g : Finding). stands_first (diagnostic at g.code g.message) first) (sym same)) is)))

-- ---- at the end

pub first_is : (at : At) (b : Bor Finding) (fs : List Finding) → IsFirst (Some (at, b)) (errors_to fs) → Some (at, b.now.code) ≡ first_error_in fs
first_is at b fs h = go (errors_to fs) h
  where
    go : (ds : List Diagnostic) → IsFirst (Some (at, b)) ds → Some (at, b.now.code) ≡ first_of ds
    go [] k = absurd k
    go (d ∷ ds) k = ap (λ (x : Diagnostic). first_of (x ∷ ds)) k

pub none_is : (fs : List Finding) → IsFirst None (errors_to fs) → None ≡ first_error_in fs
none_is fs h = go (errors_to fs) h
  where
    go : (ds : List Diagnostic) → IsFirst None ds → None ≡ first_of ds
    go [] k = refl
    go (d ∷ ds) k = absurd k
