-- Whether two lists of diagnostics are the same is decided.
use Rattle.std.proofs.Common.{◌≡◌, ◌≢◌, ◌⊎◌, inl, inr, List, [], ◌∷◌, ℕ, Bool, true, false, refl, ap}
use Rattle.std.specs.Str.{bytes_eq}
use Rattle.std.proofs.lemmas.Bool.Decides.{not_from_Decides}
use Rattle.std.proofs.lemmas.Slice.Eq.{bytes_eq-Decides}
use Rattle.ls_base.specs.declared.answers.Diagnostic.{Diagnostic}

pub same_bytes : (xs ys : List ℕ) → (xs ≡ ys) ⊎ (xs ≢ ys)
same_bytes xs ys = by (bytes_eq xs ys) refl
  where
    by : (b : Bool) → bytes_eq xs ys ≡ b → (xs ≡ ys) ⊎ (xs ≢ ys)
    by true is = inl ((bytes_eq-Decides xs ys).0 is)
    by false is = inr (not_from_Decides (bytes_eq xs ys) (bytes_eq-Decides xs ys) is)

-- a diagnostic as a row of numbers
numbers : Diagnostic → List ℕ
numbers d = d.range.start.line ∷ d.range.start.character ∷ d.range.end.line ∷ d.range.end.character ∷ d.code ∷ d.severity ∷ d.message

same_numbers : (d e : Diagnostic) → numbers d ≡ numbers e → d ≡ e
unfolding numbers
same_numbers d e h =
    let line : d.range.start.line ≡ e.range.start.line = cc in
    let character : d.range.start.character ≡ e.range.start.character = cc in
    let end_line : d.range.end.line ≡ e.range.end.line = cc in
    let end_character : d.range.end.character ≡ e.range.end.character = cc in
    let code : d.code ≡ e.code = cc in
    let severity : d.severity ≡ e.severity = cc in
    let message : d.message ≡ e.message = cc in
    λ j. record {
      range = record { start = record { line = line j; character = character j }; end = record { line = end_line j; character = end_character j } };
      code = code j;
      severity = severity j;
      message = message j;
    }

same_one : (d e : Diagnostic) → (d ≡ e) ⊎ (d ≢ e)
same_one d e = elim (same_bytes (numbers d) (numbers e)) as (λ _. (d ≡ e) ⊎ (d ≢ e)) [
  | inl same ↦ inl (same_numbers d e same)
  | inr other ↦ inr (λ same. other (ap numbers same))
]

pub same_diagnostics : (xs ys : List Diagnostic) → (xs ≡ ys) ⊎ (xs ≢ ys)
same_diagnostics [] [] = inl refl
same_diagnostics [] (y ∷ ys) = inr (λ same. cc)
same_diagnostics (x ∷ xs) [] = inr (λ same. cc)
same_diagnostics (x ∷ xs) (y ∷ ys) = elim (same_one x y) as (λ _. (x ∷ xs ≡ y ∷ ys) ⊎ (x ∷ xs ≢ y ∷ ys)) [
  | inl first ↦ elim (same_diagnostics xs ys) as (λ _. (x ∷ xs ≡ y ∷ ys) ⊎ (x ∷ xs ≢ y ∷ ys)) [
    | inl rest ↦ inl (λ j. first j ∷ rest j)
    | inr other ↦ inr (λ same. other (let rest : xs ≡ ys = cc in rest))
  ]
  | inr other ↦ inr (λ same. other (let first : x ≡ y = cc in first))
]
