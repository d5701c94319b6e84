-- What is printed of lists one after another.
use Rattle.std.proofs.Common.{◌≡◌, ◌++◌, ◌||◌, ℕ, Bool, List, [], ◌∷◌, map, String, string_bytes, sym, ap, ◌∙◌, append_assoc}
use Rattle.std.proofs.lemmas.List.{append-nil}
use Rattle.std.proofs.Math.Bool.{or_assoc, or-false}
use Rattle.ls_base.specs.declared.answers.Diagnostic.{Diagnostic}
use Rattle.command_lines.specs.Diagnostics.{diagnostic_lines, has_error}
use Rattle.file_commands.specs.Checking.{Listed, printed}
use Rattle.file_commands.specs.declared.checking.Checked.{Checked}
use Rattle.file_commands.proofs.FileLaws.{shown}

module _ {Y : Type 0} (es t : List (String Y × List Diagnostic)) where
  -- the lines of a list are printed before those of the lists that are left
  pub lines_more : (e : String Y × List Diagnostic) (old new line all : List ℕ) → es ≡ e ∷ t → new ≡ old ++ line → line ≡ diagnostic_lines (string_bytes e.0) e.1 →
      old ++ (printed (map shown es)).lines ≡ all → new ++ (printed (map shown t)).lines ≡ all
  lines_more e old new line all are is line_is before =
      ap (λ (n : List ℕ). n ++ (printed (map shown t)).lines) (is ∙ ap (λ (l : List ℕ). old ++ l) line_is)
      ∙ append_assoc old (diagnostic_lines (string_bytes e.0) e.1) (printed (map shown t)).lines
      ∙ ap (λ (xs : List (String Y × List Diagnostic)). old ++ (printed (map shown xs)).lines) (sym are) ∙ before

  pub error_more : (e : String Y × List Diagnostic) (old found all : Bool) → es ≡ e ∷ t → found ≡ has_error e.1 →
      (old || (printed (map shown es)).has_error) ≡ all → ((old || found) || (printed (map shown t)).has_error) ≡ all
  error_more e old found all are is before =
      or_assoc old found (printed (map shown t)).has_error
      ∙ ap (λ (b : Bool). old || (b || (printed (map shown t)).has_error)) is
      ∙ ap (λ (xs : List (String Y × List Diagnostic)). old || (printed (map shown xs)).has_error) (sym are) ∙ before

-- no list is left
pub all_printed : {Y : Type 0} (es : List (String Y × List Diagnostic)) (all : List Listed) (text lines : List ℕ) (error : Bool) → es ≡ [] → lines ≡ text →
    text ++ (printed (map shown es)).lines ≡ (printed all).lines → (error || (printed (map shown es)).has_error) ≡ (printed all).has_error → ◌≡◌ {A = Checked} (record { lines = lines; has_error = error }) (printed all)
all_printed es all text lines error none is text_is error_is =
    let l : lines ≡ (printed all).lines = is ∙ sym (append-nil text) ∙ ap (λ xs. text ++ (printed (map shown xs)).lines) (sym none) ∙ text_is in
    let e : error ≡ (printed all).has_error = sym (or-false error) ∙ ap (λ xs. error || (printed (map shown xs)).has_error) (sym none) ∙ error_is in
    λ i. record { lines = l i; has_error = e i }
